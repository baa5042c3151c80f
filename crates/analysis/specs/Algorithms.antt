-- The algorithms for bounds, and the number of each. Document 01, refusal 10. Assumes nothing.
use Rattle.std.specs.Prelude.{ℕ, ◌≡◌, ◌≢◌, Result, MatchResult}
use Rattle.jobs.specs.declared.{refusal.Refusal.Refusal}
use Rattle.analysis.specs.declared.{algorithm.Algorithm.Algorithm}

-- The number of an algorithm.
abbrev pub number_of : Algorithm → ℕ
number_of Algorithm.Ert = 1
number_of Algorithm.Cja = 2
number_of Algorithm.Itr = 3

-- A number chooses the algorithm that has it, and where none has it that is refusal 10.
abbrev pub Chooses : ℕ → Result Algorithm Refusal → Type 0
Chooses number answer =
    MatchResult answer (λ algorithm. number_of algorithm ≡ number)
    (λ refusal. (refusal ≡ Refusal.UnknownAlgorithm) × ((algorithm : Algorithm) → number_of algorithm ≢ number))
