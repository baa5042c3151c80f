-- Answers as C sees them. Document 01, "Programs and the C side". Assumes nothing.
use Rattle.std.specs.Prelude.{Result, Ok, Err, Bool, true, false, ℕ, ◌+◌, ◌*◌, ℤ, pos, neg_ℤ, ⊤}
use Rattle.jobs.specs.{declared.refusal.Refusal.Refusal, Refusals.number_of, Refusals.on_pass}
use Rattle.machine.specs.declared.{step.Ticked.Ticked, trace.Traced.Traced}

-- The number of the refusal, negated.
abbrev pub refusal_code : Refusal → ℤ
refusal_code refusal = neg_ℤ (pos (number_of refusal))

-- The number where a check passes, or that.
abbrev pub checked_code : Result ⊤ Refusal → ℕ → ℤ
checked_code check n = on_pass check refusal_code (pos n)

-- The bytes written, or that.
abbrev pub written_code : Result ℕ Refusal → ℤ
written_code (Ok n) = pos n
written_code (Err refusal) = refusal_code refusal

-- 1 for yes, 0 for no, or that.
abbrev pub verdict_code : Result Bool Refusal → ℤ
verdict_code (Ok true) = pos 1
verdict_code (Ok false) = pos 0
verdict_code (Err refusal) = refusal_code refusal

-- By how much the code of a job that ran grows from chain to chain.
abbrev pub chain_step : ℕ
chain_step = 65536

-- 0 for idle, 1 for finished, the chain times 65,536 and the job where one ran, or that.
abbrev pub ticked_code : Result Ticked Refusal → ℤ
ticked_code (Ok (Ticked.Ran chain job)) = pos (chain * chain_step + job)
ticked_code (Ok Ticked.Idle) = pos 0
ticked_code (Ok Ticked.Finished) = pos 1
ticked_code (Err refusal) = refusal_code refusal

-- How many entries a trace has, or that.
abbrev pub traced_code : Result Traced Refusal → ℤ
traced_code (Ok traced) = pos traced.entries
traced_code (Err refusal) = refusal_code refusal
