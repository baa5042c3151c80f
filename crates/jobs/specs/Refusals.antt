-- The refusals and their numbers, and checks in sequence. Document 01, "Numbers of refusal, in checking order"; document 02, R-4 and R-5. Assumes nothing.
use Rattle.std.specs.Prelude.{ℕ, Bool, true, false, Result, Ok, Err, ⊤}
use Rattle.jobs.specs.declared.{refusal.Refusal.Refusal}

-- The number of a refusal.
abbrev pub number_of : Refusal → ℕ
number_of Refusal.TextTooLong = 1
number_of Refusal.NotHeader = 2
number_of Refusal.MalformedLine = 3
number_of Refusal.TooManyRecords = 4
number_of Refusal.OutOfOrder = 5
number_of Refusal.OutOfLimits = 6
number_of Refusal.NoRecord = 7
number_of Refusal.RunningTimes = 8
number_of Refusal.ShortBuffer = 9
number_of Refusal.UnknownAlgorithm = 10
number_of Refusal.ImpossibleState = 11
number_of Refusal.PriorityOutOfLimits = 12
number_of Refusal.LeastOrMostOutOfLimits = 13
number_of Refusal.LeastAboveMost = 14
number_of Refusal.MalformedRecording = 15
number_of Refusal.TooManyRows = 16

-- One check in a sequence: the refusal where the test fails, else what the checks after it come to.
abbrev pub unless : Bool → Refusal → Result ⊤ Refusal → Result ⊤ Refusal
unless true refusal later = later
unless false refusal later = Err refusal

-- The answer where a check passes, else what is made of its refusal.
abbrev pub on_pass : {A : Type 0} → Result ⊤ Refusal → (Refusal → A) → A → A
on_pass (Ok tt) otherwise answer = answer
on_pass (Err refusal) otherwise answer = otherwise refusal

-- What is made of an answer that is no refusal, else of the refusal.
abbrev pub on_ok : {A : Type 0} {B : Type 0} → Result A Refusal → (Refusal → B) → (A → B) → B
on_ok (Ok value) otherwise answer = answer value
on_ok (Err refusal) otherwise answer = otherwise refusal

-- Two checks in sequence: the first refusal decides.
abbrev pub and_then : Result ⊤ Refusal → Result ⊤ Refusal → Result ⊤ Refusal
and_then check later = on_pass check Err later
