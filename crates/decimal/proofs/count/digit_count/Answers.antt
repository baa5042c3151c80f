-- `decimal::count::digit_count` meets its contract: a case is a number below ten, or between two neighbouring powers of ten.
-- Assumes nothing.
use Rattle.decimal.proofs.Counts.{count_between}
use Rattle.decimal.proofs.Digits.{count_one}
use mathlib.Core.Path.{sym}
use native.Mathlib.Omega.{arith}
use Rattle.decimal.proofs.count.digit_count.Goals as goal

pub returns-then-value-lt10 : goal.returns-then-value-lt10
returns-then-value-lt10 c = sym (count_one _ (omega arith))

pub returns-then-value-lt100 : goal.returns-then-value-lt100
returns-then-value-lt100 c = count_between 1 (omega arith) (omega arith)

pub returns-then-value-lt1000 : goal.returns-then-value-lt1000
returns-then-value-lt1000 c = count_between 2 (omega arith) (omega arith)

pub returns-then-value-lt10000 : goal.returns-then-value-lt10000
returns-then-value-lt10000 c = count_between 3 (omega arith) (omega arith)

pub returns-then-value-lt100000 : goal.returns-then-value-lt100000
returns-then-value-lt100000 c = count_between 4 (omega arith) (omega arith)

pub returns-then-value-lt1000000 : goal.returns-then-value-lt1000000
returns-then-value-lt1000000 c = count_between 5 (omega arith) (omega arith)

pub returns-then-value-lt10000000 : goal.returns-then-value-lt10000000
returns-then-value-lt10000000 c = count_between 6 (omega arith) (omega arith)

pub returns-then-value-lt100000000 : goal.returns-then-value-lt100000000
returns-then-value-lt100000000 c = count_between 7 (omega arith) (omega arith)

pub returns-then-value-lt1000000000 : goal.returns-then-value-lt1000000000
returns-then-value-lt1000000000 c = count_between 8 (omega arith) (omega arith)

pub returns-then-value-lt10000000000 : goal.returns-then-value-lt10000000000
returns-then-value-lt10000000000 c = count_between 9 (omega arith) (omega arith)

pub returns-then-value-lt100000000000 : goal.returns-then-value-lt100000000000
returns-then-value-lt100000000000 c = count_between 10 (omega arith) (omega arith)

pub returns-then-value-lt1000000000000 : goal.returns-then-value-lt1000000000000
returns-then-value-lt1000000000000 c = count_between 11 (omega arith) (omega arith)

pub returns-then-value-lt10000000000000 : goal.returns-then-value-lt10000000000000
returns-then-value-lt10000000000000 c = count_between 12 (omega arith) (omega arith)

pub returns-then-value-lt100000000000000 : goal.returns-then-value-lt100000000000000
returns-then-value-lt100000000000000 c = count_between 13 (omega arith) (omega arith)

pub returns-then-value-lt1000000000000000 : goal.returns-then-value-lt1000000000000000
returns-then-value-lt1000000000000000 c = count_between 14 (omega arith) (omega arith)

pub returns-then-value-lt10000000000000000 : goal.returns-then-value-lt10000000000000000
returns-then-value-lt10000000000000000 c = count_between 15 (omega arith) (omega arith)

pub returns-then-value-lt100000000000000000 : goal.returns-then-value-lt100000000000000000
returns-then-value-lt100000000000000000 c = count_between 16 (omega arith) (omega arith)

pub returns-then-value-lt1000000000000000000 : goal.returns-then-value-lt1000000000000000000
returns-then-value-lt1000000000000000000 c = count_between 17 (omega arith) (omega arith)

pub returns-then-value-lt10000000000000000000 : goal.returns-then-value-lt10000000000000000000
returns-then-value-lt10000000000000000000 c = count_between 18 (omega arith) (omega arith)

pub returns : goal.returns
returns c = count_between 19 (omega arith) (omega arith)
