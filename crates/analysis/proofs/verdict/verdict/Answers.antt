-- `verdict` answers `verdict_of`, by the bounds that are asked for. Assumes nothing.
use Rattle.analysis.proofs.Algorithms.{bounds_few}
use Rattle.analysis.proofs.Meeting.{meets_pairs, verdict_on, verdict_is}
use Rattle.std.specs.Prelude.{◌≤◌, Ok, Bool, length}
use borrow.Author.Rules.{rules}
use mathlib.Core.Path.{sym, ap, ◌∙◌}
use Rattle.analysis.proofs.verdict.verdict.Goals as goal

pub returns-in_err-bounds : goal.returns-in_err-bounds
returns-in_err-bounds c =
    let s = c.args.set in
    let refused = ap (verdict_on s) (sym c.in_err-bounds.was ∙ c.bounds_alone.ensures) ∙ verdict_is s c.args.algorithm in
    rw (sym refused) (search rules)

pub shared_ref_as_front-jobs : goal.shared_ref_as_front-jobs
shared_ref_as_front-jobs c = let few = bounds_few c.args.set c.args.algorithm _ (sym c.in_ok-bounds.was ∙ c.bounds_alone.ensures) in search rules

pub returns : goal.returns
returns c =
    let s = c.args.set in
    let told = sym c.in_ok-bounds.was ∙ c.bounds_alone.ensures in
    let few = bounds_few s c.args.algorithm _ told in
    let jobs : s.count ≤ length s.jobs = search rules in
    let enough : s.count ≤ length c.in_ok-bounds.bounds = search rules in
    ap (λ (met : Bool). Ok met) (c.meets_all.ensures ∙ meets_pairs s c.in_ok-bounds.bounds jobs enough) ∙ ap (verdict_on s) told ∙ verdict_is s c.args.algorithm
