-- `chain_block` answers `blocks_on`. The loop's invariant: no job before place i is of the chain. Assumes nothing.
use Prim.Native.Nat.{ℕ, ◌<◌}
use Rattle.completion.proofs.Counting.{lent_by, counts}
use Rattle.completion.proofs.Naming.{named_none}
use Rattle.completion.specs.Delays.{no_block, block_named}
use Rattle.completion.specs.declared.answer.Block.{Block}
use Rattle.laws.specs.Words.{number_at}
use Rattle.theory.proofs.Columns.{figure}
use Rattle.theory.proofs.Endings.{EndsAt}
use Rattle.theory.proofs.Scans.{sought_next, sought_all}
use Rattle.theory.proofs.TakenBlock.{block_own, block_other}
use Rattle.theory.specs.Delays.{Block as TheoryBlock, no_block as theory_no_block, taken_block}
use mathlib.Core.Path.{◌≡◌, sym, ap, ◌∙◌}
use native.Mathlib.Omega.{arith}
use Rattle.completion.proofs.blocks.chain_block.Goals.{At-loop-i}
use Rattle.completion.proofs.blocks.chain_block.Goals as goal

-- the chain at the loop's head ends where its first place says
chain-ends : (l : At-loop-i) → let t = l.args.table.now in l.loop-i.i < t.count → EndsAt t.count (lent_by t).chain l.loop-i.i (figure t.columns 5 l.loop-i.i)
chain-ends l h = l.args.table.now.ended l.loop-i.i h (l.loop-i.invariant.first h)

-- none where no block is taken
unnamed : (number : ℕ → ℕ) (block : Block) (taken : TheoryBlock) → block ≡ no_block → taken ≡ theory_no_block → block ≡ block_named number taken
unnamed number block taken e nothing = e ∙ sym (ap (block_named number) nothing ∙ named_none number)

pub returns-then-chain-target : goal.returns-then-chain-target
returns-then-chain-target c =
    let a = c.args in
    unnamed (number_at a.numbers.now) c.none.result _ c.none.ensures
    (block_own (lent_by a.table.now) a.target.chain a.target.urgency (counts a.table.now a.bound.now a.target) a.chain c.if-chain-target.true)

pub taken_block-requires : goal.taken_block-requires
taken_block-requires c =
    let at_end = c.before.before in
    let h = at_end.loop-i-test.true in
    let l = at_end.before.before in
    rw at_end.end-end.ensures (h, l.loop-i.invariant.first h, chain-ends l h)

pub returns-then-chain : goal.returns-then-chain
returns-then-chain c =
    let at-chain = c.before.before in
    let l = at-chain.before.before.before in
    let a = c.args in
    let t = lent_by a.table.now in
    let counted = counts a.table.now a.bound.now a.target in
    let same : t.chain l.loop-i.i ≡ a.chain = sym at-chain.chain.ensures ∙ c.if-chain.true in
    c.taken_block.ensures
    ∙ ap (λ (x : ℕ). block_named (number_at a.numbers.now) (taken_block t x a.target.urgency counted)) same
    ∙ ap (block_named (number_at a.numbers.now)) (sym (block_other t a.target.chain a.target.urgency counted a.chain l.if-chain-target.false))

pub loop-i-preserved : goal.loop-i-preserved
loop-i-preserved c =
    let at_end = c.before.before in
    let h = at_end.loop-i-test.true in
    let l = at_end.before.before in
    let t = c.args.table.now in
    rw at_end.end-end.ensures
    (sought_next (lent_by t) c.args.chain t.fit.ordered (figure t.columns 5 l.loop-i.i) h (chain-ends l h) (λ q. c.if-chain.false (c.chain.ensures ∙ q)) l.loop-i.invariant)

pub returns : goal.returns
returns c =
    let a = c.args in
    let t = a.table.now in
    let counted = counts t a.bound.now a.target in
    unnamed (number_at a.numbers.now) c.none-2.result _ c.none-2.ensures
    (block_other (lent_by t) a.target.chain a.target.urgency counted a.chain c.if-chain-target.false
    ∙ sought_all (lent_by t) a.chain t.fit.ordered a.target.urgency counted (omega (arith, c.loop-i-test.false)) c.loop-i.invariant)
