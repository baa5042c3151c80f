-- The definitions give the known blocks, name by name and by computation. Assumes nothing.
--   settled_itr    ITR's delays by its bounds, worked out once for all jobs
--   known_blocks   the blocks of P1 are as the definitions have them
use Prim.Native.Nat.{ℕ}
use mathlib.Core.Path.{◌≡◌, refl, ap}
use mathlib.Core.List.{List, map}
use Rattle.laws.specs.Words.{sum_below, first_below, tabulate, greatest, every_below, same_up_to}
use Rattle.jobs.specs.Jobs.{urgency_of}
use Rattle.theory.specs.Table.{Table, joined, effective_release, table_of}
use Rattle.theory.specs.Bounds.{open_block, largest_block, interference, ert_rule, demand, lowest, pair_bound, largest_pair, cja_with, itr_start, overlap, round, settle, round_limit, itr}
use Rattle.theory.specs.Delays.{urgent_in, ends_block, start_of, ends_largest, block_to, taken_block, blocks_on, is_largest, first_pair, ert_delay, delay_at, cja_delay, itr_delay}
use Rattle.completion.specs.Delays.{block_named, delay_named, delays_named}
use Rattle.known_results.specs.Cases.{Known, jobs_in, p1}
use Rattle.known_results.specs.Blocks.{blocks_with, p1_ert, p1_cja, p1_itr, p1_blocks}

settled_itr : (t : Table) {bounds : List ℕ} → (itr t).bounds ≡ bounds → itr_delay t ≡ delay_at t (overlap t bounds)
unfolding itr_delay
settled_itr t e = ap (λ (b : List ℕ). delay_at t (overlap t b)) e

-- ITR's bounds of P1, as they are known
abbrev p1_bounds : List ℕ
p1_bounds = map (λ (j : Known). j.5) p1.0

p1-itr : (itr (table_of (jobs_in p1))).bounds ≡ p1_bounds
unfolding urgency_of tabulate sum_below greatest every_below same_up_to joined effective_release open_block largest_block interference ert_rule demand lowest pair_bound largest_pair cja_with itr_start overlap round settle round_limit itr
p1-itr = refl

ert_blocks : delays_named (jobs_in p1) (ert_delay (table_of (jobs_in p1))) ≡ p1_ert
unfolding urgency_of tabulate sum_below greatest first_below effective_release open_block largest_block urgent_in ends_block start_of ends_largest block_to taken_block blocks_on ert_delay block_named delay_named delays_named
ert_blocks = refl

cja_blocks : delays_named (jobs_in p1) (cja_delay (table_of (jobs_in p1))) ≡ p1_cja
unfolding urgency_of tabulate sum_below greatest first_below effective_release open_block largest_block interference demand lowest pair_bound largest_pair urgent_in ends_block start_of ends_largest block_to taken_block blocks_on is_largest first_pair delay_at cja_delay block_named delay_named delays_named
cja_blocks = refl

itr_blocks : delays_named (jobs_in p1) (delay_at (table_of (jobs_in p1)) (overlap (table_of (jobs_in p1)) p1_bounds)) ≡ p1_itr
unfolding urgency_of tabulate sum_below greatest first_below effective_release open_block largest_block interference demand lowest pair_bound largest_pair overlap urgent_in ends_block start_of ends_largest block_to taken_block blocks_on is_largest first_pair delay_at block_named delay_named delays_named
itr_blocks = refl

pub known_blocks : blocks_with p1_blocks ≡ p1_blocks
unfolding blocks_with
known_blocks = rw (settled_itr (table_of (jobs_in p1)) p1-itr, ert_blocks, cja_blocks, itr_blocks)
