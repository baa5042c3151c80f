-- What delays jobs, in numbers: how many they are, one block and one job more, and counts above the places. Nothing here depends on how many
-- jobs or chains there can be. Assumes nothing.
--   Full                    each delay has a block for each chain, as owning an array of delays tells
--   BlocksPut, DelaysPut    the first of the blocks, or of the delays, stand in memory
use Prim.Native.Nat.{ℕ, zero, suc, ◌+◌, ◌*◌, ◌≤◌, ◌<◌, min}
use mathlib.Core.Path.{◌≡◌, refl, sym, ap, ap₂, ◌∙◌}
use mathlib.Core.List.{List, [], ◌∷◌, ◌++◌, append_assoc, append-nil}
use native.Mathlib.Omega.{arith}
use native.Mathlib.Nat.{suc-mul, zero-mul, mul-le-mul}
use native.Mathlib.Numerals.{add-one}
use mir.Val.{Val}
use denote.Array.{each}
use denote.Shadow.{shadow}
use lib.ListN.{length, get_or, take, length-append}
use lib.Seq.{take-suc, length-take-le}
use Rattle.laws.proofs.Lists.{take-clipped}
use Rattle.laws.specs.Words.{patched}
use Rattle.laws.proofs.Buffers.{wrote_first, wrote_more}
use Rattle.laws.proofs.Pieces.{Made, PiecesWritten, pieces_none, pieces_room}
use Rattle.jobs.specs.Limits.{max_jobs, max_chains}
use Rattle.completion.specs.declared.answer.Block.{Block}
use Rattle.completion.specs.declared.answer.Delay.{Delay}
use Rattle.completion.specs.Delays.{no_block}
use Rattle.completion.specs.contracts.answer.Delay.{the_row}
use Rattle.numbers.specs.Numbers.{block_numbers, delay_numbers, delays_numbers}

-- ---- blocks
blocks_append : (is js : List Block) → block_numbers (is ++ js) ≡ block_numbers is ++ block_numbers js
unfolding block_numbers
blocks_append [] js = refl
blocks_append (i ∷ is) js = ap (λ (l : List ℕ). i.first ∷ i.last ∷ l) (blocks_append is js)

length_blocks : (bs : List Block) → length (block_numbers bs) ≡ 2 * length bs
unfolding block_numbers
length_blocks [] = refl
length_blocks (b ∷ bs) = omega (arith, length_blocks bs)

blocks_made : (bs : List Block) (chains : ℕ) → chains ≤ length bs → Made (λ n. block_numbers (take n bs)) (λ n. block_numbers (get_or bs n no_block ∷ [])) chains
unfolding block_numbers
blocks_made bs chains h =
    record {
      none = refl;
      next = λ n l. rw (add-one, take-suc bs n no_block (omega arith)) (blocks_append (take n bs) (get_or bs n no_block ∷ []));
    }

-- the first c of the blocks of so many chains stand in memory from the place on
abbrev pub BlocksPut : List Block → ℕ → List ℕ → ℕ → List ℕ → ℕ → ℕ → Type 0
BlocksPut bs chains before at out next c = PiecesWritten (λ n. block_numbers (take n bs)) (λ n. block_numbers (get_or bs n no_block ∷ [])) chains before at out next c

pub blocks_none : (bs : List Block) (chains : ℕ) (before : List ℕ) (at : ℕ) → chains ≤ length bs → at + 2 * chains ≤ length before → BlocksPut bs chains before at before at 0
blocks_none bs chains before at h room =
    pieces_none (blocks_made bs chains h) before at (omega (arith, length_blocks (take chains bs), length-take-le chains bs h))

pub block_room : (bs : List Block) {chains : ℕ} {before : List ℕ} {at : ℕ} {out : List ℕ} {next c : ℕ} → BlocksPut bs chains before at out next c → c < chains → next + 2 ≤ length out
block_room bs {c = c} w l = omega (arith, pieces_room w l, length_blocks (get_or bs c no_block ∷ []))

-- ---- delays
-- what a read beyond an array of delays would give
abbrev pub bare : Delay
bare = record { from = 0; blocks = [] }

abbrev pub Full : List Delay → Type 0
Full [] = Unit {0}
Full (d ∷ ds) = (length d.blocks ≡ max_chains) × Full ds

-- what owning an array of delays tells
pub owned_full : (ds : List Delay) (vs : List Val) → shadow (each Delay the_row.own_val ds vs) → Full ds
owned_full [] vs s = tt
owned_full (d ∷ ds) [] s = absurd s
owned_full (d ∷ ds) (v ∷ vs) s = (s.0.1.1.1.0.1.0.1, owned_full ds vs s.1)

take_full : (n : ℕ) (ds : List Delay) → Full ds → Full (take n ds)
take_full zero ds h = tt
take_full (suc n) [] h = tt
take_full (suc n) (d ∷ ds) h = (h.0, take_full n ds h.1)

get_d_full : (ds : List Delay) (n : ℕ) → n < length ds → Full ds → length (get_or ds n bare).blocks ≡ max_chains
get_d_full [] n l h = absurd (omega arith)
get_d_full (d ∷ ds) zero l h = h.0
get_d_full (d ∷ ds) (suc n) l h = get_d_full ds n (omega arith) h.1

delays-append : (chains : ℕ) (ds es : List Delay) → delays_numbers chains (ds ++ es) ≡ delays_numbers chains ds ++ delays_numbers chains es
unfolding delays_numbers
delays-append chains [] es = refl
delays-append chains (d ∷ ds) es =
    ap (λ (l : List ℕ). delay_numbers chains d ++ l) (delays-append chains ds es)
    ∙ sym (append_assoc (delay_numbers chains d) (delays_numbers chains ds) (delays_numbers chains es))

length_delay : (chains : ℕ) (d : Delay) → chains ≤ length d.blocks → length (delay_numbers chains d) ≡ 2 * chains + 1
length_delay chains d h = omega (arith, length_blocks (take chains d.blocks), length-take-le chains d.blocks h)

pub length-delays : (chains : ℕ) (ds : List Delay) → chains ≤ max_chains → Full ds → length (delays_numbers chains ds) ≡ length ds * (2 * chains + 1)
unfolding delays_numbers
length-delays chains [] h full = sym (zero-mul (2 * chains + 1))
length-delays chains (d ∷ ds) h full =
    omega (
      arith,
      length-append (delay_numbers chains d) (delays_numbers chains ds),
      length_delay chains d (omega (arith, full.0)),
      length-delays chains ds h full.1,
      suc-mul (length ds) (2 * chains + 1),
    )

delays-made : (chains : ℕ) (ds : List Delay) (count : ℕ) → count ≤ length ds → Made (λ n. delays_numbers chains (take n ds)) (λ n. delay_numbers chains (get_or ds n bare)) count
unfolding delays_numbers
delays-made chains ds count h =
    record {
      none = refl;
      next = λ n l. let d = get_or ds n bare in
          rw (add-one, take-suc ds n bare (omega arith))
          (delays-append chains (take n ds) (d ∷ []) ∙ ap (λ (l : List ℕ). delays_numbers chains (take n ds) ++ l) (append-nil (delay_numbers chains d)));
    }

-- more chains than there are places for count as those for which there are
delays-clipped : (chains : ℕ) (ds : List Delay) → Full ds → delays_numbers (min chains max_chains) ds ≡ delays_numbers chains ds
unfolding delays_numbers
delays-clipped chains [] full = refl
delays-clipped chains (d ∷ ds) full =
    ap₂ (λ (bs : List Block) (l : List ℕ). (d.from ∷ block_numbers bs) ++ l) (take-clipped chains max_chains d.blocks full.0) (delays-clipped chains ds full.1)

-- the job from which the sum begins, then the blocks
pub delay_wrote : (chains : ℕ) (d : Delay) (before : List ℕ) (at : ℕ) {between after : List ℕ} {next end : ℕ} → at ≤ length before
    → (next ≡ at + 1) × (between ≡ patched before at (d.from ∷ []))
    → (end ≡ next + length (block_numbers (take chains d.blocks))) × (after ≡ patched between next (block_numbers (take chains d.blocks)))
    → (end ≡ at + length (delay_numbers chains d)) × (after ≡ patched before at (delay_numbers chains d))
delay_wrote chains d before at h v w =
    let all = wrote_more (block_numbers (take chains d.blocks)) (wrote_first (d.from ∷ []) h v) w in
    (all.place, all.list)

-- the first n of so many delays stand at the start of memory
abbrev pub DelaysPut : ℕ → List Delay → ℕ → List ℕ → List ℕ → ℕ → ℕ → Type 0
DelaysPut chains ds count before out next n = PiecesWritten (λ k. delays_numbers chains (take k ds)) (λ k. delay_numbers chains (get_or ds k bare)) count before 0 out next n

-- what limits the numbers of all
pub delays_fit : (chains count : ℕ) → count ≤ max_jobs → chains ≤ max_chains → count * (2 * chains + 1) ≤ max_jobs * (2 * max_chains + 1)
delays_fit chains count few h =
    let each : 2 * chains + 1 ≤ 2 * max_chains + 1 = omega arith in
    mul-le-mul few each

module _ (chains : ℕ) (ds : List Delay) (count : ℕ) (full : Full ds) (all : length ds ≡ max_jobs) where
  pub delays_none : (before : List ℕ) → (count ≤ max_jobs) × (chains ≤ max_chains) × (count * (2 * chains + 1) ≤ length before) → DelaysPut chains ds count before before 0 0
  delays_none before h =
      let size : length (take count ds) ≡ count = length-take-le count ds (omega (arith, all, h.0)) in
      let room : length (delays_numbers chains (take count ds)) ≡ count * (2 * chains + 1) =
      length-delays chains (take count ds) h.1 (take_full count ds full) ∙ ap (λ (k : ℕ). k * (2 * chains + 1)) size in
      pieces_none (delays-made chains ds count (omega (arith, all, h.0))) before 0 (omega (arith, room, h.2))

  pub delay_room : count ≤ max_jobs → chains ≤ max_chains → {before out : List ℕ} {next n : ℕ} → DelaysPut chains ds count before out next n → n < count → next + (2 * chains + 1) ≤ length out
  delay_room few h {n = n} w l =
      let d = get_or ds n bare in
      omega (arith, pieces_room w l, length_delay chains d (omega (arith, get_d_full ds n (omega (arith, all)) full)))

  -- counts above the places
  module _ {jobs blocks : ℕ} (e : jobs ≡ min count max_jobs) (f : blocks ≡ min chains max_chains) where
    pub same-delays : delays_numbers blocks (take jobs ds) ≡ delays_numbers chains (take count ds)
    same-delays =
        rw (e, f) (ap (delays_numbers (min chains max_chains)) (take-clipped count max_jobs ds all) ∙ delays-clipped chains (take count ds) (take_full count ds full))

    pub delays_size : length (delays_numbers chains (take count ds)) ≡ jobs * (2 * blocks + 1)
    delays_size =
        let size : length (take jobs ds) ≡ jobs = length-take-le jobs ds (omega (arith, all, e)) in
        ap length (sym same-delays)
        ∙ length-delays blocks (take jobs ds) (omega (arith, f)) (take_full jobs ds full)
        ∙ ap (λ (k : ℕ). k * (2 * blocks + 1)) size
