-- Tables that agree at their jobs' places have the same bounds and rounds: what a table holds beyond its jobs does not count. Each is the whole of
-- the other as a part.
--   Agree         equal at every place below the count
--   SameAnswers   the same ERT, CJA and ITR answers
--   first_of       the table of the first n jobs of an array
-- Assumes that the chains come in order.
use Prim.Native.Nat.{ℕ, zero, suc, ◌≤◌, ◌<◌}
use mathlib.Core.Path.{◌≡◌, refl, sym, ap, ◌∙◌}
use mathlib.Core.List.{List}
use native.Mathlib.Omega.{arith}
use lib.ListN.{length, take, length-take}
use lib.Seq.{ext_get_or, get_or-take}
use Rattle.laws.specs.Words.{number_at}
use Rattle.jobs.specs.declared.job.Job.{Job}
use Rattle.jobs.specs.Jobs.{job_at, urgency_of}
use Rattle.theory.specs.Table.{Table, latest_of, table_of}
use Rattle.theory.proofs.Given.{effective, given}
use Rattle.theory.specs.Bounds.{ert, cja, after, Answer, itr}
use Rattle.theory.specs.Claims.{Part, LessUrgent, Repeats, Settled}
use Rattle.theory.proofs.WellFormed.{Ordered}
use Rattle.theory.proofs.Rules.{always, length-cja, length-ert, length-after}
use Rattle.theory.proofs.Settling.{itr_settled, settled_unique}
use Rattle.theory.proofs.LeastUrgent.{after_same, part_unmoved}
use Rattle.theory.proofs.Releases.{effective_part}

pub record Agree (s t : Table) : Type 0 where
  pub count : s.count ≡ t.count
  pub chain : (i : ℕ) → i < s.count → s.chain i ≡ t.chain i
  pub urgency : (i : ℕ) → i < s.count → s.urgency i ≡ t.urgency i
  pub least : (i : ℕ) → i < s.count → s.least i ≡ t.least i
  pub most : (i : ℕ) → i < s.count → s.most i ≡ t.most i
  pub earliest : (i : ℕ) → i < s.count → s.earliest i ≡ t.earliest i
  pub latest : (i : ℕ) → i < s.count → s.latest i ≡ t.latest i

pub record SameAnswers (s t : Table) : Type 0 where
  pub by_ert : ert s ≡ ert t
  pub by_cja : cja s ≡ cja t
  pub by_itr : itr s ≡ itr t

repeats_carry : (s t : Table) → ((n : ℕ) → after s n ≡ after t n) → (n : ℕ) → Repeats s n → Repeats t n
repeats_carry s t same zero r = r
repeats_carry s t same (suc n) r = sym (same (suc n)) ∙ r ∙ same n

settled_carry : (s t : Table) → ((n : ℕ) → after s n ≡ after t n) → (answer : Answer) → Settled s answer → Settled t answer
settled_carry s t same answer h =
    record {
      made = h.made ∙ same answer.rounds;
      last = repeats_carry s t same answer.rounds h.last;
      first = λ n l r. h.first n l (repeats_carry t s (λ m. sym (same m)) n r);
    }

module _ {s t : Table} (a : Agree s t) (o : Ordered t) where
  agree_part : Part s t (λ i. i) (λ x. x)
  agree_part =
      record {
        inside = λ i l. omega (arith, a.count);
        rises = λ i l. omega arith;
        upwards = λ x. omega arith;
        chain = λ i l. sym (a.chain i l);
        urgency = λ i l. sym (a.urgency i l);
        least = λ i l. sym (a.least i l);
        most = λ i l. sym (a.most i l);
        earliest = λ i l. sym (a.earliest i l);
        latest = λ i l. sym (a.latest i l);
        whole = λ u x l e left. left u (omega (arith, a.count)) refl;
      }

  none_left : LessUrgent s t (λ i. i)
  none_left u i ul left il = absurd (left u (omega (arith, a.count)) refl)

  same_list : (x y : List ℕ) → length x ≡ s.count → length y ≡ t.count → ((i : ℕ) → i < s.count → number_at x i ≡ number_at y i) → x ≡ y
  same_list x y p q e = ext_get_or 0 x y (p ∙ a.count ∙ sym q) (λ i l. e i (omega (arith, p)))

  rounds_agree : (n : ℕ) → after s n ≡ after t n
  rounds_agree n = same_list (after s n) (after t n) (length-after s n) (length-after t n) (after_same agree_part o none_left n)

  pub agree_same : SameAnswers s t
  agree_same =
      let same = part_unmoved agree_part o none_left in
      record {
        by_ert = same_list (ert s) (ert t) (length-ert s) (length-ert t) same.by_ert;
        by_cja = unfold cja in same_list (cja s) (cja t) (length-cja s always) (length-cja t always) same.by_cja;
        by_itr = settled_unique t (itr s) (itr t) (settled_carry s t rounds_agree (itr s) (itr_settled s)) (itr_settled t);
      }

  pub agree_effective : Agree (effective s) (effective t)
  agree_effective =
      let both = effective_part agree_part o in
      record {
        count = a.count;
        chain = a.chain;
        urgency = a.urgency;
        least = a.least;
        most = a.most;
        earliest = λ i l. sym (both.earliest i l);
        latest = λ i l. sym (both.latest i l);
      }

-- ---- the first n jobs of an array, and the list of them
abbrev pub first_of : ℕ → List Job → Table
first_of n js =
    record {
      count = n;
      chain = (given js).chain;
      urgency = (given js).urgency;
      least = (given js).least;
      most = (given js).most;
      earliest = (given js).earliest;
      latest = (given js).latest;
    }

pub first_agree : (n : ℕ) (js : List Job) → n ≤ length js → Agree (first_of n js) (given (take n js))
first_agree n js l =
    let at : (i : ℕ) → i < n → job_at js i ≡ job_at (take n js) i = (λ i il. rw get_or-take) in
    record {
      count = omega (arith, length-take n js);
      chain = λ i il. ap (λ (j : Job). j.chain) (at i il);
      urgency = λ i il. ap urgency_of (at i il);
      least = λ i il. ap (λ (j : Job). j.least) (at i il);
      most = λ i il. ap (λ (j : Job). j.most) (at i il);
      earliest = λ i il. ap (λ (j : Job). j.release) (at i il);
      latest = λ i il. ap latest_of (at i il);
    }

pub first_same : (n : ℕ) (js : List Job) → n ≤ length js → Ordered (given (take n js)) → SameAnswers (effective (first_of n js)) (table_of (take n js))
first_same n js l o = agree_same (agree_effective (first_agree n js l) o) o
