-- The records of a table read line by line are those of its lines. Assumes nothing.
use Rattle.std.specs.Prelude.{Option, None, Some, Result, ⊤, Ok, Err}
use Prim.Native.Nat.{ℕ, ◌+◌, ◌≤◌, ◌<◌}
use mathlib.Core.List.{List, [], ◌∷◌, ◌++◌}
use mathlib.Core.Path.{◌≡◌, refl, sym, ap, ap₂, ◌∙◌}
use native.Mathlib.Omega.{arith}
use lib.ListN.{length, drop, drop_of_length-le}
use Rattle.laws.specs.Words.{last_of, padded}
use Rattle.laws.proofs.Lists.{last_snoc, get_d_padded}
use Rattle.laws.proofs.Lines.{first_line, after_line}
use Rattle.jobs.specs.declared.job.Job.{Job}
use Rattle.jobs.specs.declared.set.JobSet.{JobSet}
use Rattle.jobs.specs.declared.refusal.Refusal.{Refusal}
use Rattle.jobs.specs.declared.refusal.Refusal.TheVariants.{MalformedLine, NoRecord}
use Rattle.jobs.specs.Limits.{max_jobs}
use Rattle.jobs.specs.Refusals.{on_pass}
use Rattle.jobs.specs.Jobs.{no_job, jobs_of, set_of}
use Rattle.jobs.specs.Checks.{record_check}
use Rattle.jobs.proofs.Sets.{length_jobs, jobs_set, grown, set_grown}
use Rattle.jobs.proofs.Checks.{any_some}
use Rattle.jobs.proofs.Accepted.{record_fine}
use Rattle.table.specs.declared.line.Line.{Line}
use Rattle.table.specs.Lines.{lines_of, max_columns, row_of, line_of}
use Rattle.table.specs.Tables.{job_of, records_from}
use Rattle.table.proofs.NextLine.{FieldsOf, lines_here, line_forward, line_inside, line_behind, line_read, line_refused}

-- ---- one line
job-padded : (values : List ℕ) → job_of (padded max_columns 0 values) ≡ job_of values
job-padded values = simp (get_d_padded max_columns 0 values)

-- what follows a line that is seven fields; any other is refused
abbrev pub then_row : Option (List ℕ) → (Job → Result JobSet Refusal) → Result JobSet Refusal
then_row r rest = elim r [ None ↦ Err MalformedLine | Some values ↦ rest (job_of values) ]

-- ---- the lines so far are records of the set, and what follows them decides
pub record RecordsRead (rest : List ℕ) (s : JobSet) (last : Job) (at : ℕ) : Type 0 where
  pub inside : at ≤ length rest
  pub holds : s ≡ set_of (jobs_of s)
  pub before : last ≡ last_of no_job (jobs_of s)
  pub follows : records_from (jobs_of s) (lines_of (drop at rest)) ≡ records_from [] (lines_of rest)

pub records_none : (rest : List ℕ) (s : JobSet) (last : Job) → s ≡ set_of [] → last ≡ no_job → RecordsRead rest s last 0
records_none rest s last e f =
    let empty : jobs_of s ≡ [] = ap jobs_of e ∙ jobs_set [] in
    record {
      inside = omega arith;
      holds = rw empty e;
      before = rw empty (unfold last_of in f);
      follows = rw empty;
    }

module _ {rest : List ℕ} {s : JobSet} {last : Job} {at : ℕ} (r : RecordsRead rest s last at) where
  -- ---- no line is left
  at_end : length rest ≤ at → records_from (jobs_of s) [] ≡ records_from [] (lines_of rest)
  unfolding lines_of
  at_end h = ap (λ (t : List ℕ). records_from (jobs_of s) (lines_of t)) (sym (drop_of_length-le rest h)) ∙ r.follows

  pub records_empty : length rest ≤ at → s.count ≡ 0 → Err NoRecord ≡ records_from [] (lines_of rest)
  unfolding records_from
  records_empty h e = ap (λ (js : List Job). records_from js []) (sym (empty (jobs_of s) (length_jobs s ∙ e))) ∙ at_end h
    where
      empty : (js : List Job) → length js ≡ 0 → js ≡ []
      empty [] e = refl
      empty (j ∷ js) e = absurd (omega arith)

  pub records_end : length rest ≤ at → 0 < s.count → ◌≡◌ {A = Result JobSet Refusal} (Ok s) (records_from [] (lines_of rest))
  unfolding records_from
  records_end h e =
      let all : records_from (jobs_of s) [] ≡ Ok (set_of (jobs_of s)) = rw (any_some (jobs_of s) (omega (arith, length_jobs s))) in
      ap Ok r.holds ∙ sym all ∙ at_end h

  -- ---- the next line
  module _ {answer : Result Line Refusal} (here : at < length rest) (is-line : answer ≡ line_of max_columns (drop at rest)) where
    -- what follows the line, where it is the record of a job
    onward : Job → Result JobSet Refusal
    onward j =
        on_pass (record_check (length (jobs_of s)) (last_of no_job (jobs_of s)) j) Err (records_from (jobs_of s ++ (j ∷ [])) (lines_of (after_line (drop at rest))))

    from_here : then_row (row_of max_columns (first_line (drop at rest))) onward ≡ records_from [] (lines_of rest)
    unfolding records_from onward
    from_here = ap (records_from (jobs_of s)) (sym (lines_here rest at here)) ∙ r.follows

    pub records_malformed : (x : Refusal) → answer ≡ Err x → Err x ≡ records_from [] (lines_of rest)
    records_malformed x e =
        let no = line_refused max_columns (omega arith) (drop at rest) is-line x e in
        sym (ap Err no.1) ∙ sym (ap (λ (row : Option (List ℕ)). then_row row onward) no.0) ∙ from_here

    module _ {line : Line} (told : answer ≡ Ok line) where
      is_found : FieldsOf max_columns line (drop at rest)
      is_found = line_read max_columns (omega arith) (drop at rest) is-line line told

      from_job : onward (job_of line.values) ≡ records_from [] (lines_of rest)
      from_job =
          ap onward (ap job_of is_found.padding ∙ job-padded is_found.fields)
          ∙ sym (ap (λ (row : Option (List ℕ)). then_row row onward) is_found.row)
          ∙ from_here

      -- the check of the record decides how the reading goes on
      onward_by : (o : Result ⊤ Refusal) → record_check s.count last (job_of line.values) ≡ o
          → onward (job_of line.values) ≡ on_pass o Err (records_from (jobs_of s ++ (job_of line.values ∷ [])) (lines_of (after_line (drop at rest))))
      unfolding onward
      onward_by o e = rw (length_jobs s, ← r.before, e)

      pub records_refused : (x : Refusal) → record_check s.count last (job_of line.values) ≡ Err x → Err x ≡ records_from [] (lines_of rest)
      records_refused x e = sym (onward_by (Err x) e) ∙ from_job

      pub records_forward : 0 < line.length
      records_forward = rw is_found.taken (line_forward rest at here)

      pub records_within : at + line.length ≤ length rest
      records_within = omega (arith, is_found.taken, line_inside rest at here)

      pub records_next : record_check s.count last (job_of line.values) ≡ Ok tt → RecordsRead rest (grown s (job_of line.values)) (job_of line.values) (at + line.length)
      records_next e =
          let j = job_of line.values in
          let room : length (jobs_of s) < max_jobs = omega (arith, length_jobs s, (record_fine s.count last j e).room) in
          let g : grown s j ≡ set_of (jobs_of s ++ (j ∷ [])) = ap (λ (x : JobSet). grown x j) r.holds ∙ set_grown (jobs_of s) j room in
          let more : jobs_of (grown s j) ≡ jobs_of s ++ (j ∷ []) = ap jobs_of g ∙ jobs_set (jobs_of s ++ (j ∷ [])) in
          let after : drop (at + line.length) rest ≡ after_line (drop at rest) = ap (λ (n : ℕ). drop (at + n) rest) is_found.taken ∙ line_behind rest at here in
          record {
            inside = records_within;
            holds = g ∙ ap set_of (sym more);
            before = sym (ap (last_of no_job) more ∙ last_snoc (jobs_of s) no_job j);
            follows = ap₂ (λ (js : List Job) (t : List ℕ). records_from js (lines_of t)) more after ∙ sym (onward_by (Ok tt) e) ∙ from_job;
          }
