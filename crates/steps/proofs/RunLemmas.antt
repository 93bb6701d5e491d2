-- Runs of several steps, and their rows.
use Rattle.std.proofs.Common.{◌≡◌, ℕ, List, [], ◌∷◌, ◌++◌, Option, Some, None, refl, sym, ap, ◌∙◌, subst, arith, append_assoc}
use Rattle.std.proofs.lemmas.List.{append-nil}
use Rattle.std.proofs.lemmas.List.Sums.{sum_by-append}
use Rattle.std.proofs.lemmas.List.Sorted.{IsPermutation-refl, IsPermutation-sym, IsPermutation-trans, IsPermutation-middle, IsPermutation-to_front}
use Rattle.std.proofs.lemmas.List.Sorted.{IsPermutation-append_left, sum_by-IsPermutation}
use Rattle.std.proofs.lemmas.Grind.{flat_map-append}
use Rattle.std.specs.Prelude.{IsPermutation}
use Rattle.script.specs.Items.{Numbered}
use Rattle.transcript.specs.declared.entry.Entry.{Entry}
use Rattle.steps.specs.Rows.{Row, items_of, entries_of, list_of, searches_of, failures_in, count_failures}
use Rattle.steps.specs.LegalRows.{Limits}
use Rattle.steps.specs.Steps.{RunState, IsStep, Runs, begins, goes_on, IsFirst}
use Rattle.steps.specs.StepRows.{AreNext, more, filled, both, with_its_entry, unanswered, AreRows}
use Rattle.steps.specs.Entries.{failures_of}
use Rattle.steps.proofs.RowLemmas.{items_of-append}
use Rattle.steps.proofs.FillLemmas.{after_open}
use Rattle.steps.proofs.StepLemmas.{first_rows, next_rows}

-- What holds at first, and still holds after each step, holds of a run.
pub runs_keep : (Holds : List ℕ → List ℕ → Type 0) (limits : Limits) (readers : ℕ) (from : RunState) (P : List Numbered → List Entry → RunState → Type 0)
    → P [] [] from
    → ((items : List Numbered) (entries : List Entry) (s : RunState) (taken : List Numbered) (written : List Entry) (s' : RunState)
    → P items entries s → IsStep Holds limits readers s taken written s' → P (items ++ taken) (entries ++ written) s')
    → {items : List Numbered} {entries : List Entry} {s : RunState} → Runs Holds limits readers from items entries s → P items entries s
runs_keep Holds limits readers from P first next begins = first
runs_keep Holds limits readers from P first next
    (goes_on {items = i} {taken = t} {entries = e} {entries' = e'} {written = w} {s = s} {s' = s'} run step is are) =
    subst (λ k. P k e' s') (sym is)
    (subst (λ k. P (i ++ t) k s') (sym are) (next i e s t w s' (runs_keep Holds limits readers from P first next run) step))

items_filled : (before : List Row) (row : Row) (after : List Row) (entry : Entry)
    → items_of (before ++ with_its_entry entry row ∷ after) ≡ items_of (before ++ row ∷ after)
items_filled before row after entry = items_of-append before (with_its_entry entry row ∷ after) ∙ sym (items_of-append before (row ∷ after))

pub next_items : (rows : List Row) (taken : List Numbered) (written : List Entry) (rows' : List Row) → AreNext rows taken written rows'
    → items_of rows' ≡ items_of rows ++ taken
next_items rows taken written rows' (more row own takes writes same) =
    ap items_of same ∙ items_of-append rows (row ∷ []) ∙ ap (λ t. items_of rows ++ t) (sym takes)
next_items rows taken written rows' (filled before row after entry whole none one of takes writes same) =
    ap items_of same ∙ items_filled before row after entry ∙ ap items_of (sym whole) ∙ sym (append-nil (items_of rows))
    ∙ ap (λ t. items_of rows ++ t) (sym takes)
next_items rows taken written rows' (both before row after entry next whole none one of takes writes quiet other same) =
    ap items_of same ∙ items_filled before row (after ++ next ∷ []) entry ∙ ap items_of (sym (append_assoc before (row ∷ after) (next ∷ [])))
    ∙ ap (λ r. items_of (r ++ next ∷ [])) (sym whole) ∙ items_of-append rows (next ∷ []) ∙ ap (λ t. items_of rows ++ t) (sym takes)

pub entries_of-append : (rows others : List Row) → entries_of (rows ++ others) ≡ entries_of rows ++ entries_of others
entries_of-append rows others = flat_map-append (λ r. list_of r.entry) rows others

-- the entry of one more row comes last
entries_more : (rows : List Row) (row : Row) (written : List Entry) (rows' : List Row) → written ≡ list_of row.entry → rows' ≡ rows ++ row ∷ []
    → entries_of rows' ≡ entries_of rows ++ written
entries_more rows row written rows' writes same =
    ap entries_of same ∙ entries_of-append rows (row ∷ []) ∙ ap (λ l. entries_of rows ++ l) (append-nil (list_of row.entry) ∙ sym writes)

-- one more row without an entry
entries_quiet : (rows : List Row) (row : Row) → row.entry ≡ None → entries_of (rows ++ row ∷ []) ≡ entries_of rows
entries_quiet rows row none = entries_more rows row [] (rows ++ row ∷ []) (sym (ap list_of none)) refl ∙ append-nil (entries_of rows)

-- a row has no entry
entries_without : (rows before : List Row) (row : Row) (after : List Row) → rows ≡ before ++ row ∷ after → row.entry ≡ None
    → entries_of rows ≡ entries_of before ++ entries_of after
entries_without rows before row after whole none =
    ap entries_of whole ∙ entries_of-append before (row ∷ after) ∙ ap (λ e. entries_of before ++ (list_of e ++ entries_of after)) none

-- A row without an entry gets one. others: the rows after it, with the same entries as before.
module _ (rows before : List Row) (row : Row) (after others : List Row) (entry : Entry) (written : List Entry) (whole : rows ≡ before ++ row ∷ after)
    (none : row.entry ≡ None) (same_others : entries_of others ≡ entries_of after) (writes : written ≡ entry ∷ []) where
  abbrev front : List Entry
  front = entries_of before

  abbrev back : List Entry
  back = entries_of after

  entries_new : entries_of (before ++ with_its_entry entry row ∷ others) ≡ front ++ entry ∷ back
  entries_new = entries_of-append before (with_its_entry entry row ∷ others) ∙ ap (λ l. front ++ entry ∷ l) same_others

  entries_filled : IsPermutation (entries_of (before ++ with_its_entry entry row ∷ others)) (entries_of rows ++ written)
  entries_filled =
      subst (λ l. IsPermutation l (entries_of rows ++ written)) (sym entries_new)
      (subst (λ l. IsPermutation (front ++ entry ∷ back) (l ++ written)) (sym (entries_without rows before row after whole none))
      (subst (λ l. IsPermutation (front ++ entry ∷ back) ((front ++ back) ++ l)) (sym writes)
      (IsPermutation-trans (front ++ entry ∷ back) (entry ∷ (front ++ back)) ((front ++ back) ++ entry ∷ [])
      (IsPermutation-middle front entry back)
      (IsPermutation-sym ((front ++ back) ++ entry ∷ []) (entry ∷ (front ++ back)) (IsPermutation-to_front (front ++ back) entry)))))

  entries_filled_last : back ≡ [] → entries_of (before ++ with_its_entry entry row ∷ others) ≡ entries_of rows ++ written
  entries_filled_last nothing =
      let old : entries_of rows ≡ front = entries_without rows before row after whole none ∙ ap (λ l. front ++ l) nothing ∙ append-nil front in
      entries_new ∙ ap (λ l. front ++ entry ∷ l) nothing ∙ ap (λ l. l ++ entry ∷ []) (sym old) ∙ ap (λ l. entries_of rows ++ l) (sym writes)

-- What is written becomes one of the rows' entries.
pub next_entries : (rows : List Row) (taken : List Numbered) (written : List Entry) (rows' : List Row) → AreNext rows taken written rows'
    → IsPermutation (entries_of rows') (entries_of rows ++ written)
next_entries rows taken written rows' (more row own takes writes same) =
    subst (λ l. IsPermutation (entries_of rows') l) (entries_more rows row written rows' writes same) (IsPermutation-refl (entries_of rows'))
next_entries rows taken written rows' (filled before row after entry whole none one of takes writes same) =
    subst (λ r. IsPermutation (entries_of r) (entries_of rows ++ written)) (sym same)
    (entries_filled rows before row after after entry written whole none refl writes)
next_entries rows taken written rows' (both before row after entry next whole none one of takes writes quiet other same) =
    subst (λ r. IsPermutation (entries_of r) (entries_of rows ++ written)) (sym same)
    (entries_filled rows before row after (after ++ next ∷ []) entry written whole none (entries_quiet after next quiet) writes)

no_entries : (rows : List Row) → unanswered rows ≡ [] → entries_of rows ≡ []
no_entries [] nothing = refl
no_entries (row ∷ rows) nothing = cc

-- Without readers, what is written becomes the last one of the rows' entries.
module _ (Holds : List ℕ → List ℕ → Type 0) (limits : Limits) (readers : ℕ) (s : RunState) (rows : List Row) (are : AreRows Holds limits readers s rows)
    (alone : readers ≡ 0) where
  nothing_after : (before : List Row) (row : Row) (after : List Row) → rows ≡ before ++ row ∷ after → row.entry ≡ None
      → searches_of row.numbered.item ≡ 1 → entries_of after ≡ []
  nothing_after before row after whole none one =
      no_entries after ((after_open Holds limits readers s rows are before row after whole none one).1 alone)

  next_in_order : (taken : List Numbered) (written : List Entry) (rows' : List Row) → AreNext rows taken written rows'
      → entries_of rows' ≡ entries_of rows ++ written
  next_in_order taken written rows' (more row own takes writes same) = entries_more rows row written rows' writes same
  next_in_order taken written rows' (filled before row after entry whole none one of takes writes same) =
      ap entries_of same
      ∙ entries_filled_last rows before row after after entry written whole none refl writes (nothing_after before row after whole none one)
  next_in_order taken written rows' (both before row after entry next whole none one of takes writes quiet other same) =
      ap entries_of same
      ∙ entries_filled_last rows before row after (after ++ next ∷ []) entry written whole none (entries_quiet after next quiet) writes
      (nothing_after before row after whole none one)

failures_one : (entry : Option Entry) → failures_of (list_of entry) ≡ failures_in entry
failures_one None = refl
failures_one (Some entry) = omega arith

failures_of_rows : (rows : List Row) → failures_of (entries_of rows) ≡ count_failures rows
unfolding count_failures
failures_of_rows [] = refl
failures_of_rows (row ∷ rows) =
    omega (
      arith,
      sum_by-append (λ entry. failures_in (Some entry)) (list_of row.entry) (entries_of rows),
      failures_one row.entry,
      failures_of_rows rows,
    )

-- The rows of a run.
pub record AreRowsOf (Holds : List ℕ → List ℕ → Type 0) (limits : Limits) (readers : ℕ) (items : List Numbered) (entries : List Entry) (s : RunState) : Type 0 where
  pub rows : List Row
  pub are : AreRows Holds limits readers s rows
  pub same_items : items_of rows ≡ items
  pub same_entries : IsPermutation (entries_of rows) entries
  pub in_order : readers ≡ 0 → entries_of rows ≡ entries

pub steps_have_rows : (Holds : List ℕ → List ℕ → Type 0) (limits : Limits) (readers : ℕ) (from : RunState) → IsFirst from
    → {items : List Numbered} {entries : List Entry} {s : RunState} → Runs Holds limits readers from items entries s
    → AreRowsOf Holds limits readers items entries s
steps_have_rows Holds limits readers from first =
    runs_keep Holds limits readers from (λ items entries s. AreRowsOf Holds limits readers items entries s)
    (record {
      rows = [];
      are = first_rows Holds limits readers from first;
      same_items = refl;
      same_entries = IsPermutation-refl [];
      in_order = λ alone. refl;
    })
    (λ items entries s taken written s' old step.
    let next = next_rows Holds limits readers s old.rows old.are taken written s' step in
    record {
      rows = next.0;
      are = next.2;
      same_items = next_items old.rows taken written next.0 next.1 ∙ ap (λ l. l ++ taken) old.same_items;
      same_entries =
          IsPermutation-trans (entries_of next.0) (entries_of old.rows ++ written) (entries ++ written)
          (next_entries old.rows taken written next.0 next.1)
          (IsPermutation-append_left written (entries_of old.rows) entries old.same_entries);
      in_order = λ alone.
          next_in_order Holds limits readers s old.rows old.are alone taken written next.0 next.1 ∙ ap (λ l. l ++ written) (old.in_order alone);
    })

-- The rows have as many failed loads as the entries.
pub same_failures : (rows : List Row) (entries : List Entry) → IsPermutation (entries_of rows) entries → count_failures rows ≡ failures_of entries
same_failures rows entries same =
    sym (failures_of_rows rows) ∙ sym (sum_by-IsPermutation (λ entry. failures_in (Some entry)) (entries_of rows) entries same)
