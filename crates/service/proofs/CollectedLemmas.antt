-- Rows that grow, and rows that get their entries.
use Rattle.std.proofs.Common.{◌≡◌, ℕ, zero, suc, ◌+◌, ◌-◌, ◌≤◌, List, [], ◌∷◌, ◌++◌, length, Option, Some, None, refl, sym, ap, ◌∙◌, arith}
use Rattle.std.proofs.Common.{append_assoc, length-append, get_or, set}
use Rattle.std.proofs.lemmas.List.{append-nil}
use Rattle.std.proofs.Math.Seq.{get_or-append_seam, set-append_seam}
use Rattle.script.specs.Items.{Item}
use Rattle.script.specs.Items as item
use Rattle.transcript.specs.declared.entry.Entry.{Entry}
use Rattle.transcript.specs.declared.entry.Entry.TheVariants.{SearchRefused}
use Rattle.transcript.specs.declared.entry.SearchReason.TheVariants.{OutOfMemory}
use Rattle.steps.specs.Rows.{Row, entries_of, list_of, searches_of, count_searches}
use Rattle.steps.specs.StepRows.{with_its_entry, IsOfSearch}
use Rattle.steps.specs.StepRows as rows_of
use Rattle.service.specs.Collected.{CollectedState, number_in, place_in, pushed, filled, slot_by, slot_of, slots_from, place_by, places_from, IsCollected}

pub slots-append : (count : ℕ) (rows more : List Row) → slots_from count (rows ++ more) ≡ slots_from count rows ++ slots_from (count + count_searches rows) more
unfolding count_searches
slots-append count [] more = ap (λ n. slots_from n more) (omega arith)
slots-append count (row ∷ rows) more =
    ap (λ l. slot_of count row ++ l)
    (slots-append (count + searches_of row.numbered.item) rows more
    ∙ ap (λ n. slots_from (count + searches_of row.numbered.item) rows ++ slots_from n more) (omega arith))
    ∙ sym (append_assoc (slot_of count row) (slots_from (count + searches_of row.numbered.item) rows) (slots_from (count + count_searches (row ∷ rows)) more))

pub places-append : (at count : ℕ) (rows more : List Row)
    → places_from at count (rows ++ more) ≡ places_from at count rows ++ places_from (at + length (slots_from count rows)) (count + count_searches rows) more
unfolding count_searches
places-append at count [] more =
    let same_at : at + length (slots_from count []) ≡ at = omega arith in
    let same_count : count + count_searches [] ≡ count = omega arith in
    sym (ap (λ n. places_from n (count + count_searches []) more) same_at ∙ ap (λ n. places_from at n more) same_count)
places-append at count (row ∷ rows) more =
    let at' = at + length (slot_of count row) in
    let count' = count + searches_of row.numbered.item in
    let further : at' + length (slots_from count' rows) ≡ at + length (slots_from count (row ∷ rows)) =
    omega (arith, length-append (slot_of count row) (slots_from count' rows)) in
    let later : count' + count_searches rows ≡ count + count_searches (row ∷ rows) = omega arith in
    ap (λ l. place_by at (searches_of row.numbered.item) ++ l)
    (places-append at' count' rows more
    ∙ (ap (λ n. places_from at' count' rows ++ places_from n (count' + count_searches rows) more) further
    ∙ ap (λ n. places_from at' count' rows ++ places_from (at + length (slots_from count (row ∷ rows))) n more) later))
    ∙ sym (append_assoc (place_by at (searches_of row.numbered.item)) (places_from at' count' rows)
    (places_from (at + length (slots_from count (row ∷ rows))) (count + count_searches (row ∷ rows)) more))

slots-from-first : (rows more : List Row) → slots_from 0 (rows ++ more) ≡ slots_from 0 rows ++ slots_from (count_searches rows) more
slots-from-first rows more =
    let same : 0 + count_searches rows ≡ count_searches rows = omega arith in
    slots-append 0 rows more ∙ ap (λ n. slots_from 0 rows ++ slots_from n more) same

places-from-first : (rows more : List Row)
    → places_from 0 0 (rows ++ more) ≡ places_from 0 0 rows ++ places_from (length (slots_from 0 rows)) (count_searches rows) more
places-from-first rows more =
    let same_at : 0 + length (slots_from 0 rows) ≡ length (slots_from 0 rows) = omega arith in
    let same_count : 0 + count_searches rows ≡ count_searches rows = omega arith in
    places-append 0 0 rows more
    ∙ (ap (λ n. places_from 0 0 rows ++ places_from n (0 + count_searches rows) more) same_at
    ∙ ap (λ n. places_from 0 0 rows ++ places_from (length (slots_from 0 rows)) n more) same_count)

-- one more row
pub collected_more : (rows : List Row) (row : Row) (c : CollectedState) (entry : Entry) → IsCollected rows c
    → slot_of (count_searches rows) row ≡ entry ∷ [] → ((at : ℕ) → place_in at entry ≡ place_by at (searches_of row.numbered.item))
    → IsCollected (rows ++ row ∷ []) (pushed entry c)
collected_more rows row c entry is slot place = record {
  entries =
      ap (λ l. l ++ entry ∷ []) is.entries
      ∙ (ap (λ l. slots_from 0 rows ++ l) (sym (append-nil (slot_of (count_searches rows) row) ∙ slot)) ∙ sym (slots-from-first rows (row ∷ [])));
  places =
      ap (λ l. l ++ place_in (length c.entries) entry) is.places
      ∙ (ap (λ n. places_from 0 0 rows ++ place_in n entry) (ap length is.entries)
      ∙ (ap (λ l. places_from 0 0 rows ++ l) (place (length (slots_from 0 rows)) ∙ sym (append-nil (place_by (length (slots_from 0 rows)) (searches_of row.numbered.item))))
      ∙ sym (places-from-first rows (row ∷ []))));
}

-- an item without an entry that is no search
pub collected_same : (rows : List Row) (row : Row) (c : CollectedState) → IsCollected rows c → row.entry ≡ None → searches_of row.numbered.item ≡ 0
    → IsCollected (rows ++ row ∷ []) c
collected_same rows row c is none no_search =
    let slot : slot_of (count_searches rows) row ≡ [] = ap (λ e. slot_by e (searches_of row.numbered.item) (count_searches rows + 1)) none ∙ ap (λ n. slot_by None n (count_searches rows + 1)) no_search in
    let place : place_by (length (slots_from 0 rows)) (searches_of row.numbered.item) ≡ [] = ap (place_by (length (slots_from 0 rows))) no_search in
    record {
      entries =
          is.entries
          ∙ (sym (append-nil (slots_from 0 rows)) ∙ (ap (λ l. slots_from 0 rows ++ l) (sym (append-nil (slot_of (count_searches rows) row) ∙ slot)) ∙ sym (slots-from-first rows (row ∷ []))));
      places =
          is.places
          ∙ (sym (append-nil (places_from 0 0 rows))
          ∙ (ap (λ l. places_from 0 0 rows ++ l) (sym (append-nil (place_by (length (slots_from 0 rows)) (searches_of row.numbered.item)) ∙ place))
          ∙ sym (places-from-first rows (row ∷ []))));
    }

one_search : (item : Item) → searches_of item ≤ 1
one_search (item.put name body) = omega arith
one_search (item.load name path) = omega arith
one_search (item.remove name) = omega arith
one_search (item.remove_under prefix) = omega arith
one_search (item.copy_under from to) = omega arith
one_search item.publish = omega arith
one_search (item.search case text) = omega arith
one_search (item.search_in case name_text text) = omega arith
one_search (item.find text) = omega arith
one_search item.sync = omega arith
one_search (item.cancel number) = omega arith
one_search item.status = omega arith
one_search item.bad_line = omega arith
one_search item.bad_put = omega arith
one_search item.truncated = omega arith
one_search item.body_not_closed = omega arith

one_place : (at n : ℕ) → n ≤ 1 → length (place_by at n) ≡ n
one_place at zero le = refl
one_place at (suc n) le = omega arith

-- each search has a place
places_length : (at count : ℕ) (rows : List Row) → length (places_from at count rows) ≡ count_searches rows
unfolding count_searches
places_length at count [] = refl
places_length at count (row ∷ rows) =
    omega (
      arith,
      length-append (place_by at (searches_of row.numbered.item)) (places_from (at + length (slot_of count row)) (count + searches_of row.numbered.item) rows),
      one_place at (searches_of row.numbered.item) (one_search row.numbered.item),
      places_length (at + length (slot_of count row)) (count + searches_of row.numbered.item) rows,
    )

number_of_search : (number : ℕ) (entry : Entry) → IsOfSearch number entry → number_in entry ≡ number
number_of_search number _ (rows_of.found reader turn answer) = refl
number_of_search number _ (rows_of.refused why) = refl

-- an open search has got its entry
module _ (before : List Row) (row : Row) (after : List Row) (entry : Entry) (none : row.entry ≡ None) (one : searches_of row.numbered.item ≡ 1)
    (its : IsOfSearch (count_searches before + 1) entry) where
  open_slot : slot_of (count_searches before) row ≡ SearchRefused (count_searches before + 1) OutOfMemory ∷ []
  open_slot =
      ap (λ e. slot_by e (searches_of row.numbered.item) (count_searches before + 1)) none ∙ ap (λ n. slot_by None n (count_searches before + 1)) one

  abbrev later : List Entry
  later = slots_from (count_searches before + searches_of row.numbered.item) after

  abbrev at : ℕ
  at = length (slots_from 0 before)

  old_entries : slots_from 0 (before ++ row ∷ after) ≡ slots_from 0 before ++ SearchRefused (count_searches before + 1) OutOfMemory ∷ later
  old_entries = slots-from-first before (row ∷ after) ∙ ap (λ l. slots_from 0 before ++ (l ++ later)) open_slot

  new_entries : slots_from 0 (before ++ with_its_entry entry row ∷ after) ≡ slots_from 0 before ++ entry ∷ later
  new_entries = slots-from-first before (with_its_entry entry row ∷ after)

  abbrev places_after : ℕ → List ℕ
  places_after n = places_from 0 0 before ++ (place_by at (searches_of row.numbered.item) ++ places_from (at + n) (count_searches before + searches_of row.numbered.item) after)

  same_places : places_from 0 0 (before ++ with_its_entry entry row ∷ after) ≡ places_from 0 0 (before ++ row ∷ after)
  same_places =
      places-from-first before (with_its_entry entry row ∷ after)
      ∙ (ap places_after (sym (ap length open_slot)) ∙ sym (places-from-first before (row ∷ after)))

  abbrev places_later : List ℕ
  places_later = places_from (at + length (slot_of (count_searches before) row)) (count_searches before + searches_of row.numbered.item) after

  its_place : (d : ℕ) → get_or (places_from 0 0 (before ++ row ∷ after)) (number_in entry - 1) d ≡ at
  its_place d =
      let n : number_in entry - 1 ≡ length (places_from 0 0 before) =
      omega (arith, number_of_search (count_searches before + 1) entry its, places_length 0 0 before) in
      ap (λ k. get_or (places_from 0 0 (before ++ row ∷ after)) k d) n
      ∙ (ap (λ l. get_or l (length (places_from 0 0 before)) d)
      (places-from-first before (row ∷ after) ∙ ap (λ k. places_from 0 0 before ++ (place_by at k ++ places_later)) one)
      ∙ get_or-append_seam (places_from 0 0 before) at places_later d)

  pub collected_filled : (c : CollectedState) → IsCollected (before ++ row ∷ after) c → IsCollected (before ++ with_its_entry entry row ∷ after) (filled entry c)
  collected_filled c is = record {
    entries =
        ap (λ l. set c.entries (get_or l (number_in entry - 1) (length c.entries)) entry) is.places
        ∙ (ap (λ k. set c.entries k entry) (its_place (length c.entries))
        ∙ (ap (λ l. set l at entry) (is.entries ∙ old_entries)
        ∙ (set-append_seam (slots_from 0 before) (SearchRefused (count_searches before + 1) OutOfMemory) later entry ∙ sym new_entries)));
    places = is.places ∙ sym same_places;
  }

-- each row without an entry is no search
abbrev pub AreAnswered : List Row → Type 0
AreAnswered [] = Unit {0}
AreAnswered (row ∷ rows) = (row.entry ≡ None → searches_of row.numbered.item ≡ 0) × AreAnswered rows

slot_at_end : (e : Option Entry) (n number : ℕ) → (e ≡ None → n ≡ 0) → slot_by e n number ≡ list_of e
slot_at_end None n number none = ap (λ k. slot_by None k number) (none refl)
slot_at_end (Some entry) n number none = refl

pub slots_at_end : (count : ℕ) (rows : List Row) → AreAnswered rows → slots_from count rows ≡ entries_of rows
slots_at_end count [] answered = refl
slots_at_end count (row ∷ rows) answered =
    ap (λ l. l ++ slots_from (count + searches_of row.numbered.item) rows) (slot_at_end row.entry (searches_of row.numbered.item) (count + 1) answered.0)
    ∙ ap (λ l. list_of row.entry ++ l) (slots_at_end (count + searches_of row.numbered.item) rows answered.1)
