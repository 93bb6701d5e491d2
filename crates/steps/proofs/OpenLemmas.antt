-- The searches that have no entry yet, and their rows.
use Rattle.std.proofs.Common.{◌≡◌, ℕ, suc, zero, ◌+◌, ◌⊎◌, inl, inr, List, [], ◌∷◌, ◌++◌, take, drop, Option, Some, None, refl, sym, ap, ◌∙◌}
use Rattle.std.proofs.Common.{◌≤◌, length, length-append, arith, append_assoc, add-one}
use Rattle.std.specs.Prelude.{slice_get}
use Rattle.script.specs.Items.{Item, search, search_in, find}
use Rattle.transcript.specs.declared.entry.Entry.{Entry}
use Rattle.steps.specs.Rows.{Row, version_in, published_in, last_or, searches_of, count_searches}
use Rattle.steps.specs.Steps.{OpenSearch}
use Rattle.steps.specs.StepRows.{open_search, open_of, open_in}
use Rattle.steps.proofs.RowLemmas.{last_or-append, not_empty}

-- The row asks for an open search, or it does not.
pub open_cases : (count least : ℕ) (item : Item) (entry : Option Entry) → (open_of count least item entry ≡ [])
    ⊎ ((entry ≡ None) × (searches_of item ≡ 1) × (open_of count least item entry ≡ open_search (count + 1) item least ∷ []))
open_cases count least (search case text) None = inr (refl, refl, refl)
open_cases count least (search_in case name_text text) None = inr (refl, refl, refl)
open_cases count least (find text) None = inr (refl, refl, refl)
open_cases count least item entry = inl refl

pub open_one : (count least : ℕ) (item : Item) → searches_of item ≡ 1 → open_of count least item None ≡ open_search (count + 1) item least ∷ []
open_one count least (search case text) one = refl
open_one count least (search_in case name_text text) one = refl
open_one count least (find text) one = refl
open_one count least item one = absurd (omega (arith, one))

pub open_none : (count least : ℕ) (item : Item) (entry : Entry) → open_of count least item (Some entry) ≡ []
open_none count least (search case text) entry = refl
open_none count least item entry = refl

pub open_no_search : (count least : ℕ) (item : Item) (entry : Option Entry) → searches_of item ≡ 0 → open_of count least item entry ≡ []
open_no_search count least (search case text) entry none = absurd (omega (arith, none))
open_no_search count least (search_in case name_text text) entry none = absurd (omega (arith, none))
open_no_search count least (find text) entry none = absurd (omega (arith, none))
open_no_search count least item entry none = refl

pub open_in-append : (count least : ℕ) (rows more : List Row)
    → open_in count least (rows ++ more) ≡ open_in count least rows ++ open_in (count + count_searches rows) (last_or least (published_in rows)) more
unfolding count_searches published_in
open_in-append count least [] more = ap (λ n. open_in n least more) (let same : count ≡ count + 0 = omega arith in same)
open_in-append count least (row ∷ rows) more =
    let item = row.numbered.item in
    let count' = count + searches_of item in
    let least' = last_or least (version_in row.entry) in
    ap (λ l. open_of count least item row.entry ++ l)
    (open_in-append count' least' rows more
    ∙ ap (λ n. open_in count' least' rows ++ open_in n (last_or least' (published_in rows)) more)
    (let same : count' + count_searches rows ≡ count + (searches_of item + count_searches rows) = omega arith in same)
    ∙ ap (λ n. open_in count' least' rows ++ open_in (count + (searches_of item + count_searches rows)) n more)
    (sym (last_or-append least (version_in row.entry) (published_in rows))))
    ∙ sym (append_assoc (open_of count least item row.entry) (open_in count' least' rows)
    (open_in (count + (searches_of item + count_searches rows)) (last_or least (version_in row.entry ++ published_in rows)) more))

open_at_most : (count least : ℕ) (item : Item) (entry : Option Entry) → length (open_of count least item entry) ≤ searches_of item
open_at_most count least item entry = by (open_cases count least item entry)
  where
    by : (open_of count least item entry ≡ [])
        ⊎ ((entry ≡ None) × (searches_of item ≡ 1) × (open_of count least item entry ≡ open_search (count + 1) item least ∷ []))
        → length (open_of count least item entry) ≤ searches_of item
    by (inl none) = omega (arith, ap length none)
    by (inr is) = omega (arith, is.1, ap length is.2)

-- No more searches are open than were taken.
pub open_few : (count least : ℕ) (rows : List Row) → length (open_in count least rows) ≤ count_searches rows
unfolding count_searches
open_few count least [] = omega arith
open_few count least (row ∷ rows) =
    let item = row.numbered.item in
    let count' = count + searches_of item in
    let least' = last_or least (version_in row.entry) in
    omega (
      arith,
      length-append (open_of count least item row.entry) (open_in count' least' rows),
      open_at_most count least item row.entry,
      open_few count' least' rows,
    )

-- The row of an open search, with the open searches before and after it.
pub record IsOpenRow (count least : ℕ) (rows : List Row) (front : List OpenSearch) (wanted : OpenSearch) (back : List OpenSearch) : Type 0 where
  pub before : List Row
  pub row : Row
  pub after : List Row
  pub whole : rows ≡ before ++ row ∷ after
  pub none : row.entry ≡ None
  pub one : searches_of row.numbered.item ≡ 1
  pub is : wanted ≡ open_search ((count + count_searches before) + 1) row.numbered.item (last_or least (published_in before))
  pub earlier : open_in count least before ≡ front
  pub later : open_in ((count + count_searches before) + 1) (last_or least (published_in before)) after ≡ back

module _ (count least : ℕ) (row : Row) (rows : List Row) where
  -- the row is not that of the search
  open_later : (first front : List OpenSearch) (wanted : OpenSearch) (back : List OpenSearch)
      → open_of count least row.numbered.item row.entry ≡ first
      → IsOpenRow (count + searches_of row.numbered.item) (last_or least (version_in row.entry)) rows front wanted back
      → IsOpenRow count least (row ∷ rows) (first ++ front) wanted back
  unfolding count_searches published_in
  open_later first front wanted back e is =
      let item = row.numbered.item in
      let counted : (count + searches_of item) + count_searches is.before ≡ count + (searches_of item + count_searches is.before) = omega arith in
      let latest : last_or (last_or least (version_in row.entry)) (published_in is.before) ≡ last_or least (version_in row.entry ++ published_in is.before) =
      sym (last_or-append least (version_in row.entry) (published_in is.before)) in
      record {
        before = row ∷ is.before;
        row = is.row;
        after = is.after;
        whole = ap (λ l. row ∷ l) is.whole;
        none = is.none;
        one = is.one;
        is = is.is ∙ ap (λ n. open_search (n + 1) is.row.numbered.item (last_or (last_or least (version_in row.entry)) (published_in is.before))) counted
            ∙ ap (λ n. open_search ((count + (searches_of item + count_searches is.before)) + 1) is.row.numbered.item n) latest;
        earlier = ap (λ l. l ++ open_in (count + searches_of item) (last_or least (version_in row.entry)) is.before) e ∙ ap (λ l. first ++ l) is.earlier;
        later =
            ap (λ n. open_in ((count + (searches_of item + count_searches is.before)) + 1) n is.after) (sym latest)
            ∙ ap (λ n. open_in (n + 1) (last_or (last_or least (version_in row.entry)) (published_in is.before)) is.after) (sym counted)
            ∙ is.later;
      }

  -- the row is that of the search
  open_here : (wanted : OpenSearch) (back : List OpenSearch) → row.entry ≡ None → searches_of row.numbered.item ≡ 1
      → wanted ≡ open_search (count + 1) row.numbered.item least
      → open_in (count + searches_of row.numbered.item) (last_or least (version_in row.entry)) rows ≡ back
      → IsOpenRow count least (row ∷ rows) [] wanted back
  unfolding count_searches published_in
  open_here wanted back none one is later =
      let counted : count + 0 ≡ count = omega arith in
      record {
        before = [];
        row = row;
        after = rows;
        whole = refl;
        none = none;
        one = one;
        is = is ∙ ap (λ n. open_search (n + 1) row.numbered.item least) (sym counted);
        earlier = refl;
        later =
            ap (λ n. open_in n least rows) (let same : (count + 0) + 1 ≡ count + searches_of row.numbered.item = omega (arith, one) in same)
            ∙ ap (λ e. open_in (count + searches_of row.numbered.item) (last_or least (version_in e)) rows) (sym none) ∙ later;
      }

-- An open search has its row.
pub open_row : (count least : ℕ) (rows : List Row) (front : List OpenSearch) (wanted : OpenSearch) (back : List OpenSearch)
    → open_in count least rows ≡ front ++ wanted ∷ back → IsOpenRow count least rows front wanted back
open_row count least [] front wanted back e = absurd (not_empty front wanted back e)
open_row count least (row ∷ rows) front wanted back e =
    by (open_cases count least row.numbered.item row.entry) front e
    (λ others. open_row (count + searches_of row.numbered.item) (last_or least (version_in row.entry)) rows others wanted back)
  where
    rest : List OpenSearch
    rest = open_in (count + searches_of row.numbered.item) (last_or least (version_in row.entry)) rows

    by : (open_of count least row.numbered.item row.entry ≡ [])
        ⊎ ((row.entry ≡ None) × (searches_of row.numbered.item ≡ 1)
        × (open_of count least row.numbered.item row.entry ≡ open_search (count + 1) row.numbered.item least ∷ []))
        → (front : List OpenSearch) → open_of count least row.numbered.item row.entry ++ rest ≡ front ++ wanted ∷ back
        → ((others : List OpenSearch) → rest ≡ others ++ wanted ∷ back
        → IsOpenRow (count + searches_of row.numbered.item) (last_or least (version_in row.entry)) rows others wanted back)
        → IsOpenRow count least (row ∷ rows) front wanted back
    by (inl none) front e within =
        open_later count least row rows [] front wanted back none (within front (ap (λ l. l ++ rest) (sym none) ∙ e))
    by (inr is) [] e within =
        let both : open_search (count + 1) row.numbered.item least ∷ rest ≡ wanted ∷ back = ap (λ l. l ++ rest) (sym is.2) ∙ e in
        open_here count least row rows wanted back is.0 is.1 (cc) (cc)
    by (inr is) (x ∷ front) e within =
        let both : open_search (count + 1) row.numbered.item least ∷ rest ≡ x ∷ (front ++ wanted ∷ back) = ap (λ l. l ++ rest) (sym is.2) ∙ e in
        let head : open_search (count + 1) row.numbered.item least ≡ x = cc in
        let tail : rest ≡ front ++ wanted ∷ back = cc in
        open_later count least row rows (x ∷ []) front wanted back (is.2 ∙ ap (λ y. y ∷ []) head) (within front tail)

-- A list around an element.
pub around : {X : Type 0} (xs : List X) (place : ℕ) (x : X) → slice_get xs place ≡ Some x → xs ≡ take place xs ++ x ∷ drop (place + 1) xs
around {X} xs place x e = rw add-one (by xs place e)
  where
    by : (xs : List X) (place : ℕ) → slice_get xs place ≡ Some x → xs ≡ take place xs ++ x ∷ drop (suc place) xs
    by [] place e = cc
    by (y ∷ xs) zero e = cc
    by (y ∷ xs) (suc place) e = ap (λ l. y ∷ l) (by xs place e)

-- If no search is open, each search among the rows has its entry.
pub no_open : (rows before : List Row) (row : Row) (after : List Row) → open_in 0 0 rows ≡ [] → rows ≡ before ++ row ∷ after → row.entry ≡ None
    → searches_of row.numbered.item ≡ 1 → ⊥
no_open rows before row after empty whole none one =
    let count = 0 + count_searches before in
    let least = last_or 0 (published_in before) in
    let item = row.numbered.item in
    let rest = open_in (count + searches_of item) (last_or least (version_in row.entry)) after in
    not_empty (open_in 0 0 before) (open_search (count + 1) item least) rest
    (sym empty ∙ ap (open_in 0 0) whole ∙ open_in-append 0 0 before (row ∷ after)
    ∙ ap (λ e. open_in 0 0 before ++ (open_of count least item e ++ rest)) none
    ∙ ap (λ l. open_in 0 0 before ++ (l ++ rest)) (open_one count least item one))
