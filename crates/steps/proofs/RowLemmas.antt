-- Rows one after the other, and what they add up to.
use Rattle.std.proofs.Common.{◌≡◌, ℕ, ◌+◌, ◌≤◌, ◌⊎◌, inl, inr, Bool, true, false, cond, List, [], ◌∷◌, ◌++◌, Option, Some, None, refl, sym, ap, ◌∙◌}
use Rattle.std.proofs.Common.{arith, append_assoc, option_map, map, unwrap_or, subst}
use Rattle.std.proofs.lemmas.List.{append-nil, map-append}
use Rattle.std.proofs.lemmas.Grind.{flat_map-append}
use Rattle.std.proofs.lemmas.List.Elements.{All-contains, All-from_recursion, Contains-append_left, Contains-push}
use Rattle.std.specs.List.{AllByRecursion}
use Rattle.std.specs.Prelude.{Contains}
use Rattle.documents.specs.declared.command.Command.{Command}
use Rattle.script.specs.Items.{Item, cancel}
use Rattle.transcript.specs.declared.entry.Entry.{Entry}
use Rattle.transcript.specs.declared.entry.Entry.TheVariants.{Found}
use Rattle.steps.specs.Rows.{Row, items_of, commands_of, accepted_by, command_of, version_in, published_in, last_or}
use Rattle.steps.specs.Rows.{is_sync, before_sync, searches_of, count_searches}
use Rattle.steps.specs.LegalRows.{HasCancel, until_sync}
use Rattle.steps.specs.StepRows.{unless_of_search, unanswered_row, unanswered, given_in, given_of, Rises, HasNoSync}

pub two_lists : {X : Type 0} {a a' b b' : List X} → a ≡ a' → b ≡ b' → a ++ b ≡ a' ++ b'
two_lists {a' = a'} {b = b} e f = ap (λ l. l ++ b) e ∙ ap (λ l. a' ++ l) f

-- Of rows that follow one another.

pub items_of-append : (rows more : List Row) → items_of (rows ++ more) ≡ items_of rows ++ items_of more
items_of-append rows more = map-append (λ r. r.numbered) rows more

pub unanswered-append : (rows more : List Row) → unanswered (rows ++ more) ≡ unanswered rows ++ unanswered more
unanswered-append rows more = map-append unanswered_row rows more

pub given_of-append : (rows more : List Row) → given_of (rows ++ more) ≡ given_of rows ++ given_of more
given_of-append rows more = flat_map-append (λ row. given_in row.entry) rows more

pub commands_of-append : (rows more : List Row) → commands_of (rows ++ more) ≡ commands_of rows ++ commands_of more
unfolding commands_of
commands_of-append [] more = refl
commands_of-append (row ∷ rows) more =
    ap (λ c. accepted_by row.entry (command_of row.numbered.item row.loaded) ++ c) (commands_of-append rows more)
    ∙ sym (append_assoc (accepted_by row.entry (command_of row.numbered.item row.loaded)) (commands_of rows) (commands_of more))

pub commands_of-push : (rows : List Row) (row : Row)
    → commands_of (rows ++ row ∷ []) ≡ commands_of rows ++ accepted_by row.entry (command_of row.numbered.item row.loaded)
unfolding commands_of
commands_of-push rows row =
    commands_of-append rows (row ∷ [])
    ∙ ap (λ c. commands_of rows ++ c) (append-nil (accepted_by row.entry (command_of row.numbered.item row.loaded)))

pub published_in-append : (rows more : List Row) → published_in (rows ++ more) ≡ published_in rows ++ published_in more
unfolding published_in
published_in-append [] more = refl
published_in-append (row ∷ rows) more =
    ap (λ c. version_in row.entry ++ c) (published_in-append rows more)
    ∙ sym (append_assoc (version_in row.entry) (published_in rows) (published_in more))

pub published_in-push : (rows : List Row) (row : Row) → published_in (rows ++ row ∷ []) ≡ published_in rows ++ version_in row.entry
unfolding published_in
published_in-push rows row = published_in-append rows (row ∷ []) ∙ ap (λ c. published_in rows ++ c) (append-nil (version_in row.entry))

pub published_in-none : published_in [] ≡ []
unfolding published_in
published_in-none = refl

pub published_in-quiet : (row : Row) (rows : List Row) → row.entry ≡ None → published_in rows ≡ [] → published_in (row ∷ rows) ≡ []
unfolding published_in
published_in-quiet row rows none quiet = ap (λ e. version_in e ++ published_in rows) none ∙ quiet

pub count_searches-append : (rows more : List Row) → count_searches (rows ++ more) ≡ count_searches rows + count_searches more
unfolding count_searches
count_searches-append [] more = omega arith
count_searches-append (row ∷ rows) more = omega (arith, count_searches-append rows more)

pub count_searches-push : (rows : List Row) (row : Row) → count_searches (rows ++ row ∷ []) ≡ count_searches rows + searches_of row.numbered.item
unfolding count_searches
count_searches-push rows row = omega (arith, count_searches-append rows (row ∷ []))

-- Of the entries of searches nothing depends but the answers.

pub commands_unanswered : (rows : List Row) → commands_of (unanswered rows) ≡ commands_of rows
unfolding commands_of
commands_unanswered [] = refl
commands_unanswered (row ∷ rows) = two_lists (same row.entry (command_of row.numbered.item row.loaded)) (commands_unanswered rows)
  where
    same : (entry : Option Entry) (commands : List Command) → accepted_by (unless_of_search entry) commands ≡ accepted_by entry commands
    same (Some (Found number reader turn answer)) commands = refl
    same entry commands = refl

pub published_unanswered : (rows : List Row) → published_in (unanswered rows) ≡ published_in rows
unfolding published_in
published_unanswered [] = refl
published_unanswered (row ∷ rows) = two_lists (same row.entry) (published_unanswered rows)
  where
    same : (entry : Option Entry) → version_in (unless_of_search entry) ≡ version_in entry
    same (Some (Found number reader turn answer)) = refl
    same entry = refl

pub searches_unanswered : (rows : List Row) → count_searches (unanswered rows) ≡ count_searches rows
unfolding count_searches
searches_unanswered [] = refl
searches_unanswered (row ∷ rows) = ap (λ n. searches_of row.numbered.item + n) (searches_unanswered rows)

module _ (rows rows' : List Row) (same : unanswered rows ≡ unanswered rows') where
  pub same_commands : commands_of rows ≡ commands_of rows'
  same_commands = sym (commands_unanswered rows) ∙ ap commands_of same ∙ commands_unanswered rows'

  pub same_published : published_in rows ≡ published_in rows'
  same_published = sym (published_unanswered rows) ∙ ap published_in same ∙ published_unanswered rows'

  pub same_searches : count_searches rows ≡ count_searches rows'
  same_searches = sym (searches_unanswered rows) ∙ ap count_searches same ∙ searches_unanswered rows'

module _ (rows rows' more : List Row) (later : unanswered rows' ≡ unanswered rows ++ more) where
  pub later_commands : commands_of rows' ≡ commands_of rows ++ commands_of more
  later_commands =
      sym (commands_unanswered rows') ∙ ap commands_of later ∙ commands_of-append (unanswered rows) more
      ∙ ap (λ c. c ++ commands_of more) (commands_unanswered rows)

  pub later_published : published_in rows' ≡ published_in rows ++ published_in more
  later_published =
      sym (published_unanswered rows') ∙ ap published_in later ∙ published_in-append (unanswered rows) more
      ∙ ap (λ c. c ++ published_in more) (published_unanswered rows)

-- Where two elements of a list are, of which one follows `before`, and the other `front`.
pub data IsPlace {X : Type 0} (before : List X) (mid : X) (after front : List X) (x : X) (back : List X) : Type 0 where
  here : before ≡ front → mid ≡ x → after ≡ back → IsPlace before mid after front x back
  earlier : (between : List X) → before ≡ front ++ x ∷ between → back ≡ between ++ mid ∷ after → IsPlace before mid after front x back
  later : (between : List X) → front ≡ before ++ mid ∷ between → after ≡ between ++ x ∷ back → IsPlace before mid after front x back

pub place_of : {X : Type 0} (before : List X) (mid : X) (after front : List X) (x : X) (back : List X)
    → before ++ mid ∷ after ≡ front ++ x ∷ back → IsPlace before mid after front x back
place_of [] mid after [] x back e = here refl (cc) (cc)
place_of [] mid after (y ∷ front) x back e = later front (let head : mid ≡ y = cc in cc) (cc)
place_of (y ∷ before) mid after [] x back e = earlier before (let head : y ≡ x = cc in cc) (cc)
place_of (y ∷ before) mid after (z ∷ front) x back e = under (place_of before mid after front x back (cc))
  where
    head : y ≡ z
    head = cc

    under : IsPlace before mid after front x back → IsPlace (y ∷ before) mid after (z ∷ front) x back
    under (here b m a) = here (cc) m a
    under (earlier between b a) = earlier between (cc) a
    under (later between b a) = later between (cc) a

pub not_empty : {X : Type 0} (before : List X) (x : X) (after : List X) → [] ≡ before ++ x ∷ after → ⊥
not_empty [] x after e = cc
not_empty (b ∷ before) x after e = cc

-- An element of a list with this end is the last one, or it is among the others.
pub split_push : {X : Type 0} (xs before after : List X) (last x : X) → xs ++ last ∷ [] ≡ before ++ x ∷ after
    → ((xs ≡ before) × (last ≡ x) × (after ≡ [])) ⊎ ((others : List X) × (xs ≡ before ++ x ∷ others) × (after ≡ others ++ last ∷ []))
split_push {X} xs before after last x e = by_place (place_of xs last [] before x after e)
  where
    by_place : IsPlace xs last [] before x after
        → ((xs ≡ before) × (last ≡ x) × (after ≡ [])) ⊎ ((others : List X) × (xs ≡ before ++ x ∷ others) × (after ≡ others ++ last ∷ []))
    by_place (here b m a) = inl (b, m, sym a)
    by_place (earlier between b a) = inr (between, b, a)
    by_place (later between b a) = absurd (not_empty between x after a)

-- Numbers that never fall.

pub last_or-append : (default : ℕ) (xs ys : List ℕ) → last_or default (xs ++ ys) ≡ last_or (last_or default xs) ys
last_or-append default [] ys = refl
last_or-append default (x ∷ xs) ys = last_or-append x xs ys

pub rises_append : (from : ℕ) (xs ys : List ℕ) → Rises from xs → Rises (last_or from xs) ys → Rises from (xs ++ ys)
rises_append from [] ys h more = more
rises_append from (x ∷ xs) ys h more = (h.0, rises_append x xs ys h.1 more)

pub rises_rest : (from : ℕ) (xs ys : List ℕ) → Rises from (xs ++ ys) → Rises (last_or from xs) ys
rises_rest from [] ys h = h
rises_rest from (x ∷ xs) ys h = rises_rest x xs ys h.1

pub rises_front : (from : ℕ) (xs ys : List ℕ) → Rises from (xs ++ ys) → Rises from xs
rises_front from [] ys h = tt
rises_front from (x ∷ xs) ys h = (h.0, rises_front x xs ys h.1)

pub rises_last : (from : ℕ) (xs : List ℕ) → Rises from xs → from ≤ last_or from xs
rises_last from [] h = omega arith
rises_last from (x ∷ xs) h = omega (arith, h.0, rises_last x xs h.1)

-- The last of the numbers is at least each of them.
pub rises_contains : (from : ℕ) (xs : List ℕ) (x : ℕ) → Rises from xs → Contains xs x → x ≤ last_or from xs
rises_contains from xs x h inside = All-contains (λ y. y ≤ last_or from xs) xs x (All-from_recursion (λ y. y ≤ last_or from xs) xs (each from xs h)) inside
  where
    each : (from : ℕ) (xs : List ℕ) → Rises from xs → AllByRecursion (λ y. y ≤ last_or from xs) xs
    each from [] h = tt
    each from (x ∷ xs) h = (rises_last x xs h.1, each x xs h.1)

-- The rows before a sync.

pub no_sync_push : (rows : List Row) (row : Row) → HasNoSync rows → is_sync row.numbered.item ≡ false → HasNoSync (rows ++ row ∷ [])
no_sync_push [] row none is = (is, tt)
no_sync_push (r ∷ rows) row none is = (none.0, no_sync_push rows row none.1 is)

before_cons : (row : Row) (rows front : List Row) → before_sync (row ∷ rows) ≡ Some front
    → ((is_sync row.numbered.item ≡ true) × (front ≡ [])) ⊎ ((others : List Row) × (before_sync rows ≡ Some others) × (front ≡ row ∷ others))
unfolding before_sync
before_cons row rows front e = by (is_sync row.numbered.item) (before_sync rows) refl refl e
  where
    by : (t : Bool) (o : Option (List Row)) → is_sync row.numbered.item ≡ t → before_sync rows ≡ o
        → cond t (Some []) (option_map (λ f. row ∷ f) o) ≡ Some front
        → ((is_sync row.numbered.item ≡ true) × (front ≡ [])) ⊎ ((others : List Row) × (before_sync rows ≡ Some others) × (front ≡ row ∷ others))
    by true o is found h = inl (is, cc)
    by false None is found h = cc
    by false (Some others) is found h = inr (others, found, cc)

before_none : (front : List Row) → before_sync [] ≡ Some front → ⊥
unfolding before_sync
before_none front e = cc

before_front : (rows front : List Row) → before_sync rows ≡ Some front → (others : List Row) × (rows ≡ front ++ others)
before_front [] front e = absurd (before_none front e)
before_front (row ∷ rows) front e = by (before_front rows) (before_cons row rows front e)
  where
    by : ((front : List Row) → before_sync rows ≡ Some front → (others : List Row) × (rows ≡ front ++ others))
        → ((is_sync row.numbered.item ≡ true) × (front ≡ [])) ⊎ ((others : List Row) × (before_sync rows ≡ Some others) × (front ≡ row ∷ others))
        → (others : List Row) × (row ∷ rows ≡ front ++ others)
    by within (inl at_once) = (row ∷ rows, ap (λ f. f ++ (row ∷ rows)) (sym at_once.1))
    by within (inr past) =
        let rest = within past.0 past.1 in
        (rest.0, ap (λ r. row ∷ r) rest.1 ∙ ap (λ f. f ++ rest.0) (sym past.2))

-- A sync that follows rows without one comes after all of them.
pub sync_later : (after back more front : List Row) → unanswered after ≡ back ++ more → HasNoSync back → before_sync after ≡ Some front
    → (between : List Row) × (others : List Row) × (unanswered front ≡ back ++ between) × (unanswered after ≡ unanswered front ++ others)
sync_later [] back more front e none is = absurd (before_none front is)
sync_later (row ∷ rows) [] more front e none is =
    let rest = before_front (row ∷ rows) front is in
    (unanswered front, unanswered rest.0, refl, ap unanswered rest.1 ∙ unanswered-append front rest.0)
sync_later (row ∷ rows) (b ∷ back) more front e none is = by (sync_later rows back more) (before_cons row rows front is)
  where
    head : unanswered_row row ≡ b
    head = cc

    by : ((front : List Row) → unanswered rows ≡ back ++ more → HasNoSync back → before_sync rows ≡ Some front
        → (between : List Row) × (others : List Row) × (unanswered front ≡ back ++ between) × (unanswered rows ≡ unanswered front ++ others))
        → ((is_sync row.numbered.item ≡ true) × (front ≡ [])) ⊎ ((others : List Row) × (before_sync rows ≡ Some others) × (front ≡ row ∷ others))
        → (between : List Row) × (others : List Row) × (unanswered front ≡ (b ∷ back) ++ between) × (unanswered (row ∷ rows) ≡ unanswered front ++ others)
    by within (inl at_once) = let no = sym at_once.0 ∙ ap (λ r. is_sync r.numbered.item) head ∙ none.0 in cc
    by within (inr past) =
        let rest = within past.0 (cc) none.1 past.1 in (
          rest.0,
          rest.1,
          ap unanswered past.2 ∙ two_lists {a = unanswered_row row ∷ []} (ap (λ r. r ∷ []) head) rest.2,
          ap (λ l. unanswered_row row ∷ l) rest.3 ∙ ap (λ f. unanswered f ++ rest.1) (sym past.2),
        )

-- The items of the rows, without their lines.
abbrev pub asks_of : List Row → List Item
asks_of rows = map (λ r. r.numbered.item) rows

pub asks_unanswered : (rows : List Row) → asks_of (unanswered rows) ≡ asks_of rows
asks_unanswered [] = refl
asks_unanswered (row ∷ rows) = ap (λ l. row.numbered.item ∷ l) (asks_unanswered rows)

pub has_cancel : (number : ℕ) (others : List Row) (row : Row) → row.numbered.item ≡ cancel number → HasCancel number (unanswered (others ++ row ∷ []))
has_cancel number others row is =
    subst (λ l. Contains l (cancel number))
    (sym (asks_unanswered (others ++ row ∷ []) ∙ map-append (λ r. r.numbered.item) others (row ∷ [])))
    (subst (Contains (asks_of others ++ row.numbered.item ∷ [])) is (Contains-push (asks_of others) row.numbered.item))

-- A cancel among rows with no sync comes before the first sync.
pub cancel_stays : (number : ℕ) (after back more : List Row) → unanswered after ≡ back ++ more → HasNoSync back → HasCancel number back
    → HasCancel number (until_sync after)
cancel_stays number after back more e quiet inside = by (before_sync after) refl
  where
    within : (front between : List Row) → unanswered front ≡ back ++ between → HasCancel number front
    within front between is =
        subst (λ l. Contains l (cancel number))
        (sym (map-append (λ r. r.numbered.item) back between) ∙ ap asks_of (sym is) ∙ asks_unanswered front)
        (Contains-append_left (asks_of back) (asks_of between) (cancel number) inside)

    by : (o : Option (List Row)) → before_sync after ≡ o → HasCancel number (unwrap_or o after)
    by None is = within after more e
    by (Some front) is = let later = sync_later after back more front e quiet is in within front later.0 later.2
