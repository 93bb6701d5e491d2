-- The rows of a run in which an open search gets its entry.
use Rattle.std.proofs.Common.{◌≡◌, ℕ, ◌+◌, ◌≤◌, ◌⊎◌, inl, inr, Bool, true, false, cond, eqb, ◌==◌, List, [], ◌∷◌, ◌++◌, Option, Some, None}
use Rattle.std.proofs.Common.{length, take, option_map, IfSome, refl, sym, ap, ◌∙◌, subst, arith, append_assoc}
use Rattle.std.specs.Prelude.{Contains}
use Rattle.std.specs.List.{AllByRecursion}
use Rattle.std.proofs.lemmas.List.{append-nil, take-append-le}
use Rattle.std.proofs.lemmas.List.Elements.{Contains-append_left}
use Rattle.std.proofs.lemmas.Bool.{eqb-true}
use Rattle.documents.specs.State.{state_of}
use Rattle.prepare.specs.Request.{Request}
use Rattle.views.specs.ShownOf.{IsShownOf}
use Rattle.views.specs.Shown.{Shown}
use Rattle.transcript.specs.declared.entry.Entry.{Entry}
use Rattle.transcript.specs.declared.entry.Entry.TheVariants.{Found, SearchRefused}
use Rattle.transcript.specs.declared.entry.SearchReason.{SearchReason}
use Rattle.steps.specs.Rows.{Row, commands_of, version_in, published_in, last_or, published_last, before_sync, searches_of, count_searches}
use Rattle.steps.specs.LegalRows.{Limits, Context, HasEntry, IsLegalRow, IsSearched, found, IsAnswered, search_number}
use Rattle.steps.specs.Asked.{Asks}
use Rattle.steps.specs.Steps.{RunState, OpenSearch, latest, IsAnswerNow}
use Rattle.steps.specs.StepRows.{with_its_entry, unless_of_search, unanswered, open_in, given_in, given_of, Rises}
use Rattle.steps.specs.StepRows.{HasNoSync, Stands, legal, waits, AllTurned, AreRows}
use Rattle.steps.proofs.RowLemmas.{unanswered-append, given_of-append, same_commands, same_published, same_searches, later_commands}
use Rattle.steps.proofs.RowLemmas.{later_published, published_in-append, published_in-none, published_in-quiet, IsPlace, here, earlier, later, place_of, last_or-append}
use Rattle.steps.proofs.RowLemmas.{rises_front, rises_rest, rises_last, rises_contains, sync_later}
use Rattle.steps.proofs.OpenLemmas.{open_none, open_in-append, IsOpenRow}
use Rattle.steps.proofs.EntryLemmas.{legal_search, no_version, not_legal_yet}

abbrev without_entry : Row → Row
without_entry row = record row { entry = None }

-- A row without an entry, and the entry of a search that it gets.
module _ (row : Row) (entry : Entry) (none : row.entry ≡ None) (of_search : unless_of_search (Some entry) ≡ None) where
  unanswered_open : (before after : List Row) → unanswered (before ++ row ∷ after) ≡ unanswered before ++ without_entry row ∷ unanswered after
  unanswered_open before after =
      unanswered-append before (row ∷ after)
      ∙ ap (λ e. unanswered before ++ record row { entry = unless_of_search e } ∷ unanswered after) none

  unanswered_filled : (before after : List Row)
      → unanswered (before ++ with_its_entry entry row ∷ after) ≡ unanswered before ++ without_entry row ∷ unanswered after
  unanswered_filled before after =
      unanswered-append before (with_its_entry entry row ∷ after) ∙ ap (λ e. unanswered before ++ record row { entry = e } ∷ unanswered after) of_search

  same_filled : (before after : List Row) → unanswered (before ++ row ∷ after) ≡ unanswered (before ++ with_its_entry entry row ∷ after)
  same_filled before after = unanswered_open before after ∙ sym (unanswered_filled before after)

  later_filled : (before after before' after' more : List Row) → unanswered before' ≡ unanswered before → unanswered after' ≡ unanswered after ++ more
      → unanswered (before' ++ with_its_entry entry row ∷ after') ≡ unanswered (before ++ row ∷ after) ++ more
  later_filled before after before' after' more e e' =
      unanswered_filled before' after' ∙ ap (λ l. l ++ without_entry row ∷ unanswered after') e
      ∙ ap (λ l. unanswered before ++ without_entry row ∷ l) e'
      ∙ sym (append_assoc (unanswered before) (without_entry row ∷ unanswered after) more)
      ∙ ap (λ l. l ++ more) (sym (unanswered_open before after))

-- What the entry of an open search does. front, back: the open searches before and after it.
pub record IsFilled (Holds : List ℕ → List ℕ → Type 0) (limits : Limits) (readers : ℕ) (s : RunState) (front back : List OpenSearch) (before : List Row)
    (row : Row) (after : List Row) (entry : Entry) (s' : RunState) : Type 0 where
  pub of_search : unless_of_search (Some entry) ≡ None
  pub stands : Stands Holds limits readers (unanswered before) (with_its_entry entry row) (unanswered after)
  pub accepted : s'.accepted ≡ s.accepted
  pub published : s'.published ≡ s.published
  pub searches : s'.searches ≡ s.searches
  pub awaited : s'.awaited ≡ front ++ back
  pub turns : AllTurned (given_of before ++ (given_in (Some entry) ++ given_of after))
  pub noted : AllByRecursion (Contains s'.answers) (given_of before ++ (given_in (Some entry) ++ given_of after))

-- A search between these rows may be refused for this reason, whatever rows follow.
abbrev pub MayBeRefused : Limits → ℕ → List Row → List Row → SearchReason → Type 0
MayBeRefused limits readers before after why =
    (context : Context) (later : List Row) → context.readers ≡ readers → unanswered context.before ≡ unanswered before
    → unanswered context.after ≡ unanswered after ++ later → (request : Request)
    → IsSearched limits context request (SearchRefused (search_number context) why)

-- No sync follows an open row, and without readers nothing does. It asks for something.
pub after_open : (Holds : List ℕ → List ℕ → Type 0) (limits : Limits) (readers : ℕ) (s : RunState) (rows : List Row) → AreRows Holds limits readers s rows
    → (before : List Row) (row : Row) (after : List Row) → rows ≡ before ++ row ∷ after → row.entry ≡ None → searches_of row.numbered.item ≡ 1
    → HasNoSync (unanswered after) × (readers ≡ 0 → unanswered after ≡ []) × (request : Request) × Asks row.numbered.item request
after_open Holds limits readers s rows are before row after whole none one = by (are.stand before row after whole)
  where
    by : Stands Holds limits readers (unanswered before) row (unanswered after)
        → HasNoSync (unanswered after) × (readers ≡ 0 → unanswered after ≡ []) × (request : Request) × Asks row.numbered.item request
    by (waits request asks also no_sync alone) = (no_sync, alone, request, asks)
    by (legal is) =
        absurd (not_legal_yet Holds limits _ row.numbered.item row.entry none one
        (is before after [] refl (sym (append-nil (unanswered after))) (subst (Rises 0) (are.published ∙ ap published_in whole) are.rises)))

module _ (Holds : List ℕ → List ℕ → Type 0) (limits : Limits) (readers : ℕ) (s : RunState) (rows : List Row) (front : List OpenSearch) (search : OpenSearch)
    (back : List OpenSearch) (are : AreRows Holds limits readers s rows) (at : IsOpenRow 0 0 rows front search back) where
  -- without answers of its own, the open row adds none
  pub given_without : given_of rows ≡ given_of at.before ++ given_of at.after
  given_without = ap given_of at.whole ∙ given_of-append at.before (at.row ∷ at.after) ∙ ap (λ e. given_of at.before ++ (given_in e ++ given_of at.after)) at.none

  module _ (entry : Entry) (s' : RunState) (fill : IsFilled Holds limits readers s front back at.before at.row at.after entry s') where
    same : unanswered rows ≡ unanswered (at.before ++ with_its_entry entry at.row ∷ at.after)
    same = ap unanswered at.whole ∙ same_filled at.row entry at.none fill.of_search at.before at.after

    stand_filled : (before : List Row) (row : Row) (after : List Row) → at.before ++ with_its_entry entry at.row ∷ at.after ≡ before ++ row ∷ after
        → Stands Holds limits readers (unanswered before) row (unanswered after)
    stand_filled before row after e = by (place_of at.before (with_its_entry entry at.row) at.after before row after e)
      where
        by : IsPlace at.before (with_its_entry entry at.row) at.after before row after → Stands Holds limits readers (unanswered before) row (unanswered after)
        by (here b r a) =
            subst (λ l. Stands Holds limits readers (unanswered before) row (unanswered l)) a
            (subst (λ l. Stands Holds limits readers (unanswered before) l (unanswered at.after)) r
            (subst (λ l. Stands Holds limits readers (unanswered l) (with_its_entry entry at.row) (unanswered at.after)) b fill.stands))
        by (earlier between b a) =
            subst (λ l. Stands Holds limits readers (unanswered before) row l)
            (same_filled at.row entry at.none fill.of_search between at.after ∙ sym (ap unanswered a))
            (are.stand before row (between ++ at.row ∷ at.after)
            (at.whole ∙ ap (λ l. l ++ at.row ∷ at.after) b ∙ append_assoc before (row ∷ between) (at.row ∷ at.after)))
        by (later between b a) =
            subst (λ l. Stands Holds limits readers l row (unanswered after))
            (same_filled at.row entry at.none fill.of_search at.before between ∙ sym (ap unanswered b))
            (are.stand (at.before ++ at.row ∷ between) row after
            (at.whole ∙ ap (λ l. at.before ++ at.row ∷ l) a ∙ sym (append_assoc at.before (at.row ∷ between) (row ∷ after))))

    open_filled : open_in 0 0 (at.before ++ with_its_entry entry at.row ∷ at.after) ≡ front ++ back
    open_filled =
        let count = 0 + count_searches at.before in
        let least = last_or 0 (published_in at.before) in
        let item = at.row.numbered.item in
        let quiet : version_in (Some entry) ≡ [] = no_version entry fill.of_search in
        open_in-append 0 0 at.before (with_its_entry entry at.row ∷ at.after)
        ∙ ap (λ l. open_in 0 0 at.before ++ (l ++ open_in (count + searches_of item) (last_or least (version_in (Some entry))) at.after))
        (open_none count least item entry)
        ∙ ap (λ v. open_in 0 0 at.before ++ open_in (count + searches_of item) (last_or least v) at.after) quiet
        ∙ ap (λ n. open_in 0 0 at.before ++ open_in (count + n) least at.after) at.one ∙ ap (λ l. open_in 0 0 at.before ++ l) at.later
        ∙ ap (λ l. l ++ back) at.earlier

    given_filled : given_of (at.before ++ with_its_entry entry at.row ∷ at.after) ≡ given_of at.before ++ (given_in (Some entry) ++ given_of at.after)
    given_filled = given_of-append at.before (with_its_entry entry at.row ∷ at.after)

    pub rows_filled : AreRows Holds limits readers s' (at.before ++ with_its_entry entry at.row ∷ at.after)
    rows_filled = record {
      accepted = fill.accepted ∙ are.accepted ∙ same_commands rows (at.before ++ with_its_entry entry at.row ∷ at.after) same;
      published = fill.published ∙ are.published ∙ same_published rows (at.before ++ with_its_entry entry at.row ∷ at.after) same;
      rises = subst (Rises 0) (sym fill.published) are.rises;
      within = omega (arith, are.within, ap (last_or 0) fill.published, ap length fill.accepted);
      searches = fill.searches ∙ are.searches ∙ same_searches rows (at.before ++ with_its_entry entry at.row ∷ at.after) same;
      awaited = fill.awaited ∙ sym open_filled;
      stand = stand_filled;
      turns = subst AllTurned (sym given_filled) fill.turns;
      noted = subst (AllByRecursion (Contains s'.answers)) (sym given_filled) fill.noted;
    }

  -- The number of the search, wherever its row stands.
  pub number_is : (before' : List Row) → unanswered before' ≡ unanswered at.before → search.number ≡ count_searches before' + 1
  number_is before' e = omega (arith, ap (λ x. x.number) at.is, same_searches before' at.before e)

  pub waiting : HasNoSync (unanswered at.after) × (readers ≡ 0 → unanswered at.after ≡ []) × (request : Request) × Asks at.row.numbered.item request
  waiting = after_open Holds limits readers s rows are at.before at.row at.after at.whole at.none at.one

  pub refusal_stands : (why : SearchReason) → MayBeRefused limits readers at.before at.after why
      → Stands Holds limits readers (unanswered at.before) (with_its_entry (SearchRefused search.number why) at.row) (unanswered at.after)
  refusal_stands why may =
      legal (λ before' after' more e e' rises.
      let row' = with_its_entry (SearchRefused search.number why) at.row in
      let context : Context = record { readers = readers; before = before'; row = row'; after = after' } in
      subst (λ n. HasEntry Holds limits context at.row.numbered.item (Some (SearchRefused n why))) (sym (number_is before' e))
      (legal_search Holds limits context at.row.numbered.item (SearchRefused (search_number context) why) waiting.2 waiting.3
      (may context more refl e e' waiting.2)))

  -- A version that is published by now is no later than the latest.
  seen : (version : ℕ) → (version ≡ 0) ⊎ Contains s.published version → version ≤ latest s
  seen version (inl zero) = omega (arith, zero)
  seen version (inr inside) = rises_contains 0 s.published version are.rises inside

  -- An answer that is given now, in the rows of a run that has gone on.
  module _ (reader turn : ℕ) (answer : Shown) (now : IsAnswerNow readers s search reader turn answer) (before' after' more : List Row)
      (e : unanswered before' ≡ unanswered at.before) (e' : unanswered after' ≡ unanswered at.after ++ more)
      (rises : Rises 0 (published_in (before' ++ with_its_entry (Found search.number reader turn answer) at.row ∷ after'))) where
    abbrev entry : Entry
    entry = Found search.number reader turn answer

    abbrev all : List Row → List Row
    all others = before' ++ with_its_entry entry at.row ∷ others

    abbrev context : Context
    context = record { readers = readers; before = before'; row = with_its_entry entry at.row; after = after' }

    is_later : (others more' : List Row) → unanswered others ≡ unanswered at.after ++ more' → unanswered (all others) ≡ unanswered rows ++ more'
    is_later others more' e'' =
        later_filled at.row entry at.none refl at.before at.after before' others more' e e''
        ∙ ap (λ l. unanswered l ++ more') (sym at.whole)

    commands : commands_of (all after') ≡ s.accepted ++ commands_of more
    commands = later_commands rows (all after') more (is_later after' more e') ∙ ap (λ c. c ++ commands_of more) (sym are.accepted)

    versions : (others more' : List Row) → unanswered others ≡ unanswered at.after ++ more' → published_in (all others) ≡ s.published ++ published_in more'
    versions others more' e'' =
        later_published rows (all others) more' (is_later others more' e'') ∙ ap (λ c. c ++ published_in more') (sym are.published)

    is_published : (answer.version ≡ 0) ⊎ Contains s.published answer.version
        → (answer.version ≡ 0) ⊎ Contains (published_in (all after')) answer.version
    is_published (inl zero) = inl zero
    is_published (inr inside) =
        inr
        (subst (λ l. Contains l answer.version) (sym (versions after' more e'))
        (Contains-append_left s.published (published_in more) answer.version inside))

    -- without readers nothing follows the row
    at_once : readers ≡ 0 → answer.version ≤ published_last before'
    at_once zero =
        let none_after : published_in at.after ≡ [] = same_published at.after [] (waiting.1 zero) ∙ published_in-none in
        let versions_before : s.published ≡ published_in at.before =
        are.published ∙ ap published_in at.whole ∙ published_in-append at.before (at.row ∷ at.after)
        ∙ ap (λ l. published_in at.before ++ l) (published_in-quiet at.row at.after at.none none_after) ∙ append-nil (published_in at.before) in
        omega (
          arith,
          seen answer.version now.published,
          ap (last_or 0) versions_before,
          ap (last_or 0) (same_published before' at.before e),
        )

    before_a_sync : (o : Option (List Row)) → before_sync after' ≡ o
        → IfSome (option_map (λ others. published_last (all others)) o) (λ version. answer.version ≤ version)
    before_a_sync None is = tt
    before_a_sync (Some front) is =
        let later = sync_later after' (unanswered at.after) more front e' waiting.0 is in
        let versions_then : published_in (all front) ≡ s.published ++ published_in later.0 = versions front later.0 later.2 in
        let whole : unanswered (all after') ≡ unanswered (all front) ++ later.1 =
        later_filled at.row entry at.none refl before' front before' after' later.1 refl later.3
        ∙ ap (λ l. l ++ later.1) (same_filled at.row entry at.none refl before' front) in
        let rises_then : Rises 0 (published_in (all front)) =
        rises_front 0 (published_in (all front)) (published_in later.1) (subst (Rises 0) (later_published (all front) (all after') later.1 whole) rises) in
        omega (
          arith,
          seen answer.version now.published,
          ap (last_or 0) versions_then,
          last_or-append 0 s.published (published_in later.0),
          rises_last (latest s) (published_in later.0) (rises_rest 0 s.published (published_in later.0) (subst (Rises 0) versions_then rises_then)),
        )

    newest : (t : Bool) → (readers == 0) ≡ t
        → IfSome (cond t (Some (published_last before')) (option_map (λ others. published_last (all others)) (before_sync after')))
        (λ version. answer.version ≤ version)
    newest true is = at_once (eqb-true readers 0 is)
    newest false is = before_a_sync (before_sync after') refl

    is_answered : IsAnswered context now.request reader answer
    is_answered = record {
      published = is_published now.published;
      not_older =
          omega (arith, now.not_older, ap (λ x. x.least) at.is, ap (last_or 0) (same_published before' at.before e));
      exact =
          subst (λ c. IsShownOf (state_of c) now.request answer)
          (sym (ap (take answer.version) commands
          ∙ take-append-le answer.version s.accepted (commands_of more) (omega (arith, seen answer.version now.published, are.within)))) now.exact;
      one_of_them = now.one_of_them;
      not_newer = newest (readers == 0) refl;
    }

    answer_legal : IsLegalRow Holds limits context
    answer_legal =
        subst (λ n. HasEntry Holds limits context at.row.numbered.item (Some (Found n reader turn answer))) (sym (number_is before' e))
        (legal_search Holds limits context at.row.numbered.item (Found (search_number context) reader turn answer) now.request
        (subst (λ i. Asks i now.request) (ap (λ x. x.item) at.is) now.asks) (found reader turn answer refl is_answered))

  pub answer_stands : (reader turn : ℕ) (answer : Shown) → IsAnswerNow readers s search reader turn answer
      → Stands Holds limits readers (unanswered at.before) (with_its_entry (Found search.number reader turn answer) at.row) (unanswered at.after)
  answer_stands reader turn answer now = legal (answer_legal reader turn answer now)
