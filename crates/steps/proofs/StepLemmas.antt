-- A step's rows, and that rows are legal once no search is open.
use Rattle.std.proofs.Common.{◌≡◌, ℕ, ◌+◌, ◌<◌, ◌⊎◌, inl, inr, true, false, List, [], ◌∷◌, ◌++◌, Option, Some, None, length, take, drop, refl, sym, ap}
use Rattle.std.proofs.Common.{◌∙◌, ◌≤◌, subst, arith, slice_get}
use Rattle.std.specs.List.{AllByRecursion, Contains}
use Rattle.std.proofs.lemmas.List.{append-nil}
use Rattle.documents.specs.State.{state_of}
use Rattle.prepare.specs.Request.{Request}
use Rattle.views.specs.Shown.{Shown}
use Rattle.script.specs.Items.{Item, Numbered, cancel, status}
use Rattle.transcript.specs.declared.entry.Entry.{Entry}
use Rattle.transcript.specs.declared.entry.Entry.TheVariants.{Refused, Found, SearchRefused}
use Rattle.transcript.specs.declared.entry.Reason.TheVariants.{NoSuchSearch}
use Rattle.transcript.specs.declared.entry.SearchReason.{SearchReason}
use Rattle.transcript.specs.declared.entry.SearchReason.TheVariants as search_reason
use Rattle.steps.specs.Rows.{Row, commands_of, command_of, accepted_by, version_in, published_in, published_last, last_or, is_sync, searches_of}
use Rattle.steps.specs.Rows.{count_searches, list_of}
use Rattle.steps.specs.LegalRows.{Limits, Context, IsCommandEntry, HasEntry, IsLegalRow, AreInTurn, WasAsked, WasNotAsked, HasCancel, search_number}
use Rattle.steps.specs.LegalRows.{status_entry}
use Rattle.steps.specs.LegalRows as searched
use Rattle.steps.specs.Asked.{Asks, IsFaultOf}
use Rattle.steps.specs.Steps.{RunState, OpenSearch, IsStep, IsFirst, IsOpenAt, IsAnswerNow, MayTake, latest, with_entry, with_search, counted}
use Rattle.steps.specs.Steps.{without, with_answer, given, status_now}
use Rattle.steps.specs.Steps as steps
use Rattle.steps.specs.StepRows.{AreNext, HasOwnEntry, searches_in, more, filled, both, IsOfSearch, found, refused, with_its_entry, unanswered, given_of, given_in, Stands, legal}
use Rattle.steps.specs.StepRows.{waits, AllTurned, AreRows, Rises}
use Rattle.steps.proofs.RowLemmas.{not_empty, same_commands, same_published, same_searches, count_searches-append, split_push, has_cancel, cancel_stays}
use Rattle.steps.proofs.OpenLemmas.{open_few, open_one, open_none, open_no_search, IsOpenRow, open_row, around, no_open}
use Rattle.steps.proofs.TurnLemmas.{turned_more, noted_more, rows_in_turn}
use Rattle.steps.proofs.EntryLemmas.{IsPlain, plain_entry, plain_by, plain_rises, command_is_no_search}
use Rattle.steps.proofs.EntryLemmas.{sync_is_no_search, asks_is_search, fault_is_of_search, legal_sync, legal_command, legal_fault, legal_unknown, legal_status}
use Rattle.steps.proofs.PushLemmas.{IsPushed, rows_pushed}
use Rattle.steps.proofs.FillLemmas.{IsFilled, MayBeRefused, rows_filled, given_without, number_is, waiting, refusal_stands, answer_stands}

-- Before the first item there are no rows.
pub first_rows : (Holds : List ℕ → List ℕ → Type 0) (limits : Limits) (readers : ℕ) (s : RunState) → IsFirst s → AreRows Holds limits readers s []
unfolding commands_of published_in count_searches
first_rows Holds limits readers s first = record {
  accepted = first.accepted;
  published = first.published;
  rises = subst (Rises 0) (sym first.published) tt;
  within = omega (arith, ap (last_or 0) first.published);
  searches = first.searches;
  awaited = first.awaited;
  stand = λ before row after e. absurd (not_empty before row after e);
  turns = tt;
  noted = tt;
}

abbrev NextRows : (List ℕ → List ℕ → Type 0) → Limits → ℕ → List Row → List Numbered → List Entry → RunState → Type 0
NextRows Holds limits readers rows taken written s' = (rows' : List Row) × AreNext rows taken written rows' × AreRows Holds limits readers s' rows'

abbrev row_of : Numbered → Option (List ℕ) → Option Entry → Row
row_of item loaded entry = record { numbered = item; loaded = loaded; entry = entry }

own_entry : (row : Row) (entry : Entry) → row.entry ≡ Some entry → searches_in entry ≡ searches_of row.numbered.item → HasOwnEntry row
own_entry row entry is own e is' = let same : e ≡ entry = cc in ap searches_in same ∙ own

no_search_in : (entry : Entry) → searches_in entry ≡ 0 → (e : Entry) → Some entry ≡ Some e → searches_in e ≡ 0
no_search_in entry none e is = let same : e ≡ entry = cc in ap searches_in same ∙ none

module _ (Holds : List ℕ → List ℕ → Type 0) (limits : Limits) (readers : ℕ) (s : RunState) (rows : List Row) (are : AreRows Holds limits readers s rows) where
  may_take : (item : Item) → MayTake readers s item → (s.awaited ≡ []) ⊎ ((0 < readers) × (is_sync item ≡ false))
  may_take item (steps.settled empty) = inl empty
  may_take item (steps.beside some no_sync) = inr (some, no_sync)

  -- one row more
  pushed : (row : Row) (s' : RunState) (taken : List Numbered) (written : List Entry) → taken ≡ row.numbered ∷ [] → written ≡ list_of row.entry
      → IsPushed Holds limits readers s rows row s' → NextRows Holds limits readers rows taken written s'
  pushed row s' taken written takes writes push = (rows ++ row ∷ [], more row push.own takes writes refl, rows_pushed Holds limits readers s rows row s' are push)

  carried_out : (item : Numbered) (loaded : Option (List ℕ)) (entry : Entry) (s' : RunState) → MayTake readers s item.item
      → IsCommandEntry Holds limits.lengths limits.commands (state_of s.accepted) loaded item.line item.item entry → s' ≡ with_entry item.item loaded entry s
      → IsPushed Holds limits readers s rows (row_of item loaded (Some entry)) s'
  carried_out item loaded entry s' may h same =
      let plain : IsPlain (length s.accepted) item.line item.item entry =
      plain_entry Holds limits.lengths limits.commands (state_of s.accepted) loaded item.line item.item entry h in
      let rises = plain_rises (latest s) (length s.accepted) are.within plain in
      record {
        stands =
            legal (λ before after more e e' rises.
            legal_command Holds limits (record { readers = readers; before = before; row = row_of item loaded (Some entry); after = after }) item.item entry
            (subst (λ c. IsCommandEntry Holds limits.lengths limits.commands (state_of c) loaded item.line item.item entry) (are.accepted ∙ sym (same_commands before rows e)) h));
        may = may_take item.item may;
        accepted = ap (λ t. t.accepted) same;
        published = ap (λ t. t.published) same;
        rises = rises.0;
        within = rises.1;
        searches =
            omega (
              arith,
              ap (λ t. t.searches) same,
              command_is_no_search Holds limits.lengths limits.commands (state_of s.accepted) loaded item.line item.item entry h,
            );
        awaited =
            ap (λ t. t.awaited) same ∙ sym (append-nil s.awaited)
            ∙ ap (λ l. s.awaited ++ l) (sym (open_none s.searches (latest s) item.item entry));
        answers = ap (λ t. t.answers) same;
        given = plain_by plain (λ e. given_in (Some e) ≡ []) (λ count. refl) (λ why. refl) refl;
        own =
            own_entry (row_of item loaded (Some entry)) entry refl
            (plain_by plain (λ e. searches_in e ≡ 0) (λ count. refl) (λ why. refl) refl
            ∙ sym (command_is_no_search Holds limits.lengths limits.commands (state_of s.accepted) loaded item.line item.item entry h));
      }

  asked_for : (item : Numbered) (request : Request) (s' : RunState) → MayTake readers s item.item → Asks item.item request
      → s' ≡ with_search item.item s → IsPushed Holds limits readers s rows (row_of item None None) s'
  asked_for item request s' may asks same =
      let one = asks_is_search item.item request asks in
      record {
        stands = waits request asks refl tt (λ zero. refl);
        may = may_take item.item may;
        accepted = ap (λ t. t.accepted) same ∙ sym (append-nil s.accepted);
        published = ap (λ t. t.published) same ∙ sym (append-nil s.published);
        rises = tt;
        within = are.within;
        searches = omega (arith, ap (λ t. t.searches) same, one);
        awaited = ap (λ t. t.awaited) same ∙ ap (λ l. s.awaited ++ l) (sym (open_one s.searches (latest s) item.item one));
        answers = ap (λ t. t.answers) same;
        given = refl;
        own = λ entry is. cc;
      }

  refused_at_once : (item : Numbered) (why : SearchReason) (s' : RunState) → MayTake readers s item.item → IsFaultOf item.item why → s' ≡ counted s
      → IsPushed Holds limits readers s rows (row_of item None (Some (SearchRefused (s.searches + 1) why))) s'
  refused_at_once item why s' may fault same =
      let row = row_of item None (Some (SearchRefused (s.searches + 1) why)) in
      record {
        stands =
            legal (λ before after more e e' rises.
            let context : Context = record { readers = readers; before = before; row = row; after = after } in
            subst (λ n. HasEntry Holds limits context item.item (Some (SearchRefused (n + 1) why))) (same_searches before rows e ∙ sym are.searches)
            (legal_fault Holds limits context item.item why fault));
        may = may_take item.item may;
        accepted = ap (λ t. t.accepted) same ∙ sym (append-nil s.accepted);
        published = ap (λ t. t.published) same ∙ sym (append-nil s.published);
        rises = tt;
        within = are.within;
        searches = omega (arith, ap (λ t. t.searches) same, fault_is_of_search item.item why fault);
        awaited =
            ap (λ t. t.awaited) same ∙ sym (append-nil s.awaited)
            ∙ ap (λ l. s.awaited ++ l) (sym (open_none s.searches (latest s) item.item (SearchRefused (s.searches + 1) why)));
        answers = ap (λ t. t.answers) same;
        given = refl;
        own = own_entry row (SearchRefused (s.searches + 1) why) refl (sym (fault_is_of_search item.item why fault));
      }

  abbrev context_of : Row → List Row → List Row → Context
  context_of row before after = record { readers = readers; before = before; row = row; after = after }

  -- an item that changes nothing
  kept : (item : Numbered) (entry : Option Entry) (s' : RunState)
      → ((before after : List Row) → unanswered before ≡ unanswered rows → IsLegalRow Holds limits (context_of (row_of item None entry) before after))
      → (s.awaited ≡ []) ⊎ ((0 < readers) × (is_sync item.item ≡ false)) → searches_of item.item ≡ 0
      → accepted_by entry (command_of item.item None) ≡ [] → version_in entry ≡ [] → given_in entry ≡ []
      → ((e : Entry) → entry ≡ Some e → searches_in e ≡ 0) → s' ≡ s
      → IsPushed Holds limits readers s rows (row_of item None entry) s'
  kept item entry s' is_legal may no_search accepts publishes gives none same = record {
    stands = legal (λ before after more e e' rises. is_legal before after e);
    may = may;
    accepted = ap (λ t. t.accepted) same ∙ sym (append-nil s.accepted) ∙ ap (λ l. s.accepted ++ l) (sym accepts);
    published = ap (λ t. t.published) same ∙ sym (append-nil s.published) ∙ ap (λ l. s.published ++ l) (sym publishes);
    rises = subst (Rises (latest s)) (sym publishes) tt;
    within = subst (λ l. last_or (latest s) l ≤ length s.accepted) (sym publishes) are.within;
    searches = omega (arith, ap (λ t. t.searches) same, no_search);
    awaited =
        ap (λ t. t.awaited) same ∙ sym (append-nil s.awaited)
        ∙ ap (λ l. s.awaited ++ l) (sym (open_no_search s.searches (latest s) item.item entry no_search));
    answers = ap (λ t. t.answers) same;
    given = gives;
    own = λ e is. none e is ∙ sym no_search;
  }

  synced : (item : Numbered) (s' : RunState) → is_sync item.item ≡ true → s.awaited ≡ [] → s' ≡ s
      → IsPushed Holds limits readers s rows (row_of item None None) s'
  synced item s' is empty same =
      kept item None s' (λ before after e. legal_sync Holds limits (context_of (row_of item None None) before after) item.item is) (inl empty)
      (sync_is_no_search item.item is) refl refl refl (λ e none. cc) same

  searches_before : (before : List Row) → unanswered before ≡ unanswered rows → s.searches ≡ count_searches before
  searches_before before e = are.searches ∙ sym (same_searches before rows e)

  -- a cancel of a search that was asked
  passed : (item : Numbered) (number : ℕ) (s' : RunState) → MayTake readers s item.item → item.item ≡ cancel number → WasAsked number s.searches
      → s' ≡ s → IsPushed Holds limits readers s rows (row_of item None None) s'
  passed item number s' may is was_asked same =
      kept item None s'
      (λ before after e.
      subst (λ i. HasEntry Holds limits (context_of (row_of item None None) before after) i None) (sym is)
      (subst (WasAsked number) (searches_before before e) was_asked))
      (may_take item.item may) (ap searches_of is) refl refl refl (λ e none. cc) same

  unknown : (item : Numbered) (number : ℕ) (s' : RunState) → MayTake readers s item.item → item.item ≡ cancel number
      → WasNotAsked number s.searches → s' ≡ s → IsPushed Holds limits readers s rows (row_of item None (Some (Refused item.line NoSuchSearch))) s'
  unknown item number s' may is not_asked same =
      let entry = Refused item.line NoSuchSearch in
      kept item (Some entry) s'
      (λ before after e.
      let context = context_of (row_of item None (Some entry)) before after in
      subst (λ i. HasEntry Holds limits context i (Some entry)) (sym is)
      (legal_unknown Holds limits context number entry (record {
        not_asked = subst (WasNotAsked number) (searches_before before e) not_asked;
        refused = refl;
      })))
      (may_take item.item may) (ap searches_of is) refl refl refl (no_search_in entry refl) same

  none_open_alone : (item : Item) → MayTake readers s item → readers ≡ 0 → length s.awaited ≡ 0
  none_open_alone item (steps.settled empty) alone = ap length empty
  none_open_alone item (steps.beside some no_sync) alone = absurd (omega (arith, some, alone))

  reported : (item : Numbered) (s' : RunState) → MayTake readers s item.item → item.item ≡ status → s' ≡ s
      → IsPushed Holds limits readers s rows (row_of item None (Some (status_now limits s item.line))) s'
  reported item s' may is same =
      let entry = status_now limits s item.line in
      kept item (Some entry) s'
      (λ before after e.
      let context = context_of (row_of item None (Some entry)) before after in
      subst (λ i. HasEntry Holds limits context i (Some entry)) (sym is)
      (legal_status Holds limits context entry (record {
        waiting = length s.awaited;
        few = omega (arith, ap length are.awaited, open_few 0 0 rows, are.searches, searches_before before e);
        alone = none_open_alone item.item may;
        shown =
            ap (λ p. status_entry item.line (last_or 0 p) s.accepted limits.commands (length s.awaited))
            (are.published ∙ sym (same_published before rows e))
            ∙ ap (λ c. status_entry item.line (published_last before) c limits.commands (length s.awaited))
            (are.accepted ∙ sym (same_commands before rows e));
      })))
      (may_take item.item may) (ap searches_of is) refl refl refl (no_search_in entry refl) same

  -- The row of the open search at this place.
  row_at : (place : ℕ) (search : OpenSearch) → IsOpenAt s place search
      → IsOpenRow 0 0 rows (take place s.awaited) search (drop (place + 1) s.awaited)
  row_at place search is_open =
      open_row 0 0 rows (take place s.awaited) search (drop (place + 1) s.awaited) (sym are.awaited ∙ around s.awaited place search is_open)

  -- the open search at this place gets its entry
  module _ (place : ℕ) (search : OpenSearch) (is_open : IsOpenAt s place search) where
    abbrev at : IsOpenRow 0 0 rows (take place s.awaited) search (drop (place + 1) s.awaited)
    at = row_at place search is_open

    pub asked_before : WasAsked search.number s.searches
    unfolding count_searches
    asked_before =
        let number : search.number ≡ (0 + count_searches at.before) + 1 = ap (λ x. x.number) at.is in (
          omega (arith, number),
          omega (
            arith,
            number,
            at.one,
            are.searches,
            ap count_searches at.whole,
            count_searches-append at.before (at.row ∷ at.after),
          ),
        )

    turned_so_far : AllTurned (given_of at.before ++ given_of at.after)
    turned_so_far =
        subst AllTurned (given_without Holds limits readers s rows (take place s.awaited) search (drop (place + 1) s.awaited) are at) are.turns

    noted_so_far : AllByRecursion (Contains s.answers) (given_of at.before ++ given_of at.after)
    noted_so_far =
        subst (AllByRecursion (Contains s.answers))
        (given_without Holds limits readers s rows (take place s.awaited) search (drop (place + 1) s.awaited) are at) are.noted

    refusal : (why : SearchReason) (s' : RunState) → s' ≡ without place s → MayBeRefused limits readers at.before at.after why
        → IsFilled Holds limits readers s (take place s.awaited) (drop (place + 1) s.awaited) at.before at.row at.after
        (SearchRefused search.number why) s'
    refusal why s' same may = record {
      of_search = refl;
      stands = refusal_stands Holds limits readers s rows (take place s.awaited) search (drop (place + 1) s.awaited) are at why may;
      accepted = ap (λ t. t.accepted) same;
      published = ap (λ t. t.published) same;
      searches = ap (λ t. t.searches) same;
      awaited = ap (λ t. t.awaited) same;
      turns = turned_so_far;
      noted = subst (λ l. AllByRecursion (Contains l) (given_of at.before ++ given_of at.after)) (sym (ap (λ t. t.answers) same)) noted_so_far;
    }

    refusal_of : (why : SearchReason) (number : ℕ) → search.number ≡ number → IsOfSearch number (SearchRefused search.number why)
    refusal_of why number is = subst (λ n. IsOfSearch number (SearchRefused n why)) (sym is) (refused why)

    filled_by : (entry : Entry) (s' : RunState) (taken : List Numbered) (written : List Entry) → taken ≡ [] → written ≡ entry ∷ []
        → ((number : ℕ) → search.number ≡ number → IsOfSearch number entry)
        → IsFilled Holds limits readers s (take place s.awaited) (drop (place + 1) s.awaited) at.before at.row at.after entry s'
        → NextRows Holds limits readers rows taken written s'
    filled_by entry s' taken written takes writes of fill = (
      at.before ++ with_its_entry entry at.row ∷ at.after,
      filled at.before at.row at.after entry at.whole at.none at.one (of (count_searches at.before + 1) (omega (arith, ap (λ x. x.number) at.is))) takes writes refl,
      rows_filled Holds limits readers s rows (take place s.awaited) search (drop (place + 1) s.awaited) are at entry s' fill,
    )

    refused_later : (why : SearchReason) (s' : RunState) (taken : List Numbered) (written : List Entry) → taken ≡ []
        → written ≡ SearchRefused search.number why ∷ [] → s' ≡ without place s → MayBeRefused limits readers at.before at.after why
        → NextRows Holds limits readers rows taken written s'
    refused_later why s' taken written takes writes same may =
        filled_by (SearchRefused search.number why) s' taken written takes writes (refusal_of why) (refusal why s' same may)

    is_answered : (reader turn : ℕ) (answer : Shown) (s' : RunState) (taken : List Numbered) (written : List Entry)
        → IsAnswerNow readers s search reader turn answer → taken ≡ [] → written ≡ Found search.number reader turn answer ∷ []
        → s' ≡ without place (with_answer (given reader turn answer.version) s) → NextRows Holds limits readers rows taken written s'
    is_answered reader turn answer s' taken written now takes writes same =
        let x = given reader turn answer.version in
        filled_by (Found search.number reader turn answer) s' taken written takes writes
        (λ number is. subst (λ n. IsOfSearch number (Found n reader turn answer)) (sym is) (found reader turn answer)) (record {
          of_search = refl;
          stands = answer_stands Holds limits readers s rows (take place s.awaited) search (drop (place + 1) s.awaited) are at reader turn answer now;
          accepted = ap (λ t. t.accepted) same;
          published = ap (λ t. t.published) same;
          searches = ap (λ t. t.searches) same;
          awaited = ap (λ t. t.awaited) same;
          turns = turned_more s.answers x now.in_turn (given_of at.before) (given_of at.after) turned_so_far noted_so_far;
          noted =
              subst (λ l. AllByRecursion (Contains l) (given_of at.before ++ x ∷ given_of at.after)) (sym (ap (λ t. t.answers) same))
              (noted_more s.answers x (given_of at.before) (given_of at.after) noted_so_far);
        })

module _ (Holds : List ℕ → List ℕ → Type 0) (limits : Limits) (readers : ℕ) (s : RunState) (rows : List Row) (are : AreRows Holds limits readers s rows) where
  -- a cancel of an open search: one row more, and then an entry for the search
  module _ (item : Numbered) (place : ℕ) (search : OpenSearch) (may : MayTake readers s item.item) (is : item.item ≡ cancel search.number)
      (is_open : IsOpenAt s place search) where
    abbrev row : Row
    row = row_of item None None

    abbrev entry : Entry
    entry = SearchRefused search.number search_reason.Cancelled

    with_cancel : AreRows Holds limits readers s (rows ++ row ∷ [])
    with_cancel =
        rows_pushed Holds limits readers s rows row s are
        (passed Holds limits readers s rows are item search.number s may is (asked_before Holds limits readers s rows are place search is_open) refl)

    abbrev among : IsOpenRow 0 0 (rows ++ row ∷ []) (take place s.awaited) search (drop (place + 1) s.awaited)
    among = row_at Holds limits readers s (rows ++ row ∷ []) with_cancel place search is_open

    some_readers : MayTake readers s item.item → 0 < readers
    some_readers (steps.settled empty) = let nothing : slice_get [] place ≡ Some search = subst (λ l. slice_get l place ≡ Some search) empty is_open in cc
    some_readers (steps.beside some no_sync) = some

    may_cancel : (others : List Row) → among.after ≡ others ++ row ∷ [] → MayBeRefused limits readers among.before among.after search_reason.Cancelled
    may_cancel others e context later same_readers e' e'' request =
        let front = take place s.awaited in
        let back = drop (place + 1) s.awaited in
        let number : search.number ≡ search_number context =
        number_is Holds limits readers s (rows ++ row ∷ []) front search back with_cancel among context.before e' in
        let quiet = (waiting Holds limits readers s (rows ++ row ∷ []) front search back with_cancel among).0 in
        searched.cancelled refl (omega (arith, some_readers may, same_readers))
        (cancel_stays (search_number context) context.after (unanswered among.after) later e'' quiet
        (subst (λ n. HasCancel n (unanswered among.after)) number
        (subst (λ l. HasCancel search.number (unanswered l)) (sym e) (has_cancel search.number others row is))))

    cancelled : (s' : RunState) (taken : List Numbered) (written : List Entry) → taken ≡ item ∷ [] → written ≡ entry ∷ [] → s' ≡ without place s
        → NextRows Holds limits readers rows taken written s'
    cancelled s' taken written takes writes same = by (split_push rows among.before among.after row among.row among.whole)
      where
        by : ((rows ≡ among.before) × (row ≡ among.row) × (among.after ≡ []))
            ⊎ ((others : List Row) × (rows ≡ among.before ++ among.row ∷ others) × (among.after ≡ others ++ row ∷ []))
            → NextRows Holds limits readers rows taken written s'
        by (inl here) = absurd (omega (arith, among.one, ap (λ r. searches_of r.numbered.item) here.1, ap searches_of is))
        by (inr within) = (
          among.before ++ with_its_entry entry among.row ∷ (within.0 ++ row ∷ []),
          both among.before among.row within.0 entry row within.1 among.none among.one
              (refusal_of Holds limits readers s rows are place search is_open search_reason.Cancelled (count_searches among.before + 1)
              (omega (arith, ap (λ x. x.number) among.is))) takes writes refl (ap searches_of is) refl,
          subst (λ l. AreRows Holds limits readers s' (among.before ++ with_its_entry entry among.row ∷ l)) within.2
              (rows_filled Holds limits readers s (rows ++ row ∷ []) (take place s.awaited) search (drop (place + 1) s.awaited) with_cancel among entry s'
              (refusal Holds limits readers s (rows ++ row ∷ []) with_cancel place search is_open search_reason.Cancelled s' same
              (may_cancel within.0 within.2))),
        )

  -- One more step leads to rows that are next.
  pub next_rows : (taken : List Numbered) (written : List Entry) (s' : RunState) → IsStep Holds limits readers s taken written s'
      → NextRows Holds limits readers rows taken written s'
  next_rows taken written s' (steps.carried_out item loaded entry may h takes writes same) =
      pushed Holds limits readers s rows are (row_of item loaded (Some entry)) s' taken written takes writes (carried_out Holds limits readers s rows are item loaded entry s' may h same)
  next_rows taken written s' (steps.asked_for item request may asks takes writes same) =
      pushed Holds limits readers s rows are (row_of item None None) s' taken written takes writes
      (asked_for Holds limits readers s rows are item request s' may asks same)
  next_rows taken written s' (steps.refused item why may fault takes writes same) =
      pushed Holds limits readers s rows are (row_of item None (Some (SearchRefused (s.searches + 1) why))) s' taken written takes writes
      (refused_at_once Holds limits readers s rows are item why s' may fault same)
  next_rows taken written s' (steps.answered place search reader turn answer is_open now takes writes same) =
      is_answered Holds limits readers s rows are place search is_open reader turn answer s' taken written now takes writes same
  next_rows taken written s' (steps.not_answered place search is_open takes writes same) =
      refused_later Holds limits readers s rows are place search is_open search_reason.OutOfMemory s' taken written takes writes same
      (λ context later r e e' request. searched.no_memory refl)
  next_rows taken written s' (steps.too_slow place search timed is_open takes writes same) =
      refused_later Holds limits readers s rows are place search is_open search_reason.TooSlow s' taken written takes writes same
      (λ context later r e e' request. searched.too_slow refl timed)
  next_rows taken written s' (steps.cancelled item place search may is is_open takes writes same) =
      cancelled item place search may is is_open s' taken written takes writes same
  next_rows taken written s' (steps.too_late item number may is was_asked not_open takes writes same) =
      pushed Holds limits readers s rows are (row_of item None None) s' taken written takes writes (passed Holds limits readers s rows are item number s' may is was_asked same)
  next_rows taken written s' (steps.no_such_search item number may is not_asked takes writes same) =
      pushed Holds limits readers s rows are (row_of item None (Some (Refused item.line NoSuchSearch))) s' taken written takes writes
      (unknown Holds limits readers s rows are item number s' may is not_asked same)
  next_rows taken written s' (steps.reported item may is takes writes same) =
      pushed Holds limits readers s rows are (row_of item None (Some (status_now limits s item.line))) s' taken written takes writes
      (reported Holds limits readers s rows are item s' may is same)
  next_rows taken written s' (steps.sync item is empty takes writes same) =
      pushed Holds limits readers s rows are (row_of item None None) s' taken written takes writes (synced Holds limits readers s rows are item s' is empty same)

  -- Once no search is open, each row is legal.
  pub each_is_legal : s.awaited ≡ [] → (before : List Row) (row : Row) (after : List Row) → rows ≡ before ++ row ∷ after
      → IsLegalRow Holds limits (record { readers = readers; before = before; row = row; after = after })
  each_is_legal empty before row after e = by (are.stand before row after e)
    where
      by : Stands Holds limits readers (unanswered before) row (unanswered after)
          → IsLegalRow Holds limits (record { readers = readers; before = before; row = row; after = after })
      by (legal is) = is before after [] refl (sym (append-nil (unanswered after))) (subst (Rises 0) (are.published ∙ ap published_in e) are.rises)
      by (waits request asks none no_sync alone) =
          absurd (no_open rows before row after (sym are.awaited ∙ empty) e none (asks_is_search row.numbered.item request asks))

  pub are_in_turn : AreInTurn rows
  are_in_turn = rows_in_turn rows are.turns
