-- The order of answers and publishes, as they are written.
use Rattle.std.proofs.Common.{◌≡◌, ◌≢◌, ℕ, ◌+◌, ◌≤◌, ◌⊎◌, inl, inr, true, false, cond, eqb, List, [], ◌∷◌, ◌++◌, Some, take, drop, refl, sym, ap, ◌∙◌, subst, arith}
use Rattle.std.specs.Prelude.{Contains, count_by}
use Rattle.std.proofs.lemmas.List.Sums.{sum_by-append}
use Rattle.std.proofs.lemmas.Bool.Decides.{eqb_tells}
use Rattle.std.specs.List.{AllByRecursion}
use Rattle.std.proofs.lemmas.List.{append-nil}
use Rattle.std.proofs.lemmas.List.Elements.{All-contains, Contains-append_left, Contains-push, Contains-push_cases}
use Rattle.std.proofs.lemmas.Grind.{flat_map-append}
use Rattle.documents.specs.State.{state_of}
use Rattle.views.specs.Shown.{Shown}
use Rattle.script.specs.Items.{Numbered}
use Rattle.transcript.specs.declared.entry.Entry.{Entry}
use Rattle.transcript.specs.declared.entry.Entry.TheVariants.{Refused, Found, SearchRefused}
use Rattle.transcript.specs.declared.entry.Reason.TheVariants.{NoSuchSearch}
use Rattle.transcript.specs.declared.entry.SearchReason.{SearchReason}
use Rattle.transcript.specs.declared.entry.SearchReason.TheVariants as search_reason
use Rattle.steps.specs.Rows.{version_in, last_or, searches_of}
use Rattle.steps.specs.LegalRows.{Limits}
use Rattle.steps.specs.Steps.{RunState, OpenSearch, IsStep, Runs, IsFirst, IsOpenAt, IsAnswerNow, Given, AreTurned, given, latest, with_search, asked, without, status_now}
use Rattle.steps.specs.Steps as steps
use Rattle.steps.specs.StepRows.{given_in}
use Rattle.steps.specs.Entries.{versions_of, searches_among, IsInOrder}
use Rattle.steps.proofs.RowLemmas.{not_empty, split_push}
use Rattle.steps.proofs.OpenLemmas.{around}
use Rattle.steps.proofs.TurnLemmas.{each_within, each_without, each_both}
use Rattle.steps.proofs.EntryLemmas.{plain_entry, plain_by, sync_is_no_search}
use Rattle.steps.proofs.RunLemmas.{runs_keep}
use Rattle.steps.proofs.WrittenLemmas.{AreCounted, run_counted}

-- What the entries so far say of versions and answers.
record AreInOrder (entries : List Entry) (s : RunState) : Type 0 where
  pub published : s.published ≡ versions_of entries
  pub noted : (number reader turn : ℕ) (answer : Shown) → Contains entries (Found number reader turn answer)
      → Contains s.answers (given reader turn answer.version)
  pub each : (before : List Entry) (number reader turn : ℕ) (answer : Shown) (after : List Entry)
      → entries ≡ before ++ Found number reader turn answer ∷ after → IsInOrder before reader turn answer

-- One more entry.
record IsNextEntry (entries : List Entry) (s : RunState) (entry : Entry) (s' : RunState) : Type 0 where
  pub published : s'.published ≡ s.published ++ version_in (Some entry)
  pub still : (x : Given) → Contains s.answers x → Contains s'.answers x
  pub now : (number reader turn : ℕ) (answer : Shown) → entry ≡ Found number reader turn answer
      → Contains s'.answers (given reader turn answer.version) × IsInOrder entries reader turn answer

module _ (entries : List Entry) (s : RunState) (old : AreInOrder entries s) where
  order_stays : (written : List Entry) (s' : RunState) → written ≡ [] → s'.published ≡ s.published → s'.answers ≡ s.answers → AreInOrder (entries ++ written) s'
  order_stays written s' nothing same same_answers =
      let is : entries ++ written ≡ entries = ap (λ w. entries ++ w) nothing ∙ append-nil entries in
      subst (λ e. AreInOrder e s') (sym is) (record {
        published = same ∙ old.published;
        noted = λ number reader turn answer inside. subst (λ l. Contains l (given reader turn answer.version)) (sym same_answers) (old.noted number reader turn answer inside);
        each = old.each;
      })

  order_push : (entry : Entry) (written : List Entry) (s' : RunState) → written ≡ entry ∷ [] → IsNextEntry entries s entry s'
      → AreInOrder (entries ++ written) s'
  order_push entry written s' one next =
      subst (λ w. AreInOrder (entries ++ w) s') (sym one) (record {
        published =
            next.published ∙ ap (λ l. l ++ version_in (Some entry)) old.published
            ∙ ap (λ l. versions_of entries ++ l) (sym (append-nil (version_in (Some entry))))
            ∙ sym (flat_map-append (λ e. version_in (Some e)) entries (entry ∷ []));
        noted = λ number reader turn answer inside. noted_by number reader turn answer
            (Contains-push_cases entries entry (Found number reader turn answer) inside);
        each = λ before number reader turn answer after e. each_by before number reader turn answer
            (split_push entries before after entry (Found number reader turn answer) e);
      })
    where
      noted_by : (number reader turn : ℕ) (answer : Shown)
          → Contains entries (Found number reader turn answer) ⊎ (entry ≡ Found number reader turn answer) → Contains s'.answers (given reader turn answer.version)
      noted_by number reader turn answer (inl inside) = next.still (given reader turn answer.version) (old.noted number reader turn answer inside)
      noted_by number reader turn answer (inr is) = (next.now number reader turn answer is).0

      each_by : (before : List Entry) (number reader turn : ℕ) (answer : Shown) {after : List Entry}
          → ((entries ≡ before) × (entry ≡ Found number reader turn answer) × (after ≡ []))
          ⊎ ((others : List Entry) × (entries ≡ before ++ Found number reader turn answer ∷ others) × (after ≡ others ++ entry ∷ []))
          → IsInOrder before reader turn answer
      each_by before number reader turn answer (inl here) =
          subst (λ b. IsInOrder b reader turn answer) here.0 (next.now number reader turn answer here.1).1
      each_by before number reader turn answer (inr within) = old.each before number reader turn answer within.0 within.1

  -- an entry that is no answer
  quiet_entry : (entry : Entry) (s' : RunState) → given_in (Some entry) ≡ [] → s'.published ≡ s.published ++ version_in (Some entry) → s'.answers ≡ s.answers
      → IsNextEntry entries s entry s'
  quiet_entry entry s' quiet publishes same = record {
    published = publishes;
    still = λ x noted. subst (λ l. Contains l x) (sym same) noted;
    now = λ number reader turn answer is. let no = sym quiet ∙ ap (λ e. given_in (Some e)) is in absurd (cc);
  }

  answer_entry : (readers : ℕ) (search : OpenSearch) (reader turn : ℕ) (answer : Shown) (s' : RunState) → IsAnswerNow readers s search reader turn answer
      → s'.published ≡ s.published → s'.answers ≡ s.answers ++ given reader turn answer.version ∷ []
      → IsNextEntry entries s (Found search.number reader turn answer) s'
  answer_entry readers search reader turn answer s' now same noted_now = record {
    published = same ∙ sym (append-nil s.published);
    still = λ x noted.
        subst (λ l. Contains l x) (sym noted_now) (Contains-append_left s.answers (given reader turn answer.version ∷ []) x noted);
    now = λ number reader' turn' answer' is. now_by number reader' turn' answer' (cc) (cc) (cc);
  }
    where
      now_by : (number reader' turn' : ℕ) (answer' : Shown) → reader ≡ reader' → turn ≡ turn' → answer ≡ answer'
          → Contains s'.answers (given reader' turn' answer'.version) × IsInOrder entries reader' turn' answer'
      now_by number reader' turn' answer' same_reader same_turn same_answer =
          subst (λ r. Contains s'.answers (given r turn' answer'.version) × IsInOrder entries r turn' answer') same_reader
          (subst (λ t. Contains s'.answers (given reader t answer'.version) × IsInOrder entries reader t answer') same_turn
          (subst (λ a. Contains s'.answers (given reader turn a.version) × IsInOrder entries reader turn a) same_answer (
            subst (λ l. Contains l (given reader turn answer.version)) (sym noted_now) (Contains-push s.answers (given reader turn answer.version)),
            record {
              published = subst (λ l. (answer.version ≡ 0) ⊎ Contains l answer.version) old.published now.published;
              in_turn = λ number'' turn'' answer'' inside.
                  All-contains (λ y. AreTurned y (given reader turn answer.version)) s.answers (given reader turn'' answer''.version) now.in_turn
                  (old.noted number'' reader turn'' answer'' inside) refl;
            },
          )))

  -- an entry that is no answer and publishes nothing, and leaves the readers as they are
  order_quiet : (entry : Entry) (written : List Entry) (s' : RunState) → written ≡ entry ∷ [] → given_in (Some entry) ≡ [] → version_in (Some entry) ≡ []
      → s'.published ≡ s.published → s'.answers ≡ s.answers → AreInOrder (entries ++ written) s'
  order_quiet entry written s' writes gives publishes same same_answers =
      order_push entry written s' writes
      (quiet_entry entry s' gives (same ∙ sym (append-nil s.published) ∙ ap (λ l. s.published ++ l) (sym publishes)) same_answers)

  order_step : (Holds : List ℕ → List ℕ → Type 0) (limits : Limits) (readers : ℕ) (taken : List Numbered) (written : List Entry) (s' : RunState)
      → IsStep Holds limits readers s taken written s' → AreInOrder (entries ++ written) s'
  order_step Holds limits readers taken written s' (steps.carried_out item loaded entry may h takes writes same) =
      order_push entry written s' writes
      (quiet_entry entry s'
      (plain_by (plain_entry Holds limits.lengths limits.commands (state_of s.accepted) loaded item.line item.item entry h) (λ e. given_in (Some e) ≡ []) (λ count. refl)
      (λ why. refl) refl) (ap (λ t. t.published) same) (ap (λ t. t.answers) same))
  order_step Holds limits readers taken written s' (steps.asked_for item request may asks takes writes same) =
      order_stays written s' writes (ap (λ t. t.published) same) (ap (λ t. t.answers) same)
  order_step Holds limits readers taken written s' (steps.refused item why may fault takes writes same) =
      order_quiet (SearchRefused (s.searches + 1) why) written s' writes refl refl (ap (λ t. t.published) same) (ap (λ t. t.answers) same)
  order_step Holds limits readers taken written s' (steps.answered place search reader turn answer is_open now takes writes same) =
      order_push (Found search.number reader turn answer) written s' writes
      (answer_entry readers search reader turn answer s' now (ap (λ t. t.published) same) (ap (λ t. t.answers) same))
  order_step Holds limits readers taken written s' (steps.not_answered place search is_open takes writes same) =
      order_quiet (SearchRefused search.number search_reason.OutOfMemory) written s' writes refl refl (ap (λ t. t.published) same) (ap (λ t. t.answers) same)
  order_step Holds limits readers taken written s' (steps.too_slow place search timed is_open takes writes same) =
      order_quiet (SearchRefused search.number search_reason.TooSlow) written s' writes refl refl (ap (λ t. t.published) same) (ap (λ t. t.answers) same)
  order_step Holds limits readers taken written s' (steps.cancelled item place search may is is_open takes writes same) =
      order_quiet (SearchRefused search.number search_reason.Cancelled) written s' writes refl refl (ap (λ t. t.published) same) (ap (λ t. t.answers) same)
  order_step Holds limits readers taken written s' (steps.too_late item number may is was_asked not_open takes writes same) =
      order_stays written s' writes (ap (λ t. t.published) same) (ap (λ t. t.answers) same)
  order_step Holds limits readers taken written s' (steps.no_such_search item number may is not_asked takes writes same) =
      order_quiet (Refused item.line NoSuchSearch) written s' writes refl refl (ap (λ t. t.published) same) (ap (λ t. t.answers) same)
  order_step Holds limits readers taken written s' (steps.reported item may is takes writes same) =
      order_quiet (status_now limits s item.line) written s' writes refl refl (ap (λ t. t.published) same) (ap (λ t. t.answers) same)
  order_step Holds limits readers taken written s' (steps.sync item is empty takes writes same) =
      order_stays written s' writes (ap (λ t. t.published) same) (ap (λ t. t.answers) same)

no_entry : (entry : Entry) → Contains [] entry → ⊥
no_entry entry inside = omega (arith, inside.1)

run_order : (Holds : List ℕ → List ℕ → Type 0) (limits : Limits) (readers : ℕ) (from : RunState) → IsFirst from → {items : List Numbered}
    {entries : List Entry} {s : RunState} → Runs Holds limits readers from items entries s → AreInOrder entries s
run_order Holds limits readers from first =
    runs_keep Holds limits readers from (λ items entries s. AreInOrder entries s)
    (record {
      published = first.published;
      noted = λ number reader turn answer inside. absurd (no_entry (Found number reader turn answer) inside);
      each = λ before number reader turn answer after e. absurd (not_empty before (Found number reader turn answer) after e);
    })
    (λ items entries s taken written s' old step. order_step entries s old Holds limits readers taken written s' step)

-- Each answer of a run is in order.
pub answers_in_order : (Holds : List ℕ → List ℕ → Type 0) (limits : Limits) (readers : ℕ) (from : RunState) → IsFirst from → {items : List Numbered}
    {entries : List Entry} {s : RunState} → Runs Holds limits readers from items entries s
    → (before : List Entry) (number reader turn : ℕ) (answer : Shown) (after : List Entry)
    → entries ≡ before ++ Found number reader turn answer ∷ after → IsInOrder before reader turn answer
answers_in_order Holds limits readers from first run = (run_order Holds limits readers from first run).each

pub run_versions : (Holds : List ℕ → List ℕ → Type 0) (limits : Limits) (readers : ℕ) (from : RunState) → IsFirst from → {items : List Numbered}
    {entries : List Entry} {s : RunState} → Runs Holds limits readers from items entries s → s.published ≡ versions_of entries
run_versions Holds limits readers from first run = (run_order Holds limits readers from first run).published

-- An answer is no older than what was published before its search was asked.

-- The open searches of this number ask for a version from `least` on, and so are its answers.
record AreNotOlder (number least : ℕ) (entries : List Entry) (s : RunState) : Type 0 where
  pub asked_before : number ≤ s.searches
  pub waiting : AllByRecursion (λ x. x.number ≡ number → least ≤ x.least) s.awaited
  pub answers : (reader turn : ℕ) (answer : Shown) → Contains entries (Found number reader turn answer) → least ≤ answer.version

module _ (number least : ℕ) (entries : List Entry) (s : RunState) (old : AreNotOlder number least entries s) where
  abbrev IsBound : OpenSearch → Type 0
  IsBound x = x.number ≡ number → least ≤ x.least

  older_push : (entry : Entry) (written : List Entry) (s' : RunState) → written ≡ entry ∷ [] → number ≤ s'.searches
      → AllByRecursion IsBound s'.awaited
      → ((reader turn : ℕ) (answer : Shown) → entry ≡ Found number reader turn answer → least ≤ answer.version)
      → AreNotOlder number least (entries ++ written) s'
  older_push entry written s' one before waiting now =
      subst (λ w. AreNotOlder number least (entries ++ w) s') (sym one) (record {
        asked_before = before;
        waiting = waiting;
        answers = λ reader turn answer inside. by reader turn answer (Contains-push_cases entries entry (Found number reader turn answer) inside);
      })
    where
      by : (reader turn : ℕ) (answer : Shown) → Contains entries (Found number reader turn answer) ⊎ (entry ≡ Found number reader turn answer)
          → least ≤ answer.version
      by reader turn answer (inl inside) = old.answers reader turn answer inside
      by reader turn answer (inr is) = now reader turn answer is

  older_stays : (written : List Entry) (s' : RunState) → written ≡ [] → number ≤ s'.searches → AllByRecursion IsBound s'.awaited
      → AreNotOlder number least (entries ++ written) s'
  older_stays written s' nothing before waiting =
      subst (λ e. AreNotOlder number least e s') (sym (ap (λ w. entries ++ w) nothing ∙ append-nil entries)) (record {
        asked_before = before;
        waiting = waiting;
        answers = old.answers;
      })

  around_place : (place : ℕ) (search : OpenSearch) → IsOpenAt s place search
      → AllByRecursion IsBound (take place s.awaited ++ search ∷ drop (place + 1) s.awaited)
  around_place place search is_open = subst (AllByRecursion IsBound) (around s.awaited place search is_open) old.waiting

  left : (place : ℕ) (search : OpenSearch) → IsOpenAt s place search → AllByRecursion IsBound (take place s.awaited ++ drop (place + 1) s.awaited)
  left place search is_open = each_without IsBound (take place s.awaited) search (drop (place + 1) s.awaited) (around_place place search is_open)

  bound : (place : ℕ) (search : OpenSearch) → IsOpenAt s place search → IsBound search
  bound place search is_open = each_within IsBound (take place s.awaited) search (drop (place + 1) s.awaited) (around_place place search is_open)

  -- an open search is refused
  older_refused : (place : ℕ) (search : OpenSearch) (why : SearchReason) (written : List Entry) (s' : RunState) → IsOpenAt s place search
      → written ≡ SearchRefused search.number why ∷ [] → s' ≡ without place s → AreNotOlder number least (entries ++ written) s'
  older_refused place search why written s' is_open writes same =
      older_push (SearchRefused search.number why) written s' writes (omega (arith, old.asked_before, ap (λ t. t.searches) same))
      (subst (AllByRecursion IsBound) (sym (ap (λ t. t.awaited) same)) (left place search is_open)) (λ reader turn answer is. absurd (cc))

  older_step : (Holds : List ℕ → List ℕ → Type 0) (limits : Limits) (readers : ℕ) (taken : List Numbered) (written : List Entry) (s' : RunState)
      → IsStep Holds limits readers s taken written s' → AreNotOlder number least (entries ++ written) s'
  older_step Holds limits readers taken written s' (steps.carried_out item loaded entry may h takes writes same) =
      older_push entry written s' writes (omega (arith, old.asked_before, ap (λ t. t.searches) same))
      (subst (AllByRecursion IsBound) (sym (ap (λ t. t.awaited) same)) old.waiting)
      (λ reader turn answer is.
      let quiet : given_in (Some entry) ≡ [] =
      plain_by (plain_entry Holds limits.lengths limits.commands (state_of s.accepted) loaded item.line item.item entry h) (λ e. given_in (Some e) ≡ []) (λ count. refl)
      (λ why. refl) refl in
      let no = sym quiet ∙ ap (λ e. given_in (Some e)) is in absurd (cc))
  older_step Holds limits readers taken written s' (steps.asked_for item request may asks takes writes same) =
      older_stays written s' writes (omega (arith, old.asked_before, ap (λ t. t.searches) same))
      (subst (AllByRecursion IsBound) (sym (ap (λ t. t.awaited) same))
      (each_both IsBound s.awaited (asked item.item s ∷ []) old.waiting ((λ is. absurd (omega (arith, is, old.asked_before))), tt)))
  older_step Holds limits readers taken written s' (steps.refused item why may fault takes writes same) =
      older_push (SearchRefused (s.searches + 1) why) written s' writes (omega (arith, old.asked_before, ap (λ t. t.searches) same))
      (subst (AllByRecursion IsBound) (sym (ap (λ t. t.awaited) same)) old.waiting) (λ reader turn answer is. absurd (cc))
  older_step Holds limits readers taken written s' (steps.answered place search reader turn answer is_open now takes writes same) =
      older_push (Found search.number reader turn answer) written s' writes (omega (arith, old.asked_before, ap (λ t. t.searches) same))
      (subst (AllByRecursion IsBound) (sym (ap (λ t. t.awaited) same)) (left place search is_open))
      (λ reader' turn' answer' is.
      let same_number : search.number ≡ number = cc in
      let same_answer : answer ≡ answer' = cc in
      omega (arith, bound place search is_open same_number, now.not_older, ap (λ a. a.version) same_answer))
  older_step Holds limits readers taken written s' (steps.not_answered place search is_open takes writes same) =
      older_refused place search search_reason.OutOfMemory written s' is_open writes same
  older_step Holds limits readers taken written s' (steps.too_slow place search timed is_open takes writes same) =
      older_refused place search search_reason.TooSlow written s' is_open writes same
  older_step Holds limits readers taken written s' (steps.cancelled item place search may is is_open takes writes same) =
      older_refused place search search_reason.Cancelled written s' is_open writes same
  older_step Holds limits readers taken written s' (steps.too_late item number' may is was_asked not_open takes writes same) =
      older_stays written s' writes (omega (arith, old.asked_before, ap (λ t. t.searches) same))
      (subst (AllByRecursion IsBound) (sym (ap (λ t. t.awaited) same)) old.waiting)
  older_step Holds limits readers taken written s' (steps.no_such_search item number' may is not_asked takes writes same) =
      older_push (Refused item.line NoSuchSearch) written s' writes (omega (arith, old.asked_before, ap (λ t. t.searches) same))
      (subst (AllByRecursion IsBound) (sym (ap (λ t. t.awaited) same)) old.waiting) (λ reader turn answer is'. absurd (cc))
  older_step Holds limits readers taken written s' (steps.reported item may is takes writes same) =
      older_push (status_now limits s item.line) written s' writes (omega (arith, old.asked_before, ap (λ t. t.searches) same))
      (subst (AllByRecursion IsBound) (sym (ap (λ t. t.awaited) same)) old.waiting) (λ reader turn answer is'. absurd (cc))
  older_step Holds limits readers taken written s' (steps.sync item is empty takes writes same) =
      older_stays written s' writes (omega (arith, old.asked_before, ap (λ t. t.searches) same))
      (subst (AllByRecursion IsBound) (sym (ap (λ t. t.awaited) same)) old.waiting)

-- no open search has this number
none_waiting : (number least : ℕ) (xs : List OpenSearch) → count_by (λ x. eqb x.number number) xs ≡ 0
    → AllByRecursion (λ x. x.number ≡ number → least ≤ x.least) xs
none_waiting number least [] none = tt
none_waiting number least (x ∷ xs) none = (
  λ is. absurd (omega (arith, whole, none, ap {B = ℕ} (λ t. cond t 1 0) (same is))),
  none_waiting number least xs (omega (arith, whole, none)),
)
  where
    whole : count_by (λ x. eqb x.number number) (x ∷ xs) ≡ cond (eqb x.number number) 1 0 + count_by (λ x. eqb x.number number) xs
    whole = omega (arith, sum_by-append (λ x. cond (eqb x.number number) 1 0) (x ∷ []) xs)

    same : x.number ≡ number → eqb x.number number ≡ true
    same is = by (eqb_tells x.number number)
      where
        by : ((eqb x.number number ≡ true) × (x.number ≡ number)) ⊎ ((eqb x.number number ≡ false) × (x.number ≢ number)) → eqb x.number number ≡ true
        by (inl yes_it_is) = yes_it_is.0
        by (inr other) = absurd (other.1 is)

module _ (Holds : List ℕ → List ℕ → Type 0) (limits : Limits) (readers : ℕ) where
  -- a step that takes a search and writes nothing
  asked_by : (s : RunState) (item : Numbered) (taken : List Numbered) (written : List Entry) (s' : RunState) → taken ≡ item ∷ [] → written ≡ []
      → searches_of item.item ≡ 1 → IsStep Holds limits readers s taken written s' → s' ≡ with_search item.item s
  asked_by s item taken written s' is nothing one (steps.carried_out other loaded entry may h takes writes same) = cc
  asked_by s item taken written s' is nothing one (steps.asked_for other request may also takes writes same) =
      let same_item : other ≡ item = cc in same ∙ ap (λ i. with_search i.item s) same_item
  asked_by s item taken written s' is nothing one (steps.refused other why may fault takes writes same) = cc
  asked_by s item taken written s' is nothing one (steps.answered place search reader turn answer is_open now takes writes same) = cc
  asked_by s item taken written s' is nothing one (steps.not_answered place search is_open takes writes same) = cc
  asked_by s item taken written s' is nothing one (steps.too_slow place search timed is_open takes writes same) = cc
  asked_by s item taken written s' is nothing one (steps.cancelled other place search may cancels is_open takes writes same) = cc
  asked_by s item taken written s' is nothing one (steps.too_late other number may cancels was_asked not_open takes writes same) =
      let same_item : other ≡ item = cc in
      absurd (omega (arith, one, ap searches_of cancels, ap (λ i. searches_of i.item) same_item))
  asked_by s item taken written s' is nothing one (steps.no_such_search other number may cancels not_asked takes writes same) = cc
  asked_by s item taken written s' is nothing one (steps.reported other may reports takes writes same) = cc
  asked_by s item taken written s' is nothing one (steps.sync other also empty takes writes same) =
      let same_item : other ≡ item = cc in
      absurd (omega (arith, one, sync_is_no_search other.item also, ap (λ i. searches_of i.item) same_item))

  pub not_older : (from : RunState) → IsFirst from → {items : List Numbered} {entries : List Entry} {s : RunState}
      → Runs Holds limits readers from items entries s → (search : Numbered) (s' : RunState) → searches_of search.item ≡ 1
      → IsStep Holds limits readers s (search ∷ []) [] s' → {items' : List Numbered} {entries' : List Entry} {s'' : RunState}
      → Runs Holds limits readers s' items' entries' s'' → (reader turn : ℕ) (answer : Shown)
      → Contains entries' (Found (searches_among items + 1) reader turn answer) → last_or 0 (versions_of entries) ≤ answer.version
  not_older from first {items} {entries} {s} run search s' one step {entries' = entries'} run' reader turn answer inside =
      let counted : AreCounted items entries s = run_counted Holds limits readers from first run in
      let same : s' ≡ with_search search.item s = asked_by s search (search ∷ []) [] s' refl refl one step in
      let number = s.searches + 1 in
      let past = counted.past number (omega arith) in
      let start : AreNotOlder number (latest s) [] s' = record {
        asked_before = omega (arith, ap (λ t. t.searches) same);
        waiting =
            subst (AllByRecursion (λ x. x.number ≡ number → latest s ≤ x.least)) (sym (ap (λ t. t.awaited) same))
            (each_both (λ x. x.number ≡ number → latest s ≤ x.least) s.awaited (asked search.item s ∷ [])
            (none_waiting number (latest s) s.awaited (omega (arith, past))) ((λ is. omega arith), tt));
        answers = λ reader turn answer inside. absurd (no_entry (Found number reader turn answer) inside);
      } in
      let end =
      runs_keep Holds limits readers s' (λ i e t. AreNotOlder number (latest s) e t) start
      (λ i e t taken written t' old next. older_step number (latest s) e t old Holds limits readers taken written t' next) run' in
      omega (
        arith,
        end.answers reader turn answer (subst (λ n. Contains entries' (Found (n + 1) reader turn answer)) (sym counted.searches) inside),
        ap (last_or 0) (run_versions Holds limits readers from first run),
      )
