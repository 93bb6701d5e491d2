-- What holds of a run so far.
use Rattle.std.proofs.Common.{◌≡◌, ◌≢◌, ℕ, ◌+◌, inl, inr, false, List, [], ◌∷◌, ◌++◌, Option, Some, None, refl, sym, ap, ◌∙◌, subst, arith, append_assoc}
use Rattle.std.proofs.lemmas.List.{append-nil}
use Rattle.std.proofs.lemmas.List.Sums.{sum_by-append}
use Rattle.std.proofs.lemmas.List.Sorted.{IsPermutation-trans, IsPermutation-append_left}
use Rattle.script.specs.Items.{Item, Numbered, numbered}
use Rattle.input.specs.declared.owned.OwnedItem.{OwnedItem}
use Rattle.input.specs.declared.owned.OwnedItem.TheVariants as owned
use Rattle.input.specs.Owned.{ShowsOwned}
use Rattle.std.specs.Prelude.{slice_get}
use Rattle.transcript.specs.declared.entry.Entry.{Entry}
use Rattle.transcript.specs.declared.entry.Entry.TheVariants.{SearchRefused}
use Rattle.transcript.specs.declared.entry.SearchReason.TheVariants.{OutOfMemory}
use Rattle.steps.specs.Rows.{Row, entries_of, list_of, is_sync, searches_of, count_searches, failures_in}
use Rattle.steps.specs.LegalRows.{IsFailedTimes}
use Rattle.steps.specs.Entries.{failures_of}
use Rattle.steps.specs.Steps.{Given, IsStep, OpenSearch, Runs, goes_on, MayTake}
use Rattle.steps.specs.Steps as steps
use Rattle.steps.specs.StepRows.{AreNext, AreRows, IsOfSearch, searches_in}
use Rattle.steps.specs.StepRows as rows_of
use Rattle.steps.proofs.RowLemmas.{count_searches-push}
use Rattle.steps.proofs.RunLemmas.{next_items, next_entries}
use Rattle.steps.proofs.StepLemmas.{next_rows}
use Rattle.service.specs.Service.{ServiceState, IsCounted, Steps, Takes, Gives, SetsAside, run_of, versions_in, without}
use Rattle.service.specs.Service as service
use Rattle.service.proofs.ServiceLemmas.{aside_fits, gives_step}
use Rattle.service.proofs.TurnsLemmas.{aside_none}
use Rattle.event_loop.specs.declared.sink.News.{News}
use Rattle.event_loop.specs.declared.sink.News.TheVariants as news
use Rattle.event_loop.specs.Running.{Start, Now, now, Told, entered, opened, passed, answered, entries_by, first_run, IsRunning, IsStopped}
use Rattle.event_loop.specs.Running.{Answers, AnswersFront}
use Rattle.event_loop.specs.Running as running
use Rattle.event_loop.specs.Serving.{MayTakeNow, settled, beside}

-- How often the source has failed.

pub none_failed : (failed : ℕ) → IsCounted 0 failed failed
none_failed failed = record { rises = inl (omega arith); stays = λ full. full }

counted_more : (n m a b c : ℕ) → IsCounted n a b → IsCounted m b c → IsCounted (n + m) a c
counted_more n m a b c first next = record { rises = by first.rises next.rises; stays = λ full. next.stays (first.stays full) }
  where
    by : IsFailedTimes n a b → IsFailedTimes m b c → IsFailedTimes (n + m) a c
    by (inl is) (inl is') = inl (omega arith)
    by (inl is) (inr is') = inr (is'.0, omega (arith, is, is'.1))
    by (inr is) h = inr (next.stays is.0, omega (arith, is.1))

counted_written : (entries more : List Entry) (a b c : ℕ) → IsCounted (failures_of entries) a b → IsCounted (failures_of more) b c
    → IsCounted (failures_of (entries ++ more)) a c
counted_written entries more a b c first next =
    subst (λ n. IsCounted n a c) (sym (sum_by-append (λ entry. failures_in (Some entry)) entries more))
    (counted_more (failures_of entries) (failures_of more) a b c first next)

-- the failures of one entry
pub counted_one : (entry : Entry) (a b : ℕ) → IsCounted (failures_in (Some entry)) a b → IsCounted (failures_of (entry ∷ [])) a b
counted_one entry a b counted = let same : failures_in (Some entry) ≡ failures_of (entry ∷ []) = omega arith in subst (λ n. IsCounted n a b) same counted

-- What an entry and its item have in common.

one_of_search : (number : ℕ) (entry : Entry) → IsOfSearch number entry → searches_in entry ≡ 1
one_of_search number _ (rows_of.found reader turn answer) = refl
one_of_search number _ (rows_of.refused why) = refl

gives_no_failure : (old : ServiceState) (entry : Entry) (new : ServiceState) → Gives old entry new → failures_of (entry ∷ []) ≡ 0
gives_no_failure old entry new (service.answered place wanted reader turn answer turns is_open can gives is after) = ap (λ e. failures_of (e ∷ [])) is
gives_no_failure old entry new (service.not_answered place wanted turns is_open still is after) = ap (λ e. failures_of (e ∷ [])) is
gives_no_failure old entry new (service.too_slow place wanted turns timed is_open still is after) = ap (λ e. failures_of (e ∷ [])) is

-- An open search gets the entry of a search.
pub gives_one : (old : ServiceState) (entry : Entry) (new : ServiceState) → Gives old entry new → searches_in entry ≡ 1
gives_one old entry new (service.answered place wanted reader turn answer turns is_open can gives is after) = ap searches_in is
gives_one old entry new (service.not_answered place wanted turns is_open still is after) = ap searches_in is
gives_one old entry new (service.too_slow place wanted turns timed is_open still is after) = ap searches_in is

-- It can be refused for want of memory.
pub gives_refusal : (old : ServiceState) → old.awaited ≢ [] → (entry : Entry) × (new : ServiceState) × Gives old entry new
gives_refusal old some = by old.awaited refl
  where
    by : (awaited : List OpenSearch) → old.awaited ≡ awaited → (entry : Entry) × (new : ServiceState) × Gives old entry new
    by [] none = absurd (some none)
    by (search ∷ others) is = (
      SearchRefused search.number OutOfMemory,
      without 0 old.turns old,
      service.not_answered 0 search old.turns (ap (λ l. slice_get l 0) is) (aside_none old).still refl refl,
    )

one_of_one : (entry : Option Entry) (e : Entry) → e ∷ [] ≡ list_of entry → entry ≡ Some e
one_of_one None e is = cc
one_of_one (Some e') e is = cc

none_of_none : (entry : Option Entry) → [] ≡ list_of entry → entry ≡ None
none_of_none None is = refl
none_of_none (Some e') is = cc

no_sync_shown : (o : OwnedItem) (i : Item) → o ≢ owned.Sync → ShowsOwned o i → is_sync i ≡ false
no_sync_shown (owned.Put name body) i other shows = ap is_sync shows
no_sync_shown (owned.SkippedPut name size) i other shows = ap is_sync shows.1
no_sync_shown (owned.Load name path) i other shows = ap is_sync shows
no_sync_shown (owned.Remove name) i other shows = ap is_sync shows
no_sync_shown (owned.RemoveUnder prefix) i other shows = ap is_sync shows
no_sync_shown (owned.CopyUnder from to) i other shows = ap is_sync shows
no_sync_shown owned.Publish i other shows = ap is_sync shows
no_sync_shown (owned.Search case pattern) i other shows = ap is_sync shows
no_sync_shown (owned.SearchIn case name_pattern pattern) i other shows = ap is_sync shows
no_sync_shown (owned.Find text) i other shows = ap is_sync shows
no_sync_shown owned.Sync i other shows = absurd (other refl)
no_sync_shown (owned.Cancel number) i other shows = ap is_sync shows
no_sync_shown owned.Status i other shows = ap is_sync shows
no_sync_shown owned.BadLine i other shows = ap is_sync shows
no_sync_shown owned.BadPut i other shows = ap is_sync shows
no_sync_shown owned.Truncated i other shows = ap is_sync shows
no_sync_shown owned.BodyNotClosed i other shows = ap is_sync shows

may_take : (readers : ℕ) (s : ServiceState) (published : List ℕ) (answers : List Given) (o : OwnedItem) (i : Item) → ShowsOwned o i → MayTakeNow readers s o
    → MayTake readers (run_of s published answers) i
may_take readers s published answers o i shows (settled empty) = steps.settled empty
may_take readers s published answers o i shows (beside some no_sync) = steps.beside some (no_sync_shown o i no_sync shows)

-- A run that takes a step.
module _ {W O : Type 0} (Does : W → O → News → W → O → Type 0) (Holds : List ℕ → List ℕ → Type 0) (readers : ℕ) (start : Start W O)
    (items : List Numbered) (at : Now W O) (was : IsRunning Does Holds readers start items at) where
  module _ (taken : List Numbered) (written : List Entry) (new : ServiceState) (published' : List ℕ) (answers' : List Given)
      (step : Steps Holds readers at.service was.published was.answers taken written new published' answers') (failed' : ℕ) (counts : IsCounted (failures_of written) at.failed failed') where
    one_step : IsStep Holds start.limits readers (run_of at.service was.published was.answers) taken written (run_of new published' answers')
    one_step =
        subst (λ limits. IsStep Holds limits readers (run_of at.service was.published was.answers) taken written (run_of new published' answers')) was.limits step.step

    steps_on : (sink' : W) (out' : O)
        → ((rows' : List Row) → AreNext was.rows taken written rows' → new.searches ≡ count_searches rows'
        → Told Does start.sink start.out rows' (was.written ++ written) sink' out')
        → IsRunning Does Holds readers start (items ++ taken) (now new failed' sink' out')
    steps_on sink' out' tells =
        let next = next_rows Holds start.limits readers (run_of at.service was.published was.answers) was.rows was.are_rows taken written (run_of new published' answers') one_step in
        record {
          rows = next.0;
          published = published';
          answers = answers';
          written = was.written ++ written;
          runs = goes_on was.runs one_step refl refl;
          same =
              IsPermutation-trans (entries_of next.0) (entries_of was.rows ++ written) (was.written ++ written)
              (next_entries was.rows taken written next.0 next.1)
              (IsPermutation-append_left written (entries_of was.rows) was.written was.same);
          taken = next_items was.rows taken written next.0 next.1 ∙ ap (λ l. l ++ taken) was.taken;
          are_rows = next.2;
          fits = step.fits;
          limits = step.limits ∙ was.limits;
          told = tells next.0 next.1 next.2.searches;
          failures = counted_written was.written written start.failed at.failed failed' was.failures counts;
        }

    -- the sink fails at what the step brings
    stops_on : (brings : News) → entries_by brings ≡ written → (Fails : W → O → News → W → O → Type 0) (sink' : W) (out' : O)
        → Fails at.sink at.out brings sink' out' → IsStopped Does Fails Holds readers start (items ++ taken) failed' sink' out'
    stops_on brings is Fails sink' out' fails = record {
      written = was.written ++ written;
      end = run_of new published' answers';
      runs = goes_on was.runs one_step refl refl;
      told = running.in_part was.told brings fails (ap (λ l. was.written ++ l) (sym is));
      failures = counted_written was.written written start.failed at.failed failed' was.failures counts;
    }

  -- It stops as it is.
  pub stops_here : (Fails : W → O → News → W → O → Type 0) → IsStopped Does Fails Holds readers start items at.failed at.sink at.out
  stops_here Fails = record {
    written = was.written;
    end = run_of at.service was.published was.answers;
    runs = was.runs;
    told = running.whole was.told;
    failures = was.failures;
  }

  -- An open search gets its entry.
  module _ (entry : Entry) (new : ServiceState) (gives : Gives at.service entry new) where
    given : (answers' : List Given) × Steps Holds readers at.service was.published was.answers [] (entry ∷ []) new was.published answers'
    given = gives_step Holds at.service was.published was.answers readers was.fits entry new gives

    unfailed : IsCounted (failures_of (entry ∷ [])) at.failed at.failed
    unfailed = subst (λ n. IsCounted n at.failed at.failed) (sym (gives_no_failure at.service entry new gives)) (none_failed at.failed)

    gives_on : (sink' : W) (out' : O) → Does at.sink at.out (news.Answer entry) sink' out'
        → IsRunning Does Holds readers start items (now new at.failed sink' out')
    gives_on sink' out' does =
        subst (λ l. IsRunning Does Holds readers start l (now new at.failed sink' out')) (append-nil items)
        (steps_on [] (entry ∷ []) new was.published given.0 given.1 at.failed unfailed sink' out' tells)
      where
        tells : (rows' : List Row) → AreNext was.rows [] (entry ∷ []) rows' → new.searches ≡ count_searches rows'
            → Told Does start.sink start.out rows' (was.written ++ entry ∷ []) sink' out'
        tells rows' (rows_of.more row own takes writes same) searches = cc
        tells rows' (rows_of.both before row after entry' more whole empty one its takes writes no_entry no_search same) searches = cc
        tells rows' (rows_of.filled before row after entry' whole empty one its takes writes same) searches =
            let is : entry ≡ entry' = cc in
            answered was.told before row after entry' whole empty one its (subst (λ e. Does at.sink at.out (news.Answer e) sink' out') is does) same
            (ap (λ e. was.written ++ e ∷ []) is)

    gives_front : (Fails : W → O → News → W → O → Type 0) (sink' : W) (out' : O) → Fails at.sink at.out (news.Answer entry) sink' out'
        → IsStopped Does Fails Holds readers start items at.failed sink' out'
    gives_front Fails sink' out' fails =
        subst (λ l. IsStopped Does Fails Holds readers start l at.failed sink' out') (append-nil items)
        (stops_on [] (entry ∷ []) new was.published given.0 given.1 at.failed unfailed (news.Answer entry) refl Fails sink' out' fails)

  -- Turns are set aside.
  aside_on : (new : ServiceState) → SetsAside at.service new → IsRunning Does Holds readers start items (now new at.failed at.sink at.out)
  aside_on new sets =
      let same : run_of at.service was.published was.answers ≡ run_of new was.published was.answers =
      sym (ap (λ s. run_of s was.published was.answers) sets.left) in
      record {
        rows = was.rows;
        published = was.published;
        answers = was.answers;
        written = was.written;
        runs = subst (λ s. Runs Holds start.limits readers (first_run start.limits readers) items was.written s) same was.runs;
        same = was.same;
        taken = was.taken;
        are_rows = subst (λ s. AreRows Holds start.limits readers s was.rows) same was.are_rows;
        fits = aside_fits readers at.service new was.published was.answers sets was.fits;
        limits = ap (λ s. s.limits) sets.left ∙ was.limits;
        told = was.told;
        failures = was.failures;
      }

  pub answers_on : (new : ServiceState) (sink' : W) (out' : O) → Answers Does at.service at.sink at.out new sink' out'
      → IsRunning Does Holds readers start items (now new at.failed sink' out')
  answers_on new sink' out' (running.nothing sets same_sink same_out) = rw (same_sink, same_out) (aside_on new sets)
  answers_on new sink' out' (running.one entry gives does) = gives_on entry new gives sink' out' does

  pub answers_front : (Fails : W → O → News → W → O → Type 0) (new : ServiceState) (sink' : W) (out' : O)
      → AnswersFront Fails at.service at.sink at.out new sink' out' → IsStopped Does Fails Holds readers start items at.failed sink' out'
  answers_front Fails new sink' out' front = gives_front front.entry new front.gives Fails sink' out' front.fails

  -- An item is taken.
  module _ (line : ℕ) (o : OwnedItem) (shown : Item) (shows : ShowsOwned o shown) (may : MayTakeNow readers at.service o) (new : ServiceState)
      (failed' : ℕ) where
    abbrev item : Numbered
    item = numbered line shown

    step_of : (written : List Entry) → Takes Holds at.service item written new
        → Steps Holds readers at.service was.published was.answers (item ∷ []) written new (was.published ++ versions_in written) was.answers
    step_of written takes = takes was.published was.answers readers was.fits (may_take readers at.service was.published was.answers o shown shows may)

    -- it has its entry
    module _ (entry : Entry) (takes : Takes Holds at.service item (entry ∷ []) new) (counts : IsCounted (failures_in (Some entry)) at.failed failed') where
      pub entry_taken : (sink' : W) (out' : O) → searches_in entry ≡ searches_of shown → Does at.sink at.out (news.Entry entry) sink' out'
          → IsRunning Does Holds readers start (items ++ item ∷ []) (now new failed' sink' out')
      entry_taken sink' out' own does =
          steps_on (item ∷ []) (entry ∷ []) new (was.published ++ versions_in (entry ∷ [])) was.answers (step_of (entry ∷ []) takes) failed'
          (counted_one entry at.failed failed' counts) sink' out' tells
        where
          tells : (rows' : List Row) → AreNext was.rows (item ∷ []) (entry ∷ []) rows' → new.searches ≡ count_searches rows'
              → Told Does start.sink start.out rows' (was.written ++ entry ∷ []) sink' out'
          tells rows' (rows_of.more row has_own takes writes same) searches =
              let is = one_of_one row.entry entry writes in entered was.told row entry is (has_own entry is) does same refl
          tells rows' (rows_of.filled before row after entry' whole empty one its takes writes same) searches = cc
          tells rows' (rows_of.both before row after entry' more whole empty one its takes writes no_entry no_search same) searches =
              let is : entry ≡ entry' = cc in
              let own_item : item ≡ more.numbered = cc in
              absurd (omega (arith, ap searches_in is ∙ one_of_search _ entry' its, own ∙ ap (λ i. searches_of i.item) own_item, no_search))

      -- it is a cancel, at which an open search has its entry
      pub cancel_taken : (sink' : W) (out' : O) → (searches_of shown ≡ 0) × (searches_in entry ≡ 1) → Does at.sink at.out (news.Answer entry) sink' out'
          → IsRunning Does Holds readers start (items ++ item ∷ []) (now new failed' sink' out')
      cancel_taken sink' out' kind does =
          steps_on (item ∷ []) (entry ∷ []) new (was.published ++ versions_in (entry ∷ [])) was.answers (step_of (entry ∷ []) takes) failed'
          (counted_one entry at.failed failed' counts) sink' out' tells
        where
          tells : (rows' : List Row) → AreNext was.rows (item ∷ []) (entry ∷ []) rows' → new.searches ≡ count_searches rows'
              → Told Does start.sink start.out rows' (was.written ++ entry ∷ []) sink' out'
          tells rows' (rows_of.more row own takes writes same) searches =
              let own_item : item ≡ row.numbered = cc in
              absurd (omega (arith, kind.0, kind.1, own entry (one_of_one row.entry entry writes), ap (λ i. searches_of i.item) own_item))
          tells rows' (rows_of.filled before row after entry' whole empty one its takes writes same) searches = cc
          tells rows' (rows_of.both before row after entry' more whole empty one its takes writes no_entry no_search same) searches =
              let is : entry ≡ entry' = cc in
              answered (passed was.told more no_entry no_search refl) before row (after ++ more ∷ []) entry'
              (ap (λ l. l ++ more ∷ []) whole ∙ append_assoc before (row ∷ after) (more ∷ [])) empty one its
              (subst (λ e. Does at.sink at.out (news.Answer e) sink' out') is does) same (ap (λ e. was.written ++ e ∷ []) is)

      -- the sink fails at the entry
      pub front_taken : (brings : News) → entries_by brings ≡ entry ∷ [] → (Fails : W → O → News → W → O → Type 0) (sink' : W) (out' : O)
          → Fails at.sink at.out brings sink' out' → IsStopped Does Fails Holds readers start (items ++ item ∷ []) failed' sink' out'
      front_taken brings is Fails sink' out' fails =
          stops_on (item ∷ []) (entry ∷ []) new (was.published ++ versions_in (entry ∷ [])) was.answers (step_of (entry ∷ []) takes) failed'
          (counted_one entry at.failed failed' counts) brings is Fails sink' out' fails

    -- it has no entry yet, or has none
    module _ (takes : Takes Holds at.service item [] new) (counts : IsCounted 0 at.failed failed') where
      -- it is a search, which is open
      pub search_taken : (number : ℕ) → number ≡ new.searches → searches_of shown ≡ 1 → (sink' : W) (out' : O)
          → Does at.sink at.out (news.Open number) sink' out'
          → IsRunning Does Holds readers start (items ++ item ∷ []) (now new failed' sink' out')
      search_taken number is_number one sink' out' does =
          steps_on (item ∷ []) [] new (was.published ++ versions_in []) was.answers (step_of [] takes) failed' counts sink' out' tells
        where
          tells : (rows' : List Row) → AreNext was.rows (item ∷ []) [] rows' → new.searches ≡ count_searches rows'
              → Told Does start.sink start.out rows' (was.written ++ []) sink' out'
          tells rows' (rows_of.more row own takes writes same) searches =
              let own_item : item ≡ row.numbered = cc in
              let is_one : searches_of row.numbered.item ≡ 1 = ap (λ i. searches_of i.item) (sym own_item) ∙ one in
              let counted : number ≡ count_searches was.rows + 1 =
              is_number ∙ searches ∙ ap count_searches same ∙ count_searches-push was.rows row ∙ ap (λ n. count_searches was.rows + n) is_one in
              subst (λ l. Told Does start.sink start.out rows' l sink' out') (sym (append-nil was.written))
              (opened was.told row (none_of_none row.entry writes) is_one (subst (λ n. Does at.sink at.out (news.Open n) sink' out') counted does) same)
          tells rows' (rows_of.filled before row after entry' whole empty one its takes writes same) searches = cc
          tells rows' (rows_of.both before row after entry' more whole empty one its takes writes no_entry no_search same) searches = cc

      -- it has none
      pub nothing_taken : searches_of shown ≡ 0 → IsRunning Does Holds readers start (items ++ item ∷ []) (now new failed' at.sink at.out)
      nothing_taken none =
          steps_on (item ∷ []) [] new (was.published ++ versions_in []) was.answers (step_of [] takes) failed' counts at.sink at.out tells
        where
          tells : (rows' : List Row) → AreNext was.rows (item ∷ []) [] rows' → new.searches ≡ count_searches rows'
              → Told Does start.sink start.out rows' (was.written ++ []) at.sink at.out
          tells rows' (rows_of.more row own takes writes same) searches =
              let own_item : item ≡ row.numbered = cc in
              subst (λ l. Told Does start.sink start.out rows' l at.sink at.out) (sym (append-nil was.written))
              (passed was.told row (none_of_none row.entry writes) (ap (λ i. searches_of i.item) (sym own_item) ∙ none) same)
          tells rows' (rows_of.filled before row after entry' whole empty one its takes writes same) searches = cc
          tells rows' (rows_of.both before row after entry' more whole empty one its takes writes no_entry no_search same) searches = cc

      -- the sink fails at the search
      pub open_front : (number : ℕ) (Fails : W → O → News → W → O → Type 0) (sink' : W) (out' : O) → Fails at.sink at.out (news.Open number) sink' out'
          → IsStopped Does Fails Holds readers start (items ++ item ∷ []) failed' sink' out'
      open_front number Fails sink' out' fails =
          stops_on (item ∷ []) [] new (was.published ++ versions_in []) was.answers (step_of [] takes) failed' counts (news.Open number) refl Fails sink' out' fails
