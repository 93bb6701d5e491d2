-- A run or a session goes on from event to event, and ends.
use Rattle.std.proofs.Common.{◌≡◌, ℕ, zero, suc, ◌+◌, Bool, true, false, inl, List, [], ◌∷◌, ◌++◌, Option, None, Result, Ok, Err, refl, sym, ap, ◌∙◌, subst, arith}
use Rattle.std.proofs.Common.{append_assoc, append-nil}
use Rattle.std.proofs.lemmas.List.Sorted.{IsPermutation-refl}
use Rattle.std.specs.Prelude.{Contains, IfOk, OnOk, OnErr}
use Rattle.script.specs.Items.{Item, Numbered, numbered}
use Rattle.input.specs.declared.read_item.ReadItem.{ReadItem}
use Rattle.input.specs.Owned.{ShowsOwned}
use Rattle.input.specs.Read.{AreShown, none, one_more, InboxState, inbox_state, Came, CameIn, HasItems, IsReadOf, EndsBy}
use Rattle.input.specs.Read as reads
use Rattle.steps.specs.LegalRows.{Limits}
use Rattle.steps.specs.Steps.{IsFirst, begins}
use Rattle.steps.proofs.SourceLemmas.{runs_mapped}
use Rattle.steps.proofs.StepLemmas.{first_rows}
use Rattle.service.proofs.TurnsLemmas.{first_have}
use Rattle.service.specs.Service.{ServiceState, Fits, first_service, run_of}
use Rattle.event_loop.specs.declared.error.LiveError.{LiveError}
use Rattle.event_loop.specs.declared.sink.News.{News}
use Rattle.event_loop.specs.Running.{Start, Now, now, start_at, told_nothing, first_run, IsRunning, IsStopped, TakesOne, FailsAtOne}
use Rattle.event_loop.specs.Serving.{IsServing, IsCutOff, IsAdvanced, IsDone, TakesEvent, FailsAtEvent}
use Rattle.event_loop.specs.Serving as serving
use Rattle.event_loop.proofs.HeldLemmas.{rows_mapped}
use Rattle.event_loop.proofs.RunLemmas.{none_failed, stops_here, answers_on, answers_front}

-- a list of what was read, and what it shows
pub shown_split : (reads more : List ReadItem) (items : List Numbered) → AreShown (reads ++ more) items
    → (front : List Numbered) × (back : List Numbered) × (items ≡ front ++ back) × AreShown reads front × AreShown more back
shown_split [] more items shown = ([], items, refl, none, shown)
shown_split (r ∷ reads) more _ (one_more {reads = both} {items} read i shows are) =
    let rest = shown_split reads more items are in
    (numbered read.line i ∷ rest.0, rest.1, ap (λ l. numbered read.line i ∷ l) rest.2, one_more read i shows rest.3, rest.4)

-- a list of what was read, and one item more
shown_last : (reads : List ReadItem) (read : ReadItem) (items : List Numbered) → AreShown (reads ++ read ∷ []) items
    → (front : List Numbered) × (i : Item) × (items ≡ front ++ numbered read.line i ∷ []) × AreShown reads front × ShowsOwned read.item i
shown_last reads read items shown = let split = shown_split reads (read ∷ []) items shown in by split.0 split.1 split.2 split.3 split.4
  where
    by : (front back : List Numbered) → items ≡ front ++ back → AreShown reads front → AreShown (read ∷ []) back
        → (front : List Numbered) × (i : Item) × (items ≡ front ++ numbered read.line i ∷ []) × AreShown reads front × ShowsOwned read.item i
    by front _ is are (one_more r i shows none) = (front, i, is, are, shows)

-- Before the first item.

first_fits : (limits : Limits) (readers : ℕ) → Fits readers (first_service limits readers) [] []
first_fits limits readers = record { latest = refl; kept = λ version inside. inl (first version inside); turns = first_have readers }
  where
    first : (version : ℕ) → Contains (0 ∷ []) version → version ≡ 0
    first version (zero, few, same) = sym same
    first version (suc k, few, same) = absurd (omega (arith, few))

pub first_is_first : (limits : Limits) (readers : ℕ) → IsFirst (first_run limits readers)
first_is_first limits readers = record {
  accepted = refl;
  published = refl;
  searches = refl;
  awaited = refl;
  answers = refl;
}

module _ {W O : Type 0} (Does : W → O → News → W → O → Type 0) (Holds : List ℕ → List ℕ → Type 0) (readers : ℕ) where
  running_begins : (limits : Limits) (service : ServiceState) (failed : ℕ) (sink : W) (out : O) → service ≡ first_service limits readers
      → IsRunning Does Holds readers (start_at limits failed sink out) [] (now service failed sink out)
  running_begins limits service failed sink out first = rw first (record {
    rows = [];
    published = [];
    answers = [];
    written = [];
    runs = begins;
    same = IsPermutation-refl [];
    taken = refl;
    are_rows = first_rows Holds limits readers (first_run limits readers) (first_is_first limits readers);
    fits = first_fits limits readers;
    limits = refl;
    told = told_nothing;
    failures = none_failed failed;
  })

  pub serving_begins : (input : Option (List ℕ)) (inbox : InboxState) (service : ServiceState) (failed : ℕ) (sink : W) (out : O)
      → service ≡ first_service service.limits readers → inbox ≡ inbox_state [] [] None → IsReadOf input inbox.came
      → IsServing Does Holds readers input (start_at service.limits failed sink out) inbox (now service failed sink out)
  serving_begins input inbox service failed sink out first empty read = record {
    taken = [];
    running = λ items shown. by items shown;
    came = ap (λ i. i.came) empty ∙ sym (ap (λ i. i.held) empty);
    read = read;
  }
    where
      by : (items : List Numbered) → AreShown [] items
          → IsRunning Does Holds readers (start_at service.limits failed sink out) items (now service failed sink out)
      by _ none = running_begins service.limits service failed sink out first

  module _ (input : Option (List ℕ)) (start : Start W O) (inbox : InboxState) (at : Now W O) (is_serving : IsServing Does Holds readers input start inbox at) where
    -- It stops before it has taken all that came.
    pub cut_here : (Fails : W → O → News → W → O → Type 0) → IsCutOff Does Fails Holds readers input start at.failed at.sink at.out
    cut_here Fails = record {
      taken = is_serving.taken;
      untaken = inbox.held;
      stopped = λ items shown. stops_here Does Holds readers start items at (is_serving.running items shown) Fails;
      read = subst (IsReadOf input) is_serving.came is_serving.read;
    }

    -- More came.
    came_more : (inbox' : InboxState) (this : Came) → CameIn this inbox inbox' → IsReadOf input inbox'.came
        → IsServing Does Holds readers input start inbox' at
    came_more inbox' (reads.item read) is now_read = record {
      taken = is_serving.taken;
      running = is_serving.running;
      came =
          ap (λ i. i.came) is ∙ ap (λ l. l ++ read ∷ []) is_serving.came ∙ append_assoc is_serving.taken inbox.held (read ∷ [])
          ∙ ap (λ l. is_serving.taken ++ l) (sym (ap (λ i. i.held) is));
      read = now_read;
    }
    came_more inbox' (reads.end ended) is now_read = record {
      taken = is_serving.taken;
      running = is_serving.running;
      came = ap (λ i. i.came) is.1 ∙ is_serving.came ∙ ap (λ l. is_serving.taken ++ l) (sym (ap (λ i. i.held) is.1));
      read = now_read;
    }

    -- An event was taken.
    serving_event : (inbox' : InboxState) (service : ServiceState) (sink : W) (out : O)
        → TakesEvent Does input inbox at.service at.sink at.out inbox' service sink out
        → IsServing Does Holds readers input start inbox' (now service at.failed sink out)
    serving_event inbox' service sink out (serving.came this more read same_service same_sink same_out) =
        rw (same_service, same_sink, same_out) (came_more inbox' this more read)
    serving_event inbox' service sink out (serving.answered same answers) = rw same (record {
      taken = is_serving.taken;
      running = λ items shown. answers_on Does Holds readers start items at (is_serving.running items shown) service sink out answers;
      came = is_serving.came;
      read = is_serving.read;
    })

    cut_event : (Fails : W → O → News → W → O → Type 0) (service : ServiceState) (sink : W) (out : O)
        → FailsAtEvent Fails at.service at.sink at.out service sink out → IsCutOff Does Fails Holds readers input start at.failed sink out
    cut_event Fails service sink out (serving.at_once same_sink same_out) = rw (same_sink, same_out) (cut_here Fails)
    cut_event Fails service sink out (serving.in_part {last} front) = record {
      taken = is_serving.taken;
      untaken = inbox.held;
      stopped = λ items shown. answers_front Does Holds readers start items at (is_serving.running items shown) Fails last sink out front;
      read = subst (IsReadOf input) is_serving.came is_serving.read;
    }

    -- An item was taken.
    module _ (read : ReadItem) (inbox' : InboxState) (held : inbox.held ≡ read ∷ inbox'.held) (same : inbox'.came ≡ inbox.came) where
      came_now : inbox.came ≡ (is_serving.taken ++ read ∷ []) ++ inbox'.held
      came_now = is_serving.came ∙ ap (λ l. is_serving.taken ++ l) held ∙ sym (append_assoc is_serving.taken (read ∷ []) inbox'.held)

      pub serving_took : (at' : Now W O) → TakesOne Does Holds readers read at at' → IsServing Does Holds readers input start inbox' at'
      serving_took at' takes = record {
        taken = is_serving.taken ++ read ∷ [];
        running =
            λ items shown.
            let split = shown_last is_serving.taken read items shown in
            subst (λ l. IsRunning Does Holds readers start l at') (sym split.2)
            (takes start split.0 split.1 split.4 (is_serving.running split.0 split.3));
        came = same ∙ came_now;
        read = subst (IsReadOf input) (sym same) is_serving.read;
      }

      pub cut_took : (Fails : W → O → News → W → O → Type 0) (failed : ℕ) (sink : W) (out : O)
          → FailsAtOne Does Fails Holds readers read at failed sink out → IsCutOff Does Fails Holds readers input start failed sink out
      cut_took Fails failed sink out fails = record {
        taken = is_serving.taken ++ read ∷ [];
        untaken = inbox'.held;
        stopped =
            λ items shown.
            let split = shown_last is_serving.taken read items shown in
            subst (λ l. IsStopped Does Fails Holds readers start l failed sink out) (sym split.2)
            (fails start split.0 split.1 split.4 (is_serving.running split.0 split.3));
        read = subst (IsReadOf input) came_now is_serving.read;
      }

  -- An event that was taken, or was not.
  module _ (input : Option (List ℕ)) (inbox inbox' : InboxState) (at : Now W O) (service : ServiceState) (sink : W) (out : O) where
    pub event_advances : (result : Result Bool LiveError)
        → IfOk result (λ goes_on. (goes_on ≡ true) × TakesEvent Does input inbox at.service at.sink at.out inbox' service sink out)
        → IfOk result (λ goes_on. (start : Start W O) → IsServing Does Holds readers input start inbox at
        → IsAdvanced Does Holds readers input start goes_on inbox' (now service at.failed sink out))
    event_advances (Ok goes_on) is = λ start before.
        subst (λ b. IsAdvanced Does Holds readers input start b inbox' (now service at.failed sink out)) (sym is.0)
        (serving_event input start inbox at before inbox' service sink out is.1)
    event_advances (Err error) is = is

    pub event_cuts : (Fails : W → O → News → W → O → Type 0) (result : Result Bool LiveError)
        → OnErr result (FailsAtEvent Fails at.service at.sink at.out service sink out)
        → OnErr result ((start : Start W O) → IsServing Does Holds readers input start inbox at
        → IsCutOff Does Fails Holds readers input start at.failed sink out)
    event_cuts Fails (Ok goes_on) fails = fails
    event_cuts Fails (Err error) fails = λ start before. cut_event input start inbox at before Fails service sink out fails

  -- All is taken.
  pub done_at_end : (input : Option (List ℕ)) (start : Start W O) (inbox : InboxState) (at : Now W O)
      → IsAdvanced Does Holds readers input start false inbox at → EndsBy input inbox.came None → IsDone Does Holds readers input start at
  done_at_end input start inbox at over ends = record {
    items = ends.items;
    all = ends.all;
    running = over.0.running ends.items (subst (λ l. AreShown l ends.items) (over.0.came ∙ ap (λ l. over.0.taken ++ l) over.1 ∙ append-nil over.0.taken) ends.shown);
    settled = over.2;
  }

-- What the source holds later, it held at first, and the other way round.
module _ {W O : Type 0} (Does Fails : W → O → News → W → O → Type 0) (H H' : List ℕ → List ℕ → Type 0)
    (holds : (path body : List ℕ) → H path body → H' path body) (readers : ℕ) (start : Start W O) where
  running_mapped : (items : List Numbered) (at : Now W O) → IsRunning Does H readers start items at → IsRunning Does H' readers start items at
  running_mapped items at was = record {
    rows = was.rows;
    published = was.published;
    answers = was.answers;
    written = was.written;
    runs = runs_mapped H H' holds start.limits readers (first_run start.limits readers) was.runs;
    same = was.same;
    taken = was.taken;
    are_rows = rows_mapped H H' holds start.limits readers (run_of at.service was.published was.answers) was.rows was.are_rows;
    fits = was.fits;
    limits = was.limits;
    told = was.told;
    failures = was.failures;
  }

  serving_mapped : (input : Option (List ℕ)) (inbox : InboxState) (at : Now W O) → IsServing Does H readers input start inbox at
      → IsServing Does H' readers input start inbox at
  serving_mapped input inbox at is = record {
    taken = is.taken;
    running = λ items shown. running_mapped items at (is.running items shown);
    came = is.came;
    read = is.read;
  }

  advanced_mapped : (input : Option (List ℕ)) (goes_on : Bool) (inbox : InboxState) (at : Now W O)
      → IsAdvanced Does H readers input start goes_on inbox at → IsAdvanced Does H' readers input start goes_on inbox at
  advanced_mapped input true inbox at is = serving_mapped input inbox at is
  advanced_mapped input false inbox at is = (serving_mapped input inbox at is.0, is.1, is.2, is.3)

  cut_mapped : (input : Option (List ℕ)) (failed : ℕ) (sink : W) (out : O) → IsCutOff Does Fails H readers input start failed sink out
      → IsCutOff Does Fails H' readers input start failed sink out
  cut_mapped input failed sink out is = record {
    taken = is.taken;
    untaken = is.untaken;
    stopped = λ items shown. let stopped = is.stopped items shown in record {
      written = stopped.written;
      end = stopped.end;
      runs = runs_mapped H H' holds start.limits readers (first_run start.limits readers) stopped.runs;
      told = stopped.told;
      failures = stopped.failures;
    };
    read = is.read;
  }

-- A step with a source that holds what it held at first.
module _ {W O : Type 0} (Does Fails : W → O → News → W → O → Type 0) (H H' : List ℕ → List ℕ → Type 0)
    (held : (path body : List ℕ) → (H' path body → H path body) × (H path body → H' path body)) (readers : ℕ) (start : Start W O)
    (input : Option (List ℕ)) (inbox : InboxState) (at : Now W O) (is_serving : IsServing Does H readers input start inbox at) where
  abbrev serving_now : IsServing Does H' readers input start inbox at
  serving_now = serving_mapped Does Fails H H' (λ path body. (held path body).1) readers start input inbox at is_serving

  pub stepped : (goes_on later : Bool) → later ≡ goes_on → (inbox' : InboxState) (at' : Now W O)
      → ((start : Start W O) → IsServing Does H' readers input start inbox at → IsAdvanced Does H' readers input start later inbox' at')
      → IsAdvanced Does H readers input start goes_on inbox' at'
  stepped goes_on later is inbox' at' step =
      advanced_mapped Does Fails H' H (λ path body. (held path body).0) readers start input goes_on inbox' at'
      (subst (λ b. IsAdvanced Does H' readers input start b inbox' at') is (step start serving_now))

  pub cut_off : (failed : ℕ) (sink : W) (out : O)
      → ((start : Start W O) → IsServing Does H' readers input start inbox at → IsCutOff Does Fails H' readers input start failed sink out)
      → IsCutOff Does Fails H readers input start failed sink out
  cut_off failed sink out step =
      cut_mapped Does Fails H' H (λ path body. (held path body).0) readers start input failed sink out (step start serving_now)

pub on_ok_map : {A E : Type 0} (result : Result A E) {P Q : Type 0} → (P → Q) → OnOk result P → OnOk result Q
on_ok_map (Ok a) f is = f is
on_ok_map (Err e) f is = tt

pub on_err_map : {A E : Type 0} (result : Result A E) {P Q : Type 0} → (P → Q) → OnErr result P → OnErr result Q
on_err_map (Ok a) f is = tt
on_err_map (Err e) f is = f is

pub on_err : {A E : Type 0} (result : Result A E) (P : Type 0) → P → OnErr result P
on_err (Ok a) P is = tt
on_err (Err e) P is = is
