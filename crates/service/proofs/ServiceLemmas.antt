-- Steps of a service.
use Rattle.std.proofs.Common.{◌≡◌, ℕ, ◌+◌, ◌<◌, ◌≤◌, ◌⊎◌, inl, inr, List, [], ◌∷◌, ◌++◌, length, take, drop, Option, Some, Result, Ok, Err, true, refl, sym, ap, ◌∙◌, subst, arith}
use Rattle.std.proofs.Common.{append_assoc, length-append, get_or}
use Rattle.std.proofs.lemmas.List.{append-nil, length-replicate, length-take-le, length-drop}
use Rattle.std.proofs.lemmas.List.Elements.{All-append, All-take, All-drop, Contains-append_left, Contains-append_right}
use Rattle.std.proofs.lemmas.Option.{slice_get_within, get_or_from_slice_get, slice_get-get_or}
use Rattle.std.proofs.Math.Seq.{take-append_seam}
use Rattle.std.specs.Prelude.{All, Bool, Contains, IfOk, MatchBool, false, is_ok, replicate, slice_get}
use Rattle.std.specs.List.{HoldsAt}
use Rattle.std.specs.List.Sorted.{IsSearchInRange}
use Rattle.std.specs.Ordering.{nat_cmp}
use Rattle.std.specs.declared.cmp.Ordering.TheVariants.{Equal}
use Rattle.steps.proofs.RowLemmas.{last_or-append}
use mathlib.Core.List.{IsPrefix}
use Rattle.documents.specs.declared.command.Command.{Command}
use Rattle.documents.specs.State.{state_of}
use Rattle.views.specs.ShownOf.{IsShownOf}
use Rattle.views.specs.Shown.{Shown}
use Rattle.prepare.specs.Request.{Request}
use Rattle.prepare.specs.Prepared.{request_of}
use Rattle.prepare.specs.declared.pattern.Prepared.{Prepared}
use Rattle.logbook.specs.Pages.{Book}
use Rattle.documents.specs.declared.lengths.Lengths.{Lengths}
use Rattle.input.specs.declared.owned.OwnedItem.{OwnedItem}
use Rattle.input.specs.declared.owned.OwnedItem.TheVariants as owned
use Rattle.input.specs.Owned.{ShowsOwned}
use Rattle.script.specs.Items.{Item, Numbered}
use Rattle.script.specs.Items as item
use Rattle.published.specs.Desk.{DeskState}
use Rattle.published.specs.History.{Known}
use Rattle.transcript.specs.declared.entry.Entry.{Entry}
use Rattle.transcript.specs.declared.entry.Entry.TheVariants.{Published, Found, SearchRefused}
use Rattle.transcript.specs.declared.entry.SearchReason.{SearchReason}
use Rattle.transcript.specs.declared.entry.SearchReason.TheVariants as reason
use Rattle.steps.specs.Rows.{accepted_by, command_of, version_in, last_or, searches_of, is_sync}
use Rattle.steps.specs.LegalRows.{status_entry}
use Rattle.steps.specs.Asked.{Asks, IsFaultOf}
use Rattle.steps.specs.Steps.{Given, OpenSearch, MayTake, given, asked}
use Rattle.steps.specs.Asked as asking
use Rattle.steps.specs.Steps as steps
use Rattle.service.specs.declared.reply.Reply.{Reply}
use Rattle.service.specs.declared.reply.Reply.TheVariants as taken_as
use Rattle.service.specs.Service.{ServiceState, run_of, Fits, Steps, Takes, Gives, SetsAside, answered, not_answered, too_slow, CanStand, versions_in, without, written_by, failures_by, IsCounted, IsKind, HasNumber}
use Rattle.service.specs.Turns.{GivesTurn, HaveTurns, StillHave, TurnsState}
use Rattle.service.specs.Private.Items.{IsEntered, IsLeft, Tells, all, nothing}
use Rattle.service.specs.Opening.{limits_of}
use Rattle.service.specs.Private.Closing.{IsService, service_of, with_kept, CanClose, IsAsked, asked_for, refused, IsGivenUp}
use Rattle.service.specs.Private.Closing.{IsPlaceOf, IsCancelled, given_up, too_late, no_such_search}

-- the commands that one more entry accepts
abbrev accepted_in : Numbered → Option (List ℕ) → Entry → List Command
accepted_in item loaded entry = accepted_by (Some entry) (command_of item.item loaded)

pub prefix_length : {A : Type 0} (xs ys : List A) → IsPrefix xs ys → length xs ≤ length ys
prefix_length xs ys pre = omega (arith, ap length pre.1, length-append xs pre.0)

-- the last of some numbers is the default, or one of them
last_is_one : (default : ℕ) (xs : List ℕ) → (last_or default xs ≡ default) ⊎ Contains xs (last_or default xs)
last_is_one default [] = inl refl
last_is_one default (x ∷ xs) = by (last_is_one x xs)
  where
    by : (last_or x xs ≡ x) ⊎ Contains xs (last_or x xs) → (last_or x xs ≡ default) ⊎ Contains (x ∷ xs) (last_or x xs)
    by (inl is) = inr (subst (λ v. Contains (x ∷ xs) v) (sym is) (0, omega arith, refl))
    by (inr inside) = inr (Contains-append_right (x ∷ []) xs (last_or x xs) inside)

module _ (Holds : List ℕ → List ℕ → Type 0) (lengths : Lengths) (desk : DeskState) (told : Known) (failed : ℕ) (item : Numbered) (entry : Entry)
    (desk' : DeskState) (told' : Known) (failed' : ℕ) (entered : IsEntered Holds lengths desk told failed item entry desk' told' failed')
    (timed : Bool) (kept : List ℕ) (searches : ℕ) (awaited : List OpenSearch) (turns : TurnsState) where
  abbrev old : ServiceState
  old = service_of desk lengths timed told kept searches awaited turns

  abbrev new : ServiceState
  new = service_of desk' lengths timed told' kept searches awaited turns

  told_by : Tells desk told entry told' → IsPrefix told.commands desk.accepted
      → IsPrefix told'.commands desk'.accepted × (length told.commands ≤ length told'.commands)
  told_by (all line is told_is) begins = (
    (accepted_in item entered.loaded entry, ap (λ k. k.commands ++ accepted_in item entered.loaded entry) told_is ∙ sym entered.accepted),
    omega (arith, prefix_length told.commands desk.accepted begins, ap (λ k. length k.commands) told_is),
  )
  told_by (nothing none told_is) begins = (
    (
      begins.0 ++ accepted_in item entered.loaded entry,
      ap (λ k. k.commands ++ (begins.0 ++ accepted_in item entered.loaded entry)) told_is
          ∙ sym (append_assoc told.commands begins.0 (accepted_in item entered.loaded entry))
          ∙ ap (λ l. l ++ accepted_in item entered.loaded entry) begins.1 ∙ sym entered.accepted,
    ),
    omega (arith, ap (λ k. length k.commands) told_is),
  )

  -- after a command, the service is one
  pub entered_is_service : IsService old → IsService new
  entered_is_service is =
      let now = told_by entered.tells is.begins in
      record {
        begins = now.0;
        least = λ k d lt. omega (arith, is.least k d lt, now.1);
        few = is.few;
      }

  pub entered_opening : (book : Book) → desk.opening ≡ book → told.opening ≡ book → told'.opening ≡ book
  entered_opening book its also = by entered.tells
    where
      by : Tells desk told entry told' → told'.opening ≡ book
      by (all line is told_is) = ap (λ k. k.opening) told_is ∙ its
      by (nothing none told_is) = ap (λ k. k.opening) told_is ∙ also

  latest_by : Tells desk told entry told' → (published : List ℕ) → last_or 0 published ≡ length told.commands
      → last_or 0 (published ++ version_in (Some entry)) ≡ length told'.commands
  latest_by (all line is told_is) published latest =
      last_or-append 0 published (version_in (Some entry)) ∙ ap (λ e. last_or (last_or 0 published) (version_in (Some e))) is
      ∙ sym (ap (λ k. length k.commands) told_is)
  latest_by (nothing none told_is) published latest =
      last_or-append 0 published (version_in (Some entry)) ∙ ap (last_or (last_or 0 published)) none ∙ latest
      ∙ sym (ap (λ k. length k.commands) told_is)

  -- a command is carried out; kept': what is kept afterwards
  pub entered_takes : (kept' : List ℕ)
      → ((version : ℕ) → Contains kept' version → Contains kept version ⊎ Contains (version_in (Some entry)) version)
      → Takes Holds old item (entry ∷ []) (with_kept kept' new)
  entered_takes kept' sub published answers readers fits may = record {
    step = steps.carried_out item entered.loaded entry may entered.legal refl refl after;
    fits = record {
      latest = ap (last_or 0) one ∙ latest_by entered.tells published fits.latest;
      kept = λ version inside. subst (λ l. (version ≡ 0) ⊎ Contains l version) (sym one) (by version (sub version inside));
      turns = fits.turns;
    };
    limits = ap (λ n. limits_of n lengths timed) entered.limit;
  }
    where
      one : published ++ versions_in (entry ∷ []) ≡ published ++ version_in (Some entry)
      one = ap (λ l. published ++ l) (append-nil (version_in (Some entry)))

      by : (version : ℕ) → Contains kept version ⊎ Contains (version_in (Some entry)) version
          → (version ≡ 0) ⊎ Contains (published ++ version_in (Some entry)) version
      by version (inl was) = older (fits.kept version was)
        where
          older : (version ≡ 0) ⊎ Contains published version → (version ≡ 0) ⊎ Contains (published ++ version_in (Some entry)) version
          older (inl none) = inl none
          older (inr inside) = inr (Contains-append_left published (version_in (Some entry)) version inside)
      by version (inr is) = inr (Contains-append_right published (version_in (Some entry)) version is)

      after : run_of (with_kept kept' new) (published ++ versions_in (entry ∷ [])) answers ≡ steps.with_entry item.item entered.loaded entry (run_of old published answers)
      after = rw (entered.accepted, one) refl

-- nothing is published: the versions are as before
pub fits_still : (readers : ℕ) (was after : ServiceState) (published : List ℕ) (answers answers' : List Given) → after.told ≡ was.told → after.kept ≡ was.kept
    → HaveTurns readers answers' after.turns → Fits readers was published answers → Fits readers after (published ++ []) answers'
fits_still readers was after published answers answers' told kept have fits = record {
  latest = ap (last_or 0) (append-nil published) ∙ fits.latest ∙ sym (ap length told);
  kept =
      λ version inside.
      subst (λ l. (version ≡ 0) ⊎ Contains l version) (sym (append-nil published)) (fits.kept version (subst (λ l. Contains l version) kept inside));
  turns = have;
}

-- a search is open, or refused
pub asked_takes : (Holds : List ℕ → List ℕ → Type 0) (old : ServiceState) (item : Numbered) (result : Reply) (new : ServiceState)
    → IsAsked item.item old result new → Takes Holds old item (written_by result) new
asked_takes Holds old item result new (asked_for request asks is after) published answers readers fits may = rw (is, after) (record {
  step =
      steps.asked_for item request may asks refl refl
      (rw (append-nil published)
      (ap (λ n. record (run_of old published answers) { searches = old.searches + 1; awaited = old.awaited ++ record { number = old.searches + 1; item = item.item; least = n } ∷ [] })
      (sym fits.latest)));
  fits = fits_still readers old _ published answers answers refl refl fits.turns fits;
  limits = refl;
})
asked_takes Holds old item result new (refused why fault is) published answers readers fits may = rw (is.entry, is.left) (record {
  step = steps.refused item why may fault refl refl (rw (append-nil published) refl);
  fits = fits_still readers old _ published answers answers refl refl fits.turns fits;
  limits = refl;
})

-- the task of an open search has its number
pub asked_number : (item : Item) (old : ServiceState) (result : Reply) (new : ServiceState) → IsAsked item old result new
    → HasNumber new.searches result
asked_number item old result new (asked_for request asks is after) = rw (is, after) refl
asked_number item old result new (refused why fault is) = rw is.entry tt

-- only a search is open, or has the entry of a search
pub asked_kind : (item : Item) (old : ServiceState) (result : Reply) (new : ServiceState) → IsAsked item old result new → searches_of item ≡ 1
    → IsKind item result
asked_kind item old result new (asked_for request asks is after) one = rw is one
asked_kind item old result new (refused why fault is) one = rw is.entry (sym one)

-- a search is no load
pub asked_unfailed : (item : Item) (old : ServiceState) (result : Reply) (new : ServiceState) → IsAsked item old result new → failures_by result ≡ 0
asked_unfailed item old result new (asked_for request asks is after) = rw is refl
asked_unfailed item old result new (refused why fault is) = rw is.entry refl

-- no load failed
pub counted_zero : (n failed failed' : ℕ) → n ≡ 0 → failed' ≡ failed → IsCounted n failed failed'
counted_zero n failed failed' none same = record { rises = inl (omega (arith, none, same)); stays = λ full. same ∙ full }

-- of other items there is no task
pub no_number : (searches : ℕ) (item : Item) (result : Reply) → searches_of item ≡ 0 → IsKind item result → HasNumber searches result
no_number searches item (taken_as.Entry entry) none kind = tt
no_number searches item (taken_as.Search number) none kind = absurd (omega (arith, none, kind))
no_number searches item (taken_as.Cancelled entry) none kind = tt
no_number searches item taken_as.Nothing none kind = tt

pub sync_takes : (Holds : List ℕ → List ℕ → Type 0) (old : ServiceState) (item : Numbered) → is_sync item.item ≡ true → Takes Holds old item [] old
sync_takes Holds old item is published answers readers fits may = record {
  step = steps.sync item is (nothing_open may) refl refl (rw (append-nil published) refl);
  fits = fits_still readers old old published answers answers refl refl fits.turns fits;
  limits = refl;
}
  where
    nothing_open : MayTake readers (run_of old published answers) item.item → old.awaited ≡ []
    nothing_open (steps.settled none) = none
    nothing_open (steps.beside some no_sync) = let opposite = sym is ∙ no_sync in cc

-- a cancel closes an open search, or does nothing, or is refused
pub cancel_takes : (Holds : List ℕ → List ℕ → Type 0) (old : ServiceState) (taken : Numbered) (number : ℕ) (result : Reply) (new : ServiceState)
    → taken.item ≡ item.cancel number → IsCancelled taken.line number old result new → Takes Holds old taken (written_by result) new
cancel_takes Holds old taken number result new asks (given_up place entry found same is) published answers readers fits may =
    rw (is, found.refused, found.left) (record {
      step =
          steps.cancelled taken place found.search may (asks ∙ ap item.cancel (sym same)) found.is_open refl refl
          (rw (append-nil published) refl);
      fits = fits_still readers old _ published answers answers refl refl (found.still readers answers fits.turns) fits;
      limits = refl;
    })
cancel_takes Holds old taken number result new asks (too_late was gone is same) published answers readers fits may = rw (is, same) (record {
  step = steps.too_late taken number may asks was gone refl refl (rw (append-nil published) refl);
  fits = fits_still readers old old published answers answers refl refl fits.turns fits;
  limits = refl;
})
cancel_takes Holds old taken number result new asks (no_such_search was_not is same) published answers readers fits may = rw (is, same) (record {
  step = steps.no_such_search taken number may asks was_not refl refl (rw (append-nil published) refl);
  fits = fits_still readers old old published answers answers refl refl fits.turns fits;
  limits = refl;
})

-- a status changes nothing
pub status_takes : (Holds : List ℕ → List ℕ → Type 0) (old : ServiceState) (taken : Numbered) (entry : Entry) → taken.item ≡ item.status
    → entry ≡ status_entry taken.line (length old.told) old.accepted old.limits.commands (length old.awaited)
    → Takes Holds old taken (entry ∷ []) old
status_takes Holds old taken entry asks is published answers readers fits may = rw is (record {
  step =
      steps.reported taken may asks refl
      (ap (λ v. status_entry taken.line v old.accepted old.limits.commands (length old.awaited) ∷ []) (sym fits.latest))
      (rw (append-nil published) refl);
  fits = fits_still readers old old published answers answers refl refl fits.turns fits;
  limits = refl;
})

-- an open search is closed
module _ (old : ServiceState) (place : ℕ) (search : OpenSearch) (is_open : slice_get old.awaited place ≡ Some search) where
  within : place < length old.awaited
  within = slice_get_within old.awaited place search is_open

  pub closed_is_service : (turns : TurnsState) → IsService old → IsService (without place turns old)
  closed_is_service turns is = record {
    begins = is.begins;
    least =
        All-append (λ s. s.least ≤ length old.told) (take place old.awaited) (drop (place + 1) old.awaited)
        (All-take (λ s. s.least ≤ length old.told) place old.awaited is.least) (All-drop (λ s. s.least ≤ length old.told) (place + 1) old.awaited is.least);
    few =
        omega (
          arith,
          is.few,
          within,
          length-append (take place old.awaited) (drop (place + 1) old.awaited),
          length-take-le place old.awaited (omega (arith, within)),
          length-drop (place + 1) old.awaited,
        );
  }

-- An open search that gets its entry is a step of the run.
module _ (Holds : List ℕ → List ℕ → Type 0) (old : ServiceState) (published : List ℕ) (answers : List Given) (readers : ℕ)
    (fits : Fits readers old published answers) where
  last_published : (version : ℕ) → version ≡ length old.told → (version ≡ 0) ⊎ Contains published version
  last_published version latest = one (last_is_one 0 published)
    where
      one : (last_or 0 published ≡ 0) ⊎ Contains published (last_or 0 published) → (version ≡ 0) ⊎ Contains published version
      one (inl none) = inl (latest ∙ sym fits.latest ∙ none)
      one (inr inside) = inr (subst (λ v. Contains published v) (fits.latest ∙ sym latest) inside)

  was_published : (version : ℕ) → (version ≡ length old.told) ⊎ Contains old.kept version → (version ≡ 0) ⊎ Contains published version
  was_published version (inl latest) = last_published version latest
  was_published version (inr inside) = fits.kept version inside

  pub gives_step : (entry : Entry) (new : ServiceState) → Gives old entry new
      → (answers' : List Given) × Steps Holds readers old published answers [] (entry ∷ []) new published answers'
  gives_step entry new (answered place search reader turn answer turns is_open can gives is after) =
      let x = given reader turn answer.version in
      let turned = gives readers answers fits.turns in (
        answers ++ x ∷ [],
        rw (is, after) (record {
          step =
              steps.answered place search reader turn answer is_open
              (record {
                request = can.request;
                asks = can.asks;
                exact = can.exact;
                published = was_published answer.version can.published;
                not_older = can.not_older;
                one_of_them = turned.0;
                in_turn = turned.1;
              }) refl refl refl;
          fits = record { latest = fits.latest; kept = fits.kept; turns = turned.2 };
          limits = refl;
        }),
      )
  gives_step entry new (not_answered place search turns is_open still is after) = (
    answers,
    rw (is, after) (record {
      step = steps.not_answered place search is_open refl refl refl;
      fits = record { latest = fits.latest; kept = fits.kept; turns = still readers answers fits.turns };
      limits = refl;
    }),
  )
  gives_step entry new (too_slow place search turns timed is_open still is after) = (
    answers,
    rw (is, after) (record {
      step = steps.too_slow place search timed is_open refl refl refl;
      fits = record { latest = fits.latest; kept = fits.kept; turns = still readers answers fits.turns };
      limits = refl;
    }),
  )

-- Between two steps turns may be set aside.
pub aside_fits : (readers : ℕ) (old new : ServiceState) (published : List ℕ) (answers : List Given) → SetsAside old new
    → Fits readers old published answers → Fits readers new published answers
aside_fits readers was after published answers sets fits = record {
  latest = fits.latest ∙ sym (ap (λ s. length s.told) sets.left);
  kept = λ version inside. fits.kept version (subst (λ s. Contains s.kept version) sets.left inside);
  turns = sets.still readers answers fits.turns;
}

-- what is checked of a reader's answer, and that it is right, make it one that can stand
pub can_stand : (service : ServiceState) (search : OpenSearch) (answer : Shown) (seen : List Command) (item : Item) (request : Request)
    → IsService service → item ≡ search.item → Asks item request → IsShownOf (state_of seen) request answer
    → IsPrefix seen service.told → Contains service.kept answer.version → search.least ≤ answer.version → CanStand service search answer
can_stand service search answer seen item request is same asks right begins kept least =
    let whole : seen ++ (begins.0 ++ is.begins.0) ≡ service.accepted =
    sym (append_assoc seen begins.0 is.begins.0) ∙ ap (λ l. l ++ is.begins.0) begins.1 ∙ is.begins.1 in
    let cut : take answer.version service.accepted ≡ seen =
    ap (λ v. take v service.accepted) (right.version ∙ right.is_answer.version) ∙ (ap (take (length seen)) (sym whole) ∙ take-append_seam seen (begins.0 ++ is.begins.0)) in
    record {
      request = request;
      asks = subst (λ i. Asks i request) same asks;
      exact = subst (λ c. IsShownOf (state_of c) request answer) (sym cut) right;
      published = inr kept;
      seen = omega (arith, (right.version ∙ right.is_answer.version), prefix_length seen service.told begins);
      not_older = least;
    }

-- so does an answer from what was published last
pub last_can_stand : (service : ServiceState) (search : OpenSearch) (place : ℕ) (answer : Shown) (item : Item) (prepared : Prepared)
    → IsService service → slice_get service.awaited place ≡ Some search → item ≡ search.item → Asks item (request_of prepared)
    → IsShownOf (state_of service.told) (request_of prepared) answer → CanClose service place answer
last_can_stand service search place answer item prepared is is_open same asks right =
    let cut : take answer.version service.accepted ≡ service.told =
    ap (λ v. take v service.accepted) (right.version ∙ right.is_answer.version) ∙ (ap (take (length service.told)) (sym is.begins.1) ∙ take-append_seam service.told is.begins.0) in
    let at : get_or service.awaited place search ≡ search = get_or_from_slice_get service.awaited place search search is_open in
    record {
      search = search;
      is_open = is_open;
      stands = record {
        request = request_of prepared;
        asks = subst (λ i. Asks i (request_of prepared)) same asks;
        exact = subst (λ c. IsShownOf (state_of c) (request_of prepared) answer) (sym cut) right;
        published = inl (right.version ∙ right.is_answer.version);
        seen = omega (arith, (right.version ∙ right.is_answer.version));
        not_older = omega (arith, (right.version ∙ right.is_answer.version), ap (λ s. s.least) at, is.least place search (slice_get_within service.awaited place search is_open));
      };
    }

-- any search can be refused for memory
pub memory_is_fault : (item : Item) → searches_of item ≡ 1 → IsFaultOf item reason.OutOfMemory
memory_is_fault (item.search case text) one = asking.no_memory refl
memory_is_fault (item.search_in case name_text text) one = asking.no_memory refl
memory_is_fault (item.find text) one = asking.no_memory refl
memory_is_fault (item.put name body) one = absurd (omega (arith, one))
memory_is_fault (item.load name path) one = absurd (omega (arith, one))
memory_is_fault (item.remove name) one = absurd (omega (arith, one))
memory_is_fault (item.remove_under prefix) one = absurd (omega (arith, one))
memory_is_fault (item.copy_under from to) one = absurd (omega (arith, one))
memory_is_fault item.publish one = absurd (omega (arith, one))
memory_is_fault item.sync one = absurd (omega (arith, one))
memory_is_fault (item.cancel number) one = absurd (omega (arith, one))
memory_is_fault item.status one = absurd (omega (arith, one))
memory_is_fault item.bad_line one = absurd (omega (arith, one))
memory_is_fault item.bad_put one = absurd (omega (arith, one))
memory_is_fault item.truncated one = absurd (omega (arith, one))
memory_is_fault item.body_not_closed one = absurd (omega (arith, one))

-- a version that a binary search finds is in the list
pub found_in_list : ((x y : ℕ) → nat_cmp x y ≡ Equal → x ≡ y) → (versions : List ℕ) (v n : ℕ) (r : Result ℕ ℕ) → n ≡ length versions
    → IsSearchInRange r n → IfOk r (HoldsAt (λ y. nat_cmp y v ≡ Equal) versions)
    → MatchBool (is_ok r) (Contains versions v) (Unit {0})
found_in_list same versions v n (Ok k) same_length bound ok = (k, subst (λ m. k < m) same_length bound, same (get_or versions k v) v (ok v))
found_in_list same versions v n (Err k) same_length bound ok = tt

pub if_true : {P Q : Type 0} (b : Bool) → (Q → P) → MatchBool b Q (Unit {0}) → MatchBool b P (Unit {0})
if_true true f m = f m
if_true false f m = m

-- an answer of a reader can close the search at a place
pub can_close : (service : ServiceState) (place version : ℕ) (search : OpenSearch) (answer : Shown) (seen : List Command) (asked_item : Item)
    (request : Request) → IsService service → place < length service.awaited → search ≡ get_or service.awaited place search → asked_item ≡ search.item
    → Asks asked_item request → IsShownOf (state_of seen) request answer → IsPrefix seen service.told
    → version ≡ answer.version → Contains service.kept version → search.least ≤ version → CanClose service place answer
can_close service place version search answer seen asked_item request is within here same asks right begins is_version kept least = record {
  search = search;
  is_open = slice_get-get_or service.awaited place search within ∙ ap Some (sym here);
  stands =
      can_stand service search answer seen asked_item request is same asks right begins (subst (λ v. Contains service.kept v) is_version kept)
      (omega (arith, least, is_version));
}

-- a search is closed
module _ (inside : ServiceState) (place number : ℕ) (within : place < length inside.awaited) (found : OpenSearch)
    (here : found ≡ get_or inside.awaited place found) (is_number : number ≡ found.number) (awaited' : List OpenSearch)
    (left : awaited' ≡ take place inside.awaited ++ drop (place + 1) inside.awaited) (turns : TurnsState) where
  abbrev after : ServiceState
  after = record inside { awaited = awaited'; turns = turns }

  is_open : slice_get inside.awaited place ≡ Some found
  is_open = slice_get-get_or inside.awaited place found within ∙ ap Some (sym here)

  pub is_refused : (why : SearchReason) → StillHave inside.turns turns → IsGivenUp place why inside (SearchRefused number why) after
  is_refused why still = record {
    search = found;
    is_open = is_open;
    refused = ap (λ n. SearchRefused n why) is_number;
    still = still;
    left = rw left refl;
  }

  pub gives_answer : (reader turn : ℕ) (answer : Shown) → CanClose inside place answer → GivesTurn inside.turns (given reader turn answer.version) turns
      → Gives inside (Found number reader turn answer) after
  gives_answer reader turn answer closes gives =
      let same : found ≡ closes.search = here ∙ get_or_from_slice_get inside.awaited place closes.search found closes.is_open in
      answered place closes.search reader turn answer turns closes.is_open closes.stands gives
      (ap (λ n. Found n reader turn answer) (is_number ∙ ap (λ s. s.number) same)) (rw left refl)

  pub after_is_service : IsService inside → IsService after
  after_is_service is = rw left (closed_is_service inside place found is_open turns is)

-- a search that is closed after turns were set aside
pub gives_after : (old mid : ServiceState) (entry : Entry) (new : ServiceState) → SetsAside old mid → Gives mid entry new → Gives old entry new
gives_after old mid entry new sets gives = by (subst (λ m. Gives m entry new) sets.left gives)
  where
    by : Gives (record old { turns = mid.turns }) entry new → Gives old entry new
    by (answered place search reader turn answer turns is_open can given is after) =
        answered place search reader turn answer turns is_open
        (record {
          request = can.request;
          asks = can.asks;
          exact = can.exact;
          published = can.published;
          seen = can.seen;
          not_older = can.not_older;
        }) (λ readers answers have. given readers answers (sets.still readers answers have)) is after
    by (not_answered place search turns is_open still is after) =
        not_answered place search turns is_open (λ readers answers have. still readers answers (sets.still readers answers have)) is after
    by (too_slow place search turns timed is_open still is after) =
        too_slow place search turns timed is_open (λ readers answers have. still readers answers (sets.still readers answers have)) is after

-- after a publish, what is kept was kept before, or is its version
pub kept_note : (old kept' : List ℕ) (entry : Entry) (line v : ℕ) → entry ≡ Published line v
    → ((version : ℕ) → Contains kept' version → Contains old version ⊎ (version ≡ v))
    → (version : ℕ) → Contains kept' version → Contains old version ⊎ Contains (version_in (Some entry)) version
kept_note old kept' entry line v is sub version inside = by (sub version inside)
  where
    by : Contains old version ⊎ (version ≡ v) → Contains old version ⊎ Contains (version_in (Some entry)) version
    by (inl was) = inl was
    by (inr same) = inr (rw (is, same) (0, omega arith, refl))

pub either_map : {P P' Q : Type 0} → (P → P') → P ⊎ Q → P' ⊎ Q
either_map f (inl p) = inl (f p)
either_map f (inr q) = inr q

-- the desk and what was told of are as they were
pub left_same : (desk : DeskState) (told : Known) (failed : ℕ) (desk' : DeskState) (told' : Known) (failed' : ℕ) (lengths : Lengths) (timed : Bool) (kept : List ℕ) (searches : ℕ)
    (awaited : List OpenSearch) (turns : TurnsState) → IsLeft desk told failed desk' told' failed'
    → service_of desk' lengths timed told' kept searches awaited turns ≡ service_of desk lengths timed told kept searches awaited turns
left_same desk told failed desk' told' failed' lengths timed kept searches awaited turns left = rw (left.0, left.1) refl

-- the open search that a cancel names is refused
pub cancelled_at : (line number place : ℕ) (old : ServiceState) (entry : Entry) (new : ServiceState) → IsPlaceOf old.awaited number place
    → IsGivenUp place reason.Cancelled old entry new → IsCancelled line number old (taken_as.Cancelled entry) new
cancelled_at line number place old entry new at found =
    given_up place entry found (ap (λ s. s.number) (one_search (sym found.is_open ∙ at.is_open)) ∙ at.same) refl
  where
    one_search : {s s' : OpenSearch} → Some s ≡ Some s' → s ≡ s'
    one_search is = cc

-- an open search is refused for want of memory, or as too slow
pub gives_memory : (place : ℕ) (old : ServiceState) (entry : Entry) (new : ServiceState) → IsGivenUp place reason.OutOfMemory old entry new
    → Gives old entry new
gives_memory place was entry after is = not_answered place is.search after.turns is.is_open is.still is.refused is.left

pub gives_too_slow : (place : ℕ) (old : ServiceState) (entry : Entry) (new : ServiceState) → old.limits.timed ≡ true
    → IsGivenUp place reason.TooSlow old entry new → Gives old entry new
gives_too_slow place was entry after timed is = too_slow place is.search after.turns timed is.is_open is.still is.refused is.left

-- whatever was read shows something
pub shown_some : (o : OwnedItem) → (i : Item) × ShowsOwned o i
shown_some (owned.Put name body) = (item.put name.items body.items, refl)
shown_some (owned.SkippedPut name size) = (item.put name.items (replicate size 0), (replicate size 0, refl, length-replicate {A = ℕ} size 0))
shown_some (owned.Load name path) = (item.load name.items path.items, refl)
shown_some (owned.Remove name) = (item.remove name.items, refl)
shown_some (owned.RemoveUnder prefix) = (item.remove_under prefix.items, refl)
shown_some (owned.CopyUnder from to) = (item.copy_under from.items to.items, refl)
shown_some owned.Publish = (item.publish, refl)
shown_some (owned.Search case pattern) = (item.search case pattern.items, refl)
shown_some (owned.SearchIn case name_pattern pattern) = (item.search_in case name_pattern.items pattern.items, refl)
shown_some (owned.Find text) = (item.find text.items, refl)
shown_some owned.Sync = (item.sync, refl)
shown_some (owned.Cancel number) = (item.cancel number, refl)
shown_some owned.Status = (item.status, refl)
shown_some owned.BadLine = (item.bad_line, refl)
shown_some owned.BadPut = (item.bad_put, refl)
shown_some owned.Truncated = (item.truncated, refl)
shown_some owned.BodyNotClosed = (item.body_not_closed, refl)
