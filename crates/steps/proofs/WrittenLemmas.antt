-- What the entries of a run say, in the order of writing.
use Rattle.std.proofs.Common.{◌≡◌, ◌≢◌, ℕ, ◌+◌, ◌≤◌, ◌<◌, ◌⊎◌, inl, inr, Bool, true, false, cond, eqb, List, [], ◌∷◌, ◌++◌, Option}
use Rattle.std.proofs.Common.{take, drop, length, length-append, refl, sym, ap, ◌∙◌, subst, arith}
use Rattle.std.specs.Prelude.{count_by, sum_by, Contains}
use Rattle.std.specs.List.{AllByRecursion}
use Rattle.std.proofs.lemmas.List.{append-nil}
use Rattle.std.proofs.lemmas.List.Elements.{All-contains, All-from_recursion, All-get_or}
use Rattle.std.proofs.lemmas.Option.{slice_get_within, get_or_from_slice_get}
use Rattle.std.proofs.lemmas.List.Sums.{sum_by-append}
use Rattle.std.proofs.lemmas.Bool.{cases_lt}
use Rattle.std.proofs.lemmas.Bool.Decides.{eqb_tells}
use Rattle.std.proofs.lemmas.Grind.{flat_map-append}
use Rattle.documents.specs.State.{state_of}
use Rattle.script.specs.Items.{Item, Numbered, numbered, search, search_in, find, sync, cancel, status}
use Rattle.transcript.specs.declared.entry.Entry.{Entry}
use Rattle.transcript.specs.declared.entry.Entry.TheVariants.{Refused, SearchRefused}
use Rattle.transcript.specs.declared.entry.Reason.TheVariants as reason
use Rattle.transcript.specs.declared.entry.SearchReason.{SearchReason}
use Rattle.transcript.specs.declared.entry.SearchReason.TheVariants as search_reason
use Rattle.steps.specs.Rows.{is_sync, searches_of}
use Rattle.steps.specs.LegalRows.{Limits, IsCommandEntry, WasAsked, WasNotAsked}
use Rattle.steps.specs.Steps.{RunState, OpenSearch, IsStep, Runs, IsFirst, IsOpenAt, IsNotOpen, MayTake, asked, without, status_now}
use Rattle.steps.specs.Steps as steps
use Rattle.steps.specs.StepRows.{searches_in}
use Rattle.steps.specs.Entries.{is_of, count_of, searches_among, line_in, lines_in, command_line, is_cancel, HaveLines, no_items, one_more, left_out, takes_memory}
use Rattle.steps.proofs.OpenLemmas.{around}
use Rattle.steps.proofs.TurnLemmas.{each_both}
use Rattle.steps.proofs.EntryLemmas.{IsPlain, accepts, refuses, publishes, plain_entry, plain_by, command_is_no_search}
use Rattle.steps.proofs.EntryLemmas.{sync_is_no_search, asks_is_search, fault_is_of_search, is_late, fault_is_not_late}
use Rattle.steps.proofs.RunLemmas.{runs_keep}

-- One item is taken.
module _ (Holds : List ℕ → List ℕ → Type 0) (limits : Limits) (readers : ℕ) (s : RunState) (item : Numbered) (written : List Entry) (s' : RunState) where
  taken_is : {x : Numbered} → item ∷ [] ≡ x ∷ [] → x ≡ item
  taken_is e = cc

  taken_by : IsStep Holds limits readers s (item ∷ []) written s' → MayTake readers s item.item
  taken_by (steps.carried_out other loaded entry may h takes writes same) = subst (λ n. MayTake readers s n.item) (taken_is takes) may
  taken_by (steps.asked_for other request may asks takes writes same) = subst (λ n. MayTake readers s n.item) (taken_is takes) may
  taken_by (steps.refused other why may fault takes writes same) = subst (λ n. MayTake readers s n.item) (taken_is takes) may
  taken_by (steps.answered place wanted reader turn answer is_open now takes writes same) = cc
  taken_by (steps.not_answered place wanted is_open takes writes same) = cc
  taken_by (steps.too_slow place wanted timed is_open takes writes same) = cc
  taken_by (steps.cancelled other place wanted may is is_open takes writes same) = subst (λ n. MayTake readers s n.item) (taken_is takes) may
  taken_by (steps.too_late other number may is was_asked not_open takes writes same) = subst (λ n. MayTake readers s n.item) (taken_is takes) may
  taken_by (steps.no_such_search other number may is not_asked takes writes same) = subst (λ n. MayTake readers s n.item) (taken_is takes) may
  taken_by (steps.reported other may is takes writes same) = subst (λ n. MayTake readers s n.item) (taken_is takes) may
  taken_by (steps.sync other is empty takes writes same) = steps.settled empty

  pub nothing_open_alone : readers ≡ 0 → IsStep Holds limits readers s (item ∷ []) written s' → s.awaited ≡ []
  nothing_open_alone none step = by (taken_by step)
    where
      by : MayTake readers s item.item → s.awaited ≡ []
      by (steps.settled empty) = empty
      by (steps.beside some no_sync) = absurd (omega (arith, some, none))

  pub nothing_open_at_sync : is_sync item.item ≡ true → IsStep Holds limits readers s (item ∷ []) written s' → s.awaited ≡ []
  nothing_open_at_sync is step = by (taken_by step)
    where
      by : MayTake readers s item.item → s.awaited ≡ []
      by (steps.settled empty) = empty
      by (steps.beside some no_sync) = let no = sym is ∙ no_sync in cc

  -- Memory runs out for puts, loads, removes and publishes alone.
  pub memory_refusal : (line : ℕ) → written ≡ Refused line reason.OutOfMemory ∷ [] → IsStep Holds limits readers s (item ∷ []) written s'
      → takes_memory item.item ≡ true
  memory_refusal line is (steps.carried_out other loaded entry may h takes writes same) =
      ap (λ n. takes_memory n.item) (sym (taken_is takes))
      ∙ by (plain_entry Holds limits.lengths limits.commands (state_of s.accepted) loaded other.line other.item entry h) (let e = sym writes ∙ is in cc)
    where
      by : {version line' : ℕ} {item' : Item} {entry' : Entry} → IsPlain version line' item' entry' → entry' ≡ Refused line reason.OutOfMemory
          → takes_memory item' ≡ true
      by (accepts count e) here = cc
      by (refuses why e memory) here = memory (cc)
      by (publishes e) here = cc
  memory_refusal line is (steps.asked_for other request may asks takes writes same) = cc
  memory_refusal line is (steps.refused other why may fault takes writes same) = cc
  memory_refusal line is (steps.answered place wanted reader turn answer is_open now takes writes same) = cc
  memory_refusal line is (steps.not_answered place wanted is_open takes writes same) = cc
  memory_refusal line is (steps.too_slow place wanted timed is_open takes writes same) = cc
  memory_refusal line is (steps.cancelled other place wanted may cancels is_open takes writes same) = cc
  memory_refusal line is (steps.too_late other number may cancels was_asked not_open takes writes same) = cc
  memory_refusal line is (steps.no_such_search other number may cancels not_asked takes writes same) = cc
  memory_refusal line is (steps.reported other may reports takes writes same) = cc
  memory_refusal line is (steps.sync other also empty takes writes same) = cc

  -- a cancel or a status that is taken
  module _ (wish : Item) (is : item.item ≡ wish) where
    wish_is : {x : Numbered} → item ∷ [] ≡ x ∷ [] → x.item ≡ wish
    wish_is e = ap (λ n. n.item) (taken_is e) ∙ is

    no_command : {x : Numbered} (loaded : Option (List ℕ)) (line : ℕ) (entry : Entry)
        → (IsCommandEntry Holds limits.lengths limits.commands (state_of s.accepted) loaded line wish entry → ⊥) → item ∷ [] ≡ x ∷ []
        → IsCommandEntry Holds limits.lengths limits.commands (state_of s.accepted) loaded line x.item entry → ⊥
    no_command {x} loaded line entry never takes h =
        never (subst (λ i. IsCommandEntry Holds limits.lengths limits.commands (state_of s.accepted) loaded line i entry) (wish_is takes) h)

    no_search_asked : {x : Numbered} → searches_of wish ≡ 0 → item ∷ [] ≡ x ∷ [] → searches_of x.item ≡ 1 → ⊥
    no_search_asked never takes one = omega (arith, never, one, ap searches_of (wish_is takes))

  asked_or_not : (number : ℕ) → WasAsked number s.searches → WasNotAsked number s.searches → ⊥
  asked_or_not number was_asked (inl zero) = omega (arith, was_asked.0, zero)
  asked_or_not number was_asked (inr past) = omega (arith, was_asked.1, past)

  open_or_not : (place : ℕ) (wanted : OpenSearch) → IsOpenAt s place wanted → IsNotOpen s wanted.number → ⊥
  open_or_not place wanted is_open not_open =
      All-get_or (λ x. x.number ≢ wanted.number) s.awaited place wanted (slice_get_within s.awaited place wanted is_open) not_open
      (ap (λ x. x.number) (get_or_from_slice_get s.awaited place wanted wanted is_open))

  -- A cancel of an open search refuses it.
  pub cancel_refuses : (place : ℕ) (wanted : OpenSearch) → IsOpenAt s place wanted → WasAsked wanted.number s.searches
      → item.item ≡ cancel wanted.number → IsStep Holds limits readers s (item ∷ []) written s'
      → written ≡ SearchRefused wanted.number search_reason.Cancelled ∷ []
  cancel_refuses place wanted is_open was_asked is (steps.carried_out other loaded entry may h takes writes same) =
      absurd (no_command (cancel wanted.number) is loaded other.line entry (λ h. h) takes h)
  cancel_refuses place wanted is_open was_asked is (steps.asked_for other request may asks takes writes same) =
      absurd (no_search_asked (cancel wanted.number) is refl takes (asks_is_search other.item request asks))
  cancel_refuses place wanted is_open was_asked is (steps.refused other why may fault takes writes same) =
      absurd (no_search_asked (cancel wanted.number) is refl takes (fault_is_of_search other.item why fault))
  cancel_refuses place wanted is_open was_asked is (steps.answered place' wanted' reader turn answer is_open' now takes writes same) = cc
  cancel_refuses place wanted is_open was_asked is (steps.not_answered place' wanted' is_open' takes writes same) = cc
  cancel_refuses place wanted is_open was_asked is (steps.too_slow place' wanted' timed is_open' takes writes same) = cc
  cancel_refuses place wanted is_open was_asked is (steps.cancelled other place' wanted' may cancels is_open' takes writes same) =
      let same_number : wanted'.number ≡ wanted.number = let e = sym cancels ∙ wish_is (cancel wanted.number) is takes in cc in
      writes ∙ ap (λ n. SearchRefused n search_reason.Cancelled ∷ []) same_number
  cancel_refuses place wanted is_open was_asked is (steps.too_late other number may cancels asked' not_open takes writes same) =
      let same_number : number ≡ wanted.number = let e = sym cancels ∙ wish_is (cancel wanted.number) is takes in cc in
      absurd (open_or_not place wanted is_open (subst (IsNotOpen s) same_number not_open))
  cancel_refuses place wanted is_open was_asked is (steps.no_such_search other number may cancels not_asked takes writes same) =
      let same_number : number ≡ wanted.number = let e = sym cancels ∙ wish_is (cancel wanted.number) is takes in cc in
      absurd (asked_or_not wanted.number was_asked (subst (λ n. WasNotAsked n s.searches) same_number not_asked))
  cancel_refuses place wanted is_open was_asked is (steps.reported other may reports takes writes same) =
      let e = sym reports ∙ wish_is (cancel wanted.number) is takes in cc
  cancel_refuses place wanted is_open was_asked is (steps.sync other syncs empty takes writes same) =
      let e = sym syncs ∙ ap is_sync (wish_is (cancel wanted.number) is takes) in cc

  -- A status shows the state.
  pub status_shows : item.item ≡ status → IsStep Holds limits readers s (item ∷ []) written s'
      → (written ≡ status_now limits s item.line ∷ []) × (s' ≡ s)
  status_shows is (steps.carried_out other loaded entry may h takes writes same) =
      absurd (no_command status is loaded other.line entry (λ h. h) takes h)
  status_shows is (steps.asked_for other request may asks takes writes same) =
      absurd (no_search_asked status is refl takes (asks_is_search other.item request asks))
  status_shows is (steps.refused other why may fault takes writes same) =
      absurd (no_search_asked status is refl takes (fault_is_of_search other.item why fault))
  status_shows is (steps.answered place wanted reader turn answer is_open now takes writes same) = cc
  status_shows is (steps.not_answered place wanted is_open takes writes same) = cc
  status_shows is (steps.too_slow place wanted timed is_open takes writes same) = cc
  status_shows is (steps.cancelled other place wanted may cancels is_open takes writes same) = let e = sym cancels ∙ wish_is status is takes in cc
  status_shows is (steps.too_late other number may cancels was_asked not_open takes writes same) = let e = sym cancels ∙ wish_is status is takes in cc
  status_shows is (steps.no_such_search other number may cancels not_asked takes writes same) = let e = sym cancels ∙ wish_is status is takes in cc
  status_shows is (steps.reported other may reports takes writes same) = (writes ∙ ap (λ n. status_now limits s n.line ∷ []) (taken_is takes), same)
  status_shows is (steps.sync other syncs empty takes writes same) = let e = sym syncs ∙ ap is_sync (wish_is status is takes) in cc

-- The lines of the entries are those of the items that are neither searches nor syncs, but for cancels that have none.
module _ (Holds : List ℕ → List ℕ → Type 0) (limits : Limits) (readers : ℕ) where
  line_of_command : (s : RunState) (loaded : Option (List ℕ)) (line : ℕ) (item : Item) (entry : Entry)
      → IsCommandEntry Holds limits.lengths limits.commands (state_of s.accepted) loaded line item entry → command_line line item ≡ line ∷ []
  line_of_command s loaded line (search case text) entry h = absurd h
  line_of_command s loaded line (search_in case name_text text) entry h = absurd h
  line_of_command s loaded line (find text) entry h = absurd h
  line_of_command s loaded line sync entry h = absurd h
  line_of_command s loaded line item entry h = refl

  no_line_of_search : (line : ℕ) (item : Item) → searches_of item ≡ 1 → command_line line item ≡ []
  no_line_of_search line (search case text) one = refl
  no_line_of_search line (search_in case name_text text) one = refl
  no_line_of_search line (find text) one = refl
  no_line_of_search line item one = absurd (omega (arith, one))

  no_line_of_sync : (line : ℕ) (item : Item) → is_sync item ≡ true → command_line line item ≡ []
  no_line_of_sync line sync is = refl
  no_line_of_sync line item is = cc

  module _ {items : List Numbered} {lines : List ℕ} (so_far : HaveLines items lines) (taken : List Numbered) (written : List Entry) where
    -- what is written has these lines
    line_of : (item : Numbered) (some : List ℕ) → taken ≡ item ∷ [] → command_line item.line item.item ≡ some → lines_in written ≡ some ++ []
        → HaveLines (items ++ taken) (lines ++ lines_in written)
    line_of item some takes is are =
        one_more item so_far (ap (λ t. items ++ t) takes) (ap (λ l. lines ++ l) (are ∙ append-nil some ∙ sym is))

    no_line : HaveLines (items ++ taken) lines → lines_in written ≡ [] → HaveLines (items ++ taken) (lines ++ lines_in written)
    no_line have nothing = subst (λ l. HaveLines (items ++ taken) l) (sym (ap (λ l. lines ++ l) nothing ∙ append-nil lines)) have

    none_taken : taken ≡ [] → lines_in written ≡ [] → HaveLines (items ++ taken) (lines ++ lines_in written)
    none_taken takes = no_line (subst (λ i. HaveLines i lines) (sym (ap (λ t. items ++ t) takes ∙ append-nil items)) so_far)

    cancel_taken : (item : Numbered) {number : ℕ} → item.item ≡ cancel number → taken ≡ item ∷ [] → lines_in written ≡ []
        → HaveLines (items ++ taken) (lines ++ lines_in written)
    cancel_taken item is takes = no_line (left_out item so_far (ap is_cancel is) (ap (λ t. items ++ t) takes))

    step_lines : (s s' : RunState) → IsStep Holds limits readers s taken written s' → HaveLines (items ++ taken) (lines ++ lines_in written)
    step_lines s s' (steps.carried_out item loaded entry may h takes writes same) =
        line_of item (item.line ∷ []) takes (line_of_command s loaded item.line item.item entry h)
        (ap lines_in writes
        ∙ plain_by (plain_entry Holds limits.lengths limits.commands (state_of s.accepted) loaded item.line item.item entry h) (λ e. line_in e ++ [] ≡ item.line ∷ [])
        (λ count. refl) (λ why. refl) refl)
    step_lines s s' (steps.asked_for item request may asks takes writes same) =
        line_of item [] takes (no_line_of_search item.line item.item (asks_is_search item.item request asks)) (ap lines_in writes)
    step_lines s s' (steps.refused item why may fault takes writes same) =
        line_of item [] takes (no_line_of_search item.line item.item (fault_is_of_search item.item why fault)) (ap lines_in writes)
    step_lines s s' (steps.answered place wanted reader turn answer is_open now takes writes same) = none_taken takes (ap lines_in writes)
    step_lines s s' (steps.not_answered place wanted is_open takes writes same) = none_taken takes (ap lines_in writes)
    step_lines s s' (steps.too_slow place wanted timed is_open takes writes same) = none_taken takes (ap lines_in writes)
    step_lines s s' (steps.cancelled item place wanted may is is_open takes writes same) = cancel_taken item is takes (ap lines_in writes)
    step_lines s s' (steps.too_late item number may is was_asked not_open takes writes same) = cancel_taken item is takes (ap lines_in writes)
    step_lines s s' (steps.no_such_search item number may is not_asked takes writes same) =
        line_of item (item.line ∷ []) takes (ap (command_line item.line) is) (ap lines_in writes)
    step_lines s s' (steps.reported item may is takes writes same) =
        line_of item (item.line ∷ []) takes (ap (command_line item.line) is) (ap lines_in writes)
    step_lines s s' (steps.sync item is empty takes writes same) =
        line_of item [] takes (no_line_of_sync item.line item.item is) (ap lines_in writes)

  pub run_lines : (from : RunState) {items : List Numbered} {entries : List Entry} {s : RunState} → Runs Holds limits readers from items entries s
      → HaveLines items (lines_in entries)
  run_lines from =
      runs_keep Holds limits readers from (λ items entries s. HaveLines items (lines_in entries)) no_items
      (λ items entries s taken written s' so_far step.
      subst (HaveLines (items ++ taken)) (sym (flat_map-append line_in entries written)) (step_lines so_far taken written s s' step))

-- Without a limit of time no search is too slow.
abbrev is_timely : Entry → Bool
is_timely (SearchRefused number search_reason.TooSlow) = false
is_timely entry = true

module _ (Holds : List ℕ → List ℕ → Type 0) (limits : Limits) (readers : ℕ) (untimed : limits.timed ≡ false) where
  timely_at_once : (number : ℕ) (why : SearchReason) → is_late why ≡ false → is_timely (SearchRefused number why) ≡ true
  timely_at_once number search_reason.TooSlow at_once = cc
  timely_at_once number why at_once = refl

  one_timely : (entry : Entry) (written : List Entry) → written ≡ entry ∷ [] → is_timely entry ≡ true → AllByRecursion (λ e. is_timely e ≡ true) written
  one_timely entry written writes is = subst (AllByRecursion (λ e. is_timely e ≡ true)) (sym writes) (is, tt)

  none_timely : (written : List Entry) → written ≡ [] → AllByRecursion (λ e. is_timely e ≡ true) written
  none_timely written writes = subst (AllByRecursion (λ e. is_timely e ≡ true)) (sym writes) tt

  step_timely : (s : RunState) (taken : List Numbered) (written : List Entry) (s' : RunState) → IsStep Holds limits readers s taken written s'
      → AllByRecursion (λ e. is_timely e ≡ true) written
  step_timely s taken written s' (steps.carried_out item loaded entry may h takes writes same) =
      one_timely entry written writes
      (plain_by (plain_entry Holds limits.lengths limits.commands (state_of s.accepted) loaded item.line item.item entry h) (λ e. is_timely e ≡ true)
      (λ count. refl) (λ why. refl) refl)
  step_timely s taken written s' (steps.asked_for item request may asks takes writes same) = none_timely written writes
  step_timely s taken written s' (steps.refused item why may fault takes writes same) =
      one_timely _ written writes (timely_at_once (s.searches + 1) why (fault_is_not_late item.item why fault))
  step_timely s taken written s' (steps.answered place wanted reader turn answer is_open now takes writes same) = one_timely _ written writes refl
  step_timely s taken written s' (steps.not_answered place wanted is_open takes writes same) = one_timely _ written writes refl
  step_timely s taken written s' (steps.too_slow place wanted timed is_open takes writes same) = let never = sym untimed ∙ timed in cc
  step_timely s taken written s' (steps.cancelled item place wanted may is is_open takes writes same) = one_timely _ written writes refl
  step_timely s taken written s' (steps.too_late item number may is was_asked not_open takes writes same) = none_timely written writes
  step_timely s taken written s' (steps.no_such_search item number may is not_asked takes writes same) = one_timely _ written writes refl
  step_timely s taken written s' (steps.reported item may is takes writes same) = one_timely _ written writes refl
  step_timely s taken written s' (steps.sync item is empty takes writes same) = none_timely written writes

  pub run_timely : (from : RunState) {items : List Numbered} {entries : List Entry} {s : RunState} → Runs Holds limits readers from items entries s
      → (number : ℕ) → Contains entries (SearchRefused number search_reason.TooSlow) → ⊥
  run_timely from {items} {entries} {s} run number inside =
      let timely : AllByRecursion (λ e. is_timely e ≡ true) entries =
      runs_keep Holds limits readers from (λ items entries s. AllByRecursion (λ e. is_timely e ≡ true) entries) tt
      (λ items entries s taken written s' so_far step.
      each_both (λ e. is_timely e ≡ true) entries written so_far (step_timely s taken written s' step)) run in
      let never : is_timely (SearchRefused number search_reason.TooSlow) ≡ true =
      All-contains (λ e. is_timely e ≡ true) entries _ (All-from_recursion (λ e. is_timely e ≡ true) entries timely) inside in
      cc

-- Only a cancel refuses a search as cancelled.
module _ (Holds : List ℕ → List ℕ → Type 0) (limits : Limits) (readers : ℕ) (s : RunState) (taken : List Numbered) (written : List Entry) (s' : RunState)
    (number : ℕ) (is : written ≡ SearchRefused number search_reason.Cancelled ∷ []) where
  pub refused_by_cancel : IsStep Holds limits readers s taken written s' → (line : ℕ) × (taken ≡ numbered line (cancel number) ∷ [])
  refused_by_cancel (steps.carried_out item loaded entry may h takes writes same) =
      absurd
      (plain_by (plain_entry Holds limits.lengths limits.commands (state_of s.accepted) loaded item.line item.item entry h)
      (λ e. e ≡ SearchRefused number search_reason.Cancelled → ⊥) (λ count e. cc) (λ why e. cc) (λ e. cc) (let e = sym writes ∙ is in cc))
  refused_by_cancel (steps.asked_for item request may asks takes writes same) = cc
  refused_by_cancel (steps.refused item why may fault takes writes same) =
      let same_why : why ≡ search_reason.Cancelled = let e = sym writes ∙ is in cc in
      let at_once = sym (fault_is_not_late item.item why fault) ∙ ap is_late same_why in
      cc
  refused_by_cancel (steps.answered place wanted reader turn answer is_open now takes writes same) = cc
  refused_by_cancel (steps.not_answered place wanted is_open takes writes same) = cc
  refused_by_cancel (steps.too_slow place wanted timed is_open takes writes same) = cc
  refused_by_cancel (steps.cancelled item place wanted may cancels is_open takes writes same) =
      let same_number : wanted.number ≡ number = let e = sym writes ∙ is in cc in
      (item.line, takes ∙ ap (λ i. numbered item.line i ∷ []) (cancels ∙ ap cancel same_number))
  refused_by_cancel (steps.too_late item other may cancels was_asked not_open takes writes same) = cc
  refused_by_cancel (steps.no_such_search item other may cancels not_asked takes writes same) = cc
  refused_by_cancel (steps.reported item may reports takes writes same) = cc
  refused_by_cancel (steps.sync item also empty takes writes same) = cc

-- How many entries each search has.
abbrev waiting : ℕ → List OpenSearch → ℕ
waiting number awaited = count_by (λ x. eqb x.number number) awaited

-- the entries of the search, and the open searches of its number
abbrev total : ℕ → List Entry → RunState → ℕ
total number entries s = count_of number entries + waiting number s.awaited

-- how many of these new searches, of which the first has the number after `count`, have this number: at limits one
abbrev new : ℕ → ℕ → ℕ → ℕ
new count number n = cond (eqb (count + 1) number) n 0

abbrev IsNew : ℕ → ℕ → ℕ → Type 0
IsNew count number n = ((count + 1 ≡ number) × (new count number n ≡ n)) ⊎ ((count + 1 ≢ number) × (new count number n ≡ 0))

new_or_not : (count number n : ℕ) → IsNew count number n
new_or_not count number n = by (eqb_tells (count + 1) number)
  where
    by : ((eqb (count + 1) number ≡ true) × (count + 1 ≡ number)) ⊎ ((eqb (count + 1) number ≡ false) × (count + 1 ≢ number)) → IsNew count number n
    by (inl same) = inl (same.1, ap (λ t. cond t n 0) same.0)
    by (inr other) = inr (other.1, ap (λ t. cond t n 0) other.0)

none_new : (count number n : ℕ) → n ≡ 0 → new count number n ≡ 0
none_new count number n none = by (new_or_not count number n)
  where
    by : IsNew count number n → new count number n ≡ 0
    by (inl same) = same.1 ∙ none
    by (inr other) = other.1

waiting-append : (number : ℕ) (xs ys : List OpenSearch) → waiting number (xs ++ ys) ≡ waiting number xs + waiting number ys
waiting-append number xs ys = sum_by-append (λ x. cond (eqb x.number number) 1 0) xs ys

waiting_around : (number : ℕ) (s : RunState) (place : ℕ) (wanted : OpenSearch) → IsOpenAt s place wanted
    → waiting number s.awaited ≡ cond (eqb wanted.number number) 1 0 + waiting number (take place s.awaited ++ drop (place + 1) s.awaited)
waiting_around number s place wanted is_open =
    omega (
      arith,
      ap (waiting number) (around s.awaited place wanted is_open),
      waiting-append number (take place s.awaited) (wanted ∷ drop (place + 1) s.awaited),
      waiting-append number (wanted ∷ []) (drop (place + 1) s.awaited),
      waiting-append number (take place s.awaited) (drop (place + 1) s.awaited),
    )

-- What one step counts.
record IsStepCounted (s : RunState) (taken : List Numbered) (written : List Entry) (s' : RunState) : Type 0 where
  pub few : searches_among taken ≤ 1
  pub searches : s'.searches ≡ s.searches + searches_among taken
  pub counts : (number : ℕ) → total number written s' ≡ waiting number s.awaited + new s.searches number (searches_among taken)
  pub still_open : length s'.awaited + sum_by searches_in written ≡ length s.awaited + searches_among taken

module _ (Holds : List ℕ → List ℕ → Type 0) (limits : Limits) (readers : ℕ) (s : RunState) (taken : List Numbered) (written : List Entry) (s' : RunState) where
  -- an item that is no search
  no_search : (item : Numbered) → taken ≡ item ∷ [] → searches_of item.item ≡ 0 → s'.searches ≡ s.searches → s'.awaited ≡ s.awaited
      → ((number : ℕ) → count_of number written ≡ 0) → sum_by searches_in written ≡ 0 → IsStepCounted s taken written s'
  no_search item takes none same same_open counts quiet =
      let zero : searches_among taken ≡ 0 = omega (arith, ap searches_among takes, none) in
      record {
        few = omega (arith, zero);
        searches = omega (arith, zero, same);
        counts = λ number.
            omega (arith, counts number, ap (waiting number) same_open, none_new s.searches number (searches_among taken) zero);
        still_open = omega (arith, zero, quiet, ap length same_open);
      }

  -- an open search has its entry
  entered : (place : ℕ) (wanted : OpenSearch) → IsOpenAt s place wanted → searches_among taken ≡ 0 → s'.searches ≡ s.searches
      → s'.awaited ≡ take place s.awaited ++ drop (place + 1) s.awaited
      → ((number : ℕ) → count_of number written ≡ cond (eqb wanted.number number) 1 0) → sum_by searches_in written ≡ 1
      → IsStepCounted s taken written s'
  entered place wanted is_open zero same left counts its = record {
    few = omega (arith, zero);
    searches = omega (arith, zero, same);
    counts = λ number.
        omega (
          arith,
          counts number,
          ap (waiting number) left,
          waiting_around number s place wanted is_open,
          none_new s.searches number (searches_among taken) zero,
        );
    still_open =
        omega (
          arith,
          zero,
          its,
          ap length left,
          ap length (around s.awaited place wanted is_open),
          length-append (take place s.awaited) (wanted ∷ drop (place + 1) s.awaited),
          length-append (take place s.awaited) (drop (place + 1) s.awaited),
        );
  }

  refused_later : (place : ℕ) (wanted : OpenSearch) (why : SearchReason) → IsOpenAt s place wanted → searches_among taken ≡ 0
      → written ≡ SearchRefused wanted.number why ∷ [] → s' ≡ without place s → IsStepCounted s taken written s'
  refused_later place wanted why is_open zero writes same =
      entered place wanted is_open zero (ap (λ t. t.searches) same) (ap (λ t. t.awaited) same) (λ number. omega (arith, ap (count_of number) writes))
      (ap (sum_by searches_in) writes)

  step_counted : IsStep Holds limits readers s taken written s' → IsStepCounted s taken written s'
  step_counted (steps.carried_out item loaded entry may h takes writes same) =
      no_search item takes (command_is_no_search Holds limits.lengths limits.commands (state_of s.accepted) loaded item.line item.item entry h)
      (ap (λ t. t.searches) same) (ap (λ t. t.awaited) same)
      (λ number.
      ap (count_of number) writes
      ∙ plain_by (plain_entry Holds limits.lengths limits.commands (state_of s.accepted) loaded item.line item.item entry h) (λ e. count_of number (e ∷ []) ≡ 0)
      (λ count. refl) (λ why. refl) refl)
      (ap (sum_by searches_in) writes
      ∙ plain_by (plain_entry Holds limits.lengths limits.commands (state_of s.accepted) loaded item.line item.item entry h) (λ e. sum_by searches_in (e ∷ []) ≡ 0)
      (λ count. refl) (λ why. refl) refl)
  step_counted (steps.asked_for item request may asks takes writes same) =
      let is_one : searches_among taken ≡ 1 = omega (arith, ap searches_among takes, asks_is_search item.item request asks) in
      record {
        few = omega (arith, is_one);
        searches = omega (arith, is_one, ap (λ t. t.searches) same);
        counts = λ number.
            omega (
              arith,
              ap (count_of number) writes,
              ap (λ t. waiting number t.awaited) same,
              waiting-append number s.awaited (asked item.item s ∷ []),
              ap (new s.searches number) is_one,
            );
        still_open =
            omega (
              arith,
              is_one,
              ap (sum_by searches_in) writes,
              ap (λ t. length t.awaited) same,
              length-append s.awaited (asked item.item s ∷ []),
            );
      }
  step_counted (steps.refused item why may fault takes writes same) =
      let is_one : searches_among taken ≡ 1 = omega (arith, ap searches_among takes, fault_is_of_search item.item why fault) in
      record {
        few = omega (arith, is_one);
        searches = omega (arith, is_one, ap (λ t. t.searches) same);
        counts = λ number.
            omega (
              arith,
              ap (count_of number) writes,
              ap (λ t. waiting number t.awaited) same,
              ap (new s.searches number) is_one,
            );
        still_open = omega (arith, is_one, ap (sum_by searches_in) writes, ap (λ t. length t.awaited) same);
      }
  step_counted (steps.answered place wanted reader turn answer is_open now takes writes same) =
      entered place wanted is_open (ap searches_among takes) (ap (λ t. t.searches) same) (ap (λ t. t.awaited) same)
      (λ number. omega (arith, ap (count_of number) writes)) (ap (sum_by searches_in) writes)
  step_counted (steps.not_answered place wanted is_open takes writes same) =
      refused_later place wanted search_reason.OutOfMemory is_open (ap searches_among takes) writes same
  step_counted (steps.too_slow place wanted timed is_open takes writes same) =
      refused_later place wanted search_reason.TooSlow is_open (ap searches_among takes) writes same
  step_counted (steps.cancelled item place wanted may is is_open takes writes same) =
      refused_later place wanted search_reason.Cancelled is_open (omega (arith, ap searches_among takes, ap searches_of is)) writes same
  step_counted (steps.too_late item number may is was_asked not_open takes writes same) =
      no_search item takes (ap searches_of is) (ap (λ t. t.searches) same) (ap (λ t. t.awaited) same) (λ number. ap (count_of number) writes)
      (ap (sum_by searches_in) writes)
  step_counted (steps.no_such_search item number may is not_asked takes writes same) =
      no_search item takes (ap searches_of is) (ap (λ t. t.searches) same) (ap (λ t. t.awaited) same) (λ number. ap (count_of number) writes)
      (ap (sum_by searches_in) writes)
  step_counted (steps.reported item may is takes writes same) =
      no_search item takes (ap searches_of is) (ap (λ t. t.searches) same) (ap (λ t. t.awaited) same) (λ number. ap (count_of number) writes)
      (ap (sum_by searches_in) writes)
  step_counted (steps.sync item is empty takes writes same) =
      no_search item takes (sync_is_no_search item.item is) (ap (λ t. t.searches) same) (ap (λ t. t.awaited) same)
      (λ number. ap (count_of number) writes) (ap (sum_by searches_in) writes)

-- Each search so far has one entry, or it is open.
pub record AreCounted (items : List Numbered) (entries : List Entry) (s : RunState) : Type 0 where
  pub searches : s.searches ≡ searches_among items
  pub zero : count_of 0 entries + count_by (λ x. eqb x.number 0) s.awaited ≡ 0
  pub past : (number : ℕ) → s.searches < number → count_of number entries + count_by (λ x. eqb x.number number) s.awaited ≡ 0
  pub once : (number : ℕ) → 0 < number → number ≤ s.searches
      → count_of number entries + count_by (λ x. eqb x.number number) s.awaited ≡ 1
  pub still_open : length s.awaited + sum_by searches_in entries ≡ s.searches

-- At any time each number has at most one entry.
pub once_at_most : (items : List Numbered) (entries : List Entry) (s : RunState) → AreCounted items entries s → (number : ℕ)
    → count_of number entries ≤ 1
once_at_most items entries s counted number = by (cases_lt s.searches number) (cases_lt 0 number)
  where
    by : (s.searches < number) ⊎ (number ≤ s.searches) → (0 < number) ⊎ (number ≤ 0) → count_of number entries ≤ 1
    by (inl past) some = omega (arith, counted.past number past)
    by (inr le) (inl some) = omega (arith, counted.once number some le)
    by (inr le) (inr none) =
        let zero : number ≡ 0 = omega (arith, none) in
        omega (arith, ap (λ n. count_of n entries) zero, counted.zero)

module _ (items : List Numbered) (entries : List Entry) (s : RunState) (taken : List Numbered) (written : List Entry) (s' : RunState)
    (old : AreCounted items entries s) (step : IsStepCounted s taken written s') where
  more_by : (number : ℕ) → total number (entries ++ written) s' ≡ total number entries s + new s.searches number (searches_among taken)
  more_by number = omega (arith, step.counts number, sum_by-append (λ e. cond (is_of number e) 1 0) entries written)

  counted_push : AreCounted (items ++ taken) (entries ++ written) s'
  counted_push = record {
    searches = omega (arith, old.searches, step.searches, sum_by-append (λ item. searches_of item.item) items taken);
    zero = by_zero (new_or_not s.searches 0 (searches_among taken));
    past = λ number lt. by_past number lt (new_or_not s.searches number (searches_among taken));
    once = λ number some le. by_once number some le (new_or_not s.searches number (searches_among taken));
    still_open = omega (arith, old.still_open, step.still_open, step.searches, sum_by-append searches_in entries written);
  }
    where
      by_zero : IsNew s.searches 0 (searches_among taken) → total 0 (entries ++ written) s' ≡ 0
      by_zero (inl same) = absurd (omega (arith, same.0))
      by_zero (inr other) = omega (arith, other.1, more_by 0, old.zero)

      by_past : (number : ℕ) → s'.searches < number → IsNew s.searches number (searches_among taken) → total number (entries ++ written) s' ≡ 0
      by_past number lt (inl same) =
          omega (arith, same.0, same.1, lt, step.searches, more_by number, old.past number (omega (arith, same.0)))
      by_past number lt (inr other) = omega (arith, other.1, more_by number, old.past number (omega (arith, lt, step.searches)))

      by_once : (number : ℕ) → 0 < number → number ≤ s'.searches → IsNew s.searches number (searches_among taken)
          → total number (entries ++ written) s' ≡ 1
      by_once number some le (inl same) =
          omega (arith, same.0, same.1, le, step.searches, step.few, more_by number, old.past number (omega (arith, same.0)))
      by_once number some le (inr other) =
          omega (
            arith,
            other.1,
            more_by number,
            old.once number some (omega (arith, other.0, le, step.searches, step.few)),
          )

pub run_counted : (Holds : List ℕ → List ℕ → Type 0) (limits : Limits) (readers : ℕ) (from : RunState) → IsFirst from
    → {items : List Numbered} {entries : List Entry} {s : RunState} → Runs Holds limits readers from items entries s → AreCounted items entries s
run_counted Holds limits readers from first =
    runs_keep Holds limits readers from AreCounted
    (record {
      searches = first.searches;
      zero = omega (arith, ap (waiting 0) first.awaited);
      past = λ number lt. omega (arith, ap (waiting number) first.awaited);
      once = λ number some le. absurd (omega (arith, some, le, first.searches));
      still_open = omega (arith, first.searches, ap length first.awaited);
    })
    (λ items entries s taken written s' old step. counted_push items entries s taken written s' old (step_counted Holds limits readers s taken written s' step))
