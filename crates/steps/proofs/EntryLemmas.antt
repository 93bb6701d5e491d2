-- What the entries of items can be, and that they are legal.
use Rattle.std.proofs.Common.{◌≡◌, ℕ, ◌+◌, ◌≤◌, Bool, true, false, List, [], Option, Some, None, refl, sym, ap, subst, arith}
use Rattle.documents.specs.State.{State}
use Rattle.documents.specs.declared.error.NameError.TheVariants as name_error
use Rattle.documents.specs.declared.lengths.Lengths.{Lengths}
use Rattle.prepare.specs.Request.{Request}
use Rattle.script.specs.Items.{Item, put, load, remove, remove_under, copy_under, publish, search, search_in, find, sync, cancel, status, bad_line, bad_put, truncated, body_not_closed}
use Rattle.transcript.specs.declared.entry.Entry.{Entry}
use Rattle.transcript.specs.declared.entry.Entry.TheVariants.{Accepted, Refused, Published, Found, SearchRefused}
use Rattle.transcript.specs.declared.entry.Reason.{Reason}
use Rattle.transcript.specs.declared.entry.Reason.TheVariants as reason
use Rattle.transcript.specs.declared.entry.SearchReason.{SearchReason}
use Rattle.transcript.specs.declared.entry.SearchReason.TheVariants as search_reason
use Rattle.steps.specs.Rows.{version_in, last_or, is_sync, searches_of, count_searches}
use Rattle.steps.specs.LegalRows.{IsRoomFor, IsNamed, HasBody, HasLoaded, IsRemove, IsCopy, IsPublish, Limits, Context, search_number, state_before}
use Rattle.steps.specs.LegalRows.{IsSearched, IsUnknown, IsStatus, IsCommandEntry, IsEntryOf, HasEntry}
use Rattle.steps.specs.LegalRows as legal
use Rattle.steps.specs.Asked.{Asks, IsFaultOf}
use Rattle.steps.specs.Asked as asked
use Rattle.steps.specs.StepRows.{Rises, unless_of_search}
use Rattle.steps.specs.Entries.{takes_memory}

-- What the entry of an item can be that is neither a search nor a sync, after this many accepted commands.
pub data IsPlain (version line : ℕ) (item : Item) (entry : Entry) : Type 0 where
  accepts : (count : ℕ) → entry ≡ Accepted line count → IsPlain version line item entry
  refuses : (why : Reason) → entry ≡ Refused line why → (why ≡ reason.OutOfMemory → takes_memory item ≡ true) → IsPlain version line item entry
  publishes : entry ≡ Published line version → IsPlain version line item entry

module _ (lengths : Lengths) (most : ℕ) (state : State) (line : ℕ) (item : Item) (entry : Entry) where
  plain_room : IsRoomFor most state line entry → IsPlain state.version line item entry
  plain_room (legal.full limit is) = refuses reason.Full is (λ e. cc)
  plain_room (legal.accepted room is) = accepts (state.version + 1) is

  plain_body : (body : List ℕ) → HasBody lengths most state body line entry → IsPlain state.version line item entry
  plain_body body (legal.bad_body fault is_fault is) = refuses (reason.Body fault) is (λ e. cc)
  plain_body body (legal.with_body is_body room) = plain_room room

  plain_named : (name : List ℕ) (Else : Type 0) → takes_memory item ≡ true → (Else → IsPlain state.version line item entry)
      → IsNamed lengths.name name line entry Else → IsPlain state.version line item entry
  plain_named name Else takes others (legal.bad_name fault other is_fault is) = refuses (reason.Name fault) is (λ e. cc)
  plain_named name Else takes others (legal.no_memory is_name is) = refuses reason.OutOfMemory is (λ e. takes)
  plain_named name Else takes others (legal.named is_name else) = others else

  plain_loaded : (Holds : List ℕ → List ℕ → Type 0) (path : List ℕ) (loaded : Option (List ℕ)) → HasLoaded Holds lengths most state path loaded line entry
      → IsPlain state.version line item entry
  plain_loaded Holds path loaded (legal.failed none is) = refuses reason.CannotLoad is (λ e. cc)
  plain_loaded Holds path loaded (legal.loaded_body body some held with) = plain_body body with

  plain_remove : (found : Bool) → IsRemove most state found line entry → IsPlain state.version line item entry
  plain_remove found (legal.no_such_file none is) = refuses reason.NoSuchFile is (λ e. cc)
  plain_remove found (legal.is_there some room) = plain_room room

  plain_copy : (from to : List ℕ) → IsCopy lengths.name most state from to line entry → IsPlain state.version line item entry
  plain_copy from to (legal.none_to_copy none is) = refuses reason.NoSuchFile is (λ e. cc)
  plain_copy from to (legal.too_long some long is) = refuses (reason.Name name_error.TooLong) is (λ e. cc)
  plain_copy from to (legal.can_copy some short room) = plain_room room

  plain_publish : takes_memory item ≡ true → IsPublish state line entry → IsPlain state.version line item entry
  plain_publish takes (legal.published is) = publishes is
  plain_publish takes (legal.no_memory is) = refuses reason.OutOfMemory is (λ e. takes)

pub plain_entry : (Holds : List ℕ → List ℕ → Type 0) (lengths : Lengths) (most : ℕ) (state : State) (loaded : Option (List ℕ)) (line : ℕ) (item : Item)
    (entry : Entry) → IsCommandEntry Holds lengths most state loaded line item entry → IsPlain state.version line item entry
plain_entry Holds lengths most state loaded line (put name body) entry h =
    plain_named lengths most state line (put name body) entry name _ refl (plain_body lengths most state line (put name body) entry body) h
plain_entry Holds lengths most state loaded line (load name path) entry h =
    plain_named lengths most state line (load name path) entry name _ refl (plain_loaded lengths most state line (load name path) entry Holds path loaded) h
plain_entry Holds lengths most state loaded line (remove name) entry h =
    plain_named lengths most state line (remove name) entry name _ refl (plain_remove lengths most state line (remove name) entry _) h
plain_entry Holds lengths most state loaded line (remove_under prefix) entry h =
    plain_named lengths most state line (remove_under prefix) entry prefix _ refl (plain_remove lengths most state line (remove_under prefix) entry _) h
plain_entry Holds lengths most state loaded line (copy_under from to) entry h =
    plain_named lengths most state line (copy_under from to) entry from _ refl
    (plain_named lengths most state line (copy_under from to) entry to _ refl (plain_copy lengths most state line (copy_under from to) entry from to)) h
plain_entry Holds lengths most state loaded line publish entry h = plain_publish lengths most state line publish entry refl h
plain_entry Holds lengths most state loaded line (search case text) entry h = absurd h
plain_entry Holds lengths most state loaded line (search_in case name_text text) entry h = absurd h
plain_entry Holds lengths most state loaded line (find text) entry h = absurd h
plain_entry Holds lengths most state loaded line sync entry h = absurd h
plain_entry Holds lengths most state loaded line (cancel number) entry h = absurd h
plain_entry Holds lengths most state loaded line status entry h = absurd h
plain_entry Holds lengths most state loaded line bad_line entry h = refuses reason.BadLine h (λ e. cc)
plain_entry Holds lengths most state loaded line bad_put entry h = refuses reason.BadPut h (λ e. cc)
plain_entry Holds lengths most state loaded line truncated entry h = refuses reason.Truncated h (λ e. cc)
plain_entry Holds lengths most state loaded line body_not_closed entry h = refuses reason.BodyNotClosed h (λ e. cc)

-- What holds of such entries holds of this one.
pub plain_by : {version line : ℕ} {item : Item} {entry : Entry} → IsPlain version line item entry → (P : Entry → Type 0)
    → ((count : ℕ) → P (Accepted line count)) → ((why : Reason) → P (Refused line why)) → P (Published line version) → P entry
plain_by (accepts count is) P a r p = subst P (sym is) (a count)
plain_by (refuses why is memory) P a r p = subst P (sym is) (r why)
plain_by (publishes is) P a r p = subst P (sym is) p

-- Such an entry publishes no older version.
pub plain_rises : (latest version : ℕ) {line : ℕ} {item : Item} {entry : Entry} → latest ≤ version → IsPlain version line item entry
    → Rises latest (version_in (Some entry)) × (last_or latest (version_in (Some entry)) ≤ version)
plain_rises latest version le is =
    plain_by is (λ e. Rises latest (version_in (Some e)) × (last_or latest (version_in (Some e)) ≤ version)) (λ count. (tt, le)) (λ why. (tt, le))
    ((le, tt), omega arith)

module _ (Holds : List ℕ → List ℕ → Type 0) (lengths : Lengths) (most : ℕ) (state : State) (loaded : Option (List ℕ)) (line : ℕ) where
  pub command_is_no_search : (item : Item) (entry : Entry) → IsCommandEntry Holds lengths most state loaded line item entry → searches_of item ≡ 0
  command_is_no_search (search case text) entry h = absurd h
  command_is_no_search (search_in case name_text text) entry h = absurd h
  command_is_no_search (find text) entry h = absurd h
  command_is_no_search item entry h = refl

pub sync_is_no_search : (item : Item) → is_sync item ≡ true → searches_of item ≡ 0
sync_is_no_search (search case text) is = cc
sync_is_no_search (search_in case name_text text) is = cc
sync_is_no_search (find text) is = cc
sync_is_no_search item is = refl

pub asks_is_search : (item : Item) (request : Request) → Asks item request → searches_of item ≡ 1
asks_is_search (search case text) request asks = refl
asks_is_search (search_in case name_text text) request asks = refl
asks_is_search (find text) request asks = refl
asks_is_search item request asks = absurd asks

pub fault_is_of_search : (item : Item) (why : SearchReason) → IsFaultOf item why → searches_of item ≡ 1
fault_is_of_search (search case text) why h = refl
fault_is_of_search (search_in case name_text text) why h = refl
fault_is_of_search (find text) why h = refl
fault_is_of_search item why h = absurd h

-- whether a search is refused for it only after it was taken
abbrev pub is_late : SearchReason → Bool
is_late search_reason.Cancelled = true
is_late search_reason.TooSlow = true
is_late why = false

pub fault_is_not_late : (item : Item) (why : SearchReason) → IsFaultOf item why → is_late why ≡ false
fault_is_not_late (search case text) why (asked.no_memory is) = ap is_late is
fault_is_not_late (search case text) why (asked.bad_pattern fault other none is) = ap is_late is
fault_is_not_late (search_in case name_text text) why (asked.no_memory is) = ap is_late is
fault_is_not_late (search_in case name_text text) why (asked.bad_name_pattern fault other none is) = ap is_late is
fault_is_not_late (search_in case name_text text) why (asked.bad_pattern fault other named none is) = ap is_late is
fault_is_not_late (find text) why (asked.no_memory is) = ap is_late is
fault_is_not_late (find text) why (asked.bad_words fault words other first same is) = ap is_late is
fault_is_not_late (find text) why (asked.bad_name_pattern options pattern at fault other found none is) = ap is_late is
fault_is_not_late (find text) why (asked.bad_pattern options pattern fault other found none is) = ap is_late is
fault_is_not_late item why h = absurd h

module _ (Holds : List ℕ → List ℕ → Type 0) (limits : Limits) (context : Context) where
  pub legal_sync : (item : Item) → is_sync item ≡ true → HasEntry Holds limits context item None
  legal_sync sync is = tt
  legal_sync item is = cc

  pub legal_command : (item : Item) (entry : Entry)
      → IsCommandEntry Holds limits.lengths limits.commands (state_before context) context.row.loaded context.row.numbered.line item entry
      → HasEntry Holds limits context item (Some entry)
  unfolding IsEntryOf
  legal_command (search case text) entry h = absurd h
  legal_command (search_in case name_text text) entry h = absurd h
  legal_command (find text) entry h = absurd h
  legal_command sync entry h = h
  legal_command (cancel number) entry h = absurd h
  legal_command status entry h = absurd h
  legal_command item entry h = h

  pub legal_unknown : (number : ℕ) (entry : Entry) → IsUnknown number (count_searches context.before) context.row.numbered.line entry
      → HasEntry Holds limits context (cancel number) (Some entry)
  unfolding IsEntryOf
  legal_unknown number entry is = is

  pub legal_status : (entry : Entry) → IsStatus limits context context.row.numbered.line entry → HasEntry Holds limits context status (Some entry)
  unfolding IsEntryOf
  legal_status entry is = is

  pub legal_fault : (item : Item) (why : SearchReason) → IsFaultOf item why
      → HasEntry Holds limits context item (Some (SearchRefused (search_number context) why))
  unfolding IsEntryOf
  legal_fault (search case text) why h = legal.refused why h refl
  legal_fault (search_in case name_text text) why h = legal.refused why h refl
  legal_fault (find text) why h = legal.refused why h refl
  legal_fault item why h = absurd h

  -- the entry of a search that was open
  pub legal_search : (item : Item) (entry : Entry) (request : Request) → Asks item request → IsSearched limits context request entry
      → HasEntry Holds limits context item (Some entry)
  unfolding IsEntryOf
  legal_search (search case text) entry request asks is = legal.searched request asks is
  legal_search (search_in case name_text text) entry request asks is = legal.searched request asks is
  legal_search (find text) entry request asks is = legal.searched request asks is
  legal_search item entry request asks is = absurd asks

-- The entry of a search publishes nothing.
pub no_version : (entry : Entry) → unless_of_search (Some entry) ≡ None → version_in (Some entry) ≡ []
no_version (Found number reader turn answer) is = refl
no_version (SearchRefused number why) is = refl
no_version entry is = cc

-- A search without an entry is not legal.
pub not_legal_yet : (Holds : List ℕ → List ℕ → Type 0) (limits : Limits) (context : Context) (item : Item) (entry : Option Entry) → entry ≡ None
    → searches_of item ≡ 1 → HasEntry Holds limits context item entry → ⊥
not_legal_yet Holds limits context item entry none one h = by item one (subst (HasEntry Holds limits context item) none h)
  where
    by : (item : Item) → searches_of item ≡ 1 → HasEntry Holds limits context item None → ⊥
    by (search case text) one h = h
    by (search_in case name_text text) one h = h
    by (find text) one h = h
    by item one h = absurd (omega (arith, one))
