-- The entries of single items are legal.
use Rattle.std.proofs.Common.{◌≡◌, ◌≢◌, ℕ, zero, suc, ◌<◌, ◌≤◌, ◌⊎◌, inl, inr, Bool, true, false, List, [], ◌∷◌, Some, refl, sym, ap, subst, ◌∙◌, arith, MatchBool}
use Rattle.std.proofs.lemmas.Bool.{cases_lt}
use Rattle.ere.specs.declared.error.EreError.{EreError}
use Rattle.ere.specs.declared.error.EreErrorKind.{EreErrorKind}
use Rattle.ere.specs.declared.error.EreErrorKind.TheVariants as kind
use Rattle.ere.specs.declared.case.Case.{Case}
use Rattle.ere.specs.declared.case.Case.TheVariants.{Exact}
use Rattle.documents.specs.State.{State, state_of}
use Rattle.documents.specs.declared.command.Command.{Command}
use Rattle.published.specs.Desk.{DeskState, HasRoom, IsRemoveFault, IsCopyFault, has_document_under, has_document_too_long, with_command}
use Rattle.published.specs.declared.error.CopyError.{CopyError}
use Rattle.published.specs.declared.error.CopyError.TheVariants as copy_error
use Rattle.published.specs.declared.error.RemoveError.{RemoveError}
use Rattle.published.specs.declared.error.RemoveError.TheVariants as remove_error
use Rattle.std.proofs.lemmas.List.{length-append}
use Rattle.documents.specs.declared.error.NameError.{NameError}
use Rattle.documents.specs.declared.lengths.Lengths.{Lengths}
use Rattle.documents.specs.declared.error.NameError.TheVariants as name
use Rattle.documents.specs.declared.error.BodyErrorKind.TheVariants as body
use Rattle.std.proofs.Common.{length}
use Rattle.steps.specs.Rows.{failures_in}
use Rattle.documents.specs.Text.{most_bytes, most_name_bytes, IsNameOf, IsNameFault, IsBodyFault}
use Rattle.prepare.specs.Pattern.{HasTree, IsTreeFault}
use Rattle.transcript.specs.declared.entry.Entry.{Entry}
use Rattle.transcript.specs.declared.entry.Entry.TheVariants.{Accepted, Refused}
use Rattle.transcript.specs.declared.entry.Reason.{Reason}
use Rattle.transcript.specs.declared.entry.Reason.TheVariants as reason
use Rattle.transcript.specs.declared.entry.SearchReason.TheVariants as search_reason
use Rattle.steps.specs.LegalRows.{IsNamed, bad_name, no_memory, named, bad_body, with_body, full, accepted, IsPut, IsRemove, no_such_file, is_there, IsCopy, none_to_copy, too_long, can_copy, HasLoaded, loaded_body}
use Rattle.request.specs.Faults.{IsFirstFault}
use Rattle.request.specs.Find.{IsFindOf, Options}
use Rattle.request.specs.declared.fault.FindFault.{FindFault}
use Rattle.request.specs.declared.fault.FindFault.TheVariants as find_fault
use Rattle.prepare.specs.Request.{IsRequestFault}
use Rattle.prepare.specs.declared.requested.FindError.{FindError}
use Rattle.transcript.specs.declared.entry.SearchReason.{SearchReason}
use Rattle.steps.specs.Asked.{IsFaultOfSearch, IsFaultOfSearchIn, IsFaultOfFind}
use Rattle.steps.specs.Asked as asked
use Rattle.service.specs.Private.Entries as entries
use Rattle.service.specs.Private.Entries.{IsReasonOfWords, reason_of_find, reason_of_find_of, reason_of_name, reason_of_remove, reason_of_copy, reason_of_fault, reason_of_fault_of, HasBodyOrNoMemory, IsRemoveOrNoMemory, IsCopyOrNoMemory}
use Rattle.service.specs.Service.{IsCounted}

pub named_fault : (longest : ℕ) (error : NameError) (bytes : List ℕ) (line : ℕ) (entry : Entry) (Else : Type 0) → IsNameFault longest error bytes
    → entry ≡ Refused line (reason_of_name error) → IsNamed longest bytes line entry Else
unfolding IsNameFault
named_fault longest name.Empty bytes line entry Else fault is = bad_name name.Empty (λ e. cc) fault is
named_fault longest name.TooLong bytes line entry Else fault is = bad_name name.TooLong (λ e. cc) fault is
named_fault longest name.BadByte bytes line entry Else fault is = bad_name name.BadByte (λ e. cc) fault is
named_fault longest name.OutOfMemory bytes line entry Else fault is = no_memory fault is

pub named_body : (lengths : Lengths) (most : ℕ) (state : State) (bytes bytes' : List ℕ) (line : ℕ) (entry : Entry) → IsNameOf lengths.name bytes
    → HasBodyOrNoMemory lengths most state bytes' line entry → IsPut lengths most state bytes bytes' line entry
named_body lengths most state bytes bytes' line entry is (inl body_is) = named is body_is
named_body lengths most state bytes bytes' line entry is (inr ran_out) = no_memory is ran_out.2

pub named_removed : (longest most : ℕ) (state : State) (bytes : List ℕ) (found : Bool) (line : ℕ) (entry : Entry) → IsNameOf longest bytes
    → IsRemoveOrNoMemory most state found line entry → IsNamed longest bytes line entry (IsRemove most state found line entry)
named_removed longest most state bytes found line entry is (inl removed) = named is removed
named_removed longest most state bytes found line entry is (inr ran_out) = no_memory is ran_out.1

pub named_copied : (longest most : ℕ) (state : State) (from to : List ℕ) (line : ℕ) (entry : Entry) → IsNameOf longest from → IsNameOf longest to
    → IsCopyOrNoMemory longest most state from to line entry
    → IsNamed longest from line entry (IsNamed longest to line entry (IsCopy longest most state from to line entry))
named_copied longest most state from to line entry is_from is_to (inl copied) = named is_from (named is_to copied)
named_copied longest most state from to line entry is_from is_to (inr ran_out) = no_memory is_from ran_out

-- a copy that the desk refuses, and one that it accepts
pub refused_copy : (longest : ℕ) (desk : DeskState) (from to : List ℕ) (error : CopyError) (why : Reason) (line : ℕ)
    → IsCopyFault error (has_document_under desk.accepted from) (has_document_too_long desk.accepted (most_name_bytes longest) from to) desk
    → why ≡ reason_of_copy error → IsCopyOrNoMemory longest desk.limit (state_of desk.accepted) from to line (Refused line why)
refused_copy longest desk from to copy_error.NoSuchFile why line fault is = inl (none_to_copy fault (ap (Refused line) is))
refused_copy longest desk from to copy_error.TooLong why line fault is = inl (too_long fault.0 fault.1 (ap (Refused line) is))
refused_copy longest desk from to copy_error.Full why line fault is = inl (can_copy fault.0 fault.1 (full fault.2 (ap (Refused line) is)))
refused_copy longest desk from to copy_error.OutOfMemory why line fault is = inr (ap (Refused line) is)

pub accepted_copy : (longest : ℕ) (desk desk' : DeskState) (command : Command) (from to : List ℕ) (count line : ℕ)
    → has_document_under desk.accepted from ≡ true → has_document_too_long desk.accepted (most_name_bytes longest) from to ≡ false
    → desk' ≡ with_command command desk → HasRoom desk → count ≡ length desk'.accepted
    → IsCopyOrNoMemory longest desk.limit (state_of desk.accepted) from to line (Accepted line count)
accepted_copy longest desk desk' command from to count line there short left room is =
    inl (can_copy there short (accepted room
    (ap (Accepted line) (is ∙ (ap (λ d. length d.accepted) left ∙ length-append desk.accepted (command ∷ []))))))

-- a remove that the desk refuses, and one that it accepts
pub refused_remove : (desk : DeskState) (found : Bool) (error : RemoveError) (why : Reason) (line : ℕ) → IsRemoveFault error found desk
    → why ≡ reason_of_remove error → IsRemoveOrNoMemory desk.limit (state_of desk.accepted) found line (Refused line why)
refused_remove desk found remove_error.NoSuchFile why line fault is = inl (no_such_file fault (ap (Refused line) is))
refused_remove desk found remove_error.Full why line fault is = inl (is_there fault.0 (full fault.1 (ap (Refused line) is)))
refused_remove desk found remove_error.OutOfMemory why line fault is = inr (fault.1, ap (Refused line) is)

pub accepted_remove : (desk desk' : DeskState) (command : Command) (found : Bool) (count line : ℕ) → found ≡ true → desk' ≡ with_command command desk
    → HasRoom desk → count ≡ length desk'.accepted → IsRemoveOrNoMemory desk.limit (state_of desk.accepted) found line (Accepted line count)
accepted_remove desk desk' command found count line there left room is =
    inl (is_there there (accepted room
    (ap (Accepted line) (is ∙ (ap (λ d. length d.accepted) left ∙ length-append desk.accepted (command ∷ []))))))

pub named_loaded : (Holds : List ℕ → List ℕ → Type 0) (lengths : Lengths) (most : ℕ) (state : State) (bytes path bytes' : List ℕ) (line : ℕ) (entry : Entry)
    → IsNameOf lengths.name bytes → Holds path bytes' → HasBodyOrNoMemory lengths most state bytes' line entry
    → IsNamed lengths.name bytes line entry (HasLoaded Holds lengths most state path (Some bytes') line entry)
named_loaded Holds lengths most state bytes path bytes' line entry is held (inl body_is) = named is (loaded_body bytes' refl held body_is)
named_loaded Holds lengths most state bytes path bytes' line entry is held (inr ran_out) = no_memory is ran_out.2

-- A kind of fault is lack of memory, or it is not.
memory_or_not : (k : EreErrorKind) → (k ≡ kind.OutOfMemory) ⊎ (k ≡ kind.OutOfMemory → ⊥)
memory_or_not kind.TooLong = inr (λ e. cc)
memory_or_not kind.BadByte = inr (λ e. cc)
memory_or_not kind.BadEscape = inr (λ e. cc)
memory_or_not kind.BadBracket = inr (λ e. cc)
memory_or_not kind.BadRange = inr (λ e. cc)
memory_or_not kind.BadClass = inr (λ e. cc)
memory_or_not kind.BadInterval = inr (λ e. cc)
memory_or_not kind.NothingToRepeat = inr (λ e. cc)
memory_or_not kind.Unclosed = inr (λ e. cc)
memory_or_not kind.TooDeep = inr (λ e. cc)
memory_or_not kind.TooLarge = inr (λ e. cc)
memory_or_not kind.OutOfMemory = inl refl

reason_of_memory : (in_name : Bool) (k : EreErrorKind) (error : EreError) → k ≡ kind.OutOfMemory
    → reason_of_fault_of in_name k error ≡ search_reason.OutOfMemory
reason_of_memory in_name k error e = ap (λ j. reason_of_fault_of in_name j error) e

reason_in_name : (k : EreErrorKind) (error : EreError) → (k ≡ kind.OutOfMemory → ⊥) → reason_of_fault_of true k error ≡ search_reason.NamePattern error
reason_in_name kind.TooLong error h = refl
reason_in_name kind.BadByte error h = refl
reason_in_name kind.BadEscape error h = refl
reason_in_name kind.BadBracket error h = refl
reason_in_name kind.BadRange error h = refl
reason_in_name kind.BadClass error h = refl
reason_in_name kind.BadInterval error h = refl
reason_in_name kind.NothingToRepeat error h = refl
reason_in_name kind.Unclosed error h = refl
reason_in_name kind.TooDeep error h = refl
reason_in_name kind.TooLarge error h = refl
reason_in_name kind.OutOfMemory error h = absurd (h refl)

reason_in_pattern : (k : EreErrorKind) (error : EreError) → (k ≡ kind.OutOfMemory → ⊥) → reason_of_fault_of false k error ≡ search_reason.Pattern error
reason_in_pattern kind.TooLong error h = refl
reason_in_pattern kind.BadByte error h = refl
reason_in_pattern kind.BadEscape error h = refl
reason_in_pattern kind.BadBracket error h = refl
reason_in_pattern kind.BadRange error h = refl
reason_in_pattern kind.BadClass error h = refl
reason_in_pattern kind.BadInterval error h = refl
reason_in_pattern kind.NothingToRepeat error h = refl
reason_in_pattern kind.Unclosed error h = refl
reason_in_pattern kind.TooDeep error h = refl
reason_in_pattern kind.TooLarge error h = refl
reason_in_pattern kind.OutOfMemory error h = absurd (h refl)

-- what is met in a pattern that has no tree is why its search is refused
pub search_fault : (case : Case) (text : List ℕ) (error : EreError) → (error.kind ≢ kind.OutOfMemory → IsTreeFault case text error)
    → IsFaultOfSearch case text (reason_of_fault false error)
search_fault case text error none = by_kind (memory_or_not error.kind)
  where
    by_kind : (error.kind ≡ kind.OutOfMemory) ⊎ (error.kind ≡ kind.OutOfMemory → ⊥) → IsFaultOfSearch case text (reason_of_fault false error)
    by_kind (inl memory) = asked.no_memory (reason_of_memory false error.kind error memory)
    by_kind (inr fault) = asked.bad_pattern error fault (none fault) (reason_in_pattern error.kind error fault)

pub search_in_fault : (case : Case) (name_text text : List ℕ) (in_name : Bool) (error : EreError)
    → (error.kind ≢ kind.OutOfMemory → MatchBool in_name (IsTreeFault Exact name_text error) (HasTree Exact name_text × IsTreeFault case text error))
    → IsFaultOfSearchIn case name_text text (reason_of_fault in_name error)
search_in_fault case name_text text true error none = by_kind (memory_or_not error.kind)
  where
    by_kind : (error.kind ≡ kind.OutOfMemory) ⊎ (error.kind ≡ kind.OutOfMemory → ⊥) → IsFaultOfSearchIn case name_text text (reason_of_fault true error)
    by_kind (inl memory) = asked.no_memory (reason_of_memory true error.kind error memory)
    by_kind (inr fault) = asked.bad_name_pattern error fault (none fault) (reason_in_name error.kind error fault)
search_in_fault case name_text text false error none = by_kind (memory_or_not error.kind)
  where
    by_kind : (error.kind ≡ kind.OutOfMemory) ⊎ (error.kind ≡ kind.OutOfMemory → ⊥) → IsFaultOfSearchIn case name_text text (reason_of_fault false error)
    by_kind (inl memory) = asked.no_memory (reason_of_memory false error.kind error memory)
    by_kind (inr fault) = asked.bad_pattern error fault (none fault).0 (none fault).1 (reason_in_pattern error.kind error fault)

-- what is met in the words or the patterns of a search with options is why it is refused
pub find_words_fault : (text : List ℕ) (fault : FindFault) (why : SearchReason) → (fault ≢ find_fault.OutOfMemory → IsFirstFault text fault)
    → IsReasonOfWords fault why → IsFaultOfFind text why
find_words_fault text fault why first (entries.no_memory is) = asked.no_memory is
find_words_fault text fault why first (entries.bad_words words other same is) = asked.bad_words fault words other (first other) same is

reason_of_find_pattern : (k : EreErrorKind) (error : EreError) → (k ≡ kind.OutOfMemory → ⊥) → reason_of_find_of zero k error ≡ search_reason.Pattern error
reason_of_find_pattern kind.TooLong error h = refl
reason_of_find_pattern kind.BadByte error h = refl
reason_of_find_pattern kind.BadEscape error h = refl
reason_of_find_pattern kind.BadBracket error h = refl
reason_of_find_pattern kind.BadRange error h = refl
reason_of_find_pattern kind.BadClass error h = refl
reason_of_find_pattern kind.BadInterval error h = refl
reason_of_find_pattern kind.NothingToRepeat error h = refl
reason_of_find_pattern kind.Unclosed error h = refl
reason_of_find_pattern kind.TooDeep error h = refl
reason_of_find_pattern kind.TooLarge error h = refl
reason_of_find_pattern kind.OutOfMemory error h = absurd (h refl)

reason_of_find_name : (at : ℕ) (k : EreErrorKind) (error : EreError) → (k ≡ kind.OutOfMemory → ⊥)
    → reason_of_find_of (suc at) k error ≡ search_reason.NamePatternAt (suc at) error
reason_of_find_name at kind.TooLong error h = refl
reason_of_find_name at kind.BadByte error h = refl
reason_of_find_name at kind.BadEscape error h = refl
reason_of_find_name at kind.BadBracket error h = refl
reason_of_find_name at kind.BadRange error h = refl
reason_of_find_name at kind.BadClass error h = refl
reason_of_find_name at kind.BadInterval error h = refl
reason_of_find_name at kind.NothingToRepeat error h = refl
reason_of_find_name at kind.Unclosed error h = refl
reason_of_find_name at kind.TooDeep error h = refl
reason_of_find_name at kind.TooLarge error h = refl
reason_of_find_name at kind.OutOfMemory error h = absurd (h refl)

pub find_pattern_fault : (text : List ℕ) (options : Options) (pattern : List ℕ) (fault : FindError) → IsFindOf text options pattern
    → (fault.error.kind ≢ kind.OutOfMemory → IsRequestFault options pattern fault.name fault.error) → IsFaultOfFind text (reason_of_find fault)
find_pattern_fault text options pattern fault asks none = by_kind (memory_or_not fault.error.kind)
  where
    by_name : (name : ℕ) → IsRequestFault options pattern name fault.error → (fault.error.kind ≡ kind.OutOfMemory → ⊥)
        → IsFaultOfFind text (reason_of_find_of name fault.error.kind fault.error)
    by_name zero bad real = asked.bad_pattern options pattern fault.error real asks bad (reason_of_find_pattern fault.error.kind fault.error real)
    by_name (suc at) bad real =
        asked.bad_name_pattern options pattern at fault.error real asks bad (reason_of_find_name at fault.error.kind fault.error real)

    by_kind : (fault.error.kind ≡ kind.OutOfMemory) ⊎ (fault.error.kind ≡ kind.OutOfMemory → ⊥) → IsFaultOfFind text (reason_of_find fault)
    by_kind (inl memory) = asked.no_memory (ap (λ k. reason_of_find_of fault.name k fault.error) memory)
    by_kind (inr real) = by_name fault.name (none real) real

pub too_long_body : (lengths : Lengths) (bytes : List ℕ) → most_bytes lengths < length bytes → IsBodyFault lengths body.TooLong bytes
unfolding IsBodyFault
too_long_body lengths bytes h = h

-- A put of which only the length of the body is known is refused for it, or for lack of memory.
pub skipped_put : (lengths : Lengths) (most : ℕ) (state : State) (bytes bytes' : List ℕ) (size line : ℕ) (why : Reason)
    → IsNameOf lengths.name bytes → length bytes' ≡ size → (most_bytes lengths < size → why ≡ reason.Body body.TooLong)
    → (size ≤ most_bytes lengths → why ≡ reason.OutOfMemory) → IsPut lengths most state bytes bytes' line (Refused line why)
skipped_put lengths most state bytes bytes' size line why is same long lost = by (cases_lt (most_bytes lengths) size)
  where
    by : (most_bytes lengths < size) ⊎ (size ≤ most_bytes lengths) → IsPut lengths most state bytes bytes' line (Refused line why)
    by (inl high) =
        named is
        (bad_body body.TooLong (too_long_body lengths bytes' (subst (λ n. most_bytes lengths < n) (sym same) high)) (ap (Refused line) (long high)))
    by (inr low) = no_memory is (ap (Refused line) (lost low))

-- A refusal for the name or the body does not count as a failure of the source.
pub no_failure_in_name : (error : NameError) → failures_in (Some (Refused 0 (reason_of_name error))) ≡ 0
no_failure_in_name name.Empty = refl
no_failure_in_name name.TooLong = refl
no_failure_in_name name.BadByte = refl
no_failure_in_name name.OutOfMemory = refl

pub no_failure_at : {entry entry' : Entry} → entry ≡ entry' → failures_in (Some entry') ≡ 0 → failures_in (Some entry) ≡ 0
no_failure_at is none = ap (λ e. failures_in (Some e)) is ∙ none

pub no_failure_in_body : (lengths : Lengths) (most : ℕ) (state : State) (bytes : List ℕ) (line : ℕ) (entry : Entry)
    → HasBodyOrNoMemory lengths most state bytes line entry → failures_in (Some entry) ≡ 0
no_failure_in_body lengths most state bytes line entry (inl (bad_body fault is_fault is)) = no_failure_at is refl
no_failure_in_body lengths most state bytes line entry (inl (with_body is_body (full all is))) = no_failure_at is refl
no_failure_in_body lengths most state bytes line entry (inl (with_body is_body (accepted room is))) = no_failure_at is refl
no_failure_in_body lengths most state bytes line entry (inr is) = no_failure_at is.2 refl

pub counted_none : (entry : Entry) (failed failed' : ℕ) → failures_in (Some entry) ≡ 0 → failed' ≡ failed → IsCounted (failures_in (Some entry)) failed failed'
counted_none entry failed failed' none same = record {
  rises = inl (rw none (omega arith));
  stays = λ e. same ∙ e;
}

pub counted_same : (entry : Entry) (failed : ℕ) → failures_in (Some entry) ≡ 0 → IsCounted (failures_in (Some entry)) failed failed
counted_same entry failed none = record {
  rises = inl (rw none (omega arith));
  stays = λ e. e;
}
