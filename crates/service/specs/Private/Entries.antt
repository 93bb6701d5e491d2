-- The entries of commands and publishes.
use Rattle.std.specs.Prelude.{◌≡◌, ◌≢◌, ℕ, zero, suc, ◌<◌, ◌⊎◌, Bool, true, false, List, ◌++◌, Option, Some, Result, Ok, Err}
use Rattle.std.specs.declared.vec.Vec.{Vec}
use Rattle.std.specs.declared.alloc.Global.{Global}
use Rattle.ere.specs.declared.error.EreError.{EreError}
use Rattle.ere.specs.declared.error.EreErrorKind.{EreErrorKind}
use Rattle.ere.specs.declared.error.EreErrorKind.TheVariants as kind
use Rattle.documents.specs.declared.command.Command.{Command}
use Rattle.documents.specs.declared.error.NameError.{NameError}
use Rattle.documents.specs.declared.lengths.Lengths.{Lengths}
use Rattle.documents.specs.declared.error.NameError.TheVariants as name
use Rattle.documents.specs.State.{State, state_of}
use Rattle.documents.specs.Text.{IsBodyOf}
use Rattle.request.specs.Faults.{reason_of}
use Rattle.request.specs.declared.fault.FindFault.{FindFault}
use Rattle.request.specs.declared.fault.FindFault.TheVariants as find_fault
use Rattle.prepare.specs.declared.requested.FindError.{FindError}
use Rattle.script.specs.Items.{load}
use Rattle.published.specs.Desk.{DeskState}
use Rattle.published.specs.declared.error.CopyError.{CopyError}
use Rattle.published.specs.declared.error.CopyError.TheVariants as copy_error
use Rattle.published.specs.declared.error.RemoveError.{RemoveError}
use Rattle.published.specs.declared.error.RemoveError.TheVariants as remove_error
use Rattle.transcript.specs.declared.entry.Entry.{Entry}
use Rattle.transcript.specs.declared.entry.Entry.TheVariants.{Accepted, Refused, Published}
use Rattle.transcript.specs.declared.entry.Reason.{Reason}
use Rattle.transcript.specs.declared.entry.Reason.TheVariants as reason
use Rattle.transcript.specs.declared.entry.SearchReason.{SearchReason}
use Rattle.transcript.specs.declared.entry.SearchReason.TheVariants as search_reason
use Rattle.steps.specs.LegalRows.{HasBody, IsRemove, IsCopy, IsNamed, HasLoaded}
use Rattle.steps.specs.Rows.{command_of, failures_in}
use Rattle.service.specs.Service.{IsCounted}

abbrev pub reason_of_name : NameError → Reason
reason_of_name name.OutOfMemory = reason.OutOfMemory
reason_of_name error = reason.Name error

abbrev pub reason_of_remove : RemoveError → Reason
reason_of_remove remove_error.NoSuchFile = reason.NoSuchFile
reason_of_remove remove_error.Full = reason.Full
reason_of_remove remove_error.OutOfMemory = reason.OutOfMemory

abbrev pub reason_of_copy : CopyError → Reason
reason_of_copy copy_error.NoSuchFile = reason.NoSuchFile
reason_of_copy copy_error.TooLong = reason.Name name.TooLong
reason_of_copy copy_error.Full = reason.Full
reason_of_copy copy_error.OutOfMemory = reason.OutOfMemory

abbrev pub reason_of_fault_of : Bool → EreErrorKind → EreError → SearchReason
reason_of_fault_of in_name kind.OutOfMemory error = search_reason.OutOfMemory
reason_of_fault_of true _ error = search_reason.NamePattern error
reason_of_fault_of false _ error = search_reason.Pattern error

abbrev pub reason_of_fault : Bool → EreError → SearchReason
reason_of_fault in_name error = reason_of_fault_of in_name error.kind error

abbrev pub reason_of_find_of : ℕ → EreErrorKind → EreError → SearchReason
reason_of_find_of name kind.OutOfMemory error = search_reason.OutOfMemory
reason_of_find_of zero _ error = search_reason.Pattern error
reason_of_find_of (suc at) _ error = search_reason.NamePatternAt (suc at) error

-- The fault of a pattern of a search with options: for the pattern itself, or for one of the patterns of names.
abbrev pub reason_of_find : FindError → SearchReason
reason_of_find fault = reason_of_find_of fault.name fault.error.kind fault.error

-- The fault of the words of a search with options, or lack of memory.
pub data IsReasonOfWords (fault : FindFault) (why : SearchReason) : Type 0 where
  no_memory : why ≡ search_reason.OutOfMemory → IsReasonOfWords fault why
  bad_words : (words : Vec ℕ Global) → fault ≢ find_fault.OutOfMemory → words.items ≡ reason_of fault → why ≡ search_reason.Options words → IsReasonOfWords fault why

-- the entry of a command that was accepted or refused
abbrev pub entry_of : ℕ → Result ℕ Reason → Entry
entry_of line (Ok commands) = Accepted line commands
entry_of line (Err why) = Refused line why

-- the entry of a publish
abbrev pub published_entry_of : ℕ → Result ℕ Reason → Entry
published_entry_of line (Ok version) = Published line version
published_entry_of line (Err why) = Refused line why

-- the desk after these commands were accepted or refused
abbrev pub desk_after : Result ℕ Reason → List Command → DeskState → DeskState
desk_after (Ok count) commands desk = record desk { accepted = desk.accepted ++ commands }
desk_after (Err why) commands desk = desk

abbrev pub RanOut : ℕ → Entry → Type 0
RanOut line entry = entry ≡ Refused line reason.OutOfMemory

-- The faults of a body come first, then the room.
abbrev pub HasBodyOrNoMemory : Lengths → ℕ → State → List ℕ → ℕ → Entry → Type 0
HasBodyOrNoMemory lengths most state body line entry =
    HasBody lengths most state body line entry ⊎ (IsBodyOf lengths body × (state.version < most) × RanOut line entry)

-- A remove needs a document to be removed, and then room. If there is room, memory can run out.
abbrev pub IsRemoveOrNoMemory : ℕ → State → Bool → ℕ → Entry → Type 0
IsRemoveOrNoMemory most state found line entry = IsRemove most state found line entry ⊎ ((state.version < most) × RanOut line entry)

-- A copy needs a document to be copied, names that are not too long, and then room. Memory can run out.
abbrev pub IsCopyOrNoMemory : ℕ → ℕ → State → List ℕ → List ℕ → ℕ → Entry → Type 0
IsCopyOrNoMemory longest most state from to line entry = IsCopy longest most state from to line entry ⊎ RanOut line entry

-- A load: the source is asked once, unless the load is refused at its name, and failed exactly if the entry says so.
pub record IsLoaded (Holds : List ℕ → List ℕ → Type 0) (lengths : Lengths) (desk : DeskState) (failed : ℕ) (name path : List ℕ)
    (done : Result ℕ Reason) (desk' : DeskState) (failed' : ℕ) : Type 0 where
  pub loaded : Option (List ℕ)
  pub legal : (line : ℕ) → IsNamed lengths.name name line (entry_of line done)
      (HasLoaded Holds lengths desk.limit (state_of desk.accepted) path loaded line (entry_of line done))
  pub left : desk' ≡ desk_after done (command_of (load name path) loaded) desk
  pub counted : (line : ℕ) → IsCounted (failures_in (Some (entry_of line done))) failed failed'
