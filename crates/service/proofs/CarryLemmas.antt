-- Items that are carried out have their entries.
use Rattle.std.proofs.Common.{◌≡◌, ℕ, inl, List, [], ◌∷◌, ◌++◌, Some, None, Ok, Err, refl, sym, ap, ◌∙◌}
use Rattle.std.proofs.lemmas.List.{append-nil}
use Rattle.std.specs.Prelude.{Bool, false, Result, IfOk, IfErr, length}
use Rattle.documents.specs.Documents.{is_taken, has_under}
use Rattle.documents.specs.State.{State, state_of}
use Rattle.documents.specs.declared.command.Command.{Command}
use Rattle.documents.specs.declared.lengths.Lengths.{Lengths}
use Rattle.documents.specs.declared.command.Command.TheVariants.{Put, Remove, RemoveUnder, CopyUnder}
use Rattle.script.specs.Items.{Item}
use Rattle.script.specs.Items as item
use Rattle.published.specs.Desk.{DeskState}
use Rattle.published.specs.History.{Known, known}
use Rattle.transcript.specs.declared.entry.Entry.{Entry}
use Rattle.transcript.specs.declared.entry.Entry.TheVariants.{Refused, Published}
use Rattle.transcript.specs.declared.entry.Reason.{Reason}
use Rattle.transcript.specs.declared.entry.Reason.TheVariants as reason
use Rattle.steps.specs.LegalRows.{IsNamed, bad_name, no_memory, named, IsRoomFor, full, accepted, IsPut, IsCommandEntry}
use Rattle.steps.specs.LegalRows.{IsRemove, no_such_file, is_there, IsCopy, none_to_copy, too_long, can_copy}
use Rattle.steps.specs.LegalRows as legal
use Rattle.steps.specs.Rows.{accepted_by, command_of, version_in, failures_in, searches_of, is_sync}
use Rattle.service.specs.Private.Entries.{entry_of, published_entry_of, desk_after, IsLoaded}
use Rattle.steps.specs.StepRows.{searches_in}
use Rattle.service.specs.Private.Items.{IsEntered, all, nothing}
use Rattle.service.proofs.ItemLemmas.{counted_same, no_failure_at, no_failure_in_body}

-- the entry of a command has no version and is not that of a search; and the desk after the command
pub no_version : (line : ℕ) (done : Result ℕ Reason) → version_in (Some (entry_of line done)) ≡ []
no_version line (Ok count) = refl
no_version line (Err why) = refl

pub no_search_entry : (line : ℕ) (done : Result ℕ Reason) → searches_in (entry_of line done) ≡ 0
no_search_entry line (Ok count) = refl
no_search_entry line (Err why) = refl

pub accepted_after : (line : ℕ) (done : Result ℕ Reason) (commands : List Command) (desk : DeskState)
    → (desk_after done commands desk).accepted ≡ desk.accepted ++ accepted_by (Some (entry_of line done)) commands
accepted_after line (Ok count) commands desk = refl
accepted_after line (Err why) commands desk = sym (append-nil desk.accepted)

pub same_opening : (done : Result ℕ Reason) (commands : List Command) (desk : DeskState)
    → ((desk_after done commands desk).opening ≡ desk.opening) × ((desk_after done commands desk).limit ≡ desk.limit)
same_opening (Ok count) commands desk = (refl, refl)
same_opening (Err why) commands desk = (refl, refl)

pub same_published : (done : Result ℕ Reason) (commands : List Command) (desk : DeskState) → (desk_after done commands desk).published ≡ desk.published
same_published (Ok count) commands desk = refl
same_published (Err why) commands desk = refl

no_failure_in_room : (most : ℕ) (state : State) (line : ℕ) (entry : Entry) → IsRoomFor most state line entry → failures_in (Some entry) ≡ 0
no_failure_in_room most state line entry (full limit is) = no_failure_at is refl
no_failure_in_room most state line entry (accepted room is) = no_failure_at is refl

no_failure_named : (longest : ℕ) (name : List ℕ) (line : ℕ) (entry : Entry) (Else : Type 0) → (Else → failures_in (Some entry) ≡ 0)
    → IsNamed longest name line entry Else → failures_in (Some entry) ≡ 0
no_failure_named longest name line entry Else none (bad_name fault other is_fault is) = no_failure_at is refl
no_failure_named longest name line entry Else none (no_memory is_name is) = no_failure_at is refl
no_failure_named longest name line entry Else none (named is_name else) = none else

no_failure_in_remove : (most : ℕ) (state : State) (found : Bool) (line : ℕ) (entry : Entry) → IsRemove most state found line entry
    → failures_in (Some entry) ≡ 0
no_failure_in_remove most state found line entry (no_such_file none is) = no_failure_at is refl
no_failure_in_remove most state found line entry (is_there there room) = no_failure_in_room most state line entry room

no_failure_in_copy : (longest most : ℕ) (state : State) (from to : List ℕ) (line : ℕ) (entry : Entry) → IsCopy longest most state from to line entry
    → failures_in (Some entry) ≡ 0
no_failure_in_copy longest most state from to line entry (none_to_copy none is) = no_failure_at is refl
no_failure_in_copy longest most state from to line entry (too_long there long is) = no_failure_at is refl
no_failure_in_copy longest most state from to line entry (can_copy there short room) = no_failure_in_room most state line entry room

module _ (Holds : List ℕ → List ℕ → Type 0) (lengths : Lengths) (desk : DeskState) (told : Known) (failed line : ℕ) (done : Result ℕ Reason) (entry : Entry)
    (is : entry ≡ entry_of line done) where
  pub carried_put : (name body : List ℕ) (desk' : DeskState) → IsPut lengths desk.limit (state_of desk.accepted) name body line (entry_of line done)
      → desk' ≡ desk_after done (Put name body ∷ []) desk
      → IsEntered Holds lengths desk told failed (item.numbered line (item.put name body)) entry desk' told failed
  carried_put name body desk' legal_is left = rw (is, left) (record {
    loaded = None;
    legal = legal_is;
    no_search = refl;
    no_sync = refl;
    no_search_entry = no_search_entry line done;
    opening = (same_opening done (Put name body ∷ []) desk).0;
    limit = (same_opening done (Put name body ∷ []) desk).1;
    accepted = accepted_after line done (Put name body ∷ []) desk;
    tells = nothing (no_version line done) refl;
    published = λ h. same_published done (Put name body ∷ []) desk ∙ h;
    counted =
        counted_same (entry_of line done) failed
        (no_failure_named lengths.name name line _ _
        (λ h. no_failure_in_body lengths desk.limit (state_of desk.accepted) body line (entry_of line done) (inl h)) legal_is);
  })

  pub carried_load : (name path : List ℕ) (desk' : DeskState) (failed' : ℕ) → IsLoaded Holds lengths desk failed name path done desk' failed'
      → IsEntered Holds lengths desk told failed (item.numbered line (item.load name path)) entry desk' told failed'
  carried_load name path desk' failed' load = rw (is, load.left) (record {
    loaded = load.loaded;
    legal = load.legal line;
    no_search = refl;
    no_sync = refl;
    no_search_entry = no_search_entry line done;
    opening = (same_opening done _ desk).0;
    limit = (same_opening done _ desk).1;
    accepted = accepted_after line done _ desk;
    tells = nothing (no_version line done) refl;
    published = λ h. same_published done _ desk ∙ h;
    counted = load.counted line;
  })

  -- a remove of one document or of several
  module _ (shown : Item) (command : Command) (name : List ℕ) (found : Bool) (none : searches_of shown ≡ 0) (no_sync : is_sync shown ≡ false)
      (commands : command_of shown None ≡ command ∷ []) where
    pub carried_removal : (desk' : DeskState)
        → ((entry' : Entry) → IsNamed lengths.name name line entry' (IsRemove desk.limit (state_of desk.accepted) found line entry')
        → IsCommandEntry Holds lengths desk.limit (state_of desk.accepted) None line shown entry')
        → IsNamed lengths.name name line (entry_of line done) (IsRemove desk.limit (state_of desk.accepted) found line (entry_of line done))
        → desk' ≡ desk_after done (command ∷ []) desk → IsEntered Holds lengths desk told failed (item.numbered line shown) entry desk' told failed
    carried_removal desk' legal_as legal_is left = rw (is, left) (record {
      loaded = None;
      legal = legal_as (entry_of line done) legal_is;
      no_search = none;
      no_sync = no_sync;
      no_search_entry = no_search_entry line done;
      opening = (same_opening done (command ∷ []) desk).0;
      limit = (same_opening done (command ∷ []) desk).1;
      accepted = accepted_after line done (command ∷ []) desk ∙ ap (λ cs. desk.accepted ++ accepted_by (Some (entry_of line done)) cs) (sym commands);
      tells = nothing (no_version line done) refl;
      published = λ h. same_published done (command ∷ []) desk ∙ h;
      counted =
          counted_same (entry_of line done) failed
          (no_failure_named lengths.name name line _ _ (no_failure_in_remove desk.limit (state_of desk.accepted) found line (entry_of line done))
          legal_is);
    })

  pub carried_remove : (name : List ℕ) (desk' : DeskState)
      → IsNamed lengths.name name line (entry_of line done)
      (IsRemove desk.limit (state_of desk.accepted) (is_taken name (state_of desk.accepted).documents) line (entry_of line done))
      → desk' ≡ desk_after done (Remove name ∷ []) desk
      → IsEntered Holds lengths desk told failed (item.numbered line (item.remove name)) entry desk' told failed
  carried_remove name desk' legal_is left =
      carried_removal (item.remove name) (Remove name) name _ refl refl refl desk' (λ entry' h. h) legal_is left

  pub carried_remove_under : (prefix : List ℕ) (desk' : DeskState)
      → IsNamed lengths.name prefix line (entry_of line done)
      (IsRemove desk.limit (state_of desk.accepted) (has_under prefix (state_of desk.accepted).documents) line (entry_of line done))
      → desk' ≡ desk_after done (RemoveUnder prefix ∷ []) desk
      → IsEntered Holds lengths desk told failed (item.numbered line (item.remove_under prefix)) entry desk' told failed
  carried_remove_under prefix desk' legal_is left =
      carried_removal (item.remove_under prefix) (RemoveUnder prefix) prefix _ refl refl refl desk' (λ entry' h. h) legal_is left

  pub carried_copy_under : (from to : List ℕ) (desk' : DeskState)
      → IsNamed lengths.name from line (entry_of line done)
      (IsNamed lengths.name to line (entry_of line done) (IsCopy lengths.name desk.limit (state_of desk.accepted) from to line (entry_of line done)))
      → desk' ≡ desk_after done (CopyUnder from to ∷ []) desk
      → IsEntered Holds lengths desk told failed (item.numbered line (item.copy_under from to)) entry desk' told failed
  carried_copy_under from to desk' legal_is left = rw (is, left) (record {
    loaded = None;
    legal = legal_is;
    no_search = refl;
    no_sync = refl;
    no_search_entry = no_search_entry line done;
    opening = (same_opening done (CopyUnder from to ∷ []) desk).0;
    limit = (same_opening done (CopyUnder from to ∷ []) desk).1;
    accepted = accepted_after line done (CopyUnder from to ∷ []) desk;
    tells = nothing (no_version line done) refl;
    published = λ h. same_published done (CopyUnder from to ∷ []) desk ∙ h;
    counted =
        counted_same (entry_of line done) failed
        (no_failure_named lengths.name from line _ _
        (no_failure_named lengths.name to line _ _
        (no_failure_in_copy lengths.name desk.limit (state_of desk.accepted) from to line (entry_of line done))) legal_is);
  })

-- publishes, and lines that are not valid items
module _ (Holds : List ℕ → List ℕ → Type 0) (lengths : Lengths) (desk : DeskState) (told : Known) (failed line : ℕ) (entry : Entry) where
  pub carried_publish : (desk' : DeskState) (told' : Known) (published : Result ℕ Reason) → entry ≡ published_entry_of line published
      → IfOk published (λ version. (version ≡ length desk.accepted) × (told' ≡ known desk.opening desk.accepted) × (desk'.published ≡ desk.accepted))
      → IfErr published (λ why. (why ≡ reason.OutOfMemory) × (told' ≡ told) × (desk'.published ≡ desk.published))
      → desk'.accepted ≡ desk.accepted → (desk'.opening ≡ desk.opening) × (desk'.limit ≡ desk.limit)
      → IsEntered Holds lengths desk told failed (item.numbered line item.publish) entry desk' told' failed
  carried_publish desk' told' (Ok version) is' ok err kept others = rw is' (record {
    loaded = None;
    legal = legal.published (ap (Published line) ok.0);
    no_search = refl;
    no_sync = refl;
    no_search_entry = refl;
    opening = others.0;
    limit = others.1;
    accepted = kept ∙ sym (append-nil desk.accepted);
    tells = all line (ap (Published line) ok.0) ok.1;
    published = λ h. ok.2 ∙ sym (ap (λ k. k.commands) ok.1);
    counted = counted_same (Published line version) failed refl;
  })
  carried_publish desk' told' (Err why) is' ok err kept others = rw is' (record {
    loaded = None;
    legal = legal.no_memory (ap (Refused line) err.0);
    no_search = refl;
    no_sync = refl;
    no_search_entry = refl;
    opening = others.0;
    limit = others.1;
    accepted = kept ∙ sym (append-nil desk.accepted);
    tells = nothing refl err.1;
    published = λ h. err.2 ∙ h ∙ sym (ap (λ k. k.commands) err.1);
    counted = counted_same (Refused line why) failed (no_failure_at (ap (Refused line) err.0) refl);
  })

  -- a line that is refused for itself
  pub carried_refused : (shown : Item) (why : Reason) → entry ≡ Refused line why
      → IsCommandEntry Holds lengths desk.limit (state_of desk.accepted) None line shown (Refused line why) → searches_of shown ≡ 0 → is_sync shown ≡ false
      → failures_in (Some (Refused line why)) ≡ 0 → IsEntered Holds lengths desk told failed (item.numbered line shown) entry desk told failed
  carried_refused shown why is legal_is none no_sync unfailed = rw is (record {
    loaded = None;
    legal = legal_is;
    no_search = none;
    no_sync = no_sync;
    no_search_entry = refl;
    opening = refl;
    limit = refl;
    accepted = sym (append-nil desk.accepted);
    tells = nothing refl refl;
    published = λ h. h;
    counted = counted_same (Refused line why) failed unfailed;
  })
