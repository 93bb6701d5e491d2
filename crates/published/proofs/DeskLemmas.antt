-- What a desk keeps, from call to call.
use Rattle.std.proofs.Common.{◌≡◌, ℕ, ◌+◌, ◌≤◌, List, [], ◌∷◌, ◌++◌, length, take, sym, ap, subst, ◌∙◌, arith}
use Rattle.std.proofs.Common.{length-append, not, ◌&&◌, ◌||◌}
use Rattle.std.specs.Prelude.{bytes_eq}
use Rattle.std.proofs.lemmas.List.{length-take, take-append-le}
use Rattle.std.proofs.Math.Seq.{take-length}
use Rattle.prefixes.specs.Under.{begins_with}
use Rattle.documents.specs.declared.command.Command.{Command}
use Rattle.documents.specs.declared.command.Command.TheVariants.{Put, Remove, RemoveUnder, CopyUnder}
use Rattle.documents.specs.Documents.{renamed}
use Rattle.published.specs.History.{Known}
use Rattle.published.specs.Private.Names.{has_name, is_one_of, new_copies, names_under}
use Rattle.published.specs.Desk.{DeskState, desk_state, with_command, has_document}
use Rattle.published.specs.declared.names.Names.{Names}
use Rattle.published.specs.declared.shelf.Update.{Update}
use Rattle.published.specs.Private.Shelf.{command_of}
use Rattle.published.specs.Private.Copies.{CopiesState, copies_state}
use Rattle.published.specs.Private.DeskParts.{Begins, HasNamesOf}
use Rattle.published.proofs.DocumentNames.{has_document-put, has_document-remove, has_document-remove_under, has_document-copy_under}
use Rattle.published.proofs.CopyNames.{copied-names}

-- commands begin themselves
pub begins_same : (commands accepted : List Command) → accepted ≡ commands → Begins commands accepted
begins_same commands accepted is = ap (take (length commands)) is ∙ take-length commands

begins_more : (commands accepted : List Command) (command : Command) → Begins commands accepted → Begins commands (accepted ++ command ∷ [])
begins_more commands accepted command begins =
    let few : length commands ≤ length accepted = omega (arith, length-take (length commands) accepted, ap length begins) in
    take-append-le (length commands) accepted (command ∷ []) few ∙ begins

pub named_same : (names : Names) (commands commands' : List Command) → commands' ≡ commands → HasNamesOf names commands → HasNamesOf names commands'
named_same names commands commands' same named = λ name. named name ∙ ap (λ c. has_document c name) (sym same)

-- one more command is accepted
module _ (copies copies' : CopiesState) (update : Update) (more : copies' ≡ copies_state copies.shown (copies.accepted ++ command_of update ∷ [])) where
  accepted_more : copies'.accepted ≡ copies.accepted ++ command_of update ∷ []
  accepted_more = ap (λ c. c.accepted) more

  pub begins_still : (commands : List Command) → Begins commands copies.accepted → Begins commands copies'.accepted
  begins_still commands begins = subst (Begins commands) (sym accepted_more) (begins_more commands copies.accepted (command_of update) begins)

  pub counted_one_more : (accepted : ℕ) → accepted ≡ length copies.accepted → accepted + 1 ≡ length copies'.accepted
  counted_one_more accepted counted = omega (arith, counted, ap length accepted_more, length-append copies.accepted (command_of update ∷ []))

  pub named_now : (names : Names) → HasNamesOf names (copies.accepted ++ command_of update ∷ []) → HasNamesOf names copies'.accepted
  named_now names named = named_same names (copies.accepted ++ command_of update ∷ []) copies'.accepted accepted_more named

  -- what contracts see then
  pub desk_with : (front : Known) (limit : ℕ) (command : Command) (desk : DeskState)
      → desk_state front.opening limit copies.shown.commands copies.accepted ≡ desk → command_of update ≡ command
      → desk_state front.opening limit copies'.shown.commands copies'.accepted ≡ with_command command desk
  desk_with front limit command desk seen is =
      ap (λ c. desk_state front.opening limit c.shown.commands c.accepted) more
      ∙ (ap (λ c. desk_state front.opening limit copies.shown.commands (copies.accepted ++ c ∷ [])) is ∙ ap (with_command command) seen)

-- the names after a put and after a remove
pub noted_put : (commands : List Command) (names names' : Names) (n n' body : List ℕ) → n' ≡ n
    → HasNamesOf names commands → ((name : List ℕ) → has_name names' name ≡ (bytes_eq n name || has_name names name))
    → HasNamesOf names' (commands ++ Put n' body ∷ [])
noted_put commands names names' n n' body same was now = λ name.
    now name
    ∙ (ap (λ b. bytes_eq n name || b) (was name)
    ∙ (ap (λ m. bytes_eq m name || has_document commands name) (sym same) ∙ sym (has_document-put commands n' body name)))

pub noted_remove : (commands : List Command) (names names' : Names) (n n' : List ℕ) → n' ≡ n
    → HasNamesOf names commands → ((name : List ℕ) → has_name names' name ≡ (not (bytes_eq n name) && has_name names name))
    → HasNamesOf names' (commands ++ Remove n' ∷ [])
noted_remove commands names names' n n' same was now = λ name.
    now name
    ∙ (ap (λ b. not (bytes_eq n name) && b) (was name)
    ∙ (ap (λ m. not (bytes_eq m name) && has_document commands name) (sym same) ∙ sym (has_document-remove commands n' name)))

pub noted_remove_under : (commands : List Command) (names names' : Names) (n n' : List ℕ) → n' ≡ n
    → HasNamesOf names commands → ((name : List ℕ) → has_name names' name ≡ (not (begins_with n name) && has_name names name))
    → HasNamesOf names' (commands ++ RemoveUnder n' ∷ [])
noted_remove_under commands names names' n n' same was now = λ name.
    now name
    ∙ (ap (λ b. not (begins_with n name) && b) (was name)
    ∙ (ap (λ m. not (begins_with m name) && has_document commands name) (sym same) ∙ sym (has_document-remove_under commands n' name)))

pub noted_copy_under : (commands : List Command) (names names' : Names) (from from' to to' : List ℕ) → from' ≡ from → to' ≡ to
    → HasNamesOf names commands
    → ((name : List ℕ) → has_name names' name ≡ (is_one_of (new_copies names from to (names_under names from)) name || has_name names name))
    → HasNamesOf names' (commands ++ CopyUnder from' to' ∷ [])
noted_copy_under commands names names' from from' to to' same same' was now = λ name.
    now name
    ∙ copied-names names from to name
    ∙ ap (λ b. (begins_with to name && b) || has_name names name) (was (renamed to from name))
    ∙ ap (λ b. (begins_with to name && has_document commands (renamed to from name)) || b) (was name)
    ∙ ap (λ t. (begins_with t name && has_document commands (renamed t from name)) || has_document commands name) (sym same')
    ∙ ap (λ f. (begins_with to' name && has_document commands (renamed to' f name)) || has_document commands name) (sym same)
    ∙ sym (has_document-copy_under commands from' to' name)
