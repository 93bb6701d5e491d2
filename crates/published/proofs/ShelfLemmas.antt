-- A shelf after some operations.
use Rattle.std.proofs.Common.{◌≡◌, List, [], ◌∷◌, ◌++◌, fold, refl, sym, ap, ◌∙◌, append_assoc}
use Rattle.std.proofs.lemmas.List.{append-nil}
use Rattle.std.proofs.lemmas.Grind.{fold-append}
use Rattle.documents.specs.declared.command.Command.{Command}
use Rattle.documents.specs.State.{State, applied, state_of}
use Rattle.documents.proofs.StateLemmas.{state_of-push}
use Rattle.published.specs.History.{Known}
use Rattle.published.specs.declared.shelf.Update.{Update}
use Rattle.published.specs.declared.shelf.Operation.{Operation}
use Rattle.published.specs.declared.shelf.Operation.TheVariants.{Change, Stamp}
use Rattle.published.specs.declared.shelf.Shelf.{Shelf}
use Rattle.published.specs.Private.Shelf.{command_of, operated, commands_in}
use Rattle.published.specs.Private.Rule.{IsExact}
use Rattle.published.specs.Private.Copies.{accepted_of}

abbrev after : State → List Command → State
after s commands = fold (λ (x : State) (c : Command). applied c x) s commands

fold_index : (shelf : Shelf) (operations : List Operation) → (fold operated shelf operations).index ≡ after shelf.index (commands_in operations)
fold_index shelf [] = refl
fold_index shelf (Change update ∷ later) = fold_index (operated shelf (Change update)) later
fold_index shelf (Stamp front ∷ later) = fold_index (operated shelf (Stamp front)) later

state_of-more : (commands more : List Command) → state_of (commands ++ more) ≡ after (state_of commands) more
state_of-more commands [] = ap state_of (append-nil commands)
state_of-more commands (command ∷ more) =
    ap state_of (sym (append_assoc commands (command ∷ []) more))
    ∙ (state_of-more (commands ++ command ∷ []) more ∙ ap (λ s. after s more) (state_of-push commands command))

-- the commands of operations, and of more operations after them
pub commands_in-append : (xs ys : List Operation) → commands_in (xs ++ ys) ≡ commands_in xs ++ commands_in ys
commands_in-append [] ys = refl
commands_in-append (Change update ∷ xs) ys = ap (λ c. command_of update ∷ c) (commands_in-append xs ys)
commands_in-append (Stamp front ∷ xs) ys = commands_in-append xs ys

pub accepted_of-change : (shown : Shelf) (pending : List Operation) (update : Update)
    → accepted_of shown (pending ++ Change update ∷ []) ≡ accepted_of shown pending ++ command_of update ∷ []
accepted_of-change shown pending update =
    ap (λ c. shown.front.commands ++ c) (commands_in-append pending (Change update ∷ []))
    ∙ sym (append_assoc shown.front.commands (commands_in pending) (command_of update ∷ []))

pub accepted_of-stamp : (shown : Shelf) (pending : List Operation) (front : Known) → accepted_of shown (pending ++ Stamp front ∷ []) ≡ accepted_of shown pending
accepted_of-stamp shown pending front = ap (λ c. shown.front.commands ++ c) (commands_in-append pending (Stamp front ∷ []) ∙ append-nil (commands_in pending))

-- the shelf after the pending operations and the stamp of a front
module _ (shown next : Shelf) (pending : List Operation) (front : Known) (is : next ≡ fold operated shown (pending ++ Stamp front ∷ [])) where
  stamped : next ≡ operated (fold operated shown pending) (Stamp front)
  stamped = is ∙ fold-append operated shown pending (Stamp front ∷ [])

  pub next_front : next.front ≡ front
  next_front = ap (λ s. s.front) stamped

  pub next_exact : front.commands ≡ accepted_of shown pending → IsExact shown → IsExact next
  next_exact all exact =
      let index : next.index ≡ after shown.index (commands_in pending) = ap (λ s. s.index) stamped ∙ fold_index shown pending in
      let state : state_of next.front.commands ≡ after (state_of shown.front.commands) (commands_in pending) =
      ap (λ f. state_of f.commands) next_front ∙ (ap state_of all ∙ state_of-more shown.front.commands (commands_in pending)) in
      index ∙ (ap (λ s. after s (commands_in pending)) exact ∙ sym state)
