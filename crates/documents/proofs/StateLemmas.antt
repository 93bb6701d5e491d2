-- The state after one more command.
use Rattle.std.proofs.Common.{◌≡◌, ◌+◌, List, [], ◌∷◌, ◌++◌, length, ◌∙◌, ap}
use Rattle.std.specs.FinMap.{empty}
use Rattle.std.proofs.lemmas.List.{length-append}
use Rattle.std.proofs.lemmas.List.Sums.{fold_push}
use Rattle.documents.specs.declared.command.Command.{Command}
use Rattle.documents.specs.Documents.{Documents, documents_after, documents_of}
use Rattle.documents.specs.State.{state, state_of, applied}

pub state_of-push : (commands : List Command) (command : Command) → state_of (commands ++ command ∷ []) ≡ applied command (state_of commands)
state_of-push commands command =
    ap (λ v. state v (documents_of (commands ++ command ∷ []))) (length-append commands (command ∷ []))
    ∙ ap (state (length commands + 1)) (fold_push (λ (ds : Documents) (c : Command). documents_after c ds) empty commands command)
