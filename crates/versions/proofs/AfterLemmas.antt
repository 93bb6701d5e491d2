-- Commands that are applied one after the other.
use Rattle.std.proofs.Common.{◌≡◌, ℕ, ◌+◌, ◌<◌, List, [], ◌∷◌, ◌++◌, length, take, get_or, sym, ◌∙◌, ap, arith}
use Rattle.std.proofs.lemmas.List.{take_more, map-append}
use Rattle.std.proofs.lemmas.List.Sums.{fold-append}
use Rattle.documents.specs.declared.command.Command.{Command}
use Rattle.documents.specs.State.{State, applied}
use Rattle.versions.specs.declared.update.Update.{Update}
use Rattle.versions.specs.Updates.{command_of, commands_of, after}

-- each command adds one to the version
pub version-after : (commands : List Command) (s : State) → (after commands s).version ≡ s.version + length commands
version-after [] s = omega arith
version-after (c ∷ commands) s = let rest = version-after commands (applied c s) in omega (arith, rest)

pub after-append : (first second : List Command) (s : State) → after (first ++ second) s ≡ after second (after first s)
after-append first second s = fold-append (λ state command. applied command state) s first second

pub after_next : (updates : List Update) (at : ℕ) (update : Update) (s now next : State) → at < length updates → update ≡ get_or updates at update
    → now ≡ after (commands_of (take at updates)) s → next ≡ applied (command_of update) now → next ≡ after (commands_of (take (at + 1) updates)) s
after_next updates at update s now next inside is so_far step =
    step
    ∙ (ap (applied (command_of update)) so_far
    ∙ (sym (after-append (commands_of (take at updates)) (command_of update ∷ []) s)
    ∙ ap (λ commands. after commands s)
    (sym (map-append command_of (take at updates) (update ∷ []))
    ∙ ap commands_of (ap (λ u. take at updates ++ u ∷ []) is ∙ sym (take_more updates at update inside)))))
