use Rattle.std.proofs.Common.{rules, sym, ap, ◌∙◌}
use Rattle.documents.specs.State.{state_of}
use Rattle.published.proofs.Turns.{turns_at}
use Rattle.published.proofs.opening.shelves.Goals as goal

pub show_as-requires : goal.show_as-requires
show_as-requires g c =
    let made = c.empty-3.ensures in
    turns_at _ _ _ c.empty-3.result (search rules) (λ exact. made.0 ∙ sym (ap (λ f. state_of f.commands) made.1 ∙ ap state_of c.requires.front))
