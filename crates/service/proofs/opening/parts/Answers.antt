use Rattle.std.proofs.Common.{◌∙◌, ◌++◌, ◌∷◌, [], ap}
use Rattle.service.proofs.opening.parts.Goals as goal

pub returns-clause-kept : goal.returns-clause-kept
returns-clause-kept g c = c.in_ok-push_back.ensures.items ∙ ap (λ l. l ++ 0 ∷ []) c.new-kept.ensures.items
