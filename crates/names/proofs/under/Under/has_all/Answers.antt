use Rattle.std.proofs.Common.{ℕ, List, sym, ◌∙◌, ap}
use Rattle.prefixes.specs.Under.{is_under_one}
use Rattle.names.proofs.ChosenLemmas.{under_further}
use Rattle.names.proofs.under.Under.has_all.Goals as goal

pub returns : goal.returns
returns c = λ yes rest. under_further c.args.self.now c.args.beginning.now rest
    (ap (λ (texts : List (List ℕ)). is_under_one texts c.args.beginning.now) (sym c.self.view_is) ∙ (sym c.have.ensures ∙ yes))
