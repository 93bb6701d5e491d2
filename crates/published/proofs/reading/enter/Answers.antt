use Rattle.std.proofs.Common.{sym, ◌∙◌, ap}
use Rattle.documents.specs.State.{state_of}
use Rattle.published.specs.History.{Known}
use Rattle.published.specs.declared.shelf.Shelf.{Shelf}
use Rattle.published.proofs.Turns.{turns}
use Rattle.published.proofs.reading.enter.Goals as goal

pub enter_as-requires : goal.enter_as-requires
enter_as-requires g c x = turns _ _ x

pub returns-in-Ok-clause-looked : goal.returns-in-Ok-clause-looked
returns-in-Ok-clause-looked g c = (
  _,
  c.look-found.ensures,
  ap (λ (s : Shelf). s.index) c.get-shelf.ensures
      ∙ c.in-Ok.ensures.1.exact
      ∙ ap (λ (s : Shelf). state_of s.front.commands) (sym c.get-shelf.ensures)
      ∙ ap (λ (f : Known). state_of f.commands) (sym c.again-front.ensures),
)
