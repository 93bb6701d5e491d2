use Rattle.std.proofs.Common.{ap, refl, sym, subst}
use Rattle.std.proofs.lemmas.Option.{slice_get_within}
use Rattle.steps.specs.Steps.{given}
use Rattle.service.specs.Private.Closing.{CanClose}
use Rattle.service.specs.Turns.{GivesTurn}
use Rattle.service.proofs.ServiceLemmas.{gives_answer}
use Rattle.service.proofs.service.Service.close_with.Goals as goal

pub returns-clause-gives : goal.returns-clause-gives
returns-clause-gives g c =
    let closes = subst (λ s. CanClose s c.args.place c.args.answer) (sym c.self.view_is) c.requires.closes in
    let turn = c.in_ok-turn.turn in
    rw (← c.self.view_is)
    (gives_answer _ c.args.place _ (slice_get_within c.self.inside.awaited.items c.args.place closes.search closes.is_open) c.remove-search.result
    c.remove-search.ensures.value (ap (λ s. s.number) c.search.view_is) _ c.remove-search.ensures.by_index.2 c.take.new.self turn.reader turn.turn
    c.args.answer closes
    (subst (λ v. GivesTurn c.self.inside.turns (given turn.reader turn.turn v) c.take.new.self) c.version.ensures c.in_ok-turn.ensures.some))

pub returns-in_err-turn-clause-none : goal.returns-in_err-turn-clause-none
returns-in_err-turn-clause-none g c =
    rw c.from_residual.ensures (rw (← c.self.view_is) (record { still = c.in_err-turn.ensures.none; left = refl }))

pub invariant_of-self : goal.invariant_of-self
invariant_of-self g c = (
  c.self.invariant.0,
  c.self.invariant.1,
  c.self.invariant.2,
  record { begins = c.self.invariant.3.begins; least = c.self.invariant.3.least; few = c.self.invariant.3.few },
  c.self.invariant.4,
)
