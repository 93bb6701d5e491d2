use Rattle.std.proofs.Common.{subst, sym}
use Rattle.std.proofs.lemmas.Option.{IfSome_then}
use Rattle.steps.specs.Steps.{given}
use Rattle.service.specs.Turns.{GivesTurn, StillHave}
use Rattle.service.proofs.TurnsLemmas.{next_given, none_then}
use Rattle.service.proofs.turns.Turns.take.Goals as goal

pub returns-in-Some-clause-some : goal.returns-in-Some-clause-some
returns-in-Some-clause-some c =
    subst (λ v. GivesTurn c.args.self.now (given c.in-Some.aside.reader c.in-Some.aside.turn v) c.take_aside.new.self) c.if-aside-version.true
    c.in-Some.ensures.gives

pub returns-in_default-clause-some : goal.returns-in_default-clause-some
returns-in_default-clause-some c =
    IfSome_then c.next.result c.next.ensures.some
    (λ t is. next_given c.args.self.now c.take_aside.new.self c.next.new.self t.reader t.turn c.args.version c.take_aside.ensures.still is.1 is.2)

pub returns-in_default-clause-none : goal.returns-in_default-clause-none
returns-in_default-clause-none c =
    none_then c.next.result (λ same. subst (StillHave c.args.self.now) (sym same) c.take_aside.ensures.still) c.next.ensures.none
