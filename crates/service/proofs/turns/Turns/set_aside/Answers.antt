use Rattle.std.proofs.Common.{subst, sym}
use Rattle.service.specs.Turns.{StillHave}
use Rattle.service.proofs.TurnsLemmas.{next_set_aside}
use Rattle.service.proofs.turns.Turns.set_aside.Goals as goal

pub returns-in-Some : goal.returns-in-Some
returns-in-Some c =
    next_set_aside c.args.self.now c.take_aside.new.self c.next.new.self c.keep.new.self
    (record { number = c.args.number; reader = c.in-Some.turn.reader; turn = c.in-Some.turn.turn; version = c.args.version })
    c.take_aside.ensures.still c.in-Some.ensures.some.1 c.in-Some.ensures.some.2 c.keep.ensures

pub returns-in_default : goal.returns-in_default
returns-in_default c = subst (StillHave c.args.self.now) (sym c.in_default.ensures.none) c.take_aside.ensures.still
