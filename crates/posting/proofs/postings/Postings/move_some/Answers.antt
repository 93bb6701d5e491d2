use Rattle.std.proofs.Common.{ℕ, Option}
use Rattle.std.proofs.lemmas.Result.{IfOk-weaker}
use Rattle.posting.specs.Postings.{IsMovedUntil}
use Rattle.posting.proofs.Moves.{moved_same, until_same}
use Rattle.posting.proofs.postings.Postings.move_some.Goals as goal

pub returns-clause-ok : goal.returns-clause-ok
returns-clause-ok c =
    IfOk-weaker c.move_until-moved.result
    (λ (done : Option ℕ × ℕ). IsMovedUntil c.move_until-moved.new.self c.args.number c.args.old.now c.args.new.now c.args.from done.0)
    (λ (done : Option ℕ × ℕ). IsMovedUntil c.give_back.new.self c.args.number c.args.old.now c.args.new.now c.args.from done.0)
    (λ done is. until_same c.move_until-moved.new.self c.give_back.new.self c.args.number c.args.old.now c.args.new.now c.give_back.ensures.members c.args.from done.0 is)
    c.move_until-moved.ensures.ok

pub returns-clause-moved : goal.returns-clause-moved
returns-clause-moved c =
    moved_same c.move_until-moved.new.self c.give_back.new.self c.args.number c.args.old.now c.args.new.now c.give_back.ensures.members c.args.self.now
    c.move_until-moved.ensures.moved
