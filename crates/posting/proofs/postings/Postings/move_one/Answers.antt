use Rattle.std.proofs.Common.{◌≡◌, false, rules}
use Rattle.posting.proofs.Moves.{removed_in, is_removed}
use Rattle.posting.proofs.postings.Postings.move_one.Goals as goal

pub returns-then-not-next-clause-ok : goal.returns-then-not-next-clause-ok
returns-then-not-next-clause-ok c =
    let none : c.args.next.in_right ≡ false = search rules in
    is_removed c.args.self.now c.remove.new.self c.args.number c.args.trigram c.args.next.in_left c.args.next.in_right none c.remove.ensures.at
    c.remove.ensures.others

pub returns-then-not-next-clause-moved : goal.returns-then-not-next-clause-moved
returns-then-not-next-clause-moved c =
    let none : c.args.next.in_right ≡ false = search rules in
    removed_in c.args.self.now c.remove.new.self c.args.number c.args.trigram c.args.next.in_left c.args.next.in_right none c.remove.ensures.at
    c.remove.ensures.others
