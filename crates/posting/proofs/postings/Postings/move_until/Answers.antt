use Rattle.std.proofs.Common.{subst}
use Rattle.posting.specs.Private.Moves.{MovesIn, IsMovedIn}
use Rattle.posting.proofs.Merging.{fewer_left}
use Rattle.posting.proofs.Moves.{moves_none, moves_more, moved_before}
use Rattle.posting.proofs.postings.Postings.move_until.Goals as goal

pub loop-next-init : goal.loop-next-init
loop-next-init c =
    moves_none c.args.old.now c.args.new.now c.args.from c.args.number c.args.self.now c.iter_from-olds.result c.iter_from-news.result
    c.iter_from-olds.ensures.trigrams c.iter_from-news.ensures.trigrams

pub returns-then-left-eq0-clause-ok : goal.returns-then-left-eq0-clause-ok
returns-then-left-eq0-clause-ok c =
    moved_before c.args.old.now c.args.new.now c.args.from c.args.number c.args.self.now c.loop-next.self c.loop-next.olds c.loop-next.news c.in-Some.next.1
    c.lower_trigram.new.left c.lower_trigram.new.right c.loop-next.invariant c.in-Some.ensures.some.1

pub loop-next-smaller : goal.loop-next-smaller
loop-next-smaller c =
    fewer_left c.loop-next.olds c.loop-next.news c.in-Some.next.1 c.lower_trigram.new.left c.lower_trigram.new.right c.in-Some.ensures.some.1

pub loop-next-preserved : goal.loop-next-preserved
loop-next-preserved c =
    let next = c.in-Some.next.1 in
    let now = c.loop-next.self in
    let after = c.move_one.new.self in
    let number = c.args.number in
    moves_more c.args.old.now c.args.new.now c.args.from number c.args.self.now now c.loop-next.olds c.loop-next.news next c.lower_trigram.new.left
    c.lower_trigram.new.right c.loop-next.invariant c.in-Some.ensures.some.1 after
    (subst (λ t. MovesIn now after number t next.in_left next.in_right) c.in-Some.ensures.some.0 c.in_ok-is_change.ensures.moved)
    (subst (λ t. IsMovedIn after number t next.in_left next.in_right) c.in-Some.ensures.some.0 c.in_ok-is_change.ensures.ok)
