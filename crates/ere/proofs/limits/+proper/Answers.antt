use Rattle.std.proofs.Common.{arith}
use Rattle.ere.proofs.Sizes.{forms_back, forms_end, proper-Empty, proper-Set, proper-Start, proper-End, proper-Cat, proper-Alt, few-Cat}
use Rattle.ere.proofs.Sizes.{few-Alt, proper-Repeat, unordered-Repeat, proper-none, proper-more, improper-more}
use Rattle.ere.proofs.limits.+proper.Goals as goal

pub are_proper-loop-i-init : goal.are_proper-loop-i-init
are_proper-loop-i-init t c = rw (forms_end c.args.members.now) proper-none

pub are_proper-loop-i-preserved-then-is_proper : goal.are_proper-loop-i-preserved-then-is_proper
are_proper-loop-i-preserved-then-is_proper t c =
    rw (forms_back c.args.members.now c.loop-i.i c.index-members-i.result (omega arith) (omega arith) c.index-members-i.is)
    (proper-more _ _ c.is_proper.result c.loop-i.proper c.is_proper.ensures c.loop-i.invariant c.if-is_proper.true)

pub are_proper-loop-i-preserved : goal.are_proper-loop-i-preserved
are_proper-loop-i-preserved t c =
    rw (forms_back c.args.members.now c.loop-i.i c.index-members-i.result (omega arith) (omega arith) c.index-members-i.is)
    (improper-more _ _ c.is_proper.result c.is_proper.ensures c.if-is_proper.false)

pub is_proper-returns-then-len-ge2 : goal.is_proper-returns-then-len-ge2
is_proper-returns-then-len-ge2 t c =
    proper-Cat _ c.in-Cat.members c.len.result _ c.in-Cat.is (omega (arith, c.in-Cat.members.ok.0)) (omega arith)
    (rw c.deref.ensures.value at c.are_proper.ensures)

pub is_proper-returns-else-len-ge2 : goal.is_proper-returns-else-len-ge2
is_proper-returns-else-len-ge2 t c =
    few-Cat _ c.in-Cat.members c.len.result c.in-Cat.is (omega (arith, c.in-Cat.members.ok.0)) (omega arith)

pub is_proper-returns-then-len-ge2-2 : goal.is_proper-returns-then-len-ge2-2
is_proper-returns-then-len-ge2-2 t c =
    proper-Alt _ c.in-Alt.members c.len-in-Alt.result _ c.in-Alt.is (omega (arith, c.in-Alt.members.ok.0)) (omega arith)
    (rw c.deref-then-len-ge2-2.ensures.value at c.are_proper-then-len-ge2-2.ensures)

pub is_proper-returns-else-len-ge2-2 : goal.is_proper-returns-else-len-ge2-2
is_proper-returns-else-len-ge2-2 t c =
    few-Alt _ c.in-Alt.members c.len-in-Alt.result c.in-Alt.is (omega (arith, c.in-Alt.members.ok.0)) (omega arith)

pub is_proper-returns-then-is_ordered : goal.is_proper-returns-then-is_ordered
is_proper-returns-then-is_ordered t c =
    proper-Repeat _ c.in-Repeat.body _ _ c.is_ordered.result _ c.in-Repeat.is c.is_ordered.ensures c.if-is_ordered.true
    (rw c.deref-then-is_ordered.ensures at c.is_proper.ensures)

pub is_proper-returns-else-is_ordered : goal.is_proper-returns-else-is_ordered
is_proper-returns-else-is_ordered t c =
    unordered-Repeat _ c.in-Repeat.body _ _ c.is_ordered.result c.in-Repeat.is c.is_ordered.ensures c.if-is_ordered.false

pub is_proper-returns-in-Empty : goal.is_proper-returns-in-Empty
is_proper-returns-in-Empty t c = proper-Empty _ c.in-Empty.is

pub is_proper-returns-in-Set : goal.is_proper-returns-in-Set
is_proper-returns-in-Set t c = proper-Set _ _ c.in-Set.is

pub is_proper-returns-in-Start : goal.is_proper-returns-in-Start
is_proper-returns-in-Start t c = proper-Start _ c.in-Start.is

pub is_proper-returns-in-End : goal.is_proper-returns-in-End
is_proper-returns-in-End t c = proper-End _ c.in-End.is
