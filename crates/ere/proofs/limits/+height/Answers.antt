use Rattle.std.proofs.Common.{arith, ◌∙◌}
use Rattle.ere.proofs.Sizes.{forms_back, forms_end, height-Empty, height-Set, height-Start, height-End, height-Cat, height-Alt}
use Rattle.ere.proofs.Sizes.{height-Repeat, height-positive, highest-more, never_low, leaf_low, inside_low, member_low, member_high, nothing_low}
use Rattle.ere.proofs.PartLemmas.{highest_none}
use Rattle.ere.proofs.limits.+height.Goals as goal

pub are_low-loop-i-init : goal.are_low-loop-i-init
are_low-loop-i-init t c = rw (forms_end c.args.members.now, highest_none) (nothing_low c.args.most)

pub are_low-loop-i-preserved-then-is_low : goal.are_low-loop-i-preserved-then-is_low
are_low-loop-i-preserved-then-is_low t c =
    rw (forms_back c.args.members.now c.loop-i.i c.index-members-i.result (omega arith) (omega arith) c.index-members-i.is, highest-more)
    (member_low _ _ c.args.most c.loop-i.low c.is_low.result c.is_low.ensures c.if-is_low.true c.loop-i.invariant)

pub are_low-loop-i-preserved : goal.are_low-loop-i-preserved
are_low-loop-i-preserved t c =
    rw (forms_back c.args.members.now c.loop-i.i c.index-members-i.result (omega arith) (omega arith) c.index-members-i.is, highest-more)
    (member_high _ _ c.args.most c.is_low.result c.is_low.ensures c.if-is_low.false)

pub is_low-returns-then-most-eq0 : goal.is_low-returns-then-most-eq0
is_low-returns-then-most-eq0 t c = never_low _ c.args.most (height-positive _) c.if-most-eq0.true

pub is_low-returns-in-Empty : goal.is_low-returns-in-Empty
is_low-returns-in-Empty t c = leaf_low _ c.args.most (height-Empty _ c.in-Empty.is) c.if-most-eq0.false

pub is_low-returns-in-Set : goal.is_low-returns-in-Set
is_low-returns-in-Set t c = leaf_low _ c.args.most (height-Set _ _ c.in-Set.is) c.if-most-eq0.false

pub is_low-returns-in-Start : goal.is_low-returns-in-Start
is_low-returns-in-Start t c = leaf_low _ c.args.most (height-Start _ c.in-Start.is) c.if-most-eq0.false

pub is_low-returns-in-End : goal.is_low-returns-in-End
is_low-returns-in-End t c = leaf_low _ c.args.most (height-End _ c.in-End.is) c.if-most-eq0.false

pub is_low-returns-in-Cat : goal.is_low-returns-in-Cat
is_low-returns-in-Cat t c =
    rw c.deref.ensures.value at c.are_low.ensures
    ∙ inside_low _ _ c.args.most (height-Cat _ c.in-Cat.members c.in-Cat.is) c.if-most-eq0.false

pub is_low-returns-in-Alt : goal.is_low-returns-in-Alt
is_low-returns-in-Alt t c =
    rw c.deref-in-Alt.ensures.value at c.are_low-in-Alt.ensures
    ∙ inside_low _ _ c.args.most (height-Alt _ c.in-Alt.members c.in-Alt.is) c.if-most-eq0.false

pub is_low-returns-in-Repeat : goal.is_low-returns-in-Repeat
is_low-returns-in-Repeat t c =
    rw c.deref-in-Repeat.ensures at c.is_low.ensures
    ∙ inside_low _ _ c.args.most (height-Repeat _ c.in-Repeat.body _ _ c.in-Repeat.is) c.if-most-eq0.false
