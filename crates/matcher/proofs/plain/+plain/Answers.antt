use Rattle.std.proofs.Common.{ap, sym, subst, ◌∙◌}
use Rattle.ere.specs.Tree.{form}
use Rattle.ere.proofs.Forms.{form-Empty, form-Set, form-Start, form-Cat, form-Alt, form-Repeat}
use Rattle.matcher.specs.Private.Longer.{HoldsInLonger}
use Rattle.matcher.proofs.Longer.{holds_empty, holds_set, holds_start, holds_cat, holds_alt, holds_repeat}
use Rattle.matcher.proofs.plain.+plain.Goals as goal

pub is_plain-returns-in-Empty : goal.is_plain-returns-in-Empty
is_plain-returns-in-Empty t c = λ held. subst HoldsInLonger (sym (ap form c.in-Empty.is ∙ form-Empty)) holds_empty

pub is_plain-returns-in-Set : goal.is_plain-returns-in-Set
is_plain-returns-in-Set t c = λ held. subst HoldsInLonger (sym (ap form c.in-Set.is ∙ form-Set c.in-Set._members)) (holds_set _)

pub is_plain-returns-in-Start : goal.is_plain-returns-in-Start
is_plain-returns-in-Start t c = λ held. subst HoldsInLonger (sym (ap form c.in-Start.is ∙ form-Start)) holds_start

pub is_plain-returns-in-Cat : goal.is_plain-returns-in-Cat
is_plain-returns-in-Cat t c =
    λ held.
    subst HoldsInLonger (sym (ap form c.in-Cat.is ∙ form-Cat c.in-Cat.members))
    (holds_cat _ (rw (← c.deref.ensures.value) (c.are_plain.ensures held)))

pub is_plain-returns-in-Alt : goal.is_plain-returns-in-Alt
is_plain-returns-in-Alt t c =
    λ held.
    subst HoldsInLonger (sym (ap form c.in-Alt.is ∙ form-Alt c.in-Alt.members))
    (holds_alt _ (rw (← c.deref-in-Alt.ensures.value) (c.are_plain-in-Alt.ensures held)))

pub is_plain-returns-then-is_set : goal.is_plain-returns-then-is_set
is_plain-returns-then-is_set t c =
    λ held.
    subst HoldsInLonger (sym (ap form c.in-Repeat.is ∙ form-Repeat c.in-Repeat.body c.in-Repeat._least c.in-Repeat.greatest))
    (holds_repeat (form c.in-Repeat.body.value) c.in-Repeat._least c.in-Repeat.greatest
    (rw (← c.deref-then-is_set.ensures) (c.is_plain.ensures held)))
