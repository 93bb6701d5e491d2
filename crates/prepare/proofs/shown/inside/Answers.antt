use Rattle.std.proofs.Common.{refl, ap, ◌∙◌}
use Rattle.ere.specs.Tree.{form}
use Rattle.ere.proofs.Forms.{form-Empty, form-Set, form-Start, form-End, form-Alt, form-Repeat}
use Rattle.prepare.proofs.ShownLemmas.{inside_cat}
use Rattle.prepare.proofs.shown.inside.Goals as goal

pub returns-in-Empty : goal.returns-in-Empty
returns-in-Empty c = rw (ap form c.in-Empty.is ∙ form-Empty) refl

pub returns-in-Set : goal.returns-in-Set
returns-in-Set c = rw (ap form c.in-Set.is ∙ form-Set _) refl

pub returns-in-Start : goal.returns-in-Start
returns-in-Start c = rw (ap form c.in-Start.is ∙ form-Start) refl

pub returns-in-End : goal.returns-in-End
returns-in-End c = rw (ap form c.in-End.is ∙ form-End) refl

pub returns-in-Cat : goal.returns-in-Cat
returns-in-Cat c =
    c.second.ensures ∙ inside_cat c.args.tree.now c.in-Cat.members c.deref.result.now c.in-Cat.is c.deref.ensures.value

pub returns-in-Alt : goal.returns-in-Alt
returns-in-Alt c = rw (ap form c.in-Alt.is ∙ form-Alt _) refl

pub returns-in-Repeat : goal.returns-in-Repeat
returns-in-Repeat c = rw (ap form c.in-Repeat.is ∙ form-Repeat _ _ _) refl
