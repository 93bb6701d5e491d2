use Rattle.std.proofs.Common.{arith, sym, ◌∙◌, min, ap, ◌*◌}
use Rattle.ere.proofs.Sizes.{forms, forms_back, forms_end, capped_product, copies_positive, leaves-Empty, leaves-Set, leaves-Start}
use Rattle.ere.proofs.Sizes.{leaves-End, leaves-Cat, leaves-Alt, leaves-Repeat, leaves_in-more, leaves_in-none}
use Rattle.ere.specs.Limits.{leaves, leaves_in}
use Rattle.ere.specs.Tree.{form}
use Rattle.ere.proofs.limits.+leaves.Goals as goal

pub capped_leaves-returns-in-Cat : goal.capped_leaves-returns-in-Cat
capped_leaves-returns-in-Cat t c = omega (arith, leaves-Cat _ c.in-Cat.members c.in-Cat.is, rw c.deref.ensures.value at c.capped_leaves_in.ensures)

pub capped_leaves-returns-in-Alt : goal.capped_leaves-returns-in-Alt
capped_leaves-returns-in-Alt t c =
    omega (arith, leaves-Alt _ c.in-Alt.members c.in-Alt.is, rw c.deref-in-Alt.ensures.value at c.capped_leaves_in-in-Alt.ensures)

pub capped_leaves-returns-in-Repeat : goal.capped_leaves-returns-in-Repeat
capped_leaves-returns-in-Repeat t c =
    let body = rw c.deref-in-Repeat.ensures at c.capped_leaves.ensures in
    let copies = c.counted.ensures.counted in
    let product = capped_product c.counted.result (leaves (form c.in-Repeat.body.value)) 4097 (rw copies (copies_positive _ _)) in
    c.min.ensures ∙ ap (λ l. min (c.counted.result * l) 4097) body ∙ product
    ∙ ap (λ n. min (n * leaves (form c.in-Repeat.body.value)) 4097) copies
    ∙ ap (λ n. min n 4097) (sym (leaves-Repeat _ c.in-Repeat.body _ _ c.in-Repeat.is))

pub capped_leaves_in-loop-i-init : goal.capped_leaves_in-loop-i-init
capped_leaves_in-loop-i-init t c = omega (arith, ap leaves_in (forms_end c.args.members.now) ∙ leaves_in-none)

pub capped_leaves_in-loop-i-preserved : goal.capped_leaves_in-loop-i-preserved
capped_leaves_in-loop-i-preserved t c =
    let step = forms_back c.args.members.now c.loop-i.i c.index-members-i.result (omega arith) (omega arith) c.index-members-i.is in
    omega (arith, ap leaves_in step ∙ leaves_in-more (form c.index-members-i.result) (forms _))

pub capped_leaves-returns-in-Empty : goal.capped_leaves-returns-in-Empty
capped_leaves-returns-in-Empty t c = omega (arith, leaves-Empty _ c.in-Empty.is)

pub capped_leaves-returns-in-Set : goal.capped_leaves-returns-in-Set
capped_leaves-returns-in-Set t c = omega (arith, leaves-Set _ _ c.in-Set.is)

pub capped_leaves-returns-in-Start : goal.capped_leaves-returns-in-Start
capped_leaves-returns-in-Start t c = omega (arith, leaves-Start _ c.in-Start.is)

pub capped_leaves-returns-in-End : goal.capped_leaves-returns-in-End
capped_leaves-returns-in-End t c = omega (arith, leaves-End _ c.in-End.is)
