use Rattle.std.proofs.Common.{◌≡◌, true, false, arith, sym, ◌∙◌, min, ap, ◌*◌}
use Rattle.ere.proofs.Sizes.{forms_back, forms_end}
use Rattle.ere.specs.Tree.{form}
use Rattle.matcher.specs.StarHeight.{is_set}
use Rattle.matcher.specs.Steps.{steps, steps_in}
use Rattle.matcher.proofs.StepLemmas.{steps-Empty, steps-Set, steps-Start, steps-End, steps-Cat, steps-Alt, steps-Some, steps-of_set}
use Rattle.matcher.proofs.StepLemmas.{steps-of_star, steps_in-more, steps_in-none, capped_any, forms}
use Rattle.matcher.proofs.steps.+steps.Goals as goal

pub capped_steps-returns-in-Empty : goal.capped_steps-returns-in-Empty
capped_steps-returns-in-Empty t c = omega (arith, steps-Empty _ c.in-Empty.is)

pub capped_steps-returns-in-Set : goal.capped_steps-returns-in-Set
capped_steps-returns-in-Set t c = omega (arith, steps-Set _ _ c.in-Set.is)

pub capped_steps-returns-in-Start : goal.capped_steps-returns-in-Start
capped_steps-returns-in-Start t c = omega (arith, steps-Start _ c.in-Start.is)

pub capped_steps-returns-in-End : goal.capped_steps-returns-in-End
capped_steps-returns-in-End t c = omega (arith, steps-End _ c.in-End.is)

pub capped_steps-returns-in-Cat : goal.capped_steps-returns-in-Cat
capped_steps-returns-in-Cat t c = omega (arith, steps-Cat _ c.in-Cat.members c.in-Cat.is, rw c.deref.ensures.value at c.capped_steps_in.ensures)

pub capped_steps-returns-in-Alt : goal.capped_steps-returns-in-Alt
capped_steps-returns-in-Alt t c =
    omega (arith, steps-Alt _ c.in-Alt.members c.in-Alt.is, rw c.deref-in-Alt.ensures.value at c.capped_steps_in-in-Alt.ensures)

pub capped_steps_in-loop-i-init : goal.capped_steps_in-loop-i-init
capped_steps_in-loop-i-init t c = omega (arith, ap steps_in (forms_end c.args.members.now) ∙ steps_in-none)

pub capped_steps_in-loop-i-preserved : goal.capped_steps_in-loop-i-preserved
capped_steps_in-loop-i-preserved t c =
    let step = forms_back c.args.members.now c.loop-i.i c.index-members-i.result (omega arith) (omega arith) c.index-members-i.is in
    omega (arith, ap steps_in step ∙ steps_in-more (form c.index-members-i.result) (forms _))

pub capped_steps-returns-then-is_set : goal.capped_steps-returns-then-is_set
capped_steps-returns-then-is_set t c =
    let held : is_set (form c.in-Repeat.body.value) ≡ true = sym (c.is_set.ensures ∙ ap (λ b. is_set (form b)) c.deref-in-None.ensures) ∙ c.if-is_set.true in
    omega (arith, steps-of_set _ c.in-Repeat.body c.in-Repeat.field-1 (rw c.in-None.is at c.in-Repeat.is) held)

pub capped_steps-returns-else-is_set : goal.capped_steps-returns-else-is_set
capped_steps-returns-else-is_set t c =
    let body = form c.in-Repeat.body.value in
    let other : is_set body ≡ false = sym (c.is_set.ensures ∙ ap (λ b. is_set (form b)) c.deref-in-None.ensures) ∙ c.if-is_set.false in
    let rounds = rw c.deref-in-None-2.ensures at c.rounds_of.ensures in
    let inside = rw c.deref-in-None-3.ensures at c.capped_steps.ensures in
    c.min.ensures ∙ ap (λ l. min (c.rounds_of.result * l) 30001) inside
    ∙ capped_any c.rounds_of.result (steps body) 30001
    ∙ ap (λ n. min (n * steps body) 30001) rounds
    ∙ ap (λ n. min n 30001) (sym (steps-of_star _ c.in-Repeat.body c.in-Repeat.field-1 (rw c.in-None.is at c.in-Repeat.is) other))

pub capped_steps-returns-in-Some : goal.capped_steps-returns-in-Some
capped_steps-returns-in-Some t c =
    let body = form c.in-Repeat.body.value in
    let inside = rw c.deref-in-Some.ensures at c.capped_steps-in-Some.ensures in
    c.min-in-Some.ensures ∙ ap (λ l. min (c.in-Some.most * l) 30001) inside
    ∙ capped_any c.in-Some.most (steps body) 30001
    ∙ ap (λ n. min n 30001) (sym (steps-Some _ c.in-Repeat.body c.in-Repeat.field-1 c.in-Some.most (rw c.in-Some.is at c.in-Repeat.is)))
