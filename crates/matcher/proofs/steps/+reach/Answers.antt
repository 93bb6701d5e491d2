use Rattle.std.proofs.Common.{◌≡◌, true, false, drop, sym, ap, ◌∙◌, ◌||◌, arith}
use Rattle.ere.proofs.Sizes.{forms_back, forms_end}
use Rattle.ere.specs.Tree.{form}
use Rattle.matcher.specs.Steps.{goes_far, some_go_far}
use Rattle.matcher.proofs.StepLemmas.{goes_far-Empty, goes_far-Set, goes_far-Start, goes_far-End, goes_far-Cat, goes_far-Alt, goes_far-None, goes_far-Some}
use Rattle.matcher.proofs.StepLemmas.{some_go_far-more, some_go_far-none, forms}
use Rattle.matcher.proofs.steps.+reach.Goals as goal

pub goes_far-returns-in-Empty : goal.goes_far-returns-in-Empty
goes_far-returns-in-Empty t c = sym (goes_far-Empty _ c.in-Empty.is)

pub goes_far-returns-in-Set : goal.goes_far-returns-in-Set
goes_far-returns-in-Set t c = sym (goes_far-Set _ _ c.in-Set.is)

pub goes_far-returns-in-Start : goal.goes_far-returns-in-Start
goes_far-returns-in-Start t c = sym (goes_far-Start _ c.in-Start.is)

pub goes_far-returns-in-End : goal.goes_far-returns-in-End
goes_far-returns-in-End t c = sym (goes_far-End _ c.in-End.is)

pub goes_far-returns-in-Cat : goal.goes_far-returns-in-Cat
goes_far-returns-in-Cat t c = rw c.deref.ensures.value at c.some_go_far.ensures ∙ sym (goes_far-Cat _ c.in-Cat.members c.in-Cat.is)

pub goes_far-returns-in-Alt : goal.goes_far-returns-in-Alt
goes_far-returns-in-Alt t c = rw c.deref-in-Alt.ensures.value at c.some_go_far-in-Alt.ensures ∙ sym (goes_far-Alt _ c.in-Alt.members c.in-Alt.is)

pub goes_far-returns-in-None : goal.goes_far-returns-in-None
goes_far-returns-in-None t c = sym (goes_far-None _ c.in-Repeat.body _ (rw c.in-None.is at c.in-Repeat.is))

pub goes_far-returns-in-Some : goal.goes_far-returns-in-Some
goes_far-returns-in-Some t c =
    rw c.deref-in-Some.ensures at c.goes_far.ensures ∙ sym (goes_far-Some _ c.in-Repeat.body _ c.in-Some.field-0 (rw c.in-Some.is at c.in-Repeat.is))

pub some_go_far-loop-i-init : goal.some_go_far-loop-i-init
some_go_far-loop-i-init t c = sym (ap some_go_far (forms_end c.args.members.now) ∙ some_go_far-none)

pub some_go_far-loop-i-preserved-then-goes_far : goal.some_go_far-loop-i-preserved-then-goes_far
some_go_far-loop-i-preserved-then-goes_far t c =
    let step = forms_back c.args.members.now c.loop-i.i c.index-members-i.result (omega arith) (omega arith) c.index-members-i.is in
    let held : goes_far (form c.index-members-i.result) ≡ true = sym c.goes_far.ensures ∙ c.if-goes_far.true in
    c.if-goes_far.true
    ∙ sym (ap some_go_far step ∙ some_go_far-more _ _ ∙ ap (λ b. b || some_go_far (forms (drop c.loop-i.i c.args.members.now))) held)

pub some_go_far-loop-i-preserved : goal.some_go_far-loop-i-preserved
some_go_far-loop-i-preserved t c =
    let step = forms_back c.args.members.now c.loop-i.i c.index-members-i.result (omega arith) (omega arith) c.index-members-i.is in
    let other : goes_far (form c.index-members-i.result) ≡ false = sym c.goes_far.ensures ∙ c.if-goes_far.false in
    c.loop-i.invariant
    ∙ sym (ap some_go_far step ∙ some_go_far-more _ _ ∙ ap (λ b. b || some_go_far (forms (drop c.loop-i.i c.args.members.now))) other)
