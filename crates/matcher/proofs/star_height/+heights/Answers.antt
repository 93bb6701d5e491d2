use Rattle.std.proofs.Common.{◌≡◌, ◌-◌, true, false, nat_le, ap, sym, ◌∙◌}
use Rattle.ere.specs.Tree.{form}
use Rattle.ere.proofs.Forms.{form-Empty, form-Set, form-Start, form-End, form-Cat, form-Alt, form-Repeat}
use Rattle.matcher.specs.StarHeight.{star_height, is_set}
use Rattle.matcher.proofs.HeightLemmas.{below, empty_height, set_height, start_height, end_height, cat_height, alt_height, bounded_height}
use Rattle.matcher.proofs.HeightLemmas.{set_star_height, star_height_more, one_less, member_passed, member_found, no_member_left}
use Rattle.matcher.proofs.star_height.+heights.Goals as goal

pub has_star_height-returns-in-Empty : goal.has_star_height-returns-in-Empty
has_star_height-returns-in-Empty t c = rw (ap form c.in-Empty.is ∙ form-Empty) (below c.args.least _ c.if-least-eq0.false empty_height)

pub has_star_height-returns-in-Set : goal.has_star_height-returns-in-Set
has_star_height-returns-in-Set t c = rw (ap form c.in-Set.is ∙ form-Set _) (below c.args.least _ c.if-least-eq0.false (set_height _))

pub has_star_height-returns-in-Start : goal.has_star_height-returns-in-Start
has_star_height-returns-in-Start t c = rw (ap form c.in-Start.is ∙ form-Start) (below c.args.least _ c.if-least-eq0.false start_height)

pub has_star_height-returns-in-End : goal.has_star_height-returns-in-End
has_star_height-returns-in-End t c = rw (ap form c.in-End.is ∙ form-End) (below c.args.least _ c.if-least-eq0.false end_height)

pub has_star_height-returns-in-Cat : goal.has_star_height-returns-in-Cat
has_star_height-returns-in-Cat t c =
    rw (ap form c.in-Cat.is ∙ form-Cat c.in-Cat.members, cat_height _) (rw (← c.as_slice.ensures.value) c.some_has_star_height.ensures)

pub has_star_height-returns-in-Alt : goal.has_star_height-returns-in-Alt
has_star_height-returns-in-Alt t c =
    rw (ap form c.in-Alt.is ∙ form-Alt c.in-Alt.members, alt_height _)
    (rw (← c.as_slice-in-Alt.ensures.value) c.some_has_star_height-in-Alt.ensures)

pub has_star_height-returns-then-is_set : goal.has_star_height-returns-then-is_set
has_star_height-returns-then-is_set t c =
    let body = form c.in-Repeat.body.value in
    let held : is_set body ≡ true = sym (c.is_set.ensures ∙ ap (λ b. is_set (form b)) c.deref.ensures) ∙ c.if-is_set.true in
    rw (ap form c.in-Repeat.is ∙ form-Repeat c.in-Repeat.body c.in-Repeat.field-1 c.in-Repeat.greatest, c.in-None.is)
    (below c.args.least _ c.if-least-eq0.false (set_star_height body c.in-Repeat.field-1 held))

pub has_star_height-returns-else-is_set : goal.has_star_height-returns-else-is_set
has_star_height-returns-else-is_set t c =
    let body = form c.in-Repeat.body.value in
    let other : is_set body ≡ false = sym (c.is_set.ensures ∙ ap (λ b. is_set (form b)) c.deref.ensures) ∙ c.if-is_set.false in
    rw (ap form c.in-Repeat.is ∙ form-Repeat c.in-Repeat.body c.in-Repeat.field-1 c.in-Repeat.greatest, c.in-None.is)
    (c.has_star_height.ensures
    ∙ (ap (λ b. nat_le (c.args.least - 1) (star_height (form b))) c.deref-in-None.ensures
    ∙ (one_less c.args.least (star_height body) c.if-least-eq0.false
    ∙ ap (nat_le c.args.least) (sym (star_height_more body c.in-Repeat.field-1 other)))))

pub has_star_height-returns-in-Some : goal.has_star_height-returns-in-Some
has_star_height-returns-in-Some t c =
    rw (ap form c.in-Repeat.is ∙ form-Repeat c.in-Repeat.body c.in-Repeat.field-1 c.in-Repeat.greatest, c.in-Some.is)
    (c.has_star_height-in-Some.ensures
    ∙ (ap (λ b. nat_le c.args.least (star_height (form b))) c.deref-in-Some.ensures
    ∙ ap (nat_le c.args.least) (sym (bounded_height (form c.in-Repeat.body.value) c.in-Repeat.field-1 c.in-Some.field-0))))

pub some_has_star_height-returns-then-has_star_height : goal.some_has_star_height-returns-then-has_star_height
some_has_star_height-returns-then-has_star_height t c =
    member_found c.args.least c.args.members.now c.loop-member.member-index c.member-item.result c.has_star_height.result
    c.loop-member-test.true c.member-item.is c.has_star_height.ensures c.if-has_star_height.true ∙ c.loop-member.invariant

pub some_has_star_height-loop-member-preserved : goal.some_has_star_height-loop-member-preserved
some_has_star_height-loop-member-preserved t c =
    sym (member_passed c.args.least c.args.members.now c.loop-member.member-index c.member-item.result c.has_star_height.result
    c.loop-member-test.true c.member-item.is c.has_star_height.ensures c.if-has_star_height.false) ∙ c.loop-member.invariant

pub some_has_star_height-returns : goal.some_has_star_height-returns
some_has_star_height-returns t c =
    no_member_left c.args.least c.args.members.now c.loop-member.member-index c.requires c.loop-member-test.false ∙ c.loop-member.invariant
