use Rattle.std.proofs.lemmas.Result.{IfOk-weaker}
use Rattle.std.proofs.Common.{◌≡◌, ap, ◌∙◌, subst}
use Rattle.regex_hir.specs.Meaning.{meaning}
use Rattle.regex_hir.proofs.MeaningLemmas.{meaning-Empty, meaning-Bytes, meaning-Look, meaning-Repetition, meaning-Concat, meaning-Alternation}
use Rattle.regex_hir.specs.declared.look.Look.TheVariants.{StartLf, EndLf}
use Rattle.ere.specs.Tree.{form, trees_of}
use Rattle.ere.proofs.Forms.{form-Empty, form-Set, form-Start, form-End, form-Cat, form-Alt, form-Repeat}
use Rattle.engine.specs.Translation.{StandsFor, StandForEach}
use Rattle.engine.proofs.NodeLemmas.{empty_stands, set_stands, start_stands, end_stands, cat_stands, alt_stands, repeat_stands}
use Rattle.engine.proofs.NodeLemmas.{impossible_stands, star_of_star_stands}
use Rattle.engine.proofs.MemberLemmas.{next_member, nothing_left}
use Rattle.engine.proofs.translate.+translate.Goals as goal
use Rattle.std.proofs.Common.{map, [], true}
use Rattle.std.proofs.lemmas.List.{append-nil, map_push}

pub pattern_for-returns-in-Empty : goal.pattern_for-returns-in-Empty
pattern_for-returns-in-Empty t c = rw (ap form c.in-Empty.is ∙ form-Empty, meaning-Empty) empty_stands

pub pattern_for-returns-in_ok-class_of-in-Set : goal.pattern_for-returns-in_ok-class_of-in-Set
pattern_for-returns-in_ok-class_of-in-Set t c =
    rw (ap form c.in-Set.is ∙ form-Set c.in-Set.set, meaning-Bytes c.in_ok-class_of-in-Set.field-0)
    (set_stands c.in-Set.set c.in_ok-class_of-in-Set.field-0.ranges.items c.in_ok-class_of-in-Set.ensures)

pub pattern_for-returns-in-Start : goal.pattern_for-returns-in-Start
pattern_for-returns-in-Start t c = rw (ap form c.in-Start.is ∙ form-Start, meaning-Look StartLf) start_stands

pub pattern_for-returns-in-End : goal.pattern_for-returns-in-End
pattern_for-returns-in-End t c = rw (ap form c.in-End.is ∙ form-End, meaning-Look EndLf) end_stands

pub pattern_for-returns-in_ok-patterns_for-in-Cat : goal.pattern_for-returns-in_ok-patterns_for-in-Cat
pattern_for-returns-in_ok-patterns_for-in-Cat t c =
    rw (ap form c.in-Cat.is ∙ form-Cat c.in-Cat.members, meaning-Concat c.in_ok-patterns_for-in-Cat.field-0)
    (cat_stands _ _ (rw (← c.as_slice.ensures.value) c.in_ok-patterns_for-in-Cat.ensures))

pub pattern_for-returns-in_ok-patterns_for-in-Alt : goal.pattern_for-returns-in_ok-patterns_for-in-Alt
pattern_for-returns-in_ok-patterns_for-in-Alt t c =
    rw (ap form c.in-Alt.is ∙ form-Alt c.in-Alt.members, meaning-Alternation c.in_ok-patterns_for-in-Alt.field-0)
    (alt_stands _ _ (rw (← c.as_slice-in-Alt.ensures.value) c.in_ok-patterns_for-in-Alt.ensures))

pub pattern_for-returns-in-None : goal.pattern_for-returns-in-None
pattern_for-returns-in-None t c =
    rw (ap form c.in-Repeat.is ∙ form-Repeat c.in-Repeat.body c.in-Repeat.least c.in-Repeat.greatest, c.in-None.is)
    (rw (← c.deref.ensures) c.starred.ensures)

pub pattern_for-returns-in-Some : goal.pattern_for-returns-in-Some
pattern_for-returns-in-Some t c =
    rw (ap form c.in-Repeat.is ∙ form-Repeat c.in-Repeat.body c.in-Repeat.least c.in-Repeat.greatest, c.in-Some.is)
    (rw (← c.deref-in-Some.ensures) c.bounded.ensures)

pub starred-returns-then-inner_least-le1 : goal.starred-returns-then-inner_least-le1
starred-returns-then-inner_least-le1 t c =
    rw (ap form c.in-Repeat.is ∙ form-Repeat c.in-Repeat.inner c.in-Repeat.inner_least c.in-Repeat.inner_greatest, c.in-None.is)
    (IfOk-weaker c.starred.result _ _ (λ hir h.
    star_of_star_stands (form c.in-Repeat.inner.value) c.args.least c.in-Repeat.inner_least (meaning hir) c.if-least-le1.true
    c.if-inner_least-le1.true (rw (← c.deref.ensures) h)) c.starred.ensures)

pub bounded-returns-then-most-least : goal.bounded-returns-then-most-least
bounded-returns-then-most-least t c =
    let nothing : map meaning c.new.result.items ≡ [] = ap (map meaning) c.new.ensures.items in
    rw (meaning-Alternation c.new.result, nothing) (impossible_stands (form c.args.body.now) c.args.least c.args.most c.if-most-least.true)

pub copies-returns : goal.copies-returns
copies-returns t c =
    let same : c.in_ok-new.field-0.value ≡ c.in_ok-sub.sub = c.in_ok-new.ensures.ok in
    let one : StandsFor (form c.args.body.now) (meaning c.in_ok-new.field-0.value) = rw same c.in_ok-sub.ensures in
    rw (meaning-Repetition c.args.least c.args.most true c.in_ok-new.field-0)
    (repeat_stands (form c.args.body.now) (meaning c.in_ok-new.field-0.value) c.args.least c.args.most true c.requires one)

pub patterns_for-returns : goal.patterns_for-returns
patterns_for-returns t c =
    subst (λ all. StandForEach (trees_of (map form c.args.members.now)) all) (append-nil (map meaning c.loop-member.hirs.items))
    (c.loop-member.invariant [] (nothing_left c.args.members.now c.loop-member.member-index c.loop-member-test.false))

pub patterns_for-loop-member-preserved : goal.patterns_for-loop-member-preserved
patterns_for-loop-member-preserved t c = λ more rest.
    rw (c.in_ok-push.ensures.items, map_push meaning c.loop-member.hirs.items c.in_ok-pattern_for.field-0)
    (next_member c.args.members.now c.loop-member.member-index c.member-item.result (meaning c.in_ok-pattern_for.field-0)
    (map meaning c.loop-member.hirs.items) more c.loop-member-test.true c.member-item.is c.in_ok-pattern_for.ensures
    c.loop-member.invariant rest)

pub patterns_for-loop-member-init : goal.patterns_for-loop-member-init
patterns_for-loop-member-init t c = rw c.new-hirs.ensures.items (λ more h. h)
