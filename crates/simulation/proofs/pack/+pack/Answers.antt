use Rattle.std.proofs.Common.{◌≡◌, ◌∙◌, ◌+◌, ap, arith, if◌then◌else◌, length, map, min, nat_lt, refl, subst, take, Some}
use Rattle.std.proofs.lemmas.List.{take_all}
use Rattle.ere.specs.Tree.{cat, form, none, repeat, trees_of}
use Rattle.spans.specs.Spans.{Spans, SpansEach}
use Rattle.ere.proofs.Forms.{form-Empty, form-Set, form-Start, form-End, form-Cat, form-Alt, form-Repeat}
use Rattle.simulation.specs.Nodes.{nothing}
use Rattle.simulation.specs.Nodes.{set as one_of}
use Rattle.simulation.proofs.Shapes.{shape-Set}
use Rattle.simulation.proofs.Packing as packing
use Rattle.simulation.specs.Private.Sequences.{GoesOn}
use Rattle.simulation.proofs.Building as building
use Rattle.simulation.proofs.Sequences as sequences
use Rattle.simulation.proofs.Unrolling as unrolling
use Rattle.simulation.proofs.pack.+pack.Goals as goal

pub pack-returns-in-Empty : goal.pack-returns-in-Empty
pack-returns-in-Empty t c =
    rw (ap form c.in-Empty.is ∙ form-Empty) (building.as_part _ nothing _ _ _ c.args.copies _ _ c.no_bytes.ensures.node (c.no_bytes.ensures.gaps ∙ c.everywhere.ensures) c.no_bytes.ensures.size (building.nothing_part _ _ c.args.copies packing.empty_packed))

pub pack-returns-in-Set : goal.pack-returns-in-Set
pack-returns-in-Set t c =
    rw (ap form c.in-Set.is ∙ form-Set c.in-Set.members)
    (building.as_part _ (one_of c.in-Set.members) _ _ _ c.args.copies _ _ (shape-Set c.in-Set.members) c.nowhere.ensures c.words_for.ensures (building.set_part _ c.in-Set.members _ c.args.copies (packing.set_packed c.in-Set.members)))

pub pack-returns-in-Start : goal.pack-returns-in-Start
pack-returns-in-Start t c =
    rw (ap form c.in-Start.is ∙ form-Start) (building.as_part _ nothing _ _ _ c.args.copies _ _ c.no_bytes-in-Start.ensures.node (c.no_bytes-in-Start.ensures.gaps ∙ c.only_at.ensures) c.no_bytes-in-Start.ensures.size (building.nothing_part _ _ c.args.copies packing.start_packed))

pub pack-returns-in-End : goal.pack-returns-in-End
pack-returns-in-End t c =
    rw (ap form c.in-End.is ∙ form-End) (building.as_part _ nothing _ _ _ c.args.copies _ _ c.no_bytes-in-End.ensures.node (c.no_bytes-in-End.ensures.gaps ∙ c.only_at-in-End.ensures) c.no_bytes-in-End.ensures.size (building.nothing_part _ _ c.args.copies packing.end_packed))

pub pack-returns-in_ok-all-in-Cat : goal.pack-returns-in_ok-all-in-Cat
pack-returns-in_ok-all-in-Cat t c =
    rw (ap form c.in-Cat.is ∙ form-Cat c.in-Cat.members, ← c.deref.ensures.value)
    (sequences.settled_part (λ line. Spans line (cat (trees_of (map form c.deref.result.now)))) c.no_sequence.result c.in_ok-all-in-Cat.all c.args.copies c.settled.result
    c.no_sequence.ensures.same
    (unrolling.cat_goes (trees_of (map form c.deref.result.now)) c.no_sequence.result c.in_ok-all-in-Cat.all c.args.copies c.in_ok-all-in-Cat.ensures) c.settled.ensures)

pub pack-returns-in-Alt : goal.pack-returns-in-Alt
pack-returns-in-Alt t c =
    rw (ap form c.in-Alt.is ∙ form-Alt c.in-Alt.members, ← c.deref-in-Alt.ensures.value)
    (building.alt_result (trees_of (map form c.deref-in-Alt.result.now)) c.args.copies c.pack_some.result c.pack_some.ensures)

pub pack-returns-in_ok-all-in-Repeat : goal.pack-returns-in_ok-all-in-Repeat
pack-returns-in_ok-all-in-Repeat t c =
    rw (ap form c.in-Repeat.is ∙ form-Repeat c.in-Repeat.body c.in-Repeat.least c.in-Repeat.greatest, ← c.deref-in-Repeat.ensures)
    (sequences.settled_part (λ line. Spans line (repeat (form c.deref-in-Repeat.result.now) c.in-Repeat.least c.in-Repeat.greatest)) c.no_sequence-in-Repeat.result
    c.in_ok-all-in-Repeat.all c.args.copies c.settled-in-Repeat.result c.no_sequence-in-Repeat.ensures.same c.in_ok-all-in-Repeat.ensures c.settled-in-Repeat.ensures)

pub then_tree-returns-in-Cat : goal.then_tree-returns-in-Cat
then_tree-returns-in-Cat t c =
    rw (ap form c.in-Cat.is ∙ form-Cat c.in-Cat.members, ← c.deref.ensures.value)
    (sequences.ok_as (λ longer. GoesOn (λ line. SpansEach line (trees_of (map form c.deref.result.now))) c.args.sequence longer c.args.copies)
    (λ longer. GoesOn (λ line. Spans line (cat (trees_of (map form c.deref.result.now)))) c.args.sequence longer c.args.copies)
    (λ longer goes. unrolling.cat_goes (trees_of (map form c.deref.result.now)) c.args.sequence longer c.args.copies goes) c.then_each.result c.then_each.ensures)

pub then_tree-returns-in-Repeat : goal.then_tree-returns-in-Repeat
then_tree-returns-in-Repeat t c =
    rw (ap form c.in-Repeat.is ∙ form-Repeat c.in-Repeat.body c.in-Repeat.least c.in-Repeat.greatest, ← c.deref-in-Repeat.ensures) c.then_repeat.ensures

pub then_repeat-returns-in-Some : goal.then_repeat-returns-in-Some
then_repeat-returns-in-Some t c = rw (c.in-Some.ensures).0 c.then_turns.ensures

pub then_repeat-returns-in_ok-one-in-None : goal.then_repeat-returns-in_ok-one-in-None
then_repeat-returns-in_ok-one-in-None t c =
    sequences.goes_on_part (λ line. Spans line (repeat (form c.args.body.now) c.args.least c.args.greatest)) c.in_ok-one-in-None.one c.args.sequence c.args.copies
    c.then.result c.in_ok-one-in-None.ensures c.then.ensures

pub then_tree-returns-in_ok-one-in_default : goal.then_tree-returns-in_ok-one-in_default
then_tree-returns-in_ok-one-in_default t c =
    sequences.goes_on_part (λ line. Spans line (form c.args.tree.now)) c.in_ok-one-in_default.one c.args.sequence c.args.copies c.then.result
    c.in_ok-one-in_default.ensures c.then.ensures

pub then_each-loop-i-init : goal.then_each-loop-i-init
then_each-loop-i-init t c = sequences.goes_nowhere (λ line. SpansEach line none) c.args.sequence c.args.copies unrolling.each_none c.requires.valid

pub then_each-loop-i-preserved : goal.then_each-loop-i-preserved
then_each-loop-i-preserved t c =
    sequences.goes_on_twice (λ line. SpansEach line (trees_of (map form (take c.loop-i.i c.args.members.now)))) (λ line. Spans line (form c.index-members-i.result))
    (λ line. SpansEach line (trees_of (map form (take (c.loop-i.i + 1) c.args.members.now)))) c.args.sequence c.loop-i.longer c.in_ok-longer.longer c.args.copies
    (unrolling.each_more c.args.members.now c.loop-i.i c.index-members-i.result c.loop-i-test.true c.index-members-i.is) c.loop-i.invariant c.in_ok-longer.ensures

pub then_each-returns : goal.then_each-returns
then_each-returns t c =
    subst (λ members. GoesOn (λ line. SpansEach line (trees_of (map form members))) c.args.sequence c.loop-i.longer c.args.copies)
    (take_all c.loop-i.i c.args.members.now c.loop-i-test.false) c.loop-i.invariant

pub then_turns-loop-turn-init : goal.then_turns-loop-turn-init
then_turns-loop-turn-init t c =
    sequences.goes_nowhere (λ line. Spans line (repeat (form c.args.body.now) (min c.args.least 0) (Some 0))) c.args.sequence c.args.copies
    (unrolling.turns_none (form c.args.body.now) (min c.args.least 0) (omega arith)) c.requires.valid

pub then_turns-loop-turn-preserved : goal.then_turns-loop-turn-preserved
then_turns-loop-turn-preserved t c =
    sequences.goes_on_twice (λ line. Spans line (repeat (form c.args.body.now) (min c.args.least c.loop-turn.turn) (Some c.loop-turn.turn)))
    (λ line. Spans line (repeat (form c.args.body.now) (if nat_lt c.loop-turn.turn c.args.least then 1 else 0) (Some 1)))
    (λ line. Spans line (repeat (form c.args.body.now) (min c.args.least (c.loop-turn.turn + 1)) (Some (c.loop-turn.turn + 1))))
    c.args.sequence c.loop-turn.longer c.in_ok-longer.longer c.args.copies
    (unrolling.turns_more (form c.args.body.now) (min c.args.least c.loop-turn.turn) c.loop-turn.turn (if nat_lt c.loop-turn.turn c.args.least then 1 else 0)
    (min c.args.least (c.loop-turn.turn + 1)) (c.loop-turn.turn + 1) (omega arith) (unrolling.needed_small (nat_lt c.loop-turn.turn c.args.least))
    (unrolling.needed_more c.args.least c.loop-turn.turn) refl)
    c.loop-turn.invariant c.in_ok-longer.ensures

pub then_turns-returns : goal.then_turns-returns
then_turns-returns t c =
    let same : c.loop-turn.turn ≡ c.args.most = omega arith in
    let all : min c.args.least c.loop-turn.turn ≡ c.args.least = omega arith in
    subst (λ n. GoesOn (λ line. Spans line (repeat (form c.args.body.now) c.args.least (Some n))) c.args.sequence c.loop-turn.longer c.args.copies) same
    (subst (λ n. GoesOn (λ line. Spans line (repeat (form c.args.body.now) n (Some c.loop-turn.turn))) c.args.sequence c.loop-turn.longer c.args.copies) all
    c.loop-turn.invariant)

pub then_turn-then-requires-clause-one : goal.then_turn-then-requires-clause-one
then_turn-then-requires-clause-one t c =
    (sequences.holds_of (λ line. Spans line (repeat (form c.args.body.now) 0 (Some 1))) c.once.result c.args.copies
    (c.once.ensures (form c.args.body.now) c.args.copies c.in_ok-one.ensures)).valid

pub then_turn-returns : goal.then_turn-returns
then_turn-returns t c =
    rw c.if-needed.false
    (sequences.goes_on_part (λ line. Spans line (repeat (form c.args.body.now) 0 (Some 1))) c.once.result c.args.sequence c.args.copies c.then.result
    (c.once.ensures (form c.args.body.now) c.args.copies c.in_ok-one.ensures) c.then.ensures)

pub then_turn-returns-then-needed : goal.then_turn-returns-then-needed
then_turn-returns-then-needed t c =
    rw c.if-needed.true
    (sequences.ok_as (λ longer. GoesOn (λ line. Spans line (form c.args.body.now)) c.args.sequence longer c.args.copies)
    (λ longer. GoesOn (λ line. Spans line (repeat (form c.args.body.now) 1 (Some 1))) c.args.sequence longer c.args.copies)
    (λ longer goes.
    sequences.goes_on_as (λ line. Spans line (form c.args.body.now)) (λ line. Spans line (repeat (form c.args.body.now) 1 (Some 1))) c.args.sequence longer c.args.copies
    (unrolling.one_turn (form c.args.body.now)) goes)
    c.then_tree.result c.then_tree.ensures)

pub pack_some-loop-i-init : goal.pack_some-loop-i-init
pack_some-loop-i-init t c =
    building.some_start c.args.members.now (length c.args.members.now) c.no_bytes-rest.result c.args.copies (omega arith)
    c.no_bytes-rest.ensures.node (c.no_bytes-rest.ensures.gaps ∙ c.nowhere.ensures) c.no_bytes-rest.ensures.size

pub pack_some-loop-i-preserved : goal.pack_some-loop-i-preserved
pack_some-loop-i-preserved t c =
    building.some_more c.args.members.now c.loop-i.i c.index-members-i.result c.in_ok-member.member c.loop-i.rest c.in_ok-rest.rest c.args.copies
    (omega arith) (omega arith) c.index-members-i.is c.in_ok-member.ensures c.loop-i.invariant c.in_ok-rest.ensures

pub pack_repeat-returns-then-most-least : goal.pack_repeat-returns-then-most-least
pack_repeat-returns-then-most-least t c =
    rw c.in-Some.is
    (building.as_part _ nothing _ _ _ c.args.copies _ _ c.no_bytes.ensures.node (c.no_bytes.ensures.gaps ∙ c.nowhere.ensures) c.no_bytes.ensures.size
    (building.nothing_part _ _ c.args.copies (building.impossible_packed (form c.args.body.now) c.args.least c.in-Some.most c.if-most-least.true)))

pub pack_repeat-returns-then-most-eq0 : goal.pack_repeat-returns-then-most-eq0
pack_repeat-returns-then-most-eq0 t c =
    let zero_is : c.in-Some.most ≡ 0 = omega arith in
    rw (c.in-Some.is ∙ ap Some zero_is)
    (building.as_part _ nothing _ _ _ c.args.copies _ _ c.no_bytes-then-most-eq0.ensures.node (c.no_bytes-then-most-eq0.ensures.gaps ∙ c.everywhere.ensures) c.no_bytes-then-most-eq0.ensures.size
    (building.nothing_part _ _ c.args.copies (building.zero_packed (form c.args.body.now) c.args.least (omega arith))))

pub pack_repeat-returns-then-most-eq1 : goal.pack_repeat-returns-then-most-eq1
pack_repeat-returns-then-most-eq1 t c =
    let one_is : c.in-Some.most ≡ 1 = omega arith in
    rw (c.in-Some.is ∙ ap Some one_is) (c.once.ensures (form c.args.body.now) c.args.copies c.in_ok-one-in-Some.ensures)
