use Rattle.std.proofs.Common.{map, sym, ◌∙◌}
use Rattle.ere.specs.Tree.{form, trees_of}
use Rattle.prepare.specs.Anchored.{leading_bytes}
use Rattle.prepare.proofs.AnchoredLemmas.{lead-keep, lead-stop, lead-end}
use Rattle.prepare.proofs.anchored.leading_bytes.Goals as goal

pub loop-member-preserved : goal.loop-member-preserved
loop-member-preserved c =
    rw c.in_ok-push-in-Some.ensures.items
    (lead-keep c.args.members.now c.loop-member.member-index c.member-item.result c.in-Some.byte c.loop-member.text.items
    (leading_bytes (trees_of (map form c.args.members.now))) c.loop-member-test.true c.member-item.is (sym c.in-Some.is ∙ c.byte_of.ensures)
    c.loop-member.invariant)

pub returns-in-None : goal.returns-in-None
returns-in-None c =
    lead-stop c.args.members.now c.loop-member.member-index c.member-item.result c.loop-member.text.items
    (leading_bytes (trees_of (map form c.args.members.now))) c.loop-member-test.true c.member-item.is (sym c.in-None.is ∙ c.byte_of.ensures)
    c.loop-member.invariant

pub returns : goal.returns
returns c =
    lead-end c.args.members.now c.loop-member.member-index c.loop-member.text.items (leading_bytes (trees_of (map form c.args.members.now)))
    c.loop-member-test.false c.loop-member.invariant
