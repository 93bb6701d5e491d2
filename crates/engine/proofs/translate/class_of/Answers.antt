use Rattle.std.proofs.lemmas.Result.{IfOk-weaker}
use Rattle.std.proofs.Common.{sym, ◌∙◌}
use Rattle.engine.proofs.ClassLemmas.{ranges_start, ranges_more, ranges_same, ranges_all}
use Rattle.engine.proofs.translate.class_of.Goals as goal
use Rattle.engine.proofs.translate.class_of.Goals.{then-has+in_ok-push, else-has}

pub loop-i-init : goal.loop-i-init
loop-i-init c = ranges_start c.args.set.now c.new-ranges.result.items c.new-ranges.ensures.items

pub loop-i-preserved : goal.loop-i-preserved
loop-i-preserved c =
    elim c.if-has.branch [
      | then-has+in_ok-push w ↦ rw (w.ranges-is, w.in_ok-push.ensures.items)
          (ranges_more c.args.set.now c.loop-i.ranges.items c.loop-i.i (sym c.has.ensures ∙ w.if-has.true) c.loop-i.invariant)
      | else-has w ↦ rw w.ranges-is (ranges_same c.args.set.now c.loop-i.ranges.items c.loop-i.i (sym c.has.ensures ∙ w.if-has.false) c.loop-i.invariant)
    ]

pub returns : goal.returns
returns c =
    IfOk-weaker c.new.result _ _ (λ r same.
    ranges_all c.args.set.now c.loop-i.ranges.items r.ranges.items c.loop-i.i c.loop-i-test.false c.loop-i.invariant r.canonical same)
    c.new.ensures
