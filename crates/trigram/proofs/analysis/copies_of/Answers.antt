use Rattle.std.proofs.Common.{◌≡◌, ◌+◌, ◌-◌, ap, sym, ◌∙◌, arith}
use Rattle.trigram.specs.Analysis.{copies_of}
use Rattle.trigram.specs.Private.Values.{shown_analysis, without_condition}
use Rattle.trigram.proofs.AnalysisLemmas.{copies_of-zero, copies_of-settled, one_more_stands, settled_stands}
use Rattle.trigram.proofs.analysis.copies_of.Goals as goal

pub loop-made-init : goal.loop-made-init
loop-made-init c = (record { plain = c.requires; is = sym (copies_of-zero (shown_analysis c.args.one)) }, c.in_ok-copy.ensures)

pub loop-made-preserved : goal.loop-made-preserved
loop-made-preserved c = (
  one_more_stands (shown_analysis c.args.one) c.loop-made._made _ c.loop-made.whole c.in_ok-next.next c.in_ok-whole.whole
      c.loop-made.invariant.1 c.loop-made.invariant.0 c.in_ok-next.ensures c.in_ok-whole.ensures,
  c.loop-made.invariant.1,
)

pub returns-then-is_alike : goal.returns-then-is_alike
returns-then-is_alike c =
    let one = shown_analysis c.args.one in
    let made = c.loop-made._made in
    let left = c.args.others - (made + 1) in
    let all : made + 1 + left ≡ c.args.others = omega (arith, c.loop-made-test.true) in
    let more =
    one_more_stands one made _ c.loop-made.whole c.in_ok-next.next c.in_ok-whole.whole c.loop-made.invariant.1
    c.loop-made.invariant.0 c.in_ok-next.ensures c.in_ok-whole.ensures in
    let same : without_condition (copies_of one (made + 1)) ≡ without_condition (copies_of one made) =
    settled_stands one made c.loop-made.whole c.in_ok-before.before c.in_ok-whole.whole c.loop-made.invariant.0 c.in_ok-before.ensures more
    (c.is_alike.ensures c.if-is_alike.true) in
    record { plain = more.plain; is = more.is ∙ sym (copies_of-settled one made left same) ∙ ap (copies_of one) all }
