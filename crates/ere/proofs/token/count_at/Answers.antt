use Rattle.std.proofs.Common.{◌+◌, ◌-◌, ◌*◌, min, arith, sym, subst, ap, drop, ◌∙◌, get_or}
use Rattle.ere.proofs.Texts.{front}
use Rattle.ere.proofs.TokenSteps.{CountedTo, counted_more, digit_inside}
use Rattle.ere.proofs.token.count_at.Goals as goal

pub loop-value-preserved : goal.loop-value-preserved
loop-value-preserved c =
    let text = c.args.text.now in
    let digit = digit_inside text c.loop-value.at c.loop-value-test.ensures in
    let before =
    subst (λ t. CountedTo (drop c.args.start text) t c.loop-value.value (c.loop-value.at - c.args.start))
    (front text c.loop-value.at digit.0) c.loop-value.invariant.read in
    let after = counted_more _ _ _ _ _ before digit.1 in
    let value = c.min-value.ensures ∙ ap (λ d. min (c.loop-value.value * 10 + d) 256) c.from.ensures in
    record {
      read = subst (λ v. CountedTo (drop c.args.start text) (drop (c.loop-value.at + 1) text) v (c.loop-value.at + 1 - c.args.start)) (sym value)
          (subst (λ n.
          CountedTo (drop c.args.start text) (drop (c.loop-value.at + 1) text)
          (min (c.loop-value.value * 10 + (get_or text c.loop-value.at 0 - 48)) 256) n) (omega (arith, c.loop-value.invariant.on))
          after);
      on = omega (arith, c.loop-value.invariant.on);
      within = omega (arith, digit.0);
      small = omega (arith, c.min-value.ensures);
    }
