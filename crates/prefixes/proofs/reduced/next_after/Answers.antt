use Rattle.std.proofs.Common.{◌<◌, ◌+◌, ◌-◌, ◌/◌, sym, ap, ◌∙◌, length, arith}
use Rattle.std.specs.Ordering.{is_le}
use Rattle.prefixes.specs.Private.Apart.{bytes_of}
use Rattle.prefixes.proofs.ReducedLemmas.{split_low, split_high, text_there}
use Rattle.prefixes.proofs.reduced.next_after.Goals as goal

pub loop-low-preserved-then-is_le : goal.loop-low-preserved-then-is_le
loop-low-preserved-then-is_le c =
    let at = c.loop-low in
    let items = c.args.texts.now in
    let middle = at.low + (at.high - at.low) / 2 in
    let below = c.loop-low-test.true in
    let within = at.invariant.inside in
    let inside : middle < length (bytes_of items) = omega (arith, below, within) in
    let text = c.as_slice.result.now in
    split_low c.args.name.now (bytes_of items) c.requires at.low at.high middle (omega (arith, below)) (omega (arith, below)) text
    (text_there items middle c.index-texts-middle.result text inside c.index-texts-middle.is c.as_slice.ensures.value) at.invariant
    (sym (ap is_le c.cmp.ensures) ∙ sym c.is_le.ensures ∙ c.if-is_le.true)

pub loop-low-preserved : goal.loop-low-preserved
loop-low-preserved c =
    let at = c.loop-low in
    let items = c.args.texts.now in
    let middle = at.low + (at.high - at.low) / 2 in
    let below = c.loop-low-test.true in
    let within = at.invariant.inside in
    let inside : middle < length (bytes_of items) = omega (arith, below, within) in
    let text = c.as_slice.result.now in
    split_high c.args.name.now (bytes_of items) c.requires at.low at.high middle (omega (arith, below)) (omega (arith, below)) text
    (text_there items middle c.index-texts-middle.result text inside c.index-texts-middle.is c.as_slice.ensures.value) at.invariant
    (sym (ap is_le c.cmp.ensures) ∙ sym c.is_le.ensures ∙ c.if-is_le.false)
