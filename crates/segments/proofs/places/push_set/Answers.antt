use Rattle.std.proofs.Common.{arith}
use Rattle.std.proofs.lemmas.Result.{on_ok_weaker}
use Rattle.segments.proofs.PlaceLemmas.{gaps_pushed, bits_pushed}
use Rattle.segments.proofs.places.push_set.Goals as goal

pub returns-then-len-start : goal.returns-then-len-start
returns-then-len-start c =
    gaps_pushed c.args.count c.args.places.now c.args.bytes.now.items c.push_gaps.new.bytes.items c.len-start.result
    (omega (arith, c.len-start.ensures, c.args.bytes.now.ok.0)) c.in_ok-push_gaps.ensures
    (omega (arith, c.if-len-start.true, c.width.ensures, c.len.ensures, c.push_gaps.new.bytes.ok.0))

pub returns : goal.returns
returns c =
    on_ok_weaker c.push_bits.result
    (λ is.
    bits_pushed c.args.count c.args.places.now c.args.bytes.now.items c.push_gaps.new.bytes.items c.truncate.new.self.items c.push_bits.new.bytes.items
    c.len-start.result (omega (arith, c.len-start.ensures, c.args.bytes.now.ok.0)) c.in_ok-push_gaps.ensures c.truncate.ensures.items
    (omega (arith, c.if-len-start.false, c.width.ensures, c.len.ensures, c.push_gaps.new.bytes.ok.0)) is) c.push_bits.ensures
