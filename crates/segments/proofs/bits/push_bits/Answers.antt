use Rattle.std.proofs.Common.{◌≡◌, arith}
use Rattle.segments.specs.Private.Bits.{width}
use Rattle.segments.proofs.BitLemmas.{bytes_begin, bytes_more, bytes_end}
use Rattle.segments.proofs.bits.push_bits.Goals as goal

pub loop-number-init : goal.loop-number-init
loop-number-init c = bytes_begin c.args.places.now c.args.bytes.now.items

pub byte_from-byte-requires-clause-from : goal.byte_from-byte-requires-clause-from
byte_from-byte-requires-clause-from c = c.loop-number.invariant.split

pub loop-number-preserved : goal.loop-number-preserved
loop-number-preserved c =
    rw c.in_ok-push.ensures.items
    (bytes_more c.args.places.now c.args.bytes.now.items c.loop-number.number c.loop-number.at c.loop-number.bytes.items c.byte_from-byte.result.0
    c.byte_from-byte.result.1 c.loop-number.invariant c.byte_from-byte.ensures.byte c.byte_from-byte.ensures.next)

pub returns : goal.returns
returns c =
    let e : c.loop-number.number ≡ width c.args.count = omega (arith, c.width-number-end.ensures, c.loop-number-test.false) in
    bytes_end c.args.count c.args.places.now c.args.bytes.now.items c.loop-number.at c.loop-number.bytes.items (rw e at c.loop-number.invariant)
