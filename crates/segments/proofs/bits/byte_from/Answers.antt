use Rattle.std.proofs.Common.{◌≡◌, ◌∙◌, sym, arith}
use Rattle.std.proofs.lemmas.Bool.{false≢true}
use Rattle.segments.proofs.BitLemmas.{byte_begins, byte_fits, byte_there, byte_absent, byte_whole}
use Rattle.segments.proofs.bits.byte_from.Goals as goal
use Rattle.segments.proofs.bits.byte_from.Goals.{then-is_place, else-is_place}

pub loop-bit-init : goal.loop-bit-init
loop-bit-init c = byte_begins c.args.places.now c.args.number c.args.from c.requires.from

pub overflow_add-byte : goal.overflow_add-byte
overflow_add-byte c =
    let l = c.loop-bit in
    let fits = byte_fits c.args.places.now c.args.number l.bit l.byte l.unit l.at c.requires.rising l.invariant c.loop-bit-test.true in
    omega (arith, fits.0, fits.1)

pub overflow_cast-result : goal.overflow_cast-result
overflow_cast-result c =
    let e : c.loop-bit.bit ≡ 8 = omega arith in
    omega (arith, byte_whole c.args.places.now c.args.number c.loop-bit.byte (rw e at c.loop-bit.invariant.byte_is))

pub loop-bit-preserved : goal.loop-bit-preserved
loop-bit-preserved c =
    let l = c.loop-bit in
    elim c.if-is_place.branch [
      | then-is_place w ↦
          let there = c.is_place.ensures.0 w.if-is_place.true in
          rw (w.byte-is, w.at-is)
          (byte_there c.args.places.now c.args.number l.bit l.byte l.unit l.at c.requires.rising l.invariant there.0 there.1)
      | else-is_place w ↦
          rw (w.byte-is, w.at-is)
          (byte_absent c.args.places.now c.args.number l.bit l.byte l.unit l.at c.requires.rising l.invariant
          (λ inside is. false≢true (sym w.if-is_place.false ∙ c.is_place.ensures.1 (inside, is))))
    ]

pub returns : goal.returns
returns c =
    let e : c.loop-bit.bit ≡ 8 = omega arith in
    record { byte = rw e at c.loop-bit.invariant.byte_is; next = rw e at c.loop-bit.invariant.split }
