use Rattle.std.proofs.Common.{◌≡◌, ◌<◌, ◌^◌, ◌==◌, length, get_or, bit_and, sym, subst, ap, ◌∙◌, arith}
use Rattle.std.specs.Simd.Lanes.{zip2}
use Rattle.std.proofs.lemmas.Simd.{length-zip2, get_or-zip2}
use Rattle.ere.specs.Bits.{has_bit}
use Rattle.ere.proofs.LaneLemmas.{equal_lanes, equal_small, equal_each}
use Rattle.ere.proofs.sixteen.held.Goals as goal

pub returns-clause-small : goal.returns-clause-small
returns-clause-small c =
    let both = zip2 bit_and c.args.bytes c.args.bits in
    let long : length both ≡ 16 = length-zip2 bit_and c.args.bytes c.args.bits (c.fits-bytes.0 ∙ sym c.fits-bits.0) ∙ c.fits-bytes.0 in
    subst (λ n. n < 2 ^ 16) (sym (equal_lanes both c.args.bits long c.fits-bits.0)) (equal_small both c.args.bits long c.fits-bits.0)

pub returns-clause-each : goal.returns-clause-each
returns-clause-each c = λ k l.
    let both = zip2 bit_and c.args.bytes c.args.bits in
    let long : length both ≡ 16 = length-zip2 bit_and c.args.bytes c.args.bits (c.fits-bytes.0 ∙ sym c.fits-bits.0) ∙ c.fits-bytes.0 in
    ap (λ n. has_bit n k) (equal_lanes both c.args.bits long c.fits-bits.0) ∙ equal_each both c.args.bits long c.fits-bits.0 k l
    ∙ ap (λ n. n == get_or c.args.bits k 0) (get_or-zip2 bit_and c.args.bytes c.args.bits k 0 0 0 (omega arith) (omega arith))
