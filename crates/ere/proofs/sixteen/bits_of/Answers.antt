use Rattle.std.proofs.Common.{◌%◌, ◌^◌, get_or, replicate, ap, ◌∙◌, arith, bit_and}
use Rattle.std.specs.Simd.Lanes.{zip2}
use Rattle.std.proofs.lemmas.Nat.{and_mask}
use Rattle.ere.proofs.LaneLemmas.{lanes_splat, lanes_are, may_look_up, lanes_looked_up, powers, power_of_bit}
use Rattle.ere.proofs.sixteen.bits_of.Goals as goal

pub swizzle : goal.swizzle
swizzle c =
    let low = lanes_splat bit_and c.args.bytes 7 c.fits-bytes.0 in
    may_look_up _ low.long (λ k l. omega (arith, low.each k l, and_mask (get_or c.args.bytes k 0) 3))

pub returns : goal.returns
returns c =
    let low = lanes_splat bit_and c.args.bytes 7 c.fits-bytes.0 in
    lanes_are _ (λ k. get_or powers (get_or (zip2 bit_and c.args.bytes (replicate 16 7)) k 0) 0) (λ k. 2 ^ (get_or c.args.bytes k 0 % 8)) (λ k l.
    ap (λ n. get_or powers n 0) (low.each k l ∙ and_mask (get_or c.args.bytes k 0) 3)
    ∙ power_of_bit (get_or c.args.bytes k 0 % 8) (omega arith))
    (lanes_looked_up powers _ low.long (λ k l. omega (arith, low.each k l, and_mask (get_or c.args.bytes k 0) 3)))
