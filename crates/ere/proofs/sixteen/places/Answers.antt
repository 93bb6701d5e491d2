use Rattle.std.proofs.Common.{◌/◌, ◌%◌, ◌^◌, get_or, replicate, ap, ◌∙◌, bit_and}
use Rattle.std.specs.Simd.Lanes.{zip2}
use Rattle.std.proofs.lemmas.Nat.{and_mask}
use Rattle.ere.proofs.LaneLemmas.{lanes_splat, lanes_are}
use Rattle.ere.proofs.sixteen.places.Goals as goal

pub returns : goal.returns
returns c =
    let moved = lanes_splat (λ a b. a / 2 ^ b) c.args.bytes 3 c.fits-bytes.0 in
    lanes_are _ (λ k. bit_and (get_or (zip2 (λ a b. a / 2 ^ b) c.args.bytes (replicate 16 3)) k 0) 15)
    (λ k. get_or c.args.bytes k 0 / 8 % 16) (λ k l. ap (λ n. bit_and n 15) (moved.each k l) ∙ and_mask (get_or c.args.bytes k 0 / 8) 4)
    (lanes_splat bit_and _ 15 moved.long)
