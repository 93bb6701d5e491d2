use Rattle.std.proofs.Common.{cond, get_or, ltb, replicate, sym, subst, w8}
use Rattle.std.specs.Simd.Lanes.{sel_l}
use Rattle.std.proofs.lemmas.Simd.{tops_compared}
use Rattle.ere.specs.Private.Lanes.{HasLanes}
use Rattle.ere.proofs.LaneLemmas.{lanes_halves}
use Rattle.ere.proofs.sixteen.halves.Goals as goal

pub returns : goal.returns
returns c =
    let v = c.args.bytes in
    subst (λ ms. HasLanes (sel_l ms c.args.low c.args.high) (λ k. cond (ltb (get_or v k 0) 128) (get_or c.args.low k 0) (get_or c.args.high k 0)))
    (sym (tops_compared w8 ltb v (replicate 16 128))) (lanes_halves v c.args.low c.args.high 128 c.fits-bytes.0 c.fits-low.0 c.fits-high.0)
