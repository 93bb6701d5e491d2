use Rattle.std.proofs.Common.{◌<◌, ◌-◌, get_or, arith}
use Rattle.std.proofs.lemmas.Bool.{ltb-true}
use Rattle.segments.proofs.Rising.{rises_at}
use Rattle.segments.proofs.table.is_there.Goals as goal

pub returns-else-place-eq0 : goal.returns-else-place-eq0
returns-else-place-eq0 c below =
    let xs = c.args.numbers.now in
    let inside = c.if-place-numbers.false in
    let behind = c.if-place-eq0.false in
    let last : get_or xs (c.args.place - 1) 0 < c.args.number = ltb-true (get_or xs (c.args.place - 1) 0) c.args.number below in (
      omega (arith, inside),
      c.if-numbers-place.false,
      λ k before. (let up = rises_at xs c.requires k (c.args.place - 1) (omega (arith, before)) (omega (arith, inside, behind)) in omega (arith, up, last)),
    )
