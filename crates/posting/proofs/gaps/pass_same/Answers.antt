use Rattle.std.proofs.Common.{arith}
use Rattle.posting.proofs.Starts.{parts, same_start}
use Rattle.posting.proofs.gaps.pass_same.Goals as goal

pub last_number-requires : goal.last_number-requires
last_number-requires c =
    (parts c.args.before c.args.left.now c.whole_numbers-place.result c.requires.left c.whole_numbers-place.ensures.seam
    (omega (arith, c.whole_numbers-place.ensures.within, c.same_bytes-same.ensures.in_left))).front

pub returns : goal.returns
returns c =
    same_start c.args.before c.args.left.now c.args.right.now c.same_bytes-same.result c.whole_numbers-place.result c.last_number.result
    c.requires.left c.requires.right c.same_bytes-same.ensures c.whole_numbers-place.ensures.seam c.whole_numbers-place.ensures.within
    c.last_number.ensures
