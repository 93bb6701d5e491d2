use Rattle.std.proofs.Common.{◌≡◌, ◌-◌, ◌+◌, ℕ, List, take, drop, get_or, length, arith, ap, ◌∙◌}
use Rattle.std.proofs.lemmas.List.{length-take-le, take_rest, get_or-drop}
use Rattle.posting.proofs.Cuts.{cut_block}
use Rattle.posting.proofs.gaps.cut_block.Goals as goal

-- the first byte of the block
first : (bytes : List ℕ) (from : ℕ) → get_or (take (length bytes - from) (drop from bytes)) 0 0 ≡ get_or bytes from 0
first bytes from = rw (take_rest bytes from) (get_or-drop from bytes 0 0 ∙ ap (λ i. get_or bytes i 0) (omega arith))

pub overflow_sub-before-2 : goal.overflow_sub-before-2
overflow_sub-before-2 c =
    let block = rw (take_rest c.args.bytes.now (length c.args.bytes.now - 32)) at c.in_ok-sum.ensures in
    let cut = cut_block c.args.bytes.now c.args.last c.in_ok-sum.sum c.requires.spelled c.requires.last c.if-bytes-lt-BLOCK.false block in
    rw (first c.args.bytes.now (length c.args.bytes.now - 32)) cut.0

pub returns : goal.returns
returns c =
    let block = rw (take_rest c.args.bytes.now (length c.args.bytes.now - 32)) at c.in_ok-sum.ensures in
    let cut = cut_block c.args.bytes.now c.args.last c.in_ok-sum.sum c.requires.spelled c.requires.last c.if-bytes-lt-BLOCK.false block in (
      rw (first c.args.bytes.now (length c.args.bytes.now - 32)) cut.1,
      omega (arith, length-take-le (length c.args.bytes.now - 32 + 1) c.args.bytes.now (omega (arith, c.if-bytes-lt-BLOCK.false))),
    )
