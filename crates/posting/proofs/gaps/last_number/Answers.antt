use Rattle.std.proofs.Common.{◌+◌, ◌*◌, ◌%◌, ◌^◌, ◌<◌, get_or, drop, arith}
use Rattle.std.proofs.lemmas.List.{drop_more, length-drop}
use Rattle.posting.specs.Private.Gaps.{numbers_after, last_of}
use Rattle.posting.proofs.Starts.{adding_begins, adding_fits, adding_low, adding_high, adding_ends}
use Rattle.posting.proofs.gaps.last_number.Goals as goal
use Rattle.posting.proofs.gaps.last_number.Goals.{then-byte-lt128, else-byte-lt128}

pub loop-byte-init : goal.loop-byte-init
loop-byte-init c = adding_begins c.args.before c.args.bytes.now c.requires

pub overflow_mul-at : goal.overflow_mul-at
overflow_mul-at c =
    let fits : c.loop-byte.at + c.loop-byte.unit * (get_or c.args.bytes.now c.loop-byte.byte-index 0 % 128) < 2 ^ 32 =
    adding_fits (last_of c.args.before (numbers_after c.args.before c.args.bytes.now)) (drop c.loop-byte.byte-index c.args.bytes.now) c.loop-byte.at
    c.loop-byte.unit (get_or c.args.bytes.now c.loop-byte.byte-index 0) (drop (c.loop-byte.byte-index + 1) c.args.bytes.now)
    (drop_more c.args.bytes.now c.loop-byte.byte-index 0 c.loop-byte-test.true) c.loop-byte.invariant in
    omega (arith, fits)

pub overflow_add-at : goal.overflow_add-at
overflow_add-at c =
    let fits : c.loop-byte.at + c.loop-byte.unit * (get_or c.args.bytes.now c.loop-byte.byte-index 0 % 128) < 2 ^ 32 =
    adding_fits (last_of c.args.before (numbers_after c.args.before c.args.bytes.now)) (drop c.loop-byte.byte-index c.args.bytes.now) c.loop-byte.at
    c.loop-byte.unit (get_or c.args.bytes.now c.loop-byte.byte-index 0) (drop (c.loop-byte.byte-index + 1) c.args.bytes.now)
    (drop_more c.args.bytes.now c.loop-byte.byte-index 0 c.loop-byte-test.true) c.loop-byte.invariant in
    omega (arith, fits)

pub overflow_mul-unit : goal.overflow_mul-unit
overflow_mul-unit c =
    let fits : c.loop-byte.unit * 128 < 2 ^ 32 =
    (adding_high (last_of c.args.before (numbers_after c.args.before c.args.bytes.now)) (drop c.loop-byte.byte-index c.args.bytes.now) c.loop-byte.at
    c.loop-byte.unit (get_or c.args.bytes.now c.loop-byte.byte-index 0) (drop (c.loop-byte.byte-index + 1) c.args.bytes.now)
    (drop_more c.args.bytes.now c.loop-byte.byte-index 0 c.loop-byte-test.true) c.loop-byte.invariant c.if-byte-lt128.false).0 in
    omega (arith, fits)

pub loop-byte-preserved : goal.loop-byte-preserved
loop-byte-preserved c = elim c.if-byte-lt128.branch [
  | then-byte-lt128 w ↦
      rw w.unit-is
      (adding_low (last_of c.args.before (numbers_after c.args.before c.args.bytes.now)) (drop c.loop-byte.byte-index c.args.bytes.now) c.loop-byte.at
      c.loop-byte.unit (get_or c.args.bytes.now c.loop-byte.byte-index 0) (drop (c.loop-byte.byte-index + 1) c.args.bytes.now)
      (drop_more c.args.bytes.now c.loop-byte.byte-index 0 c.loop-byte-test.true) c.loop-byte.invariant w.if-byte-lt128.true)
  | else-byte-lt128 w ↦
      rw w.unit-is
      (adding_high (last_of c.args.before (numbers_after c.args.before c.args.bytes.now)) (drop c.loop-byte.byte-index c.args.bytes.now) c.loop-byte.at
      c.loop-byte.unit (get_or c.args.bytes.now c.loop-byte.byte-index 0) (drop (c.loop-byte.byte-index + 1) c.args.bytes.now)
      (drop_more c.args.bytes.now c.loop-byte.byte-index 0 c.loop-byte-test.true) c.loop-byte.invariant w.if-byte-lt128.false).1
]

pub returns : goal.returns
returns c =
    adding_ends (last_of c.args.before (numbers_after c.args.before c.args.bytes.now)) (drop c.loop-byte.byte-index c.args.bytes.now) c.loop-byte.at
    c.loop-byte.unit c.loop-byte.invariant (omega (arith, length-drop c.loop-byte.byte-index c.args.bytes.now))
