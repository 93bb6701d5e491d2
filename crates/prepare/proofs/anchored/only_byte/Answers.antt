use Rattle.std.proofs.Common.{sym, ◌∙◌, arith}
use Rattle.ere.specs.ByteSet.{has}
use Rattle.prepare.specs.Anchored.{bytes_in}
use Rattle.prepare.proofs.AnchoredLemmas.{bytes_start, only-first, only-second, only-passed, only-end}
use Rattle.prepare.proofs.anchored.only_byte.Goals as goal
use Rattle.prepare.proofs.anchored.only_byte.Goals.{then-has+in-None, else-has}

pub loop-i-init : goal.loop-i-init
loop-i-init c = bytes_start c.args.set.now

pub loop-i-preserved : goal.loop-i-preserved
loop-i-preserved c =
    elim c.if-has.branch [
      | then-has+in-None w ↦ rw w.found-is
          (only-first (has c.args.set.now) c.loop-i.i (bytes_in c.args.set.now) (omega arith) (sym c.has.ensures ∙ w.if-has.true)
          (rw w.in-None.is at c.loop-i.invariant))
      | else-has w ↦ rw w.found-is
          (only-passed (has c.args.set.now) c.loop-i.found c.loop-i.i (bytes_in c.args.set.now) (omega arith)
          (sym c.has.ensures ∙ w.if-has.false) c.loop-i.invariant)
    ]

pub returns-in-Some : goal.returns-in-Some
returns-in-Some c =
    only-second (has c.args.set.now) c.in-Some.field-0 c.loop-i.i (bytes_in c.args.set.now) (omega arith) (sym c.has.ensures ∙ c.if-has.true)
    (rw c.in-Some.is at c.loop-i.invariant)

pub returns : goal.returns
returns c = only-end (has c.args.set.now) c.loop-i.found c.loop-i.i (bytes_in c.args.set.now) (omega arith) c.loop-i.invariant
