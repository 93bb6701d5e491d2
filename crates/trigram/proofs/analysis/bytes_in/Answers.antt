use Rattle.std.proofs.Common.{◌++◌, filter, ap, sym, ◌∙◌, arith}
use Rattle.std.specs.List.{range_with_len}
use Rattle.ere.specs.ByteSet.{has}
use Rattle.trigram.specs.Analysis.{bytes_in}
use Rattle.trigram.proofs.AnalysisLemmas.{bytes_held, bytes_passed, bytes_end, bytes_start}
use Rattle.trigram.proofs.analysis.bytes_in.Goals as goal
use Rattle.trigram.proofs.analysis.bytes_in.Goals.{then-has+in_ok-push, else-has}

pub loop-i-init : goal.loop-i-init
loop-i-init c = ap (λ r. r ++ filter (has c.args.set.now) (range_with_len 0 256)) c.new-bytes.ensures.items ∙ bytes_start c.args.set.now

pub loop-i-preserved : goal.loop-i-preserved
loop-i-preserved c =
    elim c.if-has.branch [
      | then-has+in_ok-push w ↦ rw (w.bytes-is, w.in_ok-push.ensures.items)
          (bytes_held (has c.args.set.now) c.loop-i.bytes.items (bytes_in c.args.set.now) c.loop-i.i (omega arith)
          (sym c.has.ensures ∙ w.if-has.true) c.loop-i.invariant)
      | else-has w ↦ rw w.bytes-is
          (bytes_passed (has c.args.set.now) c.loop-i.bytes.items (bytes_in c.args.set.now) c.loop-i.i (omega arith)
          (sym c.has.ensures ∙ w.if-has.false) c.loop-i.invariant)
    ]

pub returns : goal.returns
returns c = bytes_end (has c.args.set.now) c.loop-i.bytes.items (bytes_in c.args.set.now) c.loop-i.i (omega arith) c.loop-i.invariant
