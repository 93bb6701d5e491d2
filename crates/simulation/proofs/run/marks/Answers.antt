use Rattle.std.proofs.Common.{sym, ◌∙◌, ap, subst, length, take, arith, get_or}
use Rattle.std.proofs.lemmas.List.{length-take-le, take_more}
use Rattle.ere.proofs.Bits.{has_zero}
use Rattle.simulation.specs.Private.Rows.{is_marked, IsMarked}
use Rattle.simulation.proofs.Masks as masks
use Rattle.simulation.proofs.run.marks.Goals as goal

pub loop-i-init : goal.loop-i-init
loop-i-init c = record { marks = tt; none = λ bit past inside. has_zero bit }

pub loop-i-preserved : goal.loop-i-preserved
loop-i-preserved c =
    subst (IsMarked c.moved_in-found.result c.args.copies (is_marked c.args.mark)) (sym (take_more c.args.row.now c.loop-i.i c.index-row-i.result c.loop-i-test.true))
    (masks.marked_more c.loop-i.found c.moved_in-found.result c.marks_of.result c.args.copies (length c.args.row.now) (is_marked c.args.mark) (take c.loop-i.i c.args.row.now)
    (get_or c.args.row.now c.loop-i.i c.index-row-i.result) (omega (arith, length-take-le c.loop-i.i c.args.row.now)) c.requires.fits c.moved_in-found.ensures
    (λ b inside. c.marks_of.ensures.low b inside ∙ ap (is_marked c.args.mark) c.index-row-i.is) c.loop-i.invariant)
