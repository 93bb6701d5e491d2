use Rattle.std.proofs.Common.{◌≡◌, ◌&&◌, false, ap, sym, arith, ◌∙◌}
use Rattle.std.proofs.Math.Bool.{and-false}
use Rattle.ere.specs.ByteSet.{is_line_byte}
use Rattle.ere.proofs.SetLemmas.{of_none, of_more, of_same, of_all}
use Rattle.ere.proofs.byte_set.ByteSet.of.Goals as goal
use Rattle.ere.proofs.byte_set.ByteSet.of.Goals.{then-is_line_byte+then-test, else-is_line_byte}
use Rattle.ere.proofs.byte_set.ByteSet.of.Goals.{else-is_line_byte-via-then-is_line_byte+else-test, else-is_line_byte-via-else-is_line_byte}

pub loop-i-init : goal.loop-i-init
loop-i-init g c = λ passes agree. c.empty-set.ensures ∙ of_none passes

pub loop-i-preserved : goal.loop-i-preserved
loop-i-preserved g c = λ passes agree. elim c.if-is_line_byte.branch [
  | then-is_line_byte+then-test w ↦ w.set-is ∙ w.insert.ensures ∙ of_more passes c.loop-i.set c.loop-i.i
      (sym (agree _ _ w.test.ensures) ∙ w.if-test.true) (c.loop-i.invariant passes agree)
  | else-is_line_byte w ↦
      let none : (is_line_byte c.loop-i.i && passes c.loop-i.i) ≡ false =
      elim w.else-is_line_byte.branch [
        | else-is_line_byte-via-then-is_line_byte+else-test w' ↦ ap (λ t. is_line_byte c.loop-i.i && t)
            (sym (agree _ _ w'.test.ensures) ∙ w'.if-test.false) ∙ and-false (is_line_byte c.loop-i.i)
        | else-is_line_byte-via-else-is_line_byte w' ↦ ap (λ t. t && passes c.loop-i.i) (sym c.is_line_byte.ensures ∙ w'.if-is_line_byte.false)
      ] in
      w.set-is ∙ of_same passes c.loop-i.set c.loop-i.i none (c.loop-i.invariant passes agree)
]

pub returns : goal.returns
returns g c = λ passes agree. of_all passes c.loop-i.set c.loop-i.i (omega arith) (c.loop-i.invariant passes agree)
