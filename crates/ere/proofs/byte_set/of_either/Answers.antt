use Rattle.std.proofs.Common.{◌||◌, ◌∙◌, get_or, bit_or, ap, arith, length-set}
use Rattle.std.proofs.lemmas.List.Edits.{fill_by_more}
use Rattle.ere.specs.Bits.{has_bit}
use Rattle.ere.proofs.Bits.{has_or}
use Rattle.ere.proofs.SetWords.{bytes_joined}
use Rattle.ere.proofs.byte_set.of_either.Goals as goal

pub loop-i-preserved : goal.loop-i-preserved
loop-i-preserved c = record {
  whole = length-set c.loop-i.words c.loop-i.i _ ∙ c.loop-i.invariant.whole;
  each =
      fill_by_more (λ k. bit_or (get_or c.args.left.now k 0) (get_or c.args.right.now k 0)) c.loop-i.words c.loop-i.i 0
      (omega (arith, c.loop-i.invariant.whole)) c.loop-i.invariant.each;
}

pub returns-clause-each : goal.returns-clause-each
returns-clause-each c =
    bytes_joined c.args.left.now c.args.right.now c.loop-i.words (λ x y. x || y) (λ i place k low.
    ap (λ n. has_bit n k) (c.loop-i.invariant.each i (omega arith))
    ∙ has_or (get_or c.args.left.now i 0) (get_or c.args.right.now i 0) k)
