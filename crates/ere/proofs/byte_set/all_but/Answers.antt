use Rattle.std.proofs.Common.{◌≡◌, ℕ, ◌<◌, not, ◌∙◌, get_or, arith, length-set}
use Rattle.ere.specs.Bits.{has_bit}
use Rattle.ere.proofs.SetWords.{words_more, bytes_joined}
use Rattle.ere.proofs.byte_set.all_but.Goals as goal

pub loop-i-preserved : goal.loop-i-preserved
loop-i-preserved c = record {
  whole = length-set c.loop-i.words c.loop-i.i _ ∙ c.loop-i.invariant.whole;
  each =
      words_more (λ k word. (bit : ℕ) → bit < 64 → has_bit word bit ≡ not (has_bit (get_or c.args.others.now k 0) bit)) c.loop-i.words
      c.loop-i.i c.flipped.result (omega (arith, c.loop-i.invariant.whole)) c.loop-i.invariant.each c.flipped.ensures;
}

pub returns-clause-each : goal.returns-clause-each
returns-clause-each c =
    bytes_joined c.args.others.now c.args.others.now c.loop-i.words (λ x y. not x)
    (λ i place k low. c.loop-i.invariant.each i (omega arith) k low)
