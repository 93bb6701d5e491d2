-- All is written of the text of the entries so far but what is held back.
use Rattle.std.proofs.Common.{◌≡◌, length}
use Rattle.std.specs.Vec.Iter.{into_iter_items, into_iter_len}
use Rattle.transcript.specs.Transcript.{text_of_transcript}
use Rattle.transcript.proofs.WriteLemmas.{IsDoneTo}
use Rattle.transcript.proofs.output.write_transcript.Given as goal

abbrev pub invariant-loop-entry : goal.invariant-loop-entry
invariant-loop-entry g l = record {
  so_far : IsDoneTo (g.W.Write.contents l.initial.out) (g.W.Write.contents l.out)
      (text_of_transcript l.stats (into_iter_items l.initial.entry-iterator)) (text_of_transcript l.stats (into_iter_items l.entry-iterator))
      l.text.items;
  len : into_iter_len l.entry-iterator ≡ length (into_iter_items l.entry-iterator);
}
