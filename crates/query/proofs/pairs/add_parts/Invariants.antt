use Rattle.std.proofs.Common.{◌≡◌, ◌++◌, length, map, drop}
use Rattle.query.specs.Texts.{texts_of}
use Rattle.query.proofs.PairLemmas.{bytes_of}
use Rattle.query.proofs.pairs.add_parts.Given as goal

abbrev pub invariant-loop-part : goal.invariant-loop-part
invariant-loop-part l = record {
  lengths : l.lengths.items ++ map length (texts_of (drop l.part-index l.parts)) ≡ l.fn.lengths.items ++ map length (texts_of l.parts);
  bytes : l.bytes.items ++ bytes_of (texts_of (drop l.part-index l.parts)) ≡ l.fn.bytes.items ++ bytes_of (texts_of l.parts);
}
