use Rattle.std.proofs.Common.{◌≡◌, ◌++◌, drop}
use Rattle.query.specs.Texts.{texts_of}
use Rattle.query.specs.Pairs.{cut_texts, parts_of}
use Rattle.query.proofs.pairs.Pairs.parts.Given as goal

abbrev pub invariant-loop-length : goal.invariant-loop-length
invariant-loop-length l = texts_of l.parts.items ++ cut_texts (drop l.length-index l.length-items) l.rest ≡ parts_of l.self
