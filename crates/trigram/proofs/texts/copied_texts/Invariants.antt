use Rattle.std.proofs.Common.{◌≡◌, ◌++◌, drop}
use Rattle.trigram.specs.Private.Values.{texts_of}
use Rattle.trigram.proofs.texts.copied_texts.Given as goal

abbrev pub invariant-loop-text : goal.invariant-loop-text
invariant-loop-text l = texts_of l.copies.items ++ texts_of (drop l.text-index l.texts) ≡ texts_of l.texts
