use Rattle.std.proofs.Common.{◌≡◌, drop}
use Rattle.trigram.specs.Texts.{has_text}
use Rattle.trigram.specs.Private.Values.{texts_of}
use Rattle.trigram.proofs.texts.has_text.Given as goal

abbrev pub invariant-loop-other : goal.invariant-loop-other
invariant-loop-other l = has_text (texts_of (drop l.other-index l.texts)) l.text ≡ has_text (texts_of l.texts) l.text
