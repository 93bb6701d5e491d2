use Rattle.std.proofs.Common.{◌≡◌, drop}
use Rattle.trigram.specs.Texts.{has_shorter_end}
use Rattle.trigram.specs.Private.Values.{texts_of, cut_at}
use Rattle.trigram.proofs.texts.has_shorter_end.Given as goal

abbrev pub invariant-loop-part : goal.invariant-loop-part
invariant-loop-part l =
    has_shorter_end (cut_at l.side) (texts_of (drop l.part-index l.texts)) l.text
    ≡ has_shorter_end (cut_at l.side) (texts_of l.texts) l.text
