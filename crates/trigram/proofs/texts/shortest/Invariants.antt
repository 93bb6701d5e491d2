use Rattle.std.proofs.Common.{◌≡◌, ◌++◌, filter, drop, not}
use Rattle.trigram.specs.Texts.{shortest, has_shorter_end}
use Rattle.trigram.specs.Private.Values.{texts_of, cut_at}
use Rattle.trigram.proofs.texts.shortest.Given as goal

abbrev pub invariant-loop-text : goal.invariant-loop-text
invariant-loop-text l =
    texts_of l.ends.items
    ++ filter (λ text. not (has_shorter_end (cut_at l.side) (texts_of l.texts) text)) (texts_of (drop l.text-index l.texts))
    ≡ shortest (cut_at l.side) (texts_of l.texts)
