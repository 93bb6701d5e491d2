use Rattle.std.proofs.Common.{◌≡◌, ◌++◌, map, drop}
use Rattle.trigram.specs.Texts.{with_texts}
use Rattle.trigram.specs.Private.Values.{texts_of}
use Rattle.trigram.proofs.texts.add_joins.Given as goal

abbrev pub invariant-loop-suffix : goal.invariant-loop-suffix
invariant-loop-suffix l =
    with_texts (texts_of l.whole.items) (map (λ suffix. l.prefix ++ suffix) (texts_of (drop l.suffix-index l.suffixes)))
    ≡ with_texts (texts_of l.fn.whole.items) (map (λ suffix. l.prefix ++ suffix) (texts_of l.suffixes))
