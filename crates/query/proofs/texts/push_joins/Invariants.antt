use Rattle.std.proofs.Common.{◌≡◌, ◌++◌, map, drop}
use Rattle.query.specs.Texts.{texts_of}
use Rattle.query.proofs.texts.push_joins.Given as goal

abbrev pub invariant-loop-suffix : goal.invariant-loop-suffix
invariant-loop-suffix l =
    texts_of l.whole.items ++ map (λ suffix. l.prefix ++ suffix) (texts_of (drop l.suffix-index l.suffixes))
    ≡ texts_of l.fn.whole.items ++ map (λ suffix. l.prefix ++ suffix) (texts_of l.suffixes)
