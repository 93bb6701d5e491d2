use Rattle.std.proofs.Common.{◌≡◌, ◌++◌, map, drop}
use Rattle.std.specs.List.{flat_map}
use Rattle.query.specs.Texts.{texts_of}
use Rattle.query.proofs.texts.joined_texts.Given as goal

abbrev pub invariant-loop-prefix : goal.invariant-loop-prefix
invariant-loop-prefix l =
    texts_of l.whole.items ++ flat_map (λ prefix. map (λ suffix. prefix ++ suffix) (texts_of l.right)) (texts_of (drop l.prefix-index l.left))
    ≡ flat_map (λ prefix. map (λ suffix. prefix ++ suffix) (texts_of l.right)) (texts_of l.left)
