use Rattle.std.proofs.Common.{◌≡◌, drop}
use Rattle.query.specs.Texts.{texts_of, joined_texts}
use Rattle.trigram.specs.Texts.{with_texts, joins}
use Rattle.trigram.proofs.texts.few_joins.Given as goal

abbrev pub invariant-loop-prefix : goal.invariant-loop-prefix
invariant-loop-prefix l =
    with_texts (texts_of l.whole.items) (joined_texts (texts_of (drop l.prefix-index l.left)) (texts_of l.right))
    ≡ joins (texts_of l.left) (texts_of l.right)
