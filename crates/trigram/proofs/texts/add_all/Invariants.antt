use Rattle.std.proofs.Common.{◌≡◌}
use Rattle.trigram.specs.Texts.{with_texts}
use Rattle.trigram.specs.Private.Values.{texts_of}
use Rattle.std.specs.Vec.Iter.{into_iter_items}
use Rattle.trigram.proofs.texts.add_all.Given as goal

abbrev pub invariant-loop-text : goal.invariant-loop-text
invariant-loop-text l =
    with_texts (texts_of l.texts.items) (texts_of (into_iter_items l.text-iterator))
    ≡ with_texts (texts_of l.fn.texts.items) (texts_of l.fn.others.items)
