use Rattle.std.proofs.Common.{[], ap, sym, ◌∙◌}
use Rattle.trigram.specs.Texts.{with_texts}
use Rattle.trigram.specs.Private.Values.{texts_of}
use Rattle.trigram.proofs.TextsLemmas.{with_texts-append}
use Rattle.trigram.proofs.texts.union.Goals as goal

pub returns : goal.returns
returns c =
    c.in_ok-add_all-2.ensures
    ∙ ap (λ ts. with_texts ts (texts_of c.args.right.items))
    (c.in_ok-add_all.ensures ∙ ap (λ vs. with_texts (texts_of vs) (texts_of c.args.left.items)) c.new-whole.ensures.items)
    ∙ sym (with_texts-append [] (texts_of c.args.left.items) (texts_of c.args.right.items))
