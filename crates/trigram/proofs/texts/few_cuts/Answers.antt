use Rattle.std.proofs.Common.{ap, ◌∙◌, arith}
use Rattle.std.proofs.lemmas.List.{length-map}
use Rattle.trigram.specs.Texts.{with_text, cuts}
use Rattle.trigram.specs.Private.Values.{texts_of, cut_at}
use Rattle.trigram.proofs.TextsLemmas.{many_ends}
use Rattle.trigram.proofs.texts.few_cuts.Goals as goal

pub returns-then-len-gt-MOST_TEXTS-clause-many : goal.returns-then-len-gt-MOST_TEXTS-clause-many
returns-then-len-gt-MOST_TEXTS-clause-many c =
    let one =
    c.in_ok-add_copy.ensures
    ∙ ap (with_text (texts_of c.loop-text.ends.items))
    (c.cut.ensures ∙ ap (cut_at c.args.side c.args.count) c.as_slice.ensures.value) in
    many_ends (cut_at c.args.side c.args.count) c.args.texts.now c.loop-text.text-index c.text-item.result (texts_of c.loop-text.ends.items)
    (texts_of c.add_copy.new.texts.items) (cuts (cut_at c.args.side) c.args.count (texts_of c.args.texts.now)) 16 c.loop-text-test.true
    c.text-item.is c.loop-text.invariant.0 one
    (omega (arith, length-map c.add_copy.new.texts.items (λ text. text.items), c.len.ensures, c.if-len-gt-MOST_TEXTS.true))
