use Rattle.std.proofs.Common.{take, drop, ap, ◌∙◌, arith}
use Rattle.std.proofs.lemmas.Result.{IfOk-weaker}
use Rattle.query.specs.Texts.{texts_of, joined_texts}
use Rattle.query.specs.Pairs.{parts_of}
use Rattle.query.proofs.PairLemmas.{joins_of_parts}
use Rattle.query.proofs.pairs.Pairs.texts.Goals as goal

pub returns : goal.returns
returns c =
    let m = c.min.result in
    let n = c.min-2.result in
    let vecs = c.in_ok-parts.parts.items in
    IfOk-weaker c.joined_texts.result _ _ (λ texts e.
    e
    ∙ ap (λ vs. joined_texts (texts_of vs) (texts_of c.split_at-2.result.1.now)) (c.split_at.ensures.front ∙ ap (take m) c.deref.ensures.value)
    ∙ ap (λ vs. joined_texts (texts_of (take m vecs)) (texts_of vs)) (c.split_at-2.ensures.back ∙ ap (drop n) c.deref-2.ensures.value)
    ∙ joins_of_parts vecs (parts_of c.args.self.now) c.args.self.now.lefts c.args.self.now.rights m n c.in_ok-parts.ensures (grind arith)
    (grind arith)) c.joined_texts.ensures
