use Rattle.std.proofs.Common.{◌≡◌, ap, ◌∙◌}
use Rattle.std.proofs.lemmas.Result.{IfOk-weaker}
use Rattle.query.specs.Texts.{texts_of, joined_texts}
use Rattle.query.specs.Query.{formula_of}
use Rattle.trigram.proofs.TextsLemmas.{joined_with_empty, plain_for_same}
use Rattle.trigram.proofs.texts.query_of_texts.Goals as goal

pub returns : goal.returns
returns c =
    let texts = texts_of c.args.texts.now in
    let same : joined_texts texts (texts_of c.as_slice.result.now) ≡ texts =
    ap (λ vs. joined_texts texts (texts_of vs)) c.as_slice.ensures.value ∙ ap (joined_texts texts) c.in_ok-nothing.ensures
    ∙ joined_with_empty texts in
    IfOk-weaker c.query_of_joins.result _ _ (λ query h. plain_for_same _ texts (formula_of query) same h) c.query_of_joins.ensures
