use Rattle.std.proofs.Common.{◌≡◌, ◌++◌, ◌∙◌, ap}
use Rattle.std.specs.Prelude.{codes, decimal}
use Rattle.std.proofs.lemmas.Result.{on_ok_weaker}
use Rattle.views.specs.Shown.{text_of_stats}
use Rattle.views.proofs.TextLemmas.{four}
use Rattle.views.proofs.shown.Shown.append_stats.Goals as goal

pub returns-clause-ok : goal.returns-clause-ok
unfolding text_of_stats
returns-clause-ok c =
    let now = c.args.self.now in
    let first : c.as_slice.result.now ≡ codes " candidates " = c.as_slice.ensures in
    let candidates : c.as_bytes.result.now ≡ decimal now.candidates =
    c.as_bytes.ensures.value ∙ (c.format.ensures.text ∙ ap decimal c.candidates.ensures) in
    let second : c.as_slice-2.result.now ≡ codes " of " = c.as_slice-2.ensures in
    let documents : c.as_bytes-2.result.now ≡ decimal now.documents =
    c.as_bytes-2.ensures.value ∙ (c.format-2.ensures.text ∙ ap decimal c.documents.ensures) in
    let joined =
    four c.as_slice.result.now c.as_bytes.result.now c.as_slice-2.result.now c.as_bytes-2.result.now
    ∙ (λ i. ((first i ++ candidates i) ++ second i) ++ documents i) in
    on_ok_weaker c.append_all.result (λ e. e ∙ ap (λ t. c.args.out.now.items ++ t) joined) c.append_all.ensures.ok
