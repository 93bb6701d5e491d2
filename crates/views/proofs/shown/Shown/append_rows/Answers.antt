use Rattle.std.proofs.Common.{◌≡◌, ◌++◌, ◌∙◌, ap, sym}
use Rattle.std.specs.Prelude.{codes, decimal}
use Rattle.std.proofs.lemmas.Result.{on_ok_weaker}
use Rattle.std.proofs.lemmas.List.{append-nil}
use Rattle.views.specs.Shown.{text_of_rows_count}
use Rattle.views.proofs.TextLemmas.{two}
use Rattle.views.proofs.ShownLemmas.{no_rows_counted}
use Rattle.views.proofs.shown.Shown.append_rows.Goals as goal

pub returns-in-Context-clause-ok : goal.returns-in-Context-clause-ok
returns-in-Context-clause-ok c =
    let now = c.args.self.now in
    let first : c.as_slice.result.now ≡ codes " rows " = c.as_slice.ensures in
    let rows : c.as_bytes.result.now ≡ decimal now.rows = c.as_bytes.ensures.value ∙ (c.format.ensures.text ∙ ap decimal c.rows.ensures) in
    let joined = two c.as_slice.result.now c.as_bytes.result.now ∙ (λ i. first i ++ rows i) in
    let counted = ap (λ v. text_of_rows_count v now.rows) (sym c.in-Context.is ∙ c.view.ensures) in
    on_ok_weaker c.append_all.result (λ e. e ∙ ap (λ t. c.args.out.now.items ++ t) (joined ∙ counted)) c.append_all.ensures.ok

pub returns-in_default-clause-ok : goal.returns-in_default-clause-ok
returns-in_default-clause-ok c =
    let now = c.args.self.now in
    let counted = sym (ap (λ v. text_of_rows_count v now.rows) c.view.ensures) ∙ no_rows_counted c.view.result now.rows c.in_default.not-Context in
    sym (append-nil c.args.out.now.items) ∙ ap (λ t. c.args.out.now.items ++ t) (sym counted)
