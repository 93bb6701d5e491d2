use Rattle.std.proofs.Common.{◌≡◌, ◌++◌, ◌∙◌, ap, sym}
use Rattle.std.specs.Prelude.{codes, decimal}
use Rattle.std.proofs.lemmas.Result.{on_ok_weaker}
use Rattle.views.specs.Shown.{text_of_times, text_of_way}
use Rattle.views.proofs.TextLemmas.{six}
use Rattle.views.proofs.shown.Shown.append_times.Goals as goal

pub returns-clause-ok : goal.returns-clause-ok
returns-clause-ok c =
    let now = c.args.self.now in
    let a : c.as_slice.result.now ≡ codes " waited " = c.as_slice.ensures in
    let waited : c.as_bytes.result.now ≡ decimal c.in-Some.times.waited = c.as_bytes.ensures.value ∙ c.format.ensures.text in
    let b : c.as_slice-2.result.now ≡ codes " worked " = c.as_slice-2.ensures in
    let worked : c.as_bytes-2.result.now ≡ decimal c.in-Some.times.worked = c.as_bytes-2.ensures.value ∙ c.format-2.ensures.text in
    let d : c.as_slice-3.result.now ≡ codes " by " = c.as_slice-3.ensures in
    let way : c.way_text.result.now ≡ text_of_way now.found_by = c.way_text.ensures ∙ ap text_of_way c.found_by.ensures in
    let joined =
    six c.as_slice.result.now c.as_bytes.result.now c.as_slice-2.result.now c.as_bytes-2.result.now c.as_slice-3.result.now c.way_text.result.now
    ∙ (λ i. ((((a i ++ waited i) ++ b i) ++ worked i) ++ d i) ++ way i) in
    let given = ap (text_of_times now.found_by) (sym c.in-Some.is ∙ c.times.ensures) in
    on_ok_weaker c.append_all.result (λ e. e ∙ ap (λ t. c.args.out.now.items ++ t) (joined ∙ given)) c.append_all.ensures.ok
