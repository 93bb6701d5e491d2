use Rattle.std.proofs.Common.{◌≡◌, ◌++◌, ◌-◌, length, take, drop, ◌∙◌, ap, arith}
use Rattle.std.proofs.lemmas.List.{take_all, length-drop}
use Rattle.views.specs.Text.{text_of_hits}
use Rattle.views.proofs.parts.Passage.text.Goals as goal

pub returns : goal.returns
returns c =
    let own = c.self.inside in
    let bytes = c.deref.result.now in
    let back = c.split_at-lines.ensures.back ∙ ap (λ hits. drop own.formed hits) c.lines.ensures in
    let front : take (length bytes - own.from) (drop own.from bytes) ≡ drop own.from own.text.items =
    take_all (length bytes - own.from) (drop own.from bytes) (omega (arith, length-drop own.from bytes)) ∙ ap (λ t. drop own.from t) c.deref.ensures.value in
    ap (λ t. t ++ text_of_hits own.zero c.split_at-lines.result.1) front
    ∙ (ap (λ hits. drop own.from own.text.items ++ text_of_hits own.zero hits) back ∙ c.self.view_is)
