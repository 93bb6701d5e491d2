use Rattle.std.proofs.Common.{◌≡◌, Some, None, ap, sym, ◌∙◌}
use Rattle.std.specs.Prelude.{option_map}
use Rattle.std.specs.Borrow.{Bor}
use Rattle.std.specs.FinMap.{get}
use Rattle.documents.specs.State.{State}
use Rattle.names.specs.declared.content.Content.{Content}
use Rattle.versions.proofs.BodyLemmas.{get-bodies}
use Rattle.versions.proofs.draft.Draft.held.Goals as goal

pub returns-in-Some : goal.returns-in-Some
returns-in-Some c =
    let names = c.self.inside.names in
    let found : get names c.as_bytes.result.now ≡ Some c.in-Some.content.now =
    sym c.get.ensures ∙ ap (option_map (λ (content : Bor Content). content.now)) c.in-Some.is in
    sym (get-bodies names c.args.name.now
    ∙ ap (option_map (λ (content : Content). content.held)) (ap (get names) (sym c.as_bytes.ensures.bytes) ∙ found))
    ∙ ap (λ (s : State). get s.documents c.args.name.now) c.self.view_is

pub returns-in-None : goal.returns-in-None
returns-in-None c =
    let names = c.self.inside.names in
    let found : get names c.as_bytes.result.now ≡ None =
    sym c.get.ensures ∙ ap (option_map (λ (content : Bor Content). content.now)) c.in-None.is in
    sym (get-bodies names c.args.name.now
    ∙ ap (option_map (λ (content : Content). content.held)) (ap (get names) (sym c.as_bytes.ensures.bytes) ∙ found))
    ∙ ap (λ (s : State). get s.documents c.args.name.now) c.self.view_is
