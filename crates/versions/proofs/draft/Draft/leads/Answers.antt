use Rattle.std.proofs.Common.{◌≡◌, Some, ap, sym, ◌∙◌}
use Rattle.std.specs.Prelude.{option_map, is_some}
use Rattle.std.specs.Borrow.{Bor}
use Rattle.std.specs.FinMap.{get}
use Rattle.documents.specs.Documents.{is_taken}
use Rattle.documents.specs.State.{State}
use Rattle.names.specs.declared.content.Content.{Content}
use Rattle.versions.proofs.BodyLemmas.{get-bodies}
use Rattle.versions.proofs.draft.Draft.leads.Goals as goal

pub returns-in-Some : goal.returns-in-Some
returns-in-Some c _ _ =
    let names = c.self.inside.names in
    let found : get names c.as_bytes.result.now ≡ Some c.in-Some.content.now =
    sym c.get.ensures ∙ ap (option_map (λ (content : Bor Content). content.now)) c.in-Some.is in
    sym (ap (λ (s : State). is_taken c.args.like.now.name s.documents) c.self.view_is)
    ∙ ap is_some (get-bodies names c.args.like.now.name
    ∙ ap (option_map (λ (content : Content). content.held)) (ap (get names) (sym c.as_bytes.ensures.bytes) ∙ found))
