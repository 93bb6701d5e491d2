use Rattle.std.proofs.Common.{◌∙◌, ◌&&◌, ap, length}
use Rattle.std.specs.Prelude.{nat_lt}
use Rattle.std.specs.FinMap.{keys}
use Rattle.std.specs.List.{list_any}
use Rattle.prefixes.specs.Under.{begins_with}
use Rattle.documents.specs.Documents.{has_long_copy, renamed}
use Rattle.documents.specs.State.{State}
use Rattle.versions.proofs.BodyLemmas.{any-bodies}
use Rattle.versions.proofs.draft.Draft.has_long_copy.Goals as goal

pub returns : goal.returns
returns c =
    let from = c.args.from.now in
    let to = c.args.to.now in
    c.has_long_copy.ensures
    ∙ (ap (λ text. list_any (λ name. begins_with text name && nat_lt c.args.most (length (renamed text c.as_bytes-2.result.now name))) (keys c.self.inside.names)) c.as_bytes.ensures.bytes
    ∙ (ap (λ text. list_any (λ name. begins_with from name && nat_lt c.args.most (length (renamed from text name))) (keys c.self.inside.names)) c.as_bytes-2.ensures.bytes
    ∙ (any-bodies c.self.inside.names (λ name. begins_with from name && nat_lt c.args.most (length (renamed from to name)))
    ∙ ap (λ (s : State). has_long_copy c.args.most from to s.documents) c.self.view_is)))
