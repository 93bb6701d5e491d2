use Rattle.std.proofs.Common.{take, sym, ◌∙◌, ap}
use Rattle.std.proofs.lemmas.List.{take-map}
use Rattle.views.specs.Places.{hit_at, hits_at}
use Rattle.views.proofs.places.Places.truncate.Goals as goal

pub returns : goal.returns
returns c =
    let own = c.self.inside in
    ap (λ places. hits_at own.documents.items places) c.truncate.ensures.items
    ∙ (sym (take-map (hit_at own.documents.items) c.args.most own.places.items) ∙ ap (λ hits. take c.args.most hits) c.self.view_is)
