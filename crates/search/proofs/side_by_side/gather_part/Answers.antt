use Rattle.std.proofs.Common.{◌++◌, ◌∷◌, [], refl, ◌∙◌, ap}
use Rattle.std.proofs.lemmas.List.{append-nil}
use Rattle.views.specs.Parts.{text_of_parts}
use Rattle.search.proofs.JoinLemmas.{joins-one}
use Rattle.search.proofs.side_by_side.gather_part.Goals as goal

pub returns-clause-joins : goal.returns-clause-joins
returns-clause-joins g c = λ own told.
    joins-one c.args.wanted.now c.args.documents.now c.in_ok-gathered.gathered _ c.without_gap-from.result.0 c.in_ok-part.part own
    (c.in_ok-gathered.ensures.gathers own told) c.without_gap-from.ensures c.in_ok-part.ensures.part
    (ap (λ parts. text_of_parts parts) (c.in_ok-push.ensures.items ∙ ap (λ parts. parts ++ c.in_ok-part.part ∷ []) c.new-parts.ensures.items)
    ∙ append-nil c.in_ok-part.part) refl refl
