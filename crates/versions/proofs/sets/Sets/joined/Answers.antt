use Rattle.std.proofs.Common.{◌++◌, ap, ◌∙◌}
use Rattle.std.specs.Arc.{arc_value}
use Rattle.std.proofs.lemmas.Grind.{flat_map-append}
use Rattle.versions.specs.Private.Version.{said}
use Rattle.versions.proofs.sets.Sets.joined.Goals as goal

pub returns : goal.returns
returns c =
    let one = c.self.inside.segments.items in
    let other = c.others.inside.segments.items in
    ap said c.in_ok-append.ensures.items
    ∙ (flat_map-append arc_value one other
    ∙ (ap (λ x. x ++ said other) c.self.view_is ∙ ap (λ x. c.args.self ++ x) c.others.view_is))
