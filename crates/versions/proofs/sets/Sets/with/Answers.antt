use Rattle.std.proofs.Common.{◌++◌, ap, ◌∙◌}
use Rattle.std.specs.Arc.{arc_value}
use Rattle.versions.specs.Private.Version.{said}
use Rattle.versions.proofs.SaidLemmas.{said_push}
use Rattle.versions.proofs.sets.Sets.with.Goals as goal

pub returns : goal.returns
returns c =
    let segments = c.self.inside.segments.items in
    let segment = c.in_ok-new.field-0 in
    ap said c.in_ok-push.ensures.items
    ∙ (said_push segments segment
    ∙ (ap (λ x. x ++ arc_value segment) c.self.view_is
    ∙ ap (λ x. c.args.self ++ x) c.in_ok-new.ensures.ok))
