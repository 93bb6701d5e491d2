use Rattle.std.proofs.Common.{◌≡◌, ◌∙◌, ap, arith}
use Rattle.std.specs.Prelude.{filter}
use Rattle.std.proofs.lemmas.List.Elements.{filter_agree}
use Rattle.std.proofs.lemmas.Result.{IfOk-weaker}
use Rattle.segments.specs.Contents.{has}
use Rattle.segments.specs.Private.Bits.{is_marked}
use Rattle.segments.proofs.PlaceLemmas.{spelled_gaps, marked_has}
use Rattle.segments.proofs.places.Places.among.Goals as goal

pub common-requires-clause-spelled : goal.common-requires-clause-spelled
common-requires-clause-spelled g c =
    spelled_gaps c.self.inside.count c.self.inside.bytes.now c.self.invariant (omega (arith, c.if-self-width.true, c.width.ensures))

pub returns-else-self-width-clause-found : goal.returns-else-self-width-clause-found
returns-else-self-width-clause-found g c =
    let bytes = c.self.inside.bytes.now in
    IfOk-weaker c.marked_among.result (λ v. v.items ≡ filter (is_marked bytes) c.args.places.now) (λ v. v.items ≡ filter (has c.args.self.now) c.args.places.now)
    (λ v e.
    e ∙ filter_agree (is_marked bytes) (has c.args.self.now)
    (λ p.
    marked_has c.self.inside.count bytes c.self.invariant (omega (arith, c.if-self-width.false, c.width.ensures)) p
    ∙ ap (λ ps. has ps p) c.self.view_is) c.args.places.now) c.marked_among.ensures.found
