use Rattle.std.proofs.Common.{◌≡◌, ◌∙◌, ap, map, get_or, length}
use Rattle.std.proofs.lemmas.Result.{IfOk-weaker}
use Rattle.query.specs.Query.{formula_of}
use Rattle.segments.specs.Contents.{selected}
use Rattle.segments.proofs.Building.{few_numbers}
use Rattle.segments.proofs.Searching.{numbers_below-rising}
use Rattle.segments.proofs.Selecting.{places_fit, all_selected_at}
use Rattle.segments.proofs.segment.Segment.select.Goals as goal

pub narrow-requires-clause-fits : goal.narrow-requires-clause-fits
narrow-requires-clause-fits g c =
    let s = c.self.inside in
    let count : c.len.result ≡ length s.numbers.items = c.len.ensures ∙ s.numbers.ok.0 in
    rw count (record {
      few = few_numbers s.numbers.items c.self.invariant.numbers c.self.invariant.small;
      rising = c.self.invariant.rising;
      below = c.self.invariant.below;
    })

pub narrow-requires-clause-rises : goal.narrow-requires-clause-rises
narrow-requires-clause-rises g c = record { rising = numbers_below-rising c.len.result }

pub numbers_at-requires : goal.numbers_at-requires
numbers_at-requires g c =
    let inside = c.self.inside in
    rw (c.as_slice.ensures.value, c.as_slice-2.ensures.value)
    (places_fit inside.numbers.items inside.table (formula_of c.args.query.now) c.in_ok-places.places.items c.len.result
    (c.len.ensures ∙ inside.numbers.ok.0) c.in_ok-places.ensures.chosen)

pub returns-clause-chosen : goal.returns-clause-chosen
returns-clause-chosen g c =
    let inside = c.self.inside in
    IfOk-weaker c.numbers_at.result (λ v. v.items ≡ map (λ p. get_or c.as_slice.result.now p 0) c.as_slice-2.result.now)
    (λ v. v.items ≡ selected (formula_of c.args.query.now) c.args.self.now)
    (λ v e.
    all_selected_at inside.numbers.items inside.table (formula_of c.args.query.now) c.in_ok-places.places.items c.len.result
    (c.len.ensures ∙ inside.numbers.ok.0) c.in_ok-places.ensures.chosen v.items
    c.self.invariant.trigrams (rw (c.as_slice.ensures.value, c.as_slice-2.ensures.value) at e) ∙ ap (selected (formula_of c.args.query.now)) c.self.view_is)
    c.numbers_at.ensures.numbers
