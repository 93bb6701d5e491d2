use Rattle.std.proofs.Common.{◌≡◌, ◌++◌, ap, ◌∙◌, sym, length}
use Rattle.std.specs.List.{filter_map}
use Rattle.std.proofs.lemmas.Result.{on_ok_weaker}
use Rattle.segments.specs.Private.Table.{places_of}
use Rattle.segments.specs.Private.Joins.{target_of}
use Rattle.segments.proofs.Views.{length-contents_at}
use Rattle.segments.proofs.Joining.{adds_segment, all_inside}
use Rattle.segments.proofs.segment.Segment.push_places.Goals as goal
use Rattle.segments.proofs.segment.Segment.push_places.Goals.{After-as_slice}

-- the places that were read
read_are : (c : After-as_slice) → c.as_slice.result.now ≡ places_of c.self.inside.table c.args.trigram
read_are c =
    c.as_slice.ensures.value ∙ c.in_ok-push_to.ensures ∙ ap (λ ps. ps ++ c.places_near.result) c.clear.ensures.items ∙ c.places_near.ensures

pub push_targets-requires : goal.push_targets-requires
push_targets-requires c =
    let inside = c.self.inside in
    let count : length c.args.targets.now ≡ length inside.numbers.items =
    c.requires ∙ sym (ap length c.self.view_is) ∙ length-contents_at inside.numbers.items inside.table in
    rw (read_are (goal.at.push_targets-requires c).After-as_slice, count) (all_inside inside.numbers.items inside.table c.self.invariant c.args.trigram)

pub returns : goal.returns
returns c =
    let inside = c.self.inside in
    on_ok_weaker c.push_targets.result
    (λ is.
    rw (← c.self.view_is)
    (adds_segment inside.numbers.items c.args.targets.now inside.table c.self.invariant c.args.trigram c.args.places.now.items
    c.push_targets.new.to.items (is ∙ ap (λ ps. c.args.places.now.items ++ filter_map (target_of c.args.targets.now) ps) (read_are (goal.at.returns c).After-as_slice))))
    c.push_targets.ensures
