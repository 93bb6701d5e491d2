use Rattle.std.proofs.Common.{◌≡◌, ◌∙◌, ap, refl, arith, length, map, ◌++◌}
use Rattle.std.specs.List.{slice_range}
use Rattle.segments.specs.Private.Keys.{place_in}
use Rattle.segments.specs.Private.Table.{Laid}
use Rattle.segments.proofs.Adding.{adds_none, adds_more, run-above, run-rising, run-below}
use Rattle.segments.proofs.keys.lay.Goals as goal
use Rattle.segments.proofs.keys.lay.Goals.{After-as_slice}

-- the places of one run
places_are : (c : After-as_slice) → c.as_slice.result.now ≡ map place_in (slice_range c.args.keys.now c.loop-start.start c.end_of_run-end.result)
places_are c = c.as_slice.ensures.value ∙ c.in_ok-push_places.ensures ∙ ap (λ ps. ps ++ map place_in (slice_range c.args.keys.now c.loop-start.start c.end_of_run-end.result)) c.clear.ensures.items

pub loop-start-init : goal.loop-start-init
loop-start-init c = record { adds = adds_none c.args.laying.sets c.args.keys.now c.requires.above; count = refl }

pub same-whole : goal.same-whole
same-whole c = refl

pub with-requires-clause-above : goal.with-requires-clause-above
with-requires-clause-above c =
    rw c.trigram_in.ensures
    (run-above c.args.laying.sets c.args.keys.now c.loop-start.start c.end_of_run-end.result c.loop-start.whole.sets c.requires.rising c.loop-start.invariant.adds
    c.end_of_run-end.ensures)

pub with-requires-clause-places : goal.with-requires-clause-places
with-requires-clause-places c =
    let old = c.args.laying.sets in
    let keys = c.args.keys.now in
    let start = c.loop-start.start in
    let end = c.end_of_run-end.result in
    let sets = c.loop-start.whole.sets in
    rw (places_are (goal.at.with-requires-clause-places c).After-as_slice, c.loop-start.invariant.count) (record {
      few = c.requires.below.few;
      rising = run-rising old keys start end sets c.requires.rising c.loop-start.invariant.adds c.end_of_run-end.ensures;
      below =
          run-below old keys start end sets c.requires.rising c.loop-start.invariant.adds c.end_of_run-end.ensures c.args.laying.count
          c.requires.below.below;
    })

pub loop-start-preserved : goal.loop-start-preserved
loop-start-preserved c = record {
  adds = rw (c.in_ok-whole.ensures, c.trigram_in.ensures, places_are (goal.at.loop-start-preserved c).After-as_slice)
      (adds_more c.args.laying.sets c.args.keys.now c.loop-start.start c.end_of_run-end.result c.loop-start.whole.sets c.requires.rising
      c.loop-start.invariant.adds c.end_of_run-end.ensures);
  count = ap (λ (l : Laid). l.count) c.in_ok-whole.ensures ∙ c.loop-start.invariant.count;
}

pub returns-clause-adds : goal.returns-clause-adds
returns-clause-adds c =
    let le = c.loop-start.invariant.adds.within in
    let end : c.loop-start.start ≡ length c.args.keys.now = omega (arith, le, c.loop-start-test.false) in
    rw end at c.loop-start.invariant.adds
