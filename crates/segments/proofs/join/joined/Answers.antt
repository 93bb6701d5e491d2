use Rattle.std.proofs.Common.{◌≡◌, ◌∙◌, refl, take}
use Rattle.std.specs.List.Sorted.{IsStrictlyIncreasing}
use Rattle.std.proofs.lemmas.List.{take_all}
use Rattle.segments.specs.Contents.{numbers_of, contents_in}
use Rattle.segments.specs.Private.Joins.{AreTargets, HasTrigrams}
use Rattle.segments.proofs.Joining.{found_places}
use Rattle.segments.proofs.Joined.{joined_none, joined_above, joined_more, joined_all}
use Rattle.segments.proofs.join.joined.Goals as goal

pub loop-trigram-init : goal.loop-trigram-init
loop-trigram-init c =
    rw c.new-whole.ensures (record {
      joined = joined_none c.args.numbers.now (contents_in c.args.segments.now) c.as_slice-trigram-items.result.now;
      count = refl;
    })

pub with_set-requires-clause-above : goal.with_set-requires-clause-above
with_set-requires-clause-above c =
    let ts = c.as_slice-trigram-items.result.now in
    let rising : IsStrictlyIncreasing ts = rw c.as_slice-trigram-items.ensures.value c.in_ok-trigrams.ensures.rising in
    joined_above c.args.numbers.now (contents_in c.args.segments.now) ts c.loop-trigram.trigram-index c.loop-trigram.whole.sets rising
    c.loop-trigram-test.true c.loop-trigram.invariant.joined

pub with_set-requires-clause-places : goal.with_set-requires-clause-places
with_set-requires-clause-places c =
    let all = contents_in c.args.segments.now in
    let are : AreTargets (numbers_of all) c.args.numbers.now c.as_slice.result.now = rw c.as_slice.ensures.value c.in_ok-targets.ensures in
    let found =
    found_places c.args.numbers.now _ c.as_slice.result.now all c.find_places.new.places.items c.put_in_order.new.places.items are
    c.in_ok-find_places.ensures c.put_in_order.ensures.same in
    rw (c.loop-trigram.invariant.count, c.as_slice-in-loop-trigram.ensures.value) (record {
      few = c.requires.few;
      rising = c.put_in_order.ensures.rising;
      below = found.0;
    })

pub loop-trigram-preserved : goal.loop-trigram-preserved
loop-trigram-preserved c =
    let all = contents_in c.args.segments.now in
    let ts = c.as_slice-trigram-items.result.now in
    let sorted = c.put_in_order.new.places.items in
    let rising : IsStrictlyIncreasing ts = rw c.as_slice-trigram-items.ensures.value c.in_ok-trigrams.ensures.rising in
    let are : AreTargets (numbers_of all) c.args.numbers.now c.as_slice.result.now = rw c.as_slice.ensures.value c.in_ok-targets.ensures in
    let found =
    found_places c.args.numbers.now _ c.as_slice.result.now all c.find_places.new.places.items sorted are c.in_ok-find_places.ensures
    c.put_in_order.ensures.same in record {
      joined =
          joined_more c.args.numbers.now all ts c.loop-trigram.trigram-index c.loop-trigram.whole.sets c.in_ok-whole.whole.sets sorted c.requires.few rising
          c.loop-trigram-test.true c.loop-trigram.invariant.joined c.put_in_order.ensures.rising found.0 found.1
          (rw c.as_slice-in-loop-trigram.ensures.value at c.in_ok-whole.ensures.sets);
      count = c.in_ok-whole.ensures.count ∙ c.loop-trigram.invariant.count;
    }

pub returns : goal.returns
returns c =
    let all = contents_in c.args.segments.now in
    let ts = c.as_slice-trigram-items.result.now in
    let done : take c.loop-trigram.trigram-index ts ≡ ts = take_all c.loop-trigram.trigram-index ts c.loop-trigram-test.false in
    let has : HasTrigrams all ts = rw c.as_slice-trigram-items.ensures.value c.in_ok-trigrams.ensures.all in
    rw c.finish.ensures (joined_all c.args.numbers.now all ts c.loop-trigram.whole.sets (rw done at c.loop-trigram.invariant.joined) has)
