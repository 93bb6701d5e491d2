use Rattle.std.specs.Vec.Iter.{into_iter_items}
use Rattle.posting.proofs.Changes.{passed-next, passed-more}
use Rattle.posting.proofs.Moving.{moves_entry, grows_some}
use Rattle.posting.proofs.filling.fill_range.Goals as goal

pub loop-left-preserved : goal.loop-left-preserved
loop-left-preserved c = record {
  passed =
      passed-more c.args.lefts.items c.loop-left.yielded (into_iter_items c.loop-left.left-iterator) (into_iter_items c.next.new.self) c.in-Some.left
      c.loop-left.invariant.passed c.in-Some.ensures.steps.0;
  moved =
      rw c.in_ok-push.ensures.items
      (moves_entry c.args.first c.args.parts.now c.loop-left.parts c.put_below.new.parts c.loop-left.yielded c.loop-left.rest.items c.in-Some.left
      c.in_ok-left.left c.loop-left.invariant.moved c.in_ok-left.ensures.ok);
}

pub returns-in_err-push-clause-grown : goal.returns-in_err-push-clause-grown
returns-in_err-push-clause-grown c =
    let next =
    passed-next c.args.lefts.items c.loop-left.yielded (into_iter_items c.loop-left.left-iterator) (into_iter_items c.next.new.self) c.in-Some.left
    c.loop-left.invariant.passed c.in-Some.ensures.steps.0 in
    rw next
    (grows_some c.args.first c.args.parts.now c.loop-left.parts c.put_below.new.parts c.loop-left.yielded (into_iter_items c.next.new.self) c.in-Some.left
    c.loop-left.invariant.moved.grown c.in_ok-left.ensures.grown)
