use Rattle.std.proofs.Common.{[], sym, ◌∙◌}
use Rattle.segments.proofs.BitLemmas.{marked_none, marked_there, marked_absent}
use Rattle.segments.proofs.places.all_marked.Goals as goal
use Rattle.segments.proofs.places.all_marked.Goals.{then-is_marked+in_ok-push, else-is_marked}

pub loop-place-init : goal.loop-place-init
loop-place-init g c = c.in_ok-places.ensures.items ∙ marked_none [] c.args.bytes.now

pub loop-place-preserved : goal.loop-place-preserved
loop-place-preserved g c =
    let l = c.loop-place in
    elim c.if-is_marked.branch [
      | then-is_marked+in_ok-push w ↦
          rw (w.places-is, w.in_ok-push.ensures.items)
          (marked_there [] c.args.bytes.now l.places.items l.place l.invariant (sym c.is_marked.ensures ∙ w.if-is_marked.true))
      | else-is_marked w ↦
          rw w.places-is (marked_absent [] c.args.bytes.now l.places.items l.place l.invariant (sym c.is_marked.ensures ∙ w.if-is_marked.false))
    ]
