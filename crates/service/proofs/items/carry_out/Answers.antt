use Rattle.std.proofs.Common.{Err, refl}
use Rattle.script.specs.Items as item
use Rattle.transcript.specs.declared.entry.Reason.TheVariants as reason
use Rattle.service.proofs.CarryLemmas.{carried_put, carried_load, carried_remove, carried_remove_under, carried_copy_under, carried_publish, carried_refused}
use Rattle.service.proofs.items.carry_out.Goals as goal

pub returns-in-Put-clause-done : goal.returns-in-Put-clause-done
returns-in-Put-clause-done g c = λ shown shows.
    let is = rw c.in-Put.is at shows in
    rw (is, ← c.deref.ensures.value)
    (carried_put _ c.args.lengths c.args.desk.now c.args.told.now _ c.args.read.line c.put.result _ c.entry_of.ensures c.deref.result.now
    c.in-Put.body.items _ (c.put.ensures.entry c.args.read.line) c.put.ensures.desk)

pub returns-in-SkippedPut-clause-done : goal.returns-in-SkippedPut-clause-done
returns-in-SkippedPut-clause-done g c = λ shown shows.
    let is = rw c.in-SkippedPut.is at shows in
    rw (is.1, ← c.deref-in-SkippedPut.ensures.value)
    (carried_put _ c.args.lengths c.args.desk.now c.args.told.now _ c.args.read.line (Err c.reason_of_skipped_put-reason.result) _ c.entry_of-in-SkippedPut.ensures
    c.deref-in-SkippedPut.result.now is.0 _ (c.reason_of_skipped_put-reason.ensures _ _ is.0 c.args.read.line is.2) refl)

pub returns-in-Load-clause-done : goal.returns-in-Load-clause-done
returns-in-Load-clause-done g c = λ shown shows.
    let is = rw c.in-Load.is at shows in
    rw (is, ← c.deref-in-Load.ensures.value, ← c.deref-in-Load-2.ensures.value)
    (carried_load _ c.args.lengths c.args.desk.now c.args.told.now _ c.args.read.line c.load.result _ c.entry_of-in-Load.ensures _ _ _ _ c.load.ensures.entry)

pub returns-in-Remove-clause-done : goal.returns-in-Remove-clause-done
returns-in-Remove-clause-done g c = λ shown shows.
    let is = rw c.in-Remove.is at shows in
    rw (is, ← c.deref-in-Remove.ensures.value)
    (carried_remove _ c.args.lengths c.args.desk.now c.args.told.now _ c.args.read.line c.remove.result _ c.entry_of-in-Remove.ensures _ _
    (c.remove.ensures.entry c.args.read.line) c.remove.ensures.desk)

pub returns-in-RemoveUnder-clause-done : goal.returns-in-RemoveUnder-clause-done
returns-in-RemoveUnder-clause-done g c = λ shown shows.
    let is = rw c.in-RemoveUnder.is at shows in
    rw (is, ← c.deref-in-RemoveUnder.ensures.value)
    (carried_remove_under _ c.args.lengths c.args.desk.now c.args.told.now _ c.args.read.line c.remove_under.result _
    c.entry_of-in-RemoveUnder.ensures _ _ (c.remove_under.ensures.entry c.args.read.line) c.remove_under.ensures.desk)

pub returns-in-CopyUnder-clause-done : goal.returns-in-CopyUnder-clause-done
returns-in-CopyUnder-clause-done g c = λ shown shows.
    let is = rw c.in-CopyUnder.is at shows in
    rw (is, ← c.deref-in-CopyUnder.ensures.value, ← c.deref-in-CopyUnder-2.ensures.value)
    (carried_copy_under _ c.args.lengths c.args.desk.now c.args.told.now _ c.args.read.line c.copy_under.result _
    c.entry_of-in-CopyUnder.ensures _ _ _ (c.copy_under.ensures.entry c.args.read.line) c.copy_under.ensures.desk)

pub returns-in-Publish-clause-done : goal.returns-in-Publish-clause-done
returns-in-Publish-clause-done g c = λ shown shows.
    let is = rw c.in-Publish.is at shows in
    rw is
    (carried_publish _ c.args.lengths c.args.desk.now c.args.told.now _ c.args.read.line _ _ _ c.publish.result c.publish_entry.ensures
    c.publish.ensures.ok c.publish.ensures.err c.publish.ensures.accepted c.publish.ensures.opening)

pub returns-in-BadLine-clause-done : goal.returns-in-BadLine-clause-done
returns-in-BadLine-clause-done g c = λ shown shows.
    let is = rw c.in-BadLine.is at shows in
    rw (is, c.refused.ensures) (carried_refused _ c.args.lengths c.args.desk.now c.args.told.now _ c.args.read.line _ item.bad_line reason.BadLine refl refl refl refl refl)

pub returns-in-BadPut-clause-done : goal.returns-in-BadPut-clause-done
returns-in-BadPut-clause-done g c = λ shown shows.
    let is = rw c.in-BadPut.is at shows in
    rw (is, c.refused-in-BadPut.ensures) (carried_refused _ c.args.lengths c.args.desk.now c.args.told.now _ c.args.read.line _ item.bad_put reason.BadPut refl refl refl refl refl)

pub returns-in-Truncated-clause-done : goal.returns-in-Truncated-clause-done
returns-in-Truncated-clause-done g c = λ shown shows.
    let is = rw c.in-Truncated.is at shows in
    rw (is, c.refused-in-Truncated.ensures) (carried_refused _ c.args.lengths c.args.desk.now c.args.told.now _ c.args.read.line _ item.truncated reason.Truncated refl refl refl refl refl)

pub returns-in-BodyNotClosed-clause-done : goal.returns-in-BodyNotClosed-clause-done
returns-in-BodyNotClosed-clause-done g c = λ shown shows.
    let is = rw c.in-BodyNotClosed.is at shows in
    rw (is, c.refused-in-BodyNotClosed.ensures) (carried_refused _ c.args.lengths c.args.desk.now c.args.told.now _ c.args.read.line _ item.body_not_closed reason.BodyNotClosed refl refl refl refl refl)

pub returns-in-Search-clause-done : goal.returns-in-Search-clause-done
returns-in-Search-clause-done g c = λ shown shows. let is = rw c.in-Search.is at shows in rw (is, c.new.ensures) (refl, refl, (refl, refl, refl))

pub returns-in-SearchIn-clause-done : goal.returns-in-SearchIn-clause-done
returns-in-SearchIn-clause-done g c = λ shown shows.
    let is = rw c.in-SearchIn.is at shows in rw (is, c.new-in-SearchIn.ensures) (refl, refl, (refl, refl, refl))

pub returns-in-Find-clause-done : goal.returns-in-Find-clause-done
returns-in-Find-clause-done g c = λ shown shows. let is = rw c.in-Find.is at shows in rw (is, c.new-in-Find.ensures) (refl, refl, (refl, refl, refl))

pub returns-in-Sync-clause-done : goal.returns-in-Sync-clause-done
returns-in-Sync-clause-done g c = λ shown shows. let is = rw c.in-Sync.is at shows in rw is (refl, (refl, refl, refl))

pub returns-in-Cancel-clause-done : goal.returns-in-Cancel-clause-done
returns-in-Cancel-clause-done g c = λ shown shows. let is = rw c.in-Cancel.is at shows in rw is (refl, (refl, refl, refl))

pub returns-in-Status-clause-done : goal.returns-in-Status-clause-done
returns-in-Status-clause-done g c = λ shown shows. let is = rw c.in-Status.is at shows in rw is (refl, (refl, refl, refl))
