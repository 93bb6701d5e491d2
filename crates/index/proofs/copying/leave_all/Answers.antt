use Rattle.std.proofs.Common.{take, sym, subst}
use Rattle.index.specs.Private.Contents.{IsLeft}
use Rattle.index.specs.Private.Copying.{AreLeft}
use Rattle.index.specs.Private.Store.{stored}
use Rattle.index.proofs.CopyingLemmas.{left-more, taken_more}
use Rattle.index.proofs.copying.leave_all.Goals as goal

pub leave_one-requires-clause-store : goal.leave_one-requires-clause-store
leave_one-requires-clause-store c = (c.requires.store.0, c.loop-at.invariant.1 c.requires.store.0 c.requires.store.1)

pub loop-at-preserved : goal.loop-at-preserved
loop-at-preserved c =
    let cs = c.args.copies.now in
    let copy = c.index-copies-at.result in
    let before = stored c.args.store.now in
    let mid = stored c.loop-at.store in
    let after = stored c.leave_one.new.store in (
      subst (λ xs. AreLeft c.args.leaves xs before c.args.groups.now after c.leave_one.new.groups)
          (sym (taken_more cs c.loop-at.at copy c.loop-at-test.true c.index-copies-at.is))
          (left-more c.args.leaves (take c.loop-at.at cs) copy before mid after c.args.groups.now c.loop-at.groups c.leave_one.new.groups
          c.loop-at.invariant.0
          (subst (λ o. IsLeft o copy.name mid c.loop-at.groups after c.leave_one.new.groups) c.left_by-number.ensures c.leave_one.ensures.left)),
      λ last kept. c.leave_one.ensures.store last (c.loop-at.invariant.1 last kept),
    )
