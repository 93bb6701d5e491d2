use Rattle.std.proofs.Common.{[], ◌∷◌, take, sym, subst}
use Rattle.index.specs.Private.Copying.{IsEntered}
use Rattle.index.specs.Private.Store.{stored}
use Rattle.index.proofs.CopyingLemmas.{entered-more, free_still, taken_more}
use Rattle.index.proofs.copying.enter_all.Goals as goal

pub enter_one-requires-clause-free : goal.enter_one-requires-clause-free
enter_one-requires-clause-free c =
    free_still (stored c.args.store.now) (take c.loop-at.at c.args.copies.now) c.args.numbers.now c.loop-at.numbers c.args.groups.now c.loop-at.groups
    c.requires.free c.loop-at.invariant.1

pub loop-at-preserved : goal.loop-at-preserved
loop-at-preserved c =
    let contents = stored c.args.store.now in
    let cs = c.args.copies.now in
    let copy = c.index-copies-at.result in (
      c.in-Ok.ensures.bytes,
      subst (λ xs. IsEntered xs contents c.args.numbers.now c.args.groups.now c.enter_one.new.numbers c.enter_one.new.groups)
          (sym (taken_more cs c.loop-at.at copy c.loop-at-test.true c.index-copies-at.is))
          (entered-more contents (take c.loop-at.at cs) (copy ∷ []) c.args.numbers.now c.loop-at.numbers c.enter_one.new.numbers c.args.groups.now
          c.loop-at.groups c.enter_one.new.groups c.loop-at.invariant.1 c.in-Ok.ensures.ok),
    )
