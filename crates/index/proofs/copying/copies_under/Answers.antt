use Rattle.std.proofs.Common.{◌++◌, sym, ◌∙◌, ap}
use Rattle.index.specs.Private.Copying.{copies_in}
use Rattle.index.proofs.UnderLemmas.{Behind-tail}
use Rattle.index.proofs.CopyingLemmas.{copies-first, copies-behind, copies-new, copies-same, copies-stop}
use Rattle.index.proofs.copying.copies_under.Goals as goal

pub loop-name-init : goal.loop-name-init
loop-name-init c =
    let from = c.args.from.now in
    let to = c.args.to.now in
    let numbers = c.args.numbers.now in
    let left = c.into_iter-name-iterator.result in
    let are = c.into_iter-name-iterator.ensures.into_iter_gives ∙ c.range-name-items.ensures.between tt in (
      ap (λ xs. xs ++ copies_in from to numbers left) c.new-copies.ensures.items ∙ copies-first from to numbers left are,
      copies-behind from to numbers left c.range-name-items.ensures.ordered are,
    )

pub returns-then-not-begins : goal.returns-then-not-begins
returns-then-not-begins c =
    let numbers = c.args.numbers.now in
    copies-stop c.args.from.now c.args.to.now numbers numbers.entries c.loop-name.name-iterator c.next.new.self c.loop-name.copies.items c.in-Some.name.now
    c.in-Some.number.now c.in-Some.ensures.steps c.loop-name.invariant.0 c.loop-name.invariant.1 (sym c.if-not-begins.ensures)

pub loop-name-preserved-in-Continue-branch-2 : goal.loop-name-preserved-in-Continue-branch-2
loop-name-preserved-in-Continue-branch-2 c =
    let numbers = c.args.numbers.now in (
      copies-new c.args.from.now c.args.to.now numbers numbers.entries c.loop-name.name-iterator c.next.new.self c.loop-name.copies.items c.in-Some.name.now
          c.in-Some.number.now c.in-Some.ensures.steps c.loop-name.invariant.0 c.push.new.self.items c.in_ok-copy.copy (sym c.if-not-begins.ensures)
          c.in_ok-copy.ensures (sym c.if-is_new.ensures) c.in_ok-push.ensures.items,
      Behind-tail c.args.from.now c.loop-name.name-iterator c.next.new.self c.in-Some.name.now c.in-Some.number.now c.in-Some.ensures.steps
          c.loop-name.invariant.1,
    )

pub loop-name-preserved : goal.loop-name-preserved
loop-name-preserved c =
    let numbers = c.args.numbers.now in (
      copies-same c.args.from.now c.args.to.now numbers numbers.entries c.loop-name.name-iterator c.next.new.self c.loop-name.copies.items c.in-Some.name.now
          c.in-Some.number.now c.in-Some.ensures.steps c.loop-name.invariant.0 c.in_ok-copy.copy (sym c.if-not-begins.ensures) c.in_ok-copy.ensures
          (sym c.if-is_new.ensures),
      Behind-tail c.args.from.now c.loop-name.name-iterator c.next.new.self c.in-Some.name.now c.in-Some.number.now c.in-Some.ensures.steps
          c.loop-name.invariant.1,
    )
