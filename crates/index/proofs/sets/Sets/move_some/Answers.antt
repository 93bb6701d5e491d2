use Rattle.std.proofs.Common.{◌≡◌, Some, refl, rules}
use Rattle.index.specs.declared.sets.Sets.{Sets}
use Rattle.index.specs.declared.sets.Waiting.TheVariants.{One}
use Rattle.index.proofs.PieceLemmas.{AreSetsOf-moved}
use Rattle.index.proofs.sets.Sets.move_some.Goals as goal

pub returns : goal.returns
returns c = λ ds kept news_are.
    let number = c.args.number in
    let from = c.in-Some-One.from in
    let old = c.in-Some-One.old in
    let waits : c.args.self.now.waiting ≡ Some (One number from old) = search rules in
    let new : Sets = record { live = c.args.self.now.live; postings = c.move_some.new.self; waiting = c.reach.new.waiting } in
    AreSetsOf-moved ds number from old c.trigrams_of_old-old.result.now c.args.trigrams.now c.args.self.now new kept waits c.trigrams_of_old-old.ensures
    news_are refl c.in_ok-next.ensures.moved c.in_ok-next.next c.in_ok-next.ensures.ok (c.reach.ensures number from old waits)
