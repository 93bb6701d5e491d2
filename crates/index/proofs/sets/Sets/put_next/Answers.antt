use Rattle.std.proofs.Common.{◌≡◌, ℕ, ◌≤◌, [], Some, true, refl, subst, ap}
use Rattle.posting.specs.ListValue.{has}
use Rattle.posting.specs.Postings.{holds, is_before, MovesNumber}
use Rattle.index.specs.declared.sets.Sets.{Sets}
use Rattle.index.proofs.PieceLemmas.{AreSetsOf-next}
use Rattle.index.proofs.sets.Sets.put_next.Goals as goal

pub returns-clause-step : goal.returns-clause-step
returns-clause-step c = λ ds first from kept waits none news_are.
    let number = c.args.number in
    let news = c.args.trigrams.now in
    let next = c.in_ok-next.next in
    let new : Sets = record { live = c.args.self.now.live; postings = c.move_some.new.self; waiting = Some c.in_ok-waiting.waiting } in
    let moved : MovesNumber c.args.self.now.postings c.move_some.new.self number [] news =
    subst (λ olds. MovesNumber c.args.self.now.postings c.move_some.new.self number olds news) c.requires c.in_ok-next.ensures.moved in
    let put : (t : ℕ) → c.reached-from.result ≤ t → is_before next t ≡ true → has news t ≡ true → holds c.move_some.new.self t number ≡ true =
    λ t high low there. c.in_ok-next.ensures.ok.put t high low there (ap (λ olds. has olds t) c.requires) in
    AreSetsOf-next ds number first from news c.args.self.now new kept waits news_are refl moved c.reached-from.result next c.reached-from.ensures put none
    (ap Some c.in_ok-waiting.ensures)
