use Rattle.std.proofs.Common.{◌≡◌, Some, None, refl, rules}
use Rattle.posting.specs.ListValue.{without}
use Rattle.index.specs.declared.sets.Sets.{Sets}
use Rattle.index.specs.declared.sets.Waiting.TheVariants.{One}
use Rattle.index.proofs.StoredLemmas.{AreSetsOf-take}
use Rattle.index.proofs.PieceLemmas.{AreSetsOf-take_later}
use Rattle.index.proofs.sets.Sets.take_out.Goals as goal

pub returns-then-is_none-clause-sets : goal.returns-then-is_none-clause-sets
returns-then-is_none-clause-sets c = λ ds name kept at.
    let idle : c.args.self.now.waiting ≡ None = search rules in
    let live : c.give_back.new.self.members ≡ without c.args.number c.args.self.now.live.members = search rules in
    let new : Sets =
    record { live = c.give_back.new.self; postings = c.args.self.now.postings; waiting = Some (One c.args.number 0 (Some c.args.held)) } in
    AreSetsOf-take_later ds c.args.number name c.args.held c.args.self.now new kept idle at live refl refl

pub returns-else-later-clause-sets : goal.returns-else-later-clause-sets
returns-else-later-clause-sets c = λ ds name kept at.
    let live : c.give_back.new.self.members ≡ without c.args.number c.args.self.now.live.members = search rules in
    let new : Sets = record { live = c.give_back.new.self; postings = c.leave.new.postings; waiting = c.args.self.now.waiting } in
    AreSetsOf-take ds c.args.number name c.args.held c.trigrams-trigrams.result.now c.args.self.now new kept at c.trigrams-trigrams.ensures.trigrams live
    refl c.leave.ensures
