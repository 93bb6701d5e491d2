use Rattle.std.proofs.Common.{◌≡◌, ◌<◌, ◌≤◌, length, refl, arith, rules}
use Rattle.posting.proofs.PartLemmas.{set_is, all_relate}
use Rattle.posting.proofs.postings.Postings.make_room.Goals as goal

pub returns-clause-members : goal.returns-clause-members
returns-clause-members c =
    let inside : c.part_of.result < length c.self.inside.parts = search rules in
    all_relate (λ a b. b.members ≡ a.members) c.self.inside.parts c.args.self.now c.part_of.result c.index-self-part_of.result
    c.make_room.new.self c.self.view_is inside c.index-self-part_of.is (λ s. refl) c.make_room.ensures.members

pub returns-clause-room : goal.returns-clause-room
returns-clause-room c =
    let inside : c.part_of.result < length c.self.inside.parts = search rules in
    all_relate (λ a b. a.limit ≤ b.limit) c.self.inside.parts c.args.self.now c.part_of.result c.index-self-part_of.result
    c.make_room.new.self c.self.view_is inside c.index-self-part_of.is (λ s. omega arith) c.make_room.ensures.room

pub returns-clause-ok : goal.returns-clause-ok
returns-clause-ok c =
    let inside : c.part_of.result < length c.self.inside.parts = search rules in
    let now =
    set_is c.self.inside.parts c.args.trigram c.part_of.result c.place_in_part.result c.make_room.new.self inside c.part_of.ensures.part
    c.place_in_part.ensures c.part_of.ensures.is_trigram in
    rw now c.make_room.ensures.ok
