use Rattle.std.proofs.Common.{◌<◌, length, rules}
use Rattle.posting.proofs.PartLemmas.{set_was, set_is, others_are}
use Rattle.posting.proofs.postings.Postings.insert.Goals as goal

pub insert-requires-clause-room : goal.insert-requires-clause-room
insert-requires-clause-room c =
    let inside : c.part_of.result < length c.self.inside.parts = search rules in
    let was =
    set_was c.self.inside.parts c.args.self.now c.args.trigram c.part_of.result c.place_in_part.result c.index-self-part_of.result c.self.view_is
    inside c.part_of.ensures.part c.place_in_part.ensures c.index-self-part_of.is c.part_of.ensures.is_trigram in
    rw was at c.requires.room

pub insert-requires-clause-absent : goal.insert-requires-clause-absent
insert-requires-clause-absent c =
    let inside : c.part_of.result < length c.self.inside.parts = search rules in
    let was =
    set_was c.self.inside.parts c.args.self.now c.args.trigram c.part_of.result c.place_in_part.result c.index-self-part_of.result c.self.view_is
    inside c.part_of.ensures.part c.place_in_part.ensures c.index-self-part_of.is c.part_of.ensures.is_trigram in
    rw was at c.requires.absent

pub returns-clause-at : goal.returns-clause-at
returns-clause-at c = λ n.
    let inside : c.part_of.result < length c.self.inside.parts = search rules in
    let now =
    set_is c.self.inside.parts c.args.trigram c.part_of.result c.place_in_part.result c.insert.new.self inside c.part_of.ensures.part
    c.place_in_part.ensures c.part_of.ensures.is_trigram in
    let was =
    set_was c.self.inside.parts c.args.self.now c.args.trigram c.part_of.result c.place_in_part.result c.index-self-part_of.result c.self.view_is
    inside c.part_of.ensures.part c.place_in_part.ensures c.index-self-part_of.is c.part_of.ensures.is_trigram in
    rw (now, was) (c.insert.ensures.at n)

pub returns-clause-others : goal.returns-clause-others
returns-clause-others c =
    let inside : c.part_of.result < length c.self.inside.parts = search rules in
    others_are c.self.inside.parts c.args.self.now c.args.trigram c.part_of.result c.place_in_part.result c.index-self-part_of.result
    c.insert.new.self c.self.view_is inside c.part_of.ensures.part c.place_in_part.ensures c.index-self-part_of.is c.insert.ensures.others
