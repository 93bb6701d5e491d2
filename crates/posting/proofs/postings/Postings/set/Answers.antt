use Rattle.std.proofs.Common.{◌<◌, length, rules}
use Rattle.posting.proofs.PartLemmas.{set_was}
use Rattle.posting.proofs.postings.Postings.set.Goals as goal

pub returns : goal.returns
returns c =
    let inside : c.part_of.result < length c.self.inside.parts = search rules in
    let was =
    set_was c.self.inside.parts c.args.self.now c.args.trigram c.part_of.result c.place_in_part.result c.index-self-part_of.result c.self.view_is
    inside c.part_of.ensures.part c.place_in_part.ensures c.index-self-part_of.is c.part_of.ensures.is_trigram in
    rw was c.set.ensures
