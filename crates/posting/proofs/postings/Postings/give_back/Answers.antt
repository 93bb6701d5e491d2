use Rattle.std.proofs.Common.{◌≡◌, ◌<◌, ◌≤◌, length, refl, ◌∙◌, rules}
use Rattle.std.proofs.lemmas.List.{length-set}
use Rattle.posting.specs.Postings.{slot_limit}
use Rattle.posting.specs.Private.Parts.{whole_of}
use Rattle.posting.proofs.PartLemmas.{all_relate}
use Rattle.posting.proofs.postings.Postings.give_back.Goals as goal

pub loop-number-preserved : goal.loop-number-preserved
loop-number-preserved c =
    let parts = c.loop-number.self-inside.parts in
    let inside : c.loop-number.number < length parts = search rules in
    record {
      count = length-set parts c.loop-number.number c.give_back.new.self ∙ c.loop-number.invariant.count;
      members =
          λ t.
          all_relate (λ a b. b.members ≡ a.members) parts (whole_of parts) c.loop-number.number c.index-self-number.result c.give_back.new.self refl
          inside c.index-self-number.is (λ s. refl) c.give_back.ensures.members t
          ∙ c.loop-number.invariant.members t;
      limits =
          λ t low.
          all_relate (λ a b. a.limit ≤ slot_limit → b.limit ≤ slot_limit) parts (whole_of parts) c.loop-number.number c.index-self-number.result
          c.give_back.new.self refl inside c.index-self-number.is (λ s le. le) c.give_back.ensures.limits t (c.loop-number.invariant.limits t low);
    }
