use Rattle.posting.proofs.PartLemmas.{bare_all, bare_whole}
use Rattle.posting.proofs.postings.Postings.is_bare.Goals as goal

pub returns : goal.returns
returns c = λ is. rw (← c.self.view_is) (bare_whole c.self.inside.parts (bare_all c.self.inside.parts (c.are_bare.ensures is)))
