use Rattle.posting.proofs.Widening.{holds-none}
use Rattle.posting.proofs.part.Part.is_bare.Goals as goal

pub returns : goal.returns
returns c = λ is. rw (← c.self.view_is) (holds-none c.self.inside.pages c.self.inside.lists.items (c.is_bare.ensures is))
