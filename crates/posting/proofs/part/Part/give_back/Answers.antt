use Rattle.posting.proofs.Widening.{members-given_back, limits-given_back}
use Rattle.posting.proofs.part.Part.give_back.Goals as goal

pub returns-clause-members : goal.returns-clause-members
returns-clause-members c =
    rw (← c.self.view_is, c.give_back.ensures.lists)
    (members-given_back c.self.inside.pages c.give_back-2.new.self c.self.inside.lists.items c.give_back-2.ensures)

pub returns-clause-limits : goal.returns-clause-limits
returns-clause-limits c =
    rw (← c.self.view_is, c.give_back.ensures.lists)
    (limits-given_back c.self.inside.pages c.give_back-2.new.self c.self.inside.lists.items c.give_back-2.ensures)
