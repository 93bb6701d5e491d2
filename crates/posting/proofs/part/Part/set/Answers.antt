use Rattle.std.proofs.Common.{sym, ap}
use Rattle.posting.specs.declared.pages.Slot.TheVariants.{Free, One}
use Rattle.posting.proofs.Widening.{set_here, set_there}
use Rattle.posting.proofs.part.Part.set.Goals as goal

pub returns-in-Free : goal.returns-in-Free
returns-in-Free c =
    rw (← c.self.view_is)
    (sym (ap (λ s. s.members) (set_here c.self.inside.pages c.self.inside.lists.items c.args.trigram Free c.in-Free.ensures.value c.in-Free.ensures.bound)))

pub returns-in-One : goal.returns-in-One
returns-in-One c =
    rw (← c.self.view_is)
    (sym
    (ap (λ s. s.members)
    (set_here c.self.inside.pages c.self.inside.lists.items c.args.trigram (One c.in-One.number) c.in-One.ensures.value c.in-One.ensures.bound)))

pub returns-in-Listed : goal.returns-in-Listed
returns-in-Listed c =
    sym
    (ap (λ s. s.members)
    (set_there c.self.inside.pages c.self.inside.lists.items c.args.self.now c.args.trigram c.in-Listed.place c.index.result.now c.self.view_is
    c.self.invariant c.in-Listed.ensures.value c.in-Listed.ensures.bound c.index.ensures))
