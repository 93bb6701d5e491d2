use Rattle.index.proofs.store.Store.fill_some.Goals as goal

pub fill_from-requires : goal.fill_from-requires
fill_from-requires c = (c.requires.0, c.fill_one.ensures.store c.requires.0 c.requires.1)

pub returns-clause-store : goal.returns-clause-store
returns-clause-store c = λ last kept. c.fill_from.ensures.store last (c.fill_one.ensures.store last kept)
