use Rattle.index.proofs.store.Store.take_out.Goals as goal

pub take_out_now-requires : goal.take_out_now-requires
take_out_now-requires c = (c.requires.0, c.count_taken.ensures.store c.requires.0 c.requires.1)

pub returns-clause-store : goal.returns-clause-store
returns-clause-store c = λ last kept. c.take_out_now.ensures.store last (c.count_taken.ensures.store last kept)
