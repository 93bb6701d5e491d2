use Rattle.index.proofs.store.Store.count_taken.Goals as goal

pub returns-clause-store : goal.returns-clause-store
returns-clause-store c = λ last kept.
    c.start_over_if_too_much.ensures.store last
    (record { slots = kept.slots; few = kept.few; sets = kept.sets; counted = kept.counted; bytes = kept.bytes })
