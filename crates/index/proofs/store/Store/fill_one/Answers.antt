use Rattle.index.proofs.store.Store.fill_one.Goals as goal

pub returns-then-self-clause-store : goal.returns-then-self-clause-store
returns-then-self-clause-store c = λ last old.
    let kept = c.move_waiting.ensures.store last old in
    record { slots = kept.slots; few = kept.few; sets = kept.sets; counted = kept.counted; bytes = kept.bytes }
