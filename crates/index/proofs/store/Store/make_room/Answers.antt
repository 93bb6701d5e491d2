use Rattle.std.proofs.Common.{refl}
use Rattle.index.specs.Private.Store.{stored}
use Rattle.index.proofs.StoredLemmas.{IsStore-room, AreSetsOf-same}
use Rattle.index.proofs.store.Store.make_room.Goals as goal

pub returns-in_err-reserve-clause-store : goal.returns-in_err-reserve-clause-store
returns-in_err-reserve-clause-store c = λ last start.
    let kept = c.finish.ensures.store last start in
    IsStore-room last c.finish.new.self _ kept c.reserve.ensures.items kept.sets refl refl

pub returns-clause-store : goal.returns-clause-store
returns-clause-store c = λ last start.
    let old = c.finish.new.self in
    let kept = c.finish.ensures.store last start in
    IsStore-room last old _ kept c.reserve.ensures.items
    (AreSetsOf-same (stored old) old.sets c.make_room.new.self kept.sets c.make_room.ensures.live c.make_room.ensures.postings c.make_room.ensures.waiting)
    refl refl
