use Rattle.std.proofs.Common.{◌∙◌}
use Rattle.index.proofs.store.Store.fill_from.Goals as goal

pub fill_next-requires-clause-store : goal.fill_next-requires-clause-store
fill_next-requires-clause-store c = (c.requires.0, c.loop-left.invariant.store c.requires.0 c.requires.1)

pub returns-in_err-work-clause-store : goal.returns-in_err-work-clause-store
returns-in_err-work-clause-store c = λ last kept. c.fill_next.ensures.store last (c.loop-left.invariant.store last kept)

pub returns-in_default-clause-store : goal.returns-in_default-clause-store
returns-in_default-clause-store c = λ last kept. c.fill_next.ensures.store last (c.loop-left.invariant.store last kept)

pub loop-left-preserved : goal.loop-left-preserved
loop-left-preserved c = record {
  documents = c.fill_next.ensures.documents ∙ c.loop-left.invariant.documents;
  store = λ last kept. c.fill_next.ensures.store last (c.loop-left.invariant.store last kept);
}
