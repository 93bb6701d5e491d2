use Rattle.std.proofs.Common.{arith}
use Rattle.index.specs.Private.Store.{stored}
use Rattle.index.proofs.StoredLemmas.{AreSetsOf-over}
use Rattle.index.proofs.store.Store.start_over.Goals as goal

pub returns-clause-store : goal.returns-clause-store
returns-clause-store c = λ last kept.
    record {
      slots = kept.slots;
      few = kept.few;
      sets =
          AreSetsOf-over (stored c.args.self.now) c.args.self.now.sets c.start_over.new.self kept.sets c.start_over.ensures.live
          c.start_over.ensures.postings c.start_over.ensures.waiting;
      counted = kept.counted;
      bytes = kept.bytes;
    }

pub returns-clause-waits : goal.returns-clause-waits
returns-clause-waits c = λ number. record { first = 0; from = 0; is = c.start_over.ensures.waiting; among = omega arith }
