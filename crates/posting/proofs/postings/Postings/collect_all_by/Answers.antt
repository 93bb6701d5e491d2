use Rattle.posting.specs.Postings.{trigrams_with}
use Rattle.posting.proofs.Selection.{narrowed_more, narrowed_passed, narrowed_ends, narrowed_to_none}
use Rattle.posting.proofs.postings.Postings.collect_all_by.Goals as goal
use Rattle.posting.proofs.postings.Postings.collect_all_by.Goals.{then-i-first+in_ok-found, else-i-first}

pub returns-then-is_empty-clause-found : goal.returns-then-is_empty-clause-found
returns-then-is_empty-clause-found g c =
    narrowed_to_none (λ n. trigrams_with c.args.self.now n) c.args.trigrams.now c.rarest-first.result.0 c.loop-i.i
    c.args.within.now.members c.loop-i.found.members (c.is_empty.ensures.empty.0 c.if-is_empty.true) c.loop-i.invariant

pub loop-i-preserved : goal.loop-i-preserved
loop-i-preserved g c =
    elim c.if-i-first.branch [
      | then-i-first+in_ok-found w ↦
          rw w.found-is
          (narrowed_more (λ n. trigrams_with c.args.self.now n) c.args.trigrams.now c.rarest-first.result.0 c.loop-i.i c.index-trigrams-i.result
          c.args.within.now.members c.loop-i.found.members w.in_ok-found.found.members c.loop-i-test.true c.index-trigrams-i.is
          c.loop-i.invariant w.in_ok-found.ensures.chosen)
      | else-i-first w ↦
          rw w.found-is
          (narrowed_passed (λ n. trigrams_with c.args.self.now n) c.args.trigrams.now c.rarest-first.result.0 c.loop-i.i c.index-trigrams-i.result
          c.args.within.now.members c.loop-i.found.members w.if-i-first.false c.loop-i-test.true c.loop-i.invariant)
    ]

pub returns-clause-found : goal.returns-clause-found
returns-clause-found g c =
    narrowed_ends (λ n. trigrams_with c.args.self.now n) c.args.trigrams.now c.rarest-first.result.0 c.loop-i.i
    c.args.within.now.members c.loop-i.found.members c.loop-i-test.false c.loop-i.invariant
