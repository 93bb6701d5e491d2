use Rattle.std.proofs.Common.{subst, sym, ◌≡◌}
use Rattle.posting.specs.Postings.{IsPrepared, IsAbsent, AllDiffer, AddsNumber}
use Rattle.posting.proofs.Changes.{passed-next, passed-more, passed-all, added_none, added_more, next_is_new, next_has_room, next_lacks, holds-added}
use Rattle.posting.proofs.postings.Postings.add.Goals as goal

pub loop-trigram-init : goal.loop-trigram-init
loop-trigram-init c =
    let same : c.into_iter-trigram-iterator.result ≡ c.args.trigrams.now =
    cc (c.into_iter-trigram-iterator.ensures.into_iter_gives, c.iter-trigram-items.ensures) in
    record { passed = sym same; changed = added_none c.args.self.now c.args.number }

pub insert-requires-clause-room : goal.insert-requires-clause-room
insert-requires-clause-room c =
    let next =
    passed-next c.args.trigrams.now c.loop-trigram.yielded c.loop-trigram.trigram-iterator c.next.new.self c.in-Some.trigram
    c.loop-trigram.invariant.passed c.in-Some.ensures.steps in
    next_has_room c.args.self.now c.loop-trigram.self c.loop-trigram.yielded c.in-Some.trigram c.next.new.self c.args.number
    c.loop-trigram.invariant.changed (subst AllDiffer next c.requires.once)
    (subst (IsPrepared c.args.self.now c.args.number) next c.requires.prepared)

pub insert-requires-clause-absent : goal.insert-requires-clause-absent
insert-requires-clause-absent c =
    let next =
    passed-next c.args.trigrams.now c.loop-trigram.yielded c.loop-trigram.trigram-iterator c.next.new.self c.in-Some.trigram
    c.loop-trigram.invariant.passed c.in-Some.ensures.steps in
    next_lacks c.args.self.now c.loop-trigram.self c.loop-trigram.yielded c.in-Some.trigram c.next.new.self c.args.number
    c.loop-trigram.invariant.changed (subst AllDiffer next c.requires.once)
    (subst (λ ts. IsAbsent c.args.self.now ts c.args.number) next c.requires.absent)

pub loop-trigram-preserved : goal.loop-trigram-preserved
loop-trigram-preserved c =
    let next =
    passed-next c.args.trigrams.now c.loop-trigram.yielded c.loop-trigram.trigram-iterator c.next.new.self c.in-Some.trigram
    c.loop-trigram.invariant.passed c.in-Some.ensures.steps in
    record {
      passed =
          passed-more c.args.trigrams.now c.loop-trigram.yielded c.loop-trigram.trigram-iterator c.next.new.self c.in-Some.trigram
          c.loop-trigram.invariant.passed c.in-Some.ensures.steps;
      changed =
          added_more c.args.self.now c.loop-trigram.self c.insert.new.self c.loop-trigram.yielded c.in-Some.trigram c.args.number
          c.loop-trigram.invariant.changed
          (next_is_new c.loop-trigram.yielded c.in-Some.trigram c.next.new.self (subst AllDiffer next c.requires.once))
          c.insert.ensures.at c.insert.ensures.others;
    }

pub returns : goal.returns
returns c =
    let all = passed-all c.args.trigrams.now c.loop-trigram.yielded c.loop-trigram.trigram-iterator c.loop-trigram.invariant.passed c.in-None.ensures.steps.0 in
    subst (λ ts. AddsNumber c.args.self.now c.loop-trigram.self ts c.args.number) (sym all)
    (holds-added c.args.self.now c.loop-trigram.self c.loop-trigram.yielded c.args.number c.loop-trigram.invariant.changed)
