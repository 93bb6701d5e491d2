use Rattle.std.proofs.Common.{subst, sym, ◌≡◌}
use Rattle.posting.specs.Postings.{WithdrawsNumber, GivesBack}
use Rattle.posting.proofs.Changes.{passed-more, passed-all, withdrawn_none, withdrawn_more, withdrawn_ends}
use Rattle.posting.proofs.postings.Postings.withdraw.Goals as goal

pub loop-trigram-init : goal.loop-trigram-init
loop-trigram-init c =
    let same : c.into_iter-trigram-iterator.result ≡ c.args.trigrams.now =
    cc (c.into_iter-trigram-iterator.ensures.into_iter_gives, c.iter-trigram-items.ensures) in
    record { passed = sym same; changed = withdrawn_none c.args.self.now c.args.number }

pub loop-trigram-preserved : goal.loop-trigram-preserved
loop-trigram-preserved c = record {
  passed =
      passed-more c.args.trigrams.now c.loop-trigram.yielded c.loop-trigram.trigram-iterator c.next.new.self c.in-Some.trigram
      c.loop-trigram.invariant.passed c.in-Some.ensures.steps;
  changed =
      withdrawn_more c.args.self.now c.loop-trigram.self c.remove.new.self c.loop-trigram.yielded c.in-Some.trigram c.args.number
      c.loop-trigram.invariant.changed c.remove.ensures.at c.remove.ensures.others c.remove.ensures.empty;
}

pub returns-clause-sets : goal.returns-clause-sets
returns-clause-sets c =
    let all = passed-all c.args.trigrams.now c.loop-trigram.yielded c.loop-trigram.trigram-iterator c.loop-trigram.invariant.passed c.in-None.ensures.steps.0 in
    let ends =
    withdrawn_ends c.args.self.now c.loop-trigram.self c.give_back.new.self c.loop-trigram.yielded c.args.number c.loop-trigram.invariant.changed
    c.give_back.ensures.members c.give_back.ensures.limits in
    subst (λ ts. WithdrawsNumber c.args.self.now c.give_back.new.self ts c.args.number) (sym all) ends.sets

pub returns-clause-empty : goal.returns-clause-empty
returns-clause-empty c =
    let all = passed-all c.args.trigrams.now c.loop-trigram.yielded c.loop-trigram.trigram-iterator c.loop-trigram.invariant.passed c.in-None.ensures.steps.0 in
    let ends =
    withdrawn_ends c.args.self.now c.loop-trigram.self c.give_back.new.self c.loop-trigram.yielded c.args.number c.loop-trigram.invariant.changed
    c.give_back.ensures.members c.give_back.ensures.limits in
    subst (GivesBack c.give_back.new.self) (sym all) ends.empty
