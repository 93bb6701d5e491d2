use Rattle.std.proofs.Common.{sym, ◌≡◌}
use Rattle.posting.proofs.Changes.{passed-more, prepared_none, prepared_more}
use Rattle.posting.proofs.postings.Postings.prepare.Goals as goal

pub loop-trigram-init : goal.loop-trigram-init
loop-trigram-init c =
    let same : c.into_iter-trigram-iterator.result ≡ c.args.trigrams.now =
    cc (c.into_iter-trigram-iterator.ensures.into_iter_gives, c.iter-trigram-items.ensures) in
    record { passed = sym same; changed = prepared_none c.args.self.now c.args.number }

pub loop-trigram-preserved : goal.loop-trigram-preserved
loop-trigram-preserved c = record {
  passed =
      passed-more c.args.trigrams.now c.loop-trigram.yielded c.loop-trigram.trigram-iterator c.next.new.self c.in-Some.trigram
      c.loop-trigram.invariant.passed c.in-Some.ensures.steps;
  changed =
      prepared_more c.args.self.now c.loop-trigram.self c.make_room.new.self c.args.number c.loop-trigram.yielded c.in-Some.trigram
      c.loop-trigram.invariant.changed c.make_room.ensures.members c.make_room.ensures.room c.in_ok-make_room.ensures.ok;
}
