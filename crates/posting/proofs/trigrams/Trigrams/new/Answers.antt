use Rattle.std.proofs.Common.{◌<◌, ◌++◌, ◌∷◌, [], take, sym, ap, ◌∙◌, arith}
use Rattle.std.proofs.lemmas.List.{get_or_read, take_more}
use Rattle.std.proofs.lemmas.List.Elements.{All-nil, All-push}
use Rattle.posting.proofs.Rising.{rising_below}
use Rattle.posting.proofs.trigrams.Trigrams.new.Goals as goal

pub loop-trigram-init : goal.loop-trigram-init
loop-trigram-init c =
    let none = c.in_ok-room_for_all.ensures.members ∙ c.new-numbers.ensures in
    record { members = none; bound = rw none (All-nil (λ n. n < 16777216)); room = omega (arith, c.in_ok-room_for_all.ensures.ok) }

pub append-requires-clause-above : goal.append-requires-clause-above
append-requires-clause-above c =
    let item = get_or_read c.args.rising.now c.loop-trigram.trigram-index c.trigram-item.result c.loop-trigram-test.true c.trigram-item.is 0 in
    rw (c.loop-trigram.invariant.members, c.number.ensures.value, item)
    (rising_below c.args.rising.now c.loop-trigram.trigram-index c.requires c.loop-trigram-test.true)

pub loop-trigram-preserved : goal.loop-trigram-preserved
loop-trigram-preserved c =
    let item = get_or_read c.args.rising.now c.loop-trigram.trigram-index c.trigram-item.result c.loop-trigram-test.true c.trigram-item.is 0 in
    record {
      members =
          c.append.ensures.members ∙ ap (λ ns. ns ++ c.number.result ∷ []) c.loop-trigram.invariant.members
          ∙ ap (λ n. take c.loop-trigram.trigram-index c.args.rising.now ++ n ∷ []) (c.number.ensures.value ∙ item)
          ∙ sym (take_more c.args.rising.now c.loop-trigram.trigram-index 0 c.loop-trigram-test.true);
      bound =
          rw c.append.ensures.members
          (All-push (λ n. n < 16777216) c.loop-trigram.numbers.members c.number.result c.loop-trigram.invariant.bound c.number.ensures.bound);
      room = omega (arith, c.append.ensures.room, c.loop-trigram.invariant.room);
    }
