use Rattle.std.proofs.Common.{◌∙◌}
use Rattle.std.proofs.lemmas.List.{get_or_read, take_all}
use Rattle.segments.proofs.KnownLemmas.{known_none, known_more}
use Rattle.segments.proofs.keys.push_keys.Goals as goal

pub loop-trigram-init : goal.loop-trigram-init
loop-trigram-init c = known_none c.args.trigrams.now c.args.place c.args.keys.now.items

pub loop-trigram-preserved : goal.loop-trigram-preserved
loop-trigram-preserved c =
    let l = c.loop-trigram in
    let item = get_or_read c.args.trigrams.now l.trigram-index c.trigram-item.result c.loop-trigram-test.true c.trigram-item.is 0 in
    rw (c.in_ok-push.ensures.items, c.key_of.ensures)
    (known_more c.args.trigrams.now c.args.place l.trigram-index c.number.result c.args.keys.now.items l.keys.items c.loop-trigram-test.true
    (c.number.ensures.value ∙ item) c.number.ensures.bound l.invariant)

pub returns : goal.returns
returns c =
    let l = c.loop-trigram in
    rw (take_all l.trigram-index c.args.trigrams.now c.loop-trigram-test.false) at l.invariant
