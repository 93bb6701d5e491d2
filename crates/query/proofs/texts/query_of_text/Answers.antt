use Rattle.std.proofs.Common.{◌+◌, drop, arith, length-drop}
use Rattle.query.proofs.Forms.{formula_of-Any, formula_of-Has}
use Rattle.query.specs.Trigrams.{has_all_trigrams}
use Rattle.query.specs.Query.{formula_of, has}
use Rattle.query.proofs.TextLemmas.{IsQuerySoFar-always, IsQuerySoFar-more, IsPlainFor-all, IsPlainFor-has, trigrams_step, short_text}
use Rattle.query.proofs.texts.query_of_text.Goals as goal

pub loop-i-init : goal.loop-i-init
loop-i-init c = rw formula_of-Any (IsQuerySoFar-always (has_all_trigrams c.args.text.now))

pub join-requires-clause-right : goal.join-requires-clause-right
join-requires-clause-right c = rw (formula_of-Has c.trigram_at.result) tt

pub loop-i-preserved : goal.loop-i-preserved
loop-i-preserved c =
    IsQuerySoFar-more (has_all_trigrams (drop c.loop-i.i c.args.text.now)) (λ set. set c.trigram_at.result)
    (has_all_trigrams (drop (c.loop-i.i + 1) c.args.text.now)) (has_all_trigrams c.args.text.now) (formula_of c.loop-i.query)
    (has c.trigram_at.result) (formula_of c.in_ok-query.query) c.loop-i.invariant
    (λ set. rw c.trigram_at.ensures (trigrams_step c.args.text.now c.loop-i.i (omega arith) set)) (IsPlainFor-has c.trigram_at.result)
    (rw (formula_of-Has c.trigram_at.result) at c.in_ok-query.ensures)

pub returns : goal.returns
returns c =
    IsPlainFor-all (has_all_trigrams (drop c.loop-i.i c.args.text.now)) (has_all_trigrams c.args.text.now) (formula_of c.loop-i.query)
    c.loop-i.invariant (λ set. short_text (drop c.loop-i.i c.args.text.now) set (omega (arith, length-drop c.loop-i.i c.args.text.now)))
