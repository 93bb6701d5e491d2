use Rattle.std.proofs.Common.{◌+◌, ◌&&◌, drop, ap, sym, ◌∙◌, arith, length-drop}
use Rattle.std.specs.List.{list_all}
use Rattle.query.specs.Trigrams.{has_all_trigrams}
use Rattle.query.proofs.TextLemmas.{trigrams_step, short_text, all_pushed, all_in_turn}
use Rattle.query.proofs.texts.trigrams_in_turn.Goals as goal

pub loop-i-preserved : goal.loop-i-preserved
loop-i-preserved c =
    λ set.
    ap (λ ts. list_all set ts && has_all_trigrams (drop (c.loop-i.i + 1) c.args.text.now) set) c.in_ok-push.ensures.items
    ∙ all_pushed set c.loop-i.trigrams.items c.trigram_at.result (has_all_trigrams (drop (c.loop-i.i + 1) c.args.text.now) set)
    ∙ ap (λ b. list_all set c.loop-i.trigrams.items && b)
    (sym (rw c.trigram_at.ensures (trigrams_step c.args.text.now c.loop-i.i (omega arith) set)))
    ∙ c.loop-i.invariant set

pub returns : goal.returns
returns c =
    λ set.
    all_in_turn (list_all set c.loop-i.trigrams.items) (has_all_trigrams (drop c.loop-i.i c.args.text.now) set)
    (short_text (drop c.loop-i.i c.args.text.now) set (omega (arith, length-drop c.loop-i.i c.args.text.now)))
    ∙ c.loop-i.invariant set
