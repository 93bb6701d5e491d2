use Rattle.std.proofs.lemmas.Result.{on_ok_weaker}
use Rattle.posting.specs.Postings.{is_listed}
use Rattle.posting.specs.Private.Parts.{Fills, is_left}
use Rattle.posting.proofs.Moving.{fills_all}
use Rattle.posting.proofs.filling.fill_in_turn.Goals as goal

pub returns-clause-ok : goal.returns-clause-ok
returns-clause-ok c =
    on_ok_weaker c.fill_rest.result
    (λ (filled : Fills c.args.first c.fill_rest.new.parts (is_left c.loop-range.lefts.items)).
    fills_all c.args.first c.args.parts.now c.loop-range.parts c.fill_rest.new.parts (is_listed c.args.entries.now) (is_left c.loop-range.lefts.items)
    c.loop-range.invariant c.fill_rest.ensures.grown filled) c.fill_rest.ensures.ok
