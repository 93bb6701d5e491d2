use Rattle.std.proofs.Common.{sym, arith, length}
use Rattle.std.proofs.lemmas.List.Sums.{position_or_len_is}
use Rattle.std.proofs.lemmas.Bool.Decides.{nat_tests}
use Rattle.request.specs.Words.{is_space}
use Rattle.request.proofs.words.space_at.Goals as goal

pub returns-then-text-at-eq32-clause-place : goal.returns-then-text-at-eq32-clause-place
returns-then-text-at-eq32-clause-place c =
    sym (position_or_len_is is_space c.args.text.now c.loop-at.at 0 (omega arith) c.loop-at.invariant (λ _. grind (arith, nat_tests, c.if-text-at-eq32.true)))

pub returns-clause-place : goal.returns-clause-place
returns-clause-place c =
    let text = c.args.text.now in
    sym (position_or_len_is is_space text (length text) 0 (omega arith) (λ k below. c.loop-at.invariant k (omega arith)) (λ never. absurd (omega arith)))
