use Rattle.std.proofs.Common.{◌≡◌, ◌∙◌, subst, arith}
use Rattle.matcher.proofs.Shifting.{IsShifted, shifted_first, shifted_more, shifted_end, shifted_end_bounded, shifted_on, shifted_on_bounded, none_carried}
use Rattle.matcher.proofs.words.shift.Goals as goal

pub loop-i-init : goal.loop-i-init
loop-i-init g c = shifted_first c.args.members.now c.args.line.now c.args.words.now c.args.first c.args.end c.requires.bounds

pub loop-i-preserved : goal.loop-i-preserved
loop-i-preserved g c =
    shifted_more c.args.members.now c.args.line.now c.args.words.now c.loop-i.words c.args.first c.loop-i.i c.loop-i.carried
    c.followed-passing.result c.moved_up.result c.highest-carried.result c.loop-i.invariant (omega arith)
    (omega (arith, c.requires.bounds.inside)) c.followed-passing.ensures c.moved_up.ensures.lowest c.moved_up.ensures.others
    c.highest-carried.ensures.is_bit c.highest-carried.ensures.same

pub returns-then-end-clause-moved : goal.returns-then-end-clause-moved
returns-then-end-clause-moved g c =
    let at : c.loop-i.i ≡ c.args.end = omega (arith, c.requires.bounds.ordered) in
    shifted_on c.args.members.now c.args.line.now c.args.words.now c.loop-i.words c.args.first c.args.end c.loop-i.carried
    (subst (λ n. IsShifted g.row.N c.args.members.now c.args.line.now c.args.words.now c.loop-i.words c.args.first n c.loop-i.carried)
    at c.loop-i.invariant) c.requires.bounds c.if-end.true

pub returns-then-end-clause-bounded : goal.returns-then-end-clause-bounded
returns-then-end-clause-bounded g c =
    let at : c.loop-i.i ≡ c.args.end = omega (arith, c.requires.bounds.ordered) in
    shifted_on_bounded c.args.members.now c.args.line.now c.args.words.now c.loop-i.words c.args.first c.args.end c.loop-i.carried
    (subst (λ n. IsShifted g.row.N c.args.members.now c.args.line.now c.args.words.now c.loop-i.words c.args.first n c.loop-i.carried)
    at c.loop-i.invariant) c.requires.bounds c.if-end.true

pub returns-clause-moved : goal.returns-clause-moved
returns-clause-moved g c =
    let at : c.loop-i.i ≡ c.args.end = omega (arith, c.requires.bounds.ordered) in
    let done =
    subst (λ n. IsShifted g.row.N c.args.members.now c.args.line.now c.args.words.now c.loop-i.words c.args.first n c.loop-i.carried)
    at c.loop-i.invariant in
    shifted_end c.args.members.now c.args.line.now c.args.words.now c.loop-i.words c.args.first c.args.end c.loop-i.carried done
    c.requires.bounds
    (done.carry ∙ none_carried c.args.members.now c.args.line.now c.args.words.now c.args.end (omega (arith, c.requires.line)))

pub returns-clause-bounded : goal.returns-clause-bounded
returns-clause-bounded g c =
    let at : c.loop-i.i ≡ c.args.end = omega (arith, c.requires.bounds.ordered) in
    shifted_end_bounded c.args.members.now c.args.line.now c.args.words.now c.loop-i.words c.args.first c.args.end c.loop-i.carried
    (subst (λ n. IsShifted g.row.N c.args.members.now c.args.line.now c.args.words.now c.loop-i.words c.args.first n c.loop-i.carried)
    at c.loop-i.invariant) c.requires.bounds
