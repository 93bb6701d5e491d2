use Rattle.std.proofs.Common.{◌≡◌, ◌∙◌, ap, subst, arith}
use Rattle.ere.specs.Bits.{has_bit}
use Rattle.matcher.specs.Private.Bounds.{IsBounded}
use Rattle.ere.proofs.Bits.{has_zero}
use Rattle.matcher.proofs.Shifting.{swept_first, swept_more, swept_all, swept_bounded, none_swept_on}
use Rattle.matcher.proofs.words.sweep.Goals as goal

pub loop-i-init : goal.loop-i-init
loop-i-init g c = swept_first c.args.members.now c.args.line.now c.args.words.now c.args.first c.args.end c.requires.bounds

pub loop-i-preserved : goal.loop-i-preserved
loop-i-preserved g c =
    swept_more c.args.members.now c.args.line.now c.args.words.now c.loop-i.words c.args.first c.loop-i.i c.loop-i.carried c.either.result
    c.reached-word.result c.bit_if-carried.result c.loop-i.invariant (omega arith) (omega arith) c.either.ensures c.reached-word.ensures
    c.bit_if-carried.ensures.is_bit (c.bit_if-carried.ensures.same ∙ c.leads_on-comes.ensures)

pub returns-then-carried-eq0-clause-moved : goal.returns-then-carried-eq0-clause-moved
returns-then-carried-eq0-clause-moved g c =
    swept_all c.args.members.now c.args.line.now c.args.words.now c.loop-i.words c.args.first c.loop-i.i c.loop-i.carried c.args.end
    c.loop-i.invariant c.requires.bounds (omega arith) (ap (λ n. has_bit n 0) c.if-carried-eq0.true ∙ has_zero 0)

pub returns-then-carried-eq0-clause-bounded : goal.returns-then-carried-eq0-clause-bounded
returns-then-carried-eq0-clause-bounded g c =
    swept_bounded c.args.members.now c.args.line.now c.args.words.now c.loop-i.words c.args.first c.loop-i.i c.loop-i.carried c.args.end
    c.loop-i.invariant c.requires.bounds (omega arith) (omega arith)

pub returns-clause-moved : goal.returns-clause-moved
returns-clause-moved g c =
    swept_all c.args.members.now c.args.line.now c.args.words.now c.loop-i.words c.args.first c.loop-i.i c.loop-i.carried c.args.end
    c.loop-i.invariant c.requires.bounds (omega (arith, c.requires.bounds.inside))
    (c.loop-i.invariant.carry
    ∙ none_swept_on c.args.members.now c.args.line.now c.args.words.now c.loop-i.i (omega (arith, c.requires.line)))

pub returns-clause-bounded : goal.returns-clause-bounded
returns-clause-bounded g c =
    let at : c.loop-i.i ≡ g.row.N = omega (arith, c.requires.bounds.ordered, c.requires.bounds.inside) in
    subst (λ n. IsBounded g.row.N c.loop-i.words c.args.first n)
    at (swept_bounded c.args.members.now c.args.line.now c.args.words.now c.loop-i.words c.args.first c.loop-i.i c.loop-i.carried
    c.args.end c.loop-i.invariant c.requires.bounds (omega (arith, c.requires.bounds.inside)) (omega arith))
