use Rattle.std.proofs.Common.{◌/◌, ◌<◌, ℕ, ◌↔◌, IsTrue, arith, subst}
use Rattle.ere.specs.Bits.{has_bit}
use Rattle.simulation.specs.Private.Words.{AnyPart}
use Rattle.simulation.proofs.Folding as folding
use Rattle.simulation.proofs.turns.folded.Goals as goal

pub loop-width-init : goal.loop-width-init
loop-width-init c = (omega arith, folding.halved_first c.args.stride c.requires, λ k low. folding.parts_first c.args.word k low)

pub loop-width-preserved : goal.loop-width-preserved
loop-width-preserved c =
    let within = c.loop-width.invariant.0 in
    let halved = folding.halved_more c.args.stride c.loop-width.width c.loop-width.invariant.1 c.loop-width-test.true in (
      omega arith,
      halved.1,
      λ k low.
          folding.parts_more c.args.word c.loop-width.found c.either-found.result c.moved_down.result c.loop-width.width (c.loop-width.width / 2) k halved.0
          c.loop-width.invariant.2 (c.either-found.ensures k) (c.moved_down.ensures k) low,
    )

pub returns : goal.returns
returns c =
    let same = folding.halved_last c.args.stride c.loop-width.width c.loop-width.invariant.1 (omega (arith, c.loop-width-test.false)) in
    subst (λ n. (k : ℕ) → k < n → IsTrue (has_bit c.loop-width.found k) ↔ AnyPart c.args.word n k) same c.loop-width.invariant.2
