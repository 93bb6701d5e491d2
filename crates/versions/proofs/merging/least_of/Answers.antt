use Rattle.std.proofs.Common.{get_or, arith}
use Rattle.std.proofs.lemmas.List.{get_or_default}
use Rattle.versions.proofs.MergeLemmas.{least_next, least_all}
use Rattle.versions.proofs.merging.least_of.Goals as goal
use Rattle.versions.proofs.merging.least_of.Goals.{then-number-least, else-number-least}

pub loop-at-preserved : goal.loop-at-preserved
loop-at-preserved c =
    let ns = c.numbers-numbers.result.now in
    let l = c.loop-at in
    let n = get_or ns l.at 0 in
    let same = get_or_default ns l.at 0 n c.loop-at-test.true in
    let was = l.invariant.1 in
    elim c.if-number-least.branch [
      | then-number-least w ↦
          rw w.least-is
          (let less = w.if-number-least.true in
          (least_next l.least n ns l.at n c.loop-at-test.true same l.invariant.0 (omega (arith, less)) (omega arith), omega (arith, less, was)))
      | else-number-least w ↦
          rw w.least-is
          (let not = w.if-number-least.false in
          (least_next l.least l.least ns l.at n c.loop-at-test.true same l.invariant.0 (omega arith) (omega (arith, not)), was))
    ]

pub returns-clause-all : goal.returns-clause-all
returns-clause-all c = least_all c.loop-at.least c.args.segment.now c.numbers-numbers.result.now c.loop-at.at c.loop-at-test.false c.numbers-numbers.ensures c.loop-at.invariant.0
