use Rattle.std.proofs.Common.{◌≡◌, ◌<◌, ◌++◌, [], map, length, refl, sym, ◌∙◌, ap, subst, arith}
use Rattle.std.specs.Prelude.{filter}
use Rattle.names.specs.declared.edge.Edge.TheVariants.{Before, After}
use Rattle.names.specs.Private.Entries.{begun, laid_over, passes, lies_behind, NonePass, IsRun}
use Rattle.names.proofs.PartLemmas.{some_entry}
use Rattle.names.proofs.OverLemmas.{none_filter}
use Rattle.names.proofs.RestLemmas.{over_step, over_end}
use Rattle.names.proofs.builder.Builder.add_over.Goals as goal

pub loop-at-init : goal.loop-at-init
loop-at-init c = record {
  inside = omega arith;
  done = λ later. refl;
}

pub without-rest-requires : goal.without-rest-requires
without-rest-requires c =
    let name = c.deref-in-loop-at.result.now in
    let left : c.in_ok-rest.rest ≡ filter (lies_behind Before name) c.loop-at.rest =
    c.in_ok-rest.ensures.left ∙ ap (λ n. filter (lies_behind Before n) c.loop-at.rest) (c.deref.ensures.value ∙ sym c.deref-in-loop-at.ensures.value) in
    subst (NonePass (passes Before name)) (sym left) (none_filter (passes Before name) c.loop-at.rest)

pub add_part-requires-clause-order : goal.add_part-requires-clause-order
add_part-requires-clause-order c =
    let run : IsRun c.args.chunk.now c.without-rest.result c.loop-at.at c.in_ok-to.to = c.in_ok-to.ensures in
    let order = run.order in
    omega (arith, order)

pub add_part-requires-clause-inside : goal.add_part-requires-clause-inside
add_part-requires-clause-inside c =
    let run : IsRun c.args.chunk.now c.without-rest.result c.loop-at.at c.in_ok-to.to = c.in_ok-to.ensures in
    run.inside

pub loop-at-smaller : goal.loop-at-smaller
loop-at-smaller c =
    let run : IsRun c.args.chunk.now c.without-rest.result c.loop-at.at c.in_ok-to.to = c.in_ok-to.ensures in
    let order = run.order in
    let inside = run.inside in
    omega (arith, order, inside)

pub loop-at-preserved : goal.loop-at-preserved
loop-at-preserved c =
    let chunk = c.args.chunk.now in
    let rest = c.loop-at.rest in
    let name = c.in_ok-name.name.items in
    let run : IsRun chunk c.without-rest.result c.loop-at.at c.in_ok-to.to = c.in_ok-to.ensures in
    let below : c.loop-at.at < length chunk = omega (arith, c.loop-at-test.true, c.len.ensures.len) in
    record {
      inside = run.inside;
      done = λ later.
          over_step chunk rest c.in_ok-rest.rest c.without-rest.result c.loop-at.self
          c.add_until.new.self c.add_part.new.self
          (c.args.self.now ++ laid_over (chunk ++ later) c.args.rest) name c.loop-at.at c.in_ok-to.to some_entry later below
          (c.in_ok-name.ensures some_entry) (c.loop-at.invariant.done later)
          (c.in_ok-rest.ensures.added
          ∙ ap (λ n. c.loop-at.self ++ map (begun 0 []) (filter (passes Before n) rest)) c.deref.ensures.value)
          (c.in_ok-rest.ensures.left ∙ ap (λ n. filter (lies_behind Before n) rest) c.deref.ensures.value)
          (c.without-rest.ensures ∙ ap (λ n. filter (lies_behind After n) c.in_ok-rest.rest) c.deref-in-loop-at.ensures.value) run c.in_ok-add_part.ensures;
    }

pub returns : goal.returns
returns c = λ later.
    over_end c.args.chunk.now later c.loop-at.rest c.loop-at.self
    (c.args.self.now ++ laid_over (c.args.chunk.now ++ later) c.args.rest) c.loop-at.at
    (omega (arith, c.loop-at-test.false, c.len.ensures.len)) (c.loop-at.invariant.done later)
