use Rattle.std.proofs.Common.{◌∙◌, ◌+◌, ◌-◌, sym, drop, length, arith, ap}
use Rattle.std.proofs.lemmas.List.{length-drop, length-take}
use Rattle.documents.specs.Text.{has_line_over}
use Rattle.documents.proofs.LineLemmas.{long-short, long-feed, long-none, rest-after}
use Rattle.documents.proofs.body.has_line_over.Goals as goal

pub overflow_add-most : goal.overflow_add-most
overflow_add-most c = omega (arith, c.loop-rest-test.true, c.loop-rest.invariant.shorter)

pub returns-in_default : goal.returns-in_default
returns-in_default c = sym (c.loop-rest.invariant.same ∙ long-none c.args.most c.loop-rest.rest.now (omega arith) c.in_default.ensures)

pub overflow_add-rest : goal.overflow_add-rest
overflow_add-rest c =
    let h = c.in-Some.ensures.0.high in
    omega (arith, h, length-take (c.args.most + 1) c.loop-rest.rest.now, c.loop-rest-test.true, c.loop-rest.invariant.shorter)

pub slice_bounds-rest-count : goal.slice_bounds-rest-count
slice_bounds-rest-count c = let h = c.in-Some.ensures.0.high in omega (arith, h, length-take (c.args.most + 1) c.loop-rest.rest.now)

pub slice_bounds-rest-start : goal.slice_bounds-rest-start
slice_bounds-rest-start c = let h = c.in-Some.ensures.0.high in omega (arith, h, length-take (c.args.most + 1) c.loop-rest.rest.now)

pub loop-rest-preserved : goal.loop-rest-preserved
loop-rest-preserved c = record {
  same =
      c.loop-rest.invariant.same
      ∙ (long-feed c.args.most c.loop-rest.rest.now c.in-Some.end (omega arith) c.in-Some.ensures
      ∙ ap (has_line_over c.args.most) (sym (rest-after c.loop-rest.rest.now c.in-Some.end)));
  shorter =
      omega (
        arith,
        c.loop-rest.invariant.shorter,
        length-take (length c.loop-rest.rest.now - (c.in-Some.end + 1)) (drop (c.in-Some.end + 1) c.loop-rest.rest.now),
        length-drop (c.in-Some.end + 1) c.loop-rest.rest.now,
      );
}

pub returns : goal.returns
returns c = sym (c.loop-rest.invariant.same ∙ long-short c.args.most c.loop-rest.rest.now (omega arith))
