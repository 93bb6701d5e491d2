use Rattle.std.proofs.Common.{◌++◌, ◌∙◌, ap}
use Rattle.std.specs.Prelude.{flat_map}
use Rattle.std.proofs.lemmas.Result.{err_from_is_err_and}
use Rattle.views.specs.Hits.{hit_of}
use Rattle.views.specs.Text.{text_of_hit}
use Rattle.views.proofs.TextLemmas.{writes_begin, writes_one, writes_end, Begins-append}
use Rattle.views.proofs.text.append_lines.Goals as goal

pub loop-hit-init : goal.loop-hit-init
loop-hit-init c = writes_begin c.args.zero c.args.out.now.items c.into_iter-hit-iterator.result

pub loop-hit-preserved : goal.loop-hit-preserved
loop-hit-preserved c =
    writes_one c.args.zero c.args.out.now.items c.into_iter-hit-iterator.result c.loop-hit.hit-iterator c.next.new.self c.loop-hit.out.items
    c.append_hit.new.out.items (hit_of c.in-Some.hit) c.in-Some.ensures.steps c.in_ok-append_hit.ensures.ok c.loop-hit.invariant

pub returns-clause-ok : goal.returns-clause-ok
returns-clause-ok c =
    writes_end c.args.zero c.args.out.now.items c.into_iter-hit-iterator.result c.loop-hit.hit-iterator c.loop-hit.out.items c.in-None.ensures.steps.0
    c.loop-hit.invariant
    ∙ ap (λ hits. c.args.out.now.items ++ flat_map (text_of_hit c.args.zero) hits) c.into_iter-hit-iterator.ensures.into_iter_gives

pub returns-in_err-append_hit-clause-err : goal.returns-in_err-append_hit-clause-err
returns-in_err-append_hit-clause-err c =
    let error = err_from_is_err_and c.from_residual.result c.from_residual.ensures.1 in
    rw error.1 (Begins-append c.args.out.now.items c.loop-hit.invariant.added c.append_hit.new.out.items
    (c.in_err-append_hit.ensures.err ∙ c.loop-hit.invariant.appended))
