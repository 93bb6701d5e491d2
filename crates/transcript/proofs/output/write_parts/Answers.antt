use Rattle.std.proofs.Common.{refl}
use Rattle.views.specs.Text.{text_of_hits}
use Rattle.views.proofs.PartLemmas.{text-parts}
use Rattle.transcript.proofs.WriteLemmas.{done_in_part, done_more, next_of_two}
use Rattle.transcript.proofs.output.write_parts.Goals as goal

pub returns-in-Err-clause-err : goal.returns-in-Err-clause-err
returns-in-Err-clause-err g c =
    let part = text-parts c.args.parts.now c.loop-part.part-index c.part-item.result c.loop-part-test.true c.part-item.is in
    let next = next_of_two _ _ c.text-lines.result.formed.now (text_of_hits c.text-lines.result.zero c.text-lines.result.lines) _ part c.text-lines.ensures in
    done_in_part _ _ _ _ _ _ _ _ c.loop-part.invariant next c.in-Err.ensures.err

pub returns-in-Err-write_lines-clause-err : goal.returns-in-Err-write_lines-clause-err
returns-in-Err-write_lines-clause-err g c =
    let part = text-parts c.args.parts.now c.loop-part.part-index c.part-item.result c.loop-part-test.true c.part-item.is in
    let next = next_of_two _ _ c.text-lines.result.formed.now (text_of_hits c.text-lines.result.zero c.text-lines.result.lines) _ part c.text-lines.ensures in
    let formed = done_more _ _ _ _ _ _ _ _ c.loop-part.invariant next _ c.in_default.ensures.ok in
    done_in_part _ _ _ _ _ _ _ _ formed refl c.in-Err-write_lines.ensures.err

pub loop-part-preserved : goal.loop-part-preserved
loop-part-preserved g c =
    let part = text-parts c.args.parts.now c.loop-part.part-index c.part-item.result c.loop-part-test.true c.part-item.is in
    let next = next_of_two _ _ c.text-lines.result.formed.now (text_of_hits c.text-lines.result.zero c.text-lines.result.lines) _ part c.text-lines.ensures in
    let formed = done_more _ _ _ _ _ _ _ _ c.loop-part.invariant next _ c.in_default.ensures.ok in
    done_more _ _ _ _ _ _ _ _ formed refl _ c.in_default-write_lines.ensures.ok
