use Rattle.std.proofs.Common.{◌≡◌, ◌∙◌, length}
use Rattle.segments.proofs.Marking.{start_within}
use Rattle.segments.proofs.marks.push_and_clear.Goals as goal

pub push_new-requires : goal.push_new-requires
push_new-requires c = c.requires

pub clear_those-requires-clause-within : goal.clear_those-requires-clause-within
clear_those-requires-clause-within c =
    let old = c.args.keys.now.items in
    let count : c.len-start.result ≡ length old = c.len-start.ensures ∙ c.args.keys.now.ok.0 in
    rw (count, c.as_slice.ensures.value)
    (start_within c.args.body.now c.args.place old c.push_new.new.keys.items c.push_new.new.marks.items c.in-Ok.ensures.adds)

pub clear_those-requires-clause-marks : goal.clear_those-requires-clause-marks
clear_those-requires-clause-marks c =
    let old = c.args.keys.now.items in
    let count : c.len-start.result ≡ length old = c.len-start.ensures ∙ c.args.keys.now.ok.0 in
    rw (count, c.as_slice.ensures.value) c.in-Ok.ensures.adds.are

pub returns-in-Ok-clause-adds : goal.returns-in-Ok-clause-adds
returns-in-Ok-clause-adds c = c.in-Ok.ensures.adds.adds
