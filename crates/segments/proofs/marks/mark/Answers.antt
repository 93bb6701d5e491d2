use Rattle.std.proofs.Common.{◌≡◌, ◌/◌, ◌<◌, ◌∙◌, arith, length, get_or}
use Rattle.std.proofs.lemmas.List.{get_or_default}
use Rattle.segments.proofs.Marking.{marks_too}
use Rattle.segments.proofs.marks.mark.Goals as goal

pub returns : goal.returns
returns c =
    let marks = c.args.marks.now.items in
    let byte = c.args.trigram / 8 in
    let inside : byte < length marks = omega (arith, c.requires.whole, c.requires.small) in
    let read : c.index.result.now ≡ get_or marks byte 0 = c.index.ensures ∙ get_or_default marks byte c.index.result.now 0 inside in
    rw read (marks_too marks c.args.trigram inside)
