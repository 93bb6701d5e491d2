use Rattle.std.proofs.Common.{◌++◌, drop}
use Rattle.views.specs.Parts.{text_of_parts}
use Rattle.transcript.proofs.WriteLemmas.{IsDoneTo}
use Rattle.transcript.proofs.output.write_parts.Given as goal

abbrev pub invariant-loop-part : goal.invariant-loop-part
invariant-loop-part g l =
    IsDoneTo (g.W.Write.contents l.initial.out) (g.W.Write.contents l.out) (l.initial.text.items ++ text_of_parts l.parts)
    (text_of_parts (drop l.part-index l.parts)) l.text.items
