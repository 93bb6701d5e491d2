use Rattle.segments.proofs.Selection.{IsMarked, has_text_of}
use Rattle.segments.specs.Private.Selection.{places_within}
use Rattle.segments.proofs.select.narrow_by_texts.Given as goal

abbrev pub invariant-loop-text : goal.invariant-loop-text
invariant-loop-text g l = IsMarked (has_text_of l.table) l.text-items l.text-index (places_within l.count l.within) l.marks.items
