use Rattle.posting.proofs.Selection.{Joined, has_text_of}
use Rattle.posting.proofs.postings.Postings.collect_texts.Given as goal

abbrev pub invariant-loop-text : goal.invariant-loop-text
invariant-loop-text g l = Joined (has_text_of l.self) l.text-items l.text-index l.within.members l.lists.items
