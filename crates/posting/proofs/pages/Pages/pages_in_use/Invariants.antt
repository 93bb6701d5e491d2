use Rattle.posting.proofs.PageLemmas.{CopiesBelow}
use Rattle.posting.proofs.pages.Pages.pages_in_use.Given as goal

abbrev pub invariant-loop-page : goal.invariant-loop-page
invariant-loop-page l = CopiesBelow l.self l.fewer l.page
