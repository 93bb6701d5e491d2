use Rattle.posting.proofs.PageLemmas.{place_of-empty}
use Rattle.posting.proofs.pages.Pages.new.Goals as goal

pub returns : goal.returns
returns c = λ t. rw (c.new.ensures.items, c.new-2.ensures.items) (place_of-empty t)
