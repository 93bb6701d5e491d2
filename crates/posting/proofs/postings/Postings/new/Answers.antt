use Rattle.posting.proofs.PartLemmas.{bare_none, bare_more, bare_whole}
use Rattle.posting.proofs.postings.Postings.new.Goals as goal

pub returns : goal.returns
returns c =
    bare_whole _
    (bare_more _ _ c.new.ensures
    (bare_more _ _ c.new-2.ensures
    (bare_more _ _ c.new-3.ensures
    (bare_more _ _ c.new-4.ensures
    (bare_more _ _ c.new-5.ensures
    (bare_more _ _ c.new-6.ensures
    (bare_more _ _ c.new-7.ensures (bare_more _ _ c.new-8.ensures bare_none))))))))
