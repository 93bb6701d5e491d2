use Rattle.std.proofs.Common.{length, ap, arith}
use Rattle.posting.proofs.PageLemmas.{copies_all}
use Rattle.posting.proofs.pages.Pages.pages_in_use.Goals as goal

pub returns : goal.returns
returns c = copies_all c.args.self.now c.loop-page.fewer c.loop-page.page
    (omega (arith, c.len-page-end.ensures, c.self.inside.directory.ok.0, ap (λ p. length p.directory) c.self.view_is)) c.loop-page.invariant
