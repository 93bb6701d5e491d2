use Rattle.std.proofs.Common.{◌<◌, length, arith}
use Rattle.std.proofs.lemmas.Bool.Decides.{nat_tests}
use Rattle.std.proofs.lemmas.List.{get_or_read}
use Rattle.posting.proofs.PageLemmas.{paged, entry_bound}
use Rattle.posting.proofs.pages.Pages.page.Goals as goal

pub returns-in-Some-clause-bound : goal.returns-in-Some-clause-bound
returns-in-Some-clause-bound c =
    let found = rw c.deref.ensures.value at c.in-Some.ensures.lookup in
    let before : c.args.at < length c.self.inside.directory.items = grind (arith, nat_tests, found.0) in
    let is = get_or_read c.self.inside.directory.items c.args.at c.in-Some.page.now before found.1 0 in
    omega (arith, is, entry_bound (paged c.self.inside.directory.items c.self.inside.slots.items) c.args.at c.self.invariant)
