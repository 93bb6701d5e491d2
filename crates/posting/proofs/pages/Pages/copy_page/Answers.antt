use Rattle.std.proofs.Common.{◌≡◌, ◌*◌, ◌-◌, ◌%◌, ◌<◌, ◌∙◌, get_or, sym, ap, arith}
use Rattle.std.specs.List.{slice_range}
use Rattle.std.proofs.lemmas.Result.{on_ok_weaker}
use Rattle.posting.specs.Private.PageTable.{page_size}
use Rattle.posting.specs.Private.Pages.{AddsPage}
use Rattle.posting.proofs.PageLemmas.{paged, copies_none, copies_page, code_on_page, no_code, free_code}
use Rattle.posting.proofs.pages.Pages.copy_page.Goals as goal

pub returns-then-end-eq0 : goal.returns-then-end-eq0
returns-then-end-eq0 c =
    copies_none c.args.from.now c.args.self.now c.args.at c.requires.absent
    (λ t is. no_code c.args.from.now c.args.at t (omega (arith, c.page-end.ensures.value)) is)

pub returns-then-are_free : goal.returns-then-are_free
returns-then-are_free c =
    let from = paged c.from.inside.directory.items c.from.inside.slots.items in
    let page : c.page-end.result ≡ get_or from.directory c.args.at 0 =
    c.page-end.ensures.value ∙ ap (λ p. get_or p.directory c.args.at 0) (sym c.from.view_is) in
    let some : 0 < c.page-end.result = omega arith in
    let content = slice_range c.from.inside.slots.items (c.page-end.result * page_size - page_size) (c.page-end.result * page_size) in
    let free = sym (rw c.deref.ensures.value at c.are_free.ensures) ∙ c.if-are_free.true in
    rw (← c.from.view_is)
    (copies_none from c.args.self.now c.args.at c.requires.absent
    (λ t is. code_on_page from c.args.at c.page-end.result t page some is ∙ free_code content (t % page_size) free))

pub returns : goal.returns
returns c =
    let from = paged c.from.inside.directory.items c.from.inside.slots.items in
    let page : c.page-end.result ≡ get_or from.directory c.args.at 0 =
    c.page-end.ensures.value ∙ ap (λ p. get_or p.directory c.args.at 0) (sym c.from.view_is) in
    let some : 0 < c.page-end.result = omega arith in
    let content = slice_range c.from.inside.slots.items (c.page-end.result * page_size - page_size) (c.page-end.result * page_size) in
    rw (← c.from.view_is)
    (on_ok_weaker c.add_page.result
    (λ (added : AddsPage c.args.self.now c.add_page.new.self c.args.at content).
    copies_page from c.args.self.now c.add_page.new.self c.args.at content
    (λ t is. code_on_page from c.args.at c.page-end.result t page some is) added)
    (rw c.deref.ensures.value at c.add_page.ensures.ok))
