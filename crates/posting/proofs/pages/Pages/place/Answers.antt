use Rattle.std.proofs.Common.{sym, arith}
use Rattle.posting.proofs.Tables.{below_count}
use Rattle.posting.proofs.PageLemmas.{place_of-none, place_of-some}
use Rattle.posting.proofs.pages.Pages.place.Goals as goal

pub returns-then-page-eq0-clause-place : goal.returns-then-page-eq0-clause-place
returns-then-page-eq0-clause-place c =
    let page = rw c.number-number.ensures.value at c.page-page.ensures.value in
    sym (place_of-none c.args.self.now c.args.trigram c.page-page.result page c.if-page-eq0.true)

pub returns-then-page-eq0-clause-bound : goal.returns-then-page-eq0-clause-bound
returns-then-page-eq0-clause-bound c = below_count c.args.trigram (rw c.number-number.ensures.value at c.number-number.ensures.bound)

pub overflow_mul-result : goal.overflow_mul-result
overflow_mul-result c = omega (arith, c.page-page.ensures.bound)

pub overflow_add-result : goal.overflow_add-result
overflow_add-result c = omega (arith, c.page-page.ensures.bound)

pub returns-clause-place : goal.returns-clause-place
returns-clause-place c =
    let page = rw c.number-number.ensures.value at c.page-page.ensures.value in
    rw c.number-number.ensures.value (sym (place_of-some c.args.self.now c.args.trigram c.page-page.result page (omega arith)))

pub returns-clause-bound : goal.returns-clause-bound
returns-clause-bound c = below_count c.args.trigram (rw c.number-number.ensures.value at c.number-number.ensures.bound)
