use Rattle.std.proofs.Common.{◌/◌, replicate, sym, ap, refl}
use Rattle.std.proofs.lemmas.Result.{on_ok_weaker, on_err_weaker}
use Rattle.posting.specs.Private.PageTable.{page_size}
use Rattle.posting.specs.Private.Pages.{SamePages, AddsPage, slot_of_code}
use Rattle.posting.proofs.PageLemmas.{either_way, no_limit, slots_kept}
use Rattle.posting.proofs.pages.Pages.make_page.Goals as goal

pub add_page-requires-clause-absent : goal.add_page-requires-clause-absent
add_page-requires-clause-absent c =
    rw c.number.ensures.value (no_limit c.args.self.now c.args.trigram (sym c.in-None.ensures.place))

pub returns-in-None-clause-slots : goal.returns-in-None-clause-slots
returns-in-None-clause-slots c = λ t.
    either_way c.add_page.result
    (on_ok_weaker c.add_page.result
    (λ (added : AddsPage c.args.self.now c.add_page.new.self (c.args.trigram / page_size) (replicate page_size 0)).
    slots_kept c.args.self.now c.add_page.new.self c.args.trigram (replicate page_size 0) (sym c.in-None.ensures.place) refl added t)
    (rw c.number.ensures.value at c.add_page.ensures.ok))
    (on_err_weaker c.add_page.result (λ (same : SamePages c.args.self.now c.add_page.new.self). ap slot_of_code (same.codes t)) c.add_page.ensures.err)
