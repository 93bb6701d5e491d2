use Rattle.std.proofs.Common.{◌*◌, ◌++◌, ◌∙◌, ap, arith}
use Rattle.posting.specs.Private.PageTable.{page_size}
use Rattle.posting.specs.Private.Pages.{free_limit}
use Rattle.posting.proofs.PageLemmas.{on_err, SamePages-same, page_added}
use Rattle.posting.proofs.pages.Pages.add_page.Goals as goal

pub returns-in_err-lengthen-clause-err : goal.returns-in_err-lengthen-clause-err
returns-in_err-lengthen-clause-err c =
    on_err c.from_residual.result
    (rw (← c.self.view_is)
    (SamePages-same c.self.inside.directory.items c.lengthen.new.directory.items c.self.inside.slots.items c.in_err-lengthen.ensures.entries))

pub returns-in_err-reserve-clause-err : goal.returns-in_err-reserve-clause-err
returns-in_err-reserve-clause-err c =
    on_err c.from_residual-in_err-reserve.result
    (rw (← c.self.view_is, c.in_err-reserve.ensures)
    (SamePages-same c.self.inside.directory.items c.lengthen.new.directory.items c.self.inside.slots.items c.in_ok-lengthen.ensures.entries))

pub returns-in_err-extend_from_slice-clause-err : goal.returns-in_err-extend_from_slice-clause-err
returns-in_err-extend_from_slice-clause-err c =
    on_err c.from_residual-in_err-extend_from_slice.result
    (rw (← c.self.view_is, c.in_err-extend_from_slice.ensures.items, c.in_ok-reserve.ensures)
    (SamePages-same c.self.inside.directory.items c.lengthen.new.directory.items c.self.inside.slots.items c.in_ok-lengthen.ensures.entries))

pub overflow_cast-end : goal.overflow_cast-end
overflow_cast-end c =
    let added =
    page_added c.self.inside.directory.items c.lengthen.new.directory.items c.self.inside.slots.items c.extend_from_slice.new.self.items
    c.args.slots.now c.args.page c.len-end.result c.in_ok-lengthen.ensures.entries c.self.invariant c.in_ok-lengthen.ensures.ok
    (ap (λ p. free_limit p (c.args.page * page_size)) c.self.view_is ∙ c.requires.absent) c.requires.whole
    (c.in_ok-extend_from_slice.ensures.items ∙ ap (λ xs. xs ++ c.args.slots.now) c.in_ok-reserve.ensures)
    (c.len-end.ensures ∙ c.extend_from_slice.new.self.ok.0) in
    omega (arith, added.0)

pub invariant_of-self-2 : goal.invariant_of-self-2
invariant_of-self-2 c =
    let added =
    page_added c.self.inside.directory.items c.lengthen.new.directory.items c.self.inside.slots.items c.extend_from_slice.new.self.items
    c.args.slots.now c.args.page c.len-end.result c.in_ok-lengthen.ensures.entries c.self.invariant c.in_ok-lengthen.ensures.ok
    (ap (λ p. free_limit p (c.args.page * page_size)) c.self.view_is ∙ c.requires.absent) c.requires.whole
    (c.in_ok-extend_from_slice.ensures.items ∙ ap (λ xs. xs ++ c.args.slots.now) c.in_ok-reserve.ensures)
    (c.len-end.ensures ∙ c.extend_from_slice.new.self.ok.0) in
    added.1

pub returns-clause-ok : goal.returns-clause-ok
returns-clause-ok c =
    let added =
    page_added c.self.inside.directory.items c.lengthen.new.directory.items c.self.inside.slots.items c.extend_from_slice.new.self.items
    c.args.slots.now c.args.page c.len-end.result c.in_ok-lengthen.ensures.entries c.self.invariant c.in_ok-lengthen.ensures.ok
    (ap (λ p. free_limit p (c.args.page * page_size)) c.self.view_is ∙ c.requires.absent) c.requires.whole
    (c.in_ok-extend_from_slice.ensures.items ∙ ap (λ xs. xs ++ c.args.slots.now) c.in_ok-reserve.ensures)
    (c.len-end.ensures ∙ c.extend_from_slice.new.self.ok.0) in
    rw (← c.self.view_is) added.2
