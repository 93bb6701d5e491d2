use Rattle.std.proofs.Common.{true, Some, cond, ◌∙◌, sym, ap, rules}
use Rattle.std.specs.Ordering.{nat_cmp}
use Rattle.std.specs.Cmp.Lexicographic.{slice_cmp}
use Rattle.std.specs.BTreeMap.{get, is_at}
use Rattle.index.proofs.GroupLemmas.{joins-entry, joins-first, among, among-empty}
use Rattle.index.proofs.groups.join.Goals as goal

pub returns-in-Some-clause-ok : goal.returns-in-Some-clause-ok
returns-in-Some-clause-ok c =
    let entry = c.insert.new.self in
    joins-entry c.args.number c.args.groups.now (c.get_mut.follows.lender entry) entry ((c.get_mut.follows.holds entry).3 (search rules)).0
    c.args.first.now c.args.name.now c.in-Some.names.now (sym c.in-Some.ensures.value)
    (λ q.
    c.in_ok-insert.ensures.updates.0 q
    ∙ ap (λ n. cond (is_at (slice_cmp nat_cmp n) q) true (among c.in-Some.names.now q)) c.in_ok-own.ensures)
    c.insert.ensures.ordered

pub returns-clause-ok : goal.returns-clause-ok
returns-clause-ok c =
    let one = c.insert-2.new.self in
    let entry = c.insert-3.new.self in
    let none = c.new-names.result in
    joins-first c.args.number c.args.groups.now c.insert-4.new.self entry
    (λ m.
    c.in_ok-insert-4.ensures.updates.0 m
    ∙ ap (λ g. cond (is_at (nat_cmp c.args.number) m) (Some entry) (get nat_cmp g m)) c.get_mut.follows.holds-at-none)
    c.args.first.now c.args.name.now one none (sym c.in_default.ensures.value) (among-empty none c.new-names.ensures.empty)
    (λ q.
    c.in_ok-insert-2.ensures.updates.0 q
    ∙ ap (λ n. cond (is_at (slice_cmp nat_cmp n) q) true (among none q)) c.in_ok-share.ensures)
    (λ q.
    c.in_ok-insert-3.ensures.updates.0 q
    ∙ ap (λ n. cond (is_at (slice_cmp nat_cmp n) q) true (among one q)) c.in_ok-own.ensures)
    c.insert-3.ensures.ordered
