use Rattle.std.proofs.Common.{None, sym, ◌∙◌, rules}
use Rattle.index.proofs.GroupLemmas.{leaves-entry, leaves-last, leaves-only, written-other, changed-other}
use Rattle.index.proofs.groups.part.Goals as goal

pub returns-then-not-is_empty-clause-stays : goal.returns-then-not-is_empty-clause-stays
returns-then-not-is_empty-clause-stays c = λ yes.
    let entry = c.remove.new.self in
    leaves-entry c.args.number c.args.groups.now (c.get_mut.follows.lender entry) entry ((c.get_mut.follows.holds entry).3 (search rules)).0
    c.args.name.now c.in-Some.names.now (sym c.in-Some.ensures.value) c.remove.ensures.updates.0 c.remove.ensures.ordered

pub returns-clause-goes : goal.returns-clause-goes
returns-clause-goes c = λ no.
    let number = c.args.number in
    let entry = c.remove.new.self in
    let mid = c.get_mut.follows.lender entry in
    leaves-last number c.args.name.now c.args.groups.now c.remove-2.new.self c.in-Some.names.now entry (sym c.in-Some.ensures.value)
    c.remove.ensures.updates.0 (c.is_empty.ensures.0 (search rules))
    (λ m other.
    changed-other number mid c.remove-2.new.self None c.remove-2.ensures.updates.0 m other
    ∙ written-other number c.args.groups.now mid entry ((c.get_mut.follows.holds entry).3 (search rules)).0 m other)
    c.remove-2.ensures.updates.1

pub returns-in_default-clause-goes : goal.returns-in_default-clause-goes
returns-in_default-clause-goes c = λ no.
    leaves-only c.args.number c.args.name.now c.args.groups.now c.get_mut.follows.lender-at-none (sym c.in_default.ensures.value)
    c.get_mut.follows.holds-at-none
