use Rattle.std.proofs.Common.{◌≡◌, true, false, ◌==◌, refl, set, sym, ap, ◌∙◌, arith}
use Rattle.std.proofs.lemmas.Bool.{eq-eqb}
use Rattle.std.proofs.lemmas.Bool.Decides.{nat_tests}
use Rattle.posting.specs.ListValue.{without}
use Rattle.posting.specs.declared.owned.Owned.{Owned}
use Rattle.posting.specs.declared.pages.Slot.TheVariants.{Free, One}
use Rattle.posting.specs.Private.Pages.{slot_of, free_limit}
use Rattle.posting.proofs.Places.{written_here}
use Rattle.posting.proofs.Widening.{set_here, set_there, set_written, list_other, slot_other, free_limit-le, stands_members, stands_limit, set_same}
use Rattle.posting.proofs.part.Part.remove.Goals as goal

pub returns-in-Free-clause-at : goal.returns-in-Free-clause-at
returns-in-Free-clause-at c =
    let here = rw c.self.view_is at (set_here c.self.inside.pages c.self.inside.lists.items c.args.trigram Free c.in-Free.ensures.value c.in-Free.ensures.bound) in
    rw here refl

pub returns-in-Free-clause-empty : goal.returns-in-Free-clause-empty
returns-in-Free-clause-empty c = λ _.
    let here = rw c.self.view_is at (set_here c.self.inside.pages c.self.inside.lists.items c.args.trigram Free c.in-Free.ensures.value c.in-Free.ensures.bound) in
    rw here (free_limit-le c.self.inside.pages c.args.trigram)

pub returns-then-held-number-clause-at : goal.returns-then-held-number-clause-at
returns-then-held-number-clause-at c =
    let was =
    rw c.self.view_is
    at (set_here c.self.inside.pages c.self.inside.lists.items c.args.trigram (One c.in-One.held) c.in-One.ensures.value c.in-One.ensures.bound) in
    let gone =
    set_here c.set_slot.new.self c.self.inside.lists.items c.args.trigram Free
    (sym (written_here (slot_of c.self.inside.pages) (slot_of c.set_slot.new.self) c.args.trigram Free c.set_slot.ensures.slots))
    c.in-One.ensures.bound in
    let same : (c.in-One.held == c.args.number) ≡ true = eq-eqb c.in-One.held c.args.number c.if-held-number.true in
    rw (gone, was, same) refl

pub returns-then-held-number-clause-others : goal.returns-then-held-number-clause-others
returns-then-held-number-clause-others c =
    λ t other.
    rw (← c.self.view_is)
    (slot_other c.self.inside.pages c.set_slot.new.self c.self.inside.lists.items c.args.trigram Free c.set_slot.ensures.slots
    c.set_slot.ensures.limits t other)

pub returns-then-held-number-clause-empty : goal.returns-then-held-number-clause-empty
returns-then-held-number-clause-empty c =
    λ _.
    let gone =
    set_here c.set_slot.new.self c.self.inside.lists.items c.args.trigram Free
    (sym (written_here (slot_of c.self.inside.pages) (slot_of c.set_slot.new.self) c.args.trigram Free c.set_slot.ensures.slots))
    c.in-One.ensures.bound in
    rw gone (free_limit-le c.set_slot.new.self c.args.trigram)

pub returns-else-held-number-clause-at : goal.returns-else-held-number-clause-at
returns-else-held-number-clause-at c =
    let was =
    rw c.self.view_is
    at (set_here c.self.inside.pages c.self.inside.lists.items c.args.trigram (One c.in-One.held) c.in-One.ensures.value c.in-One.ensures.bound) in
    let differs : (c.in-One.held == c.args.number) ≡ false = grind (arith, nat_tests) in
    rw (was, differs) refl

pub returns-else-held-number-clause-empty : goal.returns-else-held-number-clause-empty
returns-else-held-number-clause-empty c =
    λ _.
    let was =
    rw c.self.view_is
    at (set_here c.self.inside.pages c.self.inside.lists.items c.args.trigram (One c.in-One.held) c.in-One.ensures.value c.in-One.ensures.bound) in
    rw was (omega arith)

pub returns-in-Some-clause-at : goal.returns-in-Some-clause-at
returns-in-Some-clause-at c =
    let was =
    set_there c.self.inside.pages c.self.inside.lists.items c.args.self.now c.args.trigram c.in-Listed.place c.index_mut-owned.result.now
    c.self.view_is c.self.invariant c.in-Listed.ensures.value c.in-Listed.ensures.bound c.index_mut-owned.ensures.value in
    let put =
    set_here c.drop_list.new.pages c.drop_list.new.lists.items c.args.trigram c.in-Some.slot (sym c.drop_list.ensures.at) c.in-Listed.ensures.bound in
    ap (λ s. s.members) put
    ∙ stands_members c.drop_list.new.lists.items (free_limit c.drop_list.new.pages c.args.trigram) c.in-Some.slot c.remove.new.self.members
    c.in-Some.ensures.some
    ∙ c.remove.ensures.members ∙ ap (λ s. without c.args.number s.members) (sym was)

pub returns-in-Some-clause-others : goal.returns-in-Some-clause-others
returns-in-Some-clause-others c =
    λ t other.
    let left : Owned = record { trigram = c.index_mut-owned.result.now.trigram; list = c.remove.new.self } in
    rw (← c.self.view_is)
    (set_same c.self.inside.pages c.drop_list.new.pages (set c.self.inside.lists.items c.in-Listed.place left) c.drop_list.new.lists.items t
    (c.drop_list.ensures.others t other)
    ∙ list_other c.self.inside.pages c.self.inside.lists.items c.args.trigram c.in-Listed.place left c.self.invariant c.in-Listed.ensures.value t
    other)

pub returns-in-Some-clause-empty : goal.returns-in-Some-clause-empty
returns-in-Some-clause-empty c =
    λ _.
    let put =
    set_here c.drop_list.new.pages c.drop_list.new.lists.items c.args.trigram c.in-Some.slot (sym c.drop_list.ensures.at) c.in-Listed.ensures.bound in
    rw put
    (stands_limit c.drop_list.new.lists.items (free_limit c.drop_list.new.pages c.args.trigram) c.in-Some.slot c.remove.new.self.members
    c.in-Some.ensures.some (free_limit-le c.drop_list.new.pages c.args.trigram))

pub returns-in-None-clause-at : goal.returns-in-None-clause-at
returns-in-None-clause-at c =
    let was =
    set_there c.self.inside.pages c.self.inside.lists.items c.args.self.now c.args.trigram c.in-Listed.place c.index_mut-owned.result.now
    c.self.view_is c.self.invariant c.in-Listed.ensures.value c.in-Listed.ensures.bound c.index_mut-owned.ensures.value in
    let written =
    set_written c.self.inside.pages c.self.inside.lists.items c.args.trigram c.in-Listed.place
    (record { trigram = c.index_mut-owned.result.now.trigram; list = c.give_back.new.self }) c.self.invariant c.in-Listed.ensures.value
    c.in-Listed.ensures.bound in
    ap (λ s. s.members) written
    ∙ c.give_back.ensures ∙ c.remove.ensures.members ∙ ap (λ s. without c.args.number s.members) (sym was)

pub returns-in-None-clause-others : goal.returns-in-None-clause-others
returns-in-None-clause-others c =
    λ t other.
    rw (← c.self.view_is)
    (list_other c.self.inside.pages c.self.inside.lists.items c.args.trigram c.in-Listed.place
    (record { trigram = c.index_mut-owned.result.now.trigram; list = c.give_back.new.self }) c.self.invariant c.in-Listed.ensures.value t other)

pub returns-in-None-clause-empty : goal.returns-in-None-clause-empty
returns-in-None-clause-empty c =
    λ none.
    let written =
    set_written c.self.inside.pages c.self.inside.lists.items c.args.trigram c.in-Listed.place
    (record { trigram = c.index_mut-owned.result.now.trigram; list = c.give_back.new.self }) c.self.invariant c.in-Listed.ensures.value
    c.in-Listed.ensures.bound in
    absurd (c.in-None.ensures.none (sym c.give_back.ensures ∙ sym (ap (λ s. s.members) written) ∙ none))
