use Rattle.std.proofs.Common.{◌||◌, sym, ap, ◌∙◌}
use Rattle.posting.specs.declared.filling.Entry.{Entry}
use Rattle.posting.specs.Postings.{is_listed}
use Rattle.index.specs.Private.Sets.{is_waiting}
use Rattle.index.specs.Private.Slots.{documents_of_slot}
use Rattle.index.proofs.StoredLemmas.{listed-push, entry_of}
use Rattle.index.proofs.store.add_entry.Goals as goal

pub returns-in_ok-push : goal.returns-in_ok-push
returns-in_ok-push c = λ t n.
    let first = c.args.first in
    let slot = c.args.slot.now in
    let old = c.args.entries.now.items in
    let entry : Entry = record { number = slot.number; trigrams = c.trigrams.result } in
    listed-push old c.push.new.self.items entry c.in_ok-push.ensures.items t n
    ∙ ap (λ b. is_listed old t n || b)
    (entry_of first slot.number c.in-Some.occupant.name c.in-Some.occupant.held c.trigrams.result.now c.if-slot-first.true c.trigrams.ensures.trigrams t n
    ∙ ap (λ o. is_waiting first (documents_of_slot slot.number o) t n) (sym c.in-Some.is))
