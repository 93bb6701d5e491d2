use Rattle.std.proofs.Common.{◌≡◌, ◌||◌, take, length, sym, ap, ◌∙◌, arith}
use Rattle.std.proofs.Math.Seq.{take-length}
use Rattle.posting.specs.Postings.{is_listed}
use Rattle.index.specs.Private.Sets.{is_waiting}
use Rattle.index.specs.Private.Slots.{documents_in, documents_of_slot}
use Rattle.index.proofs.StoredLemmas.{waiting-slot}
use Rattle.index.proofs.store.entries_from.Goals as goal

pub loop-at-init : goal.loop-at-init
unfolding documents_in
loop-at-init c = λ t n. ap (λ xs. is_listed xs t n) c.new-entries.ensures.items

pub loop-at-preserved : goal.loop-at-preserved
loop-at-preserved c = λ t n.
    let slot = c.index-slots-at.result in
    c.in_ok-add_entry.ensures t n
    ∙ (ap (λ b. b || is_waiting c.args.first (documents_of_slot slot.number slot.occupant) t n) (c.loop-at.invariant t n)
    ∙ sym (waiting-slot c.args.first c.args.slots.now c.loop-at.at slot c.loop-at-test.true c.index-slots-at.is t n))

pub returns : goal.returns
returns c = λ t n.
    let all : c.loop-at.at ≡ length c.args.slots.now = omega (arith, c.loop-at-test.false, c.loop-at.auto.at-end) in
    c.loop-at.invariant t n
    ∙ ap (λ xs. is_waiting c.args.first (documents_in xs) t n) (ap (λ k. take k c.args.slots.now) all ∙ take-length c.args.slots.now)
