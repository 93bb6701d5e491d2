use Rattle.std.proofs.Common.{◌≡◌, inl, inr, ℕ, nat_lt, true, None, refl, sym, subst, ap, ◌∙◌}
use Rattle.std.specs.Prelude.{IsOk}
use Rattle.posting.specs.Postings.{is_listed}
use Rattle.index.specs.declared.sets.Sets.{Sets}
use Rattle.index.specs.Private.Sets.{is_whole, is_waiting}
use Rattle.index.specs.Private.Slots.{documents_in}
use Rattle.index.specs.Private.Store.{stored}
use Rattle.index.proofs.StoredLemmas.{Numbered-stored, AreSetsOf-filled}
use Rattle.index.proofs.store.Store.fill.Goals as goal

pub returns-in-Ok-clause-store : goal.returns-in-Ok-clause-store
returns-in-Ok-clause-store g c = λ last start.
    let old = c.finish.new.self in
    let none = c.in_ok-finish.ensures.ok in
    let kept = c.finish.ensures.store last
    (record { slots = start.slots; few = start.few; sets = start.sets; counted = start.counted; bytes = start.bytes }) in
    let entries = c.as_slice-2.result.now in
    let new : Sets = record { live = old.sets.live; postings = c.fill.new.self; waiting = None } in
    let entries_are : (t n : ℕ) → is_listed entries t n ≡ is_waiting c.first-first.result (stored old) t n =
    λ t n.
    ap (λ xs. is_listed xs t n) c.as_slice-2.ensures.value
    ∙ (c.in_ok-entries.ensures t n ∙ ap (λ xs. is_waiting c.first-first.result (documents_in xs) t n) c.as_slice.ensures.value) in
    record {
      slots = kept.slots;
      few = kept.few;
      sets =
          AreSetsOf-filled (stored old) (Numbered-stored last old.slots.items kept.slots) c.first-first.result entries old.sets new c.fill.result kept.sets none (λ t n. refl)
          (subst (λ w. (t n : ℕ) → nat_lt n c.first-first.result ≡ true → is_whole w t n ≡ true) (sym c.in-Some.is) c.first-first.ensures) entries_are refl c.fill.ensures.ok c.fill.ensures.kept c.fill.ensures.grown (inr (subst IsOk (sym c.in-Ok.is) refl));
      counted = kept.counted;
      bytes = kept.bytes;
    }

pub returns-clause-store : goal.returns-clause-store
returns-clause-store g c = λ last start.
    let old = c.finish.new.self in
    let none = c.in_ok-finish.ensures.ok in
    let kept = c.finish.ensures.store last
    (record { slots = start.slots; few = start.few; sets = start.sets; counted = start.counted; bytes = start.bytes }) in
    let entries = c.as_slice-2.result.now in
    let new : Sets = record { live = old.sets.live; postings = c.fill.new.self; waiting = old.sets.waiting } in
    let entries_are : (t n : ℕ) → is_listed entries t n ≡ is_waiting c.first-first.result (stored old) t n =
    λ t n.
    ap (λ xs. is_listed xs t n) c.as_slice-2.ensures.value
    ∙ (c.in_ok-entries.ensures t n ∙ ap (λ xs. is_waiting c.first-first.result (documents_in xs) t n) c.as_slice.ensures.value) in
    record {
      slots = kept.slots;
      few = kept.few;
      sets =
          AreSetsOf-filled (stored old) (Numbered-stored last old.slots.items kept.slots) c.first-first.result entries old.sets new c.fill.result kept.sets none none
          (subst (λ w. (t n : ℕ) → nat_lt n c.first-first.result ≡ true → is_whole w t n ≡ true) (sym c.in-Some.is) c.first-first.ensures) entries_are refl c.fill.ensures.ok c.fill.ensures.kept c.fill.ensures.grown (inl refl);
      counted = kept.counted;
      bytes = kept.bytes;
    }

pub finish-requires : goal.finish-requires
finish-requires g c =
    let kept = c.requires.1 in
    (c.requires.0, record { slots = kept.slots; few = kept.few; sets = kept.sets; counted = kept.counted; bytes = kept.bytes })

pub returns-in_err-finish-clause-store : goal.returns-in_err-finish-clause-store
returns-in_err-finish-clause-store g c = λ last start.
    let kept = c.finish.ensures.store last
    (record { slots = start.slots; few = start.few; sets = start.sets; counted = start.counted; bytes = start.bytes }) in
    record { slots = kept.slots; few = kept.few; sets = kept.sets; counted = kept.counted; bytes = kept.bytes }

pub returns-in_default-clause-store : goal.returns-in_default-clause-store
returns-in_default-clause-store g c = λ last start.
    let kept = c.finish.ensures.store last
    (record { slots = start.slots; few = start.few; sets = start.sets; counted = start.counted; bytes = start.bytes }) in
    record { slots = kept.slots; few = kept.few; sets = kept.sets; counted = kept.counted; bytes = kept.bytes }

pub returns-in_err-entries-clause-store : goal.returns-in_err-entries-clause-store
returns-in_err-entries-clause-store g c = λ last start.
    let kept = c.finish.ensures.store last
    (record { slots = start.slots; few = start.few; sets = start.sets; counted = start.counted; bytes = start.bytes }) in
    record { slots = kept.slots; few = kept.few; sets = kept.sets; counted = kept.counted; bytes = kept.bytes }
