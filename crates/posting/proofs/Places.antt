-- How lists are added and dropped, with the slots that lead to them.
use Rattle.std.proofs.Common.{◌≡◌, ◌≢◌, ℕ, ◌+◌, ◌-◌, ◌<◌, ◌≤◌, false, true, cond, ◌==◌, eqb, List, [], ◌∷◌, ◌++◌, ◌⊎◌, inl, inr}
use Rattle.std.proofs.Common.{length, get_or, map, refl, sym, ap, ◌∙◌, subst, arith}
use Rattle.std.specs.List.{list_any}
use Rattle.std.proofs.lemmas.Bool.{cases_lt, cases_eq, eq-eqb}
use Rattle.std.proofs.lemmas.Bool.Decides.{nat_tests}
use Rattle.std.proofs.lemmas.List.{get_or_append_left, get_or_push, length_push, length-map, get_or-map}
use Rattle.std.proofs.lemmas.List.Folds.{Any-from_list_any}
use Rattle.std.proofs.lemmas.Map.Keys.{IsDistinct-from_apart}
use Rattle.std.proofs.lemmas.Map.Steps.{length-le_from_distinct_below}
use Rattle.posting.specs.declared.pages.Slot.{Slot}
use Rattle.posting.specs.declared.pages.Slot.TheVariants.{Free, One, Listed}
use Rattle.posting.specs.declared.owned.Owned.{Owned}
use Rattle.posting.specs.Private.Pages.{trigram_count, slot_of, free_limit, no_list, owner_at, set_in_slot, set_of_list, set_at, IsUnlisted, IsSound}
use Rattle.posting.specs.Private.PageTable.{PageTable}

pub same_place : (j k : ℕ) → Listed j ≡ Listed k → j ≡ k
same_place j k e = cc

-- no two lists have one owner, so there are at most as many as trigrams
pub length-lists : (slots : ℕ → Slot) (lists : List Owned) → IsSound slots lists → length lists ≤ trigram_count
length-lists slots lists h =
    let most = length-le_from_distinct_below (map (λ o. o.trigram) lists) trigram_count (IsDistinct-from_apart eqb (map (λ o. o.trigram) lists) apart) below in
    omega (arith, most, length-map lists (λ o. o.trigram))
  where
    owner : (k d : ℕ) → k < length (map (λ o. o.trigram) lists) → get_or (map (λ o. o.trigram) lists) k d ≡ owner_at lists k
    owner k d inside = get_or-map (λ o. o.trigram) lists k no_list d (omega (arith, length-map lists (λ o. o.trigram)))

    apart : (i j d : ℕ) → i < j → j < length (map (λ o. o.trigram) lists)
        → eqb (get_or (map (λ o. o.trigram) lists) i d) (get_or (map (λ o. o.trigram) lists) j d) ≡ false
    apart i j d before inside =
        let long = length-map lists (λ o. o.trigram) in
        let here = h.slot i (omega arith) in
        let there = h.slot j (omega arith) in
        let differ : owner_at lists i ≢ owner_at lists j = λ e. (let same = same_place i j (sym here ∙ ap slots e ∙ there) in omega arith) in
        rw (owner i d (omega arith), owner j d inside) (grind (arith, nat_tests))

    below : (t : ℕ) → list_any (eqb t) (map (λ o. o.trigram) lists) ≡ true → t < trigram_count
    below t there =
        let found = Any-from_list_any (eqb t) (map (λ o. o.trigram) lists) there in
        let long = length-map lists (λ o. o.trigram) in
        let is : t ≡ found.1 = grind (arith, nat_tests, found.4) in
        let low = h.bound found.0 (omega (arith, found.2)) in
        omega (arith, is, low, owner found.0 found.1 found.2, found.3)

-- the slots after one of them was written
abbrev pub IsWritten : (ℕ → Slot) → (ℕ → Slot) → ℕ → Slot → Type 0
IsWritten old new trigram slot = (t : ℕ) → new t ≡ cond (t == trigram) slot (old t)

pub written_here : (old new : ℕ → Slot) (trigram : ℕ) (slot : Slot) → IsWritten old new trigram slot → new trigram ≡ slot
written_here old new trigram slot h = h trigram ∙ rw (eq-eqb trigram trigram refl) refl

pub written_other : (old new : ℕ → Slot) (trigram : ℕ) (slot : Slot) → IsWritten old new trigram slot → (t : ℕ) → t ≢ trigram → new t ≡ old t
written_other old new trigram slot h t ne = let e : (t == trigram) ≡ false = grind (arith, nat_tests) in h t ∙ rw e refl

-- slots that are the same
pub IsSound-same : (slots slots' : ℕ → Slot) (lists : List Owned) → ((t : ℕ) → slots' t ≡ slots t) → IsSound slots lists → IsSound slots' lists
IsSound-same slots slots' lists same h = record {
  within = λ t place e. h.within t place (sym (same t) ∙ e);
  owner = λ t place e. h.owner t place (sym (same t) ∙ e);
  slot = λ place inside. same (owner_at lists place) ∙ h.slot place inside;
  bound = h.bound;
}

-- the set of a slot is the same if the list to which it leads is
pub set_in-kept : (lists lists' : List Owned) (limit : ℕ) (slot : Slot)
    → ((place : ℕ) → slot ≡ Listed place → get_or lists' place no_list ≡ get_or lists place no_list)
    → set_in_slot lists' limit slot ≡ set_in_slot lists limit slot
set_in-kept lists lists' limit Free same = refl
set_in-kept lists lists' limit (One number) same = refl
set_in-kept lists lists' limit (Listed place) same = ap (λ o. set_of_list o.list) (same place refl)

pub set_at-is : (pages : PageTable) (lists : List Owned) (t : ℕ) → set_at pages lists t ≡ set_in_slot lists (free_limit pages t) (slot_of pages t)
unfolding set_at
set_at-is pages lists t = refl

-- where limits are the same
pub set_at-kept : (pages pages' : PageTable) (lists lists' : List Owned) (t : ℕ) → free_limit pages' t ≡ free_limit pages t
    → ((limit : ℕ) → set_in_slot lists' limit (slot_of pages' t) ≡ set_in_slot lists limit (slot_of pages t))
    → set_at pages' lists' t ≡ set_at pages lists t
set_at-kept pages pages' lists lists' t limits same =
    set_at-is pages' lists' t ∙ same (free_limit pages' t) ∙ ap (λ limit. set_in_slot lists limit (slot_of pages t)) limits ∙ sym (set_at-is pages lists t)

-- ---- a new list for a trigram that had none

module _ (slots slots' : ℕ → Slot) (lists : List Owned) (trigram : ℕ) (x : Owned) (sound : IsSound slots lists) (below : trigram < trigram_count)
    (own : x.trigram ≡ trigram) (unlisted : IsUnlisted (slots trigram)) (written : IsWritten slots slots' trigram (Listed (length lists))) where
  here : slots' trigram ≡ Listed (length lists)
  here = written_here slots slots' trigram (Listed (length lists)) written

  elsewhere : (t : ℕ) → t ≢ trigram → slots' t ≡ slots t
  elsewhere = written_other slots slots' trigram (Listed (length lists)) written

  owner-before : (k : ℕ) → k < length lists → owner_at (lists ++ x ∷ []) k ≡ owner_at lists k
  owner-before k inside = ap (λ o. o.trigram) (get_or_append_left lists (x ∷ []) no_list k inside)

  owner-push : (k : ℕ) → length lists ≡ k → owner_at (lists ++ x ∷ []) k ≡ trigram
  owner-push k end = ap (λ o. o.trigram) (get_or_push lists x no_list k end) ∙ own

  pub IsSound-listed : IsSound slots' (lists ++ x ∷ [])
  IsSound-listed = record {
    within = λ t k e. rw (length_push lists x) (within t k e (cases_eq t trigram));
    owner = λ t k e. owner t k e (cases_eq t trigram);
    slot = λ k inside. slot k (rw (length_push lists x) at inside) (cases_lt k (length lists));
    bound = λ k inside. bound k (rw (length_push lists x) at inside) (cases_lt k (length lists));
  }
    where
      within : (t k : ℕ) → slots' t ≡ Listed k → (t ≡ trigram) ⊎ (t ≢ trigram) → k < length lists + 1
      within t k e (inl is) = let same = same_place k (length lists) (sym e ∙ ap slots' is ∙ here) in omega arith
      within t k e (inr ne) = omega (arith, sound.within t k (sym (elsewhere t ne) ∙ e))

      owner : (t k : ℕ) → slots' t ≡ Listed k → (t ≡ trigram) ⊎ (t ≢ trigram) → owner_at (lists ++ x ∷ []) k ≡ t
      owner t k e (inl is) = owner-push k (sym (same_place k (length lists) (sym e ∙ ap slots' is ∙ here))) ∙ sym is
      owner t k e (inr ne) =
          let was : slots t ≡ Listed k = sym (elsewhere t ne) ∙ e in
          owner-before k (sound.within t k was) ∙ sound.owner t k was

      slot : (k : ℕ) → k < length lists + 1 → (k < length lists) ⊎ (length lists ≤ k) → slots' (owner_at (lists ++ x ∷ []) k) ≡ Listed k
      slot k inside (inl before) =
          let was = sound.slot k before in
          let other : owner_at lists k ≢ trigram = λ e. unlisted k (sym (ap slots e) ∙ was) in
          ap slots' (owner-before k before) ∙ elsewhere (owner_at lists k) other ∙ was
      slot k inside (inr past) =
          let end : length lists ≡ k = omega arith in
          ap slots' (owner-push k end) ∙ here ∙ ap Listed end

      bound : (k : ℕ) → k < length lists + 1 → (k < length lists) ⊎ (length lists ≤ k) → owner_at (lists ++ x ∷ []) k < trigram_count
      bound k inside (inl before) = subst (λ t. t < trigram_count) (sym (owner-before k before)) (sound.bound k before)
      bound k inside (inr past) = subst (λ t. t < trigram_count) (sym (owner-push k (omega arith))) below

  pub set-listed : (limit : ℕ) → set_in_slot (lists ++ x ∷ []) limit (slots' trigram) ≡ set_of_list x.list
  set-listed limit = rw here (ap (λ o. set_of_list o.list) (get_or_push lists x no_list (length lists) refl))

  pub sets-listed : (limit t : ℕ) → t ≢ trigram → set_in_slot (lists ++ x ∷ []) limit (slots' t) ≡ set_in_slot lists limit (slots t)
  sets-listed limit t ne =
      rw (elsewhere t ne)
      (set_in-kept lists (lists ++ x ∷ []) limit (slots t) (λ place e. get_or_append_left lists (x ∷ []) no_list place (sound.within t place e)))

-- ---- a list that is dropped, as the last one moves to its place

-- what `swap_remove` does at a place where there is a list
pub record SwappedOut (lists lists' : List Owned) (place : ℕ) : Type 0 where
  pub len : length lists' + 1 ≡ length lists
  pub moved : place < length lists' → get_or lists' place no_list ≡ get_or lists (length lists') no_list
  pub stayed : (k : ℕ) → k ≢ place → k < length lists' → get_or lists' k no_list ≡ get_or lists k no_list

pub swapped_out : (lists lists' : List Owned) (place old new : ℕ) → old ≡ length lists → new ≡ length lists' → new + 1 ≡ old
    → ((d : Owned) → place + 1 < old → get_or lists' place d ≡ get_or lists (old - 1) d)
    × ((k : ℕ) (d : Owned) → k ≢ place → k + 1 < old → get_or lists' k d ≡ get_or lists k d) → SwappedOut lists lists' place
swapped_out lists lists' place old new is is' one by_index = record {
  len = omega arith;
  moved = λ before. (let end : old - 1 ≡ length lists' = omega arith in by_index.0 no_list (omega arith) ∙ ap (λ k. get_or lists k no_list) end);
  stayed = λ k other inside. by_index.1 k no_list other (omega arith);
}

pub record Dropped (slots slots' : ℕ → Slot) (lists lists' : List Owned) (trigram place : ℕ) (slot : Slot) : Type 0 where
  pub listed : slots trigram ≡ Listed place
  pub swapped : SwappedOut lists lists' place
  pub gone : slots' trigram ≡ slot
  pub unlisted : IsUnlisted slot
  pub slot_moved : place < length lists' → slots' (owner_at lists (length lists')) ≡ Listed place
  pub others : (t : ℕ) → t ≢ trigram → t ≢ owner_at lists (length lists') → slots' t ≡ slots t

module _ (slots emptied : ℕ → Slot) (lists lists' : List Owned) (trigram place : ℕ) (slot : Slot) (sound : IsSound slots lists)
    (listed : slots trigram ≡ Listed place) (swapped : SwappedOut lists lists' place) (unlisted : IsUnlisted slot)
    (gone : IsWritten slots emptied trigram slot) where
  empty_here : emptied trigram ≡ slot
  empty_here = written_here slots emptied trigram slot gone

  empty_other : (t : ℕ) → t ≢ trigram → emptied t ≡ slots t
  empty_other = written_other slots emptied trigram slot gone

  -- the list that was dropped was the last one
  pub dropped_last : length lists' ≤ place → Dropped slots emptied lists lists' trigram place slot
  dropped_last end = record {
    listed = listed;
    swapped = swapped;
    gone = empty_here;
    unlisted = unlisted;
    slot_moved = λ before. absurd (omega arith);
    others = λ t other _. empty_other t other;
  }

  -- the last list moved to the place of the dropped one
  moved_owner : place < length lists' → owner_at lists' place ≡ owner_at lists (length lists')
  moved_owner before = ap (λ o. o.trigram) (swapped.moved before)

  moved_slot_was : place < length lists' → slots (owner_at lists' place) ≡ Listed (length lists')
  moved_slot_was before = ap slots (moved_owner before) ∙ sound.slot (length lists') (omega (arith, swapped.len))

  moved_other : place < length lists' → owner_at lists' place ≢ trigram
  moved_other before e =
      let same = same_place place (length lists') (sym listed ∙ sym (ap slots e) ∙ moved_slot_was before) in
      absurd (omega arith)

  pub dropped_moved : (slots' : ℕ → Slot) (owner : ℕ) → place < length lists' → owner ≡ owner_at lists' place
      → IsWritten emptied slots' owner (Listed place) → Dropped slots slots' lists lists' trigram place slot
  dropped_moved slots' owner before owns named = record {
    listed = listed;
    swapped = swapped;
    gone = kept trigram (λ same. moved_other before (sym (same ∙ owns))) ∙ empty_here;
    unlisted = unlisted;
    slot_moved = λ _. ap slots' (sym (owns ∙ moved_owner before)) ∙ written_here emptied slots' owner (Listed place) named;
    others = λ t other differs. kept t (λ e. differs (e ∙ owns ∙ moved_owner before)) ∙ empty_other t other;
  }
    where
      kept : (t : ℕ) → t ≢ owner → slots' t ≡ emptied t
      kept = written_other emptied slots' owner (Listed place) named

module _ (slots slots' : ℕ → Slot) (lists lists' : List Owned) (trigram place : ℕ) (put : Slot) (sound : IsSound slots lists)
    (h : Dropped slots slots' lists lists' trigram place put) where
  -- a trigram is the one of the dropped list, the one of the list that moved, or another one
  record Moves (t : ℕ) : Type 0 where
    other : t ≢ trigram
    owns : owner_at lists (length lists') ≡ t
    before : place < length lists'

  record Stays (t : ℕ) : Type 0 where
    other : t ≢ trigram
    slot : slots' t ≡ slots t
    not_last : owner_at lists (length lists') ≢ t

  kinds : (t : ℕ) → (t ≡ trigram) ⊎ (Moves t ⊎ Stays t)
  kinds t = first (cases_eq t trigram)
    where
      first : (t ≡ trigram) ⊎ (t ≢ trigram) → (t ≡ trigram) ⊎ (Moves t ⊎ Stays t)
      first (inl e) = inl e
      first (inr other) = inr (then (cases_eq t (owner_at lists (length lists'))) (cases_lt place (length lists')))
        where
          then : (t ≡ owner_at lists (length lists')) ⊎ (t ≢ owner_at lists (length lists'))
              → (place < length lists') ⊎ (length lists' ≤ place) → Moves t ⊎ Stays t
          then (inl e) (inl before) = inl (record { other = other; owns = sym e; before = before })
          then (inl e) (inr end) =
              let is : place ≡ length lists' = omega (arith, sound.within trigram place h.listed, h.swapped.len) in
              absurd (other (e ∙ sym (ap (owner_at lists) is) ∙ sound.owner trigram place h.listed))
          then (inr differs) _ = inr (record { other = other; slot = h.others t other differs; not_last = λ e. differs (sym e) })

  moved_slot : (t : ℕ) → Moves t → slots' t ≡ Listed place
  moved_slot t m = sym (ap slots' m.owns) ∙ h.slot_moved m.before

  -- a list that stays is neither the last one nor the dropped one
  stays_apart : (t k : ℕ) → Stays t → slots t ≡ Listed k → k ≢ place
  stays_apart t k s e is = s.other (sym (sound.owner t k e) ∙ ap (owner_at lists) is ∙ sound.owner trigram place h.listed)

  stays_within : (t k : ℕ) → Stays t → slots t ≡ Listed k → k < length lists'
  stays_within t k s e = cases (cases_eq k (length lists'))
    where
      cases : (k ≡ length lists') ⊎ (k ≢ length lists') → k < length lists'
      cases (inl is) = absurd (s.not_last (sym (ap (owner_at lists) is) ∙ sound.owner t k e))
      cases (inr ne) = omega (arith, sound.within t k e, h.swapped.len)

  pub IsSound-dropped : IsSound slots' lists'
  IsSound-dropped = record {
    within = λ t k e. within t k e (kinds t);
    owner = λ t k e. owner t k e (kinds t);
    slot = λ k inside. leads k inside (cases_eq k place);
    bound = λ k inside. bound k inside (cases_eq k place);
  }
    where
      within : (t k : ℕ) → slots' t ≡ Listed k → (t ≡ trigram) ⊎ (Moves t ⊎ Stays t) → k < length lists'
      within t k e (inl is) = absurd (h.unlisted k (sym (ap slots' is ∙ h.gone) ∙ e))
      within t k e (inr (inl m)) = let same = same_place k place (sym e ∙ moved_slot t m) in omega (arith, m.before)
      within t k e (inr (inr s)) = stays_within t k s (sym s.slot ∙ e)

      owner : (t k : ℕ) → slots' t ≡ Listed k → (t ≡ trigram) ⊎ (Moves t ⊎ Stays t) → owner_at lists' k ≡ t
      owner t k e (inl is) = absurd (h.unlisted k (sym (ap slots' is ∙ h.gone) ∙ e))
      owner t k e (inr (inl m)) =
          let is = same_place k place (sym e ∙ moved_slot t m) in
          ap (owner_at lists') is ∙ ap (λ o. o.trigram) (h.swapped.moved m.before) ∙ m.owns
      owner t k e (inr (inr s)) =
          let was : slots t ≡ Listed k = sym s.slot ∙ e in
          ap (λ o. o.trigram) (h.swapped.stayed k (stays_apart t k s was) (stays_within t k s was)) ∙ sound.owner t k was

      leads : (k : ℕ) → k < length lists' → (k ≡ place) ⊎ (k ≢ place) → slots' (owner_at lists' k) ≡ Listed k
      leads k inside (inl is) =
          let before : place < length lists' = omega arith in
          ap slots' (ap (owner_at lists') is ∙ ap (λ o. o.trigram) (h.swapped.moved before)) ∙ h.slot_moved before ∙ sym (ap Listed is)
      leads k inside (inr other) =
          let was = sound.slot k (omega (arith, h.swapped.len)) in
          let end = sound.slot (length lists') (omega (arith, h.swapped.len)) in
          let not_it : owner_at lists k ≢ trigram = λ e. other (same_place k place (sym was ∙ ap slots e ∙ h.listed)) in
          let not_last : owner_at lists k ≢ owner_at lists (length lists') =
          λ e. (let same = same_place k (length lists') (sym was ∙ ap slots e ∙ end) in omega arith) in
          ap slots' (ap (λ o. o.trigram) (h.swapped.stayed k other inside)) ∙ h.others (owner_at lists k) not_it not_last ∙ was

      bound : (k : ℕ) → k < length lists' → (k ≡ place) ⊎ (k ≢ place) → owner_at lists' k < trigram_count
      bound k inside (inl is) =
          subst (λ t. t < trigram_count) (sym (ap (owner_at lists') is ∙ ap (λ o. o.trigram) (h.swapped.moved (omega arith))))
          (sound.bound (length lists') (omega (arith, h.swapped.len)))
      bound k inside (inr other) =
          subst (λ t. t < trigram_count) (sym (ap (λ o. o.trigram) (h.swapped.stayed k other inside)))
          (sound.bound k (omega (arith, h.swapped.len)))

  pub sets-dropped : (limit t : ℕ) → t ≢ trigram → set_in_slot lists' limit (slots' t) ≡ set_in_slot lists limit (slots t)
  sets-dropped limit t other = cases (kinds t)
    where
      cases : (t ≡ trigram) ⊎ (Moves t ⊎ Stays t) → set_in_slot lists' limit (slots' t) ≡ set_in_slot lists limit (slots t)
      cases (inl e) = absurd (other e)
      cases (inr (inl m)) =
          let was : slots t ≡ Listed (length lists') = sym (ap slots m.owns) ∙ sound.slot (length lists') (omega (arith, h.swapped.len)) in
          ap (set_in_slot lists' limit) (moved_slot t m) ∙ ap (λ o. set_of_list o.list) (h.swapped.moved m.before)
          ∙ sym (ap (set_in_slot lists limit) was)
      cases (inr (inr s)) =
          ap (set_in_slot lists' limit) s.slot
          ∙ set_in-kept lists lists' limit (slots t) (λ k e. h.swapped.stayed k (stays_apart t k s e) (stays_within t k s e))
