-- Relations on a line and on a text that agree.
use Rattle.std.proofs.Common.{◌≡◌, ℕ, zero, suc, ◌+◌, ◌-◌, ◌≤◌, ◌⊎◌, inl, inr, refl, sym, subst, arith}
use Rattle.spans.specs.Spans.{Relation, Steps}
use Rattle.matcher.proofs.Walks.{Then, steps_join, steps_split}
use Rattle.regex_hir.specs.Matches.{Rounds, one_round, next_round}
use Rattle.engine.specs.Translation.{Agrees}

-- the relation on the line, replaced by an equivalent one
pub agrees_as : (size at : ℕ) (inside other outside : Relation) → ((i k : ℕ) → other i k → inside i k)
    → ((i k : ℕ) → inside i k → other i k) → Agrees size at inside outside → Agrees size at other outside
agrees_as size at inside other outside to_it from_it h = record {
  there = λ i k low r. h.there i k low (to_it i k r);
  back = λ i e low r. let b = h.back i e low r in (b.0, b.1, b.2, from_it i b.0 b.3);
}

pub agrees_stay : (size at : ℕ) → Agrees size at (λ i k. i ≡ k) (λ i k. k ≡ i)
agrees_stay size at = record {
  there = λ i k low r. (omega arith, omega arith);
  back = λ i e low r. (i, r, low, refl);
}

pub agrees_nowhere : (size at : ℕ) (inside outside : Relation) → ((i k : ℕ) → inside i k → ⊥) → ((i k : ℕ) → outside i k → ⊥) → Agrees size at inside outside
agrees_nowhere size at inside outside never neither = record {
  there = λ i k low r. absurd (never i k r);
  back = λ i e low r. absurd (neither (at + i) e r);
}

pub agrees_then : (size at : ℕ) (first second one two : Relation) → Agrees size at first one → Agrees size at second two
    → Agrees size at (Then first second) (Then one two)
agrees_then size at first second one two h g = record {
  there = λ i k low r. let a = h.there i r.0 low r.1 in let b = g.there r.0 k a.0 r.2 in (b.0, (at + r.0, a.1, b.1));
  back = λ i e low r. let a = h.back i r.0 low r.1 in let b = g.back a.0 e a.2 (subst (λ m. two m e) a.1 r.2) in (b.0, b.1, b.2, (a.0, a.3, b.3));
}

pub agrees_or : (size at : ℕ) (first second one two : Relation) → Agrees size at first one → Agrees size at second two
    → Agrees size at (λ i k. first i k ⊎ second i k) (λ i k. one i k ⊎ two i k)
agrees_or size at first second one two h g = record { there = there; back = back }
  where
    there : (i k : ℕ) → i ≤ size → first i k ⊎ second i k → (k ≤ size) × (one (at + i) (at + k) ⊎ two (at + i) (at + k))
    there i k low (inl r) = let t = h.there i k low r in (t.0, inl t.1)
    there i k low (inr r) = let t = g.there i k low r in (t.0, inr t.1)

    back : (i e : ℕ) → i ≤ size → one (at + i) e ⊎ two (at + i) e → (to : ℕ) × (e ≡ at + to) × (to ≤ size) × (first i to ⊎ second i to)
    back i e low (inl r) = let b = h.back i e low r in (b.0, b.1, b.2, inl b.3)
    back i e low (inr r) = let b = g.back i e low r in (b.0, b.1, b.2, inr b.3)

-- ---- counts

steps_in_front : (relation : Relation) (count : ℕ) (i m k : ℕ) → relation i m → Steps relation count m k → Steps relation (suc count) i k
unfolding Steps
steps_in_front relation zero i m k r s = (i, refl, subst (λ x. relation i x) s r)
steps_in_front relation (suc count) i m k r s = (s.0, steps_in_front relation count i m s.0 r s.1, s.2)

front_of_steps : (relation : Relation) (count : ℕ) (i k : ℕ) → Steps relation (suc count) i k → Then relation (Steps relation count) i k
unfolding Steps
front_of_steps relation zero i k s = (k, subst (λ x. relation x k) (sym s.1) s.2, refl)
front_of_steps relation (suc count) i k s = let f = front_of_steps relation count i s.0 s.1 in (f.0, f.1, (s.0, f.2, s.2))

-- one step or more
abbrev pub Some-steps : Relation → Relation
Some-steps relation i k = (count : ℕ) × Steps relation (suc count) i k

pub agrees_rounds : (size at : ℕ) (relation round : Relation) → Agrees size at relation round → Agrees size at (Some-steps relation) (λ i k. Rounds round i k)
unfolding Steps
agrees_rounds size at relation round h = record { there = λ i k low s. there s.0 i k low s.1; back = λ i e low r. back i e low r }
  where
    there : (count : ℕ) (i k : ℕ) → i ≤ size → Steps relation (suc count) i k → (k ≤ size) × Rounds round (at + i) (at + k)
    there zero i k low s =
        let t = h.there i k low (subst (λ x. relation x k) (sym s.1) s.2) in
        (t.0, one_round (at + k) t.1)
    there (suc count) i k low s =
        let front = there count i s.0 low s.1 in
        let t = h.there s.0 k front.0 s.2 in
        (t.0, next_round (at + s.0) (at + k) front.1 t.1)

    back : (i e : ℕ) → i ≤ size → Rounds round (at + i) e → (to : ℕ) × (e ≡ at + to) × (to ≤ size) × Some-steps relation i to
    back i e low (one_round _ r) = let b = h.back i e low r in (b.0, b.1, b.2, (0, (i, refl, b.3)))
    back i e low (next_round l _ rs r) =
        let front = back i l low rs in
        let b = h.back front.0 e front.2 (subst (λ m. round m e) front.1 r) in
        (b.0, b.1, b.2, (suc front.3.0, (front.0, front.3.1, b.3)))

-- this many steps, and then another relation
pub agrees_next_copy : (size at : ℕ) (relation rest : Relation) (count : ℕ) (one others : Relation) → Agrees size at relation one
    → Agrees size at (Then (Steps relation count) rest) others → Agrees size at (Then (Steps relation (suc count)) rest) (Then one others)
agrees_next_copy size at relation rest count one others h g =
    agrees_as size at (Then relation (Then (Steps relation count) rest)) (Then (Steps relation (suc count)) rest) (Then one others)
    (λ i k r. let f = front_of_steps relation count i r.0 r.1 in (f.0, f.1, (r.0, f.2, r.2)))
    (λ i k r. (r.2.0, steps_in_front relation count i r.0 r.2.0 r.1 r.2.1, r.2.2))
    (agrees_then size at relation (Then (Steps relation count) rest) one others h g)

pub agrees_no_copy : (size at : ℕ) (relation rest others : Relation) → Agrees size at rest others → Agrees size at (Then (Steps relation 0) rest) others
unfolding Steps
agrees_no_copy size at relation rest others g =
    agrees_as size at rest (Then (Steps relation 0) rest) others (λ i k r. subst (λ x. rest x k) (sym r.1) r.2) (λ i k r. (i, refl, r)) g

-- at most this many steps
abbrev pub Few-steps : Relation → ℕ → Relation
Few-steps relation most i k = (count : ℕ) × (count ≤ most) × Steps relation count i k

pub few_none : (relation : Relation) (i k : ℕ) → Few-steps relation 0 i k → i ≡ k
unfolding Steps
few_none relation i k (zero, low, s) = s
few_none relation i k (suc count, low, s) = absurd (omega arith)

pub few_stay : (relation : Relation) (most i k : ℕ) → i ≡ k → Few-steps relation most i k
unfolding Steps
few_stay relation most i k e = (0, omega arith, e)

pub few_split : (relation : Relation) (most i k : ℕ) → Few-steps relation (suc most) i k → Then relation (Few-steps relation most) i k ⊎ (i ≡ k)
unfolding Steps
few_split relation most i k (zero, low, s) = inr s
few_split relation most i k (suc count, low, s) = let f = front_of_steps relation count i k s in inl (f.0, f.1, (count, omega arith, f.2))

pub few_more : (relation : Relation) (most i k : ℕ) → Then relation (Few-steps relation most) i k → Few-steps relation (suc most) i k
few_more relation most i k r = (suc r.2.0, omega (arith, r.2.1), steps_in_front relation r.2.0 i r.0 k r.1 r.2.2)

-- at least this many steps
abbrev pub Many-steps : Relation → ℕ → Relation
Many-steps relation least i k = (count : ℕ) × (least ≤ count) × Steps relation count i k

pub many_split : (relation : Relation) (i k : ℕ) → Many-steps relation 0 i k → Some-steps relation i k ⊎ (i ≡ k)
unfolding Steps
many_split relation i k (zero, low, s) = inr s
many_split relation i k (suc count, low, s) = inl (count, s)

steps_apart : (relation : Relation) (first rest : ℕ) (i k : ℕ) → Steps relation (first + suc rest) i k → Then (Steps relation first) (Some-steps relation) i k
unfolding Steps
steps_apart relation first zero i k s =
    let same : first + suc zero ≡ suc first = omega arith in
    let t = subst (λ n. Steps relation n i k) same s in
    (t.0, t.1, (0, (t.0, refl, t.2)))
steps_apart relation first (suc rest) i k s =
    let same : first + suc (suc rest) ≡ suc (first + suc rest) = omega arith in
    let t = subst (λ n. Steps relation n i k) same s in
    let f = steps_apart relation first rest i t.0 t.1 in
    (f.0, f.1, (suc f.2.0, (t.0, f.2.1, t.2)))

pub many_apart : (relation : Relation) (first i k : ℕ) → Many-steps relation (suc first) i k → Then (Steps relation first) (Some-steps relation) i k
many_apart relation first i k (count, low, s) =
    let same : count ≡ first + suc (count - suc first) = omega arith in
    steps_apart relation first (count - suc first) i k (subst (λ n. Steps relation n i k) same s)

pub many_of : (relation : Relation) (first i k : ℕ) → Then (Steps relation first) (Some-steps relation) i k → Many-steps relation (suc first) i k
many_of relation first i k r = (first + suc r.2.0, omega arith, steps_join relation first (suc r.2.0) i r.0 k r.1 r.2.1)

pub many_none : (relation : Relation) (i k : ℕ) → i ≡ k → Many-steps relation 0 i k
unfolding Steps
many_none relation i k e = (0, omega arith, e)

-- `least` to `most` steps are `least` steps, and then at most the difference
pub few_apart : (relation : Relation) (least most i k : ℕ) → least ≤ most
    → (count : ℕ) × (least ≤ count) × (count ≤ most) × Steps relation count i k
    → Then (Steps relation least) (Few-steps relation (most - least)) i k
few_apart relation least most i k low (count, above, below, s) =
    let same : count ≡ least + (count - least) = omega arith in
    let f = steps_split relation least (count - least) i k (subst (λ n. Steps relation n i k) same s) in
    (f.0, f.1, (count - least, omega arith, f.2))

pub few_of : (relation : Relation) (least most i k : ℕ) → least ≤ most → Then (Steps relation least) (Few-steps relation (most - least)) i k
    → (count : ℕ) × (least ≤ count) × (count ≤ most) × Steps relation count i k
few_of relation least most i k low r = (least + r.2.0, omega arith, omega (arith, r.2.1), steps_join relation least r.2.0 i r.0 k r.1 r.2.2)
