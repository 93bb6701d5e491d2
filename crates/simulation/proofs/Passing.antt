-- Bits that move down by strides.
use Rattle.std.proofs.Common.{◌≡◌, ℕ, zero, suc, ◌+◌, ◌-◌, ◌*◌, ◌<◌, ◌≤◌, ◌==◌, ◌^◌, Bool, ◌&&◌, ◌||◌, IsTrue, ◌⊎◌, ◌↔◌, inl, inr, sym, ap, subst, ◌∙◌, arith}
use Rattle.std.proofs.Math.Nat.{mul-le-mul_right}
use Rattle.std.proofs.lemmas.Nat.Bits.{bit_at_above}
use Rattle.ere.specs.Bits.{has_bit}
use Rattle.ere.proofs.Bits.{has_zero}
use Rattle.spans.proofs.Bits.{false≢true}
use Rattle.simulation.specs.Private.Rows.{Passes}
use Rattle.simulation.proofs.Tests.{or_cases, or_left, or_right, and_left, and_right, and_both}
use Rattle.simulation.proofs.Forward.{le_or_lt}

-- The same as `Passes`, in less than so many steps.
abbrev pub PassesWithin : ℕ → ℕ → ℕ → ℕ → ℕ → Type 0
PassesWithin word passed stride reach bit =
    (steps : ℕ) × (steps < reach) × IsTrue (has_bit word (bit + steps * stride))
    × ((step : ℕ) → step < steps → IsTrue (has_bit passed (bit + step * stride)))

-- All bits of some steps are there.
abbrev pub AreOn : ℕ → ℕ → ℕ → ℕ → Type 0
AreOn passed stride reach bit = (step : ℕ) → step < reach → IsTrue (has_bit passed (bit + step * stride))

-- A word has what comes from less than a distance above, and another says where all on the way can be passed.
pub record IsPassed (word passed stride now ways distance : ℕ) : Type 0 where
  pub reach : ℕ
  pub some : 0 < reach
  pub far : distance ≡ reach * stride
  pub found : (bit : ℕ) → IsTrue (has_bit now bit) ↔ PassesWithin word passed stride reach bit
  pub on : (bit : ℕ) → IsTrue (has_bit ways bit) ↔ AreOn passed stride reach bit

pub passed_first : (word passed stride : ℕ) → IsPassed word passed stride word passed stride
passed_first word passed stride = record {
  reach = 1;
  some = omega arith;
  far = omega arith;
  found = λ bit. (
    λ h. (0, (let low : 0 < 1 = omega arith in low), subst (λ n. IsTrue (has_bit word n)) (here bit) h, λ step none. absurd (omega arith)),
    λ any. (let zero_is : any.0 ≡ 0 = (let low = any.1 in omega arith) in
        subst (λ n. IsTrue (has_bit word n)) (sym (here bit)) (subst (λ n. IsTrue (has_bit word (bit + n * stride))) zero_is any.2)),
  );
  on = λ bit. (
    λ h step low. (let zero_is : 0 ≡ step = omega arith in
        subst (λ n. IsTrue (has_bit passed (bit + n * stride))) zero_is (subst (λ n. IsTrue (has_bit passed n)) (here bit) h)),
    λ all. subst (λ n. IsTrue (has_bit passed n)) (sym (here bit)) (all 0 (omega arith)),
  );
}
  where
    here : (bit : ℕ) → bit ≡ bit + 0 * stride
    here bit = omega arith

pub passed_more : (word passed stride now ways distance moved next moved_ways next_ways : ℕ) → IsPassed word passed stride now ways distance
    → ((bit : ℕ) → has_bit moved bit ≡ has_bit now (distance + bit))
    → ((bit : ℕ) → has_bit next bit ≡ (has_bit now bit || (has_bit moved bit && has_bit ways bit)))
    → ((bit : ℕ) → has_bit moved_ways bit ≡ has_bit ways (distance + bit))
    → ((bit : ℕ) → has_bit next_ways bit ≡ (has_bit ways bit && has_bit moved_ways bit))
    → IsPassed word passed stride next next_ways (distance * 2)
passed_more word passed stride now ways distance moved next moved_ways next_ways before moved_is next_is moved_ways_is next_ways_is = record {
  reach = 2 * before.reach;
  some = let some = before.some in omega arith;
  far = let far = before.far in omega arith;
  found = λ bit. (there bit, back bit);
  on = λ bit. (on_there bit, on_back bit);
}
  where
    reach : ℕ
    reach = before.reach

    far : distance ≡ reach * stride
    far = before.far

    -- so many steps and then some more
    place : (bit step : ℕ) → bit + (reach + step) * stride ≡ distance + bit + step * stride
    place bit step = omega (arith, far)

    later : (P : ℕ → Bool) (bit step : ℕ) → reach ≤ step → IsTrue (P (distance + bit + (step - reach) * stride)) → IsTrue (P (bit + step * stride))
    later P bit step past h =
        let whole : reach + (step - reach) ≡ step = omega arith in
        subst (λ n. IsTrue (P (bit + n * stride))) whole (subst (λ n. IsTrue (P n)) (sym (place bit (step - reach))) h)

    sooner : (P : ℕ → Bool) (bit step : ℕ) → IsTrue (P (bit + (reach + step) * stride)) → IsTrue (P (distance + bit + step * stride))
    sooner P bit step h = subst (λ n. IsTrue (P n)) (place bit step) h

    there : (bit : ℕ) → IsTrue (has_bit next bit) → PassesWithin word passed stride (2 * reach) bit
    there bit h =
        elim (or_cases (has_bit now bit) (has_bit moved bit && has_bit ways bit) (sym (next_is bit) ∙ h)) [
          | inl a ↦ (let any = (before.found bit).0 a in let up : any.0 < 2 * reach = (let low = any.1 in omega arith) in (any.0, up, any.2, any.3))
          | inr c ↦
              (let any = (before.found (distance + bit)).0 (sym (moved_is bit) ∙ and_left (has_bit moved bit) (has_bit ways bit) c) in
              let all = (before.on bit).0 (and_right (has_bit moved bit) (has_bit ways bit) c) in
              let up : reach + any.0 < 2 * reach = (let low = any.1 in omega arith) in (
                reach + any.0,
                up,
                subst (λ n. IsTrue (has_bit word n)) (sym (place bit any.0)) any.2,
                λ step low.
                    elim (le_or_lt reach step) [
                      | inl past ↦ later (has_bit passed) bit step past (any.3 (step - reach) (omega arith))
                      | inr under ↦ all step under
                    ],
              ))
        ]

    back : (bit : ℕ) → PassesWithin word passed stride (2 * reach) bit → IsTrue (has_bit next bit)
    back bit (steps, low, set, all) =
        elim (le_or_lt reach steps) [
          | inl past ↦
              (let whole : reach + (steps - reach) ≡ steps = omega arith in
              let under : steps - reach < reach = omega arith in
              let from : IsTrue (has_bit moved bit) =
              moved_is bit
              ∙ (before.found (distance + bit)).1 (
                steps - reach,
                under,
                sooner (has_bit word) bit (steps - reach) (subst (λ n. IsTrue (has_bit word (bit + n * stride))) (sym whole) set),
                λ step few. sooner (has_bit passed) bit step (all (reach + step) (omega arith)),
              ) in
              let ways_on : IsTrue (has_bit ways bit) = (before.on bit).1 (λ step few. all step (omega arith)) in
              next_is bit ∙ or_right (has_bit now bit) (has_bit moved bit && has_bit ways bit) (and_both (has_bit moved bit) (has_bit ways bit) from ways_on))
          | inr under ↦ next_is bit ∙ or_left (has_bit now bit) (has_bit moved bit && has_bit ways bit) ((before.found bit).1 (steps, under, set, all))
        ]

    on_there : (bit : ℕ) → IsTrue (has_bit next_ways bit) → AreOn passed stride (2 * reach) bit
    on_there bit h step low =
        elim (le_or_lt reach step) [
          | inl past ↦
              later (has_bit passed) bit step past
              ((before.on (distance + bit)).0 (sym (moved_ways_is bit) ∙ and_right (has_bit ways bit) (has_bit moved_ways bit) (sym (next_ways_is bit) ∙ h)) (step - reach) (omega arith))
          | inr under ↦ (before.on bit).0 (and_left (has_bit ways bit) (has_bit moved_ways bit) (sym (next_ways_is bit) ∙ h)) step under
        ]

    on_back : (bit : ℕ) → AreOn passed stride (2 * reach) bit → IsTrue (has_bit next_ways bit)
    on_back bit all =
        let first : IsTrue (has_bit ways bit) = (before.on bit).1 (λ step low. all step (omega arith)) in
        let second : IsTrue (has_bit moved_ways bit) =
        moved_ways_is bit ∙ (before.on (distance + bit)).1 (λ step low. sooner (has_bit passed) bit step (all (reach + step) (omega arith))) in
        next_ways_is bit ∙ and_both (has_bit ways bit) (has_bit moved_ways bit) first second

pub passed_last : (word passed stride now ways distance : ℕ) → word < 2 ^ 64 → IsPassed word passed stride now ways distance → (64 ≤ distance) ⊎ (ways ≡ 0) → (bit : ℕ)
    → IsTrue (has_bit now bit) ↔ Passes word passed stride bit
passed_last word passed stride now ways distance small before ended bit = (
  λ h. (let any = (before.found bit).0 h in (any.0, any.2, any.3)),
  λ any. (before.found bit).1 (any.0, within any.0 any.1 any.2 ended, any.1, any.2),
)
  where
    within : (steps : ℕ) → IsTrue (has_bit word (bit + steps * stride)) → ((step : ℕ) → step < steps → IsTrue (has_bit passed (bit + step * stride)))
        → (64 ≤ distance) ⊎ (ways ≡ 0) → steps < before.reach
    within steps set all end =
        elim (le_or_lt before.reach steps) [
          | inr under ↦ under
          | inl past ↦ absurd (never steps past set all end)
        ]
      where
        never : (steps : ℕ) → before.reach ≤ steps → IsTrue (has_bit word (bit + steps * stride))
            → ((step : ℕ) → step < steps → IsTrue (has_bit passed (bit + step * stride))) → (64 ≤ distance) ⊎ (ways ≡ 0) → ⊥
        never steps past set all (inl high) =
            let more : before.reach * stride ≤ steps * stride = mul-le-mul_right stride past in
            let far = before.far in
            let above : 64 ≤ bit + steps * stride = omega arith in
            false≢true (sym (ap (λ n. n == 1) (bit_at_above word 64 (bit + steps * stride) small above)) ∙ set)
        never steps past set all (inr none) =
            let on : IsTrue (has_bit ways bit) = (before.on bit).1 (λ step low. all step (omega arith)) in
            false≢true (sym (ap (λ w. has_bit w bit) none ∙ has_zero bit) ∙ on)

-- A word that a round does not change has all.
pub passed_same : (word passed stride now ways distance moved next : ℕ) → IsPassed word passed stride now ways distance
    → ((bit : ℕ) → has_bit moved bit ≡ has_bit now (distance + bit))
    → ((bit : ℕ) → has_bit next bit ≡ (has_bit now bit || (has_bit moved bit && has_bit ways bit))) → next ≡ now → (bit : ℕ)
    → IsTrue (has_bit now bit) ↔ Passes word passed stride bit
passed_same word passed stride now ways distance moved next before moved_is next_is same bit = (
  λ h. (let any = (before.found bit).0 h in (any.0, any.2, any.3)),
  λ any. reaches any.0 bit any.1 any.2,
)
  where
    place : (bit step : ℕ) → bit + stride + step * stride ≡ bit + suc step * stride
    place bit step = omega arith

    -- What is there one stride above is there.
    one_more : (bit : ℕ) → IsTrue (has_bit passed bit) → PassesWithin word passed stride before.reach (bit + stride) → IsTrue (has_bit now bit)
    one_more bit here (steps, low, set, all) =
        elim (le_or_lt before.reach (suc steps)) [
          | inr under ↦ (before.found bit).1 (suc steps, under, set_there, on)
          | inl past ↦
              (let last : suc steps ≡ before.reach = omega arith in
              let far : suc steps * stride ≡ before.reach * stride = ap (λ n. n * stride) last in
              let top : bit + suc steps * stride ≡ distance + bit + 0 * stride = omega (arith, before.far) in
              let moved_on : IsTrue (has_bit moved bit) =
              moved_is bit
              ∙ (before.found (distance + bit)).1 (0, before.some, subst (λ n. IsTrue (has_bit word n)) top set_there, λ step none. absurd (omega arith)) in
              let ways_on : IsTrue (has_bit ways bit) = (before.on bit).1 (λ step few. on step (omega arith)) in
              sym (ap (λ w. has_bit w bit) same) ∙ next_is bit
              ∙ or_right (has_bit now bit) (has_bit moved bit && has_bit ways bit) (and_both (has_bit moved bit) (has_bit ways bit) moved_on ways_on))
        ]
      where
        set_there : IsTrue (has_bit word (bit + suc steps * stride))
        set_there = subst (λ n. IsTrue (has_bit word n)) (place bit steps) set

        on : (step : ℕ) → step < suc steps → IsTrue (has_bit passed (bit + step * stride))
        on zero few = subst (λ n. IsTrue (has_bit passed n)) (let same : bit ≡ bit + 0 * stride = omega arith in same) here
        on (suc step) few = subst (λ n. IsTrue (has_bit passed n)) (place bit step) (all step (omega arith))

    reaches : (steps bit : ℕ) → IsTrue (has_bit word (bit + steps * stride)) → ((step : ℕ) → step < steps → IsTrue (has_bit passed (bit + step * stride)))
        → IsTrue (has_bit now bit)
    reaches zero bit set all = (before.found bit).1 (0, before.some, set, λ step none. absurd (omega arith))
    reaches (suc steps) bit set all =
        one_more bit (subst (λ n. IsTrue (has_bit passed n)) (let same : bit + 0 * stride ≡ bit = omega arith in same) (all 0 (omega arith)))
        ((before.found (bit + stride)).0
        (reaches steps (bit + stride) (subst (λ n. IsTrue (has_bit word n)) (sym (place bit steps)) set)
        (λ step few. subst (λ n. IsTrue (has_bit passed n)) (sym (place bit step)) (all (suc step) (omega arith)))))

pub joined : (now moved ways both next : ℕ) → ((bit : ℕ) → has_bit next bit ≡ (has_bit now bit || has_bit both bit))
    → ((bit : ℕ) → has_bit both bit ≡ (has_bit moved bit && has_bit ways bit)) → (bit : ℕ)
    → has_bit next bit ≡ (has_bit now bit || (has_bit moved bit && has_bit ways bit))
joined now moved ways both next next_is both_is bit = next_is bit ∙ ap (λ t. has_bit now bit || t) (both_is bit)
