-- Runs in a word of cells.
use Rattle.std.proofs.Common.{◌≡◌, ℕ, zero, suc, ◌+◌, ◌-◌, ◌*◌, ◌<◌, ◌≤◌, ◌^◌, Bool, true, false, ◌==◌, ◌&&◌, ◌||◌, if◌then◌else◌, nat_lt, IsTrue, List, length, get_or, set, ◌⊎◌, ◌↔◌, inl, inr, refl, sym, ap, subst, ◌∙◌, arith}
use Rattle.std.proofs.lemmas.Bool.{le-ltb, lt-ltb}
use Rattle.std.proofs.lemmas.Bool.Decides.{nat_tests}
use Rattle.std.proofs.lemmas.Nat.{mul-add-lt}
use Rattle.std.proofs.lemmas.Nat.Bits.{bit_at_above}
use Rattle.ere.specs.Bits.{has_bit}
use Rattle.spans.proofs.Bits.{false≢true}
use Rattle.simulation.specs.declared.node.RunLayout.{RunLayout}
use Rattle.simulation.specs.Nodes.{Shape, run, Reads, Row, Row as rows, IsRead}
use Rattle.simulation.specs.Pending.{at, Advances, IsKept, IsRun, Pending}
use Rattle.simulation.specs.Private.Rows.{Passes}
use Rattle.simulation.proofs.Tests.{or_cases, or_left, or_right, and_left, and_right, and_both}
use Rattle.simulation.proofs.Forward.{at_or_past, row_forward}
use Rattle.simulation.proofs.Folding.{turn_to}
use Rattle.simulation.proofs.Words.{first_word, first_written}

-- The cells of a set lie below those of the sets before it.
pub below : (left after stride k : ℕ) → left < after → k < stride → left * stride + k < after * stride
below left after stride k low inside = omega (arith, mul-add-lt left stride k after low inside)

-- What waits before a byte: the cells, and what is entered in the place above them.
pub record Waits (places : RunLayout) (entered cells : List ℕ) (waiting : ℕ) : Type 0 where
  pub cells_are : (left k : ℕ) → left ≤ places.after → k < places.stride → has_bit waiting (left * places.stride + k) ≡ at cells (left * places.stride + k)
  pub entered_is : (k : ℕ) → k < places.stride → has_bit waiting (suc places.after * places.stride + k) ≡ at entered k
  pub none : (bit : ℕ) → suc places.after * places.stride + places.stride ≤ bit → IsTrue (has_bit waiting bit) → ⊥

pub waits_are : (places : RunLayout) (entered cells : List ℕ) (first waiting begun kept : ℕ) → first ≡ places.after * places.stride + places.stride
    → first + places.stride ≤ 64 → waiting < 2 ^ 64
    → ((b : ℕ) → b < 64 → has_bit waiting b ≡ (if nat_lt b first then has_bit kept b else has_bit begun (b - first)))
    → ((b : ℕ) → b < first → has_bit kept b ≡ has_bit (get_or cells 0 0) b)
    → ((b : ℕ) → b < places.stride → has_bit begun b ≡ has_bit (get_or entered 0 0) b) → ((b : ℕ) → places.stride ≤ b → has_bit begun b ≡ false)
    → Waits places entered cells waiting
waits_are places entered cells first waiting begun kept first_is fits small bits kept_bits begun_bits begun_none =
    record { cells_are = cells_are; entered_is = entered_is; none = none }
  where
    cells_are : (left k : ℕ) → left ≤ places.after → k < places.stride → has_bit waiting (left * places.stride + k) ≡ at cells (left * places.stride + k)
    cells_are left k within inside =
        let under : left * places.stride + k < suc places.after * places.stride = below left (suc places.after) places.stride k (omega arith) inside in
        let low : left * places.stride + k < first = omega arith in
        let bit : left * places.stride + k < 64 = omega arith in
        bits (left * places.stride + k) bit
        ∙ ap (λ t. if t then has_bit kept (left * places.stride + k) else has_bit begun (left * places.stride + k - first)) (lt-ltb (left * places.stride + k) first low)
        ∙ kept_bits (left * places.stride + k) low ∙ first_word cells (left * places.stride + k) bit

    entered_is : (k : ℕ) → k < places.stride → has_bit waiting (suc places.after * places.stride + k) ≡ at entered k
    entered_is k inside =
        let past : first ≤ suc places.after * places.stride + k = omega arith in
        let bit : suc places.after * places.stride + k < 64 = omega arith in
        let same : suc places.after * places.stride + k - first ≡ k = omega arith in
        let low : k < 64 = omega arith in
        bits (suc places.after * places.stride + k) bit
        ∙ ap (λ t. if t then has_bit kept (suc places.after * places.stride + k) else has_bit begun (suc places.after * places.stride + k - first))
        (le-ltb (suc places.after * places.stride + k) first past)
        ∙ ap (has_bit begun) same ∙ begun_bits k inside ∙ first_word entered k low

    none : (bit : ℕ) → suc places.after * places.stride + places.stride ≤ bit → IsTrue (has_bit waiting bit) → ⊥
    none bit high h = go (nat_lt bit 64) refl
      where
        go : (t : Bool) → nat_lt bit 64 ≡ t → ⊥
        go true e =
            let low : bit < 64 = grind (arith, nat_tests) in
            let past : first ≤ bit = omega arith in
            let far : places.stride ≤ bit - first = omega arith in
            false≢true
            (sym
            (bits bit low ∙ ap (λ t. if t then has_bit kept bit else has_bit begun (bit - first)) (le-ltb bit first past) ∙ begun_none (bit - first) far)
            ∙ h)
        go false e =
            let above : 64 ≤ bit = grind (arith, nat_tests) in
            false≢true (sym (ap (λ n. n == 1) (bit_at_above waiting 64 bit small above)) ∙ h)

-- A run after a byte, with one stride for its copies.
run_advances : (line : List ℕ) (here : ℕ) (masks : List ℕ) (places : RunLayout) (entered cells next : List ℕ) (waiting ready read mask : ℕ) → here < length line
    → IsRun masks places places.stride → mask ≡ get_or masks (get_or line here 0) 0 → Waits places entered cells waiting
    → ((b : ℕ) → IsTrue (has_bit ready b) ↔ Passes waiting places.optional places.stride b)
    → ((b : ℕ) → has_bit read b ≡ ((has_bit ready (places.stride + b) || (has_bit ready b && has_bit places.repeated b)) && has_bit mask b))
    → ((left k : ℕ) → left ≤ places.after → k < places.stride
    → IsTrue (at next (left * places.stride + k)) ↔ Passes read places.optional places.stride (left * places.stride + k))
    → Advances line here (run masks places) places.stride entered cells next
unfolding Pending Reads IsKept
run_advances line here masks places entered cells next waiting ready read mask inside is_run mask_is waits ready_is read_is next_is = record {
  sound = λ k to low p. sound k to low p;
  goes_on = λ k to low on p. goes_on k low p.0 to (let within = p.1 in omega arith) p.3 on (waits_ready p.0 k (waits.cells_are p.0 k p.1 low ∙ p.2));
  begins = λ k to low is r. goes_on k low (suc after) to (omega arith) r.1 r.0 (waits_ready (suc after) k (waits.entered_is k low ∙ is));
  kept = record { set = tells_set; pending = tells_pending };
}
  where
    s : ℕ
    s = places.stride

    after : ℕ
    after = places.after

    whole : Shape
    whole = run masks places

    optional_of : (left k : ℕ) → left ≤ after → k < s → IsTrue (has_bit places.optional (left * s)) → IsTrue (has_bit places.optional (left * s + k))
    optional_of left k within low h = is_run.optional.same left k within low ∙ h

    optional_at : (left k : ℕ) → left ≤ after → k < s → IsTrue (has_bit places.optional (left * s + k)) → IsTrue (has_bit places.optional (left * s))
    optional_at left k within low h = sym (is_run.optional.same left k within low) ∙ h

    fits : suc after * s + s ≤ 64
    fits = let f = is_run.fits in omega arith

    top_of : (left k : ℕ) → left * s + k < suc after * s + s → left ≤ suc after
    top_of left k low = let few : left < suc (suc after) = turn_to (suc (suc after)) left s k (omega arith) in omega arith

    -- A bit that waits has no more than all sets to go.
    waits_top : (left k : ℕ) → IsTrue (has_bit waiting (left * s + k)) → left ≤ suc after
    waits_top left k h =
        go (nat_lt (left * s + k) (suc after * s + s)) refl
      where
        go : (t : Bool) → nat_lt (left * s + k) (suc after * s + s) ≡ t → left ≤ suc after
        go true e = let low : left * s + k < suc after * s + s = grind (arith, nat_tests) in top_of left k low
        go false e = let high : suc after * s + s ≤ left * s + k = grind (arith, nat_tests) in absurd (waits.none (left * s + k) high h)

    place : (left steps k : ℕ) → left * s + k + steps * s ≡ (left + steps) * s + k
    place left steps k = omega arith

    next_place : (left k : ℕ) → s + (left * s + k) ≡ suc left * s + k
    next_place left k = omega arith

    -- Sets that can be left out lead from one place to a higher one.
    row_up : (steps left k x to : ℕ) → k < s → left + steps ≤ suc after
        → ((step : ℕ) → step < steps → IsTrue (has_bit places.optional (left * s + k + step * s))) → Row line masks places left x to
        → Row line masks places (left + steps) x to
    row_up zero left k x to low top all r = subst (λ n. Row line masks places n x to) (let same : left ≡ left + 0 = omega arith in same) r
    row_up (suc steps) left k x to low top all r =
        let first : IsTrue (has_bit places.optional (left * s)) =
        optional_at left k (omega arith) low
        (subst (λ n. IsTrue (has_bit places.optional n)) (let same : left * s + k + 0 * s ≡ left * s + k = omega arith in same) (all 0 (omega arith))) in
        let more = row_up steps (suc left) k x to low (omega arith)
        (λ step few. subst (λ n. IsTrue (has_bit places.optional n)) (let same : left * s + k + (suc step) * s ≡ suc left * s + k + step * s = omega arith in same) (all (suc step) (omega arith)))
        (rows.skips first r) in
        subst (λ n. Row line masks places n x to) (let same : suc left + steps ≡ left + suc steps = omega arith in same) more

    from_ready : (left k to : ℕ) → k < s → IsTrue (has_bit ready (left * s + k)) → Row line masks places left here to
        → Pending line here whole s cells k to ⊎ (IsTrue (at entered k) × Row line masks places (suc after) here to)
    from_ready left k to low h r =
        let passes = (ready_is (left * s + k)).0 h in
        let set : IsTrue (has_bit waiting ((left + passes.0) * s + k)) = subst (λ n. IsTrue (has_bit waiting n)) (place left passes.0 k) passes.1 in
        let top = waits_top (left + passes.0) k set in
        let row = row_up passes.0 left k here to low top passes.2 r in
        elim (at_or_past (left + passes.0) (suc after) top) [
          | inl last ↦
              inr (
                sym (waits.entered_is k low) ∙ subst (λ n. IsTrue (has_bit waiting (n * s + k))) last set,
                subst (λ n. Row line masks places n here to) last row,
              )
          | inr past ↦ (let within : left + passes.0 ≤ after = omega arith in inl (left + passes.0, within, sym (waits.cells_are (left + passes.0) k within low) ∙ set, row))
        ]

    read_low : (left k : ℕ) → k < s → IsTrue (has_bit read (left * s + k)) → left ≤ after
    read_low left k low h =
        elim (or_cases (has_bit ready (s + (left * s + k))) (has_bit ready (left * s + k) && has_bit places.repeated (left * s + k))
        (and_left (has_bit ready (s + (left * s + k)) || (has_bit ready (left * s + k) && has_bit places.repeated (left * s + k))) (has_bit mask (left * s + k)) (sym (read_is (left * s + k)) ∙ h))) [
          | inl a ↦
              (let passes = (ready_is (suc left * s + k)).0 (subst (λ n. IsTrue (has_bit ready n)) (next_place left k) a) in
              let top = waits_top (suc left + passes.0) k (subst (λ n. IsTrue (has_bit waiting n)) (place (suc left) passes.0 k) passes.1) in
              omega arith)
          | inr b ↦
              (let again = and_right (has_bit ready (left * s + k)) (has_bit places.repeated (left * s + k)) b in
              let passes = (ready_is (left * s + k)).0 (and_left (has_bit ready (left * s + k)) (has_bit places.repeated (left * s + k)) b) in
              let top = waits_top (left + passes.0) k (subst (λ n. IsTrue (has_bit waiting n)) (place left passes.0 k) passes.1) in
              elim (at_or_past left (suc after) (omega arith)) [
                | inl last ↦
                    (let bit : left * s + k < 64 = (let same : left * s ≡ suc after * s = ap (λ n. n * s) last in omega arith) in
                    let high : after * s + s ≤ left * s + k = (let same : left * s ≡ suc after * s = ap (λ n. n * s) last in omega arith) in
                    absurd (false≢true (sym (is_run.repeated.none (left * s + k) high bit) ∙ again)))
                | inr past ↦ omega arith
              ])
        ]

    from_read : (left k to : ℕ) → left ≤ after → k < s → IsTrue (has_bit read (left * s + k)) → Row line masks places left (suc here) to
        → Pending line here whole s cells k to ⊎ (IsTrue (at entered k) × Row line masks places (suc after) here to)
    from_read left k to within low h r =
        elim (or_cases (has_bit ready (s + (left * s + k))) (has_bit ready (left * s + k) && has_bit places.repeated (left * s + k)) (and_left moved (has_bit mask (left * s + k)) both)) [
          | inl a ↦ from_ready (suc left) k to low (subst (λ n. IsTrue (has_bit ready n)) (next_place left k) a) (rows.reads is r)
          | inr b ↦
              from_ready left k to low (and_left (has_bit ready (left * s + k)) (has_bit places.repeated (left * s + k)) b)
              (rows.again
              (sym (is_run.repeated.same left k within low) ∙ and_right (has_bit ready (left * s + k)) (has_bit places.repeated (left * s + k)) b) is r)
        ]
      where
        moved : Bool
        moved = has_bit ready (s + (left * s + k)) || (has_bit ready (left * s + k) && has_bit places.repeated (left * s + k))

        both : IsTrue (moved && has_bit mask (left * s + k))
        both = sym (read_is (left * s + k)) ∙ h

        is : IsRead line masks places left here
        is = (
          inside,
          sym (is_run.same (get_or line here 0) left k within low) ∙ subst (λ w. IsTrue (has_bit w (left * s + k))) mask_is (and_right moved (has_bit mask (left * s + k)) both),
        )

    sound : (k to : ℕ) → k < s → Pending line (suc here) whole s next k to
        → Pending line here whole s cells k to ⊎ (IsTrue (at entered k) × ((here < to) × Row line masks places (suc after) here to))
    sound k to low (left, within, is, row) =
        let passes = (next_is left k within low).0 is in
        let set : IsTrue (has_bit read ((left + passes.0) * s + k)) = subst (λ n. IsTrue (has_bit read n)) (place left passes.0 k) passes.1 in
        let top = read_low (left + passes.0) k low set in
        let on : here < to = (let forward = row_forward line masks places left (suc here) to row in omega arith) in
        elim (from_read (left + passes.0) k to top low set (row_up passes.0 left k (suc here) to low (omega arith) passes.2 row)) [
          | inl p ↦ inl p
          | inr e ↦ inr (e.0, (on, e.1))
        ]

    pass_here : (word bit : ℕ) → IsTrue (has_bit word bit) → Passes word places.optional s bit
    pass_here word bit h =
        (0, subst (λ n. IsTrue (has_bit word n)) (let same : bit ≡ bit + 0 * s = omega arith in same) h, λ step none. absurd (omega arith))

    pass_down : (word left k : ℕ) → Passes word places.optional s (suc left * s + k) → IsTrue (has_bit places.optional (left * s + k))
        → Passes word places.optional s (left * s + k)
    pass_down word left k (steps, set, all) one = (suc steps, subst (λ n. IsTrue (has_bit word n)) (same steps) set, on)
      where
        same : (step : ℕ) → suc left * s + k + step * s ≡ left * s + k + (suc step) * s
        same step = omega arith

        on : (step : ℕ) → step < suc steps → IsTrue (has_bit places.optional (left * s + k + step * s))
        on zero few = subst (λ n. IsTrue (has_bit places.optional n)) (let none : left * s + k ≡ left * s + k + 0 * s = omega arith in none) one
        on (suc step) few = subst (λ n. IsTrue (has_bit places.optional n)) (same step) (all step (omega arith))

    waits_ready : (left k : ℕ) → IsTrue (has_bit waiting (left * s + k)) → IsTrue (has_bit ready (left * s + k))
    waits_ready left k h = (ready_is (left * s + k)).1 (pass_here waiting (left * s + k) h)

    reaches : (left k to : ℕ) → left ≤ after → k < s → IsRead line masks places left here → Row line masks places left (suc here) to
        → IsTrue (has_bit ready (s + (left * s + k)) || (has_bit ready (left * s + k) && has_bit places.repeated (left * s + k)))
        → Pending line (suc here) whole s next k to
    reaches left k to within low (still, bit) r h =
        let masked : IsTrue (has_bit mask (left * s + k)) = subst (λ w. IsTrue (has_bit w (left * s + k))) (sym mask_is) (is_run.same (get_or line here 0) left k within low ∙ bit) in (
          left,
          within,
          (next_is left k within low).1
              (pass_here read (left * s + k)
              (read_is (left * s + k)
              ∙ and_both (has_bit ready (s + (left * s + k)) || (has_bit ready (left * s + k) && has_bit places.repeated (left * s + k))) (has_bit mask (left * s + k)) h masked)),
          r,
        )

    goes_on : (k : ℕ) → k < s → (left to : ℕ) → left ≤ suc after → Row line masks places left here to → here < to → IsTrue (has_bit ready (left * s + k))
        → Pending line (suc here) whole s next k to
    goes_on k low zero to within (rows.done e) on h = absurd (omega arith)
    goes_on k low (suc left) to within (rows.skips o r) on h =
        goes_on k low left to (omega arith) r on
        ((ready_is (left * s + k)).1 (pass_down waiting left k ((ready_is (suc left * s + k)).0 h) (optional_of left k (omega arith) low o)))
    goes_on k low (suc left) to within (rows.reads i r) on h =
        reaches left k to (omega arith) low i r
        (or_left (has_bit ready (s + (left * s + k))) (has_bit ready (left * s + k) && has_bit places.repeated (left * s + k))
        (subst (λ n. IsTrue (has_bit ready n)) (sym (next_place left k)) h))
    goes_on k low left to within (rows.again p i r) on h =
        elim (at_or_past left (suc after) within) [
          | inl last ↦
              (let bit : left * s < 64 = (let same : left * s ≡ suc after * s = ap (λ n. n * s) last in let some = is_run.some in omega arith) in
              let high : after * s + s ≤ left * s = (let same : left * s ≡ suc after * s = ap (λ n. n * s) last in omega arith) in
              absurd (false≢true (sym (is_run.repeated.none (left * s) high bit) ∙ p)))
          | inr past ↦
              (let few : left ≤ after = omega arith in
              reaches left k to few low i r
              (or_right (has_bit ready (s + (left * s + k))) (has_bit ready (left * s + k) && has_bit places.repeated (left * s + k))
              (and_both (has_bit ready (left * s + k)) (has_bit places.repeated (left * s + k)) h (is_run.repeated.same left k few low ∙ p))))
        ]

    tells_set : (k : ℕ) → k < s → IsTrue (at next k) → Pending line (suc here) whole s next k (suc here)
    tells_set k low is =
        let none : 0 ≤ after = omega arith in
        let same : k ≡ 0 * s + k = omega arith in
        (0, none, subst (λ n. IsTrue (at next n)) same is, rows.done refl)

    still : (k : ℕ) → k < s → (left x y : ℕ) → left ≤ after → y ≤ x → Row line masks places left x y → IsTrue (at next (left * s + k)) → IsTrue (at next (0 * s + k))
    still k low zero x y within back (rows.done e) h = h
    still k low (suc left) x y within back (rows.skips o r) h =
        still k low left x y (omega arith) back r
        ((next_is left k (omega arith) low).1 (pass_down read left k ((next_is (suc left) k within low).0 h) (optional_of left k (omega arith) low o)))
    still k low (suc left) x y within back (rows.reads i r) h = let on = row_forward line masks places left (suc x) y r in absurd (omega arith)
    still k low left x y within back (rows.again p i r) h = let on = row_forward line masks places left (suc x) y r in absurd (omega arith)

    tells_pending : (k : ℕ) → k < s → Pending line (suc here) whole s next k (suc here) → IsTrue (at next k)
    tells_pending k low (left, within, is, row) =
        let same : 0 * s + k ≡ k = omega arith in
        subst (λ n. IsTrue (at next n)) same (still k low left (suc here) (suc here) within (omega arith) row is)

pub run_stepped : (line : List ℕ) (here : ℕ) (masks : List ℕ) (places : RunLayout) (copies : ℕ) (entered cells : List ℕ) (waiting ready read word : ℕ)
    → here < length line → IsRun masks places copies → 0 < length cells → Waits places entered cells waiting
    → ((b : ℕ) → IsTrue (has_bit ready b) ↔ Passes waiting places.optional places.stride b)
    → ((b : ℕ) → has_bit read b
    ≡ ((has_bit ready (places.stride + b) || (has_bit ready b && has_bit places.repeated b)) && has_bit (get_or masks (get_or line here 0) 0) b))
    → ((b : ℕ) → IsTrue (has_bit word b) ↔ Passes read places.optional places.stride b)
    → Advances line here (run masks places) copies entered cells (set cells 0 word)
run_stepped line here masks places copies entered cells waiting ready read word inside is_run some waits ready_is read_is word_is =
    subst (λ n. Advances line here (run masks places) n entered cells (set cells 0 word)) is_run.apart
    (run_advances line here masks places entered cells (set cells 0 word) waiting ready read (get_or masks (get_or line here 0) 0) inside own refl waits ready_is
    read_is next_is)
  where
    own : IsRun masks places places.stride
    own = subst (λ n. IsRun masks places n) (sym is_run.apart) is_run

    next_is : (left k : ℕ) → left ≤ places.after → k < places.stride
        → IsTrue (at (set cells 0 word) (left * places.stride + k)) ↔ Passes read places.optional places.stride (left * places.stride + k)
    next_is left k within low =
        let under : left * places.stride + k < suc places.after * places.stride = below left (suc places.after) places.stride k (omega arith) low in
        let bit : left * places.stride + k < 64 = (let f = own.fits in omega arith) in
        let same = first_written cells word (left * places.stride + k) some bit in
        (λ h. (word_is (left * places.stride + k)).0 (sym same ∙ h), λ h. same ∙ (word_is (left * places.stride + k)).1 h)

pub room_for : (masks : List ℕ) (places : RunLayout) (copies : ℕ) → IsRun masks places copies → places.after * places.stride + places.stride + places.stride ≤ 64
room_for masks places copies is_run =
    let same : places.after * places.stride ≡ places.after * copies = ap (λ n. places.after * n) is_run.apart in
    let apart = is_run.apart in
    let fits = is_run.fits in
    omega arith

-- What is read, from its nodes.
pub read_is : (ready repeated mask stride read moved down again : ℕ) → ((b : ℕ) → has_bit read b ≡ (has_bit moved b && has_bit mask b))
    → ((b : ℕ) → has_bit moved b ≡ (has_bit down b || has_bit again b)) → ((b : ℕ) → has_bit down b ≡ has_bit ready (stride + b))
    → ((b : ℕ) → has_bit again b ≡ (has_bit ready b && has_bit repeated b)) → (b : ℕ)
    → has_bit read b ≡ ((has_bit ready (stride + b) || (has_bit ready b && has_bit repeated b)) && has_bit mask b)
read_is ready repeated mask stride read moved down again read_bits moved_bits down_bits again_bits b =
    read_bits b
    ∙ ap (λ t. t && has_bit mask b)
    (moved_bits b ∙ ap (λ t. t || has_bit again b) (down_bits b) ∙ ap (λ t. has_bit ready (stride + b) || t) (again_bits b))
