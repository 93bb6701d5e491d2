-- What one byte does to the cells of each kind of node.
use Rattle.std.proofs.Common.{◌≡◌, ℕ, zero, suc, ◌+◌, ◌-◌, ◌*◌, ◌<◌, ◌≤◌, Bool, false, ◌&&◌, ◌||◌, IsTrue, List, length, get_or, drop, ◌⊎◌, ◌↔◌, inl, inr}
use Rattle.std.proofs.Common.{refl, sym, subst, ◌∙◌, arith}
use Rattle.ere.specs.ByteSet.{has}
use Rattle.simulation.specs.declared.node.Gaps.{Gaps}
use Rattle.simulation.specs.declared.node.RepeatCounts.{RepeatCounts}
use Rattle.simulation.specs.declared.node.Sizes.{Sizes}
use Rattle.simulation.specs.Nodes.{Shape, nothing, set, run, both, either, loop, times, is_gap, Chain, Reads, Fits, Suffices}
use Rattle.simulation.specs.Pending.{at, first_of, second_of, Pending, Tells, IsKept, IsReady, Advances}
use Rattle.simulation.proofs.Tests.{or_cases, or_left, or_right, and_left, and_right, and_both}
use Rattle.simulation.specs.Pending.{Enters, Enters as enters, AnyTurn}
use Rattle.simulation.proofs.Forward.{reads_forward, pending_forward, stays, at_or_past, le_or_lt}
use Rattle.spans.proofs.Bits.{false≢true, is_false}
use Rattle.std.proofs.lemmas.Nat.{mul-add-lt}

-- What the first cells of a node say is kept.
pub told : (line : List ℕ) (here : ℕ) (node : Shape) (copies : ℕ) (cells : List ℕ) → IsKept line here node copies cells
    → Tells line here node copies cells
unfolding IsKept Pending Chain
told line here nothing copies cells h = h
told line here (set members) copies cells h = h
told line here (run masks places) copies cells h = h
told line here (both left right sizes before after) copies cells h = h.0
told line here (either left right sizes) copies cells h = h.0
told line here (loop body own) copies cells h =
    let inner = told line here body copies cells h in
    record {
      set = λ k low is. (here, 0, inner.set k low is, refl);
      pending = λ k low p.
          let on = pending_forward line here body copies cells k p.0 p.2 in
          let none = stays line body p.1 p.0 here on p.3 in
          inner.pending k low
          (subst (λ n. Pending line here body copies cells k n) (subst (λ c. Chain _ c p.0 here) none p.3) p.2);
    }
told line here (times body counts) copies cells h = h.0

pub both_advances : (line : List ℕ) (here : ℕ) (left right : Shape) (sizes : Sizes) (before after : Gaps) (copies : ℕ)
    (entered cells next entered_left entered_right : List ℕ)
    → Advances line here left copies entered_left (first_of sizes cells) (first_of sizes next)
    → Advances line here right copies entered_right (second_of sizes cells) (second_of sizes next)
    → IsKept line here (both left right sizes before after) copies cells
    → ((k : ℕ) → k < copies → at entered_left k ≡ at entered k)
    → ((k : ℕ) → k < copies → at entered_right k ≡ (at (first_of sizes cells) k || (is_gap before line here && at entered k)))
    → ((k : ℕ) → k < copies → at next k ≡ (at (second_of sizes next) k || (is_gap after line (suc here) && at (first_of sizes next) k)))
    → Advances line here (both left right sizes before after) copies entered cells next
unfolding Pending Reads IsKept
both_advances line here left right sizes before after copies entered cells next entered_left entered_right one two kept given_left given_right own =
    record { sound = sound; goes_on = goes_on; begins = begins; kept = (tells, one.kept, two.kept) }
  where
    whole : Shape
    whole = both left right sizes before after

    old_left : List ℕ
    old_left = first_of sizes cells

    left_told : Tells line here left copies old_left
    left_told = told line here left copies old_left kept.1

    -- what begins at the right
    at_right : (k : ℕ) → k < copies → IsTrue (at entered_right k)
        → Pending line here left copies old_left k here ⊎ (IsTrue (is_gap before line here) × IsTrue (at entered k))
    at_right k low is =
        elim (or_cases (at old_left k) (is_gap before line here && at entered k) (sym (given_right k low) ∙ is)) [
          | inl h ↦ inl (left_told.set k low h)
          | inr h ↦ inr (and_left (is_gap before line here) (at entered k) h, and_right (is_gap before line here) (at entered k) h)
        ]

    right_from_left : (k : ℕ) → k < copies → Pending line here left copies old_left k here → IsTrue (at entered_right k)
    right_from_left k low p = given_right k low ∙ or_left (at old_left k) (is_gap before line here && at entered k) (left_told.pending k low p)

    right_from_gap : (k : ℕ) → k < copies → IsTrue (is_gap before line here) → IsTrue (at entered k) → IsTrue (at entered_right k)
    right_from_gap k low gap is =
        given_right k low ∙ or_right (at old_left k) (is_gap before line here && at entered k) (and_both (is_gap before line here) (at entered k) gap is)

    sound : (k to : ℕ) → k < copies → Pending line (suc here) whole copies next k to
        → Pending line here whole copies cells k to ⊎ (IsTrue (at entered k) × Reads line whole here to)
    sound k to low (inl (middle, p, x)) =
        elim (one.sound k middle low p) [
          | inl old ↦ inl (inl (middle, old, x))
          | inr new ↦
              elim x [
                | inl r ↦ inr (sym (given_left k low) ∙ new.0, inl (middle, new.1, r))
                | inr e ↦ inr (sym (given_left k low) ∙ new.0, inr (inr (subst (λ n. Reads line left here n) e.0 new.1, e.1)))
              ]
        ]
    sound k to low (inr p) =
        elim (two.sound k to low p) [
          | inl old ↦ inl (inr old)
          | inr new ↦
              elim (at_right k low new.0) [
                | inl q ↦ inl (inl (here, q, inl new.1))
                | inr g ↦ inr (g.1, inr (inl (g.0, new.1)))
              ]
        ]

    goes_on : (k to : ℕ) → k < copies → here < to → Pending line here whole copies cells k to → Pending line (suc here) whole copies next k to
    goes_on k to low on (inl (middle, p, inl r)) =
        elim (at_or_past here middle (pending_forward line here left copies old_left k middle p)) [
          | inl same ↦
              inr (two.begins k to low (right_from_left k low (subst (λ n. Pending line here left copies old_left k n) (sym same) p))
              (subst (λ n. Reads line right n to) (sym same) r))
          | inr past ↦ inl (middle, one.goes_on k middle low past p, inl r)
        ]
    goes_on k to low on (inl (middle, p, inr e)) =
        let past : here < middle = let same = e.0 in omega arith in
        inl (middle, one.goes_on k middle low past p, inr e)
    goes_on k to low on (inr p) = inr (two.goes_on k to low on p)

    begins : (k to : ℕ) → k < copies → IsTrue (at entered k) → Reads line whole here to → Pending line (suc here) whole copies next k to
    begins k to low is (inl (middle, r, s)) = inl (middle, one.begins k middle low (given_left k low ∙ is) r, inl s)
    begins k to low is (inr (inl (gap, r))) = inr (two.begins k to low (right_from_gap k low gap is) r)
    begins k to low is (inr (inr (r, gap))) = inl (to, one.begins k to low (given_left k low ∙ is) r, inr (refl, gap))

    tells : Tells line (suc here) whole copies next
    tells = record { set = tells_set; pending = tells_pending }
      where
        new_left : List ℕ
        new_left = first_of sizes next

        new_right : List ℕ
        new_right = second_of sizes next

        gap : Bool
        gap = is_gap after line (suc here)

        tells_set : (k : ℕ) → k < copies → IsTrue (at next k) → Pending line (suc here) whole copies next k (suc here)
        tells_set k low is =
            elim (or_cases (at new_right k) (gap && at new_left k) (sym (own k low) ∙ is)) [
              | inl h ↦ inr ((told line (suc here) right copies new_right two.kept).set k low h)
              | inr h ↦
                  inl (
                    suc here,
                    (told line (suc here) left copies new_left one.kept).set k low (and_right gap (at new_left k) h),
                    inr (refl, and_left gap (at new_left k) h),
                  )
            ]

        tells_pending : (k : ℕ) → k < copies → Pending line (suc here) whole copies next k (suc here) → IsTrue (at next k)
        tells_pending k low (inl (middle, p, inl r)) =
            let from = pending_forward line (suc here) left copies new_left k middle p in
            let to = reads_forward line right middle (suc here) r in
            absurd (omega arith)
        tells_pending k low (inl (middle, p, inr e)) =
            own k low
            ∙ or_right (at new_right k) (gap && at new_left k)
            (and_both gap (at new_left k) e.1
            ((told line (suc here) left copies new_left one.kept).pending k low
            (subst (λ n. Pending line (suc here) left copies new_left k n) e.0 p)))
        tells_pending k low (inr p) =
            own k low ∙ or_left (at new_right k) (gap && at new_left k) ((told line (suc here) right copies new_right two.kept).pending k low p)

pub nothing_advances : (line : List ℕ) (here copies : ℕ) (entered cells next : List ℕ) → ((k : ℕ) → k < copies → at next k ≡ false)
    → Advances line here nothing copies entered cells next
unfolding Pending Reads IsKept
nothing_advances line here copies entered cells next none = record {
  sound = λ k to low p. absurd p;
  goes_on = λ k to low on p. absurd p;
  begins = λ k to low is r. absurd r;
  kept = record { set = λ k low is. absurd (false≢true (sym (none k low) ∙ is)); pending = λ k low p. absurd p };
}

pub set_advances : (line : List ℕ) (here : ℕ) (members : List Bool) (copies : ℕ) (entered cells next : List ℕ) → here < length line
    → ((k : ℕ) → k < copies → at next k ≡ (has members (get_or line here 0) && at entered k))
    → Advances line here (set members) copies entered cells next
unfolding Pending Reads IsKept
set_advances line here members copies entered cells next inside own = record {
  sound = λ k to low p.
      let both = sym (own k low) ∙ p.0 in
      inr (
        and_right (has members (get_or line here 0)) (at entered k) both,
        (p.1, inside, and_left (has members (get_or line here 0)) (at entered k) both),
      );
  goes_on = λ k to low on p. let same = p.1 in absurd (omega arith);
  begins = λ k to low is r. (own k low ∙ and_both (has members (get_or line here 0)) (at entered k) r.2 is, r.0);
  kept = record { set = λ k low is. (is, refl); pending = λ k low p. p.0 };
}

pub either_advances : (line : List ℕ) (here : ℕ) (left right : Shape) (sizes : Sizes) (copies : ℕ) (entered cells next entered_left entered_right : List ℕ)
    → Advances line here left copies entered_left (first_of sizes cells) (first_of sizes next)
    → Advances line here right copies entered_right (second_of sizes cells) (second_of sizes next)
    → ((k : ℕ) → k < copies → at entered_left k ≡ at entered k) → ((k : ℕ) → k < copies → at entered_right k ≡ at entered k)
    → ((k : ℕ) → k < copies → at next k ≡ (at (first_of sizes next) k || at (second_of sizes next) k))
    → Advances line here (either left right sizes) copies entered cells next
unfolding Pending Reads IsKept
either_advances line here left right sizes copies entered cells next entered_left entered_right one two given_left given_right own =
    record { sound = sound; goes_on = goes_on; begins = begins; kept = (record { set = tells_set; pending = tells_pending }, one.kept, two.kept) }
  where
    whole : Shape
    whole = either left right sizes

    new_left : List ℕ
    new_left = first_of sizes next

    new_right : List ℕ
    new_right = second_of sizes next

    sound : (k to : ℕ) → k < copies → Pending line (suc here) whole copies next k to
        → Pending line here whole copies cells k to ⊎ (IsTrue (at entered k) × Reads line whole here to)
    sound k to low (inl p) =
        elim (one.sound k to low p) [ inl old ↦ inl (inl old) | inr new ↦ inr (sym (given_left k low) ∙ new.0, inl new.1) ]
    sound k to low (inr p) =
        elim (two.sound k to low p) [ inl old ↦ inl (inr old) | inr new ↦ inr (sym (given_right k low) ∙ new.0, inr new.1) ]

    goes_on : (k to : ℕ) → k < copies → here < to → Pending line here whole copies cells k to → Pending line (suc here) whole copies next k to
    goes_on k to low on (inl p) = inl (one.goes_on k to low on p)
    goes_on k to low on (inr p) = inr (two.goes_on k to low on p)

    begins : (k to : ℕ) → k < copies → IsTrue (at entered k) → Reads line whole here to → Pending line (suc here) whole copies next k to
    begins k to low is (inl r) = inl (one.begins k to low (given_left k low ∙ is) r)
    begins k to low is (inr r) = inr (two.begins k to low (given_right k low ∙ is) r)

    tells_set : (k : ℕ) → k < copies → IsTrue (at next k) → Pending line (suc here) whole copies next k (suc here)
    tells_set k low is =
        elim (or_cases (at new_left k) (at new_right k) (sym (own k low) ∙ is)) [
          | inl h ↦ inl ((told line (suc here) left copies new_left one.kept).set k low h)
          | inr h ↦ inr ((told line (suc here) right copies new_right two.kept).set k low h)
        ]

    tells_pending : (k : ℕ) → k < copies → Pending line (suc here) whole copies next k (suc here) → IsTrue (at next k)
    tells_pending k low (inl p) =
        own k low ∙ or_left (at new_left k) (at new_right k) ((told line (suc here) left copies new_left one.kept).pending k low p)
    tells_pending k low (inr p) =
        own k low ∙ or_right (at new_left k) (at new_right k) ((told line (suc here) right copies new_right two.kept).pending k low p)

pub loop_advances : (line : List ℕ) (here : ℕ) (body : Shape) (own copies : ℕ) (entered cells next entered_body : List ℕ)
    → Advances line here body copies entered_body cells next → IsKept line here body copies cells
    → ((k : ℕ) → k < copies → at entered_body k ≡ (at entered k || at cells k))
    → Advances line here (loop body own) copies entered cells next
unfolding Pending Reads IsKept Chain
loop_advances line here body own copies entered cells next entered_body one kept given =
    record { sound = sound; goes_on = goes_on; begins = begins; kept = one.kept }
  where
    whole : Shape
    whole = loop body own

    tells : Tells line here body copies cells
    tells = told line here body copies cells kept

    sound : (k to : ℕ) → k < copies → Pending line (suc here) whole copies next k to
        → Pending line here whole copies cells k to ⊎ (IsTrue (at entered k) × Reads line whole here to)
    sound k to low (middle, more, p, c) =
        elim (one.sound k middle low p) [
          | inl old ↦ inl (middle, more, old, c)
          | inr new ↦
              elim (or_cases (at entered k) (at cells k) (sym (given k low) ∙ new.0)) [
                | inl is ↦ inr (is, (more, (middle, new.1, c)))
                | inr is ↦ inl (here, suc more, tells.set k low is, (middle, new.1, c))
              ]
        ]

    goes_on : (k to : ℕ) → k < copies → here < to → Pending line here whole copies cells k to → Pending line (suc here) whole copies next k to
    goes_on k to low on (middle, zero, p, c) = (middle, zero, one.goes_on k middle low (let same = c in omega arith) p, c)
    goes_on k to low on (middle, suc more, p, (next_middle, r, c)) =
        elim (at_or_past here middle (pending_forward line here body copies cells k middle p)) [
          | inl same ↦ (
            next_middle,
            more,
            one.begins k next_middle low
                (given k low ∙ or_right (at entered k) (at cells k)
                (tells.pending k low (subst (λ n. Pending line here body copies cells k n) (sym same) p)))
                (subst (λ n. Reads line body n next_middle) (sym same) r),
            c,
          )
          | inr past ↦ (middle, suc more, one.goes_on k middle low past p, (next_middle, r, c))
        ]

    begins : (k to : ℕ) → k < copies → IsTrue (at entered k) → Reads line whole here to → Pending line (suc here) whole copies next k to
    begins k to low is (more, (middle, r, c)) =
        (middle, more, one.begins k middle low (given k low ∙ or_left (at entered k) (at cells k) is) r, c)

fits_fewer : (counts : RepeatCounts) (fewer words : ℕ) → fewer ≤ words → Fits counts words → Fits counts fewer
fits_fewer counts fewer words less (inl free) = inl free
fits_fewer counts fewer words less (inr within) = let small : fewer ≤ counts.copies = omega arith in inr small

pub times_advances : (line : List ℕ) (here : ℕ) (body : Shape) (counts : RepeatCounts) (copies : ℕ) (entered cells next entered_body : List ℕ) (lowest : ℕ)
    → Advances line here body (counts.copies * counts.stride) entered_body (drop counts.own cells) (drop counts.own next)
    → IsKept line here (times body counts) copies cells → copies ≤ counts.stride → 0 < counts.copies → counts.least ≤ counts.copies
    → ((turn k : ℕ) → turn < counts.copies → k < copies
    → IsTrue (at entered_body (turn * counts.stride + k)) ↔ Enters counts (is_gap counts.gaps line here) entered (drop counts.own cells) turn k)
    → ((turn : ℕ) → (lowest ≤ turn) ↔ Suffices line counts (suc turn) (suc here))
    → ((k : ℕ) → k < copies → IsTrue (at next k) ↔ AnyTurn counts lowest (drop counts.own next) k)
    → Advances line here (times body counts) copies entered cells next
unfolding Pending Reads IsKept Chain
times_advances line here body counts copies entered cells next entered_body lowest one kept wide some ordered given enough own =
    record { sound = sound; goes_on = goes_on; begins = begins; kept = (record { set = tells_set; pending = tells_pending }, one.kept) }
  where
    whole : Shape
    whole = times body counts

    all : ℕ
    all = counts.copies * counts.stride

    old : List ℕ
    old = drop counts.own cells

    new : List ℕ
    new = drop counts.own next

    tells : Tells line here body all old
    tells = told line here body all old kept.1

    tells_next : Tells line (suc here) body all new
    tells_next = told line (suc here) body all new one.kept

    place : (turn k : ℕ) → turn < counts.copies → k < copies → turn * counts.stride + k < all
    place turn k inside low = omega (arith, mul-add-lt turn counts.stride k counts.copies inside (omega arith))

    sound : (k to : ℕ) → k < copies → Pending line (suc here) whole copies next k to
        → Pending line here whole copies cells k to ⊎ (IsTrue (at entered k) × Reads line whole here to)
    sound k to low (turn, middle, more, inside, p, c, fits, suffices) =
        elim (one.sound (turn * counts.stride + k) middle (place turn k inside low) p) [
          | inl before ↦ inl (turn, middle, more, inside, before, c, fits, suffices)
          | inr now ↦ began ((given turn k inside low).0 now.0) now.1
        ]
      where
        began : Enters counts (is_gap counts.gaps line here) entered old turn k → Reads line body here middle
            → Pending line here whole copies cells k to ⊎ (IsTrue (at entered k) × Reads line whole here to)
        began (enters.first e is) r =
            inr (
              is,
              (
                more,
                (middle, r, c),
                fits_fewer counts (suc more) (turn + suc more) (omega arith) fits,
                inr (subst (λ n. Suffices line counts n to) (let same : turn + suc more ≡ suc more = omega arith in same) suffices),
              ),
            )
        began (enters.empties gap is) r = inr (is, (more, (middle, r, c), fits_fewer counts (suc more) (turn + suc more) (omega arith) fits, inl gap))
        began (enters.next before e is) r =
            let same : turn + suc more ≡ before + suc (suc more) = omega arith in
            let earlier : before < counts.copies = omega arith in
            inl (
              before,
              here,
              suc more,
              earlier,
              tells.set (before * counts.stride + k) (place before k earlier low) is,
              (middle, r, c),
              subst (λ n. Fits counts n) same fits,
              subst (λ n. Suffices line counts n to) same suffices,
            )
        began (enters.again free e is) r =
            let reached : counts.least ≤ turn + suc (suc more) = omega arith in
            inl (turn, here, suc more, inside, tells.set (turn * counts.stride + k) (place turn k inside low) is, (middle, r, c), inl free, inl reached)

    goes_on : (k to : ℕ) → k < copies → here < to → Pending line here whole copies cells k to → Pending line (suc here) whole copies next k to
    goes_on k to low on (turn, middle, zero, inside, p, c, fits, suffices) =
        (turn, middle, zero, inside, one.goes_on (turn * counts.stride + k) middle (place turn k inside low) (let same = c in omega arith) p, c, fits, suffices)
    goes_on k to low on (turn, middle, suc more, inside, p, (after, r, c), fits, suffices) =
        elim (at_or_past here middle (pending_forward line here body all old (turn * counts.stride + k) middle p)) [
          | inl same ↦
              last (tells.pending (turn * counts.stride + k) (place turn k inside low) (subst (λ n. Pending line here body all old (turn * counts.stride + k) n) (sym same) p))
              (subst (λ n. Reads line body n after) (sym same) r) (at_or_past (suc turn) counts.copies inside) fits
          | inr past ↦
              (turn, middle, suc more, inside, one.goes_on (turn * counts.stride + k) middle (place turn k inside low) past p, (after, r, c), fits, suffices)
        ]
      where
        last : IsTrue (at old (turn * counts.stride + k)) → Reads line body here after → (suc turn ≡ counts.copies) ⊎ (suc turn < counts.copies)
            → Fits counts (turn + suc (suc more)) → Pending line (suc here) whole copies next k to
        last is r (inr further) fits =
            let same : turn + suc (suc more) ≡ suc turn + suc more = omega arith in (
              suc turn,
              after,
              more,
              further,
              one.begins (suc turn * counts.stride + k) after (place (suc turn) k further low) ((given (suc turn) k further low).1 (enters.next turn refl is)) r,
              c,
              subst (λ n. Fits counts n) same fits,
              subst (λ n. Suffices line counts n to) same suffices,
            )
        last is r (inl end) (inl free) =
            let reached : counts.least ≤ turn + suc more = omega arith in (
              turn,
              after,
              more,
              inside,
              one.begins (turn * counts.stride + k) after (place turn k inside low) ((given turn k inside low).1 (enters.again free end is)) r,
              c,
              inl free,
              inl reached,
            )
        last is r (inl end) (inr within) = absurd (omega arith)

    begins : (k to : ℕ) → k < copies → IsTrue (at entered k) → Reads line whole here to → Pending line (suc here) whole copies next k to
    begins k to low is (more, (middle, r, c), fits, inr suffices) = (
      0,
      middle,
      more,
      some,
      one.begins (0 * counts.stride + k) middle (place 0 k some low) ((given 0 k some low).1 (enters.first refl is)) r,
      c,
      subst (λ n. Fits counts n) (let same : suc more ≡ 0 + suc more = omega arith in same) fits,
      subst (λ n. Suffices line counts n to) (let same : suc more ≡ 0 + suc more = omega arith in same) suffices,
    )
    begins k to low is (more, (middle, r, c), fits, inl gap) =
        elim (le_or_lt (suc more) counts.copies) [
          | inl within ↦
              (let inside : counts.copies - suc more < counts.copies = omega arith in
              let filled : (counts.copies - suc more) + suc more ≡ counts.copies = omega arith in
              let few : (counts.copies - suc more) + suc more ≤ counts.copies = omega arith in
              let reached : counts.least ≤ (counts.copies - suc more) + suc more = omega arith in (
                counts.copies - suc more,
                middle,
                more,
                inside,
                one.begins ((counts.copies - suc more) * counts.stride + k) middle (place (counts.copies - suc more) k inside low)
                    ((given (counts.copies - suc more) k inside low).1 (enters.empties gap is)) r,
                c,
                inr few,
                inl reached,
              ))
          | inr beyond ↦
              (let reached : counts.least ≤ 0 + suc more = omega arith in (
                0,
                middle,
                more,
                some,
                one.begins (0 * counts.stride + k) middle (place 0 k some low) ((given 0 k some low).1 (enters.first refl is)) r,
                c,
                subst (λ n. Fits counts n) (let same : suc more ≡ 0 + suc more = omega arith in same) fits,
                inl reached,
              ))
        ]

    tells_set : (k : ℕ) → k < copies → IsTrue (at next k) → Pending line (suc here) whole copies next k (suc here)
    tells_set k low is =
        let found = (own k low).0 is in
        let few : found.0 + suc 0 ≤ counts.copies = let inside = found.2 in omega arith in
        let same : suc found.0 ≡ found.0 + suc 0 = omega arith in (
          found.0,
          suc here,
          0,
          found.2,
          tells_next.set (found.0 * counts.stride + k) (place found.0 k found.2 low) found.3,
          refl,
          inr few,
          subst (λ n. Suffices line counts n (suc here)) same ((enough found.0).0 found.1),
        )

    tells_pending : (k : ℕ) → k < copies → Pending line (suc here) whole copies next k (suc here) → IsTrue (at next k)
    tells_pending k low (turn, middle, more, inside, p, c, fits, suffices) =
        let on = pending_forward line (suc here) body all new (turn * counts.stride + k) middle p in
        let none = stays line body more middle (suc here) on c in
        let stay : middle ≡ suc here = subst (λ n. Chain (Reads line body) n middle (suc here)) none c in
        let same : turn + suc more ≡ suc turn = omega arith in
        (own k low).1 (
          turn,
          (enough turn).1 (subst (λ n. Suffices line counts n (suc here)) same suffices),
          inside,
          tells_next.pending (turn * counts.stride + k) (place turn k inside low)
              (subst (λ n. Pending line (suc here) body all new (turn * counts.stride + k) n) stay p),
        )

-- A node with no word stays as it is.
pub nothing_stepped : (line : List ℕ) (here copies : ℕ) (entered cells : List ℕ) → IsReady line here nothing copies entered cells
    → Advances line here nothing copies entered cells cells
unfolding IsKept Pending
nothing_stepped line here copies entered cells ready =
    nothing_advances line here copies entered cells cells (λ k low. is_false (at cells k) (λ is. ready.kept.set k low is))
