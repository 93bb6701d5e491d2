-- Words lead forward, and what is pending ends no earlier than here.
use Rattle.std.proofs.Common.{◌≡◌, ℕ, zero, suc, ◌+◌, ◌*◌, ◌<◌, ◌≤◌, Bool, true, false, List, ◌⊎◌, inl, inr, refl, arith, drop, nat_lt, nat_le}
use Rattle.std.proofs.lemmas.Bool.Decides.{nat_tests}
use Rattle.spans.specs.Spans.{Relation}
use Rattle.simulation.specs.declared.node.RunLayout.{RunLayout}
use Rattle.simulation.specs.Nodes.{Row as rows}
use Rattle.simulation.specs.Nodes.{Shape, nothing, set, run, both, either, loop, times, Chain, Reads, Row}
use Rattle.simulation.specs.Pending.{Pending, first_of, second_of}

pub chain_not_back : (relation : Relation) → ((a b : ℕ) → relation a b → a < b) → (count from to : ℕ) → Chain relation count from to → from ≤ to
unfolding Chain
chain_not_back relation forward zero from to h = omega arith
chain_not_back relation forward (suc count) from to h =
    let one = forward from h.0 h.1 in
    let rest = chain_not_back relation forward count h.0 to h.2 in
    omega arith

pub chain_forward : (relation : Relation) → ((a b : ℕ) → relation a b → a < b) → (count from to : ℕ) → Chain relation (suc count) from to → from < to
unfolding Chain
chain_forward relation forward count from to h =
    let one = forward from h.0 h.1 in
    let rest = chain_not_back relation forward count h.0 to h.2 in
    omega arith

pub row_forward : (line masks : List ℕ) (places : RunLayout) (left from to : ℕ) → Row line masks places left from to → from ≤ to
row_forward line masks places zero from to (rows.done e) = omega arith
row_forward line masks places (suc left) from to (rows.skips o r) = row_forward line masks places left from to r
row_forward line masks places (suc left) from to (rows.reads i r) = let on = row_forward line masks places left (suc from) to r in omega arith
row_forward line masks places left from to (rows.again p i r) = let on = row_forward line masks places left (suc from) to r in omega arith

pub reads_forward : (line : List ℕ) (node : Shape) (from to : ℕ) → Reads line node from to → from < to
unfolding Reads
reads_forward line nothing from to h = absurd h
reads_forward line (set members) from to h = let next = h.0 in omega arith
reads_forward line (run masks places) from to h = h.0
reads_forward line (both left right sizes before after) from to (inl h) =
    let one = reads_forward line left from h.0 h.1 in
    let two = reads_forward line right h.0 to h.2 in
    omega arith
reads_forward line (both left right sizes before after) from to (inr (inl h)) = reads_forward line right from to h.1
reads_forward line (both left right sizes before after) from to (inr (inr h)) = reads_forward line left from to h.0
reads_forward line (either left right sizess) from to (inl h) = reads_forward line left from to h
reads_forward line (either left right sizess) from to (inr h) = reads_forward line right from to h
reads_forward line (loop body own) from to h = chain_forward (Reads line body) (λ a b r. reads_forward line body a b r) h.0 from to h.1
reads_forward line (times body counts) from to h = chain_forward (Reads line body) (λ a b r. reads_forward line body a b r) h.0 from to h.1

pub chain_on : (line : List ℕ) (node : Shape) (count from to : ℕ) → Chain (Reads line node) count from to → from ≤ to
chain_on line node count from to h = chain_not_back (Reads line node) (λ a b r. reads_forward line node a b r) count from to h

pub pending_forward : (line : List ℕ) (here : ℕ) (node : Shape) (copies : ℕ) (cells : List ℕ) (copy to : ℕ)
    → Pending line here node copies cells copy to → here ≤ to
unfolding Pending
pending_forward line here nothing copies cells copy to h = absurd h
pending_forward line here (set members) copies cells copy to h = let same = h.1 in omega arith
pending_forward line here (run masks places) copies cells copy to h = row_forward line masks places h.0 here to h.3
pending_forward line here (both left right sizes before after) copies cells copy to (inl (middle, p, inl r)) =
    let one = pending_forward line here left copies (first_of sizes cells) copy middle p in
    let two = reads_forward line right middle to r in
    omega arith
pending_forward line here (both left right sizes before after) copies cells copy to (inl (middle, p, inr r)) =
    let one = pending_forward line here left copies (first_of sizes cells) copy middle p in
    let two = r.0 in
    omega arith
pending_forward line here (both left right sizes before after) copies cells copy to (inr p) =
    pending_forward line here right copies (second_of sizes cells) copy to p
pending_forward line here (either left right sizes) copies cells copy to (inl p) = pending_forward line here left copies (first_of sizes cells) copy to p
pending_forward line here (either left right sizes) copies cells copy to (inr p) =
    pending_forward line here right copies (second_of sizes cells) copy to p
pending_forward line here (loop body own) copies cells copy to (middle, more, p, r) =
    let one = pending_forward line here body copies cells copy middle p in
    let two = chain_on line body more middle to r in
    omega arith
pending_forward line here (times body counts) copies cells copy to (turn, middle, more, inside, p, r, fits, enough) =
    let one = pending_forward line here body (counts.copies * counts.stride) (drop counts.own cells) (turn * counts.stride + copy) middle p in
    let two = chain_on line body more middle to r in
    omega arith

-- A chain that leads nowhere has no word.
pub stays : (line : List ℕ) (node : Shape) (count from to : ℕ) → to ≤ from → Chain (Reads line node) count from to → count ≡ 0
stays line node zero from to back h = refl
stays line node (suc count) from to back h =
    let on = chain_forward (Reads line node) (λ a b r. reads_forward line node a b r) count from to h in
    absurd (omega arith)

pub at_or_past : (here there : ℕ) → here ≤ there → (here ≡ there) ⊎ (here < there)
at_or_past here there h = go (nat_lt here there) refl
  where
    go : (t : Bool) → nat_lt here there ≡ t → (here ≡ there) ⊎ (here < there)
    go true e = let past : here < there = grind (arith, nat_tests) in inr past
    go false e =
        let behind : there ≤ here = grind (arith, nat_tests) in
        let same : here ≡ there = omega arith in
        inl same

pub le_or_lt : (a b : ℕ) → (a ≤ b) ⊎ (b < a)
le_or_lt a b = go (nat_le a b) refl
  where
    go : (t : Bool) → nat_le a b ≡ t → (a ≤ b) ⊎ (b < a)
    go true e = let low : a ≤ b = grind (arith, nat_tests) in inl low
    go false e = let high : b < a = grind (arith, nat_tests) in inr high
