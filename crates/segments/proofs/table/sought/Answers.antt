use Rattle.std.proofs.Common.{◌≡◌, ◌<◌, ◌≤◌, ◌⊎◌, inl, inr, ℕ, get_or, sym, arith}
use Rattle.std.proofs.lemmas.Bool.{cases_lt}
use Rattle.segments.proofs.Members.{searched_for}
use Rattle.segments.proofs.Rising.{rises_at}
use Rattle.segments.proofs.table.sought.Goals as goal

pub returns-then-not-is_there : goal.returns-then-not-is_there
returns-then-not-is_there c = searched_for c.args.numbers.now c.args.number c.binary_search.result c.requires c.binary_search.ensures.position

pub returns : goal.returns
returns c =
    let xs = c.args.numbers.now in
    let there = c.is_there.ensures c.if-not-is_there.false in
    let inside = there.0 in
    let least = there.1 in
    let other = c.if-numbers-first.false in
    let above : c.args.number < get_or xs c.args.first 0 = le_neq least (λ same. other (sym same)) in (
      omega (arith, inside),
      there.2,
      λ k from within. (let up = rises_at xs c.requires c.args.first k from within in omega (arith, up, above)),
    )
  where
    le_neq : {a b : ℕ} → a ≤ b → (a ≡ b → ⊥) → a < b
    le_neq {a} {b} le neq = go (cases_lt a b)
      where
        go : (a < b) ⊎ (b ≤ a) → a < b
        go (inl less) = less
        go (inr ge) = absurd (neq (omega (arith, le, ge)))
