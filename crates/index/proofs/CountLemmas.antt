-- How many names contents have, counted one content after the other.
use Rattle.std.proofs.Common.{◌≡◌, ℕ, ◌+◌, ◌<◌, ◌^◌, List, [], ◌∷◌, map, length, refl, sym, ◌∙◌, ap, arith}
use Rattle.std.specs.Prelude.{sum}
use Rattle.std.specs.Ordering.{nat_cmp}
use Rattle.std.specs.BTreeMap.{is_at, btree_map_len}
use Rattle.std.specs.Map.{lookup}
use Rattle.std.proofs.lemmas.List.{nil_from_length}
use Rattle.std.proofs.lemmas.List.Sums.{sum_by-cons}
use Rattle.index.specs.Private.Contents.{Groups, count_in, names_count}

module _ (count_of : ℕ → ℕ) (total count : ℕ) (left rest : List ℕ) (number : ℕ) (next : left ≡ number ∷ rest)
    (so_far : count + sum (map count_of left) ≡ total) where
  here : count + (count_of number + sum (map count_of rest)) ≡ total
  here =
      ap (λ n. count + n) (sym (sum_by-cons (λ n. n) (count_of number) (map count_of rest)))
      ∙ ap (λ ns. count + sum (map count_of ns)) (sym next)
      ∙ so_far

  pub count-more : (counted : ℕ) → counted ≡ count_of number → (count + counted) + sum (map count_of rest) ≡ total
  count-more counted is = let one = here in omega (arith, one, is)

  pub count-fits : (counted : ℕ) → counted ≡ count_of number → total < 2 ^ 32 → count + counted < 2 ^ 64
  count-fits counted is few = let one = here in omega (arith, one, is, few)

pub count-end : (count_of : ℕ → ℕ) (total count : ℕ) (left : List ℕ) → left ≡ [] → count + sum (map count_of left) ≡ total → count ≡ total
count-end count_of total count left none so_far =
    let nothing : sum (map count_of left) ≡ 0 = ap (λ ns. sum (map count_of ns)) none in
    omega (arith, nothing, so_far)

-- without any entry each content has one
pub count-single : (groups : Groups) → btree_map_len groups ≡ 0 → (numbers : List ℕ) → length numbers ≡ sum (map (names_count groups) numbers)
count-single groups none [] = refl
count-single groups none (n ∷ numbers) =
    let one : names_count groups n ≡ 1 = ap (λ es. count_in (lookup (is_at (nat_cmp n)) es)) (nil_from_length groups.entries none) in
    let rest = count-single groups none numbers in
    let cons = sum_by-cons (λ k. k) (names_count groups n) (map (names_count groups) numbers) in
    omega (arith, one, rest, cons)
