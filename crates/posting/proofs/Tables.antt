-- The table that slots and lists make.
use Rattle.std.proofs.Common.{◌≡◌, ℕ, ◌^◌, ◌<◌, ◌≤◌, ◌⊎◌, inl, inr, List, map, sym, subst, arith}
use Rattle.std.specs.List.{range_with_len}
use Rattle.std.proofs.lemmas.Bool.{cases_lt}
use Rattle.std.proofs.lemmas.List.{get_or_past}
use Rattle.std.proofs.lemmas.List.FromFn.{get_or-map-range_with_len, length-map-range_with_len}
use Rattle.posting.specs.Postings.{NumberSet, no_numbers, set_of}
use Rattle.posting.specs.Private.Pages.{trigram_count}

pub below_count : (t : ℕ) → t < 2 ^ 24 → t < trigram_count
unfolding trigram_count
below_count t h = h

pub trigram_count-lt : trigram_count < 2147483647
unfolding trigram_count
trigram_count-lt = omega arith

-- the table of the sets of all trigrams
abbrev pub all_sets : (ℕ → NumberSet) → List NumberSet
all_sets sets = map sets (range_with_len 0 trigram_count)

pub set_of-table : (sets : ℕ → NumberSet) (t : ℕ) → t < trigram_count → set_of (all_sets sets) t ≡ sets t
set_of-table sets t below = get_or-map-range_with_len sets 0 trigram_count t t no_numbers below (omega arith)

pub set_of-past : (sets : ℕ → NumberSet) (t : ℕ) → trigram_count ≤ t → set_of (all_sets sets) t ≡ no_numbers
set_of-past sets t past = get_or_past _ t no_numbers (omega (arith, length-map-range_with_len sets 0 trigram_count))

-- a relation between the sets of two tables
pub tables_relate : (R : NumberSet → NumberSet → Type 0) (sets sets' : ℕ → NumberSet) → R no_numbers no_numbers
    → (t : ℕ) → R (sets t) (sets' t) → R (set_of (all_sets sets) t) (set_of (all_sets sets') t)
tables_relate R sets sets' none t here = cases (cases_lt t trigram_count)
  where
    cases : (t < trigram_count) ⊎ (trigram_count ≤ t) → R (set_of (all_sets sets) t) (set_of (all_sets sets') t)
    cases (inl below) =
        subst (λ s. R s (set_of (all_sets sets') t)) (sym (set_of-table sets t below))
        (subst (λ s. R (sets t) s) (sym (set_of-table sets' t below)) here)
    cases (inr past) =
        subst (λ s. R s (set_of (all_sets sets') t)) (sym (set_of-past sets t past))
        (subst (λ s. R no_numbers s) (sym (set_of-past sets' t past)) none)
