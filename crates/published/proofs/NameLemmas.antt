-- What a set of names has after a change.
use Rattle.std.proofs.Common.{◌≡◌, ℕ, Bool, true, false, not, ◌&&◌, ◌||◌, cond, List, refl, sym, ap, ◌∙◌}
use Rattle.std.specs.Prelude.{bytes_eq}
use Rattle.std.specs.Ordering.{nat_cmp}
use Rattle.std.specs.Cmp.Lexicographic.{slice_cmp, texts_ties}
use Rattle.std.specs.BTreeMap.{is_at}
use Rattle.std.specs.BTreeSet.{BTreeSet, contains}

pub or_is : (b x : Bool) → cond b true x ≡ (b || x)
or_is true x = refl
or_is false x = refl

pub and_is : (b x : Bool) → cond b false x ≡ (not b && x)
and_is true x = refl
and_is false x = refl

module _ (old new : BTreeSet (List ℕ)) (name : List ℕ) where
  pub added : ((q : List ℕ) → contains (slice_cmp nat_cmp) new q ≡ cond (is_at (slice_cmp nat_cmp name) q) true (contains (slice_cmp nat_cmp) old q))
      → (q : List ℕ) → contains (slice_cmp nat_cmp) new q ≡ (bytes_eq name q || contains (slice_cmp nat_cmp) old q)
  added updates q =
      updates q
      ∙ (ap (λ t. cond t true (contains (slice_cmp nat_cmp) old q)) (sym (texts_ties name q))
      ∙ or_is (bytes_eq name q) (contains (slice_cmp nat_cmp) old q))

  pub removed : ((q : List ℕ) → contains (slice_cmp nat_cmp) new q ≡ cond (is_at (slice_cmp nat_cmp name) q) false (contains (slice_cmp nat_cmp) old q))
      → (q : List ℕ) → contains (slice_cmp nat_cmp) new q ≡ (not (bytes_eq name q) && contains (slice_cmp nat_cmp) old q)
  removed updates q =
      updates q
      ∙ (ap (λ t. cond t false (contains (slice_cmp nat_cmp) old q)) (sym (texts_ties name q))
      ∙ and_is (bytes_eq name q) (contains (slice_cmp nat_cmp) old q))
