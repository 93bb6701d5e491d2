-- Texts of which none begins with another, in order.
use Rattle.std.specs.Prelude.{◌≡◌, ℕ, ◌<◌, ◌≤◌, true, false, List, [], ◌∷◌, ◌++◌, get_or, length, map}
use Rattle.std.specs.List.{All, AllPairs}
use Rattle.std.specs.Ordering.{nat_cmp, is_le}
use Rattle.std.specs.Cmp.Lexicographic.{slice_cmp}
use Rattle.std.specs.declared.cmp.Ordering.TheVariants.{Less}
use Rattle.std.specs.declared.alloc.Global.{Global}
use Rattle.std.specs.declared.vec.Vec.{Vec}
use Rattle.prefixes.specs.Under.{begins_with, is_under_one}

abbrev pub bytes_of : List (Vec ℕ Global) → List (List ℕ)
bytes_of texts = map (λ text. text.items) texts

-- Every name that begins with the first text is below the second.
abbrev pub IsAhead : List ℕ → List ℕ → Type 0
IsAhead text other = (name : List ℕ) → begins_with text name ≡ true → slice_cmp nat_cmp name other ≡ Less

-- Each text, with all names that begin with it, is below the later ones.
abbrev pub AreApart : List (List ℕ) → Type 0
AreApart texts = AllPairs IsAhead texts

abbrev pub Rise : List (List ℕ) → Type 0
Rise texts = AllPairs (λ text other. slice_cmp nat_cmp text other ≡ Less) texts

-- The texts before the place are not above the name, and the others are.
pub record SplitsAt (name : List ℕ) (texts : List (List ℕ)) (place : ℕ) : Type 0 where
  pub inside : place ≤ length texts
  pub before : (k : ℕ) (d : List ℕ) → k < place → is_le (slice_cmp nat_cmp (get_or texts k d) name) ≡ true
  pub after : (k : ℕ) (d : List ℕ) → place ≤ k → k < length texts → is_le (slice_cmp nat_cmp (get_or texts k d) name) ≡ false

-- Where the text is not below the old ones, which are apart, so are the new ones, and the same names begin with one of them as
-- with an old one or the text.
pub record Adds (text : List ℕ) (old new : List (List ℕ)) : Type 0 where
  pub apart : AreApart old → All (λ earlier. is_le (slice_cmp nat_cmp earlier text) ≡ true) old → AreApart new
  pub low : (later : List ℕ) → is_le (slice_cmp nat_cmp text later) ≡ true → All (λ earlier. is_le (slice_cmp nat_cmp earlier later) ≡ true) old
      → All (λ earlier. is_le (slice_cmp nat_cmp earlier later) ≡ true) new
  pub names : (name : List ℕ) → is_under_one new name ≡ is_under_one (old ++ text ∷ []) name
  pub some : 0 < length new
