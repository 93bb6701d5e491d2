-- The language of a tree (POSIX.1-2017 XBD 9.4, anchors by 9.4.9), as a set of triples: the text before a
-- word, the word, and the text after it.
use Rattle.std.specs.Prelude.{◌≡◌, ℕ, zero, suc, ◌≤◌, IsTrue, List, [], ◌∷◌, ◌++◌, ◌⊎◌, IfSome}
use Rattle.ere.specs.ByteSet.{has}
use Rattle.ere.specs.Tree.{Tree, empty, set, at_start, at_end, cat, alt, repeat, Trees, none, more}

-- A relation of the text before, the word and the text after.
abbrev pub Language : Type 1
Language = List ℕ → List ℕ → List ℕ → Type 0

-- `count` words of a language, one after the other
unfoldable pub InCopies : Language → ℕ → Language
InCopies language zero before word after = word ≡ []
InCopies language (suc count) before word after =
    (front back : List ℕ) × (word ≡ front ++ back) × InCopies language count before front (back ++ after) × language (before ++ front) back after

unfoldable mutual
  pub InLanguage : Tree → List ℕ → List ℕ → List ℕ → Type 0
  InLanguage empty before word after = word ≡ []
  InLanguage (set members) before word after = (b : ℕ) × (word ≡ b ∷ []) × IsTrue (has members b)
  InLanguage at_start before word after = (before ≡ []) × (word ≡ [])
  InLanguage at_end before word after = (word ≡ []) × (after ≡ [])
  InLanguage (cat members) before word after = InEach members before word after
  InLanguage (alt members) before word after = InSome members before word after
  InLanguage (repeat body least greatest) before word after =
      (count : ℕ) × (least ≤ count) × IfSome greatest (λ most. count ≤ most) × InCopies (InLanguage body) count before word after

  -- a word of each, one after the other
  pub InEach : Trees → List ℕ → List ℕ → List ℕ → Type 0
  InEach none before word after = word ≡ []
  InEach (more tree trees) before word after =
      (front back : List ℕ) × (word ≡ front ++ back) × InLanguage tree before front (back ++ after) × InEach trees (before ++ front) back after

  -- a word of one of them
  pub InSome : Trees → List ℕ → List ℕ → List ℕ → Type 0
  InSome none before word after = ⊥
  InSome (more tree trees) before word after = InLanguage tree before word after ⊎ InSome trees before word after

-- Some part of the line is a word of the tree between the text before it and the text after it.
pub record ContainsMatch (tree : Tree) (line : List ℕ) : Type 0 where
  pub before : List ℕ
  pub word : List ℕ
  pub after : List ℕ
  pub is_line : line ≡ before ++ (word ++ after)
  pub in_language : InLanguage tree before word after
