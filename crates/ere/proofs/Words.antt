-- The words of a tree without their surroundings: what remains of a word once its surroundings are forgotten.
use Rattle.std.proofs.Common.{◌≡◌, ℕ, zero, suc, ◌≤◌, IsTrue, List, [], ◌∷◌, ◌++◌, ◌⊎◌, IfSome, inl, inr, ⊎_elim}
use Rattle.ere.specs.ByteSet.{has}
use Rattle.ere.specs.Tree.{Tree, empty, set, at_start, at_end, cat, alt, repeat, Trees, none, more}
use Rattle.ere.specs.Language.{Language, InCopies, InLanguage, InEach, InSome}
use Rattle.ere.specs.Anchors.{without_anchors, all_without_anchors, ForgetsSurroundings}

-- A set of words.
abbrev pub WordSet : Type 1
WordSet = List ℕ → Type 0

-- `count` words of a set, one after the other
unfoldable pub IsPower : WordSet → ℕ → WordSet
IsPower words zero word = word ≡ []
IsPower words (suc count) word = (front back : List ℕ) × (word ≡ front ++ back) × IsPower words count front × words back

unfoldable mutual
  -- The word is one of the tree, where an anchor is the empty text.
  pub IsWord : Tree → WordSet
  IsWord empty word = word ≡ []
  IsWord (set members) word = (b : ℕ) × (word ≡ b ∷ []) × IsTrue (has members b)
  IsWord at_start word = word ≡ []
  IsWord at_end word = word ≡ []
  IsWord (cat members) word = IsWordOfEach members word
  IsWord (alt members) word = IsWordOfSome members word
  IsWord (repeat body least greatest) word = (count : ℕ) × (least ≤ count) × IfSome greatest (λ most. count ≤ most) × IsPower (IsWord body) count word

  pub IsWordOfEach : Trees → WordSet
  IsWordOfEach none word = word ≡ []
  IsWordOfEach (more tree trees) word = (front back : List ℕ) × (word ≡ front ++ back) × IsWord tree front × IsWordOfEach trees back

  pub IsWordOfSome : Trees → WordSet
  IsWordOfSome none word = ⊥
  IsWordOfSome (more tree trees) word = IsWord tree word ⊎ IsWordOfSome trees word

power_from_copies : (language : Language) (words : WordSet) → ((before word after : List ℕ) → language before word after → words word)
    → (count : ℕ) (before word after : List ℕ) → InCopies language count before word after → IsPower words count word
unfolding InCopies IsPower
power_from_copies language words one zero before word after h = h
power_from_copies language words one (suc count) before word after h =
    (h.0, h.1, h.2, power_from_copies language words one count before h.0 (h.1 ++ after) h.3, one (before ++ h.0) h.1 after h.4)

copies_from_power : (language : Language) (words : WordSet) → ((before word after : List ℕ) → words word → language before word after)
    → (count : ℕ) (before word after : List ℕ) → IsPower words count word → InCopies language count before word after
unfolding InCopies IsPower
copies_from_power language words one zero before word after h = h
copies_from_power language words one (suc count) before word after h =
    (h.0, h.1, h.2, copies_from_power language words one count before h.0 (h.1 ++ after) h.3, one (before ++ h.0) h.1 after h.4)

mutual
  unfolding InLanguage IsWord

  -- a word in its surroundings is a word
  pub IsWord-from_language : (tree : Tree) (before word after : List ℕ) → InLanguage tree before word after → IsWord tree word
  IsWord-from_language empty before word after h = h
  IsWord-from_language (set members) before word after h = h
  IsWord-from_language at_start before word after h = h.1
  IsWord-from_language at_end before word after h = h.0
  IsWord-from_language (cat members) before word after h = each_from_language members before word after h
  IsWord-from_language (alt members) before word after h = some_from_language members before word after h
  IsWord-from_language (repeat body least greatest) before word after h =
      (h.0, h.1, h.2, power_from_copies (InLanguage body) (IsWord body) (IsWord-from_language body) h.0 before word after h.3)

  each_from_language : (trees : Trees) (before word after : List ℕ) → InEach trees before word after → IsWordOfEach trees word
  each_from_language none before word after h = h
  each_from_language (more tree trees) before word after h =
      (h.0, h.1, h.2, IsWord-from_language tree before h.0 (h.1 ++ after) h.3, each_from_language trees (before ++ h.0) h.1 after h.4)

  some_from_language : (trees : Trees) (before word after : List ℕ) → InSome trees before word after → IsWordOfSome trees word
  some_from_language none before word after h = h
  some_from_language (more tree trees) before word after h =
      ⊎_elim (λ here. inl (IsWord-from_language tree before word after here)) (λ later. inr (some_from_language trees before word after later)) h

mutual
  unfolding InLanguage IsWord without_anchors

  -- a word is one of the tree without its anchors, in any surroundings
  pub without_anchors-from_word : (tree : Tree) (before word after : List ℕ) → IsWord tree word → InLanguage (without_anchors tree) before word after
  without_anchors-from_word empty before word after h = h
  without_anchors-from_word (set members) before word after h = h
  without_anchors-from_word at_start before word after h = h
  without_anchors-from_word at_end before word after h = h
  without_anchors-from_word (cat members) before word after h = each_without_anchors-from_word members before word after h
  without_anchors-from_word (alt members) before word after h = some_without_anchors-from_word members before word after h
  without_anchors-from_word (repeat body least greatest) before word after h =
      (h.0, h.1, h.2, copies_from_power (InLanguage (without_anchors body)) (IsWord body) (without_anchors-from_word body) h.0 before word after h.3)

  each_without_anchors-from_word : (trees : Trees) (before word after : List ℕ) → IsWordOfEach trees word → InEach (all_without_anchors trees) before word after
  each_without_anchors-from_word none before word after h = h
  each_without_anchors-from_word (more tree trees) before word after h =
      (h.0, h.1, h.2, without_anchors-from_word tree before h.0 (h.1 ++ after) h.3, each_without_anchors-from_word trees (before ++ h.0) h.1 after h.4)

  some_without_anchors-from_word : (trees : Trees) (before word after : List ℕ) → IsWordOfSome trees word → InSome (all_without_anchors trees) before word after
  some_without_anchors-from_word none before word after h = h
  some_without_anchors-from_word (more tree trees) before word after h =
      ⊎_elim (λ here. inl (without_anchors-from_word tree before word after here))
      (λ later. inr (some_without_anchors-from_word trees before word after later)) h

mutual
  unfolding InLanguage IsWord without_anchors

  -- A word of the tree without its anchors, in any surroundings, is a word of the tree.
  pub IsWord-from_without_anchors : (tree : Tree) (before word after : List ℕ) → InLanguage (without_anchors tree) before word after → IsWord tree word
  IsWord-from_without_anchors empty before word after h = h
  IsWord-from_without_anchors (set members) before word after h = h
  IsWord-from_without_anchors at_start before word after h = h
  IsWord-from_without_anchors at_end before word after h = h
  IsWord-from_without_anchors (cat members) before word after h = each-from_without_anchors members before word after h
  IsWord-from_without_anchors (alt members) before word after h = some-from_without_anchors members before word after h
  IsWord-from_without_anchors (repeat body least greatest) before word after h =
      (h.0, h.1, h.2, power_from_copies (InLanguage (without_anchors body)) (IsWord body) (IsWord-from_without_anchors body) h.0 before word after h.3)

  each-from_without_anchors : (trees : Trees) (before word after : List ℕ) → InEach (all_without_anchors trees) before word after → IsWordOfEach trees word
  each-from_without_anchors none before word after h = h
  each-from_without_anchors (more tree trees) before word after h =
      (h.0, h.1, h.2, IsWord-from_without_anchors tree before h.0 (h.1 ++ after) h.3, each-from_without_anchors trees (before ++ h.0) h.1 after h.4)

  some-from_without_anchors : (trees : Trees) (before word after : List ℕ) → InSome (all_without_anchors trees) before word after → IsWordOfSome trees word
  some-from_without_anchors none before word after h = h
  some-from_without_anchors (more tree trees) before word after h =
      ⊎_elim (λ here. inl (IsWord-from_without_anchors tree before word after here)) (λ later. inr (some-from_without_anchors trees before word after later)) h

pub forgets_surroundings : ForgetsSurroundings
forgets_surroundings tree before word after before' after' h =
    without_anchors-from_word tree before' word after' (IsWord-from_language tree before word after h)
