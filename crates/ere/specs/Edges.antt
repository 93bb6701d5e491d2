-- Trees that match only whole words or whole lines.
use Rattle.std.specs.Prelude.{◌≡◌, ℕ, ◌<◌, ◌≤◌, IsFalse, List, [], ◌∷◌, ◌++◌}
use Rattle.ere.specs.ByteSet.{complement, set_of}
use Rattle.ere.specs.Classes.{is_word_byte}
use Rattle.ere.specs.Language.{InLanguage}
use Rattle.ere.specs.Limits.{greatest_height, greatest_leaves, height, leaves}
use Rattle.ere.specs.Tree.{Tree, set, at_start, at_end, cat, alt, none, more}
use Rattle.ere.specs.declared.error.EreError.{EreError}
use Rattle.ere.specs.declared.error.EreErrorKind.TheVariants.{TooDeep, TooLarge}

-- the line bytes that are in no word: `[^_[:alnum:]]`
abbrev pub between_words : Tree
between_words = set (complement (set_of is_word_byte))

-- `(^|[^_[:alnum:]])(TREE)($|[^_[:alnum:]])`
abbrev pub word_tree : Tree → Tree
word_tree tree =
    cat (more (alt (more at_start (more between_words none))) (more tree (more (alt (more at_end (more between_words none))) none)))

-- `^(TREE)$`
abbrev pub line_tree : Tree → Tree
line_tree tree = cat (more at_start (more tree (more at_end none)))

-- Some part of the line is a word of the tree there, and no word byte is right before it or right after it.
pub record ContainsWholeWord (tree : Tree) (line : List ℕ) : Type 0 where
  pub before : List ℕ
  pub word : List ℕ
  pub after : List ℕ
  pub is_line : line ≡ before ++ (word ++ after)
  pub in_language : InLanguage tree before word after
  pub begins : (front : List ℕ) (b : ℕ) → before ≡ front ++ b ∷ [] → IsFalse (is_word_byte b)
  pub ends : (b : ℕ) (rest : List ℕ) → after ≡ b ∷ rest → IsFalse (is_word_byte b)

-- Why a tree is not within the limits. Its height comes first, and then its leaves.
pub data IsSizeFault (tree : Tree) (fault : EreError) : Type 0 where
  too_deep : greatest_height < height tree → fault.kind ≡ TooDeep → fault.at ≡ 0 → IsSizeFault tree fault
  too_large : height tree ≤ greatest_height → greatest_leaves < leaves tree → fault.kind ≡ TooLarge → fault.at ≡ 0 → IsSizeFault tree fault
