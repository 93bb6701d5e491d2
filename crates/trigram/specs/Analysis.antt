-- The analysis of a tree into what its words must contain (Russ Cox, "Regular Expression Matching with a
-- Trigram Index", 2012). The rows for the empty text, one byte, `e?`, `e*`, `e+`, alternation and
-- concatenation are his; the limits 16 and 64, the cutting to two bytes, the term for two loose neighbours,
-- byte sets and intervals are this program's.
use Rattle.std.specs.Prelude.{ℕ, zero, suc, ◌-◌, Bool, true, false, ◌&&◌, ◌||◌, ◌==◌, nat_le, IsTrue, List, [], ◌∷◌, length, map, filter}
use Rattle.std.specs.Prelude.{take, Option, Some, None, if◌then◌else◌}
use Rattle.std.specs.List.{list_all, range_with_len}
use Rattle.ere.specs.ByteSet.{has}
use Rattle.ere.specs.Tree.{Tree, Trees}
use Rattle.ere.specs.Tree as tree
use Rattle.query.specs.Trigrams.{TrigramSet}
use Rattle.trigram.specs.Texts.{Texts, has_text, union, joins, has_all_of_one, ending, most_texts, kept_ends}

-- a test of sets of trigrams
abbrev pub SetTest : Type 0
SetTest = TrigramSet → Bool

-- What is known about the words of a tree, if each anchor counts as the empty text.
pub data Analysis : Type 0 where
  -- they are these texts
  known : Texts → Analysis
  -- whether a word can be empty; texts, one of which begins each word; texts, one of which ends each word;
  -- and a condition that every set with all trigrams of a word meets
  loose : Bool → Texts → Texts → SetTest → Analysis

-- the empty text alone
abbrev pub just_empty : Texts
just_empty = [] ∷ []

-- nothing is known, and a word can be empty
abbrev pub anything : Analysis
anything = loose true just_empty just_empty (λ _. true)

-- The trigrams of the ends go into the condition, and then the ends are cut.
abbrev pub settle_loose : Bool → Texts → Texts → SetTest → Analysis
settle_loose nullable prefixes suffixes condition =
    loose nullable (kept_ends take prefixes) (kept_ends ending suffixes) (λ set. condition set && (has_all_of_one prefixes set && has_all_of_one suffixes set))

abbrev pub loosen : Analysis → Analysis
loosen (known texts) = settle_loose (has_text texts []) texts texts (has_all_of_one texts)
loosen (loose nullable prefixes suffixes condition) = loose nullable prefixes suffixes condition

-- the longest text that is kept whole
abbrev pub longest_text : ℕ
longest_text = 64

-- whether the texts are few and short enough to be kept whole
abbrev pub are_kept : Texts → Bool
are_kept texts = nat_le (length texts) most_texts && list_all (λ text. nat_le (length text) longest_text) texts

abbrev pub settle_known : Texts → Analysis
settle_known texts = if are_kept texts then known texts else loosen (known texts)

-- whether a word can be empty
abbrev pub is_nullable : Analysis → Bool
is_nullable (known texts) = has_text texts []
is_nullable (loose nullable prefixes suffixes condition) = nullable

-- texts, one of which begins each word
abbrev pub prefixes_of : Analysis → Texts
prefixes_of (known texts) = texts
prefixes_of (loose nullable prefixes suffixes condition) = prefixes

-- texts, one of which ends each word
abbrev pub suffixes_of : Analysis → Texts
suffixes_of (known texts) = texts
suffixes_of (loose nullable prefixes suffixes condition) = suffixes

-- the condition without the trigrams of known texts, which are in the prefixes and the suffixes
abbrev pub condition_beside : Analysis → SetTest
condition_beside (known texts) = λ _. true
condition_beside (loose nullable prefixes suffixes condition) = condition

-- the condition that every set with all trigrams of a word meets
abbrev pub condition_of : Analysis → SetTest
condition_of (known texts) = has_all_of_one texts
condition_of (loose nullable prefixes suffixes condition) = condition

-- two alternatives
abbrev pub either : Analysis → Analysis → Analysis
either (known left) (known right) = settle_known (union left right)
either left right = either_loose (loosen left) (loosen right)
  where
    either_loose : Analysis → Analysis → Analysis
    either_loose l r =
        settle_loose (is_nullable l || is_nullable r) (union (prefixes_of l) (prefixes_of r)) (union (suffixes_of l) (suffixes_of r))
        (λ set. condition_beside l set || condition_beside r set)

-- the prefixes of two neighbours together
abbrev pub joined_prefixes : Analysis → Analysis → Texts
joined_prefixes (known texts) right = joins texts (prefixes_of right)
joined_prefixes (loose nullable prefixes suffixes condition) right = if nullable then union prefixes (prefixes_of right) else prefixes

-- the suffixes of two neighbours together
abbrev pub joined_suffixes : Analysis → Analysis → Texts
joined_suffixes left (known texts) = joins (suffixes_of left) texts
joined_suffixes left (loose nullable prefixes suffixes condition) = if nullable then union suffixes (suffixes_of left) else suffixes

-- the condition on the trigrams that cross the border of two loose neighbours
abbrev pub across : Analysis → Analysis → SetTest
across (loose nullable prefixes suffixes condition) (loose nullable' prefixes' suffixes' condition') = has_all_of_one (joins suffixes prefixes')
across _ _ = λ _. true

-- two neighbours, one after the other
abbrev pub both : Analysis → Analysis → Analysis
both (known left) (known right) = settle_known (joins left right)
both left right =
    settle_loose (is_nullable left && is_nullable right) (joined_prefixes left right) (joined_suffixes left right)
    (λ set. condition_beside left set && (condition_beside right set && across left right set))

-- one copy, and this many more
unfoldable pub copies_of : Analysis → ℕ → Analysis
copies_of one zero = one
copies_of one (suc others) = both (copies_of one others) one

-- between none and this many copies
abbrev pub optional : Analysis → ℕ → Analysis
optional one most =
    if most == 0 then known just_empty
    else (if most == 1 then at_most_one one else anything)
  where
    at_most_one : Analysis → Analysis
    at_most_one (known texts) = settle_known (union texts just_empty)
    at_most_one (loose nullable prefixes suffixes condition) = anything

abbrev pub repeated : Analysis → ℕ → Option ℕ → Analysis
repeated one least None =
    if least == 0 then anything
    else (if least == 1 then loosen one else both (copies_of one (least - 2)) (loosen one))
repeated one least (Some most) =
    if least == 0 then optional one most
    else (if least == most then copies_of one (least - 1) else both (copies_of one (least - 1)) (optional one (most - least)))

-- the bytes of a set, rising
unfoldable pub bytes_in : List Bool → List ℕ
bytes_in members = filter (has members) (range_with_len 0 256)

-- a byte of a set
abbrev pub one_byte : List Bool → Analysis
one_byte members =
    if nat_le (length (bytes_in members)) most_texts then known (map (λ b. b ∷ []) (bytes_in members))
    else loose false just_empty just_empty (λ _. true)

unfoldable mutual
  pub analysis_of : Tree → Analysis
  analysis_of tree.empty = known just_empty
  analysis_of (tree.set members) = one_byte members
  analysis_of tree.at_start = known just_empty
  analysis_of tree.at_end = known just_empty
  analysis_of (tree.cat tree.none) = known just_empty
  analysis_of (tree.cat (tree.more first others)) = both_all (analysis_of first) others
  analysis_of (tree.alt tree.none) = known []
  analysis_of (tree.alt (tree.more first others)) = either_all (analysis_of first) others
  analysis_of (tree.repeat body least greatest) = repeated (analysis_of body) least greatest

  -- from the left, two at a time
  pub both_all : Analysis → Trees → Analysis
  both_all left tree.none = left
  both_all left (tree.more first others) = both_all (both left (analysis_of first)) others

  -- alternatives, from the left, two at a time
  pub either_all : Analysis → Trees → Analysis
  either_all left tree.none = left
  either_all left (tree.more first others) = either_all (either left (analysis_of first)) others

-- whether a set of trigrams meets the condition of a tree
abbrev pub condition : Tree → SetTest
condition tree = condition_of (analysis_of tree)

-- The set of trigrams meets the condition of the tree.
abbrev pub Condition : Tree → TrigramSet → Type 0
Condition tree set = IsTrue (condition tree set)
