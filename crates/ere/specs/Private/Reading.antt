-- What the functions of the pattern reader ensure for one another.
use Rattle.std.specs.Prelude.{◌≡◌, ℕ, suc, ◌+◌, ◌<◌, ◌≤◌, Bool, true, false, ◌&&◌, ◌||◌, ◌==◌, nat_lt, IsTrue, IsFalse, List, [], ◌∷◌, ◌++◌}
use Rattle.std.specs.Prelude.{map, Option, Some, None, MatchOption, slice_index}
use Rattle.std.specs.List.{AllPass}
use Rattle.ere.specs.declared.case.Case.{Case}
use Rattle.ere.specs.declared.token.Token.{Token}
use Rattle.ere.specs.declared.token.Token.TheVariants.{Set, Opens, Closes, Bar, AtStart, AtEnd, Times}
use Rattle.ere.specs.declared.parts.Part.{Part}
use Rattle.ere.specs.declared.parts.Members.{Members}
use Rattle.ere.specs.Brackets.{begins_with, IsCollatingSymbol}
use Rattle.ere.specs.Classes.{is_digit}
use Rattle.ere.specs.Limits.{greatest_open, greatest_height, height, highest}
use Rattle.ere.specs.Spelling.{SpellsDuplications, SpellsAtom, SpellsPiece, SpellsBranch, SpellsAlternatives, branch_of, alternatives_of}
use Rattle.ere.specs.Tokens.{digit_ahead, SpellsCount, SpellsToken}
use Rattle.ere.specs.Tree.{Tree, Trees, none, more, trees_of, form}
use Rattle.ere.specs.Tokens as tokens

-- whether the text begins with `[` and this mark
abbrev pub opens_with : ℕ → List ℕ → Bool
opens_with mark [] = false
opens_with mark (b ∷ text) = b == 91 && begins_with mark text

-- `[`, a mark, one byte, the mark and `]`
abbrev pub IsSymbol : ℕ → List ℕ → ℕ → List ℕ → Type 0
IsSymbol mark from x rest = from ≡ 91 ∷ mark ∷ x ∷ mark ∷ 93 ∷ rest

-- The mark and a `]` are at an offset.
abbrev pub IsSymbolEnd : ℕ → List ℕ → ℕ → Type 0
IsSymbolEnd mark text k = (slice_index text k ≡ mark) × (slice_index text (k + 1) ≡ 93)

-- A byte, where a `[` opens no collating symbol, or `[.x.]`.
pub data IsByteOrSymbol (from : List ℕ) (x : ℕ) (rest : List ℕ) : Type 0 where
  byte : from ≡ x ∷ rest → (x ≡ 91 → IsFalse (begins_with 46 rest)) → IsByteOrSymbol from x rest
  symbol : IsCollatingSymbol from x rest → IsByteOrSymbol from x rest

-- the token of the definitions that a token of the program stands for
abbrev pub meaning : Token → tokens.Token
meaning (Set members) = tokens.set members
meaning Opens = tokens.opens
meaning Closes = tokens.closes
meaning Bar = tokens.bar
meaning AtStart = tokens.at_start
meaning AtEnd = tokens.at_end
meaning (Times least greatest) = tokens.times least greatest

-- whether a byte begins a token of more bytes than itself
abbrev pub begins_longer : ℕ → List ℕ → Bool
begins_longer b text = b == 91 || (b == 92 || (b == 123 && digit_ahead text))

-- No duplication is at the front.
abbrev pub NoDuplication : Case → List ℕ → Type 0
NoDuplication case from = (rest : List ℕ) (least : ℕ) (greatest : Option ℕ) → SpellsToken case from rest (tokens.times least greatest) → ⊥

-- All the decimal digits at the front, and the count that they spell, if they spell one.
pub record ReadsCount (from rest : List ℕ) (count : Option ℕ) : Type 0 where
  pub digits : List ℕ
  pub is_front : from ≡ digits ++ rest
  pub decimal : AllPass is_digit digits
  pub ends : IsFalse (digit_ahead rest)
  pub counted : MatchOption count ((n : ℕ) → SpellsCount digits n → ⊥) (SpellsCount digits)

-- one list of trees after another
abbrev pub join : Trees → Trees → Trees
join none trees = trees
join (more tree others) trees = more tree (join others trees)

-- Alternatives inside `depth` groups end in front of these tokens: at the end, or where a group closes.
abbrev pub Ends : List tokens.Token → ℕ → Type 0
Ends [] depth = Unit {0}
Ends (tokens.closes ∷ rest) (suc depth) = Unit {0}
Ends (token ∷ rest) depth = ⊥

-- A branch ends there, or in front of a bar.
abbrev pub EndsBranch : List tokens.Token → ℕ → Type 0
EndsBranch [] depth = Unit {0}
EndsBranch (tokens.bar ∷ rest) depth = Unit {0}
EndsBranch (tokens.closes ∷ rest) (suc depth) = Unit {0}
EndsBranch (token ∷ rest) depth = ⊥

-- No duplication is the first token.
abbrev pub NoTimes : List tokens.Token → Type 0
NoTimes (tokens.times least greatest ∷ rest) = ⊥
NoTimes others = Unit {0}

-- whether a branch ends in front of this text
abbrev pub ends_branch : ℕ → List ℕ → Bool
ends_branch depth [] = true
ends_branch depth (b ∷ text) = b == 124 || (nat_lt 0 depth && b == 41)

-- What is read between `from` and `to` is what `spells` says: any tokens of `to` can be preceded by it to make tokens
-- of `from`, and any tokens of `from` begin with it and leave tokens of `to`.
pub record Reads (case : Case) (from to : List ℕ) (spells : List tokens.Token → List tokens.Token → Type 0) : Type 0 where
  pub forward : (rest : List tokens.Token) → tokens.Tokens case to rest → (all : List tokens.Token) × tokens.Tokens case from all × spells all rest
  pub backward : (all : List tokens.Token) → tokens.Tokens case from all → (rest : List tokens.Token) × tokens.Tokens case to rest × spells all rest

-- The tree as it is kept: a part with its height, or nothing if it is higher than the limit.
abbrev pub IsBuilt : Option Part → Tree → Type 0
IsBuilt (Some part) tree = (form part.tree ≡ tree) × (height tree ≡ part.height) × (part.height ≤ greatest_height)
IsBuilt None tree = greatest_height < height tree

-- the same for the members of a cat or an alt
abbrev pub AreBuilt : Option Members → Trees → Type 0
AreBuilt (Some members) trees = (trees_of (map form members.trees.items) ≡ trees) × (highest trees ≡ members.highest) × (members.highest ≤ greatest_height)
AreBuilt None trees = greatest_height < highest trees

pub record ReadsDuplications (case : Case) (from to : List ℕ) (tree : Tree) (part : Option Part) : Type 0 where
  pub whole : Tree
  pub built : IsBuilt part whole
  pub reads : Reads case from to (λ all rest. SpellsDuplications all rest tree whole)
  pub next : NoDuplication case to

pub record ReadsAtom (case : Case) (depth : ℕ) (from to : List ℕ) (part : Option Part) : Type 0 where
  pub tree : Tree
  pub built : IsBuilt part tree
  pub reads : Reads case from to (λ all rest. SpellsAtom greatest_open depth all rest tree)

pub record ReadsPiece (case : Case) (depth : ℕ) (from to : List ℕ) (part : Option Part) : Type 0 where
  pub tree : Tree
  pub built : IsBuilt part tree
  pub reads : Reads case from to (λ all rest. SpellsPiece greatest_open depth all rest tree)
  pub next : NoDuplication case to

pub record ReadsBranch (case : Case) (depth : ℕ) (from to : List ℕ) (part : Option Part) : Type 0 where
  pub pieces : Trees
  pub built : IsBuilt part (branch_of pieces)
  pub reads : Reads case from to (λ all rest. SpellsBranch greatest_open depth all rest pieces)
  pub ends : IsTrue (ends_branch depth to)

pub record ReadsAlternatives (case : Case) (depth : ℕ) (from to : List ℕ) (part : Option Part) : Type 0 where
  pub branches : Trees
  pub built : IsBuilt part (alternatives_of branches)
  pub reads : Reads case from to (λ all rest. SpellsAlternatives greatest_open depth all rest branches)
  pub ends : IsTrue (ends_branch depth to)
  pub no_bar : IsFalse (begins_with 124 to)

-- The text has no tokens.
abbrev pub HasNoTokens : Case → List ℕ → Type 0
HasNoTokens case from = (all : List tokens.Token) → tokens.Tokens case from all → ⊥

-- No atom is spelled from here on (and below, no piece, branch or alternatives, followed by what may follow one).
abbrev pub NoAtom : Case → ℕ → List ℕ → Type 0
NoAtom case depth from = (all rest : List tokens.Token) (tree : Tree) → tokens.Tokens case from all → SpellsAtom greatest_open depth all rest tree → ⊥

abbrev pub NoPiece : Case → ℕ → List ℕ → Type 0
NoPiece case depth from =
    (all rest : List tokens.Token) (tree : Tree) → tokens.Tokens case from all → SpellsPiece greatest_open depth all rest tree
    → NoTimes rest → ⊥

abbrev pub NoBranch : Case → ℕ → List ℕ → Type 0
NoBranch case depth from =
    (all rest : List tokens.Token) (pieces : Trees) → tokens.Tokens case from all → SpellsBranch greatest_open depth all rest pieces
    → EndsBranch rest depth → ⊥

abbrev pub NoAlternatives : Case → ℕ → List ℕ → Type 0
NoAlternatives case depth from =
    (all rest : List tokens.Token) (branches : Trees) → tokens.Tokens case from all
    → SpellsAlternatives greatest_open depth all rest branches → Ends rest depth → ⊥
