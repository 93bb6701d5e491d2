-- The grammar of extended regular expressions over tokens (POSIX.1-2017 XBD 9.4 and 9.5.3), by levels, and the tree
-- that each level spells. Each relation takes the tokens from where a part begins, the tokens after that part,
-- and the part's tree or trees. `depth` is the number of open groups, which is never more than `limit`.
use Rattle.std.specs.Prelude.{◌≡◌, ℕ, zero, suc, ◌<◌, Bool, List, [], ◌∷◌, Option}
use Rattle.ere.specs.ByteSet.{single}
use Rattle.ere.specs.Tree.{Tree, empty, set, at_start, at_end, cat, alt, repeat, Trees, none, more}
use Rattle.ere.specs.declared.case.Case.{Case}
use Rattle.ere.specs.Tokens.{Token, Tokens}
use Rattle.ere.specs.Tokens as token

-- the tree of a branch with these pieces: none, one, or more
abbrev pub branch_of : Trees → Tree
branch_of none = empty
branch_of (more piece none) = piece
branch_of (more piece (more next pieces)) = cat (more piece (more next pieces))

-- the tree of alternatives with these branches: one is its own tree, and two or more make an `alt`
abbrev pub alternatives_of : Trees → Tree
alternatives_of (more branch none) = branch
alternatives_of branches = alt branches

-- Any number of duplications after an atom, of which the first is the innermost repeat.
pub data SpellsDuplications : List Token → List Token → Tree → Tree → Type 0 where
  done : {from : List Token} {piece : Tree} → SpellsDuplications from from piece piece
  again : {from rest : List Token} {piece whole : Tree} {least : ℕ} {greatest : Option ℕ}
      → SpellsDuplications from rest (repeat piece least greatest) whole
      → SpellsDuplications (token.times least greatest ∷ from) rest piece whole

mutual
  -- one or more branches, with a bar before each but the first
  pub data SpellsAlternatives (limit : ℕ) : ℕ → List Token → List Token → Trees → Type 0 where
    last : {depth : ℕ} {from rest : List Token} {pieces : Trees} → SpellsBranch limit depth from rest pieces
        → SpellsAlternatives limit depth from rest (more (branch_of pieces) none)
    bar : {depth : ℕ} {from middle rest : List Token} {pieces branches : Trees} → SpellsBranch limit depth from (token.bar ∷ middle) pieces
        → SpellsAlternatives limit depth middle rest branches → SpellsAlternatives limit depth from rest (more (branch_of pieces) branches)

  -- any number of pieces
  pub data SpellsBranch (limit : ℕ) : ℕ → List Token → List Token → Trees → Type 0 where
    done : {depth : ℕ} {from : List Token} → SpellsBranch limit depth from from none
    piece : {depth : ℕ} {from middle rest : List Token} {tree : Tree} {pieces : Trees} → SpellsPiece limit depth from middle tree
        → SpellsBranch limit depth middle rest pieces → SpellsBranch limit depth from rest (more tree pieces)

  -- an anchor, which takes no duplication, or an atom with its duplications
  pub data SpellsPiece (limit : ℕ) : ℕ → List Token → List Token → Tree → Type 0 where
    start : {depth : ℕ} {rest : List Token} → SpellsPiece limit depth (token.at_start ∷ rest) rest at_start
    finish : {depth : ℕ} {rest : List Token} → SpellsPiece limit depth (token.at_end ∷ rest) rest at_end
    atom : {depth : ℕ} {from middle rest : List Token} {tree whole : Tree} → SpellsAtom limit depth from middle tree
        → SpellsDuplications middle rest tree whole → SpellsPiece limit depth from rest whole

  -- A set; a group, whose tree is that of its alternatives; or, outside all groups, a `)` that stands for itself.
  pub data SpellsAtom (limit : ℕ) : ℕ → List Token → List Token → Tree → Type 0 where
    literal : {depth : ℕ} {rest : List Token} {members : List Bool} → SpellsAtom limit depth (token.set members ∷ rest) rest (set members)
    group : {depth : ℕ} {from rest : List Token} {branches : Trees} → depth < limit
        → SpellsAlternatives limit (suc depth) from (token.closes ∷ rest) branches
        → SpellsAtom limit depth (token.opens ∷ from) rest (alternatives_of branches)
    lone_close : {rest : List Token} → SpellsAtom limit zero (token.closes ∷ rest) rest (set (single 41))

-- The text spells the tree, with at most `limit` groups open at once.
pub record Spells (case : Case) (limit : ℕ) (text : List ℕ) (tree : Tree) : Type 0 where
  pub tokens : List Token
  pub are_tokens : Tokens case text tokens
  pub branches : Trees
  pub spelled : SpellsAlternatives limit zero tokens [] branches
  pub is_tree : tree ≡ alternatives_of branches
