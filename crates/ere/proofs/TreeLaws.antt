-- A text spells at most one tree, and no repeat in it has a least count above its greatest.
use Rattle.std.proofs.Common.{◌≡◌, ◌≢◌, ℕ, zero, ◌<◌, ◌≤◌, Bool, true, false, ◌&&◌, ◌||◌, ◌==◌, cond, IsTrue, IsFalse, List, [], ◌∷◌}
use Rattle.std.proofs.Common.{length, Option, Some, None, IfSome, refl, sym, ap, ◌∙◌, subst, arith, inl, inr, ◌⊎◌}
use Rattle.std.specs.List.{AllByRecursion}
use Rattle.ere.specs.declared.case.Case.{Case}
use Rattle.ere.specs.declared.parts.Part.{Part}
use Rattle.ere.specs.ByteSet.{single}
use Rattle.ere.specs.Brackets.{begins_with}
use Rattle.ere.specs.Letters.{read_in}
use Rattle.ere.specs.Tree.{Tree, Trees, none, more, set, repeat, at_start, at_end, form}
use Rattle.ere.specs.Limits.{IsProper, AreProper, HasTwo, IsTreeOf, IsWithinLimits, HasNoTree, height, leaves, greatest_height}
use Rattle.ere.specs.Limits.{greatest_leaves, greatest_open, greatest_pattern}
use Rattle.ere.specs.Tokens.{Token, Tokens, SpellsToken, token_of_byte, digit_ahead}
use Rattle.ere.specs.Tokens as token
use Rattle.ere.specs.Tokens.{Tokens as tokens, SpellsToken as spelled, SpellsInterval as interval, SpellsInterval}
use Rattle.ere.specs.Spelling.{Spells, SpellsDuplications, SpellsAtom, SpellsPiece, SpellsBranch, SpellsAlternatives, branch_of, alternatives_of}
use Rattle.ere.specs.Spelling.{SpellsDuplications as duplications, SpellsAtom as atoms, SpellsPiece as pieces_are}
use Rattle.ere.specs.Spelling.{SpellsBranch as branches_are, SpellsAlternatives as alternatives_are}
use Rattle.ere.specs.Private.Reading.{ReadsAlternatives, ends_branch}
use Rattle.ere.proofs.TokenLemmas.{one_tokens}
use Rattle.ere.proofs.GrammarLemmas.{one_alternatives}

pub one_tree : (case : Case) → (limit other : ℕ) (text : List ℕ) (s t : Tree) → Spells case limit text s → Spells case other text t → s ≡ t
one_tree case limit other text s t a b =
    let same = one_tokens text a.tokens b.tokens a.are_tokens b.are_tokens in
    let found = one_alternatives limit other a.spelled tt (subst (λ v. SpellsAlternatives other zero v [] b.branches) (sym same) b.spelled) tt in
    a.is_tree ∙ ap alternatives_of found.1 ∙ sym b.is_tree

abbrev IsProperToken : Token → Type 0
IsProperToken (token.times least greatest) = IfSome greatest (λ most. least ≤ most)
IsProperToken other = Unit {0}

abbrev AllProper : List Token → Type 0
AllProper ts = AllByRecursion IsProperToken ts

byte_proper : (case : Case) → (b : ℕ) (text : List ℕ) (t : Token) → token_of_byte case b text ≡ Some t → IsProperToken t
unfolding token_of_byte
byte_proper case b text t e =
    walk (b == 46) _ _ tt
    (walk (b == 40) _ _ tt
    (walk (b == 41) _ _ tt
    (walk (b == 124) _ _ tt
    (walk (b == 94) _ _ tt
    (walk (b == 36) _ _ tt
    (walk (b == 42) _ _ tt
    (walk (b == 43) _ _ tt
    (walk (b == 63) _ _ (omega arith)
    (last (b == 91 || (b == 92 || (b == 123 && digit_ahead text)))))))))))) e
  where
    walk : (c : Bool) (x : Token) (y : Option Token) → IsProperToken x → (y ≡ Some t → IsProperToken t) → cond c (Some x) y ≡ Some t → IsProperToken t
    walk true x y p f e = let same : x ≡ t = cc in subst IsProperToken same p
    walk false x y p f e = f e

    last : (c : Bool) → cond c None (Some (token.set (read_in case (single b)))) ≡ Some t → IsProperToken t
    last true e = absurd (cc)
    last false e = let same : token.set (read_in case (single b)) ≡ t = cc in subst IsProperToken same tt

interval_proper : (from rest : List ℕ) (least : ℕ) (greatest : Option ℕ) → SpellsInterval from rest least greatest → IfSome greatest (λ most. least ≤ most)
interval_proper from rest least greatest (interval.exactly digits e count is) =
    subst (λ g. IfSome g (λ most. least ≤ most)) (sym is) (let same : least ≤ least = omega arith in same)
interval_proper from rest least greatest (interval.at_least digits e count is) = subst (λ g. IfSome g (λ most. least ≤ most)) (sym is) tt
interval_proper from rest least greatest (interval.between low high most e count count2 order is) = subst (λ g. IfSome g (λ most. least ≤ most)) (sym is) order

token_proper : {case : Case} → (from rest : List ℕ) (t : Token) → SpellsToken case from rest t → IsProperToken t
token_proper from rest t (spelled.byte b e h) = byte_proper _ b rest t h
token_proper from rest t (spelled.escaped b e h is) = subst IsProperToken (sym is) tt
token_proper from rest t (spelled.bracket items m e h is) = subst IsProperToken (sym is) tt
token_proper from rest t (spelled.interval counts least greatest e digit h is) = subst IsProperToken (sym is) (interval_proper counts rest least greatest h)

tokens_proper : {case : Case} → (text : List ℕ) (ts : List Token) → Tokens case text ts → AllProper ts
tokens_proper text [] a = tt
tokens_proper text (t ∷ ts) (tokens.more {rest = r} s a) = (token_proper text r t s, tokens_proper r ts a)

branch_proper : (pieces : Trees) → AreProper pieces → IsProper (branch_of pieces)
unfolding IsProper AreProper
branch_proper none p = tt
branch_proper (more a none) p = p.0
branch_proper (more a (more b trees)) p = (tt, p)

alternatives_proper : (branches : Trees) → AreProper branches → HasTwo branches ⊎ ((tree : Tree) × (branches ≡ more tree none))
    → IsProper (alternatives_of branches)
unfolding IsProper AreProper
alternatives_proper none p (inl two) = absurd two
alternatives_proper none p (inr one) = absurd (let e = one.1 in cc)
alternatives_proper (more a none) p h = p.0
alternatives_proper (more a (more b trees)) p h = (tt, p)

some_branch : {limit depth : ℕ} {from rest : List Token} {branches : Trees} → SpellsAlternatives limit depth from rest branches
    → HasTwo branches ⊎ ((tree : Tree) × (branches ≡ more tree none))
some_branch (alternatives_are.last {pieces = ps} b) = inr (branch_of ps, refl)
some_branch (alternatives_are.bar {pieces = ps} b (alternatives_are.last c)) = inl tt
some_branch (alternatives_are.bar {pieces = ps} b (alternatives_are.bar c d)) = inl tt

proper_none : AreProper none
unfolding AreProper
proper_none = tt

proper_more : (tree : Tree) (trees : Trees) → IsProper tree → AreProper trees → AreProper (more tree trees)
unfolding AreProper
proper_more tree trees a b = (a, b)

proper_repeat : (tree : Tree) (least : ℕ) (greatest : Option ℕ) → IfSome greatest (λ most. least ≤ most) → IsProper tree → IsProper (repeat tree least greatest)
unfolding IsProper
proper_repeat tree least greatest a b = (a, b)

proper_set : (members : List Bool) → IsProper (set members)
unfolding IsProper
proper_set members = tt

proper_start : IsProper at_start
unfolding IsProper
proper_start = tt

proper_end : IsProper at_end
unfolding IsProper
proper_end = tt

duplications_proper : {from rest : List Token} {tree whole : Tree} → SpellsDuplications from rest tree whole → AllProper from
    → IsProper tree → IsProper whole × AllProper rest
duplications_proper duplications.done all p = (p, all)
duplications_proper (duplications.again {piece = tree} {least = l} {greatest = g} ds) all p = duplications_proper ds all.1 (proper_repeat tree l g all.0 p)

module _ (limit : ℕ) where
  mutual
    pub all_proper : {depth : ℕ} {from rest : List Token} {branches : Trees} → SpellsAlternatives limit depth from rest branches
        → AllProper from → AreProper branches × AllProper rest
    all_proper (alternatives_are.last {pieces = ps} b) all =
        let inner = pieces_proper b all in (proper_more (branch_of ps) none (branch_proper ps inner.0) proper_none, inner.1)
    all_proper (alternatives_are.bar {pieces = ps} {branches = bs} b a) all =
        let inner = pieces_proper b all in
        let others = all_proper a inner.1.1 in
        (proper_more (branch_of ps) bs (branch_proper ps inner.0) others.0, others.1)

    pub pieces_proper : {depth : ℕ} {from rest : List Token} {pieces : Trees} → SpellsBranch limit depth from rest pieces → AllProper from
        → AreProper pieces × AllProper rest
    pieces_proper branches_are.done all = (proper_none, all)
    pieces_proper (branches_are.piece {tree = t} {pieces = ps} p b) all =
        let first = piece_proper p all in
        let others = pieces_proper b first.1 in
        (proper_more t ps first.0 others.0, others.1)

    pub piece_proper : {depth : ℕ} {from rest : List Token} {tree : Tree} → SpellsPiece limit depth from rest tree → AllProper from
        → IsProper tree × AllProper rest
    piece_proper pieces_are.start all = (proper_start, all.1)
    piece_proper pieces_are.finish all = (proper_end, all.1)
    piece_proper (pieces_are.atom a ds) all = let inner = atom_proper a all in duplications_proper ds inner.1 inner.0

    pub atom_proper : {depth : ℕ} {from rest : List Token} {tree : Tree} → SpellsAtom limit depth from rest tree → AllProper from
        → IsProper tree × AllProper rest
    atom_proper (atoms.literal {members = m}) all = (proper_set m, all.1)
    atom_proper (atoms.group {branches = bs} below inner) all =
        let found = all_proper inner all.1 in (alternatives_proper bs found.0 (some_branch inner), found.1.1)
    atom_proper atoms.lone_close all = (proper_set (single 41), all.1)

pub spelled_proper : {case : Case} → (limit : ℕ) (text : List ℕ) (tree : Tree) → Spells case limit text tree → IsProper tree
spelled_proper limit text tree s =
    subst IsProper (sym s.is_tree)
    (alternatives_proper s.branches (all_proper limit s.spelled (tokens_proper text s.tokens s.are_tokens)).0 (some_branch s.spelled))

pub tree_within : (case : Case) → (pattern : List ℕ) (tree : Tree) → IsTreeOf case pattern tree → IsWithinLimits tree
tree_within case pattern tree t = record { proper = spelled_proper greatest_open pattern tree t.spelled; low = t.low; small = t.small }

-- Outside all groups, alternatives end only where the text does.
at_end_of_text : (to : List ℕ) → IsTrue (ends_branch zero to) → IsFalse (begins_with 124 to) → to ≡ []
at_end_of_text [] h k = refl
at_end_of_text (b ∷ text) h k = absurd (never (b == 124) h k)
  where
    never : (c : Bool) → IsTrue (c || false) → IsFalse c → ⊥
    never true h k = absurd (cc)
    never false h k = absurd (cc)

pub whole_tree : {case : Case} → (pattern to : List ℕ) (part : Option Part) (r : ReadsAlternatives case 0 pattern to part)
    → Spells case greatest_open pattern (alternatives_of r.branches)
whole_tree {case} pattern to part r =
    let nothing = at_end_of_text to r.ends r.no_bar in
    let found = r.reads.forward [] (subst (λ v. Tokens case v []) (sym nothing) tokens.none) in
    record { tokens = found.0; are_tokens = found.1; branches = r.branches; spelled = found.2; is_tree = refl }

pub high_no_tree : {case : Case} → (pattern to : List ℕ) (r : ReadsAlternatives case 0 pattern to None) → HasNoTree case pattern
high_no_tree pattern to r tree t =
    let same = one_tree _ greatest_open greatest_open pattern _ _ (whole_tree pattern to None r) t.spelled in
    let low : height (alternatives_of r.branches) ≤ greatest_height = rw same t.low in
    omega (arith, r.built, low)

pub large_no_tree : {case : Case} → (pattern to : List ℕ) (part : Part) (r : ReadsAlternatives case 0 pattern to (Some part))
    → greatest_leaves < leaves (form part.tree) → HasNoTree case pattern
large_no_tree pattern to part r large tree t =
    let same = one_tree _ greatest_open greatest_open pattern _ _ (whole_tree pattern to (Some part) r) t.spelled in
    let small : leaves (form part.tree) ≤ greatest_leaves = rw (r.built.0 ∙ same) t.small in
    omega (arith, large, small)

pub found_tree : {case : Case} → (pattern to : List ℕ) (part : Part) (r : ReadsAlternatives case 0 pattern to (Some part))
    → length pattern ≤ greatest_pattern → AllByRecursion (λ b. (b ≢ 0) × (b ≢ 10)) pattern → leaves (form part.tree) ≤ greatest_leaves
    → IsTreeOf case pattern (form part.tree)
found_tree {case} pattern to part r short allowed small = record {
  short = short;
  allowed = allowed;
  spelled = subst (Spells case greatest_open pattern) (sym r.built.0) (whole_tree pattern to (Some part) r);
  low = rw r.built.0 (omega (arith, r.built.1, r.built.2));
  small = small;
}
