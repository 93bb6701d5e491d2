-- The grammar: tokens spell at most one tree, however many groups may be open.
use Rattle.std.proofs.Common.{◌≡◌, ℕ, zero, suc, List, [], ◌∷◌, Option, refl, sym, ap, ◌∙◌, subst}
use Rattle.ere.specs.Tree.{Tree, Trees, none, more, repeat}
use Rattle.ere.specs.Tokens.{Token}
use Rattle.ere.specs.Tokens as token
use Rattle.ere.specs.Spelling.{SpellsDuplications, SpellsAtom, SpellsPiece, SpellsBranch, SpellsAlternatives, branch_of, alternatives_of}
use Rattle.ere.specs.Spelling.{SpellsDuplications as duplications, SpellsAtom as atoms, SpellsPiece as pieces_are}
use Rattle.ere.specs.Spelling.{SpellsBranch as branches_are, SpellsAlternatives as alternatives_are}
use Rattle.ere.specs.Private.Reading.{Ends, EndsBranch, NoTimes, join}

-- Where alternatives end, a branch ends, and where a branch ends, no duplication follows.
pub ends_branch_of : (ts : List Token) (depth : ℕ) → Ends ts depth → EndsBranch ts depth
ends_branch_of [] depth h = tt
ends_branch_of (token.closes ∷ ts) (suc depth) h = tt
ends_branch_of (token.closes ∷ ts) zero h = absurd h
ends_branch_of (token.set m ∷ ts) depth h = absurd h
ends_branch_of (token.opens ∷ ts) depth h = absurd h
ends_branch_of (token.bar ∷ ts) depth h = absurd h
ends_branch_of (token.at_start ∷ ts) depth h = absurd h
ends_branch_of (token.at_end ∷ ts) depth h = absurd h
ends_branch_of (token.times l g ∷ ts) depth h = absurd h

pub ends_no_times : (ts : List Token) (depth : ℕ) → EndsBranch ts depth → NoTimes ts
ends_no_times [] depth h = tt
ends_no_times (token.closes ∷ ts) depth h = tt
ends_no_times (token.set m ∷ ts) depth h = tt
ends_no_times (token.opens ∷ ts) depth h = tt
ends_no_times (token.bar ∷ ts) depth h = tt
ends_no_times (token.at_start ∷ ts) depth h = tt
ends_no_times (token.at_end ∷ ts) depth h = tt
ends_no_times (token.times l g ∷ ts) depth h = absurd h

module _ (limit : ℕ) where
  -- No piece begins with a duplication, nor where a branch ends.
  atom_begins : {depth : ℕ} {from rest : List Token} {tree : Tree} → SpellsAtom limit depth from rest tree → NoTimes from
  atom_begins atoms.literal = tt
  atom_begins (atoms.group below inner) = tt
  atom_begins atoms.lone_close = tt

  pub piece_begins : {depth : ℕ} {from rest : List Token} {tree : Tree} → SpellsPiece limit depth from rest tree → NoTimes from
  piece_begins pieces_are.start = tt
  piece_begins pieces_are.finish = tt
  piece_begins (pieces_are.atom a ds) = atom_begins a

  atom_no_end : {depth : ℕ} {from rest : List Token} {tree : Tree} → SpellsAtom limit depth from rest tree → EndsBranch from depth → ⊥
  atom_no_end atoms.literal h = h
  atom_no_end (atoms.group below inner) h = h
  atom_no_end atoms.lone_close h = h

  pub piece_no_end : {depth : ℕ} {from rest : List Token} {tree : Tree} → SpellsPiece limit depth from rest tree → EndsBranch from depth → ⊥
  piece_no_end pieces_are.start h = h
  piece_no_end pieces_are.finish h = h
  piece_no_end (pieces_are.atom a ds) h = atom_no_end a h

  pub branch_begins : {depth : ℕ} {from rest : List Token} {pieces : Trees} → SpellsBranch limit depth from rest pieces → NoTimes rest → NoTimes from
  branch_begins branches_are.done h = h
  branch_begins (branches_are.piece p b) h = piece_begins p

one_duplications : {from r q : List Token} {tree s t : Tree} → SpellsDuplications from r tree s → NoTimes r
    → SpellsDuplications from q tree t → NoTimes q → (r ≡ q) × (s ≡ t)
one_duplications duplications.done h duplications.done k = (refl, refl)
one_duplications duplications.done h (duplications.again b) k = absurd h
one_duplications (duplications.again a) h duplications.done k = absurd k
one_duplications (duplications.again a) h (duplications.again b) k = one_duplications a h b k

no_bar : (ts : List Token) (depth : ℕ) → Ends (token.bar ∷ ts) depth → ⊥
no_bar ts zero h = h
no_bar ts (suc depth) h = h

bar_tail : {a b : List Token} → token.bar ∷ a ≡ token.bar ∷ b → a ≡ b
bar_tail e = cc

closes_tail : {a b : List Token} → token.closes ∷ a ≡ token.closes ∷ b → a ≡ b
closes_tail e = cc

module _ (limit other : ℕ) where
  mutual
    pub one_alternatives : {depth : ℕ} {from r q : List Token} {bs cs : Trees} → SpellsAlternatives limit depth from r bs → Ends r depth
        → SpellsAlternatives other depth from q cs → Ends q depth → (r ≡ q) × (bs ≡ cs)
    one_alternatives {depth} {from} {r} {q} (alternatives_are.last a) h (alternatives_are.last b) k =
        let same = one_branch a (ends_branch_of r depth h) b (ends_branch_of q depth k) in
        (same.0, ap (λ ps. more (branch_of ps) none) same.1)
    one_alternatives {depth} {from} {r} {q} (alternatives_are.last a) h (alternatives_are.bar {middle = m} b d) k =
        let same = one_branch a (ends_branch_of r depth h) b tt in
        absurd (no_bar m depth (subst (λ v. Ends v depth) same.0 h))
    one_alternatives {depth} {from} {r} {q} (alternatives_are.bar {middle = m} a c) h (alternatives_are.last b) k =
        let same = one_branch a tt b (ends_branch_of q depth k) in
        absurd (no_bar m depth (subst (λ v. Ends v depth) (sym same.0) k))
    one_alternatives {depth} {from} {r} {q} (alternatives_are.bar {middle = m} {pieces = ps} {branches = bs} a c) h
        (alternatives_are.bar {middle = n} {pieces = qs} {branches = cs} b d) k =
        let same = one_branch a tt b tt in
        let rest = one_alternatives c h (subst (λ v. SpellsAlternatives other depth v q cs) (sym (bar_tail same.0)) d) k in
        (rest.0, ap (λ v. more (branch_of v) bs) same.1 ∙ ap (more (branch_of qs)) rest.1)

    pub one_branch : {depth : ℕ} {from r q : List Token} {ps qs : Trees} → SpellsBranch limit depth from r ps → EndsBranch r depth
        → SpellsBranch other depth from q qs → EndsBranch q depth → (r ≡ q) × (ps ≡ qs)
    one_branch branches_are.done h branches_are.done k = (refl, refl)
    one_branch branches_are.done h (branches_are.piece p b) k = absurd (piece_no_end other p h)
    one_branch (branches_are.piece p a) h branches_are.done k = absurd (piece_no_end limit p k)
    one_branch {depth} {from} {r} {q} (branches_are.piece {middle = m} {tree = s} {pieces = ps} p a) h
        (branches_are.piece {middle = n} {tree = t} {pieces = qs} o b) k =
        let first = one_piece p (branch_begins limit a (ends_no_times r depth h)) o (branch_begins other b (ends_no_times q depth k)) in
        let rest = one_branch a h (subst (λ v. SpellsBranch other depth v q qs) (sym first.0) b) k in
        (rest.0, ap (λ t. more t ps) first.1 ∙ ap (more t) rest.1)

    pub one_piece : {depth : ℕ} {from r q : List Token} {s t : Tree} → SpellsPiece limit depth from r s → NoTimes r
        → SpellsPiece other depth from q t → NoTimes q → (r ≡ q) × (s ≡ t)
    one_piece pieces_are.start h pieces_are.start k = (refl, refl)
    one_piece pieces_are.start h (pieces_are.atom a ds) k = elim a [ ]
    one_piece pieces_are.finish h pieces_are.finish k = (refl, refl)
    one_piece pieces_are.finish h (pieces_are.atom a ds) k = elim a [ ]
    one_piece (pieces_are.atom a ds) h pieces_are.start k = elim a [ ]
    one_piece (pieces_are.atom a ds) h pieces_are.finish k = elim a [ ]
    one_piece {depth} {from} {r} {q} {s} {t} (pieces_are.atom {middle = m} {tree = u} a ds) h (pieces_are.atom {middle = n} {tree = v} b es) k =
        let first = one_atom a b in
        one_duplications ds h (subst (λ x. SpellsDuplications m q x t) (sym first.1) (subst (λ x. SpellsDuplications x q v t) (sym first.0) es)) k

    pub one_atom : {depth : ℕ} {from r q : List Token} {s t : Tree} → SpellsAtom limit depth from r s → SpellsAtom other depth from q t → (r ≡ q) × (s ≡ t)
    one_atom atoms.literal atoms.literal = (refl, refl)
    one_atom (atoms.group below a) (atoms.group below2 b) =
        let same = one_alternatives a tt b tt in
        (closes_tail same.0, ap alternatives_of same.1)
    one_atom atoms.lone_close atoms.lone_close = (refl, refl)

-- one more at the end
pub duplications_push : {from rest : List Token} {tree whole : Tree} {least : ℕ} {greatest : Option ℕ}
    → SpellsDuplications from (token.times least greatest ∷ rest) tree whole
    → SpellsDuplications from rest tree (repeat whole least greatest)
duplications_push duplications.done = duplications.again duplications.done
duplications_push (duplications.again a) = duplications.again (duplications_push a)

module _ (limit : ℕ) where
  pub branch_push : {depth : ℕ} {from middle rest : List Token} {pieces : Trees} {tree : Tree} → SpellsBranch limit depth from middle pieces
      → SpellsPiece limit depth middle rest tree → SpellsBranch limit depth from rest (join pieces (more tree none))
  branch_push branches_are.done p = branches_are.piece p branches_are.done
  branch_push (branches_are.piece o b) p = branches_are.piece o (branch_push b p)

  pub alternatives_push : {depth : ℕ} {from middle rest : List Token} {branches pieces : Trees}
      → SpellsAlternatives limit depth from (token.bar ∷ middle) branches → SpellsBranch limit depth middle rest pieces
      → SpellsAlternatives limit depth from rest (join branches (more (branch_of pieces) none))
  alternatives_push (alternatives_are.last a) b = alternatives_are.bar a (alternatives_are.last b)
  alternatives_push (alternatives_are.bar a c) b = alternatives_are.bar a (alternatives_push c b)

  -- Where alternatives have been read up to a bar, all alternatives go on after it.
  pub alternatives_left : {depth : ℕ} {from middle rest : List Token} {bs cs : Trees}
      → SpellsAlternatives limit depth from (token.bar ∷ middle) bs → SpellsAlternatives limit depth from rest cs → Ends rest depth
      → (us : Trees) × SpellsAlternatives limit depth middle rest us
  alternatives_left {depth} {from} {middle} {rest} (alternatives_are.last a) (alternatives_are.last b) h =
      let same = one_branch limit limit a tt b (ends_branch_of rest depth h) in
      absurd (no_bar middle depth (subst (λ v. Ends v depth) (sym same.0) h))
  alternatives_left {depth} {from} {middle} {rest} (alternatives_are.last a) (alternatives_are.bar {middle = m} {branches = us} b c) h =
      let same = one_branch limit limit a tt b tt in
      (us, subst (λ v. SpellsAlternatives limit depth v rest us) (sym (bar_tail same.0)) c)
  alternatives_left {depth} {from} {middle} {rest} (alternatives_are.bar {middle = m} a c) (alternatives_are.last b) h =
      let same = one_branch limit limit a tt b (ends_branch_of rest depth h) in
      absurd (no_bar m depth (subst (λ v. Ends v depth) (sym same.0) h))
  alternatives_left {depth} {from} {middle} {rest} (alternatives_are.bar a c) (alternatives_are.bar {branches = us} b d) h =
      let same = one_branch limit limit a tt b tt in
      alternatives_left c (subst (λ v. SpellsAlternatives limit depth v rest us) (sym (bar_tail same.0)) d) h

  -- Alternatives begin with a branch.
  pub alternatives_begin : {depth : ℕ} {from rest : List Token} {bs : Trees} → SpellsAlternatives limit depth from rest bs → Ends rest depth
      → (middle : List Token) × (pieces : Trees) × SpellsBranch limit depth from middle pieces × EndsBranch middle depth
  alternatives_begin {depth} {from} {rest} (alternatives_are.last {pieces = ps} b) h = (rest, ps, b, ends_branch_of rest depth h)
  alternatives_begin {depth} {from} {rest} (alternatives_are.bar {middle = m} {pieces = ps} b a) h = (token.bar ∷ m, ps, b, tt)

  -- A branch that does not end here goes on with a piece.
  pub branch_left : {depth : ℕ} {from middle rest : List Token} {tree : Tree} {pieces : Trees} → SpellsPiece limit depth from middle tree
      → NoTimes middle → SpellsBranch limit depth from rest pieces → EndsBranch rest depth
      → (us : Trees) × SpellsBranch limit depth middle rest us
  branch_left p h branches_are.done k = absurd (piece_no_end limit p k)
  branch_left {depth} {from} {middle} {rest} p h (branches_are.piece {pieces = us} o b) k =
      let same = one_piece limit limit p h o (branch_begins limit b (ends_no_times rest depth k)) in
      (us, subst (λ v. SpellsBranch limit depth v rest us) (sym same.0) b)
