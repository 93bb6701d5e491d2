-- The steps of the reader of patterns: what is read together spells so, and what fails is spelled by nothing.
use Rattle.std.proofs.Common.{◌≡◌, ◌≢◌, ℕ, zero, suc, ◌<◌, Bool, true, false, ◌&&◌, ◌||◌, ◌==◌, nat_lt, cond, IsTrue, IsFalse, List, []}
use Rattle.std.proofs.Common.{◌∷◌, Option, Some, refl, sym, ap, ◌∙◌, subst, arith, inl, inr, ◌⊎◌}
use Rattle.std.proofs.lemmas.Bool.Decides.{nat_tests}
use native.Mathlib.Decide.{ℕ_discrete}
use Rattle.ere.specs.declared.case.Case.{Case}
use Rattle.ere.specs.ByteSet.{single}
use Rattle.ere.specs.Brackets.{begins_with}
use Rattle.ere.specs.Tree.{Tree, Trees, none, more, repeat, set, at_start, at_end}
use Rattle.ere.specs.Limits.{greatest_open, height}
use Rattle.ere.specs.Tokens.{Token, Tokens, SpellsToken, token_of_byte, digit_ahead}
use Rattle.ere.specs.Tokens as token
use Rattle.ere.specs.Tokens.{Tokens as tokens, SpellsToken as spelled}
use Rattle.ere.specs.Spelling.{SpellsDuplications, SpellsAtom, SpellsPiece, SpellsBranch, SpellsAlternatives, branch_of, alternatives_of}
use Rattle.ere.specs.Spelling.{SpellsAtom as atoms, SpellsPiece as pieces_are, SpellsBranch as branches_are, SpellsAlternatives as alternatives_are}
use Rattle.std.specs.Result.{IsErrAnd, OnErr}
use Rattle.std.specs.Prelude.{Result, Ok, Err, IfErr, IfOk}
use Rattle.std.proofs.lemmas.Bool.{and_parts, or_cases, eqb-true}
use Rattle.ere.specs.declared.token.Token.{Token as ReadToken}
use Rattle.ere.specs.declared.parts.Part.{Part}
use Rattle.ere.specs.declared.parts.Members.{Members}
use Rattle.ere.specs.Private.Reading.{meaning, Ends, EndsBranch, NoTimes, NoDuplication, ends_branch, join, Reads, IsBuilt, AreBuilt}
use Rattle.ere.specs.Private.Reading.{ReadsDuplications, ReadsAtom, ReadsPiece, ReadsBranch, ReadsAlternatives, HasNoTokens, NoAtom}
use Rattle.ere.specs.Private.Reading.{NoPiece, NoBranch, NoAlternatives}
use Rattle.ere.proofs.BracketSteps.{eqb_differs}
use Rattle.ere.proofs.TokenLemmas.{one_token, no_token}
use Rattle.ere.proofs.GrammarLemmas.{piece_begins, branch_begins, one_alternatives, duplications_push, branch_push, alternatives_push}
use Rattle.ere.proofs.GrammarLemmas.{alternatives_left, alternatives_begin, branch_left, ends_no_times}

pub no_tokens : {case : Case} → (ts : List Token) → Tokens case [] ts → ts ≡ []
no_tokens [] a = refl
no_tokens (t ∷ ts) (tokens.more {rest = r} s a) = absurd (no_token r t s)

-- the first token of a text, and the tokens of what follows it
pub first_token : {case : Case} → (from to : List ℕ) (t : Token) (all : List Token) → SpellsToken case from to t → Tokens case from all
    → (rest : List Token) × Tokens case to rest × (all ≡ t ∷ rest)
first_token {case} from to t [] s a = absurd (empty_text from to t s a)
  where
    empty_text : (from to : List ℕ) (t : Token) → SpellsToken case from to t → Tokens case from [] → ⊥
    empty_text from to t s tokens.none = no_token to t s
first_token {case} from to t (u ∷ us) s (tokens.more {rest = r} v a) =
    let same = one_token from to r t u s v in
    (us, subst (λ w. Tokens case w us) (sym same.0) a, ap (λ w. w ∷ us) (sym same.1))

pub Reads-token : {case : Case} → (from to : List ℕ) (t : Token) → SpellsToken case from to t → Reads case from to (λ all rest. all ≡ t ∷ rest)
Reads-token from to t s = record {
  forward = λ rest a. (t ∷ rest, tokens.more s a, refl);
  backward = λ all a. first_token from to t all s a;
}

pub Reads-map : {case : Case} → (from to : List ℕ) (P Q : List Token → List Token → Type 0)
    → ((all rest : List Token) → P all rest → Q all rest) → Reads case from to P → Reads case from to Q
Reads-map from to P Q f r = record {
  forward = λ rest a. let found = r.forward rest a in (found.0, found.1, f found.0 rest found.2);
  backward = λ all a. let found = r.backward all a in (found.0, found.1, f all found.0 found.2);
}

-- If two texts are read one after the other, what they spell is read together.
pub Reads-then : {case : Case} → (from middle to : List ℕ) (P Q R : List Token → List Token → Type 0)
    → ((all between rest : List Token) → P all between → Q between rest → R all rest) → Reads case from middle P → Reads case middle to Q
    → Reads case from to R
Reads-then from middle to P Q R f a b = record {
  forward = λ rest h.
      let second = b.forward rest h in
      let first = a.forward second.0 second.1 in
      (first.0, first.1, f first.0 second.0 rest first.2 second.2);
  backward = λ all h.
      let first = a.backward all h in
      let second = b.backward first.0 first.1 in
      (second.0, second.1, f all first.0 second.0 first.2 second.2);
}

pub Reads-none : {case : Case} → (from : List ℕ) (P : List Token → List Token → Type 0) → ((all : List Token) → P all all) → Reads case from from P
Reads-none from P f = record { forward = λ rest a. (rest, a, f rest); backward = λ all a. (all, a, f all) }

-- the bytes of a bar and of a closing parenthesis
bar_token : (case : Case) → (text : List ℕ) → token_of_byte case 124 text ≡ Some token.bar
unfolding token_of_byte
bar_token case text = refl

closes_token : (case : Case) → (text : List ℕ) → token_of_byte case 41 text ≡ Some token.closes
unfolding token_of_byte
closes_token case text = refl

pub bar_spelled : {case : Case} → (from to : List ℕ) → from ≡ 124 ∷ to → SpellsToken case from to token.bar
bar_spelled from to e = spelled.byte 124 e (bar_token _ to)

pub closes_spelled : {case : Case} → (from to : List ℕ) → from ≡ 41 ∷ to → SpellsToken case from to token.closes
closes_spelled from to e = spelled.byte 41 e (closes_token _ to)

module _ (w : Token) where
  skip : (c : Bool) (x y : Option Token) → (x ≡ Some w → ⊥) → (y ≡ Some w → ⊥) → cond c x y ≡ Some w → ⊥
  skip true x y f h e = f e
  skip false x y f h e = h e

  pass : (c : Bool) (x y : Option Token) → c ≡ false → (y ≡ Some w → ⊥) → cond c x y ≡ Some w → ⊥
  pass true x y f h e = absurd (cc)
  pass false x y f h e = h e

bar_byte : (case : Case) → (b : ℕ) (text : List ℕ) → b ≢ 124 → token_of_byte case b text ≡ Some token.bar → ⊥
unfolding token_of_byte
bar_byte case b text other e =
    skip token.bar (b == 46) _ _ (λ f. cc)
    (skip token.bar (b == 40) _ _ (λ f. cc)
    (skip token.bar (b == 41) _ _ (λ f. cc)
    (pass token.bar (b == 124) _ _ (eqb_differs b 124 other)
    (skip token.bar (b == 94) _ _ (λ f. cc)
    (skip token.bar (b == 36) _ _ (λ f. cc)
    (skip token.bar (b == 42) _ _ (λ f. cc)
    (skip token.bar (b == 43) _ _ (λ f. cc)
    (skip token.bar (b == 63) _ _ (λ f. cc)
    (skip token.bar (b == 91 || (b == 92 || (b == 123 && digit_ahead text))) _ _ (λ f. cc) (λ f. cc)))))))))) e

closes_byte : (case : Case) → (b : ℕ) (text : List ℕ) → b ≢ 41 → token_of_byte case b text ≡ Some token.closes → ⊥
unfolding token_of_byte
closes_byte case b text other e =
    skip token.closes (b == 46) _ _ (λ f. cc)
    (skip token.closes (b == 40) _ _ (λ f. cc)
    (pass token.closes (b == 41) _ _ (eqb_differs b 41 other)
    (skip token.closes (b == 124) _ _ (λ f. cc)
    (skip token.closes (b == 94) _ _ (λ f. cc)
    (skip token.closes (b == 36) _ _ (λ f. cc)
    (skip token.closes (b == 42) _ _ (λ f. cc)
    (skip token.closes (b == 43) _ _ (λ f. cc)
    (skip token.closes (b == 63) _ _ (λ f. cc)
    (skip token.closes (b == 91 || (b == 92 || (b == 123 && digit_ahead text))) _ _ (λ f. cc) (λ f. cc)))))))))) e

pub times_tokens : {case : Case} → (to : List ℕ) (ts : List Token) → NoDuplication case to → Tokens case to ts → NoTimes ts
times_tokens to [] h a = tt
times_tokens to (token.times l g ∷ ts) h (tokens.more {rest = r} s a) = absurd (h r l g s)
times_tokens to (token.set m ∷ ts) h a = tt
times_tokens to (token.opens ∷ ts) h a = tt
times_tokens to (token.closes ∷ ts) h a = tt
times_tokens to (token.bar ∷ ts) h a = tt
times_tokens to (token.at_start ∷ ts) h a = tt
times_tokens to (token.at_end ∷ ts) h a = tt

bar_only : {case : Case} → (from to : List ℕ) → SpellsToken case from to token.bar → from ≡ 124 ∷ to
bar_only from to (spelled.byte b e h) = go (ℕ_discrete b 124)
  where
    go : Dec (b ≡ 124) → from ≡ 124 ∷ to
    go (yes same) = e ∙ ap (λ v. v ∷ to) same
    go (no other) = absurd (bar_byte _ b to other h)
bar_only from to (spelled.escaped b e h is) = absurd (cc)
bar_only from to (spelled.bracket i m e h is) = absurd (cc)
bar_only from to (spelled.interval c l g e d h is) = absurd (cc)

pub closes_only : {case : Case} → (from to : List ℕ) → SpellsToken case from to token.closes → from ≡ 41 ∷ to
closes_only from to (spelled.byte b e h) = go (ℕ_discrete b 41)
  where
    go : Dec (b ≡ 41) → from ≡ 41 ∷ to
    go (yes same) = e ∙ ap (λ v. v ∷ to) same
    go (no other) = absurd (closes_byte _ b to other h)
closes_only from to (spelled.escaped b e h is) = absurd (cc)
closes_only from to (spelled.bracket i m e h is) = absurd (cc)
closes_only from to (spelled.interval c l g e d h is) = absurd (cc)

-- where no branch ends, the tokens do not end
pub no_end_tokens : {case : Case} → (depth : ℕ) (from : List ℕ) (ts : List Token) → IsFalse (ends_branch depth from) → Tokens case from ts
    → EndsBranch ts depth → ⊥
no_end_tokens depth [] ts h a k = absurd (cc)
no_end_tokens {case} depth (b ∷ text) [] h a k = no_text b text a
  where
    no_text : (b : ℕ) (text : List ℕ) → Tokens case (b ∷ text) [] → ⊥
    no_text b text a = elim a [ ]
no_end_tokens depth (b ∷ text) (token.bar ∷ ts) h (tokens.more {rest = r} s a) k =
    let is = subst (λ v. IsFalse (ends_branch depth v)) (bar_only (b ∷ text) r s) h in absurd (cc)
no_end_tokens zero (b ∷ text) (token.closes ∷ ts) h a k = k
no_end_tokens (suc depth) (b ∷ text) (token.closes ∷ ts) h (tokens.more {rest = r} s a) k =
    let is : IsFalse (nat_lt 0 (suc depth) && true) = subst (λ v. IsFalse (ends_branch (suc depth) v)) (closes_only (b ∷ text) r s) h in
    let inside : nat_lt 0 (suc depth) ≡ true = grind (arith, nat_tests) in
    absurd (let never : IsFalse (true && true) = subst (λ v. IsFalse (v && true)) inside is in cc)
no_end_tokens depth (b ∷ text) (token.set m ∷ ts) h a k = k
no_end_tokens depth (b ∷ text) (token.opens ∷ ts) h a k = k
no_end_tokens depth (b ∷ text) (token.at_start ∷ ts) h a k = k
no_end_tokens depth (b ∷ text) (token.at_end ∷ ts) h a k = k
no_end_tokens depth (b ∷ text) (token.times l g ∷ ts) h a k = k

-- the token that was read, by what it is
pub spelled_as : {case : Case} {from to : List ℕ} {read known : ReadToken} → read ≡ known → SpellsToken case from to (meaning read)
    → SpellsToken case from to (meaning known)
spelled_as {case} {from} {to} is s = subst (λ t. SpellsToken case from to (meaning t)) is s

-- If no token is at the front, or a later part has no tokens, the text has no tokens.
pub lexing_fails : {case : Case} → (from : List ℕ) (b : ℕ) (behind : List ℕ) → from ≡ b ∷ behind
    → ((rest : List ℕ) (t : Token) → SpellsToken case from rest t → ⊥) → HasNoTokens case from
lexing_fails {case} from b behind e never [] a = absurd (let nothing : Tokens case (b ∷ behind) [] = subst (λ v. Tokens case v []) e a in elim nothing [ ])
lexing_fails from b behind e never (t ∷ ts) (tokens.more {rest = r} s a) = never r t s

pub back_fails : {case : Case} → (from to : List ℕ) (P : List Token → List Token → Type 0) → Reads case from to P → HasNoTokens case to → HasNoTokens case from
back_fails from to P r never all a = let rest = r.backward all a in never rest.0 rest.1

-- One more duplication is read.
pub repeat_more : {case : Case} → (from to behind : List ℕ) (tree whole : Tree) (least : ℕ) (greatest : Option ℕ)
    → Reads case from to (λ all rest. SpellsDuplications all rest tree whole) → SpellsToken case to behind (token.times least greatest)
    → Reads case from behind (λ all rest. SpellsDuplications all rest tree (repeat whole least greatest))
repeat_more from to behind tree whole least greatest r s =
    Reads-then from to behind _ _ _ (λ all between rest a e. duplications_push (subst (λ v. SpellsDuplications all v tree whole) e a)) r
    (Reads-token to behind _ s)

pub any_more : {case : Case} → (from to behind : List ℕ) (t : Token) → Reads case from to (λ all rest. Unit {0})
    → SpellsToken case to behind t → Reads case from behind (λ all rest. Unit {0})
any_more from to behind t r s = Reads-then from to behind _ _ _ (λ all between rest a e. tt) r (Reads-token to behind t s)

-- a branch as far as it was read
pub record BranchSoFar (case : Case) (depth : ℕ) (from to : List ℕ) (members : Option Members) : Type 0 where
  pub pieces : Trees
  pub built : AreBuilt members pieces
  pub reads : Reads case from to (λ all rest. SpellsBranch greatest_open depth all rest pieces)
  pub left : (all rest : List Token) (others : Trees) → Tokens case from all → SpellsBranch greatest_open depth all rest others
      → EndsBranch rest depth
      → (middle : List Token) × Tokens case to middle × (us : Trees) × SpellsBranch greatest_open depth middle rest us

pub branch_start : {case : Case} → (depth : ℕ) (from : List ℕ) (members : Option Members) → AreBuilt members none → BranchSoFar case depth from from members
branch_start depth from members built = record {
  pieces = none;
  built = built;
  reads = Reads-none from _ (λ all. branches_are.done);
  left = λ all rest others a b e. (all, a, others, b);
}

pub branch_step : {case : Case} → (depth : ℕ) (from at to : List ℕ) (members after : Option Members) (part : Option Part)
    → BranchSoFar case depth from at members → ReadsPiece case depth at to part
    → ((trees : Trees) (tree : Tree) → AreBuilt members trees → IsBuilt part tree → AreBuilt after (join trees (more tree none)))
    → BranchSoFar case depth from to after
branch_step depth from at to members after part so_far next build = record {
  pieces = join so_far.pieces (more next.tree none);
  built = build so_far.pieces next.tree so_far.built next.built;
  reads = Reads-then from at to _ _ _ (λ all between rest a b. branch_push greatest_open a b) so_far.reads next.reads;
  left = λ all rest others a b e.
      let here = so_far.left all rest others a b e in
      let read = next.reads.backward here.0 here.1 in
      let left = branch_left greatest_open read.2 (times_tokens to read.0 next.next read.1) here.3 e in
      (read.0, read.1, left.0, left.1);
}

pub branch_fails : {case : Case} → (depth : ℕ) (from at : List ℕ) (members : Option Members) → BranchSoFar case depth from at members
    → IsFalse (ends_branch depth at) → NoPiece case depth at → NoBranch case depth from
branch_fails {case} depth from at members so_far open_end never all rest others a b e =
    let here = so_far.left all rest others a b e in
    go here.0 here.2 here.1 here.3
  where
    go : (middle : List Token) (us : Trees) → Tokens case at middle → SpellsBranch greatest_open depth middle rest us → ⊥
    go middle us h branches_are.done = no_end_tokens depth at rest open_end h e
    go middle us h (branches_are.piece {middle = m} {tree = t} p q) = never middle m t h p (branch_begins greatest_open q (ends_no_times rest depth e))

-- alternatives as far as they were read, up to the end of a branch
pub record AlternativesSoFar (case : Case) (depth : ℕ) (from to : List ℕ) (members : Option Members) : Type 0 where
  pub branches : Trees
  pub built : AreBuilt members branches
  pub reads : Reads case from to (λ all rest. SpellsAlternatives greatest_open depth all rest branches)
  pub ends : IsTrue (ends_branch depth to)

pub alternatives_start : {case : Case} → (depth : ℕ) (from to : List ℕ) (members after : Option Members) (part : Option Part)
    → AreBuilt members none → ReadsBranch case depth from to part
    → ((trees : Trees) (tree : Tree) → AreBuilt members trees → IsBuilt part tree → AreBuilt after (join trees (more tree none)))
    → AlternativesSoFar case depth from to after
alternatives_start depth from to members after part built first build = record {
  branches = more (branch_of first.pieces) none;
  built = build none (branch_of first.pieces) built first.built;
  reads = Reads-map from to _ _ (λ all rest b. alternatives_are.last b) first.reads;
  ends = first.ends;
}

pub alternatives_step : {case : Case} → (depth : ℕ) (from at behind to : List ℕ) (members after : Option Members) (part : Option Part)
    → AlternativesSoFar case depth from at members → at ≡ 124 ∷ behind → ReadsBranch case depth behind to part
    → ((trees : Trees) (tree : Tree) → AreBuilt members trees → IsBuilt part tree → AreBuilt after (join trees (more tree none)))
    → AlternativesSoFar case depth from to after
alternatives_step depth from at behind to members after part so_far e next build = record {
  branches = join so_far.branches (more (branch_of next.pieces) none);
  built = build so_far.branches (branch_of next.pieces) so_far.built next.built;
  reads = Reads-then from at to _ _ _
      (λ all between rest a (m, is, b). alternatives_push greatest_open (subst (λ v. SpellsAlternatives greatest_open depth all v so_far.branches) is a) b)
      so_far.reads
      (Reads-then at behind to _ _ (λ between rest. (m : List Token) × (between ≡ token.bar ∷ m) × SpellsBranch greatest_open depth m rest next.pieces)
      (λ all between rest is b. (between, is, b)) (Reads-token at behind token.bar (bar_spelled at behind e)) next.reads);
  ends = next.ends;
}

pub next_branch_fails : {case : Case} → (depth : ℕ) (from at behind : List ℕ) (members : Option Members)
    → AlternativesSoFar case depth from at members → at ≡ 124 ∷ behind → NoBranch case depth behind → NoAlternatives case depth from
next_branch_fails depth from at behind members so_far e never all rest branches a w ends =
    let read = so_far.reads.backward all a in
    let bar = first_token at behind token.bar read.0 (bar_spelled at behind e) read.1 in
    let left = alternatives_left greatest_open (subst (λ v. SpellsAlternatives greatest_open depth all v so_far.branches) bar.2 read.2) w ends in
    let begins = alternatives_begin greatest_open left.1 ends in
    never bar.0 begins.0 begins.1 bar.1 begins.2 begins.3

-- pieces
pub piece_of_atom : {case : Case} → (depth : ℕ) (from middle to : List ℕ) (atom part : Option Part) → ReadsAtom case depth from middle atom
    → ((tree : Tree) → IsBuilt atom tree → ReadsDuplications case middle to tree part) → ReadsPiece case depth from to part
piece_of_atom depth from middle to atom part first rest =
    let more_of = rest first.tree first.built in
    record {
      tree = more_of.whole;
      built = more_of.built;
      reads = Reads-then from middle to _ _ _ (λ all between behind a ds. pieces_are.atom a ds) first.reads more_of.reads;
      next = more_of.next;
    }

pub leaf_piece : {case : Case} → (depth : ℕ) (from to : List ℕ) (t : Token) (plain : Tree) (part : Option Part) → SpellsToken case from to t
    → ((rest : List Token) → SpellsPiece greatest_open depth (t ∷ rest) rest plain) → IsBuilt part plain → NoDuplication case to
    → ReadsPiece case depth from to part
leaf_piece depth from to t plain part s make built next = record {
  tree = plain;
  built = built;
  next = next;
  reads = Reads-map from to _ _ (λ all rest e. subst (λ v. SpellsPiece greatest_open depth v rest plain) (sym e) (make rest)) (Reads-token from to t s);
}

pub leaf_atom : {case : Case} → (depth : ℕ) (from to : List ℕ) (t : Token) (plain : Tree) (part : Option Part) → SpellsToken case from to t
    → ((rest : List Token) → SpellsAtom greatest_open depth (t ∷ rest) rest plain) → IsBuilt part plain → ReadsAtom case depth from to part
leaf_atom depth from to t plain part s make built = record {
  tree = plain;
  built = built;
  reads = Reads-map from to _ _ (λ all rest e. subst (λ v. SpellsAtom greatest_open depth v rest plain) (sym e) (make rest)) (Reads-token from to t s);
}

pub tokenless : {case : Case} → (depth : ℕ) (from : List ℕ) → HasNoTokens case from → NoPiece case depth from
tokenless depth from never all rest tree a p n = never all a

pub times_fail : {case : Case} → (depth : ℕ) (from to : List ℕ) (l : ℕ) (g : Option ℕ) → SpellsToken case from to (token.times l g) → NoPiece case depth from
times_fail depth from to l g s all rest tree a p n =
    let first = first_token from to (token.times l g) all s a in
    piece_begins greatest_open (subst (λ v. SpellsPiece greatest_open depth v rest tree) first.2 p)

start_rest : (depth : ℕ) (rest middle : List Token) (tree : Tree) → SpellsPiece greatest_open depth (token.at_start ∷ middle) rest tree
    → NoTimes rest → NoTimes middle
start_rest depth rest middle tree pieces_are.start n = n
start_rest depth rest middle tree (pieces_are.atom a ds) n = elim a [ ]

end_rest : (depth : ℕ) (rest middle : List Token) (tree : Tree) → SpellsPiece greatest_open depth (token.at_end ∷ middle) rest tree
    → NoTimes rest → NoTimes middle
end_rest depth rest middle tree pieces_are.finish n = n
end_rest depth rest middle tree (pieces_are.atom a ds) n = elim a [ ]

pub start_fails : {case : Case} → (depth : ℕ) (from to : List ℕ) → SpellsToken case from to token.at_start
    → ((all : List Token) → Tokens case to all → NoTimes all → ⊥) → NoPiece case depth from
start_fails depth from to s never all rest tree a p n =
    let first = first_token from to token.at_start all s a in
    never first.0 first.1 (start_rest depth rest first.0 tree (subst (λ v. SpellsPiece greatest_open depth v rest tree) first.2 p) n)

pub end_fails : {case : Case} → (depth : ℕ) (from to : List ℕ) → SpellsToken case from to token.at_end
    → ((all : List Token) → Tokens case to all → NoTimes all → ⊥) → NoPiece case depth from
end_fails depth from to s never all rest tree a p n =
    let first = first_token from to token.at_end all s a in
    never first.0 first.1 (end_rest depth rest first.0 tree (subst (λ v. SpellsPiece greatest_open depth v rest tree) first.2 p) n)

group_atom : (depth : ℕ) (rest middle : List Token) (tree : Tree) → SpellsPiece greatest_open depth (token.opens ∷ middle) rest tree
    → (behind : List Token) × (inner : Tree) × SpellsAtom greatest_open depth (token.opens ∷ middle) behind inner
group_atom depth rest middle tree (pieces_are.atom {middle = m} {tree = t} a ds) = (m, t, a)

pub group_fails : {case : Case} → (depth : ℕ) (from to : List ℕ) → SpellsToken case from to token.opens → NoAtom case depth from → NoPiece case depth from
group_fails depth from to s never all rest tree a p n =
    let first = first_token from to token.opens all s a in
    let inner = group_atom depth rest first.0 tree (subst (λ v. SpellsPiece greatest_open depth v rest tree) first.2 p) in
    never all inner.0 inner.1 a (subst (λ v. SpellsAtom greatest_open depth v inner.0 inner.1) (sym first.2) inner.2)

-- groups
inside_group : (depth : ℕ) (middle rest : List Token) (tree : Tree) → SpellsAtom greatest_open depth (token.opens ∷ middle) rest tree
    → (depth < greatest_open) × ((branches : Trees) × SpellsAlternatives greatest_open (suc depth) middle (token.closes ∷ rest) branches)
inside_group depth middle rest tree (atoms.group {branches = bs} below inner) = (below, (bs, inner))

pub full_fails : {case : Case} → (depth : ℕ) (from start : List ℕ) → SpellsToken case from start token.opens → depth ≡ greatest_open → NoAtom case depth from
full_fails depth from start s full all rest tree a atom =
    let first = first_token from start token.opens all s a in
    let inner = inside_group depth first.0 rest tree (subst (λ v. SpellsAtom greatest_open depth v rest tree) first.2 atom) in
    omega (arith, inner.0, full)

pub inner_fails : {case : Case} → (depth : ℕ) (from start : List ℕ) → SpellsToken case from start token.opens
    → NoAlternatives case (suc depth) start → NoAtom case depth from
inner_fails depth from start s never all rest tree a atom =
    let first = first_token from start token.opens all s a in
    let inner = inside_group depth first.0 rest tree (subst (λ v. SpellsAtom greatest_open depth v rest tree) first.2 atom) in
    never first.0 (token.closes ∷ rest) inner.1.0 first.1 inner.1.1 tt

pub unclosed_fails : {case : Case} → (depth : ℕ) (from start : List ℕ) (part : Option Part) → SpellsToken case from start token.opens
    → ReadsAlternatives case (suc depth) start [] part → NoAtom case depth from
unclosed_fails depth from start part s read all rest tree a atom =
    let first = first_token from start token.opens all s a in
    let inner = inside_group depth first.0 rest tree (subst (λ v. SpellsAtom greatest_open depth v rest tree) first.2 atom) in
    let whole = read.reads.backward first.0 first.1 in
    let nothing = no_tokens whole.0 whole.1 in
    let same =
    one_alternatives greatest_open greatest_open
    (subst (λ v. SpellsAlternatives greatest_open (suc depth) first.0 v read.branches) nothing whole.2) tt inner.1.1 tt in
    absurd (let e : [] ≡ token.closes ∷ rest = same.0 in cc)

pub closing : (depth : ℕ) (to behind : List ℕ) (b : ℕ) → to ≡ b ∷ behind → IsTrue (ends_branch (suc depth) to) → IsFalse (begins_with 124 to) → to ≡ 41 ∷ behind
closing depth to behind b e ends no_bar_here =
    go (or_cases (b == 124) (nat_lt 0 (suc depth) && b == 41) (subst (λ v. IsTrue (ends_branch (suc depth) v)) e ends))
  where
    go : ((b == 124) ≡ true) ⊎ ((nat_lt 0 (suc depth) && b == 41) ≡ true) → to ≡ 41 ∷ behind
    go (inl bar) = absurd (let f : IsFalse (b == 124) = subst (λ v. IsFalse (begins_with 124 v)) e no_bar_here in cc)
    go (inr close) = e ∙ ap (λ v. v ∷ behind) (eqb-true b 41 (and_parts (nat_lt 0 (suc depth)) (b == 41) close).1)

pub group_reads : {case : Case} → (depth : ℕ) (from start to behind : List ℕ) (part : Option Part) → SpellsToken case from start token.opens
    → depth < greatest_open → ReadsAlternatives case (suc depth) start to part → to ≡ 41 ∷ behind → ReadsAtom case depth from behind part
group_reads depth from start to behind part s below read e = record {
  tree = alternatives_of read.branches;
  built = read.built;
  reads = Reads-then from start behind _ (λ between rest. SpellsAlternatives greatest_open (suc depth) between (token.closes ∷ rest) read.branches) _
      (λ all between rest is inner. subst (λ v. SpellsAtom greatest_open depth v rest (alternatives_of read.branches)) (sym is) (atoms.group below inner))
      (Reads-token from start token.opens s)
      (Reads-then start to behind _ _ _
      (λ all between rest inner is. subst (λ v. SpellsAlternatives greatest_open (suc depth) all v read.branches) is inner) read.reads
      (Reads-token to behind token.closes (closes_spelled to behind e)));
}

-- What is known of an error, when the error is handed on.
pub pass_on : {T E : Type 0} (r : Result T E) (e : E) (K : E → Type 0) (P Q : Type 0) → IsErrAnd r (λ y. y ≡ e) → (P → Q) → (K e → P) → IfErr r (λ y. K y → Q)
pass_on (Ok x) e K P Q h f g = tt
pass_on (Err y) e K P Q h f g = λ k. f (g (subst K h k))

pub on_err : {T E : Type 0} (r : Result T E) (P : Type 0) → P → OnErr r P
on_err (Ok x) P p = tt
on_err (Err e) P p = p

pub times_first : {case : Case} → (to behind : List ℕ) (l : ℕ) (g : Option ℕ) → SpellsToken case to behind (token.times l g)
    → (all : List Token) → Tokens case to all → NoTimes all → ⊥
times_first to behind l g s all a n = let first = first_token to behind (token.times l g) all s a in subst NoTimes first.2 n

pub on_err_map : {T E : Type 0} (r : Result T E) (K : E → Type 0) (P Q : Type 0) → (P → Q) → OnErr r P → IfErr r (λ e. K e → Q)
on_err_map (Ok x) K P Q f p = tt
on_err_map (Err e) K P Q f p = λ _. f p

pub if_ok_both : {T E : Type 0} (r : Result T E) (P Q R : T → Type 0) → ((x : T) → P x → Q x → R x) → IfOk r P → IfOk r Q → IfOk r R
if_ok_both (Ok x) P Q R f p q = f x p q
if_ok_both (Err e) P Q R f p q = tt

pub height_set : (members : List Bool) → height (set members) ≡ 1
unfolding height
height_set members = refl

pub height_start : height at_start ≡ 1
unfolding height
height_start = refl

pub height_end : height at_end ≡ 1
unfolding height
height_end = refl

-- a `)` outside all groups
pub lone_close_atom : {case : Case} → (depth : ℕ) (from to : List ℕ) (part : Option Part) → SpellsToken case from to token.closes
    → IsFalse (ends_branch depth from) → IsBuilt part (set (single 41)) → ReadsAtom case depth from to part
lone_close_atom zero from to part s open_end built = leaf_atom zero from to token.closes (set (single 41)) part s (λ rest. atoms.lone_close) built
lone_close_atom (suc depth) from to part s open_end built =
    let is : IsFalse (nat_lt 0 (suc depth) && true) = subst (λ v. IsFalse (ends_branch (suc depth) v)) (closes_only from to s) open_end in
    let inside : nat_lt 0 (suc depth) ≡ true = grind (arith, nat_tests) in
    absurd (let never : IsFalse (true && true) = subst (λ v. IsFalse (v && true)) inside is in cc)

pub no_bar_begins : {case : Case} → (depth : ℕ) (from to : List ℕ) → SpellsToken case from to token.bar → IsFalse (ends_branch depth from) → ⊥
no_bar_begins depth from to s open_end =
    absurd
    (let is : IsFalse (ends_branch depth (124 ∷ to)) = subst (λ v. IsFalse (ends_branch depth v)) (bar_only from to s) open_end in cc)
