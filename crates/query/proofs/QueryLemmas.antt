-- Queries as formulas: their equality, and members joined.
use Rattle.std.proofs.Common.{◌≡◌, ◌≢◌, ℕ, zero, suc, ◌<◌, ◌≤◌, Bool, true, false, ◌&&◌, IsFalse, List, [], ◌∷◌, ◌++◌, length, map, get_or}
use Rattle.std.proofs.Common.{refl, sym, ap, ◌∙◌, arith, subst, Some, None, length-append, lit<}
use Rattle.std.specs.declared.alloc.Global.{Global}
use Rattle.std.specs.declared.vec.Vec.{Vec}
use Rattle.query.specs.declared.query.Query.{Query}
use Rattle.query.specs.declared.query.Query.TheVariants as query
use Rattle.query.specs.declared.query.Connective.{Connective}
use Rattle.query.specs.declared.query.Connective.TheVariants.{And, Or}
use Rattle.query.specs.Trigrams.{TrigramSet}
use Rattle.query.specs.Texts.{Texts}
use Rattle.query.proofs.Forms.{formula_of-And, formula_of-Or}
use Rattle.std.proofs.Math.Bool.{and_assoc, or_assoc}
use Rattle.std.proofs.lemmas.Bool.{true≢false}
use Rattle.query.specs.Query.{Formula, Formulas, always, never, has, texts, all_of, one_of, none, more, formulas_of, formula_of, is_met}
use Rattle.query.specs.Query.{are_all_met, is_one_met, joined, HasTwo, IsPlain, IsReduced, AreReducedParts, IsJoin, IsSimplification}
use Rattle.query.specs.Private.Joining.{are_met, is_of, idle, constant_of, AreMembersOf, HasTakenIn, IsCompound, AddsNothing}

pub and_same : (ones others : Vec Query Global) → map formula_of ones.items ≡ map formula_of others.items
    → formula_of (query.And ones) ≡ formula_of (query.And others)
and_same ones others same = formula_of-And ones ∙ ap (λ members. all_of (formulas_of members)) same ∙ sym (formula_of-And others)

pub or_same : (ones others : Vec Query Global) → map formula_of ones.items ≡ map formula_of others.items
    → formula_of (query.Or ones) ≡ formula_of (query.Or others)
or_same ones others same = formula_of-Or ones ∙ ap (λ members. one_of (formulas_of members)) same ∙ sym (formula_of-Or others)

pub reduced_from_plain : (f : Formula) → constant_of f ≡ None → IsPlain f → IsReduced f
unfolding IsReduced
reduced_from_plain always e p = cc
reduced_from_plain never e p = cc
reduced_from_plain (has g) e p = tt
reduced_from_plain (texts ts) e p = tt
reduced_from_plain (all_of ms) e p = p
reduced_from_plain (one_of ms) e p = p

pub plain_from_reduced : (f : Formula) → IsReduced f → IsPlain f
unfolding IsReduced
plain_from_reduced always r = absurd r
plain_from_reduced never r = absurd r
plain_from_reduced (has g) r = tt
plain_from_reduced (texts ts) r = tt
plain_from_reduced (all_of ms) r = r
plain_from_reduced (one_of ms) r = r

pub met_constant : (f : Formula) (b : Bool) (set : TrigramSet) → Some b ≡ constant_of f → is_met f set ≡ b
unfolding is_met
met_constant always b set e = cc
met_constant never b set e = cc
met_constant (has g) b set e = cc
met_constant (texts ts) b set e = cc
met_constant (all_of ms) b set e = cc
met_constant (one_of ms) b set e = cc

joined_assoc : (k : Connective) (a b c : Bool) → joined k (joined k a b) c ≡ joined k a (joined k b c)
joined_assoc And a b c = and_assoc a b c
joined_assoc Or a b c = or_assoc a b c

joined_idle : (k : Connective) (a : Bool) → joined k a (idle k) ≡ a
joined_idle And true = refl
joined_idle And false = refl
joined_idle Or true = refl
joined_idle Or false = refl

idle_joined : (k : Connective) (a : Bool) → joined k (idle k) a ≡ a
idle_joined And a = refl
idle_joined Or a = refl

settled : (k : Connective) (b a : Bool) → b ≢ idle k → joined k b a ≡ b
settled And true a n = absurd (n refl)
settled And false a n = refl
settled Or true a n = refl
settled Or false a n = absurd (n refl)

settled_right : (k : Connective) (b a : Bool) → b ≢ idle k → joined k a b ≡ b
settled_right And true a n = absurd (n refl)
settled_right And false true n = refl
settled_right And false false n = refl
settled_right Or true true n = refl
settled_right Or true false n = refl
settled_right Or false a n = absurd (n refl)

met_none : (k : Connective) (set : TrigramSet) → are_met k none set ≡ idle k
unfolding are_all_met is_one_met
met_none And set = refl
met_none Or set = refl

met_more : (k : Connective) (f : Formula) (fs : Formulas) (set : TrigramSet) → are_met k (more f fs) set ≡ joined k (is_met f set) (are_met k fs set)
unfolding are_all_met is_one_met
met_more And f fs set = refl
met_more Or f fs set = refl

met-append : (k : Connective) (xs ys : List Formula) (set : TrigramSet)
    → are_met k (formulas_of (xs ++ ys)) set ≡ joined k (are_met k (formulas_of xs) set) (are_met k (formulas_of ys) set)
met-append k [] ys set = sym (ap (λ b. joined k b (are_met k (formulas_of ys) set)) (met_none k set) ∙ idle_joined k (are_met k (formulas_of ys) set))
met-append k (x ∷ xs) ys set =
    met_more k x (formulas_of (xs ++ ys)) set
    ∙ ap (joined k (is_met x set)) (met-append k xs ys set)
    ∙ sym (joined_assoc k (is_met x set) (are_met k (formulas_of xs) set) (are_met k (formulas_of ys) set))
    ∙ ap (λ b. joined k b (are_met k (formulas_of ys) set)) (sym (met_more k x (formulas_of xs) set))

only_met : (k : Connective) (f : Formula) (set : TrigramSet) → are_met k (more f none) set ≡ is_met f set
only_met k f set = met_more k f none set ∙ ap (joined k (is_met f set)) (met_none k set) ∙ joined_idle k (is_met f set)

parts-push : (kind : Formula → Bool) (xs : List Formula) (f : Formula) → AreReducedParts kind (formulas_of xs) → IsReduced f
    → IsFalse (kind f) → AreReducedParts kind (formulas_of (xs ++ f ∷ []))
unfolding AreReducedParts
parts-push kind [] f parts reduced other = (reduced, other, tt)
parts-push kind (x ∷ xs) f parts reduced other = (parts.0, parts.1, parts-push kind xs f parts.2 reduced other)

has_two : (fs : List Formula) → 0 < length fs → length fs ≢ 1 → HasTwo (formulas_of fs)
has_two [] some other = absurd (omega arith)
has_two (f ∷ []) some other = absurd (other refl)
has_two (f ∷ g ∷ fs) some other = tt

pub compound_and : (fs : List Formula) → AreReducedParts (is_of And) (formulas_of fs) → 0 < length fs → length fs ≢ 1
    → IsCompound And fs (all_of (formulas_of fs))
unfolding IsReduced is_met
compound_and fs parts some other = record { plain = (has_two fs some other, parts); met = λ set. refl }

pub compound_or : (fs : List Formula) → AreReducedParts (is_of Or) (formulas_of fs) → 0 < length fs → length fs ≢ 1 → IsCompound Or fs (one_of (formulas_of fs))
unfolding IsReduced is_met
compound_or fs parts some other = record { plain = (has_two fs some other, parts); met = λ set. refl }

pub compound_one : (k : Connective) (fs : List Formula) (f : Formula) → AreReducedParts (is_of k) (formulas_of fs) → length fs ≡ 1
    → f ≡ get_or fs 0 f → IsCompound k fs f
unfolding AreReducedParts
compound_one k [] f parts one is = absurd (omega arith)
compound_one k (g ∷ []) f parts one is = record {
  plain = plain_from_reduced f (subst IsReduced (sym is) parts.0);
  met = λ set. ap (λ h. is_met h set) is ∙ sym (met_more k g none set ∙ ap (joined k (is_met g set)) (met_none k set) ∙ joined_idle k (is_met g set));
}
compound_one k (g ∷ h ∷ fs) f parts one is = absurd (omega arith)

pub members_itself : (k : Connective) (f : Formula) → IsReduced f → is_of k f ≡ false → AreMembersOf k f (f ∷ [])
unfolding AreReducedParts
members_itself k f reduced other = record {
  parts = (reduced, other, tt);
  some = lit< tt;
  met = λ set. met_more k f none set ∙ ap (joined k (is_met f set)) (met_none k set) ∙ joined_idle k (is_met f set);
}

some_from_two : (fs : List Formula) → HasTwo (formulas_of fs) → 0 < length fs
some_from_two [] h = absurd h
some_from_two (f ∷ fs) h = omega arith

pub members_of_and : (k : Connective) (fs : List Formula) → IsReduced (all_of (formulas_of fs)) → is_of k (all_of (formulas_of fs)) ≡ true
    → AreMembersOf k (all_of (formulas_of fs)) fs
unfolding IsReduced is_met
members_of_and And fs reduced of = record { parts = reduced.1; some = some_from_two fs reduced.0; met = λ set. refl }
members_of_and Or fs reduced of = cc

pub members_of_or : (k : Connective) (fs : List Formula) → IsReduced (one_of (formulas_of fs)) → is_of k (one_of (formulas_of fs)) ≡ true
    → AreMembersOf k (one_of (formulas_of fs)) fs
unfolding IsReduced is_met
members_of_or And fs reduced of = cc
members_of_or Or fs reduced of = record { parts = reduced.1; some = some_from_two fs reduced.0; met = λ set. refl }

pub not_of_always : (k : Connective) → is_of k always ≡ true → ⊥
not_of_always And of = true≢false (sym of)
not_of_always Or of = true≢false (sym of)

pub not_of_never : (k : Connective) → is_of k never ≡ true → ⊥
not_of_never And of = true≢false (sym of)
not_of_never Or of = true≢false (sym of)

pub not_of_has : (k : Connective) (g : ℕ) → is_of k (has g) ≡ true → ⊥
not_of_has And g of = true≢false (sym of)
not_of_has Or g of = true≢false (sym of)

pub not_of_texts : (k : Connective) (ts : Texts) → is_of k (texts ts) ≡ true → ⊥
not_of_texts And ts of = true≢false (sym of)
not_of_texts Or ts of = true≢false (sym of)

-- The invariant of a loop that takes in further members: the members so far and those left over mean the same as the old and the further ones.
pub record IsTakingIn (k : Connective) (old further new rest : List Formula) : Type 0 where
  pub parts : AreReducedParts (is_of k) (formulas_of new)
  pub rest_parts : AreReducedParts (is_of k) (formulas_of rest)
  pub longer : length old ≤ length new
  pub met : (set : TrigramSet)
      → joined k (are_met k (formulas_of new) set) (are_met k (formulas_of rest) set)
      ≡ joined k (are_met k (formulas_of old) set) (are_met k (formulas_of further) set)

pub IsTakingIn-step : (k : Connective) (old further new newer rest : List Formula) (f : Formula) → IsTakingIn k old further new (f ∷ rest)
    → HasTakenIn k new (f ∷ []) newer → IsTakingIn k old further newer rest
unfolding AreReducedParts
IsTakingIn-step k old further new newer rest f h one = record {
  parts = one.parts;
  rest_parts = h.rest_parts.2;
  longer = omega (arith, one.more, h.longer);
  met = λ set.
      ap (λ b. joined k b (are_met k (formulas_of rest) set)) (one.met set ∙ ap (joined k (are_met k (formulas_of new) set)) (only_met k f set))
      ∙ joined_assoc k (are_met k (formulas_of new) set) (is_met f set) (are_met k (formulas_of rest) set)
      ∙ ap (joined k (are_met k (formulas_of new) set)) (sym (met_more k f (formulas_of rest) set))
      ∙ h.met set;
}

pub first_parts : (k : Connective) (f : Formula) (rest : List Formula) → AreReducedParts (is_of k) (formulas_of (f ∷ rest))
    → AreReducedParts (is_of k) (formulas_of (f ∷ []))
unfolding AreReducedParts
first_parts k f rest h = (h.0, h.1, tt)

pub HasTakenIn-push : (k : Connective) (new : List Formula) (f : Formula) → AreReducedParts (is_of k) (formulas_of new)
    → AreReducedParts (is_of k) (formulas_of (f ∷ [])) → HasTakenIn k new (f ∷ []) (new ++ f ∷ [])
unfolding AreReducedParts
HasTakenIn-push k new f parts one = record {
  parts = parts-push (is_of k) new f parts one.0 one.1;
  more = omega (arith, length-append new (f ∷ []));
  met = λ set. met-append k new (f ∷ []) set;
}

pub HasTakenIn-again : (k : Connective) (new : List Formula) (f : Formula) → AreReducedParts (is_of k) (formulas_of new)
    → AddsNothing k new f → HasTakenIn k new (f ∷ []) new
HasTakenIn-again k new f parts nothing = record {
  parts = parts;
  more = omega arith;
  met = λ set. sym (ap (joined k (are_met k (formulas_of new) set)) (only_met k f set) ∙ nothing set);
}

pub IsTakingIn-all : (k : Connective) (old further new : List Formula) → IsTakingIn k old further new [] → HasTakenIn k old further new
IsTakingIn-all k old further new h = record {
  parts = h.parts;
  more = h.longer;
  met = λ set. sym (ap (joined k (are_met k (formulas_of new) set)) (met_none k set) ∙ joined_idle k (are_met k (formulas_of new) set)) ∙ h.met set;
}

absorbs : (a b : Bool) → ((a && b) && a) ≡ (a && b)
absorbs true true = refl
absorbs true false = refl
absorbs false b = refl

keeps : (a b c : Bool) → (b && c) ≡ b → ((a && b) && c) ≡ (a && b)
keeps true b c e = e
keeps false b c e = refl

-- a conjunct that is there already adds nothing
pub stands_already : (fs : List Formula) (i : ℕ) (f : Formula) → i < length fs → get_or fs i f ≡ f → AddsNothing And fs f
unfolding are_all_met
stands_already [] i f below is set = absurd (omega arith)
stands_already (g ∷ fs) zero f below is set =
    ap (λ h. is_met g set && are_all_met (formulas_of fs) set && is_met h set) (sym is)
    ∙ absorbs (is_met g set) (are_all_met (formulas_of fs) set)
stands_already (g ∷ fs) (suc i) f below is set =
    keeps (is_met g set) (are_all_met (formulas_of fs) set) (is_met f set) (stands_already fs i f (omega arith) is set)

pub join_idle_left : (k : Connective) (left right : Formula) (b : Bool) → Some b ≡ constant_of left → b ≡ idle k → IsPlain right → IsJoin k left right right
join_idle_left k left right b e is plain = record {
  plain = plain;
  met = λ set. sym (ap (λ c. joined k c (is_met right set)) (met_constant left b set e ∙ is) ∙ idle_joined k (is_met right set));
}

pub join_settled_left : (k : Connective) (left right : Formula) (b : Bool) → Some b ≡ constant_of left → b ≢ idle k → IsPlain left → IsJoin k left right left
join_settled_left k left right b e other plain = record {
  plain = plain;
  met = λ set. met_constant left b set e ∙ sym (ap (λ c. joined k c (is_met right set)) (met_constant left b set e) ∙ settled k b (is_met right set) other);
}

pub join_idle_right : (k : Connective) (left right : Formula) (b : Bool) → Some b ≡ constant_of right → b ≡ idle k → IsPlain left → IsJoin k left right left
join_idle_right k left right b e is plain = record {
  plain = plain;
  met = λ set. sym (ap (joined k (is_met left set)) (met_constant right b set e ∙ is) ∙ joined_idle k (is_met left set));
}

pub join_settled_right : (k : Connective) (left right : Formula) (b : Bool) → Some b ≡ constant_of right → b ≢ idle k → IsPlain right
    → IsJoin k left right right
join_settled_right k left right b e other plain = record {
  plain = plain;
  met = λ set. met_constant right b set e ∙ sym (ap (joined k (is_met left set)) (met_constant right b set e) ∙ settled_right k b (is_met left set) other);
}

-- The invariant of a loop that joins simplified members: the query so far and the members left over mean the same as all members.
pub record IsJoinedSoFar (k : Connective) (members rest : List Formula) (so_far : Formula) : Type 0 where
  pub plain : IsPlain so_far
  pub met : (set : TrigramSet) → joined k (is_met so_far set) (are_met k (formulas_of rest) set) ≡ are_met k (formulas_of members) set

plain_constant : (f : Formula) (b : Bool) → constant_of f ≡ Some b → IsPlain f
plain_constant always b e = tt
plain_constant never b e = tt
plain_constant (has g) b e = cc
plain_constant (texts ts) b e = cc
plain_constant (all_of ms) b e = cc
plain_constant (one_of ms) b e = cc

pub IsJoinedSoFar-none : (k : Connective) (members : List Formula) (f : Formula) → constant_of f ≡ Some (idle k) → IsJoinedSoFar k members members f
IsJoinedSoFar-none k members f e = record {
  plain = plain_constant f (idle k) e;
  met =
      λ set.
      ap (λ b. joined k b (are_met k (formulas_of members) set)) (met_constant f (idle k) set (sym e))
      ∙ idle_joined k (are_met k (formulas_of members) set);
}

pub IsJoinedSoFar-more : (k : Connective) (members rest : List Formula) (so_far member simple whole : Formula)
    → IsJoinedSoFar k members (member ∷ rest) so_far → IsSimplification member simple → IsJoin k so_far simple whole
    → IsJoinedSoFar k members rest whole
IsJoinedSoFar-more k members rest so_far member simple whole h s j = record {
  plain = j.plain;
  met = λ set.
      ap (λ b. joined k b (are_met k (formulas_of rest) set)) (j.met set ∙ ap (joined k (is_met so_far set)) (s.met set))
      ∙ joined_assoc k (is_met so_far set) (is_met member set) (are_met k (formulas_of rest) set)
      ∙ ap (joined k (is_met so_far set)) (sym (met_more k member (formulas_of rest) set))
      ∙ h.met set;
}

pub IsJoinedSoFar-all : (k : Connective) (members : List Formula) (f : Formula) → IsJoinedSoFar k members [] f → IsCompound k members f
IsJoinedSoFar-all k members f h = record {
  plain = h.plain;
  met = λ set. sym (ap (joined k (is_met f set)) (met_none k set) ∙ joined_idle k (is_met f set)) ∙ h.met set;
}

pub simple_itself : (f : Formula) → IsPlain f → IsSimplification f f
simple_itself f plain = record { plain = plain; met = λ set. refl }

pub simple_all : (fs : List Formula) (f : Formula) → IsCompound And fs f → IsSimplification (all_of (formulas_of fs)) f
unfolding is_met
simple_all fs f c = record { plain = c.plain; met = c.met }

pub simple_one : (fs : List Formula) (f : Formula) → IsCompound Or fs f → IsSimplification (one_of (formulas_of fs)) f
unfolding is_met
simple_one fs f c = record { plain = c.plain; met = c.met }
