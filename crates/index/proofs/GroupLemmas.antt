-- The names of contents that several documents have.
use Rattle.std.proofs.Common.{◌≡◌, ℕ, ◌==◌, ◌&&◌, ◌||◌, not, Bool, true, false, cond, List, [], length, Option, Some, None, refl, sym, ◌∙◌, ap, subst, arith}
use Rattle.std.specs.Prelude.{bytes_eq, IfSome, IsSome}
use Rattle.std.specs.Ordering.{nat_cmp}
use Rattle.std.specs.Cmp.Lexicographic.{slice_cmp, texts_ties}
use Rattle.std.specs.BTreeMap.{get, is_at}
use Rattle.std.specs.BTreeSet.{BTreeSet, contains, IsOrdered}
use Rattle.std.proofs.lemmas.Bool.{false≢true}
use Rattle.std.proofs.lemmas.Bool.Decides.{nat_tests}
use Rattle.std.proofs.lemmas.List.{nil_from_length}
use Rattle.std.specs.List.{list_any}
use Rattle.index.specs.Private.Contents.{Groups, is_name_in, is_kept_with, Joins, LeavesEntry, LeavesLast}
use Rattle.index.proofs.DocumentLemmas.{same_name, bytes_eq-refl}

abbrev pub Names : Type 0
Names = BTreeSet (List ℕ)

-- whether the name is in the set
abbrev pub among : Names → List ℕ → Bool
among names q = contains (slice_cmp nat_cmp) names q

pub at_number : (number m : ℕ) → is_at (nat_cmp number) m ≡ (number == m)
at_number number m = grind (arith, nat_tests)

pub at_name : (name q : List ℕ) → is_at (slice_cmp nat_cmp name) q ≡ bytes_eq name q
at_name name q = sym (texts_ties name q)

or_when : (t b : Bool) → cond t true b ≡ (b || t)
or_when true true = refl
or_when true false = refl
or_when false true = refl
or_when false false = refl

and_not : (t b : Bool) → cond t false b ≡ (b && not t)
and_not true true = refl
and_not true false = refl
and_not false true = refl
and_not false false = refl

-- what a name that is put in changes
pub put_in_names : (old new : Names) (name : List ℕ) → ((q : List ℕ) → among new q ≡ cond (is_at (slice_cmp nat_cmp name) q) true (among old q))
    → (q : List ℕ) → among new q ≡ (among old q || bytes_eq name q)
put_in_names old new name put q = put q ∙ ap (λ t. cond t true (among old q)) (at_name name q) ∙ or_when (bytes_eq name q) (among old q)

pub taken_from_names : (old new : Names) (name : List ℕ) → ((q : List ℕ) → among new q ≡ cond (is_at (slice_cmp nat_cmp name) q) false (among old q))
    → (q : List ℕ) → among new q ≡ (among old q && not (bytes_eq name q))
taken_from_names old new name taken q = taken q ∙ ap (λ t. cond t false (among old q)) (at_name name q) ∙ and_not (bytes_eq name q) (among old q)

-- a change at a number, seen at another one
pub changed-other : (number : ℕ) (old new : Groups) (entry : Option Names) → ((m : ℕ) → get nat_cmp new m ≡ cond (is_at (nat_cmp number) m) entry (get nat_cmp old m))
    → (m : ℕ) → (number == m) ≡ false → get nat_cmp new m ≡ get nat_cmp old m
changed-other number old new entry changed m other = changed m ∙ ap (λ t. cond t entry (get nat_cmp old m)) (at_number number m ∙ other)

-- an entry that is written, seen at each number
module _ (number : ℕ) (old new : Groups) (entry : Names) (written : (m : ℕ) → get nat_cmp new m ≡ cond (is_at (nat_cmp number) m) (Some entry) (get nat_cmp old m)) where
  pub written-other : (m : ℕ) → (number == m) ≡ false → get nat_cmp new m ≡ get nat_cmp old m
  written-other m other = written m ∙ ap (λ t. cond t (Some entry) (get nat_cmp old m)) (at_number number m ∙ other)

  same_number : (number == number) ≡ true
  same_number = grind (arith, nat_tests)

  pub written-here : get nat_cmp new number ≡ Some entry
  written-here = written number ∙ ap (λ t. cond t (Some entry) (get nat_cmp old number)) (at_number number number ∙ same_number)

  -- a name joins an entry
  pub joins-entry : (first name : List ℕ) (before : Names) → get nat_cmp old number ≡ Some before
      → ((q : List ℕ) → among entry q ≡ cond (is_at (slice_cmp nat_cmp name) q) true (among before q)) → IsOrdered (slice_cmp nat_cmp) entry
      → Joins number first name old new
  joins-entry first name before there put ordered = record {
    others = written-other;
    there = subst IsSome (sym written-here) refl;
    names = λ body q.
        ap (λ s. is_name_in s (Some (first, body)) q) written-here
        ∙ put_in_names before entry name put q
        ∙ sym (ap (λ s. is_name_in s (Some (first, body)) q || bytes_eq name q) there);
    ordered = subst (λ s. IfSome s (IsOrdered (slice_cmp nat_cmp))) (sym written-here) ordered;
  }

  -- a name joins the one that a content without an entry is kept with
  pub joins-first : (first name : List ℕ) (one none : Names) → get nat_cmp old number ≡ None → ((q : List ℕ) → among none q ≡ false)
      → ((q : List ℕ) → among one q ≡ cond (is_at (slice_cmp nat_cmp first) q) true (among none q))
      → ((q : List ℕ) → among entry q ≡ cond (is_at (slice_cmp nat_cmp name) q) true (among one q)) → IsOrdered (slice_cmp nat_cmp) entry
      → Joins number first name old new
  joins-first first name one none absent empty put_first put ordered = record {
    others = written-other;
    there = subst IsSome (sym written-here) refl;
    names = λ body q.
        ap (λ s. is_name_in s (Some (first, body)) q) written-here
        ∙ put_in_names one entry name put q
        ∙ ap (λ t. t || bytes_eq name q) (put_in_names none one first put_first q ∙ ap (λ t. t || bytes_eq first q) (empty q))
        ∙ sym (ap (λ s. is_name_in s (Some (first, body)) q || bytes_eq name q) absent);
    ordered = subst (λ s. IfSome s (IsOrdered (slice_cmp nat_cmp))) (sym written-here) ordered;
  }

  pub leaves-entry : (name : List ℕ) (before : Names) → get nat_cmp old number ≡ Some before
      → ((q : List ℕ) → among entry q ≡ cond (is_at (slice_cmp nat_cmp name) q) false (among before q)) → IsOrdered (slice_cmp nat_cmp) entry
      → LeavesEntry number name old new
  leaves-entry name before there taken ordered = record {
    others = written-other;
    there = subst IsSome (sym there) refl;
    names = λ content q.
        ap (λ s. is_name_in s content q) written-here
        ∙ taken_from_names before entry name taken q
        ∙ sym (ap (λ s. is_name_in s content q && not (bytes_eq name q)) there);
    ordered = subst (λ s. IfSome s (IsOrdered (slice_cmp nat_cmp))) (sym written-here) ordered;
  }

-- a set without names has none
pub among-empty : (names : Names) → names.keys ≡ [] → (q : List ℕ) → among names q ≡ false
among-empty names none q = ap (list_any (is_at (slice_cmp nat_cmp q))) none

and_both : (a b : Bool) → a ≡ true → (a && not b) ≡ false → b ≡ true
and_both a true here none = refl
and_both true false here none = absurd (false≢true (sym none))
and_both false false here none = absurd (false≢true here)

-- the last name leaves an entry, which goes
pub leaves-last : (number : ℕ) (name : List ℕ) (old new : Groups) (before after : Names) → get nat_cmp old number ≡ Some before
    → ((q : List ℕ) → among after q ≡ cond (is_at (slice_cmp nat_cmp name) q) false (among before q)) → length after.keys ≡ 0
    → ((m : ℕ) → (number == m) ≡ false → get nat_cmp new m ≡ get nat_cmp old m) → get nat_cmp new number ≡ None
    → LeavesLast number name old new
leaves-last number name old new before after there taken empty others none = record {
  others = others;
  none = none;
  only = λ content q here also.
      let has : among before q ≡ true = sym (ap (λ s. is_name_in s content q) there) ∙ also in
      and_both (among before q) (bytes_eq name q) has
      (sym (taken_from_names before after name taken q) ∙ among-empty after (nil_from_length after.keys empty) q);
}

-- the only name of a content without an entry leaves it
pub leaves-only : (number : ℕ) (name : List ℕ) (old new : Groups) → get nat_cmp old number ≡ None → new ≡ old → LeavesLast number name old new
leaves-only number name old new absent same = record {
  others = λ m other. ap (λ g. get nat_cmp g m) same;
  none = ap (λ g. get nat_cmp g number) same ∙ absent;
  only = λ content q here also.
      one content q (sym (ap (λ s. is_name_in s content name) absent) ∙ here) (sym (ap (λ s. is_name_in s content q) absent) ∙ also);
}
  where
    one : (content : Option (List ℕ × List ℕ)) (q : List ℕ) → is_kept_with name content ≡ true → is_kept_with q content ≡ true → bytes_eq name q ≡ true
    one None q here also = absurd (false≢true here)
    one (Some d) q here also =
        ap (λ n. bytes_eq n q) (sym (same_name d.0 name here) ∙ same_name d.0 q also) ∙ bytes_eq-refl q
