-- Names that join contents and leave them.
use Rattle.std.proofs.Common.{◌≡◌, ℕ, ◌==◌, ◌||◌, ◌&&◌, not, Bool, true, false, cond, List, Some, None, Result, Ok, Err, refl, sym, ◌∙◌, ap, subst, arith}
use Rattle.std.specs.Prelude.{bytes_eq, IsSome, IfSome, OnErr}
use Rattle.std.specs.Ordering.{nat_cmp}
use Rattle.std.specs.Cmp.Lexicographic.{slice_cmp}
use Rattle.std.specs.BTreeMap.{get}
use Rattle.std.specs.BTreeSet.{IsOrdered}
use Rattle.std.proofs.lemmas.Bool.{false≢true}
use Rattle.std.proofs.lemmas.Bool.Decides.{nat_tests}
use Rattle.index.specs.Private.Numbered.{Document, document_at}
use Rattle.index.specs.Private.Contents.{Groups, AreContents, AreGroupsOf, Joins, LeavesEntry, LeavesLast, HasNames, IsLeft, body_of, body_at, has_name, is_name_in}
use Rattle.index.specs.Private.Contents.{with_name}
use Rattle.index.specs.Private.Slots.{without_number}
use Rattle.index.proofs.DocumentLemmas.{same_name}
use Rattle.index.proofs.StoredLemmas.{document_at-kept}
use Rattle.index.proofs.ApplyLemmas.{AreContents-without}

pub on_err : {T E P : Type 0} (r : Result T E) → P → OnErr r P
on_err (Ok x) p = tt
on_err (Err e) p = p

same_number : (n m : ℕ) → (n == m) ≡ true → n ≡ m
same_number n m e = grind (arith, nat_tests)

turned : (n m : ℕ) → (n == m) ≡ (m == n)
turned n m = grind (arith, nat_tests)

kept_and : (b c : Bool) → b ≡ (b && not (false && c))
kept_and true c = refl
kept_and false c = refl

kept_or : (b c : Bool) → b ≡ (b || (false && c))
kept_or true c = refl
kept_or false c = refl

module _ (contents : List Document) (old new : Groups) where
  -- ---- a name that joins

  pub HasNames-same : ((m : ℕ) → get nat_cmp new m ≡ get nat_cmp old m) → HasNames (has_name old contents) contents old new
  HasNames-same same = record {
    names = λ m q. ap (λ s. is_name_in s (document_at m contents) q) (same m);
    groups_of = λ are. record {
      there = λ m h. are.there m (subst IsSome (same m) h);
      ordered = λ m. subst (λ s. IfSome s (IsOrdered (slice_cmp nat_cmp))) (sym (same m)) (are.ordered m);
    };
  }

  module _ (number : ℕ) (others : (m : ℕ) → (number == m) ≡ false → get nat_cmp new m ≡ get nat_cmp old m)
      (ordered : IfSome (get nat_cmp new number) (IsOrdered (slice_cmp nat_cmp))) where
    -- the entries are still those of contents
    groups_stay : IsSome (document_at number contents) → AreGroupsOf contents old → AreGroupsOf contents new
    groups_stay here are = record {
      there = λ m h. at m h (number == m) refl;
      ordered = λ m. order m (number == m) refl;
    }
      where
        at : (m : ℕ) → IsSome (get nat_cmp new m) → (t : Bool) → (number == m) ≡ t → IsSome (document_at m contents)
        at m h true e = subst (λ n. IsSome (document_at n contents)) (same_number number m e) here
        at m h false e = are.there m (subst IsSome (others m e) h)

        order : (m : ℕ) (t : Bool) → (number == m) ≡ t → IfSome (get nat_cmp new m) (IsOrdered (slice_cmp nat_cmp))
        order m true e = subst (λ n. IfSome (get nat_cmp new n) (IsOrdered (slice_cmp nat_cmp))) (same_number number m e) ordered
        order m false e = subst (λ s. IfSome s (IsOrdered (slice_cmp nat_cmp))) (sym (others m e)) (are.ordered m)

  pub HasNames-joined : (number : ℕ) (first body name : List ℕ) → document_at number contents ≡ Some (first, body) → Joins number first name old new
      → HasNames (with_name number name (has_name old contents)) contents old new
  HasNames-joined number first body name at joins = record {
    names = λ m q. go m q (number == m) refl;
    groups_of = groups_stay number joins.others joins.ordered (subst IsSome (sym at) refl);
  }
    where
      go : (m : ℕ) (q : List ℕ) (t : Bool) → (number == m) ≡ t → has_name new contents m q ≡ (has_name old contents m q || ((number == m) && bytes_eq name q))
      go m q true e =
          let is : number ≡ m = same_number number m e in
          subst (λ n. has_name new contents n q ≡ (has_name old contents n q || ((number == m) && bytes_eq name q))) is
          (ap (λ o. is_name_in (get nat_cmp new number) o q) at
          ∙ joins.names body q
          ∙ ap (λ o. is_name_in (get nat_cmp old number) o q || bytes_eq name q) (sym at)
          ∙ ap (λ b. has_name old contents number q || (b && bytes_eq name q)) (sym e))
      go m q false e =
          ap (λ s. is_name_in s (document_at m contents) q) (joins.others m e)
          ∙ kept_or (has_name old contents m q) (bytes_eq name q)
          ∙ ap (λ b. has_name old contents m q || (b && bytes_eq name q)) (sym e)

  -- ---- a name that leaves

  pub left-entry : (number : ℕ) (name : List ℕ) → AreGroupsOf contents old → LeavesEntry number name old new
      → IsLeft (Some number) name contents old contents new
  left-entry number name are leaves = record {
    names = λ m q. go m q (number == m) refl;
    bodies = λ m q h. refl;
    groups_of = groups_stay number leaves.others leaves.ordered (are.there number leaves.there) are;
    contents = λ version good. good;
  }
    where
      go : (m : ℕ) (q : List ℕ) (t : Bool) → (number == m) ≡ t → has_name new contents m q ≡ (has_name old contents m q && not ((number == m) && bytes_eq name q))
      go m q true e =
          let is : number ≡ m = same_number number m e in
          subst (λ n. has_name new contents n q ≡ (has_name old contents n q && not ((number == m) && bytes_eq name q))) is
          (leaves.names (document_at number contents) q ∙ ap (λ b. has_name old contents number q && not (b && bytes_eq name q)) (sym e))
      go m q false e =
          ap (λ s. is_name_in s (document_at m contents) q) (leaves.others m e)
          ∙ kept_and (has_name old contents m q) (bytes_eq name q)
          ∙ ap (λ b. has_name old contents m q && not (b && bytes_eq name q)) (sym e)

  pub left-last : (number : ℕ) (name : List ℕ) (after : List Document) → AreGroupsOf contents old → has_name old contents number name ≡ true
      → LeavesLast number name old new → after ≡ without_number number contents → IsLeft (Some number) name contents old after new
  left-last number name after are had leaves gone = record {
    names = λ m q. go m q (number == m) refl;
    bodies = λ m q h. body m q h (number == m) refl;
    groups_of = record {
      there = λ m h. there m h (number == m) refl;
      ordered = λ m. order m (number == m) refl;
    };
    contents = λ version good. subst (AreContents version) (sym gone) (AreContents-without version contents number good);
  }
    where
      at : (m : ℕ) (t : Bool) → (number == m) ≡ t → document_at m after ≡ cond t None (document_at m contents)
      at m t e =
          ap (document_at m) gone
          ∙ document_at-kept number m contents
          ∙ ap (λ b. cond b None (document_at m contents)) (turned m number ∙ e)

      last : (q : List ℕ) (b c : Bool) → has_name old contents number q ≡ b → bytes_eq name q ≡ c → false ≡ (b && not c)
      last q true true h e = refl
      last q true false h e = absurd (false≢true (sym e ∙ leaves.only (document_at number contents) q had h))
      last q false c h e = refl

      none_left : (m : ℕ) (q : List ℕ) → (number == m) ≡ true → has_name new after m q ≡ false
      none_left m q e =
          ap (λ o. is_name_in (get nat_cmp new m) o q) (at m true e)
          ∙ ap (λ n. is_name_in (get nat_cmp new n) None q) (sym (same_number number m e))
          ∙ ap (λ s. is_name_in s None q) leaves.none

      go : (m : ℕ) (q : List ℕ) (t : Bool) → (number == m) ≡ t → has_name new after m q ≡ (has_name old contents m q && not ((number == m) && bytes_eq name q))
      go m q true e =
          none_left m q e
          ∙ last q (has_name old contents number q) (bytes_eq name q) refl refl
          ∙ ap (λ n. has_name old contents n q && not (bytes_eq name q)) (same_number number m e)
          ∙ ap (λ b. has_name old contents m q && not (b && bytes_eq name q)) (sym e)
      go m q false e =
          ap (λ o. is_name_in (get nat_cmp new m) o q) (at m false e)
          ∙ ap (λ s. is_name_in s (document_at m contents) q) (leaves.others m e)
          ∙ kept_and (has_name old contents m q) (bytes_eq name q)
          ∙ ap (λ b. has_name old contents m q && not (b && bytes_eq name q)) (sym e)

      body : (m : ℕ) (q : List ℕ) → has_name new after m q ≡ true → (t : Bool) → (number == m) ≡ t → body_at after m ≡ body_at contents m
      body m q h true e = absurd (false≢true (sym (none_left m q e) ∙ h))
      body m q h false e = ap body_of (at m false e)

      there : (m : ℕ) → IsSome (get nat_cmp new m) → (t : Bool) → (number == m) ≡ t → IsSome (document_at m after)
      there m h true e =
          absurd (false≢true (subst IsSome (ap (get nat_cmp new) (sym (same_number number m e)) ∙ leaves.none) h))
      there m h false e = subst IsSome (sym (at m false e)) (are.there m (subst IsSome (leaves.others m e) h))

      order : (m : ℕ) (t : Bool) → (number == m) ≡ t → IfSome (get nat_cmp new m) (IsOrdered (slice_cmp nat_cmp))
      order m true e =
          subst (λ s. IfSome s (IsOrdered (slice_cmp nat_cmp))) (sym (ap (get nat_cmp new) (sym (same_number number m e)) ∙ leaves.none)) tt
      order m false e = subst (λ s. IfSome s (IsOrdered (slice_cmp nat_cmp))) (sym (leaves.others m e)) (are.ordered m)

-- nothing to leave
pub left-none : (name : List ℕ) (contents : List Document) (groups : Groups) → AreGroupsOf contents groups → IsLeft None name contents groups contents groups
left-none name contents groups are = record {
  names = λ m q. kept_and (has_name groups contents m q) (bytes_eq name q);
  bodies = λ m q h. refl;
  groups_of = are;
  contents = λ version good. good;
}

-- a name that joined and is taken back
pub HasNames-back : (contents : List Document) (old mid new : Groups) (number : ℕ) (name : List ℕ) → has_name old contents number name ≡ false
    → HasNames (with_name number name (has_name old contents)) contents old mid → LeavesEntry number name mid new
    → HasNames (has_name old contents) contents old new
HasNames-back contents old mid new number name free joined leaves = record {
  names = λ m q. go m q (number == m) refl;
  groups_of = λ are. (left-entry contents mid new number name (joined.groups_of are) leaves).groups_of;
}
  where
    back : (q : List ℕ) (b c : Bool) → has_name old contents number q ≡ b → bytes_eq name q ≡ c → ((b || c) && not c) ≡ b
    back q true true h e = absurd (false≢true (sym free ∙ (ap (has_name old contents number) (same_name name q e) ∙ h)))
    back q true false h e = refl
    back q false true h e = refl
    back q false false h e = refl

    go : (m : ℕ) (q : List ℕ) (t : Bool) → (number == m) ≡ t → has_name new contents m q ≡ has_name old contents m q
    go m q true e =
        let is : number ≡ m = same_number number m e in
        subst (λ n. has_name new contents n q ≡ has_name old contents n q) is
        (leaves.names (document_at number contents) q
        ∙ ap (λ b. b && not (bytes_eq name q)) (joined.names number q)
        ∙ ap (λ n. (has_name old contents number q || ((number == n) && bytes_eq name q)) && not (bytes_eq name q)) is
        ∙ ap (λ b. (has_name old contents number q || (b && bytes_eq name q)) && not (bytes_eq name q)) e
        ∙ back q (has_name old contents number q) (bytes_eq name q) refl refl)
    go m q false e =
        ap (λ s. is_name_in s (document_at m contents) q) (leaves.others m e)
        ∙ joined.names m q
        ∙ ap (λ b. has_name old contents m q || (b && bytes_eq name q)) e
        ∙ sym (kept_or (has_name old contents m q) (bytes_eq name q))
