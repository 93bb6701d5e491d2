-- A content that is new.
use Rattle.std.proofs.Common.{◌≡◌, ℕ, ◌+◌, ◌==◌, ◌||◌, ◌&&◌, Bool, true, false, cond, List, [], ◌∷◌, ◌++◌, Option, Some, None, refl, sym, ◌∙◌, ap, subst, arith}
use Rattle.std.specs.Prelude.{bytes_eq, IsSome, IfSome}
use Rattle.std.specs.Ordering.{nat_cmp}
use Rattle.std.specs.Cmp.Lexicographic.{slice_cmp}
use Rattle.std.specs.BTreeMap.{BTreeMap, get}
use Rattle.std.specs.BTreeSet.{BTreeSet}
use Rattle.std.proofs.lemmas.Bool.{false≢true}
use Rattle.std.proofs.lemmas.Bool.Decides.{nat_tests}
use Rattle.index.specs.declared.store.Store.{Store}
use Rattle.index.specs.Private.Numbered.{Document, document, document_at}
use Rattle.index.specs.Private.Contents.{Groups, AreGroupsOf, body_of, body_at, has_name, is_name_in, is_number, with_name}
use Rattle.index.specs.Private.Store.{stored, IsIndex}
use Rattle.index.proofs.StoredLemmas.{document_at-above}
use Rattle.index.proofs.NamedLemmas.{content_of_name, content_of_number, left_name}

at_end : (ds : List Document) (number : ℕ) (name body : List ℕ) (n : ℕ) → document_at number ds ≡ None
    → document_at n (ds ++ document number name body ∷ []) ≡ cond (number == n) (Some (name, body)) (document_at n ds)
unfolding document_at
at_end [] number name body n none = refl
at_end (d ∷ ds) number name body n none = go (d.number == number) refl (d.number == n) refl (number == n) refl none (at_end ds number name body n)
  where
    go : (t : Bool) → (d.number == number) ≡ t → (u : Bool) → (d.number == n) ≡ u → (v : Bool) → (number == n) ≡ v
        → cond t (Some (d.name, d.body)) (document_at number ds) ≡ None
        → (document_at number ds ≡ None → document_at n (ds ++ document number name body ∷ []) ≡ cond (number == n) (Some (name, body)) (document_at n ds))
        → cond u (Some (d.name, d.body)) (document_at n (ds ++ document number name body ∷ []))
        ≡ cond (number == n) (Some (name, body)) (cond u (Some (d.name, d.body)) (document_at n ds))
    go true t u e v f none deeper = cc
    go false t true e true f none deeper =
        let first : d.number ≡ n = grind (arith, nat_tests) in
        let second : number ≡ n = grind (arith, nat_tests) in
        let same : (d.number == number) ≡ true = grind (arith, nat_tests) in
        absurd (false≢true (sym t ∙ same))
    go false t true e false f none deeper = ap (λ b. cond b (Some (name, body)) (Some (d.name, d.body))) (sym f)
    go false t false e v f none deeper = deeper none

module _ {version : ℕ} {numbers : BTreeMap (List ℕ) ℕ} {groups : Groups} {store : Store} {held_bytes : ℕ} (is : IsIndex version numbers groups store held_bytes)
    (name : List ℕ) where
  not_there : document_at (version + 1) (stored store) ≡ None
  not_there =
      document_at-above (version + 1) version (stored store) (λ k d inside. (is.contents.good k d inside).1) (omega arith)

  never : (n : ℕ) → IsSome (document_at n (stored store)) → ((version + 1) == n) ≡ false
  never n there = go ((version + 1) == n) refl
    where
      go : (t : Bool) → ((version + 1) == n) ≡ t → t ≡ false
      go false e = refl
      go true e =
          let same : version + 1 ≡ n = grind (arith, nat_tests) in
          absurd (false≢true (subst IsSome not_there (subst (λ k. IsSome (document_at k (stored store))) (sym same) there)))

  -- no name has the number yet
  pub no_new_number : is_number (version + 1) (get (slice_cmp nat_cmp) numbers name) ≡ false
  no_new_number = go (get (slice_cmp nat_cmp) numbers name) refl
    where
      turned : (a b : ℕ) → (a == b) ≡ (b == a)
      turned a b = grind (arith, nat_tests)

      go : (found : Option ℕ) → get (slice_cmp nat_cmp) numbers name ≡ found → is_number (version + 1) found ≡ false
      go None e = refl
      go (Some n) e = turned n (version + 1) ∙ never n (content_of_number is name n e)

  module _ (body : List ℕ) (after : List Document) (put : after ≡ stored store ++ document (version + 1) name body ∷ []) where
    at : (n : ℕ) → document_at n after ≡ cond ((version + 1) == n) (Some (name, body)) (document_at n (stored store))
    at n = ap (document_at n) put ∙ at_end (stored store) (version + 1) name body n not_there

    pub new_body : body_at after (version + 1) ≡ body
    new_body =
        ap body_of (at (version + 1))
        ∙ ap (λ t. body_of (cond t (Some (name, body)) (document_at (version + 1) (stored store)))) same
      where
        same : ((version + 1) == (version + 1)) ≡ true
        same = grind (arith, nat_tests)

    no_entry : get nat_cmp groups (version + 1) ≡ None
    no_entry = go (get nat_cmp groups (version + 1)) refl
      where
        go : (names : Option (BTreeSet (List ℕ))) → get nat_cmp groups (version + 1) ≡ names → names ≡ None
        go None e = refl
        go (Some names) e =
            absurd (false≢true (subst IsSome not_there (is.groups_of.there (version + 1) (subst IsSome (sym e) refl))))

    pub new_names : (n : ℕ) (q : List ℕ) → has_name groups after n q ≡ with_name (version + 1) name (has_name groups (stored store)) n q
    new_names n q = ap (λ o. is_name_in (get nat_cmp groups n) o q) (at n) ∙ go ((version + 1) == n) refl
      where
        kept_or : (b c : Bool) → b ≡ (b || (false && c))
        kept_or true c = refl
        kept_or false c = refl

        go : (t : Bool) → ((version + 1) == n) ≡ t
            → is_name_in (get nat_cmp groups n) (cond t (Some (name, body)) (document_at n (stored store))) q
            ≡ (has_name groups (stored store) n q || (t && bytes_eq name q))
        go false e = kept_or (has_name groups (stored store) n q) (bytes_eq name q)
        go true e =
            let same : version + 1 ≡ n = grind (arith, nat_tests) in
            ap (λ k. is_name_in (get nat_cmp groups k) (Some (name, body)) q) (sym same)
            ∙ ap (λ s. is_name_in s (Some (name, body)) q) no_entry
            ∙ ap (λ b. b || bytes_eq name q)
            (sym (ap (λ k. has_name groups (stored store) k q) (sym same)
            ∙ ap (λ s. is_name_in s (document_at (version + 1) (stored store)) q) no_entry
            ∙ ap (λ o. is_name_in None o q) not_there))

    pub new_bodies : (n : ℕ) (q : List ℕ) → has_name groups (stored store) n q ≡ true → body_at after n ≡ body_at (stored store) n
    new_bodies n q has =
        ap body_of (at n)
        ∙ ap (λ t. body_of (cond t (Some (name, body)) (document_at n (stored store)))) (never n (content_of_name is n q has))

    pub new_groups : AreGroupsOf after groups
    new_groups = record {
      there = λ n h.
          (let there = is.groups_of.there n h in
          subst IsSome (sym (at n ∙ ap (λ t. cond t (Some (name, body)) (document_at n (stored store))) (never n there))) there);
      ordered = is.groups_of.ordered;
    }

    pub new_left : (old : Option ℕ) → old ≡ get (slice_cmp nat_cmp) numbers name → IfSome old (λ n. has_name groups after n name ≡ true)
    new_left None e = tt
    new_left (Some n) e = new_names n name ∙ ap (λ b. b || (((version + 1) == n) && bytes_eq name name)) (left_name is name (Some n) e)
