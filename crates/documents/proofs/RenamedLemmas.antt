-- Names with another beginning, and the documents that a copy leaves.
use Rattle.std.proofs.Common.{◌≡◌, ℕ, ◌++◌, ◌&&◌, Bool, true, false, cond, List, [], ◌∷◌, map, length, take, drop, Option, Some, None, refl, sym, ◌∙◌, ap}
use Rattle.std.specs.Prelude.{bytes_eq, filter}
use Rattle.std.specs.Ordering.{nat_cmp, is_eq}
use Rattle.std.specs.Cmp.Lexicographic.{slice_cmp, nat_list_cmp_total}
use Rattle.std.specs.FinMap.{entries, find, get, get-entries, get-from_entries}
use Rattle.std.proofs.lemmas.Bool.{false≢true}
use Rattle.std.proofs.lemmas.List.{drop_at, take_at, take-append-drop}
use Rattle.prefixes.specs.Under.{begins_with}
use Rattle.documents.specs.declared.command.Command.TheVariants.{CopyUnder}
use Rattle.documents.specs.Documents.{Documents, documents_after, renamed, copies}
use Rattle.documents.proofs.ElementLemmas.{same_name, bytes_eq-refl}
use Rattle.documents.proofs.ListedLemmas.{ties}

-- the first of two that is there
abbrev pub one_or_other : {X : Type 0} → Option X → Option X → Option X
one_or_other None other = other
one_or_other (Some x) other = Some x

pub begins_renamed : (from to name : List ℕ) → begins_with to (renamed from to name) ≡ true
begins_renamed from to name =
    ap (bytes_eq to) (take_at to (drop (length from) name) (length to) refl) ∙ bytes_eq-refl to

-- back to the name that was renamed
pub renamed_back : (from to name : List ℕ) → begins_with from name ≡ true → renamed to from (renamed from to name) ≡ name
renamed_back from to name begins =
    ap (λ rest. from ++ rest) (drop_at to (drop (length from) name) (length to) refl)
    ∙ ap (λ text. text ++ drop (length from) name) (same_name from (take (length from) name) begins)
    ∙ take-append-drop (length from) name

-- a name that is renamed to another one
pub renamed_to : (from to name q : List ℕ) → begins_with from name ≡ true → bytes_eq (renamed from to name) q ≡ (begins_with to q && bytes_eq name (renamed to from q))
renamed_to from to name q begins = go (bytes_eq (renamed from to name) q) refl (begins_with to q) refl (bytes_eq name (renamed to from q)) refl
  where
    go : (t : Bool) → bytes_eq (renamed from to name) q ≡ t → (u : Bool) → begins_with to q ≡ u → (v : Bool) → bytes_eq name (renamed to from q) ≡ v → t ≡ (u && v)
    go true e true f true g = refl
    go true e true f false g =
        let is : renamed from to name ≡ q = same_name (renamed from to name) q e in
        let back : name ≡ renamed to from q = sym (renamed_back from to name begins) ∙ ap (renamed to from) is in
        absurd (false≢true (sym g ∙ (ap (bytes_eq name) (sym back) ∙ bytes_eq-refl name)))
    go true e false f v g =
        let is : renamed from to name ≡ q = same_name (renamed from to name) q e in
        absurd (false≢true (sym f ∙ (ap (begins_with to) (sym is) ∙ begins_renamed from to name)))
    go false e true f true g =
        let is : name ≡ renamed to from q = same_name name (renamed to from q) g in
        let back : renamed from to name ≡ q = ap (renamed from to) is ∙ renamed_back to from q f in
        absurd (false≢true (sym e ∙ (ap (λ n. bytes_eq n q) back ∙ bytes_eq-refl q)))
    go false e true f false g = refl
    go false e false f v g = refl

-- a name that does not begin with a text is not one that was renamed to begin with it
pub other_name : (from to name q : List ℕ) → begins_with from name ≡ false → bytes_eq name (renamed to from q) ≡ false
other_name from to name q other = go (bytes_eq name (renamed to from q)) refl
  where
    go : (t : Bool) → bytes_eq name (renamed to from q) ≡ t → t ≡ false
    go false e = refl
    go true e =
        absurd (false≢true (sym other ∙ (ap (begins_with from) (same_name name (renamed to from q) e) ∙ begins_renamed to from q)))

module _ (from to : List ℕ) where
  -- what is copied to a name
  abbrev pub copied_body : List ℕ → Documents → Option (List ℕ)
  copied_body q ds = cond (begins_with to q) (get ds (renamed to from q)) None

  abbrev found : List ℕ → List (List ℕ × List ℕ) → Option (List ℕ)
  found q es = find (slice_cmp nat_cmp) q es

  find-copies : (q : List ℕ) (es rest : List (List ℕ × List ℕ))
      → found q (map (λ e. (renamed from to e.0, e.1)) (filter (λ e. begins_with from e.0) es) ++ rest)
      ≡ one_or_other (cond (begins_with to q) (found (renamed to from q) es) None) (found q rest)
  find-copies q [] rest = none (begins_with to q)
    where
      none : (b : Bool) → found q rest ≡ one_or_other (cond b None None) (found q rest)
      none true = refl
      none false = refl
  find-copies q (e ∷ es) rest = go (begins_with from e.0) refl (find-copies q es rest)
    where
      others : List (List ℕ × List ℕ)
      others = map (λ d. (renamed from to d.0, d.1)) (filter (λ d. begins_with from d.0) es)

      both : (b u : Bool) → cond (b && u) (Some e.1) (one_or_other (cond b (found (renamed to from q) es) None) (found q rest))
          ≡ one_or_other (cond b (cond u (Some e.1) (found (renamed to from q) es)) None) (found q rest)
      both true true = refl
      both true false = refl
      both false u = refl

      go : (t : Bool) → begins_with from e.0 ≡ t
          → found q (others ++ rest) ≡ one_or_other (cond (begins_with to q) (found (renamed to from q) es) None) (found q rest)
          → found q (map (λ d. (renamed from to d.0, d.1)) (cond t (e ∷ filter (λ d. begins_with from d.0) es) (filter (λ d. begins_with from d.0) es)) ++ rest)
          ≡ one_or_other (cond (begins_with to q) (cond (is_eq (slice_cmp nat_cmp (renamed to from q) e.0)) (Some e.1) (found (renamed to from q) es)) None) (found q rest)
      go true begins deeper =
          ap (λ t. cond t (Some e.1) (found q (others ++ rest))) (sym (ties (renamed from to e.0) q) ∙ renamed_to from to e.0 q begins)
          ∙ ap (cond (begins_with to q && bytes_eq e.0 (renamed to from q)) (Some e.1)) deeper
          ∙ both (begins_with to q) (bytes_eq e.0 (renamed to from q))
          ∙ ap (λ t. one_or_other (cond (begins_with to q) (cond t (Some e.1) (found (renamed to from q) es)) None) (found q rest)) (ties e.0 (renamed to from q))
      go false other deeper =
          deeper
          ∙ ap (λ t. one_or_other (cond (begins_with to q) (cond t (Some e.1) (found (renamed to from q) es)) None) (found q rest))
          (sym (other_name from to e.0 q other) ∙ ties e.0 (renamed to from q))

  -- the body under a name after the copies
  pub get-copied : (q : List ℕ) (ds : Documents) → get (documents_after (CopyUnder from to) ds) q ≡ one_or_other (copied_body q ds) (get ds q)
  get-copied q ds =
      get-from_entries nat_list_cmp_total (copies from to ds ++ entries ds) q
      ∙ find-copies q (entries ds) (entries ds)
      ∙ ap (λ o. one_or_other (cond (begins_with to q) o None) (found q (entries ds))) (sym (get-entries ds (renamed to from q)))
      ∙ ap (one_or_other (copied_body q ds)) (sym (get-entries ds q))
