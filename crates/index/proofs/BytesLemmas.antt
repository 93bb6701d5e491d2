-- The total length of the bodies, once a document is put in or taken out.
use Rattle.std.proofs.Common.{◌≡◌, ℕ, ◌+◌, ◌<◌, ◌≤◌, Bool, true, false, cond, List, ◌∷◌, map, length, Option, Some, None, refl, sym, ◌∙◌, ap, arith}
use Rattle.std.specs.Prelude.{sum, is_some}
use Rattle.std.specs.FinMap.{empty, len, len-empty, len-entries, len-insert, get, put, insert, remove, entries, get-entries, entries-insert, get-insert, get-remove, same_map}
use Rattle.std.specs.Ordering.{nat_cmp, is_eq}
use Rattle.std.specs.declared.cmp.Ordering.{Ordering}
use Rattle.std.specs.declared.cmp.Ordering.TheVariants.{Less, Equal, Greater}
use Rattle.std.specs.Cmp.{tied_itself}
use Rattle.std.specs.Cmp.Lexicographic.{slice_cmp, nat_list_cmp_total}
use Rattle.std.proofs.lemmas.List.{nil_from_length}
use Rattle.std.proofs.lemmas.List.Sorted.{IsPermutation-map, sum_by-IsPermutation}
use Rattle.std.proofs.lemmas.List.Sums.{sum_by-cons}
use Rattle.std.proofs.lemmas.Map.Lookups.{exact_bytes}
use Rattle.documents.specs.Documents.{Document, Documents, document}
use Rattle.documents.specs.State.{body_bytes}
use Rattle.index.proofs.PlainLemmas.{put-permutes}

abbrev weigh : List (List ℕ × List ℕ) → List ℕ
weigh es = map (λ (d : Document). length d.body) (map (λ (e : List ℕ × List ℕ). document e.0 e.1) es)

pub bytes-none : body_bytes empty ≡ 0
bytes-none =
    let none : Documents = empty in
    ap (λ es. sum (weigh es)) (nil_from_length (entries none) (sym (len-entries none) ∙ len-empty (slice_cmp nat_cmp) (List ℕ)))

fresh : (ds : Documents) (name body : List ℕ) → get ds name ≡ None → body_bytes (insert ds name body) ≡ length body + body_bytes ds
fresh ds name body none =
    ap (λ es. sum (weigh es)) (entries-insert nat_list_cmp_total ds name body)
    ∙ sum_by-IsPermutation (λ n. n) (weigh ((name, body) ∷ entries ds)) (weigh after)
    (IsPermutation-map (λ (d : Document). length d.body) (map doc ((name, body) ∷ entries ds)) (map doc after)
    (IsPermutation-map doc ((name, body) ∷ entries ds) after
    (put-permutes name body (entries ds) (sym (get-entries ds name) ∙ none))))
    ∙ sum_by-cons (λ n. n) (length body) (weigh (entries ds))
  where
    doc : List ℕ × List ℕ → Document
    doc e = document e.0 e.1

    after : List (List ℕ × List ℕ)
    after = put (slice_cmp nat_cmp) name body (entries ds)

replaced : (ds : Documents) (name body : List ℕ) → insert ds name body ≡ insert (remove ds name) name body
replaced ds name body =
    same_map nat_list_cmp_total exact_bytes (insert ds name body) (insert (remove ds name) name body) (λ q.
    get-insert nat_list_cmp_total ds name body q
    ∙ go (is_eq (slice_cmp nat_cmp q name)) (get ds q)
    ∙ ap (cond (is_eq (slice_cmp nat_cmp q name)) (Some body)) (sym (get-remove nat_list_cmp_total ds name q))
    ∙ sym (get-insert nat_list_cmp_total (remove ds name) name body q))
  where
    go : (t : Bool) (found : Option (List ℕ)) → cond t (Some body) found ≡ cond t (Some body) (cond t None found)
    go true found = refl
    go false found = refl

free : (ds : Documents) (name : List ℕ) → get (remove ds name) name ≡ None
free ds name =
    get-remove nat_list_cmp_total ds name name
    ∙ ap (λ o. cond (is_eq o) None (get ds name)) (tied_itself nat_list_cmp_total name)

restored : (ds : Documents) (name body : List ℕ) → get ds name ≡ Some body → ds ≡ insert (remove ds name) name body
restored ds name body found =
    same_map nat_list_cmp_total exact_bytes ds (insert (remove ds name) name body) (λ q.
    go q (slice_cmp nat_cmp q name) refl
    ∙ ap (cond (is_eq (slice_cmp nat_cmp q name)) (Some body)) (sym (get-remove nat_list_cmp_total ds name q))
    ∙ sym (get-insert nat_list_cmp_total (remove ds name) name body q))
  where
    go : (q : List ℕ) (o : Ordering) → slice_cmp nat_cmp q name ≡ o
        → get ds q ≡ cond (is_eq (slice_cmp nat_cmp q name)) (Some body) (cond (is_eq (slice_cmp nat_cmp q name)) None (get ds q))
    go q Less e = rw e refl
    go q Greater e = rw e refl
    go q Equal e = rw e (ap (get ds) (exact_bytes q name e) ∙ found)

absent : (ds : Documents) (name : List ℕ) → get ds name ≡ None → remove ds name ≡ ds
absent ds name none =
    same_map nat_list_cmp_total exact_bytes (remove ds name) ds (λ q.
    get-remove nat_list_cmp_total ds name q ∙ go q (slice_cmp nat_cmp q name) refl)
  where
    go : (q : List ℕ) (o : Ordering) → slice_cmp nat_cmp q name ≡ o → cond (is_eq (slice_cmp nat_cmp q name)) None (get ds q) ≡ get ds q
    go q Less e = rw e refl
    go q Greater e = rw e refl
    go q Equal e = rw e (sym (ap (get ds) (exact_bytes q name e) ∙ none))

pub bytes-with : (ds : Documents) (name body : List ℕ) → body_bytes (insert ds name body) ≡ body_bytes (remove ds name) + length body
bytes-with ds name body =
    let one = ap body_bytes (replaced ds name body) ∙ fresh (remove ds name) name body (free ds name) in
    omega arith

pub bytes-without : (ds : Documents) (name body : List ℕ) → get ds name ≡ Some body → body_bytes (remove ds name) + length body ≡ body_bytes ds
bytes-without ds name body found = sym (bytes-with ds name body) ∙ ap body_bytes (again ds name body found)
  where
    again : (ds : Documents) (name body : List ℕ) → get ds name ≡ Some body → insert ds name body ≡ ds
    again ds name body found = replaced ds name body ∙ sym (restored ds name body found)

pub bytes-absent : (ds : Documents) (name : List ℕ) → get ds name ≡ None → body_bytes (remove ds name) ≡ body_bytes ds
bytes-absent ds name none = ap body_bytes (absent ds name none)

pub bytes-fewer : (ds : Documents) (name : List ℕ) → body_bytes (remove ds name) ≤ body_bytes ds
bytes-fewer ds name = go (get ds name) refl
  where
    go : (found : Option (List ℕ)) → get ds name ≡ found → body_bytes (remove ds name) ≤ body_bytes ds
    go None e = let same = bytes-absent ds name e in omega arith
    go (Some body) e = let same = bytes-without ds name body e in omega arith

pub len-fewer : (ds : Documents) (name body : List ℕ) → get ds name ≡ Some body → len (remove ds name) < len ds
len-fewer ds name body found =
    let one =
    ap len (restored ds name body found)
    ∙ len-insert nat_list_cmp_total (remove ds name) name body
    ∙ ap (λ o. cond (is_some o) (len (remove ds name)) (len (remove ds name) + 1)) (free ds name) in
    omega arith
