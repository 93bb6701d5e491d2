-- Contents under names, and the bodies alone.
use Rattle.std.proofs.Common.{◌≡◌, ℕ, ◌+◌, ◌&&◌, ◌||◌, inl, inr, Bool, true, false, cond, List, [], ◌∷◌, map, length, Some, None, Contains, refl, sym, ◌∙◌, ap, subst, arith}
use Rattle.std.specs.Prelude.{T, sum, Option, option_map, is_some}
use Rattle.std.specs.Borrow.{Bor}
use Rattle.std.specs.List.{fold, list_any, sum_by}
use Rattle.std.specs.Ordering.{nat_cmp, is_eq, is_lt, eq_by_cmp, ordering_reverse}
use Rattle.std.specs.declared.cmp.Ordering.{Ordering}
use Rattle.std.specs.declared.cmp.Ordering.TheVariants.{Less, Equal, Greater}
use Rattle.std.specs.Cmp.{tied_itself}
use Rattle.std.specs.Cmp.Lexicographic.{slice_cmp, nat_list_cmp_total}
use Rattle.std.specs.FinMap.{entries, entries_sorted, find, is_sorted, empty, get, insert, remove, retain_keys, keys, len, same_map, from_entries}
use Rattle.std.specs.FinMap.{nat_cmp-IsAntisymmetric, slice_cmp-IsAntisymmetric}
use Rattle.std.specs.FinMap.{entries-from_sorted, get-entries, get-from_sorted, get-empty, get-insert, get-remove, get-retain_keys, get-from_entries, len-entries}
use Rattle.std.specs.FinMap.Entries.{below_all}
use Rattle.std.proofs.lemmas.List.{length-map}
use Rattle.documents.specs.Documents.{Document, Documents, document, is_taken}
use Rattle.documents.specs.State.{body_bytes}
use Rattle.documents.proofs.ElementLemmas.{Contains-cons, Contains-head, Contains-tail}
use Rattle.names.specs.declared.content.Content.{Content}
use Rattle.names.specs.Contents.{Contents, entry_bytes, body_bytes as content_bytes}
use Rattle.versions.specs.Private.Version.{Entry, plain, bodies_of}

abbrev pub R : List ℕ → List ℕ → Ordering
R = slice_cmp nat_cmp

pub same_name : (x y : List ℕ) → R x y ≡ Equal → x ≡ y
same_name = slice_cmp-IsAntisymmetric nat_cmp-IsAntisymmetric

pub alike : (p : List ℕ → Bool) (q x : List ℕ) → R q x ≡ Equal → p x ≡ p q
alike p q x tie = ap p (sym (same_name q x tie))

-- ---- the bodies under names

below_plain : (x : List ℕ) (es : List Entry) → below_all R x (map plain es) ≡ below_all R x es
below_plain x [] = refl
below_plain x (e ∷ es) = ap (λ t. is_lt (R x e.0) && t) (below_plain x es)

sorted_plain : (es : List Entry) → is_sorted R (map plain es) ≡ is_sorted R es
sorted_plain [] = refl
sorted_plain (e ∷ es) =
    ap (λ t. below_all R e.0 (map plain es) && t) (sorted_plain es) ∙ ap (λ t. t && is_sorted R es) (below_plain e.0 es)

plain_rises : (cs : Contents) → T (is_sorted R (map plain (entries cs)))
plain_rises cs = subst T (sym (sorted_plain (entries cs))) (entries_sorted cs)

pub entries-bodies : (cs : Contents) → entries (bodies_of cs) ≡ map plain (entries cs)
entries-bodies cs = entries-from_sorted R (map plain (entries cs)) (plain_rises cs)

abbrev held_in : Option Content → Option (List ℕ)
held_in o = option_map (λ (c : Content). c.held) o

held-cond : (t : Bool) (x y : Option Content) → held_in (cond t x y) ≡ cond t (held_in x) (held_in y)
held-cond true x y = refl
held-cond false x y = refl

find_plain : (q : List ℕ) (es : List Entry) → find R q (map plain es) ≡ held_in (find R q es)
find_plain q [] = refl
find_plain q (e ∷ es) =
    ap (λ o. cond (eq_by_cmp R q e.0) (Some e.1.held) o) (find_plain q es) ∙ sym (held-cond (eq_by_cmp R q e.0) (Some e.1) (find R q es))

pub get-bodies : (cs : Contents) (q : List ℕ) → get (bodies_of cs) q ≡ option_map (λ (c : Content). c.held) (get cs q)
get-bodies cs q =
    get-from_sorted R (map plain (entries cs)) q (plain_rises cs)
    ∙ find_plain q (entries cs)
    ∙ ap held_in (sym (get-entries cs q))

same_documents : (m n : Documents) → ((q : List ℕ) → get m q ≡ get n q) → m ≡ n
same_documents m n is = same_map nat_list_cmp_total same_name m n is

pub bodies-from_entries : (es : List Entry) → bodies_of (from_entries es) ≡ from_entries (map plain es)
bodies-from_entries es =
    same_documents (bodies_of (from_entries es)) (from_entries (map plain es)) (λ q.
    get-bodies (from_entries es) q
    ∙ (ap held_in (get-from_entries nat_list_cmp_total es q) ∙ (sym (find_plain q es) ∙ sym (get-from_entries nat_list_cmp_total (map plain es) q))))

none_held : Documents
none_held = empty

pub bodies-empty : bodies_of empty ≡ empty
bodies-empty =
    same_documents (bodies_of empty) empty (λ q.
    get-bodies empty q ∙ (ap held_in (get-empty R q) ∙ sym (get-empty R q)))

pub bodies-insert : (cs : Contents) (k : List ℕ) (c : Content) → bodies_of (insert cs k c) ≡ insert (bodies_of cs) k c.held
bodies-insert cs k c =
    same_documents (bodies_of (insert cs k c)) (insert (bodies_of cs) k c.held) (λ q.
    get-bodies (insert cs k c) q
    ∙ (ap held_in (get-insert nat_list_cmp_total cs k c q)
    ∙ (held-cond (eq_by_cmp R q k) (Some c) (get cs q)
    ∙ (ap (λ o. cond (eq_by_cmp R q k) (Some c.held) o) (sym (get-bodies cs q))
    ∙ sym (get-insert nat_list_cmp_total (bodies_of cs) k c.held q)))))

pub bodies-remove : (cs : Contents) (k : List ℕ) → bodies_of (remove cs k) ≡ remove (bodies_of cs) k
bodies-remove cs k =
    same_documents (bodies_of (remove cs k)) (remove (bodies_of cs) k) (λ q.
    get-bodies (remove cs k) q
    ∙ (ap held_in (get-remove nat_list_cmp_total cs k q)
    ∙ (held-cond (eq_by_cmp R q k) None (get cs q)
    ∙ (ap (λ o. cond (eq_by_cmp R q k) None o) (sym (get-bodies cs q))
    ∙ sym (get-remove nat_list_cmp_total (bodies_of cs) k q)))))

pub bodies-retain : (cs : Contents) (p : List ℕ → Bool) → bodies_of (retain_keys cs p) ≡ retain_keys (bodies_of cs) p
bodies-retain cs p =
    same_documents (bodies_of (retain_keys cs p)) (retain_keys (bodies_of cs) p) (λ q.
    get-bodies (retain_keys cs p) q
    ∙ (ap held_in (get-retain_keys cs p q (alike p q))
    ∙ (held-cond (p q) (get cs q) None
    ∙ (ap (λ o. cond (p q) o None) (sym (get-bodies cs q))
    ∙ sym (get-retain_keys (bodies_of cs) p q (alike p q))))))

pub len-bodies : (cs : Contents) → len (bodies_of cs) ≡ len cs
len-bodies cs =
    len-entries (bodies_of cs) ∙ (ap length (entries-bodies cs) ∙ (length-map (entries cs) plain ∙ sym (len-entries cs)))

abbrev shown : List ℕ × List ℕ → Document
shown e = document e.0 e.1

bytes_from : (n : ℕ) (es : List Entry) → fold ◌+◌ n (map (λ (d : Document). length d.body) (map shown (map plain es))) ≡ fold (λ a x. a + entry_bytes x) n es
bytes_from n [] = refl
bytes_from n (e ∷ es) = bytes_from (n + length e.1.held) es

bytes_plain : (es : List Entry) → sum (map (λ (d : Document). length d.body) (map shown (map plain es))) ≡ sum_by entry_bytes es
bytes_plain es = bytes_from 0 es

pub bytes-bodies : (cs : Contents) → content_bytes cs ≡ body_bytes (bodies_of cs)
bytes-bodies cs =
    sym (bytes_plain (entries cs))
    ∙ ap (λ es. sum (map (λ (d : Document). length d.body) (map shown es))) (sym (entries-bodies cs))

any_plain : (p : List ℕ → Bool) (es : List Entry) → list_any p (map (λ e. e.0) (map plain es)) ≡ list_any p (map (λ e. e.0) es)
any_plain p [] = refl
any_plain p (e ∷ es) = ap (λ t. p e.0 || t) (any_plain p es)

-- a question about names
pub any-bodies : (cs : Contents) (p : List ℕ → Bool) → list_any p (keys cs) ≡ list_any p (keys (bodies_of cs))
any-bodies cs p = sym (any_plain p (entries cs)) ∙ ap (λ es. list_any p (map (λ e. e.0) es)) (sym (entries-bodies cs))

-- whether a name has a body
pub taken : (cs : Contents) (q : List ℕ) (found : Option (Bor (List ℕ))) → option_map (λ body. body.now) found ≡ get (bodies_of cs) q
    → is_some found ≡ is_taken q (bodies_of cs)
taken cs q found is = go found ∙ ap is_some is
  where
    go : (o : Option (Bor (List ℕ))) → is_some o ≡ is_some (option_map (λ body. body.now) o)
    go None = refl
    go (Some b) = refl

-- ---- entries, and what is found under names

both : (a b : Bool) → T (a && b) → T a × T b
both true true h = (tt, tt)
both true false h = absurd h
both false b h = absurd h

less : (o : Ordering) → T (is_lt o) → o ≡ Less
less Less h = refl
less Equal h = absurd h
less Greater h = absurd h

equal : (o : Ordering) → is_eq o ≡ true → o ≡ Equal
equal Less h = cc
equal Equal h = refl
equal Greater h = cc

below_at : (k : List ℕ) (es : List Entry) → T (below_all R k es) → (e : Entry) → Contains es e → R k e.0 ≡ Less
below_at k [] h e there = absurd (omega (arith, there.1))
below_at k (x ∷ es) h e there =
    let parts = both (is_lt (R k x.0)) (below_all R k es) h in
    elim (Contains-cons x es e there) [
      | inl is ↦ subst (λ (z : Entry). R k z.0 ≡ Less) is (less (R k x.0) parts.0)
      | inr later ↦ below_at k es parts.1 e later
    ]

found_in : (es : List Entry) → T (is_sorted R es) → (e : Entry) → Contains es e → find R e.0 es ≡ Some e.1
found_in [] h e there = absurd (omega (arith, there.1))
found_in (x ∷ es) h e there =
    let parts = both (below_all R x.0 es) (is_sorted R es) h in
    elim (Contains-cons x es e there) [
      | inl is ↦ subst (λ (z : Entry). find R z.0 (x ∷ es) ≡ Some z.1) is
          (ap (λ o. cond (is_eq o) (Some x.1) (find R x.0 es)) (tied_itself nat_list_cmp_total x.0))
      | inr later ↦
          ap (λ o. cond (is_eq o) (Some x.1) (find R e.0 es))
          (nat_list_cmp_total.antisymm e.0 x.0 ∙ ap ordering_reverse (below_at x.0 es parts.0 e later))
          ∙ found_in es parts.1 e later
    ]

pub entry_found : (cs : Contents) (e : Entry) → Contains (entries cs) e → get cs e.0 ≡ Some e.1
entry_found cs e there = get-entries cs e.0 ∙ found_in (entries cs) (entries_sorted cs) e there

pub in_found : (n : List ℕ) (c : Content) (es : List Entry) → find R n es ≡ Some c → Contains es (n, c)
in_found n c [] found = cc
in_found n c (x ∷ es) found = go (eq_by_cmp R n x.0) refl found (λ later. in_found n c es later)
  where
    go : (t : Bool) → eq_by_cmp R n x.0 ≡ t → cond t (Some x.1) (find R n es) ≡ Some c → (find R n es ≡ Some c → Contains es (n, c)) → Contains (x ∷ es) (n, c)
    go true tie is rest =
        let first : n ≡ x.0 = same_name n x.0 (equal (R n x.0) tie) in
        let second : x.1 ≡ c = cc in
        let whole : ◌≡◌ {A = Entry} (x.0, x.1) (n, c) = λ i. (sym first i, second i) in
        subst (λ (z : Entry). Contains (x ∷ es) z) whole (Contains-head x es)
    go false tie is rest = Contains-tail x es (n, c) (rest is)

pub found_entry : (cs : Contents) (n : List ℕ) (c : Content) → get cs n ≡ Some c → Contains (entries cs) (n, c)
found_entry cs n c found = in_found n c (entries cs) (sym (get-entries cs n) ∙ found)
