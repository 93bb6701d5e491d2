-- Names that documents get when they are copied, among the names of a set.
use Rattle.std.proofs.Common.{◌≡◌, ℕ, Bool, true, false, not, ◌&&◌, ◌||◌, cond, List, [], ◌∷◌, ◌++◌, map, take, drop, get_or, append-nil, ◌<◌, ◌+◌, length, refl, sym, ap, ◌∙◌}
use Rattle.std.specs.Prelude.{bytes_eq, filter}
use Rattle.std.specs.List.{list_any, take_while}
use Rattle.std.proofs.lemmas.Bool.{false≢true}
use Rattle.std.proofs.lemmas.List.{map-append, take-append-drop, take_more}
use Rattle.std.proofs.lemmas.List.Elements.{filter-append}
use Rattle.std.proofs.lemmas.List.Folds.{list_any-append}
use Rattle.prefixes.specs.Under.{begins_with}
use Rattle.documents.specs.Documents.{renamed}
use Rattle.documents.proofs.ElementLemmas.{same_name}
use Rattle.documents.proofs.RenamedLemmas.{renamed_to, other_name}
use Rattle.published.specs.Private.Names.{has_name, is_one_of, new_copies, names_under}
use Rattle.published.specs.declared.names.Names.{Names}
use Rattle.published.proofs.UnderNames.{any_same, begun_with, ended_by}

-- ---- whether one of the names up to the first that does not begin with the text passes a test

module _ (text : List ℕ) (p : List ℕ → Bool) (all : Bool) (left rest : List (List ℕ)) (name : List ℕ) (next : left ≡ name ∷ rest)
    (so_far : all ≡ list_any p (take_while (begins_with text) left)) where
  begun : begins_with text name ≡ true → all ≡ (p name || list_any p (take_while (begins_with text) rest))
  begun begins = so_far ∙ ap (list_any p) (ap (take_while (begins_with text)) next ∙ begun_with text name rest begins)

  pub any_next : begins_with text name ≡ true → p name ≡ false → all ≡ list_any p (take_while (begins_with text) rest)
  any_next begins fails = begun begins ∙ ap (λ t. t || list_any p (take_while (begins_with text) rest)) fails

  pub any_here : begins_with text name ≡ true → p name ≡ true → true ≡ all
  any_here begins passes = sym (begun begins ∙ ap (λ t. t || list_any p (take_while (begins_with text) rest)) passes)

  pub any_stop : begins_with text name ≡ false → false ≡ all
  any_stop other = sym (so_far ∙ ap (list_any p) (ap (take_while (begins_with text)) next ∙ ended_by text name rest other))

pub any_end : (text : List ℕ) (p : List ℕ → Bool) (all : Bool) (left : List (List ℕ)) → left ≡ []
    → all ≡ list_any p (take_while (begins_with text) left) → false ≡ all
any_end text p all left none so_far = sym (so_far ∙ ap (λ xs. list_any p (take_while (begins_with text) xs)) none)

-- ---- the new names

pub copies-more : (set : Names) (from to : List ℕ) (xs ys : List (List ℕ))
    → new_copies set from to (xs ++ ys) ≡ new_copies set from to xs ++ new_copies set from to ys
copies-more set from to xs ys =
    ap (filter (λ name. not (has_name set name))) (map-append (renamed from to) xs ys)
    ∙ filter-append (λ name. not (has_name set name)) (map (renamed from to) xs) (map (renamed from to) ys)

pub copies-step : (set : Names) (from to : List ℕ) (names : List (List ℕ)) (at : ℕ) (x : List ℕ) (old new : List (List ℕ)) → at < length names
    → x ≡ get_or names at x → old ≡ new_copies set from to (take at names) → new ≡ old ++ new_copies set from to (x ∷ [])
    → new ≡ new_copies set from to (take (at + 1) names)
copies-step set from to names at x old new inside is was grown =
    grown
    ∙ ap (λ xs. xs ++ new_copies set from to (x ∷ [])) was
    ∙ sym (copies-more set from to (take at names) (x ∷ []))
    ∙ ap (new_copies set from to) (ap (λ y. take at names ++ y ∷ []) is ∙ sym (take_more names at x inside))

pub copy-old : (set : Names) (from to x copy : List ℕ) (old : List (List ℕ)) → copy ≡ renamed from to x → has_name set copy ≡ true
    → old ≡ old ++ new_copies set from to (x ∷ [])
copy-old set from to x copy old named there =
    sym (append-nil old) ∙ ap (λ t. old ++ cond (not t) (renamed from to x ∷ []) []) (sym there ∙ ap (has_name set) named)

pub copy-new : (set : Names) (from to x copy : List ℕ) (old new : List (List ℕ)) → copy ≡ renamed from to x → has_name set copy ≡ false
    → new ≡ old ++ copy ∷ [] → new ≡ old ++ new_copies set from to (x ∷ [])
copy-new set from to x copy old new named free grown =
    grown
    ∙ ap (λ c. old ++ c ∷ []) named
    ∙ ap (λ t. old ++ cond (not t) (renamed from to x ∷ []) []) (sym free ∙ ap (has_name set) named)

-- ---- names that are added and taken out

or_none : (t : Bool) → (t || false) ≡ t
or_none true = refl
or_none false = refl

pub one-more : (names : List (List ℕ)) (at : ℕ) (x other : List ℕ) (had had' : Bool) → at < length names → x ≡ get_or names at x
    → had' ≡ (bytes_eq x other || (is_one_of (take at names) other || had)) → had' ≡ (is_one_of (take (at + 1) names) other || had)
one-more names at x other had had' inside is now =
    now
    ∙ turned (bytes_eq x other) (is_one_of (take at names) other) had
    ∙ ap (λ t. t || had)
    (sym (list_any-append (λ n. bytes_eq n other) (take at names) (x ∷ []))
    ∙ ap (λ xs. is_one_of xs other) (ap (λ y. take at names ++ y ∷ []) is ∙ sym (take_more names at x inside)))
  where
    turned : (a b c : Bool) → (a || (b || c)) ≡ ((b || (a || false)) || c)
    turned true true c = refl
    turned true false c = refl
    turned false true c = refl
    turned false false c = refl

pub first-ones : (names : List (List ℕ)) (at : ℕ) (other : List ℕ) → is_one_of (take at names) other ≡ true → is_one_of names other ≡ true
first-ones names at other e =
    ap (λ xs. is_one_of xs other) (sym (take-append-drop at names))
    ∙ list_any-append (λ n. bytes_eq n other) (take at names) (drop at names)
    ∙ ap (λ t. t || is_one_of (drop at names) other) e

-- names that were not there, added and taken out again
pub taken-back : (added had : Bool) → (added ≡ true → had ≡ false) → (not added && (added || had)) ≡ had
taken-back true had free = sym (free refl)
taken-back false had free = refl

-- ---- which names there are then

pub none-there : (h : List ℕ → Bool) (xs : List (List ℕ)) (q : List ℕ) → list_any (λ n. bytes_eq n q) (filter (λ n. not (h n)) xs) ≡ true → h q ≡ false
none-there h [] q e = absurd (false≢true e)
none-there h (x ∷ xs) q e = go (h x) refl e (none-there h xs q)
  where
    go : (t : Bool) → h x ≡ t → list_any (λ n. bytes_eq n q) (cond (not t) (x ∷ filter (λ n. not (h n)) xs) (filter (λ n. not (h n)) xs)) ≡ true
        → (list_any (λ n. bytes_eq n q) (filter (λ n. not (h n)) xs) ≡ true → h q ≡ false) → h q ≡ false
    go true here e deeper = deeper e
    go false here e deeper = pick (bytes_eq x q) refl e
      where
        pick : (u : Bool) → bytes_eq x q ≡ u → (u || list_any (λ n. bytes_eq n q) (filter (λ n. not (h n)) xs)) ≡ true → h q ≡ false
        pick true same e = ap h (sym (same_name x q same)) ∙ here
        pick false same e = deeper e

pub new-free : (set : Names) (from to : List ℕ) (sources copies : List (List ℕ)) → copies ≡ new_copies set from to sources → (name : List ℕ)
    → is_one_of copies name ≡ true → has_name set name ≡ false
new-free set from to sources copies are name e =
    none-there (has_name set) (map (renamed from to) sources) name (ap (λ xs. is_one_of xs name) (sym are) ∙ e)

module _ (h : List ℕ → Bool) (from to q : List ℕ) where
  abbrev is_q : List (List ℕ) → Bool
  is_q xs = list_any (λ n. bytes_eq n q) xs

  abbrev fresh : List (List ℕ) → List (List ℕ)
  fresh ks = filter (λ n. not (h n)) (map (renamed from to) (filter (begins_with from) ks))

  head-new : (x : List ℕ) (xs : List (List ℕ)) → is_q (filter (λ n. not (h n)) (x ∷ xs)) ≡ ((not (h q) && bytes_eq x q) || is_q (filter (λ n. not (h n)) xs))
  head-new x xs = pick (bytes_eq x q) refl
    where
      never : (t : Bool) → (not t && false) ≡ false
      never true = refl
      never false = refl

      skip : (t : Bool) → is_q (cond (not t) (x ∷ filter (λ n. not (h n)) xs) (filter (λ n. not (h n)) xs))
          ≡ ((not t && bytes_eq x q) || is_q (filter (λ n. not (h n)) xs))
      skip true = refl
      skip false = refl

      pick : (u : Bool) → bytes_eq x q ≡ u → is_q (filter (λ n. not (h n)) (x ∷ xs)) ≡ ((not (h q) && bytes_eq x q) || is_q (filter (λ n. not (h n)) xs))
      pick true e = skip (h x) ∙ ap (λ y. (not (h y) && bytes_eq x q) || is_q (filter (λ n. not (h n)) xs)) (same_name x q e)
      pick false e =
          skip (h x)
          ∙ ap (λ u. (not (h x) && u) || is_q (filter (λ n. not (h n)) xs)) e
          ∙ ap (λ t. t || is_q (filter (λ n. not (h n)) xs)) (never (h x) ∙ sym (never (h q)))
          ∙ ap (λ u. (not (h q) && u) || is_q (filter (λ n. not (h n)) xs)) (sym e)

  -- a name is new if it was not there and a name is that becomes it
  pub fresh-names : (ks : List (List ℕ)) → is_q (fresh ks) ≡ (not (h q) && (begins_with to q && list_any (λ n. bytes_eq n (renamed to from q)) ks))
  fresh-names [] = none (not (h q)) (begins_with to q)
    where
      none : (t u : Bool) → false ≡ (t && (u && false))
      none true true = refl
      none true false = refl
      none false u = refl
  fresh-names (k ∷ ks) = go (begins_with from k) refl (fresh-names ks)
    where
      both : (t b u v : Bool) → ((t && (b && u)) || (t && (b && v))) ≡ (t && (b && (u || v)))
      both true true true v = refl
      both true true false v = refl
      both true false u v = refl
      both false b u v = refl

      go : (t : Bool) → begins_with from k ≡ t → is_q (fresh ks) ≡ (not (h q) && (begins_with to q && list_any (λ n. bytes_eq n (renamed to from q)) ks))
          → is_q (filter (λ n. not (h n)) (map (renamed from to) (cond t (k ∷ filter (begins_with from) ks) (filter (begins_with from) ks))))
          ≡ (not (h q) && (begins_with to q && (bytes_eq k (renamed to from q) || list_any (λ n. bytes_eq n (renamed to from q)) ks)))
      go true begins deeper =
          head-new (renamed from to k) (map (renamed from to) (filter (begins_with from) ks))
          ∙ ap (λ u. (not (h q) && u) || is_q (fresh ks)) (renamed_to from to k q begins)
          ∙ ap (λ u. (not (h q) && (begins_with to q && bytes_eq k (renamed to from q))) || u) deeper
          ∙ both (not (h q)) (begins_with to q) (bytes_eq k (renamed to from q)) (list_any (λ n. bytes_eq n (renamed to from q)) ks)
      go false other deeper =
          deeper
          ∙ ap (λ u. not (h q) && (begins_with to q && (u || list_any (λ n. bytes_eq n (renamed to from q)) ks))) (sym (other_name from to k q other))

pub copied-names : (set : Names) (from to q : List ℕ) → (is_one_of (new_copies set from to (names_under set from)) q || has_name set q)
    ≡ ((begins_with to q && has_name set (renamed to from q)) || has_name set q)
copied-names set from to q =
    ap (λ t. t || has_name set q)
    (fresh-names (has_name set) from to q set.names.keys
    ∙ ap (λ t. not (has_name set q) && (begins_with to q && t)) (any_same from (renamed to from q) set.names.keys))
    ∙ either (has_name set q) (begins_with to q && has_name set (renamed to from q))
  where
    either : (h x : Bool) → ((not h && x) || h) ≡ (x || h)
    either true true = refl
    either true false = refl
    either false true = refl
    either false false = refl
