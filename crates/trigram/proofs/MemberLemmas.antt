-- Membership in sets of texts: what union, joining and cutting keep.
use Rattle.std.proofs.Common.{◌≡◌, ℕ, zero, suc, ◌-◌, ◌<◌, Bool, true, false, not, cond, nat_lt, IsTrue, List, [], ◌∷◌, ◌++◌, length, map}
use Rattle.std.proofs.Common.{filter, take, drop, refl, sym, ap, subst, ◌∙◌, arith, ◌⊎◌, inl, inr, ⊎_elim}
use Rattle.std.specs.List.{list_any, flat_map}
use Rattle.std.specs.Str.{bytes_eq}
use Rattle.std.proofs.lemmas.Bool.{or_cases, or_left, or_right, and_parts, false≢true, true≢false}
use Rattle.std.proofs.lemmas.Bool.Decides.{nat_tests}
use Rattle.std.proofs.lemmas.Slice.Eq.{bytes_eq-Decides}
use Rattle.std.proofs.lemmas.List.{append_assoc, append-nil, take-append-drop}
use Rattle.trigram.specs.Texts.{Texts, Cut, has_text, with_text, with_texts, distinct, union, joins, ending, cuts, kept_bytes}
use Rattle.trigram.specs.Texts.{is_shorter_end, has_shorter_end, shortest, kept_ends}

-- The text is one of the set.
abbrev pub IsIn : List ℕ → Texts → Type 0
IsIn word [] = ⊥
IsIn word (text ∷ texts) = (text ≡ word) ⊎ IsIn word texts

pub IsIn-has_text : (texts : Texts) (word : List ℕ) → IsTrue (has_text texts word) → IsIn word texts
IsIn-has_text [] word h = absurd (false≢true h)
IsIn-has_text (text ∷ texts) word h =
    ⊎_elim (λ same. inl ((bytes_eq-Decides text word).0 same)) (λ later. inr (IsIn-has_text texts word later))
    (or_cases (bytes_eq text word) (has_text texts word) h)

pub has_text-IsIn : (texts : Texts) (word : List ℕ) → IsIn word texts → IsTrue (has_text texts word)
has_text-IsIn [] word h = absurd h
has_text-IsIn (text ∷ texts) word h =
    ⊎_elim (λ same. or_left (bytes_eq text word) (has_text texts word) ((bytes_eq-Decides text word).1 same))
    (λ later. or_right (bytes_eq text word) (has_text texts word) (has_text-IsIn texts word later)) h

pub IsIn-append_left : (left right : Texts) (word : List ℕ) → IsIn word left → IsIn word (left ++ right)
IsIn-append_left [] right word h = absurd h
IsIn-append_left (text ∷ left) right word h = ⊎_elim inl (λ later. inr (IsIn-append_left left right word later)) h

pub IsIn-append_right : (left right : Texts) (word : List ℕ) → IsIn word right → IsIn word (left ++ right)
IsIn-append_right [] right word h = h
IsIn-append_right (text ∷ left) right word h = inr (IsIn-append_right left right word h)

pub IsIn-append_cases : (left right : Texts) (word : List ℕ) → IsIn word (left ++ right) → IsIn word left ⊎ IsIn word right
IsIn-append_cases [] right word h = inr h
IsIn-append_cases (text ∷ left) right word h =
    ⊎_elim (λ same. inl (inl same)) (λ later. ⊎_elim (λ l. inl (inr l)) inr (IsIn-append_cases left right word later)) h

with_text_stays : (texts : Texts) (text word : List ℕ) → IsIn word texts → IsIn word (with_text texts text)
with_text_stays texts text word h = go (has_text texts text)
  where
    go : (b : Bool) → IsIn word (cond b texts (texts ++ text ∷ []))
    go true = h
    go false = IsIn-append_left texts (text ∷ []) word h

with_text_has : (texts : Texts) (text : List ℕ) → IsIn text (with_text texts text)
with_text_has texts text = go (has_text texts text) refl
  where
    go : (b : Bool) → has_text texts text ≡ b → IsIn text (cond b texts (texts ++ text ∷ []))
    go true e = IsIn-has_text texts text e
    go false e = IsIn-append_right texts (text ∷ []) text (inl refl)

with_text_cases : (texts : Texts) (text word : List ℕ) → IsIn word (with_text texts text) → IsIn word texts ⊎ (text ≡ word)
with_text_cases texts text word h = go (has_text texts text) h
  where
    go : (b : Bool) → IsIn word (cond b texts (texts ++ text ∷ [])) → IsIn word texts ⊎ (text ≡ word)
    go true i = inl i
    go false i = ⊎_elim inl (λ last. ⊎_elim inr (λ none. absurd none) last) (IsIn-append_cases texts (text ∷ []) word i)

with_texts_stays : (texts others : Texts) (word : List ℕ) → IsIn word texts → IsIn word (with_texts texts others)
unfolding with_texts
with_texts_stays texts [] word h = h
with_texts_stays texts (text ∷ others) word h = with_texts_stays (with_text texts text) others word (with_text_stays texts text word h)

with_texts_has : (texts others : Texts) (word : List ℕ) → IsIn word others → IsIn word (with_texts texts others)
unfolding with_texts
with_texts_has texts [] word h = absurd h
with_texts_has texts (text ∷ others) word h =
    ⊎_elim (λ same.
    with_texts_stays (with_text texts text) others word (subst (λ w. IsIn w (with_text texts text)) same (with_text_has texts text)))
    (λ later. with_texts_has (with_text texts text) others word later) h

with_texts_cases : (texts others : Texts) (word : List ℕ) → IsIn word (with_texts texts others) → IsIn word texts ⊎ IsIn word others
unfolding with_texts
with_texts_cases texts [] word h = inl h
with_texts_cases texts (text ∷ others) word h =
    ⊎_elim (λ one. ⊎_elim inl (λ same. inr (inl same)) (with_text_cases texts text word one)) (λ later. inr (inr later))
    (with_texts_cases (with_text texts text) others word h)

pub IsIn-distinct : (texts : Texts) (word : List ℕ) → IsIn word texts → IsIn word (distinct texts)
IsIn-distinct texts word h = with_texts_has [] texts word h

pub IsIn-from_distinct : (texts : Texts) (word : List ℕ) → IsIn word (distinct texts) → IsIn word texts
IsIn-from_distinct texts word h = ⊎_elim (λ none. absurd none) (λ i. i) (with_texts_cases [] texts word h)

pub IsIn-union_left : (left right : Texts) (word : List ℕ) → IsIn word left → IsIn word (union left right)
IsIn-union_left left right word h = IsIn-distinct (left ++ right) word (IsIn-append_left left right word h)

pub IsIn-union_right : (left right : Texts) (word : List ℕ) → IsIn word right → IsIn word (union left right)
IsIn-union_right left right word h = IsIn-distinct (left ++ right) word (IsIn-append_right left right word h)

pub IsIn-union_cases : (left right : Texts) (word : List ℕ) → IsIn word (union left right) → IsIn word left ⊎ IsIn word right
IsIn-union_cases left right word h = IsIn-append_cases left right word (IsIn-from_distinct (left ++ right) word h)

pub IsIn-map : (f : List ℕ → List ℕ) (texts : Texts) (text : List ℕ) → IsIn text texts → IsIn (f text) (map f texts)
IsIn-map f [] text h = absurd h
IsIn-map f (t ∷ texts) text h = ⊎_elim (λ same. inl (ap f same)) (λ later. inr (IsIn-map f texts text later)) h

pub IsIn-from_map : (f : List ℕ → List ℕ) (texts : Texts) (word : List ℕ) → IsIn word (map f texts) → (text : List ℕ) × IsIn text texts × (word ≡ f text)
IsIn-from_map f [] word h = absurd h
IsIn-from_map f (t ∷ texts) word h = ⊎_elim (λ same. (t, inl refl, sym same)) (λ later. let r = IsIn-from_map f texts word later in (r.0, inr r.1, r.2)) h

all_joins : Texts → Texts → Texts
all_joins left right = flat_map (λ prefix. map (λ suffix. prefix ++ suffix) right) left

IsIn-all_joins : (left right : Texts) (prefix suffix : List ℕ) → IsIn prefix left → IsIn suffix right → IsIn (prefix ++ suffix) (all_joins left right)
unfolding all_joins
IsIn-all_joins [] right prefix suffix l r = absurd l
IsIn-all_joins (text ∷ left) right prefix suffix l r =
    ⊎_elim
    (λ same.
    IsIn-append_left (map (λ b. text ++ b) right) (all_joins left right) (prefix ++ suffix)
    (subst (λ t. IsIn (t ++ suffix) (map (λ b. text ++ b) right)) same (IsIn-map (λ b. text ++ b) right suffix r)))
    (λ later. IsIn-append_right (map (λ b. text ++ b) right) (all_joins left right) (prefix ++ suffix) (IsIn-all_joins left right prefix suffix later r))
    l

IsIn-from_all_joins : (left right : Texts) (word : List ℕ) → IsIn word (all_joins left right)
    → (prefix suffix : List ℕ) × (word ≡ prefix ++ suffix) × IsIn prefix left × IsIn suffix right
unfolding all_joins
IsIn-from_all_joins [] right word h = absurd h
IsIn-from_all_joins (text ∷ left) right word h =
    ⊎_elim
    (λ first. let r = IsIn-from_map (λ b. text ++ b) right word first in (text, r.0, r.2, inl refl, r.1))
    (λ later. let r = IsIn-from_all_joins left right word later in (r.0, r.1, r.2, inr r.3, r.4))
    (IsIn-append_cases (map (λ b. text ++ b) right) (all_joins left right) word h)

pub IsIn-joins : (left right : Texts) (prefix suffix : List ℕ) → IsIn prefix left → IsIn suffix right → IsIn (prefix ++ suffix) (joins left right)
unfolding all_joins
IsIn-joins left right prefix suffix l r = IsIn-distinct (all_joins left right) (prefix ++ suffix) (IsIn-all_joins left right prefix suffix l r)

pub IsIn-from_joins : (left right : Texts) (word : List ℕ) → IsIn word (joins left right)
    → (prefix suffix : List ℕ) × (word ≡ prefix ++ suffix) × IsIn prefix left × IsIn suffix right
unfolding all_joins
IsIn-from_joins left right word h = IsIn-from_all_joins left right word (IsIn-from_distinct (all_joins left right) word h)

pub list_any-IsIn : (test : List ℕ → Bool) (texts : Texts) (text : List ℕ) → IsIn text texts → test text ≡ true → list_any test texts ≡ true
list_any-IsIn test [] text h e = absurd h
list_any-IsIn test (t ∷ texts) text h e =
    ⊎_elim (λ same. or_left (test t) (list_any test texts) (ap test same ∙ e))
    (λ later. or_right (test t) (list_any test texts) (list_any-IsIn test texts text later e)) h

pub IsIn-list_any : (test : List ℕ → Bool) (texts : Texts) → list_any test texts ≡ true → (text : List ℕ) × IsIn text texts × (test text ≡ true)
IsIn-list_any test [] e = absurd (false≢true e)
IsIn-list_any test (t ∷ texts) e =
    ⊎_elim (λ here. (t, inl refl, here)) (λ later. let r = IsIn-list_any test texts later in (r.0, inr r.1, r.2))
    (or_cases (test t) (list_any test texts) e)

IsIn-filter : (test : List ℕ → Bool) (texts : Texts) (text : List ℕ) → IsIn text texts → test text ≡ true → IsIn text (filter test texts)
IsIn-filter test [] text h e = absurd h
IsIn-filter test (t ∷ texts) text h e = filtered test t texts text e (test t) refl (⊎_elim inl (λ later. inr (IsIn-filter test texts text later e)) h)
  where
    filtered : (test : List ℕ → Bool) (t : List ℕ) (texts : Texts) (text : List ℕ) → test text ≡ true → (b : Bool) → test t ≡ b
        → (t ≡ text) ⊎ IsIn text (filter test texts) → IsIn text (cond b (t ∷ filter test texts) (filter test texts))
    filtered test t texts text e true is i = i
    filtered test t texts text e false is i = ⊎_elim (λ same. absurd (true≢false (sym e ∙ ap test (sym same) ∙ is))) (λ later. later) i

-- Each text has an end among those that are kept, for each way to cut ends.
module _ (cut : Cut) (IsEnd : List ℕ → List ℕ → Type 0) (itself : (t : List ℕ) → IsEnd t t)
    (within : (a b c : List ℕ) → IsEnd a b → IsEnd b c → IsEnd a c) (is_end : (k : ℕ) (t : List ℕ) → IsEnd (cut k t) t) where
  end_of_shorter : (part text : List ℕ) → IsTrue (is_shorter_end cut part text) → IsEnd part text
  end_of_shorter part text h =
      let parts = and_parts (nat_lt (length part) (length text)) (bytes_eq (cut (length part) text) part) h in
      subst (λ p. IsEnd p text) ((bytes_eq-Decides (cut (length part) text) part).0 parts.1) (is_end (length part) text)

  shorter : (part text : List ℕ) → IsTrue (is_shorter_end cut part text) → length part < length text
  shorter part text h =
      let parts = and_parts (nat_lt (length part) (length text)) (bytes_eq (cut (length part) text) part) h in
      let lt : nat_lt (length part) (length text) ≡ true = parts.0 in
      grind (arith, nat_tests)

  shortest_end : (texts : Texts) (fuel : ℕ) (text : List ℕ) → length text < fuel → IsIn text texts
      → (end : List ℕ) × IsIn end (shortest cut texts) × IsEnd end text
  shortest_end texts zero text below h = absurd (omega arith)
  shortest_end texts (suc fuel) text below h = go (shortest_end texts fuel) (has_shorter_end cut texts text) refl
    where
      go : ((t : List ℕ) → length t < fuel → IsIn t texts → (end : List ℕ) × IsIn end (shortest cut texts) × IsEnd end t) → (b : Bool)
          → has_shorter_end cut texts text ≡ b → (end : List ℕ) × IsIn end (shortest cut texts) × IsEnd end text
      go again false e = (text, IsIn-filter (λ t. not (has_shorter_end cut texts t)) texts text h (ap not e), itself text)
      go again true e =
          let found = IsIn-list_any (λ part. is_shorter_end cut part text) texts e in
          let less = shorter found.0 text found.2 in
          let r = again found.0 (omega arith) found.1 in
          (r.0, r.1, within r.0 found.0 text r.2 (end_of_shorter found.0 text found.2))

  pub kept_end : (texts : Texts) (text : List ℕ) → IsIn text texts → (end : List ℕ) × IsIn end (kept_ends cut texts) × IsEnd end text
  kept_end texts text h =
      let k = kept_bytes cut texts in
      let there = IsIn-distinct (map (cut k) texts) (cut k text) (IsIn-map (cut k) texts text h) in
      let r = shortest_end (cuts cut k texts) (suc (length (cut k text))) (cut k text) (omega arith) there in
      (r.0, r.1, within r.0 (cut k text) text r.2 (is_end k text))

-- One text is a prefix of the other, or a suffix of it.
abbrev pub IsPrefix : List ℕ → List ℕ → Type 0
IsPrefix prefix text = (rest : List ℕ) × (text ≡ prefix ++ rest)

abbrev pub IsSuffix : List ℕ → List ℕ → Type 0
IsSuffix suffix text = (rest : List ℕ) × (text ≡ rest ++ suffix)

pub IsPrefix-trans : (a b c : List ℕ) → IsPrefix a b → IsPrefix b c → IsPrefix a c
IsPrefix-trans a b c h k = (h.0 ++ k.0, k.1 ∙ ap (λ t. t ++ k.0) h.1 ∙ append_assoc a h.0 k.0)

pub IsSuffix-trans : (a b c : List ℕ) → IsSuffix a b → IsSuffix b c → IsSuffix a c
IsSuffix-trans a b c h k = (k.0 ++ h.0, k.1 ∙ ap (λ t. k.0 ++ t) h.1 ∙ sym (append_assoc k.0 h.0 a))

pub kept_prefix : (texts : Texts) (text : List ℕ) → IsIn text texts → (end : List ℕ) × IsIn end (kept_ends take texts) × IsPrefix end text
kept_prefix texts text h = kept_end take IsPrefix (λ t. ([], sym (append-nil t))) IsPrefix-trans (λ k t. (drop k t, sym (take-append-drop k t))) texts text h

pub kept_suffix : (texts : Texts) (text : List ℕ) → IsIn text texts → (end : List ℕ) × IsIn end (kept_ends ending texts) × IsSuffix end text
kept_suffix texts text h =
    kept_end ending IsSuffix (λ t. ([], refl)) IsSuffix-trans (λ k t. (take (length t - k) t, sym (take-append-drop (length t - k) t))) texts
    text h
