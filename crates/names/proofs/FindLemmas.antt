-- What is found under a name.
use Rattle.std.proofs.Common.{◌≡◌, ℕ, ◌+◌, ◌<◌, ◌≤◌, ◌||◌, Bool, true, false, cond, List, [], ◌∷◌, ◌++◌, map, length, take, drop, get_or, Some, None, refl, sym, ◌∙◌, ap, subst, append_assoc}
use Rattle.std.specs.Ordering.{nat_cmp, is_eq, is_lt, is_le, ordering_reverse}
use Rattle.std.specs.Cmp.Lexicographic.{slice_cmp, nat_list_cmp_total}
use Rattle.std.specs.FinMap.{find, is_sorted}
use Rattle.std.specs.declared.cmp.Ordering.{Ordering}
use Rattle.std.specs.declared.cmp.Ordering.TheVariants.{Less, Equal, Greater}
use Rattle.std.proofs.lemmas.Bool.{true≢false, false≢true}
use Rattle.std.proofs.lemmas.List.{take-append-drop, drop_more, take_all, append-nil}
use Rattle.names.specs.declared.edge.Edge.TheVariants.{Before, After, AfterUnder}
use Rattle.names.specs.Private.Entries.{Entry, joined, passes, AllPass, NonePass, Falls, CutsAt, OpensAt}
use Rattle.names.proofs.OrderLemmas.{is_less, falls, or_second}
use Rattle.prefixes.specs.Under.{begins_with}
use Rattle.prefixes.proofs.UnderLemmas.{begins_le}
use Rattle.std.specs.List.{list_any}
use Rattle.names.proofs.PartLemmas.{joined_at, fails_from, falls_second}

other_way : (q x : List ℕ) (o : Ordering) → slice_cmp nat_cmp x q ≡ o → slice_cmp nat_cmp q x ≡ ordering_reverse o
other_way q x o is = nat_list_cmp_total.antisymm q x ∙ ap ordering_reverse is

find_behind : (q : List ℕ) (xs ys : List Entry) → AllPass (passes Before q) xs → find (slice_cmp nat_cmp) q (xs ++ ys) ≡ find (slice_cmp nat_cmp) q ys
find_behind q [] ys all = refl
find_behind q (x ∷ xs) ys all =
    ap (λ o. cond (is_eq o) (Some x.1) (find (slice_cmp nat_cmp) q (xs ++ ys))) (other_way q x.0 Less (is_less (slice_cmp nat_cmp x.0 q) all.0))
    ∙ find_behind q xs ys all.1

is_greater : (o : Ordering) → is_le o ≡ false → o ≡ Greater
is_greater Less e = absurd (true≢false e)
is_greater Equal e = absurd (true≢false e)
is_greater Greater e = refl

find_none : (q : List ℕ) (ys : List Entry) → NonePass (passes After q) ys → find (slice_cmp nat_cmp) q ys ≡ None
find_none q [] none = refl
find_none q (y ∷ ys) none =
    ap (λ o. cond (is_eq o) (Some y.1) (find (slice_cmp nat_cmp) q ys)) (other_way q y.0 Greater (is_greater (slice_cmp nat_cmp y.0 q) none.0))
    ∙ find_none q ys none.1

all_append : (p : Entry → Bool) (xs ys : List Entry) → AllPass p xs → AllPass p ys → AllPass p (xs ++ ys)
all_append p [] ys one two = two
all_append p (x ∷ xs) ys one two = (one.0, all_append p xs ys one.1 two)

-- the entries, parted at a place of a chunk
parted_at : (cs : List (List Entry)) (open_at at : ℕ) (chunk : List Entry) (e : Entry) (d : List Entry) → open_at < length cs → get_or cs open_at d ≡ chunk
    → at < length chunk → get_or chunk at e ≡ e
    → joined cs ≡ (joined (take open_at cs) ++ take at chunk) ++ e ∷ (drop (at + 1) chunk ++ joined (drop (open_at + 1) cs))
parted_at cs open_at at chunk e d inside is within is_e =
    let before = joined (take open_at cs) in
    let behind = joined (drop (open_at + 1) cs) in
    joined_at cs open_at d inside
    ∙ (ap (λ c. before ++ (c ++ behind)) (is ∙ (sym (take-append-drop at chunk)
    ∙ (ap (λ rest. take at chunk ++ rest) (drop_more chunk at e within) ∙ ap (λ x. take at chunk ++ x ∷ drop (at + 1) chunk) is_e)))
    ∙ (ap (λ rest. before ++ rest) (append_assoc (take at chunk) (e ∷ drop (at + 1) chunk) behind)
    ∙ sym (append_assoc before (take at chunk) (e ∷ (drop (at + 1) chunk ++ behind)))))

module _ (cs : List (List Entry)) (name : List ℕ) (open_at at : ℕ) (chunk : List Entry) (e : Entry) (d : List Entry) (inside : open_at < length cs)
    (is : get_or cs open_at d ≡ chunk) (within : at < length chunk) (is_e : get_or chunk at e ≡ e) (opens : OpensAt (passes Before name) cs open_at)
    (cuts : CutsAt (passes Before name) chunk at) where
  before_it : AllPass (passes Before name) (joined (take open_at cs) ++ take at chunk)
  before_it = all_append (passes Before name) (joined (take open_at cs)) (take at chunk) opens.before cuts.before

  from_it : find (slice_cmp nat_cmp) name (joined cs) ≡ find (slice_cmp nat_cmp) name (e ∷ (drop (at + 1) chunk ++ joined (drop (open_at + 1) cs)))
  from_it =
      ap (find (slice_cmp nat_cmp) name) (parted_at cs open_at at chunk e d inside is within is_e)
      ∙ find_behind name (joined (take open_at cs) ++ take at chunk) (e ∷ (drop (at + 1) chunk ++ joined (drop (open_at + 1) cs))) before_it

  pub found_there : slice_cmp nat_cmp e.0 name ≡ Equal → Some e.1 ≡ find (slice_cmp nat_cmp) name (joined cs)
  found_there tie =
      sym (from_it ∙ ap (λ o. cond (is_eq o) (Some e.1) (find (slice_cmp nat_cmp) name (drop (at + 1) chunk ++ joined (drop (open_at + 1) cs)))) (other_way name e.0 Equal tie))

  not_before : passes Before name e ≡ false
  not_before =
      let none : NonePass (passes Before name) (get_or chunk at e ∷ drop (at + 1) chunk) =
      subst (NonePass (passes Before name)) (drop_more chunk at e within) cuts.behind in
      ap (passes Before name) (sym is_e) ∙ none.0

  not_after : (is_eq (slice_cmp nat_cmp e.0 name) ≡ false) → passes After name e ≡ false
  not_after apart = go (slice_cmp nat_cmp e.0 name) not_before apart
    where
      go : (o : Ordering) → is_lt o ≡ false → is_eq o ≡ false → is_le o ≡ false
      go Less low tie = absurd (true≢false low)
      go Equal low tie = absurd (true≢false tie)
      go Greater low tie = refl

  pub found_none : is_sorted (slice_cmp nat_cmp) (joined cs) ≡ true → is_eq (slice_cmp nat_cmp e.0 name) ≡ false → None ≡ find (slice_cmp nat_cmp) name (joined cs)
  found_none rise apart =
      let rest = drop (at + 1) chunk ++ joined (drop (open_at + 1) cs) in
      let later : NonePass (passes After name) rest =
      fails_from (passes After name) (joined (take open_at cs) ++ take at chunk) e rest
      (subst (Falls (passes After name)) (parted_at cs open_at at chunk e d inside is within is_e) (falls After name (joined cs) rise)) (not_after apart) in
      sym (from_it ∙ find_none name (e ∷ rest) (not_after apart, later))

pub found_nowhere : (cs : List (List Entry)) (name : List ℕ) (open_at : ℕ) → OpensAt (passes Before name) cs open_at → length cs ≤ open_at
    → None ≡ find (slice_cmp nat_cmp) name (joined cs)
found_nowhere cs name open_at opens all =
    sym (ap (λ es. find (slice_cmp nat_cmp) name es) (whole ∙ sym (append-nil (joined (take open_at cs)))) ∙ find_behind name (joined (take open_at cs)) [] opens.before)
  where
    whole : joined cs ≡ joined (take open_at cs)
    whole = ap joined (sym (take_all open_at cs all))

-- ---- names that begin with a text

-- a name below the text does not begin with it
below_apart : (text : List ℕ) (x : Entry) → passes Before text x ≡ true → begins_with text x.0 ≡ false
below_apart text x low = go (begins_with text x.0) refl
  where
    never : (o : Ordering) → is_le (ordering_reverse o) ≡ true → is_lt o ≡ true → ⊥
    never Less up down = false≢true up
    never Equal up down = false≢true down
    never Greater up down = false≢true down

    go : (t : Bool) → begins_with text x.0 ≡ t → t ≡ false
    go false is = refl
    go true is = absurd (never (slice_cmp nat_cmp x.0 text) (ap is_le (sym (nat_list_cmp_total.antisymm text x.0)) ∙ begins_le text x.0 is) low)

any_behind : (text : List ℕ) (xs ys : List Entry) → AllPass (passes Before text) xs
    → list_any (begins_with text) (map (λ e. e.0) (xs ++ ys)) ≡ list_any (begins_with text) (map (λ e. e.0) ys)
any_behind text [] ys all = refl
any_behind text (x ∷ xs) ys all =
    ap (λ t. t || list_any (begins_with text) (map (λ e. e.0) (xs ++ ys))) (below_apart text x all.0) ∙ any_behind text xs ys all.1

any_none : (text : List ℕ) (ys : List Entry) → NonePass (passes AfterUnder text) ys → list_any (begins_with text) (map (λ e. e.0) ys) ≡ false
any_none text [] none = refl
any_none text (y ∷ ys) none =
    ap (λ t. t || list_any (begins_with text) (map (λ e. e.0) ys)) (or_second (is_lt (slice_cmp nat_cmp y.0 text)) (begins_with text y.0) none.0)
    ∙ any_none text ys none.1

any_first : (text : List ℕ) (e : Entry) (ys : List Entry) (answer : Bool) → passes Before text e ≡ false → answer ≡ begins_with text e.0
    → Falls (passes AfterUnder text) (e ∷ ys) → answer ≡ list_any (begins_with text) (map (λ e. e.0) (e ∷ ys))
any_first text e ys true low is fall = ap (λ t. t || list_any (begins_with text) (map (λ e. e.0) ys)) is
any_first text e ys false low is fall =
    let over : passes AfterUnder text e ≡ false = ap (λ t. t || begins_with text e.0) low ∙ sym is in
    sym (ap (λ t. t || list_any (begins_with text) (map (λ e. e.0) ys)) (sym is) ∙ any_none text ys (fall.0 over))

pub under_there : (cs : List (List Entry)) (text : List ℕ) (open_at at : ℕ) (chunk : List Entry) (e : Entry) (d : List Entry) (answer : Bool)
    → open_at < length cs → get_or cs open_at d ≡ chunk → at < length chunk → get_or chunk at e ≡ e → OpensAt (passes Before text) cs open_at
    → CutsAt (passes Before text) chunk at → is_sorted (slice_cmp nat_cmp) (joined cs) ≡ true → answer ≡ begins_with text e.0
    → answer ≡ list_any (begins_with text) (map (λ e. e.0) (joined cs))
under_there cs text open_at at chunk e d answer inside is within is_e opens cuts rise answer_is =
    let before = joined (take open_at cs) ++ take at chunk in
    let rest = drop (at + 1) chunk ++ joined (drop (open_at + 1) cs) in
    let parts : joined cs ≡ before ++ e ∷ rest = parted_at cs open_at at chunk e d inside is within is_e in
    let fall : Falls (passes AfterUnder text) (e ∷ rest) =
    falls_second (passes AfterUnder text) before (e ∷ rest) (subst (Falls (passes AfterUnder text)) parts (falls AfterUnder text (joined cs) rise)) in
    any_first text e rest answer (not_before cs text open_at at chunk e d inside is within is_e opens cuts) answer_is fall
    ∙ sym (ap (λ es. list_any (begins_with text) (map (λ e. e.0) es)) parts
    ∙ any_behind text before (e ∷ rest) (before_it cs text open_at at chunk e d inside is within is_e opens cuts))

pub under_nowhere : (cs : List (List Entry)) (text : List ℕ) (open_at : ℕ) → OpensAt (passes Before text) cs open_at → length cs ≤ open_at
    → false ≡ list_any (begins_with text) (map (λ e. e.0) (joined cs))
under_nowhere cs text open_at opens all =
    sym (ap (λ es. list_any (begins_with text) (map (λ e. e.0) es)) (whole ∙ sym (append-nil (joined (take open_at cs))))
    ∙ any_behind text (joined (take open_at cs)) [] opens.before)
  where
    whole : joined cs ≡ joined (take open_at cs)
    whole = ap joined (sym (take_all open_at cs all))
