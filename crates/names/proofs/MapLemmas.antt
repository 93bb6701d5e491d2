-- What a map has once names are put or taken out, by the edges of the names.
use Rattle.std.proofs.Common.{◌≡◌, ℕ, ◌||◌, not, Bool, true, false, cond, List, [], ◌∷◌, ◌++◌, map, length, None, refl, sym, ◌∙◌, ap, subst}
use Rattle.std.specs.Prelude.{filter, T, Option}
use Rattle.std.specs.Ordering.{nat_cmp, is_eq, is_lt, is_le, eq_by_cmp, ordering_reverse}
use Rattle.std.specs.Cmp.Lexicographic.{slice_cmp, nat_list_cmp_total}
use Rattle.std.specs.FinMap.{entries, entries-from_sorted, entries-insert, same_entries_map, from_sorted, insert, remove, retain_keys, get, get-from_sorted, get-retain_keys, get-remove, same_map, find, keys, empty, empty_of_len, len, len-entries, put, is_sorted, slice_cmp-IsAntisymmetric, nat_cmp-IsAntisymmetric}
use Rattle.std.specs.FinMap.Entries.{below_all, by_order, is_sorted-put, is_sorted-where_key, find-where_key}
use Rattle.std.specs.Cmp.{eq_by_cmp_equiv}
use Rattle.std.specs.declared.cmp.Ordering.{Ordering}
use Rattle.std.specs.declared.cmp.Ordering.TheVariants.{Less, Equal, Greater}
use Rattle.std.proofs.lemmas.Bool.{false≢true, true≢false}
use Rattle.std.proofs.lemmas.List.Elements.{filter_agree}
use Rattle.std.specs.List.{list_any}
use Rattle.prefixes.specs.Under.{begins_with}
use Rattle.prefixes.proofs.UnderLemmas.{begins_le}
use Rattle.names.specs.declared.content.Content.{Content}
use Rattle.names.specs.declared.edge.Edge.TheVariants.{Before, After, AfterUnder}
use Rattle.names.specs.Contents.{Contents, body_bytes}
use Rattle.names.specs.Private.Entries.{Entry, entries_bytes, passes, lies_behind, NonePass, Falls}
use Rattle.names.proofs.OrderLemmas.{and_first, and_second, is_less, none_later, falls}
use Rattle.names.proofs.PartLemmas.{filter_none, others_all}

-- ---- two tests, of which the second passes more

parted : (p q : Entry → Bool) (es : List Entry) → Falls p es → ((e : Entry) → p e ≡ true → q e ≡ true)
    → filter (λ e. p e || not (q e)) es ≡ filter p es ++ filter (λ e. not (q e)) es
parted p q [] fall more = refl
parted p q (e ∷ es) fall more = go (p e) refl (q e) refl (parted p q es fall.1 more)
  where
    go : (t : Bool) → p e ≡ t → (u : Bool) → q e ≡ u → filter (λ e. p e || not (q e)) es ≡ filter p es ++ filter (λ e. not (q e)) es
        → cond (t || not u) (e ∷ filter (λ e. p e || not (q e)) es) (filter (λ e. p e || not (q e)) es)
        ≡ cond t (e ∷ filter p es) (filter p es) ++ cond (not u) (e ∷ filter (λ e. not (q e)) es) (filter (λ e. not (q e)) es)
    go true is true other rest = ap (λ later. e ∷ later) rest
    go true is false other rest = absurd (true≢false (sym (more e is) ∙ other))
    go false is true other rest = rest
    go false is false other rest =
        let none : filter p es ≡ [] = filter_none p es (fall.0 is) in
        ap (λ later. e ∷ later) (rest ∙ ap (λ first. first ++ filter (λ e. not (q e)) es) none)
        ∙ ap (λ first. first ++ e ∷ filter (λ e. not (q e)) es) (sym none)

-- ---- put

pub turned : (k x : List ℕ) (o : Ordering) → slice_cmp nat_cmp k x ≡ o → slice_cmp nat_cmp x k ≡ ordering_reverse o
turned k x o is = nat_list_cmp_total.antisymm x k ∙ ap ordering_reverse is

pub above_after : (k : List ℕ) (es : List Entry) → below_all (slice_cmp nat_cmp) k es ≡ true → NonePass (passes After k) es
above_after k [] above = tt
above_after k (e ∷ es) above = (
  ap is_le (turned k e.0 Less (is_less (slice_cmp nat_cmp k e.0) (and_first (is_lt (slice_cmp nat_cmp k e.0)) (below_all (slice_cmp nat_cmp) k es) above))),
  above_after k es (and_second (is_lt (slice_cmp nat_cmp k e.0)) (below_all (slice_cmp nat_cmp) k es) above),
)

pub same_name : (x y : List ℕ) → slice_cmp nat_cmp x y ≡ Equal → x ≡ y
same_name = slice_cmp-IsAntisymmetric nat_cmp-IsAntisymmetric

pub put_parts : (k : List ℕ) (c : Content) (es : List Entry) → is_sorted (slice_cmp nat_cmp) es ≡ true
    → filter (passes Before k) es ++ (k, c) ∷ filter (lies_behind After k) es ≡ put (slice_cmp nat_cmp) k c es
put_parts k c [] rise = refl
put_parts k c (e ∷ es) rise =
    ap (λ r. cond (is_lt r) (e ∷ filter (passes Before k) es) (filter (passes Before k) es)
    ++ (k, c) ∷ cond (not (is_le r)) (e ∷ filter (lies_behind After k) es) (filter (lies_behind After k) es)) (nat_list_cmp_total.antisymm e.0 k)
    ∙ step (slice_cmp nat_cmp k e.0) refl (put_parts k c es (and_second (below_all (slice_cmp nat_cmp) e.0 es) (is_sorted (slice_cmp nat_cmp) es) rise))
  where
    above : below_all (slice_cmp nat_cmp) e.0 es ≡ true
    above = and_first (below_all (slice_cmp nat_cmp) e.0 es) (is_sorted (slice_cmp nat_cmp) es) rise

    none_before : (o : Ordering) → slice_cmp nat_cmp k e.0 ≡ o → is_lt (ordering_reverse o) ≡ false → filter (passes Before k) es ≡ []
    none_before o is low = filter_none (passes Before k) es (none_later Before k e.0 es (ap is_lt (turned k e.0 o is) ∙ low) above)

    step : (o : Ordering) → slice_cmp nat_cmp k e.0 ≡ o → filter (passes Before k) es ++ (k, c) ∷ filter (lies_behind After k) es ≡ put (slice_cmp nat_cmp) k c es
        → cond (is_lt (ordering_reverse o)) (e ∷ filter (passes Before k) es) (filter (passes Before k) es)
        ++ (k, c) ∷ cond (not (is_le (ordering_reverse o))) (e ∷ filter (lies_behind After k) es) (filter (lies_behind After k) es)
        ≡ by_order o ((k, c) ∷ e ∷ es) ((e.0, c) ∷ es) (e ∷ put (slice_cmp nat_cmp) k c es)
    step Less is deeper =
        ap (λ first. first ++ (k, c) ∷ e ∷ filter (lies_behind After k) es) (none_before Less is refl)
        ∙ ap (λ later. (k, c) ∷ e ∷ later) (others_all (passes After k) es (none_later After k e.0 es (ap is_le (turned k e.0 Less is)) above))
    step Equal is deeper =
        let same : k ≡ e.0 = same_name k e.0 is in
        ap (λ first. first ++ (k, c) ∷ filter (lies_behind After k) es) (none_before Equal is refl)
        ∙ (ap (λ later. (k, c) ∷ later)
        (others_all (passes After k) es (subst (λ n. NonePass (passes After n) es) (sym same) (above_after e.0 es above)))
        ∙ ap (λ n. (n, c) ∷ es) same)
    step Greater is deeper = ap (λ later. e ∷ later) deeper

pub is_true : (t : Bool) → T t → t ≡ true
is_true true h = refl
is_true false h = absurd h

pub truth : (t : Bool) → t ≡ true → T t
truth t is = subst T (sym is) tt

pub put_rises : (k : List ℕ) (c : Content) (es : List Entry) → is_sorted (slice_cmp nat_cmp) es ≡ true
    → is_sorted (slice_cmp nat_cmp) (filter (passes Before k) es ++ (k, c) ∷ filter (lies_behind After k) es) ≡ true
put_rises k c es rise =
    ap (is_sorted (slice_cmp nat_cmp)) (put_parts k c es rise)
    ∙ is_true (is_sorted (slice_cmp nat_cmp) (put (slice_cmp nat_cmp) k c es)) (is_sorted-put (slice_cmp nat_cmp) nat_list_cmp_total k c es (truth (is_sorted (slice_cmp nat_cmp) es) rise))

-- the map of entries that rise
abbrev map_of : List Entry → Contents
map_of es = from_sorted es

pub entries_are : (es : List Entry) → is_sorted (slice_cmp nat_cmp) es ≡ true → entries (map_of es) ≡ es
entries_are es rise = entries-from_sorted (slice_cmp nat_cmp) es (truth (is_sorted (slice_cmp nat_cmp) es) rise)

pub put_map : (k : List ℕ) (c : Content) (es : List Entry) → is_sorted (slice_cmp nat_cmp) es ≡ true
    → map_of (filter (passes Before k) es ++ (k, c) ∷ filter (lies_behind After k) es) ≡ insert (map_of es) k c
put_map k c es rise =
    same_entries_map (map_of (filter (passes Before k) es ++ (k, c) ∷ filter (lies_behind After k) es)) (insert (map_of es) k c)
    (entries_are (filter (passes Before k) es ++ (k, c) ∷ filter (lies_behind After k) es) (put_rises k c es rise)
    ∙ (put_parts k c es rise
    ∙ sym (entries-insert nat_list_cmp_total (map_of es) k c ∙ ap (put (slice_cmp nat_cmp) k c) (entries_are es rise))))

-- ---- names that are kept

alike : (p : List ℕ → Bool) (q x : List ℕ) → slice_cmp nat_cmp q x ≡ Equal → p x ≡ p q
alike p q x tie = ap p (sym (same_name q x tie))

pub kept_rises : (p : List ℕ → Bool) (es : List Entry) → is_sorted (slice_cmp nat_cmp) es ≡ true → is_sorted (slice_cmp nat_cmp) (filter (λ e. p e.0) es) ≡ true
kept_rises p es rise =
    is_true (is_sorted (slice_cmp nat_cmp) (filter (λ e. p e.0) es))
    (is_sorted-where_key (slice_cmp nat_cmp) p es (truth (is_sorted (slice_cmp nat_cmp) es) rise))

get_kept : (p : List ℕ → Bool) (es : List Entry) (q : List ℕ) → is_sorted (slice_cmp nat_cmp) es ≡ true
    → get (map_of (filter (λ e. p e.0) es)) q ≡ cond (p q) (get (map_of es) q) None
get_kept p es q rise =
    get-from_sorted (slice_cmp nat_cmp) (filter (λ e. p e.0) es) q (truth (is_sorted (slice_cmp nat_cmp) (filter (λ e. p e.0) es)) (kept_rises p es rise))
    ∙ (find-where_key (slice_cmp nat_cmp) p q (alike p q) es
    ∙ ap (λ o. cond (p q) o None) (sym (get-from_sorted (slice_cmp nat_cmp) es q (truth (is_sorted (slice_cmp nat_cmp) es) rise))))

kept_map : (p : List ℕ → Bool) (es : List Entry) → is_sorted (slice_cmp nat_cmp) es ≡ true
    → map_of (filter (λ e. p e.0) es) ≡ retain_keys (map_of es) p
kept_map p es rise =
    same_map nat_list_cmp_total same_name (map_of (filter (λ e. p e.0) es)) (retain_keys (map_of es) p)
    (λ q. get_kept p es q rise ∙ sym (get-retain_keys (map_of es) p q (alike p q)))

kept_removed : (k : List ℕ) (es : List Entry) → is_sorted (slice_cmp nat_cmp) es ≡ true
    → map_of (filter (λ e. not (eq_by_cmp (slice_cmp nat_cmp) k e.0)) es) ≡ remove (map_of es) k
kept_removed k es rise =
    same_map nat_list_cmp_total same_name (map_of (filter (λ e. not (eq_by_cmp (slice_cmp nat_cmp) k e.0)) es)) (remove (map_of es) k)
    (λ q. get_kept (λ x. not (eq_by_cmp (slice_cmp nat_cmp) k x)) es q rise
    ∙ (swap (eq_by_cmp (slice_cmp nat_cmp) k q) (get (map_of es) q)
    ∙ (ap (λ t. cond t None (get (map_of es) q)) ((eq_by_cmp_equiv nat_list_cmp_total).symm k q)
    ∙ sym (get-remove nat_list_cmp_total (map_of es) k q))))
  where
    swap : (t : Bool) (o : Option Content) → cond (not t) o None ≡ cond t None o
    swap true o = refl
    swap false o = refl

-- ---- remove

not_both : (o : Ordering) → (is_lt o || not (is_le o)) ≡ not (is_eq (ordering_reverse o))
not_both Less = refl
not_both Equal = refl
not_both Greater = refl

apart : (k : List ℕ) (e : Entry) → (passes Before k e || not (passes After k e)) ≡ not (eq_by_cmp (slice_cmp nat_cmp) k e.0)
apart k e = not_both (slice_cmp nat_cmp e.0 k) ∙ ap (λ o. not (is_eq o)) (sym (nat_list_cmp_total.antisymm k e.0))

before_is_after : (k : List ℕ) (e : Entry) → passes Before k e ≡ true → passes After k e ≡ true
before_is_after k e = go (slice_cmp nat_cmp e.0 k)
  where
    go : (o : Ordering) → is_lt o ≡ true → is_le o ≡ true
    go Less h = refl
    go Equal h = absurd (false≢true h)
    go Greater h = h

remove_parts : (k : List ℕ) (es : List Entry) → is_sorted (slice_cmp nat_cmp) es ≡ true
    → filter (λ e. not (eq_by_cmp (slice_cmp nat_cmp) k e.0)) es ≡ filter (passes Before k) es ++ filter (lies_behind After k) es
remove_parts k es rise =
    filter_agree (λ e. not (eq_by_cmp (slice_cmp nat_cmp) k e.0)) (λ e. passes Before k e || not (passes After k e)) (λ e. sym (apart k e)) es
    ∙ parted (passes Before k) (passes After k) es (falls Before k es rise) (before_is_after k)

pub remove_rises : (k : List ℕ) (es : List Entry) → is_sorted (slice_cmp nat_cmp) es ≡ true
    → is_sorted (slice_cmp nat_cmp) (filter (passes Before k) es ++ filter (lies_behind After k) es) ≡ true
remove_rises k es rise =
    ap (is_sorted (slice_cmp nat_cmp)) (sym (remove_parts k es rise)) ∙ kept_rises (λ x. not (eq_by_cmp (slice_cmp nat_cmp) k x)) es rise

pub remove_map : (k : List ℕ) (es : List Entry) → is_sorted (slice_cmp nat_cmp) es ≡ true
    → map_of (filter (passes Before k) es ++ filter (lies_behind After k) es) ≡ remove (map_of es) k
remove_map k es rise = ap map_of (sym (remove_parts k es rise)) ∙ kept_removed k es rise

-- ---- remove_under

-- no name that begins with a text is below it
pub apart_under : (text : List ℕ) (e : Entry) → (passes Before text e || not (passes AfterUnder text e)) ≡ not (begins_with text e.0)
apart_under text e = go (begins_with text e.0) refl (is_lt (slice_cmp nat_cmp e.0 text)) refl
  where
    low_high : (o : Ordering) → is_le (ordering_reverse o) ≡ true → is_lt o ≡ true → ⊥
    low_high Less up low = false≢true up
    low_high Equal up low = false≢true low
    low_high Greater up low = false≢true low

    go : (t : Bool) → begins_with text e.0 ≡ t → (u : Bool) → is_lt (slice_cmp nat_cmp e.0 text) ≡ u → (u || not (u || t)) ≡ not t
    go true under true low =
        absurd (low_high (slice_cmp nat_cmp e.0 text) (ap is_le (sym (nat_list_cmp_total.antisymm text e.0)) ∙ begins_le text e.0 under) low)
    go true under false low = refl
    go false under true low = refl
    go false under false low = refl

before_is_under : (text : List ℕ) (e : Entry) → passes Before text e ≡ true → passes AfterUnder text e ≡ true
before_is_under text e low = ap (λ t. t || begins_with text e.0) low

under_parts : (text : List ℕ) (es : List Entry) → is_sorted (slice_cmp nat_cmp) es ≡ true
    → filter (λ e. not (begins_with text e.0)) es ≡ filter (passes Before text) es ++ filter (lies_behind AfterUnder text) es
under_parts text es rise =
    filter_agree (λ e. not (begins_with text e.0)) (λ e. passes Before text e || not (passes AfterUnder text e)) (λ e. sym (apart_under text e)) es
    ∙ parted (passes Before text) (passes AfterUnder text) es (falls Before text es rise) (before_is_under text)

pub remove_under_rises : (text : List ℕ) (es : List Entry) → is_sorted (slice_cmp nat_cmp) es ≡ true
    → is_sorted (slice_cmp nat_cmp) (filter (passes Before text) es ++ filter (lies_behind AfterUnder text) es) ≡ true
remove_under_rises text es rise = ap (is_sorted (slice_cmp nat_cmp)) (sym (under_parts text es rise)) ∙ kept_rises (λ x. not (begins_with text x)) es rise

pub remove_under_map : (text : List ℕ) (es : List Entry) → is_sorted (slice_cmp nat_cmp) es ≡ true
    → map_of (filter (passes Before text) es ++ filter (lies_behind AfterUnder text) es) ≡ retain_keys (map_of es) (λ name. not (begins_with text name))
remove_under_map text es rise = ap map_of (sym (under_parts text es rise)) ∙ kept_map (λ x. not (begins_with text x)) es rise

-- ---- what a version of the entries is

pub put_done : (es made : List Entry) (k : List ℕ) (c : Content) (now result : Contents) → is_sorted (slice_cmp nat_cmp) es ≡ true → from_sorted es ≡ now
    → made ≡ filter (passes Before k) es ++ (k, c) ∷ filter (lies_behind After k) es → result ≡ from_sorted made → result ≡ insert now k c
put_done es made k c now result rise view_is made_is is = is ∙ (ap map_of made_is ∙ (put_map k c es rise ∙ ap (λ m. insert m k c) view_is))

pub remove_done : (es made : List Entry) (k : List ℕ) (now result : Contents) → is_sorted (slice_cmp nat_cmp) es ≡ true → from_sorted es ≡ now
    → made ≡ filter (passes Before k) es ++ filter (lies_behind After k) es → result ≡ from_sorted made → result ≡ remove now k
remove_done es made k now result rise view_is made_is is = is ∙ (ap map_of made_is ∙ (remove_map k es rise ∙ ap (λ m. remove m k) view_is))

pub remove_under_done : (es made : List Entry) (text : List ℕ) (now result : Contents) → is_sorted (slice_cmp nat_cmp) es ≡ true → from_sorted es ≡ now
    → made ≡ filter (passes Before text) es ++ filter (lies_behind AfterUnder text) es → result ≡ from_sorted made
    → result ≡ retain_keys now (λ name. not (begins_with text name))
remove_under_done es made text now result rise view_is made_is is =
    is ∙ (ap map_of made_is ∙ (remove_under_map text es rise ∙ ap (λ m. retain_keys m (λ name. not (begins_with text name))) view_is))

pub len_is : (es : List Entry) (now : Contents) (count : ℕ) → is_sorted (slice_cmp nat_cmp) es ≡ true → from_sorted es ≡ now → count ≡ length es → count ≡ len now
len_is es now count rise view_is is = is ∙ (ap length (sym (entries_are es rise)) ∙ (sym (len-entries (map_of es)) ∙ ap len view_is))

pub bytes_is : (es : List Entry) (now : Contents) (bytes : ℕ) → is_sorted (slice_cmp nat_cmp) es ≡ true → from_sorted es ≡ now → bytes ≡ entries_bytes es → bytes ≡ body_bytes now
bytes_is es now bytes rise view_is is = is ∙ (ap entries_bytes (sym (entries_are es rise)) ∙ ap body_bytes view_is)

pub get_is : (es : List Entry) (name : List ℕ) (now : Contents) (found : Option Content) → is_sorted (slice_cmp nat_cmp) es ≡ true → from_sorted es ≡ now
    → found ≡ find (slice_cmp nat_cmp) name es → found ≡ get now name
get_is es name now found rise view_is is =
    is ∙ (sym (get-from_sorted (slice_cmp nat_cmp) es name (truth (is_sorted (slice_cmp nat_cmp) es) rise)) ∙ ap (λ m. get m name) view_is)

pub new_is : (es : List Entry) → es ≡ [] → map_of es ≡ empty
new_is es none = ap map_of none ∙ empty_of_len (map_of []) (len-entries (map_of []) ∙ ap length (entries_are [] refl))

pub under_is : (es : List Entry) (text : List ℕ) (now : Contents) (answer : Bool) → is_sorted (slice_cmp nat_cmp) es ≡ true → from_sorted es ≡ now
    → answer ≡ list_any (begins_with text) (map (λ e. e.0) es) → answer ≡ list_any (begins_with text) (keys now)
under_is es text now answer rise view_is is =
    is
    ∙ (ap (λ xs. list_any (begins_with text) (map (λ e. e.0) xs)) (sym (entries_are es rise)) ∙ ap (λ m. list_any (begins_with text) (keys m)) view_is)
