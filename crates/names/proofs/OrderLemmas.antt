-- Names before edges, among names that rise.
use Rattle.std.proofs.Common.{◌≡◌, ℕ, ◌≤◌, ◌==◌, ◌&&◌, ◌||◌, Bool, true, false, List, [], ◌∷◌, length, take, refl, sym, ◌∙◌, ap, arith}
use Rattle.std.specs.Prelude.{bytes_eq}
use Rattle.std.specs.Ordering.{nat_cmp, is_lt, is_le, ordering_reverse, ordering_then}
use Rattle.std.specs.Cmp.Lexicographic.{slice_cmp, nat_list_cmp_total}
use Rattle.std.specs.FinMap.{is_sorted}
use Rattle.std.specs.FinMap.Entries.{below_all}
use Rattle.std.specs.declared.cmp.Ordering.{Ordering}
use Rattle.std.specs.declared.cmp.Ordering.TheVariants.{Less, Equal, Greater}
use Rattle.std.proofs.lemmas.Bool.{false≢true, true≢false}
use Rattle.std.proofs.lemmas.Bool.Decides.{nat_tests}
use Rattle.prefixes.specs.Under.{begins_with}
use Rattle.prefixes.proofs.UnderLemmas.{less_le, first_le, same_first}
use Rattle.names.specs.declared.edge.Edge.{Edge}
use Rattle.names.specs.declared.edge.Edge.TheVariants.{Before, After, AfterUnder}
use Rattle.names.specs.Private.Entries.{Entry, is_before, passes, NonePass, Falls}

pub and_first : (a b : Bool) → (a && b) ≡ true → a ≡ true
and_first true b e = refl
and_first false b e = e

pub and_second : (a b : Bool) → (a && b) ≡ true → b ≡ true
and_second true b e = e
and_second false b e = absurd (false≢true e)

pub or_first : (a b : Bool) → (a || b) ≡ false → a ≡ false
or_first true b e = e
or_first false b e = refl

pub or_second : (a b : Bool) → (a || b) ≡ false → b ≡ false
or_second true b e = absurd (true≢false e)
or_second false b e = e

pub is_less : (o : Ordering) → is_lt o ≡ true → o ≡ Less
is_less Less e = refl
is_less Equal e = absurd (false≢true e)
is_less Greater e = absurd (false≢true e)

-- behind a name that is not below the text and does not begin with it, no name does
none_behind : (text a b : List ℕ) → is_le (slice_cmp nat_cmp text a) ≡ true → slice_cmp nat_cmp a b ≡ Less → begins_with text a ≡ false
    → begins_with text b ≡ false
none_behind [] a b low next other = absurd (true≢false other)
none_behind (t ∷ text) [] b low next other = absurd (false≢true low)
none_behind (t ∷ text) (x ∷ a) [] low next other = refl
none_behind (t ∷ text) (x ∷ a) (y ∷ b) low next other = go (t == y) refl (none_behind text a b)
  where
    go : (s : Bool) → (t == y) ≡ s
        → (is_le (slice_cmp nat_cmp text a) ≡ true → slice_cmp nat_cmp a b ≡ Less → begins_with text a ≡ false → begins_with text b ≡ false)
        → (s && bytes_eq text (take (length text) b)) ≡ false
    go false s deeper = refl
    go true s deeper =
        let below : t ≤ x = first_le t x (slice_cmp nat_cmp text a) low in
        let above : x ≤ y = first_le x y (slice_cmp nat_cmp a b) (ap is_le next) in
        let same : t ≡ y = grind (arith, nat_tests) in
        let first : t ≡ x = omega arith in
        let second : x ≡ y = omega arith in
        let here : (t == x) ≡ true = grind (arith, nat_tests) in
        deeper
        (ap (λ o. is_le (ordering_then o (slice_cmp nat_cmp text a))) (sym (same_first t x first)) ∙ low)
        (ap (λ o. ordering_then o (slice_cmp nat_cmp a b)) (sym (same_first x y second)) ∙ next)
        (ap (λ u. u && bytes_eq text (take (length text) a)) (sym here) ∙ other)

turned_le : (o : Ordering) → is_lt o ≡ false → is_le (ordering_reverse o) ≡ true
turned_le Less e = absurd (true≢false e)
turned_le Equal e = refl
turned_le Greater e = refl

not_below : (text name : List ℕ) → is_lt (slice_cmp nat_cmp name text) ≡ false → is_le (slice_cmp nat_cmp text name) ≡ true
not_below text name e = ap is_le (nat_list_cmp_total.antisymm text name) ∙ turned_le (slice_cmp nat_cmp name text) e

not_before_next : (text x y : List ℕ) → is_lt (slice_cmp nat_cmp x text) ≡ false → slice_cmp nat_cmp x y ≡ Less → is_lt (slice_cmp nat_cmp y text) ≡ false
not_before_next text x y e next = go (slice_cmp nat_cmp y text) refl
  where
    go : (o : Ordering) → slice_cmp nat_cmp y text ≡ o → is_lt (slice_cmp nat_cmp y text) ≡ false
    go Less is = absurd (true≢false (ap is_lt (sym (nat_list_cmp_total.trans x y text next is)) ∙ e))
    go Equal is = ap is_lt is
    go Greater is = ap is_lt is

not_after_next : (text x y : List ℕ) → is_le (slice_cmp nat_cmp x text) ≡ false → slice_cmp nat_cmp x y ≡ Less → is_le (slice_cmp nat_cmp y text) ≡ false
not_after_next text x y e next = go (is_le (slice_cmp nat_cmp y text)) refl
  where
    go : (t : Bool) → is_le (slice_cmp nat_cmp y text) ≡ t → t ≡ false
    go false is = refl
    go true is = absurd (true≢false (ap is_le (sym (less_le x y text next is)) ∙ e))

-- once a name does not lie before the edge, no later one does
pub falls_next : (edge : Edge) (text x y : List ℕ) → is_before edge text x ≡ false → slice_cmp nat_cmp x y ≡ Less → is_before edge text y ≡ false
falls_next Before text x y e next = not_before_next text x y e next
falls_next After text x y e next = not_after_next text x y e next
falls_next AfterUnder text x y e next =
    let not_less = or_first (is_lt (slice_cmp nat_cmp x text)) (begins_with text x) e in
    let apart = or_second (is_lt (slice_cmp nat_cmp x text)) (begins_with text x) e in
    ap (λ t. t || begins_with text y) (not_before_next text x y not_less next) ∙ none_behind text x y (not_below text x not_less) next apart

pub none_later : (edge : Edge) (text name : List ℕ) (es : List Entry) → is_before edge text name ≡ false → below_all (slice_cmp nat_cmp) name es ≡ true
    → NonePass (passes edge text) es
none_later edge text name [] e above = tt
none_later edge text name (x ∷ es) e above = (
  falls_next edge text name x.0 e
      (is_less (slice_cmp nat_cmp name x.0) (and_first (is_lt (slice_cmp nat_cmp name x.0)) (below_all (slice_cmp nat_cmp) name es) above)),
  none_later edge text name es e (and_second (is_lt (slice_cmp nat_cmp name x.0)) (below_all (slice_cmp nat_cmp) name es) above),
)

pub falls : (edge : Edge) (text : List ℕ) (es : List Entry) → is_sorted (slice_cmp nat_cmp) es ≡ true → Falls (passes edge text) es
falls edge text [] rise = tt
falls edge text (e ∷ es) rise = (
  λ not_passed. none_later edge text e.0 es not_passed (and_first (below_all (slice_cmp nat_cmp) e.0 es) (is_sorted (slice_cmp nat_cmp) es) rise),
  falls edge text es (and_second (below_all (slice_cmp nat_cmp) e.0 es) (is_sorted (slice_cmp nat_cmp) es) rise),
)
