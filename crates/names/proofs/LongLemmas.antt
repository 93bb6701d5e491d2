-- Whether the name of a copy would be too long.
use Rattle.std.proofs.Common.{◌≡◌, ℕ, ◌+◌, ◌-◌, ◌<◌, ◌≤◌, ◌&&◌, ◌||◌, Bool, true, false, cond, List, [], ◌∷◌, ◌++◌, map, length, take, drop, get_or, max, refl, sym, ◌∙◌, ap, arith, length-append}
use Rattle.std.specs.Prelude.{filter, nat_lt}
use Rattle.std.specs.List.{list_any}
use Rattle.std.specs.Ordering.{nat_cmp}
use Rattle.std.specs.Cmp.Lexicographic.{slice_cmp}
use Rattle.std.specs.FinMap.{is_sorted, from_sorted}
use Rattle.std.proofs.lemmas.Bool.{lt-ltb}
use Rattle.std.proofs.lemmas.Bool.Decides.{nat_tests}
use Rattle.std.proofs.lemmas.List.{take_more, drop-append-le, drop_all, length-take, length-take-le, length-drop, get_or-take, get_or-drop}
use Rattle.std.proofs.lemmas.List.Folds.{list_any-append, list_any_at}
use Rattle.prefixes.specs.Under.{begins_with}
use Rattle.documents.specs.Documents.{renamed}
use Rattle.names.specs.declared.edge.Edge.TheVariants.{Before, AfterUnder}
use Rattle.names.specs.Contents.{Contents, is_long_copy, has_long_copy}
use Rattle.names.specs.Private.Entries.{Entry, joined, rest_of, passes, lies_behind, Falls, CutsAt}
use Rattle.names.proofs.PartLemmas.{filter_none}
use Rattle.names.proofs.MapLemmas.{entries_are}
use Rattle.names.proofs.OverLemmas.{filter_both, is_under}
use Rattle.names.proofs.RestLemmas.{rest_none, rest_start, until_first, none_later_chunk}

-- ---- one name

pub length_renamed : (from to prefix suffix : List ℕ) → length (renamed from to (prefix ++ suffix)) ≡ length to + ((length prefix + length suffix) - length from)
length_renamed from to prefix suffix =
    length-append to (drop (length from) (prefix ++ suffix))
    ∙ ap (λ n. length to + n) (length-drop (length from) (prefix ++ suffix) ∙ ap (λ n. n - length from) (length-append prefix suffix))

pub long_at_once : (most : ℕ) (from to prefix suffix : List ℕ) → most < length to → true ≡ is_long_copy most from to (prefix ++ suffix)
long_at_once most from to prefix suffix long =
    sym (lt-ltb most (length (renamed from to (prefix ++ suffix))) (omega (arith, long, length_renamed from to prefix suffix)))

pub long_by_rest : (most rest : ℕ) (from to prefix suffix : List ℕ) → length to ≤ most → rest ≡ (length prefix + length suffix) - length from
    → nat_lt (most - length to) rest ≡ is_long_copy most from to (prefix ++ suffix)
long_by_rest most rest from to prefix suffix short is =
    same (length to) most rest short ∙ ap (nat_lt most) (ap (λ n. length to + n) is ∙ sym (length_renamed from to prefix suffix))
  where
    same : (a m r : ℕ) → a ≤ m → nat_lt (m - a) r ≡ nat_lt m (a + r)
    same a m r low = grind (arith, nat_tests)

-- ---- the names from one place on and before another one

module _ (q : Entry → Bool) (es : List Entry) (at : ℕ) where
  pub none_yet : list_any q (drop at (take at es)) ≡ false
  none_yet = ap (list_any q) (drop_all at (take at es) (omega (arith, length-take at es)))

  pub none_more : (place : ℕ) (d : Entry) → at ≤ place → place < length es → list_any q (drop at (take place es)) ≡ false → q (get_or es place d) ≡ false
      → list_any q (drop at (take (place + 1) es)) ≡ false
  none_more place d order inside none fails =
      ap (list_any q)
      (ap (drop at) (take_more es place d inside)
      ∙ drop-append-le at (take place es) (get_or es place d ∷ []) (omega (arith, order, length-take-le place es (omega (arith, inside)))))
      ∙ (list_any-append q (drop at (take place es)) (get_or es place d ∷ [])
      ∙ (ap (λ t. t || (q (get_or es place d) || false)) none ∙ ap (λ t. t || false) fails))

  pub one_there : (place end : ℕ) (d : Entry) → at ≤ place → place < end → end ≤ length es → q (get_or es place d) ≡ true → list_any q (drop at (take end es)) ≡ true
  one_there place end d order before inside found =
      list_any_at q (drop at (take end es)) (place - at) d
      (omega (arith, order, before, length-drop at (take end es), length-take-le end es inside))
      (ap q (get_or-drop at (take end es) (place - at) d ∙ (ap (λ n. get_or (take end es) n d) same ∙ get_or-take end es place d before)) ∙ found)
    where
      same : at + (place - at) ≡ place
      same = omega (arith, order)

-- ---- chunk by chunk

module _ (p q : Entry → Bool) (cs : List (List Entry)) (open_at at place to : ℕ) (chunk : List Entry) (falls : Falls p (joined cs)) (inside : open_at < length cs)
    (is : chunk ≡ get_or cs open_at chunk) (within : at ≤ length chunk) (cuts : CutsAt p chunk place) (to_is : to ≡ max place at) (whole : Bool)
    (done : list_any q (filter p (rest_of cs open_at at)) ≡ whole) where
  abbrev later : Bool
  later = list_any q (filter p (joined (drop (open_at + 1) cs)))

  by_parts : (list_any q (drop at (take to chunk)) || list_any q (filter p (joined (drop (open_at + 1) cs)))) ≡ whole
  by_parts =
      sym (ap (list_any q) (until_first p cs open_at at place to chunk falls inside is within cuts to_is)
      ∙ list_any-append q (drop at (take to chunk)) (filter p (joined (drop (open_at + 1) cs)))) ∙ done

  pub some_long : list_any q (drop at (take to chunk)) ≡ true → true ≡ whole
  some_long found = ap (λ t. t || later) (sym found) ∙ by_parts

  pub further_long : list_any q (drop at (take to chunk)) ≡ false → list_any q (filter p (rest_of cs (open_at + 1) 0)) ≡ whole
  further_long none = ap (λ xs. list_any q (filter p xs)) (rest_start cs (open_at + 1)) ∙ (ap (λ t. t || later) (sym none) ∙ by_parts)

  pub none_long : list_any q (drop at (take to chunk)) ≡ false → to < length chunk → false ≡ whole
  none_long none inner =
      ap (list_any q)
      (sym (filter_none p (joined (drop (open_at + 1) cs)) (none_later_chunk p cs open_at at place to chunk falls inside is within cuts to_is inner)))
      ∙ (ap (λ t. t || later) (sym none) ∙ by_parts)

pub ended_long : (p q : Entry → Bool) (cs : List (List Entry)) (chunk at : ℕ) (whole : Bool) → length cs ≤ chunk
    → list_any q (filter p (rest_of cs chunk at)) ≡ whole → false ≡ whole
ended_long p q cs chunk at whole beyond done = ap (λ xs. list_any q (filter p xs)) (sym (rest_none cs chunk at beyond)) ∙ done

-- ---- the whole map

any_under : (from : List ℕ) (q : List ℕ → Bool) (es : List Entry)
    → list_any (λ e. q e.0) (filter (λ e. begins_with from e.0) es) ≡ list_any (λ name. begins_with from name && q name) (map (λ e. e.0) es)
any_under from q [] = refl
any_under from q (e ∷ es) = go (begins_with from e.0) (any_under from q es)
  where
    go : (t : Bool) → list_any (λ x. q x.0) (filter (λ x. begins_with from x.0) es) ≡ list_any (λ name. begins_with from name && q name) (map (λ x. x.0) es)
        → list_any (λ x. q x.0) (cond t (e ∷ filter (λ x. begins_with from x.0) es) (filter (λ x. begins_with from x.0) es))
        ≡ ((t && q e.0) || list_any (λ name. begins_with from name && q name) (map (λ x. x.0) es))
    go true rest = ap (λ u. q e.0 || u) rest
    go false rest = rest

pub long_is : (most : ℕ) (from to : List ℕ) (es rest : List Entry) (now : Contents) (answer : Bool) → is_sorted (slice_cmp nat_cmp) es ≡ true → from_sorted es ≡ now
    → rest ≡ filter (lies_behind Before from) es → answer ≡ list_any (λ e. is_long_copy most from to e.0) (filter (passes AfterUnder from) rest)
    → answer ≡ has_long_copy most from to now
long_is most from to es rest now answer rise view_is rest_is is =
    is
    ∙ (ap (λ xs. list_any (λ e. is_long_copy most from to e.0) (filter (passes AfterUnder from) xs)) rest_is
    ∙ (ap (list_any (λ e. is_long_copy most from to e.0))
    (filter_both (passes AfterUnder from) (lies_behind Before from) (λ e. begins_with from e.0) (is_under from to) es)
    ∙ (any_under from (is_long_copy most from to) es
    ∙ (ap (λ xs. list_any (λ name. begins_with from name && is_long_copy most from to name) (map (λ e. e.0) xs)) (sym (entries_are es rise))
    ∙ ap (λ m. has_long_copy most from to m) view_is))))
