-- Entries that are laid over others, and the map that they make.
use Rattle.std.proofs.Common.{◌≡◌, ℕ, ◌&&◌, ◌||◌, not, Bool, true, false, cond, List, [], ◌∷◌, ◌++◌, map, length, drop, refl, sym, ◌∙◌, ap}
use Rattle.std.specs.Prelude.{filter}
use Rattle.std.specs.Ordering.{nat_cmp, is_lt, is_le, ordering_then}
use Rattle.std.specs.Cmp.Lexicographic.{slice_cmp, nat_list_cmp_total}
use Rattle.std.specs.FinMap.{entries, entries-insert, same_entries_map, same_map, from_entries, from_sorted, get-entries, get-from_entries, put, is_sorted}
use Rattle.std.specs.FinMap.Entries.{below_all, is_sorted-put}
use Rattle.std.specs.declared.cmp.Ordering.{Ordering}
use Rattle.std.specs.declared.cmp.Ordering.TheVariants.{Less, Equal, Greater}
use Rattle.std.proofs.lemmas.Bool.{true≢false}
use Rattle.std.proofs.lemmas.List.{append-nil}
use Rattle.std.proofs.lemmas.List.Elements.{filter-append}
use Rattle.prefixes.specs.Under.{begins_with}
use Rattle.prefixes.proofs.UnderLemmas.{same_first}
use Rattle.names.specs.declared.edge.Edge.TheVariants.{Before, After, AfterUnder}
use Rattle.names.specs.Contents.{Contents, copies}
use Rattle.names.specs.Private.Entries.{Entry, begun, passes, lies_behind, AllPass, NonePass, AllBehind, laid_over}
use Rattle.names.proofs.OrderLemmas.{and_first, and_second, is_less, none_later}
use Rattle.names.proofs.CompareLemmas.{begun_by}
use Rattle.names.proofs.PartLemmas.{filter_none, others_all}
use Rattle.names.proofs.MapLemmas.{turned, same_name, put_parts, is_true, truth, entries_are, apart_under, kept_rises}

-- ---- two tests, one after the other

module _ (p q : Entry → Bool) where
  pub filter_swap : (es : List Entry) → filter p (filter q es) ≡ filter q (filter p es)
  filter_swap [] = refl
  filter_swap (e ∷ es) = go (p e) refl (q e) refl (filter_swap es)
    where
      go : (t : Bool) → p e ≡ t → (u : Bool) → q e ≡ u → filter p (filter q es) ≡ filter q (filter p es)
          → filter p (cond u (e ∷ filter q es) (filter q es)) ≡ filter q (cond t (e ∷ filter p es) (filter p es))
      go true a true b rest =
          ap (λ t. cond t (e ∷ filter p (filter q es)) (filter p (filter q es))) a
          ∙ (ap (λ later. e ∷ later) rest ∙ sym (ap (λ u. cond u (e ∷ filter q (filter p es)) (filter q (filter p es))) b))
      go true a false b rest = rest ∙ sym (ap (λ u. cond u (e ∷ filter q (filter p es)) (filter q (filter p es))) b)
      go false a true b rest = ap (λ t. cond t (e ∷ filter p (filter q es)) (filter p (filter q es))) a ∙ rest
      go false a false b rest = rest

  -- what passes the first test passes the second
  pub filter_same : ((e : Entry) → p e ≡ true → q e ≡ true) → (es : List Entry) → filter p (filter q es) ≡ filter p es
  filter_same more [] = refl
  filter_same more (e ∷ es) = go (p e) refl (q e) refl (filter_same more es)
    where
      go : (t : Bool) → p e ≡ t → (u : Bool) → q e ≡ u → filter p (filter q es) ≡ filter p es
          → filter p (cond u (e ∷ filter q es) (filter q es)) ≡ cond t (e ∷ filter p es) (filter p es)
      go true a true b rest = ap (λ t. cond t (e ∷ filter p (filter q es)) (filter p (filter q es))) a ∙ ap (λ later. e ∷ later) rest
      go true a false b rest = absurd (true≢false (sym (more e a) ∙ b))
      go false a true b rest = ap (λ t. cond t (e ∷ filter p (filter q es)) (filter p (filter q es))) a ∙ rest
      go false a false b rest = rest

  -- nothing passes both
  pub filter_apart : ((e : Entry) → p e ≡ true → q e ≡ false) → (es : List Entry) → filter p (filter q es) ≡ []
  filter_apart none [] = refl
  filter_apart none (e ∷ es) = go (p e) refl (q e) refl (filter_apart none es)
    where
      go : (t : Bool) → p e ≡ t → (u : Bool) → q e ≡ u → filter p (filter q es) ≡ [] → filter p (cond u (e ∷ filter q es) (filter q es)) ≡ []
      go true a true b rest = absurd (true≢false (sym b ∙ none e a))
      go true a false b rest = rest
      go false a true b rest = ap (λ t. cond t (e ∷ filter p (filter q es)) (filter p (filter q es))) a ∙ rest
      go false a false b rest = rest

  -- what passes both
  pub filter_both : (r : Entry → Bool) → ((e : Entry) → r e ≡ (q e && p e)) → (es : List Entry) → filter p (filter q es) ≡ filter r es
  filter_both r is [] = refl
  filter_both r is (e ∷ es) =
      go (p e) refl (q e) refl (filter_both r is es) ∙ sym (ap (λ t. cond t (e ∷ filter r es) (filter r es)) (is e))
    where
      go : (t : Bool) → p e ≡ t → (u : Bool) → q e ≡ u → filter p (filter q es) ≡ filter r es
          → filter p (cond u (e ∷ filter q es) (filter q es)) ≡ cond (u && t) (e ∷ filter r es) (filter r es)
      go true a true b rest = ap (λ t. cond t (e ∷ filter p (filter q es)) (filter p (filter q es))) a ∙ ap (λ later. e ∷ later) rest
      go true a false b rest = rest
      go false a true b rest = ap (λ t. cond t (e ∷ filter p (filter q es)) (filter p (filter q es))) a ∙ rest
      go false a false b rest = rest

pub passes_filter : (p : Entry → Bool) (es : List Entry) → AllPass p (filter p es)
passes_filter p [] = tt
passes_filter p (e ∷ es) = go (p e) refl (passes_filter p es)
  where
    go : (t : Bool) → p e ≡ t → AllPass p (filter p es) → AllPass p (cond t (e ∷ filter p es) (filter p es))
    go true is later = (is, later)
    go false is later = later

pub none_filter : (p : Entry → Bool) (es : List Entry) → NonePass p (filter (λ e. not (p e)) es)
none_filter p [] = tt
none_filter p (e ∷ es) = go (p e) refl (none_filter p es)
  where
    go : (t : Bool) → p e ≡ t → NonePass p (filter (λ e. not (p e)) es) → NonePass p (cond (not t) (e ∷ filter (λ e. not (p e)) es) (filter (λ e. not (p e)) es))
    go true is later = later
    go false is later = (is, later)

-- ---- names below others

before_more : (k c : List ℕ) → slice_cmp nat_cmp k c ≡ Less → (e : Entry) → passes Before k e ≡ true → passes Before c e ≡ true
before_more k c low e is = ap is_lt (nat_list_cmp_total.trans e.0 k c (is_less (slice_cmp nat_cmp e.0 k) is) low)

before_apart : (k c : List ℕ) → slice_cmp nat_cmp k c ≡ Less → (e : Entry) → passes Before k e ≡ true → lies_behind After c e ≡ false
before_apart k c low e is = ap (λ o. not (is_le o)) (nat_list_cmp_total.trans e.0 k c (is_less (slice_cmp nat_cmp e.0 k) is) low)

pub behind_more : (k : List ℕ) (e : Entry) → lies_behind After k e ≡ true → lies_behind Before k e ≡ true
behind_more k e = go (slice_cmp nat_cmp e.0 k)
  where
    go : (o : Ordering) → not (is_le o) ≡ true → not (is_lt o) ≡ true
    go Less h = h
    go Equal h = refl
    go Greater h = refl

module _ (k : List ℕ) where
  low : (c : Entry) (cs : List Entry) → below_all (slice_cmp nat_cmp) k (c ∷ cs) ≡ true → slice_cmp nat_cmp k c.0 ≡ Less
  low c cs below = is_less (slice_cmp nat_cmp k c.0) (and_first (is_lt (slice_cmp nat_cmp k c.0)) (below_all (slice_cmp nat_cmp) k cs) below)

  later_below : (c : Entry) (cs : List Entry) → below_all (slice_cmp nat_cmp) k (c ∷ cs) ≡ true → below_all (slice_cmp nat_cmp) k cs ≡ true
  later_below c cs below = and_second (is_lt (slice_cmp nat_cmp k c.0)) (below_all (slice_cmp nat_cmp) k cs) below

  over_before : (cs es : List Entry) → below_all (slice_cmp nat_cmp) k cs ≡ true → filter (passes Before k) (laid_over cs es) ≡ filter (passes Before k) es
  over_before [] es below = refl
  over_before (c ∷ cs) es below =
      let less = low c cs below in
      let others = filter (lies_behind After c.0) es in
      filter-append (passes Before k) (filter (passes Before c.0) es) (c ∷ laid_over cs others)
      ∙ (ap (λ first. first ++ filter (passes Before k) (c ∷ laid_over cs others))
      (filter_same (passes Before k) (passes Before c.0) (before_more k c.0 less) es)
      ∙ (ap (λ t. filter (passes Before k) es ++ cond t (c ∷ filter (passes Before k) (laid_over cs others)) (filter (passes Before k) (laid_over cs others)))
      (ap is_lt (turned k c.0 Less less))
      ∙ (ap (λ rest. filter (passes Before k) es ++ rest)
      (over_before cs others (later_below c cs below) ∙ filter_apart (passes Before k) (lies_behind After c.0) (before_apart k c.0 less) es)
      ∙ append-nil (filter (passes Before k) es))))

  over_behind : (cs es : List Entry) → below_all (slice_cmp nat_cmp) k cs ≡ true
      → filter (lies_behind After k) (laid_over cs es) ≡ laid_over cs (filter (lies_behind After k) es)
  over_behind [] es below = refl
  over_behind (c ∷ cs) es below =
      let less = low c cs below in
      let others = filter (lies_behind After c.0) es in
      let kept = filter (lies_behind After k) es in
      filter-append (lies_behind After k) (filter (passes Before c.0) es) (c ∷ laid_over cs others)
      ∙ (ap (λ first. first ++ filter (lies_behind After k) (c ∷ laid_over cs others)) (filter_swap (lies_behind After k) (passes Before c.0) es)
      ∙ (ap (λ t. filter (passes Before c.0) kept ++ cond t (c ∷ filter (lies_behind After k) (laid_over cs others)) (filter (lies_behind After k) (laid_over cs others)))
      (ap (λ o. not (is_le o)) (turned k c.0 Less less))
      ∙ ap (λ rest. filter (passes Before c.0) kept ++ c ∷ rest)
      (over_behind cs others (later_below c cs below) ∙ ap (laid_over cs) (filter_swap (lies_behind After k) (lies_behind After c.0) es))))

over_put : (c : Entry) (cs es : List Entry) → below_all (slice_cmp nat_cmp) c.0 cs ≡ true → is_sorted (slice_cmp nat_cmp) (laid_over cs es) ≡ true
    → laid_over (c ∷ cs) es ≡ put (slice_cmp nat_cmp) c.0 c.1 (laid_over cs es)
over_put c cs es below rise =
    ap (λ first. first ++ c ∷ laid_over cs (filter (lies_behind After c.0) es)) (sym (over_before c.0 cs es below))
    ∙ (ap (λ rest. filter (passes Before c.0) (laid_over cs es) ++ c ∷ rest) (sym (over_behind c.0 cs es below))
    ∙ put_parts c.0 c.1 (laid_over cs es) rise)

pub over_rises : (cs es : List Entry) → is_sorted (slice_cmp nat_cmp) cs ≡ true → is_sorted (slice_cmp nat_cmp) es ≡ true
    → is_sorted (slice_cmp nat_cmp) (laid_over cs es) ≡ true
over_rises [] es one other = other
over_rises (c ∷ cs) es one other =
    let below = and_first (below_all (slice_cmp nat_cmp) c.0 cs) (is_sorted (slice_cmp nat_cmp) cs) one in
    let rise = over_rises cs es (and_second (below_all (slice_cmp nat_cmp) c.0 cs) (is_sorted (slice_cmp nat_cmp) cs) one) other in
    ap (is_sorted (slice_cmp nat_cmp)) (over_put c cs es below rise)
    ∙ is_true (is_sorted (slice_cmp nat_cmp) (put (slice_cmp nat_cmp) c.0 c.1 (laid_over cs es)))
    (is_sorted-put (slice_cmp nat_cmp) nat_list_cmp_total c.0 c.1 (laid_over cs es) (truth (is_sorted (slice_cmp nat_cmp) (laid_over cs es)) rise))

pub own_entries : (m : Contents) → from_entries (entries m) ≡ m
own_entries m =
    same_map nat_list_cmp_total same_name (from_entries (entries m)) m (λ q. get-from_entries nat_list_cmp_total (entries m) q ∙ sym (get-entries m q))

pub entries_over : (cs es : List Entry) (m : Contents) → entries m ≡ es → is_sorted (slice_cmp nat_cmp) cs ≡ true → is_sorted (slice_cmp nat_cmp) es ≡ true
    → entries (from_entries {R = slice_cmp nat_cmp} (cs ++ es)) ≡ laid_over cs es
entries_over [] es m is one other = ap (λ xs. entries (from_entries {R = slice_cmp nat_cmp} xs)) (sym is) ∙ (ap entries (own_entries m) ∙ is)
entries_over (c ∷ cs) es m is one other =
    let below = and_first (below_all (slice_cmp nat_cmp) c.0 cs) (is_sorted (slice_cmp nat_cmp) cs) one in
    let rises = and_second (below_all (slice_cmp nat_cmp) c.0 cs) (is_sorted (slice_cmp nat_cmp) cs) one in
    entries-insert nat_list_cmp_total (from_entries {R = slice_cmp nat_cmp} (cs ++ es)) c.0 c.1
    ∙ (ap (put (slice_cmp nat_cmp) c.0 c.1) (entries_over cs es m is rises other) ∙ sym (over_put c cs es below (over_rises cs es rises other)))

-- ---- copies

same_beginning : (p a b : List ℕ) → slice_cmp nat_cmp (p ++ a) (p ++ b) ≡ slice_cmp nat_cmp a b
same_beginning [] a b = refl
same_beginning (x ∷ p) a b = ap (λ o. ordering_then o (slice_cmp nat_cmp (p ++ a) (p ++ b))) (same_first x x refl) ∙ same_beginning p a b

module _ (from to : List ℕ) where
  abbrev under : Entry → Bool
  under e = begins_with from e.0

  same_order : (d e : Entry) → under d ≡ true → under e ≡ true
      → slice_cmp nat_cmp (begun (length from) to d).0 (begun (length from) to e).0 ≡ slice_cmp nat_cmp d.0 e.0
  same_order d e one other =
      same_beginning to (drop (length from) d.0) (drop (length from) e.0)
      ∙ (sym (same_beginning from (drop (length from) d.0) (drop (length from) e.0))
      ∙ (ap (λ x. slice_cmp nat_cmp x (from ++ drop (length from) e.0)) (begun_by from d.0 one) ∙ ap (slice_cmp nat_cmp d.0) (begun_by from e.0 other)))

  same_below : (d : Entry) (es : List Entry) → under d ≡ true → AllPass under es
      → below_all (slice_cmp nat_cmp) (begun (length from) to d).0 (map (begun (length from) to) es) ≡ below_all (slice_cmp nat_cmp) d.0 es
  same_below d [] one all = refl
  same_below d (e ∷ es) one all =
      ap (λ o. is_lt o && below_all (slice_cmp nat_cmp) (begun (length from) to d).0 (map (begun (length from) to) es)) (same_order d e one all.0)
      ∙ ap (λ t. is_lt (slice_cmp nat_cmp d.0 e.0) && t) (same_below d es one all.1)

  same_rise : (es : List Entry) → AllPass under es → is_sorted (slice_cmp nat_cmp) (map (begun (length from) to) es) ≡ is_sorted (slice_cmp nat_cmp) es
  same_rise [] all = refl
  same_rise (e ∷ es) all =
      ap (λ t. t && is_sorted (slice_cmp nat_cmp) (map (begun (length from) to) es)) (same_below e es all.0 all.1)
      ∙ ap (λ t. below_all (slice_cmp nat_cmp) e.0 es && t) (same_rise es all.1)

  pub is_under : (e : Entry) → under e ≡ (lies_behind Before from e && passes AfterUnder from e)
  is_under e = go (passes Before from e) (under e) (apart_under from e)
    where
      go : (u t : Bool) → (u || not (u || t)) ≡ not t → t ≡ (not u && (u || t))
      go true true h = absurd (true≢false h)
      go true false h = refl
      go false t h = refl

  -- the copies, as they are gathered
  pub gathered : (none made rest es : List Entry) → none ≡ [] → rest ≡ filter (lies_behind Before from) es
      → made ≡ none ++ map (begun (length from) to) (filter (passes AfterUnder from) rest) → made ≡ map (begun (length from) to) (filter under es)
  gathered none made rest es none_is rest_is made_is =
      made_is
      ∙ (ap (λ n. n ++ map (begun (length from) to) (filter (passes AfterUnder from) rest)) none_is
      ∙ (ap (λ r. map (begun (length from) to) (filter (passes AfterUnder from) r)) rest_is
      ∙ ap (map (begun (length from) to)) (filter_both (passes AfterUnder from) (lies_behind Before from) under is_under es)))

  pub copies_rise : (made es : List Entry) → made ≡ map (begun (length from) to) (filter under es) → is_sorted (slice_cmp nat_cmp) es ≡ true
      → is_sorted (slice_cmp nat_cmp) made ≡ true
  copies_rise made es is rise =
      ap (is_sorted (slice_cmp nat_cmp)) is ∙ (same_rise (filter under es) (passes_filter under es) ∙ kept_rises (begins_with from) es rise)

  pub copied_done : (es gather made : List Entry) (now result : Contents) → is_sorted (slice_cmp nat_cmp) es ≡ true → from_sorted es ≡ now
      → gather ≡ map (begun (length from) to) (filter under es) → made ≡ laid_over gather es → result ≡ from_sorted made
      → result ≡ from_entries (copies from to now ++ entries now)
  copied_done es gather made now result rise view_is gather_is made_is is =
      let own : entries now ≡ es = ap entries (sym view_is) ∙ entries_are es rise in
      let copied : copies from to now ≡ gather = ap (λ xs. map (begun (length from) to) (filter under xs)) own ∙ sym gather_is in
      let rises = copies_rise gather es gather_is rise in
      let whole = over_rises gather es rises rise in
      let same : entries (from_entries {R = slice_cmp nat_cmp} (copies from to now ++ entries now)) ≡ made =
      ap (λ cs. entries (from_entries {R = slice_cmp nat_cmp} (cs ++ entries now))) copied
      ∙ (ap (λ xs. entries (from_entries {R = slice_cmp nat_cmp} (gather ++ xs))) own ∙ (entries_over gather es now own rises rise ∙ sym made_is)) in
      is
      ∙ same_entries_map (from_sorted made) (from_entries (copies from to now ++ entries now))
      (entries_are made (ap (is_sorted (slice_cmp nat_cmp)) made_is ∙ whole) ∙ sym same)

-- ---- entries of which nothing of the others lies between

low_later : (k : List ℕ) (e : Entry) → passes After k e ≡ false → passes Before k e ≡ false
low_later k e = go (slice_cmp nat_cmp e.0 k)
  where
    go : (o : Ordering) → is_le o ≡ false → is_lt o ≡ false
    go Less h = h
    go Equal h = refl
    go Greater h = refl

none_low : (k : List ℕ) (es : List Entry) → NonePass (passes After k) es → NonePass (passes Before k) es
none_low k [] none = tt
none_low k (e ∷ es) none = (low_later k e none.0, none_low k es none.1)

pub over_run : (run later others : List Entry) → AllBehind run others → laid_over (run ++ later) others ≡ run ++ laid_over later others
over_run [] later others apart = refl
over_run (e ∷ run) later others apart =
    ap (λ first. first ++ e ∷ laid_over (run ++ later) (filter (lies_behind After e.0) others)) (filter_none (passes Before e.0) others (none_low e.0 others apart.0))
    ∙ ap (λ rest. e ∷ rest)
    (ap (laid_over (run ++ later)) (others_all (passes After e.0) others apart.0) ∙ over_run run later others apart.1)

pub behind_none : (run : List Entry) → AllBehind run []
behind_none [] = tt
behind_none (e ∷ run) = (tt, behind_none run)

pub behind_first : (run others : List Entry) (first : Entry) → AllPass (passes Before first.0) run → is_sorted (slice_cmp nat_cmp) (first ∷ others) ≡ true
    → AllBehind run (first ∷ others)
behind_first [] others first all rise = tt
behind_first (e ∷ run) others first all rise =
    let above : passes After e.0 first ≡ false = ap is_le (turned e.0 first.0 Less (is_less (slice_cmp nat_cmp e.0 first.0) all.0)) in (
      (above, none_later After e.0 first.0 others above (and_first (below_all (slice_cmp nat_cmp) first.0 others) (is_sorted (slice_cmp nat_cmp) others) rise)),
      behind_first run others first all.1 rise,
    )
