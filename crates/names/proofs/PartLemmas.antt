-- Lists of entries that are cut by a test.
use Rattle.std.proofs.Common.{◌≡◌, ℕ, ◌+◌, ◌-◌, ◌<◌, ◌≤◌, not, Bool, true, false, cond, List, [], ◌∷◌, ◌++◌, map, length, take, drop, get_or, refl, sym, ◌∙◌, ap, subst, arith, append_assoc, length-append}
use Rattle.std.specs.Prelude.{filter, min}
use Rattle.std.specs.Ordering.{nat_cmp}
use Rattle.std.specs.Cmp.Lexicographic.{slice_cmp}
use Rattle.std.specs.FinMap.{is_sorted}
use Rattle.std.proofs.lemmas.List.Sums.{sum_by-append}
use Rattle.std.proofs.lemmas.Bool.{true≢false}
use Rattle.std.proofs.lemmas.List.{take_more, drop_more, take-append-drop, take_all, drop_all, append-nil, get_or_default, drop-append-le, length-take, length-take-le, map_push, take_rest, drop_min}
use Rattle.std.proofs.lemmas.List.Elements.{filter-append}
use Rattle.names.specs.declared.content.Content.{Content}
use Rattle.names.specs.Contents.{entry_bytes}
use Rattle.names.proofs.CompareLemmas.{drop_parts}
use Rattle.names.specs.Private.Entries.{Entry, entries_bytes, IsVersion, begun, begun_within, joined, AllPass, NonePass, Falls, CutsAt, IsLastPass, OpensAt}

pub joined-append : (xs ys : List (List Entry)) → joined (xs ++ ys) ≡ joined xs ++ joined ys
joined-append [] ys = refl
joined-append (x ∷ xs) ys = ap (λ rest. x ++ rest) (joined-append xs ys) ∙ sym (append_assoc x (joined xs) (joined ys))

pub joined-push : (xs : List (List Entry)) (c : List Entry) → joined (xs ++ c ∷ []) ≡ joined xs ++ c
joined-push xs c = joined-append xs (c ∷ []) ∙ ap (λ rest. joined xs ++ rest) (append-nil c)

pub joined_at : (cs : List (List Entry)) (at : ℕ) (d : List Entry) → at < length cs
    → joined cs ≡ joined (take at cs) ++ (get_or cs at d ++ joined (drop (at + 1) cs))
joined_at cs at d inside =
    ap joined (sym (take-append-drop at cs) ∙ ap (λ rest. take at cs ++ rest) (drop_more cs at d inside))
    ∙ joined-append (take at cs) (get_or cs at d ∷ drop (at + 1) cs)

module _ (p : Entry → Bool) where
  pub filter_all : (es : List Entry) → AllPass p es → filter p es ≡ es
  filter_all [] all = refl
  filter_all (e ∷ es) all = ap (λ t. cond t (e ∷ filter p es) (filter p es)) all.0 ∙ ap (λ rest. e ∷ rest) (filter_all es all.1)

  pub filter_none : (es : List Entry) → NonePass p es → filter p es ≡ []
  filter_none [] none = refl
  filter_none (e ∷ es) none = ap (λ t. cond t (e ∷ filter p es) (filter p es)) none.0 ∙ filter_none es none.1

  pub others_none : (es : List Entry) → AllPass p es → filter (λ e. not (p e)) es ≡ []
  others_none [] all = refl
  others_none (e ∷ es) all =
      ap (λ t. cond (not t) (e ∷ filter (λ e. not (p e)) es) (filter (λ e. not (p e)) es)) all.0 ∙ others_none es all.1

  pub others_all : (es : List Entry) → NonePass p es → filter (λ e. not (p e)) es ≡ es
  others_all [] none = refl
  others_all (e ∷ es) none =
      ap (λ t. cond (not t) (e ∷ filter (λ e. not (p e)) es) (filter (λ e. not (p e)) es)) none.0 ∙ ap (λ rest. e ∷ rest) (others_all es none.1)

  pub falls_first : (xs ys : List Entry) → Falls p (xs ++ ys) → Falls p xs
  falls_first [] ys falls = tt
  falls_first (x ∷ xs) ys falls = (λ not_passed. none_first xs (falls.0 not_passed), falls_first xs ys falls.1)
    where
      none_first : (zs : List Entry) → NonePass p (zs ++ ys) → NonePass p zs
      none_first [] none = tt
      none_first (z ∷ zs) none = (none.0, none_first zs none.1)

  pub falls_second : (xs ys : List Entry) → Falls p (xs ++ ys) → Falls p ys
  falls_second [] ys falls = falls
  falls_second (x ∷ xs) ys falls = falls_second xs ys falls.1

  none_at : (xs : List Entry) (e : Entry) (ys : List Entry) → NonePass p (xs ++ e ∷ ys) → p e ≡ false
  none_at [] e ys none = none.0
  none_at (x ∷ xs) e ys none = none_at xs e ys none.1

  -- where an entry passes, so does each before it
  pub passes_to : (xs : List Entry) (e : Entry) (ys : List Entry) → Falls p (xs ++ e ∷ ys) → p e ≡ true → AllPass p (xs ++ e ∷ [])
  passes_to [] e ys falls passed = (passed, tt)
  passes_to (x ∷ xs) e ys falls passed = (go (p x) refl, passes_to xs e ys falls.1 passed)
    where
      go : (t : Bool) → p x ≡ t → p x ≡ true
      go true is = is
      go false is = absurd (true≢false (sym passed ∙ none_at xs e ys (falls.0 is)))

  -- where an entry does not pass, no later one does
  pub fails_from : (xs : List Entry) (e : Entry) (ys : List Entry) → Falls p (xs ++ e ∷ ys) → p e ≡ false → NonePass p ys
  fails_from [] e ys falls failed = falls.0 failed
  fails_from (x ∷ xs) e ys falls failed = fails_from xs e ys falls.1 failed

  -- ---- within one list

  at_place : (es : List Entry) (at : ℕ) (d : Entry) → at < length es → es ≡ take at es ++ get_or es at d ∷ drop (at + 1) es
  at_place es at d inside = sym (take-append-drop at es) ∙ ap (λ rest. take at es ++ rest) (drop_more es at d inside)

  pub low_more : (es : List Entry) (at : ℕ) (d : Entry) → Falls p es → at < length es → p (get_or es at d) ≡ true → AllPass p (take (at + 1) es)
  low_more es at d falls inside passed =
      subst (AllPass p) (sym (take_more es at d inside))
      (passes_to (take at es) (get_or es at d) (drop (at + 1) es) (subst (Falls p) (at_place es at d inside) falls) passed)

  pub high_less : (es : List Entry) (at : ℕ) (d : Entry) → Falls p es → at < length es → p (get_or es at d) ≡ false → NonePass p (drop at es)
  high_less es at d falls inside failed =
      subst (NonePass p) (sym (drop_more es at d inside))
      (failed, fails_from (take at es) (get_or es at d) (drop (at + 1) es) (subst (Falls p) (at_place es at d inside) falls) failed)

  pub cut_before : (es : List Entry) (at : ℕ) → CutsAt p es at → take at es ≡ filter p es
  cut_before es at cuts =
      sym (append-nil (take at es)) ∙ (ap (λ rest. take at es ++ rest) (sym (filter_none (drop at es) cuts.behind))
      ∙ (ap (λ first. first ++ filter p (drop at es)) (sym (filter_all (take at es) cuts.before))
      ∙ (sym (filter-append p (take at es) (drop at es)) ∙ ap (filter p) (take-append-drop at es))))

  pub cut_behind : (es : List Entry) (at : ℕ) → CutsAt p es at → drop at es ≡ filter (λ e. not (p e)) es
  cut_behind es at cuts =
      sym (others_all (drop at es) cuts.behind)
      ∙ (ap (λ first. first ++ filter (λ e. not (p e)) (drop at es)) (sym (others_none (take at es) cuts.before))
      ∙ (sym (filter-append (λ e. not (p e)) (take at es) (drop at es)) ∙ ap (filter (λ e. not (p e))) (take-append-drop at es)))

  -- ---- among chunks

  chunk_last : (cs : List (List Entry)) (at : ℕ) (d : List Entry) (answer : Bool) → at < length cs → (is : IsLastPass p (get_or cs at d) answer)
      → joined cs ≡ (joined (take at cs) ++ is.others) ++ is.last ∷ joined (drop (at + 1) cs)
  chunk_last cs at d answer inside is =
      joined_at cs at d inside
      ∙ (ap (λ chunk. joined (take at cs) ++ (chunk ++ joined (drop (at + 1) cs))) is.whole
      ∙ (ap (λ rest. joined (take at cs) ++ rest) (append_assoc is.others (is.last ∷ []) (joined (drop (at + 1) cs)))
      ∙ sym (append_assoc (joined (take at cs)) is.others (is.last ∷ joined (drop (at + 1) cs)))))

  pub chunks_before : (cs : List (List Entry)) (at : ℕ) (d : List Entry) → Falls p (joined cs) → at < length cs → IsLastPass p (get_or cs at d) true
      → AllPass p (joined (take (at + 1) cs))
  chunks_before cs at d falls inside is =
      let before = joined (take at cs) ++ is.others in
      let whole : joined (take (at + 1) cs) ≡ before ++ is.last ∷ [] =
      ap joined (take_more cs at d inside)
      ∙ (joined-push (take at cs) (get_or cs at d)
      ∙ (ap (λ chunk. joined (take at cs) ++ chunk) is.whole ∙ sym (append_assoc (joined (take at cs)) is.others (is.last ∷ [])))) in
      subst (AllPass p) (sym whole)
      (passes_to before is.last (joined (drop (at + 1) cs)) (subst (Falls p) (chunk_last cs at d true inside is) falls) (sym is.passed))

  pub chunks_behind : (cs : List (List Entry)) (at : ℕ) (d : List Entry) → Falls p (joined cs) → at < length cs → IsLastPass p (get_or cs at d) false
      → NonePass p (joined (drop (at + 1) cs))
  chunks_behind cs at d falls inside is =
      let before = joined (take at cs) ++ is.others in
      fails_from before is.last (joined (drop (at + 1) cs)) (subst (Falls p) (chunk_last cs at d false inside is) falls) (sym is.passed)

  pub falls_chunk : (cs : List (List Entry)) (at : ℕ) (d : List Entry) → Falls p (joined cs) → at < length cs → Falls p (get_or cs at d)
  falls_chunk cs at d falls inside =
      falls_first (get_or cs at d) (joined (drop (at + 1) cs))
      (falls_second (joined (take at cs)) (get_or cs at d ++ joined (drop (at + 1) cs)) (subst (Falls p) (joined_at cs at d inside) falls))

  -- all chunks pass
  pub opens_at_end : (cs : List (List Entry)) (at : ℕ) → OpensAt p cs at → length cs ≤ at → filter p (joined cs) ≡ joined (take at cs)
  opens_at_end cs at opens all =
      let whole : take at cs ≡ cs = take_all at cs all in
      ap (λ x. filter p (joined x)) (sym whole) ∙ filter_all (joined (take at cs)) opens.before

  pub none_behind_end : (cs : List (List Entry)) (at : ℕ) → OpensAt p cs at → length cs ≤ at → filter (λ e. not (p e)) (joined cs) ≡ []
  none_behind_end cs at opens all =
      let whole : take at cs ≡ cs = take_all at cs all in
      ap (λ x. filter (λ e. not (p e)) (joined x)) (sym whole) ∙ others_none (joined (take at cs)) opens.before

  pub before_open : (cs : List (List Entry)) (at place : ℕ) (d : List Entry) → OpensAt p cs at → at < length cs → CutsAt p (get_or cs at d) place
      → filter p (joined cs) ≡ joined (take at cs) ++ take place (get_or cs at d)
  before_open cs at place d opens inside cuts =
      ap (filter p) (joined_at cs at d inside)
      ∙ (filter-append p (joined (take at cs)) (get_or cs at d ++ joined (drop (at + 1) cs))
      ∙ (ap (λ first. first ++ filter p (get_or cs at d ++ joined (drop (at + 1) cs))) (filter_all (joined (take at cs)) opens.before)
      ∙ ap (λ rest. joined (take at cs) ++ rest)
      (filter-append p (get_or cs at d) (joined (drop (at + 1) cs))
      ∙ (ap (λ rest. filter p (get_or cs at d) ++ rest) (filter_none (joined (drop (at + 1) cs)) opens.behind)
      ∙ (append-nil (filter p (get_or cs at d)) ∙ sym (cut_before (get_or cs at d) place cuts))))))

  pub behind_open : (cs : List (List Entry)) (at place : ℕ) (d : List Entry) → OpensAt p cs at → at < length cs → CutsAt p (get_or cs at d) place
      → filter (λ e. not (p e)) (joined cs) ≡ drop place (get_or cs at d) ++ joined (drop (at + 1) cs)
  behind_open cs at place d opens inside cuts =
      ap (filter (λ e. not (p e))) (joined_at cs at d inside)
      ∙ (filter-append (λ e. not (p e)) (joined (take at cs)) (get_or cs at d ++ joined (drop (at + 1) cs))
      ∙ (ap (λ first. first ++ filter (λ e. not (p e)) (get_or cs at d ++ joined (drop (at + 1) cs))) (others_none (joined (take at cs)) opens.before)
      ∙ (filter-append (λ e. not (p e)) (get_or cs at d) (joined (drop (at + 1) cs))
      ∙ (ap (λ rest. filter (λ e. not (p e)) (get_or cs at d) ++ rest) (others_all (joined (drop (at + 1) cs)) opens.behind)
      ∙ ap (λ first. first ++ joined (drop (at + 1) cs)) (sym (cut_behind (get_or cs at d) place cuts))))))

  -- a cut lies inside a list whose last entry does not pass
  pub stops_inside : (es : List Entry) (at : ℕ) → IsLastPass p es false → CutsAt p es at → at < length es
  stops_inside es at is cuts = go (λ all. true≢false (sym (last_passes is.others (subst (AllPass p) (take_all at es all ∙ is.whole) cuts.before)) ∙ sym is.passed))
    where
      last_passes : (xs : List Entry) → AllPass p (xs ++ is.last ∷ []) → p is.last ≡ true
      last_passes [] all = all.0
      last_passes (x ∷ xs) all = last_passes xs all.1

      go : (length es ≤ at → ⊥) → at < length es
      go never = omega (arith, never)

  -- where the last entry passes, all do
  pub all_before : (es : List Entry) (len : ℕ) → Falls p es → IsLastPass p es true → len ≡ length es → CutsAt p es len
  all_before es len falls is len_is =
      let all : AllPass p es = subst (AllPass p) (sym is.whole) (passes_to is.others is.last [] (subst (Falls p) is.whole falls) (sym is.passed)) in
      record {
        inside = omega (arith, len_is);
        before = subst (AllPass p) (sym (take_all len es (omega (arith, len_is)))) all;
        behind = subst (NonePass p) (sym (drop_all len es (omega (arith, len_is)))) tt;
      }

-- ---- searches by halves

-- The edge lies between the two places.
pub record Narrows (p : Entry → Bool) (es : List Entry) (low high : ℕ) : Type 0 where
  pub order : low ≤ high
  pub inside : high ≤ length es
  pub before : AllPass p (take low es)
  pub behind : NonePass p (drop high es)

pub narrows_all : (p : Entry → Bool) (es : List Entry) → Narrows p es 0 (length es)
narrows_all p es = record {
  order = omega arith;
  inside = omega arith;
  before = tt;
  behind = subst (NonePass p) (sym (drop_all (length es) es (omega arith))) tt;
}

pub narrows_up : (p : Entry → Bool) (es : List Entry) (low high middle : ℕ) (d : Entry) → Falls p es → Narrows p es low high → middle < high
    → p (get_or es middle d) ≡ true → Narrows p es (middle + 1) high
narrows_up p es low high middle d falls narrows under passed = record {
  order = omega arith;
  inside = narrows.inside;
  before = let inside = narrows.inside in low_more p es middle d falls (omega arith) passed;
  behind = narrows.behind;
}

pub narrows_down : (p : Entry → Bool) (es : List Entry) (low high middle : ℕ) (d : Entry) → Falls p es → Narrows p es low high → low ≤ middle → middle < high
    → p (get_or es middle d) ≡ false → Narrows p es low middle
narrows_down p es low high middle d falls narrows above under failed = record {
  order = above;
  inside = let inside = narrows.inside in omega arith;
  before = narrows.before;
  behind = let inside = narrows.inside in high_less p es middle d falls (omega arith) failed;
}

pub narrowed : (p : Entry → Bool) (es : List Entry) (low high : ℕ) → Narrows p es low high → high ≤ low → CutsAt p es low
narrowed p es low high narrows closed =
    let order = narrows.order in
    let inside = narrows.inside in
    let same : high ≡ low = omega arith in
    record {
      inside = omega arith;
      before = narrows.before;
      behind = subst (λ at. NonePass p (drop at es)) same narrows.behind;
    }

-- The first chunk whose last entry does not pass is not before the first place, and not behind the second.
pub record Opening (p : Entry → Bool) (cs : List (List Entry)) (low high : ℕ) : Type 0 where
  pub order : low ≤ high
  pub inside : high ≤ length cs
  pub before : AllPass p (joined (take low cs))
  pub behind : NonePass p (joined (drop (high + 1) cs))
  pub open_chunk : (d : List Entry) → high < length cs → IsLastPass p (get_or cs high d) false

pub opening_all : (p : Entry → Bool) (cs : List (List Entry)) → Opening p cs 0 (length cs)
opening_all p cs = record {
  order = omega arith;
  inside = omega arith;
  before = tt;
  behind = subst (λ rest. NonePass p (joined rest)) (sym (drop_all (length cs + 1) cs (omega arith))) tt;
  open_chunk = λ d below. absurd (omega arith);
}

pub opening_up : (p : Entry → Bool) (cs : List (List Entry)) (low high middle : ℕ) (d : List Entry) → Falls p (joined cs) → Opening p cs low high → middle < high
    → IsLastPass p (get_or cs middle d) true → Opening p cs (middle + 1) high
opening_up p cs low high middle d falls opening under is = record {
  order = omega arith;
  inside = opening.inside;
  before = let inside = opening.inside in chunks_before p cs middle d falls (omega arith) is;
  behind = opening.behind;
  open_chunk = opening.open_chunk;
}

pub opening_down : (p : Entry → Bool) (cs : List (List Entry)) (low high middle : ℕ) (d : List Entry) → Falls p (joined cs) → Opening p cs low high → low ≤ middle
    → middle < high → IsLastPass p (get_or cs middle d) false → Opening p cs low middle
opening_down p cs low high middle d falls opening above under is = record {
  order = above;
  inside = let inside = opening.inside in omega arith;
  before = opening.before;
  behind = let inside = opening.inside in chunks_behind p cs middle d falls (omega arith) is;
  open_chunk = λ e within. subst (λ c. IsLastPass p c false) (get_or_default cs middle d e within) is;
}

pub opened : (p : Entry → Bool) (cs : List (List Entry)) (low high : ℕ) → Opening p cs low high → high ≤ low → OpensAt p cs low
opened p cs low high opening closed =
    let order = opening.order in
    let inside = opening.inside in
    let same : high ≡ low = omega arith in
    record {
      inside = omega arith;
      before = opening.before;
      behind = subst (λ at. NonePass p (joined (drop (at + 1) cs))) same opening.behind;
      open_chunk = subst (λ at. (d : List Entry) → at < length cs → IsLastPass p (get_or cs at d) false) same opening.open_chunk;
    }

-- ---- the last entry

pub last_pass : (p : Entry → Bool) (es : List Entry) (at : ℕ) (answer : Bool) → 0 < length es → at ≡ length es - 1 → ((d : Entry) → answer ≡ p (get_or es at d))
    → IsLastPass p es answer
last_pass p [] at answer some is passed = absurd (omega arith)
last_pass p (e ∷ es) at answer some is passed = record {
  others = take at (e ∷ es);
  last = get_or (e ∷ es) at e;
  whole = sym (sym (take_more (e ∷ es) at e (omega arith)) ∙ take_all (at + 1) (e ∷ es) (omega arith));
  passed = passed e;
}

-- ---- entries that are begun anew

pub begun_push : (count : ℕ) (beginning : List ℕ) (es : List Entry) (from at : ℕ) (d : Entry) → from ≤ at → at < length es
    → begun_within from (at + 1) count beginning es ≡ begun_within from at count beginning es ++ begun count beginning (get_or es at d) ∷ []
begun_push count beginning es from at d order inside =
    ap (map (begun count beginning)) (ap (drop from) (take_more es at d inside) ∙ drop-append-le from (take at es) (get_or es at d ∷ []) (omega (arith, length-take-le at es)))
    ∙ map_push (begun count beginning) (drop from (take at es)) (get_or es at d)

pub begun_none : (count : ℕ) (beginning : List ℕ) (es : List Entry) (from : ℕ) → begun_within from from count beginning es ≡ []
begun_none count beginning es from = ap (map (begun count beginning)) (drop_all from (take from es) (omega (arith, length-take from es)))

pub begun_same : (es : List Entry) → map (begun 0 []) es ≡ es
begun_same [] = refl
begun_same (e ∷ es) = ap (λ rest. e ∷ rest) (begun_same es)

pub begun_first : (es : List Entry) (place : ℕ) → begun_within 0 place 0 [] es ≡ take place es
begun_first es place = begun_same (take place es)

pub begun_second : (es : List Entry) (place : ℕ) → begun_within place (length es) 0 [] es ≡ drop place es
begun_second es place = begun_same (drop place (take (length es) es)) ∙ ap (drop place) (take_all (length es) es (omega arith))

pub begun_whole : (es : List Entry) → begun_within 0 (length es) 0 [] es ≡ es
begun_whole es = begun_second es 0

-- an entry, where one has to be named
pub some_entry : Entry
some_entry = ([], record { number = 0; held = [] })

pub both_are : (one other first second none : List Entry) (m n : ℕ) → none ≡ [] → m ≡ length one → first ≡ none ++ begun_within 0 m 0 [] one → n ≡ length other
    → second ≡ first ++ begun_within 0 n 0 [] other → second ≡ one ++ other
both_are one other first second none m n empty m_is first_is n_is second_is =
    second_is
    ∙ (ap (λ k. first ++ begun_within 0 k 0 [] other) n_is ∙ (ap (λ rest. first ++ rest) (begun_whole other)
    ∙ ap (λ es. es ++ other) (first_is ∙ (ap (λ k. none ++ begun_within 0 k 0 [] one) m_is ∙ (ap (λ rest. none ++ rest) (begun_whole one) ∙ ap (λ es. es ++ one) empty)))))

pub joined_more : (cs : List (List Entry)) (at : ℕ) (d : List Entry) → at < length cs → joined (take (at + 1) cs) ≡ joined (take at cs) ++ get_or cs at d
joined_more cs at d inside = ap joined (take_more cs at d inside) ∙ joined-push (take at cs) (get_or cs at d)

pub length_more : (cs : List (List Entry)) (at : ℕ) (chunk : List Entry) → at < length cs → chunk ≡ get_or cs at chunk
    → length (joined (take (at + 1) cs)) ≡ length (joined (take at cs)) + length chunk
length_more cs at chunk inside is =
    ap length (joined_more cs at chunk inside) ∙ (length-append (joined (take at cs)) (get_or cs at chunk) ∙ ap (λ c. length (joined (take at cs)) + length c) (sym is))

pub bytes_more : (cs : List (List Entry)) (at : ℕ) (chunk : List Entry) → at < length cs → chunk ≡ get_or cs at chunk
    → entries_bytes (joined (take (at + 1) cs)) ≡ entries_bytes (joined (take at cs)) + entries_bytes chunk
bytes_more cs at chunk inside is =
    ap entries_bytes (joined_more cs at chunk inside)
    ∙ (sum_by-append entry_bytes (joined (take at cs)) (get_or cs at chunk) ∙ ap (λ c. entries_bytes (joined (take at cs)) + entries_bytes c) (sym is))

pub is_version : (cs items : List (List Entry)) (at count bytes : ℕ) → is_sorted (slice_cmp nat_cmp) (joined cs) ≡ true → items ≡ cs → length items ≤ at
    → count ≡ length (joined (take at items)) → bytes ≡ entries_bytes (joined (take at items)) → IsVersion cs count bytes
is_version cs items at count bytes rise is all count_is bytes_are =
    let whole : take at items ≡ cs = take_all at items all ∙ is in
    record {
      rise = rise;
      count_is = count_is ∙ ap (λ x. length (joined x)) whole;
      bytes_are = bytes_are ∙ ap (λ x. entries_bytes (joined x)) whole;
    }

part_name : (count m r k : ℕ) (prefix suffix : List ℕ) → m ≡ min count (length prefix) → r ≡ count - length prefix → k ≡ min r (length suffix)
    → take (length prefix - m) (drop m prefix) ++ take (length suffix - k) (drop k suffix) ≡ drop count (prefix ++ suffix)
part_name count m r k prefix suffix m_is r_is k_is =
    ap (λ p. p ++ take (length suffix - k) (drop k suffix)) (take_rest prefix m ∙ (ap (λ n. drop n prefix) m_is ∙ drop_min count prefix))
    ∙ (ap (λ s. drop count prefix ++ s) (take_rest suffix k ∙ (ap (λ n. drop n suffix) (k_is ∙ ap (λ n. min n (length suffix)) r_is) ∙ drop_min (count - length prefix) suffix))
    ∙ sym (drop_parts count prefix suffix))

pub part_step : (self draft new chunk : List Entry) (from at count m r k : ℕ) (beginning prefix suffix : List ℕ) (content : Content)
    → draft ≡ self ++ begun_within from at count beginning chunk → from ≤ at → at < length chunk → ((d : Entry) → (get_or chunk at d).0 ≡ prefix ++ suffix)
    → ((d : Entry) → content ≡ (get_or chunk at d).1) → m ≡ min count (length prefix) → r ≡ count - length prefix → k ≡ min r (length suffix)
    → new ≡ draft ++ (beginning ++ (take (length prefix - m) (drop m prefix) ++ take (length suffix - k) (drop k suffix)), content) ∷ []
    → new ≡ self ++ begun_within from (at + 1) count beginning chunk
part_step self draft new chunk from at count m r k beginning prefix suffix content draft_is order inside name_is content_is m_is r_is k_is new_is =
    let e = get_or chunk at some_entry in
    let name : take (length prefix - m) (drop m prefix) ++ take (length suffix - k) (drop k suffix) ≡ drop count e.0 =
    part_name count m r k prefix suffix m_is r_is k_is ∙ ap (drop count) (sym (name_is some_entry)) in
    let last : (beginning ++ (take (length prefix - m) (drop m prefix) ++ take (length suffix - k) (drop k suffix)), content) ≡ begun count beginning e =
    ap (λ n. (beginning ++ n, content)) name ∙ ap (λ c. (beginning ++ drop count e.0, c)) (content_is some_entry) in
    new_is
    ∙ (ap (λ x. draft ++ x ∷ []) last
    ∙ (ap (λ es. es ++ begun count beginning e ∷ []) draft_is
    ∙ (append_assoc self (begun_within from at count beginning chunk) (begun count beginning e ∷ [])
    ∙ ap (λ rest. self ++ rest) (sym (begun_push count beginning chunk from at some_entry order inside)))))
