-- What is left of chunks.
use Rattle.std.proofs.Common.{◌≡◌, ℕ, zero, suc, ◌+◌, ◌-◌, ◌<◌, ◌≤◌, ◌&&◌, not, Bool, true, false, cond, List, [], ◌∷◌, ◌++◌, map, length, take, drop, get_or, max, refl, sym, ◌∙◌, ap, subst, arith, append_assoc, ⊎_elim}
use Rattle.std.specs.Prelude.{filter}
use Rattle.std.proofs.lemmas.Bool.Decides.{leb_tells}
use Rattle.std.specs.Ordering.{nat_cmp, is_lt, is_le, is_eq}
use Rattle.std.specs.Cmp.Lexicographic.{slice_cmp}
use Rattle.std.specs.FinMap.{is_sorted}
use Rattle.std.specs.FinMap.Entries.{below_all}
use Rattle.std.specs.declared.cmp.Ordering.{Ordering}
use Rattle.std.specs.declared.cmp.Ordering.TheVariants.{Less, Equal, Greater}
use Rattle.std.proofs.lemmas.Bool.{true≢false}
use Rattle.std.proofs.lemmas.List.{append-nil, take-append-drop, drop_all, drop_more, drop-append-le, get_or_default, length-take-le, length-drop, map-append, get_or-take, take_rest}
use Rattle.std.proofs.lemmas.List.Elements.{filter-append}
use Rattle.names.specs.declared.edge.Edge.TheVariants.{Before, After}
use Rattle.names.specs.Private.Entries.{Entry, begun, begun_within, joined, rest_of, passes, lies_behind, AllPass, NonePass, Falls, CutsAt, IsRest, IsRun, AllBehind, HasFirst, laid_over}
use Rattle.names.proofs.OrderLemmas.{and_first, and_second, none_later}
use Rattle.names.proofs.PartLemmas.{joined_at, falls_second, filter_all, filter_none, others_all, others_none, begun_same, begun_second}
use Rattle.names.proofs.MapLemmas.{above_after}
use Rattle.names.proofs.OverLemmas.{behind_more, filter_same, over_run, behind_none, behind_first}

all_drop : (p : Entry → Bool) (n : ℕ) (xs : List Entry) → AllPass p xs → AllPass p (drop n xs)
all_drop p zero xs all = all
all_drop p (suc n) [] all = all
all_drop p (suc n) (x ∷ xs) all = all_drop p n xs all.1

none_drop : (p : Entry → Bool) (n : ℕ) (xs : List Entry) → NonePass p xs → NonePass p (drop n xs)
none_drop p zero xs none = none
none_drop p (suc n) [] none = none
none_drop p (suc n) (x ∷ xs) none = none_drop p n xs none.1

none_second : (p : Entry → Bool) (xs ys : List Entry) → NonePass p (xs ++ ys) → NonePass p ys
none_second p [] ys none = none
none_second p (x ∷ xs) ys none = none_second p xs ys none.1

drop_further : {X : Type 0} (m n : ℕ) (xs : List X) → drop n (drop m xs) ≡ drop (m + n) xs
drop_further zero n xs = ap (λ k. drop k xs) same
  where
    same : n ≡ 0 + n
    same = omega arith
drop_further (suc m) n [] = drop_all n [] (omega arith) ∙ sym (drop_all (suc m + n) [] (omega arith))
drop_further (suc m) n (x ∷ xs) = drop_further m n xs ∙ ap (λ k. drop k (x ∷ xs)) same
  where
    same : suc (m + n) ≡ suc m + n
    same = omega arith

pub rises_second : (xs ys : List Entry) → is_sorted (slice_cmp nat_cmp) (xs ++ ys) ≡ true → is_sorted (slice_cmp nat_cmp) ys ≡ true
rises_second [] ys rise = rise
rises_second (x ∷ xs) ys rise = rises_second xs ys (and_second (below_all (slice_cmp nat_cmp) x.0 (xs ++ ys)) (is_sorted (slice_cmp nat_cmp) (xs ++ ys)) rise)

below_first : (k : List ℕ) (xs ys : List Entry) → below_all (slice_cmp nat_cmp) k (xs ++ ys) ≡ true → below_all (slice_cmp nat_cmp) k xs ≡ true
below_first k [] ys below = refl
below_first k (x ∷ xs) ys below =
    let first = and_first (is_lt (slice_cmp nat_cmp k x.0)) (below_all (slice_cmp nat_cmp) k (xs ++ ys)) below in
    ap (λ t. t && below_all (slice_cmp nat_cmp) k xs) first ∙ below_first k xs ys (and_second (is_lt (slice_cmp nat_cmp k x.0)) (below_all (slice_cmp nat_cmp) k (xs ++ ys)) below)

pub rises_first : (xs ys : List Entry) → is_sorted (slice_cmp nat_cmp) (xs ++ ys) ≡ true → is_sorted (slice_cmp nat_cmp) xs ≡ true
rises_first [] ys rise = refl
rises_first (x ∷ xs) ys rise =
    let first = below_first x.0 xs ys (and_first (below_all (slice_cmp nat_cmp) x.0 (xs ++ ys)) (is_sorted (slice_cmp nat_cmp) (xs ++ ys)) rise) in
    ap (λ t. t && is_sorted (slice_cmp nat_cmp) xs) first ∙ rises_first xs ys (and_second (below_all (slice_cmp nat_cmp) x.0 (xs ++ ys)) (is_sorted (slice_cmp nat_cmp) (xs ++ ys)) rise)

pub chunk_rises : (cs : List (List Entry)) (at : ℕ) (d : List Entry) → at < length cs → is_sorted (slice_cmp nat_cmp) (joined cs) ≡ true
    → is_sorted (slice_cmp nat_cmp) (get_or cs at d) ≡ true
chunk_rises cs at d inside rise =
    rises_first (get_or cs at d) (joined (drop (at + 1) cs))
    (rises_second (joined (take at cs)) (get_or cs at d ++ joined (drop (at + 1) cs)) (sym (ap (is_sorted (slice_cmp nat_cmp)) (joined_at cs at d inside)) ∙ rise))

get_or_beyond : {X : Type 0} (xs : List X) (at : ℕ) (d : X) → length xs ≤ at → get_or xs at d ≡ d
get_or_beyond [] at d beyond = refl
get_or_beyond (x ∷ xs) zero d beyond = absurd (omega arith)
get_or_beyond (x ∷ xs) (suc at) d beyond = get_or_beyond xs at d (omega arith)

drop_nil : (n : ℕ) (xs : List Entry) → xs ≡ [] → drop n xs ≡ []
drop_nil n xs none = ap (drop n) none ∙ drop_all n [] (omega arith)

pub rest_none : (cs : List (List Entry)) (chunk at : ℕ) → length cs ≤ chunk → rest_of cs chunk at ≡ []
rest_none cs chunk at beyond =
    ap (λ xs. xs ++ joined (drop (chunk + 1) cs)) (drop_nil at (get_or cs chunk []) (get_or_beyond cs chunk [] beyond))
    ∙ ap joined (drop_all (chunk + 1) cs (omega arith))

pub rest_start : (cs : List (List Entry)) (chunk : ℕ) → rest_of cs chunk 0 ≡ joined (drop chunk cs)
rest_start [] zero = refl
rest_start [] (suc chunk) = ap joined (drop_all (suc chunk + 1) [] (omega arith))
rest_start (c ∷ cs) zero = refl
rest_start (c ∷ cs) (suc chunk) = ap (λ n. get_or cs chunk [] ++ joined (drop n (c ∷ cs))) same ∙ rest_start cs chunk
  where
    same : suc chunk + 1 ≡ suc (chunk + 1)
    same = omega arith

-- ---- one chunk of what is left

module _ (p : Entry → Bool) (cs : List (List Entry)) (open_at at place to : ℕ) (chunk : List Entry) (falls : Falls p (joined cs)) (inside : open_at < length cs)
    (is : chunk ≡ get_or cs open_at chunk) (within : at ≤ length chunk) (cuts : CutsAt p chunk place) (to_is : to ≡ max place at) where
  abbrev after_it : List Entry
  after_it = joined (drop (open_at + 1) cs)

  here : get_or cs open_at [] ≡ chunk
  here = get_or_default cs open_at [] chunk inside ∙ sym is

  pub rest_here : (n : ℕ) → rest_of cs open_at n ≡ drop n chunk ++ joined (drop (open_at + 1) cs)
  rest_here n = ap (λ c. drop n c ++ joined (drop (open_at + 1) cs)) here

  pub to_inside : to ≤ length chunk
  to_inside = let low = cuts.inside in omega (arith, to_is)

  cut_low : at ≤ place → drop at chunk ≡ drop at (take place chunk) ++ drop place chunk
  cut_low low =
      let in_chunk = cuts.inside in
      ap (drop at) (sym (take-append-drop place chunk))
      ∙ drop-append-le at (take place chunk) (drop place chunk) (omega (arith, length-take-le place chunk in_chunk))

  none_high : place ≤ at → NonePass p (drop at chunk)
  none_high high =
      let far : place + (at - place) ≡ at = omega arith in
      subst (NonePass p) (drop_further place (at - place) chunk ∙ ap (λ n. drop n chunk) far) (none_drop p (at - place) (drop place chunk) cuts.behind)

  passing_low : at ≤ place → filter p (drop at chunk) ≡ drop at (take to chunk)
  passing_low low =
      let same : place ≡ to = omega (arith, to_is) in
      ap (filter p) (cut_low low)
      ∙ (filter-append p (drop at (take place chunk)) (drop place chunk)
      ∙ (ap (λ xs. xs ++ filter p (drop place chunk)) (filter_all p (drop at (take place chunk)) (all_drop p at (take place chunk) cuts.before))
      ∙ (ap (λ xs. drop at (take place chunk) ++ xs) (filter_none p (drop place chunk) cuts.behind)
      ∙ (append-nil (drop at (take place chunk)) ∙ ap (λ n. drop at (take n chunk)) same))))

  passing_high : place ≤ at → filter p (drop at chunk) ≡ drop at (take to chunk)
  passing_high high =
      let same : to ≡ at = omega (arith, to_is) in
      filter_none p (drop at chunk) (none_high high)
      ∙ sym (ap (λ n. drop at (take n chunk)) same ∙ drop_all at (take at chunk) (omega (arith, length-take-le at chunk within)))

  passing : filter p (drop at chunk) ≡ drop at (take to chunk)
  passing = ⊎_elim (λ q. passing_low q.1) (λ q. passing_high (omega (arith, q.1))) (leb_tells at place)

  others_low : at ≤ place → filter (λ e. not (p e)) (drop at chunk) ≡ drop to chunk
  others_low low =
      let same : place ≡ to = omega (arith, to_is) in
      ap (filter (λ e. not (p e))) (cut_low low)
      ∙ (filter-append (λ e. not (p e)) (drop at (take place chunk)) (drop place chunk)
      ∙ (ap (λ xs. xs ++ filter (λ e. not (p e)) (drop place chunk)) (others_none p (drop at (take place chunk)) (all_drop p at (take place chunk) cuts.before))
      ∙ (others_all p (drop place chunk) cuts.behind ∙ ap (λ n. drop n chunk) same)))

  others_high : place ≤ at → filter (λ e. not (p e)) (drop at chunk) ≡ drop to chunk
  others_high high =
      let same : at ≡ to = omega (arith, to_is) in
      others_all p (drop at chunk) (none_high high) ∙ ap (λ n. drop n chunk) same

  unpassing : filter (λ e. not (p e)) (drop at chunk) ≡ drop to chunk
  unpassing = ⊎_elim (λ q. others_low q.1) (λ q. others_high (omega (arith, q.1))) (leb_tells at place)

  -- where the cut lies inside the chunk, nothing later passes
  pub none_later_chunk : to < length chunk → NonePass p (joined (drop (open_at + 1) cs))
  none_later_chunk inner =
      let whole : joined cs ≡ joined (take open_at cs) ++ (chunk ++ after_it) = joined_at cs open_at chunk inside ∙ ap (λ c. joined (take open_at cs) ++ (c ++ after_it)) (sym is) in
      let own : chunk ++ after_it ≡ take place chunk ++ (drop place chunk ++ after_it) =
      ap (λ c. c ++ after_it) (sym (take-append-drop place chunk)) ∙ append_assoc (take place chunk) (drop place chunk) after_it in
      let more : Falls p (drop place chunk ++ after_it) =
      falls_second p (take place chunk) (drop place chunk ++ after_it)
      (subst (Falls p) own (falls_second p (joined (take open_at cs)) (chunk ++ after_it) (subst (Falls p) whole falls))) in
      fail_all (drop place chunk) (omega (arith, length-drop place chunk, to_is)) cuts.behind more
    where
      fail_all : (ds : List Entry) → 0 < length ds → NonePass p ds → Falls p (ds ++ after_it) → NonePass p after_it
      fail_all [] some none more = absurd (omega arith)
      fail_all (d ∷ ds) some none more = none_second p ds after_it (more.0 none.0)

  pub until_first : filter p (rest_of cs open_at at) ≡ drop at (take to chunk) ++ filter p (joined (drop (open_at + 1) cs))
  until_first = ap (filter p) (rest_here at) ∙ (filter-append p (drop at chunk) after_it ∙ ap (λ xs. xs ++ filter p after_it) passing)

  pub until_second : filter (λ e. not (p e)) (rest_of cs open_at at) ≡ drop to chunk ++ filter (λ e. not (p e)) (joined (drop (open_at + 1) cs))
  until_second =
      ap (filter (λ e. not (p e))) (rest_here at)
      ∙ (filter-append (λ e. not (p e)) (drop at chunk) after_it ∙ ap (λ xs. xs ++ filter (λ e. not (p e)) after_it) unpassing)

  module _ (count : ℕ) (beginning : List ℕ) (old mid new : List Entry) (rest : List Entry)
      (done : mid ++ map (begun count beginning) (filter p (rest_of cs open_at at)) ≡ old ++ map (begun count beginning) (filter p rest))
      (left : filter (λ e. not (p e)) (rest_of cs open_at at) ≡ filter (λ e. not (p e)) rest)
      (new_is : new ≡ mid ++ begun_within at to count beginning chunk) where
    more : new ++ map (begun count beginning) (filter p after_it) ≡ old ++ map (begun count beginning) (filter p rest)
    more =
        ap (λ n. n ++ map (begun count beginning) (filter p after_it)) new_is
        ∙ (append_assoc mid (begun_within at to count beginning chunk) (map (begun count beginning) (filter p after_it))
        ∙ (ap (λ xs. mid ++ xs)
        (sym (map-append (begun count beginning) (drop at (take to chunk)) (filter p after_it)) ∙ ap (map (begun count beginning)) (sym until_first)) ∙ done))

    pub stopped_added : to < length chunk → new ≡ old ++ map (begun count beginning) (filter p rest)
    stopped_added inner =
        sym (append-nil new)
        ∙ (ap (λ xs. new ++ map (begun count beginning) xs) (sym (filter_none p after_it (none_later_chunk inner))) ∙ more)

    pub stopped_left : to < length chunk → rest_of cs open_at to ≡ filter (λ e. not (p e)) rest
    stopped_left inner =
        rest_here to
        ∙ (ap (λ xs. drop to chunk ++ xs) (sym (others_all p after_it (none_later_chunk inner))) ∙ (sym until_second ∙ left))

    pub further_added : length chunk ≤ to → new ++ map (begun count beginning) (filter p (rest_of cs (open_at + 1) 0)) ≡ old ++ map (begun count beginning) (filter p rest)
    further_added all = ap (λ xs. new ++ map (begun count beginning) (filter p xs)) (rest_start cs (open_at + 1)) ∙ more

    pub further_left : length chunk ≤ to → filter (λ e. not (p e)) (rest_of cs (open_at + 1) 0) ≡ filter (λ e. not (p e)) rest
    further_left all =
        ap (filter (λ e. not (p e))) (rest_start cs (open_at + 1))
        ∙ (ap (λ xs. xs ++ filter (λ e. not (p e)) after_it) (sym (drop_all to chunk all)) ∙ (sym until_second ∙ left))

pub ended_added : (p : Entry → Bool) (cs : List (List Entry)) (chunk at count : ℕ) (beginning : List ℕ) (old new rest : List Entry) → length cs ≤ chunk
    → new ++ map (begun count beginning) (filter p (rest_of cs chunk at)) ≡ old ++ map (begun count beginning) (filter p rest)
    → new ≡ old ++ map (begun count beginning) (filter p rest)
ended_added p cs chunk at count beginning old new rest beyond done =
    sym (append-nil new) ∙ (ap (λ xs. new ++ map (begun count beginning) (filter p xs)) (sym (rest_none cs chunk at beyond)) ∙ done)

pub ended_left : (p : Entry → Bool) (cs : List (List Entry)) (chunk at : ℕ) (rest : List Entry) → length cs ≤ chunk
    → filter p (rest_of cs chunk at) ≡ filter p rest → rest_of cs chunk at ≡ filter p rest
ended_left p cs chunk at rest beyond left =
    rest_none cs chunk at beyond ∙ (ap (filter p) (sym (rest_none cs chunk at beyond)) ∙ left)

-- ---- the first entry that is left

module _ (cs : List (List Entry)) (chunk at : ℕ) (es : List Entry) (inside : chunk < length cs) (is : IsRest cs chunk at) (view_is : rest_of cs chunk at ≡ es) (d : Entry) where
  abbrev open_chunk : List Entry
  open_chunk = get_or cs chunk []

  abbrev first : Entry
  first = get_or open_chunk at d

  abbrev behind_it : List Entry
  behind_it = drop (at + 1) open_chunk ++ joined (drop (chunk + 1) cs)

  pub first_whole : es ≡ get_or (get_or cs chunk []) at d ∷ (drop (at + 1) (get_or cs chunk []) ++ joined (drop (chunk + 1) cs))
  first_whole = sym view_is ∙ ap (λ xs. xs ++ joined (drop (chunk + 1) cs)) (drop_more open_chunk at d (is.inside inside))

  pub rest_rises : is_sorted (slice_cmp nat_cmp) es ≡ true
  rest_rises =
      let suffix : is_sorted (slice_cmp nat_cmp) (open_chunk ++ joined (drop (chunk + 1) cs)) ≡ true =
      rises_second (joined (take chunk cs)) (open_chunk ++ joined (drop (chunk + 1) cs)) (ap (is_sorted (slice_cmp nat_cmp)) (sym (joined_at cs chunk [] inside)) ∙ is.rise) in
      let parts : open_chunk ++ joined (drop (chunk + 1) cs) ≡ take at open_chunk ++ (drop at open_chunk ++ joined (drop (chunk + 1) cs)) =
      ap (λ c. c ++ joined (drop (chunk + 1) cs)) (sym (take-append-drop at open_chunk)) ∙ append_assoc (take at open_chunk) (drop at open_chunk) (joined (drop (chunk + 1) cs)) in
      ap (is_sorted (slice_cmp nat_cmp)) (sym view_is)
      ∙ rises_second (take at open_chunk) (drop at open_chunk ++ joined (drop (chunk + 1) cs)) (ap (is_sorted (slice_cmp nat_cmp)) (sym parts) ∙ suffix)

  first_below : below_all (slice_cmp nat_cmp) first.0 behind_it ≡ true
  first_below =
      and_first (below_all (slice_cmp nat_cmp) first.0 behind_it) (is_sorted (slice_cmp nat_cmp) behind_it)
      (ap (is_sorted (slice_cmp nat_cmp)) (sym first_whole) ∙ rest_rises)

  pub has_first : (name : List ℕ) → first.0 ≡ name → HasFirst name es
  has_first name is_name = record {
    content = first.1;
    others = behind_it;
    whole = first_whole ∙ ap (λ n. (n, first.1) ∷ behind_it) is_name;
    rise = rest_rises;
  }

  not_low : (name : List ℕ) → NonePass (passes Before name) es → passes Before name first ≡ false
  not_low name none = (subst (NonePass (passes Before name)) first_whole none).0

  pub without_other : (name : List ℕ) → NonePass (passes Before name) es → is_eq (slice_cmp nat_cmp first.0 name) ≡ false → es ≡ filter (lies_behind After name) es
  without_other name none apart =
      let above : passes After name first ≡ false = go (slice_cmp nat_cmp first.0 name) (not_low name none) apart in
      let all : NonePass (passes After name) (first ∷ behind_it) = (above, none_later After name first.0 behind_it above first_below) in
      sym (others_all (passes After name) es (subst (NonePass (passes After name)) (sym first_whole) all))
    where
      go : (o : Ordering) → is_lt o ≡ false → is_eq o ≡ false → is_le o ≡ false
      go Less low tie = absurd (true≢false low)
      go Equal low tie = absurd (true≢false tie)
      go Greater low tie = refl

  pub without_first : (name : List ℕ) → slice_cmp nat_cmp first.0 name ≡ Equal → first.0 ≡ name
      → drop (at + 1) (get_or cs chunk []) ++ joined (drop (chunk + 1) cs) ≡ filter (lies_behind After name) es
  without_first name tie same =
      sym (ap (filter (lies_behind After name)) first_whole
      ∙ (ap (λ o. cond (not (is_le o)) (first ∷ filter (lies_behind After name) behind_it) (filter (lies_behind After name) behind_it)) tie
      ∙ others_all (passes After name) behind_it (subst (λ n. NonePass (passes After n) behind_it) same (above_after first.0 behind_it first_below))))

-- ---- a chunk that is laid over what is left

pub run_to_end : (es others : List Entry) (at to : ℕ) → at < length es → to ≡ length es → others ≡ [] → IsRun es others at to
run_to_end es others at to inside is none = record {
  order = omega (arith, is);
  inside = omega (arith, is);
  apart = subst (AllBehind (drop (at + 1) (take to es))) (sym none) (behind_none (drop (at + 1) (take to es)));
}

pub run_to_first : (es others : List Entry) (name : List ℕ) (at place to : ℕ) → at < length es → CutsAt (passes Before name) es place → to ≡ max place (at + 1)
    → HasFirst name others → IsRun es others at to
run_to_first es others name at place to inside cuts is first =
    let low = cuts.inside in
    let p = passes Before name in
    let all : AllPass p (drop (at + 1) (take to es)) =
    ⊎_elim
    (λ q. let same : place ≡ to = omega (arith, q.1, is) in subst (λ n. AllPass p (drop (at + 1) (take n es))) same (all_drop p (at + 1) (take place es) cuts.before))
    (λ q.
    let same : to ≡ at + 1 = omega (arith, q.1, is) in
    let none : drop (at + 1) (take to es) ≡ [] =
    ap (λ n. drop (at + 1) (take n es)) same ∙ drop_all (at + 1) (take (at + 1) es) (omega (arith, length-take-le (at + 1) es (omega arith))) in
    subst (AllPass p) (sym none) tt)
    (leb_tells (at + 1) place) in
    record {
      order = omega (arith, is);
      inside = omega (arith, is, low);
      apart =
          subst (AllBehind (drop (at + 1) (take to es))) (sym first.whole)
          (behind_first (drop (at + 1) (take to es)) first.others (name, first.content) all (ap (is_sorted (slice_cmp nat_cmp)) (sym first.whole) ∙ first.rise));
    }

pub over_step : (es rest one two mid first new whole : List Entry) (name : List ℕ) (at to : ℕ) (d : Entry) (later : List Entry) → at < length es → (get_or es at d).0 ≡ name
    → mid ++ laid_over (drop at es ++ later) rest ≡ whole → first ≡ mid ++ map (begun 0 []) (filter (passes Before name) rest)
    → one ≡ filter (lies_behind Before name) rest → two ≡ filter (lies_behind After name) one → IsRun es two at to → new ≡ first ++ begun_within at to 0 [] es
    → new ++ laid_over (drop to es ++ later) two ≡ whole
over_step es rest one two mid first new whole name at to d later inside name_is done first_is one_is two_is run new_is =
    let e = get_or es at d in
    let order = run.order in
    let last = run.inside in
    let more = drop (at + 1) (take to es) in
    let p = passes Before name in
    let kept : two ≡ filter (lies_behind After name) rest =
    two_is ∙ (ap (filter (lies_behind After name)) one_is ∙ filter_same (lies_behind After name) (lies_behind Before name) (behind_more name) rest) in
    let left : drop (at + 1) es ≡ more ++ drop to es =
    ap (drop (at + 1)) (sym (take-append-drop to es)) ∙ drop-append-le (at + 1) (take to es) (drop to es) (omega (arith, length-take-le to es last)) in
    let part : begun_within at to 0 [] es ≡ e ∷ more =
    begun_same (drop at (take to es))
    ∙ (drop_more (take to es) at d (omega (arith, length-take-le to es last)) ∙ ap (λ x. x ∷ more) (get_or-take to es at d order)) in
    let tail = laid_over (drop to es ++ later) two in
    let pieces : new ≡ (mid ++ filter p rest) ++ e ∷ more =
    new_is ∙ (ap (λ xs. xs ++ begun_within at to 0 [] es) (first_is ∙ ap (λ xs. mid ++ xs) (begun_same (filter p rest))) ∙ ap (λ xs. (mid ++ filter p rest) ++ xs) part) in
    let rest_is : more ++ tail ≡ laid_over (drop (at + 1) es ++ later) (filter (lies_behind After name) rest) =
    sym (over_run more (drop to es ++ later) two run.apart)
    ∙ (ap (λ xs. laid_over xs two) (sym (append_assoc more (drop to es) later) ∙ ap (λ xs. xs ++ later) (sym left)) ∙ ap (laid_over (drop (at + 1) es ++ later)) kept) in
    ap (λ n. n ++ tail) pieces
    ∙ (append_assoc (mid ++ filter p rest) (e ∷ more) tail
    ∙ (append_assoc mid (filter p rest) (e ∷ (more ++ tail))
    ∙ (ap (λ xs. mid ++ (filter p rest ++ e ∷ xs)) rest_is
    ∙ (ap (λ n. mid ++ (filter (passes Before n) rest ++ e ∷ laid_over (drop (at + 1) es ++ later) (filter (lies_behind After n) rest))) (sym name_is)
    ∙ (ap (λ xs. mid ++ laid_over (xs ++ later) rest) (sym (drop_more es at d inside)) ∙ done)))))

pub over_end : (es later rest mid whole : List Entry) (at : ℕ) → length es ≤ at → mid ++ laid_over (drop at es ++ later) rest ≡ whole
    → mid ++ laid_over later rest ≡ whole
over_end es later rest mid whole at all done = ap (λ xs. mid ++ laid_over (xs ++ later) rest) (sym (drop_all at es all)) ∙ done

-- ---- chunks that are laid over what is left

pub chunk_step : (cs : List (List Entry)) (at : ℕ) (chunk mid new rest left whole : List Entry) → at < length cs → chunk ≡ get_or cs at chunk
    → mid ++ laid_over (joined (drop at cs)) rest ≡ whole
    → ((later : List Entry) → new ++ laid_over later left ≡ mid ++ laid_over (chunk ++ later) rest)
    → new ++ laid_over (joined (drop (at + 1) cs)) left ≡ whole
chunk_step cs at chunk mid new rest left whole inside is done added =
    added (joined (drop (at + 1) cs))
    ∙ (ap (λ xs. mid ++ laid_over xs rest)
    (ap (λ c. c ++ joined (drop (at + 1) cs)) is ∙ ap joined (sym (drop_more cs at chunk inside))) ∙ done)

pub chunks_end : (cs : List (List Entry)) (at : ℕ) (mid rest new whole : List Entry) → length cs ≤ at → mid ++ laid_over (joined (drop at cs)) rest ≡ whole
    → new ≡ mid ++ rest → new ≡ whole
chunks_end cs at mid rest new whole all done new_is = new_is ∙ (ap (λ xs. mid ++ laid_over (joined xs) rest) (sym (drop_all at cs all)) ∙ done)

pub added_rest : (cs : List (List Entry)) (chunk at len : ℕ) (here old mid new es : List Entry) (later : List (List Entry)) → chunk < length cs → here ≡ get_or cs chunk here
    → rest_of cs chunk at ≡ es → len ≡ length here → mid ≡ old ++ begun_within at len 0 [] here
    → later ≡ take (length cs - (chunk + 1)) (drop (chunk + 1) cs) → new ≡ mid ++ joined later → new ≡ old ++ es
added_rest cs chunk at len here old mid new es later inside is view_is len_is mid_is later_is new_is =
    let own : get_or cs chunk [] ≡ here = get_or_default cs chunk [] here inside ∙ sym is in
    new_is
    ∙ (ap (λ xs. mid ++ joined xs) (later_is ∙ take_rest cs (chunk + 1))
    ∙ (ap (λ xs. xs ++ joined (drop (chunk + 1) cs)) (mid_is ∙ ap (λ xs. old ++ xs) (ap (λ n. begun_within at n 0 [] here) len_is ∙ begun_second here at))
    ∙ (append_assoc old (drop at here) (joined (drop (chunk + 1) cs))
    ∙ ap (λ xs. old ++ xs) (ap (λ c. drop at c ++ joined (drop (chunk + 1) cs)) (sym own) ∙ view_is))))
