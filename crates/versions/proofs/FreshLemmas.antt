-- Contents that are in no segment yet, and their analyses.
use Rattle.std.proofs.Common.{◌≡◌, ◌≢◌, ℕ, ◌+◌, ◌<◌, ◌≤◌, ◌==◌, ◌⊎◌, inl, inr, Bool, true, false, List, [], ◌∷◌, ◌++◌, length, take, drop, get_or, Some, None, refl, sym, ◌∙◌, ap, subst, arith}
use Rattle.std.specs.Prelude.{All, Option, is_some, replicate}
use Rattle.std.proofs.Math.ListN.{set}
use Rattle.std.specs.List.Sorted.{IsStrictlyIncreasing}
use Rattle.std.proofs.lemmas.Bool.{cases_lt}
use Rattle.std.proofs.lemmas.Bool.Decides.{nat_tests}
use Rattle.std.proofs.lemmas.List.{get_or_past, get_or-replicate, get_or-set_same, get_or-set_other, length-set, length-replicate, get_or-map, get_or-take, get_or-drop, length-take-le, length-drop, map-append, map_push}
use Rattle.std.proofs.lemmas.List.Elements.{All-nil, All-cons, All-append, All-weaker, All-map, Contains-append_left, Contains-append_right, Contains-push}
use Rattle.query.specs.Trigrams.{ListsTrigrams, trigrams_of_body}
use Rattle.names.specs.declared.content.Content.{Content}
use Rattle.std.specs.Borrow.{Bor}
use Rattle.segments.specs.Contents.{Content as Trigrams, has, numbers_of}
use Rattle.segments.specs.Bodies.{known_content, body_content}
use Rattle.std.proofs.lemmas.List.Kept.{AllPairs-from_increasing}
use Rattle.segments.proofs.Rising.{rising_from_pairs, rising-push}
use Rattle.segments.proofs.Keyings.{has-trigrams_in, trigrams_in-rising}
use Rattle.segments.proofs.SetLemmas.{contains-has}
use Rattle.segments.proofs.Building.{same_truth}
use Rattle.versions.specs.Private.Version.{Entry, IsSaid}
use Rattle.versions.specs.Private.Fresh.{no_entry, as_entry, unnamed, entry_at, number_at, ArePlaces, SetsPlace, AreAnalysed, NumbersTell, IsContentOf, AddsContent}
use Rattle.versions.proofs.SaidLemmas.{has_of, pairs-append}

-- ---- marks

pub marks_nothing : (first number place : ℕ) (places : List (Option ℕ)) → ((k : ℕ) → k < length places → number ≢ first + k)
    → SetsPlace first number place places places
marks_nothing first number place places past = record {
  length_is = refl;
  here = λ k inside is. absurd (past k inside is);
  others = λ k other. refl;
}

pub marks_one : (first number place at : ℕ) (places : List (Option ℕ)) → at < length places → number ≡ first + at
    → SetsPlace first number place places (set places at (Some place))
marks_one first number place at places inside number_is = record {
  length_is = length-set places at (Some place);
  here = λ k within is. (let same : k ≡ at = omega arith in
      subst (λ (j : ℕ). get_or (set places at (Some place)) j None ≡ Some place) (sym same) (get_or-set_same places at (Some place) None inside));
  others = λ k other. get_or-set_other places at k (Some place) None (λ same. other (omega (arith, same, number_is)));
}

-- ---- places

abbrev no_number : Option ℕ
no_number = None

pub places_none : (first count : ℕ) (es : List Entry) (places : List (Option ℕ)) → places ≡ replicate count None → ArePlaces first count es 0 places
places_none first count es places is = record {
  count_is = ap length is ∙ length-replicate count no_number;
  tells = λ k place there. none k place (ap (λ (ps : List (Option ℕ)). get_or ps k None) (sym is) ∙ there);
  found = λ i k before. absurd (omega (arith, before));
}
  where
    empty : (k : ℕ) → get_or (replicate count no_number) k None ≡ None
    empty k = go (cases_lt k count)
      where
        go : (k < count) ⊎ (count ≤ k) → get_or (replicate count no_number) k None ≡ None
        go (inl less) = get_or-replicate count k no_number no_number less
        go (inr past) = get_or_past (replicate count no_number) k no_number (omega (arith, past, length-replicate count no_number))

    none : (k place : ℕ) → get_or (replicate count no_number) k None ≡ Some place → (place < length es) × (number_at es place ≡ first + k)
    none k place there = absurd (not_a (sym (empty k) ∙ there))
      where
        not_a : ◌≡◌ {A = Option ℕ} None (Some place) → ⊥
        not_a e = cc

pub places_next : (first count place : ℕ) (es : List Entry) (old new : List (Option ℕ)) → place < length es → ArePlaces first count es place old
    → SetsPlace first (number_at es place) place old new → ArePlaces first count es (place + 1) new
places_next first count place es old new inside are marks = record {
  count_is = marks.length_is ∙ are.count_is;
  tells = tells;
  found = found;
}
  where
    number : ℕ
    number = number_at es place

    tells : (k p : ℕ) → get_or new k None ≡ Some p → (p < length es) × (number_at es p ≡ first + k)
    tells k p there = go (number_at es place == first + k) refl
      where
        at_length : (k < length old) ⊎ (length old ≤ k) → number_at es place ≡ first + k → (p < length es) × (number_at es p ≡ first + k)
        at_length (inl less) is =
            let same : place ≡ p = cc (marks.here k less is, there) in
            (subst (λ (q : ℕ). q < length es) same inside, subst (λ (q : ℕ). number_at es q ≡ first + k) same is)
        at_length (inr past) is =
            let none : get_or new k None ≡ None = get_or_past new k None (omega (arith, past, marks.length_is)) in
            absurd (cc (none, there))

        go : (t : Bool) → (number_at es place == first + k) ≡ t → (p < length es) × (number_at es p ≡ first + k)
        go true e = at_length (cases_lt k (length old)) (let is : number_at es place ≡ first + k = grind (arith, nat_tests) in is)
        go false e =
            let other : number_at es place ≢ first + k = grind (arith, nat_tests) in
            are.tells k p (sym (marks.others k other) ∙ there)

    found : (i k : ℕ) → i < place + 1 → number_at es i ≡ first + k → k < count → is_some (get_or new k None) ≡ true
    found i k before is less = go (number_at es place == first + k) refl
      where
        go : (t : Bool) → (number_at es place == first + k) ≡ t → is_some (get_or new k None) ≡ true
        go true e =
            let same : number_at es place ≡ first + k = grind (arith, nat_tests) in
            ap is_some (marks.here k (omega (arith, less, are.count_is)) same)
        go false e =
            let other : number_at es place ≢ first + k = grind (arith, nat_tests) in
            ap is_some (marks.others k other) ∙ are.found i k (earlier (cases_lt i place) other) is less
          where
            earlier : (i < place) ⊎ (place ≤ i) → number_at es place ≢ first + k → i < place
            earlier (inl lt) other = lt
            earlier (inr ge) other =
                let same : i ≡ place = omega (arith, before, ge) in
                absurd (other (ap (number_at es) (sym same) ∙ is))

-- ---- analyses

-- the list has exactly the trigrams of the body
listed : (body trigrams : List ℕ) → ListsTrigrams body trigrams → (t : ℕ) → has trigrams t ≡ trigrams_of_body body t
listed body trigrams lists t =
    same_truth (has trigrams t) (trigrams_of_body body t) (λ there. (lists.members t).0 (contains-has trigrams t there))
    (λ there. has_of trigrams t ((lists.members t).1 there))

pub analysed_none : (first : ℕ) (es : List Entry) (all : List Trigrams) → all ≡ [] → AreAnalysed first (first + 0) es all
analysed_none first es all none =
    subst (AreAnalysed first (first + 0) es) (sym none)
    (record {
      in_order = record { numbers = rising_from_pairs [] (λ i j d before inside. absurd (omega (arith, inside))); trigrams = All-nil (λ (c : Trigrams). IsStrictlyIncreasing c.trigrams) };
      from = All-nil (λ (c : Trigrams). first ≤ c.number);
      below = All-nil (λ (c : Trigrams). c.number < first + 0);
      found = λ i inside from less. absurd (omega (arith, from, less));
    })

module _ (first at : ℕ) (es : List Entry) (all : List Trigrams) (are : AreAnalysed first (first + at) es all) where
  below_more : All (λ (c : Trigrams). c.number < first + (at + 1)) all
  below_more =
      All-weaker (λ (c : Trigrams). c.number < first + at) (λ (c : Trigrams). c.number < first + (at + 1)) (λ c less. omega (arith, less)) all are.below

  pub analysed_same : ((i : ℕ) → i < length es → number_at es i ≢ first + at) → AreAnalysed first (first + (at + 1)) es all
  analysed_same none = record {
    in_order = are.in_order;
    from = are.from;
    below = below_more;
    found = λ i inside from less. are.found i inside from (let differs = none i inside in omega (arith, from, less, differs));
  }

  module _ (place : ℕ) (one : Trigrams) (tell : NumbersTell es) (inside : place < length es) (number_is : number_at es place ≡ first + at)
      (is : IsContentOf (first + at) (entry_at es place).1.held one) where
    said_then : (i : ℕ) → i < length es → first ≤ number_at es i → number_at es i < first + (at + 1) → IsSaid (all ++ one ∷ []) (entry_at es i).1
    said_then i within from less = go (cases_lt (number_at es i) (first + at))
      where
        old : IsSaid all (entry_at es i).1 → IsSaid (all ++ one ∷ []) (entry_at es i).1
        old said = record {
          trigrams = said.trigrams;
          there = Contains-append_left all (one ∷ []) said.trigrams said.there;
          number_is = said.number_is;
          same = said.same;
        }

        go : (number_at es i < first + at) ⊎ (first + at ≤ number_at es i) → IsSaid (all ++ one ∷ []) (entry_at es i).1
        go (inl before) = old (are.found i within from before)
        go (inr ge) =
            let at_it : number_at es i ≡ first + at = omega (arith, ge, less) in
            let body : (entry_at es place).1.held ≡ (entry_at es i).1.held = tell place i inside within (number_is ∙ sym at_it) in
            record {
              trigrams = one;
              there = Contains-push all one;
              number_is = is.number_is ∙ sym at_it;
              same = λ t. is.same t ∙ ap (λ (b : List ℕ). trigrams_of_body b t) body;
            }

    pub analysed_more : AreAnalysed first (first + (at + 1)) es (all ++ one ∷ [])
    analysed_more = record {
      in_order = record {
        numbers =
            subst IsStrictlyIncreasing (sym (map_push (λ (c : Trigrams). c.number) all one))
            (rising-push (numbers_of all) one.number are.in_order.numbers
            (All-map (λ n. n < one.number) (λ (c : Trigrams). c.number) all
            (let n_is = is.number_is in All-weaker (λ (c : Trigrams). c.number < first + at) (λ (c : Trigrams). c.number < one.number) (λ c less. omega (arith, less, n_is)) all are.below)));
        trigrams =
            All-append (λ (c : Trigrams). IsStrictlyIncreasing c.trigrams) all (one ∷ []) are.in_order.trigrams
            (All-cons (λ (c : Trigrams). IsStrictlyIncreasing c.trigrams) one [] is.rising (All-nil (λ (c : Trigrams). IsStrictlyIncreasing c.trigrams)));
      };
      from =
          All-append (λ (c : Trigrams). first ≤ c.number) all (one ∷ []) are.from
          (All-cons (λ (c : Trigrams). first ≤ c.number) one [] (let n_is = is.number_is in omega (arith, n_is)) (All-nil (λ (c : Trigrams). first ≤ c.number)));
      below =
          All-append (λ (c : Trigrams). c.number < first + (at + 1)) all (one ∷ []) below_more
          (All-cons (λ (c : Trigrams). c.number < first + (at + 1)) one [] (let n_is = is.number_is in omega (arith, n_is)) (All-nil (λ (c : Trigrams). c.number < first + (at + 1))));
      found = said_then;
    }

-- ---- two parts, one behind the other

rising-append : (n : ℕ) (xs ys : List ℕ) → IsStrictlyIncreasing xs → IsStrictlyIncreasing ys → All (λ x. x < n) xs → All (λ y. n ≤ y) ys → IsStrictlyIncreasing (xs ++ ys)
rising-append n xs ys one other below from =
    rising_from_pairs (xs ++ ys)
    (pairs-append (λ x y. x < y) xs ys (AllPairs-from_increasing xs one) (AllPairs-from_increasing ys other)
    (All-weaker (λ x. x < n) (λ x. All (λ y. x < y) ys) (λ x less. All-weaker (λ y. n ≤ y) (λ y. x < y) (λ y ge. omega (arith, less, ge)) ys from) xs below))

parts_rise : (middle : ℕ) (all more : List Trigrams) → IsStrictlyIncreasing (numbers_of all) → IsStrictlyIncreasing (numbers_of more)
    → All (λ (c : Trigrams). c.number < middle) all → All (λ (c : Trigrams). middle ≤ c.number) more → IsStrictlyIncreasing (numbers_of (all ++ more))
parts_rise middle all more one other below from =
    subst IsStrictlyIncreasing (sym (map-append (λ (c : Trigrams). c.number) all more))
    (rising-append middle (numbers_of all) (numbers_of more) one other (All-map (λ n. n < middle) (λ (c : Trigrams). c.number) all below)
    (All-map (λ n. middle ≤ n) (λ (c : Trigrams). c.number) more from))

pub analysed_both : (first middle end : ℕ) (es : List Entry) (all more both : List Trigrams) → first ≤ middle → middle ≤ end
    → AreAnalysed first middle es all → AreAnalysed middle end es more → both ≡ all ++ more → AreAnalysed first end es both
analysed_both first middle end es all more both low high one other is =
    subst (AreAnalysed first end es) (sym is)
    (record {
      in_order = record {
        numbers = parts_rise middle all more one.in_order.numbers other.in_order.numbers one.below other.from;
        trigrams = All-append (λ (c : Trigrams). IsStrictlyIncreasing c.trigrams) all more one.in_order.trigrams other.in_order.trigrams;
      };
      from =
          All-append (λ (c : Trigrams). first ≤ c.number) all more one.from
          (All-weaker (λ (c : Trigrams). middle ≤ c.number) (λ (c : Trigrams). first ≤ c.number) (λ c from. omega (arith, from, low)) more other.from);
      below =
          All-append (λ (c : Trigrams). c.number < end) all more
          (All-weaker (λ (c : Trigrams). c.number < middle) (λ (c : Trigrams). c.number < end) (λ c less. omega (arith, less, high)) all one.below) other.below;
      found = found;
    })
  where
    left : (c : Content) → IsSaid all c → IsSaid (all ++ more) c
    left c said = record { trigrams = said.trigrams; there = Contains-append_left all more said.trigrams said.there; number_is = said.number_is; same = said.same }

    right : (c : Content) → IsSaid more c → IsSaid (all ++ more) c
    right c said = record { trigrams = said.trigrams; there = Contains-append_right all more said.trigrams said.there; number_is = said.number_is; same = said.same }

    found : (i : ℕ) → i < length es → first ≤ number_at es i → number_at es i < end → IsSaid (all ++ more) (entry_at es i).1
    found i inside from less = go (cases_lt (number_at es i) middle)
      where
        go : (number_at es i < middle) ⊎ (middle ≤ number_at es i) → IsSaid (all ++ more) (entry_at es i).1
        go (inl before) = left (entry_at es i).1 (one.found i inside from before)
        go (inr behind) = right (entry_at es i).1 (other.found i inside behind less)

module _ (first : ℕ) (es : List Entry) (done : ℕ) (places : List (Option ℕ)) (are : ArePlaces first (length places) es done places) (at : ℕ) (within : at ≤ length places) where
  pub places_before : (front : List (Option ℕ)) → front ≡ take at places → ArePlaces first (length front) es done front
  places_before front is = record {
    count_is = refl;
    tells = λ k place there. go k place there (cases_lt k at);
    found = λ i k before number_is less. (
        let low : k < at = omega (arith, less, long) in
        ap is_some (same k low) ∙ are.found i k before number_is (omega (arith, low, within)));
  }
    where
      long : length front ≡ at
      long = ap length is ∙ length-take-le at places within

      same : (k : ℕ) → k < at → get_or front k None ≡ get_or places k None
      same k low = ap (λ (ps : List (Option ℕ)). get_or ps k None) is ∙ get_or-take at places k None low

      go : (k place : ℕ) → get_or front k None ≡ Some place → (k < at) ⊎ (at ≤ k) → (place < length es) × (number_at es place ≡ first + k)
      go k place there (inl low) = are.tells k place (sym (same k low) ∙ there)
      go k place there (inr past) =
          let none : get_or front k None ≡ None = get_or_past front k None (omega (arith, past, long)) in
          absurd (cc (none, there))

  pub places_behind : (back : List (Option ℕ)) → back ≡ drop at places → ArePlaces (first + at) (length back) es done back
  places_behind back is = record {
    count_is = refl;
    tells = λ k place there. (
        let told = are.tells (at + k) place (sym (same k) ∙ there) in
        (told.0, (let n_is = told.1 in omega (arith, n_is))));
    found = λ i k before number_is less. ap is_some (same k) ∙ are.found i (at + k) before (omega (arith, number_is)) (omega (arith, less, long, within));
  }
    where
      long : at + length back ≡ length places
      long = let l = ap length is in let d = length-drop at places in omega (arith, l, d, within)

      same : (k : ℕ) → get_or back k None ≡ get_or places (at + k) None
      same k = ap (λ (ps : List (Option ℕ)). get_or ps k None) is ∙ get_or-drop at places k None

-- where there is no place for a number, no entry has it
pub no_place : (first at : ℕ) (es : List Entry) (places : List (Option ℕ)) (o : Option ℕ) → ArePlaces first (length places) es (length es) places
    → at < length places → o ≡ get_or places at None → o ≡ None → (i : ℕ) → i < length es → number_at es i ≢ first + at
no_place first at es places o are inside is none i within number_is =
    let some = are.found i at within number_is inside in
    let no : is_some (get_or places at None) ≡ false = ap is_some (sym is ∙ none) in
    cc (some, no)

-- ---- contents as they are given

pub content_there : (contents : List (Bor Content)) (place : ℕ) (c : Bor Content) → place < length contents
    → entry_at (unnamed contents) place ≡ as_entry (get_or contents place c)
content_there contents place c inside = get_or-map as_entry contents place c no_entry inside

-- the content at a place is one more
pub one_more : (first at place : ℕ) (es : List Entry) (places : List (Option ℕ)) (now after : List Trigrams) → AreAnalysed first (first + at) es now
    → ArePlaces first (length places) es (length es) places → NumbersTell es → get_or places at None ≡ Some place
    → AddsContent (first + at) (entry_at es place).1.held now after → AreAnalysed first (first + (at + 1)) es after
one_more first at place es places now after are are_places tell there adds =
    let told = are_places.tells at place there in
    subst (AreAnalysed first (first + (at + 1)) es) (sym adds.whole) (analysed_more first at es now are place adds.content tell told.0 told.1 adds.is)

-- a body whose trigrams are listed
pub adds_listed : (number : ℕ) (body trigrams given : List ℕ) (before after : List Trigrams) → ListsTrigrams body trigrams → given ≡ trigrams
    → after ≡ before ++ known_content number given ∷ [] → AddsContent number body before after
adds_listed number body trigrams given before after lists same is = record {
  content = known_content number trigrams;
  is = record { number_is = refl; rising = lists.rising; same = listed body trigrams lists };
  whole = is ∙ ap (λ ts. before ++ known_content number ts ∷ []) same;
}

-- and one whose trigrams were marked
pub adds_marked : (number : ℕ) (body : List ℕ) (before after : List Trigrams) → All (λ b. b < 256) body → after ≡ before ++ body_content number body ∷ [] → AddsContent number body before after
adds_marked number body before after small is = record {
  content = body_content number body;
  is = record { number_is = refl; rising = trigrams_in-rising body; same = λ t. has-trigrams_in body t small };
  whole = is;
}

-- where no place is some, there is none
pub nowhere : (o : Option ℕ) → ((place : ℕ) → o ≡ Some place → ⊥) → o ≡ None
nowhere None never = refl
nowhere (Some place) never = absurd (never place refl)
