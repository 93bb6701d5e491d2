-- A document whose number goes into the sets of its trigrams, and out of those of the body before, a piece at a time.
use Rattle.std.proofs.Common.{◌≡◌, ◌≢◌, ◌⊎◌, inl, inr, ℕ, ◌+◌, ◌<◌, ◌≤◌, ◌==◌, ◌||◌, ◌&&◌, not, nat_lt, Bool, true, false, cond, List, [], map, Option, Some, None, refl, sym, ◌∙◌, ap, subst, arith}
use Rattle.std.specs.Prelude.{option_map}
use Rattle.std.proofs.lemmas.Bool.{false≢true}
use Rattle.std.proofs.lemmas.Bool.Decides.{nat_tests}
use Rattle.std.specs.Cmp.{both_ways}
use Rattle.query.specs.Trigrams.{trigrams_of_body}
use Rattle.posting.specs.ListValue.{has, without}
use Rattle.posting.specs.Postings.{holds, is_before, MovesNumber, IsMovedUntil}
use Rattle.posting.proofs.Fillings.{one_of_two, or_left, or_right, and_left, and_right}
use Rattle.index.specs.declared.sets.Sets.{Sets}
use Rattle.index.specs.declared.sets.Waiting.{Waiting}
use Rattle.index.specs.declared.sets.Waiting.TheVariants.{One, From}
use Rattle.index.specs.Private.Numbered.{Document, document_at}
use Rattle.index.specs.Private.Slots.{without_number, with_body_at}
use Rattle.index.specs.Private.Sets.{trigrams_shown, trigrams_at, trigrams_before, is_whole, is_left, still_waiting, waiting_from, AreSetsOf}
use Rattle.index.proofs.DocumentLemmas.{numbers-replaced}
use Rattle.index.proofs.StoredLemmas.{document_at-kept, numbers-kept, document_at-replaced}

not_true : (b : Bool) → not b ≡ true → b ≡ false
not_true true e = absurd (false≢true e)
not_true false e = refl

module _ (ds : List Document) (number from : ℕ) (old : Option (List ℕ)) (olds news : List ℕ) (before after : Sets) (kept : AreSetsOf ds before)
    (waits : before.waiting ≡ Some (One number from old)) (olds_are : (t : ℕ) → has olds t ≡ trigrams_before old t)
    (news_are : (t : ℕ) → has news t ≡ trigrams_at ds number t) (live : after.live.members ≡ before.live.members)
    (moved : MovesNumber before.postings after.postings number olds news) where
  stays : (t n : ℕ) → holds before.postings t n ≡ true → trigrams_at ds n t ≡ true → holds after.postings t n ≡ true
  stays t n held there =
      one_of_two (holds after.postings t n) ((has olds t && not (has news t)) && number == n) (moved.kept t n held) (λ still. still)
      (λ gone.
      (let one : (number == n) ≡ true = and_right (has olds t && not (has news t)) (number == n) gone in
      let same : number ≡ n = grind (arith, nat_tests) in
      let absent = not_true (has news t) (and_right (has olds t) (not (has news t)) (and_left (has olds t && not (has news t)) (number == n) gone)) in
      absurd (false≢true (sym absent ∙ (news_are t ∙ (ap (λ m. trigrams_at ds m t) same ∙ there))))))

  comes : (t n : ℕ) → holds after.postings t n ≡ true → (trigrams_at ds n t ≡ true) ⊎ (holds before.postings t n ≡ true)
  comes t n held =
      one_of_two (holds before.postings t n) ((has news t && not (has olds t)) && number == n) (moved.grown t n held) (λ was. inr was)
      (λ come.
      (let one : (number == n) ≡ true = and_right (has news t && not (has olds t)) (number == n) come in
      let same : number ≡ n = grind (arith, nat_tests) in
      let there = and_left (has news t) (not (has olds t)) (and_left (has news t && not (has olds t)) (number == n) come) in
      inl (ap (λ m. trigrams_at ds m t) (sym same) ∙ (sym (news_are t) ∙ there))))

  few_before : (t n : ℕ) → holds after.postings t n ≡ true → (trigrams_at ds n t || is_left before.waiting t n) ≡ true
  few_before t n held = by (comes t n held)
    where
      by : (trigrams_at ds n t ≡ true) ⊎ (holds before.postings t n ≡ true) → (trigrams_at ds n t || is_left before.waiting t n) ≡ true
      by (inl there) = or_left (trigrams_at ds n t) (is_left before.waiting t n) there
      by (inr was) = kept.few t n was

  whole_before : (t n : ℕ) → is_whole before.waiting t n ≡ true → holds after.postings t n ≡ trigrams_at ds n t
  whole_before t n whole =
      both_ways (holds after.postings t n) (trigrams_at ds n t) (λ held. by (comes t n held)) (λ there. stays t n (kept.postings t n whole ∙ there) there)
    where
      by : (trigrams_at ds n t ≡ true) ⊎ (holds before.postings t n ≡ true) → trigrams_at ds n t ≡ true
      by (inl there) = there
      by (inr was) = sym (kept.postings t n whole) ∙ was

  both_before : (t n : ℕ) → is_left before.waiting t n ≡ true → trigrams_at ds n t ≡ true → holds after.postings t n ≡ true
  both_before t n left there = stays t n (kept.both t n left there) there

  -- the sets where memory ran out: it still waits
  pub AreSetsOf-on : after.waiting ≡ before.waiting → AreSetsOf ds after
  AreSetsOf-on same = record {
    live = live ∙ kept.live;
    postings = λ t n whole. whole_before t n (sym (ap (λ w. is_whole w t n) same) ∙ whole);
    few = λ t n held. ap (λ w. trigrams_at ds n t || is_left w t n) same ∙ few_before t n held;
    both = λ t n left there. both_before t n (sym (ap (λ w. is_left w t n) same) ∙ left) there;
  }

  whole_was : (t n : ℕ) → (not (n == number) || nat_lt t from) ≡ true → is_whole before.waiting t n ≡ true
  whole_was t n is = ap (λ w. is_whole w t n) waits ∙ is

  left_was : (t n : ℕ) → is_left before.waiting t n ≡ ((n == number) && (not (nat_lt t from) && trigrams_before old t))
  left_was t n = ap (λ w. is_left w t n) waits

  module _ (next : Option ℕ) (done : IsMovedUntil after.postings number olds news from next) (now : after.waiting ≡ still_waiting number old next) where
    here_done : (t : ℕ) → is_before next t ≡ true → holds after.postings t number ≡ trigrams_at ds number t
    here_done t low = cases (nat_lt t from) refl
      where
        self : (number == number) ≡ true
        self = grind (arith, nat_tests)

        neither : (b : Bool) → holds after.postings t number ≡ b → has news t ≡ false → has olds t ≡ false → b ≡ false
        neither false e no_new no_old = refl
        neither true e no_new no_old =
            one_of_two (trigrams_at ds number t) (is_left before.waiting t number) (few_before t number e)
            (λ there. absurd (false≢true (sym no_new ∙ (news_are t ∙ there))))
            (λ left.
            (let was : (not (nat_lt t from) && trigrams_before old t) ≡ true =
            and_right (number == number) (not (nat_lt t from) && trigrams_before old t) (sym (left_was t number) ∙ left) in
            absurd (false≢true (sym no_old ∙ (olds_are t ∙ and_right (not (nat_lt t from)) (trigrams_before old t) was)))))

        high_ones : nat_lt t from ≡ false → from ≤ t → (new : Bool) → has news t ≡ new → (was : Bool) → has olds t ≡ was → holds after.postings t number ≡ new
        high_ones e high true is true there =
            let left : is_left before.waiting t number ≡ true = left_was t number ∙ rw (self, e) (sym (olds_are t) ∙ there) in
            both_before t number left (sym (news_are t) ∙ is)
        high_ones e high true is false absent = done.put t high low is absent
        high_ones e high false is true there = done.gone t high low is there
        high_ones e high false is false absent = neither (holds after.postings t number) refl is absent

        cases : (below : Bool) → nat_lt t from ≡ below → holds after.postings t number ≡ trigrams_at ds number t
        cases true e = whole_before t number (whole_was t number (or_right (not (number == number)) (nat_lt t from) e))
        cases false e =
            let high : from ≤ t = grind (arith, nat_tests) in
            high_ones e high (has news t) refl (has olds t) refl ∙ news_are t

    whole_is : (t n : ℕ) → (waiting : Option ℕ) → is_whole (still_waiting number old waiting) t n ≡ true → (n == number) ≡ true → is_before waiting t ≡ true
    whole_is t n None whole e = refl
    whole_is t n (Some m) whole e = rw e at whole

    left_is : (t n : ℕ) → (waiting : Option ℕ) → is_left (still_waiting number old waiting) t n ≡ true → ((n == number) ≡ true) × (trigrams_before old t ≡ true)
    left_is t n None left = absurd (false≢true left)
    left_is t n (Some m) left = (
      and_left (n == number) (not (nat_lt t m) && trigrams_before old t) left,
      and_right (not (nat_lt t m)) (trigrams_before old t) (and_right (n == number) (not (nat_lt t m) && trigrams_before old t) left),
    )

    still_left : (t n : ℕ) → (waiting : Option ℕ) → is_before waiting t ≡ false → (n == number) ≡ true → trigrams_before old t ≡ true
        → is_left (still_waiting number old waiting) t n ≡ true
    still_left t n None low e was = absurd (false≢true (sym low))
    still_left t n (Some m) low e was = rw (e, low, was) refl

    -- the sets after a piece
    pub AreSetsOf-moved : AreSetsOf ds after
    AreSetsOf-moved = record {
      live = live ∙ kept.live;
      postings = λ t n whole. postings t n (sym (ap (λ w. is_whole w t n) now) ∙ whole) (n == number) refl;
      few = λ t n held. few t n held (n == number) refl (is_before next t) refl;
      both = λ t n left there. both t n (left_is t n next (sym (ap (λ w. is_left w t n) now) ∙ left)) there (nat_lt t from) refl;
    }
      where
        postings : (t n : ℕ) → is_whole (still_waiting number old next) t n ≡ true → (here : Bool) → (n == number) ≡ here
            → holds after.postings t n ≡ trigrams_at ds n t
        postings t n whole false e = whole_before t n (whole_was t n (rw e refl))
        postings t n whole true e =
            let same : n ≡ number = grind (arith, nat_tests) in
            let done_here = here_done t (whole_is t n next whole e) in
            subst (λ m. holds after.postings t m ≡ trigrams_at ds m t) (sym same) done_here

        few : (t n : ℕ) → holds after.postings t n ≡ true → (here : Bool) → (n == number) ≡ here → (low : Bool) → is_before next t ≡ low
            → (trigrams_at ds n t || is_left after.waiting t n) ≡ true
        few t n held false e low f =
            one_of_two (trigrams_at ds n t) (is_left before.waiting t n) (few_before t n held)
            (λ there. or_left (trigrams_at ds n t) (is_left after.waiting t n) there)
            (λ left. absurd (false≢true (sym e ∙ and_left (n == number) (not (nat_lt t from) && trigrams_before old t) (sym (left_was t n) ∙ left))))
        few t n held true e true f =
            let same : n ≡ number = grind (arith, nat_tests) in
            let done_here : holds after.postings t n ≡ trigrams_at ds n t =
            subst (λ m. holds after.postings t m ≡ trigrams_at ds m t) (sym same) (here_done t f) in
            or_left (trigrams_at ds n t) (is_left after.waiting t n) (sym done_here ∙ held)
        few t n held true e false f =
            one_of_two (trigrams_at ds n t) (is_left before.waiting t n) (few_before t n held)
            (λ there. or_left (trigrams_at ds n t) (is_left after.waiting t n) there)
            (λ left.
            (let was = and_right (n == number) (not (nat_lt t from) && trigrams_before old t) (sym (left_was t n) ∙ left) in
            or_right (trigrams_at ds n t) (is_left after.waiting t n)
            (ap (λ w. is_left w t n) now ∙ still_left t n next f e (and_right (not (nat_lt t from)) (trigrams_before old t) was))))

        both : (t n : ℕ) → ((n == number) ≡ true) × (trigrams_before old t ≡ true) → trigrams_at ds n t ≡ true → (below : Bool) → nat_lt t from ≡ below
            → holds after.postings t n ≡ true
        both t n left there true e = stays t n (kept.postings t n (whole_was t n (or_right (not (n == number)) (nat_lt t from) e)) ∙ there) there
        both t n left there false e = both_before t n (left_was t n ∙ rw (left.0, e, left.1) refl) there

-- ---- all from a number on wait

never_below : (t : ℕ) → nat_lt t 0 ≡ false
never_below t = go (nat_lt t 0) refl
  where
    go : (b : Bool) → nat_lt t 0 ≡ b → b ≡ false
    go true e = let less : t < 0 = grind (arith, nat_tests) in absurd (omega arith)
    go false e = refl

-- a number that no document has
module _ (ds : List Document) (number first from : ℕ) (news : List ℕ) (before after : Sets) (kept : AreSetsOf ds before)
    (waits : before.waiting ≡ Some (From first from)) (news_are : (t : ℕ) → has news t ≡ trigrams_at ds number t)
    (live : after.live.members ≡ before.live.members) (moved : MovesNumber before.postings after.postings number [] news) where
  held_there : (t n : ℕ) → holds after.postings t n ≡ true → trigrams_at ds n t ≡ true
  held_there t n held =
      one_of_two (holds before.postings t n) ((has news t && not (has [] t)) && number == n) (moved.grown t n held)
      (λ was.
      one_of_two (trigrams_at ds n t) (is_left before.waiting t n) (kept.few t n was) (λ there. there)
      (λ left. absurd (false≢true (sym (ap (λ w. is_left w t n) waits) ∙ left))))
      (λ come.
      (let one : (number == n) ≡ true = and_right (has news t && not (has [] t)) (number == n) come in
      let same : number ≡ n = grind (arith, nat_tests) in
      let there = and_left (has news t) (not (has [] t)) (and_left (has news t && not (has [] t)) (number == n) come) in
      ap (λ m. trigrams_at ds m t) (sym same) ∙ (sym (news_are t) ∙ there)))

  stays_there : (t n : ℕ) → holds before.postings t n ≡ true → holds after.postings t n ≡ true
  stays_there t n held =
      one_of_two (holds after.postings t n) ((has [] t && not (has news t)) && number == n) (moved.kept t n held) (λ still. still)
      (λ gone. absurd (false≢true gone))

  whole_still : (t n : ℕ) → is_whole before.waiting t n ≡ true → holds after.postings t n ≡ trigrams_at ds n t
  whole_still t n whole =
      both_ways (holds after.postings t n) (trigrams_at ds n t) (held_there t n) (λ there. stays_there t n (kept.postings t n whole ∙ there))

  -- the sets where memory ran out: it still waits
  pub AreSetsOf-still : after.waiting ≡ before.waiting → AreSetsOf ds after
  AreSetsOf-still same = record {
    live = live ∙ kept.live;
    postings = λ t n whole. whole_still t n (sym (ap (λ w. is_whole w t n) same) ∙ whole);
    few = λ t n held. or_left (trigrams_at ds n t) (is_left after.waiting t n) (held_there t n held);
    both = λ t n left there. absurd (false≢true (sym (ap (λ w. is_left w t n) (same ∙ waits)) ∙ left));
  }

  none_left_from : (t n : ℕ) (next : Option ℕ) → is_left (Some (waiting_from number next)) t n ≡ false
  none_left_from t n None = refl
  none_left_from t n (Some m) = refl

  come_to : (t n : ℕ) (next : Option ℕ) → is_whole (Some (waiting_from number next)) t n ≡ true → (n == number) ≡ true → is_before next t ≡ true
  come_to t n None whole e = refl
  come_to t n (Some m) whole e =
      one_of_two (nat_lt n number) ((n == number) && nat_lt t m) whole (λ less. both less)
      (λ here. and_right (n == number) (nat_lt t m) here)
    where
      both : nat_lt n number ≡ true → nat_lt t m ≡ true
      both less = let same : n ≡ number = grind (arith, nat_tests) in let under : n < number = grind (arith, nat_tests) in absurd (omega (arith, same, under))

  lower : (t n : ℕ) (next : Option ℕ) → is_whole (Some (waiting_from number next)) t n ≡ true → (n == number) ≡ false → n < number
  lower t n None whole e =
      one_of_two (nat_lt n (number + 1)) ((n == number + 1) && nat_lt t 0) whole
      (λ less. (let under : n < number + 1 = grind (arith, nat_tests) in let other : n ≢ number = grind (arith, nat_tests) in omega (arith, under, other)))
      (λ here. absurd (false≢true (sym (never_below t) ∙ and_right (n == number + 1) (nat_lt t 0) here)))
  lower t n (Some m) whole e =
      one_of_two (nat_lt n number) ((n == number) && nat_lt t m) whole (λ less. (let under : n < number = grind (arith, nat_tests) in under))
      (λ here. absurd (false≢true (sym e ∙ and_left (n == number) (nat_lt t m) here)))

  -- the sets after a piece: it was put into those of its own from a trigram on up to the next one
  pub AreSetsOf-next : (start : ℕ) (next : Option ℕ) → ((t : ℕ) → nat_lt t start ≡ true → is_whole before.waiting t number ≡ true)
      → ((t : ℕ) → start ≤ t → is_before next t ≡ true → has news t ≡ true → holds after.postings t number ≡ true)
      → ((n : ℕ) → first ≤ n → n < number → document_at n ds ≡ None) → after.waiting ≡ Some (waiting_from number next) → AreSetsOf ds after
  AreSetsOf-next start next started put none now = record {
    live = live ∙ kept.live;
    postings = λ t n whole. postings t n (sym (ap (λ w. is_whole w t n) now) ∙ whole) (nat_lt n first) refl (n == number) refl;
    few = λ t n held. or_left (trigrams_at ds n t) (is_left after.waiting t n) (held_there t n held);
    both = λ t n left there. absurd (false≢true (sym (none_left_from t n next) ∙ (sym (ap (λ w. is_left w t n) now) ∙ left)));
  }
    where
      reached : (t : ℕ) → is_before next t ≡ true → (low : Bool) → nat_lt t start ≡ low → holds after.postings t number ≡ trigrams_at ds number t
      reached t low true e = whole_still t number (started t e)
      reached t low false e =
          let high : start ≤ t = grind (arith, nat_tests) in
          both_ways (holds after.postings t number) (trigrams_at ds number t) (held_there t number) (λ there. put t high low (news_are t ∙ there))

      postings : (t n : ℕ) → is_whole (Some (waiting_from number next)) t n ≡ true → (low : Bool) → nat_lt n first ≡ low → (here : Bool)
          → (n == number) ≡ here → holds after.postings t n ≡ trigrams_at ds n t
      postings t n whole true e here f =
          whole_still t n (ap (λ w. is_whole w t n) waits ∙ or_left (nat_lt n first) ((n == first) && nat_lt t from) e)
      postings t n whole false e true f =
          let same : n ≡ number = grind (arith, nat_tests) in
          subst (λ m. holds after.postings t m ≡ trigrams_at ds m t) (sym same) (reached t (come_to t n next whole f) (nat_lt t start) refl)
      postings t n whole false e false f =
          let high : first ≤ n = grind (arith, nat_tests) in
          let absent : document_at n ds ≡ None = none n high (lower t n next whole f) in
          both_ways (holds after.postings t n) (trigrams_at ds n t) (held_there t n)
          (λ there. absurd (false≢true (sym (ap (λ found. trigrams_shown found t) absent) ∙ there)))

-- none waits any more if none has a number from there on
pub AreSetsOf-done : (ds : List Document) (first from : ℕ) (before after : Sets) → AreSetsOf ds before → before.waiting ≡ Some (From first from)
    → ((n : ℕ) → first ≤ n → document_at n ds ≡ None) → after.live.members ≡ before.live.members → after.postings ≡ before.postings
    → after.waiting ≡ None → AreSetsOf ds after
AreSetsOf-done ds first from before after kept waits none live same now = record {
  live = live ∙ kept.live;
  postings = λ t n whole. ap (λ sets. holds sets t n) same ∙ postings t n (nat_lt n first) refl;
  few = λ t n held. or_left (trigrams_at ds n t) (is_left after.waiting t n) (shown t n (sym (ap (λ sets. holds sets t n) same) ∙ held));
  both = λ t n left there. absurd (false≢true (sym (ap (λ w. is_left w t n) now) ∙ left));
}
  where
    shown : (t n : ℕ) → holds before.postings t n ≡ true → trigrams_at ds n t ≡ true
    shown t n held =
        one_of_two (trigrams_at ds n t) (is_left before.waiting t n) (kept.few t n held) (λ there. there)
        (λ left. absurd (false≢true (sym (ap (λ w. is_left w t n) waits) ∙ left)))

    postings : (t n : ℕ) → (low : Bool) → nat_lt n first ≡ low → holds before.postings t n ≡ trigrams_at ds n t
    postings t n true e = kept.postings t n (ap (λ w. is_whole w t n) waits ∙ or_left (nat_lt n first) ((n == first) && nat_lt t from) e)
    postings t n false e =
        let high : first ≤ n = grind (arith, nat_tests) in
        let absent : document_at n ds ≡ None = none n high in
        both_ways (holds before.postings t n) (trigrams_at ds n t) (shown t n)
        (λ there. absurd (false≢true (sym (ap (λ found. trigrams_shown found t) absent) ∙ there)))

-- ---- one begins to wait

pub waits_alone : (waiting : Option Waiting) (number t n : ℕ) (old : Option (List ℕ)) → waiting ≡ None → is_whole (Some (One number 0 old)) t n ≡ true
    → (is_whole waiting t n ≡ true) × ((number == n) ≡ false)
waits_alone waiting number t n old none whole = (ap (λ w. is_whole w t n) none, cases (n == number) refl whole)
  where
    cases : (same : Bool) → (n == number) ≡ same → (not (n == number) || nat_lt t 0) ≡ true → (number == n) ≡ false
    cases true e is = absurd (false≢true (sym (never_below t) ∙ (rw e at is)))
    cases false e is = grind (arith, nat_tests)

pub waits_beside : (waiting : Option Waiting) (others : Waiting) (first low number t n : ℕ) → waiting ≡ Some others
    → ((u m : ℕ) → nat_lt m first ≡ true → is_whole (Some others) u m ≡ true) → low ≤ first → low ≤ number → is_whole (Some (From low 0)) t n ≡ true
    → (is_whole waiting t n ≡ true) × ((number == n) ≡ false)
waits_beside waiting others first low number t n is whole below under there =
    let less : nat_lt n low ≡ true =
    one_of_two (nat_lt n low) ((n == low) && nat_lt t 0) there (λ less. less)
    (λ here. absurd (false≢true (sym (never_below t) ∙ and_right (n == low) (nat_lt t 0) here))) in
    let here : nat_lt n first ≡ true = grind (arith, nat_tests) in
    let other : (number == n) ≡ false = grind (arith, nat_tests) in
    (ap (λ w. is_whole w t n) is ∙ whole t n here, other)

-- one is the first of those that wait, in so many sets, and the next one waits with it
pub waits_on : (waiting : Option Waiting) (first from number t n : ℕ) → waiting ≡ Some (From first from) → first < number
    → is_whole (Some (From first from)) t n ≡ true → (is_whole waiting t n ≡ true) × ((number == n) ≡ false)
waits_on waiting first from number t n is under whole = (ap (λ w. is_whole w t n) is ∙ whole, cases (nat_lt n first) refl)
  where
    cases : (low : Bool) → nat_lt n first ≡ low → (number == n) ≡ false
    cases true e = grind (arith, nat_tests)
    cases false e =
        let here : (n == first) ≡ true =
        one_of_two (nat_lt n first) ((n == first) && nat_lt t from) whole (λ less. absurd (false≢true (sym e ∙ less)))
        (λ both. and_left (n == first) (nat_lt t from) both) in
        let same : n ≡ first = grind (arith, nat_tests) in
        grind (arith, nat_tests)

-- if the one that is in some of its sets is in none any more, it waits with all its trigrams; so do the others
pub waits_again : (waiting : Option Waiting) (first from number t n : ℕ) → waiting ≡ Some (From first from) → first ≡ number
    → is_whole (Some (From first 0)) t n ≡ true → (is_whole waiting t n ≡ true) × ((number == n) ≡ false)
waits_again waiting first from number t n is same whole = one_of_two (nat_lt n first) ((n == first) && nat_lt t 0) whole low (λ here. absurd (false≢true (sym (never_below t) ∙ and_right (n == first) (nat_lt t 0) here)))
  where
    low : nat_lt n first ≡ true → (is_whole waiting t n ≡ true) × ((number == n) ≡ false)
    low less = (ap (λ w. is_whole w t n) is ∙ or_left (nat_lt n first) ((n == first) && nat_lt t from) less, grind (arith, nat_tests))

-- a new document has had no body before
pub none_before : (number t n : ℕ) → is_left (Some (One number 0 None)) t n ≡ false
none_before number t n = go (n == number) (not (nat_lt t 0))
  where
    go : (a b : Bool) → (a && (b && false)) ≡ false
    go true true = refl
    go true false = refl
    go false b = refl

-- the documents without one, or with another body of it, whose number stays for now where the body before has the trigram
module _ (ds ds' : List Document) (number : ℕ) (body : List ℕ) (before after : Sets) (kept : AreSetsOf ds before) (idle : before.waiting ≡ None)
    (now : after.waiting ≡ Some (One number 0 (Some body))) (same : after.postings ≡ before.postings)
    (live : after.live.members ≡ map (λ d. d.number) ds') (shown : (t : ℕ) → trigrams_at ds number t ≡ trigrams_of_body body t)
    (others : (t n : ℕ) → (n == number) ≡ false → trigrams_at ds' n t ≡ trigrams_at ds n t) where
  was : (t n : ℕ) → holds after.postings t n ≡ trigrams_at ds n t
  was t n = ap (λ sets. holds sets t n) same ∙ kept.postings t n (ap (λ w. is_whole w t n) idle)

  AreSetsOf-left : AreSetsOf ds' after
  AreSetsOf-left = record {
    live = live;
    postings = λ t n whole. postings t n (sym (ap (λ w. is_whole w t n) now) ∙ whole) (n == number) refl;
    few = λ t n held. few t n held (n == number) refl;
    both = λ t n left there. both t n (sym (ap (λ w. is_left w t n) now) ∙ left);
  }
    where
      postings : (t n : ℕ) → (not (n == number) || nat_lt t 0) ≡ true → (here : Bool) → (n == number) ≡ here → holds after.postings t n ≡ trigrams_at ds' n t
      postings t n whole true e = absurd (false≢true (sym (never_below t) ∙ (rw e at whole)))
      postings t n whole false e = was t n ∙ sym (others t n e)

      few : (t n : ℕ) → holds after.postings t n ≡ true → (here : Bool) → (n == number) ≡ here → (trigrams_at ds' n t || is_left after.waiting t n) ≡ true
      few t n held false e = or_left (trigrams_at ds' n t) (is_left after.waiting t n) (others t n e ∙ (sym (was t n) ∙ held))
      few t n held true e =
          let here : n ≡ number = grind (arith, nat_tests) in
          let there : trigrams_of_body body t ≡ true = sym (shown t) ∙ (ap (λ m. trigrams_at ds m t) (sym here) ∙ (sym (was t n) ∙ held)) in
          or_right (trigrams_at ds' n t) (is_left after.waiting t n) (ap (λ w. is_left w t n) now ∙ rw (e, never_below t, there) refl)

      both : (t n : ℕ) → ((n == number) && (not (nat_lt t 0) && trigrams_of_body body t)) ≡ true → holds after.postings t n ≡ true
      both t n left =
          let e = and_left (n == number) (not (nat_lt t 0) && trigrams_of_body body t) left in
          let here : n ≡ number = grind (arith, nat_tests) in
          let there = and_right (not (nat_lt t 0)) (trigrams_of_body body t) (and_right (n == number) (not (nat_lt t 0) && trigrams_of_body body t) left) in
          was t n ∙ (ap (λ m. trigrams_at ds m t) here ∙ (shown t ∙ there))

pub AreSetsOf-take_later : (ds : List Document) (gone : ℕ) (name body : List ℕ) (old new : Sets) → AreSetsOf ds old → old.waiting ≡ None
    → document_at gone ds ≡ Some (name, body) → new.live.members ≡ without gone old.live.members → new.postings ≡ old.postings
    → new.waiting ≡ Some (One gone 0 (Some body)) → AreSetsOf (without_number gone ds) new
AreSetsOf-take_later ds gone name body old new kept idle at live same now =
    AreSetsOf-left ds (without_number gone ds) gone body old new kept idle now same
    (live ∙ (ap (without gone) kept.live ∙ sym (numbers-kept gone ds))) (λ t. ap (λ found. trigrams_shown found t) at)
    (λ t n other. ap (λ found. trigrams_shown found t) (document_at-kept gone n ds ∙ ap (λ b. cond b None (document_at n ds)) other))

pub AreSetsOf-replace_later : (ds : List Document) (number : ℕ) (name old_body body : List ℕ) (old new : Sets) → AreSetsOf ds old → old.waiting ≡ None
    → document_at number ds ≡ Some (name, old_body) → new.live.members ≡ old.live.members → new.postings ≡ old.postings
    → new.waiting ≡ Some (One number 0 (Some old_body)) → AreSetsOf (map (with_body_at number body) ds) new
AreSetsOf-replace_later ds number name old_body body old new kept idle at live same now =
    AreSetsOf-left ds (map (with_body_at number body) ds) number old_body old new kept idle now same
    (live ∙ (kept.live ∙ sym (numbers-replaced (λ d. d.number == number) body ds))) (λ t. ap (λ found. trigrams_shown found t) at)
    (λ t n other.
    ap (λ found. trigrams_shown found t)
    (document_at-replaced number body ds n ∙ ap (λ b. cond b (option_map (λ d. (d.0, body)) (document_at n ds)) (document_at n ds)) other))
