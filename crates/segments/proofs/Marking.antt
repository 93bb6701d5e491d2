-- The marks of a body's trigrams, and the keys that are added by them.
use Rattle.std.proofs.Common.{◌≡◌, ◌≢◌, ℕ, zero, suc, ◌+◌, ◌*◌, ◌/◌, ◌%◌, ◌^◌, ◌<◌, ◌≤◌, Bool, true, false, not, ◌&&◌, ◌||◌, ◌==◌, ◌⊎◌, inl, inr, List, [], ◌∷◌, ◌++◌}
use Rattle.std.proofs.Common.{length, get_or, set, drop, refl, sym, ap, ◌∙◌, arith, append_assoc, length-append, length-set, length-drop, replicate, subst, ⊎_elim, bit_or, w8}
use Rattle.std.specs.Prelude.{All}
use Rattle.std.specs.Int.{bit_at}
use Rattle.std.proofs.Math.Bool.{or-false, or-true}
use Rattle.std.proofs.Math.Seq.{drop-append_seam}
use Rattle.std.proofs.lemmas.Nat.Bits.{bit_at_set_same, bit_at_set_other, bit_at_lowest, bit_at-suc}
use Rattle.std.proofs.lemmas.Bool.{cases_eq, cases_lt, eq-eqb, eqb-true, false≢true}
use Rattle.std.proofs.lemmas.Bool.Decides.{nat_tests}
use Rattle.std.proofs.lemmas.List.{append-nil, drop_more, get_or_past, get_or-replicate, length-replicate, get_or-set_same, get_or-set_other, map-append}
use Rattle.std.proofs.lemmas.List.Elements.{All-nil, All-cons, All-append, All-head, All-tail}
use Rattle.query.specs.Trigrams.{trigram_of, front_trigram, trigrams_of_text, trigrams_of_body}
use Rattle.query.specs.Private.Feeds.{has_no_line_feed}
use Rattle.query.proofs.BodyLemmas.{body_filters}
use Rattle.segments.specs.Contents.{has}
use Rattle.segments.specs.Private.Bits.{has_bit, is_marked}
use Rattle.segments.specs.Private.Keys.{key, trigram_in}
use Rattle.segments.specs.Private.Keyed.{keys_at}
use Rattle.segments.specs.Private.Marked.{AreClear, mark_bytes, AreMarksOf, MarksToo, AddsMarked}
use Rattle.segments.proofs.BitLemmas.{no_bits}
use Rattle.segments.proofs.KeyLemmas.{trigram_in-key}
use Rattle.segments.proofs.SetLemmas.{has-push}

-- ---- one mark

has_bit_at : (n j : ℕ) → has_bit n j ≡ (bit_at n j == 1)
unfolding has_bit
has_bit_at n zero = sym (ap (λ m. m == 1) (bit_at_lowest n))
has_bit_at n (suc j) = has_bit_at (n / 2) j ∙ sym (ap (λ m. m == 1) (bit_at-suc n j))

set_bit : (n j b : ℕ) → j < 8 → has_bit (bit_or n (1 * 2 ^ j % 2 ^ 8)) b ≡ (has_bit n b || b == j)
set_bit n j b low = has_bit_at (bit_or n (1 * 2 ^ j % 2 ^ 8)) b ∙ go (b == j) refl
  where
    go : (t : Bool) → (b == j) ≡ t → (bit_at (bit_or n (1 * 2 ^ j % 2 ^ 8)) b == 1) ≡ (has_bit n b || b == j)
    go true e =
        let same : b ≡ j = grind (arith, nat_tests) in
        rw (e, same) (ap (λ m. m == 1) (bit_at_set_same w8 n j low) ∙ sym (or-true (has_bit n j)))
    go false e =
        let other : b ≢ j = grind (arith, nat_tests) in
        rw e (ap (λ m. m == 1) (bit_at_set_other w8 n j low b other) ∙ sym (has_bit_at n b) ∙ sym (or-false (has_bit n b)))

pub marks_too : (old : List ℕ) (t : ℕ) → t / 8 < length old → MarksToo old t (set old (t / 8) (bit_or (get_or old (t / 8) 0) (1 * 2 ^ (t % 8) % 2 ^ 8)))
marks_too old t inside = record {
  whole = length-set old (t / 8) byte;
  marked = λ u. cases u (cases_eq (u / 8) (t / 8));
  other = λ k ne. get_or-set_other old (t / 8) k byte 0 ne;
}
  where
    byte : ℕ
    byte = bit_or (get_or old (t / 8) 0) (1 * 2 ^ (t % 8) % 2 ^ 8)

    same_bits : (u : ℕ) → u / 8 ≡ t / 8 → (u % 8 == t % 8) ≡ (u == t)
    same_bits u same = go (u == t) refl
      where
        go : (b : Bool) → (u == t) ≡ b → (u % 8 == t % 8) ≡ (u == t)
        go true e =
            let one : u ≡ t = grind (arith, nat_tests) in
            let test : (t % 8 == t % 8) ≡ true = grind (arith, nat_tests) in
            rw (e, one) test
        go false e =
            let two : u ≢ t = grind (arith, nat_tests) in
            let parts : u % 8 ≢ t % 8 = omega arith in
            let test : (u % 8 == t % 8) ≡ false = grind (arith, nat_tests) in
            rw (e, test) refl

    cases : (u : ℕ) → (u / 8 ≡ t / 8) ⊎ (u / 8 ≡ t / 8 → ⊥) → is_marked (set old (t / 8) byte) u ≡ (is_marked old u || u == t)
    cases u (inl same) =
        ap (λ i. has_bit (get_or (set old (t / 8) byte) i 0) (u % 8)) same
        ∙ ap (λ n. has_bit n (u % 8)) (get_or-set_same old (t / 8) byte 0 inside)
        ∙ set_bit (get_or old (t / 8) 0) (t % 8) (u % 8) (omega arith)
        ∙ ap (λ i. has_bit (get_or old i 0) (u % 8) || u % 8 == t % 8) (sym same)
        ∙ ap (λ b. is_marked old u || b) (same_bits u same)
    cases u (inr ne) =
        let apart : u ≢ t = λ e. ne (ap (λ v. v / 8) e) in
        let test : (u == t) ≡ false = grind (arith, nat_tests) in
        ap (λ n. has_bit n (u % 8)) (get_or-set_other old (t / 8) (u / 8) byte 0 ne)
        ∙ sym (ap (λ b. is_marked old u || b) test ∙ or-false (is_marked old u))

-- ---- the trigrams of a text

text-step : (text : List ℕ) (i : ℕ) → i + 2 < length text → (g : ℕ)
    → trigrams_of_text (drop i text) g ≡ ((g == trigram_of (get_or text i 0) (get_or text (i + 1) 0) (get_or text (i + 2) 0)) || trigrams_of_text (drop (i + 1) text) g)
unfolding trigrams_of_text
text-step text i inside g =
    let one : i + 1 + 1 ≡ i + 2 = omega arith in
    let first = drop_more text i 0 (omega arith) in
    let second = drop_more text (i + 1) 0 (omega arith) in
    let third : drop (i + 1 + 1) text ≡ get_or text (i + 2) 0 ∷ drop (i + 2 + 1) text = ap (λ n. drop n text) one ∙ drop_more text (i + 2) 0 (omega arith) in
    ap (λ t. trigrams_of_text t g) first
    ∙ ap (λ t. front_trigram (get_or text i 0 ∷ t) g || trigrams_of_text (drop (i + 1) text) g) (second ∙ ap (λ t. get_or text (i + 1) 0 ∷ t) third)

short_rest : (rest : List ℕ) (g : ℕ) → length rest ≤ 2 → trigrams_of_text rest g ≡ false
unfolding trigrams_of_text
short_rest [] g h = refl
short_rest (a ∷ []) g h = refl
short_rest (a ∷ b ∷ []) g h = refl
short_rest (a ∷ b ∷ c ∷ rest) g h = absurd (omega arith)

-- ---- the loop over a body

-- The trigrams that begin before a place were added and marked.
pub record IsMarkedUpTo (body : List ℕ) (place i : ℕ) (old marks keys : List ℕ) : Type 0 where
  pub added : List ℕ
  pub is : keys ≡ old ++ keys_at place added
  pub are : AreMarksOf (keys_at place added) marks
  pub marked : (t : ℕ) → is_marked marks t ≡ has added t
  pub found : (t : ℕ) → (has added t || (has_no_line_feed t && trigrams_of_text (drop i body) t)) ≡ (has_no_line_feed t && trigrams_of_text body t)

pub marked_none : (body : List ℕ) (place : ℕ) (old marks : List ℕ) → AreClear marks → IsMarkedUpTo body place 0 old marks old
marked_none body place old marks clear = record {
  added = [];
  is = sym (append-nil old);
  are = record { whole = clear.whole; small = All-nil (λ k. trigram_in k < 16777216); other = λ k e. clear.none k };
  marked = λ t. ap (λ b. has_bit b (t % 8)) (clear.none (t / 8)) ∙ no_bits (t % 8);
  found = λ t. refl;
}

-- a trigram that is there already, or has a line feed
again : (a f s r w : Bool) → (s ≡ true → (a ≡ true) ⊎ (f ≡ false)) → (a || (f && (s || r))) ≡ w → (a || (f && r)) ≡ w
again true f s r w h e = e
again false false s r w h e = e
again false true false r w h e = e
again false true true r w h e = ⊎_elim (λ p. absurd (false≢true p)) (λ p. absurd (false≢true (sym p))) (h refl)

-- one that is new and has none
new_one : (a f s r w : Bool) → (s ≡ true → f ≡ true) → (a || (f && (s || r))) ≡ w → ((a || s) || (f && r)) ≡ w
new_one true f s r w h e = e
new_one false true true r w h e = e
new_one false true false r w h e = e
new_one false false false r w h e = e
new_one false false true r w h e = absurd (false≢true (h refl))

differs : (a b : ℕ) → (a == b) ≡ false → a ≢ b
differs a b e same = false≢true (sym e ∙ eq-eqb a b same)

turned : (u t : ℕ) → (u == t) ≡ (t == u)
turned u t = go (u == t) refl
  where
    go : (b : Bool) → (u == t) ≡ b → (u == t) ≡ (t == u)
    go true e =
        let same : u ≡ t = grind (arith, nat_tests) in
        let test : (t == u) ≡ true = grind (arith, nat_tests) in
        rw (e, test) refl
    go false e =
        let other : u ≢ t = grind (arith, nat_tests) in
        let test : (t == u) ≡ false = grind (arith, nat_tests) in
        rw (e, test) refl

module _ (body : List ℕ) (place i : ℕ) (old marks keys : List ℕ) (t : ℕ) (inside : i + 2 < length body)
    (is : t ≡ trigram_of (get_or body i 0) (get_or body (i + 1) 0) (get_or body (i + 2) 0)) (so_far : IsMarkedUpTo body place i old marks keys) where
  step : (u : ℕ) → (has so_far.added u || (has_no_line_feed u && ((u == t) || trigrams_of_text (drop (i + 1) body) u)))
      ≡ (has_no_line_feed u && trigrams_of_text body u)
  step u =
      ap (λ b. has so_far.added u || (has_no_line_feed u && b))
      (ap (λ v. (u == v) || trigrams_of_text (drop (i + 1) body) u) is ∙ sym (text-step body i inside u))
      ∙ so_far.found u

  pub marked_again : (is_marked marks t ≡ true) ⊎ (has_no_line_feed t ≡ false) → IsMarkedUpTo body place (i + 1) old marks keys
  marked_again why = record {
    added = so_far.added;
    is = so_far.is;
    are = so_far.are;
    marked = so_far.marked;
    found = λ u.
        again (has so_far.added u) (has_no_line_feed u) (u == t) (trigrams_of_text (drop (i + 1) body) u) (has_no_line_feed u && trigrams_of_text body u)
        (λ e. let same : t ≡ u = sym (eqb-true u t e) in subst (λ v. (has so_far.added v ≡ true) ⊎ (has_no_line_feed v ≡ false)) same there) (step u);
  }
    where
      there : (has so_far.added t ≡ true) ⊎ (has_no_line_feed t ≡ false)
      there = ⊎_elim (λ m. inl (sym (so_far.marked t) ∙ m)) inr why

  pub marked_more : (new : List ℕ) → t < 16777216 → place < 4294967296 → has_no_line_feed t ≡ true → MarksToo marks t new
      → IsMarkedUpTo body place (i + 1) old new (keys ++ key t place ∷ [])
  marked_more new small fits in_line too = record {
    added = more;
    is = ap (λ ks. ks ++ key t place ∷ []) so_far.is
        ∙ append_assoc old (keys_at place so_far.added) (key t place ∷ [])
        ∙ ap (λ ks. old ++ ks) (sym at_end);
    are = record {
      whole = too.whole ∙ so_far.are.whole;
      small =
          rw at_end
          (All-append (λ k. trigram_in k < 16777216) (keys_at place so_far.added) (key t place ∷ []) so_far.are.small
          (All-cons (λ k. trigram_in k < 16777216) (key t place) [] (omega (arith, small, trigram_in-key t place fits)) (All-nil (λ k. trigram_in k < 16777216))));
      other = others;
    };
    marked = λ u. too.marked u ∙ ap (λ b. b || u == t) (so_far.marked u) ∙ ap (λ b. has so_far.added u || b) (turned u t) ∙ sym (has-push so_far.added t u);
    found = λ u.
        ap (λ b. b || (has_no_line_feed u && trigrams_of_text (drop (i + 1) body) u))
        (has-push so_far.added t u ∙ ap (λ b. has so_far.added u || b) (sym (turned u t)))
        ∙ new_one (has so_far.added u) (has_no_line_feed u) (u == t) (trigrams_of_text (drop (i + 1) body) u) (has_no_line_feed u && trigrams_of_text body u)
        (λ e. let same : t ≡ u = sym (eqb-true u t e) in subst (λ v. has_no_line_feed v ≡ true) same in_line) (step u);
  }
    where
      more : List ℕ
      more = so_far.added ++ t ∷ []

      at_end : keys_at place more ≡ keys_at place so_far.added ++ key t place ∷ []
      at_end = map-append (λ u. key u place) so_far.added (t ∷ [])

      others : (k : ℕ) → has (mark_bytes (keys_at place more)) k ≡ false → get_or new k 0 ≡ 0
      others k absent = both (has (mark_bytes (keys_at place so_far.added)) k) (trigram_in (key t place) / 8 == k) refl refl here
        where
          here : (has (mark_bytes (keys_at place so_far.added)) k || trigram_in (key t place) / 8 == k) ≡ false
          here =
              sym (ap (λ ks. has (mark_bytes ks) k) at_end
              ∙ ap (λ bs. has bs k) (map-append (λ j. trigram_in j / 8) (keys_at place so_far.added) (key t place ∷ []))
              ∙ has-push (mark_bytes (keys_at place so_far.added)) (trigram_in (key t place) / 8) k)
              ∙ absent

          both : (a b : Bool) → has (mark_bytes (keys_at place so_far.added)) k ≡ a → (trigram_in (key t place) / 8 == k) ≡ b → (a || b) ≡ false → get_or new k 0 ≡ 0
          both true b e f none = absurd (false≢true (sym none))
          both false true e f none = absurd (false≢true (sym none))
          both false false e f none =
              let apart : trigram_in (key t place) / 8 ≢ k = differs (trigram_in (key t place) / 8) k f in
              let byte : trigram_in (key t place) / 8 ≡ t / 8 = ap (λ u. u / 8) (trigram_in-key t place fits) in
              too.other k (λ same. apart (byte ∙ sym same)) ∙ so_far.are.other k e

pub marked_all : (body : List ℕ) (place i : ℕ) (old marks keys : List ℕ) → All (λ b. b < 256) body → length body ≤ i + 2
    → IsMarkedUpTo body place i old marks keys → AddsMarked body place old keys marks
marked_all body place i old marks keys small past all = record {
  adds = record { added = all.added; is = all.is; same = same };
  are = rw (ap (drop (length old)) all.is ∙ drop-append_seam old (keys_at place all.added)) all.are;
}
  where
    none : (b : Bool) → (b && false) ≡ false
    none true = refl
    none false = refl

    same : (t : ℕ) → has all.added t ≡ trigrams_of_body body t
    same t =
        sym (or-false (has all.added t))
        ∙ ap (λ b. has all.added t || b)
        (sym (ap (λ b. has_no_line_feed t && b) (short_rest (drop i body) t (omega (arith, past, length-drop i body))) ∙ none (has_no_line_feed t)))
        ∙ all.found t ∙ sym (body_filters body t small)

-- ---- marks are cleared

pub cleared_more : (keys marks : List ℕ) (i : ℕ) → i < length keys → AreMarksOf (drop i keys) marks
    → AreMarksOf (drop (i + 1) keys) (set marks (trigram_in (get_or keys i 0) / 8) 0)
cleared_more keys marks i inside are = record {
  whole = length-set marks byte 0 ∙ are.whole;
  small = All-tail (λ k. trigram_in k < 16777216) first (drop (i + 1) keys) small;
  other = λ k absent. cases k absent (cases_eq k byte);
}
  where
    first : ℕ
    first = get_or keys i 0

    byte : ℕ
    byte = trigram_in first / 8

    next : drop i keys ≡ first ∷ drop (i + 1) keys
    next = drop_more keys i 0 inside

    small : All (λ k. trigram_in k < 16777216) (first ∷ drop (i + 1) keys)
    small = rw next at are.small

    low : byte < length marks
    low = omega (arith, are.whole, All-head (λ k. trigram_in k < 16777216) first (drop (i + 1) keys) small)

    cases : (k : ℕ) → has (mark_bytes (drop (i + 1) keys)) k ≡ false → (k ≡ byte) ⊎ (k ≡ byte → ⊥) → get_or (set marks byte 0) k 0 ≡ 0
    cases k absent (inl same) = ap (λ n. get_or (set marks byte 0) n 0) same ∙ get_or-set_same marks byte 0 0 low
    cases k absent (inr ne) =
        let test : (byte == k) ≡ false = grind (arith, nat_tests) in
        get_or-set_other marks byte k 0 0 ne
        ∙ are.other k (ap (λ ks. has (mark_bytes ks) k) next ∙ ap (λ b. b || has (mark_bytes (drop (i + 1) keys)) k) test ∙ absent)

pub byte_low : (keys marks : List ℕ) (i : ℕ) → i < length keys → AreMarksOf (drop i keys) marks → trigram_in (get_or keys i 0) / 8 < length marks
byte_low keys marks i inside are =
    omega (arith, are.whole, All-head (λ k. trigram_in k < 16777216) (get_or keys i 0) (drop (i + 1) keys) (rw (drop_more keys i 0 inside) at are.small))

pub cleared : (keys marks : List ℕ) (i : ℕ) → length keys ≤ i → AreMarksOf (drop i keys) marks → AreClear marks
cleared keys marks i past are = record { whole = are.whole; none = λ k. are.other k (rw nothing refl) }
  where
    nothing : drop i keys ≡ []
    nothing = none_left (drop i keys) (omega (arith, past, length-drop i keys))
      where
        none_left : (ks : List ℕ) → length ks ≡ 0 → ks ≡ []
        none_left [] e = refl
        none_left (k ∷ ks) e = absurd (omega (arith, e))

-- all bytes before one are 0
pub clear_more : (marks : List ℕ) (i : ℕ) → i < length marks → ((k : ℕ) → k < i → get_or marks k 0 ≡ 0) → (k : ℕ) → k < i + 1 → get_or (set marks i 0) k 0 ≡ 0
clear_more marks i inside so_far k low = cases (cases_eq k i)
  where
    cases : (k ≡ i) ⊎ (k ≡ i → ⊥) → get_or (set marks i 0) k 0 ≡ 0
    cases (inl same) = ap (λ n. get_or (set marks i 0) n 0) same ∙ get_or-set_same marks i 0 0 inside
    cases (inr ne) = get_or-set_other marks i k 0 0 ne ∙ so_far k (omega (arith, low, ne))

pub all_clear : (marks : List ℕ) → length marks ≡ 2097152 → ((k : ℕ) → k < 2097152 → get_or marks k 0 ≡ 0) → AreClear marks
all_clear marks whole none = record { whole = whole; none = λ k. cases k (cases_lt k 2097152) }
  where
    cases : (k : ℕ) → (k < 2097152) ⊎ (2097152 ≤ k) → get_or marks k 0 ≡ 0
    cases k (inl lt) = none k lt
    cases k (inr ge) = get_or_past marks k 0 (omega (arith, whole, ge))

pub made_clear : (marks : List ℕ) (n : ℕ) → n ≡ 2097152 → marks ≡ replicate n 0 → AreClear marks
made_clear marks n count is =
    all_clear marks (ap length is ∙ length-replicate {A = ℕ} n 0 ∙ count) (λ k low. ap (λ ms. get_or ms k 0) is ∙ get_or-replicate n k 0 0 (omega (arith, low, count)))

-- ---- whether a trigram is new

pub new_in_line : (m f : Bool) → (not m && f) ≡ true → f ≡ true
new_in_line true f h = absurd (false≢true h)
new_in_line false f h = h

pub not_new : (m f : Bool) → (not m && f) ≡ false → (m ≡ true) ⊎ (f ≡ false)
not_new true f h = inl refl
not_new false f h = inr h

-- what was added begins where the keys ended
pub start_within : (body : List ℕ) (place : ℕ) (old new marks : List ℕ) → AddsMarked body place old new marks → length old ≤ length new
start_within body place old new marks h = omega (arith, ap length h.adds.is, length-append old (keys_at place h.adds.added))
