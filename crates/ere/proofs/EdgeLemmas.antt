-- Words and lines that are matched whole.
use Rattle.std.proofs.Common.{◌≡◌, ℕ, Bool, true, false, not, ◌&&◌, IsTrue, IsFalse, List, [], ◌∷◌, ◌++◌, length, ◌⊎◌, inl, inr}
use Rattle.std.proofs.Common.{⊎_elim, refl, sym, ap, ◌∙◌, subst, arith, append_assoc, length-append, get_or}
use Rattle.std.specs.List.{AllPass}
use Rattle.std.proofs.lemmas.List.{append-nil}
use Rattle.std.proofs.Math.Seq.{get_or-append_seam}
use Rattle.ere.specs.ByteSet.{complement, has, is_line_byte, set_of}
use Rattle.ere.specs.Classes.{is_word_byte}
use Rattle.ere.specs.Edges.{between_words, line_tree, word_tree, ContainsWholeWord}
use Rattle.ere.specs.Language.{ContainsMatch, InEach, InLanguage, InSome}
use Rattle.ere.specs.Tree.{Tree, alt, at_end, at_start, more, none}
use Rattle.ere.proofs.SetLemmas.{has-set_of}

-- A byte between words is a line byte that is in no word.
gap-is : (b : ℕ) → has (complement (set_of is_word_byte)) b ≡ (is_line_byte b && not (is_line_byte b && is_word_byte b))
gap-is b = has-set_of (λ c. not (has (set_of is_word_byte) c)) b ∙ ap (λ t. is_line_byte b && not t) (has-set_of is_word_byte b)

in_gap : (b : ℕ) → IsTrue (is_line_byte b) → IsFalse (is_word_byte b) → IsTrue (has (complement (set_of is_word_byte)) b)
in_gap b line free = gap-is b ∙ go (is_line_byte b) (is_word_byte b) line free
  where
    go : (l w : Bool) → IsTrue l → IsFalse w → IsTrue (l && not (l && w))
    go true false e f = refl
    go true true e f = absurd (cc)
    go false w e f = absurd (cc)

of_gap : (b : ℕ) → IsTrue (has (complement (set_of is_word_byte)) b) → IsFalse (is_word_byte b)
of_gap b h = go (is_line_byte b) (is_word_byte b) (sym (gap-is b) ∙ h)
  where
    go : (l w : Bool) → IsTrue (l && not (l && w)) → IsFalse w
    go true false e = refl
    go true true e = absurd (cc)
    go false w e = absurd (cc)

last_of : (xs : List ℕ) → (xs ≡ []) ⊎ ((front : List ℕ) × (b : ℕ) × (xs ≡ front ++ b ∷ []))
last_of [] = inl refl
last_of (a ∷ xs) = ⊎_elim (λ e. inr ([], a, ap (λ t. a ∷ t) e)) (λ h. inr (a ∷ h.0, h.1, ap (λ t. a ∷ t) h.2)) (last_of xs)

same_last : (x y : List ℕ) (b c : ℕ) → x ++ b ∷ [] ≡ y ++ c ∷ [] → b ≡ c
same_last x y b c e =
    let same : length x ≡ length y = omega (arith, ap length e, length-append x (b ∷ []), length-append y (c ∷ [])) in
    sym (get_or-append_seam x b [] 0) ∙ ap (λ t. get_or t (length x) 0) e ∙ ap (λ n. get_or (y ++ c ∷ []) n 0) same ∙ get_or-append_seam y c [] 0

no_last : (x : List ℕ) (b : ℕ) → [] ≡ x ++ b ∷ [] → ⊥
no_last x b e = omega (arith, ap length e, length-append x (b ∷ []))

passes_at : (line x rest : List ℕ) (b : ℕ) → AllPass is_line_byte line → line ≡ x ++ b ∷ rest → IsTrue (is_line_byte b)
passes_at line x rest b all e =
    let read : get_or line (length x) 0 ≡ b = ap (λ t. get_or t (length x) 0) e ∙ get_or-append_seam x b rest 0 in
    subst (λ n. IsTrue (is_line_byte n)) read (all (length x) 0 (omega (arith, ap length e, length-append x (b ∷ rest))))

-- Before a word is the start of the line or a byte between words.
abbrev AtFront : List ℕ → List ℕ → List ℕ → Type 0
AtFront before word after = InLanguage (alt (more at_start (more between_words none))) before word after

-- After a word is the end of the line or a byte between words.
abbrev AtBack : List ℕ → List ℕ → List ℕ → Type 0
AtBack before word after = InLanguage (alt (more at_end (more between_words none))) before word after

front_free : (x u y front : List ℕ) (b : ℕ) → AtFront x u y → x ++ u ≡ front ++ b ∷ [] → IsFalse (is_word_byte b)
unfolding InLanguage InSome
front_free x u y front b (inl h) e = absurd (no_last front b (rw (h.0, h.1) at e))
front_free x u y front b (inr (inl h)) e =
    let same : h.0 ≡ b = same_last x front h.0 b (sym (ap (λ t. x ++ t) h.1) ∙ e) in
    subst (λ n. IsFalse (is_word_byte n)) same (of_gap h.0 h.2)
front_free x u y front b (inr (inr h)) e = absurd h

back_free : (x u y rest : List ℕ) (b : ℕ) → AtBack x u y → u ++ y ≡ b ∷ rest → IsFalse (is_word_byte b)
unfolding InLanguage InSome
back_free x u y rest b (inl h) e = absurd (let none : [] ≡ b ∷ rest = sym (rw (h.0, h.1) refl) ∙ e in cc)
back_free x u y rest b (inr (inl h)) e =
    let whole : h.0 ∷ y ≡ b ∷ rest = sym (ap (λ t. t ++ y) h.1) ∙ e in
    let same : h.0 ≡ b = cc in
    subst (λ n. IsFalse (is_word_byte n)) same (of_gap h.0 h.2)
back_free x u y rest b (inr (inr h)) e = absurd h

-- the parts of a line, put together in another way
regrouped : (line x w y u v f b : List ℕ) → line ≡ x ++ (w ++ y) → w ≡ u ++ v → v ≡ f ++ b → line ≡ (x ++ u) ++ (f ++ (b ++ y))
regrouped line x w y u v f b e w_is v_is =
    e ∙ ap (λ t. x ++ (t ++ y)) (w_is ∙ ap (λ t. u ++ t) v_is) ∙ ap (λ t. x ++ t) (append_assoc u (f ++ b) y ∙ ap (λ t. u ++ t) (append_assoc f b y))
    ∙ sym (append_assoc x u (f ++ (b ++ y)))

whole_of_match : (tree : Tree) (line : List ℕ) → ContainsMatch (word_tree tree) line → ContainsWholeWord tree line
unfolding InLanguage InEach
whole_of_match tree line h =
    let first = h.in_language in
    let second = first.4 in
    let third = second.4 in
    let nothing : third.1 ≡ [] = third.4 in
    let rest : second.1 ++ h.after ≡ third.0 ++ h.after =
    ap (λ t. t ++ h.after) (third.2 ∙ ap (λ t. third.0 ++ t) nothing ∙ append-nil third.0) in
    record {
      before = h.before ++ first.0;
      word = second.0;
      after = second.1 ++ h.after;
      is_line = regrouped line h.before h.word h.after first.0 first.1 second.0 second.1 h.is_line first.2 second.2;
      in_language = second.3;
      begins = λ front b e. front_free h.before first.0 (first.1 ++ h.after) front b first.3 e;
      ends = λ b rest' e. back_free ((h.before ++ first.0) ++ second.0) third.0 (third.1 ++ h.after) rest' b third.3
          (ap (λ t. third.0 ++ (t ++ h.after)) nothing ∙ sym rest ∙ e);
    }

-- what is before a word ends with a word of its front
front_of : (before after : List ℕ) → ((front : List ℕ) (b : ℕ) → before ≡ front ++ b ∷ [] → IsTrue (is_line_byte b) × IsFalse (is_word_byte b))
    → (x u : List ℕ) × (before ≡ x ++ u) × AtFront x u after
unfolding InLanguage InSome
front_of before after free = go (last_of before)
  where
    go : (before ≡ []) ⊎ ((front : List ℕ) × (b : ℕ) × (before ≡ front ++ b ∷ [])) → (x u : List ℕ) × (before ≡ x ++ u) × AtFront x u after
    go (inl e) = ([], [], e, inl (refl, refl))
    go (inr h) = let one = free h.0 h.1 h.2 in (h.0, h.1 ∷ [], h.2, inr (inl (h.1, refl, in_gap h.1 one.0 one.1)))

back_of : (before after : List ℕ) → ((b : ℕ) (rest : List ℕ) → after ≡ b ∷ rest → IsTrue (is_line_byte b) × IsFalse (is_word_byte b))
    → (u y : List ℕ) × (after ≡ u ++ y) × AtBack before u y
unfolding InLanguage InSome
back_of before [] free = ([], [], refl, inl (refl, refl))
back_of before (b ∷ rest) free = let one = free b rest refl in (b ∷ [], rest, refl, inr (inl (b, refl, in_gap b one.0 one.1)))

match_of_whole : (tree : Tree) (line : List ℕ) → AllPass is_line_byte line → ContainsWholeWord tree line → ContainsMatch (word_tree tree) line
unfolding InLanguage InEach
match_of_whole tree line all h =
    let first = front_of h.before (h.word ++ h.after) (λ front b e. (
      passes_at line front (h.word ++ h.after) b all
          (h.is_line ∙ ap (λ t. t ++ (h.word ++ h.after)) e ∙ append_assoc front (b ∷ []) (h.word ++ h.after)),
      h.begins front b e,
    )) in
    let last = back_of (h.before ++ h.word) h.after (λ b rest e. (
      passes_at line (h.before ++ h.word) rest b all (h.is_line ∙ ap (λ t. h.before ++ (h.word ++ t)) e ∙ sym (append_assoc h.before h.word (b ∷ rest))),
      h.ends b rest e,
    )) in
    let after_is : h.word ++ h.after ≡ (h.word ++ last.0) ++ last.1 = ap (λ t. h.word ++ t) last.2 ∙ sym (append_assoc h.word last.0 last.1) in
    let inner : InLanguage tree (first.0 ++ first.1) h.word (last.0 ++ last.1) =
    subst (λ t. InLanguage tree t h.word (last.0 ++ last.1)) first.2 (subst (λ t. InLanguage tree h.before h.word t) last.2 h.in_language) in
    record {
      before = first.0;
      word = first.1 ++ (h.word ++ last.0);
      after = last.1;
      is_line =
          h.is_line ∙ ap (λ t. t ++ (h.word ++ h.after)) first.2 ∙ append_assoc first.0 first.1 (h.word ++ h.after)
          ∙ ap (λ t. first.0 ++ t) (ap (λ t. first.1 ++ t) after_is ∙ sym (append_assoc first.1 (h.word ++ last.0) last.1));
      in_language = (
        first.1,
        h.word ++ last.0,
        refl,
        subst (λ t. AtFront first.0 first.1 t) after_is first.3,
        (
          h.word,
          last.0,
          refl,
          inner,
          (last.0, [], sym (append-nil last.0), subst (λ t. AtBack (t ++ h.word) last.0 last.1) first.2 last.3, refl),
        ),
      );
    }

line_of_match : (tree : Tree) (line : List ℕ) → ContainsMatch (line_tree tree) line → InLanguage tree [] line []
unfolding InLanguage InEach
line_of_match tree line h =
    let first = h.in_language in
    let second = first.4 in
    let third = second.4 in
    let left : h.before ++ first.0 ≡ [] = rw (first.3.0, first.3.1) refl in
    let right : second.1 ++ h.after ≡ [] =
    ap (λ t. t ++ h.after) (third.2 ∙ ap (λ t. t ++ third.1) third.3.0) ∙ third.3.1 in
    let whole : second.0 ≡ line =
    sym (append-nil second.0) ∙ ap (λ t. second.0 ++ t) (sym right) ∙ ap (λ t. t ++ (second.0 ++ (second.1 ++ h.after))) (sym left)
    ∙ sym (regrouped line h.before h.word h.after first.0 first.1 second.0 second.1 h.is_line first.2 second.2) in
    subst (λ t. InLanguage tree [] t []) whole
    (subst (λ t. InLanguage tree t second.0 []) left (subst (λ t. InLanguage tree (h.before ++ first.0) second.0 t) right second.3))

match_of_line : (tree : Tree) (line : List ℕ) → InLanguage tree [] line [] → ContainsMatch (line_tree tree) line
unfolding InLanguage InEach
match_of_line tree line h = record {
  before = [];
  word = line;
  after = [];
  is_line = sym (append-nil line);
  in_language = ([], line, refl, (refl, refl), (line, [], sym (append-nil line), h, ([], [], refl, (refl, refl), refl)));
}

pub whole_lines : (tree : Tree) (line : List ℕ) → (ContainsMatch (line_tree tree) line → InLanguage tree [] line [])
    × (InLanguage tree [] line [] → ContainsMatch (line_tree tree) line)
whole_lines tree line = (line_of_match tree line, match_of_line tree line)

pub whole_words : (tree : Tree) (line : List ℕ) → AllPass is_line_byte line → (ContainsMatch (word_tree tree) line → ContainsWholeWord tree line)
    × (ContainsWholeWord tree line → ContainsMatch (word_tree tree) line)
whole_words tree line all = (whole_of_match tree line, match_of_whole tree line all)
