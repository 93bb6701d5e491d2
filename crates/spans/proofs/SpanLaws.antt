-- Laws of spans.
use Rattle.std.proofs.Common.{◌≡◌, ℕ, suc, ◌+◌, ◌≤◌, ◌<◌, Bool, IsFalse, List, [], ◌∷◌, ◌++◌, length, get_or, take, drop}
use Rattle.std.proofs.Common.{refl, sym, ap, subst, ◌∙◌, arith, append_assoc, length-append}
use Rattle.std.proofs.lemmas.List.{append_cancel_left, length-take-le, take-append-drop, take_more}
use Rattle.std.proofs.Math.ListN.{get_or-append}
use Rattle.std.proofs.Math.Seq.{take-append_seam, get_or-append_seam}
use Rattle.ere.specs.Classes.{is_word_byte}
use Rattle.ere.specs.Edges.{ContainsWholeWord}
use Rattle.ere.specs.Language.{InLanguage}
use Rattle.ere.specs.Tree.{Tree}
use Rattle.spans.specs.FirstSpan.{AreSpans, IsSpan, IsWhole}
use Rattle.spans.specs.Spans.{Spans}
use Rattle.spans.specs.declared.span.Span.{Span}
use Rattle.spans.proofs.Meaning.{language_of_spans, spans_of_language}

-- the front of two texts that are the same
same_front : (left right after other : List ℕ) → left ++ after ≡ right ++ other → length left ≡ length right → left ≡ right
same_front left right after other e same =
    sym (take-append_seam left after) ∙ ap (λ n. take n (left ++ after)) same ∙ ap (take (length right)) e ∙ take-append_seam right other

word_of_spans : (tree : Tree) (line before word after : List ℕ) → line ≡ before ++ (word ++ after)
    → Spans line tree (length before) (length (before ++ word)) → InLanguage tree before word after
word_of_spans tree line before word after whole h =
    let leads = language_of_spans line tree before (word ++ after) (length before) (length (before ++ word)) whole refl h in
    let long : length word ≡ length leads.word = omega (arith, leads.is_end, length-append before word, length-append before leads.word) in
    let same : word ≡ leads.word = same_front word leads.word after leads.after leads.is_rest long in
    let rest : after ≡ leads.after = append_cancel_left word after leads.after (leads.is_rest ∙ ap (λ t. t ++ leads.after) (sym same)) in
    subst (λ t. InLanguage tree before t after) (sym same) (subst (λ t. InLanguage tree before leads.word t) (sym rest) leads.in_language)

pub spans_are_words : (tree : Tree) (line before word after : List ℕ) → line ≡ before ++ (word ++ after)
    → (Spans line tree (length before) (length (before ++ word)) → InLanguage tree before word after)
    × (InLanguage tree before word after → Spans line tree (length before) (length (before ++ word)))
spans_are_words tree line before word after whole = (
  λ h. word_of_spans tree line before word after whole h,
  λ h. spans_of_language line tree before word after whole h,
)

-- The list of spans of a line from a position on.
abbrev span_of : ℕ → ℕ → Span
span_of start end = record { start = start; end = end }

same_span : (left right : Span) → left.start ≡ right.start → left.end ≡ right.end → left ≡ right
same_span left right p q = ap (λ n. span_of n left.end) p ∙ ap (λ n. span_of right.start n) q

pub one_list : (line : List ℕ) (tree : Tree) (whole_words : Bool) (from : ℕ) (left right : List Span) → AreSpans line tree whole_words from left
    → AreSpans line tree whole_words from right → left ≡ right
one_list line tree whole_words from [] [] h k = refl
one_list line tree whole_words from [] (span ∷ spans) h k = absurd (h span.start span.end k.0.is_span)
one_list line tree whole_words from (span ∷ spans) [] h k = absurd (k span.start span.end h.0.is_span)
one_list line tree whole_words from (one ∷ ones) (two ∷ twos) h k =
    let first = h.0 in
    let second = k.0 in
    let start : one.start ≡ two.start =
    omega (arith, first.leftmost two.start two.end second.is_span, second.leftmost one.start one.end first.is_span) in
    let end : one.end ≡ two.end =
    omega (
      arith,
      first.longest two.end (subst (λ n. IsSpan line tree whole_words from n two.end) (sym start) second.is_span),
      second.longest one.end (subst (λ n. IsSpan line tree whole_words from n one.end) start first.is_span),
    ) in
    let rest : ones ≡ twos = one_list line tree whole_words one.end ones twos h.1 (subst (λ n. AreSpans line tree whole_words n twos) (sym end) k.1) in
    ap (λ s. s ∷ ones) (same_span one two start end) ∙ ap (λ s. two ∷ s) rest

-- The last byte of a text that is not empty.
last_split : (text : List ℕ) (k : ℕ) → length text ≡ suc k → text ≡ take k text ++ get_or text k 0 ∷ []
last_split text k long =
    let whole : k + 1 ≡ length text = omega arith in
    sym (take_all text) ∙ ap (λ n. take n text) (sym whole) ∙ take_more text k 0 (omega arith)
  where
    take_all : (xs : List ℕ) → take (length xs) xs ≡ xs
    take_all [] = refl
    take_all (x ∷ xs) = ap (λ t. x ∷ t) (take_all xs)

whole_of_parts : (line before word after : List ℕ) → line ≡ before ++ (word ++ after)
    → ((front : List ℕ) (b : ℕ) → before ≡ front ++ b ∷ [] → IsFalse (is_word_byte b))
    → ((b : ℕ) (rest : List ℕ) → after ≡ b ∷ rest → IsFalse (is_word_byte b)) → IsWhole line (length before) (length (before ++ word))
whole_of_parts line before word after whole begins ends = record { before = λ k e. front k e; after = λ inside. back after ends whole inside }
  where
    front : (k : ℕ) → length before ≡ suc k → IsFalse (is_word_byte (get_or line k 0))
    front k e =
        let read : get_or line k 0 ≡ get_or before k 0 = ap (λ t. get_or t k 0) whole ∙ get_or-append before (word ++ after) 0 k (omega arith) in
        subst (λ n. IsFalse (is_word_byte n)) (sym read) (begins (take k before) (get_or before k 0) (last_split before k e))

    back : (rest : List ℕ) → ((b : ℕ) (more : List ℕ) → rest ≡ b ∷ more → IsFalse (is_word_byte b)) → line ≡ before ++ (word ++ rest)
        → length (before ++ word) < length line → IsFalse (is_word_byte (get_or line (length (before ++ word)) 0))
    back [] free is_line inside = absurd (omega (arith, ap length (is_line ∙ sym (append_assoc before word [])), length-append (before ++ word) []))
    back (b ∷ more) free is_line inside =
        let read : get_or line (length (before ++ word)) 0 ≡ b =
        ap (λ t. get_or t (length (before ++ word)) 0) (is_line ∙ sym (append_assoc before word (b ∷ more)))
        ∙ get_or-append_seam (before ++ word) b more 0 in
        subst (λ n. IsFalse (is_word_byte n)) (sym read) (free b more refl)

-- the byte after a text is read at its length
read_after : (line front rest : List ℕ) (b at : ℕ) → line ≡ front ++ b ∷ rest → at ≡ length front → (get_or line at 0 ≡ b) × (at < length line)
read_after line front rest b at whole e = (
  ap (get_or line at) refl ∙ ap (λ n. get_or line n 0) e ∙ ap (λ t. get_or t (length front) 0) whole ∙ get_or-append_seam front b rest 0,
  omega (arith, ap length whole, length-append front (b ∷ rest)),
)

parts_of_whole : (tree : Tree) (line : List ℕ) (start end : ℕ) → start ≤ length line → Spans line tree start end → IsWhole line start end
    → ContainsWholeWord tree line
parts_of_whole tree line start end inside h whole =
    let is_line : line ≡ take start line ++ drop start line = sym (take-append-drop start line) in
    let leads = language_of_spans line tree (take start line) (drop start line) start end is_line (length-take-le start line inside) h in
    let parts : line ≡ take start line ++ (leads.word ++ leads.after) = is_line ∙ ap (λ t. take start line ++ t) leads.is_rest in
    let long = length-take-le start line inside in
    record {
      before = take start line;
      word = leads.word;
      after = leads.after;
      is_line = parts;
      in_language = leads.in_language;
      begins = λ front b e.
          let read = read_after line front (leads.word ++ leads.after) b (length front)
          (parts ∙ ap (λ t. t ++ (leads.word ++ leads.after)) e ∙ append_assoc front (b ∷ []) (leads.word ++ leads.after)) refl in
          subst (λ n. IsFalse (is_word_byte n)) read.0
          (whole.before (length front) (omega (arith, long, ap length e, length-append front (b ∷ []))));
      ends = λ b rest e.
          let read = read_after line (take start line ++ leads.word) rest b end
          (parts ∙ ap (λ t. take start line ++ (leads.word ++ t)) e ∙ sym (append_assoc (take start line) leads.word (b ∷ rest))) leads.is_end in
          subst (λ n. IsFalse (is_word_byte n)) read.0 (whole.after read.1);
    }

pub whole_by_positions : (tree : Tree) (line : List ℕ)
    → (ContainsWholeWord tree line → (start end : ℕ) × (start ≤ length line) × Spans line tree start end × IsWhole line start end)
    × ((start end : ℕ) × (start ≤ length line) × Spans line tree start end × IsWhole line start end → ContainsWholeWord tree line)
whole_by_positions tree line = (
  λ h. (
    length h.before,
    length (h.before ++ h.word),
    omega (arith, ap length h.is_line, length-append h.before (h.word ++ h.after)),
    spans_of_language line tree h.before h.word h.after h.is_line h.in_language,
    whole_of_parts line h.before h.word h.after h.is_line h.begins h.ends,
  ),
  λ (start, end, inside, spans, whole). parts_of_whole tree line start end inside spans whole,
)
