-- The language by positions is the language of the tree.
use Rattle.std.proofs.Common.{◌≡◌, ℕ, zero, suc, ◌+◌, ◌≤◌, ◌<◌, IsTrue, List, [], ◌∷◌, ◌++◌, length, get_or, take, drop, inl, inr, refl, sym, ap}
use Rattle.std.proofs.Common.{subst, ◌∙◌, arith, append_assoc, length-append}
use Rattle.std.proofs.lemmas.List.{append-nil, take-append-drop, length-take-le, nil_from_length}
use Rattle.std.proofs.Math.Seq.{get_or-append_seam}
use Rattle.ere.specs.ByteSet.{has}
use Rattle.ere.specs.Tree.{Tree, empty, set, at_start, at_end, cat, alt, repeat, Trees, none, more}
use Rattle.ere.specs.Language.{Language, InCopies, InLanguage, InEach, InSome, ContainsMatch}
use Rattle.spans.specs.Spans.{Relation, Steps, Spans, SpansEach, SpansSome}

-- An empty word after x ends where x ends.
end_of_nothing : (x w : List ℕ) → w ≡ [] → length x ≡ length (x ++ w)
end_of_nothing x w e = rw e (ap length (sym (append-nil x)))

-- Copies of words are steps from where x ends to where the last copy ends.
steps_of_copies : (line : List ℕ) (language : Language) (relation : Relation)
    → ((x w y : List ℕ) → line ≡ x ++ (w ++ y) → language x w y → relation (length x) (length (x ++ w))) → (count : ℕ) (x w y : List ℕ)
    → line ≡ x ++ (w ++ y) → InCopies language count x w y → Steps relation count (length x) (length (x ++ w))
unfolding InCopies Steps
steps_of_copies line language relation one zero x w y whole h = end_of_nothing x w h
steps_of_copies line language relation one (suc count) x w y whole (u, v, e, first, last) = (
  length (x ++ u),
  steps_of_copies line language relation one count x u (v ++ y) (whole ∙ ap (λ t. x ++ (t ++ y)) e ∙ ap (λ t. x ++ t) (append_assoc u v y)) first,
  subst (λ t. relation (length (x ++ u)) (length t)) (append_assoc x u v ∙ ap (λ t. x ++ t) (sym e))
      (one (x ++ u) v y (whole ∙ ap (λ t. x ++ (t ++ y)) e ∙ ap (λ t. x ++ t) (append_assoc u v y) ∙ sym (append_assoc x u (v ++ y))) last),
)

seam : (line x y : List ℕ) (b : ℕ) → line ≡ x ++ b ∷ y → b ≡ get_or line (length x) 0
seam line x y b whole = rw whole (sym (get_or-append_seam x b y 0))

mutual
  unfolding InLanguage InEach InSome Spans SpansEach SpansSome

  pub spans_of_language : (line : List ℕ) (tree : Tree) (x w y : List ℕ) → line ≡ x ++ (w ++ y) → InLanguage tree x w y
      → Spans line tree (length x) (length (x ++ w))
  spans_of_language line empty x w y whole h = end_of_nothing x w h
  spans_of_language line (set members) x w y whole h =
      let whole_b : line ≡ x ++ h.0 ∷ y = whole ∙ ap (λ t. x ++ (t ++ y)) h.1 in (
        ap (λ t. length (x ++ t)) h.1 ∙ length-append x (h.0 ∷ []) ∙ omega arith,
        omega (arith, ap length whole_b, length-append x (h.0 ∷ y)),
        subst (λ b. IsTrue (has members b)) (seam line x y h.0 whole_b) h.2,
      )
  spans_of_language line at_start x w y whole h = (ap length h.0, end_of_nothing x w h.1)
  spans_of_language line at_end x w y whole h =
      (ap length (sym (whole ∙ ap (λ t. x ++ (t ++ y)) h.0 ∙ ap (λ t. x ++ t) h.1 ∙ append-nil x)), end_of_nothing x w h.0)
  spans_of_language line (cat members) x w y whole h = spans_of_each line members x w y whole h
  spans_of_language line (alt members) x w y whole h = spans_of_some line members x w y whole h
  spans_of_language line (repeat body least greatest) x w y whole h =
      (h.0, h.1, h.2, steps_of_copies line (InLanguage body) (Spans line body) (λ x' w' y'. spans_of_language line body x' w' y') h.0 x w y whole h.3)

  spans_of_each : (line : List ℕ) (trees : Trees) (x w y : List ℕ) → line ≡ x ++ (w ++ y) → InEach trees x w y
      → SpansEach line trees (length x) (length (x ++ w))
  spans_of_each line none x w y whole h = end_of_nothing x w h
  spans_of_each line (more tree trees) x w y whole (u, v, e, first, rest) = (
    length (x ++ u),
    spans_of_language line tree x u (v ++ y) (whole ∙ ap (λ t. x ++ (t ++ y)) e ∙ ap (λ t. x ++ t) (append_assoc u v y)) first,
    subst (λ t. SpansEach line trees (length (x ++ u)) (length t)) (append_assoc x u v ∙ ap (λ t. x ++ t) (sym e))
        (spans_of_each line trees (x ++ u) v y
        (whole ∙ ap (λ t. x ++ (t ++ y)) e ∙ ap (λ t. x ++ t) (append_assoc u v y) ∙ sym (append_assoc x u (v ++ y))) rest),
  )

  spans_of_some : (line : List ℕ) (trees : Trees) (x w y : List ℕ) → line ≡ x ++ (w ++ y) → InSome trees x w y
      → SpansSome line trees (length x) (length (x ++ w))
  spans_of_some line none x w y whole h = h
  spans_of_some line (more tree trees) x w y whole (inl h) = inl (spans_of_language line tree x w y whole h)
  spans_of_some line (more tree trees) x w y whole (inr h) = inr (spans_of_some line trees x w y whole h)

-- After x, in z, a word leads to the position.
pub record Leads (language : Language) (x z : List ℕ) (to : ℕ) : Type 0 where
  pub word : List ℕ
  pub after : List ℕ
  pub is_rest : z ≡ word ++ after
  pub is_end : to ≡ length (x ++ word)
  pub in_language : language x word after

leads_nowhere : (language : Language) (x z : List ℕ) (to : ℕ) → length x ≡ to → language x [] z → Leads language x z to
leads_nowhere language x z to e h = record { word = []; after = z; is_rest = refl; is_end = sym e ∙ ap length (sym (append-nil x)); in_language = h }

-- A word of one language and then a word of another make a word of both.
leads_on : (first second both : Language) (line x z : List ℕ) (to middle : ℕ) → line ≡ x ++ z → Leads first x z middle
    → ((x' z' : List ℕ) → line ≡ x' ++ z' → length x' ≡ middle → Leads second x' z' to)
    → ((u v y : List ℕ) → first x u (v ++ y) → second (x ++ u) v y → both x (u ++ v) y) → Leads both x z to
leads_on first second both line x z to middle whole one next join =
    let two = next (x ++ one.word) one.after (whole ∙ ap (λ t. x ++ t) one.is_rest ∙ sym (append_assoc x one.word one.after)) (sym one.is_end) in
    record {
      word = one.word ++ two.word;
      after = two.after;
      is_rest = one.is_rest ∙ ap (λ t. one.word ++ t) two.is_rest ∙ sym (append_assoc one.word two.word two.after);
      is_end = two.is_end ∙ ap length (append_assoc x one.word two.word);
      in_language = join one.word two.word two.after (subst (λ t. first x one.word t) two.is_rest one.in_language) two.in_language;
    }

copies_of_steps : (line : List ℕ) (language : Language) (relation : Relation)
    → ((x z : List ℕ) (from to : ℕ) → line ≡ x ++ z → length x ≡ from → relation from to → Leads language x z to)
    → (count : ℕ) (x z : List ℕ) (from to : ℕ) → line ≡ x ++ z → length x ≡ from → Steps relation count from to
    → Leads (InCopies language count) x z to
unfolding InCopies Steps
copies_of_steps line language relation one zero x z from to whole at h = leads_nowhere (InCopies language zero) x z to (at ∙ h) refl
copies_of_steps line language relation one (suc count) x z from to whole at h =
    leads_on (InCopies language count) language (InCopies language (suc count)) line x z to h.0 whole
    (copies_of_steps line language relation one count x z from h.0 whole at h.1) (λ x' z' e at'. one x' z' h.0 to e at' h.2)
    (λ u v y p q. (u, v, refl, p, q))

-- the byte after x
next_byte : (line x z : List ℕ) → line ≡ x ++ z → length x < length line → (y : List ℕ) × (z ≡ get_or line (length x) 0 ∷ y)
next_byte line x [] whole inside = absurd (omega (arith, ap length whole, length-append {A = ℕ} x []))
next_byte line x (b ∷ y) whole inside = (y, ap (λ t. t ∷ y) (seam line x y b whole))

mutual
  unfolding InLanguage InEach InSome Spans SpansEach SpansSome

  pub language_of_spans : (line : List ℕ) (tree : Tree) (x z : List ℕ) (from to : ℕ) → line ≡ x ++ z → length x ≡ from → Spans line tree from to
      → Leads (InLanguage tree) x z to
  language_of_spans line empty x z from to whole at h = leads_nowhere (InLanguage empty) x z to (at ∙ h) refl
  language_of_spans line (set members) x z from to whole at h =
      let next = next_byte line x z whole (omega (arith, h.1)) in
      record {
        word = get_or line (length x) 0 ∷ [];
        after = next.0;
        is_rest = next.1;
        is_end = h.0 ∙ omega (arith, length-append x (get_or line (length x) 0 ∷ []));
        in_language = (get_or line (length x) 0, refl, subst (λ n. IsTrue (has members (get_or line n 0))) (sym at) h.2);
      }
  language_of_spans line at_start x z from to whole at h = leads_nowhere (InLanguage at_start) x z to (at ∙ h.1) (nil_from_length x (at ∙ h.0), refl)
  language_of_spans line at_end x z from to whole at h =
      leads_nowhere (InLanguage at_end) x z to (at ∙ h.1) (refl, nil_from_length z (omega (arith, ap length whole, length-append x z, h.0)))
  language_of_spans line (cat members) x z from to whole at h = each_of_spans line members x z from to whole at h
  language_of_spans line (alt members) x z from to whole at h = some_of_spans line members x z from to whole at h
  language_of_spans line (repeat body least greatest) x z from to whole at h =
      let copies =
      copies_of_steps line (InLanguage body) (Spans line body) (λ x' z' from' to'. language_of_spans line body x' z' from' to') h.0 x z
      from to whole at h.3 in
      record { word = copies.word; after = copies.after; is_rest = copies.is_rest; is_end = copies.is_end; in_language = (h.0, h.1, h.2, copies.in_language) }

  each_of_spans : (line : List ℕ) (trees : Trees) (x z : List ℕ) (from to : ℕ) → line ≡ x ++ z → length x ≡ from
      → SpansEach line trees from to → Leads (InEach trees) x z to
  each_of_spans line none x z from to whole at h = leads_nowhere (InEach none) x z to (at ∙ h) refl
  each_of_spans line (more tree trees) x z from to whole at h =
      leads_on (InLanguage tree) (InEach trees) (InEach (more tree trees)) line x z to h.0 whole
      (language_of_spans line tree x z from h.0 whole at h.1) (λ x' z' e at'. each_of_spans line trees x' z' h.0 to e at' h.2)
      (λ u v y p q. (u, v, refl, p, q))

  some_of_spans : (line : List ℕ) (trees : Trees) (x z : List ℕ) (from to : ℕ) → line ≡ x ++ z → length x ≡ from
      → SpansSome line trees from to → Leads (InSome trees) x z to
  some_of_spans line none x z from to whole at h = absurd h
  some_of_spans line (more tree trees) x z from to whole at (inl h) =
      let one = language_of_spans line tree x z from to whole at h in
      record { word = one.word; after = one.after; is_rest = one.is_rest; is_end = one.is_end; in_language = inl one.in_language }
  some_of_spans line (more tree trees) x z from to whole at (inr h) =
      let one = some_of_spans line trees x z from to whole at h in
      record { word = one.word; after = one.after; is_rest = one.is_rest; is_end = one.is_end; in_language = inr one.in_language }

-- A word does not lead backwards, or out of the line.
pub spans_within : (line : List ℕ) (tree : Tree) (from to : ℕ) → from ≤ length line → Spans line tree from to → (from ≤ to) × (to ≤ length line)
spans_within line tree from to inside h =
    let whole : line ≡ take from line ++ drop from line = sym (take-append-drop from line) in
    let front : length (take from line) ≡ from = length-take-le from line inside in
    let leads = language_of_spans line tree (take from line) (drop from line) from to whole front h in
    let joined : to ≡ from + length leads.word = leads.is_end ∙ length-append (take from line) leads.word ∙ ap (λ n. n + length leads.word) front in
    let parts : length line ≡ from + (length leads.word + length leads.after) =
    ap length whole ∙ length-append (take from line) (drop from line) ∙ ap (λ n. n + length (drop from line)) front
    ∙ ap (λ n. from + n) (ap length leads.is_rest ∙ length-append leads.word leads.after) in
    (omega arith, omega arith)

-- A line contains a match if a word of the tree leads from one of its positions to any position.
pub hit_of_spans : (line : List ℕ) (tree : Tree) (from to : ℕ) → from ≤ length line → Spans line tree from to → ContainsMatch tree line
hit_of_spans line tree from to inside h =
    let whole : line ≡ take from line ++ drop from line = sym (take-append-drop from line) in
    let leads = language_of_spans line tree (take from line) (drop from line) from to whole (length-take-le from line inside) h in
    record {
      before = take from line;
      word = leads.word;
      after = leads.after;
      is_line = whole ∙ ap (λ t. take from line ++ t) leads.is_rest;
      in_language = leads.in_language;
    }

pub spans_of_hit : (line : List ℕ) (tree : Tree) → ContainsMatch tree line → (from to : ℕ) × (from ≤ length line) × Spans line tree from to
spans_of_hit line tree hit = (
  length hit.before,
  length (hit.before ++ hit.word),
  omega (arith, ap length hit.is_line, length-append hit.before (hit.word ++ hit.after)),
  spans_of_language line tree hit.before hit.word hit.after hit.is_line hit.in_language,
)
