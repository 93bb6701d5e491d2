-- The rows of one document.
use Rattle.std.proofs.Common.{◌≡◌, ℕ, suc, ◌+◌, inl, inr, Bool, true, false, Some, None, List, [], ◌∷◌, ◌++◌}
use Rattle.std.proofs.Common.{length, map, refl, sym, ◌∙◌, ap, subst, append_assoc}
use Rattle.std.specs.Prelude.{is_some, if◌then◌else◌}
use Rattle.std.proofs.lemmas.List.{append-nil, length-map}
use Rattle.spans.specs.declared.span.Span.{Span}
use Rattle.ere.specs.Tree.{Tree, form}
use Rattle.spans.specs.FirstSpan.{AreSpans, HasNoSpan, IsFirstSpan}
use Rattle.prepare.specs.Request.{Request}
use Rattle.views.specs.Found.{Hit}
use Rattle.views.specs.Text.{text_of_row, text_of_rows, text_of_span, text_of_spans}
use Rattle.views.specs.View.{Row, hit, at_column, stretches}
use Rattle.views.specs.Rows.{RowsOf, done, more, shown_tree, IsColumnRow, IsSpansRow}
use Rattle.views.specs.View.{name as name_row, count as count_row}
use Rattle.request.specs.declared.options.View.{View}
use Rattle.request.specs.declared.options.View.TheVariants as view
use Rattle.spans.specs.FirstStart.{HasNoStart, IsFirstStart}
use Rattle.search.specs.Private.Gathered.{formed_of}
use Rattle.search.specs.Private.Rows.{AreRowsOf}
use Rattle.prepare.specs.Prepared.{inside, request_of}
use Rattle.prepare.specs.declared.pattern.Prepared.{Prepared}
use Rattle.views.proofs.RowLemmas.{text_of_both, text_of_one}

-- ---- a row for each hit

pub record RowsOfSoFar (zero : Bool) (IsRow : Hit → Row → Type 0) (left all : List Hit) (old now : List ℕ) : Type 0 where
  pub added : List Row
  pub appended : now ≡ old ++ text_of_rows zero added
  pub rows : (others : List Row) → RowsOf IsRow left others → RowsOf IsRow all (added ++ others)

module _ (zero : Bool) (IsRow : Hit → Row → Type 0) where
  pub each_begin : (all : List Hit) (old : List ℕ) → RowsOfSoFar zero IsRow all all old old
  each_begin all old = record { added = []; appended = sym (append-nil old); rows = λ others r. r }

  pub each_more : (left rest all : List Hit) (old now new : List ℕ) (first : Hit) → left ≡ first ∷ rest
      → ((row : Row) × IsRow first row × (new ≡ now ++ text_of_row zero row)) → RowsOfSoFar zero IsRow left all old now
      → RowsOfSoFar zero IsRow rest all old new
  each_more left rest all old now new first next (row, is_row, grown) before = record {
    added = before.added ++ row ∷ [];
    appended =
        grown
        ∙ (ap (λ t. t ++ text_of_row zero row) before.appended
        ∙ (append_assoc old (text_of_rows zero before.added) (text_of_row zero row)
        ∙ ap (λ t. old ++ t)
        (ap (λ t. text_of_rows zero before.added ++ t) (sym (text_of_one zero row)) ∙ sym (text_of_both zero before.added (row ∷ [])))));
    rows =
        λ others r.
        subst (λ rs. RowsOf IsRow all rs) (sym (append_assoc before.added (row ∷ []) others))
        (before.rows (row ∷ others) (subst (λ hs. RowsOf IsRow hs (row ∷ others)) (sym next) (more is_row r)));
  }

  as_many : {hits : List Hit} {rows : List Row} → RowsOf IsRow hits rows → length hits ≡ length rows
  as_many done = refl
  as_many (more is_row r) = ap suc (as_many r)

  pub each_end : (left all : List Hit) (old now : List ℕ) → left ≡ [] → RowsOfSoFar zero IsRow left all old now
      → (rows : List Row) × RowsOf IsRow all rows × (length all ≡ length rows) × (now ≡ old ++ text_of_rows zero rows)
  each_end left all old now none before =
      let whole : RowsOf IsRow all (before.added ++ []) = before.rows [] (subst (λ hs. RowsOf IsRow hs []) (sym none) done) in
      let rows : RowsOf IsRow all before.added = subst (λ rs. RowsOf IsRow all rs) (append-nil before.added) whole in
      (before.added, rows, as_many rows, before.appended)

  -- for hits that are all of them
  pub each_total : (left all hits : List Hit) (old now : List ℕ) (n : ℕ) → left ≡ [] → all ≡ hits → n ≡ length hits
      → RowsOfSoFar zero IsRow left all old now
      → (rows : List Row) × RowsOf IsRow hits rows × (n ≡ length rows) × (now ≡ old ++ text_of_rows zero rows)
  each_total left all hits old now n none same many so_far =
      let total = each_end left hits old now none (subst (λ hs. RowsOfSoFar zero IsRow left hs old now) same so_far) in
      (total.0, total.1, many ∙ total.2, total.3)

-- ---- spans

-- what is before the next span
abbrev pub before_next : List Span → List ℕ
before_next [] = []
before_next (span ∷ spans) = 44 ∷ []

pub one_more_span : (spans : List Span) (span : Span)
    → text_of_spans (spans ++ span ∷ []) ≡ text_of_spans spans ++ (before_next spans ++ text_of_span span)
unfolding text_of_spans
one_more_span [] span = refl
one_more_span (first ∷ []) span = append_assoc (text_of_span first) (44 ∷ []) (text_of_span span)
one_more_span (first ∷ second ∷ spans) span =
    ap (λ t. (text_of_span first ++ (44 ∷ [])) ++ t) (one_more_span (second ∷ spans) span)
    ∙ sym (append_assoc (text_of_span first ++ (44 ∷ [])) (text_of_spans (second ∷ spans)) (before_next (second ∷ spans) ++ text_of_span span))

before_more : (spans : List Span) (span : Span) → before_next (spans ++ span ∷ []) ≡ 44 ∷ []
before_more [] span = refl
before_more (first ∷ spans) span = refl

regroup : (a b c d : List ℕ) → ((a ++ b) ++ c) ++ d ≡ a ++ (b ++ (c ++ d))
regroup a b c d = simp append_assoc

text_more : (old now new before : List ℕ) (spans : List Span) (span : Span) → now ≡ old ++ text_of_spans spans → before ≡ before_next spans
    → new ≡ (now ++ before) ++ text_of_span span → new ≡ old ++ text_of_spans (spans ++ span ∷ [])
text_more old now new before spans span so_far is grown =
    grown
    ∙ (ap (λ t. (t ++ before) ++ text_of_span span) so_far
    ∙ (ap (λ b. ((old ++ text_of_spans spans) ++ b) ++ text_of_span span) is
    ∙ (regroup old (text_of_spans spans) (before_next spans) (text_of_span span) ∙ ap (λ t. old ++ t) (sym (one_more_span spans span)))))

-- the spans before a position, whose text is appended, and what is before the next one
pub record SpansSoFar (line : List ℕ) (tree : Tree) (whole_words : Bool) (from : ℕ) (old now before : List ℕ) : Type 0 where
  pub added : List Span
  pub appended : now ≡ old ++ text_of_spans added
  pub next : before ≡ before_next added
  pub spans : (others : List Span) → AreSpans line tree whole_words from others → AreSpans line tree whole_words 0 (added ++ others)

module _ (line : List ℕ) (tree : Tree) (whole_words : Bool) (old : List ℕ) where
  pub spans_begin : (before : List ℕ) → before ≡ [] → SpansSoFar line tree whole_words 0 old old before
  unfolding text_of_spans
  spans_begin before is = record { added = []; appended = sym (append-nil old); next = is; spans = λ others are. are }

  pub spans_more : (from : ℕ) (now new before comma : List ℕ) (span : Span) → IsFirstSpan line tree whole_words from span → comma ≡ 44 ∷ []
      → new ≡ (now ++ before) ++ text_of_span span → SpansSoFar line tree whole_words from old now before
      → SpansSoFar line tree whole_words span.end old new comma
  spans_more from now new before comma span first is grown so_far = record {
    added = so_far.added ++ span ∷ [];
    appended = text_more old now new before so_far.added span so_far.appended so_far.next grown;
    next = is ∙ sym (before_more so_far.added span);
    spans =
        λ others are.
        subst (λ s. AreSpans line tree whole_words 0 s) (sym (append_assoc so_far.added (span ∷ []) others))
        (so_far.spans (span ∷ others) (first, are));
  }

  pub spans_end : (from : ℕ) (now before : List ℕ) → HasNoSpan line tree whole_words from → SpansSoFar line tree whole_words from old now before
      → (spans : List Span) × AreSpans line tree whole_words 0 spans × (now ≡ old ++ text_of_spans spans)
  spans_end from now before none so_far = (
    so_far.added,
    subst (λ s. AreSpans line tree whole_words 0 s) (append-nil so_far.added) (so_far.spans [] none),
    so_far.appended,
  )

parts : (old p s c t e : List ℕ) → ((old ++ p) ++ s) ++ (c ++ (t ++ (e ++ []))) ≡ old ++ ((((p ++ s) ++ c) ++ t) ++ e)
parts old p s c t e = simp (append-nil, append_assoc)

-- a place, what is shown of the matches, and the text of the line
pub shown_text : (old first second new place matches colon text end : List ℕ) → first ≡ old ++ place → second ≡ first ++ matches
    → colon ≡ 58 ∷ [] → end ≡ 10 ∷ [] → new ≡ second ++ (colon ++ (text ++ (end ++ [])))
    → new ≡ old ++ ((((place ++ matches) ++ (58 ∷ [])) ++ text) ++ (10 ∷ []))
shown_text old first second new place matches colon text end first_is second_is colon_is end_is grown =
    grown
    ∙ (ap (λ t. t ++ (colon ++ (text ++ (end ++ [])))) (second_is ∙ ap (λ t. t ++ matches) first_is)
    ∙ ((λ i. ((old ++ place) ++ matches) ++ (colon_is i ++ (text ++ (end_is i ++ []))))
    ∙ parts old place matches (58 ∷ []) text (10 ∷ [])))

pub words_are : (prepared : Prepared) → prepared.words ≡ is_some (request_of prepared).word
words_are prepared = go prepared.words
  where
    go : (words : Bool) → words ≡ is_some (if words then Some (inside (form prepared.line.tree)) else None)
    go true = refl
    go false = refl

-- the column of a line's first match, and a line without a match, which has none
pub has_column : (request : Request) (found : Hit) (whole_words : Bool) (start : ℕ) → whole_words ≡ is_some request.word
    → IsFirstStart found.text (shown_tree request) whole_words start → IsColumnRow request found (at_column (start + 1) found)
has_column request found whole_words start same is =
    inl (start, subst (λ w. IsFirstStart found.text (shown_tree request) w start) same is, refl)

pub no_column : (request : Request) (found : Hit) (whole_words : Bool) → whole_words ≡ is_some request.word
    → HasNoStart found.text (shown_tree request) whole_words → IsColumnRow request found (hit found)
no_column request found whole_words same none = inr (subst (λ w. HasNoStart found.text (shown_tree request) w) same none, refl)

-- ---- what is shown of a document

module _ (request : Request) (of body : List ℕ) (hits : List Hit) (zero : Bool) (old new : List ℕ) (n : ℕ) where
  abbrev pub Shows : View → Type 0
  Shows shown = (rows : List Row) × AreRowsOf request shown of body hits rows × (n ≡ length rows) × (new ≡ old ++ text_of_rows zero (formed_of shown rows))

  module _ (shown : View) where
    pub as_lines : shown ≡ view.Lines → n ≡ length hits → new ≡ old → Shows shown
    unfolding AreRowsOf
    as_lines is many same =
        subst (λ v. Shows v) (sym is) (map hit hits, refl, many ∙ sym (length-map hits (λ (h : Hit). hit h)), same ∙ sym (append-nil old))

    pub as_context : (most : ℕ) → shown ≡ view.Context most
        → ((rows : List Row) × (rows ≡ stretches most hits of body) × (n ≡ length rows) × (new ≡ old ++ text_of_rows zero rows)) → Shows shown
    unfolding AreRowsOf
    as_context most is made = subst (λ v. Shows v) (sym is) made

    pub as_columns : shown ≡ view.Column
        → ((rows : List Row) × RowsOf (IsColumnRow request) hits rows × (n ≡ length rows) × (new ≡ old ++ text_of_rows zero rows)) → Shows shown
    unfolding AreRowsOf
    as_columns is made = subst (λ v. Shows v) (sym is) made

    pub as_spans : shown ≡ view.Spans
        → ((rows : List Row) × RowsOf (IsSpansRow request) hits rows × (n ≡ length rows) × (new ≡ old ++ text_of_rows zero rows)) → Shows shown
    unfolding AreRowsOf
    as_spans is made = subst (λ v. Shows v) (sym is) made

    pub as_name : shown ≡ view.Names → (n ≡ 1) × (new ≡ old ++ text_of_row zero (name_row of)) → Shows shown
    unfolding AreRowsOf
    as_name is made =
        subst (λ v. Shows v) (sym is)
        (name_row of ∷ [], refl, made.0, made.1 ∙ ap (λ t. old ++ t) (sym (text_of_one zero (name_row of))))

    pub as_count : (number : ℕ) → number ≡ length hits → shown ≡ view.Counts → (n ≡ 1) × (new ≡ old ++ text_of_row zero (count_row of number))
        → Shows shown
    unfolding AreRowsOf
    as_count number many is made =
        subst (λ v. Shows v) (sym is) (
          count_row of number ∷ [],
          ap (λ k. count_row of k ∷ []) many,
          made.0,
          made.1 ∙ ap (λ t. old ++ t) (sym (text_of_one zero (count_row of number))),
        )

    pub as_header : shown ≡ view.Header → n ≡ 0 → new ≡ old → Shows shown
    unfolding AreRowsOf
    as_header is none same = subst (λ v. Shows v) (sym is) ([], refl, none, same ∙ sym (append-nil old))
