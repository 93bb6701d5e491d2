-- What is shown of documents, and of more documents after them, with no gap before the first stretch of lines.
use Rattle.std.proofs.Common.{◌≡◌, ℕ, zero, suc, ◌+◌, ◌-◌, ◌≤◌, ◌<◌, ◌==◌, Bool, true, false, Option, Some, List, [], ◌∷◌, ◌++◌, map, length, take, drop, refl, sym, ◌∙◌, ap, subst, arith, append_assoc}
use Rattle.std.specs.Prelude.{filter, flat_map, if◌then◌else◌, slice_get}
use Rattle.std.specs.List.{AllByRecursion}
use Rattle.std.specs.Str.{bytes_eq}
use Rattle.std.proofs.lemmas.Bool.Decides.{nat_tests}
use Rattle.std.proofs.Math.Seq.{drop-nil}
use Rattle.std.proofs.lemmas.List.{append-nil, drop-append-le, length-append, take-append-drop}
use Rattle.documents.specs.Documents.{Document}
use Rattle.documents.specs.Shared.{documents_shared}
use Rattle.documents.specs.declared.document.SharedDocument.{SharedDocument}
use Rattle.documents.proofs.ElementLemmas.{bytes_eq-refl, bytes_eq-sym}
use Rattle.lines.specs.Lines.{lines_of}
use Rattle.request.specs.declared.options.View.{View}
use Rattle.request.specs.declared.options.View.TheVariants as view
use Rattle.search.specs.Private.Gathered.{AreGathered, HasGap, BeginsWithGap, no_rows, rows_after, Gathers, HaveBodies, HaveOwnNames, IsGathered, Joins, all_stretches, cut_gap, gap_rows, left_from, request_for, shows_context, shows_lines, trimmed, with_limit}
use Rattle.views.specs.Parts.{text_of_parts}
use Rattle.prepare.specs.Prepared.{request_of}
use Rattle.prepare.specs.Request.{Request}
use Rattle.prepare.specs.Tests.{test_of}
use Rattle.views.specs.Text.{text_of_hit, text_of_hits, text_of_row, text_of_rows}
use Rattle.search.specs.declared.gathered.Gathered.{Gathered}
use Rattle.search.specs.declared.gathered.Wanted.{Wanted}
use Rattle.search.specs.declared.side_by_side.Joined.{Joined}
use Rattle.views.specs.Found.{Hit}
use Rattle.views.specs.Found.{numbered, lines_of_document}
use Rattle.views.specs.Rows.{AreRows, body_of, is_over, hits_in, limited, names_of}
use Rattle.views.specs.View.{Row, gap, hit, is_near, rows_from, stretches}
use Rattle.search.proofs.GatherLemmas.{found-apart, gathered-append, gathered-over, gathered-within, own-left, own-right}
use Rattle.search.proofs.GathersLemmas.{found-both, kept-lines, kept-others, lines_viewed, selection_of, text-rows-append}
use Rattle.views.proofs.PartLemmas.{text-one_more, text-split}

-- ---- rows of stretches

begins-append : {xs ys : List Row} → BeginsWithGap xs → BeginsWithGap ys → BeginsWithGap (xs ++ ys)
begins-append no_rows h = h
begins-append rows_after h = rows_after

begins-each : {X : Type 0} (f : X → List Row) (xs : List X) → ((x : X) → BeginsWithGap (f x)) → BeginsWithGap (flat_map f xs)
begins-each f [] each = no_rows
begins-each f (x ∷ xs) each = begins-append (each x) (begins-each f xs each)

begins-from : (hits lines : List Hit) → AllByRecursion (λ line. 0 < line.line) lines → BeginsWithGap (rows_from hits 0 lines)
unfolding rows_from
begins-from hits [] each = no_rows
begins-from hits (line ∷ lines) each =
    let later : (line.line == 0) ≡ false = let high : 0 < line.line = each.0 in grind (arith, nat_tests) in
    rw later rows_after

some-lines : (P : Hit → Bool) (lines : List Hit) → AllByRecursion (λ line. 0 < line.line) lines → AllByRecursion (λ line. 0 < line.line) (filter P lines)
some-lines P [] each = tt
some-lines P (line ∷ lines) each = go (P line) (some-lines P lines each.1)
  where
    go : (b : Bool) → AllByRecursion (λ line. 0 < line.line) (filter P lines)
        → AllByRecursion (λ line. 0 < line.line) (if b then line ∷ filter P lines else filter P lines)
    go true rest = (each.0, rest)
    go false rest = rest

numbered-above : (name : List ℕ) (line : ℕ) (texts : List (List ℕ)) → AllByRecursion (λ f. 0 < f.line) (numbered name (suc line) texts)
unfolding numbered
numbered-above name line [] = tt
numbered-above name line (text ∷ texts) = (omega arith, numbered-above name (suc line) texts)

begins-stretches : (most : ℕ) (documents : List Document) (hits : List Hit) → BeginsWithGap (all_stretches most documents hits)
begins-stretches most documents hits =
    begins-each (λ of. stretches most (hits_in of hits) of (body_of of documents)) (names_of hits)
    (λ of.
    begins-from (hits_in of hits) (filter (λ line. is_near most (hits_in of hits) line.line) (lines_of_document of (body_of of documents)))
    (some-lines (λ line. is_near most (hits_in of hits) line.line) (lines_of_document of (body_of of documents))
    (numbered-above of 0 (lines_of (body_of of documents)))))

-- ---- the documents' own bodies

bodies-further : (d : SharedDocument) (all : List Document) (documents : List SharedDocument)
    → AllByRecursion (λ e. bytes_eq e.name d.name ≡ false) documents → HaveBodies all documents
    → HaveBodies (documents_shared (d ∷ []) ++ all) documents
bodies-further d all [] others bodies = tt
bodies-further d all (e ∷ documents) others bodies =
    let apart : bytes_eq d.name e.name ≡ false = bytes_eq-sym d.name e.name ∙ others.0 in
    (rw apart bodies.0, bodies-further d all documents others.1 bodies.1)

pub own-bodies : (documents : List SharedDocument) → HaveOwnNames documents → HaveBodies (documents_shared documents) documents
own-bodies [] own = tt
own-bodies (d ∷ documents) own =
    (rw (bytes_eq-refl d.name) refl, bodies-further d (documents_shared documents) documents own.0 (own-bodies documents own.1))

pub begins-gathered : (request : Request) (most : ℕ) (documents : List Document) (hits : List Hit) (rows : List Row)
    → AreGathered request (view.Context most) documents hits rows → BeginsWithGap rows
unfolding AreGathered
begins-gathered request most documents hits rows are =
    subst BeginsWithGap (sym are) (begins-stretches most documents (limited request.limit hits))

-- ---- without the first gap

module _ (byte : Bool) where
  -- the text of rows without the first gap, and how many rows there are
  pub cut-text : (shown : View) (rows : List Row) (n : ℕ) → length rows ≡ n → ((most : ℕ) → shown ≡ view.Context most → BeginsWithGap rows)
      → (drop (cut_gap (shows_context shown) n).0 (text_of_rows byte rows) ≡ text_of_rows byte (trimmed shown rows))
      × ((cut_gap (shows_context shown) n).1 ≡ length (trimmed shown rows))
  unfolding text_of_row
  cut-text (view.Context most) rows n size begins =
      subst (λ m. (drop (cut_gap true m).0 (text_of_rows byte rows) ≡ text_of_rows byte (drop 1 rows)) × ((cut_gap true m).1 ≡ length (drop 1 rows)))
      size (go (begins most refl))
    where
      go : {rows : List Row} → BeginsWithGap rows
          → (drop (cut_gap true (length rows)).0 (text_of_rows byte rows) ≡ text_of_rows byte (drop 1 rows))
          × ((cut_gap true (length rows)).1 ≡ length (drop 1 rows))
      go no_rows = (refl, refl)
      go rows_after = (refl, refl)
  cut-text view.Lines rows n size begins = (refl, sym size)
  cut-text view.Column rows n size begins = (refl, sym size)
  cut-text view.Spans rows n size begins = (refl, sym size)
  cut-text view.Names rows n size begins = (refl, sym size)
  cut-text view.Counts rows n size begins = (refl, sym size)
  cut-text view.Header rows n size begins = (refl, sym size)

-- the rows at the front and those at the back, with the gap between them
pub trimmed-append : (shown : View) (xs ys : List Row) → ((most : ℕ) → shown ≡ view.Context most → BeginsWithGap xs)
    → ((most : ℕ) → shown ≡ view.Context most → BeginsWithGap ys)
    → trimmed shown (xs ++ ys)
    ≡ trimmed shown xs ++ (gap_rows (shows_context shown) (length (trimmed shown xs)) (length (trimmed shown ys)) ++ trimmed shown ys)
trimmed-append (view.Context most) xs ys front back = go (front most refl) (back most refl)
  where
    go : {xs ys : List Row} → BeginsWithGap xs → BeginsWithGap ys
        → drop 1 (xs ++ ys) ≡ drop 1 xs ++ (gap_rows true (length (drop 1 xs)) (length (drop 1 ys)) ++ drop 1 ys)
    go no_rows no_rows = refl
    go no_rows rows_after = refl
    go (rows_after {row} {rows}) no_rows = refl
    go rows_after rows_after = refl
trimmed-append view.Lines xs ys front back = refl
trimmed-append view.Column xs ys front back = refl
trimmed-append view.Spans xs ys front back = refl
trimmed-append view.Names xs ys front back = refl
trimmed-append view.Counts xs ys front back = refl
trimmed-append view.Header xs ys front back = refl

-- ---- parts

context-begins : (request : Request) (shown : View) (documents : List SharedDocument) (hits : List Hit) (rows : List Row) (c : ℕ) (more : Bool)
    → HaveOwnNames documents → IsGathered request shown documents hits rows c more → (most : ℕ) → shown ≡ view.Context most → BeginsWithGap rows
context-begins request shown documents hits rows c more own is most e =
    begins-gathered request most (documents_shared documents) hits rows
    (subst (λ v. AreGathered request v (documents_shared documents) hits rows) e (is.rows (documents_shared documents) (own-bodies documents own)))

text-lines : (byte : Bool) (hits : List Hit) → text_of_rows byte (map hit hits) ≡ text_of_hits byte hits
unfolding text_of_row
text-lines byte [] = refl
text-lines byte (x ∷ hits) = ap (λ t. text_of_hit byte x ++ t) (text-lines byte hits)

module _ (wanted : Wanted) where
  abbrev pub zero_byte : Bool
  zero_byte = wanted.prepared.now.zero

  lines_are : (documents : List SharedDocument) (hits : List Hit) (rows : List Row) (c : ℕ) (more : Bool) → wanted.view ≡ view.Lines → HaveOwnNames documents
      → IsGathered (request_for wanted) wanted.view documents hits rows c more → rows ≡ map hit (limited wanted.limit hits)
  unfolding AreGathered AreRows
  lines_are documents hits rows c more e own is =
      subst (λ v. AreGathered (request_for wanted) v (documents_shared documents) hits rows) e
      (is.rows (documents_shared documents) (own-bodies documents own))

  -- the text of what is gathered, and then that of the lines that are kept
  text-whole : (documents : List SharedDocument) (g : Gathered) (from : ℕ) → HaveOwnNames documents → (is : Gathers wanted documents g)
      → from ≡ (cut_gap (shows_context wanted.view) g.rows).0
      → drop from g.text.items ++ text_of_hits zero_byte g.hits ≡ text_of_rows zero_byte (trimmed wanted.view is.rows)
  text-whole documents g from own is cut = go (shows_lines wanted.view) refl
    where
      go : (b : Bool) → shows_lines wanted.view ≡ b
          → drop from g.text.items ++ text_of_hits zero_byte g.hits ≡ text_of_rows zero_byte (trimmed wanted.view is.rows)
      go true e =
          let lines = lines_viewed wanted.view e in
          let none : g.text.items ≡ [] = is.text ∙ ap (λ b. text_of_rows zero_byte (if b then [] else is.rows)) e in
          ap (λ t. drop from t ++ text_of_hits zero_byte g.hits) none
          ∙ (ap (λ t. t ++ text_of_hits zero_byte g.hits) (drop-nil from)
          ∙ (ap (λ hs. text_of_hits zero_byte hs) (is.kept ∙ kept-lines wanted.view (limited wanted.limit is.hits) e)
          ∙ (sym (text-lines zero_byte (limited wanted.limit is.hits))
          ∙ (ap (λ rs. text_of_rows zero_byte rs) (sym (lines_are documents is.hits is.rows g.count g.more lines own is.is_gathered))
          ∙ ap (λ v. text_of_rows zero_byte (trimmed v is.rows)) (sym lines)))))
      go false e =
          let formed : g.text.items ≡ text_of_rows zero_byte is.rows =
          is.text ∙ ap (λ b. text_of_rows zero_byte (if b then [] else is.rows)) e in
          ap (λ hs. drop from g.text.items ++ text_of_hits zero_byte hs) (is.kept ∙ kept-others wanted.view (limited wanted.limit is.hits) e)
          ∙ (append-nil (drop from g.text.items)
          ∙ (ap (λ t. drop from t) formed
          ∙ (ap (λ n. drop n (text_of_rows zero_byte is.rows)) cut
          ∙ (cut-text zero_byte wanted.view is.rows g.rows (sym is.row_count)
          (context-begins (request_for wanted) wanted.view documents is.hits is.rows g.count g.more own is.is_gathered)).0)))

  pub joins-one : (documents : List SharedDocument) (g : Gathered) (j : Joined) (from : ℕ) (part : List ℕ) → HaveOwnNames documents → Gathers wanted documents g
      → (from, j.rows) ≡ cut_gap (shows_context wanted.view) g.rows → part ≡ drop from g.text.items ++ text_of_hits zero_byte g.hits → text_of_parts j.parts.items ≡ part
      → j.count ≡ g.count → j.more ≡ g.more → Joins wanted wanted.limit documents j
  joins-one documents g j from part own is cut text parts counted more =
      let shown = wanted.view in
      let both = cut-text zero_byte shown is.rows g.rows (sym is.row_count)
      (context-begins (request_for wanted) shown documents is.hits is.rows g.count g.more own is.is_gathered) in
      record {
        hits = is.hits;
        found = is.found;
        rows = is.rows;
        is_gathered =
            subst (λ n. IsGathered (request_for wanted) shown documents is.hits is.rows n j.more) (sym counted)
            (subst (λ m. IsGathered (request_for wanted) shown documents is.hits is.rows g.count m) (sym more) is.is_gathered);
        text = parts ∙ (text ∙ text-whole documents g from own is (ap (λ (p : ℕ × ℕ). p.0) cut));
        row_count = ap (λ (p : ℕ × ℕ). p.1) cut ∙ both.1;
      }

  pub joins-over : (limit : Option ℕ) (front back : List SharedDocument) (j : Joined) → HaveOwnNames (front ++ back) → j.more ≡ true
      → Joins wanted limit front j → Joins wanted limit (front ++ back) j
  joins-over limit front back j own more is =
      let request = with_limit limit (request_of wanted.prepared.now) in
      let rest = selection_of wanted back in
      let apart = found-apart (test_of wanted.prepared.now.line) front back is.hits rest.0 own is.found rest.1 in
      record {
        hits = is.hits ++ rest.0;
        found = found-both wanted front back is.hits rest.0 is.found rest.1;
        rows = is.rows;
        is_gathered =
            subst (λ m. IsGathered request wanted.view (front ++ back) (is.hits ++ rest.0) is.rows j.count m) (sym more)
            (gathered-over request wanted.view front back is.hits rest.0 apart is.rows [] j.count 0
            (subst (λ m. IsGathered request wanted.view front is.hits is.rows j.count m) more is.is_gathered));
        text = is.text;
        row_count = is.row_count;
      }

  pub joins-within : (limit other : Option ℕ) (documents : List SharedDocument) (j : Joined) → j.more ≡ false → is_over other j.count ≡ false
      → Joins wanted limit documents j → Joins wanted other documents j
  joins-within limit other documents j more fits is =
      let request = with_limit limit (request_of wanted.prepared.now) in
      record {
        hits = is.hits;
        found = is.found;
        rows = is.rows;
        is_gathered =
            subst (λ m. IsGathered (with_limit other request) wanted.view documents is.hits is.rows j.count m) (sym more)
            (gathered-within request other wanted.view documents is.hits is.rows j.count fits
            (subst (λ m. IsGathered request wanted.view documents is.hits is.rows j.count m) more is.is_gathered));
        text = is.text;
        row_count = is.row_count;
      }

  pub joins-both : (limit : Option ℕ) (front back : List SharedDocument) (f b j : Joined) → HaveOwnNames (front ++ back) → f.more ≡ false
      → Joins wanted limit front f → Joins wanted (left_from limit f.count) back b
      → text_of_parts j.parts.items ≡ (text_of_parts f.parts.items ++ text_of_rows zero_byte (gap_rows (shows_context wanted.view) f.rows b.rows))
      ++ text_of_parts b.parts.items
      → j.rows ≡ f.rows + length (gap_rows (shows_context wanted.view) f.rows b.rows) + b.rows → j.count ≡ f.count + b.count → j.more ≡ b.more
      → Joins wanted limit (front ++ back) j
  joins-both limit front back f b j own fewer one two text rows counted more =
      let request = with_limit limit (request_of wanted.prepared.now) in
      let shown = wanted.view in
      let test = test_of wanted.prepared.now.line in
      let apart = found-apart test front back one.hits two.hits own one.found two.found in
      let middle = gap_rows (shows_context shown) f.rows b.rows in
      let whole : trimmed shown (one.rows ++ two.rows) ≡ trimmed shown one.rows ++ (middle ++ trimmed shown two.rows) =
      trimmed-append shown one.rows two.rows
      (context-begins request shown front one.hits one.rows f.count f.more (own-left front back own) one.is_gathered)
      (context-begins (with_limit (left_from limit f.count) (request_of wanted.prepared.now)) shown back two.hits two.rows b.count b.more
      (own-right front back own) two.is_gathered)
      ∙ (ap (λ n. trimmed shown one.rows ++ (gap_rows (shows_context shown) n (length (trimmed shown two.rows)) ++ trimmed shown two.rows))
      (sym one.row_count)
      ∙ ap (λ n. trimmed shown one.rows ++ (gap_rows (shows_context shown) f.rows n ++ trimmed shown two.rows)) (sym two.row_count)) in
      record {
        hits = one.hits ++ two.hits;
        found = found-both wanted front back one.hits two.hits one.found two.found;
        rows = one.rows ++ two.rows;
        is_gathered =
            subst (λ n. IsGathered request shown (front ++ back) (one.hits ++ two.hits) (one.rows ++ two.rows) n j.more) (sym counted)
            (subst (λ m. IsGathered request shown (front ++ back) (one.hits ++ two.hits) (one.rows ++ two.rows) (f.count + b.count) m) (sym more)
            (gathered-append request shown front back one.hits two.hits apart one.rows two.rows f.count b.count b.more
            (subst (λ m. IsGathered request shown front one.hits one.rows f.count m) fewer one.is_gathered) two.is_gathered));
        text =
            text
            ∙ (ap (λ t. (t ++ text_of_rows zero_byte middle) ++ text_of_parts b.parts.items) one.text
            ∙ (ap (λ t. (text_of_rows zero_byte (trimmed shown one.rows) ++ text_of_rows zero_byte middle) ++ t) two.text
            ∙ (append_assoc (text_of_rows zero_byte (trimmed shown one.rows)) (text_of_rows zero_byte middle)
            (text_of_rows zero_byte (trimmed shown two.rows))
            ∙ (ap (λ t. text_of_rows zero_byte (trimmed shown one.rows) ++ t) (sym (text-rows-append zero_byte middle (trimmed shown two.rows)))
            ∙ (sym (text-rows-append zero_byte (trimmed shown one.rows) (middle ++ trimmed shown two.rows))
            ∙ ap (λ rs. text_of_rows zero_byte rs) (sym whole))))));
        row_count =
            rows
            ∙ (ap (λ n. n + length middle + b.rows) one.row_count
            ∙ (ap (λ n. length (trimmed shown one.rows) + length middle + n) two.row_count
            ∙ (sizes (trimmed shown one.rows) middle (trimmed shown two.rows) ∙ ap length (sym whole))));
      }
    where
      sizes : (xs ys zs : List Row) → length xs + length ys + length zs ≡ length (xs ++ (ys ++ zs))
      sizes xs ys zs = omega (arith, length-append xs (ys ++ zs), length-append ys zs)

  -- a limit that was set for the gathering alone
  pub joins-for : (set limit : Option ℕ) (documents : List SharedDocument) (j : Joined)
      → Joins (record { prepared = wanted.prepared; view = wanted.view; limit = set; known = wanted.known }) limit documents j → Joins wanted limit documents j
  joins-for set limit documents j is = record {
    hits = is.hits;
    found = is.found;
    rows = is.rows;
    is_gathered = is.is_gathered;
    text = is.text;
    row_count = is.row_count;
  }

-- the documents at the front and those at the back
pub both-sides : (documents front back : List SharedDocument) (at : ℕ) → front ≡ take at documents → back ≡ drop at documents
    → front ++ back ≡ documents
both-sides documents front back at first others =
    ap (λ ds. ds ++ back) first ∙ (ap (λ ds. take at documents ++ ds) others ∙ take-append-drop at documents)

-- the text of a part that begins with what was there, and goes on with the first of these lines
pub part-whole : (byte : Bool) (hits : List Hit) (at from low : ℕ) (old new : List ℕ) → low ≤ length old → drop low old ≡ drop from old
    → new ≡ old ++ text_of_hits byte (take at hits)
    → drop low new ++ text_of_hits byte (drop at hits) ≡ drop from old ++ text_of_hits byte hits
part-whole byte hits at from low old new inside same grown =
    ap (λ t. drop low t ++ text_of_hits byte (drop at hits)) grown
    ∙ (ap (λ t. t ++ text_of_hits byte (drop at hits)) (drop-append-le low old (text_of_hits byte (take at hits)) inside)
    ∙ (append_assoc (drop low old) (text_of_hits byte (take at hits)) (text_of_hits byte (drop at hits))
    ∙ (ap (λ t. t ++ (text_of_hits byte (take at hits) ++ text_of_hits byte (drop at hits))) same
    ∙ ap (λ t. drop from old ++ t) (sym (text-split byte hits (take at hits) (drop at hits) at refl refl)))))

-- the text of one more of these lines, behind what was there
pub one-more_line : (byte : Bool) (hits : List Hit) (at : ℕ) (next : Hit) (old now new : List ℕ) → Some next ≡ slice_get hits at
    → now ≡ old ++ text_of_hits byte (take at hits) → new ≡ now ++ text_of_hit byte next → new ≡ old ++ text_of_hits byte (take (at + 1) hits)
one-more_line byte hits at next old now new there so_far grown =
    let front = text_of_hits byte (take at hits) in
    grown
    ∙ (ap (λ t. t ++ text_of_hit byte next) so_far
    ∙ (append_assoc old front (text_of_hit byte next)
    ∙ ap (λ t. old ++ t) (text-one_more byte hits at next front (front ++ text_of_hit byte next) there refl refl)))

-- ---- gaps

pub context-none : (shown : View) → ((most : ℕ) → shown ≡ view.Context most → ⊥) → shows_context shown ≡ false
context-none (view.Context most) other = absurd (other most refl)
context-none view.Lines other = refl
context-none view.Column other = refl
context-none view.Spans other = refl
context-none view.Names other = refl
context-none view.Counts other = refl
context-none view.Header other = refl

pub cut-no_rows : (context : Bool) (n : ℕ) → n ≡ 0 → (0, 0) ≡ cut_gap context n
cut-no_rows true n e = ap (cut_gap true) (sym e)
cut-no_rows false n e = ap (λ m. (0, m)) (sym e)

pub cut-no_context : (context : Bool) (n : ℕ) → context ≡ false → (0, n) ≡ cut_gap context n
cut-no_context context n e = ap (λ b. cut_gap b n) (sym e)

pub cut-first : (context : Bool) (n : ℕ) → context ≡ true → (n ≡ 0 → ⊥) → (3, n - 1) ≡ cut_gap context n
cut-first context zero e some = absurd (some refl)
cut-first context (suc n) e some = let same : suc n - 1 ≡ n = omega arith in ap (λ m. (3, m)) same ∙ ap (λ b. cut_gap b (suc n)) (sym e)

pub no-gap_before : (context : Bool) (before after : ℕ) → before ≡ 0 → HasGap false (gap_rows context before after)
no-gap_before context before after e = ap (λ n. gap_rows context n after) e ∙ go context
  where
    go : (b : Bool) → gap_rows b 0 after ≡ []
    go true = refl
    go false = refl

pub no-gap_after : (context : Bool) (before after : ℕ) → after ≡ 0 → HasGap false (gap_rows context before after)
no-gap_after context before after e = ap (λ n. gap_rows context before n) e ∙ go context before
  where
    go : (b : Bool) (n : ℕ) → gap_rows b n 0 ≡ []
    go true zero = refl
    go true (suc n) = refl
    go false n = refl

pub gap-between : (context has : Bool) (before after : ℕ) → has ≡ context → (before ≡ 0 → ⊥) → (after ≡ 0 → ⊥)
    → HasGap has (gap_rows context before after)
gap-between context has before after e some others = subst (λ b. HasGap b (gap_rows context before after)) (sym e) (go context before after some others)
  where
    go : (b : Bool) (n m : ℕ) → (n ≡ 0 → ⊥) → (m ≡ 0 → ⊥) → HasGap b (gap_rows b n m)
    go true zero m some others = absurd (some refl)
    go true (suc n) zero some others = absurd (others refl)
    go true (suc n) (suc m) some others = refl
    go false n m some others = refl

pub gap-text : (byte : Bool) (rows : List Row) (part : List ℕ) → rows ≡ gap ∷ [] → part ≡ 45 ∷ 45 ∷ 10 ∷ [] → part ++ [] ≡ text_of_rows byte rows
unfolding text_of_row
gap-text byte rows part one is = ap (λ t. t ++ []) is ∙ ap (λ rs. text_of_rows byte rs) (sym one)
