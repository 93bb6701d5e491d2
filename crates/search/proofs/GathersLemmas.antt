-- What is gathered, from document to document.
use Rattle.std.proofs.Common.{◌≡◌, ℕ, zero, suc, ◌+◌, ◌-◌, ◌≤◌, ◌<◌, ◌⊎◌, inl, inr, Bool, true, false, Option, Some, None, List, [], ◌∷◌, ◌++◌, map, length, length-drop, take, drop, get_or, refl, sym, ◌∙◌, ap, subst, arith, append_assoc}
use Rattle.std.specs.Prelude.{if◌then◌else◌, min}
use Rattle.std.specs.List.{AllByRecursion}
use Rattle.std.proofs.lemmas.Bool.{false≢true}
use Rattle.std.proofs.lemmas.Bool.Decides.{nat_tests}
use Rattle.std.proofs.lemmas.Grind.{flat_map-append}
use Rattle.std.proofs.Math.Seq.{take-suc}
use Rattle.std.proofs.lemmas.List.{append-nil, length-append, take_all, take-append-drop}
use Rattle.documents.specs.Documents.{Document}
use Rattle.documents.specs.declared.document.SharedDocument.{SharedDocument}
use Rattle.request.specs.declared.options.View.{View}
use Rattle.request.specs.declared.options.View.TheVariants as view
use Rattle.search.specs.declared.gathered.Gathered.{Gathered}
use Rattle.search.specs.declared.gathered.Wanted.{Wanted}
use Rattle.prepare.specs.Prepared.{request_of}
use Rattle.search.specs.Private.Added.{AddsUpTo, IsReached}
use Rattle.search.specs.Private.Documents.{lines_of_taken}
use Rattle.search.specs.Private.Gathered.{all_or_one, AreGathered, AreRowsUpTo, asked, formed_of, FoundIn, Gathers, GathersMore, HaveBodies, HaveOwnNames, IsGathered, kept_of, left_from, number_of, one_more, request_for, shown_hits, shows_lines, with_limit}
use Rattle.search.specs.Private.Rows.{AreRowsOf}
use Rattle.prepare.specs.Request.{Request}
use Rattle.views.specs.Found.{Hit}
use Rattle.views.specs.declared.shown.FoundBy.{FoundBy}
use Rattle.search.specs.Selects.{Selects, done, IsAsked}
use Rattle.prepare.specs.Tests.{test_of}
use Rattle.views.specs.Text.{text_of_row, text_of_rows}
use Rattle.views.specs.Rows.{AreRows, name_with_count, hits_in, at_most, is_over, limited, names_of, total}
use Rattle.views.specs.View.{Row, name, count, shows_names}
use Rattle.search.proofs.GatherLemmas.{All-limited, gathered-append, gathered-over, found-apart, named-one, own-left, rows-none, names-none, rows-one, total-lines, total-names}
use Rattle.search.proofs.LimitLemmas.{at_most-within, limited-all, limited-front, limited-over, limited-cut, length-limited}
use Rattle.search.proofs.SelectsLemmas.{Selects-append}
use Rattle.search.proofs.UpToLemmas.{selection_of_text}
use Rattle.search.proofs.ViewLemmas.{names-one, hits_in-all}

zero_within : (limit : Option ℕ) → is_over limit 0 ≡ false
zero_within None = refl
zero_within (Some most) = grind (arith, nat_tests)

zero_most : (limit : Option ℕ) → at_most limit 0 ≡ 0
zero_most None = refl
zero_most (Some most) = omega arith

pub lines_viewed : (shown : View) → shows_lines shown ≡ true → shown ≡ view.Lines
lines_viewed view.Lines e = refl
lines_viewed (view.Context most) e = absurd (false≢true e)
lines_viewed view.Column e = absurd (false≢true e)
lines_viewed view.Spans e = absurd (false≢true e)
lines_viewed view.Names e = absurd (false≢true e)
lines_viewed view.Counts e = absurd (false≢true e)
lines_viewed view.Header e = absurd (false≢true e)

pub kept-lines : (shown : View) (hits : List Hit) → shows_lines shown ≡ true → kept_of shown hits ≡ hits
kept-lines shown hits e = ap (λ b. if b then hits else []) e

pub kept-others : (shown : View) (hits : List Hit) → shows_lines shown ≡ false → kept_of shown hits ≡ []
kept-others shown hits e = ap (λ b. if b then hits else []) e

-- nothing of no hits
nothing : (request : Request) (shown : View) (all : List Document) → AreGathered request shown all [] []
unfolding names_of
nothing request shown all = go (shows_names shown) refl
  where
    go : (names : Bool) → shows_names shown ≡ names → AreGathered request shown all [] []
    go true e = names-none request shown all [] e (limited-all request.limit [] (zero_within request.limit))
    go false e = rows-none request shown all [] e (limited-all request.limit [] (zero_within request.limit))

no_total : (shown : View) → total shown [] ≡ 0
unfolding names_of
no_total shown = go (shows_names shown)
  where
    go : (names : Bool) → (if names then length (names_of []) else length {A = Hit} []) ≡ 0
    go true = refl
    go false = refl

pub text-rows-append : (byte : Bool) (rows others : List Row) → text_of_rows byte (rows ++ others) ≡ text_of_rows byte rows ++ text_of_rows byte others
text-rows-append byte rows others = flat_map-append (text_of_row byte) rows others

formed-append : (shown : View) (rows others : List Row) → formed_of shown (rows ++ others) ≡ formed_of shown rows ++ formed_of shown others
formed-append shown rows others = go (shows_lines shown)
  where
    go : (b : Bool) → (if b then [] else rows ++ others) ≡ (if b then [] else rows) ++ (if b then [] else others)
    go true = refl
    go false = refl

-- the way by which lines are looked at says nothing of what is gathered
pub gathers-by : {wanted : Wanted} {documents : List SharedDocument} {g : Gathered} {by : FoundBy} → Gathers wanted documents g
    → Gathers wanted documents (record g { found_by = by })
gathers-by is = record {
  hits = is.hits;
  found = is.found;
  rows = is.rows;
  is_gathered = is.is_gathered;
  kept = is.kept;
  text = is.text;
  row_count = is.row_count;
}

module _ (wanted : Wanted) where
  abbrev pub limit : Option ℕ
  limit = wanted.limit

  pub selection_of : (documents : List SharedDocument) → (hits : List Hit) × FoundIn wanted documents hits
  selection_of [] = ([], done)
  selection_of (d ∷ documents) =
      let first = selection_of_text (test_of wanted.prepared.now.line) d.name 1 d.held in
      let others = selection_of documents in
      (first.0 ++ others.0, Selects-append first.1 others.1)

  pub found-both : (front back : List SharedDocument) (xs ys : List Hit) → FoundIn wanted front xs → FoundIn wanted back ys
      → FoundIn wanted (front ++ back) (xs ++ ys)
  found-both front back xs ys one two =
      subst (λ all. Selects (IsAsked (test_of wanted.prepared.now.line)) all (xs ++ ys)) (sym (flat_map-append lines_of_taken front back))
      (Selects-append one two)

  found-one : (d : SharedDocument) (hits : List Hit) → Selects (IsAsked (test_of wanted.prepared.now.line)) (lines_of_taken d) hits
      → FoundIn wanted (d ∷ []) hits
  found-one d hits s = subst (λ all. Selects (IsAsked (test_of wanted.prepared.now.line)) all hits) (sym (append-nil (lines_of_taken d))) s

  pub gathers-begin : (g : Gathered) → g.hits ≡ [] → g.text.items ≡ [] → g.rows ≡ 0 → g.count ≡ 0 → g.more ≡ false → Gathers wanted [] g
  gathers-begin g hits text rows counted more = record {
    hits = [];
    found = done;
    rows = [];
    is_gathered =
        record {
          rows = λ all bodies. nothing (request_for wanted) wanted.view all;
          count = counted ∙ sym (ap (λ n. at_most limit n) (no_total wanted.view) ∙ zero_most limit);
          more = more ∙ sym (ap (λ n. is_over limit n) (no_total wanted.view) ∙ zero_within limit);
        };
    kept = hits ∙ sym (ap (λ hs. kept_of wanted.view hs) (limited-all limit [] (zero_within limit)) ∙ no-hits (shows_lines wanted.view));
    text = text ∙ sym (ap (λ rs. text_of_rows wanted.prepared.now.zero rs) (no-rows (shows_lines wanted.view)));
    row_count = rows;
  }
    where
      no-hits : (b : Bool) → ◌≡◌ {A = List Hit} (if b then [] else []) []
      no-hits true = refl
      no-hits false = refl

      no-rows : (b : Bool) → ◌≡◌ {A = List Row} (if b then [] else []) []
      no-rows true = refl
      no-rows false = refl

  pub gathers-none : (g : Gathered) → GathersMore wanted [] g g
  gathers-none g = λ before own is. subst (λ ds. Gathers wanted ds g) (sym (append-nil before)) is

  pub gathers-both : (one two : List SharedDocument) (old mid new : Gathered) → GathersMore wanted one old mid → GathersMore wanted two mid new
      → GathersMore wanted (one ++ two) old new
  gathers-both one two old mid new first second = λ before own is.
      let assoc = append_assoc before one two in
      let own_both = subst HaveOwnNames (sym assoc) own in
      subst (λ ds. Gathers wanted ds new) assoc (second (before ++ one) own_both (first before (own-left (before ++ one) two own_both) is))

  -- no document more is looked at once there are more hits than are shown
  pub gathers-over : (documents : List SharedDocument) (g : Gathered) → g.more ≡ true → GathersMore wanted documents g g
  gathers-over documents g more = λ before own is.
      let rest = selection_of documents in
      let test = test_of wanted.prepared.now.line in
      let over : is_over limit (total wanted.view is.hits) ≡ true = sym is.is_gathered.more ∙ more in
      record {
        hits = is.hits ++ rest.0;
        found = found-both before documents is.hits rest.0 is.found rest.1;
        rows = is.rows;
        is_gathered =
            subst (λ m. IsGathered (request_for wanted) wanted.view (before ++ documents) (is.hits ++ rest.0) is.rows g.count m) (sym more)
            (gathered-over (request_for wanted) wanted.view before documents is.hits rest.0
            (found-apart test before documents is.hits rest.0 own is.found rest.1) is.rows [] g.count 0
            (subst (λ m. IsGathered (request_for wanted) wanted.view before is.hits is.rows g.count m) more is.is_gathered));
        kept = is.kept ∙ kept-over is.hits rest.0 over;
        text = is.text;
        row_count = is.row_count;
      }
    where
      kept-over : (xs ys : List Hit) → is_over limit (total wanted.view xs) ≡ true
          → kept_of wanted.view (limited limit xs) ≡ kept_of wanted.view (limited limit (xs ++ ys))
      kept-over xs ys over = go (shows_lines wanted.view) refl
        where
          go : (b : Bool) → shows_lines wanted.view ≡ b → (if b then limited limit xs else []) ≡ (if b then limited limit (xs ++ ys) else [])
          go true e = sym (limited-over limit xs ys (ap (λ v. is_over limit (total v xs)) (sym (lines_viewed wanted.view e)) ∙ over))
          go false e = refl

  -- one more document with these hits, the first of which were found
  pub gathers-one : (d : SharedDocument) (old new : Gathered) (found hits : List Hit) (rows : List Row) (c : ℕ) → old.more ≡ false
      → Selects (IsAsked (test_of wanted.prepared.now.line)) (lines_of_taken d) hits
      → (shows_names wanted.view ≡ false → limited (left_from limit old.count) hits ≡ limited (left_from limit old.count) found)
      → IsGathered (with_limit (left_from limit old.count) (request_for wanted)) wanted.view (d ∷ []) hits rows c new.more
      → new.hits ≡ kept_of wanted.view (limited limit (old.hits ++ found))
      → new.text.items ≡ old.text.items ++ text_of_rows wanted.prepared.now.zero (formed_of wanted.view rows) → new.rows ≡ old.rows + length rows
      → new.count ≡ old.count + c → GathersMore wanted (d ∷ []) old new
  gathers-one d old new found hits rows c fewer s cut one kept text row_count counted = λ before own is.
      let byte = wanted.prepared.now.zero in
      let test = test_of wanted.prepared.now.line in
      let selected = found-one d hits s in
      record {
        hits = is.hits ++ hits;
        found = found-both before (d ∷ []) is.hits hits is.found selected;
        rows = is.rows ++ rows;
        is_gathered =
            subst (λ n. IsGathered (request_for wanted) wanted.view (before ++ d ∷ []) (is.hits ++ hits) (is.rows ++ rows) n new.more) (sym counted)
            (gathered-append (request_for wanted) wanted.view before (d ∷ []) is.hits hits
            (found-apart test before (d ∷ []) is.hits hits own is.found selected) is.rows rows old.count c new.more
            (subst (λ m. IsGathered (request_for wanted) wanted.view before is.hits is.rows old.count m) fewer is.is_gathered) one);
        kept = kept ∙ kept-more is.hits is.kept is.is_gathered.count (sym is.is_gathered.more ∙ fewer);
        text =
            text
            ∙ (ap (λ t. t ++ text_of_rows byte (formed_of wanted.view rows)) is.text
            ∙ (sym (text-rows-append byte (formed_of wanted.view is.rows) (formed_of wanted.view rows))
            ∙ ap (λ rs. text_of_rows byte rs) (sym (formed-append wanted.view is.rows rows))));
        row_count = row_count ∙ (ap (λ n. n + length rows) is.row_count ∙ sym (length-append is.rows rows));
      }
    where
      kept-more : (xs : List Hit) → old.hits ≡ kept_of wanted.view (limited limit xs) → old.count ≡ at_most limit (total wanted.view xs)
          → is_over limit (total wanted.view xs) ≡ false
          → kept_of wanted.view (limited limit (old.hits ++ found)) ≡ kept_of wanted.view (limited limit (xs ++ hits))
      kept-more xs before many within = go (shows_lines wanted.view) refl
        where
          go : (b : Bool) → shows_lines wanted.view ≡ b
              → (if b then limited limit (old.hits ++ found) else []) ≡ (if b then limited limit (xs ++ hits) else [])
          go true e =
              let is = lines_viewed wanted.view e in
              let low : is_over limit (length xs) ≡ false = ap (λ v. is_over limit (total v xs)) (sym is) ∙ within in
              let size : old.count ≡ length xs = many ∙ (ap (λ v. at_most limit (total v xs)) is ∙ at_most-within limit (length xs) low) in
              let same : old.hits ≡ xs = before ∙ (kept-lines wanted.view (limited limit xs) e ∙ limited-all limit xs low) in
              ap (λ hs. limited limit (hs ++ found)) same
              ∙ (limited-front limit xs found low
              ∙ (ap (λ n. xs ++ limited (left_from limit n) found) (sym size)
              ∙ (ap (λ hs. xs ++ hs) (sym (cut (ap (λ v. shows_names v) is)))
              ∙ (ap (λ n. xs ++ limited (left_from limit n) hits) size ∙ sym (limited-front limit xs hits low)))))
          go false e = refl

-- ---- one document

rows_of-limit : (other : Option ℕ) (request : Request) (shown : View) (of body : List ℕ) (hits : List Hit) (rows : List Row)
    → AreRowsOf request shown of body hits rows → AreRowsOf (with_limit other request) shown of body hits rows
unfolding AreRowsOf
rows_of-limit other request view.Lines of body hits rows is = is
rows_of-limit other request (view.Context most) of body hits rows is = is
rows_of-limit other request view.Column of body hits rows is = is
rows_of-limit other request view.Spans of body hits rows is = is
rows_of-limit other request view.Names of body hits rows is = is
rows_of-limit other request view.Counts of body hits rows is = is
rows_of-limit other request view.Header of body hits rows is = is

asked-lines : (shown : View) (left : Option ℕ) → shows_names shown ≡ false → asked shown left ≡ one_more left
asked-lines view.Lines left e = refl
asked-lines (view.Context most) left e = refl
asked-lines view.Column left e = refl
asked-lines view.Spans left e = refl
asked-lines view.Names left e = absurd (false≢true (sym e))
asked-lines view.Counts left e = absurd (false≢true (sym e))
asked-lines view.Header left e = refl

-- where names are shown, at least one hit is asked for
asks-some : (shown : View) (left : Option ℕ) → shows_names shown ≡ true → IsReached (asked shown left) 0 → ⊥
asks-some view.Names left e h = absurd (omega (arith, h))
asks-some view.Counts None e h = h
asks-some view.Counts (Some zero) e h = absurd (omega (arith, h))
asks-some view.Counts (Some (suc n)) e h = h
asks-some view.Lines left e h = false≢true e
asks-some (view.Context most) left e h = false≢true e
asks-some view.Column left e h = false≢true e
asks-some view.Spans left e h = false≢true e
asks-some view.Header left e h = false≢true e

module _ (request : Request) (shown : View) (d : SharedDocument) (Has : Hit → Type 0) (left : Option ℕ) (found : List Hit)
    (adds : AddsUpTo (asked shown left) Has (lines_of_taken d) [] found) (each : AllByRecursion (λ f. f.name ≡ d.name) (adds.added ++ adds.rest)) where
  abbrev pub all : List Hit
  all = adds.added ++ adds.rest

  abbrev pub number : ℕ
  number = number_of shown (length found)

  abbrev pub Gives : List Row → Type 0
  Gives rows = IsGathered (with_limit left request) shown (d ∷ []) all rows (at_most left number) (is_over left number)

  found_first : found ++ adds.rest ≡ all
  found_first = ap (λ hits. hits ++ adds.rest) adds.appended

  -- ---- its lines

  cut-lines : shows_names shown ≡ false → (limited left all ≡ limited left found) × (is_over left (length all) ≡ is_over left (length found))
  cut-lines lines =
      let ended = subst (λ m. (adds.rest ≡ []) ⊎ IsReached m (length found)) (asked-lines shown left lines) adds.ended in
      let parts = limited-cut left found adds.rest ended in
      (ap (λ hs. limited left hs) (sym found_first) ∙ parts.0, ap (λ hs. is_over left (length hs)) (sym found_first) ∙ parts.1)

  one-lines : (rows : List Row) → shows_names shown ≡ false → AreRowsUpTo request shown d left found rows → Gives rows
  one-lines rows lines are =
      let cut = cut-lines lines in
      let size : number ≡ length found = ap (λ b. if b then min (length found) 1 else length found) lines in
      let counted : at_most left number ≡ length (limited left found) = ap (λ n. at_most left n) size ∙ sym (length-limited left found) in
      record {
        rows = λ documents bodies. rows_by documents bodies (limited left found) cut.0 counted;
        count =
            counted ∙ (ap length (sym cut.0) ∙ (length-limited left all ∙ ap (λ n. at_most left n) (sym (total-lines shown all lines))));
        more = ap (λ n. is_over left n) size ∙ (sym cut.1 ∙ ap (λ n. is_over left n) (sym (total-lines shown all lines)));
      }
    where
      rows_by : (documents : List Document) → HaveBodies documents (d ∷ []) → (hits : List Hit) → limited left all ≡ hits
          → at_most left number ≡ length hits → AreGathered (with_limit left request) shown documents all rows
      rows_by documents bodies [] is none =
          subst (λ rs. AreGathered (with_limit left request) shown documents all rs) (sym (are.none none))
          (rows-none (with_limit left request) shown documents all lines is)
      rows_by documents bodies (x ∷ xs) is some =
          let named = subst (λ hs. AllByRecursion (λ f. f.name ≡ d.name) hs) is (All-limited (λ f. f.name ≡ d.name) left all each) in
          let hits : shown_hits shown left found ≡ x ∷ xs =
          ap (λ b. if b then found else limited left found) lines ∙ (sym (cut-lines lines).0 ∙ is) in
          rows-one (with_limit left request) documents d.name d.held bodies.0 x xs named.0 named.1 shown all rows lines is
          (rows_of-limit left request shown d.name d.held (x ∷ xs) rows
          (subst (λ hs. AreRowsOf request shown d.name d.held hs rows) hits (are.some (λ none. let no : suc (length xs) ≡ 0 = sym some ∙ none in absurd (omega (arith, no))))))

  -- ---- its name

  no_hits : shows_names shown ≡ true → found ≡ [] → all ≡ []
  no_hits names none =
      let added : adds.added ≡ [] = sym adds.appended ∙ none in
      let rest : adds.rest ≡ [] =
      elim adds.ended [
        | inl e ↦ e
        | inr full ↦ absurd (asks-some shown left names (subst (λ hs. IsReached (asked shown left) (length hs)) none full))
      ] in
      ap (λ hs. hs ++ adds.rest) added ∙ rest

  name_of_all : (x : Hit) (xs : List Hit) → found ≡ x ∷ xs → names_of all ≡ d.name ∷ []
  name_of_all x xs some =
      let is : all ≡ x ∷ (xs ++ adds.rest) = sym found_first ∙ ap (λ hs. hs ++ adds.rest) some in
      let named = subst (λ hs. AllByRecursion (λ f. f.name ≡ d.name) hs) is each in
      ap names_of is ∙ names-one d.name x (xs ++ adds.rest) named.0 named.1

  name_rows : (rows : List Row) (v : View) → shows_names v ≡ true → (adds.rest ≡ []) ⊎ IsReached (asked v left) (length found)
      → all_or_one left ≡ None → AreRowsOf request v d.name d.held found rows → names_of all ≡ d.name ∷ []
      → limited left (d.name ∷ []) ≡ d.name ∷ [] → (documents : List Document) → AreGathered (with_limit left request) v documents all rows
  unfolding AreGathered AreRows AreRowsOf
  name_rows rows view.Names names ended every are one fits documents =
      are ∙ ap (λ ns. map name ns) (sym (ap (λ ns. limited left ns) one ∙ fits))
  name_rows rows view.Counts names ended every are one fits documents =
      let rest : adds.rest ≡ [] =
      elim (subst (λ m. (adds.rest ≡ []) ⊎ IsReached m (length found)) every ended) [ inl none ↦ none | inr never ↦ absurd never ] in
      let whole : found ≡ all = sym (append-nil found) ∙ (ap (λ hs. found ++ hs) (sym rest) ∙ found_first) in
      let size : length found ≡ length (hits_in d.name all) = ap length (whole ∙ sym (hits_in-all d.name all each)) in
      are
      ∙ (ap (λ n. count d.name n ∷ []) size
      ∙ ap (λ ns. map (name_with_count all) ns) (sym (ap (λ ns. limited left ns) one ∙ fits)))
  name_rows rows view.Lines names ended every are one fits documents = absurd (false≢true names)
  name_rows rows (view.Context n) names ended every are one fits documents = absurd (false≢true names)
  name_rows rows view.Column names ended every are one fits documents = absurd (false≢true names)
  name_rows rows view.Spans names ended every are one fits documents = absurd (false≢true names)
  name_rows rows view.Header names ended every are one fits documents = absurd (false≢true names)

  one-name : (rows : List Row) → shows_names shown ≡ true → AreRowsUpTo request shown d left found rows → Gives rows
  one-name rows names are = go found refl
    where
      numbered_as : (n : ℕ) → number_of shown n ≡ min n 1
      numbered_as n = ap (λ b. if b then min n 1 else n) names

      gives : number ≡ total shown all → ((documents : List Document) → AreGathered (with_limit left request) shown documents all rows) → Gives rows
      gives size rows_are = record {
        rows = λ documents bodies. rows_are documents;
        count = ap (λ n. at_most left n) size;
        more = ap (λ n. is_over left n) size;
      }

      shown_rows : {limit : Option ℕ} → names_of all ≡ d.name ∷ [] → number ≡ 1 → left ≡ limit → all_or_one limit ≡ None → at_most limit 1 ≡ 1
          → limited limit (d.name ∷ []) ≡ d.name ∷ [] → (documents : List Document) → AreGathered (with_limit left request) shown documents all rows
      shown_rows one size is every most fits documents =
          let counted : at_most left number ≡ 1 = ap (λ n. at_most left n) size ∙ (ap (λ l. at_most l 1) is ∙ most) in
          let hits : shown_hits shown left found ≡ found = ap (λ b. if b then found else limited left found) names in
          name_rows rows shown names adds.ended (ap all_or_one is ∙ every)
          (subst (λ hs. AreRowsOf request shown d.name d.held hs rows) hits
          (are.some (λ none. let no : 1 ≡ 0 = sym counted ∙ none in absurd (omega (arith, no))))) one
          (ap (λ l. limited l (d.name ∷ [])) is ∙ fits) documents

      some_rows : names_of all ≡ d.name ∷ [] → number ≡ 1 → (limit : Option ℕ) → left ≡ limit → (documents : List Document)
          → AreGathered (with_limit left request) shown documents all rows
      some_rows one size (Some zero) is documents =
          let none : at_most left number ≡ 0 = ap (λ n. at_most left n) size ∙ ap (λ l. at_most l 1) is in
          subst (λ rs. AreGathered (with_limit left request) shown documents all rs) (sym (are.none none))
          (names-none (with_limit left request) shown documents all names
          (ap (λ l. limited l (names_of all)) is ∙ ap (λ ns. take 0 ns) one))
      some_rows one size None is documents = shown_rows one size is refl refl refl documents
      some_rows one size (Some (suc n)) is documents = shown_rows one size is refl (omega arith) (take-one n) documents
        where
          take-one : (n : ℕ) → take (suc n) (d.name ∷ []) ≡ d.name ∷ []
          take-one zero = refl
          take-one (suc n) = refl

      go : (hits : List Hit) → found ≡ hits → Gives rows
      go [] is =
          let none = no_hits names is in
          let size : number ≡ 0 = ap (λ hs. number_of shown (length hs)) is ∙ numbered_as 0 in
          let no_rows : rows ≡ [] = are.none (ap (λ n. at_most left n) size ∙ zero_most left) in
          gives (size ∙ sym (ap (total shown) none ∙ no_total shown)) (λ documents.
          subst (λ rs. AreGathered (with_limit left request) shown documents all rs) (sym no_rows)
          (subst (λ hs. AreGathered (with_limit left request) shown documents hs []) (sym none) (nothing (with_limit left request) shown documents)))
      go (x ∷ xs) is =
          let one = name_of_all x xs is in
          let size : number ≡ 1 = ap (λ hs. number_of shown (length hs)) is ∙ (numbered_as (suc (length xs)) ∙ omega arith) in
          gives (size ∙ sym (total-names shown all names ∙ ap length one)) (λ documents. some_rows one size left refl documents)

  pub one-document : (rows : List Row) → AreRowsUpTo request shown d left found rows → Gives rows
  one-document rows are = go (shows_names shown) refl
    where
      go : (names : Bool) → shows_names shown ≡ names → Gives rows
      go true e = one-name rows e are
      go false e = one-lines rows e are

  pub cut-alike : shows_names shown ≡ false → limited left all ≡ limited left found
  cut-alike lines = (cut-lines lines).0

-- ---- from document to document

module _ (wanted : Wanted) (documents : List SharedDocument) (old now new : Gathered) where
  pub gathers-next : (i : ℕ) (d : SharedDocument) → i < length documents → d ≡ get_or documents i d
      → GathersMore wanted (take i documents) old now → GathersMore wanted (d ∷ []) now new → GathersMore wanted (take (i + 1) documents) old new
  gathers-next i d inside is before one =
      let moved : suc i ≡ i + 1 = omega arith in
      let next : take i documents ++ d ∷ [] ≡ take (i + 1) documents =
      ap (λ x. take i documents ++ x ∷ []) is ∙ (sym (take-suc documents i d inside) ∙ ap (λ n. take n documents) moved) in
      subst (λ ds. GathersMore wanted ds old new) next (gathers-both wanted (take i documents) (d ∷ []) old now new before one)

  pub gathers-rest : (i : ℕ) → now.more ≡ true → GathersMore wanted (take i documents) old now → GathersMore wanted documents old now
  gathers-rest i more before =
      subst (λ ds. GathersMore wanted ds old now) (take-append-drop i documents)
      (gathers-both wanted (take i documents) (drop i documents) old now now before (gathers-over wanted (drop i documents) now more))

  pub gathers-end : (i : ℕ) → length documents ≤ i → GathersMore wanted (take i documents) old now → GathersMore wanted documents old now
  gathers-end i past before = subst (λ ds. GathersMore wanted ds old now) (take_all i documents past) before

  -- the first few documents, and then the others
  pub gathers-all : (few : ℕ) → Gathers wanted [] old → GathersMore wanted (take few documents) old now
      → GathersMore wanted (take (length documents - few) (drop few documents)) now new → HaveOwnNames documents → Gathers wanted documents new
  gathers-all few begin first rest own =
      let others = take_all (length documents - few) (drop few documents) (omega (arith, length-drop few documents)) in
      let whole : take few documents ++ take (length documents - few) (drop few documents) ≡ documents =
      ap (λ ds. take few documents ++ ds) others ∙ take-append-drop few documents in
      let all = gathers-both wanted (take few documents) (take (length documents - few) (drop few documents)) old now new first rest in
      subst (λ ds. Gathers wanted ds new) whole (all [] (subst HaveOwnNames (sym whole) own) begin)

-- ---- what a step adds

pub gathers-document : (wanted : Wanted) (d : SharedDocument) (old new : Gathered) (left : Option ℕ) (found : List Hit) (rows : List Row)
    → old.more ≡ false → left ≡ left_from wanted.limit old.count
    → AddsUpTo (asked wanted.view left) (IsAsked (test_of wanted.prepared.now.line)) (lines_of_taken d) [] found
    → AreRowsUpTo (request_of wanted.prepared.now) wanted.view d left found rows
    → new.hits ≡ kept_of wanted.view (limited wanted.limit (old.hits ++ found))
    → new.text.items ≡ old.text.items ++ text_of_rows wanted.prepared.now.zero (formed_of wanted.view rows) → new.rows ≡ old.rows + length rows
    → new.count ≡ old.count + at_most left (number_of wanted.view (length found)) → new.more ≡ is_over left (number_of wanted.view (length found))
    → GathersMore wanted (d ∷ []) old new
gathers-document wanted d old new left found rows fewer is_left adds are kept text row_count counted more =
    let own = request_of wanted.prepared.now in
    let test = test_of wanted.prepared.now.line in
    let all = adds.added ++ adds.rest in
    let c = at_most left (number_of wanted.view (length found)) in
    let each = named-one test d all adds.selected in
    let gives = one-document own wanted.view d (IsAsked test) left found adds each rows are in
    gathers-one wanted d old new found all rows c fewer adds.selected
    (λ lines. subst (λ l. limited l all ≡ limited l found) is_left (cut-alike own wanted.view d (IsAsked test) left found adds each lines))
    (subst (λ l. IsGathered (with_limit l own) wanted.view (d ∷ []) all rows c new.more) is_left
    (subst (λ m. IsGathered (with_limit left own) wanted.view (d ∷ []) all rows c m) (sym more) gives)) kept text row_count counted
