-- What is shown of documents, and of more documents after them.
use Rattle.std.proofs.Common.{◌≡◌, ℕ, zero, suc, ◌+◌, Bool, true, false, Option, Some, None, List, [], ◌∷◌, ◌++◌, map, length, take, refl, sym, ◌∙◌, ap, subst}
use Rattle.std.specs.Prelude.{flat_map}
use Rattle.std.specs.List.{AllByRecursion}
use Rattle.std.specs.Str.{bytes_eq}
use Rattle.std.proofs.lemmas.Bool.{false≢true}
use Rattle.std.proofs.lemmas.List.{append-nil, map-append}
use Rattle.documents.specs.Documents.{Document}
use Rattle.documents.specs.declared.document.SharedDocument.{SharedDocument}
use Rattle.request.specs.declared.options.View.{View}
use Rattle.request.specs.declared.options.View.TheVariants as view
use Rattle.prepare.specs.Pattern.{Test}
use Rattle.search.specs.Private.Documents.{lines_of_taken}
use Rattle.search.specs.Private.Gathered.{AreGathered, HaveOwnNames, IsGathered, all_stretches, left_from, with_limit}
use Rattle.search.specs.Private.Rows.{AreRowsOf}
use Rattle.prepare.specs.Request.{Request}
use Rattle.views.specs.Found.{Hit}
use Rattle.search.specs.Selects.{Selects, IsAsked}
use Rattle.views.specs.Found.{found}
use Rattle.lines.specs.Lines.{lines_of}
use Rattle.views.specs.Rows.{hits_in, AreRows, IsColumnRow, IsSpansRow, RowsOf, done, more, at_most, body_of, is_over, limited, names_of, name_with_count, total}
use Rattle.views.specs.View.{Row, hit, name, shows_names, stretches}
use Rattle.search.proofs.LimitLemmas.{limited-all, limited-front, limited-over, at_most-within, at_most-front, is_over-front, at_most-over, is_over-over}
use Rattle.search.proofs.ScanLemmas.{numbered-named}
use Rattle.search.proofs.SelectsLemmas.{All-Selects}
use Rattle.search.proofs.ViewLemmas.{All-both, All-left, All-right, All-each, AreApart, HasOther, names-append, names-one, hits_in-all, each-front, each-back, stretches-append, counts-front, counts-back, total-append}

-- ---- rows

RowsOf-append : {IsRow : Hit → Row → Type 0} {xs ys : List Hit} {rows others : List Row} → RowsOf IsRow xs rows → RowsOf IsRow ys others
    → RowsOf IsRow (xs ++ ys) (rows ++ others)
RowsOf-append done s = s
RowsOf-append (more is r) s = more is (RowsOf-append r s)

All-first : {X : Type 0} (P : X → Type 0) (n : ℕ) (xs : List X) → AllByRecursion P xs → AllByRecursion P (take n xs)
All-first P zero xs h = tt
All-first P (suc n) [] h = tt
All-first P (suc n) (x ∷ xs) h = (h.0, All-first P n xs h.1)

pub All-limited : {X : Type 0} (P : X → Type 0) (limit : Option ℕ) (xs : List X) → AllByRecursion P xs → AllByRecursion P (limited limit xs)
All-limited P None xs h = h
All-limited P (Some most) xs h = All-first P most xs h

limited-apart : (limit other : Option ℕ) (xs ys : List Hit) → AreApart xs ys → AreApart (limited limit xs) (limited other ys)
limited-apart limit other xs ys apart =
    All-each (λ x. HasOther ys x.name) (λ x. HasOther (limited other ys) x.name) (limited limit xs)
    (λ x each. All-limited (λ y. bytes_eq y.name x.name ≡ false) other ys each)
    (All-limited (λ x. HasOther ys x.name) limit xs apart)

both-limited : {X : Type 0} (limit : Option ℕ) (xs ys : List X) → is_over limit (length xs) ≡ false
    → limited limit (xs ++ ys) ≡ limited limit xs ++ limited (left_from limit (length xs)) ys
both-limited limit xs ys within =
    limited-front limit xs ys within ∙ ap (λ zs. zs ++ limited (left_from limit (length xs)) ys) (sym (limited-all limit xs within))

module _ (request : Request) (all : List Document) (xs ys : List Hit) (apart : AreApart xs ys) where
  abbrev left : View → Request
  left shown = with_limit (left_from request.limit (total shown xs)) request

  rows-append : (shown : View) (rows others : List Row) → is_over request.limit (total shown xs) ≡ false → AreGathered request shown all xs rows
      → AreGathered (left shown) shown all ys others → AreGathered request shown all (xs ++ ys) (rows ++ others)
  unfolding AreGathered AreRows
  rows-append view.Lines rows others within one two =
      ap (λ rs. rs ++ others) one
      ∙ (ap (λ rs. map hit (limited request.limit xs) ++ rs) two
      ∙ (sym (map-append hit (limited request.limit xs) (limited (left_from request.limit (length xs)) ys))
      ∙ ap (λ hits. map hit hits) (sym (both-limited request.limit xs ys within))))
  rows-append (view.Context most) rows others within one two =
      ap (λ rs. rs ++ others) one
      ∙ (ap (λ rs. all_stretches most all (limited request.limit xs) ++ rs) two
      ∙ (sym (stretches-append (limited request.limit xs) (limited (left_from request.limit (length xs)) ys)
      (limited-apart request.limit (left_from request.limit (length xs)) xs ys apart) most all)
      ∙ ap (λ hits. all_stretches most all hits) (sym (both-limited request.limit xs ys within))))
  rows-append view.Column rows others within one two =
      subst (λ hits. RowsOf (IsColumnRow request) hits (rows ++ others)) (sym (both-limited request.limit xs ys within)) (RowsOf-append one two)
  rows-append view.Spans rows others within one two =
      subst (λ hits. RowsOf (IsSpansRow request) hits (rows ++ others)) (sym (both-limited request.limit xs ys within)) (RowsOf-append one two)
  rows-append view.Names rows others within one two =
      let limit = request.limit in
      let front = limited limit (names_of xs) in
      let back = limited (left_from limit (length (names_of xs))) (names_of ys) in
      ap (λ rs. rs ++ others) one
      ∙ (ap (λ rs. map name front ++ rs) two
      ∙ (sym (map-append name front back)
      ∙ ap (λ names. map name names)
      (sym (ap (λ names. limited limit names) (names-append xs ys apart) ∙ both-limited limit (names_of xs) (names_of ys) within))))
  rows-append view.Counts rows others within one two =
      let limit = request.limit in
      let left = left_from limit (length (names_of xs)) in
      let front = limited limit (names_of xs) in
      let back = limited left (names_of ys) in
      ap (λ rs. rs ++ others) (one ∙ sym (counts-front xs ys apart front (All-limited _ limit (names_of xs) (each-front xs ys apart))))
      ∙ (ap (λ rs. map (name_with_count (xs ++ ys)) front ++ rs)
      (two ∙ sym (counts-back xs ys apart back (All-limited _ left (names_of ys) (each-back xs ys apart))))
      ∙ (sym (map-append (name_with_count (xs ++ ys)) front back)
      ∙ ap (λ names. map (name_with_count (xs ++ ys)) names)
      (sym (ap (λ names. limited limit names) (names-append xs ys apart) ∙ both-limited limit (names_of xs) (names_of ys) within))))
  rows-append view.Header rows others within one two = ap (λ rs. rs ++ others) one ∙ two

  -- nothing more is shown
  rows-over : (shown : View) (rows : List Row) → is_over request.limit (total shown xs) ≡ true → AreGathered request shown all xs rows
      → AreGathered request shown all (xs ++ ys) rows
  unfolding AreGathered AreRows
  rows-over view.Lines rows over one = one ∙ ap (λ hits. map hit hits) (sym (limited-over request.limit xs ys over))
  rows-over (view.Context most) rows over one = one ∙ ap (λ hits. all_stretches most all hits) (sym (limited-over request.limit xs ys over))
  rows-over view.Column rows over one = subst (λ hits. RowsOf (IsColumnRow request) hits rows) (sym (limited-over request.limit xs ys over)) one
  rows-over view.Spans rows over one = subst (λ hits. RowsOf (IsSpansRow request) hits rows) (sym (limited-over request.limit xs ys over)) one
  rows-over view.Names rows over one =
      one
      ∙ ap (λ names. map name names)
      (sym (ap (λ names. limited request.limit names) (names-append xs ys apart) ∙ limited-over request.limit (names_of xs) (names_of ys) over))
  rows-over view.Counts rows over one =
      one
      ∙ (sym (counts-front xs ys apart (limited request.limit (names_of xs)) (All-limited _ request.limit (names_of xs) (each-front xs ys apart)))
      ∙ ap (λ names. map (name_with_count (xs ++ ys)) names)
      (sym (ap (λ names. limited request.limit names) (names-append xs ys apart) ∙ limited-over request.limit (names_of xs) (names_of ys) over)))
  rows-over view.Header rows over one = one

-- all that is within one limit and within another
rows-within : (request : Request) (other : Option ℕ) (shown : View) (all : List Document) (xs : List Hit) (rows : List Row)
    → is_over request.limit (total shown xs) ≡ false → is_over other (total shown xs) ≡ false → AreGathered request shown all xs rows
    → AreGathered (with_limit other request) shown all xs rows
unfolding AreGathered AreRows
rows-within request other view.Lines all xs rows a b one = one ∙ ap (λ hits. map hit hits) (limited-all request.limit xs a ∙ sym (limited-all other xs b))
rows-within request other (view.Context most) all xs rows a b one =
    one ∙ ap (λ hits. all_stretches most all hits) (limited-all request.limit xs a ∙ sym (limited-all other xs b))
rows-within request other view.Column all xs rows a b one =
    subst (λ hits. RowsOf (IsColumnRow request) hits rows) (limited-all request.limit xs a ∙ sym (limited-all other xs b)) one
rows-within request other view.Spans all xs rows a b one =
    subst (λ hits. RowsOf (IsSpansRow request) hits rows) (limited-all request.limit xs a ∙ sym (limited-all other xs b)) one
rows-within request other view.Names all xs rows a b one =
    one ∙ ap (λ names. map name names) (limited-all request.limit (names_of xs) a ∙ sym (limited-all other (names_of xs) b))
rows-within request other view.Counts all xs rows a b one =
    one ∙ ap (λ names. map (name_with_count xs) names) (limited-all request.limit (names_of xs) a ∙ sym (limited-all other (names_of xs) b))
rows-within request other view.Header all xs rows a b one = one

-- no hit
pub rows-none : (request : Request) (shown : View) (all : List Document) (xs : List Hit) → shows_names shown ≡ false → limited request.limit xs ≡ []
    → AreGathered request shown all xs []
unfolding AreGathered AreRows names_of
rows-none request view.Lines all xs lines none = sym (ap (λ hits. map hit hits) none)
rows-none request (view.Context most) all xs lines none = sym (ap (λ hits. all_stretches most all hits) none)
rows-none request view.Column all xs lines none = subst (λ hits. RowsOf (IsColumnRow request) hits []) (sym none) done
rows-none request view.Spans all xs lines none = subst (λ hits. RowsOf (IsSpansRow request) hits []) (sym none) done
rows-none request view.Names all xs lines none = absurd (false≢true (sym lines))
rows-none request view.Counts all xs lines none = absurd (false≢true (sym lines))
rows-none request view.Header all xs lines none = refl

-- no name
pub names-none : (request : Request) (shown : View) (all : List Document) (xs : List Hit) → shows_names shown ≡ true → limited request.limit (names_of xs) ≡ []
    → AreGathered request shown all xs []
unfolding AreGathered AreRows
names-none request view.Names all xs names none = sym (ap (λ ns. map name ns) none)
names-none request view.Counts all xs names none = sym (ap (λ ns. map (name_with_count xs) ns) none)
names-none request view.Lines all xs names none = absurd (false≢true names)
names-none request (view.Context most) all xs names none = absurd (false≢true names)
names-none request view.Column all xs names none = absurd (false≢true names)
names-none request view.Spans all xs names none = absurd (false≢true names)
names-none request view.Header all xs names none = absurd (false≢true names)

-- the hits of one document
module _ (request : Request) (all : List Document) (of body : List ℕ) (there : body_of of all ≡ body) (x : Hit) (xs : List Hit) (here : x.name ≡ of)
    (each : AllByRecursion (λ found. found.name ≡ of) xs) where
  all_here : AllByRecursion (λ found. found.name ≡ of) (x ∷ xs)
  all_here = (here, each)

  stretches-one : (most : ℕ) → all_stretches most all (x ∷ xs) ≡ stretches most (x ∷ xs) of body
  stretches-one most =
      ap (λ names. flat_map (λ n. stretches most (hits n) n (body_of n all)) names) (names-one of x xs here each)
      ∙ (append-nil (stretches most (hits of) of (body_of of all))
      ∙ (ap (λ hs. stretches most hs of (body_of of all)) (hits_in-all of (x ∷ xs) all_here) ∙ ap (λ b. stretches most (x ∷ xs) of b) there))
    where
      hits : List ℕ → List Hit
      hits n = hits_in n (x ∷ xs)

  pub rows-one : (shown : View) (hits : List Hit) (rows : List Row) → shows_names shown ≡ false → limited request.limit hits ≡ x ∷ xs
      → AreRowsOf request shown of body (x ∷ xs) rows → AreGathered request shown all hits rows
  unfolding AreGathered AreRows AreRowsOf
  rows-one view.Lines hits rows lines some is = is ∙ ap (λ hs. map hit hs) (sym some)
  rows-one (view.Context most) hits rows lines some is = is ∙ (sym (stretches-one most) ∙ ap (λ hs. all_stretches most all hs) (sym some))
  rows-one view.Column hits rows lines some is = subst (λ hs. RowsOf (IsColumnRow request) hs rows) (sym some) is
  rows-one view.Spans hits rows lines some is = subst (λ hs. RowsOf (IsSpansRow request) hs rows) (sym some) is
  rows-one view.Names hits rows lines some is = absurd (false≢true (sym lines))
  rows-one view.Counts hits rows lines some is = absurd (false≢true (sym lines))
  rows-one view.Header hits rows lines some is = is

-- ---- what is gathered

pub total-names : (shown : View) (hits : List Hit) → shows_names shown ≡ true → total shown hits ≡ length (names_of hits)
total-names shown hits names = rw names refl

pub total-lines : (shown : View) (hits : List Hit) → shows_names shown ≡ false → total shown hits ≡ length hits
total-lines shown hits lines = rw lines refl

module _ (request : Request) (shown : View) (front back : List SharedDocument) (xs ys : List Hit) (apart : AreApart xs ys) (rows others : List Row) (c d : ℕ) where
  pub gathered-append : (over : Bool) → IsGathered request shown front xs rows c false
      → IsGathered (with_limit (left_from request.limit c) request) shown back ys others d over
      → IsGathered request shown (front ++ back) (xs ++ ys) (rows ++ others) (c + d) over
  gathered-append over one two =
      let within : is_over request.limit (total shown xs) ≡ false = sym one.more in
      let size : c ≡ total shown xs = one.count ∙ at_most-within request.limit (total shown xs) within in
      let moved = subst (λ n. IsGathered (with_limit (left_from request.limit n) request) shown back ys others d over) size two in
      let sum = total-append xs ys apart shown in
      record {
        rows =
            λ all bodies.
            rows-append request all xs ys apart shown rows others within
            (one.rows all (All-left (λ x. body_of x.name all ≡ x.held) front back bodies))
            (moved.rows all (All-right (λ x. body_of x.name all ≡ x.held) front back bodies));
        count =
            ap (λ n. n + d) size
            ∙ (ap (λ n. total shown xs + n) moved.count
            ∙ (sym (at_most-front request.limit (total shown xs) (total shown ys) within) ∙ ap (λ n. at_most request.limit n) (sym sum)));
        more =
            moved.more
            ∙ (sym (is_over-front request.limit (total shown xs) (total shown ys) within) ∙ ap (λ n. is_over request.limit n) (sym sum));
      }

  pub gathered-over : IsGathered request shown front xs rows c true → IsGathered request shown (front ++ back) (xs ++ ys) rows c true
  gathered-over one =
      let over : is_over request.limit (total shown xs) ≡ true = sym one.more in
      let sum = total-append xs ys apart shown in
      record {
        rows =
            λ all bodies. rows-over request all xs ys apart shown rows over (one.rows all (All-left (λ x. body_of x.name all ≡ x.held) front back bodies));
        count =
            one.count
            ∙ (sym (at_most-over request.limit (total shown xs) (total shown ys) over) ∙ ap (λ n. at_most request.limit n) (sym sum));
        more = sym (ap (λ n. is_over request.limit n) sum ∙ is_over-over request.limit (total shown xs) (total shown ys) over);
      }

pub gathered-within : (request : Request) (other : Option ℕ) (shown : View) (documents : List SharedDocument) (xs : List Hit) (rows : List Row) (c : ℕ)
    → is_over other c ≡ false → IsGathered request shown documents xs rows c false
    → IsGathered (with_limit other request) shown documents xs rows c false
gathered-within request other shown documents xs rows c fits one =
    let within : is_over request.limit (total shown xs) ≡ false = sym one.more in
    let size : c ≡ total shown xs = one.count ∙ at_most-within request.limit (total shown xs) within in
    let low : is_over other (total shown xs) ≡ false = ap (λ n. is_over other n) (sym size) ∙ fits in
    record {
      rows = λ all bodies. rows-within request other shown all xs rows within low (one.rows all bodies);
      count = size ∙ sym (at_most-within other (total shown xs) low);
      more = sym low;
    }

-- ---- the documents of hits

lines-All : (P : Hit → Type 0) (documents : List SharedDocument) → AllByRecursion (λ d. (line : ℕ) (text : List ℕ) → P (found d.name line text)) documents
    → AllByRecursion P (flat_map lines_of_taken documents)
lines-All P [] each = tt
lines-All P (d ∷ documents) each =
    All-both P (lines_of_taken d) (flat_map lines_of_taken documents) (numbered-named d.name 1 (lines_of d.held) P each.0) (lines-All P documents each.1)

-- each hit has the name of its document
pub named-one : (test : Test) (d : SharedDocument) (hits : List Hit) → Selects (IsAsked test) (lines_of_taken d) hits
    → AllByRecursion (λ f. f.name ≡ d.name) hits
named-one test d hits s = All-Selects (λ f. f.name ≡ d.name) s (numbered-named d.name 1 (lines_of d.held) (λ f. f.name ≡ d.name) (λ line text. refl))

pub own-left : (front back : List SharedDocument) → HaveOwnNames (front ++ back) → HaveOwnNames front
own-left [] back own = tt
own-left (d ∷ front) back own = (All-left (λ e. bytes_eq e.name d.name ≡ false) front back own.0, own-left front back own.1)

own-across : (front back : List SharedDocument) → HaveOwnNames (front ++ back)
    → AllByRecursion (λ d. AllByRecursion (λ e. bytes_eq e.name d.name ≡ false) back) front
own-across [] back own = tt
own-across (d ∷ front) back own = (All-right (λ e. bytes_eq e.name d.name ≡ false) front back own.0, own-across front back own.1)

pub found-apart : (test : Test) (front back : List SharedDocument) (xs ys : List Hit) → HaveOwnNames (front ++ back)
    → Selects (IsAsked test) (flat_map lines_of_taken front) xs → Selects (IsAsked test) (flat_map lines_of_taken back) ys → AreApart xs ys
found-apart test front back xs ys own one two =
    All-Selects (λ x. HasOther ys x.name) one
    (lines-All (λ x. HasOther ys x.name) front
    (All-each (λ d. AllByRecursion (λ e. bytes_eq e.name d.name ≡ false) back) (λ d. (line : ℕ) (text : List ℕ) → HasOther ys d.name) front
    (λ d each line text.
    All-Selects (λ y. bytes_eq y.name d.name ≡ false) two
    (lines-All (λ y. bytes_eq y.name d.name ≡ false) back
    (All-each (λ e. bytes_eq e.name d.name ≡ false) (λ e. (line : ℕ) (text : List ℕ) → bytes_eq e.name d.name ≡ false) back (λ e other line text. other) each)))
    (own-across front back own)))

pub own-right : (front back : List SharedDocument) → HaveOwnNames (front ++ back) → HaveOwnNames back
own-right [] back own = own
own-right (d ∷ front) back own = own-right front back own.1
