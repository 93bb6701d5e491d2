-- The lines of documents, and the scan of all of them.
use Rattle.std.proofs.Common.{◌≡◌, ℕ, zero, suc, ◌+◌, ◌-◌, ◌<◌, ◌⊎◌, inl, inr, List, [], ◌∷◌, ◌++◌}
use Rattle.std.proofs.Common.{Some, Contains, refl, sym, ◌∙◌, ap, subst, arith}
use Rattle.std.specs.Prelude.{◌↔◌, slice_get, flat_map, Bool, true, false}
use Rattle.std.specs.Ordering.{nat_cmp}
use Rattle.std.specs.Cmp.Lexicographic.{slice_cmp, nat_list_cmp_total}
use Rattle.std.proofs.lemmas.Cmp.{tied_itself}
use Rattle.std.specs.List.{AllByRecursion}
use Rattle.std.specs.List.Sorted.{IsStrictlySortedBy}
use Rattle.std.specs.declared.cmp.Ordering.TheVariants.{Less}
use Rattle.std.proofs.lemmas.Bool.Decides.{nat_tests}
use Rattle.std.proofs.lemmas.Option.{slice_get_within, get_or_from_slice_get}
use Rattle.lines.specs.Lines.{lines_of}
use Rattle.query.specs.Trigrams.{trigrams_of_body}
use Rattle.trigram.proofs.LawLemmas.{matching_line}
use Rattle.documents.specs.Documents.{Document, RisesByName, listed}
use Rattle.documents.specs.State.{State}
use Rattle.documents.proofs.ElementLemmas.{Contains-cons, Contains-head, Contains-tail}
use Rattle.ere.specs.Tree.{Tree}
use Rattle.prepare.specs.Pattern.{Admits, Passes, Pattern}
use Rattle.views.specs.Found.{Hit}
use Rattle.views.specs.Scan.{IsHit, hit_cmp, IsScanOf, candidates_of}
use Rattle.prepare.specs.Queries.{can_have}
use Rattle.views.specs.Found.{found, numbered, lines_of_document}
use Rattle.search.specs.Selects.{Selects, IsAsked}
use Rattle.documents.proofs.ElementLemmas.{filter-Contains, Contains-filter}
use Rattle.search.proofs.SelectsLemmas.{sorted-Selects, Contains-kept, kept-Contains}

-- ---- the lines of one document

pub numbered-named : (name : List ℕ) (line : ℕ) (texts : List (List ℕ)) (P : Hit → Type 0)
    → ((line : ℕ) (text : List ℕ) → P (found name line text)) → AllByRecursion P (numbered name line texts)
unfolding numbered
numbered-named name line [] P each = tt
numbered-named name line (text ∷ texts) P each = (each line text, numbered-named name (suc line) texts P each)

-- a line of a document, by its number
record IsNumbered (name : List ℕ) (line : ℕ) (texts : List (List ℕ)) (f : Hit) : Type 0 where
  i : ℕ
  named : f.name ≡ name
  at : f.line ≡ line + i
  text : slice_get texts i ≡ Some f.text

numbered_at : (name : List ℕ) (line : ℕ) (texts : List (List ℕ)) (f : Hit) → Contains (numbered name line texts) f → IsNumbered name line texts f
unfolding numbered
numbered_at name line [] f h = absurd (omega (arith, h.1))
numbered_at name line (text ∷ texts) f h = go (numbered_at name (suc line) texts f) (Contains-cons (found name line text) (numbered name (suc line) texts) f h)
  where
    here : found name line text ≡ f → IsNumbered name line (text ∷ texts) f
    here is = record {
      i = 0;
      named = ap (λ x. x.name) (sym is);
      at = let same : f.line ≡ line = ap (λ x. x.line) (sym is) in omega arith;
      text = ap (λ x. Some x.text) is;
    }

    go : (Contains (numbered name (suc line) texts) f → IsNumbered name (suc line) texts f)
        → (found name line text ≡ f) ⊎ Contains (numbered name (suc line) texts) f → IsNumbered name line (text ∷ texts) f
    go deeper (inl is) = here is
    go deeper (inr rest) = let d = deeper rest in record { i = suc d.i; named = d.named; at = omega (arith, d.at); text = d.text }

Contains-numbered : (name : List ℕ) (line : ℕ) (texts : List (List ℕ)) (i : ℕ) (text : List ℕ) → slice_get texts i ≡ Some text
    → Contains (numbered name line texts) (found name (line + i) text)
unfolding numbered
Contains-numbered name line [] i text e = cc
Contains-numbered name line (first ∷ texts) zero text e =
    let same : first ≡ text = cc in
    let start : line ≡ line + 0 = omega arith in
    subst (λ n. Contains (numbered name line (first ∷ texts)) (found name n text)) start
    (subst (λ x. Contains (numbered name line (first ∷ texts)) (found name line x)) same
    (Contains-head (found name line first) (numbered name (suc line) texts)))
Contains-numbered name line (first ∷ texts) (suc i) text e =
    let moved : suc line + i ≡ line + suc i = omega arith in
    Contains-tail (found name line first) (numbered name (suc line) texts) (found name (line + suc i) text)
    (subst (λ n. Contains (numbered name (suc line) texts) (found name n text)) moved
    (Contains-numbered name (suc line) texts i text e))

-- ---- all documents

abbrev pub all_lines : List Document → List Hit
all_lines documents = flat_map (λ d. lines_of_document d.name d.body) documents

Contains-left : (xs ys : List Hit) (f : Hit) → Contains xs f → Contains (xs ++ ys) f
Contains-left [] ys f h = absurd (omega (arith, h.1))
Contains-left (x ∷ xs) ys f h =
    elim (Contains-cons x xs f h) [
      | inl is ↦ subst (λ y. Contains (x ∷ (xs ++ ys)) y) is (Contains-head x (xs ++ ys))
      | inr rest ↦ Contains-tail x (xs ++ ys) f (Contains-left xs ys f rest)
    ]

Contains-right : (xs ys : List Hit) (f : Hit) → Contains ys f → Contains (xs ++ ys) f
Contains-right [] ys f h = h
Contains-right (x ∷ xs) ys f h = Contains-tail x (xs ++ ys) f (Contains-right xs ys f h)

Contains-cases : (xs ys : List Hit) (f : Hit) → Contains (xs ++ ys) f → Contains xs f ⊎ Contains ys f
Contains-cases [] ys f h = inr h
Contains-cases (x ∷ xs) ys f h = go (Contains-cases xs ys f) (Contains-cons x (xs ++ ys) f h)
  where
    go : (Contains (xs ++ ys) f → Contains xs f ⊎ Contains ys f) → (x ≡ f) ⊎ Contains (xs ++ ys) f → Contains (x ∷ xs) f ⊎ Contains ys f
    go deeper (inl is) = inl (subst (λ y. Contains (x ∷ xs) y) is (Contains-head x xs))
    go deeper (inr rest) = elim (deeper rest) [ inl left ↦ inl (Contains-tail x xs f left) | inr right ↦ inr right ]

-- a line of some document
all_lines-Contains : (documents : List Document) (f : Hit) → Contains (all_lines documents) f
    → (d : Document) × Contains documents d × Contains (lines_of_document d.name d.body) f
all_lines-Contains [] f h = absurd (omega (arith, h.1))
all_lines-Contains (d ∷ documents) f h = go (all_lines-Contains documents f) (Contains-cases (lines_of_document d.name d.body) (all_lines documents) f h)
  where
    go : (Contains (all_lines documents) f → (x : Document) × Contains documents x × Contains (lines_of_document x.name x.body) f)
        → Contains (lines_of_document d.name d.body) f ⊎ Contains (all_lines documents) f
        → (x : Document) × Contains (d ∷ documents) x × Contains (lines_of_document x.name x.body) f
    go deeper (inl here) = (d, Contains-head d documents, here)
    go deeper (inr rest) = let found = deeper rest in (found.0, Contains-tail d documents found.0 found.1, found.2)

Contains-all_lines : (documents : List Document) (d : Document) (f : Hit) → Contains documents d
    → Contains (lines_of_document d.name d.body) f → Contains (all_lines documents) f
Contains-all_lines [] d f h here = absurd (omega (arith, h.1))
Contains-all_lines (first ∷ documents) d f h here = go (Contains-all_lines documents d f) (Contains-cons first documents d h)
  where
    go : (Contains documents d → Contains (lines_of_document d.name d.body) f → Contains (all_lines documents) f)
        → (first ≡ d) ⊎ Contains documents d → Contains (all_lines (first ∷ documents)) f
    go deeper (inl is) =
        Contains-left (lines_of_document first.name first.body) (all_lines documents) f
        (subst (λ x. Contains (lines_of_document x.name x.body) f) (sym is) here)
    go deeper (inr rest) = Contains-right (lines_of_document first.name first.body) (all_lines documents) f (deeper rest here)

-- ---- in order

sorted-append : (xs ys : List Hit) → IsStrictlySortedBy hit_cmp xs → IsStrictlySortedBy hit_cmp ys
    → AllByRecursion (λ x. AllByRecursion (λ y. hit_cmp x y ≡ Less) ys) xs → IsStrictlySortedBy hit_cmp (xs ++ ys)
unfolding IsStrictlySortedBy
sorted-append [] ys left right across = right
sorted-append (x ∷ xs) ys left right across = (all-append xs ys left.0 across.0, sorted-append xs ys left.1 right across.1)
  where
    all-append : (xs ys : List Hit) → AllByRecursion (λ y. hit_cmp x y ≡ Less) xs → AllByRecursion (λ y. hit_cmp x y ≡ Less) ys
        → AllByRecursion (λ y. hit_cmp x y ≡ Less) (xs ++ ys)
    all-append [] ys h g = g
    all-append (z ∷ xs) ys h g = (h.0, all-append xs ys h.1 g)

later_line : (name : List ℕ) (low line : ℕ) (text other : List ℕ) → low < line → hit_cmp (found name low text) (found name line other) ≡ Less
later_line name low line text other h =
    let before : nat_cmp low line ≡ Less = grind (arith, nat_tests) in
    rw (tied_itself nat_list_cmp_total name) before

numbered-above : (name : List ℕ) (low line : ℕ) (text : List ℕ) (texts : List (List ℕ)) → low < line
    → AllByRecursion (λ y. hit_cmp (found name low text) y ≡ Less) (numbered name line texts)
unfolding numbered
numbered-above name low line text [] h = tt
numbered-above name low line text (other ∷ texts) h = (later_line name low line text other h, numbered-above name low (suc line) text texts (omega arith))

numbered-sorted : (name : List ℕ) (line : ℕ) (texts : List (List ℕ)) → IsStrictlySortedBy hit_cmp (numbered name line texts)
unfolding numbered IsStrictlySortedBy
numbered-sorted name line [] = tt
numbered-sorted name line (text ∷ texts) = (numbered-above name line (suc line) text texts (omega arith), numbered-sorted name (suc line) texts)

-- a hit with a lower name is lower, whatever the line numbers are
lower_name : (f g : Hit) → slice_cmp nat_cmp f.name g.name ≡ Less → hit_cmp f g ≡ Less
lower_name f g e = rw e refl

all-lines-above : (name : List ℕ) (f : Hit) → f.name ≡ name → (documents : List Document)
    → AllByRecursion (λ d. slice_cmp nat_cmp name d.name ≡ Less) documents
    → AllByRecursion (λ y. hit_cmp f y ≡ Less) (all_lines documents)
all-lines-above name f is [] each = tt
all-lines-above name f is (d ∷ documents) each =
    let below : slice_cmp nat_cmp f.name d.name ≡ Less = ap (λ n. slice_cmp nat_cmp n d.name) is ∙ each.0 in
    join (lines_of_document d.name d.body) (all_lines documents)
    (numbered-named d.name 1 (lines_of d.body) (λ y. hit_cmp f y ≡ Less) (λ line text. lower_name f (found d.name line text) below))
    (all-lines-above name f is documents each.1)
  where
    join : (xs ys : List Hit) → AllByRecursion (λ y. hit_cmp f y ≡ Less) xs → AllByRecursion (λ y. hit_cmp f y ≡ Less) ys
        → AllByRecursion (λ y. hit_cmp f y ≡ Less) (xs ++ ys)
    join [] ys h g = g
    join (z ∷ xs) ys h g = (h.0, join xs ys h.1 g)

all_lines-sorted : (documents : List Document) → RisesByName documents → IsStrictlySortedBy hit_cmp (all_lines documents)
unfolding IsStrictlySortedBy
all_lines-sorted [] rises = tt
all_lines-sorted (d ∷ documents) rises =
    sorted-append (lines_of_document d.name d.body) (all_lines documents) (numbered-sorted d.name 1 (lines_of d.body))
    (all_lines-sorted documents rises.1)
    (numbered-named d.name 1 (lines_of d.body) (λ x. AllByRecursion (λ y. hit_cmp x y ≡ Less) (all_lines documents))
    (λ line text. all-lines-above d.name (found d.name line text) refl documents rises.0))

-- ---- the scan

-- The pattern asks to look at the lines of this document: it is a candidate, and its name, taken as a line, passes
-- the tests of names.
pub record IsWanted (state : State) (pattern : Pattern) (d : Document) : Type 0 where
  pub candidate : Contains (candidates_of state pattern.line) d
  pub admitted : Admits pattern d.name

-- those documents, each once, rising by name
pub record AreWanted (state : State) (pattern : Pattern) (wanted : List Document) : Type 0 where
  pub rises : RisesByName wanted
  pub exact : (d : Document) → Contains wanted d ↔ IsWanted state pattern d

-- a document with a hit is a candidate
candidate : (s : State) (pattern : Pattern) (d : Document) (i : ℕ) (text : List ℕ) → Contains (listed s.documents) d
    → slice_get (lines_of d.body) i ≡ Some text → Passes pattern.line text → Contains (candidates_of s pattern.line) d
candidate s pattern d i text there at hit =
    Contains-filter (λ x. can_have pattern.line (trigrams_of_body x.body)) (listed s.documents) d there
    (go pattern.line.inverted hit)
  where
    tree : Tree
    tree = pattern.line.tree

    go : (inverted : Bool) → Passes (record { tree = tree; inverted = inverted }) text
        → can_have (record { tree = tree; inverted = inverted }) (trigrams_of_body d.body) ≡ true
    go true none = refl
    go false some =
        matching_line tree d.body text
        (i, slice_get_within (lines_of d.body) i text at, get_or_from_slice_get (lines_of d.body) i text text at) some

-- The scan is those lines of the wanted documents that contain a match.
pub IsScanOf-wanted : (s : State) (pattern : Pattern) (wanted : List Document) (hits : List Hit) → AreWanted s pattern wanted
    → Selects (IsAsked pattern.line) (all_lines wanted) hits → IsScanOf s pattern hits
IsScanOf-wanted s pattern wanted hits are kept = record {
  rises = sorted-Selects hit_cmp kept (all_lines-sorted wanted are.rises);
  exact = λ f. (λ h. forth f (Contains-kept f kept h), λ h. back f h);
}
  where
    forth : (f : Hit) → Contains (all_lines wanted) f × IsAsked pattern.line f → IsHit s pattern f
    forth f h =
        let line = all_lines-Contains wanted f h.0 in
        let is = (are.exact line.0).0 line.1 in
        let at = numbered_at line.0.name 1 (lines_of line.0.body) f line.2 in
        let place : at.i ≡ f.line - 1 = omega (arith, at.at) in
        record {
          document = line.0;
          there = (filter-Contains (λ x. can_have pattern.line (trigrams_of_body x.body)) (listed s.documents) line.0 is.candidate).0;
          named = at.named;
          counted = omega (arith, at.at);
          line = ap (λ n. slice_get (lines_of line.0.body) n) (sym place) ∙ at.text;
          hit = h.1;
          admitted = subst (Admits pattern) (sym at.named) is.admitted;
        }

    back : (f : Hit) → IsHit s pattern f → Contains hits f
    back f h =
        let at = Contains-numbered h.document.name 1 (lines_of h.document.body) (f.line - 1) f.text h.line in
        let number : 1 + (f.line - 1) ≡ f.line = omega (arith, h.counted) in
        let moved = subst (λ n. Contains (lines_of_document h.document.name h.document.body) (found h.document.name n f.text)) number at in
        let named = subst (λ n. Contains (lines_of_document h.document.name h.document.body) (found n f.line f.text)) (sym h.named) moved in
        let is : IsWanted s pattern h.document = record {
          candidate = candidate s pattern h.document (f.line - 1) f.text h.there h.line h.hit;
          admitted = subst (Admits pattern) h.named h.admitted;
        } in
        kept-Contains f kept (Contains-all_lines wanted h.document f ((are.exact h.document).1 is) named) h.hit
