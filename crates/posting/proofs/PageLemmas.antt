-- The slots of trigrams, as pages are made and slots are written.
use Rattle.std.proofs.Common.{◌≡◌, ◌≢◌, ℕ, zero, suc, ◌+◌, ◌-◌, ◌*◌, ◌^◌, ◌/◌, ◌%◌, ◌<◌, ◌≤◌, Bool, true, false, cond, ◌==◌, nat_lt, List, [], ◌∷◌, ◌++◌, ◌⊎◌, inl, inr}
use Rattle.std.proofs.Common.{length, get_or, set, drop, replicate, Option, Some, None, Result, Ok, Err, OnErr, OnOk, refl, sym, ap, ◌∙◌, arith, length-append}
use Rattle.std.specs.List.{sum_by, slice_range, list_all}
use Rattle.std.proofs.lemmas.Bool.{cases_eq, and_parts}
use Rattle.std.proofs.lemmas.Bool.Decides.{nat_tests}
use Rattle.std.proofs.lemmas.List.{get_or-set_same, get_or-set_other, get_or_append_left, get_or-append-add, get_or-take, get_or-drop, get_or_past, length-set}
use Rattle.std.proofs.lemmas.List.Elements.{All-from_get_or}
use Rattle.std.proofs.lemmas.List.Sums.{sum_by-set, sum_by-le}
use Rattle.posting.specs.Postings.{slot_limit}
use Rattle.posting.specs.Private.PageTable.{PageTable, page_size, page_count, one_page, pages_of, IsPaged, SameDirectory}
use Rattle.posting.specs.Private.Pages.{place_on, place_of, code_at, code_of, slot_of, slot_of_code, limit_at, free_limit, SamePages, AddsPage, CopiesPage}

-- the pages of a directory and slots
abbrev pub paged : List ℕ → List ℕ → PageTable
paged directory slots = record { directory = directory; slots = slots }

-- ---- where slots are

on_inside : (page at place count : ℕ) → place_on page at ≡ Some place → page ≤ count → at < page_size → place < count * page_size
on_inside zero at place count e within low = cc
on_inside (suc page) at place count e within low = let is : page * page_size + at ≡ place = cc in omega arith

on_apart : (p q at at' place : ℕ) → place_on p at ≡ Some place → place_on q at' ≡ Some place → at < page_size → at' < page_size
    → (0 < q) × (p ≡ q) × (at ≡ at')
on_apart zero q at at' place e f low low' = cc
on_apart (suc p) zero at at' place e f low low' = cc
on_apart (suc p) (suc q) at at' place e f low low' =
    let is : p * page_size + at ≡ place = cc in
    let is' : q * page_size + at' ≡ place = cc in
    (omega arith, ap suc (omega arith), omega arith)

pub place_inside : (pages : PageTable) (t place : ℕ) → IsPaged pages → place_of pages t ≡ Some place → place < length pages.slots
unfolding place_of
place_inside pages t place h e =
    let low = on_inside (get_or pages.directory (t / page_size) 0) (t % page_size) place (pages_of pages) e (h.within (t / page_size)) (omega arith) in
    omega (arith, low, h.counted)

pub place_apart : (pages : PageTable) (s t place : ℕ) → IsPaged pages → place_of pages s ≡ Some place → place_of pages t ≡ Some place → s ≡ t
unfolding place_of
place_apart pages s t place h e f =
    let same =
    on_apart (get_or pages.directory (s / page_size) 0) (get_or pages.directory (t / page_size) 0) (s % page_size) (t % page_size) place e f
    (omega arith) (omega arith) in
    let pages_same : s / page_size ≡ t / page_size = h.apart (s / page_size) (t / page_size) same.0 same.1 in
    let at_same : s % page_size ≡ t % page_size = same.2 in
    omega arith

-- there are not more pages than entries of the directory
pub pages_bound : (directory : List ℕ) → sum_by one_page directory ≤ length directory
pages_bound directory = omega (arith, sum_by-le one_page 1 directory (All-from_get_or (λ p. one_page p ≤ 1) directory 0 (λ k inside. each (get_or directory k 0))))
  where
    each : (p : ℕ) → one_page p ≤ 1
    each p = grind (arith, nat_tests)

pub entry_bound : (pages : PageTable) (k : ℕ) → IsPaged pages → get_or pages.directory k 0 ≤ page_count
entry_bound pages k h = omega (arith, h.within k, h.bound, pages_bound pages.directory)

pub place_of-none : (pages : PageTable) (t page : ℕ) → page ≡ get_or pages.directory (t / page_size) 0 → page ≡ 0 → place_of pages t ≡ None
unfolding place_of
place_of-none pages t page e none = rw (← e, none) refl

pub place_of-some : (pages : PageTable) (t page : ℕ) → page ≡ get_or pages.directory (t / page_size) 0 → 0 < page
    → place_of pages t ≡ Some ((page - 1) * page_size + t % page_size)
unfolding place_of
place_of-some pages t page e some = rw (← e) (cases page some)
  where
    cases : (p : ℕ) → 0 < p → place_on p (t % page_size) ≡ Some ((p - 1) * page_size + t % page_size)
    cases zero none = absurd (omega arith)
    cases (suc p) some = ap (λ k. Some (k * page_size + t % page_size)) (omega arith)

pub place_of-empty : (t : ℕ) → place_of (paged [] []) t ≡ None
unfolding place_of
place_of-empty t = refl

-- ---- a slot is written

place_of-slots : (directory slots slots' : List ℕ) (t : ℕ) → place_of (paged directory slots) t ≡ place_of (paged directory slots') t
unfolding place_of
place_of-slots directory slots slots' t = refl

-- without a place in the directory there is none for any trigram
pub place_of-bare : (directory slots : List ℕ) (t : ℕ) → length directory ≡ 0 → place_of (paged directory slots) t ≡ None
place_of-bare [] slots t none = place_of-slots [] slots [] t ∙ place_of-empty t
place_of-bare (page ∷ pages) slots t none = absurd (omega (arith, none))

pub limits-written : (pages : PageTable) (place code t : ℕ) → free_limit (paged pages.directory (set pages.slots place code)) t ≡ free_limit pages t
limits-written pages place code t = ap limit_at (place_of-slots pages.directory (set pages.slots place code) pages.slots t)

pub slot_of-written : (pages : PageTable) (trigram place code t : ℕ) → IsPaged pages → place_of pages trigram ≡ Some place
    → slot_of (paged pages.directory (set pages.slots place code)) t ≡ cond (t == trigram) (slot_of_code code) (slot_of pages t)
slot_of-written pages trigram place code t h there =
    ap (λ p. slot_of_code (code_at (set pages.slots place code) p)) (place_of-slots pages.directory (set pages.slots place code) pages.slots t)
    ∙ cases (t == trigram) refl
  where
    here : slot_of_code (code_at (set pages.slots place code) (place_of pages trigram)) ≡ slot_of_code code
    here = rw there (ap slot_of_code (get_or-set_same pages.slots place code 0 (place_inside pages trigram place h there)))

    elsewhere : (p : Option ℕ) → t ≢ trigram → place_of pages t ≡ p → code_at (set pages.slots place code) p ≡ code_at pages.slots p
    elsewhere None ne e = refl
    elsewhere (Some k) ne e =
        get_or-set_other pages.slots place k code 0
        (λ same. ne (place_apart pages t trigram place h (e ∙ ap Some same) there))

    cases : (b : Bool) → (t == trigram) ≡ b
        → slot_of_code (code_at (set pages.slots place code) (place_of pages t)) ≡ cond (t == trigram) (slot_of_code code) (slot_of pages t)
    cases true e = let is : t ≡ trigram = grind (arith, nat_tests) in rw e (rw is here)
    cases false e =
        let ne : t ≢ trigram = grind (arith, nat_tests) in
        rw e (ap slot_of_code (elsewhere (place_of pages t) ne refl))

pub on_err : {T E P : Type 0} (r : Result T E) → P → OnErr r P
on_err (Ok x) p = tt
on_err (Err e) p = p

pub either_way : {T E P : Type 0} (r : Result T E) → OnOk r P → OnErr r P → P
either_way (Ok x) p q = p
either_way (Err e) p q = q

-- ---- a page is added

pub place_of-same : (pages pages' : PageTable) (t : ℕ) → get_or pages'.directory (t / page_size) 0 ≡ get_or pages.directory (t / page_size) 0
    → place_of pages' t ≡ place_of pages t
unfolding place_of
place_of-same pages pages' t same = ap (λ page. place_on page (t % page_size)) same

-- a longer directory
pub IsPaged-same : (directory directory' slots : List ℕ) → SameDirectory directory directory' → IsPaged (paged directory slots)
    → IsPaged (paged directory' slots)
IsPaged-same directory directory' slots same h = record {
  bound = same.bound h.bound;
  counted = h.counted ∙ ap (λ n. n * page_size) (sym same.pages);
  within = λ k. omega (arith, same.entries k, h.within k, same.pages);
  apart = λ j k some e. h.apart j k (omega (arith, same.entries k)) (sym (same.entries j) ∙ e ∙ same.entries k);
}

pub SamePages-same : (directory directory' slots : List ℕ) → SameDirectory directory directory' → SamePages (paged directory slots) (paged directory' slots)
SamePages-same directory directory' slots same = record {
  codes = λ t. ap (code_at slots) (places t);
  limits = λ t. ap limit_at (places t);
}
  where
    places : (t : ℕ) → place_of (paged directory' slots) t ≡ place_of (paged directory slots) t
    places t = place_of-same (paged directory slots) (paged directory' slots) t (same.entries (t / page_size))

absent_entry : (page at : ℕ) → limit_at (place_on page at) ≡ 0 → page ≡ 0
absent_entry zero at e = refl
absent_entry (suc page) at e = absurd (omega arith)

-- 64 trigrams whose first one has no page
pub no_entry : (pages : PageTable) (page : ℕ) → free_limit pages (page * page_size) ≡ 0 → get_or pages.directory page 0 ≡ 0
unfolding place_of
no_entry pages page e =
    let is : page * page_size / page_size ≡ page = omega arith in
    rw is at (absent_entry (get_or pages.directory (page * page_size / page_size) 0) (page * page_size % page_size) e)

module _ (directory slots content : List ℕ) (page : ℕ) (h : IsPaged (paged directory slots)) (inside : page < length directory)
    (absent : get_or directory page 0 ≡ 0) (whole : length content ≡ page_size) where
  pub pages-added : sum_by one_page (set directory page (sum_by one_page directory + 1)) ≡ sum_by one_page directory + 1
  pages-added =
      let one : one_page (sum_by one_page directory + 1) ≡ 1 = grind (arith, nat_tests) in
      let none : one_page (get_or directory page 0) ≡ 0 = rw absent refl in
      omega (arith, sum_by-set one_page directory page (sum_by one_page directory + 1) 0 inside, one, none)

  pub count_fits : sum_by one_page directory + 1 ≤ page_count
  count_fits =
      omega (
        arith,
        pages-added,
        pages_bound (set directory page (sum_by one_page directory + 1)),
        length-set directory page (sum_by one_page directory + 1),
        h.bound,
      )

  entry-same : get_or (set directory page (sum_by one_page directory + 1)) page 0 ≡ sum_by one_page directory + 1
  entry-same = get_or-set_same directory page (sum_by one_page directory + 1) 0 inside

  entry-other : (k : ℕ) → k ≢ page → get_or (set directory page (sum_by one_page directory + 1)) k 0 ≡ get_or directory k 0
  entry-other k ne = get_or-set_other directory page k (sum_by one_page directory + 1) 0 ne

  pub IsPaged-added : IsPaged (paged (set directory page (sum_by one_page directory + 1)) (slots ++ content))
  IsPaged-added = record {
    bound = omega (arith, length-set directory page (sum_by one_page directory + 1), h.bound);
    counted = omega (arith, length-append slots content, h.counted, whole, pages-added);
    within = λ k. within k (cases_eq k page);
    apart = λ j k some e. apart j k some e (cases_eq j page) (cases_eq k page);
  }
    where
      within : (k : ℕ) → (k ≡ page) ⊎ (k ≢ page)
          → get_or (set directory page (sum_by one_page directory + 1)) k 0 ≤ sum_by one_page (set directory page (sum_by one_page directory + 1))
      within k (inl is) = rw is (omega (arith, entry-same, pages-added))
      within k (inr ne) = omega (arith, entry-other k ne, pages-added, h.within k)

      apart : (j k : ℕ) → 0 < get_or (set directory page (sum_by one_page directory + 1)) k 0
          → get_or (set directory page (sum_by one_page directory + 1)) j 0 ≡ get_or (set directory page (sum_by one_page directory + 1)) k 0
          → (j ≡ page) ⊎ (j ≢ page) → (k ≡ page) ⊎ (k ≢ page) → j ≡ k
      apart j k some e (inl is) (inl is') = is ∙ sym is'
      apart j k some e (inl is) (inr ne') =
          let new = rw is at e in
          absurd (omega (arith, new, entry-same, entry-other k ne', h.within k))
      apart j k some e (inr ne) (inl is') =
          let new = rw is' at e in
          absurd (omega (arith, new, entry-same, entry-other j ne, h.within j))
      apart j k some e (inr ne) (inr ne') =
          h.apart j k (omega (arith, some, entry-other k ne')) (sym (entry-other j ne) ∙ e ∙ entry-other k ne')

  place-new : (t : ℕ) → t / page_size ≡ page
      → place_of (paged (set directory page (sum_by one_page directory + 1)) (slots ++ content)) t
      ≡ Some (sum_by one_page directory * page_size + t % page_size)
  place-new t is =
      place_of-some (paged (set directory page (sum_by one_page directory + 1)) (slots ++ content)) t (sum_by one_page directory + 1)
      (rw is (sym entry-same)) (omega arith)
      ∙ ap (λ k. Some (k * page_size + t % page_size)) (omega arith)

  place-other : (t : ℕ) → t / page_size ≢ page
      → place_of (paged (set directory page (sum_by one_page directory + 1)) (slots ++ content)) t ≡ place_of (paged directory slots) t
  place-other t ne =
      place_of-same (paged directory slots) (paged (set directory page (sum_by one_page directory + 1)) (slots ++ content)) t
      (entry-other (t / page_size) ne)

  code-old : (t : ℕ) (p : Option ℕ) → place_of (paged directory slots) t ≡ p → code_at (slots ++ content) p ≡ code_at slots p
  code-old t None e = refl
  code-old t (Some place) e = get_or_append_left slots content 0 place (place_inside (paged directory slots) t place h e)

  code-new : (at : ℕ) → get_or (slots ++ content) (sum_by one_page directory * page_size + at) 0 ≡ get_or content at 0
  code-new at = ap (λ n. get_or (slots ++ content) (n + at) 0) (sym h.counted) ∙ get_or-append-add slots content at 0

  pub AddsPage-added : AddsPage (paged directory slots) (paged (set directory page (sum_by one_page directory + 1)) (slots ++ content)) page content
  AddsPage-added = record { codes = λ t. codes t (t / page_size == page) refl; limits = λ t. limits t (t / page_size == page) refl }
    where
      codes : (t : ℕ) (same : Bool) → (t / page_size == page) ≡ same
          → code_of (paged (set directory page (sum_by one_page directory + 1)) (slots ++ content)) t
          ≡ cond (t / page_size == page) (get_or content (t % page_size) 0) (code_of (paged directory slots) t)
      codes t true e =
          let is : t / page_size ≡ page = grind (arith, nat_tests) in
          rw e (ap (code_at (slots ++ content)) (place-new t is) ∙ code-new (t % page_size))
      codes t false e =
          let ne : t / page_size ≢ page = grind (arith, nat_tests) in
          rw e (ap (code_at (slots ++ content)) (place-other t ne) ∙ code-old t (place_of (paged directory slots) t) refl)

      limits : (t : ℕ) (same : Bool) → (t / page_size == page) ≡ same
          → free_limit (paged (set directory page (sum_by one_page directory + 1)) (slots ++ content)) t
          ≡ cond (t / page_size == page) slot_limit (free_limit (paged directory slots) t)
      limits t true e = let is : t / page_size ≡ page = grind (arith, nat_tests) in rw e (ap limit_at (place-new t is))
      limits t false e = let ne : t / page_size ≢ page = grind (arith, nat_tests) in rw e (ap limit_at (place-other t ne))

pub adds-from_same : (old same new : PageTable) (page : ℕ) (content : List ℕ) → SamePages old same → AddsPage same new page content
    → AddsPage old new page content
adds-from_same old same new page content kept added = record {
  codes = λ t. added.codes t ∙ ap (cond (t / page_size == page) (get_or content (t % page_size) 0)) (kept.codes t);
  limits = λ t. added.limits t ∙ ap (cond (t / page_size == page) slot_limit) (kept.limits t);
}

pub page_added : (directory longer slots more content : List ℕ) (page size : ℕ) → SameDirectory directory longer → IsPaged (paged directory slots)
    → page < length longer → free_limit (paged directory slots) (page * page_size) ≡ 0 → length content ≡ page_size
    → more ≡ slots ++ content → size ≡ length more
    → (size / page_size < 2 ^ 32) × IsPaged (paged (set longer page (size / page_size)) more)
    × AddsPage (paged directory slots) (paged (set longer page (size / page_size)) more) page content
page_added directory longer slots more content page size same h inside absent whole more_is size_is =
    let h' : IsPaged (paged longer slots) = IsPaged-same directory longer slots same h in
    let none : get_or longer page 0 ≡ 0 = same.entries page ∙ no_entry (paged directory slots) page absent in
    let end : size / page_size ≡ sum_by one_page longer + 1 =
    omega (arith, size_is, ap length more_is, length-append slots content, h'.counted, whole) in (
      omega (arith, end, count_fits longer slots content page h' inside none whole),
      rw (end, more_is) (IsPaged-added longer slots content page h' inside none whole),
      rw (end, more_is)
          (adds-from_same (paged directory slots) (paged longer slots) (paged (set longer page (sum_by one_page longer + 1)) (slots ++ content)) page
          content (SamePages-same directory longer slots same) (AddsPage-added longer slots content page h' inside none whole)),
    )

-- ---- a page is copied

-- 64 trigrams without a page
pub no_code : (pages : PageTable) (page t : ℕ) → get_or pages.directory page 0 ≡ 0 → t / page_size ≡ page → code_of pages t ≡ 0
no_code pages page t none is = ap (code_at pages.slots) (place_of-none pages t 0 (sym (ap (λ k. get_or pages.directory k 0) is ∙ none)) refl)

both_free : (test : Bool) (a b : ℕ) → (test ≡ true → a ≡ b) → b ≡ cond test a b
both_free true a b same = sym (same refl)
both_free false a b same = refl

-- a page that is not copied, since it is not there or its slots are free
pub copies_none : (from pages : PageTable) (page : ℕ) → free_limit pages (page * page_size) ≡ 0
    → ((t : ℕ) → t / page_size ≡ page → code_of from t ≡ 0) → CopiesPage from pages pages page
copies_none from pages page absent free = record {
  codes =
      λ t.
      both_free (t / page_size == page) (code_of from t) (code_of pages t)
      (λ e. (let is : t / page_size ≡ page = grind (arith, nat_tests) in free t is ∙ sym (no_code pages page t (no_entry pages page absent) is)));
  limits = λ t ne. refl;
}

-- what is read on a page
pub code_on_page : (from : PageTable) (page end t : ℕ) → end ≡ get_or from.directory page 0 → 0 < end → t / page_size ≡ page
    → code_of from t ≡ get_or (slice_range from.slots (end * page_size - page_size) (end * page_size)) (t % page_size) 0
code_on_page from page end t is some here =
    let there : place_of from t ≡ Some ((end - 1) * page_size + t % page_size) =
    place_of-some from t end (is ∙ sym (ap (λ k. get_or from.directory k 0) here)) some in
    let first = end * page_size - page_size in
    ap (code_at from.slots) there
    ∙ ap (λ n. get_or from.slots n 0) (omega arith)
    ∙ sym
    (get_or-take (end * page_size - first) (drop first from.slots) (t % page_size) 0 (omega arith)
    ∙ get_or-drop first from.slots (t % page_size) 0)

pub copies_page : (from old new : PageTable) (page : ℕ) (content : List ℕ)
    → ((t : ℕ) → t / page_size ≡ page → code_of from t ≡ get_or content (t % page_size) 0) → AddsPage old new page content
    → CopiesPage from old new page
copies_page from old new page content there added = record {
  codes = λ t. added.codes t ∙ codes t (t / page_size == page) refl;
  limits = λ t ne. added.limits t ∙ limits t ne;
}
  where
    codes : (t : ℕ) (b : Bool) → (t / page_size == page) ≡ b
        → cond (t / page_size == page) (get_or content (t % page_size) 0) (code_of old t) ≡ cond (t / page_size == page) (code_of from t) (code_of old t)
    codes t true e = let is : t / page_size ≡ page = grind (arith, nat_tests) in rw e (sym (there t is))
    codes t false e = rw e refl

    limits : (t : ℕ) → t / page_size ≢ page → cond (t / page_size == page) slot_limit (free_limit old t) ≡ free_limit old t
    limits t ne = let e : (t / page_size == page) ≡ false = grind (arith, nat_tests) in rw e refl

pub free_code : (content : List ℕ) (at : ℕ) → list_all (λ code. code == 0) content ≡ true → get_or content at 0 ≡ 0
free_code [] at e = refl
free_code (c ∷ content) zero e = let is = (and_parts (c == 0) (list_all (λ code. code == 0) content) e).0 in grind (arith, nat_tests)
free_code (c ∷ content) (suc at) e = free_code content at (and_parts (c == 0) (list_all (λ code. code == 0) content) e).1

get_or-zeros : (n i : ℕ) → ◌≡◌ {A = ℕ} (get_or (replicate n 0) i 0) 0
get_or-zeros zero i = refl
get_or-zeros (suc n) zero = refl
get_or-zeros (suc n) (suc i) = get_or-zeros n i

-- a trigram without a page
pub no_page : (pages : PageTable) (t : ℕ) → place_of pages t ≡ None → get_or pages.directory (t / page_size) 0 ≡ 0
unfolding place_of
no_page pages t none = absent_entry (get_or pages.directory (t / page_size) 0) (t % page_size) (ap limit_at none)

pub no_limit : (pages : PageTable) (t : ℕ) → place_of pages t ≡ None → free_limit pages (t / page_size * page_size) ≡ 0
no_limit pages t none =
    let is : t / page_size * page_size / page_size ≡ t / page_size = omega arith in
    ap limit_at (place_of-none pages (t / page_size * page_size) 0 (sym (ap (λ k. get_or pages.directory k 0) is ∙ no_page pages t none)) refl)

-- a free page for a trigram that had none
pub slots_kept : (old new : PageTable) (trigram : ℕ) (zeros : List ℕ) → place_of old trigram ≡ None → zeros ≡ replicate page_size 0
    → AddsPage old new (trigram / page_size) zeros → (t : ℕ) → slot_of new t ≡ slot_of old t
slots_kept old new trigram zeros none is added t =
    ap slot_of_code
    (added.codes t
    ∙ ap (λ n. cond (t / page_size == trigram / page_size) n (code_of old t)) (ap (λ ns. get_or ns (t % page_size) 0) is ∙ get_or-zeros page_size (t % page_size))
    ∙ sym
    (both_free (t / page_size == trigram / page_size) 0 (code_of old t)
    (λ e. (let same : t / page_size ≡ trigram / page_size = grind (arith, nat_tests) in sym (no_code old (trigram / page_size) t (no_page old trigram none) same)))))

-- ---- the pages of all trigrams are copied, one after another

-- The pages before one are copied.
pub record CopiesBelow (from pages : PageTable) (page : ℕ) : Type 0 where
  pub codes : (t : ℕ) → code_of pages t ≡ cond (nat_lt (t / page_size) page) (code_of from t) 0
  pub limits : (t : ℕ) → page ≤ t / page_size → free_limit pages t ≡ 0

pub copies_all : (from pages : PageTable) (page : ℕ) → length from.directory ≤ page → CopiesBelow from pages page → (t : ℕ) → slot_of pages t ≡ slot_of from t
copies_all from pages page end h t = ap slot_of_code (h.codes t ∙ cases (nat_lt (t / page_size) page) refl)
  where
    cases : (before : Bool) → nat_lt (t / page_size) page ≡ before → cond (nat_lt (t / page_size) page) (code_of from t) 0 ≡ code_of from t
    cases true e = rw e refl
    cases false e =
        let past : length from.directory ≤ t / page_size = grind (arith, nat_tests) in
        rw e (sym (no_code from (t / page_size) t (get_or_past from.directory (t / page_size) 0 past) refl))
