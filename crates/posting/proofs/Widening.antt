-- Sets of all trigrams that get room, and sets whose slots or lists are written.
use Rattle.std.proofs.Common.{◌≡◌, ◌≢◌, ℕ, ◌^◌, ◌<◌, ◌≤◌, Bool, true, false, nat_lt, List, [], ◌∷◌, ◌⊎◌, inl, inr, get_or, set}
use Rattle.std.proofs.Common.{Option, Some, None, Result, OnOk, OnErr, refl, sym, ap, ◌∙◌, arith}
use Rattle.std.proofs.lemmas.Bool.{cases_eq}
use Rattle.std.proofs.lemmas.Bool.Decides.{nat_tests}
use Rattle.std.proofs.lemmas.List.{get_or-set_same, get_or-set_other, get_or_read}
use Rattle.std.proofs.lemmas.Result.{on_ok_weaker, on_err_weaker}
use Rattle.posting.specs.ListValue.{ListValue, has, HasRoom}
use Rattle.posting.specs.Postings.{NumberSet, no_numbers, slot_limit, set_of, holds, KeepsRoom}
use Rattle.posting.specs.declared.pages.Slot.{Slot}
use Rattle.posting.specs.declared.pages.Slot.TheVariants.{Free, One, Listed}
use Rattle.posting.specs.declared.owned.Owned.{Owned}
use Rattle.posting.specs.Private.PageTable.{PageTable}
use Rattle.posting.specs.Private.Pages.{trigram_count, place_of, slot_of_code, code_at, limit_at, slot_of, free_limit, HasPage, IsUnlisted, no_list, owner_at, set_of_list, set_in_slot, set_at, table_of, IsSound, Widens, StandsFor}
use Rattle.posting.proofs.PageLemmas.{either_way}
use Rattle.posting.proofs.Tables.{set_of-table, tables_relate}
use Rattle.posting.proofs.Places.{set_at-is, set_at-kept, set_in-kept, IsWritten, written_other}

-- ---- the set of a trigram

pub set_here : (pages : PageTable) (lists : List Owned) (trigram : ℕ) (slot : Slot) → slot ≡ slot_of pages trigram → trigram < trigram_count
    → set_of (table_of pages lists) trigram ≡ set_in_slot lists (free_limit pages trigram) slot
set_here pages lists trigram slot is below =
    set_of-table (set_at pages lists) trigram below ∙ set_at-is pages lists trigram ∙ ap (set_in_slot lists (free_limit pages trigram)) (sym is)

pub limit_with_room : (list : ListValue) → HasRoom list → (set_of_list list).limit ≡ 2 ^ 32
limit_with_room list room = let e : nat_lt 0 list.room ≡ true = grind (arith, nat_tests) in rw e refl

pub room_from_limit : (list : ListValue) (number : ℕ) → number < (set_of_list list).limit → HasRoom list
room_from_limit list number below = cases (nat_lt 0 list.room) refl
  where
    cases : (b : Bool) → nat_lt 0 list.room ≡ b → HasRoom list
    cases true e = grind (arith, nat_tests)
    cases false e = absurd (omega (arith, rw e at below))

limit_most : (p : Option ℕ) → limit_at p ≤ slot_limit
limit_most None = omega arith
limit_most (Some place) = omega arith

limit_some : (p : Option ℕ) (number : ℕ) → number < limit_at p → limit_at p ≡ slot_limit
limit_some None number below = absurd (omega arith)
limit_some (Some place) number below = refl

pub free_limit-le : (pages : PageTable) (t : ℕ) → free_limit pages t ≤ slot_limit
free_limit-le pages t = limit_most (place_of pages t)

pub page_from_limit : (pages : PageTable) (t number : ℕ) → number < free_limit pages t → HasPage pages t
page_from_limit pages t number below = limit_some (place_of pages t) number below

limit_le : (lists : List Owned) (limit : ℕ) (slot : Slot) → limit ≤ slot_limit → (set_in_slot lists limit slot).limit ≤ 2 ^ 32
limit_le lists limit Free low = omega arith
limit_le lists limit (One number) low = omega arith
limit_le lists limit (Listed place) low = cases (nat_lt 0 (get_or lists place no_list).list.room) refl
  where
    cases : (b : Bool) → nat_lt 0 (get_or lists place no_list).list.room ≡ b → (set_of_list (get_or lists place no_list).list).limit ≤ 2 ^ 32
    cases true e = rw e (omega arith)
    cases false e = rw e (omega arith)

set_at-limit : (pages : PageTable) (lists : List Owned) (t : ℕ) → (set_at pages lists t).limit ≤ 2 ^ 32
set_at-limit pages lists t = rw set_at-is (limit_le lists (free_limit pages t) (slot_of pages t) (free_limit-le pages t))

-- ---- more room

pub widens_both : (old now new : ℕ → NumberSet) → Widens old now → Widens now new → Widens old new
widens_both old now new first then = record {
  members = λ t. then.members t ∙ first.members t;
  limits = λ t. omega (arith, first.limits t, then.limits t);
}

pub members-widened : (pages pages' : PageTable) (lists lists' : List Owned) → Widens (set_at pages lists) (set_at pages' lists') → (t : ℕ)
    → (set_of (table_of pages' lists') t).members ≡ (set_of (table_of pages lists) t).members
members-widened pages pages' lists lists' h t =
    tables_relate (λ a b. b.members ≡ a.members) (set_at pages lists) (set_at pages' lists') refl t (h.members t)

pub limits-widened : (pages pages' : PageTable) (lists lists' : List Owned) → Widens (set_at pages lists) (set_at pages' lists')
    → KeepsRoom (table_of pages lists) (table_of pages' lists')
limits-widened pages pages' lists lists' h t =
    tables_relate (λ a b. a.limit ≤ b.limit) (set_at pages lists) (set_at pages' lists') (omega arith) t (h.limits t)

members_any : (lists : List Owned) (a b : ℕ) (slot : Slot) → (set_in_slot lists b slot).members ≡ (set_in_slot lists a slot).members
members_any lists a b Free = refl
members_any lists a b (One number) = refl
members_any lists a b (Listed place) = refl

limits_wider : (lists : List Owned) (a b : ℕ) (slot : Slot) → a ≤ b → (set_in_slot lists a slot).limit ≤ (set_in_slot lists b slot).limit
limits_wider lists a b Free le = le
limits_wider lists a b (One number) le = omega arith
limits_wider lists a b (Listed place) le = omega arith

limits_low : (lists : List Owned) (a b : ℕ) (slot : Slot) → b ≤ slot_limit → (set_in_slot lists a slot).limit ≤ slot_limit
    → (set_in_slot lists b slot).limit ≤ slot_limit
limits_low lists a b Free low le = low
limits_low lists a b (One number) low le = omega arith
limits_low lists a b (Listed place) low le = le

-- pages are given back
pub members-given_back : (pages pages' : PageTable) (lists : List Owned) → ((t : ℕ) → slot_of pages' t ≡ slot_of pages t) → (t : ℕ)
    → (set_of (table_of pages' lists) t).members ≡ (set_of (table_of pages lists) t).members
members-given_back pages pages' lists slots t =
    tables_relate (λ a b. b.members ≡ a.members) (set_at pages lists) (set_at pages' lists) refl t
    (rw (set_at-is pages' lists t, set_at-is pages lists t, slots t) (members_any lists (free_limit pages t) (free_limit pages' t) (slot_of pages t)))

pub limits-given_back : (pages pages' : PageTable) (lists : List Owned) → ((t : ℕ) → slot_of pages' t ≡ slot_of pages t) → (t : ℕ)
    → (set_of (table_of pages lists) t).limit ≤ slot_limit → (set_of (table_of pages' lists) t).limit ≤ slot_limit
limits-given_back pages pages' lists slots t =
    tables_relate (λ a b. a.limit ≤ slot_limit → b.limit ≤ slot_limit) (set_at pages lists) (set_at pages' lists) (λ le. le) t
    (rw (set_at-is pages' lists t, set_at-is pages lists t, slots t)
    (limits_low lists (free_limit pages t) (free_limit pages' t) (slot_of pages t) (free_limit-le pages' t)))

-- pages are made
pub widens_pages : (pages pages' : PageTable) (lists : List Owned) → ((t : ℕ) → slot_of pages' t ≡ slot_of pages t)
    → ((t : ℕ) → free_limit pages t ≤ free_limit pages' t) → Widens (set_at pages lists) (set_at pages' lists)
widens_pages pages pages' lists slots limits = record {
  members = λ t. rw (set_at-is pages' lists t, set_at-is pages lists t, slots t) (members_any lists (free_limit pages t) (free_limit pages' t) (slot_of pages t));
  limits = λ t. rw (set_at-is pages' lists t, set_at-is pages lists t, slots t) (limits_wider lists (free_limit pages t) (free_limit pages' t) (slot_of pages t) (limits t));
}

-- a list is added
pub widens_listed : {T E : Type 0} (pages pages' : PageTable) (lists lists' : List Owned) (trigram : ℕ) (list : ListValue) (r : Result T E)
    → OnOk r (set_at pages' lists' trigram ≡ set_of_list list)
    → ((t : ℕ) → t ≢ trigram → set_at pages' lists' t ≡ set_at pages lists t)
    → OnErr r (set_at pages' lists' trigram ≡ set_at pages lists trigram)
    → list.members ≡ (set_at pages lists trigram).members → HasRoom list → Widens (set_at pages lists) (set_at pages' lists')
widens_listed pages pages' lists lists' trigram list r at others err same room = record {
  members = λ t. members t (cases_eq t trigram);
  limits = λ t. limits t (cases_eq t trigram);
}
  where
    members : (t : ℕ) → (t ≡ trigram) ⊎ (t ≢ trigram) → (set_at pages' lists' t).members ≡ (set_at pages lists t).members
    members t (inl e) =
        rw e
        (either_way r (on_ok_weaker r (λ (is : set_at pages' lists' trigram ≡ set_of_list list). ap (λ s. s.members) is ∙ same) at)
        (on_err_weaker r (λ (is : set_at pages' lists' trigram ≡ set_at pages lists trigram). ap (λ s. s.members) is) err))
    members t (inr ne) = ap (λ s. s.members) (others t ne)

    limits : (t : ℕ) → (t ≡ trigram) ⊎ (t ≢ trigram) → (set_at pages lists t).limit ≤ (set_at pages' lists' t).limit
    limits t (inl e) =
        rw e
        (either_way r
        (on_ok_weaker r
        (λ (is : set_at pages' lists' trigram ≡ set_of_list list).
        (let e : (set_at pages' lists' trigram).limit ≡ 2 ^ 32 = ap (λ s. s.limit) is ∙ limit_with_room list room in
        omega (arith, e, set_at-limit pages lists trigram))) at)
        (on_err_weaker r
        (λ (is : set_at pages' lists' trigram ≡ set_at pages lists trigram).
        (let e : (set_at pages' lists' trigram).limit ≡ (set_at pages lists trigram).limit = ap (λ s. s.limit) is in omega (arith, e))) err))
    limits t (inr ne) =
        let e : (set_at pages' lists' t).limit ≡ (set_at pages lists t).limit = ap (λ s. s.limit) (others t ne) in
        omega (arith, e)

-- ---- a list is written

-- the list at this place is the trigram's
pub set_there : (pages : PageTable) (lists : List Owned) (table : List NumberSet) (trigram place : ℕ) (x : Owned) → table_of pages lists ≡ table
    → IsSound (slot_of pages) lists → Listed place ≡ slot_of pages trigram → trigram < trigram_count → x ≡ get_or lists place x
    → set_of table trigram ≡ set_of_list x.list
set_there pages lists table trigram place x view sound is below read =
    let there = get_or_read lists place x (sound.within trigram place (sym is)) read no_list in
    rw (← view) (set_here pages lists trigram (Listed place) is below ∙ ap (λ o. set_of_list o.list) (sym there))

pub set_written : (pages : PageTable) (lists : List Owned) (trigram place : ℕ) (x : Owned) → IsSound (slot_of pages) lists
    → Listed place ≡ slot_of pages trigram → trigram < trigram_count → set_of (table_of pages (set lists place x)) trigram ≡ set_of_list x.list
set_written pages lists trigram place x sound is below =
    set_here pages (set lists place x) trigram (Listed place) is below
    ∙ ap (λ o. set_of_list o.list) (get_or-set_same lists place x no_list (sound.within trigram place (sym is)))

-- where a trigram's set is the same
pub set_same : (pages pages' : PageTable) (lists lists' : List Owned) (t : ℕ) → set_at pages' lists' t ≡ set_at pages lists t
    → set_of (table_of pages' lists') t ≡ set_of (table_of pages lists) t
set_same pages pages' lists lists' t same = tables_relate (λ a b. b ≡ a) (set_at pages lists) (set_at pages' lists') refl t same

set_at-list_other : (pages : PageTable) (lists : List Owned) (trigram place : ℕ) (x : Owned) → IsSound (slot_of pages) lists
    → Listed place ≡ slot_of pages trigram → (t : ℕ) → t ≢ trigram → set_at pages (set lists place x) t ≡ set_at pages lists t
set_at-list_other pages lists trigram place x sound is t ne =
    set_at-kept pages pages lists (set lists place x) t refl
    (λ limit.
    set_in-kept lists (set lists place x) limit (slot_of pages t)
    (λ k e.
    get_or-set_other lists place k x no_list
    (λ same. ne (sym (sound.owner t k e) ∙ ap (owner_at lists) same ∙ sound.owner trigram place (sym is)))))

pub list_other : (pages : PageTable) (lists : List Owned) (trigram place : ℕ) (x : Owned) → IsSound (slot_of pages) lists
    → Listed place ≡ slot_of pages trigram → (t : ℕ) → t ≢ trigram
    → set_of (table_of pages (set lists place x)) t ≡ set_of (table_of pages lists) t
list_other pages lists trigram place x sound is t ne =
    set_same pages pages lists (set lists place x) t (set_at-list_other pages lists trigram place x sound is t ne)

set_at-there : (pages : PageTable) (lists : List Owned) (t : ℕ) (slot : Slot) → slot ≡ slot_of pages t
    → set_at pages lists t ≡ set_in_slot lists (free_limit pages t) slot
set_at-there pages lists t slot is = set_at-is pages lists t ∙ ap (set_in_slot lists (free_limit pages t)) (sym is)

-- a list gets room
pub widens_written : (pages : PageTable) (lists : List Owned) (trigram place : ℕ) (was x : Owned) → IsSound (slot_of pages) lists
    → Listed place ≡ slot_of pages trigram → was ≡ get_or lists place was → x.list.members ≡ was.list.members
    → was.list.room ≤ x.list.room → Widens (set_at pages lists) (set_at pages (set lists place x))
widens_written pages lists trigram place was x sound is read members room = record {
  members = λ t. members_at t (cases_eq t trigram);
  limits = λ t. limits_at t (cases_eq t trigram);
}
  where
    there : was ≡ get_or lists place no_list
    there = get_or_read lists place was (sound.within trigram place (sym is)) read no_list

    old : set_at pages lists trigram ≡ set_of_list was.list
    old = set_at-there pages lists trigram (Listed place) is ∙ ap (λ o. set_of_list o.list) (sym there)

    new : set_at pages (set lists place x) trigram ≡ set_of_list x.list
    new =
        set_at-there pages (set lists place x) trigram (Listed place) is
        ∙ ap (λ o. set_of_list o.list) (get_or-set_same lists place x no_list (sound.within trigram place (sym is)))

    wider : (a b : Bool) → nat_lt 0 was.list.room ≡ a → nat_lt 0 x.list.room ≡ b → (set_of_list was.list).limit ≤ (set_of_list x.list).limit
    wider false b e f = rw e (omega arith)
    wider true false e f = absurd (grind (arith, nat_tests))
    wider true true e f = rw (e, f) (omega arith)

    members_at : (t : ℕ) → (t ≡ trigram) ⊎ (t ≢ trigram) → (set_at pages (set lists place x) t).members ≡ (set_at pages lists t).members
    members_at t (inl e) = rw e (ap (λ s. s.members) new ∙ members ∙ sym (ap (λ s. s.members) old))
    members_at t (inr ne) = ap (λ s. s.members) (set_at-list_other pages lists trigram place x sound is t ne)

    limits_at : (t : ℕ) → (t ≡ trigram) ⊎ (t ≢ trigram) → (set_at pages lists t).limit ≤ (set_at pages (set lists place x) t).limit
    limits_at t (inl e) = rw (e, old, new) (wider (nat_lt 0 was.list.room) (nat_lt 0 x.list.room) refl refl)
    limits_at t (inr ne) =
        let e : (set_at pages (set lists place x) t).limit ≡ (set_at pages lists t).limit =
        ap (λ s. s.limit) (set_at-list_other pages lists trigram place x sound is t ne) in
        omega (arith, e)

-- a single number is made a list
pub widens_one : {T E : Type 0} (pages pages' : PageTable) (lists lists' : List Owned) (trigram number : ℕ) (list : ListValue) (r : Result T E)
    → OnOk r (set_at pages' lists' trigram ≡ set_of_list list)
    → ((t : ℕ) → t ≢ trigram → set_at pages' lists' t ≡ set_at pages lists t)
    → OnErr r (set_at pages' lists' trigram ≡ set_at pages lists trigram)
    → One number ≡ slot_of pages trigram → list.members ≡ number ∷ [] → HasRoom list → Widens (set_at pages lists) (set_at pages' lists')
widens_one pages pages' lists lists' trigram number list r at others err is members room =
    widens_listed pages pages' lists lists' trigram list r at others err
    (members ∙ sym (ap (λ s. s.members) (set_at-there pages lists trigram (One number) is))) room

-- an empty list for a free slot
pub widens_free : {T E : Type 0} (pages pages' : PageTable) (lists lists' : List Owned) (trigram : ℕ) (list : ListValue) (r : Result T E)
    → OnOk r (set_at pages' lists' trigram ≡ set_of_list list)
    → ((t : ℕ) → t ≢ trigram → set_at pages' lists' t ≡ set_at pages lists t)
    → OnErr r (set_at pages' lists' trigram ≡ set_at pages lists trigram)
    → Free ≡ slot_of pages trigram → list.members ≡ [] → HasRoom list → Widens (set_at pages lists) (set_at pages' lists')
widens_free pages pages' lists lists' trigram list r at others err is members room =
    widens_listed pages pages' lists lists' trigram list r at others err
    (members ∙ sym (ap (λ s. s.members) (set_at-there pages lists trigram Free is))) room

-- a number below the limit of a free slot
pub free_has_room : (pages : PageTable) (lists : List Owned) (trigram number : ℕ) → Free ≡ slot_of pages trigram → HasPage pages trigram
    → number < slot_limit → number < (set_at pages lists trigram).limit
free_has_room pages lists trigram number is page below =
    let e : (set_at pages lists trigram).limit ≡ slot_limit = ap (λ s. s.limit) (set_at-there pages lists trigram Free is) ∙ page in
    omega (arith, e)

-- a new list has room for each number
pub listed_has_room : {T E : Type 0} (sets : ℕ → NumberSet) (trigram number : ℕ) (list : ListValue) (r : Result T E)
    → OnOk r (sets trigram ≡ set_of_list list) → HasRoom list → number < 2 ^ 32 → OnOk r (number < (sets trigram).limit)
listed_has_room sets trigram number list r at room below =
    on_ok_weaker r
    (λ (is : sets trigram ≡ set_of_list list).
    (let e : (sets trigram).limit ≡ 2 ^ 32 = ap (λ s. s.limit) is ∙ limit_with_room list room in omega (arith, e))) at

-- ---- a slot is written

pub slot_other : (pages pages' : PageTable) (lists : List Owned) (trigram : ℕ) (slot : Slot) → IsWritten (slot_of pages) (slot_of pages') trigram slot
    → ((t : ℕ) → free_limit pages' t ≡ free_limit pages t) → (t : ℕ) → t ≢ trigram
    → set_of (table_of pages' lists) t ≡ set_of (table_of pages lists) t
slot_other pages pages' lists trigram slot written limits t ne =
    set_same pages pages' lists lists t
    (set_at-kept pages pages' lists lists t (limits t)
    (λ limit. ap (set_in_slot lists limit) (written_other (slot_of pages) (slot_of pages') trigram slot written t ne)))

free_from_limit : (lists : List Owned) (limit number : ℕ) (slot : Slot) → IsUnlisted slot → number < (set_in_slot lists limit slot).limit → slot ≡ Free
free_from_limit lists limit number Free other below = refl
free_from_limit lists limit number (One held) other below = absurd (omega arith)
free_from_limit lists limit number (Listed place) other below = absurd (other place refl)

-- a set without a list that has room for a number: its slot is free
pub free_here : (pages : PageTable) (lists : List Owned) (table : List NumberSet) (trigram number : ℕ) (slot : Slot) → table_of pages lists ≡ table
    → slot ≡ slot_of pages trigram → trigram < trigram_count → IsUnlisted slot → number < (set_of table trigram).limit
    → (Free ≡ slot_of pages trigram) × HasPage pages trigram × (number < slot_limit)
free_here pages lists table trigram number slot view is low unlisted room =
    let here = rw (← view, set_here pages lists trigram slot is low) at room in
    let free = free_from_limit lists (free_limit pages trigram) number slot unlisted here in
    let below : number < free_limit pages trigram = rw free at here in
    (sym free ∙ is, page_from_limit pages trigram number below, omega (arith, below, free_limit-le pages trigram))

-- a set that stands in a slot
pub stands_members : (lists : List Owned) (limit : ℕ) (slot : Slot) (members : List ℕ) → StandsFor slot members
    → (set_in_slot lists limit slot).members ≡ members
stands_members lists limit Free members h = sym h
stands_members lists limit (One number) members h = sym h.1
stands_members lists limit (Listed place) members h = absurd h

pub stands_limit : (lists : List Owned) (limit : ℕ) (slot : Slot) (members : List ℕ) → StandsFor slot members → limit ≤ slot_limit
    → (set_in_slot lists limit slot).limit ≤ slot_limit
stands_limit lists limit Free members h low = low
stands_limit lists limit (One number) members h low = omega arith
stands_limit lists limit (Listed place) members h low = absurd h

-- ---- no pages

no_slot : (pages : PageTable) → ((t : ℕ) → place_of pages t ≡ None) → (t : ℕ) → Free ≡ slot_of pages t
no_slot pages none t = sym (ap (λ p. slot_of_code (code_at pages.slots p)) (none t))

pub IsSound-none : (pages : PageTable) → ((t : ℕ) → place_of pages t ≡ None) → IsSound (slot_of pages) []
IsSound-none pages none = record {
  within = λ t place e. absurd (other t place e);
  owner = λ t place e. absurd (other t place e);
  slot = λ place inside. absurd (omega arith);
  bound = λ place inside. absurd (omega arith);
}
  where
    other : (t place : ℕ) → slot_of pages t ≡ Listed place → ⊥
    other t place e = let free : Free ≡ Listed place = no_slot pages none t ∙ e in cc

pub holds-none : (pages : PageTable) (lists : List Owned) → ((t : ℕ) → place_of pages t ≡ None) → (t n : ℕ)
    → holds (table_of pages lists) t n ≡ false
holds-none pages lists none t n =
    ap (λ ms. has ms n) (tables_relate (λ a b. b.members ≡ []) (λ s. no_numbers) (set_at pages lists) refl t (ap (λ s. s.members) (set_at-there pages lists t Free (no_slot pages none t))))
