-- How the table of sets is kept. A page has the slots of 64 trigrams, and a directory says where the page of each 64 trigrams is.
-- A slot tells what there is for its trigram.
use Rattle.std.specs.Prelude.{◌≡◌, ◌≢◌, ℕ, zero, suc, ◌+◌, ◌-◌, ◌*◌, ◌^◌, ◌<◌, ◌≤◌, ◌/◌, ◌%◌, List, [], ◌∷◌, map, length}
use Rattle.std.specs.Prelude.{slice_index, slice_index_or, if◌then◌else◌, ◌==◌, nat_lt, Option, Some, None}
use Rattle.std.specs.List.{range_with_len}
use Rattle.posting.specs.ListValue.{ListValue}
use Rattle.posting.specs.Postings.{NumberSet, slot_limit}
use Rattle.posting.specs.declared.pages.Slot.{Slot}
use Rattle.posting.specs.declared.pages.Slot.TheVariants.{Free, One, Listed}
use Rattle.posting.specs.declared.owned.Owned.{Owned}
use Rattle.posting.specs.Private.PageTable.{PageTable, page_size}

-- there are 2^24 trigrams, since each is three bytes
unfoldable pub trigram_count : ℕ
trigram_count = 16777216

-- ---- slots

-- what a number in a slot says
abbrev pub slot_of_code : ℕ → Slot
slot_of_code code = if nat_lt code slot_limit then (if code == 0 then Free else Listed (code - 1)) else One (code - slot_limit)

-- the slot can be written as 32 bits
abbrev pub FitsSlot : Slot → Type 0
FitsSlot Free = Unit {0}
FitsSlot (One number) = number < slot_limit
FitsSlot (Listed place) = place + 1 < slot_limit

-- It does not lead to a list.
abbrev pub IsUnlisted : Slot → Type 0
IsUnlisted slot = (place : ℕ) → slot ≢ Listed place

-- the place of a slot among the slots of all pages, by its page (0 for none, else one more than the page's place)
abbrev pub place_on : ℕ → ℕ → Option ℕ
place_on zero at = None
place_on (suc page) at = Some (page * page_size + at)

-- the place of the trigram's slot, if it has a page
unfoldable pub place_of : PageTable → ℕ → Option ℕ
place_of pages trigram = place_on (slice_index pages.directory (trigram / page_size)) (trigram % page_size)

-- what is read at a place; a slot without a page is free
abbrev pub code_at : List ℕ → Option ℕ → ℕ
code_at slots None = 0
code_at slots (Some place) = slice_index slots place

-- the number in the trigram's slot
abbrev pub code_of : PageTable → ℕ → ℕ
code_of pages trigram = code_at pages.slots (place_of pages trigram)

-- what there is for a trigram
abbrev pub slot_of : PageTable → ℕ → Slot
slot_of pages trigram = slot_of_code (code_of pages trigram)

abbrev pub limit_at : Option ℕ → ℕ
limit_at None = 0
limit_at (Some place) = slot_limit

-- each number below this can be written into the trigram's slot
abbrev pub free_limit : PageTable → ℕ → ℕ
free_limit pages trigram = limit_at (place_of pages trigram)

-- The trigram has a slot on a page.
abbrev pub HasPage : PageTable → ℕ → Type 0
HasPage pages trigram = free_limit pages trigram ≡ slot_limit

-- All slots are as they were.
pub record SamePages (old new : PageTable) : Type 0 where
  pub codes : (trigram : ℕ) → code_of new trigram ≡ code_of old trigram
  pub limits : (trigram : ℕ) → free_limit new trigram ≡ free_limit old trigram

-- A page with these slots was added, and all other slots are as they were.
pub record AddsPage (old new : PageTable) (page : ℕ) (slots : List ℕ) : Type 0 where
  pub codes : (trigram : ℕ) → code_of new trigram ≡ (if trigram / page_size == page then slice_index slots (trigram % page_size) else code_of old trigram)
  pub limits : (trigram : ℕ) → free_limit new trigram ≡ (if trigram / page_size == page then slot_limit else free_limit old trigram)

-- The slots of these 64 trigrams are now as in other pages, and all other slots are as they were.
pub record CopiesPage (from old new : PageTable) (page : ℕ) : Type 0 where
  pub codes : (trigram : ℕ) → code_of new trigram ≡ (if trigram / page_size == page then code_of from trigram else code_of old trigram)
  pub limits : (trigram : ℕ) → trigram / page_size ≢ page → free_limit new trigram ≡ free_limit old trigram

-- ---- sets

-- what is read where there is no list
abbrev pub no_list : Owned
no_list = record { trigram = 0; list = record { members = []; room = 0 } }

-- the trigram whose list is at this place
abbrev pub owner_at : List Owned → ℕ → ℕ
owner_at lists place = (slice_index_or lists place no_list).trigram

-- a list with room for one more number takes any number of 32 bits
abbrev pub set_of_list : ListValue → NumberSet
set_of_list list = record { members = list.members; limit = if nat_lt 0 list.room then 2 ^ 32 else 0 }

-- the set of a slot; the limit is that of the slot while it is free
abbrev pub set_in_slot : List Owned → ℕ → Slot → NumberSet
set_in_slot lists limit Free = record { members = []; limit = limit }
set_in_slot lists limit (One number) = record { members = number ∷ []; limit = 0 }
set_in_slot lists limit (Listed place) = set_of_list (slice_index_or lists place no_list).list

unfoldable pub set_at : PageTable → List Owned → ℕ → NumberSet
set_at pages lists trigram = set_in_slot lists (free_limit pages trigram) (slot_of pages trigram)

-- the table that pages and lists make
abbrev pub table_of : PageTable → List Owned → List NumberSet
table_of pages lists = map (set_at pages lists) (range_with_len 0 trigram_count)

-- A slot and the list that it leads to name each other, and there is no other list.
pub record IsSound (slots : ℕ → Slot) (lists : List Owned) : Type 0 where
  pub within : (trigram place : ℕ) → slots trigram ≡ Listed place → place < length lists
  pub owner : (trigram place : ℕ) → slots trigram ≡ Listed place → owner_at lists place ≡ trigram
  pub slot : (place : ℕ) → place < length lists → slots (owner_at lists place) ≡ Listed place
  pub bound : (place : ℕ) → place < length lists → owner_at lists place < trigram_count

-- A set with these numbers can stand in the slot, without a list.
abbrev pub StandsFor : Slot → List ℕ → Type 0
StandsFor Free members = members ≡ []
StandsFor (One number) members = (number < slot_limit) × (members ≡ number ∷ [])
StandsFor (Listed place) members = ⊥

-- The sets keep their numbers, and each number that could be added without memory still can.
pub record Widens (old new : ℕ → NumberSet) : Type 0 where
  pub members : (trigram : ℕ) → (new trigram).members ≡ (old trigram).members
  pub limits : (trigram : ℕ) → (old trigram).limit ≤ (new trigram).limit

-- The room for more lists than this can be given back.
abbrev pub few_lists : ℕ
few_lists = 512
