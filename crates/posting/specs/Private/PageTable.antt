-- The pages of slots, and the directory that leads to them.
use Rattle.std.specs.Prelude.{◌≡◌, ℕ, ◌*◌, ◌<◌, ◌≤◌, List, length, slice_index, if◌then◌else◌, ◌==◌}
use Rattle.std.specs.List.{sum_by}

-- how many trigrams have their slots on a page
abbrev pub page_size : ℕ
page_size = 64

-- so many pages have slots for all trigrams
abbrev pub page_count : ℕ
page_count = 262144

-- for each 64 trigrams 0, or one more than the place of their page; and the slots of all pages, page after page
pub record PageTable : Type 0 where
  pub directory : List ℕ
  pub slots : List ℕ

-- 1 for a page, 0 for none
abbrev pub one_page : ℕ → ℕ
one_page page = if page == 0 then 0 else 1

-- how many pages there are
abbrev pub pages_of : PageTable → ℕ
pages_of pages = sum_by one_page pages.directory

-- The directory leads to all pages, and to each of them once.
pub record IsPaged (pages : PageTable) : Type 0 where
  pub bound : length pages.directory ≤ page_count
  pub counted : length pages.slots ≡ pages_of pages * page_size
  pub within : (k : ℕ) → slice_index pages.directory k ≤ pages_of pages
  pub apart : (j k : ℕ) → 0 < slice_index pages.directory k → slice_index pages.directory j ≡ slice_index pages.directory k → j ≡ k

-- A directory that is perhaps longer, with the same pages.
pub record SameDirectory (old new : List ℕ) : Type 0 where
  pub entries : (k : ℕ) → slice_index new k ≡ slice_index old k
  pub pages : sum_by one_page new ≡ sum_by one_page old
  pub bound : length old ≤ page_count → length new ≤ page_count
