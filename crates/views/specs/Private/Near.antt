-- Lines near hits, of which `ahead` are those from the line on.
use Rattle.std.specs.Prelude.{◌≡◌, ℕ, ◌+◌, ◌-◌, ◌≤◌, ◌==◌, ◌||◌, Bool, false, nat_le, nat_lt, if◌then◌else◌, List, [], ◌∷◌, ◌++◌, map}
use Rattle.std.specs.List.{AllByRecursion, list_any}
use Rattle.std.specs.List.Sorted.{IsStrictlyIncreasing}
use Rattle.views.specs.Found.{Hit}
use Rattle.views.specs.View.{Row, hit, near, gap, is_near}

-- The first of the hits is this line.
abbrev pub begins_at : List Hit → ℕ → Bool
begins_at [] line = false
begins_at (first ∷ hits) line = first.line == line

abbrev pub row_at : List Hit → Hit → Row
row_at ahead line = if begins_at ahead line.line then hit line else near line

abbrev pub gap_before : ℕ → ℕ → List Row
gap_before next line = if line == next then [] else gap ∷ []

-- the row of a line, and the gap before it unless it has the number `next`
abbrev pub rows_of_line : ℕ → List Hit → Hit → List Row
rows_of_line next ahead line = gap_before next line.line ++ row_at ahead line ∷ []

-- The line is before `far`, or the first of the hits is at most so many lines after it.
abbrev pub is_close : ℕ → ℕ → List Hit → ℕ → Bool
is_close most far [] line = nat_lt line far || false
is_close most far (first ∷ hits) line = nat_lt line far || nat_le (first.line - line) most

-- The hits from the line on are those ahead. A line from it on is near one of those before it if it is before `far`.
pub record Leads (most : ℕ) (hits : List Hit) (line far : ℕ) (ahead : List Hit) : Type 0 where
  pub rises : IsStrictlyIncreasing (map (λ h. h.line) ahead)
  pub above : AllByRecursion (λ h. line ≤ h.line) ahead
  pub low : far ≤ line + most
  pub near : (later : ℕ) → line ≤ later → is_near most hits later ≡ (nat_lt later far || is_near most ahead later)
  pub same : (later : ℕ) → line ≤ later → list_any (λ h. h.line == later) hits ≡ list_any (λ h. h.line == later) ahead
