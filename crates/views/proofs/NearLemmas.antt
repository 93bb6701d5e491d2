-- Lines near hits.
use Rattle.std.proofs.Common.{◌≡◌, ℕ, suc, ◌+◌, ◌-◌, ◌<◌, ◌≤◌, ◌==◌, ◌&&◌, ◌||◌, inl, inr, Bool, true, false, List, [], ◌∷◌, ◌++◌}
use Rattle.std.proofs.Common.{length, map, drop, refl, sym, ◌∙◌, ap, subst, arith, append_assoc}
use Rattle.std.specs.Prelude.{filter, nat_le, nat_lt, slice_index, if◌then◌else◌, Option, Some, None, MatchOption}
use Rattle.std.specs.List.{list_any, AllByRecursion}
use Rattle.std.specs.List.Sorted.{IsStrictlyIncreasing}
use Rattle.std.proofs.lemmas.Bool.{cases_lt}
use Rattle.std.proofs.Math.Bool.{or-false, or-true}
use Rattle.std.proofs.lemmas.Bool.Decides.{nat_tests}
use Rattle.std.proofs.lemmas.List.{append-nil, length-append}
use Rattle.lines.specs.Lines.{lines_of}
use Rattle.views.specs.declared.places.Hit.{Hit as ShownHit}
use Rattle.views.specs.Found.{Hit, found, numbered}
use Rattle.views.specs.Hits.{hit_of}
use Rattle.views.specs.Text.{text_of_rows}
use Rattle.views.specs.View.{Row, hit, near, is_near, rows_from, stretches}
use Rattle.views.specs.Private.Near.{Leads, begins_at, gap_before, is_close, row_at, rows_of_line}
use Rattle.views.proofs.RowLemmas.{text_of_both}

-- ---- hits from a line on

abbrev pub Rises : List Hit → Type 0
Rises hits = IsStrictlyIncreasing (map (λ h. h.line) hits)

pub rises_rest : (first : Hit) (hits : List Hit) → Rises (first ∷ hits) → Rises hits
rises_rest first hits rises =
    λ k below.
    (let e : suc k + 1 ≡ suc (k + 1) = omega arith in
    subst (λ n. slice_index (map (λ h. h.line) (first ∷ hits)) (suc k) < slice_index (map (λ h. h.line) (first ∷ hits)) n) e
    (rises (suc k) (omega arith)))

above_first : (least : ℕ) (first : Hit) (hits : List Hit) → least ≤ first.line → Rises (first ∷ hits) → AllByRecursion (λ h. least < h.line) hits
above_first least first [] low rises = tt
above_first least first (next ∷ hits) low rises =
    let below : first.line < next.line = rises 0 (omega arith) in
    (omega arith, above_first least next hits (omega arith) (rises_rest first (next ∷ hits) rises))

-- ---- lines near hits

-- No hit is near that is too far behind the line.
none_near : (most line : ℕ) (hits : List Hit) → AllByRecursion (λ h. line + most < h.line) hits → is_near most hits line ≡ false
none_near most line [] above = refl
none_near most line (first ∷ hits) above =
    let far : line + most < first.line = above.0 in
    let no : (nat_le line (first.line + most) && nat_le first.line (line + most)) ≡ false = grind (arith, nat_tests) in
    rw no (none_near most line hits above.1)

near_head : (most line : ℕ) (first : Hit) (hits : List Hit) → Rises (first ∷ hits) → line - most ≤ first.line
    → is_near most (first ∷ hits) line ≡ nat_le (first.line - line) most
near_head most line first hits rises low =
    elim (cases_lt most (first.line - line)) [
      | inl far ↦
          let no : nat_le (first.line - line) most ≡ false = grind (arith, nat_tests) in
          none_near most line (first ∷ hits) (omega arith, above_first (line + most) first hits (omega arith) rises) ∙ sym no
      | inr close ↦
          let yes : nat_le (first.line - line) most ≡ true = grind (arith, nat_tests) in
          let one : nat_le line (first.line + most) ≡ true = grind (arith, nat_tests) in
          let two : nat_le first.line (line + most) ≡ true = grind (arith, nat_tests) in
          rw (one, two) (sym yes)
    ]

abbrev pub near_lines : ℕ → List Hit → List Hit → List Hit
near_lines most hits lines = filter (λ l. is_near most hits l.line) lines

none_at : (line : ℕ) (hits : List Hit) → AllByRecursion (λ h. line < h.line) hits → list_any (λ h. h.line == line) hits ≡ false
none_at line [] above = refl
none_at line (first ∷ hits) above =
    let low : line < first.line = above.0 in
    let no : (first.line == line) ≡ false = grind (arith, nat_tests) in
    rw no (none_at line hits above.1)

-- ---- hits from a line on

-- whether a line is near a hit
pub near_here : (most : ℕ) (hits : List Hit) (line far : ℕ) (ahead : List Hit) → Leads most hits line far ahead
    → is_near most hits line ≡ is_close most far ahead line
near_here most hits line far [] leads = leads.near line (omega arith)
near_here most hits line far (first ∷ ahead) leads =
    leads.near line (omega arith) ∙ ap (λ b. nat_lt line far || b) (near_head most line first ahead leads.rises (let low : line ≤ first.line = leads.above.0 in omega arith))

-- whether it is one
pub hit_here : (most : ℕ) (hits : List Hit) (line far : ℕ) (ahead : List Hit) → Leads most hits line far ahead
    → list_any (λ h. h.line == line) hits ≡ begins_at ahead line
hit_here most hits line far [] leads = leads.same line (omega arith)
hit_here most hits line far (first ∷ ahead) leads =
    leads.same line (omega arith)
    ∙ (ap (λ b. (first.line == line) || b) (none_at line ahead (above_first line first ahead leads.above.0 leads.rises)) ∙ or-false (first.line == line))

pub leads_first : (most : ℕ) (hits : List Hit) → Rises hits → Leads most hits 0 0 hits
leads_first most hits rises = record {
  rises = rises;
  above = every hits;
  low = omega arith;
  near = λ later low. (let no : nat_lt later 0 ≡ false = grind (arith, nat_tests) in rw no refl);
  same = λ later low. refl;
}
  where
    every : (hits : List Hit) → AllByRecursion (λ h. 0 ≤ h.line) hits
    every [] = tt
    every (first ∷ hits) = (omega arith, every hits)

next_above : (line : ℕ) (hits : List Hit) → AllByRecursion (λ h. line < h.line) hits → AllByRecursion (λ h. line + 1 ≤ h.line) hits
next_above line [] above = tt
next_above line (first ∷ hits) above = let low : line < first.line = above.0 in (omega arith, next_above line hits above.1)

-- a line that is no hit
pub leads_on : (most : ℕ) (hits : List Hit) (line far : ℕ) (ahead : List Hit) → begins_at ahead line ≡ false → Leads most hits line far ahead
    → Leads most hits (line + 1) far ahead
leads_on most hits line far ahead other leads = record {
  rises = leads.rises;
  above = every ahead other leads.rises leads.above;
  low = omega (arith, leads.low);
  near = λ later low. leads.near later (omega arith);
  same = λ later low. leads.same later (omega arith);
}
  where
    every : (ahead : List Hit) → begins_at ahead line ≡ false → Rises ahead → AllByRecursion (λ h. line ≤ h.line) ahead
        → AllByRecursion (λ h. line + 1 ≤ h.line) ahead
    every [] other rises above = tt
    every (first ∷ ahead) other rises above =
        let from : line ≤ first.line = above.0 in
        let low : line + 1 ≤ first.line = grind (arith, nat_tests) in
        (low, next_above line ahead (above_first line first ahead from rises))

-- a line that is one
pub leads_past : (most : ℕ) (hits : List Hit) (line far : ℕ) (first : Hit) (ahead : List Hit) → first.line ≡ line
    → Leads most hits line far (first ∷ ahead) → Leads most hits (line + 1) (line + most + 1) ahead
leads_past most hits line far first ahead here leads = record {
  rises = rises_rest first ahead leads.rises;
  above = next_above line ahead (above_first line first ahead leads.above.0 leads.rises);
  low = omega arith;
  near = λ later low. leads.near later (omega arith) ∙ joined later low;
  same =
      λ later low.
      (let other : (first.line == later) ≡ false = grind (arith, nat_tests) in
      leads.same later (omega arith) ∙ rw other refl);
}
  where
    joined : (later : ℕ) → line + 1 ≤ later
        → (nat_lt later far || ((nat_le later (first.line + most) && nat_le first.line (later + most)) || is_near most ahead later))
        ≡ (nat_lt later (line + most + 1) || is_near most ahead later)
    joined later low =
        let bound = leads.low in
        let behind : nat_le first.line (later + most) ≡ true = grind (arith, nat_tests) in
        elim (cases_lt later (line + most + 1)) [
          | inl close ↦
              let one : nat_le later (first.line + most) ≡ true = grind (arith, nat_tests) in
              let two : nat_lt later (line + most + 1) ≡ true = grind (arith, nat_tests) in
              rw (behind, one, two) (or-true (nat_lt later far))
          | inr away ↦
              let one : nat_le later (first.line + most) ≡ false = grind (arith, nat_tests) in
              let two : nat_lt later (line + most + 1) ≡ false = grind (arith, nat_tests) in
              let three : nat_lt later far ≡ false = grind (arith, nat_tests) in
              rw (one, two, three) refl
        ]

-- a line that is not near a hit is none
pub far_is_none : (most far : ℕ) (ahead : List Hit) (line : ℕ) → AllByRecursion (λ h. line ≤ h.line) ahead → is_close most far ahead line ≡ false
    → begins_at ahead line ≡ false
far_is_none most far [] line above away = refl
far_is_none most far (first ∷ ahead) line above away = grind (arith, nat_tests)

-- If no hit is left, no line from one on that is not near a hit is near one.
pub none_left : (most : ℕ) (hits : List Hit) (line far : ℕ) → Leads most hits line far [] → far ≤ line → (name : List ℕ) (at : ℕ) (texts : List (List ℕ))
    → line ≤ at → near_lines most hits (numbered name at texts) ≡ []
unfolding numbered
none_left most hits line far leads behind name at [] low = refl
none_left most hits line far leads behind name at (text ∷ texts) low =
    let after : nat_lt at far ≡ false = grind (arith, nat_tests) in
    let no : is_near most hits at ≡ false = leads.near at low ∙ rw after refl in
    rw no (none_left most hits line far leads behind name (suc at) texts (omega arith))

-- ---- rows that are appended one after another

-- the rows so far, whose text is appended; with those that are left they are the whole
pub record RowsSoFar (zero : Bool) (old now : List ℕ) (count : ℕ) (left whole : List Row) : Type 0 where
  pub added : List Row
  pub counted : count ≡ length added
  pub appended : now ≡ old ++ text_of_rows zero added
  pub rows : added ++ left ≡ whole

pub rows_begin : (zero : Bool) (old : List ℕ) (whole : List Row) → RowsSoFar zero old old 0 whole whole
rows_begin zero old whole = record { added = []; counted = refl; appended = sym (append-nil old); rows = refl }

module _ (zero : Bool) (old now new : List ℕ) (count : ℕ) (left whole : List Row) where
  pub rows_more : (n : ℕ) (rest rows : List Row) → left ≡ rows ++ rest → n ≡ length rows → new ≡ now ++ text_of_rows zero rows
      → RowsSoFar zero old now count left whole → RowsSoFar zero old new (count + n) rest whole
  rows_more n rest rows split many grown before = record {
    added = before.added ++ rows;
    counted = omega (arith, before.counted, many, length-append before.added rows);
    appended =
        grown
        ∙ (ap (λ t. t ++ text_of_rows zero rows) before.appended
        ∙ (append_assoc old (text_of_rows zero before.added) (text_of_rows zero rows)
        ∙ ap (λ t. old ++ t) (sym (text_of_both zero before.added rows))));
    rows = append_assoc before.added rows rest ∙ (ap (λ rs. before.added ++ rs) (sym split) ∙ before.rows);
  }

pub rows_end : (zero : Bool) (old now : List ℕ) (count : ℕ) (left whole : List Row) → left ≡ [] → RowsSoFar zero old now count left whole
    → (rows : List Row) × (rows ≡ whole) × (count ≡ length rows) × (now ≡ old ++ text_of_rows zero rows)
rows_end zero old now count left whole none before = (
  before.added,
  sym (append-nil before.added) ∙ (ap (λ rs. before.added ++ rs) (sym none) ∙ before.rows),
  before.counted,
  before.appended,
)

-- ---- the next line

module _ (most : ℕ) (hits : List Hit) (next : ℕ) (name : List ℕ) (line : ℕ) (text : List ℕ) (texts : List (List ℕ)) where
  near_next : near_lines most hits (numbered name line (text ∷ texts))
      ≡ (if is_near most hits line then found name line text ∷ near_lines most hits (numbered name (line + 1) texts)
      else near_lines most hits (numbered name (line + 1) texts))
  unfolding numbered
  near_next =
      let moved : suc line ≡ line + 1 = omega arith in
      ap (λ n. if is_near most hits line then found name line text ∷ near_lines most hits (numbered name n texts)
      else near_lines most hits (numbered name n texts)) moved

  pub far_line : is_near most hits line ≡ false
      → rows_from hits next (near_lines most hits (numbered name line (text ∷ texts)))
      ≡ rows_from hits next (near_lines most hits (numbered name (line + 1) texts))
  far_line is = ap (λ ls. rows_from hits next ls) (near_next ∙ rw is refl)

  pub near_line : (ahead : List Hit) → is_near most hits line ≡ true → list_any (λ h. h.line == line) hits ≡ begins_at ahead line
      → rows_from hits next (near_lines most hits (numbered name line (text ∷ texts)))
      ≡ rows_of_line next ahead (found name line text)
      ++ rows_from hits (line + 1) (near_lines most hits (numbered name (line + 1) texts))
  unfolding rows_from
  near_line ahead is same =
      let rest = rows_from hits (line + 1) (near_lines most hits (numbered name (line + 1) texts)) in
      let lines : near_lines most hits (numbered name line (text ∷ texts))
      ≡ found name line text ∷ near_lines most hits (numbered name (line + 1) texts) = near_next ∙ rw is refl in
      ap (λ ls. rows_from hits next ls) lines
      ∙ (ap (λ b. gap_before next line ++ (if b then hit (found name line text) else near (found name line text)) ∷ rest) same
      ∙ sym (append_assoc (gap_before next line) (row_at ahead (found name line text) ∷ []) rest))

-- ---- the walk through the lines of a body

-- what is left after a call of `next`
pub left_by_next : (hits left : List Hit) (line : ℕ) (given : Option ShownHit) → begins_at hits line ≡ true
    → MatchOption given ((hits ≡ []) × (left ≡ [])) (λ x. hits ≡ hit_of x ∷ left) → (first : Hit) × (first.line ≡ line) × (hits ≡ first ∷ left)
left_by_next [] left line given here step = absurd (cc)
left_by_next (head ∷ hits) left line None here step = let no_hits : head ∷ hits ≡ [] = step.0 in absurd (cc)
left_by_next (head ∷ hits) left line (Some x) here step =
    let split : head ∷ hits ≡ hit_of x ∷ left = step in
    let same : hits ≡ left = cc in
    (head, grind (arith, nat_tests), ap (λ hs. head ∷ hs) same)

pub passed : (most : ℕ) (hits : List Hit) (line far : ℕ) (ahead left : List Hit) → (first : Hit) × (first.line ≡ line) × (ahead ≡ first ∷ left)
    → Leads most hits line far ahead → Leads most hits (line + 1) (line + most + 1) left
passed most hits line far ahead left (first, here, split) leads =
    leads_past most hits line far first left here (subst (λ a. Leads most hits line far a) split leads)

-- Before the line with this number, with which `rest` begins: the rows so far.
abbrev pub Walk : Bool → ℕ → List Hit → List ℕ → List ℕ → List ℕ → List ℕ → ℕ → ℕ → ℕ → List ℕ → Type 0
Walk zeroed most hits name body old now count line next rest =
    RowsSoFar zeroed old now count (rows_from hits next (near_lines most hits (numbered name line (lines_of rest)))) (stretches most hits name body)

pub walk_begin : (zeroed : Bool) (most : ℕ) (hits : List Hit) (name body old rest : List ℕ) → rest ≡ body
    → Walk zeroed most hits name body old old 0 1 0 rest
walk_begin zeroed most hits name body old rest same =
    subst (λ t. RowsSoFar zeroed old old 0 (rows_from hits 0 (near_lines most hits (numbered name 1 (lines_of t)))) (stretches most hits name body))
    (sym same) (rows_begin zeroed old (stretches most hits name body))

module _ (zeroed : Bool) (most : ℕ) (hits : List Hit) (name body old now : List ℕ) (count line next far : ℕ) (ahead : List Hit) (rest : List ℕ)
    (walk : Walk zeroed most hits name body old now count line next rest) where
  abbrev pub HasRows : Type 0
  HasRows = (rows : List Row) × (rows ≡ stretches most hits name body) × (count ≡ length rows) × (now ≡ old ++ text_of_rows zeroed rows)

  ends : near_lines most hits (numbered name line (lines_of rest)) ≡ [] → HasRows
  unfolding rows_from
  ends none =
      rows_end zeroed old now count (rows_from hits next (near_lines most hits (numbered name line (lines_of rest)))) (stretches most hits name body)
      (ap (λ ls. rows_from hits next ls) none) walk

  pub walk_end : length rest ≡ 0 → HasRows
  unfolding lines_of numbered
  walk_end none = ends (empty rest none)
    where
      empty : (text : List ℕ) → length text ≡ 0 → near_lines most hits (numbered name line (lines_of text)) ≡ []
      empty [] e = refl
      empty (b ∷ text) e = absurd (omega arith)

  module _ (leads : Leads most hits line far ahead) where
    pub walk_none : ahead ≡ [] → is_close most far ahead line ≡ false → HasRows
    walk_none none away =
        let left : Leads most hits line far [] = subst (λ a. Leads most hits line far a) none leads in
        let past : (nat_lt line far || false) ≡ false = subst (λ a. is_close most far a line ≡ false) none away in
        let behind : far ≤ line = grind (arith, nat_tests) in
        ends (none_left most hits line far left behind name line (lines_of rest) (omega arith))

    module _ (text others : List ℕ) (split : lines_of rest ≡ text ∷ lines_of others) where
      same_rows : rows_from hits next (near_lines most hits (numbered name line (lines_of rest)))
          ≡ rows_from hits next (near_lines most hits (numbered name line (text ∷ lines_of others)))
      same_rows = ap (λ ls. rows_from hits next (near_lines most hits (numbered name line ls))) split

      pub walk_far : is_close most far ahead line ≡ false → Walk zeroed most hits name body old now count (line + 1) next others
      walk_far away =
          subst (λ rs. RowsSoFar zeroed old now count rs (stretches most hits name body))
          (same_rows ∙ far_line most hits next name line text (lines_of others) (near_here most hits line far ahead leads ∙ away)) walk

      pub walk_near : (n : ℕ) (new : List ℕ) → is_close most far ahead line ≡ true → n ≡ length (rows_of_line next ahead (found name line text))
          → new ≡ now ++ text_of_rows zeroed (rows_of_line next ahead (found name line text))
          → Walk zeroed most hits name body old new (count + n) (line + 1) (line + 1) others
      walk_near n new close many grown =
          rows_more zeroed old now new count (rows_from hits next (near_lines most hits (numbered name line (lines_of rest))))
          (stretches most hits name body) n
          (rows_from hits (line + 1) (near_lines most hits (numbered name (line + 1) (lines_of others))))
          (rows_of_line next ahead (found name line text))
          (same_rows
          ∙ near_line most hits next name line text (lines_of others) ahead (near_here most hits line far ahead leads ∙ close)
          (hit_here most hits line far ahead leads)) many grown walk
