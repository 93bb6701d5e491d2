-- The contents of an index: each is a body that is kept once, with a number, under all names that have it. A content is a
-- numbered document. The name that it is kept with is its only one if it has no entry among the groups of names; otherwise its names
-- are those of the entry.
use Rattle.std.specs.Prelude.{◌≡◌, ℕ, ◌<◌, ◌≤◌, ◌==◌, ◌&&◌, ◌||◌, not, Bool, true, false, List, [], All, Option, Some, None, IfSome, IsSome, map, filter, bytes_eq}
use Rattle.std.specs.Prelude.{length}
use Rattle.std.specs.Ordering.{nat_cmp}
use Rattle.std.specs.Cmp.Lexicographic.{slice_cmp}
use Rattle.std.specs.List.Sorted.{IsStrictlyIncreasing}
use Rattle.std.specs.BTreeMap.{BTreeMap, get}
use Rattle.std.specs.BTreeSet.{BTreeSet, contains, btree_set_len, IsOrdered}
use Rattle.documents.specs.Text.{IsBody}
use Rattle.query.specs.Query.{Formula}
use Rattle.posting.specs.ListValue.{has}
use Rattle.index.specs.Private.Numbered.{Document, document, document_at, number_of, meets}

-- the names of each content that several documents have, or had, by its number
abbrev pub Groups : Type 0
Groups = BTreeMap ℕ (BTreeSet (List ℕ))

-- the body of what has a number, if something has it
abbrev pub body_of : Option (List ℕ × List ℕ) → List ℕ
body_of None = []
body_of (Some d) = d.1

-- the body of the content with a number
abbrev pub body_at : List Document → ℕ → List ℕ
body_at contents number = body_of (document_at number contents)

-- whether the content is kept with this name
abbrev pub is_kept_with : List ℕ → Option (List ℕ × List ℕ) → Bool
is_kept_with name None = false
is_kept_with name (Some d) = bytes_eq d.0 name

-- whether a content with this entry has the name
abbrev pub is_name_in : Option (BTreeSet (List ℕ)) → Option (List ℕ × List ℕ) → List ℕ → Bool
is_name_in None content name = is_kept_with name content
is_name_in (Some names) content name = contains (slice_cmp nat_cmp) names name

-- whether the content with this number has the name
abbrev pub has_name : Groups → List Document → ℕ → List ℕ → Bool
has_name groups contents number name = is_name_in (get nat_cmp groups number) (document_at number contents) name

-- whether it is this number
abbrev pub is_number : ℕ → Option ℕ → Bool
is_number number None = false
is_number number (Some other) = other == number

-- The numbers of the contents rise from 1 to the version, and each body is a body.
pub record AreContents (version : ℕ) (contents : List Document) : Type 0 where
  pub rise : IsStrictlyIncreasing (map (λ d. d.number) contents)
  pub good : All (λ d. (0 < d.number) × (d.number ≤ version) × IsBody d.body) contents

-- Each entry is that of a content, and its names rise.
pub record AreGroupsOf (contents : List Document) (groups : Groups) : Type 0 where
  pub there : (number : ℕ) → IsSome (get nat_cmp groups number) → IsSome (document_at number contents)
  pub ordered : (number : ℕ) → IfSome (get nat_cmp groups number) (IsOrdered (slice_cmp nat_cmp))

-- The name joins those of the content that has this number and is kept with the name `first`.
pub record Joins (number : ℕ) (first name : List ℕ) (old new : Groups) : Type 0 where
  pub others : (m : ℕ) → (number == m) ≡ false → get nat_cmp new m ≡ get nat_cmp old m
  pub there : IsSome (get nat_cmp new number)
  pub names : (body q : List ℕ) → is_name_in (get nat_cmp new number) (Some (first, body)) q
      ≡ (is_name_in (get nat_cmp old number) (Some (first, body)) q || bytes_eq name q)
  pub ordered : IfSome (get nat_cmp new number) (IsOrdered (slice_cmp nat_cmp))

-- The name leaves an entry.
pub record LeavesEntry (number : ℕ) (name : List ℕ) (old new : Groups) : Type 0 where
  pub others : (m : ℕ) → (number == m) ≡ false → get nat_cmp new m ≡ get nat_cmp old m
  pub there : IsSome (get nat_cmp old number)
  pub names : (content : Option (List ℕ × List ℕ)) (q : List ℕ) → is_name_in (get nat_cmp new number) content q
      ≡ (is_name_in (get nat_cmp old number) content q && not (bytes_eq name q))
  pub ordered : IfSome (get nat_cmp new number) (IsOrdered (slice_cmp nat_cmp))

-- The name is the only one of the content with this number, whose entry goes if it has one.
pub record LeavesLast (number : ℕ) (name : List ℕ) (old new : Groups) : Type 0 where
  pub others : (m : ℕ) → (number == m) ≡ false → get nat_cmp new m ≡ get nat_cmp old m
  pub none : get nat_cmp new number ≡ None
  pub only : (content : Option (List ℕ × List ℕ)) (q : List ℕ) → is_name_in (get nat_cmp old number) content name ≡ true
      → is_name_in (get nat_cmp old number) content q ≡ true → bytes_eq name q ≡ true

-- the same names, and this one of this content
abbrev pub with_name : ℕ → List ℕ → (ℕ → List ℕ → Bool) → ℕ → List ℕ → Bool
with_name number name has m q = has m q || (number == m && bytes_eq name q)

-- the same names, but for this one of this content, if there is one
abbrev pub without_name : Option ℕ → List ℕ → (ℕ → List ℕ → Bool) → ℕ → List ℕ → Bool
without_name number name has m q = has m q && not (is_number m number && bytes_eq name q)

-- The contents have these names now, and the entries are still those of contents.
pub record HasNames (has : ℕ → List ℕ → Bool) (contents : List Document) (old new : Groups) : Type 0 where
  pub names : (m : ℕ) (q : List ℕ) → has_name new contents m q ≡ has m q
  pub groups_of : AreGroupsOf contents old → AreGroupsOf contents new

-- The name left the content with this number, if there is one, which perhaps has gone. Where a name is left, so is its body.
pub record IsLeft (number : Option ℕ) (name : List ℕ) (before : List Document) (old : Groups) (after : List Document) (new : Groups) : Type 0 where
  pub names : (m : ℕ) (q : List ℕ) → has_name new after m q ≡ without_name number name (has_name old before) m q
  pub bodies : (m : ℕ) (q : List ℕ) → has_name new after m q ≡ true → body_at after m ≡ body_at before m
  pub groups_of : AreGroupsOf after new
  pub contents : (version : ℕ) → AreContents version before → AreContents version after

-- the documents, where each name has this number
abbrev pub named : BTreeMap (List ℕ) ℕ → List Document → List Document
named numbers contents = map (λ e. document e.1 e.0 (body_at contents e.1)) numbers.entries

-- The document with this name has the content with this number, and no other has it.
pub record IsOwn (name : List ℕ) (number : ℕ) (documents : List Document) : Type 0 where
  pub here : number_of name documents ≡ Some number
  pub only : (q : List ℕ) → number_of q documents ≡ Some number → bytes_eq name q ≡ true

-- The numbers are those of the contents whose trigrams meet the formula, and so many documents have these.
pub record AreChosen (formula : Formula) (documents : List Document) (members : List ℕ) (count : ℕ) : Type 0 where
  pub numbers : All (λ d. has members d.number ≡ meets formula d) documents
  pub count_is : count ≡ length (filter (meets formula) documents)

-- the number of names of a content
abbrev pub count_in : Option (BTreeSet (List ℕ)) → ℕ
count_in None = 1
count_in (Some names) = btree_set_len names

abbrev pub names_count : Groups → ℕ → ℕ
names_count groups number = count_in (get nat_cmp groups number)

-- A content with this entry has one name.
abbrev pub IsAlone : Option (BTreeSet (List ℕ)) → Type 0
IsAlone names = IfSome names (λ set. btree_set_len set ≡ 1)
