-- Names that get other contents together: first all are entered under their new numbers, then all leave the contents that they had.
use Rattle.std.specs.Prelude.{◌≡◌, ℕ, ◌+◌, ◌≤◌, ◌==◌, ◌&&◌, ◌||◌, not, Bool, true, false, cond, List, Option, Some, None, IsSome, map, filter, fold, length, bytes_eq}
use Rattle.std.specs.List.{list_any}
use Rattle.std.specs.Ordering.{nat_cmp}
use Rattle.std.specs.Cmp.Lexicographic.{slice_cmp}
use Rattle.std.specs.BTreeMap.{BTreeMap, IsOrdered, btree_map_len, get}
use Rattle.prefixes.specs.Under.{begins_with}
use Rattle.index.specs.declared.copying.Copied.{Copied}
use Rattle.index.specs.declared.copying.Leaves.{Leaves}
use Rattle.index.specs.declared.copying.Leaves.TheVariants.{Old, New}
use Rattle.documents.specs.Text.{IsName}
use Rattle.documents.specs.Documents.{renamed}
use Rattle.index.specs.Private.Numbered.{Document}
use Rattle.index.specs.Private.Contents.{Groups, AreContents, AreGroupsOf, body_at, has_name, is_number}

-- the name with `to` in place of `from`, for the content of this name
abbrev pub copied : List ℕ → List ℕ → BTreeMap (List ℕ) ℕ → List ℕ × ℕ → Copied
copied from to numbers e =
    record { name = renamed from to e.0; number = e.1; old = get (slice_cmp nat_cmp) numbers (renamed from to e.0) }

-- whether the name has another content so far, or none
abbrev pub is_new : Copied → Bool
is_new c = not (is_number c.number c.old)

-- those of these entries
abbrev pub copies_in : List ℕ → List ℕ → BTreeMap (List ℕ) ℕ → List (List ℕ × ℕ) → List Copied
copies_in from to numbers entries = filter is_new (map (copied from to numbers) (filter (λ e. begins_with from e.0) entries))

-- one of those: the name begins with `to`, and the content is that of the same name with `from` in its place
pub record IsCopy (from to : List ℕ) (numbers : BTreeMap (List ℕ) ℕ) (c : Copied) : Type 0 where
  pub begins : begins_with to c.name ≡ true
  pub source : get (slice_cmp nat_cmp) numbers (renamed to from c.name) ≡ Some c.number
  pub was : c.old ≡ get (slice_cmp nat_cmp) numbers c.name
  pub other : is_number c.number (get (slice_cmp nat_cmp) numbers c.name) ≡ false

-- No name begins with both.
abbrev pub AreApart : List ℕ → List ℕ → Type 0
AreApart from to = (q : List ℕ) → begins_with from q ≡ true → begins_with to q ≡ true → ⊥

-- whether it is the name of one of these
abbrev pub is_among : List ℕ → List Copied → Bool
is_among q cs = list_any (λ c. bytes_eq c.name q) cs

-- the number under a name, once these are entered
abbrev pub entered : List Copied → List ℕ → Option ℕ → Option ℕ
entered cs q found = fold (λ o c. cond (bytes_eq c.name q) (Some c.number) o) found cs

-- whether the name joins the content with this number
abbrev pub joins : List Copied → ℕ → List ℕ → Bool
joins cs m q = list_any (λ c. c.number == m && bytes_eq c.name q) cs

-- A name without a number is no name of a content.
abbrev pub IsFree : BTreeMap (List ℕ) ℕ → Groups → List Document → Type 0
IsFree numbers groups contents =
    (m : ℕ) (q : List ℕ) → get (slice_cmp nat_cmp) numbers q ≡ None → has_name groups contents m q ≡ false

-- The names have their new numbers, and the contents these names beside those that they had.
pub record IsEntered (cs : List Copied) (contents : List Document) (numbers : BTreeMap (List ℕ) ℕ) (groups : Groups) (numbers' : BTreeMap (List ℕ) ℕ)
    (groups' : Groups) : Type 0 where
  pub numbers_are : (q : List ℕ) → get (slice_cmp nat_cmp) numbers' q ≡ entered cs q (get (slice_cmp nat_cmp) numbers q)
  pub ordered : IsOrdered (slice_cmp nat_cmp) numbers → IsOrdered (slice_cmp nat_cmp) numbers'
  pub len : btree_map_len numbers' ≤ btree_map_len numbers + length cs
  pub good : ((q : List ℕ) → IsSome (get (slice_cmp nat_cmp) numbers q) → IsName q) → (q : List ℕ) → IsSome (get (slice_cmp nat_cmp) numbers' q) → IsName q
  pub names : (m : ℕ) (q : List ℕ) → has_name groups' contents m q ≡ (has_name groups contents m q || joins cs m q)
  pub groups_of : AreGroupsOf contents groups → AreGroupsOf contents groups'

-- the number that a name had, if it has one now
abbrev pub number_again : Option ℕ → Option ℕ → Option ℕ
number_again old None = None
number_again old (Some n) = old

-- the number under a name, once these have the numbers again that they had
abbrev pub restored : List Copied → List ℕ → Option ℕ → Option ℕ
restored cs q found = fold (λ o c. cond (bytes_eq c.name q) (number_again c.old o) o) found cs

-- the number of the content that the name leaves
abbrev pub left_by : Leaves → Copied → Option ℕ
left_by Old c = c.old
left_by New c = Some c.number

-- whether the name leaves the content with this number
abbrev pub leaves : Leaves → List Copied → ℕ → List ℕ → Bool
leaves way cs m q = list_any (λ c. is_number m (left_by way c) && bytes_eq c.name q) cs

-- whether the content with this number, if it is one, has the name
abbrev pub is_named : Groups → List Document → Option ℕ → List ℕ → Bool
is_named groups contents None q = false
is_named groups contents (Some n) q = has_name groups contents n q

-- The names left contents, which perhaps have gone. Where a name is left, so is its body.
pub record AreLeft (way : Leaves) (cs : List Copied) (before : List Document) (old : Groups) (after : List Document) (new : Groups) : Type 0 where
  pub names : (m : ℕ) (q : List ℕ) → has_name new after m q ≡ (has_name old before m q && not (leaves way cs m q))
  pub bodies : (m : ℕ) (q : List ℕ) → has_name new after m q ≡ true → body_at after m ≡ body_at before m
  pub groups_of : AreGroupsOf after new
  pub contents : (version : ℕ) → AreContents version before → AreContents version after
