-- Names of one content that go over to another one with the same body.
use Rattle.std.specs.Prelude.{◌≡◌, ℕ, ◌==◌, false, List, Some, All}
use Rattle.std.specs.Ordering.{nat_cmp}
use Rattle.std.specs.Cmp.Lexicographic.{slice_cmp}
use Rattle.std.specs.BTreeMap.{BTreeMap, get}
use Rattle.index.specs.declared.copying.Copied.{Copied}
use Rattle.index.specs.Private.Numbered.{Document}
use Rattle.index.specs.Private.Contents.{body_at}

-- It goes over from the content that it has.
pub record IsMove (from to : ℕ) (numbers : BTreeMap (List ℕ) ℕ) (c : Copied) : Type 0 where
  pub number : c.number ≡ to
  pub was : c.old ≡ Some from
  pub here : get (slice_cmp nat_cmp) numbers c.name ≡ Some from

-- All of them do, and no body is another one then.
pub record AreMoves (from to : ℕ) (numbers : BTreeMap (List ℕ) ℕ) (contents : List Document) (cs : List Copied) : Type 0 where
  pub differ : (from == to) ≡ false
  pub same : body_at contents from ≡ body_at contents to
  pub each : All (IsMove from to numbers) cs
