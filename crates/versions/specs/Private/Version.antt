-- What an index is made of: contents under names, and segments.
use Rattle.std.specs.Prelude.{◌≡◌, ℕ, ◌<◌, ◌≤◌, ◌^◌, List, All, Contains, Some, map}
use Rattle.std.specs.declared.sync.Arc.{Arc}
use Rattle.std.specs.declared.alloc.Global.{Global}
use Rattle.std.specs.Arc.{arc_value}
use Rattle.std.specs.List.{flat_map}
use Rattle.std.specs.FinMap.{entries, from_sorted, get, len}
use Rattle.query.specs.Trigrams.{trigrams_of_body}
use Rattle.documents.specs.Documents.{Documents}
use Rattle.documents.specs.Text.{IsName, IsBody}
use Rattle.names.specs.Contents.{Contents}
use Rattle.names.specs.declared.content.Content.{Content}
use Rattle.segments.specs.Contents.{Content as Trigrams, has, AllDiffer}

-- a name and its content
abbrev pub Entry : Type 0
Entry = List ℕ × Content

-- the entry with the body alone
abbrev pub plain : Entry → List ℕ × List ℕ
plain e = (e.0, e.1.held)

-- the body under each name
abbrev pub bodies_of : Contents → Documents
bodies_of contents = from_sorted (map plain (entries contents))

-- what all segments say, one after the other
abbrev pub said : List (Arc (List Trigrams) Global) → List Trigrams
said segments = flat_map arc_value segments

-- A segment has the content's number, with the trigrams of its body.
pub record IsSaid (all : List Trigrams) (content : Content) : Type 0 where
  pub trigrams : Trigrams
  pub there : Contains all trigrams
  pub number_is : trigrams.number ≡ content.number
  pub same : (t : ℕ) → has trigrams.trigrams t ≡ trigrams_of_body content.held t

-- The content has the number of an earlier command, and if that is an old one, a segment says it.
pub record IsEntry (version analysed : ℕ) (all : List Trigrams) (name : List ℕ) (content : Content) : Type 0 where
  pub name_is : IsName name
  pub body_is : IsBody content.held
  pub before : content.number < version
  pub is_said : content.number < analysed → IsSaid all content

-- Each name's content is an entry, a number tells the body, and the segments have no number twice, and no new one.
pub record IsVersion (version analysed : ℕ) (contents : Contents) (all : List Trigrams) : Type 0 where
  pub named : (name : List ℕ) (content : Content) → get contents name ≡ Some content → IsEntry version analysed all name content
  pub same : (name other : List ℕ) (c d : Content) → get contents name ≡ Some c → get contents other ≡ Some d → c.number ≡ d.number → c.held ≡ d.held
  pub differ : AllDiffer all
  pub below : All (λ c. c.number < analysed) all
  pub order : analysed ≤ version

-- The same, with no more documents than a number of 32 bits can say.
pub record IsDraft (version analysed : ℕ) (contents : Contents) (all : List Trigrams) : Type 0 where
  pub is : IsVersion version analysed contents all
  pub few : len contents < 2 ^ 32
