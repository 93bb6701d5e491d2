-- Names and contents as they lie in chunks.
use Rattle.std.specs.Prelude.{◌≡◌, ℕ, ◌+◌, ◌-◌, ◌<◌, ◌≤◌, Bool, true, false, not, ◌||◌, List, [], ◌∷◌, ◌++◌, map, length, take, drop, get_or, filter}
use Rattle.std.specs.List.{sum_by}
use Rattle.std.specs.Ordering.{nat_cmp, is_lt, is_le}
use Rattle.std.specs.Cmp.Lexicographic.{slice_cmp}
use Rattle.std.specs.FinMap.{is_sorted}
use Rattle.prefixes.specs.Under.{begins_with}
use Rattle.names.specs.declared.content.Content.{Content}
use Rattle.names.specs.declared.edge.Edge.{Edge}
use Rattle.names.specs.declared.edge.Edge.TheVariants.{Before, After, AfterUnder}
use Rattle.names.specs.Contents.{entry_bytes}

-- ---- texts one after the other

-- the parts of the text that end at these places, from a place on
abbrev pub parts_from : List ℕ → ℕ → List ℕ → List (List ℕ)
parts_from text from [] = []
parts_from text from (end ∷ ends) = take (end - from) (drop from text) ∷ parts_from text end ends

-- The places rise from one to another, which is the last of them.
abbrev pub RiseTo : ℕ → ℕ → List ℕ → Type 0
RiseTo last from [] = from ≡ last
RiseTo last from (end ∷ ends) = (from ≤ end) × RiseTo last end ends

-- ---- entries

abbrev pub Entry : Type 0
Entry = List ℕ × Content

-- each name with its content
abbrev pub pairs : List (List ℕ) → List Content → List Entry
pairs [] contents = []
pairs (name ∷ names) [] = []
pairs (name ∷ names) (content ∷ contents) = (name, content) ∷ pairs names contents

abbrev pub with_prefix : List ℕ → List (List ℕ) → List (List ℕ)
with_prefix prefix names = map (λ name. prefix ++ name) names

abbrev pub entries_bytes : List Entry → ℕ
entries_bytes es = sum_by entry_bytes es

-- There are as many names as contents, and so many bytes.
pub record AreEntries (names : List (List ℕ)) (contents : List Content) (bytes : ℕ) : Type 0 where
  pub same : length names ≡ length contents
  pub bytes_are : bytes ≡ entries_bytes (pairs names contents)

-- There are some.
pub record IsChunk (names : List (List ℕ)) (contents : List Content) (bytes : ℕ) : Type 0 where
  pub entries : AreEntries names contents bytes
  pub some : 0 < length names

-- Each number lies from the first one on up to the second one.
abbrev pub LieWithin : ℕ → ℕ → List Content → Type 0
LieWithin oldest newest [] = Unit {0}
LieWithin oldest newest (c ∷ cs) = (oldest ≤ c.number) × (c.number ≤ newest) × LieWithin oldest newest cs

-- The names and contents are a chunk, whose numbers lie from the first one on up to the second one.
pub record IsBody (names : List (List ℕ)) (contents : List Content) (bytes oldest newest : ℕ) : Type 0 where
  pub chunk : IsChunk names contents bytes
  pub numbers : LieWithin oldest newest contents

-- the entry with this text in place of so many first bytes of its name
abbrev pub begun : ℕ → List ℕ → Entry → Entry
begun count beginning e = (beginning ++ drop count e.0, e.1)

-- the entries from one place on and before another one, begun so
abbrev pub begun_within : ℕ → ℕ → ℕ → List ℕ → List Entry → List Entry
begun_within from to count beginning es = map (begun count beginning) (drop from (take to es))

-- the entries of all chunks
abbrev pub joined : List (List Entry) → List Entry
joined [] = []
joined (chunk ∷ chunks) = chunk ++ joined chunks

-- the entries from one of a chunk on
abbrev pub rest_of : List (List Entry) → ℕ → ℕ → List Entry
rest_of chunks chunk at = drop at (get_or chunks chunk []) ++ joined (drop (chunk + 1) chunks)

-- The names rise, and the place is that of an entry, or behind all chunks.
pub record IsRest (chunks : List (List Entry)) (chunk at : ℕ) : Type 0 where
  pub rise : is_sorted (slice_cmp nat_cmp) (joined chunks) ≡ true
  pub inside : chunk < length chunks → at < length (get_or chunks chunk [])

-- ---- edges

-- whether a name lies before the edge at a text
abbrev pub is_before : Edge → List ℕ → List ℕ → Bool
is_before Before text name = is_lt (slice_cmp nat_cmp name text)
is_before After text name = is_le (slice_cmp nat_cmp name text)
is_before AfterUnder text name = is_lt (slice_cmp nat_cmp name text) || begins_with text name

abbrev pub passes : Edge → List ℕ → Entry → Bool
passes edge text e = is_before edge text e.0

abbrev pub lies_behind : Edge → List ℕ → Entry → Bool
lies_behind edge text e = not (is_before edge text e.0)

abbrev pub AllPass : (Entry → Bool) → List Entry → Type 0
AllPass p [] = Unit {0}
AllPass p (e ∷ es) = (p e ≡ true) × AllPass p es

abbrev pub NonePass : (Entry → Bool) → List Entry → Type 0
NonePass p [] = Unit {0}
NonePass p (e ∷ es) = (p e ≡ false) × NonePass p es

-- Once an entry does not pass, no later one does.
abbrev pub Falls : (Entry → Bool) → List Entry → Type 0
Falls p [] = Unit {0}
Falls p (e ∷ es) = (p e ≡ false → NonePass p es) × Falls p es

-- The entries before the place pass, and no other does.
pub record CutsAt (p : Entry → Bool) (es : List Entry) (at : ℕ) : Type 0 where
  pub inside : at ≤ length es
  pub before : AllPass p (take at es)
  pub behind : NonePass p (drop at es)

-- whether the last of the entries passes
pub record IsLastPass (p : Entry → Bool) (es : List Entry) (answer : Bool) : Type 0 where
  pub others : List Entry
  pub last : Entry
  pub whole : es ≡ others ++ last ∷ []
  pub passed : answer ≡ p last

-- All entries of the chunks before this one pass, its last one does not, and none of a later one.
pub record OpensAt (p : Entry → Bool) (chunks : List (List Entry)) (at : ℕ) : Type 0 where
  pub inside : at ≤ length chunks
  pub before : AllPass p (joined (take at chunks))
  pub behind : NonePass p (joined (drop (at + 1) chunks))
  pub open_chunk : (d : List Entry) → at < length chunks → IsLastPass p (get_or chunks at d) false

-- The names rise, and the first one is this.
pub record HasFirst (name : List ℕ) (es : List Entry) : Type 0 where
  pub content : Content
  pub others : List Entry
  pub whole : es ≡ (name, content) ∷ others
  pub rise : is_sorted (slice_cmp nat_cmp) es ≡ true

-- All entries of the second list lie behind each of the first.
abbrev pub AllBehind : List Entry → List Entry → Type 0
AllBehind [] others = Unit {0}
AllBehind (e ∷ es) others = NonePass (passes After e.0) others × AllBehind es others

-- The others lie behind the entries from one place on and before another one, apart from the first of these.
pub record IsRun (es others : List Entry) (at to : ℕ) : Type 0 where
  pub order : at < to
  pub inside : to ≤ length es
  pub apart : AllBehind (drop (at + 1) (take to es)) others

-- The entries, and those of the others that have none of their names, in order.
abbrev pub laid_over : List Entry → List Entry → List Entry
laid_over [] others = others
laid_over (e ∷ es) others = filter (passes Before e.0) others ++ e ∷ laid_over es (filter (lies_behind After e.0) others)

-- ---- a version

-- The names rise, and the counts are those of the entries.
pub record IsVersion (chunks : List (List Entry)) (count bytes : ℕ) : Type 0 where
  pub rise : is_sorted (slice_cmp nat_cmp) (joined chunks) ≡ true
  pub count_is : count ≡ length (joined chunks)
  pub bytes_are : bytes ≡ entries_bytes (joined chunks)
