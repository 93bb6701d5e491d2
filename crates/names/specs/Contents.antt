-- A map from names to contents, as a value.
use Rattle.std.specs.Prelude.{ℕ, Bool, ◌==◌, ◌&&◌, nat_le, nat_lt, List, ◌++◌, map, filter, length, take, refl}
use Rattle.std.specs.Borrow.{Bor}
use Rattle.std.specs.List.{fold, list_any, sum_by}
use Rattle.std.specs.Coded.{Coded, code_by, coded×, coded_ℕ, coded_list}
use Rattle.std.specs.FinMap.{FinMap, entries, insert, keys, values, code}
use Rattle.std.specs.Ordering.{nat_cmp}
use Rattle.std.specs.Cmp.Lexicographic.{slice_cmp}
use Rattle.prefixes.specs.Under.{begins_with, is_under_one}
use Rattle.documents.specs.Documents.{renamed}
use Rattle.names.specs.declared.content.Content.{Content}
use Rattle.names.specs.declared.content.Named.{Named}
use Rattle.names.specs.declared.puts.Put.{Put}

-- the content under each name that has one
abbrev pub Contents : Type 0
Contents = FinMap (slice_cmp nat_cmp) Content

-- a content is stored as the pair of its fields
abbrev pub content_code : Coded Content
content_code = code_by (ℕ × List ℕ) (coded× coded_ℕ (coded_list coded_ℕ)) (λ c. (c.number, c.held)) (λ p. record { number = p.0; held = p.1 }) (λ _. refl)

-- and a map as its entries
abbrev pub contents_code : Coded Contents
contents_code = code (coded_list coded_ℕ) content_code

-- the length of the body of an entry, in bytes
abbrev pub entry_bytes : (List ℕ × Content) → ℕ
entry_bytes e = length e.1.held

-- the total length of the bodies, in bytes
abbrev pub body_bytes : Contents → ℕ
body_bytes contents = sum_by entry_bytes (entries contents)

-- the contents of the names that begin with `from`, under the names with `to` in its place
abbrev pub copies : List ℕ → List ℕ → Contents → List (List ℕ × Content)
copies from to contents = map (λ e. (renamed from to e.0, e.1)) (filter (λ e. begins_with from e.0) (entries contents))

-- whether the name has more than `most` bytes with the text `to` in place of the text `from`, with which it begins
abbrev pub is_long_copy : ℕ → List ℕ → List ℕ → List ℕ → Bool
is_long_copy most from to name = nat_lt most (length (renamed from to name))

-- whether the name of a copy would have more than `most` bytes
abbrev pub has_long_copy : ℕ → List ℕ → List ℕ → Contents → Bool
has_long_copy most from to contents = list_any (λ name. begins_with from name && is_long_copy most from to name) (keys contents)

-- the entry of a name as it lies in a map
abbrev pub entry_of : Named → List ℕ × Content
entry_of named = (named.beginning.now ++ named.rest.now, named.content.now)

-- the entries of names as they lie in a map
abbrev pub entries_of : List Named → List (List ℕ × Content)
entries_of named = map entry_of named

-- the contents, as they are given out
abbrev pub contents_of : List (Bor Content) → List Content
contents_of found = map (λ c. c.now) found

-- whether the content's number is at least this
abbrev pub is_since : ℕ → Content → Bool
is_since number content = nat_le number content.number

-- the contents whose numbers are at least this, in the order of their names
abbrev pub since : ℕ → Contents → List Content
since number contents = filter (is_since number) (values contents)

-- whether the number is one of these
abbrev pub is_one_of : List ℕ → ℕ → Bool
is_one_of numbers n = list_any (λ m. m == n) numbers

-- whether the number of the entry's content is one of these
abbrev pub has_one_of : List ℕ → (List ℕ × Content) → Bool
has_one_of numbers e = is_one_of numbers e.1.number

-- the entries whose contents have one of these numbers, in the order of their names
abbrev pub chosen : List ℕ → Contents → List (List ℕ × Content)
chosen numbers contents = filter (has_one_of numbers) (entries contents)

-- whether the entry's name begins with one of these texts
abbrev pub is_under : List (List ℕ) → (List ℕ × Content) → Bool
is_under texts e = is_under_one texts e.0

-- the first of the entries whose names begin with one of these texts: all, or so many
abbrev pub first_under : ℕ → List (List ℕ) → List (List ℕ × Content) → List (List ℕ × Content)
first_under most texts es = take most (filter (is_under texts) es)

-- what a put's name is to stand for
abbrev pub content_put : Put → Content
content_put put = record { number = put.number; held = put.held.now }

-- the entry that a put makes
abbrev pub entry_put : Put → List ℕ × Content
entry_put put = (put.name.now, content_put put)

-- the contents after these puts, one after the other
abbrev pub with_all : List Put → Contents → Contents
with_all puts contents = fold (λ cs put. insert cs put.name.now (content_put put)) contents puts
