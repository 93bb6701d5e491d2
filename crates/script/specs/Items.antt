-- The items of a script (this program's own language). An item is a line, up to a line feed or the
-- script's end; a `put` has a body after its line.
use Rattle.std.specs.Prelude.{◌≡◌, ◌≢◌, ℕ, ◌+◌, ◌<◌, ◌==◌, if◌then◌else◌, List, [], ◌∷◌, ◌++◌, length, count_by, Option, Some, None, Bool}
use Rattle.std.specs.Prelude.{true, false, IsTrue, IsFalse, codes, nat_lt, ◌^◌}
use Rattle.std.specs.List.{AllByRecursion, list_all}
use Rattle.std.specs.Str.{bytes_eq}
use Rattle.ere.specs.declared.case.Case.{Case}
use Rattle.ere.specs.declared.case.Case.TheVariants.{Exact, Ignore}
use Rattle.ere.specs.Classes.{is_digit}
use Rattle.ere.specs.Tokens.{decimal_value}
use Rattle.script.specs.Fields.{fields_of, IsPutHeader}

-- what a line of a script asks for; a put has a body after its line
pub data Item : Type 0 where
  put : (name body : List ℕ) → Item
  load : (name path : List ℕ) → Item
  remove : (name : List ℕ) → Item
  remove_under : (prefix : List ℕ) → Item
  copy_under : (from to : List ℕ) → Item
  publish : Item
  search : (case : Case) (pattern : List ℕ) → Item
  search_in : (case : Case) (name_pattern pattern : List ℕ) → Item
  -- everything after `find `, whatever it asks for; nothing if the line is `find` alone
  find : (request : List ℕ) → Item
  sync : Item
  -- a search's number is 1 to 2^32 - 1, so 0 is that of no search
  cancel : (search : ℕ) → Item
  status : Item
  -- any other line
  bad_line : Item
  -- The faults that end the reading: a put's line without a name and a size; a put cut short by the script's end;
  -- a put with a byte other than a line feed after its bytes.
  bad_put : Item
  truncated : Item
  body_not_closed : Item

-- An item and the number of its line: one more than the number of line feeds before it.
pub record Numbered : Type 0 where
  pub line : ℕ
  pub item : Item

-- an item with the number of its line
abbrev pub numbered : ℕ → Item → Numbered
numbered line item = record { line = line; item = item }

-- an empty line, or a comment
abbrev pub is_blank : List ℕ → Bool
is_blank [] = true
is_blank (b ∷ line) = b == 35

-- whether the text is this keyword
abbrev pub is_keyword : List ℕ → List ℕ → Bool
is_keyword keyword text = bytes_eq keyword text

-- a line `put`, or one that begins with `put `
abbrev pub is_put : List ℕ → Bool
is_put line = is_keyword (fields_of line).first (codes "put")

-- a name up to the next space, and the rest, which isn't empty
abbrev pub load_of : List ℕ → Option (List ℕ) → Item
load_of name None = bad_line
load_of name (Some []) = bad_line
load_of name (Some (b ∷ path)) = load name (b ∷ path)

-- a text up to the next space, and the rest
abbrev pub copy_under_of : List ℕ → Option (List ℕ) → Item
copy_under_of from None = bad_line
copy_under_of from (Some to) = copy_under from to

-- a name pattern up to the next space, and the rest
abbrev pub search_in_of : Case → List ℕ → Option (List ℕ) → Item
search_in_of case name_pattern None = bad_line
search_in_of case name_pattern (Some pattern) = search_in case name_pattern pattern

-- one or more decimal digits
abbrev pub is_number : List ℕ → Bool
is_number [] = false
is_number (b ∷ digits) = list_all is_digit (b ∷ digits)

-- the number that the digits spell if it is below 2^32, and otherwise 0, which is no search's number
abbrev pub cancelled_number : List ℕ → ℕ
cancelled_number digits = if nat_lt (decimal_value digits) (2 ^ 32) then decimal_value digits else 0

-- the number of a search, and nothing else
abbrev pub cancel_of : List ℕ → Item
cancel_of digits = if is_number digits then cancel (cancelled_number digits) else bad_line

-- the item of a line that is a keyword alone
abbrev pub item_of_keyword : List ℕ → Item
item_of_keyword keyword =
    if is_keyword keyword (codes "publish") then publish
    else (if is_keyword keyword (codes "sync") then sync
    else (if is_keyword keyword (codes "status") then status
    else (if is_keyword keyword (codes "search") then search Exact []
    else (if is_keyword keyword (codes "isearch") then search Ignore []
    else (if is_keyword keyword (codes "find") then find []
    else bad_line)))))

-- the item of a line with a keyword, a space and more after it
abbrev pub item_of_keyword_and_others : List ℕ → List ℕ → Item
item_of_keyword_and_others keyword others =
    if is_keyword keyword (codes "search") then search Exact others
    else (if is_keyword keyword (codes "isearch") then search Ignore others
    else (if is_keyword keyword (codes "searchin") then search_in_of Exact (fields_of others).first (fields_of others).others
    else (if is_keyword keyword (codes "isearchin") then search_in_of Ignore (fields_of others).first (fields_of others).others
    else (if is_keyword keyword (codes "find") then find others
    else (if is_keyword keyword (codes "remove") then remove others
    else (if is_keyword keyword (codes "removeunder") then remove_under others
    else (if is_keyword keyword (codes "copyunder") then copy_under_of (fields_of others).first (fields_of others).others
    else (if is_keyword keyword (codes "load") then load_of (fields_of others).first (fields_of others).others
    else (if is_keyword keyword (codes "cancel") then cancel_of others
    else bad_line)))))))))

-- the item of a line with this keyword, and with what follows the space after it
abbrev pub item_of : List ℕ → Option (List ℕ) → Item
item_of keyword None = item_of_keyword keyword
item_of keyword (Some others) = item_of_keyword_and_others keyword others

-- the item of a line that is neither blank nor a put
abbrev pub item_of_line : List ℕ → Item
item_of_line line = item_of (fields_of line).first (fields_of line).others

-- The text has no line feed.
abbrev pub IsLine : List ℕ → Type 0
IsLine line = AllByRecursion (λ b. b ≢ 10) line

-- how many line feeds are in the text
abbrev pub line_feeds : List ℕ → ℕ
line_feeds text = count_by (λ b. b == 10) text

-- A text begins with a line: up to its first line feed, or all of a text that has none and isn't empty.
pub data BeginsWithLine (text line rest : List ℕ) : Type 0 where
  ended : text ≡ line ++ 10 ∷ rest → IsLine line → BeginsWithLine text line rest
  last : text ≡ line → IsLine line → line ≢ [] → rest ≡ [] → BeginsWithLine text line rest

-- The line of a put of this name, for a body of this many bytes.
abbrev pub IsPutLine : List ℕ → List ℕ → ℕ → Type 0
IsPutLine line name size = IsLine line × (fields : List ℕ) × (line ≡ codes "put " ++ fields) × IsPutHeader fields name size

-- The items of a text whose first line has this number.
pub data ItemsFrom : ℕ → List ℕ → List Numbered → Type 0 where
  done : {n : ℕ} → ItemsFrom n [] []
  blank_line : {n : ℕ} {text : List ℕ} {items : List Numbered} (line rest : List ℕ) → BeginsWithLine text line rest → IsTrue (is_blank line)
      → ItemsFrom (n + 1) rest items → ItemsFrom n text items
  other_line : {n : ℕ} {text : List ℕ} {items : List Numbered} (line rest : List ℕ) → BeginsWithLine text line rest
      → IsFalse (is_blank line) → IsFalse (is_put line) → ItemsFrom (n + 1) rest items
      → ItemsFrom n text (numbered n (item_of_line line) ∷ items)
  -- a put with a line feed after its body, and one whose body ends the script
  closed_put : {n : ℕ} {text name body : List ℕ} {items : List Numbered} (line rest : List ℕ) → text ≡ line ++ 10 ∷ (body ++ 10 ∷ rest)
      → IsPutLine line name (length body) → ItemsFrom (n + 2 + line_feeds body) rest items
      → ItemsFrom n text (numbered n (put name body) ∷ items)
  last_put : {n : ℕ} {text name body : List ℕ} (line : List ℕ) → text ≡ line ++ 10 ∷ body → IsPutLine line name (length body)
      → ItemsFrom n text (numbered n (put name body) ∷ [])
  bad_put_line : {n : ℕ} {text : List ℕ} (line rest : List ℕ) → BeginsWithLine text line rest → IsTrue (is_put line)
      → ((name : List ℕ) (size : ℕ) → IsPutLine line name size → ⊥) → ItemsFrom n text (numbered n bad_put ∷ [])
  -- the script ends with the put's line, or within its body
  missing_body : {n : ℕ} {line : List ℕ} (name : List ℕ) (size : ℕ) → IsPutLine line name size → ItemsFrom n line (numbered n truncated ∷ [])
  short_body : {n : ℕ} {text : List ℕ} (line name left : List ℕ) (size : ℕ) → text ≡ line ++ 10 ∷ left → IsPutLine line name size
      → length left < size → ItemsFrom n text (numbered n truncated ∷ [])
  open_body : {n : ℕ} {text : List ℕ} (line name body rest : List ℕ) (b : ℕ) → text ≡ line ++ 10 ∷ (body ++ b ∷ rest)
      → IsPutLine line name (length body) → b ≢ 10 → ItemsFrom n text (numbered n body_not_closed ∷ [])

-- The script has these items.
abbrev pub IsItemsOf : List ℕ → List Numbered → Type 0
IsItemsOf script items = ItemsFrom 1 script items
