-- Each text has items, whatever the number of its first line.
use Rattle.std.proofs.Common.{◌≡◌, ◌≢◌, ℕ, zero, suc, ◌+◌, ◌<◌, ◌≤◌, ◌==◌, ◌⊎◌, inl, inr, Bool, true, false, nat_lt, List, [], ◌∷◌, ◌++◌, length, take, drop}
use Rattle.std.proofs.Common.{Option, Some, None, refl, sym, ap, ◌∙◌, subst, arith, IsTrue, IsFalse, length-append, append-nil, length-take, true≢false, codes}
use Rattle.std.specs.List.{list_all}
use Rattle.std.proofs.lemmas.Bool.Decides.{nat_tests}
use Rattle.std.proofs.lemmas.List.{take-append-drop}
use Rattle.std.proofs.lemmas.List.Sums.{AllPass-from_list_all, list_all-from_AllPass}
use Rattle.std.proofs.lemmas.Slice.Eq.{bytes_eq-Decides}
use Rattle.ere.specs.Classes.{is_digit}
use Rattle.ere.specs.Tokens.{decimal_value}
use Rattle.script.specs.Fields.{fields_of, SpellsSize, IsPutHeader}
use Rattle.script.specs.Items.{Numbered, numbered, ItemsFrom, done, blank_line, other_line, closed_put, last_put, bad_put_line}
use Rattle.script.specs.Items.{missing_body, short_body, open_body, BeginsWithLine, ended, last, IsLine, IsPutLine, is_blank, is_put, item_of_line}
use Rattle.script.specs.Items.{line_feeds, put, bad_put, truncated, body_not_closed}
use Rattle.script.specs.Private.Cuts.{CutsLast, Lacks, shown_fields}
use Rattle.script.proofs.PutLemmas.{no_header_without_space, no_header_without_size, no_put_line, put_line_by_fields}

abbrev pub Items : ℕ → List ℕ → Type 0
Items n text = (items : List Numbered) × ItemsFrom n text items

-- the first line of a text: a line feed closes it, or the end of the text
data FirstLine (text : List ℕ) : Type 0 where
  closed : (line rest : List ℕ) → text ≡ line ++ 10 ∷ rest → IsLine line → FirstLine text
  open_line : IsLine text → FirstLine text

first_line_by : (feed : Bool) (b : ℕ) (text : List ℕ) → (b == 10) ≡ feed → FirstLine text → FirstLine (b ∷ text)
first_line_by true b text is found =
    let same : b ≡ 10 = grind (arith, nat_tests) in
    closed [] text (ap (λ c. c ∷ text) same) tt
first_line_by false b text is (closed line rest whole lacks) =
    let other : b ≢ 10 = λ e. grind (arith, nat_tests) in
    closed (b ∷ line) rest (ap (λ l. b ∷ l) whole) (other, lacks)
first_line_by false b text is (open_line lacks) =
    let other : b ≢ 10 = λ e. grind (arith, nat_tests) in
    open_line (other, lacks)

first_line : (text : List ℕ) → FirstLine text
first_line [] = open_line tt
first_line (b ∷ text) = first_line_by (b == 10) b text refl (first_line text)

-- a text cut at its last space, if it has one
data LastSpace (text : List ℕ) : Type 0 where
  cut : (front back : List ℕ) → CutsLast 32 text front back → LastSpace text
  no_space : Lacks 32 text → LastSpace text

last_space_by : (space : Bool) (b : ℕ) (text : List ℕ) → (b == 32) ≡ space → LastSpace text → LastSpace (b ∷ text)
last_space_by space b text is (cut front back cuts) = cut (b ∷ front) back (record { whole = ap (λ l. b ∷ l) cuts.whole; last = cuts.last })
last_space_by true b text is (no_space lacks) =
    let same : b ≡ 32 = grind (arith, nat_tests) in
    cut [] text (record { whole = ap (λ c. c ∷ text) same; last = lacks })
last_space_by false b text is (no_space lacks) =
    let other : b ≢ 32 = λ e. grind (arith, nat_tests) in
    no_space (other, lacks)

last_space : (text : List ℕ) → LastSpace text
last_space [] = no_space tt
last_space (b ∷ text) = last_space_by (b == 32) b text refl (last_space text)

abbrev Size : List ℕ → Type 0
Size digits = ((size : ℕ) × SpellsSize digits size) ⊎ ((size : ℕ) → SpellsSize digits size → ⊥)

size_by : (digits : List ℕ) (decimal some few : Bool) → list_all is_digit digits ≡ decimal → nat_lt 0 (length digits) ≡ some
    → nat_lt (length digits) 10 ≡ few → Size digits
size_by digits true true true decimal some few =
    inl (
      decimal_value digits,
      record {
        some = grind (arith, nat_tests);
        few = grind (arith, nat_tests);
        decimal = AllPass-from_list_all is_digit digits decimal;
        value = refl;
      },
    )
size_by digits false some few decimal is_some is_few = inr (λ size is. true≢false (sym (list_all-from_AllPass is_digit digits is.decimal) ∙ decimal))
size_by digits true false few decimal is_some is_few = inr (λ size is. let at : 0 < length digits = is.some in absurd (grind (arith, nat_tests)))
size_by digits true true false decimal is_some is_few = inr (λ size is. let at : length digits ≤ 9 = is.few in absurd (grind (arith, nat_tests)))

abbrev Header : List ℕ → Type 0
Header fields = ((name : List ℕ) × (size : ℕ) × IsPutHeader fields name size) ⊎ ((name : List ℕ) (size : ℕ) → IsPutHeader fields name size → ⊥)

header_at : (fields front digits : List ℕ) → CutsLast 32 fields front digits → Size digits → Header fields
header_at fields front digits cuts (inl size) = inl (front, size.0, (digits, cuts.whole, size.1))
header_at fields front digits cuts (inr none) = inr (no_header_without_size fields front digits cuts none)

header_by : (fields : List ℕ) → LastSpace fields → Header fields
header_by fields (cut front digits cuts) = header_at fields front digits cuts (size_by digits (list_all is_digit digits) (nat_lt 0 (length digits)) (nat_lt (length digits) 10) refl refl refl)
header_by fields (no_space lacks) = inr (no_header_without_space fields lacks)

abbrev PutLine : List ℕ → Type 0
PutLine line = ((name : List ℕ) × (size : ℕ) × IsPutLine line name size) ⊎ ((name : List ℕ) (size : ℕ) → IsPutLine line name size → ⊥)

put_line_at : (line fields : List ℕ) → IsLine line → fields_of line ≡ shown_fields (codes "put") (Some fields) → Header fields → PutLine line
put_line_at line fields is split (inl header) = inl (header.0, header.1, put_line_by_fields line fields header.0 header.1 is split header.2)
put_line_at line fields is split (inr none) = inr (no_put_line line (Some fields) split none)

put_line_by : (line : List ℕ) (others : Option (List ℕ)) → IsLine line → fields_of line ≡ shown_fields (codes "put") others → PutLine line
put_line_by line None is split = inr (no_put_line line None split (λ name size header. header))
put_line_by line (Some fields) is split = put_line_at line fields is split (header_by fields (last_space fields))

put_line : (line : List ℕ) → IsLine line → IsTrue (is_put line) → PutLine line
put_line line is is_a_put =
    let keyword : (fields_of line).first ≡ codes "put" = (bytes_eq-Decides (fields_of line).first (codes "put")).0 is_a_put in
    put_line_by line (fields_of line).others is (ap (λ first. shown_fields first (fields_of line).others) keyword)

-- What follows the line and the body of a put.
module _ (n : ℕ) (text : List ℕ) (more : (m : ℕ) (rest : List ℕ) → length rest < length text → Items m rest) where
  module _ (line name : List ℕ) where
    after_body : (body after : List ℕ) → text ≡ line ++ 10 ∷ (body ++ after) → IsPutLine line name (length body) → Items n text
    after_body body [] whole is = (numbered n (put name body) ∷ [], last_put line (whole ∙ ap (λ l. line ++ 10 ∷ l) (append-nil body)) is)
    after_body body (b ∷ rest) whole is = closed_by (b == 10) refl
      where
        long : length text ≡ length line + (1 + (length body + (1 + length rest)))
        long = ap length whole ∙ length-append line (10 ∷ (body ++ b ∷ rest)) ∙ omega (arith, length-append body (b ∷ rest))

        closed_by : (feed : Bool) → (b == 10) ≡ feed → Items n text
        closed_by true feed =
            let same : b ≡ 10 = grind (arith, nat_tests) in
            let items = more (n + 2 + line_feeds body) rest (omega (arith, long)) in
            (numbered n (put name body) ∷ items.0, closed_put line rest (whole ∙ ap (λ c. line ++ 10 ∷ (body ++ c ∷ rest)) same) is items.1)
        closed_by false other =
            let differs : b ≢ 10 = λ e. grind (arith, nat_tests) in
            (numbered n body_not_closed ∷ [], open_body line name body rest b whole is differs)

    after_put : (left : List ℕ) (size : ℕ) → text ≡ line ++ 10 ∷ left → IsPutLine line name size → Items n text
    after_put left size whole is = by_length (nat_lt (length left) size) refl
      where
        by_length : (short : Bool) → nat_lt (length left) size ≡ short → Items n text
        by_length true short =
            let few : length left < size = grind (arith, nat_tests) in
            (numbered n truncated ∷ [], short_body line name left size whole is few)
        by_length false long =
            let enough : size ≤ length left = grind (arith, nat_tests) in
            let all : length (take size left) ≡ size = omega (arith, length-take size left) in
            after_body (take size left) (drop size left) (whole ∙ ap (λ l. line ++ 10 ∷ l) (sym (take-append-drop size left)))
            (subst (IsPutLine line name) (sym all) is)

  plain : (line rest : List ℕ) → BeginsWithLine text line rest → length rest < length text → IsFalse (is_put line) → Items n text
  plain line rest begins shorter not_put = by_blank (is_blank line) refl
    where
      by_blank : (blank : Bool) → is_blank line ≡ blank → Items n text
      by_blank true blank = let items = more (n + 1) rest shorter in (items.0, blank_line line rest begins blank items.1)
      by_blank false other =
          let items = more (n + 1) rest shorter in
          (numbered n (item_of_line line) ∷ items.0, other_line line rest begins other not_put items.1)

  bad : (line rest : List ℕ) → BeginsWithLine text line rest → IsTrue (is_put line) → ((name : List ℕ) (size : ℕ) → IsPutLine line name size → ⊥) → Items n text
  bad line rest begins is_a_put none = (numbered n bad_put ∷ [], bad_put_line line rest begins is_a_put none)

  at_closed : (line rest : List ℕ) → text ≡ line ++ 10 ∷ rest → IsLine line → Items n text
  at_closed line rest whole is = by_put (is_put line) refl
    where
      shorter : length rest < length text
      shorter = omega (arith, ap length whole, length-append line (10 ∷ rest))

      by_header : IsTrue (is_put line) → PutLine line → Items n text
      by_header is_a_put (inl header) = after_put line header.0 rest header.1 whole header.2
      by_header is_a_put (inr none) = bad line rest (ended whole is) is_a_put none

      by_put : (a_put : Bool) → is_put line ≡ a_put → Items n text
      by_put true is_a_put = by_header is_a_put (put_line line is is_a_put)
      by_put false not_put = plain line rest (ended whole is) shorter not_put

  at_open : text ≢ [] → IsLine text → Items n text
  at_open some is = by_put (is_put text) refl
    where
      some_bytes : (line : List ℕ) → line ≢ [] → 0 < length line
      some_bytes [] some = absurd (some refl)
      some_bytes (b ∷ line) some = omega arith

      by_header : IsTrue (is_put text) → PutLine text → Items n text
      by_header is_a_put (inl header) = (numbered n truncated ∷ [], missing_body header.0 header.1 header.2)
      by_header is_a_put (inr none) = bad text [] (last refl is some refl) is_a_put none

      by_put : (a_put : Bool) → is_put text ≡ a_put → Items n text
      by_put true is_a_put = by_header is_a_put (put_line text is is_a_put)
      by_put false not_put = plain text [] (last refl is some refl) (some_bytes text some) not_put

  by_first : text ≢ [] → FirstLine text → Items n text
  by_first some (closed line rest whole is) = at_closed line rest whole is
  by_first some (open_line is) = at_open some is

items_within : (most n : ℕ) (text : List ℕ) → length text ≤ most → Items n text
items_within most n [] few = ([], done)
items_within zero n (b ∷ text) few = absurd (omega (arith, few))
items_within (suc most) n (b ∷ text) few =
    by_first n (b ∷ text) (λ m rest shorter. items_within most m rest (omega (arith, few, shorter))) (λ none. cc) (first_line (b ∷ text))

pub some_items : (n : ℕ) (text : List ℕ) → Items n text
some_items n text = items_within (length text) n text (omega arith)
