-- A script has at most one list of items: the text decides what is taken from its front. A line says one thing.
use Rattle.std.proofs.Common.{◌≡◌, ◌≢◌, ℕ, ◌+◌, ◌<◌, length, take, drop, Bool, true, false, nat_lt, if◌then◌else◌, ◌==◌, List, [], ◌∷◌}
use Rattle.std.proofs.Common.{◌++◌, Option, Some, None, unwrap_or, refl, sym, ap, ◌∙◌, subst, arith, IsTrue, IsFalse, length-append, true≢false}
use Rattle.std.proofs.lemmas.List.{append-nil}
use Rattle.std.proofs.lemmas.Bool.Decides.{nat_tests}
use Rattle.std.proofs.Math.Seq.{take-append_seam, drop-append_seam}
use Rattle.std.proofs.lemmas.List.Elements.{recursion_from_All}
use Rattle.ere.specs.Classes.{is_digit}
use Rattle.script.specs.Fields.{fields_of, SpellsSize}
use Rattle.script.specs.Private.Cuts.{Cuts, Lacks}
use Rattle.script.specs.Items.{Numbered, numbered, ItemsFrom, done, blank_line, other_line, closed_put, last_put, bad_put_line}
use Rattle.script.specs.Items.{missing_body, short_body, open_body, BeginsWithLine, ended, last, IsLine, IsPutLine, is_put, is_blank, item_of_line}
use Rattle.script.specs.Items.{line_feeds, put, bad_put, truncated, body_not_closed}
use Rattle.script.specs.Line.{Says, SayTheSame}
use Rattle.script.specs.declared.line.Line as program
use Rattle.script.specs.declared.line.Line.TheVariants as variants
use Rattle.script.proofs.PutLemmas.{in_back, last_cut_once, lacks_byte}

-- the first line, and what follows its line feed, if it has one
abbrev CutsLine : List ℕ → List ℕ → Option (List ℕ) → Type 0
CutsLine text line (Some rest) = Cuts 10 text line rest
CutsLine text line None = (text ≡ line) × IsLine line

-- What the front of a text leads to.
data Next : Type 0 where
  end : Next
  skip : (n : ℕ) (rest : List ℕ) → Next
  one : (item : Numbered) (n : ℕ) (rest : List ℕ) → Next
  stop : (item : Numbered) → Next

abbrev after_body : ℕ → List ℕ → List ℕ → List ℕ → Next
after_body n name body [] = stop (numbered n (put name body))
after_body n name body (b ∷ rest) = if b == 10 then one (numbered n (put name body)) (n + 2 + line_feeds body) rest else stop (numbered n body_not_closed)

abbrev after_header : ℕ → Option (List ℕ) → Option (List ℕ × ℕ) → Next
after_header n left None = stop (numbered n bad_put)
after_header n None (Some header) = stop (numbered n truncated)
after_header n (Some left) (Some header) =
    if nat_lt (length left) header.1 then stop (numbered n truncated) else after_body n header.0 (take header.1 left) (drop header.1 left)

abbrev after_line : ℕ → List ℕ → Option (List ℕ) → Option (List ℕ × ℕ) → Next
after_line n line left header =
    if is_put line then after_header n left header
    else (if is_blank line then skip (n + 1) (unwrap_or left [])
    else one (numbered n (item_of_line line)) (n + 1) (unwrap_or left []))

abbrev IsHeader : Bool → List ℕ → Option (List ℕ × ℕ) → Type 0
IsHeader false line header = header ≡ None
IsHeader true line None = (name : List ℕ) (size : ℕ) → IsPutLine line name size → ⊥
IsHeader true line (Some header) = IsPutLine line header.0 header.1

data Leads (n : ℕ) (text : List ℕ) (next : Next) : Type 0 where
  nothing : text ≡ [] → next ≡ end → Leads n text next
  something : (line : List ℕ) (left : Option (List ℕ)) (header : Option (List ℕ × ℕ)) → 0 < length text → CutsLine text line left
      → IsHeader (is_put line) line header → next ≡ after_line n line left header → Leads n text next

first_cut_front : (byte : ℕ) (front front' back back' : List ℕ) → front ++ byte ∷ back ≡ front' ++ byte ∷ back' → Lacks byte front
    → Lacks byte front' → front ≡ front'
first_cut_front byte [] [] back back' e l l' = refl
first_cut_front byte [] (c ∷ front') back back' e l l' = absurd (l'.0 (cc))
first_cut_front byte (c ∷ front) [] back back' e l l' = absurd (l.0 (cc))
first_cut_front byte (c ∷ front) (c' ∷ front') back back' e l l' =
    let more : front ≡ front' = first_cut_front byte front front' back back' (cc) l.1 l'.1 in
    let same : c ≡ c' = cc in
    cc

same_back : (byte : ℕ) (front back back' : List ℕ) → front ++ byte ∷ back ≡ front ++ byte ∷ back' → back ≡ back'
same_back byte [] back back' e = cc
same_back byte (c ∷ front) back back' e = same_back byte front back back' (cc)

last_cut_front : (byte : ℕ) (front front' back : List ℕ) → front ++ byte ∷ back ≡ front' ++ byte ∷ back → Lacks byte back → front ≡ front'
last_cut_front byte [] [] back e l = refl
last_cut_front byte [] (c ∷ front') back e l = absurd (in_back byte front' back back (cc) l)
last_cut_front byte (c ∷ front) [] back e l = absurd (in_back byte front back back (cc) l)
last_cut_front byte (c ∷ front) (c' ∷ front') back e l =
    let more : front ≡ front' = last_cut_front byte front front' back (cc) l in
    let same : c ≡ c' = cc in
    cc

-- A text has one first line, and one rest.
one_cut_line : (text line line' : List ℕ) (left left' : Option (List ℕ)) → CutsLine text line left → CutsLine text line' left'
    → (line ≡ line') × (left ≡ left')
one_cut_line text line line' (Some rest) (Some rest') is is' =
    let same = first_cut_front 10 line line' rest rest' (sym is.whole ∙ is'.whole) is.first is'.first in
    (same, ap Some (same_back 10 line rest rest' (sym is.whole ∙ is'.whole ∙ ap (λ l. l ++ 10 ∷ rest') (sym same))))
one_cut_line text line line' (Some rest) None is is' = absurd (in_back 10 line rest line' (sym is'.0 ∙ is.whole) is'.1)
one_cut_line text line line' None (Some rest') is is' = absurd (in_back 10 line' rest' line (sym is.0 ∙ is'.whole) is.1)
one_cut_line text line line' None None is is' = (sym is.0 ∙ is'.0, refl)

lacks_space : (digits : List ℕ) (size : ℕ) → SpellsSize digits size → Lacks 32 digits
lacks_space digits size is = lacks_byte 32 digits (omega arith) (recursion_from_All (λ d. is_digit d ≡ true) digits is.decimal)

one_put_line : (line name name' : List ℕ) (size size' : ℕ) → IsPutLine line name size → IsPutLine line name' size' → (name ≡ name') × (size ≡ size')
one_put_line line name name' size size' is is' =
    let header = is.3 in
    let header' = is'.3 in
    let fields : is.1 ≡ is'.1 = cc in
    let whole : name ++ 32 ∷ header.0 ≡ name' ++ 32 ∷ header'.0 = sym header.1 ∙ fields ∙ header'.1 in
    let digits : header.0 ≡ header'.0 = last_cut_once 32 name name' header.0 header'.0 whole (lacks_space _ _ header.2) (lacks_space _ _ header'.2) in
    (last_cut_front 32 name name' header.0 (whole ∙ ap (λ d. name' ++ 32 ∷ d) (sym digits)) (lacks_space _ _ header.2), cc)

put_or_none : (line name : List ℕ) (size : ℕ) → IsPutLine line name size → ((name : List ℕ) (size : ℕ) → IsPutLine line name size → ⊥) → ⊥
put_or_none line name size is none = none name size is

pairs : (p p' : List ℕ × ℕ) → p.0 ≡ p'.0 → p.1 ≡ p'.1 → p ≡ p'
pairs p p' e f = ap (λ x. let y : List ℕ × ℕ = (x, p.1) in y) e ∙ ap (λ k. let y : List ℕ × ℕ = (p'.0, k) in y) f

one_header : (is : Bool) (line : List ℕ) (header header' : Option (List ℕ × ℕ)) → IsHeader is line header → IsHeader is line header' → header ≡ header'
one_header false line header header' h h' = h ∙ sym h'
one_header true line None None h h' = refl
one_header true line None (Some header') h h' = absurd (put_or_none line header'.0 header'.1 h' h)
one_header true line (Some header) None h h' = absurd (put_or_none line header.0 header.1 h h')
one_header true line (Some header) (Some header') h h' =
    let same = one_put_line line header.0 header'.0 header.1 header'.1 h h' in
    ap Some (pairs header header' same.0 same.1)

-- A text leads to one thing only.
leads_once : (n : ℕ) (text : List ℕ) (next next' : Next) → Leads n text next → Leads n text next' → next ≡ next'
leads_once n text next next' (nothing none is) (nothing none' is') = is ∙ sym is'
leads_once n text next next' (nothing none is) (something line left header some first head is') = absurd (omega (arith, ap length none))
leads_once n text next next' (something line left header some first head is) (nothing none' is') = absurd (omega (arith, ap length none'))
leads_once n text next next' (something line left header some first head is) (something line' left' header' some' first' head' is') =
    let lines = one_cut_line text line line' left left' first first' in
    let same = one_header (is_put line) line header header' head (subst (λ l. IsHeader (is_put l) l header') (sym lines.0) head') in
    is ∙ ap (λ l. after_line n l left header) lines.0 ∙ ap (λ f. after_line n line' f header) lines.1 ∙ ap (after_line n line' left') same ∙ sym is'

-- A blank line is not a put.
comment_is_no_put : (b : ℕ) (line : List ℕ) → b ≡ 35 → is_put (b ∷ line) ≡ false
unfolding fields_of
comment_is_no_put b line is = subst (λ c. is_put (c ∷ line) ≡ false) (sym is) refl

blank_is_no_put : (line : List ℕ) → IsTrue (is_blank line) → is_put line ≡ false
unfolding fields_of
blank_is_no_put [] blank = refl
blank_is_no_put (b ∷ line) blank = comment_is_no_put b line (grind (arith, nat_tests))

is_put_first : (line name : List ℕ) (size : ℕ) → IsPutLine line name size → is_put line ≡ true
unfolding fields_of
is_put_first line name size is = subst (λ l. is_put l ≡ true) (sym is.2) refl

record FirstOf (text line rest : List ℕ) : Type 0 where
  left : Option (List ℕ)
  first : CutsLine text line left
  same : rest ≡ unwrap_or left []
  some : 0 < length text

first_of_text : (text line rest : List ℕ) → BeginsWithLine text line rest → FirstOf text line rest
first_of_text text line rest (ended whole is) = record {
  left = Some rest;
  first = record { whole = whole; first = is };
  same = refl;
  some = omega (arith, ap length whole ∙ length-append line (10 ∷ rest));
}
first_of_text text line rest (last whole is some none) = record {
  left = None;
  first = (whole, is);
  same = none;
  some = some_bytes line text whole some;
}
  where
    some_bytes : (line text : List ℕ) → text ≡ line → line ≢ [] → 0 < length text
    some_bytes [] text whole some = absurd (some refl)
    some_bytes (b ∷ line) text whole some = omega (arith, ap length whole)

leads_blank : (n : ℕ) (text line rest : List ℕ) → BeginsWithLine text line rest → IsTrue (is_blank line) → Leads n text (skip (n + 1) rest)
leads_blank n text line rest begins blank =
    let f = first_of_text text line rest begins in
    let no = blank_is_no_put line blank in
    let yes : is_blank line ≡ true = blank in
    something line f.left None f.some f.first (rw no refl) (rw (no, yes) (ap (skip (n + 1)) f.same))

leads_other : (n : ℕ) (text line rest : List ℕ) → BeginsWithLine text line rest → IsFalse (is_blank line) → IsFalse (is_put line)
    → Leads n text (one (numbered n (item_of_line line)) (n + 1) rest)
leads_other n text line rest begins blank is_a_put =
    let f = first_of_text text line rest begins in
    let no : is_put line ≡ false = is_a_put in
    let yes : is_blank line ≡ false = blank in
    something line f.left None f.some f.first (rw no refl) (rw (no, yes) (ap (one (numbered n (item_of_line line)) (n + 1)) f.same))

leads_bad_put : (n : ℕ) (text line rest : List ℕ) → BeginsWithLine text line rest → IsTrue (is_put line)
    → ((name : List ℕ) (size : ℕ) → IsPutLine line name size → ⊥) → Leads n text (stop (numbered n bad_put))
leads_bad_put n text line rest begins is_a_put none =
    let f = first_of_text text line rest begins in
    let yes : is_put line ≡ true = is_a_put in
    something line f.left None f.some f.first (rw yes none) (rw yes refl)

leads_missing : (n : ℕ) (line name : List ℕ) (size : ℕ) → IsPutLine line name size → Leads n line (stop (numbered n truncated))
leads_missing n line name size is =
    let yes = is_put_first line name size is in
    something line None (Some (name, size)) (omega (arith, ap length is.2)) (refl, is.0) (rw yes is) (rw yes refl)

module _ (n : ℕ) (text line name left : List ℕ) (size : ℕ) (whole : text ≡ line ++ 10 ∷ left) (is : IsPutLine line name size) where
  leads_put : (next : Next) → next ≡ after_header n (Some left) (Some (name, size)) → Leads n text next
  leads_put next same =
      let yes = is_put_first line name size is in
      something line (Some left) (Some (name, size)) (omega (arith, ap length whole ∙ length-append line (10 ∷ left)))
      (record { whole = whole; first = is.0 }) (rw yes is) (rw yes same)

  leads_short : length left < size → Leads n text (stop (numbered n truncated))
  leads_short short =
      let test : nat_lt (length left) size ≡ true = grind (arith, nat_tests) in
      leads_put _ (rw test refl)

module _ (n : ℕ) (text line name body after : List ℕ) (whole : text ≡ line ++ 10 ∷ (body ++ after)) (is : IsPutLine line name (length body)) where
  leads_body : (next : Next) → next ≡ after_body n name body after → Leads n text next
  leads_body next same =
      let long : length (body ++ after) ≡ length body + length after = length-append body after in
      let test : nat_lt (length (body ++ after)) (length body) ≡ false = grind (arith, nat_tests) in
      leads_put n text line name (body ++ after) (length body) whole is next (rw (test, take-append_seam body after, drop-append_seam body after) same)

abbrev next_of : (n : ℕ) (text : List ℕ) (items : List Numbered) → ItemsFrom n text items → Next
next_of n text items done = end
next_of n text items (blank_line line rest begins blank more) = skip (n + 1) rest
next_of n text items (other_line line rest begins blank is_a_put more) = one (numbered n (item_of_line line)) (n + 1) rest
next_of n text items (closed_put {name = name} {body = body} line rest whole is more) = one (numbered n (put name body)) (n + 2 + line_feeds body) rest
next_of n text items (last_put {name = name} {body = body} line whole is) = stop (numbered n (put name body))
next_of n text items (bad_put_line line rest begins is_a_put none) = stop (numbered n bad_put)
next_of n text items (missing_body name size is) = stop (numbered n truncated)
next_of n text items (short_body line name left size whole is short) = stop (numbered n truncated)
next_of n text items (open_body line name body rest b whole is other) = stop (numbered n body_not_closed)

leads : (n : ℕ) (text : List ℕ) (items : List Numbered) (h : ItemsFrom n text items) → Leads n text (next_of n text items h)
leads n text items done = nothing refl refl
leads n text items (blank_line line rest begins blank more) = leads_blank n text line rest begins blank
leads n text items (other_line line rest begins blank is_a_put more) = leads_other n text line rest begins blank is_a_put
leads n text items (closed_put {name = name} {body = body} line rest whole is more) = leads_body n text line name body (10 ∷ rest) whole is _ refl
leads n text items (last_put {name = name} {body = body} line whole is) =
    leads_body n text line name body [] (whole ∙ ap (λ b. line ++ 10 ∷ b) (sym (append-nil body))) is _ refl
leads n text items (bad_put_line line rest begins is_a_put none) = leads_bad_put n text line rest begins is_a_put none
leads n text items (missing_body name size is) = leads_missing n text name size is
leads n text items (short_body line name left size whole is short) = leads_short n text line name left size whole is short
leads n text items (open_body line name body rest b whole is other) =
    let test : (b == 10) ≡ false = grind (arith, nat_tests) in
    leads_body n text line name body (b ∷ rest) whole is _ (rw test refl)

-- What the items are, given what the text leads to.
abbrev IsRest : Next → List Numbered → Type 0
IsRest end items = items ≡ []
IsRest (skip n rest) items = ItemsFrom n rest items
IsRest (one item n rest) items = (more : List Numbered) × (items ≡ item ∷ more) × ItemsFrom n rest more
IsRest (stop item) items = items ≡ item ∷ []

rest_of : (n : ℕ) (text : List ℕ) (items : List Numbered) (h : ItemsFrom n text items) → IsRest (next_of n text items h) items
rest_of n text items done = refl
rest_of n text items (blank_line line rest begins blank more) = more
rest_of n text items (other_line {items = others} line rest begins blank is_a_put more) = (others, refl, more)
rest_of n text items (closed_put {items = others} line rest whole is more) = (others, refl, more)
rest_of n text items (last_put line whole is) = refl
rest_of n text items (bad_put_line line rest begins is_a_put none) = refl
rest_of n text items (missing_body name size is) = refl
rest_of n text items (short_body line name left size whole is short) = refl
rest_of n text items (open_body line name body rest b whole is other) = refl

other_rest : (n : ℕ) (text : List ℕ) (items items' : List Numbered) (h : ItemsFrom n text items) → ItemsFrom n text items'
    → IsRest (next_of n text items h) items'
other_rest n text items items' h h' =
    subst (λ next. IsRest next items') (leads_once n text _ _ (leads n text items' h') (leads n text items h)) (rest_of n text items' h')

pub one_reading : (n : ℕ) (text : List ℕ) (items items' : List Numbered) → ItemsFrom n text items → ItemsFrom n text items' → items ≡ items'
one_reading n text items items' done h' = sym (other_rest n text items items' done h')
one_reading n text items items' (blank_line line rest begins blank more) h' =
    one_reading (n + 1) rest items items' more (other_rest n text items items' (blank_line line rest begins blank more) h')
one_reading n text items items' (other_line {items = others} line rest begins blank is_a_put more) h' =
    let rest' = other_rest n text items items' (other_line line rest begins blank is_a_put more) h' in
    ap (λ l. numbered n (item_of_line line) ∷ l) (one_reading (n + 1) rest others rest'.0 more rest'.2) ∙ sym rest'.1
one_reading n text items items' (closed_put {name = name} {body = body} {items = others} line rest whole is more) h' =
    let rest' = other_rest n text items items' (closed_put line rest whole is more) h' in
    ap (λ l. numbered n (put name body) ∷ l) (one_reading (n + 2 + line_feeds body) rest others rest'.0 more rest'.2) ∙ sym rest'.1
one_reading n text items items' (last_put line whole is) h' = sym (other_rest n text items items' (last_put line whole is) h')
one_reading n text items items' (bad_put_line line rest begins is_a_put none) h' =
    sym (other_rest n text items items' (bad_put_line line rest begins is_a_put none) h')
one_reading n text items items' (missing_body name size is) h' = sym (other_rest n text items items' (missing_body name size is) h')
one_reading n text items items' (short_body line name left size whole is short) h' =
    sym (other_rest n text items items' (short_body line name left size whole is short) h')
one_reading n text items items' (open_body line name body rest b whole is other) h' =
    sym (other_rest n text items items' (open_body line name body rest b whole is other) h')

-- ---- one line

blank_or_put : (line : List ℕ) → IsTrue (is_blank line) → IsTrue (is_put line) → ⊥
blank_or_put line blank put_line = true≢false (sym put_line ∙ blank_is_no_put line blank)

pub one_saying : (line : List ℕ) (said said' : program.Line) → Says line said → Says line said' → SayTheSame said said'
one_saying line variants.Blank variants.Blank h h' = tt
one_saying line variants.Blank (variants.Put name size) h h' = absurd (blank_or_put line h (is_put_first line name.now size h'))
one_saying line variants.Blank variants.BadPut h h' = absurd (blank_or_put line h h'.0)
one_saying line variants.Blank (variants.Other item) h h' = absurd (true≢false (sym h ∙ h'.0))
one_saying line (variants.Put name size) variants.Blank h h' = absurd (blank_or_put line h' (is_put_first line name.now size h))
one_saying line (variants.Put name size) (variants.Put name' size') h h' = one_put_line line name.now name'.now size size' h h'
one_saying line (variants.Put name size) variants.BadPut h h' = absurd (h'.1 name.now size h)
one_saying line (variants.Put name size) (variants.Other item) h h' = absurd (true≢false (sym (is_put_first line name.now size h) ∙ h'.1))
one_saying line variants.BadPut variants.Blank h h' = absurd (blank_or_put line h' h.0)
one_saying line variants.BadPut (variants.Put name size) h h' = absurd (h.1 name.now size h')
one_saying line variants.BadPut variants.BadPut h h' = tt
one_saying line variants.BadPut (variants.Other item) h h' = absurd (true≢false (sym h.0 ∙ h'.1))
one_saying line (variants.Other item) variants.Blank h h' = absurd (true≢false (sym h' ∙ h.0))
one_saying line (variants.Other item) (variants.Put name size) h h' = absurd (true≢false (sym (is_put_first line name.now size h') ∙ h.1))
one_saying line (variants.Other item) variants.BadPut h h' = absurd (true≢false (sym h'.0 ∙ h.1))
one_saying line (variants.Other item) (variants.Other item') h h' = h.2 ∙ sym h'.2
