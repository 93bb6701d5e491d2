-- The lines of puts, and their headers.
use Rattle.std.proofs.Common.{◌≡◌, ◌≢◌, ℕ, ◌<◌, Bool, true, false, ◌==◌, List, [], ◌∷◌, ◌++◌, Option, Some, None}
use Rattle.std.proofs.Common.{refl, sym, ap, ◌∙◌, subst, arith, IsTrue, codes}
use Rattle.std.specs.List.{AllByRecursion}
use Rattle.std.proofs.lemmas.Bool.Decides.{nat_tests}
use Rattle.ere.specs.Classes.{is_digit}
use Rattle.std.proofs.lemmas.List.Elements.{recursion_from_All}
use Rattle.script.specs.Fields.{fields_of, SpellsSize, IsPutHeader}
use Rattle.script.specs.Private.Cuts.{CutsLast, Lacks, shown_fields}
use Rattle.script.specs.Private.Headers.{HasHeader, LacksHeader}
use Rattle.script.specs.Items.{IsLine, IsPutLine, is_put}

is_put_first : (fields : List ℕ) → fields_of (codes "put " ++ fields) ≡ shown_fields (codes "put") (Some fields)
unfolding fields_of
is_put_first fields = refl

-- A line with the keyword `put` and no header is not the line of a put.
pub no_put_line : (line : List ℕ) (others : Option (List ℕ)) → fields_of line ≡ shown_fields (codes "put") others → LacksHeader others
    → (name : List ℕ) (size : ℕ) → IsPutLine line name size → ⊥
no_put_line line others fields none name size is =
    let same : others ≡ Some is.1 = ap (λ w. w.others) (sym fields ∙ ap fields_of is.2 ∙ is_put_first is.1) in
    none name size (subst (λ o. HasHeader o name size) (sym same) is.3)

space_first : (b : ℕ) (line first fields : List ℕ) → b ≡ 32 → first ≡ [] → Some line ≡ Some fields → b ∷ line ≡ first ++ 32 ∷ fields
space_first b line first fields is nothing same =
    let tail : line ≡ fields = cc in
    subst (λ f. b ∷ line ≡ f ++ 32 ∷ fields) (sym nothing) (cc)

byte_first : (b : ℕ) (line rest first fields : List ℕ) → first ≡ b ∷ rest → line ≡ rest ++ 32 ∷ fields → b ∷ line ≡ first ++ 32 ∷ fields
byte_first b line rest first fields is more = subst (λ f. b ∷ line ≡ f ++ 32 ∷ fields) (sym is) (ap (λ l. b ∷ l) more)

front_step : (t : Bool) (b : ℕ) (line first fields : List ℕ) → (b == 32) ≡ t → (fields_of (b ∷ line)).first ≡ first
    → (fields_of (b ∷ line)).others ≡ Some fields → ((fields_of line).others ≡ Some fields → line ≡ (fields_of line).first ++ 32 ∷ fields)
    → b ∷ line ≡ first ++ 32 ∷ fields
unfolding fields_of
front_step true b line first fields is e o more =
    let space : b ≡ 32 = grind (arith, nat_tests) in
    space_first b line first fields space (sym (rw is at e)) (rw is at o)
front_step false b line first fields is e o more = byte_first b line (fields_of line).first first fields (sym (rw is at e)) (more (rw is at o))

no_fields : (fields : List ℕ) → (fields_of []).others ≡ Some fields → ⊥
unfolding fields_of
no_fields fields o = cc

front_of_fields : (line first fields : List ℕ) → (fields_of line).first ≡ first → (fields_of line).others ≡ Some fields → line ≡ first ++ 32 ∷ fields
front_of_fields [] first fields e o = absurd (no_fields fields o)
front_of_fields (b ∷ line) first fields e o = front_step (b == 32) b line first fields refl e o (front_of_fields line (fields_of line).first fields refl)

-- The line of a put, from its fields.
pub put_line_by_fields : (line fields name : List ℕ) (size : ℕ) → IsLine line → fields_of line ≡ shown_fields (codes "put") (Some fields)
    → IsPutHeader fields name size → IsPutLine line name size
put_line_by_fields line fields name size is split header =
    (is, fields, front_of_fields line (codes "put") fields (ap (λ w. w.first) split) (ap (λ w. w.others) split), header)

pub is_put_by_keyword : (line : List ℕ) (others : Option (List ℕ)) → fields_of line ≡ shown_fields (codes "put") others → IsTrue (is_put line)
is_put_by_keyword line others fields = rw fields refl

not_digit : (byte d : ℕ) → byte < 48 → is_digit d ≡ true → d ≢ byte
not_digit byte d small here = grind (arith, nat_tests)

pub lacks_byte : (byte : ℕ) (digits : List ℕ) → byte < 48 → AllByRecursion (λ d. is_digit d ≡ true) digits → Lacks byte digits
lacks_byte byte [] small pass = tt
lacks_byte byte (d ∷ digits) small pass = (not_digit byte d small pass.0, lacks_byte byte digits small pass.1)

pub in_back : (byte : ℕ) (front back whole : List ℕ) → whole ≡ front ++ byte ∷ back → Lacks byte whole → ⊥
in_back byte [] back whole e l = (subst (Lacks byte) e l).0 refl
in_back byte (c ∷ front) back [] e l = cc
in_back byte (c ∷ front) back (d ∷ whole) e l = in_back byte front back whole (cc) l.1

-- There is only one way to cut a text at the last such byte.
pub last_cut_once : (byte : ℕ) (front front' back back' : List ℕ) → front ++ byte ∷ back ≡ front' ++ byte ∷ back' → Lacks byte back
    → Lacks byte back' → back ≡ back'
last_cut_once byte [] [] back back' e l l' = cc
last_cut_once byte [] (c ∷ front') back back' e l l' = absurd (in_back byte front' back' back (cc) l)
last_cut_once byte (c ∷ front) [] back back' e l l' = absurd (in_back byte front back back' (cc) l')
last_cut_once byte (c ∷ front) (c' ∷ front') back back' e l l' = last_cut_once byte front front' back back' (cc) l l'

pub no_header_without_space : (fields : List ℕ) → Lacks 32 fields → (name : List ℕ) (size : ℕ) → IsPutHeader fields name size → ⊥
no_header_without_space fields lacks name size is = in_back 32 name is.0 fields is.1 lacks

pub no_header_without_size : (fields front digits : List ℕ) → CutsLast 32 fields front digits → ((size : ℕ) → SpellsSize digits size → ⊥)
    → (name : List ℕ) (size : ℕ) → IsPutHeader fields name size → ⊥
no_header_without_size fields front digits cut none name size is =
    let same =
    last_cut_once 32 front name digits is.0 (sym cut.whole ∙ is.1) cut.last
    (lacks_byte 32 is.0 (omega arith) (recursion_from_All (λ d. is_digit d ≡ true) is.0 is.2.decimal)) in
    none size (subst (λ d. SpellsSize d size) (sym same) is.2)

-- The line of a put, from the header after its keyword.
pub put_line_by_header : (line : List ℕ) (others : Option (List ℕ)) (name : List ℕ) (size : ℕ) → IsLine line
    → fields_of line ≡ shown_fields (codes "put") others → HasHeader others name size → IsPutLine line name size
put_line_by_header line None name size is fields header = absurd header
put_line_by_header line (Some fields) name size is split header = put_line_by_fields line fields name size is split header
