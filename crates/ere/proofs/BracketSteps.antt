-- What the steps of the reader of bracket expressions find at an offset of a text.
use Rattle.std.proofs.Common.{◌≡◌, ◌≢◌, ℕ, zero, suc, ◌+◌, ◌-◌, ◌<◌, ◌≤◌, Bool, true, false, not, ◌==◌, IsTrue, IsFalse, List}
use Rattle.std.proofs.Common.{[], ◌∷◌, ◌++◌, length, get_or, take, drop, Some, None, Result, Ok, Err, IfErr, refl, sym, ap, ◌∙◌}
use Rattle.std.proofs.Common.{subst, arith, inl, inr, ◌⊎◌}
use Rattle.std.proofs.lemmas.List.{take-append-drop, drop-drop, drop_all, take_at}
use Rattle.std.proofs.lemmas.Bool.Decides.{nat_tests}
use Rattle.std.proofs.lemmas.Bool.{or_left, and_parts, eqb-true}
use Rattle.ere.proofs.TokenLemmas.{tail_of}
use native.Mathlib.Decide.{dec_lt}
use Rattle.ere.specs.declared.case.Case.{Case}
use Rattle.ere.specs.ByteSet.{single, bytes_between}
use Rattle.ere.specs.Classes.{class_named}
use Rattle.ere.specs.Brackets.{begins_with, range_ahead, IsCharacterClass, IsRangeEnd, SpellsItem, SpellsItems, SpellsBracket}
use Rattle.ere.specs.Brackets.{IsRangeStart as range_start, IsRangeEnd as range_end, SpellsItem as item, SpellsItems as items, SpellsBracket as brackets}
use Rattle.ere.specs.Private.Reading.{opens_with, IsSymbol, IsSymbolEnd, IsByteOrSymbol}
use Rattle.ere.specs.Private.Reading.{IsByteOrSymbol as byte_or_symbol}
use Rattle.ere.proofs.Texts.{front, Stands, Stands-read, Stands-begins, read_at, first_begins}
use Rattle.ere.proofs.BracketLemmas.{head_of, ItemView, ItemView as view, item_view, IsPlain, NoColon, no_colon, one_byte_or_symbol}
use Rattle.ere.proofs.BracketLemmas.{mark_clash, items_left, plain_opens}

-- what holds, for a result that may be an error
pub if_err : {T E : Type 0} (r : Result T E) (P : Type 0) → P → IfErr r (λ _. P)
if_err (Ok x) P p = tt
if_err (Err e) P p = p

pub next : (text : List ℕ) (a b : ℕ) → a < length text → b ≡ a + 1 → drop a text ≡ get_or text a 0 ∷ drop b text
next text a b inside e = front text a inside ∙ ap (λ k. get_or text a 0 ∷ drop k text) (sym e)

-- `[` and a mark are at an offset
pub record Opens (text : List ℕ) (at mark : ℕ) : Type 0 where
  pub bracket : Stands text at 91
  pub marked : Stands text (at + 1) mark

pub Opens-opens_with : (text : List ℕ) (at mark : ℕ) → IsTrue (opens_with mark (drop at text)) → Opens text at mark
Opens-opens_with text at mark h = go (dec_lt at (length text))
  where
    go : Dec (at < length text) → Opens text at mark
    go (yes inside) =
        let parts =
        and_parts (get_or text at 0 == 91) (begins_with mark (drop (at + 1) text))
        (subst (λ t. IsTrue (opens_with mark t)) (front text at inside) h) in
        record { bracket = Stands-read text at 91 inside (eqb-true _ 91 parts.0); marked = Stands-begins text (at + 1) mark parts.1 }
    go (no outside) = absurd (let none : IsTrue (opens_with mark []) = subst (λ t. IsTrue (opens_with mark t)) (drop_all at text (omega arith)) h in cc)

pub opens_then : (text : List ℕ) (at mark : ℕ) → IsTrue (begins_with 91 (drop at text)) → begins_with mark (drop (at + 1) text) ≡ opens_with mark (drop at text)
opens_then text at mark h = rw (Stands-begins text at 91 h).from refl

-- If the end of a symbol is three bytes after its `[`, it is a symbol of one byte.
pub symbol_found : (text : List ℕ) (at mark p : ℕ) → Opens text at mark → p ≡ at + 3 → p + 1 < length text → IsSymbolEnd mark text p
    → IsSymbol mark (drop at text) (get_or text (at + 2) 0) (drop (p + 2) text)
symbol_found text at mark p o e inside ends =
    let e0 = o.bracket.from in
    let e1 : drop (at + 1) text ≡ mark ∷ drop (at + 2) text = o.marked.from ∙ ap (λ k. mark ∷ drop k text) (omega arith) in
    let e2 = next text (at + 2) (at + 3) (omega arith) (omega arith) in
    let e3 : drop (at + 3) text ≡ mark ∷ drop (p + 1) text =
    ap (λ k. drop k text) (sym e) ∙ front text p (omega arith) ∙ ap (λ b. b ∷ drop (p + 1) text) ends.0 in
    let e4 : drop (p + 1) text ≡ 93 ∷ drop (p + 2) text = next text (p + 1) (p + 2) inside (omega arith) ∙ ap (λ b. b ∷ drop (p + 2) text) ends.1 in
    cc

-- A symbol of one byte ends three bytes after its `[`.
pub symbol_ends : (text : List ℕ) (at mark x : ℕ) (rest : List ℕ) → IsSymbol mark (drop at text) x rest → IsSymbolEnd mark text (at + 3)
symbol_ends text at mark x rest e =
    (read_at text at 3 _ e, subst (λ k. get_or text k 0 ≡ 93) (omega arith) (read_at text at 4 _ e))

pub symbol_elsewhere : (text : List ℕ) (at mark p : ℕ) → mark ≢ 93 → at + 2 ≤ p → IsSymbolEnd mark text p
    → ((k : ℕ) → at + 2 ≤ k → k < p → IsSymbolEnd mark text k → ⊥) → p ≢ at + 3 → (x : ℕ) (rest : List ℕ)
    → IsSymbol mark (drop at text) x rest → ⊥
symbol_elsewhere text at mark p other behind ends first elsewhere x rest e = go (dec_lt p (at + 3))
  where
    go : Dec (p < at + 3) → ⊥
    go (yes before) =
        let here : p ≡ at + 2 = omega arith in
        let mark_here : get_or text (at + 3) 0 ≡ mark = (symbol_ends text at mark x rest e).0 in
        let end_here : get_or text (at + 3) 0 ≡ 93 = subst (λ k. get_or text k 0 ≡ 93) (omega arith) ends.1 in
        other (sym mark_here ∙ end_here)
    go (no not_before) = first (at + 3) (omega arith) (omega arith) (symbol_ends text at mark x rest e)

inside_name : (name tail : List ℕ) (i : ℕ) → NoColon name → i < length name → get_or (name ++ tail) i 0 ≢ 58
inside_name [] tail i clean below e = absurd (omega arith)
inside_name (x ∷ name) tail zero clean below e = clean.0 e
inside_name (x ∷ name) tail (suc i) clean below e = inside_name name tail i clean.1 (omega arith) e

behind_name : (name : List ℕ) (b c : ℕ) (rest : List ℕ)
    → (get_or (name ++ b ∷ c ∷ rest) (length name) 0 ≡ b) × (get_or (name ++ b ∷ c ∷ rest) (suc (length name)) 0 ≡ c)
behind_name [] b c rest = (refl, refl)
behind_name (x ∷ name) b c rest = behind_name name b c rest

class_text : (text : List ℕ) (at : ℕ) (name rest : List ℕ) → IsCharacterClass (drop at text) name rest → drop (at + 2) text ≡ name ++ 58 ∷ 93 ∷ rest
class_text text at name rest e = sym (drop-drop 2 at text) ∙ ap (drop 2) e

class_ends : (text : List ℕ) (at : ℕ) (name rest : List ℕ) → IsCharacterClass (drop at text) name rest → IsSymbolEnd 58 text (at + 2 + length name)
class_ends text at name rest e =
    let behind = behind_name name 58 93 rest in
    let from = class_text text at name rest e in (
      read_at text (at + 2) (length name) _ from ∙ behind.0,
      subst (λ k. get_or text k 0 ≡ 93) (omega arith) (read_at text (at + 2) (suc (length name)) _ from ∙ behind.1),
    )

pub class_nowhere : (text : List ℕ) (at : ℕ) → ((k : ℕ) → at + 2 ≤ k → IsSymbolEnd 58 text k → ⊥) → (name rest : List ℕ)
    → IsCharacterClass (drop at text) name rest → ⊥
class_nowhere text at nowhere name rest e = nowhere (at + 2 + length name) (omega arith) (class_ends text at name rest e)

pub class_found : (text : List ℕ) (at p : ℕ) → Opens text at 58 → at + 2 ≤ p → p + 1 < length text → IsSymbolEnd 58 text p
    → IsCharacterClass (drop at text) (take (p - (at + 2)) (drop (at + 2) text)) (drop (p + 2) text)
class_found text at p o behind inside ends =
    let name = take (p - (at + 2)) (drop (at + 2) text) in
    let e0 = o.bracket.from in
    let e1 : drop (at + 1) text ≡ 58 ∷ drop (at + 2) text = o.marked.from ∙ ap (λ k. 58 ∷ drop k text) (omega arith) in
    let e2 : name ++ drop p text ≡ drop (at + 2) text =
    ap (λ t. name ++ t) (ap (λ k. drop k text) (omega arith) ∙ sym (drop-drop (p - (at + 2)) (at + 2) text))
    ∙ take-append-drop (p - (at + 2)) (drop (at + 2) text) in
    let e3 : drop p text ≡ 58 ∷ drop (p + 1) text = front text p (omega arith) ∙ ap (λ b. b ∷ drop (p + 1) text) ends.0 in
    let e4 : drop (p + 1) text ≡ 93 ∷ drop (p + 2) text = next text (p + 1) (p + 2) inside (omega arith) ∙ ap (λ b. b ∷ drop (p + 2) text) ends.1 in
    cc

pub class_unknown : (text : List ℕ) (at p : ℕ) → at + 2 ≤ p → IsSymbolEnd 58 text p
    → ((k : ℕ) → at + 2 ≤ k → k < p → IsSymbolEnd 58 text k → ⊥) → None ≡ class_named (take (p - (at + 2)) (drop (at + 2) text))
    → (name rest : List ℕ) (set : List Bool) → IsCharacterClass (drop at text) name rest → class_named name ≡ Some set → ⊥
class_unknown text at p behind ends first unknown name rest set e known = go (dec_lt p (at + 2 + length name)) (dec_lt (at + 2 + length name) p)
  where
    from : drop (at + 2) text ≡ name ++ 58 ∷ 93 ∷ rest
    from = class_text text at name rest e

    go : Dec (p < at + 2 + length name) → Dec (at + 2 + length name < p) → ⊥
    go (yes before) d =
        let i : ℕ = p - (at + 2) in
        inside_name name (58 ∷ 93 ∷ rest) i (no_colon name set known) (omega arith)
        (sym (read_at text (at + 2) i _ from) ∙ ap (λ k. get_or text k 0) (omega arith) ∙ ends.0)
    go (no a) (yes after) = first (at + 2 + length name) (omega arith) after (class_ends text at name rest e)
    go (no a) (no b) =
        let same : take (p - (at + 2)) (drop (at + 2) text) ≡ name =
        ap (λ t. take (p - (at + 2)) t) from ∙ take_at name (58 ∷ 93 ∷ rest) (p - (at + 2)) (omega arith) in
        let found : class_named (take (p - (at + 2)) (drop (at + 2) text)) ≡ Some set = rw same known in
        cc

no_range_end : (rest : List ℕ) → IsFalse (range_ahead (93 ∷ rest))
no_range_end [] = refl
no_range_end (b ∷ rest) = refl

-- a `-` right before the closing `]`
pub last_dash : (from rest : List ℕ) → from ≡ 45 ∷ rest → IsTrue (begins_with 93 rest) → SpellsItem false from rest (single 45)
last_dash from [] e h = absurd (cc)
last_dash from (b ∷ rest) e h =
    let closes : b ≡ 93 = eqb-true b 93 h in
    item.byte 45 e (record { bracket = λ f. absurd (omega (arith, f)); dash = λ _. h; opening = λ f. absurd (omega (arith, f)) })
    (subst (λ x. IsFalse (range_ahead (x ∷ rest))) (sym closes) (no_range_end rest)) refl

pub no_dash : (from rest : List ℕ) → from ≡ 45 ∷ rest → IsFalse (begins_with 93 rest) → (r : List ℕ) (s : List Bool) → SpellsItem false from r s → ⊥
no_dash from rest e h r s (item.byte x f stands ahead is) =
    let both = sym f ∙ e in
    let closed : IsTrue (begins_with 93 r) = stands.dash (head_of both) in
    let same : r ≡ rest = tail_of both in
    let open_end : IsFalse (begins_with 93 r) = rw same h in
    absurd (cc)
no_dash from rest e h r s (item.symbol x f ahead is) = absurd (omega (arith, head_of (sym f ∙ e)))
no_dash from rest e h r s (item.equivalence x f is) = absurd (omega (arith, head_of (sym f ∙ e)))
no_dash from rest e h r s (item.class name f is) = absurd (omega (arith, head_of (sym f ∙ e)))
no_dash from rest e h r s (item.range low high after (range_start.byte f a b) end order is) = absurd (let never = b (head_of (sym f ∙ e)) in cc)
no_dash from rest e h r s (item.range low high after (range_start.symbol f) end order is) = absurd (omega (arith, head_of (sym f ∙ e)))

-- a `-` that is the text's last byte makes no range
pub ahead_last : (text : List ℕ) (at : ℕ) → length text ≤ at + 1 → range_ahead (drop at text) ≡ false
ahead_last text at short = go (dec_lt at (length text))
  where
    one : (t : List ℕ) (b : ℕ) → t ≡ b ∷ [] → range_ahead t ≡ false
    one t b e = rw e refl

    go : Dec (at < length text) → range_ahead (drop at text) ≡ false
    go (yes inside) = one (drop at text) (get_or text at 0) (front text at inside ∙ ap (λ t. get_or text at 0 ∷ t) (drop_all (at + 1) text short))
    go (no outside) = rw (drop_all at text (omega arith)) refl

pub ahead_no_dash : (from : List ℕ) → begins_with 45 from ≡ false → range_ahead from ≡ false
ahead_no_dash [] h = refl
ahead_no_dash (b ∷ []) h = refl
ahead_no_dash (b ∷ c ∷ from) h = rw h refl

-- A `-` is at the offset, and a byte other than `]` follows it.
pub record IsAhead (text : List ℕ) (at : ℕ) : Type 0 where
  pub dash : Stands text at 45
  pub inside : at + 1 < length text
  pub open_end : get_or text (at + 1) 0 ≢ 93

pub IsAhead-range_ahead : (text : List ℕ) (at : ℕ) → IsTrue (range_ahead (drop at text)) → IsAhead text at
IsAhead-range_ahead text at h = go (dec_lt (at + 1) (length text))
  where
    go : Dec (at + 1 < length text) → IsAhead text at
    go (yes inside) =
        let two : drop at text ≡ get_or text at 0 ∷ get_or text (at + 1) 0 ∷ drop (at + 1 + 1) text =
        front text at (omega arith) ∙ ap (λ t. get_or text at 0 ∷ t) (front text (at + 1) inside) in
        let parts = and_parts (get_or text at 0 == 45) (not (get_or text (at + 1) 0 == 93)) (subst (λ t. IsTrue (range_ahead t)) two h) in
        record {
          dash = Stands-read text at 45 (omega arith) (eqb-true _ 45 parts.0);
          inside = inside;
          open_end = λ e. absurd (let closes : IsTrue (not (93 == 93)) = subst (λ b. IsTrue (not (b == 93))) e parts.1 in cc);
        }
    go (no outside) = absurd (let none : range_ahead (drop at text) ≡ false = ahead_last text at (omega arith) in cc)

pub end_found : (from : List ℕ) (high : ℕ) (rest : List ℕ) (closes : IsFalse (begins_with 93 from)) → IsPlain from
    → IsByteOrSymbol from high rest → IsRangeEnd from high rest
end_found from high rest closes plain (byte_or_symbol.byte e o) =
    range_end.byte e (λ f. absurd (let t : IsTrue (begins_with 93 from) = rw (e, f) refl in cc)) (plain_opens from high rest e plain o)
end_found from high rest closes plain (byte_or_symbol.symbol e) = range_end.symbol e

pub if_err_map : {T E : Type 0} (r : Result T E) (P Q : E → Type 0) → ((e : E) → P e → Q e) → IfErr r P → IfErr r Q
if_err_map (Ok x) P Q f p = tt
if_err_map (Err e) P Q f p = f e p

pub plain_from : (from : List ℕ) → false ≡ opens_with 58 from → false ≡ opens_with 61 from → IsPlain from
plain_from from a b = record { no_class = sym a; no_equivalence = sym b }

-- the first byte may stand for itself as far as `]` and `-` go
pub record MayBegin (first : Bool) (from : List ℕ) : Type 0 where
  pub no_end : IsTrue (begins_with 93 from) → IsTrue first
  pub no_dash : IsTrue (begins_with 45 from) → IsTrue first

begins_of : (from : List ℕ) (x b : ℕ) (rest : List ℕ) → from ≡ x ∷ rest → x ≡ b → IsTrue (begins_with b from)
begins_of from x b rest e f = rw (e, f) (first_begins b rest)

pub simple_item : (first : Bool) (from : List ℕ) (x : ℕ) (rest : List ℕ) (set : List Bool) → IsByteOrSymbol from x rest → IsPlain from
    → MayBegin first from → IsFalse (range_ahead rest) → set ≡ single x → SpellsItem first from rest set
simple_item first from x rest set (byte_or_symbol.byte e o) plain may ahead is =
    item.byte x e (record {
      bracket = λ f. may.no_end (begins_of from x 93 rest e f);
      dash = λ f. or_left first (begins_with 93 rest) (may.no_dash (begins_of from x 45 rest e f));
      opening = plain_opens from x rest e plain o;
    }) ahead is
simple_item first from x rest set (byte_or_symbol.symbol e) plain may ahead is = item.symbol x e ahead is

pub range_item : (first : Bool) (from : List ℕ) (low : ℕ) (after : List ℕ) (high : ℕ) (rest : List ℕ) (set : List Bool)
    → IsByteOrSymbol from low (45 ∷ after) → MayBegin first from → IsRangeEnd after high rest → low ≤ high → set ≡ bytes_between low high
    → SpellsItem first from rest set
range_item first from low after high rest set (byte_or_symbol.byte e o) may end order is =
    item.range low high after
    (range_start.byte e (λ f. may.no_end (begins_of from low 93 (45 ∷ after) e f))
    (λ f. may.no_dash (begins_of from low 45 (45 ∷ after) e f))) end order is
range_item first from low after high rest set (byte_or_symbol.symbol e) may end order is = item.range low high after (range_start.symbol e) end order is

pub no_low : (first : Bool) (from : List ℕ) → IsPlain from → ((x : ℕ) (rest : List ℕ) → IsByteOrSymbol from x rest → ⊥)
    → (r : List ℕ) (s : List Bool) → SpellsItem first from r s → ⊥
no_low first from plain none r s found = go (item_view first from r s found)
  where
    go : ItemView from r s → ⊥
    go (view.simple x a p ahead is) = none x r a
    go (view.ranged low high after a p ahead end order is) = none low (45 ∷ after) a
    go (view.equivalence x e is) = mark_clash from 61 0 _ e plain.no_equivalence
    go (view.class name e is) = mark_clash from 58 0 _ e plain.no_class

pub no_range : (first : Bool) (from : List ℕ) (low : ℕ) (after : List ℕ) → IsPlain from → IsByteOrSymbol from low (45 ∷ after)
    → IsTrue (range_ahead (45 ∷ after)) → ((high : ℕ) (rest : List ℕ) → IsRangeEnd after high rest → low ≤ high → ⊥)
    → (r : List ℕ) (s : List Bool) → SpellsItem first from r s → ⊥
no_range first from low after plain read ahead none r s found = go (item_view first from r s found)
  where
    go : ItemView from r s → ⊥
    go (view.simple x a p no_ahead is) =
        let same = one_byte_or_symbol from x low r (45 ∷ after) a read in
        absurd (let f : range_ahead (45 ∷ after) ≡ false = subst (λ v. range_ahead v ≡ false) same.1 no_ahead in cc)
    go (view.ranged low2 high after2 a p ahead2 end order is) =
        let same = one_byte_or_symbol from low2 low (45 ∷ after2) (45 ∷ after) a read in
        none high r (subst (λ v. IsRangeEnd v high r) (tail_of same.1) end) (subst (λ v. v ≤ high) same.0 order)
    go (view.equivalence x e is) = mark_clash from 61 0 _ e plain.no_equivalence
    go (view.class name e is) = mark_clash from 58 0 _ e plain.no_class

pub class_item : (first : Bool) (from rest : List ℕ) (set : List Bool)
    → (name : List ℕ) × IsCharacterClass from name rest × (class_named name ≡ Some set) → SpellsItem first from rest set
class_item first from rest set (name, e, known) = item.class name e known

-- If no item is next and no `]` either, no items end with `]`.
pub items_fail : (from middle : List ℕ) (set : List Bool) → SpellsItems true from middle set → IsFalse (begins_with 93 middle)
    → ((r : List ℕ) (s : List Bool) → SpellsItem false middle r s → ⊥) → (rest : List ℕ) (t : List Bool)
    → SpellsItems true from (93 ∷ rest) t → ⊥
items_fail from middle set read open_end none rest t whole = go (items_left true from middle rest set t read whole)
  where
    go : ((middle ≡ 93 ∷ rest) × (set ≡ t)) ⊎ ((u : List Bool) × SpellsItems false middle (93 ∷ rest) u) → ⊥
    go (inl e) = absurd (let closes : IsTrue (begins_with 93 middle) = rw e.0 (first_begins 93 rest) in cc)
    go (inr (u, items.last a)) = none (93 ∷ rest) u a
    go (inr (u, items.more {middle = m} {set = s} a b)) = none m s a

pub first_fails : (from : List ℕ) → ((r : List ℕ) (s : List Bool) → SpellsItem true from r s → ⊥) → (rest : List ℕ) (t : List Bool)
    → SpellsItems true from (93 ∷ rest) t → ⊥
first_fails from none rest t (items.last a) = none (93 ∷ rest) t a
first_fails from none rest t (items.more {middle = m} {set = s} a b) = none m s a

-- If the items after a `^` fail, so does the bracket expression.
pub hat_fails : {case : Case} → (from after : List ℕ) → from ≡ 94 ∷ after
    → ((rest : List ℕ) (t : List Bool) → SpellsItems true after (93 ∷ rest) t → ⊥) → (rest : List ℕ) (t : List Bool)
    → SpellsBracket case from rest t → ⊥
hat_fails from after e none rest t (brackets.matching m h a is) = absurd (let hat : IsTrue (begins_with 94 from) = rw e (first_begins 94 after) in cc)
hat_fails from after e none rest t (brackets.non_matching items others f a is) =
    none rest others (subst (λ v. SpellsItems true v (93 ∷ rest) others) (tail_of (sym f ∙ e)) a)

pub eqb_differs : (a b : ℕ) → a ≢ b → (a == b) ≡ false
eqb_differs a b h = grind (arith, nat_tests)

pub open_end_begins : (text : List ℕ) (at : ℕ) → at < length text → get_or text at 0 ≢ 93 → IsFalse (begins_with 93 (drop at text))
open_end_begins text at inside other = rw (front text at inside) (eqb_differs (get_or text at 0) 93 other)

pub may_begin_dash : (text : List ℕ) (at : ℕ) (first : Bool) → (IsTrue (begins_with 93 (drop at text)) → IsTrue first)
    → (first ≡ true) ⊎ (get_or text at 0 ≢ 45) → MayBegin first (drop at text)
may_begin_dash text at first no_end (inl is_first) = record { no_end = no_end; no_dash = λ _. is_first }
may_begin_dash text at first no_end (inr other) = record { no_end = no_end; no_dash = λ h. absurd (other (Stands-begins text at 45 h).is) }

-- what holds, for a result that may be an error that meets a condition
pub if_err_but : {T E : Type 0} (r : Result T E) (K : E → Type 0) (P : Type 0) → P → IfErr r (λ e. K e → P)
if_err_but (Ok x) K P p = tt
if_err_but (Err e) K P p = λ _. p
