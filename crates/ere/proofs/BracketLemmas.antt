-- Bracket expressions: each text has at most one at its front.
use Rattle.std.proofs.Common.{◌≡◌, ◌≢◌, ℕ, ◌≤◌, Bool, true, false, ◌&&◌, ◌||◌, ◌==◌, cond, IsTrue, IsFalse, List, [], ◌∷◌, ◌++◌, get_or}
use Rattle.std.proofs.Common.{Option, Some, refl, sym, ap, ◌∙◌, subst, arith, codes, inl, inr, ◌⊎◌}
use Rattle.std.specs.List.{AllByRecursion}
use Rattle.std.specs.Str.{bytes_eq}
use Rattle.std.proofs.lemmas.Slice.Eq.{bytes_eq-Decides}
use Rattle.std.proofs.lemmas.Bool.Decides.{nat_tests}
use Rattle.std.proofs.lemmas.Bool.{eqb-true}
use Rattle.ere.specs.ByteSet.{has, single, bytes_between, union, complement, is_line_byte}
use Rattle.ere.specs.Classes.{class_named}
use Rattle.ere.specs.declared.case.Case.{Case}
use Rattle.ere.specs.Letters.{read_in}
use Rattle.ere.specs.Brackets.{begins_with, range_ahead, opens_symbol, IsEquivalenceClass, IsCharacterClass, IsRangeStart, IsRangeEnd}
use Rattle.ere.specs.Brackets.{SpellsItem, SpellsItems, SpellsBracket}
use Rattle.ere.specs.Brackets.{IsRangeStart as range_start}
use Rattle.ere.specs.Brackets.{IsRangeEnd as range_end}
use Rattle.ere.specs.Brackets.{SpellsItem as item}
use Rattle.ere.specs.Brackets.{SpellsItems as items}
use Rattle.ere.specs.Brackets.{SpellsBracket as brackets}
use Rattle.ere.specs.Private.Reading.{opens_with, IsByteOrSymbol}
use Rattle.ere.specs.Private.Reading.{IsByteOrSymbol as byte_or_symbol}
use Rattle.ere.proofs.Texts.{first_begins}
use Rattle.ere.proofs.SetLemmas.{has-set_of, set_of-ext}

-- neither a class nor an equivalence class begins here
pub record IsPlain (from : List ℕ) : Type 0 where
  pub no_class : IsFalse (opens_with 58 from)
  pub no_equivalence : IsFalse (opens_with 61 from)

pub head_of : {x y : ℕ} {r q : List ℕ} → x ∷ r ≡ y ∷ q → x ≡ y
head_of e = ap (λ t. get_or t 0 0) e

-- how an item can begin, and what its set is then
pub data ItemView (from rest : List ℕ) (set : List Bool) : Type 0 where
  simple : (x : ℕ) → IsByteOrSymbol from x rest → IsPlain from → IsFalse (range_ahead rest) → set ≡ single x → ItemView from rest set
  ranged : (low high : ℕ) (after : List ℕ) → IsByteOrSymbol from low (45 ∷ after) → IsPlain from → IsTrue (range_ahead (45 ∷ after))
      → IsRangeEnd after high rest → low ≤ high → set ≡ bytes_between low high → ItemView from rest set
  equivalence : (x : ℕ) → IsEquivalenceClass from x rest → set ≡ single x → ItemView from rest set
  class : (name : List ℕ) → IsCharacterClass from name rest → class_named name ≡ Some set → ItemView from rest set

or_false : (a b c : Bool) → IsFalse (a || (b || c)) → (a ≡ false) × (b ≡ false) × (c ≡ false)
or_false false false false h = (refl, refl, refl)
or_false false false true h = absurd (cc)
or_false false true c h = absurd (cc)
or_false true b c h = absurd (cc)

and_false : (a b : Bool) → (a ≡ true → b ≡ false) → IsFalse (a && b)
and_false true b h = h refl
and_false false b h = refl

-- a byte that opens no symbol is plain
plain_byte : (x : ℕ) (rest : List ℕ) → (x ≡ 91 → IsFalse (opens_symbol rest)) → IsPlain (x ∷ rest)
plain_byte x rest h = record {
  no_class =
      and_false (x == 91) (begins_with 58 rest)
      (λ e. (or_false (begins_with 46 rest) (begins_with 61 rest) (begins_with 58 rest) (h (eqb-true x 91 e))).2);
  no_equivalence =
      and_false (x == 91) (begins_with 61 rest)
      (λ e. (or_false (begins_with 46 rest) (begins_with 61 rest) (begins_with 58 rest) (h (eqb-true x 91 e))).1);
}

plain_symbol : (x : ℕ) (rest : List ℕ) → IsPlain (91 ∷ 46 ∷ x ∷ rest)
plain_symbol x rest = record { no_class = refl; no_equivalence = refl }

byte_opens : (x : ℕ) (rest : List ℕ) → (x ≡ 91 → IsFalse (opens_symbol rest)) → x ≡ 91 → IsFalse (begins_with 46 rest)
byte_opens x rest h e = (or_false (begins_with 46 rest) (begins_with 61 rest) (begins_with 58 rest) (h e)).0

end_ahead : (after : List ℕ) (high : ℕ) (rest : List ℕ) → IsRangeEnd after high rest → IsTrue (range_ahead (45 ∷ after))
end_ahead after high rest (range_end.byte e no_end opens) = rw e (grind (arith, nat_tests))
end_ahead after high rest (range_end.symbol e) = rw e refl

start_byte_or_symbol : (first : Bool) (from : List ℕ) (x : ℕ) (after : List ℕ) → IsRangeStart first from x (45 ∷ after) → IsByteOrSymbol from x (45 ∷ after)
start_byte_or_symbol first from x after (range_start.byte e a b) = byte_or_symbol.byte e (λ _. refl)
start_byte_or_symbol first from x after (range_start.symbol e) = byte_or_symbol.symbol e

start_plain : (first : Bool) (from : List ℕ) (x : ℕ) (after : List ℕ) → IsRangeStart first from x (45 ∷ after) → IsPlain from
start_plain first from x after (range_start.byte e a b) = subst IsPlain (sym e) (plain_byte x (45 ∷ after) (λ _. refl))
start_plain first from x after (range_start.symbol e) = subst IsPlain (sym e) (plain_symbol x (46 ∷ 93 ∷ 45 ∷ after))

pub item_view : (first : Bool) (from rest : List ℕ) (set : List Bool) → SpellsItem first from rest set → ItemView from rest set
item_view first from rest set (item.byte x e stands ahead is) =
    simple x (byte_or_symbol.byte e (byte_opens x rest stands.opening)) (subst IsPlain (sym e) (plain_byte x rest stands.opening)) ahead is
item_view first from rest set (item.symbol x e ahead is) = simple x (byte_or_symbol.symbol e) (subst IsPlain (sym e) (plain_symbol x (46 ∷ 93 ∷ rest))) ahead is
item_view first from rest set (item.equivalence x e is) = equivalence x e is
item_view first from rest set (item.class name e is) = class name e is
item_view first from rest set (item.range low high after start end order is) =
    ranged low high after (start_byte_or_symbol first from low after start) (start_plain first from low after start)
    (end_ahead after high rest end) end order is

pub one_byte_or_symbol : (from : List ℕ) (x y : ℕ) (r q : List ℕ) → IsByteOrSymbol from x r → IsByteOrSymbol from y q → (x ≡ y) × (r ≡ q)
one_byte_or_symbol from x y r q (byte_or_symbol.byte e a) (byte_or_symbol.byte f b) = (cc, cc)
one_byte_or_symbol from x y r q (byte_or_symbol.byte e a) (byte_or_symbol.symbol f) =
    let opens : r ≡ 46 ∷ y ∷ 46 ∷ 93 ∷ q = cc in
    let no_symbol : false ≡ begins_with 46 r = sym (a cc) in absurd (let t : begins_with 46 r ≡ true = rw opens refl in cc)
one_byte_or_symbol from x y r q (byte_or_symbol.symbol e) (byte_or_symbol.byte f b) =
    let opens : q ≡ 46 ∷ x ∷ 46 ∷ 93 ∷ r = cc in
    let no_symbol : false ≡ begins_with 46 q = sym (b cc) in absurd (let t : begins_with 46 q ≡ true = rw opens refl in cc)
one_byte_or_symbol from x y r q (byte_or_symbol.symbol e) (byte_or_symbol.symbol f) = (cc, cc)

pub range_end_is : (from : List ℕ) (x : ℕ) (rest : List ℕ) → IsRangeEnd from x rest → IsByteOrSymbol from x rest
range_end_is from x rest (range_end.byte e a b) = byte_or_symbol.byte e (byte_opens x rest b)
range_end_is from x rest (range_end.symbol e) = byte_or_symbol.symbol e

-- a name of a class has no `:`
abbrev pub NoColon : List ℕ → Type 0
NoColon name = AllByRecursion (λ b. b ≢ 58) name

chosen : (b : Bool) (x : List Bool) (y : Option (List Bool)) (set : List Bool) → cond b (Some x) y ≡ Some set → (b ≡ true) ⊎ (y ≡ Some set)
chosen true x y set e = inl refl
chosen false x y set e = inr e

walk : (name known : List ℕ) (x : List Bool) (y : Option (List Bool)) (set : List Bool) → NoColon known → (y ≡ Some set → NoColon name)
    → cond (bytes_eq name known) (Some x) y ≡ Some set → NoColon name
walk name known x y set clean others e = go (chosen (bytes_eq name known) x y set e)
  where
    go : (bytes_eq name known ≡ true) ⊎ (y ≡ Some set) → NoColon name
    go (inl same) = subst NoColon (sym ((bytes_eq-Decides name known).0 same)) clean
    go (inr f) = others f

pub no_colon : (name : List ℕ) (set : List Bool) → class_named name ≡ Some set → NoColon name
unfolding class_named
no_colon name set e =
    walk name (codes "upper") _ _ set (omega arith) (λ eupper.
    walk name (codes "lower") _ _ set (omega arith) (λ elower.
    walk name (codes "alpha") _ _ set (omega arith) (λ ealpha.
    walk name (codes "digit") _ _ set (omega arith) (λ edigit.
    walk name (codes "alnum") _ _ set (omega arith) (λ ealnum.
    walk name (codes "xdigit") _ _ set (omega arith) (λ exdigit.
    walk name (codes "punct") _ _ set (omega arith) (λ epunct.
    walk name (codes "graph") _ _ set (omega arith) (λ egraph.
    walk name (codes "print") _ _ set (omega arith) (λ eprint.
    walk name (codes "blank") _ _ set (omega arith) (λ eblank.
    walk name (codes "space") _ _ set (omega arith)
    (λ espace. walk name (codes "cntrl") _ _ set (omega arith) (λ none. absurd (cc)) espace)
    eblank) eprint) egraph) epunct) exdigit) ealnum) edigit) ealpha) elower) eupper) e

-- Only one name without a `:` is before the first `:` of a text.
pub one_name : (n m r q : List ℕ) → NoColon n → NoColon m → n ++ 58 ∷ r ≡ m ++ 58 ∷ q → (n ≡ m) × (r ≡ q)
one_name [] [] r q a b e = (refl, cc)
one_name [] (y ∷ m) r q a b e = absurd (b.0 cc)
one_name (x ∷ n) [] r q a b e = absurd (a.0 cc)
one_name (x ∷ n) (y ∷ m) r q a b e =
    let rest = one_name n m r q a.1 b.1 cc in
    let first : x ≡ y = cc in
    let others = rest.0 in
    (cc, rest.1)

-- A text that begins with `[` and a mark opens with that mark and no other.
pub mark_clash : (from : List ℕ) (a b : ℕ) (more : List ℕ) → from ≡ 91 ∷ a ∷ more → IsFalse (opens_with a from) → ⊥
mark_clash from a b more e h = let t : IsTrue (opens_with a from) = rw e (first_begins a more) in cc

mark_other : (from : List ℕ) (a b : ℕ) (more rest : List ℕ) → from ≡ 91 ∷ a ∷ more → from ≡ 91 ∷ b ∷ rest → a ≢ b → ⊥
mark_other from a b more rest e f h = h cc

pub one_view : (from r q : List ℕ) (s t : List Bool) → ItemView from r s → ItemView from q t → (r ≡ q) × (s ≡ t)
one_view from r q s t (simple x a p ahead is) (simple y b p2 ahead2 is2) =
    let same = one_byte_or_symbol from x y r q a b in (same.1, is ∙ ap single same.0 ∙ sym is2)
one_view from r q s t (simple x a p ahead is) (ranged low high after b p2 ahead2 end order is2) =
    let same = one_byte_or_symbol from x low r (45 ∷ after) a b in
    absurd (let f : range_ahead (45 ∷ after) ≡ false = subst (λ v. range_ahead v ≡ false) same.1 ahead in cc)
one_view from r q s t (simple x a p ahead is) (equivalence y e is2) = absurd (mark_clash from 61 0 _ e p.no_equivalence)
one_view from r q s t (simple x a p ahead is) (class name e is2) = absurd (mark_clash from 58 0 _ e p.no_class)
one_view from r q s t (ranged low high after b p2 ahead2 end order is2) (simple x a p ahead is) =
    let same = one_byte_or_symbol from x low q (45 ∷ after) a b in
    absurd (let f : range_ahead (45 ∷ after) ≡ false = subst (λ v. range_ahead v ≡ false) same.1 ahead in cc)
one_view from r q s t (ranged low high after b p2 ahead2 end order is2) (ranged low2 high2 after2 b2 p3 ahead3 end2 order2 is3) =
    let same = one_byte_or_symbol from low low2 (45 ∷ after) (45 ∷ after2) b b2 in
    let tails : after ≡ after2 = let whole = same.1 in cc in
    let ends =
    one_byte_or_symbol after high high2 r q (range_end_is after high r end)
    (subst (λ v. IsByteOrSymbol v high2 q) (sym tails) (range_end_is after2 high2 q end2)) in
    (ends.1, is2 ∙ ap (λ v. bytes_between v high) same.0 ∙ ap (bytes_between low2) ends.0 ∙ sym is3)
one_view from r q s t (ranged low high after b p2 ahead2 end order is2) (equivalence y e is3) = absurd (mark_clash from 61 0 _ e p2.no_equivalence)
one_view from r q s t (ranged low high after b p2 ahead2 end order is2) (class name e is3) = absurd (mark_clash from 58 0 _ e p2.no_class)
one_view from r q s t (equivalence y e is2) (simple x a p ahead is) = absurd (mark_clash from 61 0 _ e p.no_equivalence)
one_view from r q s t (equivalence y e is2) (ranged low high after b p2 ahead2 end order is3) = absurd (mark_clash from 61 0 _ e p2.no_equivalence)
one_view from r q s t (equivalence x e is) (equivalence y f is2) = let same : x ≡ y = cc in (cc, is ∙ ap single same ∙ sym is2)
one_view from r q s t (equivalence x e is) (class name f is2) = absurd (mark_other from 61 58 _ _ e f (omega arith))
one_view from r q s t (class name f is2) (simple x a p ahead is) = absurd (mark_clash from 58 0 _ f p.no_class)
one_view from r q s t (class name f is2) (ranged low high after b p2 ahead2 end order is3) = absurd (mark_clash from 58 0 _ f p2.no_class)
one_view from r q s t (class name f is2) (equivalence x e is) = absurd (mark_other from 61 58 _ _ e f (omega arith))
one_view from r q s t (class name e is) (class other f is2) =
    let same = one_name name other (93 ∷ r) (93 ∷ q) (no_colon name s is) (no_colon other t is2) cc in
    let found : class_named name ≡ Some t = rw same.0 is2 in
    let rest = same.1 in
    (cc, cc)

pub one_item : (first : Bool) (from r q : List ℕ) (s t : List Bool) → SpellsItem first from r s → SpellsItem first from q t → (r ≡ q) × (s ≡ t)
one_item first from r q s t a b = one_view from r q s t (item_view first from r s a) (item_view first from q t b)

-- no item but the first begins with `]`
pub no_item : (rest r : List ℕ) (set : List Bool) → SpellsItem false (93 ∷ rest) r set → ⊥
no_item rest r set (item.byte x e stands ahead is) = absurd (let never = stands.bracket (sym (head_of e)) in cc)
no_item rest r set (item.symbol x e ahead is) = absurd (omega (arith, head_of e))
no_item rest r set (item.equivalence x e is) = absurd (omega (arith, head_of e))
no_item rest r set (item.class name e is) = absurd (omega (arith, head_of e))
no_item rest r set (item.range low high after (range_start.byte e a b) end order is) = absurd (let never = a (sym (head_of e)) in cc)
no_item rest r set (item.range low high after (range_start.symbol e) end order is) = absurd (omega (arith, head_of e))

pub no_items : (rest r : List ℕ) (set : List Bool) → SpellsItems false (93 ∷ rest) r set → ⊥
no_items rest r set (items.last a) = no_item rest r set a
no_items rest r set (items.more {middle = m} {set = s} a b) = no_item rest m s a

has_union : (l a b c : Bool) → (l && (a || (l && (b || c)))) ≡ (l && ((l && (a || b)) || c))
has_union true true b c = refl
has_union true false b c = refl
has_union false a b c = refl

pub union-assoc : (a b c : List Bool) → union a (union b c) ≡ union (union a b) c
union-assoc a b c =
    set_of-ext _ _ (λ x.
    ap (λ v. is_line_byte x && (has a x || v)) (has-set_of (λ y. has b y || has c y) x)
    ∙ has_union (is_line_byte x) (has a x) (has b x) (has c x)
    ∙ ap (λ v. is_line_byte x && (v || has c x)) (sym (has-set_of (λ y. has a y || has b y) x)))

-- one item more at the end
pub items_push : (first : Bool) (from middle rest : List ℕ) (s t : List Bool) → SpellsItems first from middle s
    → SpellsItem false middle rest t → SpellsItems first from rest (union s t)
items_push first from middle rest s t (items.last a) b = items.more a (items.last b)
items_push first from middle rest s t (items.more {middle = m} {set = u} {others = v} a c) b =
    subst (SpellsItems first from rest) (union-assoc u v t) (items.more a (items_push false m middle rest v t c b))

-- Where items have been read up to a place, all items that end with `]` end there or go on from there.
pub items_left : (first : Bool) (from middle rest : List ℕ) (s t : List Bool) → SpellsItems first from middle s
    → SpellsItems first from (93 ∷ rest) t → ((middle ≡ 93 ∷ rest) × (s ≡ t)) ⊎ ((u : List Bool) × SpellsItems false middle (93 ∷ rest) u)
items_left first from middle rest s t (items.last a) (items.last b) = inl (one_item first from middle (93 ∷ rest) s t a b)
items_left first from middle rest s t (items.last a) (items.more {middle = m} {set = u} {others = v} b c) =
    let same = one_item first from middle m s u a b in inr (v, subst (λ w. SpellsItems false w (93 ∷ rest) v) (sym same.0) c)
items_left first from middle rest s t (items.more {middle = m} {set = u} {others = v} a c) (items.last b) =
    let same = one_item first from m (93 ∷ rest) u t a b in
    absurd (no_items rest middle v (subst (λ w. SpellsItems false w middle v) same.0 c))
items_left first from middle rest s t (items.more {middle = m} {set = u} {others = v} a c) (items.more {middle = k} {set = x} {others = y} b d) =
    let same = one_item first from m k u x a b in
    go (items_left false m middle rest v y c (subst (λ w. SpellsItems false w (93 ∷ rest) y) (sym same.0) d)) same.1
  where
    go : ((middle ≡ 93 ∷ rest) × (v ≡ y)) ⊎ ((z : List Bool) × SpellsItems false middle (93 ∷ rest) z) → u ≡ x
        → ((middle ≡ 93 ∷ rest) × (union u v ≡ union x y)) ⊎ ((z : List Bool) × SpellsItems false middle (93 ∷ rest) z)
    go (inl e) f = inl (e.0, ap (λ w. union w v) f ∙ ap (union x) e.1)
    go (inr z) f = inr z

pub one_items : (first : Bool) (from r q : List ℕ) (s t : List Bool) → SpellsItems first from (93 ∷ r) s → SpellsItems first from (93 ∷ q) t → (r ≡ q) × (s ≡ t)
one_items first from r q s t a b = go (items_left first from (93 ∷ r) q s t a b)
  where
    go : ((93 ∷ r ≡ 93 ∷ q) × (s ≡ t)) ⊎ ((u : List Bool) × SpellsItems false (93 ∷ r) (93 ∷ q) u) → (r ≡ q) × (s ≡ t)
    go (inl e) = let whole = e.0 in (cc, e.1)
    go (inr (u, c)) = absurd (no_items r (93 ∷ q) u c)

no_hat : (items : List ℕ) → IsFalse (begins_with 94 (94 ∷ items)) → ⊥
no_hat items h = absurd (cc)

pub one_bracket : {case : Case} → (from r q : List ℕ) (s t : List Bool) → SpellsBracket case from r s → SpellsBracket case from q t → (r ≡ q) × (s ≡ t)
one_bracket {case} from r q s t (brackets.matching m h a is) (brackets.matching n k b is2) =
    let found = one_items true from r q m n a b in
    (found.0, is ∙ ap (read_in case) found.1 ∙ sym is2)
one_bracket from r q s t (brackets.matching m h a is0) (brackets.non_matching i o e b is) = absurd (no_hat i (subst (λ v. IsFalse (begins_with 94 v)) e h))
one_bracket from r q s t (brackets.non_matching i o e b is) (brackets.matching m h a is0) = absurd (no_hat i (subst (λ v. IsFalse (begins_with 94 v)) e h))
one_bracket {case} from r q s t (brackets.non_matching i o e b is) (brackets.non_matching j p f c is2) =
    let same : i ≡ j = cc in
    let found = one_items true i r q o p b (subst (λ v. SpellsItems true v (93 ∷ q) p) (sym same) c) in
    (found.0, is ∙ ap (λ v. complement (read_in case v)) found.1 ∙ sym is2)

or_falls : (a b c : Bool) → a ≡ false → b ≡ false → c ≡ false → IsFalse (a || (b || c))
or_falls false false false e f g = refl
or_falls true b c e f g = absurd (cc)
or_falls false true c e f g = absurd (cc)
or_falls false false true e f g = absurd (cc)

-- a plain byte that opens no collating symbol opens no symbol
pub plain_opens : (from : List ℕ) (x : ℕ) (rest : List ℕ) → from ≡ x ∷ rest → IsPlain from → (x ≡ 91 → IsFalse (begins_with 46 rest))
    → x ≡ 91 → IsFalse (opens_symbol rest)
plain_opens from x rest e plain o f =
    let no_class : begins_with 58 rest ≡ false =
    let h : IsFalse (opens_with 58 (91 ∷ rest)) = subst (λ t. IsFalse (opens_with 58 t)) (e ∙ ap (λ b. b ∷ rest) f) plain.no_class in
    h in
    let no_equivalence : begins_with 61 rest ≡ false =
    let h : IsFalse (opens_with 61 (91 ∷ rest)) =
    subst (λ t. IsFalse (opens_with 61 t)) (e ∙ ap (λ b. b ∷ rest) f) plain.no_equivalence in
    h in
    or_falls (begins_with 46 rest) (begins_with 61 rest) (begins_with 58 rest) (o f) no_equivalence no_class
