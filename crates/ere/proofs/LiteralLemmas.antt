-- Texts as patterns: their trees, and the words of these.
use Rattle.std.proofs.Common.{◌≡◌, ℕ, suc, ◌+◌, ◌-◌, ◌<◌, ◌≤◌, Bool, true, false, ◌&&◌, ◌||◌, ◌==◌, ◌↔◌, IsTrue, List, [], ◌∷◌, ◌++◌, length}
use Rattle.std.proofs.Common.{lit≤, map, ◌⊎◌, inl, inr, refl, sym, ap, ◌∙◌, subst, arith, get_or, take, Result, Ok, Err, IfOk}
use Rattle.std.proofs.lemmas.Bool.Decides.{nat_tests}
use Rattle.std.proofs.lemmas.List.{append-nil, take_more}
use Rattle.ere.specs.ByteSet.{has, is_line_byte, single}
use Rattle.ere.specs.Classes.{is_lower, is_upper}
use Rattle.ere.specs.Language.{InEach, InLanguage}
use Rattle.ere.specs.Letters.{other_case, read_in}
use Rattle.ere.specs.Limits.{height, highest, leaves, leaves_in, AreProper, IsProper, IsWithinLimits}
use Rattle.ere.specs.Literal.{folded, literal_tree, sets_of, IsPatternText, IsSameText}
use Rattle.ere.specs.Spelling.{branch_of}
use Rattle.ere.specs.Private.Reading.{join}
use Rattle.ere.specs.Tree.{Tree, Trees, cat, empty, form, more, none, set}
use Rattle.ere.specs.declared.error.EreError.{EreError}
use Rattle.ere.specs.declared.tree.Ere.{Ere}
use Rattle.ere.specs.declared.tree.Ere.TheVariants.{Set}
use Rattle.ere.specs.declared.case.Case.{Case}
use Rattle.ere.specs.declared.case.Case.TheVariants.{Exact, Ignore}
use Rattle.ere.proofs.Forms.{form-Set}
use Rattle.ere.proofs.PartLemmas.{join-forms}
use Rattle.ere.proofs.SetLemmas.{has-set_of}
use Rattle.ere.proofs.Sizes.{forms}
use Rattle.ere.proofs.LetterLemmas.{lower_is, other_case_line, upper_is}

-- The two bytes are equal, or they are the two cases of a letter.
same_or_other : (b c : ℕ) → folded Ignore b ≡ folded Ignore c → (c ≡ b) ⊎ (other_case c ≡ b)
same_or_other b c e = go (is_upper b) refl (is_upper c) refl e
  where
    go : (u : Bool) → is_upper b ≡ u → (v : Bool) → is_upper c ≡ v → folded Ignore b ≡ folded Ignore c → (c ≡ b) ⊎ (other_case c ≡ b)
    go true p true q e = inl (let same : b + 32 ≡ c + 32 = rw (p, q) at e in omega arith)
    go true p false q e =
        let same : b + 32 ≡ c = rw (p, q) at e in
        let low : 65 ≤ b = grind (arith, nat_tests) in
        let high : b ≤ 90 = grind (arith, nat_tests) in
        inr (lower_is c (omega arith) (omega arith) ∙ omega arith)
    go false p true q e =
        let same : b ≡ c + 32 = rw (p, q) at e in
        inr (upper_is c (grind (arith, nat_tests)) (grind (arith, nat_tests)) ∙ sym same)
    go false p false q e = inl (let same : b ≡ c = rw (p, q) at e in sym same)

folded-other_case : (b : ℕ) → folded Ignore (other_case b) ≡ folded Ignore b
folded-other_case b = go (is_upper b) refl (is_lower b) refl
  where
    go : (u : Bool) → is_upper b ≡ u → (l : Bool) → is_lower b ≡ l → folded Ignore (other_case b) ≡ folded Ignore b
    go true p l q =
        let low : 65 ≤ b = grind (arith, nat_tests) in
        let high : b ≤ 90 = grind (arith, nat_tests) in
        let small : is_upper (b + 32) ≡ false = grind (arith, nat_tests) in
        ap (folded Ignore) (upper_is b low high) ∙ rw (small, p) refl
    go false p true q =
        let low : 97 ≤ b = grind (arith, nat_tests) in
        let high : b ≤ 122 = grind (arith, nat_tests) in
        let large : is_upper (b - 32) ≡ true = grind (arith, nat_tests) in
        let back : b - 32 + 32 ≡ b = omega arith in
        ap (folded Ignore) (lower_is b low high) ∙ rw (large, p) back
    go false p false q = rw (p, q) (rw p refl)

has-single : (b c : ℕ) → IsTrue (has (single b) c) ↔ (IsTrue (is_line_byte c) × (c ≡ b))
has-single b c = (λ h. of (is_line_byte c) (c == b) refl (sym (has-set_of (λ x. x == b) c) ∙ h), λ h. has-set_of (λ x. x == b) c ∙ to h.0 h.1)
  where
    of : (l t : Bool) → (c == b) ≡ t → IsTrue (l && t) → IsTrue l × (c ≡ b)
    of true true e h = (refl, grind (arith, nat_tests))
    of true false e h = absurd (cc)
    of false t e h = absurd (cc)

    to : IsTrue (is_line_byte c) → c ≡ b → IsTrue (is_line_byte c && c == b)
    to line e = let same : (c == b) ≡ true = grind (arith, nat_tests) in rw (line, same) refl

-- A byte is in the set of a byte of a text exactly if the two are the same when folded.
same_byte : (case : Case) (b c : ℕ) → IsTrue (is_line_byte b) → IsTrue (has (read_in case (single b)) c) ↔ (folded case b ≡ folded case c)
same_byte Exact b c line = (λ h. let one = (has-single b c).0 h in sym one.1, λ e. (has-single b c).1 (ap is_line_byte (sym e) ∙ line, sym e))
same_byte Ignore b c line =
    (λ h. of (is_line_byte c) (has (single b) c) (has (single b) (other_case c)) refl refl (sym closed-is ∙ h), λ e. closed-is ∙ to (same_or_other b c e))
  where
    closed-is : has (read_in Ignore (single b)) c ≡ (is_line_byte c && (has (single b) c || has (single b) (other_case c)))
    closed-is = has-set_of (λ x. has (single b) x || has (single b) (other_case x)) c

    of : (l s t : Bool) → has (single b) c ≡ s → has (single b) (other_case c) ≡ t → IsTrue (l && (s || t)) → folded Ignore b ≡ folded Ignore c
    of true true t p q h = ap (folded Ignore) (sym ((has-single b c).0 p).1)
    of true false true p q h = ap (folded Ignore) (sym ((has-single b (other_case c)).0 q).1) ∙ folded-other_case c
    of true false false p q h = absurd (cc)
    of false s t p q h = absurd (cc)

    left_in : (l s t : Bool) → l ≡ true → s ≡ true → (l && (s || t)) ≡ true
    left_in true true t p q = refl
    left_in true false t p q = absurd (cc)
    left_in false s t p q = absurd (cc)

    right_in : (l s t : Bool) → l ≡ true → t ≡ true → (l && (s || t)) ≡ true
    right_in true true t p q = refl
    right_in true false t p q = q
    right_in false s t p q = absurd (cc)

    to : (c ≡ b) ⊎ (other_case c ≡ b) → IsTrue (is_line_byte c && (has (single b) c || has (single b) (other_case c)))
    to (inl e) =
        let is_line : is_line_byte c ≡ true = ap is_line_byte e ∙ line in
        left_in _ _ _ is_line ((has-single b c).1 (is_line, e))
    to (inr e) =
        let is_line : is_line_byte c ≡ true = sym (other_case_line c) ∙ ap is_line_byte e ∙ line in
        right_in _ _ _ is_line ((has-single b (other_case c)).1 (ap is_line_byte e ∙ line, e))

-- All bytes of the text are line bytes.
abbrev AllLine : List ℕ → Type 0
AllLine text = (k : ℕ) → k < length text → IsTrue (is_line_byte (get_or text k 0))

first_line : (b : ℕ) (text : List ℕ) → AllLine (b ∷ text) → IsTrue (is_line_byte b)
first_line b text all = all 0 (omega arith)

other_lines : (b : ℕ) (text : List ℕ) → AllLine (b ∷ text) → AllLine text
other_lines b text all k inside = all (suc k) (omega arith)

each_of_same : (case : Case) (text before word after : List ℕ) → AllLine text → IsSameText case text word → InEach (sets_of case text) before word after
unfolding InEach InLanguage
each_of_same case [] before [] after all e = refl
each_of_same case [] before (c ∷ word) after all e = absurd (cc)
each_of_same case (b ∷ text) before [] after all e = absurd (cc)
each_of_same case (b ∷ text) before (c ∷ word) after all e =
    let same : folded case b ≡ folded case c = cc in
    let others : IsSameText case text word = cc in (
      c ∷ [],
      word,
      refl,
      (c, refl, (same_byte case b c (first_line b text all)).1 same),
      each_of_same case text (before ++ c ∷ []) word after (other_lines b text all) others,
    )

same_of_each : (case : Case) (text before word after : List ℕ) → AllLine text → InEach (sets_of case text) before word after → IsSameText case text word
unfolding InEach InLanguage
same_of_each case [] before word after all h = ap (map (folded case)) (sym h)
same_of_each case (b ∷ text) before word after all h =
    let same = (same_byte case b h.3.0 (first_line b text all)).0 h.3.2 in
    let others = same_of_each case text (before ++ h.0) h.1 after (other_lines b text all) h.4 in
    let is_word : word ≡ h.3.0 ∷ h.1 = h.2 ∙ ap (λ t. t ++ h.1) h.3.1 in
    ap (λ t. t ∷ map (folded case) text) same ∙ ap (λ t. folded case h.3.0 ∷ t) others ∙ ap (map (folded case)) (sym is_word)

-- The words of a branch are the words of its pieces, one after the other.
branch_of_each : (trees : Trees) (before word after : List ℕ) → InEach trees before word after → InLanguage (branch_of trees) before word after
unfolding InEach InLanguage
branch_of_each none before word after h = h
branch_of_each (more a none) before word after h =
    let whole : h.0 ≡ word = sym (h.2 ∙ ap (λ t. h.0 ++ t) h.4 ∙ append-nil h.0) in
    subst (λ t. InLanguage a before t after) whole (subst (λ t. InLanguage a before h.0 (t ++ after)) h.4 h.3)
branch_of_each (more a (more b trees)) before word after h = h

each_of_branch : (trees : Trees) (before word after : List ℕ) → InLanguage (branch_of trees) before word after → InEach trees before word after
unfolding InEach InLanguage
each_of_branch none before word after h = h
each_of_branch (more a none) before word after h = (word, [], sym (append-nil word), h, refl)
each_of_branch (more a (more b trees)) before word after h = h

pub literal_words : (case : Case) (text before word after : List ℕ) → IsPatternText text
    → InLanguage (literal_tree case text) before word after ↔ IsSameText case text word
literal_words case text before word after allowed = (
  λ h. same_of_each case text before word after allowed.line_bytes (each_of_branch (sets_of case text) before word after h),
  λ e. branch_of_each (sets_of case text) before word after (each_of_same case text before word after allowed.line_bytes e),
)

sets_proper : (case : Case) (text : List ℕ) → AreProper (sets_of case text)
unfolding AreProper IsProper
sets_proper case [] = tt
sets_proper case (b ∷ text) = (tt, sets_proper case text)

sets_low : (case : Case) (text : List ℕ) → highest (sets_of case text) ≤ 1
unfolding highest height
sets_low case [] = omega arith
sets_low case (b ∷ text) = let others = sets_low case text in omega (arith, others)

sets_counted : (case : Case) (text : List ℕ) → leaves_in (sets_of case text) ≡ length text
unfolding leaves_in leaves
sets_counted case [] = refl
sets_counted case (b ∷ text) = let others = sets_counted case text in omega (arith, others)

pub literal_within : (case : Case) (text : List ℕ) → IsPatternText text → IsWithinLimits (literal_tree case text)
unfolding IsProper AreProper height leaves leaves_in
literal_within case [] allowed = record { proper = tt; low = lit≤ tt; small = lit≤ tt }
literal_within case (b ∷ []) allowed = record { proper = tt; low = lit≤ tt; small = lit≤ tt }
literal_within case (b ∷ c ∷ text) allowed =
    let proper = sets_proper case (b ∷ c ∷ text) in
    let low = sets_low case (b ∷ c ∷ text) in
    let counted = sets_counted case (b ∷ c ∷ text) in
    record { proper = (tt, proper); low = omega (arith, low); small = omega (arith, counted, allowed.short) }

-- The tree of a text by its length.
pub literal_none : (case : Case) (text : List ℕ) → length text < 1 → literal_tree case text ≡ empty
literal_none case [] h = refl
literal_none case (b ∷ text) h = absurd (omega arith)

pub literal_one : (case : Case) (text : List ℕ) → 1 ≤ length text → length text < 2 → literal_tree case text ≡ set (read_in case (single (get_or text 0 0)))
literal_one case [] h k = absurd (omega arith)
literal_one case (b ∷ []) h k = refl
literal_one case (b ∷ c ∷ text) h k = absurd (omega arith)

pub literal_more : (case : Case) (text : List ℕ) → 2 ≤ length text → literal_tree case text ≡ cat (sets_of case text)
literal_more case [] h = absurd (omega arith)
literal_more case (b ∷ []) h = absurd (omega arith)
literal_more case (b ∷ c ∷ text) h = refl

-- one more byte of a text
sets_of-push : (case : Case) (text : List ℕ) (b : ℕ) → sets_of case (text ++ b ∷ []) ≡ join (sets_of case text) (more (set (read_in case (single b))) none)
sets_of-push case [] b = refl
sets_of-push case (a ∷ text) b = ap (more (set (read_in case (single a)))) (sets_of-push case text b)

pub sets_more : (case : Case) (text : List ℕ) (i : ℕ) (sets more_sets : List Ere) (members : List Bool) → i < length text
    → forms sets ≡ sets_of case (take i text) → members ≡ read_in case (single (get_or text i 0)) → more_sets ≡ sets ++ Set members ∷ []
    → forms more_sets ≡ sets_of case (take (i + 1) text)
sets_more case text i sets more_sets members inside so_far is pushed =
    ap forms pushed ∙ join-forms sets (Set members) ∙ ap (λ t. join t (more (form (Set members)) none)) so_far
    ∙ ap (λ t. join (sets_of case (take i text)) (more t none)) (form-Set members ∙ ap set is)
    ∙ sym (sets_of-push case (take i text) (get_or text i 0)) ∙ ap (sets_of case) (sym (take_more text i 0 inside))

-- what a text's tree is, and that it is within the limits
pub if_literal : (case : Case) (text : List ℕ) (result : Result Ere EreError) (P : Tree → Type 0) → P (literal_tree case text)
    → IfOk result (λ e. form e ≡ literal_tree case text) → IfOk result (λ e. P (form e))
if_literal case text (Ok e) P known is = subst P (sym is) known
if_literal case text (Err error) P known is = tt
