-- A line that contains a match of an anchored tree begins with the tree's text.
use Rattle.std.proofs.Common.{◌≡◌, ℕ, zero, suc, ◌+◌, ◌-◌, ◌<◌, ◌≤◌, ◌≢◌, ◌==◌, ◌||◌, ◌&&◌, not, ◌⊎◌, inl, inr, Bool, true, false, cond, IsTrue}
use Rattle.std.proofs.Common.{List, [], ◌∷◌, ◌++◌, map, length, take, drop, get_or, Option, Some, None, refl, sym, ◌∙◌, ap, subst, arith, append_assoc}
use Rattle.std.specs.Prelude.{filter, nat_lt, slice_index_or}
use Rattle.std.specs.List.{list_any, range_with_len}
use Rattle.std.proofs.Math.Seq.{take-append_seam}
use Rattle.std.proofs.lemmas.Bool.{false≢true, true≢false, cases_eq}
use Rattle.std.proofs.lemmas.Bool.Decides.{nat_tests}
use Rattle.std.proofs.lemmas.List.{append-nil, at_drop_more, at_drop_all}
use Rattle.std.specs.declared.alloc.Global.{Global}
use Rattle.std.specs.declared.vec.Vec.{Vec}
use Rattle.ere.specs.declared.tree.Ere.{Ere}
use Rattle.ere.specs.declared.tree.Ere.TheVariants.{Cat}
use Rattle.ere.proofs.Forms.{form-Cat}
use Rattle.ere.specs.ByteSet.{has}
use Rattle.ere.specs.Language.{InLanguage, InEach, ContainsMatch}
use Rattle.ere.specs.Tree.{Tree, empty, set, at_start, at_end, cat, alt, repeat, Trees, none, more, trees_of, form}
use Rattle.prepare.specs.Anchored.{anchored_text, and_then, byte_of, bytes_after_start, bytes_in, leading_bytes, only}

-- ---- the only byte of a set

abbrev pub listed : Option ℕ → List ℕ
listed None = []
listed (Some b) = b ∷ []

pub bytes_from : (ℕ → Bool) → ℕ → List ℕ
bytes_from test i = filter test (range_with_len i (256 - i))

pub bytes_start : (members : List Bool) → bytes_from (has members) 0 ≡ bytes_in members
unfolding bytes_from bytes_in
bytes_start members = refl

bytes_step : (test : ℕ → Bool) (i : ℕ) → i < 256 → bytes_from test i ≡ cond (test i) (i ∷ bytes_from test (i + 1)) (bytes_from test (i + 1))
unfolding bytes_from
bytes_step test i below =
    let more : 256 - i ≡ suc (256 - (i + 1)) = omega arith in
    ap (λ n. filter test (range_with_len i n)) more

pub only-first : (test : ℕ → Bool) (i : ℕ) (whole : List ℕ) → i < 256 → test i ≡ true → bytes_from test i ≡ whole → i ∷ bytes_from test (i + 1) ≡ whole
only-first test i whole below held so_far =
    sym (bytes_step test i below ∙ ap (λ t. cond t (i ∷ bytes_from test (i + 1)) (bytes_from test (i + 1))) held) ∙ so_far

pub only-second : (test : ℕ → Bool) (b i : ℕ) (whole : List ℕ) → i < 256 → test i ≡ true → b ∷ bytes_from test i ≡ whole → None ≡ only whole
only-second test b i whole below held so_far =
    let two : b ∷ (i ∷ bytes_from test (i + 1)) ≡ whole =
    ap (λ r. b ∷ r) (sym (bytes_step test i below ∙ ap (λ t. cond t (i ∷ bytes_from test (i + 1)) (bytes_from test (i + 1))) held)) ∙ so_far in
    ap only two

pub only-passed : (test : ℕ → Bool) (found : Option ℕ) (i : ℕ) (whole : List ℕ) → i < 256 → test i ≡ false
    → listed found ++ bytes_from test i ≡ whole → listed found ++ bytes_from test (i + 1) ≡ whole
only-passed test found i whole below held so_far =
    ap (λ r. listed found ++ r)
    (sym (bytes_step test i below ∙ ap (λ t. cond t (i ∷ bytes_from test (i + 1)) (bytes_from test (i + 1))) held)) ∙ so_far

pub only-end : (test : ℕ → Bool) (found : Option ℕ) (i : ℕ) (whole : List ℕ) → 256 ≤ i → listed found ++ bytes_from test i ≡ whole → found ≡ only whole
unfolding bytes_from
only-end test found i whole past so_far =
    let past_all : 256 - i ≡ 0 = omega arith in
    alone found ∙ ap only (sym (append-nil (listed found)) ∙ (ap (λ n. listed found ++ filter test (range_with_len i n)) (sym past_all) ∙ so_far))
  where
    alone : (found : Option ℕ) → found ≡ only (listed found)
    alone None = refl
    alone (Some b) = refl

-- ---- the bytes of members

pub lead-keep : (members : List Ere) (i : ℕ) (member : Ere) (b : ℕ) (text whole : List ℕ) → i < length members → member ≡ get_or members i member
    → Some b ≡ byte_of (form member) → text ++ leading_bytes (trees_of (map form (drop i members))) ≡ whole
    → (text ++ b ∷ []) ++ leading_bytes (trees_of (map form (drop (i + 1) members))) ≡ whole
unfolding leading_bytes
lead-keep members i member b text whole inside read byte so_far =
    let step = at_drop_more (λ es. leading_bytes (trees_of (map form es))) members i member inside in
    let first = ap (λ e. and_then (byte_of (form e)) (leading_bytes (trees_of (map form (drop (i + 1) members))))) (sym read) in
    let taken = ap (λ o. and_then o (leading_bytes (trees_of (map form (drop (i + 1) members))))) (sym byte) in
    append_assoc text (b ∷ []) (leading_bytes (trees_of (map form (drop (i + 1) members))))
    ∙ (ap (λ r. text ++ r) (sym (step ∙ (first ∙ taken))) ∙ so_far)

pub lead-stop : (members : List Ere) (i : ℕ) (member : Ere) (text whole : List ℕ) → i < length members → member ≡ get_or members i member
    → None ≡ byte_of (form member) → text ++ leading_bytes (trees_of (map form (drop i members))) ≡ whole → text ≡ whole
unfolding leading_bytes
lead-stop members i member text whole inside read byte so_far =
    let step = at_drop_more (λ es. leading_bytes (trees_of (map form es))) members i member inside in
    let first = ap (λ e. and_then (byte_of (form e)) (leading_bytes (trees_of (map form (drop (i + 1) members))))) (sym read) in
    let taken = ap (λ o. and_then o (leading_bytes (trees_of (map form (drop (i + 1) members))))) (sym byte) in
    sym (append-nil text) ∙ (ap (λ r. text ++ r) (sym (step ∙ (first ∙ taken))) ∙ so_far)

pub lead-end : (members : List Ere) (i : ℕ) (text whole : List ℕ) → length members ≤ i
    → text ++ leading_bytes (trees_of (map form (drop i members))) ≡ whole → text ≡ whole
unfolding leading_bytes
lead-end members i text whole past so_far =
    sym (append-nil text) ∙ (ap (λ r. text ++ r) (sym (at_drop_all (λ es. leading_bytes (trees_of (map form es))) members i past)) ∙ so_far)

-- ---- a line that contains a match

held : (test : ℕ → Bool) (from count b : ℕ) → from ≤ b → b < from + count → test b ≡ true
    → list_any (λ m. m == b) (filter test (range_with_len from count)) ≡ true
held test from zero b low high e = absurd (omega arith)
held test from (suc count) b low high e = go (test from) refl (cases_eq from b) (λ above. held test (from + 1) count b above (omega arith) e)
  where
    or_true : (t : Bool) → (t || true) ≡ true
    or_true true = refl
    or_true false = refl

    go : (t : Bool) → test from ≡ t → (from ≡ b) ⊎ (from ≢ b)
        → (from + 1 ≤ b → list_any (λ m. m == b) (filter test (range_with_len (from + 1) count)) ≡ true)
        → list_any (λ m. m == b) (cond t (from ∷ filter test (range_with_len (from + 1) count)) (filter test (range_with_len (from + 1) count))) ≡ true
    go true is (inl same) later =
        let here : (from == b) ≡ true = grind (arith, nat_tests) in
        ap (λ t. t || list_any (λ m. m == b) (filter test (range_with_len (from + 1) count))) here
    go true is (inr other) later = ap (λ t. (from == b) || t) (later (omega arith)) ∙ or_true (from == b)
    go false is (inl same) later = absurd (true≢false (sym e ∙ (ap test (sym same) ∙ is)))
    go false is (inr other) later = later (omega arith)

only-held : (numbers : List ℕ) (b n : ℕ) → only numbers ≡ Some b → list_any (λ m. m == n) numbers ≡ true → n ≡ b
only-held [] b n is there = cc
only-held (m ∷ []) b n is there = go (m == n) refl there
  where
    go : (t : Bool) → (m == n) ≡ t → (t || false) ≡ true → n ≡ b
    go true e h = let same : m ≡ n = grind (arith, nat_tests) in let first : m ≡ b = cc in sym same ∙ first
    go false e h = absurd (false≢true h)
only-held (m ∷ (other ∷ others)) b n is there = cc

byte_below : (members : List Bool) (b : ℕ) → IsTrue (has members b) → b < 256
byte_below members b h = go (nat_lt b 256) refl h
  where
    go : (t : Bool) → nat_lt b 256 ≡ t → IsTrue ((t && (not (b == 0) && not (b == 10))) && slice_index_or members b false) → b < 256
    go true e h = grind (arith, nat_tests)
    go false e h = absurd (false≢true h)

-- a word of a tree that is a set of one byte is that byte
word_of_byte : (tree : Tree) (before word after : List ℕ) → InLanguage tree before word after → (b : ℕ) → byte_of tree ≡ Some b → word ≡ b ∷ []
unfolding InLanguage bytes_in
word_of_byte empty before word after h b is = cc
word_of_byte (set members) before word after h b is =
    h.1
    ∙ ap (λ n. n ∷ [])
    (only-held (bytes_in members) b h.0 is
    (held (has members) 0 256 h.0 (omega arith) (byte_below members h.0 h.2) h.2))
word_of_byte at_start before word after h b is = cc
word_of_byte at_end before word after h b is = cc
word_of_byte (cat members) before word after h b is = cc
word_of_byte (alt members) before word after h b is = cc
word_of_byte (repeat body least greatest) before word after h b is = cc

-- what a text goes on with
abbrev GoesOn : List ℕ → List ℕ → Type 0
GoesOn text word = (rest : List ℕ) × (word ≡ text ++ rest)

with_first : (byte : Option ℕ) (front back word text : List ℕ) → word ≡ front ++ back → ((b : ℕ) → byte ≡ Some b → front ≡ b ∷ [])
    → GoesOn text back → GoesOn (and_then byte text) word
with_first None front back word text is first later = (word, refl)
with_first (Some b) front back word text is first later = (later.0, is ∙ (ap (λ f. f ++ back) (first b refl) ∙ ap (λ r. b ∷ r) later.1))

leads : (trees : Trees) (before word after : List ℕ) → InEach trees before word after → GoesOn (leading_bytes trees) word
unfolding leading_bytes InEach
leads none before word after h = (word, refl)
leads (more tree trees) before word after h =
    with_first (byte_of tree) h.0 h.1 word (leading_bytes trees) h.2 (word_of_byte tree before h.0 (h.1 ++ after) h.3)
    (leads trees (before ++ h.0) h.1 after h.4)

after_start : (trees : Trees) (line before word after : List ℕ) → line ≡ before ++ (word ++ after) → InEach (more at_start trees) before word after
    → take (length (leading_bytes trees)) line ≡ leading_bytes trees
unfolding InLanguage InEach
after_start trees line before word after is h =
    let later = leads trees (before ++ h.0) h.1 after h.4 in
    let whole : line ≡ leading_bytes trees ++ (later.0 ++ after) =
    is
    ∙ (ap (λ x. x ++ (word ++ after)) h.3.0
    ∙ (ap (λ x. x ++ after) (h.2 ∙ (ap (λ x. x ++ h.1) h.3.1 ∙ later.1)) ∙ append_assoc (leading_bytes trees) later.0 after)) in
    ap (take (length (leading_bytes trees))) whole ∙ take-append_seam (leading_bytes trees) (later.0 ++ after)

pub begins_with_text : (tree : Tree) (line : List ℕ) → ContainsMatch tree line → take (length (anchored_text tree)) line ≡ anchored_text tree
unfolding InLanguage
begins_with_text empty line h = refl
begins_with_text (set members) line h = refl
begins_with_text at_start line h = refl
begins_with_text at_end line h = refl
begins_with_text (alt members) line h = refl
begins_with_text (repeat body least greatest) line h = refl
begins_with_text (cat none) line h = refl
begins_with_text (cat (more empty trees)) line h = refl
begins_with_text (cat (more (set members) trees)) line h = refl
begins_with_text (cat (more at_start trees)) line h = after_start trees line h.before h.word h.after h.is_line h.in_language
begins_with_text (cat (more at_end trees)) line h = refl
begins_with_text (cat (more (cat members) trees)) line h = refl
begins_with_text (cat (more (alt members) trees)) line h = refl
begins_with_text (cat (more (repeat body least greatest) trees)) line h = refl

pub begins_with_items : (tree : Tree) (items : List ℕ) → items ≡ anchored_text tree → (line : List ℕ) → ContainsMatch tree line
    → take (length items) line ≡ items
begins_with_items tree items is line h = subst (λ (t : List ℕ). take (length t) line ≡ t) (sym is) (begins_with_text tree line h)

pub text_of_cat : (tree : Ere) (members : Vec Ere Global) (shown : List Ere) → tree ≡ Cat members → shown ≡ members.items
    → bytes_after_start (trees_of (map form shown)) ≡ anchored_text (form tree)
text_of_cat tree members shown is same =
    ap (λ ms. bytes_after_start (trees_of (map form ms))) same ∙ sym (ap (λ e. anchored_text (form e)) is ∙ ap anchored_text (form-Cat members))
