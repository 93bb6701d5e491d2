-- The program's analysis, step by step.
use Rattle.std.proofs.Common.{◌≡◌, ℕ, zero, suc, ◌+◌, ◌-◌, ◌<◌, ◌≤◌, Bool, true, false, ◌&&◌, nat_le, ◌==◌, take, List, [], ◌∷◌, ◌++◌, length, map, filter}
use Rattle.std.proofs.Common.{drop, get_or, refl, sym, ap, ◌∙◌, arith, Option, Some, None, add-one, if◌then◌else◌}
use Rattle.std.specs.List.{range_with_len}
use Rattle.std.proofs.lemmas.List.{drop_more, drop_all, append_assoc, append-nil}
use Rattle.std.proofs.lemmas.Bool.{cond-true, cond-false}
use Rattle.std.proofs.lemmas.Bool.Decides.{nat_tests}
use mathlib.Core.Path.{fun_ext}
use Rattle.ere.specs.declared.tree.Ere.{Ere}
use Rattle.ere.specs.ByteSet.{has}
use Rattle.ere.specs.Tree.{Tree, Trees, form, trees_of}
use Rattle.ere.specs.Tree as tree
use Rattle.trigram.specs.declared.analysis.Analysis as program
use Rattle.trigram.specs.declared.analysis.Analysis.TheVariants.{Loose as loose_ends}
use Rattle.trigram.specs.declared.analysis.Ends.{Ends}
use Rattle.std.specs.declared.alloc.Global.{Global}
use Rattle.std.specs.declared.vec.Vec.{Vec}
use Rattle.std.proofs.Math.Bool.{and-true}
use Rattle.query.specs.declared.query.Query.TheVariants as query
use Rattle.query.proofs.Forms.{formula_of-Any}
use Rattle.query.specs.Trigrams.{TrigramSet}
use Rattle.query.specs.Query.{formula_of, is_met}
use Rattle.trigram.specs.Texts.{Texts, has_text, union, joins, joined_texts, has_all_of_one, ending, kept_ends}
use Rattle.trigram.proofs.JoinLemmas.{has_all_of_one-distinct, settle_distinct_prefixes, settle_distinct_suffixes, loosen_distinct}
use Rattle.trigram.specs.Analysis.{SetTest, Analysis, known, loose, just_empty, either, both, copies_of, repeated, bytes_in, one_byte}
use Rattle.trigram.specs.Analysis.{analysis_of, both_all, either_all, settle_loose, loosen, are_kept, optional, is_nullable, prefixes_of, suffixes_of}
use Rattle.trigram.specs.Private.Values.{texts_of, shown_analysis, ends_analysis, without_condition, ArePlain, StandFor, EndsStandFor}

pub loose_same : (n : Bool) (p q s t : Texts) (c d : SetTest) → p ≡ q → s ≡ t → ((set : TrigramSet) → c set ≡ d set) → loose n p s c ≡ loose n q t d
loose_same n p q s t c d prefixes suffixes conditions =
    ap (λ x. loose n x s c) prefixes ∙ ap (λ x. loose n q x c) suffixes ∙ ap (loose n q t) (fun_ext conditions)

pub any_is_met : (set : TrigramSet) → is_met (formula_of query.Any) set ≡ true
unfolding is_met
any_is_met set = ap (λ f. is_met f set) formula_of-Any

pub copies_of-zero : (one : Analysis) → copies_of one 0 ≡ one
unfolding copies_of
copies_of-zero one = refl

pub copies_of-more : (one : Analysis) (n : ℕ) → copies_of one (n + 1) ≡ both (copies_of one n) one
unfolding copies_of
copies_of-more one n = rw add-one refl

pub without_condition-twice : (a : Analysis) → without_condition (without_condition a) ≡ without_condition a
without_condition-twice (known texts) = refl
without_condition-twice (loose n p s c) = refl

same_known : (a : Analysis) (texts : Texts) → without_condition a ≡ known texts → a ≡ known texts
same_known (known others) texts e = e
same_known (loose n p s c) texts e = cc

-- the condition of a copy stands in that of several
implied : (a c b h : Bool) → ((((a && (c && b)) && h) && c) ≡ ((a && (c && b)) && h))
implied false c b h = refl
implied true false b h = refl
implied true true false h = refl
implied true true true false = refl
implied true true true true = refl

needless : (a c b : Bool) → (a && c) ≡ a → (a && (true && b)) ≡ (a && (c && b))
needless false c b e = refl
needless true true b e = refl
needless true false b e = cc

record IsLooseWith (c : SetTest) (a : Analysis) : Type 0 where
  nullable : Bool
  prefixes : Texts
  suffixes : Texts
  condition : SetTest
  is : a ≡ loose nullable prefixes suffixes condition
  holds : (set : TrigramSet) → (condition set && c set) ≡ condition set

and_itself : (b : Bool) → (b && b) ≡ b
and_itself true = refl
and_itself false = refl

copies_hold : (n : Bool) (p s : Texts) (c : SetTest) (k : ℕ) → IsLooseWith c (copies_of (loose n p s c) k)
unfolding copies_of
copies_hold n p s c zero = record { nullable = n; prefixes = p; suffixes = s; condition = c; is = refl; holds = λ set. and_itself (c set) }
copies_hold n p s c (suc k) =
    let h = copies_hold n p s c k in
    let b : SetTest = has_all_of_one (joins h.suffixes p) in
    let q = if h.nullable then union h.prefixes p else h.prefixes in
    let t = if n then union s h.suffixes else s in
    record {
      nullable = h.nullable && n;
      prefixes = kept_ends take q;
      suffixes = kept_ends ending t;
      condition = λ set. (h.condition set && (c set && b set)) && (has_all_of_one q set && has_all_of_one t set);
      is = ap (λ a. both a (loose n p s c)) h.is;
      holds = λ set. implied (h.condition set) (c set) (b set) (has_all_of_one q set && has_all_of_one t set);
    }

pub both-without_condition : (one : Analysis) (k : ℕ) → both (copies_of one k) (without_condition one) ≡ both (copies_of one k) one
both-without_condition (known texts) k = refl
both-without_condition (loose n p s c) k =
    let h = copies_hold n p s c k in
    let b : SetTest = has_all_of_one (joins h.suffixes p) in
    ap (λ a. both a (loose n p s (λ _. true))) h.is
    ∙ ap (settle_loose (h.nullable && n) (if h.nullable then union h.prefixes p else h.prefixes) (if n then union s h.suffixes else s))
    (fun_ext (λ set. needless (h.condition set) (c set) (b set) (h.holds set)))
    ∙ ap (λ a. both a (loose n p s c)) (sym h.is)

absorbed : (c e h : Bool) → ((((c && e) && h) && e) && h) ≡ ((c && e) && h)
absorbed false e h = refl
absorbed true false h = refl
absorbed true true false = refl
absorbed true true true = refl

-- The same conditions again change nothing.
settled_again : (n : Bool) (p s : Texts) (c e : SetTest)
    → settle_loose n p s (λ set. ((c set && e set) && (has_all_of_one p set && has_all_of_one s set)) && e set) ≡ settle_loose n p s (λ set. c set && e set)
settled_again n p s c e =
    ap (loose n (kept_ends take p) (kept_ends ending s))
    (fun_ext (λ set. absorbed (c set) (e set) (has_all_of_one p set && has_all_of_one s set)))

loose_again : (one : Analysis) (m n : Bool) (q p t s : Texts) (c : SetTest) → loose m q t (λ _. true) ≡ loose n p s (λ _. true)
    → both (loose m q t c) one ≡ both (loose n p s c) one
loose_again one m n q p t s c e =
    ap (λ x. both (loose x q t c) one) (ap is_nullable e)
    ∙ ap (λ x. both (loose n x t c) one) (ap prefixes_of e)
    ∙ ap (λ x. both (loose n p x c) one) (ap suffixes_of e)

-- If one more copy leaves the ends as they are, another one changes nothing.
both_again : (whole one : Analysis) → without_condition (both whole one) ≡ without_condition whole → both (both whole one) one ≡ both whole one
both_again (known texts) one e = ap (λ a. both a one) (same_known (both (known texts) one) texts e)
both_again (loose n p s c) (known texts) e =
    let q = if n then union p texts else p in
    let t = joins s texts in
    let m = n && has_text texts [] in
    loose_again (known texts) m n (kept_ends take q) p (kept_ends ending t) s
    (λ set. (c set && (true && true)) && (has_all_of_one q set && has_all_of_one t set)) e
    ∙ settled_again m q t c (λ set. true && true)
both_again (loose n p s c) (loose n' p' s' c') e =
    let q = if n then union p p' else p in
    let t = if n' then union s' s else s' in
    let b : SetTest = λ set. c' set && has_all_of_one (joins s p') set in
    loose_again (loose n' p' s' c') (n && n') n (kept_ends take q) p (kept_ends ending t) s
    (λ set. (c set && b set) && (has_all_of_one q set && has_all_of_one t set)) e
    ∙ settled_again (n && n') q t c b

-- Once a copy leaves the ends as they are, no further one changes anything.
pub copies_of-settled : (one : Analysis) (n more : ℕ) → without_condition (copies_of one (n + 1)) ≡ without_condition (copies_of one n)
    → copies_of one (n + 1 + more) ≡ copies_of one (n + 1)
copies_of-settled one n zero same = let e : n + 1 + 0 ≡ n + 1 = omega arith in ap (copies_of one) e
copies_of-settled one n (suc more) same =
    let e : n + 1 + suc more ≡ (n + 1 + more) + 1 = omega arith in
    let step = copies_of-more one n in
    let again : both (copies_of one (n + 1)) one ≡ copies_of one (n + 1) =
    ap (λ a. both a one) step ∙ both_again (copies_of one n) one (ap without_condition (sym step) ∙ same) ∙ sym step in
    ap (copies_of one) e ∙ copies_of-more one (n + 1 + more) ∙ ap (λ a. both a one) (copies_of-settled one n more same) ∙ again

pub one_more_stands : (one : Analysis) (n : ℕ) (copy whole next longer : program.Analysis) → StandFor (without_condition one) copy
    → StandFor (copies_of one n) whole → StandFor (without_condition (shown_analysis copy)) next
    → StandFor (both (shown_analysis whole) (shown_analysis next)) longer → StandFor (copies_of one (n + 1)) longer
one_more_stands one n copy whole next longer c w x l = record {
  plain = l.plain;
  is =
      l.is
      ∙ ap (both (shown_analysis whole)) (x.is ∙ ap without_condition c.is ∙ without_condition-twice one)
      ∙ ap (λ a. both a (without_condition one)) w.is
      ∙ both-without_condition one n
      ∙ sym (copies_of-more one n);
}

pub settled_stands : (one : Analysis) (n : ℕ) (whole before longer : program.Analysis) → StandFor (copies_of one n) whole
    → StandFor (without_condition (shown_analysis whole)) before → StandFor (copies_of one (n + 1)) longer
    → without_condition (shown_analysis longer) ≡ without_condition (shown_analysis before)
    → without_condition (copies_of one (n + 1)) ≡ without_condition (copies_of one n)
settled_stands one n whole before longer w b l same =
    ap without_condition (sym l.is) ∙ same ∙ ap without_condition b.is ∙ without_condition-twice (shown_analysis whole)
    ∙ ap without_condition w.is

pub bare_stands : (ends : Ends) (p s : Vec (Vec ℕ Global) Global) → texts_of p.items ≡ texts_of ends.prefixes.items
    → texts_of s.items ≡ texts_of ends.suffixes.items
    → StandFor (without_condition (ends_analysis ends))
    (loose_ends record { nullable = ends.nullable; prefixes = p; suffixes = s; condition = query.Any })
bare_stands ends p s q t = record {
  plain = rw formula_of-Any tt;
  is = loose_same ends.nullable (texts_of p.items) (texts_of ends.prefixes.items) (texts_of s.items) (texts_of ends.suffixes.items)
      (is_met (formula_of query.Any)) (λ _. true) q t any_is_met;
}

-- two loose copies or more, of no greatest number
pub repeated-loose : (n : Bool) (p s : Texts) (c : SetTest) (least : ℕ) → 2 ≤ least
    → copies_of (loose n p s c) (least - 1) ≡ repeated (loose n p s c) least None
repeated-loose n p s c least two =
    let zero_not : (least == 0) ≡ false = grind (arith, nat_tests) in
    let one_not : (least == 1) ≡ false = grind (arith, nat_tests) in
    let e : least - 1 ≡ (least - 2) + 1 = omega arith in
    rw (zero_not, one_not) (ap (copies_of (loose n p s c)) e ∙ copies_of-more (loose n p s c) (least - 2))

pub optional-without_condition : (one : Analysis) (most : ℕ) → optional (without_condition one) most ≡ optional one most
optional-without_condition (known texts) most = refl
optional-without_condition (loose n p s c) most = refl

pub between_stands : (one : Analysis) (least most left : ℕ) (copy prefix suffix whole : program.Analysis) → (least == 0) ≡ false
    → (least == most) ≡ false → left ≡ most - least → StandFor (without_condition one) copy → StandFor (copies_of one (least - 1)) prefix
    → StandFor (optional (shown_analysis copy) left) suffix → StandFor (both (shown_analysis prefix) (shown_analysis suffix)) whole
    → StandFor (repeated one least (Some most)) whole
between_stands one least most left copy prefix suffix whole some more is c p s w = record {
  plain = w.plain;
  is =
      w.is
      ∙ ap (λ a. both a (shown_analysis suffix)) p.is
      ∙ ap (both (copies_of one (least - 1)))
      (s.is ∙ ap (λ a. optional a left) c.is ∙ optional-without_condition one left ∙ ap (optional one) is)
      ∙ rw (some, more) refl;
}

-- The invariant of a loop that joins neighbours or alternatives: what is known so far, joined with those left over, is the whole.
pub record IsAnalysedSoFar (all : Analysis → Trees → Analysis) (rest : Trees) (whole : Analysis) (analysis : program.Analysis) : Type 0 where
  pub plain : ArePlain analysis
  pub is : all (shown_analysis analysis) rest ≡ whole

pub both_all-none : (a : Analysis) → both_all a tree.none ≡ a
unfolding both_all
both_all-none a = refl

pub both_all-more : (a : Analysis) (t : Tree) (ts : Trees) → both_all a (tree.more t ts) ≡ both_all (both a (analysis_of t)) ts
unfolding both_all
both_all-more a t ts = refl

pub either_all-none : (a : Analysis) → either_all a tree.none ≡ a
unfolding either_all
either_all-none a = refl

pub either_all-more : (a : Analysis) (t : Tree) (ts : Trees) → either_all a (tree.more t ts) ≡ either_all (either a (analysis_of t)) ts
unfolding either_all
either_all-more a t ts = refl

pub neighbours_first : (t : Tree) (ts : Trees) (analysis : program.Analysis) → StandFor (analysis_of t) analysis
    → IsAnalysedSoFar both_all ts (analysis_of (tree.cat (tree.more t ts))) analysis
unfolding analysis_of
neighbours_first t ts analysis h = record { plain = h.plain; is = ap (λ a. both_all a ts) h.is }

pub neighbours_more : (t : Tree) (ts : Trees) (whole : Analysis) (analysis next longer : program.Analysis)
    → IsAnalysedSoFar both_all (tree.more t ts) whole analysis → StandFor (analysis_of t) next
    → StandFor (both (shown_analysis analysis) (shown_analysis next)) longer → IsAnalysedSoFar both_all ts whole longer
neighbours_more t ts whole analysis next longer h one j = record {
  plain = j.plain;
  is = ap (λ a. both_all a ts) (j.is ∙ ap (both (shown_analysis analysis)) one.is) ∙ sym (both_all-more (shown_analysis analysis) t ts) ∙ h.is;
}

pub neighbours_all : (whole : Analysis) (analysis : program.Analysis) → IsAnalysedSoFar both_all tree.none whole analysis → StandFor whole analysis
neighbours_all whole analysis h = record { plain = h.plain; is = sym (both_all-none (shown_analysis analysis)) ∙ h.is }

pub alternatives_first : (t : Tree) (ts : Trees) (analysis : program.Analysis) → StandFor (analysis_of t) analysis
    → IsAnalysedSoFar either_all ts (analysis_of (tree.alt (tree.more t ts))) analysis
unfolding analysis_of
alternatives_first t ts analysis h = record { plain = h.plain; is = ap (λ a. either_all a ts) h.is }

pub alternatives_more : (t : Tree) (ts : Trees) (whole : Analysis) (analysis next longer : program.Analysis)
    → IsAnalysedSoFar either_all (tree.more t ts) whole analysis → StandFor (analysis_of t) next
    → StandFor (either (shown_analysis analysis) (shown_analysis next)) longer → IsAnalysedSoFar either_all ts whole longer
alternatives_more t ts whole analysis next longer h one j = record {
  plain = j.plain;
  is = ap (λ a. either_all a ts) (j.is ∙ ap (either (shown_analysis analysis)) one.is) ∙ sym (either_all-more (shown_analysis analysis) t ts) ∙ h.is;
}

pub alternatives_all : (whole : Analysis) (analysis : program.Analysis) → IsAnalysedSoFar either_all tree.none whole analysis → StandFor whole analysis
alternatives_all whole analysis h = record { plain = h.plain; is = sym (either_all-none (shown_analysis analysis)) ∙ h.is }

pub analysis_of-cat_none : analysis_of (tree.cat tree.none) ≡ known just_empty
unfolding analysis_of
analysis_of-cat_none = refl

pub analysis_of-alt_none : analysis_of (tree.alt tree.none) ≡ known []
unfolding analysis_of
analysis_of-alt_none = refl

pub analysis_of-empty : analysis_of tree.empty ≡ known just_empty
unfolding analysis_of
analysis_of-empty = refl

pub analysis_of-at_start : analysis_of tree.at_start ≡ known just_empty
unfolding analysis_of
analysis_of-at_start = refl

pub analysis_of-at_end : analysis_of tree.at_end ≡ known just_empty
unfolding analysis_of
analysis_of-at_end = refl

pub analysis_of-set : (members : List Bool) → analysis_of (tree.set members) ≡ one_byte members
unfolding analysis_of
analysis_of-set members = refl

pub analysis_of-repeat : (body : Tree) (least : ℕ) (greatest : Option ℕ)
    → analysis_of (tree.repeat body least greatest) ≡ repeated (analysis_of body) least greatest
unfolding analysis_of
analysis_of-repeat body least greatest = refl

-- the bytes of a set from a place on
bytes_step : (test : ℕ → Bool) (i : ℕ) → i < 256 → filter test (range_with_len i (256 - i)) ≡ filter test (i ∷ range_with_len (i + 1) (256 - (i + 1)))
bytes_step test i below =
    let more : 256 - i ≡ suc (256 - (i + 1)) = omega arith in
    ap (λ n. filter test (range_with_len i n)) more

pub bytes_held : (test : ℕ → Bool) (so_far whole : List ℕ) (i : ℕ) → i < 256 → test i ≡ true
    → so_far ++ filter test (range_with_len i (256 - i)) ≡ whole
    → (so_far ++ i ∷ []) ++ filter test (range_with_len (i + 1) (256 - (i + 1))) ≡ whole
bytes_held test so_far whole i below held h =
    append_assoc so_far (i ∷ []) (filter test (range_with_len (i + 1) (256 - (i + 1))))
    ∙ ap (λ r. so_far ++ r)
    (sym (bytes_step test i below
    ∙ cond-true (test i) (i ∷ filter test (range_with_len (i + 1) (256 - (i + 1))))
    (filter test (range_with_len (i + 1) (256 - (i + 1)))) held))
    ∙ h

pub bytes_passed : (test : ℕ → Bool) (so_far whole : List ℕ) (i : ℕ) → i < 256 → test i ≡ false
    → so_far ++ filter test (range_with_len i (256 - i)) ≡ whole → so_far ++ filter test (range_with_len (i + 1) (256 - (i + 1))) ≡ whole
bytes_passed test so_far whole i below held h =
    ap (λ r. so_far ++ r)
    (sym (bytes_step test i below
    ∙ cond-false (test i) (i ∷ filter test (range_with_len (i + 1) (256 - (i + 1))))
    (filter test (range_with_len (i + 1) (256 - (i + 1)))) held))
    ∙ h

pub bytes_end : (test : ℕ → Bool) (so_far whole : List ℕ) (i : ℕ) → 256 ≤ i → so_far ++ filter test (range_with_len i (256 - i)) ≡ whole → so_far ≡ whole
bytes_end test so_far whole i past h =
    let none : 256 - i ≡ 0 = omega arith in
    sym (append-nil so_far) ∙ ap (λ n. so_far ++ filter test (range_with_len i n)) (sym none) ∙ h

pub bytes_start : (set : List Bool) → filter (has set) (range_with_len 0 256) ≡ bytes_in set
unfolding bytes_in
bytes_start set = refl

settle_same : (n m : Bool) (p q s t : Texts) (c d : SetTest) → n ≡ m → p ≡ q → s ≡ t → ((set : TrigramSet) → c set ≡ d set)
    → settle_loose n p s c ≡ settle_loose m q t d
settle_same n m p q s t c d nullable prefixes suffixes conditions =
    ap (λ x. settle_loose x p s c) nullable ∙ ap (λ x. settle_loose m x s c) prefixes ∙ ap (λ x. settle_loose m q x c) suffixes
    ∙ ap (settle_loose m q t) (fun_ext conditions)

pub known_before_stands : (texts p s q t : Texts) (n m : Bool) (c : SetTest) (ends : Ends) → m ≡ (has_text texts [] && n)
    → q ≡ joined_texts texts p → t ≡ (if n then union s texts else s) → EndsStandFor (settle_loose m q t c) ends
    → EndsStandFor (both (known texts) (loose n p s c)) ends
known_before_stands texts p s q t n m c ends nullable prefixes suffixes h = record {
  plain = h.plain;
  is =
      h.is
      ∙ settle_same m (has_text texts [] && n) q (joined_texts texts p) t (if n then union s texts else s) c (λ set. true && (c set && true))
      nullable prefixes suffixes (λ set. sym (and-true (c set)))
      ∙ settle_distinct_prefixes (has_text texts [] && n) (joined_texts texts p) (if n then union s texts else s) (λ set. true && (c set && true));
}

pub known_after_stands : (texts p s q t : Texts) (n m : Bool) (c : SetTest) (ends : Ends) → m ≡ (n && has_text texts [])
    → q ≡ (if n then union p texts else p) → t ≡ joined_texts s texts → EndsStandFor (settle_loose m q t c) ends
    → EndsStandFor (both (loose n p s c) (known texts)) ends
known_after_stands texts p s q t n m c ends nullable prefixes suffixes h = record {
  plain = h.plain;
  is =
      h.is
      ∙ settle_same m (n && has_text texts []) q (if n then union p texts else p) t (joined_texts s texts) c (λ set. c set && (true && true))
      nullable prefixes suffixes (λ set. sym (and-true (c set)))
      ∙ settle_distinct_suffixes (n && has_text texts []) (if n then union p texts else p) (joined_texts s texts) (λ set. c set && (true && true));
}

pub both_loose_stands : (n m k : Bool) (p s q t u v : Texts) (c d e : SetTest) (ends : Ends) → k ≡ (n && m)
    → u ≡ (if n then union p q else p) → v ≡ (if m then union t s else t)
    → ((set : TrigramSet) → e set ≡ (c set && (d set && has_all_of_one (joined_texts s q) set))) → EndsStandFor (settle_loose k u v e) ends
    → EndsStandFor (both (loose n p s c) (loose m q t d)) ends
both_loose_stands n m k p s q t u v c d e ends nullable prefixes suffixes conditions h = record {
  plain = h.plain;
  is =
      h.is
      ∙ settle_same k (n && m) u (if n then union p q else p) v (if m then union t s else t) e
      (λ set. c set && (d set && has_all_of_one (joins s q) set)) nullable prefixes suffixes
      (λ set. conditions set ∙ ap (λ b. c set && (d set && b)) (sym (has_all_of_one-distinct (joined_texts s q) set)));
}

-- known texts whose joins are not kept
pub both_known_stands : (left right whole : Texts) (ends : Ends) → are_kept (joins left right) ≡ false → whole ≡ joined_texts left right
    → EndsStandFor (loosen (known whole)) ends → StandFor (both (known left) (known right)) (loose_ends ends)
both_known_stands left right whole ends not_kept same h = record {
  plain = h.plain;
  is = h.is ∙ ap (λ ts. loosen (known ts)) same ∙ loosen_distinct (joined_texts left right) ∙ rw not_kept refl;
}

pub stands_same : (a b : Analysis) (analysis : program.Analysis) → a ≡ b → StandFor a analysis → StandFor b analysis
stands_same a b analysis same h = record { plain = h.plain; is = h.is ∙ same }

pub one_byte_loose : (set : List Bool) → 16 < length (bytes_in set) → one_byte set ≡ loose false just_empty just_empty (λ _. true)
one_byte_loose set above =
    let e : nat_le (length (bytes_in set)) 16 ≡ false = grind (arith, nat_tests) in
    rw e refl

pub next_tree : (members : List Ere) (i : ℕ) (e : Ere) → i < length members → e ≡ get_or members i e
    → trees_of (map form (drop i members)) ≡ tree.more (form e) (trees_of (map form (drop (i + 1) members)))
next_tree members i e below read = ap (λ es. trees_of (map form es)) (drop_more members i e below ∙ ap (λ f. f ∷ drop (i + 1) members) (sym read))

pub no_trees : (members : List Ere) (i : ℕ) → length members ≤ i → trees_of (map form (drop i members)) ≡ tree.none
no_trees members i past = ap (λ es. trees_of (map form es)) (drop_all i members past)
