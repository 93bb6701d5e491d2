-- What the options of a search ask for.
use Rattle.std.proofs.Common.{◌≡◌, ℕ, suc, ◌+◌, ◌<◌, ◌≤◌, ◌==◌, Bor, Bool, true, false, not, List, [], ◌∷◌, ◌++◌, map, length, take, get_or, Some, None, refl, sym, ◌∙◌, ap, subst, arith}
use Rattle.std.specs.Prelude.{◌||◌, ◌&&◌, if◌then◌else◌, slice_get, option_map}
use Rattle.std.proofs.Math.Seq.{take-suc}
use Rattle.std.proofs.lemmas.List.{length-map, take_all}
use Rattle.std.proofs.lemmas.Option.{slice_get_within, get_or_from_slice_get, slice_get-get_or, slice_get-map}
use Rattle.std.proofs.lemmas.List.Elements.{All-nil, All-cons}
use Rattle.ere.specs.Limits.{IsTreeOf, IsWithinLimits}
use Rattle.ere.specs.Edges.{IsSizeFault, line_tree, too_deep, too_large, word_tree}
use Rattle.ere.specs.Literal.{IsPatternText, NamesTextFault}
use Rattle.ere.specs.Spelling.{Spells}
use Rattle.ere.specs.Tree.{Tree}
use Rattle.ere.specs.declared.case.Case.{Case}
use Rattle.ere.specs.declared.error.EreError.{EreError}
use Rattle.query.proofs.Forms.{formula_of-Any}
use Rattle.query.specs.declared.query.Query.{Query}
use Rattle.query.specs.declared.query.Query.TheVariants.{Any}
use Rattle.query.specs.Query.{formula_of, is_met, IsPlainFor}
use Rattle.prefixes.specs.Under.{is_under_one, is_within}
use Rattle.request.specs.Find.{NameTest, Options}
use Rattle.request.specs.Shown.{shown_test}
use Rattle.request.specs.declared.options.NameTest as program
use Rattle.trigram.specs.Analysis.{condition}
use Rattle.prepare.specs.Tests.{test_of}
use Rattle.prepare.specs.declared.asked.Test.{Test as PreparedTest}
use Rattle.prepare.specs.Prepared.{inside}
use Rattle.prepare.specs.Queries.{IsQueryOf}
use Rattle.prepare.specs.Pattern.{IsTreeFault, Test}
use Rattle.prepare.specs.Request.{AreTestsOf, asked_tree, asks_for_words, HaveTrees, IsPatternFault, IsReadAs, IsRequestFault, IsTestOf}

-- a text spells at most one tree
abbrev pub OneTree : Type 0
OneTree = (case : Case) (limit other : ℕ) (text : List ℕ) (left right : Tree) → Spells case limit text left → Spells case other text right → left ≡ right

pub read_once : OneTree → (literal : Bool) (case : Case) (text : List ℕ) (one other : Tree) → IsReadAs literal case text one
    → IsReadAs literal case text other → one ≡ other
read_once law true case text one other first second = first.1 ∙ sym second.1
read_once law false case text one other first second = law case _ _ text one other first.spelled second.spelled

-- ---- faults

pub not_within : (tree : Tree) (fault : EreError) → IsSizeFault tree fault → IsWithinLimits tree → ⊥
not_within tree fault (too_deep above kind at) within = omega (arith, within.low)
not_within tree fault (too_large low above kind at) within = omega (arith, within.small)

-- a text that is none for a pattern, or is none that spells a tree
pub unread_fault : (options : Options) (text : List ℕ) (fault : EreError) → NamesTextFault text fault
    → ((tree : Tree) → IsReadAs options.literal options.case text tree → ⊥) → IsPatternFault options text fault
unread_fault options text fault bytes none = record {
  no_tree = λ tree for. none tree for.spelled;
  bytes = bytes;
  size = λ tree read. absurd (none tree read);
}

-- the tree of the text is not within the limits with its edges
pub edged_fault : OneTree → (options : Options) (text : List ℕ) (own : Tree) (fault : EreError) → IsPatternText text
    → IsReadAs options.literal options.case text own → IsSizeFault (asked_tree options own) fault → IsPatternFault options text fault
edged_fault law options text own fault allowed read over = record {
  no_tree =
      λ tree for.
      not_within (asked_tree options own) fault over
      (subst (λ t. IsWithinLimits (asked_tree options t)) (read_once law options.literal options.case text tree own for.spelled read) for.limits);
  bytes = λ none. absurd (none allowed);
  size =
      λ tree other.
      subst (λ t. IsSizeFault (asked_tree options t) fault) (read_once law options.literal options.case text own tree read other) over;
}

-- ---- whole words

-- the tree that whole words are words of is that between their edges
pub word_inside : (options : Options) (words : Bool) (line tree : Tree) → words ≡ asks_for_words options → line ≡ asked_tree options tree
    → (if words then Some (inside line) else None) ≡ (if asks_for_words options then Some tree else None)
word_inside options words line tree same is =
    ap (λ b. if b then Some (inside line) else None) same
    ∙ (ap (λ t. if asks_for_words options then Some (inside t) else None) is ∙ go options.whole_words options.whole_lines)
  where
    go : (whole_words whole_lines : Bool)
        → (if whole_words && not whole_lines then Some (inside (if whole_lines then line_tree tree else (if whole_words then word_tree tree else tree))) else None)
        ≡ (if whole_words && not whole_lines then Some tree else None)
    go true true = refl
    go true false = refl
    go false true = refl
    go false false = refl

-- ---- what names begin with

-- the prefixes of the options, as they are kept
pub within_kept : (under not_under : List (List ℕ)) (lent lent_not given given_not : List (Bor (List ℕ))) (name : List ℕ) → lent ≡ given
    → lent_not ≡ given_not → is_under_one under name ≡ is_under_one (map (λ text. text.now) lent) name → (length under == 0) ≡ (length lent == 0)
    → is_under_one not_under name ≡ is_under_one (map (λ text. text.now) lent_not) name
    → is_within under not_under name ≡ is_within (map (λ text. text.now) given) (map (λ text. text.now) given_not) name
within_kept under not_under lent lent_not given given_not name is is_not one none other =
    ap (λ t. (t || is_under_one under name) && not (is_under_one not_under name))
    (none ∙ (ap (λ xs. length xs == 0) is ∙ ap (λ n. n == 0) (sym (length-map given (λ text. text.now)))))
    ∙ (ap (λ t. (length (map (λ text. text.now) given) == 0 || t) && not (is_under_one not_under name))
    (one ∙ ap (λ xs. is_under_one (map (λ text. text.now) xs) name) is)
    ∙ ap (λ t. is_asked given && not t) (other ∙ ap (λ xs. is_under_one (map (λ text. text.now) xs) name) is_not))
  where
    is_asked : List (Bor (List ℕ)) → Bool
    is_asked texts = length (map (λ text. text.now) texts) == 0 || is_under_one (map (λ text. text.now) texts) name

-- ---- conditions

pub any_query : (test : Test) → test.inverted ≡ true → IsQueryOf test Any
unfolding is_met
any_query test is = λ set. ap (λ f. is_met f set) formula_of-Any ∙ sym (ap (λ i. i || condition test.tree set) is)

pub plain_query : (test : Test) (query : Query) → test.inverted ≡ false → IsPlainFor (condition test.tree) (formula_of query) → IsQueryOf test query
plain_query test query is plain = λ set. plain.met set ∙ sym (ap (λ i. i || condition test.tree set) is)

-- ---- tests of names

pub have_trees : (case : Case) (names : List NameTest) (tests : List Test) → AreTestsOf case names tests → HaveTrees case names
have_trees case [] [] are = All-nil (λ name. (tree : Tree) × IsTreeOf case name.pattern tree)
have_trees case [] (test ∷ tests) are = absurd are
have_trees case (name ∷ names) [] are = absurd are
have_trees case (name ∷ names) (test ∷ tests) are =
    All-cons (λ name. (tree : Tree) × IsTreeOf case name.pattern tree) name names (are.0.0, are.0.1) (have_trees case names tests are.1)

pub one_more : (case : Case) (names : List NameTest) (tests : List Test) (name : NameTest) (test : Test) → AreTestsOf case names tests
    → IsTestOf case name test → AreTestsOf case (names ++ name ∷ []) (tests ++ test ∷ [])
one_more case [] [] name test are is = (is, tt)
one_more case [] (_ ∷ tests) name test are is = absurd are
one_more case (_ ∷ names) [] name test are is = absurd are
one_more case (_ ∷ names) (_ ∷ tests) name test are is = (are.0, one_more case names tests name test are.1 is)

-- the first names, and one more
pub next_name : (names : List NameTest) (at : ℕ) (name : NameTest) → slice_get names at ≡ Some name → take (at + 1) names ≡ take at names ++ name ∷ []
next_name names at name there =
    let inside = slice_get_within names at name there in
    let moved : at + 1 ≡ suc at = omega arith in
    ap (λ n. take n names) moved
    ∙ (take-suc names at name inside ∙ ap (λ x. take at names ++ x ∷ []) (get_or_from_slice_get names at name name there))

-- the first of the names that has no tree
pub name_fault : (options : Options) (text : List ℕ) (at : ℕ) (name : NameTest) (fault : EreError) (tests : List Test)
    → AreTestsOf options.name_case (take at options.names) tests → slice_get options.names at ≡ Some name
    → IsTreeFault options.name_case name.pattern fault → IsRequestFault options text (at + 1) fault
name_fault options text at name fault tests are there none =
    let next : suc at ≡ at + 1 = omega arith in
    subst (λ n. IsRequestFault options text n fault) next
    (have_trees options.name_case (take at options.names) tests are, name, there, none)

-- ---- the patterns of names as the program has them

module _ (given names : List program.NameTest) (is : given ≡ names) (at : ℕ) where
  pub name_there : (none : program.NameTest) → at < length given → slice_get (map shown_test names) at ≡ Some (shown_test (get_or given at none))
  name_there none inside =
      slice_get-map shown_test names at
      ∙ ap (λ found. option_map shown_test found) (ap (λ ns. slice_get ns at) (sym is) ∙ slice_get-get_or given at none inside)

  pub test_added : (case : Case) (none : program.NameTest) (old new : List PreparedTest) → at < length given
      → AreTestsOf case (take at (map shown_test names)) (map test_of old) → (test : Test)
      → IsTestOf case (shown_test (get_or given at none)) test → map test_of new ≡ map test_of old ++ test ∷ []
      → AreTestsOf case (take (at + 1) (map shown_test names)) (map test_of new)
  test_added case none old new inside so_far test is_test grown =
      let name = shown_test (get_or given at none) in
      subst (λ ns. AreTestsOf case ns (map test_of new)) (sym (next_name (map shown_test names) at name (name_there none inside)))
      (subst (λ ts. AreTestsOf case (take at (map shown_test names) ++ name ∷ []) ts) (sym grown)
      (one_more case (take at (map shown_test names)) (map test_of old) name test so_far is_test))

  pub all_names : length given ≤ at → take at (map shown_test names) ≡ map shown_test names
  all_names end = take_all at (map shown_test names) (omega (arith, length-map names shown_test, ap length is))
