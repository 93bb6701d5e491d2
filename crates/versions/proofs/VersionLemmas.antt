-- Versions, and what commands leave of them.
use Rattle.std.proofs.Common.{◌≡◌, ℕ, ◌+◌, ◌<◌, ◌≤◌, ◌^◌, ◌⊎◌, inl, inr, Bool, true, false, not, cond, List, [], ◌++◌, length, get_or, Some, None, Contains, refl, sym, ◌∙◌, ap, subst, arith}
use Rattle.std.specs.Prelude.{Option, option_map}
use Rattle.std.specs.Ordering.{is_eq, eq_by_cmp}
use Rattle.std.specs.declared.cmp.Ordering.{Ordering}
use Rattle.std.specs.declared.cmp.Ordering.TheVariants.{Less, Equal, Greater}
use Rattle.std.specs.Cmp.Lexicographic.{nat_list_cmp_total}
use Rattle.std.specs.FinMap.{entries, empty, get, insert, remove, retain_keys, len, len-empty, get-empty, get-insert, get-remove, get-retain_keys}
use Rattle.std.proofs.lemmas.Bool.{cases_lt}
use Rattle.std.proofs.lemmas.List.{get_or_default}
use Rattle.std.proofs.lemmas.List.Elements.{All-contains_itself, All-weaker, All-append, All-nil, Contains-append_left, Contains-append_right}
use Rattle.documents.specs.Documents.{Document, listed}
use Rattle.documents.specs.State.{State, state, applied, IsState}
use Rattle.documents.specs.declared.command.Command.TheVariants.{Remove, RemoveUnder}
use Rattle.prefixes.specs.Under.{begins_with}
use Rattle.documents.specs.Text.{IsName, IsBody}
use Rattle.documents.proofs.ListedLemmas.{found-listed}
use Rattle.names.specs.declared.content.Content.{Content}
use Rattle.std.specs.Borrow.{Bor}
use Rattle.names.specs.Contents.{Contents, contents_of, since}
use Rattle.segments.specs.Contents.{Content as Trigrams}
use Rattle.versions.specs.Private.Version.{Entry, bodies_of, IsSaid, IsEntry, IsVersion}
use Rattle.versions.specs.Private.Fresh.{no_entry, unnamed, entry_at, number_at, AreAnalysed}
use Rattle.versions.proofs.BodyLemmas.{R, same_name, alike, get-bodies, found_entry, bodies-remove, bodies-retain}
use Rattle.versions.specs.Private.Merging.{KeepsNamed}
use Rattle.versions.proofs.SaidLemmas.{differ-append}
use Rattle.versions.proofs.SinceLemmas.{analysed_all}
use Rattle.versions.proofs.MergeLemmas.{still_version}

-- ---- no commands

pub none : IsVersion 0 0 empty []
none = record {
  named = λ name content found. absurd_none content (sym (get-empty R name) ∙ found);
  same = λ name other c d found there e. absurd_none c (sym (get-empty R name) ∙ found);
  differ = λ i j d before inside. absurd (omega (arith, inside));
  below = All-nil (λ (c : Trigrams). c.number < 0);
  order = omega arith;
}
  where
    absurd_none : {A : Type 0} (c : Content) → None ≡ Some c → A
    absurd_none c e = cc

-- ---- a command that puts nothing

entry_later : (version analysed : ℕ) (all : List Trigrams) (name : List ℕ) (content : Content) → IsEntry version analysed all name content
    → IsEntry (version + 1) analysed all name content
entry_later version analysed all name content is = record {
  name_is = is.name_is;
  body_is = is.body_is;
  before = let less = is.before in omega (arith, less);
  is_said = is.is_said;
}

fewer : (version analysed : ℕ) (old new : Contents) (all : List Trigrams) → IsVersion version analysed old all
    → ((name : List ℕ) (content : Content) → get new name ≡ Some content → get old name ≡ Some content) → IsVersion (version + 1) analysed new all
fewer version analysed old new all is from = record {
  named = λ name content found. entry_later version analysed all name content (is.named name content (from name content found));
  same = λ name other c d found there. is.same name other c d (from name c found) (from other d there);
  differ = is.differ;
  below = is.below;
  order = let most = is.order in omega (arith, most);
}

if_not : (t : Bool) (o : Option Content) (c : Content) → cond t None o ≡ Some c → o ≡ Some c
if_not true o c e = cc
if_not false o c e = e

if_so : (t : Bool) (o : Option Content) (c : Content) → cond t o None ≡ Some c → o ≡ Some c
if_so true o c e = e
if_so false o c e = cc

pub removed : (version analysed : ℕ) (old : Contents) (all : List Trigrams) (k : List ℕ) → IsVersion version analysed old all
    → IsVersion (version + 1) analysed (remove old k) all
removed version analysed old all k is =
    fewer version analysed old (remove old k) all is (λ name content found.
    if_not (eq_by_cmp R name k) (get old name) content (sym (get-remove nat_list_cmp_total old k name) ∙ found))

pub retained : (version analysed : ℕ) (old : Contents) (all : List Trigrams) (p : List ℕ → Bool) → IsVersion version analysed old all
    → IsVersion (version + 1) analysed (retain_keys old p) all
retained version analysed old all p is =
    fewer version analysed old (retain_keys old p) all is (λ name content found.
    if_so (p name) (get old name) content (sym (get-retain_keys old p name (alike p name)) ∙ found))

-- ---- a put

equal : (o : Ordering) → is_eq o ≡ true → o ≡ Equal
equal Less h = cc
equal Equal h = refl
equal Greater h = cc

-- what has a name after a put was put, or had it before
pub put_or_before : (old : Contents) (k : List ℕ) (put : Content) (name : List ℕ) (c : Content) → get {R = R} (insert old k put) name ≡ Some c
    → ((k ≡ name) × (put ≡ c)) ⊎ (get {R = R} old name ≡ Some c)
put_or_before old k put name c found = go (eq_by_cmp R name k) refl (sym (get-insert nat_list_cmp_total old k put name) ∙ found)
  where
    go : (t : Bool) → eq_by_cmp R name k ≡ t → cond t (Some put) (get old name) ≡ Some c → ((k ≡ name) × (put ≡ c)) ⊎ (get {R = R} old name ≡ Some c)
    go true tie e = inl (sym (same_name name k (equal (R name k) tie)), cc)
    go false tie e = inr e

-- ---- segments for all that is new

entry_is : (es : List Entry) (e : Entry) → Contains es e → (i : ℕ) × (i < length es) × (entry_at es i ≡ e)
entry_is es e there = (there.0, there.1, get_or_inside es there.0 e there.1 ∙ there.2)
  where
    get_or_inside : (xs : List Entry) (i : ℕ) (d : Entry) → i < length xs → entry_at xs i ≡ get_or xs i d
    get_or_inside xs i d inside = get_or_default xs i no_entry d inside

module _ (version analysed : ℕ) (contents : Contents) (all more : List Trigrams) (es : List Entry) (is : IsVersion version analysed contents all)
    (entries_are : es ≡ entries contents) where
  module _ (are : AreAnalysed analysed version es more) where
    said_then : (name : List ℕ) (c : Content) → get contents name ≡ Some c → IsSaid (all ++ more) c
    said_then name c found = go (cases_lt c.number analysed)
      where
        old : IsSaid all c → IsSaid (all ++ more) c
        old said = record {
          trigrams = said.trigrams;
          there = Contains-append_left all more said.trigrams said.there;
          number_is = said.number_is;
          same = said.same;
        }

        new : IsSaid more c → IsSaid (all ++ more) c
        new said = record {
          trigrams = said.trigrams;
          there = Contains-append_right all more said.trigrams said.there;
          number_is = said.number_is;
          same = said.same;
        }

        go : (c.number < analysed) ⊎ (analysed ≤ c.number) → IsSaid (all ++ more) c
        go (inl less) = old ((is.named name c found).is_said less)
        go (inr from) =
            let at = entry_is es (name, c) (subst (λ (xs : List Entry). Contains xs (name, c)) (sym entries_are) (found_entry contents name c found)) in
            let same : (entry_at es at.0).1 ≡ c = ap (λ (e : Entry). e.1) at.2 in
            let number_is : number_at es at.0 ≡ c.number = ap (λ (x : Content). x.number) same in
            let before = (is.named name c found).before in
            subst (IsSaid (all ++ more)) refl (new (subst (IsSaid more) same (are.found at.0 at.1 (omega (arith, number_is, from)) (omega (arith, number_is, before)))))

    pub made_whole : IsVersion version version contents (all ++ more)
    made_whole = record {
      named = λ name c found. (let old = is.named name c found in record {
        name_is = old.name_is;
        body_is = old.body_is;
        before = old.before;
        is_said = λ less. said_then name c found;
      });
      same = is.same;
      differ = differ-append analysed all more is.differ is.below are.from are.in_order.numbers;
      below = let most = is.order in
          All-append (λ (c : Trigrams). c.number < version) all more
          (All-weaker (λ (c : Trigrams). c.number < analysed) (λ (c : Trigrams). c.number < version) (λ c less. omega (arith, less, most)) all is.below)
          are.below;
      order = omega arith;
    }

-- ---- the state

held_some : (o : Option Content) (body : List ℕ) → option_map (λ (c : Content). c.held) o ≡ Some body → (c : Content) × (o ≡ Some c) × (c.held ≡ body)
held_some None body e = cc
held_some (Some c) body e = (c, refl, cc)

pub is_state : (version analysed : ℕ) (contents : Contents) (all : List Trigrams) → IsVersion version analysed contents all
    → IsState (state version (bodies_of contents))
is_state version analysed contents all is =
    All-weaker (Contains (listed (bodies_of contents))) (λ (d : Document). IsName d.name × IsBody d.body) good (listed (bodies_of contents))
    (All-contains_itself (listed (bodies_of contents)))
  where
    good : (d : Document) → Contains (listed (bodies_of contents)) d → IsName d.name × IsBody d.body
    good d there =
        let found = held_some (get contents d.name) d.body (sym (get-bodies contents d.name) ∙ found-listed (bodies_of contents) d there) in
        let entry = is.named d.name found.0 found.1 in
        (entry.name_is, subst IsBody found.2 entry.body_is)

-- ---- what is made is what the command leaves

pub remove_done : (version : ℕ) (old new : Contents) (k : List ℕ) (now next : State) → state version (bodies_of old) ≡ now
    → new ≡ remove old k → next ≡ state (version + 1) (bodies_of new) → next ≡ applied (Remove k) now
remove_done version old new k now next view_is new_is is =
    is ∙ (ap (state (version + 1)) (ap bodies_of new_is ∙ bodies-remove old k) ∙ ap (applied (Remove k)) view_is)

pub remove_under_done : (version : ℕ) (old new : Contents) (text : List ℕ) (now next : State) → state version (bodies_of old) ≡ now
    → new ≡ retain_keys old (λ name. not (begins_with text name)) → next ≡ state (version + 1) (bodies_of new) → next ≡ applied (RemoveUnder text) now
remove_under_done version old new text now next view_is new_is is =
    is
    ∙ (ap (state (version + 1)) (ap bodies_of new_is ∙ bodies-retain old (λ name. not (begins_with text name)))
    ∙ ap (applied (RemoveUnder text)) view_is)

-- what is analysed of the late contents makes a version whole
pub whole_made : (version analysed count : ℕ) (contents names : Contents) (all more sets : List Trigrams) (given : List (Bor Content))
    → IsVersion version analysed contents all → contents_of given ≡ since analysed contents → analysed + count ≡ version
    → AreAnalysed analysed (analysed + count) (unnamed given) more → sets ≡ all ++ more → names ≡ contents → IsVersion version version names sets
whole_made version analysed count contents names all more sets given is given_is sum are sets_are names_are =
    subst (λ (cs : Contents). IsVersion version version cs sets) (sym names_are)
    (subst (IsVersion version version contents) (sym sets_are)
    (made_whole version analysed contents all more (entries contents) is refl
    (analysed_all analysed version contents given more given_is (subst (λ (end : ℕ). AreAnalysed analysed end (unnamed given) more) sum are))))

-- and what is made of its segments then
pub settled_made : (version analysed count : ℕ) (contents names : Contents) (all more joined sets : List Trigrams) (given : List (Bor Content))
    → IsVersion version analysed contents all → contents_of given ≡ since analysed contents → analysed + count ≡ version
    → AreAnalysed analysed (analysed + count) (unnamed given) more → joined ≡ all ++ more → KeepsNamed contents joined sets → names ≡ contents
    → IsVersion version version names sets
settled_made version analysed count contents names all more joined sets given is given_is sum are joined_is keeps names_are =
    subst (λ (cs : Contents). IsVersion version version cs sets) (sym names_are)
    (still_version version version contents joined sets
    (whole_made version analysed count contents contents all more joined given is given_is sum are joined_is refl) keeps)

-- ---- the same again

pub same_version : (version analysed : ℕ) (contents names : Contents) (all sets : List Trigrams) → names ≡ contents → sets ≡ all
    → IsVersion version analysed contents all → IsVersion version analysed names sets
same_version version analysed contents names all sets names_are sets_are is =
    subst (λ (cs : Contents). IsVersion version analysed cs sets) (sym names_are) (subst (IsVersion version analysed contents) (sym sets_are) is)

pub same_few : (contents names : Contents) → names ≡ contents → len contents < 2 ^ 32 → len names < 2 ^ 32
same_few contents names are few = let same = ap len are in omega (arith, same, few)

pub none_few : len {X = Content} {R = R} empty < 2 ^ 32
none_few = let is = len-empty R Content in omega (arith, is)
