-- The documents that commands leave, by the last Puts of their names.
use Rattle.std.proofs.Common.{◌≡◌, ℕ, ◌||◌, ◌&&◌, ◌++◌, Bool, true, false, cond, List, [], ◌∷◌, Option, Some, None, refl, sym, ◌∙◌, ap, subst, append_assoc, append-nil}
use Rattle.std.specs.Prelude.{not, is_some}
use Rattle.std.specs.FinMap.{empty, get, get-empty, get-insert, get-remove, get-retain_keys}
use Rattle.std.specs.Ordering.{nat_cmp, is_eq}
use Rattle.std.specs.Cmp.{tied_itself}
use Rattle.std.specs.Cmp.Lexicographic.{slice_cmp, nat_list_cmp_total}
use Rattle.std.proofs.lemmas.Bool.{false≢true}
use Rattle.std.proofs.lemmas.List.Sums.{fold-append}
use Rattle.std.proofs.lemmas.Map.Lookups.{exact_bytes}
use Rattle.prefixes.specs.Under.{begins_with}
use Rattle.documents.specs.declared.command.Command.{Command}
use Rattle.documents.specs.declared.command.Command.TheVariants.{Put, Remove, RemoveUnder, CopyUnder}
use Rattle.documents.specs.Documents.{Documents, documents_after, documents_from, documents_of, bears_on, is_taken, is_touched, renamed, IsPutLast}
use Rattle.documents.specs.Documents.{was_put, was_copied}
use Rattle.documents.proofs.RenamedLemmas.{one_or_other, get-copied}
use Rattle.documents.proofs.ElementLemmas.{same_name}
use Rattle.documents.proofs.ListedLemmas.{ties}

pub turned : {X : Type 0} (t : Bool) (x y : X) → cond (not t) x y ≡ cond t y x
turned true x y = refl
turned false x y = refl

-- the body under a name after one more command
pub get-put : (name body other : List ℕ) (ds : Documents) → get (documents_after (Put name body) ds) other ≡ cond (bears_on other ds (Put name body)) (Some body) (get ds other)
get-put name body other ds =
    get-insert nat_list_cmp_total ds name body other ∙ ap (λ t. cond t (Some body) (get ds other)) (sym (ties name other))

pub get-removed : (name other : List ℕ) (ds : Documents) → get (documents_after (Remove name) ds) other ≡ cond (bears_on other ds (Remove name)) None (get ds other)
get-removed name other ds =
    get-remove nat_list_cmp_total ds name other ∙ ap (λ t. cond t None (get ds other)) (sym (ties name other))

pub get-removed_under : (prefix other : List ℕ) (ds : Documents)
    → get (documents_after (RemoveUnder prefix) ds) other ≡ cond (bears_on other ds (RemoveUnder prefix)) None (get ds other)
get-removed_under prefix other ds =
    get-retain_keys ds (λ n. not (begins_with prefix n)) other (λ n same. ap (λ x. not (begins_with prefix x)) (sym (exact_bytes other n same)))
    ∙ turned (begins_with prefix other) (get ds other) None

pub get-copied_under : (from to other : List ℕ) (ds : Documents) → bears_on other ds (CopyUnder from to) ≡ true
    → get (documents_after (CopyUnder from to) ds) other ≡ get ds (renamed to from other)
get-copied_under from to other ds e = get-copied from to other ds ∙ go (begins_with to other) (get ds (renamed to from other)) e
  where
    go : (t : Bool) (found : Option (List ℕ)) → (t && is_some found) ≡ true → one_or_other (cond t found None) (get ds other) ≡ found
    go true (Some body) e = refl
    go true None e = absurd (false≢true e)
    go false found e = absurd (false≢true e)

stays : (c : Command) (ds : Documents) (name : List ℕ) → bears_on name ds c ≡ false → get (documents_after c ds) name ≡ get ds name
stays (Put n body) ds name e = get-put n body name ds ∙ ap (λ t. cond t (Some body) (get ds name)) e
stays (Remove n) ds name e = get-removed n name ds ∙ ap (λ t. cond t None (get ds name)) e
stays (RemoveUnder prefix) ds name e = get-removed_under prefix name ds ∙ ap (λ t. cond t None (get ds name)) e
stays (CopyUnder from to) ds name e = get-copied from to name ds ∙ go (begins_with to name) (get ds (renamed to from name)) e
  where
    go : (t : Bool) (found : Option (List ℕ)) → (t && is_some found) ≡ false → one_or_other (cond t found None) (get ds name) ≡ get ds name
    go true (Some body) e = absurd (false≢true (sym e))
    go true None e = refl
    go false found e = refl

or_first : (t u : Bool) → (t || u) ≡ false → t ≡ false
or_first true u e = e
or_first false u e = refl

or_second : (t u : Bool) → (t || u) ≡ false → u ≡ false
or_second true u e = absurd (false≢true (sym e))
or_second false u e = e

all_stay : (later : List Command) (ds : Documents) (name : List ℕ) → is_touched name ds later ≡ false
    → get (documents_from ds later) name ≡ get ds name
all_stay [] ds name e = refl
all_stay (c ∷ later) ds name e =
    all_stay later (documents_after c ds) name (or_second (bears_on name ds c) (is_touched name (documents_after c ds) later) e)
    ∙ stays c ds name (or_first (bears_on name ds c) (is_touched name (documents_after c ds) later) e)

-- the documents after the first commands, and then the others
split : (commands before later : List Command) (c : Command) → commands ≡ before ++ c ∷ later
    → documents_of commands ≡ documents_from (documents_of (before ++ c ∷ [])) later
split commands before later c is =
    ap documents_of is
    ∙ ap documents_of (sym (append_assoc before (c ∷ []) later))
    ∙ fold-append (λ (ds : Documents) (x : Command). documents_after x ds) empty (before ++ c ∷ []) later

one_more : (before : List Command) (c : Command) → documents_of (before ++ c ∷ []) ≡ documents_after c (documents_of before)
one_more before c = fold-append (λ (ds : Documents) (x : Command). documents_after x ds) empty before (c ∷ [])

pub last-found : (commands : List Command) (name body : List ℕ) → IsPutLast commands name body → get (documents_of commands) name ≡ Some body
last-found commands name body (was_put before later is untouched) =
    let ds = documents_of before in
    ap (λ x. get x name) (split commands before later (Put name body) is)
    ∙ all_stay later (documents_of (before ++ Put name body ∷ [])) name untouched
    ∙ ap (λ x. get x name) (one_more before (Put name body))
    ∙ get-insert nat_list_cmp_total ds name body name
    ∙ ap (λ o. cond (is_eq o) (Some body) (get ds name)) (tied_itself nat_list_cmp_total name)
last-found commands name body (was_copied before later from to is begins source untouched) =
    let ds = documents_of before in
    let there : get ds (renamed to from name) ≡ Some body = last-found before (renamed to from name) body source in
    ap (λ x. get x name) (split commands before later (CopyUnder from to) is)
    ∙ all_stay later (documents_of (before ++ CopyUnder from to ∷ [])) name untouched
    ∙ ap (λ x. get x name) (one_more before (CopyUnder from to))
    ∙ get-copied_under from to name ds (ap (λ t. t && is_some (get ds (renamed to from name))) begins ∙ ap is_some there)
    ∙ there

touched-more : (name : List ℕ) (ds : Documents) (later : List Command) (c : Command) → is_touched name ds later ≡ false
    → bears_on name (documents_from ds later) c ≡ false → is_touched name ds (later ++ c ∷ []) ≡ false
touched-more name ds [] c none e = ap (λ t. t || false) e
touched-more name ds (d ∷ later) c none e =
    ap (λ t. t || is_touched name (documents_after d ds) (later ++ c ∷ [])) (or_first (bears_on name ds d) (is_touched name (documents_after d ds) later) none)
    ∙ touched-more name (documents_after d ds) later c (or_second (bears_on name ds d) (is_touched name (documents_after d ds) later) none) e

-- one more command that does not bear on the name
kept-last : (commands : List Command) (c : Command) (name body : List ℕ) → bears_on name (documents_of commands) c ≡ false → IsPutLast commands name body
    → IsPutLast (commands ++ c ∷ []) name body
kept-last commands c name body e (was_put before later is untouched) =
    was_put before (later ++ c ∷ []) (ap (λ cs. cs ++ c ∷ []) is ∙ append_assoc before (Put name body ∷ later) (c ∷ []))
    (touched-more name (documents_of (before ++ Put name body ∷ [])) later c untouched
    (ap (λ ds. bears_on name ds c) (sym (split commands before later (Put name body) is)) ∙ e))
kept-last commands c name body e (was_copied before later from to is begins source untouched) =
    was_copied before (later ++ c ∷ []) from to (ap (λ cs. cs ++ c ∷ []) is ∙ append_assoc before (CopyUnder from to ∷ later) (c ∷ [])) begins source
    (touched-more name (documents_of (before ++ CopyUnder from to ∷ [])) later c untouched
    (ap (λ ds. bears_on name ds c) (sym (split commands before later (CopyUnder from to) is)) ∙ e))

-- what is found after one more command, where what was found before was put last
next-last : (before : List Command) → ((name body : List ℕ) → get (documents_of before) name ≡ Some body → IsPutLast before name body)
    → (c : Command) (name body : List ℕ) → get (documents_after c (documents_of before)) name ≡ Some body → IsPutLast (before ++ c ∷ []) name body
next-last before known c name body found = go c (bears_on name (documents_of before) c) refl found
  where
    ds : Documents
    ds = documents_of before

    go : (x : Command) (t : Bool) → bears_on name ds x ≡ t → get (documents_after x ds) name ≡ Some body → IsPutLast (before ++ x ∷ []) name body
    go x false e found = kept-last before x name body e (known name body (sym (stays x ds name e) ∙ found))
    go (Put n b) true e found =
        let text : Some b ≡ Some body = ap (λ t. cond t (Some b) (get ds name)) (sym e) ∙ sym (get-put n b name ds) ∙ found in
        let same : b ≡ body = cc in
        was_put before [] (ap (λ x. before ++ Put x b ∷ []) (same_name n name e) ∙ ap (λ x. before ++ Put name x ∷ []) same) refl
    go (Remove n) true e found =
        let text : None ≡ Some body = ap (λ t. cond t None (get ds name)) (sym e) ∙ sym (get-removed n name ds) ∙ found in
        cc
    go (RemoveUnder prefix) true e found =
        let text : None ≡ Some body = ap (λ t. cond t None (get ds name)) (sym e) ∙ sym (get-removed_under prefix name ds) ∙ found in
        cc
    go (CopyUnder from to) true e found =
        was_copied before [] from to refl (and_first (begins_with to name) (is_taken (renamed to from name) (documents_of before)) e)
        (known (renamed to from name) body (sym (get-copied_under from to name ds e) ∙ found)) refl
      where
        and_first : (t u : Bool) → (t && u) ≡ true → t ≡ true
        and_first true u e = refl
        and_first false u e = e

-- a body that is found was put last
from-last : (before later : List Command) → ((name body : List ℕ) → get (documents_of before) name ≡ Some body → IsPutLast before name body)
    → (name body : List ℕ) → get (documents_of (before ++ later)) name ≡ Some body → IsPutLast (before ++ later) name body
from-last before [] known name body found =
    subst (λ cs. IsPutLast cs name body) (sym (append-nil before)) (known name body (ap (λ cs. get (documents_of cs) name) (sym (append-nil before)) ∙ found))
from-last before (c ∷ later) known name body found =
    subst (λ cs. IsPutLast cs name body) (append_assoc before (c ∷ []) later)
    (from-last (before ++ c ∷ []) later
    (λ n b e. next-last before known c n b (ap (λ ds. get ds n) (sym (one_more before c)) ∙ e))
    name body (ap (λ cs. get (documents_of cs) name) (append_assoc before (c ∷ []) later) ∙ found))

pub found-last : (commands : List Command) (name body : List ℕ) → get (documents_of commands) name ≡ Some body → IsPutLast commands name body
found-last commands name body e =
    from-last [] commands (λ n b found. let none : None ≡ Some b = sym (get-empty (slice_cmp nat_cmp) n) ∙ found in cc) name body e
