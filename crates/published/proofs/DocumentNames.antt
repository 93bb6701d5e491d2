-- Which names have a document after one more command.
use Rattle.std.proofs.Common.{◌≡◌, ℕ, Bool, true, false, not, ◌&&◌, ◌||◌, cond, List, [], ◌∷◌, ◌++◌, Option, Some, None, refl, sym, ap, ◌∙◌}
use Rattle.std.specs.Prelude.{bytes_eq, is_some, filter, length, nat_lt}
use Rattle.std.proofs.lemmas.List.Folds.{Any-from_list_any, list_any-from_Any}
use Rattle.std.proofs.lemmas.Map.Lookups.{exact_bytes}
use Rattle.std.proofs.lemmas.Map.Views.{tells_apart, Contains-from_any, list_any-from_Contains}
use Rattle.std.specs.Cmp.{both_ways, eq_by_cmp_equiv}
use Rattle.std.specs.Cmp.Lexicographic.{slice_cmp, nat_list_cmp_total}
use Rattle.std.specs.FinMap.{get, get-empty, keys, contains_key-keys}
use Rattle.std.specs.Ordering.{nat_cmp, eq_by_cmp}
use Rattle.std.specs.List.{list_any}
use Rattle.prefixes.specs.Under.{begins_with}
use Rattle.documents.specs.declared.command.Command.{Command}
use Rattle.documents.specs.declared.command.Command.TheVariants.{Put, Remove, RemoveUnder, CopyUnder}
use Rattle.documents.specs.Documents.{documents_of, renamed}
use Rattle.documents.proofs.LawLemmas.{get-put, get-removed, get-removed_under}
use Rattle.documents.proofs.RenamedLemmas.{one_or_other, get-copied}
use Rattle.documents.proofs.StateLemmas.{state_of-push}
use Rattle.published.specs.Desk.{has_document, has_document_under, has_document_too_long}
use Rattle.published.specs.Private.DeskParts.{HasNamesOf}
use Rattle.published.specs.Private.Names.{has_long_copy, has_name_under}
use Rattle.published.specs.declared.names.Names.{Names}

is_some-put : {X : Type 0} (x : X) (t : Bool) (found : Option X) → is_some (cond t (Some x) found) ≡ (t || is_some found)
is_some-put x true found = refl
is_some-put x false found = refl

is_some-left : {X : Type 0} (t : Bool) (found : Option X) → is_some (cond t None found) ≡ (not t && is_some found)
is_some-left true found = refl
is_some-left false found = refl

pub has_document-put : (commands : List Command) (n body name : List ℕ)
    → has_document (commands ++ Put n body ∷ []) name ≡ (bytes_eq n name || has_document commands name)
has_document-put commands n body name =
    ap (λ s. is_some (get s.documents name)) (state_of-push commands (Put n body))
    ∙ ap is_some (get-put n body name (documents_of commands))
    ∙ is_some-put body (bytes_eq n name) (get (documents_of commands) name)

pub has_document-remove : (commands : List Command) (n name : List ℕ)
    → has_document (commands ++ Remove n ∷ []) name ≡ (not (bytes_eq n name) && has_document commands name)
has_document-remove commands n name =
    ap (λ s. is_some (get s.documents name)) (state_of-push commands (Remove n))
    ∙ ap is_some (get-removed n name (documents_of commands))
    ∙ is_some-left (bytes_eq n name) (get (documents_of commands) name)

pub has_document-remove_under : (commands : List Command) (n name : List ℕ)
    → has_document (commands ++ RemoveUnder n ∷ []) name ≡ (not (begins_with n name) && has_document commands name)
has_document-remove_under commands n name =
    ap (λ s. is_some (get s.documents name)) (state_of-push commands (RemoveUnder n))
    ∙ ap is_some (get-removed_under n name (documents_of commands))
    ∙ is_some-left (begins_with n name) (get (documents_of commands) name)

pub has_document-copy_under : (commands : List Command) (from to name : List ℕ)
    → has_document (commands ++ CopyUnder from to ∷ []) name
    ≡ ((begins_with to name && has_document commands (renamed to from name)) || has_document commands name)
has_document-copy_under commands from to name =
    ap (λ s. is_some (get s.documents name)) (state_of-push commands (CopyUnder from to))
    ∙ ap is_some (get-copied from to name (documents_of commands))
    ∙ go (begins_with to name) (get (documents_of commands) (renamed to from name)) (get (documents_of commands) name)
  where
    go : {X : Type 0} (b : Bool) (x y : Option X) → is_some (one_or_other (cond b x None) y) ≡ ((b && is_some x) || is_some y)
    go true None y = refl
    go true (Some x) y = refl
    go false x y = refl

pub has_document-none : (name : List ℕ) → has_document [] name ≡ false
has_document-none name = ap is_some (get-empty (slice_cmp nat_cmp) name)

-- ---- names that begin with a text

-- what some name of one list passes, some name of another with the same names passes
any_alike : (p : List ℕ → Bool) (xs ys : List (List ℕ))
    → ((q : List ℕ) → list_any (eq_by_cmp (slice_cmp nat_cmp) q) xs ≡ list_any (eq_by_cmp (slice_cmp nat_cmp) q) ys)
    → list_any p xs ≡ true → list_any p ys ≡ true
any_alike p xs ys alike e =
    let at = Any-from_list_any p xs e in
    let there =
    Contains-from_any {eq = eq_by_cmp (slice_cmp nat_cmp)} (tells_apart exact_bytes) at.1 ys
    (sym (alike at.1) ∙ list_any-from_Contains (eq_by_cmp_equiv nat_list_cmp_total) at.1 xs (at.0, at.2, at.3)) in
    list_any-from_Any p ys (there.0, at.1, there.1, there.2, at.4)

-- some name of a set that has the names of documents begins with the text exactly if that of some document does
pub under_as : (commands : List Command) (names : Names) (text : List ℕ) → HasNamesOf names commands
    → has_name_under names text ≡ has_document_under commands text
under_as commands names text named =
    both_ways (has_name_under names text) (has_document_under commands text)
    (any_alike (begins_with text) names.names.keys (keys (documents_of commands)) same)
    (any_alike (begins_with text) (keys (documents_of commands)) names.names.keys (λ q. sym (same q)))
  where
    same : (q : List ℕ) → list_any (eq_by_cmp (slice_cmp nat_cmp) q) names.names.keys
        ≡ list_any (eq_by_cmp (slice_cmp nat_cmp) q) (keys (documents_of commands))
    same q = named q ∙ contains_key-keys (documents_of commands) q

-- the same of names that would be too long
pub long_as : (commands : List Command) (names : Names) (most : ℕ) (from to : List ℕ) → HasNamesOf names commands
    → has_long_copy names most from to ≡ has_document_too_long commands most from to
long_as commands names most from to named =
    any_filtered (λ name. nat_lt most (length (renamed from to name))) (begins_with from) names.names.keys
    ∙ both_ways (list_any too_long names.names.keys) (list_any too_long (keys (documents_of commands)))
    (any_alike too_long names.names.keys (keys (documents_of commands)) same)
    (any_alike too_long (keys (documents_of commands)) names.names.keys (λ q. sym (same q)))
  where
    too_long : List ℕ → Bool
    too_long name = begins_with from name && nat_lt most (length (renamed from to name))

    any_filtered : (p b : List ℕ → Bool) (xs : List (List ℕ)) → list_any p (filter b xs) ≡ list_any (λ x. b x && p x) xs
    any_filtered p b [] = refl
    any_filtered p b (x ∷ xs) = go (b x) (any_filtered p b xs)
      where
        go : (t : Bool) → list_any p (filter b xs) ≡ list_any (λ y. b y && p y) xs
            → list_any p (cond t (x ∷ filter b xs) (filter b xs)) ≡ ((t && p x) || list_any (λ y. b y && p y) xs)
        go true deeper = ap (λ u. p x || u) deeper
        go false deeper = deeper

    same : (q : List ℕ) → list_any (eq_by_cmp (slice_cmp nat_cmp) q) names.names.keys
        ≡ list_any (eq_by_cmp (slice_cmp nat_cmp) q) (keys (documents_of commands))
    same q = named q ∙ contains_key-keys (documents_of commands) q
