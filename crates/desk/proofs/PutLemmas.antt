-- Which names documents have after puts.
use Rattle.std.proofs.Common.{◌≡◌, ℕ, Bool, true, false, ◌||◌, ◌&&◌, cond, List, [], ◌∷◌, Option, Some, None, refl, sym, ap, ◌∙◌, true≢false}
use Rattle.std.specs.Prelude.{bytes_eq, is_some}
use Rattle.std.proofs.lemmas.List.Elements.{All-head, All-tail}
use Rattle.std.proofs.lemmas.List.Folds.{Any-from_list_any, list_any-from_Any}
use Rattle.std.proofs.lemmas.Map.Lookups.{exact_bytes}
use Rattle.std.proofs.lemmas.Map.Views.{tells_apart, Contains-from_any, list_any-from_Contains}
use Rattle.std.specs.Cmp.{both_ways, eq_by_cmp_equiv}
use Rattle.std.specs.Cmp.Lexicographic.{slice_cmp, nat_list_cmp_total}
use Rattle.std.specs.FinMap.{get, insert, keys, contains_key-keys}
use Rattle.std.specs.Ordering.{nat_cmp, eq_by_cmp, is_eq}
use Rattle.std.specs.List.{list_any}
use Rattle.prefixes.specs.Under.{begins_with}
use Rattle.documents.specs.Documents.{Documents, has_long_copy, has_under, is_taken}
use Rattle.documents.specs.State.{State, applied}
use Rattle.documents.specs.declared.command.Command.TheVariants.{Put as put_command}
use Rattle.documents.proofs.LawLemmas.{get-put}
use Rattle.documents.proofs.ListedLemmas.{ties}
use Rattle.versions.specs.declared.update.Update.{Update}
use Rattle.versions.specs.declared.update.Update.TheVariants.{Put, Remove, RemoveUnder, CopyUnder}
use Rattle.versions.specs.Updates.{after, commands_of}
use Rattle.desk.specs.Private.Puts.{ArePuts, is_long, puts}

is_some-put : {X : Type 0} (x : X) (t : Bool) (found : Option X) → is_some (cond t (Some x) found) ≡ (t || is_some found)
is_some-put x true found = refl
is_some-put x false found = refl

-- what some name of one list passes, some name of another with the same names passes
any_alike : (p : List ℕ → Bool) (xs ys : List (List ℕ))
    → ((q : List ℕ) → list_any (eq_by_cmp (slice_cmp nat_cmp) q) xs ≡ list_any (eq_by_cmp (slice_cmp nat_cmp) q) ys)
    → list_any p xs ≡ true → list_any p ys ≡ true
any_alike p xs ys alike e =
    let at = Any-from_list_any p xs e in
    let there =
    Contains-from_any {eq = eq_by_cmp (slice_cmp nat_cmp)} (tells_apart exact_bytes) at.1 ys
    (sym (alike at.1) ∙ list_any-from_Contains (eq_by_cmp_equiv nat_list_cmp_total) at.1 xs (at.0, at.2, at.3)) in
    list_any-from_Any p ys (there.0, at.1, there.1, there.2, at.4)

-- a document with the name after a put
pub taken-put : (name n body : List ℕ) (ds : Documents) → is_taken name (insert ds n body) ≡ (bytes_eq n name || is_taken name ds)
taken-put name n body ds = ap is_some (get-put n body name ds) ∙ is_some-put body (bytes_eq n name) (get ds name)

-- and one whose name passes a test
pub any-put : (p : List ℕ → Bool) (n body : List ℕ) (ds : Documents) → list_any p (keys (insert ds n body)) ≡ (p n || list_any p (keys ds))
any-put p n body ds =
    both_ways (list_any p (keys (insert ds n body))) (p n || list_any p (keys ds))
    (any_alike p (keys (insert ds n body)) (n ∷ keys ds) same)
    (any_alike p (n ∷ keys ds) (keys (insert ds n body)) (λ q. sym (same q)))
  where
    same : (q : List ℕ) → list_any (eq_by_cmp (slice_cmp nat_cmp) q) (keys (insert ds n body))
        ≡ (eq_by_cmp (slice_cmp nat_cmp) q n || list_any (eq_by_cmp (slice_cmp nat_cmp) q) (keys ds))
    same q =
        sym (contains_key-keys (insert ds n body) q)
        ∙ (taken-put q n body ds
        ∙ (ap (λ t. t || is_taken q ds) (ties n q) ∙ ap (λ t. eq_by_cmp (slice_cmp nat_cmp) q n || t) (contains_key-keys ds q)))

abbrev IsPut : Update → Type 0
IsPut u = puts (λ _. true) u ≡ true

or_false : (a : Bool) → a ≡ (a || false)
or_false true = refl
or_false false = refl

put_first : (a b c : Bool) → ((b || a) || c) ≡ (a || (b || c))
put_first true true c = refl
put_first true false c = refl
put_first false true c = refl
put_first false false c = refl

-- A question that a put answers by its name is answered by the draft and the puts that it lacks.
module _ (asks : Documents → Bool) (p : List ℕ → Bool) (step : (n body : List ℕ) (ds : Documents) → asks (insert ds n body) ≡ (p n || asks ds)) where
  pub asks-puts : (waiting : List Update) (s : State) → ArePuts waiting
      → asks (after (commands_of waiting) s).documents ≡ (asks s.documents || list_any (puts p) waiting)
  asks-puts [] s are = or_false (asks s.documents)
  asks-puts (Put n held like ∷ later) s are =
      asks-puts later (applied (put_command n held) s) (All-tail IsPut (Put n held like) later are)
      ∙ (ap (λ t. t || list_any (puts p) later) (step n held s.documents) ∙ put_first (asks s.documents) (p n) (list_any (puts p) later))
  asks-puts (Remove n ∷ later) s are = absurd (true≢false (sym (All-head IsPut (Remove n) later are)))
  asks-puts (RemoveUnder n ∷ later) s are = absurd (true≢false (sym (All-head IsPut (RemoveUnder n) later are)))
  asks-puts (CopyUnder from to ∷ later) s are = absurd (true≢false (sym (All-head IsPut (CopyUnder from to) later are)))

pub taken-puts : (name : List ℕ) (waiting : List Update) (s : State) → ArePuts waiting
    → is_taken name (after (commands_of waiting) s).documents ≡ (is_taken name s.documents || list_any (puts (λ other. bytes_eq other name)) waiting)
taken-puts name = asks-puts (is_taken name) (λ other. bytes_eq other name) (taken-put name)

pub under-puts : (text : List ℕ) (waiting : List Update) (s : State) → ArePuts waiting
    → has_under text (after (commands_of waiting) s).documents ≡ (has_under text s.documents || list_any (puts (begins_with text)) waiting)
under-puts text = asks-puts (has_under text) (begins_with text) (any-put (begins_with text))

pub long-puts : (most : ℕ) (from to : List ℕ) (waiting : List Update) (s : State) → ArePuts waiting
    → has_long_copy most from to (after (commands_of waiting) s).documents
    ≡ (has_long_copy most from to s.documents || list_any (puts (is_long most from to)) waiting)
long-puts most from to = asks-puts (has_long_copy most from to) (is_long most from to) (any-put (is_long most from to))

-- an answer that the draft gives, or the puts that it lacks
pub found_there : (h a b whole : Bool) → h ≡ a → h ≡ true → whole ≡ (a || b) → h ≡ whole
found_there h a b whole is found all = found ∙ sym (all ∙ ap (λ x. x || b) (sym is ∙ found))

pub found_behind : (h a b whole r : Bool) → h ≡ a → h ≡ false → whole ≡ (a || b) → r ≡ b → r ≡ whole
found_behind h a b whole r is none all behind = behind ∙ sym (all ∙ ap (λ x. x || b) (sym is ∙ none))
