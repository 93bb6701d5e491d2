-- The turns of the readers, from answer to answer.
use Rattle.std.proofs.Common.{◌≡◌, ◌≢◌, ℕ, ◌≤◌, ◌<◌, ◌⊎◌, inl, inr, List, [], ◌∷◌, ◌++◌, length, refl, sym, ap, ◌∙◌, subst, arith}
use Rattle.std.specs.Prelude.{All, Contains}
use Rattle.std.specs.List.{AllByRecursion}
use Rattle.std.proofs.lemmas.List.Elements.{All-contains, Contains-append_left, Contains-push}
use Rattle.steps.specs.Rows.{Row}
use Rattle.steps.specs.LegalRows.{AreInTurn}
use Rattle.steps.specs.Steps.{Given, AreTurned, given}
use Rattle.steps.specs.StepRows.{given_in, given_of, AllTurned}
use Rattle.steps.proofs.RowLemmas.{given_of-append}

-- What holds of all elements of a list, and of one more.
module _ {X : Type 0} (P : X → Type 0) where
  pub each_insert : (xs : List X) (x : X) (ys : List X) → AllByRecursion P (xs ++ ys) → P x → AllByRecursion P (xs ++ x ∷ ys)
  each_insert [] x ys all holds = (holds, all)
  each_insert (y ∷ xs) x ys all holds = (all.0, each_insert xs x ys all.1 holds)

  pub each_within : (xs : List X) (x : X) (ys : List X) → AllByRecursion P (xs ++ x ∷ ys) → P x
  each_within [] x ys all = all.0
  each_within (y ∷ xs) x ys all = each_within xs x ys all.1

  pub each_both : (xs ys : List X) → AllByRecursion P xs → AllByRecursion P ys → AllByRecursion P (xs ++ ys)
  each_both [] ys all more = more
  each_both (x ∷ xs) ys all more = (all.0, each_both xs ys all.1 more)

  pub each_without : (xs : List X) (x : X) (ys : List X) → AllByRecursion P (xs ++ x ∷ ys) → AllByRecursion P (xs ++ ys)
  each_without [] x ys all = all.1
  each_without (y ∷ xs) x ys all = (all.0, each_without xs x ys all.1)

  pub each_map : (Q : X → Type 0) → ((x : X) → P x → Q x) → (xs : List X) → AllByRecursion P xs → AllByRecursion Q xs
  each_map Q f [] all = tt
  each_map Q f (x ∷ xs) all = (f x all.0, each_map Q f xs all.1)

-- one more answer among answers that are in turn
pub turned_insert : (xs : List Given) (x : Given) (ys : List Given) → AllTurned (xs ++ ys)
    → AllByRecursion (λ y. AreTurned y x × AreTurned x y) (xs ++ ys) → AllTurned (xs ++ x ∷ ys)
turned_insert [] x ys all both = (each_map (λ y. AreTurned y x × AreTurned x y) (AreTurned x) (λ y h. h.1) ys both, all)
turned_insert (y ∷ xs) x ys all both = (each_insert (AreTurned y) xs x ys all.0 both.0.0, turned_insert xs x ys all.1 both.1)

turned_within : (xs : List Given) (x : Given) (ys : List Given) (y : Given) (zs : List Given) → AllTurned (xs ++ x ∷ (ys ++ y ∷ zs)) → AreTurned x y
turned_within [] x ys y zs all = each_within (AreTurned x) ys y zs all.0
turned_within (w ∷ xs) x ys y zs all = turned_within xs x ys y zs all.1

-- Two answers are in turn, whichever comes first.
pub turned_both : (x y : Given) → AreTurned y x → AreTurned y x × AreTurned x y
turned_both x y is =
    (is, λ same. let turned = is (sym same) in record { distinct = λ e. turned.distinct (sym e); rises = turned.falls; falls = turned.rises })

-- one answer fewer, which is in turn with the others
pub turned_out : (xs : List Given) (x : Given) (ys : List Given) → AllTurned (xs ++ x ∷ ys)
    → AllTurned (xs ++ ys) × AllByRecursion (λ y. AreTurned y x × AreTurned x y) (xs ++ ys)
turned_out [] x ys all =
    (all.1, each_map (AreTurned x) (λ y. AreTurned y x × AreTurned x y) (λ y is. let both = turned_both y x is in (both.1, both.0)) ys all.0)
turned_out (y ∷ xs) x ys all =
    let rest = turned_out xs x ys all.1 in (
      (each_without (AreTurned y) xs x ys all.0, rest.0),
      (turned_both x y (each_within (AreTurned y) xs x ys all.0), rest.1),
    )

-- one more answer, which is in turn with all that were given
module _ (answers : List Given) (x : Given) where
  pub turned_more : All (λ y. AreTurned y x) answers → (xs ys : List Given) → AllTurned (xs ++ ys) → AllByRecursion (Contains answers) (xs ++ ys)
      → AllTurned (xs ++ x ∷ ys)
  turned_more in_turn xs ys all noted =
      turned_insert xs x ys all
      (each_map (Contains answers) (λ y. AreTurned y x × AreTurned x y)
      (λ y inside. turned_both x y (All-contains (λ y. AreTurned y x) answers y in_turn inside)) (xs ++ ys) noted)

  pub noted_more : (xs ys : List Given) → AllByRecursion (Contains answers) (xs ++ ys)
      → AllByRecursion (Contains (answers ++ x ∷ [])) (xs ++ x ∷ ys)
  noted_more xs ys noted =
      each_insert (Contains (answers ++ x ∷ [])) xs x ys
      (each_map (Contains answers) (Contains (answers ++ x ∷ [])) (λ y inside. Contains-append_left answers (x ∷ []) y inside) (xs ++ ys) noted)
      (Contains-push answers x)

-- Rows whose answers are in turn are in turn.
pub rows_in_turn : (rows : List Row) → AllTurned (given_of rows) → AreInTurn rows
rows_in_turn rows all before middle after row row' reader number turn number' turn' answer answer' e entry entry' =
    turned_within (given_of before) (given reader turn answer.version) (given_of middle) (given reader turn' answer'.version) (given_of after)
    (subst AllTurned whole all) refl
  where
    second : given_of (middle ++ row' ∷ after) ≡ given_of middle ++ given reader turn' answer'.version ∷ given_of after
    second = given_of-append middle (row' ∷ after) ∙ ap (λ e. given_of middle ++ (given_in e ++ given_of after)) entry'

    whole : given_of rows ≡ given_of before ++ given reader turn answer.version ∷ (given_of middle ++ given reader turn' answer'.version ∷ given_of after)
    whole =
        ap given_of e ∙ given_of-append before (row ∷ (middle ++ row' ∷ after))
        ∙ ap (λ e. given_of before ++ (given_in e ++ given_of (middle ++ row' ∷ after))) entry
        ∙ ap (λ l. given_of before ++ given reader turn answer.version ∷ l) second
