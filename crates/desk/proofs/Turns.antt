-- Steps that keep the rule.
use Rattle.std.proofs.Common.{◌≡◌, ℕ, ◌≢◌, List, Option, Some, None, set, refl, sym, subst, ⊎_elim}
use mathlib.Core.Option.{some}
use lib.ListN.{get_elem?}
use Rattle.left_right.specs.Register.{Admits, Turns, TurnsAt, Forks, Merges}
use Rattle.atomic_table.proofs.Lists.{at_set, at_snoc}
use Rattle.logbook.specs.Pages.{Book}
use Rattle.desk.specs.History.{Known}
use Rattle.desk.specs.Private.Sight.{Sight}
use Rattle.desk.specs.Private.Rule.{IsExact, IsOf, IsKept, Meets}

-- all that was met is of this opening
abbrev AreOf : Book → List (Option Known) → Type 0
AreOf opening seats = (seat : ℕ) (met : Option Known) → get_elem? seats seat ≡ some met → IsOf opening met

set_of : (opening : Book) (seats : List (Option Known)) (seat : ℕ) (met : Option Known) → AreOf opening seats → IsOf opening met
    → AreOf opening (set seats seat met)
set_of opening seats seat met all new j u e = ⊎_elim
    (λ (t : (j ≡ seat) × (met ≡ u)). subst (IsOf opening) t.1 new)
    (λ (t : (j ≢ seat) × (get_elem? seats j ≡ some u)). all j u t.1)
    (at_set seats seat j met u e)

pub admits : Admits IsKept None
admits shown seats kept =
    record {
      exact = kept.exact;
      one =
          λ j u e. ⊎_elim (kept.one j u) (λ (same : None ≡ u). subst (IsOf shown.front.opening) same tt) (at_snoc seats None u j e);
    }

-- a step to a sight of the same opening, which is exact if the one before is
pub turns_at : (seat : ℕ) (met : Option Known) (old new : Sight) → new.front.opening ≡ old.front.opening → (IsExact old → IsExact new)
    → TurnsAt IsKept seat met old new Meets
turns_at seat met old new opening exact seats kept at =
    let all : AreOf new.front.opening seats = subst (λ b. AreOf b seats) (sym opening) kept.one in (
      Some new.front,
      record { exact = exact kept.exact; one = set_of new.front.opening seats seat (Some new.front) all refl },
      record { exact = exact kept.exact; met = refl; one = all seat met at },
    )

pub turns : (seat : ℕ) (met : Option Known) → Turns IsKept seat met (λ shown. shown) Meets
turns seat met shown = turns_at seat met shown shown refl (λ exact. exact)

pub forks : (seat : ℕ) (met : Option Known) → Forks IsKept seat met met met
forks seat met shown seats kept at =
    record {
      exact = kept.exact;
      one = λ j u e.
          ⊎_elim (set_of shown.front.opening seats seat met kept.one (kept.one seat met at) j u)
          (λ (same : met ≡ u). subst (IsOf shown.front.opening) same (kept.one seat met at)) (at_snoc (set seats seat met) met u j e);
    }

pub merges : (seat : ℕ) (met : Option Known) (other : ℕ) (note : Option Known) → Merges IsKept seat met other note note None
merges seat met other note shown seats kept at apart there =
    let noted : IsOf shown.front.opening note = ⊎_elim
    (λ (t : (other ≡ seat) × (note ≡ note)). absurd (apart t.0))
    (λ (t : (other ≢ seat) × (get_elem? seats other ≡ some note)). kept.one other note t.1)
    (at_set seats seat other note note there) in
    record {
      exact = kept.exact;
      one = set_of shown.front.opening (set seats seat note) other None (set_of shown.front.opening seats seat note kept.one noted) tt;
    }
