-- What a getter returns for an argument's text, or the default if there is no text.
use Rattle.std.proofs.Common.{◌≡◌, ◌∙◌, ◌⊎◌, ◌≤◌, ap, sym, refl, subst, inl, inr, true, false, Bool, arith, ℕ, List, [], Option, Some, None, codes}
use Rattle.std.specs.List.{slice_index_or}
use Rattle.std.specs.Prelude.{◌↔◌, Result, Ok, Err, IfSome, option_map, unwrap_or}
use Rattle.std.specs.Result.{IsErrAnd}
use Rattle.clap.specs.Kinds.{FailsBy, HasKind, Kinds}
use Rattle.clap.specs.declared.error.Error.{Error}
use Rattle.std.specs.Str.Parse.{ParsesBool, ParsesUnsigned}
use Rattle.clap.specs.Matches.{ReadsOne}
use Rattle.cli.specs.CommandLine.{number_of, number_or}

module _ (E : Type 0) (G : List ℕ → Result ℕ E → Type 0) (only : (u : List ℕ) (x : Result ℕ E) → G u x → ParsesUnsigned 32 10 u x) where
  -- a number within its limits, or a default within them
  pub settled_number : (text : Option (List ℕ)) (read : Option ℕ) (v low high d : ℕ) → v ≡ unwrap_or read d
      → (text ≡ None → read ≡ None) → ((t : List ℕ) → text ≡ Some t → ReadsOne G t read)
      → ((text ≡ None) ⊎ ((n : ℕ) × (read ≡ Some n) × (low ≤ n) × (n ≤ high))) → low ≤ d → d ≤ high
      → (v ≡ number_or d text) × (low ≤ v) × (v ≤ high)
  settled_number None read v low high d is none value given above below =
      let at : v ≡ d = is ∙ ap (λ (o : Option ℕ). unwrap_or o d) (none refl) in
      (at, rw at above, rw at below)
  settled_number (Some t) read v low high d is none value (inl bad) above below = cc
  settled_number (Some t) read v low high d is none value (inr some) above below =
      let at : v ≡ some.0 = is ∙ ap (λ (o : Option ℕ). unwrap_or o d) some.1 in
      let parsed = only t (Ok some.0) (subst (λ (o : Option ℕ). ReadsOne G t o) some.1 (value t refl)) in
      (at ∙ parsed.1, rw at some.2, rw at some.3)

  -- a number within its limits, or none
  pub settled_optional : (text : Option (List ℕ)) (read : Option ℕ) (low high : ℕ) → (text ≡ None → read ≡ None)
      → ((t : List ℕ) → text ≡ Some t → ReadsOne G t read)
      → ((text ≡ None) ⊎ ((n : ℕ) × (read ≡ Some n) × (low ≤ n) × (n ≤ high)))
      → (read ≡ option_map number_of text) × IfSome read (λ n. (low ≤ n) × (n ≤ high))
  settled_optional None read low high none value given = (none refl, rw (none refl) tt)
  settled_optional (Some t) read low high none value (inl bad) = cc
  settled_optional (Some t) read low high none value (inr some) =
      let parsed = only t (Ok some.0) (subst (λ (o : Option ℕ). ReadsOne G t o) some.1 (value t refl)) in
      (some.1 ∙ ap Some parsed.1, rw some.1 (some.2, some.3))

-- a flag is set if its text is `true`
pub settled_flag : (E : Type 0) (text : Option (List ℕ)) (read : Option Bool) (v : Bool) → v ≡ unwrap_or read false
    → (text ≡ None → read ≡ None) → ((t : List ℕ) → text ≡ Some t → ReadsOne (ParsesBool {E = E}) t read)
    → (v ≡ true) ↔ (text ≡ Some (codes "true"))
settled_flag E None read v is none value =
    let at : v ≡ false = is ∙ ap (λ (o : Option Bool). unwrap_or o false) (none refl) in
    (λ set. cc, λ some. cc)
settled_flag E (Some t) (Some true) v is none value = (λ set. ap Some (value t refl), λ some. is)
settled_flag E (Some t) (Some false) v is none value =
    let at : v ≡ false = is in
    let text : t ≡ codes "false" = value t refl in (
      λ set. cc,
      λ some.
          let bad : 116 ≡ 102 = ap (λ (o : Option (List ℕ)). slice_index_or (unwrap_or o []) 0 0) (sym some ∙ ap Some text) in
          absurd (omega arith),
    )
settled_flag E (Some t) None v is none value =
    let at : v ≡ false = is in
    (λ set. cc, λ some. absurd ((value t refl).1.0 (ap (λ (o : Option (List ℕ)). unwrap_or o t) some)))

-- an error that is handed on has the same kind
pub fails_again : {T : Type 0} (kinds : Kinds) (error : Error) (r : Result T Error) → IsErrAnd r (λ e. e ≡ error) → HasKind kinds error → FailsBy kinds r
fails_again kinds error (Ok value) is has = absurd is
fails_again kinds error (Err e) is has = subst (HasKind kinds) (sym is) has
