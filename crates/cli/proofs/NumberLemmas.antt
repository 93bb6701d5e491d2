-- What a parse returns for an option that takes a number.
use Rattle.std.proofs.Common.{◌≡◌, ◌⊎◌, ◌∙◌, ◌<◌, ◌≤◌, ap, ℕ, true, List, [], ◌∷◌, length, Option, Some, None, refl, sym, subst, inl, inr}
use Rattle.std.proofs.Common.{arith, ◌^◌, zero, suc, codes}
use Rattle.std.specs.List.{All, slice_index_or}
use Rattle.std.specs.Str.{bytes_eq}
use Rattle.std.specs.Prelude.{pos, Result}
use Rattle.std.specs.Borrow.{Bor}
use Rattle.std.specs.Str.Parse.{ParsesUnsigned}
use Rattle.std.proofs.lemmas.Slice.Eq.{bytes_eq-Decides}
use Rattle.std.proofs.lemmas.List.Elements.{All-get_or}
use Rattle.std.proofs.lemmas.List.{get_or-map, length-map}
use Rattle.clap.specs.Lexer.{without_minus}
use Rattle.clap.specs.Values.{Accepts, IsSignedIn}
use Rattle.clap.specs.Facts.{args_of, groups_of, Entry, EntryPasses, HasReading, PassesArg, parser_of, parser_of_value}
use Rattle.clap.specs.Built.{IsAuto, IsParsedFrom}
use Rattle.clap.specs.Matches.{found_of, matched_of, one_text, ReadsOne}
use Rattle.clap.specs.declared.builder.arg.Arg.{Arg}
use Rattle.clap.specs.declared.builder.command.Command.{Command}
use Rattle.clap.specs.declared.builder.value_parser.Reading.{Reading}
use Rattle.clap.specs.declared.builder.value_parser.Reading.TheVariants.{WithoutMinus}
use Rattle.clap.specs.declared.builder.value_parser.ValueParser.{ValueParser}
use Rattle.clap.specs.declared.builder.value_parser.ValueParser.TheVariants.{Signed}
use Rattle.clap.specs.declared.parser.matches.ArgMatches.{ArgMatches}
use Rattle.clap.specs.declared.parser.matches.MatchedArg.{MatchedArg}
use Rattle.clap.proofs.CallerLemmas.{entry_by_id, same_rules_by_id}
use Rattle.clap.proofs.CallerReads.{signed_reads}
use Rattle.cli.proofs.Options.{HasOptions, TakesNumber}

-- an option of the command by its place: the only one with its name
pub record IsOption (c : Command) (k : ℕ) (id : List ℕ) : Type 0 where
  pub any : Arg
  pub below : k < length (args_of c)
  pub id_is : (d : Arg) → (slice_index_or (args_of c) k d).id.now ≡ id
  pub only : (d : Arg) (j : ℕ) (e : Arg) → j < length (args_of c)
      → bytes_eq (slice_index_or (args_of c) j e).id.now (slice_index_or (args_of c) k d).id.now ≡ true → j ≡ k
  pub named : id ≡ [] → ⊥
  pub own : (d : Arg) → IsAuto (slice_index_or (args_of c) k d) → ⊥

module _ (old : Command) (m : ArgMatches) (p : IsParsedFrom old m) (options : HasOptions old) (k : ℕ) (id : List ℕ) (is : IsOption old k id)
    (low high : ℕ) (takes : TakesNumber old k low high) where
  -- an argument of the built command with this name is the option
  rules : (j : ℕ) (x : Arg) → j < length (args_of p.built) → slice_index_or (args_of p.built) j x ≡ x → bytes_eq x.id.now id ≡ true
      → x.value_parser ≡ Some (Signed (pos low) (pos high))
  rules j x lt at same =
      let same_id : bytes_eq x.id.now (slice_index_or (args_of old) k is.any).id.now ≡ true = rw (is.id_is is.any) same in
      let s = same_rules_by_id old m p k is.any is.below (is.only is.any) (is.own is.any) j x lt at same_id in
      s.parser _ (takes is.any)

  passes : (v : List ℕ) → PassesArg p.built id v → IsSignedIn (pos low) (pos high) v
  passes v any =
      let parser : parser_of any.1 ≡ Signed (pos low) (pos high) = ap parser_of_value (rules any.0 any.1 any.2 any.3 any.4.0) in
      subst (λ (q : ValueParser). Accepts any.1.ignore_case q v) parser any.4.1

  reads : (r : Reading) → HasReading p.built id r → r ≡ WithoutMinus
  reads r any =
      let parser : parser_of any.1 ≡ Signed (pos low) (pos high) = ap parser_of_value (rules any.0 any.1 any.2 any.3 any.4.0) in
      rw parser at (sym any.4.1)

  module _ (E : Type 0) (G : List ℕ → Result ℕ E → Type 0) (only : (u : List ℕ) (x : Result ℕ E) → G u x → ParsesUnsigned 32 10 u x) (fits : high < 2 ^ 32)
      (r : Option ℕ)
      (value : (t : List ℕ) → one_text (found_of m) id ≡ Some t → ReadsOne G t r) where
    -- the option has no text, or its text is a number within the limits
    abbrev pub IsNumber : Type 0
    IsNumber = (one_text (found_of m) id ≡ None) ⊎ ((n : ℕ) × (r ≡ Some n) × (low ≤ n) × (n ≤ high))

    from_values : (x : MatchedArg) (vs : List (Bor (List ℕ))) → matched_of (found_of m) id ≡ Some x → x.vals.items ≡ vs → x.reading ≡ WithoutMinus
        → All (λ v. PassesArg p.built id v.now) vs → IsNumber
    from_values x [] found vals reading all = inl (rw (found, vals) refl)
    from_values x (v ∷ vs) found vals reading all =
        let text : one_text (found_of m) id ≡ Some (without_minus v.now) = rw (found, vals, reading) refl in
        let passed = passes v.now (All-get_or (λ w. PassesArg p.built id w.now) (v ∷ vs) 0 v (omega arith) all) in
        inr (signed_reads E G 32 low high v.now r (value (without_minus v.now) text) only fits passed)

    from_entry : (x : MatchedArg) (e : Entry) → matched_of (found_of m) id ≡ Some x → e.1 ≡ x → e.0.now ≡ id → EntryPasses p.built e → IsNumber
    from_entry x e found same_x key pass =
        let no_groups : groups_of p.built ≡ [] = (p.from.plain options.plain).1 in
        let no_group : e.1.is_group ≡ true → ⊥ = λ g. elim (pass.3 g) [
          | inl empty ↦ is.named (sym key ∙ empty)
          | inr lots ↦
              let bad : 0 < 0 = rw no_groups at lots in
              absurd (omega arith)
        ] in
        let all : All (λ v. PassesArg p.built id v.now) x.vals.items = elim pass.0 [
          | inl g ↦ absurd (no_group g)
          | inr vals ↦ subst (λ (w : List ℕ). All (λ v. PassesArg p.built w v.now) x.vals.items) key (rw same_x at vals)
        ] in
        let reading : e.1.reading ≡ WithoutMinus = elim pass.4 [
          | inl g ↦ absurd (no_group g)
          | inr h ↦ reads e.1.reading (subst (λ (w : List ℕ). HasReading p.built w e.1.reading) key h)
        ] in
        from_values x x.vals.items found refl (ap (λ (y : MatchedArg). y.reading) (sym same_x) ∙ reading) all

    pub number_given : IsNumber
    number_given = go (matched_of (found_of m) id) refl
      where
        go : (o : Option MatchedArg) → matched_of (found_of m) id ≡ o → IsNumber
        go None found = inl (rw found refl)
        go (Some x) found =
            let parsed = p.parsed (p.from.globals ∙ options.local) in
            let got = entry_by_id (EntryPasses p.built) (found_of m).entries.items id x parsed.values found in
            from_entry x got.0 found got.1 ((bytes_eq-Decides got.0.0.now id).0 got.2) got.3

abbrev option_names : List (List ℕ)
option_names = codes "readers" ∷ codes "stats" ∷ codes "max-commands" ∷ codes "live" ∷ codes "search-ms" ∷ codes "max-body"
    ∷ codes "max-line" ∷ codes "max-name" ∷ codes "times" ∷ codes "FILE" ∷ []

ten_options : (c : Command) → HasOptions c → length (args_of c) ≡ 10
ten_options c options = sym (length-map (args_of c) (λ (a : Arg). a.id.now)) ∙ ap length options.names

name_at : (c : Command) → HasOptions c → (j : ℕ) (e : Arg) → j < length (args_of c)
    → (slice_index_or (args_of c) j e).id.now ≡ slice_index_or option_names j []
name_at c options j e lt =
    sym (get_or-map (λ (a : Arg). a.id.now) (args_of c) j e [] lt) ∙ ap (λ (l : List (List ℕ)). slice_index_or l j []) options.names

first_of : (xs : List Arg) → 0 < length xs → Arg
first_of [] lt = absurd (omega arith)
first_of (x ∷ xs) lt = x

readers_alone : (j : ℕ) → j < 10 → bytes_eq (slice_index_or option_names j []) (codes "readers") ≡ true → j ≡ 0
readers_alone zero lt same = refl
readers_alone (suc zero) lt same = cc
readers_alone (suc (suc zero)) lt same = cc
readers_alone (suc (suc (suc zero))) lt same = cc
readers_alone (suc (suc (suc (suc zero)))) lt same = cc
readers_alone (suc (suc (suc (suc (suc zero))))) lt same = cc
readers_alone (suc (suc (suc (suc (suc (suc zero)))))) lt same = cc
readers_alone (suc (suc (suc (suc (suc (suc (suc zero))))))) lt same = cc
readers_alone (suc (suc (suc (suc (suc (suc (suc (suc zero)))))))) lt same = cc
readers_alone (suc (suc (suc (suc (suc (suc (suc (suc (suc zero))))))))) lt same = cc
readers_alone (suc (suc (suc (suc (suc (suc (suc (suc (suc (suc n)))))))))) lt same = absurd (omega arith)

max_commands_alone : (j : ℕ) → j < 10 → bytes_eq (slice_index_or option_names j []) (codes "max-commands") ≡ true → j ≡ 2
max_commands_alone zero lt same = cc
max_commands_alone (suc zero) lt same = cc
max_commands_alone (suc (suc zero)) lt same = refl
max_commands_alone (suc (suc (suc zero))) lt same = cc
max_commands_alone (suc (suc (suc (suc zero)))) lt same = cc
max_commands_alone (suc (suc (suc (suc (suc zero))))) lt same = cc
max_commands_alone (suc (suc (suc (suc (suc (suc zero)))))) lt same = cc
max_commands_alone (suc (suc (suc (suc (suc (suc (suc zero))))))) lt same = cc
max_commands_alone (suc (suc (suc (suc (suc (suc (suc (suc zero)))))))) lt same = cc
max_commands_alone (suc (suc (suc (suc (suc (suc (suc (suc (suc zero))))))))) lt same = cc
max_commands_alone (suc (suc (suc (suc (suc (suc (suc (suc (suc (suc n)))))))))) lt same = absurd (omega arith)

search_ms_alone : (j : ℕ) → j < 10 → bytes_eq (slice_index_or option_names j []) (codes "search-ms") ≡ true → j ≡ 4
search_ms_alone zero lt same = cc
search_ms_alone (suc zero) lt same = cc
search_ms_alone (suc (suc zero)) lt same = cc
search_ms_alone (suc (suc (suc zero))) lt same = cc
search_ms_alone (suc (suc (suc (suc zero)))) lt same = refl
search_ms_alone (suc (suc (suc (suc (suc zero))))) lt same = cc
search_ms_alone (suc (suc (suc (suc (suc (suc zero)))))) lt same = cc
search_ms_alone (suc (suc (suc (suc (suc (suc (suc zero))))))) lt same = cc
search_ms_alone (suc (suc (suc (suc (suc (suc (suc (suc zero)))))))) lt same = cc
search_ms_alone (suc (suc (suc (suc (suc (suc (suc (suc (suc zero))))))))) lt same = cc
search_ms_alone (suc (suc (suc (suc (suc (suc (suc (suc (suc (suc n)))))))))) lt same = absurd (omega arith)

max_body_alone : (j : ℕ) → j < 10 → bytes_eq (slice_index_or option_names j []) (codes "max-body") ≡ true → j ≡ 5
max_body_alone zero lt same = cc
max_body_alone (suc zero) lt same = cc
max_body_alone (suc (suc zero)) lt same = cc
max_body_alone (suc (suc (suc zero))) lt same = cc
max_body_alone (suc (suc (suc (suc zero)))) lt same = cc
max_body_alone (suc (suc (suc (suc (suc zero))))) lt same = refl
max_body_alone (suc (suc (suc (suc (suc (suc zero)))))) lt same = cc
max_body_alone (suc (suc (suc (suc (suc (suc (suc zero))))))) lt same = cc
max_body_alone (suc (suc (suc (suc (suc (suc (suc (suc zero)))))))) lt same = cc
max_body_alone (suc (suc (suc (suc (suc (suc (suc (suc (suc zero))))))))) lt same = cc
max_body_alone (suc (suc (suc (suc (suc (suc (suc (suc (suc (suc n)))))))))) lt same = absurd (omega arith)

max_line_alone : (j : ℕ) → j < 10 → bytes_eq (slice_index_or option_names j []) (codes "max-line") ≡ true → j ≡ 6
max_line_alone zero lt same = cc
max_line_alone (suc zero) lt same = cc
max_line_alone (suc (suc zero)) lt same = cc
max_line_alone (suc (suc (suc zero))) lt same = cc
max_line_alone (suc (suc (suc (suc zero)))) lt same = cc
max_line_alone (suc (suc (suc (suc (suc zero))))) lt same = cc
max_line_alone (suc (suc (suc (suc (suc (suc zero)))))) lt same = refl
max_line_alone (suc (suc (suc (suc (suc (suc (suc zero))))))) lt same = cc
max_line_alone (suc (suc (suc (suc (suc (suc (suc (suc zero)))))))) lt same = cc
max_line_alone (suc (suc (suc (suc (suc (suc (suc (suc (suc zero))))))))) lt same = cc
max_line_alone (suc (suc (suc (suc (suc (suc (suc (suc (suc (suc n)))))))))) lt same = absurd (omega arith)

max_name_alone : (j : ℕ) → j < 10 → bytes_eq (slice_index_or option_names j []) (codes "max-name") ≡ true → j ≡ 7
max_name_alone zero lt same = cc
max_name_alone (suc zero) lt same = cc
max_name_alone (suc (suc zero)) lt same = cc
max_name_alone (suc (suc (suc zero))) lt same = cc
max_name_alone (suc (suc (suc (suc zero)))) lt same = cc
max_name_alone (suc (suc (suc (suc (suc zero))))) lt same = cc
max_name_alone (suc (suc (suc (suc (suc (suc zero)))))) lt same = cc
max_name_alone (suc (suc (suc (suc (suc (suc (suc zero))))))) lt same = refl
max_name_alone (suc (suc (suc (suc (suc (suc (suc (suc zero)))))))) lt same = cc
max_name_alone (suc (suc (suc (suc (suc (suc (suc (suc (suc zero))))))))) lt same = cc
max_name_alone (suc (suc (suc (suc (suc (suc (suc (suc (suc (suc n)))))))))) lt same = absurd (omega arith)

-- the option at a place below ten, whose name is met once and begins with neither `h` nor `v`
option_at : (c : Command) → HasOptions c → (k : ℕ) → k < 10 → (id : List ℕ) → slice_index_or option_names k [] ≡ id
    → ((j : ℕ) → j < 10 → bytes_eq (slice_index_or option_names j []) id ≡ true → j ≡ k)
    → (slice_index_or id 0 0 ≡ 0 → ⊥) → (slice_index_or id 0 0 ≡ 104 → ⊥) → (slice_index_or id 0 0 ≡ 118 → ⊥)
    → IsOption c k id
option_at c options k lt id at alone some no_h no_v =
    let count = ten_options c options in
    let below : k < length (args_of c) = rw count lt in
    let named : (d : Arg) → (slice_index_or (args_of c) k d).id.now ≡ id = λ d. name_at c options k d below ∙ at in
    record {
      any = first_of (args_of c) (rw count (omega arith));
      below = below;
      id_is = named;
      only = λ d j e low same.
          alone j (subst (λ (n : ℕ). j < n) count low) (subst (λ (t : List ℕ). bytes_eq t id ≡ true) (name_at c options j e low)
          (subst (λ (t : List ℕ). bytes_eq (slice_index_or (args_of c) j e).id.now t ≡ true) (named d) same));
      named = λ empty. some (ap (λ (t : List ℕ). slice_index_or t 0 0) empty);
      own = λ d auto. elim auto [
        | inl h ↦ no_h (ap (λ (t : List ℕ). slice_index_or t 0 0) (sym (named d) ∙ h))
        | inr h ↦ no_v (ap (λ (t : List ℕ). slice_index_or t 0 0) (sym (named d) ∙ h))
      ];
    }

pub readers_option : (c : Command) → HasOptions c → IsOption c 0 (codes "readers")
readers_option c options =
    option_at c options 0 (omega arith) (codes "readers") refl readers_alone (λ e. absurd (omega arith)) (λ e. absurd (omega arith)) (λ e. absurd (omega arith))

pub max_commands_option : (c : Command) → HasOptions c → IsOption c 2 (codes "max-commands")
max_commands_option c options =
    option_at c options 2 (omega arith) (codes "max-commands") refl max_commands_alone (λ e. absurd (omega arith))
    (λ e. absurd (omega arith)) (λ e. absurd (omega arith))

pub search_ms_option : (c : Command) → HasOptions c → IsOption c 4 (codes "search-ms")
search_ms_option c options =
    option_at c options 4 (omega arith) (codes "search-ms") refl search_ms_alone (λ e. absurd (omega arith))
    (λ e. absurd (omega arith)) (λ e. absurd (omega arith))

pub max_body_option : (c : Command) → HasOptions c → IsOption c 5 (codes "max-body")
max_body_option c options =
    option_at c options 5 (omega arith) (codes "max-body") refl max_body_alone (λ e. absurd (omega arith))
    (λ e. absurd (omega arith)) (λ e. absurd (omega arith))

pub max_line_option : (c : Command) → HasOptions c → IsOption c 6 (codes "max-line")
max_line_option c options =
    option_at c options 6 (omega arith) (codes "max-line") refl max_line_alone (λ e. absurd (omega arith))
    (λ e. absurd (omega arith)) (λ e. absurd (omega arith))

pub max_name_option : (c : Command) → HasOptions c → IsOption c 7 (codes "max-name")
max_name_option c options =
    option_at c options 7 (omega arith) (codes "max-name") refl max_name_alone (λ e. absurd (omega arith))
    (λ e. absurd (omega arith)) (λ e. absurd (omega arith))
