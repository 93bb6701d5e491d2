-- Copies of contents under other names.
use Rattle.std.proofs.Common.{◌≡◌, ℕ, ◌+◌, ◌&&◌, ◌||◌, inl, inr, Bool, true, false, List, ◌++◌, map, length, drop, take, Some, Contains, refl, sym, ◌∙◌, ap, subst, arith}
use Rattle.std.specs.Prelude.{filter, nat_lt, not}
use Rattle.std.specs.List.{list_any}
use Rattle.std.specs.FinMap.{entries, from_entries, get, keys}
use Rattle.std.specs.FinMap.{get-from_entries}
use Rattle.std.specs.Cmp.Lexicographic.{nat_list_cmp_total}
use Rattle.std.proofs.lemmas.Bool.{ltb-false}
use Rattle.std.proofs.lemmas.List.{map-append, length-append, take-append-drop}
use Rattle.std.proofs.lemmas.List.Folds.{list_any-append, list_any_at}
use Rattle.std.proofs.lemmas.List.Elements.{Contains-append_cases}
use Rattle.prefixes.specs.Under.{begins_with}
use Rattle.documents.specs.Documents.{renamed, copies as document_copies}
use Rattle.documents.specs.State.{State, state, applied}
use Rattle.documents.specs.Text.{IsName, greatest_name, has_bad_byte, is_name_byte}
use Rattle.documents.specs.declared.command.Command.TheVariants.{CopyUnder}
use Rattle.documents.proofs.ElementLemmas.{filter-Contains, Contains-map, map-Contains, map_twice, filter_mapped}
use Rattle.names.specs.declared.content.Content.{Content}
use Rattle.names.specs.Contents.{Contents, copies}
use Rattle.segments.specs.Contents.{Content as Trigrams}
use Rattle.versions.specs.Private.Version.{Entry, plain, bodies_of, IsVersion}
use Rattle.versions.proofs.BodyLemmas.{R, entries-bodies, bodies-from_entries, in_found, entry_found}

-- ---- the bodies

copies_plain : (from to : List ℕ) (es : List Entry)
    → map plain (map (λ e. (renamed from to e.0, e.1)) (filter (λ e. begins_with from e.0) es))
    ≡ map (λ e. (renamed from to e.0, e.1)) (filter (λ e. begins_with from e.0) (map plain es))
copies_plain from to es =
    map_twice (λ (e : Entry). (renamed from to e.0, e.1)) plain (filter (λ e. begins_with from e.0) es)
    ∙ (sym (map_twice plain (λ (e : List ℕ × List ℕ). (renamed from to e.0, e.1)) (filter (λ e. begins_with from e.0) es))
    ∙ ap (map (λ (e : List ℕ × List ℕ). (renamed from to e.0, e.1))) (sym (filter_mapped plain (λ (e : List ℕ × List ℕ). begins_with from e.0) es)))

pub bodies-copy : (cs : Contents) (from to : List ℕ)
    → bodies_of (from_entries (copies from to cs ++ entries cs)) ≡ from_entries (document_copies from to (bodies_of cs) ++ entries (bodies_of cs))
bodies-copy cs from to =
    bodies-from_entries (copies from to cs ++ entries cs)
    ∙ ap from_entries
    (map-append plain (copies from to cs) (entries cs)
    ∙ (ap (λ xs. xs ++ map plain (entries cs)) (copies_plain from to (entries cs))
    ∙ ap (λ (es : List (List ℕ × List ℕ)). map (λ e. (renamed from to e.0, e.1)) (filter (λ e. begins_with from e.0) es) ++ es) (sym (entries-bodies cs))))

-- ---- the names of copies

no_first : (a b : Bool) → (a || b) ≡ false → a ≡ false
no_first false b h = refl
no_first true b h = cc

no_second : (a b : Bool) → (a || b) ≡ false → b ≡ false
no_second false b h = h
no_second true b h = cc

good_rest : (n : ℕ) (name : List ℕ) → has_bad_byte name ≡ false → has_bad_byte (drop n name) ≡ false
good_rest n name good =
    no_second (has_bad_byte (take n name)) (has_bad_byte (drop n name))
    (sym (list_any-append (λ b. not (is_name_byte b)) (take n name) (drop n name)) ∙ (ap has_bad_byte (take-append-drop n name) ∙ good))

is_renamed : (from to name : List ℕ) → IsName to → IsName name → nat_lt greatest_name (length (renamed from to name)) ≡ false → IsName (renamed from to name)
is_renamed from to name to_is name_is short = record {
  some = let first = to_is.some in let whole = length-append to (drop (length from) name) in omega (arith, first, whole);
  short = ltb-false greatest_name (length (renamed from to name)) short;
  printable =
      list_any-append (λ b. not (is_name_byte b)) to (drop (length from) name)
      ∙ (ap (λ t. t || has_bad_byte (drop (length from) name)) to_is.printable ∙ good_rest (length from) name name_is.printable);
}

abbrev is_long : List ℕ → List ℕ → List ℕ → Bool
is_long from to name = begins_with from name && nat_lt greatest_name (length (renamed from to name))

so : (a b : Bool) → a ≡ true → (a && b) ≡ false → b ≡ false
so true b h none = none
so false b h none = cc

none_at : (p : List ℕ → Bool) (xs : List (List ℕ)) (x : List ℕ) → list_any p xs ≡ false → Contains xs x → p x ≡ false
none_at p xs x none there = go (p x) refl
  where
    go : (t : Bool) → p x ≡ t → p x ≡ false
    go false h = h
    go true h =
        let found = list_any_at p xs there.0 x there.1 (ap p there.2 ∙ h) in
        absurd_bool (sym none ∙ found)
      where
        absurd_bool : {A : Type 0} → false ≡ true → A
        absurd_bool e = cc

-- ---- what has a name after a copy

module _ (version analysed : ℕ) (old : Contents) (all : List Trigrams) (from to : List ℕ) (is : IsVersion version analysed old all) (to_is : IsName to)
    (short : list_any (is_long from to) (keys old) ≡ false) where
  -- a name's content then is some name's content before
  record Origin (name : List ℕ) (c : Content) : Type 0 where
    name_is : IsName name
    other : List ℕ
    was : get {R = R} old other ≡ Some c

  in_copies : (name : List ℕ) (c : Content) → Contains (copies from to old) (name, c) → Origin name c
  in_copies name c there =
      let e = map-Contains (λ (x : Entry). (renamed from to x.0, x.1)) (filter (λ x. begins_with from x.0) (entries old)) (name, c) there in
      let found = filter-Contains (λ (x : Entry). begins_with from x.0) (entries old) e.0 e.1 in
      let was : get old e.0.0 ≡ Some e.0.1 = entry_found old e.0 found.0 in
      let few = so (begins_with from e.0.0) (nat_lt greatest_name (length (renamed from to e.0.0))) found.1
      (none_at (is_long from to) (keys old) e.0.0 short (Contains-map (λ (x : Entry). x.0) (entries old) e.0 found.0)) in
      let renamed_is = is_renamed from to e.0.0 to_is (is.named e.0.0 e.0.1 was).name_is few in
      record {
        name_is = subst IsName (ap (λ (x : Entry). x.0) e.2) renamed_is;
        other = e.0.0;
        was = was ∙ ap (λ (x : Entry). Some x.1) e.2;
      }

  origin : (name : List ℕ) (c : Content) → get {R = R} (from_entries (copies from to old ++ entries old)) name ≡ Some c → Origin name c
  origin name c found =
      elim
      (Contains-append_cases (copies from to old) (entries old) (name, c)
      (in_found name c (copies from to old ++ entries old) (sym (get-from_entries nat_list_cmp_total (copies from to old ++ entries old) name) ∙ found))) [
        | inl there ↦ in_copies name c there
        | inr there ↦
            let was : get old name ≡ Some c = entry_found old (name, c) there in
            record { name_is = (is.named name c was).name_is; other = name; was = was }
      ]

  pub copied : IsVersion (version + 1) analysed (from_entries (copies from to old ++ entries old)) all
  copied = record {
    named = λ name c found. (let o = origin name c found in let e = is.named o.other c o.was in record {
      name_is = o.name_is;
      body_is = e.body_is;
      before = (let less = e.before in omega (arith, less));
      is_said = e.is_said;
    });
    same = λ name other c d found there e. is.same (origin name c found).other (origin other d there).other c d (origin name c found).was (origin other d there).was e;
    differ = is.differ;
    below = is.below;
    order = (let most = is.order in omega (arith, most));
  }

pub copy_under_done : (version : ℕ) (old new : Contents) (from to : List ℕ) (now next : State) → state version (bodies_of old) ≡ now
    → new ≡ from_entries (copies from to old ++ entries old) → next ≡ state (version + 1) (bodies_of new) → next ≡ applied (CopyUnder from to) now
copy_under_done version old new from to now next view_is new_is is =
    is
    ∙ (ap (state (version + 1)) (ap bodies_of new_is ∙ bodies-copy old from to)
    ∙ ap (applied (CopyUnder from to)) view_is)
