-- Names and contents from one place on and before another one.
use Rattle.std.proofs.Common.{◌≡◌, ℕ, ◌+◌, ◌-◌, ◌<◌, ◌≤◌, true, List, [], ◌∷◌, ◌++◌, map, length, take, drop, get_or, refl, sym, ◌∙◌, ap, arith, append_assoc, length-append}
use Rattle.std.proofs.lemmas.List.{append-nil, drop-append-le, drop-map, drop_all, length-map, length-take, length-take-le, map_push, take-map, take_more, take_rest}
use Rattle.std.proofs.lemmas.List.Sums.{sum_by-append, sum_by_push}
use Rattle.prefixes.specs.Under.{begins_with}
use Rattle.names.specs.declared.content.Content.{Content}
use Rattle.names.specs.Contents.{entry_bytes}
use Rattle.names.specs.Private.Entries.{Entry, pairs, with_prefix, entries_bytes, begun_within, AreEntries}
use Rattle.names.proofs.CompareLemmas.{begun_by}
use Rattle.names.proofs.PartLemmas.{begun_same}

pub run_none : {X : Type 0} → (xs : List X) (from : ℕ) → drop from (take from xs) ≡ []
run_none xs from = drop_all from (take from xs) (omega (arith, length-take from xs))

pub run_more : {X : Type 0} → (xs : List X) (from at : ℕ) (d : X) → from ≤ at → at < length xs
    → drop from (take (at + 1) xs) ≡ drop from (take at xs) ++ get_or xs at d ∷ []
run_more xs from at d order inside =
    ap (drop from) (take_more xs at d inside) ∙ drop-append-le from (take at xs) (get_or xs at d ∷ []) (omega (arith, length-take-le at xs))

pub texts_step : (beginning : List ℕ) (self now new others : List (List ℕ)) (from at : ℕ) (text : List ℕ) → from ≤ at → at < length others
    → now ≡ self ++ with_prefix beginning (drop from (take at others)) → text ≡ get_or others at [] → new ≡ now ++ (beginning ++ (text ++ [])) ∷ []
    → new ≡ self ++ with_prefix beginning (drop from (take (at + 1) others))
texts_step beginning self now new others from at text order inside now_is text_is new_is =
    let run = with_prefix beginning (drop from (take at others)) in
    new_is
    ∙ (ap (λ x. now ++ (beginning ++ x) ∷ []) (append-nil text ∙ text_is)
    ∙ (ap (λ ns. ns ++ (beginning ++ get_or others at []) ∷ []) now_is
    ∙ (append_assoc self run ((beginning ++ get_or others at []) ∷ [])
    ∙ ap (λ ns. self ++ ns)
    (sym (ap (with_prefix beginning) (run_more others from at [] order inside) ∙ map_push (λ n. beginning ++ n) (drop from (take at others)) (get_or others at []))))))

pub shared_step : (old now new : List Content) (es : List Entry) (from at : ℕ) (c : Content) → from ≤ at → at < length es
    → now ≡ old ++ map (λ e. e.1) (drop from (take at es)) → ((d : Entry) → c ≡ (get_or es at d).1) → new ≡ now ++ c ∷ []
    → new ≡ old ++ map (λ e. e.1) (drop from (take (at + 1) es))
shared_step old now new es from at c order inside now_is c_is new_is =
    let d : Entry = ([], c) in
    let run = map (λ e. e.1) (drop from (take at es)) in
    new_is
    ∙ (ap (λ x. now ++ x ∷ []) (c_is d)
    ∙ (ap (λ cs. cs ++ (get_or es at d).1 ∷ []) now_is
    ∙ (append_assoc old run ((get_or es at d).1 ∷ [])
    ∙ ap (λ cs. old ++ cs) (sym (ap (map (λ e. e.1)) (run_more es from at d order inside) ∙ map_push (λ e. e.1) (drop from (take at es)) (get_or es at d))))))

pub bytes_step : (start now new : ℕ) (es : List Entry) (from at : ℕ) (c : Content) → from ≤ at → at < length es → now ≡ start + entries_bytes (drop from (take at es))
    → ((d : Entry) → c ≡ (get_or es at d).1) → new ≡ now + length c.held → new ≡ start + entries_bytes (drop from (take (at + 1) es))
bytes_step start now new es from at c order inside now_is c_is new_is =
    let d : Entry = ([], c) in
    let last : length c.held ≡ length (get_or es at d).1.held = ap (λ (x : Content). length x.held) (c_is d) in
    let more : entries_bytes (drop from (take (at + 1) es)) ≡ entries_bytes (drop from (take at es)) + length (get_or es at d).1.held =
    ap entries_bytes (run_more es from at d order inside) ∙ sum_by_push entry_bytes (drop from (take at es)) (get_or es at d) in
    omega (arith, now_is, last, more, new_is)

-- ---- names with contents, and more of them behind

pub names-pairs : (names : List (List ℕ)) (contents : List Content) → length names ≡ length contents → map (λ e. e.0) (pairs names contents) ≡ names
names-pairs [] contents same = refl
names-pairs (n ∷ names) [] same = absurd (omega arith)
names-pairs (n ∷ names) (c ∷ contents) same = ap (λ ns. n ∷ ns) (names-pairs names contents (omega arith))

pub pairs_of : (es : List Entry) → pairs (map (λ e. e.0) es) (map (λ e. e.1) es) ≡ es
pairs_of [] = refl
pairs_of (e ∷ es) = ap (λ rest. e ∷ rest) (pairs_of es)

pub pairs-append : (names more : List (List ℕ)) (contents others : List Content) → length names ≡ length contents
    → pairs (names ++ more) (contents ++ others) ≡ pairs names contents ++ pairs more others
pairs-append [] more [] others same = refl
pairs-append [] more (c ∷ contents) others same = absurd (omega arith)
pairs-append (n ∷ names) more [] others same = absurd (omega arith)
pairs-append (n ∷ names) more (c ∷ contents) others same = ap (λ es. (n, c) ∷ es) (pairs-append names more contents others (omega arith))

-- the names and contents of a list of entries behind others
module _ (names all : List (List ℕ)) (contents others : List Content) (bytes more : ℕ) (es : List Entry) (are : AreEntries names contents bytes)
    (all_is : all ≡ names ++ map (λ e. e.0) es) (others_is : others ≡ contents ++ map (λ e. e.1) es) (more_is : more ≡ bytes + entries_bytes es) where
  pub entries_behind : pairs all others ≡ pairs names contents ++ es
  entries_behind =
      ap (λ ns. pairs ns others) all_is
      ∙ (ap (pairs (names ++ map (λ e. e.0) es)) others_is
      ∙ (pairs-append names (map (λ e. e.0) es) contents (map (λ e. e.1) es) are.same ∙ ap (λ xs. pairs names contents ++ xs) (pairs_of es)))

  pub AreEntries-behind : AreEntries all others more
  AreEntries-behind =
      let same = are.same in
      record {
        same =
            ap length all_is
            ∙ (length-append names (map (λ e. e.0) es)
            ∙ (ap (λ n. n + length (map (λ e. e.0) es)) are.same
            ∙ (ap (λ n. length contents + n) (length-map es (λ e. e.0) ∙ sym (length-map es (λ e. e.1)))
            ∙ (sym (length-append contents (map (λ e. e.1) es)) ∙ sym (ap length others_is)))));
        bytes_are =
            more_is
            ∙ (ap (λ b. b + entries_bytes es) are.bytes_are ∙ (sym (sum_by-append entry_bytes (pairs names contents) es) ∙ sym (ap entries_bytes entries_behind)));
      }

pub with_prefix_twice : (one other : List ℕ) (names : List (List ℕ)) → with_prefix (one ++ other) names ≡ with_prefix one (with_prefix other names)
with_prefix_twice one other [] = refl
with_prefix_twice one other (n ∷ names) =
    ap (λ m. m ∷ with_prefix (one ++ other) names) (append_assoc one other n) ∙ ap (λ ns. (one ++ (other ++ n)) ∷ ns) (with_prefix_twice one other names)

-- the names of entries in a run of a chunk
pub names_run : (prefix : List ℕ) (suffixes : List (List ℕ)) (es : List Entry) (from to : ℕ) → with_prefix prefix suffixes ≡ map (λ e. e.0) es
    → with_prefix prefix (drop from (take to suffixes)) ≡ map (λ e. e.0) (drop from (take to es))
names_run prefix suffixes es from to is =
    sym (ap (drop from) (take-map (λ n. prefix ++ n) to suffixes) ∙ drop-map (λ n. prefix ++ n) from (take to suffixes))
    ∙ (ap (λ ns. drop from (take to ns)) is ∙ (ap (drop from) (take-map (λ e. e.0) to es) ∙ drop-map (λ e. e.0) from (take to es)))

-- one name more, given in parts of which the first one begins with the stem
pub name_step : (stem first second third piece : List ℕ) (rests new : List (List ℕ)) (n : ℕ) → n ≡ length stem → begins_with stem first ≡ true
    → piece ≡ take (length first - n) (drop n first) → new ≡ rests ++ (piece ++ (second ++ third)) ∷ []
    → with_prefix stem new ≡ with_prefix stem rests ++ (first ++ (second ++ third)) ∷ []
name_step stem first second third piece rests new n n_is begins piece_is new_is =
    ap (with_prefix stem) new_is
    ∙ (map_push (λ n. stem ++ n) rests (piece ++ (second ++ third))
    ∙ ap (λ n. with_prefix stem rests ++ n ∷ [])
    (sym (append_assoc stem piece (second ++ third))
    ∙ ap (λ n. n ++ (second ++ third))
    (ap (λ p. stem ++ p) (piece_is ∙ (take_rest first n ∙ ap (λ k. drop k first) n_is)) ∙ begun_by stem first begins)))

pub plain_run : (count : ℕ) (beginning : List ℕ) (es : List Entry) (from to : ℕ) → count ≡ 0 → beginning ≡ [] → begun_within from to count beginning es ≡ drop from (take to es)
plain_run count beginning es from to none empty =
    ap (λ n. begun_within from to n beginning es) none ∙ (ap (λ b. begun_within from to 0 b es) empty ∙ begun_same (drop from (take to es)))
