-- Names with their contents.
use Rattle.std.proofs.Common.{◌≡◌, ℕ, zero, suc, ◌+◌, ◌<◌, ◌≤◌, List, [], ◌∷◌, ◌++◌, map, length, drop, get_or, refl, sym, ◌∙◌, ap, subst, arith, append_assoc, length-append}
use Rattle.std.specs.Prelude.{vec_len}
use Rattle.std.specs.declared.vec.Vec.{Vec}
use Rattle.std.specs.declared.alloc.Global.{Global}
use Rattle.std.proofs.lemmas.List.{drop-append-le, length-map}
use Rattle.std.proofs.lemmas.List.Sums.{sum_by-cons, sum_by_push}
use Rattle.names.specs.declared.content.Content.{Content}
use Rattle.names.specs.Contents.{entry_bytes}
use Rattle.names.specs.Private.Entries.{Entry, pairs, with_prefix, entries_bytes, AreEntries, IsChunk, begun}

pub length-pairs : (names : List (List ℕ)) (contents : List Content) → length names ≡ length contents → length (pairs names contents) ≡ length names
length-pairs [] contents same = refl
length-pairs (n ∷ names) [] same = absurd (omega arith)
length-pairs (n ∷ names) (c ∷ contents) same = ap suc (length-pairs names contents (omega arith))

pub pairs-push : (names : List (List ℕ)) (contents : List Content) (n : List ℕ) (c : Content) → length names ≡ length contents
    → pairs (names ++ n ∷ []) (contents ++ c ∷ []) ≡ pairs names contents ++ (n, c) ∷ []
pairs-push [] [] n c same = refl
pairs-push [] (d ∷ contents) n c same = absurd (omega arith)
pairs-push (m ∷ names) [] n c same = absurd (omega arith)
pairs-push (m ∷ names) (d ∷ contents) n c same = ap (λ es. (m, d) ∷ es) (pairs-push names contents n c (omega arith))

pub name-pairs : (names : List (List ℕ)) (contents : List Content) (at : ℕ) (d : Entry) → length names ≡ length contents → at < length names
    → (get_or (pairs names contents) at d).0 ≡ get_or names at []
name-pairs [] contents at d same inside = absurd (omega arith)
name-pairs (n ∷ names) [] at d same inside = absurd (omega arith)
name-pairs (n ∷ names) (c ∷ contents) zero d same inside = refl
name-pairs (n ∷ names) (c ∷ contents) (suc at) d same inside = name-pairs names contents at d (omega arith) (omega arith)

pub content-pairs : (names : List (List ℕ)) (contents : List Content) (at : ℕ) (d : Entry) (e : Content) → length names ≡ length contents → at < length names
    → (get_or (pairs names contents) at d).1 ≡ get_or contents at e
content-pairs [] contents at d e same inside = absurd (omega arith)
content-pairs (n ∷ names) [] at d e same inside = absurd (omega arith)
content-pairs (n ∷ names) (c ∷ contents) zero d e same inside = refl
content-pairs (n ∷ names) (c ∷ contents) (suc at) d e same inside = content-pairs names contents at d e (omega arith) (omega arith)

pub AreEntries-push : (names : List (List ℕ)) (contents : List Content) (bytes : ℕ) (n : List ℕ) (c : Content) (more : ℕ) → more ≡ bytes + length c.held
    → AreEntries names contents bytes → AreEntries (names ++ n ∷ []) (contents ++ c ∷ []) more
AreEntries-push names contents bytes n c more is are =
    let same = are.same in
    let bytes_are = are.bytes_are in
    record {
      same = omega (arith, length-append names (n ∷ []), length-append contents (c ∷ []));
      bytes_are =
          is ∙ (ap (λ b. b + length c.held) are.bytes_are
          ∙ (sym (sum_by_push entry_bytes (pairs names contents) (n, c)) ∙ ap entries_bytes (sym (pairs-push names contents n c are.same))));
    }

-- ---- chunks with other names

pub with_prefix-get : (prefix : List ℕ) (names : List (List ℕ)) (at : ℕ) → at < length names → get_or (with_prefix prefix names) at [] ≡ prefix ++ get_or names at []
with_prefix-get prefix [] at inside = absurd (omega arith)
with_prefix-get prefix (n ∷ names) zero inside = refl
with_prefix-get prefix (n ∷ names) (suc at) inside = with_prefix-get prefix names at (omega arith)

pub bytes-pairs : (names others : List (List ℕ)) (contents : List Content) → length names ≡ length others
    → entries_bytes (pairs names contents) ≡ entries_bytes (pairs others contents)
bytes-pairs [] [] contents same = refl
bytes-pairs [] (o ∷ others) contents same = absurd (omega arith)
bytes-pairs (n ∷ names) [] contents same = absurd (omega arith)
bytes-pairs (n ∷ names) (o ∷ others) [] same = refl
bytes-pairs (n ∷ names) (o ∷ others) (c ∷ contents) same =
    sum_by-cons entry_bytes (n, c) (pairs names contents)
    ∙ (ap (λ b. length c.held + b) (bytes-pairs names others contents (omega arith)) ∙ sym (sum_by-cons entry_bytes (o, c) (pairs others contents)))

pub begun-pairs : (count : ℕ) (beginning prefix : List ℕ) (names : List (List ℕ)) (contents : List Content) → count ≤ length prefix
    → map (begun count beginning) (pairs (with_prefix prefix names) contents) ≡ pairs (with_prefix (beginning ++ drop count prefix) names) contents
begun-pairs count beginning prefix [] contents short = refl
begun-pairs count beginning prefix (n ∷ names) [] short = refl
begun-pairs count beginning prefix (n ∷ names) (c ∷ contents) short =
    ap (λ name. (name, c) ∷ map (begun count beginning) (pairs (with_prefix prefix names) contents))
    (ap (λ rest. beginning ++ rest) (drop-append-le count prefix n short) ∙ sym (append_assoc beginning (drop count prefix) n))
    ∙ ap (λ es. ((beginning ++ drop count prefix) ++ n, c) ∷ es) (begun-pairs count beginning prefix names contents short)

pub IsChunk-begun : (prefix other : List ℕ) (names : List (List ℕ)) (contents : List Content) (bytes : ℕ)
    → IsChunk (with_prefix prefix names) contents bytes → IsChunk (with_prefix other names) contents bytes
IsChunk-begun prefix other names contents bytes is =
    let same : length (with_prefix prefix names) ≡ length (with_prefix other names) =
    length-map names (λ name. prefix ++ name) ∙ sym (length-map names (λ name. other ++ name)) in
    let some = is.some in
    record {
      entries = record {
        same = sym same ∙ is.entries.same;
        bytes_are = is.entries.bytes_are ∙ bytes-pairs (with_prefix prefix names) (with_prefix other names) contents same;
      };
      some = omega arith;
    }

-- ---- what a chunk has

module _ (names : List (List ℕ)) (contents : Vec Content Global) (bytes : ℕ) (view : List Entry) (is : IsChunk names contents.items bytes) (view_is : pairs names contents.items ≡ view) where
  pub view_length : length names ≡ length view
  view_length = sym (length-pairs names contents.items is.entries.same) ∙ ap length view_is

  pub count_is : vec_len contents ≡ length view
  count_is = let same = is.entries.same in omega (arith, contents.ok.0, same, view_length)

  pub count_some : 0 < vec_len contents
  count_some = let some = is.some in omega (arith, some, count_is, view_length)

  pub view_name : (at : ℕ) (d : Entry) → at < length view → (get_or view at d).0 ≡ get_or names at []
  view_name at d inside =
      ap (λ es. (get_or es at d).0) (sym view_is) ∙ name-pairs names contents.items at d is.entries.same (omega (arith, inside, view_length))

  pub view_content : (at : ℕ) (d : Entry) (e : Content) → at < length view → (get_or view at d).1 ≡ get_or contents.items at e
  view_content at d e inside =
      ap (λ es. (get_or es at d).1) (sym view_is) ∙ content-pairs names contents.items at d e is.entries.same (omega (arith, inside, view_length))

  pub view_bytes : bytes ≡ entries_bytes view
  view_bytes = is.entries.bytes_are ∙ ap entries_bytes view_is

pub suffix_inside : (prefix : List ℕ) (names : List (List ℕ)) (at : ℕ) (view : List Entry) → length (with_prefix prefix names) ≡ length view → at < length view → at < length names
suffix_inside prefix names at view same inside = omega (arith, same, inside, length-map names (λ name. prefix ++ name))

-- ---- chunks that are made

pub IsChunk-of : (prefix : List ℕ) (suffixes names : List (List ℕ)) (contents : List Content) (bytes : ℕ) (view : List Entry) → with_prefix prefix suffixes ≡ names
    → AreEntries names contents bytes → pairs names contents ≡ view → 0 < length view → IsChunk (with_prefix prefix suffixes) contents bytes
IsChunk-of prefix suffixes names contents bytes view is are view_is some =
    subst (λ ns. IsChunk ns contents bytes) (sym is) (record {
      entries = are;
      some = omega (arith, some, length-pairs names contents are.same, ap length view_is);
    })

pub begun_view : (prefix other : List ℕ) (count : ℕ) (beginning : List ℕ) (names : List (List ℕ)) (contents : List Content) (view : List Entry)
    → pairs (with_prefix prefix names) contents ≡ view → count ≤ length prefix → other ≡ beginning ++ drop count prefix
    → pairs (with_prefix other names) contents ≡ map (begun count beginning) view
begun_view prefix other count beginning names contents view is short other_is =
    ap (λ p. pairs (with_prefix p names) contents) other_is ∙ (sym (begun-pairs count beginning prefix names contents short) ∙ ap (map (begun count beginning)) is)
