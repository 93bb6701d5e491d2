-- Names as they are given out.
use Rattle.std.proofs.Common.{◌≡◌, ℕ, ◌+◌, ◌<◌, List, [], ◌∷◌, ◌++◌, length, take, get_or, append_assoc, sym, ap, ◌∙◌}
use Rattle.std.proofs.lemmas.List.{take_more, map_push}
use Rattle.names.specs.declared.content.Named.{Named}
use Rattle.names.specs.Contents.{entry_of, entries_of}
use Rattle.names.specs.Private.Entries.{Entry, joined}
use Rattle.names.proofs.PartLemmas.{joined-push}

pub entries_next : (before now after : List Named) (n : Named) (es : List Entry) (at : ℕ) → at < length es → entries_of now ≡ entries_of before ++ take at es
    → after ≡ now ++ n ∷ [] → get_or es at (entry_of n) ≡ entry_of n → entries_of after ≡ entries_of before ++ take (at + 1) es
entries_next before now after n es at inside so_far is same =
    ap entries_of is
    ∙ (map_push entry_of now n
    ∙ (ap (λ xs. xs ++ entry_of n ∷ []) so_far
    ∙ (append_assoc (entries_of before) (take at es) (entry_of n ∷ [])
    ∙ ap (λ xs. entries_of before ++ xs) (ap (λ e. take at es ++ e ∷ []) (sym same) ∙ sym (take_more es at (entry_of n) inside)))))

pub entries_joined : (now after : List Named) (chunks : List (List Entry)) (at : ℕ) (chunk : List Entry) → at < length chunks
    → chunk ≡ get_or chunks at chunk → entries_of now ≡ joined (take at chunks) → entries_of after ≡ entries_of now ++ chunk
    → entries_of after ≡ joined (take (at + 1) chunks)
entries_joined now after chunks at chunk inside is so_far more =
    more
    ∙ (ap (λ xs. xs ++ chunk) so_far
    ∙ (ap (λ x. joined (take at chunks) ++ x) is
    ∙ (sym (joined-push (take at chunks) (get_or chunks at chunk)) ∙ ap joined (sym (take_more chunks at chunk inside)))))
