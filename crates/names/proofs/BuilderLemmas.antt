-- Versions that are made chunk by chunk.
use Rattle.std.proofs.Common.{◌≡◌, ℕ, ◌+◌, ◌-◌, ◌<◌, not, Bool, List, [], ◌∷◌, ◌++◌, map, length, take, drop, get_or, sym, ◌∙◌, ap, subst, arith, append_assoc}
use Rattle.std.specs.Prelude.{filter}
use Rattle.std.proofs.lemmas.List.{append-nil, take_all, take_rest}
use Rattle.names.specs.declared.content.Content.{Content}
use Rattle.names.specs.Private.Entries.{Entry, begun, begun_within, joined, Falls, CutsAt, OpensAt}
use Rattle.names.proofs.PartLemmas.{joined-push, joined_more, before_open, behind_open, begun_first, begun_second, falls_chunk}

pub pushed_both : (old rest new : List (List Entry)) (last chunk both : List Entry) → old ≡ rest ++ last ∷ [] → both ≡ last ++ chunk → new ≡ rest ++ both ∷ []
    → joined new ≡ joined old ++ chunk
pushed_both old rest new last chunk both old_is both_is new_is =
    ap joined new_is
    ∙ (joined-push rest both
    ∙ (ap (λ b. joined rest ++ b) both_is
    ∙ (sym (append_assoc (joined rest) last chunk) ∙ ap (λ first. first ++ chunk) (sym (ap joined old_is ∙ joined-push rest last)))))

pub add_step : (old mid new : List Entry) (cs : List (List Entry)) (at : ℕ) (chunk own : List Entry) → at < length cs → chunk ≡ get_or cs at chunk
    → mid ≡ old ++ joined (take at cs) → own ≡ chunk → new ≡ mid ++ own → new ≡ old ++ joined (take (at + 1) cs)
add_step old mid new cs at chunk own inside is mid_is own_is new_is =
    new_is
    ∙ (ap (λ o. mid ++ o) (own_is ∙ is)
    ∙ (ap (λ m. m ++ get_or cs at chunk) mid_is
    ∙ (append_assoc old (joined (take at cs)) (get_or cs at chunk) ∙ ap (λ rest. old ++ rest) (sym (joined_more cs at chunk inside)))))

module _ (p : Entry → Bool) (cs : List (List Entry)) (open_at place : ℕ) (chunk : List Entry) (opens : OpensAt p cs open_at) (inside : open_at < length cs)
    (is : chunk ≡ get_or cs open_at chunk) where
  pub chunk_falls : Falls p (joined cs) → Falls p chunk
  chunk_falls falls = subst (Falls p) (sym is) (falls_chunk p cs open_at chunk falls inside)

  pub before_done : (old mid new : List Entry) → CutsAt p chunk place → mid ≡ old ++ joined (take open_at cs) → new ≡ mid ++ begun_within 0 place 0 [] chunk
      → new ≡ old ++ filter p (joined cs)
  before_done old mid new cuts mid_is new_is =
      let cut : CutsAt p (get_or cs open_at chunk) place = subst (λ c. CutsAt p c place) is cuts in
      new_is
      ∙ (ap (λ rest. mid ++ rest) (begun_first chunk place)
      ∙ (ap (λ m. m ++ take place chunk) mid_is
      ∙ (append_assoc old (joined (take open_at cs)) (take place chunk)
      ∙ ap (λ rest. old ++ rest) (ap (λ c. joined (take open_at cs) ++ take place c) is ∙ sym (before_open p cs open_at place chunk opens inside cut)))))

  pub behind_done : (old mid new : List Entry) (rest : List (List Entry)) (len : ℕ) → CutsAt p chunk place → len ≡ length chunk
      → mid ≡ old ++ begun_within place len 0 [] chunk → rest ≡ take (length cs - (open_at + 1)) (drop (open_at + 1) cs) → new ≡ mid ++ joined rest
      → new ≡ old ++ filter (λ e. not (p e)) (joined cs)
  behind_done old mid new rest len cuts len_is mid_is rest_is new_is =
      let cut : CutsAt p (get_or cs open_at chunk) place = subst (λ c. CutsAt p c place) is cuts in
      new_is
      ∙ (ap (λ r. mid ++ joined r) (rest_is ∙ take_rest cs (open_at + 1))
      ∙ (ap (λ m. m ++ joined (drop (open_at + 1) cs)) (mid_is ∙ ap (λ r. old ++ r) (ap (λ n. begun_within place n 0 [] chunk) len_is ∙ begun_second chunk place))
      ∙ (append_assoc old (drop place chunk) (joined (drop (open_at + 1) cs))
      ∙ ap (λ r. old ++ r) (ap (λ c. drop place c ++ joined (drop (open_at + 1) cs)) is ∙ sym (behind_open p cs open_at place chunk opens inside cut)))))

-- a version with one entry between those before it and those behind it
pub made_put : (none one two three before behind : List Entry) (name : List ℕ) (content : Content) → none ≡ [] → one ≡ none ++ before
    → two ≡ one ++ (name, content) ∷ [] → three ≡ two ++ behind → three ≡ before ++ (name, content) ∷ behind
made_put none one two three before behind name content none_is one_is two_is three_is =
    three_is
    ∙ (ap (λ t. t ++ behind) (two_is ∙ ap (λ o. o ++ (name, content) ∷ []) (one_is ∙ ap (λ n. n ++ before) none_is))
    ∙ append_assoc before ((name, content) ∷ []) behind)

pub made_remove : (none one two before behind : List Entry) → none ≡ [] → one ≡ none ++ before → two ≡ one ++ behind → two ≡ before ++ behind
made_remove none one two before behind none_is one_is two_is = two_is ∙ ap (λ o. o ++ behind) (one_is ∙ ap (λ n. n ++ before) none_is)

-- ---- what is drafted behind the chunks

pub closed_behind : (old new : List (List Entry)) (draft left : List Entry) (view : List Entry) → joined old ++ draft ≡ view → joined new ≡ joined old ++ draft → left ≡ []
    → joined new ++ left ≡ view
closed_behind old new draft left view view_is closed none = ap (λ l. joined new ++ l) none ∙ (append-nil (joined new) ∙ (closed ∙ view_is))

pub added_behind : (old mid new : List (List Entry)) (draft left chunk view : List Entry) → joined old ++ draft ≡ view → joined mid ≡ joined old ++ draft → left ≡ []
    → joined new ≡ joined mid ++ chunk → joined new ++ left ≡ view ++ chunk
added_behind old mid new draft left chunk view view_is closed none new_is =
    ap (λ l. joined new ++ l) none ∙ (append-nil (joined new) ∙ (new_is ∙ ap (λ m. m ++ chunk) (closed ∙ view_is)))

pub drafted_behind : (chunks draft new more view : List Entry) → chunks ++ draft ≡ view → new ≡ draft ++ more → chunks ++ new ≡ view ++ more
drafted_behind chunks draft new more view view_is is =
    ap (λ n. chunks ++ n) is ∙ (sym (append_assoc chunks draft more) ∙ ap (λ v. v ++ more) view_is)

pub whole_part : (es : List Entry) (from to count : ℕ) (beginning : List ℕ) (old new chunk : List Entry) → from ≡ 0 → to ≡ length es → chunk ≡ map (begun count beginning) es
    → new ≡ old ++ chunk → new ≡ old ++ begun_within from to count beginning es
whole_part es from to count beginning old new chunk from_is to_is chunk_is new_is =
    new_is
    ∙ ap (λ c. old ++ c)
    (chunk_is
    ∙ sym (ap (λ f. begun_within f to count beginning es) from_is
    ∙ (ap (λ t. begun_within 0 t count beginning es) to_is ∙ ap (map (begun count beginning)) (take_all (length es) es (omega arith)))))
