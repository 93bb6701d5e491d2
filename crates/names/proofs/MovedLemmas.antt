-- Texts one after the other, with others behind them as they lie.
use Rattle.std.proofs.Common.{◌≡◌, ℕ, zero, suc, ◌+◌, ◌-◌, ◌<◌, ◌≤◌, List, [], ◌∷◌, ◌++◌, map, length, take, drop, get_or, refl, sym, ◌∙◌, ap, subst, arith, length-append}
use Rattle.std.proofs.lemmas.List.{drop-drop, drop-take, get_or-take, length-drop, length-take, length-take-le, take-take}
use Rattle.std.proofs.Math.Seq.{drop-append-add}
use Rattle.names.specs.Private.Entries.{parts_from, RiseTo}
use Rattle.names.proofs.TextLemmas.{length-parts, part-append, rise_bound}

-- a place, as it lies once what is before `low` is left out and so many bytes come before it
abbrev pub moved : ℕ → ℕ → ℕ → ℕ
moved low base end = (end - low) + base

abbrev pub all_moved : ℕ → ℕ → List ℕ → List ℕ
all_moved low base ends = map (λ e. (e - low) + base) ends

-- ---- places that rise

pub rise_take : (last from : ℕ) (ends : List ℕ) (to : ℕ) → RiseTo last from ends → to ≤ length ends → RiseTo (get_or (from ∷ ends) to 0) from (take to ends)
rise_take last from ends zero rise inside = refl
rise_take last from [] (suc to) rise inside = absurd (omega arith)
rise_take last from (end ∷ ends) (suc to) rise inside = (rise.0, rise_take last end ends to rise.1 (omega arith))

pub rise_drop : (last from : ℕ) (ends : List ℕ) (at : ℕ) → RiseTo last from ends → at ≤ length ends → RiseTo last (get_or (from ∷ ends) at 0) (drop at ends)
rise_drop last from ends zero rise inside = rise
rise_drop last from [] (suc at) rise inside = absurd (omega arith)
rise_drop last from (end ∷ ends) (suc at) rise inside = rise_drop last end ends at rise.1 (omega arith)

pub rise_from : (last from : ℕ) (ends : List ℕ) (at : ℕ) → RiseTo last from ends → at < length ends → from ≤ get_or ends at 0
rise_from last from [] at rise inside = absurd (omega arith)
rise_from last from (end ∷ ends) zero rise inside = rise.0
rise_from last from (end ∷ ends) (suc at) rise inside = let further = rise_from last end ends at rise.1 (omega arith) in let first = rise.0 in omega (arith, further, first)

pub rise_behind : (last middle from : ℕ) (ends more : List ℕ) → RiseTo middle from ends → RiseTo last middle more → RiseTo last from (ends ++ more)
rise_behind last middle from [] more rise further = subst (λ n. RiseTo last n more) (sym rise) further
rise_behind last middle from (end ∷ ends) more rise further = (rise.0, rise_behind last middle end ends more rise.1 further)

pub rise_moved : (high low base at : ℕ) (ends : List ℕ) → RiseTo high at ends → low ≤ at → RiseTo ((high - low) + base) ((at - low) + base) (all_moved low base ends)
rise_moved high low base at [] rise above = ap (λ n. (n - low) + base) rise
rise_moved high low base at (end ∷ ends) rise above =
    let first = rise.0 in (omega (arith, first), rise_moved high low base end ends rise.1 (omega (arith, first, above)))

-- ---- texts behind others

pub parts_behind : (text more : List ℕ) (from : ℕ) (ends others : List ℕ) → RiseTo (length text) from ends
    → parts_from (text ++ more) from (ends ++ others) ≡ parts_from text from ends ++ parts_from (text ++ more) (length text) others
parts_behind text more from [] others rise = ap (λ n. parts_from (text ++ more) n others) rise
parts_behind text more from (end ∷ ends) others rise =
    ap (λ part. part ∷ parts_from (text ++ more) end (ends ++ others)) (part-append text more from end rise.0 (rise_bound (length text) end ends rise.1))
    ∙ ap (λ parts. take (end - from) (drop from text) ∷ parts) (parts_behind text more end ends others rise.1)

moved_part : (text other piece : List ℕ) (low high at end : ℕ) → piece ≡ take (high - low) (drop low other) → low ≤ at → at ≤ end → end ≤ high
    → take (((end - low) + length text) - ((at - low) + length text)) (drop ((at - low) + length text) (text ++ piece)) ≡ take (end - at) (drop at other)
moved_part text other piece low high at end piece_is above order below =
    let n : ((end - low) + length text) - ((at - low) + length text) ≡ end - at = omega arith in
    let k : (at - low) + length text ≡ length text + (at - low) = omega arith in
    let h : high - low ≡ (at - low) + (high - at) = omega arith in
    let back : low + (at - low) ≡ at = omega arith in
    ap (λ m. take m (drop ((at - low) + length text) (text ++ piece))) n
    ∙ ap (take (end - at))
    (ap (λ m. drop m (text ++ piece)) k
    ∙ (drop-append-add text piece (at - low)
    ∙ (ap (drop (at - low)) (piece_is ∙ ap (λ m. take m (drop low other)) h)
    ∙ (drop-take (at - low) (high - at) (drop low other)
    ∙ ap (take (high - at)) (drop-drop (at - low) low other ∙ ap (λ m. drop m other) back)))))
    ∙ take-take (end - at) (high - at) (drop at other) (omega arith)

pub parts_moved : (text other piece : List ℕ) (low high : ℕ) → piece ≡ take (high - low) (drop low other) → (at : ℕ) (ends : List ℕ) → low ≤ at → RiseTo high at ends
    → parts_from (text ++ piece) ((at - low) + length text) (all_moved low (length text) ends) ≡ parts_from other at ends
parts_moved text other piece low high piece_is at [] above rise = refl
parts_moved text other piece low high piece_is at (end ∷ ends) above rise =
    let first = rise.0 in
    ap (λ part. part ∷ parts_from (text ++ piece) ((end - low) + length text) (all_moved low (length text) ends))
    (moved_part text other piece low high at end piece_is above first (rise_bound high end ends rise.1))
    ∙ ap (λ parts. take (end - at) (drop at other) ∷ parts) (parts_moved text other piece low high piece_is end ends (omega (arith, first, above)) rise.1)

pub parts_take : (text : List ℕ) (from : ℕ) (ends : List ℕ) (to : ℕ) → take to (parts_from text from ends) ≡ parts_from text from (take to ends)
parts_take text from ends zero = refl
parts_take text from [] (suc to) = refl
parts_take text from (end ∷ ends) (suc to) = ap (λ parts. take (end - from) (drop from text) ∷ parts) (parts_take text end ends to)

pub parts_drop : (text : List ℕ) (from : ℕ) (ends : List ℕ) (at : ℕ) → at ≤ length ends
    → drop at (parts_from text from ends) ≡ parts_from text (get_or (from ∷ ends) at 0) (drop at ends)
parts_drop text from ends zero inside = refl
parts_drop text from [] (suc at) inside = absurd (omega arith)
parts_drop text from (end ∷ ends) (suc at) inside = parts_drop text end ends at (omega arith)

pub ends_inside : (text ends : List ℕ) (view : List (List ℕ)) (to : ℕ) → parts_from text 0 ends ≡ view → to ≤ length view → to ≤ length ends
ends_inside text ends view to is inside = omega (arith, length-parts text 0 ends, ap length is, inside)

-- ---- the texts from one place on and before another one

module _ (other ends : List ℕ) (from to low high : ℕ) (order : from ≤ to) (inside : to ≤ length ends) (rise : RiseTo (length other) 0 ends)
    (low_is : low ≡ get_or (0 ∷ ends) from 0) (high_is : high ≡ get_or (0 ∷ ends) to 0) where
  run_is : take (to - from) (drop from ends) ≡ drop from (take to ends)
  run_is =
      let whole : from + (to - from) ≡ to = omega arith in sym (drop-take from (to - from) ends) ∙ ap (λ n. drop from (take n ends)) whole

  starts : get_or (0 ∷ take to ends) from 0 ≡ low
  starts = get_or-take (suc to) (0 ∷ ends) from 0 (omega arith) ∙ sym low_is

  short : from ≤ length (take to ends)
  short = omega (arith, length-take-le to ends inside)

  pub run_rises : RiseTo high low (take (to - from) (drop from ends))
  run_rises =
      subst (λ r. RiseTo high low r) (sym run_is)
      (subst (λ n. RiseTo high n (drop from (take to ends))) starts
      (rise_drop high 0 (take to ends) from (subst (λ n. RiseTo n 0 (take to ends)) (sym high_is) (rise_take (length other) 0 ends to rise inside)) short))

  pub run_order : low ≤ high
  run_order = rise_bound high low (take (to - from) (drop from ends)) run_rises

  pub run_inside : high ≤ length other
  run_inside =
      rise_bound (length other) high (drop to ends) (subst (λ n. RiseTo (length other) n (drop to ends)) (sym high_is) (rise_drop (length other) 0 ends to rise inside))

  pub run_parts : parts_from other low (take (to - from) (drop from ends)) ≡ drop from (take to (parts_from other 0 ends))
  run_parts =
      ap (parts_from other low) run_is
      ∙ (ap (λ n. parts_from other n (drop from (take to ends))) (sym starts)
      ∙ (sym (parts_drop other 0 (take to ends) from short) ∙ ap (drop from) (sym (parts_take other 0 ends to))))

  module _ (text piece : List ℕ) (mine : List ℕ) (rises : RiseTo (length text) 0 mine) (piece_is : piece ≡ take (high - low) (drop low other)) where
    pub piece_long : length (text ++ piece) ≡ (high - low) + length text
    piece_long =
        let order_low = run_order in
        let within = run_inside in
        omega (arith, order_low, within, length-append text piece, ap length piece_is, length-take (high - low) (drop low other), length-drop low other)

    none_left : (low - low) + length text ≡ length text
    none_left = omega arith

    pub run_rise_behind : RiseTo (length (text ++ piece)) 0 (mine ++ all_moved low (length text) (take (to - from) (drop from ends)))
    run_rise_behind =
        rise_behind (length (text ++ piece)) (length text) 0 mine (all_moved low (length text) (take (to - from) (drop from ends))) rises
        (subst (λ n. RiseTo n (length text) (all_moved low (length text) (take (to - from) (drop from ends)))) (sym piece_long)
        (subst (λ n. RiseTo ((high - low) + length text) n (all_moved low (length text) (take (to - from) (drop from ends)))) none_left
        (rise_moved high low (length text) low (take (to - from) (drop from ends)) run_rises (omega arith))))

    pub run_behind : parts_from (text ++ piece) 0 (mine ++ all_moved low (length text) (take (to - from) (drop from ends)))
        ≡ parts_from text 0 mine ++ drop from (take to (parts_from other 0 ends))
    run_behind =
        parts_behind text piece 0 mine (all_moved low (length text) (take (to - from) (drop from ends))) rises
        ∙ ap (λ ps. parts_from text 0 mine ++ ps)
        (ap (λ n. parts_from (text ++ piece) n (all_moved low (length text) (take (to - from) (drop from ends)))) (sym none_left)
        ∙ (parts_moved text other piece low high piece_is low (take (to - from) (drop from ends)) (omega arith) run_rises ∙ run_parts))
