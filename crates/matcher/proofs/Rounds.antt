-- Rounds of a repeat: each goes on only from new positions, and can leave out what positions of `done` lead to.
use Rattle.std.proofs.Common.{◌≡◌, ℕ, zero, suc, ◌+◌, ◌-◌, ◌≤◌, ◌<◌, Bool, true, false, not, ◌&&◌, IsTrue, List, length, get_or, drop, map}
use Rattle.std.proofs.Common.{Option, Some, None, ◌⊎◌, inl, inr, refl, sym, subst, ◌∙◌, arith}
use Rattle.std.proofs.lemmas.Bool.{false≢true, and_parts}
use Rattle.matcher.proofs.Longer.{steps_held}
use Rattle.ere.specs.declared.tree.Ere.{Ere}
use Rattle.ere.specs.Tree.{form, trees_of, Tree, empty, cat, alt, repeat, Trees, more}
use Rattle.spans.specs.Spans.{Relation, Steps, Spans, SpansEach, SpansSome}
use Rattle.spans.specs.PositionSets.{has_position}
use Rattle.matcher.specs.Private.Moves.{HasNone, IsEither, IsNew, Moves, MovesIf, MovesPast}
use Rattle.matcher.specs.Private.Rounds.{AnySteps, MoreSteps, Covered, IsRounded, GoesOn, IsWidened}
use Rattle.matcher.proofs.Walks.{not_held, in_left, in_right, in_either, decide, moves_none, moves_then, moves_each_more}
use Rattle.matcher.proofs.Walks.{trees_from, steps_split, steps_join}

pub past_of_moves : (relation : Relation) (done from to : List ℕ) → Moves relation from to → MovesPast relation done from to
past_of_moves relation done from to h = record { sound = h.sound; complete = λ i k held r. inl (h.complete i k held r) }

pub past_cat : (line : List ℕ) (members : Trees) (done from to : List ℕ) → MovesPast (SpansEach line members) done from to
    → MovesPast (Spans line (cat members)) done from to
unfolding Spans
past_cat line members done from to h = record { sound = h.sound; complete = h.complete }

pub past_alt : (line : List ℕ) (members : Trees) (done from to : List ℕ) → MovesPast (SpansSome line members) done from to
    → MovesPast (Spans line (alt members)) done from to
unfolding Spans
past_alt line members done from to h = record { sound = h.sound; complete = h.complete }

-- a repeat of any number of words, and one of one or more
pub past_star : (line : List ℕ) (body : Tree) (done from to : List ℕ) → MovesPast (AnySteps (Spans line body)) done from to
    → MovesPast (Spans line (repeat body 0 None)) done from to
unfolding Spans
past_star line body done from to h = record {
  sound = λ k held. let w = h.sound k held in (w.0, w.1, (w.2.0, omega arith, tt, w.2.1));
  complete = λ i k held r. covered k (h.complete i k held (r.0, r.3));
}
  where
    covered : (k : ℕ) → IsTrue (has_position to k) ⊎ Covered (AnySteps (Spans line body)) done k
        → IsTrue (has_position to k) ⊎ Covered (Spans line (repeat body 0 None)) done k
    covered k (inl x) = inl x
    covered k (inr w) = inr (w.0, w.1, (w.2.0, omega arith, tt, w.2.1))

pub past_plus : (line : List ℕ) (body : Tree) (done from to : List ℕ) → MovesPast (MoreSteps (Spans line body)) done from to
    → MovesPast (Spans line (repeat body 1 None)) done from to
unfolding Spans
past_plus line body done from to h = record {
  sound = λ k held. let w = h.sound k held in (w.0, w.1, (suc w.2.0, omega arith, tt, w.2.1));
  complete = λ i k held r. covered k (h.complete i k held (some i k r.0 r.1 r.3));
}
  where
    some : (i k count : ℕ) → 1 ≤ count → Steps (Spans line body) count i k → MoreSteps (Spans line body) i k
    some i k zero low r = absurd (omega arith)
    some i k (suc count) low r = (count, r)

    covered : (k : ℕ) → IsTrue (has_position to k) ⊎ Covered (MoreSteps (Spans line body)) done k
        → IsTrue (has_position to k) ⊎ Covered (Spans line (repeat body 1 None)) done k
    covered k (inl x) = inl x
    covered k (inr w) = inr (w.0, w.1, (suc w.2.0, omega arith, tt, w.2.1))

-- one word fewer than the least count, and then one word or more
pub moves_some_more_words : (line : List ℕ) (body : Tree) (least before : ℕ) (from middle to : List ℕ) → least ≡ suc before
    → Moves (Steps (Spans line body) before) from middle → Moves (MoreSteps (Spans line body)) middle to
    → Moves (Spans line (repeat body least None)) from to
unfolding Spans
moves_some_more_words line body least before from middle to e one two =
    let both = moves_then (Steps (Spans line body) before) (MoreSteps (Spans line body)) from middle to one two in
    record {
      sound = λ k h.
          let w = both.sound k h in
          let m = w.2 in
          (w.0, w.1, (before + suc m.2.0, omega arith, tt, steps_join (Spans line body) before (suc m.2.0) w.0 m.0 k m.1 m.2.1));
      complete = λ i k h r.
          let rest_of : r.0 ≡ before + suc (r.0 - suc before) = omega (arith, r.1) in
          let parts = steps_split (Spans line body) before (suc (r.0 - suc before)) i k (subst (λ n. Steps (Spans line body) n i k) rest_of r.3) in
          both.complete i k h (parts.0, parts.1, (r.0 - suc before, parts.2));
    }

-- the start added to what one word or more lead to
pub past_any : (relation : Relation) (done from moved to : List ℕ) → MovesPast (MoreSteps relation) done from moved → IsEither moved from to
    → MovesPast (AnySteps relation) done from to
unfolding Steps
past_any relation done from moved to h either = record {
  sound = λ k held. sound k (in_either either k held);
  complete = λ i k held r. complete i k held r.0 r.1;
}
  where
    sound : (k : ℕ) → IsTrue (has_position moved k) ⊎ IsTrue (has_position from k) → (i : ℕ) × IsTrue (has_position from i) × AnySteps relation i k
    sound k (inl x) = let w = h.sound k x in (w.0, w.1, (suc w.2.0, w.2.1))
    sound k (inr x) = (k, x, (0, refl))

    covered : (k : ℕ) → IsTrue (has_position moved k) ⊎ Covered (MoreSteps relation) done k → IsTrue (has_position to k) ⊎ Covered (AnySteps relation) done k
    covered k (inl x) = inl (in_left either k x)
    covered k (inr w) = inr (w.0, w.1, (suc w.2.0, w.2.1))

    complete : (i k : ℕ) → IsTrue (has_position from i) → (count : ℕ) → Steps relation count i k
        → IsTrue (has_position to k) ⊎ Covered (AnySteps relation) done k
    complete i k held zero r = inl (in_right either k (subst (λ n. IsTrue (has_position from n)) r held))
    complete i k held (suc count) r = covered k (h.complete i k held (count, r))

pub past_optional : (line : List ℕ) (body : Tree) (done from moved to : List ℕ) → MovesPast (Spans line body) done from moved
    → IsEither moved from to → MovesPast (Spans line (repeat body 0 (Some 1))) done from to
unfolding Spans Steps
past_optional line body done from moved to h either = record {
  sound = λ k held. sound k (in_either either k held);
  complete = λ i k held r. complete i k held r.0 r.2 r.3;
}
  where
    sound : (k : ℕ) → IsTrue (has_position moved k) ⊎ IsTrue (has_position from k)
        → (i : ℕ) × IsTrue (has_position from i) × Spans line (repeat body 0 (Some 1)) i k
    sound k (inl x) = let w = h.sound k x in (w.0, w.1, (1, omega arith, omega arith, (w.0, refl, w.2)))
    sound k (inr x) = (k, x, (0, omega arith, omega arith, refl))

    covered : (k : ℕ) → IsTrue (has_position moved k) ⊎ Covered (Spans line body) done k
        → IsTrue (has_position to k) ⊎ Covered (Spans line (repeat body 0 (Some 1))) done k
    covered k (inl x) = inl (in_left either k x)
    covered k (inr w) = inr (w.0, w.1, (1, omega arith, omega arith, (w.0, refl, w.2)))

    complete : (i k : ℕ) → IsTrue (has_position from i) → (count : ℕ) → count ≤ 1 → Steps (Spans line body) count i k
        → IsTrue (has_position to k) ⊎ Covered (Spans line (repeat body 0 (Some 1))) done k
    complete i k held zero most r = inl (in_right either k (subst (λ n. IsTrue (has_position from n)) r held))
    complete i k held (suc zero) most r = covered k (h.complete i k held (subst (λ n. Spans line body n k) (sym r.1) r.2))
    complete i k held (suc (suc count)) most r = absurd (omega arith)

-- one step of a set, and then any number
pub moves_more : (relation : Relation) (from middle to : List ℕ) → Moves relation from middle → Moves (AnySteps relation) middle to
    → Moves (MoreSteps relation) from to
unfolding Steps
moves_more relation from middle to one two = record {
  sound = λ k held.
      let m = two.sound k held in
      let w = one.sound m.0 m.1 in
      let first : Steps relation 1 w.0 m.0 = (w.0, refl, w.2) in
      let all : 1 + m.2.0 ≡ suc m.2.0 = omega arith in
      (w.0, w.1, (m.2.0, subst (λ n. Steps relation n w.0 k) all (steps_join relation 1 m.2.0 w.0 m.0 k first m.2.1)));
  complete = λ i k held r.
      let all : suc r.0 ≡ 1 + r.0 = omega arith in
      let parts = steps_split relation 1 r.0 i k (subst (λ n. Steps relation n i k) all r.1) in
      let first : relation i parts.0 = subst (λ n. relation n parts.0) (sym parts.1.1) parts.1.2 in
      two.complete parts.0 k (one.complete i parts.0 held first) (r.0, parts.2);
}

-- Members one after the other: the next one is at the front too if this one can be empty.
pub past_each_more : (line : List ℕ) (tree : Tree) (trees : Trees) (done from middle to : List ℕ) (leads next : Bool)
    → MovesIf leads (Spans line tree) done from middle → (IsTrue next → IsTrue leads × ((place : ℕ) → Spans line tree place place))
    → MovesIf next (SpansEach line trees) done middle to → MovesIf leads (SpansEach line (more tree trees)) done from to
unfolding SpansEach
past_each_more line tree trees done from middle to false true one can two = absurd (false≢true (can refl).0)
past_each_more line tree trees done from middle to false false one can two = moves_each_more line tree trees from middle to one two
past_each_more line tree trees done from middle to true next one can two = record { sound = sound next two; complete = complete }
  where
    sound : (t : Bool) → MovesIf t (SpansEach line trees) done middle to → (k : ℕ) → IsTrue (has_position to k)
        → (i : ℕ) × IsTrue (has_position from i) × SpansEach line (more tree trees) i k
    sound true h k held = let m = h.sound k held in let w = one.sound m.0 m.1 in (w.0, w.1, (m.0, w.2, m.2))
    sound false h k held = let m = h.sound k held in let w = one.sound m.0 m.1 in (w.0, w.1, (m.0, w.2, m.2))

    after : (t : Bool) → MovesIf t (SpansEach line trees) done middle to → (IsTrue t → (place : ℕ) → Spans line tree place place)
        → (m k : ℕ) → IsTrue (has_position middle m) → SpansEach line trees m k
        → IsTrue (has_position to k) ⊎ Covered (SpansEach line (more tree trees)) done k
    after false h can_end m k held r = inl (h.complete m k held r)
    after true h can_end m k held r = from_past (h.complete m k held r)
      where
        from_past : IsTrue (has_position to k) ⊎ Covered (SpansEach line trees) done k
            → IsTrue (has_position to k) ⊎ Covered (SpansEach line (more tree trees)) done k
        from_past (inl x) = inl x
        from_past (inr w) = inr (w.0, w.1, (w.0, can_end refl w.0, w.2))

    complete : (i k : ℕ) → IsTrue (has_position from i) → SpansEach line (more tree trees) i k
        → IsTrue (has_position to k) ⊎ Covered (SpansEach line (more tree trees)) done k
    complete i k held r = go (one.complete i r.0 held r.1)
      where
        go : IsTrue (has_position middle r.0) ⊎ Covered (Spans line tree) done r.0
            → IsTrue (has_position to k) ⊎ Covered (SpansEach line (more tree trees)) done k
        go (inl x) = after next two (λ t. (can t).1) r.0 k x r.2
        go (inr w) = inr (w.0, w.1, (r.0, w.2, r.2))

pub past_members : (line : List ℕ) (members : List Ere) (i : ℕ) (member : Ere) (done from middle to : List ℕ) (leads next : Bool)
    → i < length members → member ≡ get_or members i member → MovesIf leads (Spans line (form member)) done from middle
    → (IsTrue next → IsTrue leads × ((place : ℕ) → Spans line (form member) place place))
    → MovesIf next (SpansEach line (trees_of (map form (drop (i + 1) members)))) done middle to
    → MovesIf leads (SpansEach line (trees_of (map form (drop i members)))) done from to
past_members line members i member done from middle to leads next inside e one can rest =
    subst (λ trees. MovesIf leads (SpansEach line trees) done from to) (sym (trees_from members i member inside e))
    (past_each_more line (form member) (trees_of (map form (drop (i + 1) members))) done from middle to leads next one can rest)

pub past_nothing : (leads : Bool) (relation : Relation) (done at : List ℕ) → HasNone at → MovesIf leads relation done at at
past_nothing true relation done at h = past_of_moves relation done at at (moves_none relation at at h h)
past_nothing false relation done at h = moves_none relation at at h h

pub past_if : (leads : Bool) (relation : Relation) (done from to : List ℕ) → Moves relation from to → MovesIf leads relation done from to
past_if true relation done from to h = past_of_moves relation done from to h
past_if false relation done from to h = h

-- one more alternative, before the others
pub past_some_more : (line : List ℕ) (tree : Tree) (trees : Trees) (done from one rest both : List ℕ)
    → MovesPast (Spans line tree) done from one → MovesPast (SpansSome line trees) done from rest → IsEither rest one both
    → MovesPast (SpansSome line (more tree trees)) done from both
unfolding SpansSome
past_some_more line tree trees done from one rest both first others either = record {
  sound = λ k h. sound k (in_either either k h);
  complete = λ i k h r. complete i k h r;
}
  where
    sound : (k : ℕ) → IsTrue (has_position rest k) ⊎ IsTrue (has_position one k) → (i : ℕ) × IsTrue (has_position from i) × SpansSome line (more tree trees) i k
    sound k (inl h) = let w = others.sound k h in (w.0, w.1, inr w.2)
    sound k (inr h) = let w = first.sound k h in (w.0, w.1, inl w.2)

    by_first : (k : ℕ) → IsTrue (has_position one k) ⊎ Covered (Spans line tree) done k
        → IsTrue (has_position both k) ⊎ Covered (SpansSome line (more tree trees)) done k
    by_first k (inl x) = inl (in_right either k x)
    by_first k (inr w) = inr (w.0, w.1, inl w.2)

    by_others : (k : ℕ) → IsTrue (has_position rest k) ⊎ Covered (SpansSome line trees) done k
        → IsTrue (has_position both k) ⊎ Covered (SpansSome line (more tree trees)) done k
    by_others k (inl x) = inl (in_left either k x)
    by_others k (inr w) = inr (w.0, w.1, inr w.2)

    complete : (i k : ℕ) → IsTrue (has_position from i) → Spans line tree i k ⊎ SpansSome line trees i k
        → IsTrue (has_position both k) ⊎ Covered (SpansSome line (more tree trees)) done k
    complete i k h (inl r) = by_first k (first.complete i k h r)
    complete i k h (inr r) = by_others k (others.complete i k h r)

pub past_by_member : (line : List ℕ) (members : List Ere) (i : ℕ) (member : Ere) (done from one rest both : List ℕ) → i < length members
    → member ≡ get_or members i member → MovesPast (Spans line (form member)) done from one
    → MovesPast (SpansSome line (trees_of (map form (drop (i + 1) members)))) done from rest → IsEither rest one both
    → MovesPast (SpansSome line (trees_of (map form (drop i members)))) done from both
past_by_member line members i member done from one rest both inside e first others either =
    subst (λ trees. MovesPast (SpansSome line trees) done from both) (sym (trees_from members i member inside e))
    (past_some_more line (form member) (trees_of (map form (drop (i + 1) members))) done from one rest both first others either)

-- What is new is one of the next positions.
was_next : {next found new : List ℕ} → IsNew next found new → (k : ℕ) → IsTrue (has_position new k) → IsTrue (has_position next k)
was_next {next} {found} new k held = (and_parts (has_position next k) (not (has_position found k)) (sym (new.each k) ∙ held)).0

pub rounded_first : (relation : Relation) (done start found known fresh : List ℕ) → HasNone found → IsEither done start known
    → IsNew start done fresh → IsRounded relation done start found done known fresh
unfolding Steps
rounded_first relation done start found known fresh none_found either new = record {
  sound = λ k held. absurd (not_held none_found k held);
  begun = λ k held. (k, was_next new k held, (0, refl));
  knows_start = λ k held. in_right either k held;
  knows_found = λ k held. absurd (not_held none_found k held);
  closed = λ k to held r. closed k to (decide (has_position done k)) (in_either either k held) r;
  over_closed = λ k to held r. inr (one k to held r);
}
  where
    one : (k to : ℕ) → IsTrue (has_position done k) → relation k to → Covered (MoreSteps relation) done to
    one k to held r = (k, held, (0, (k, refl, r)))

    closed : (k to : ℕ) → IsTrue (has_position done k) ⊎ (has_position done k ≡ false)
        → IsTrue (has_position done k) ⊎ IsTrue (has_position start k) → relation k to
        → IsTrue (has_position fresh k) ⊎ (IsTrue (has_position found to) ⊎ Covered (MoreSteps relation) done to)
    closed k to (inl held) x r = inr (inr (one k to held r))
    closed k to (inr absent) (inl held) r = absurd (false≢true (sym absent ∙ held))
    closed k to (inr absent) (inr held) r = inl (new.each k ∙ rw (held, absent) refl)

pub rounded_more : (relation : Relation) (done start found over known fresh next found_next unfound known_next fresh_next : List ℕ)
    → IsRounded relation done start found over known fresh → MovesPast relation over fresh next → IsEither found next found_next
    → IsNew next found unfound → IsEither known unfound known_next → IsNew unfound known fresh_next
    → IsRounded relation done start found_next known known_next fresh_next
unfolding Steps
rounded_more relation done start found over known fresh next found_next unfound known_next fresh_next h moves either new either_known new_known = record {
  sound = λ k held. sound k (in_either either k held);
  begun = λ k held. let w = by_move k (was_next new k (was_next new_known k held)) in (w.0, w.1, (suc w.2.0, w.2.1));
  knows_start = λ k held. in_left either_known k (h.knows_start k held);
  knows_found = λ k held. knows_found k (decide (has_position found k)) (in_either either k held);
  closed = λ k to held r. closed k to (decide (has_position known k)) (in_either either_known k held) r;
  over_closed = known_closed;
}
  where
    by_move : (k : ℕ) → IsTrue (has_position next k) → (i : ℕ) × IsTrue (has_position start i) × MoreSteps relation i k
    by_move k held = let m = moves.sound k held in let w = h.begun m.0 m.1 in (w.0, w.1, (w.2.0, (m.0, w.2.1, m.2)))

    sound : (k : ℕ) → IsTrue (has_position found k) ⊎ IsTrue (has_position next k) → (i : ℕ) × IsTrue (has_position start i) × MoreSteps relation i k
    sound k (inl held) = h.sound k held
    sound k (inr held) = by_move k held

    knows_found : (k : ℕ) → IsTrue (has_position found k) ⊎ (has_position found k ≡ false)
        → IsTrue (has_position found k) ⊎ IsTrue (has_position next k) → IsTrue (has_position known_next k)
    knows_found k (inl held) x = in_left either_known k (h.knows_found k held)
    knows_found k (inr absent) (inl held) = absurd (false≢true (sym absent ∙ held))
    knows_found k (inr absent) (inr held) = in_right either_known k (new.each k ∙ rw (held, absent) refl)

    kept : (to : ℕ) → IsTrue (has_position found to) ⊎ Covered (MoreSteps relation) done to
        → IsTrue (has_position found_next to) ⊎ Covered (MoreSteps relation) done to
    kept to (inl x) = inl (in_left either to x)
    kept to (inr w) = inr w

    from_fresh : (to : ℕ) → IsTrue (has_position next to) ⊎ Covered relation over to
        → IsTrue (has_position found_next to) ⊎ Covered (MoreSteps relation) done to
    from_fresh to (inl x) = inl (in_right either to x)
    from_fresh to (inr w) = kept to (h.over_closed w.0 to w.1 w.2)

    from_known : (k to : ℕ) → relation k to
        → IsTrue (has_position fresh k) ⊎ (IsTrue (has_position found to) ⊎ Covered (MoreSteps relation) done to)
        → IsTrue (has_position found_next to) ⊎ Covered (MoreSteps relation) done to
    from_known k to r (inl x) = from_fresh to (moves.complete k to x r)
    from_known k to r (inr x) = kept to x

    known_closed : (k to : ℕ) → IsTrue (has_position known k) → relation k to → IsTrue (has_position found_next to) ⊎ Covered (MoreSteps relation) done to
    known_closed k to held r = from_known k to r (h.closed k to held r)

    closed : (k to : ℕ) → IsTrue (has_position known k) ⊎ (has_position known k ≡ false)
        → IsTrue (has_position known k) ⊎ IsTrue (has_position unfound k) → relation k to
        → IsTrue (has_position fresh_next k) ⊎ (IsTrue (has_position found_next to) ⊎ Covered (MoreSteps relation) done to)
    closed k to (inl held) x r = inr (known_closed k to held r)
    closed k to (inr absent) (inl held) r = absurd (false≢true (sym absent ∙ held))
    closed k to (inr absent) (inr held) r = inl (new_known.each k ∙ rw (held, absent) refl)

-- With nothing fresh, all that one step or more lead to is found or covered.
pub rounded_all : (relation : Relation) (done start found over known fresh : List ℕ) → IsRounded relation done start found over known fresh
    → HasNone fresh → MovesPast (MoreSteps relation) done start found
unfolding Steps
rounded_all relation done start found over known fresh h none_fresh = record {
  sound = h.sound;
  complete = λ i k held r. reached r.0 i k held r.1;
}
  where
    not_fresh : (k to : ℕ) → IsTrue (has_position fresh k) ⊎ (IsTrue (has_position found to) ⊎ Covered (MoreSteps relation) done to)
        → IsTrue (has_position found to) ⊎ Covered (MoreSteps relation) done to
    not_fresh k to (inl x) = absurd (not_held none_fresh k x)
    not_fresh k to (inr x) = x

    further : (m k : ℕ) → relation m k → IsTrue (has_position found m) ⊎ Covered (MoreSteps relation) done m
        → IsTrue (has_position found k) ⊎ Covered (MoreSteps relation) done k
    further m k r (inl x) = not_fresh m k (h.closed m k (h.knows_found m x) r)
    further m k r (inr w) = inr (w.0, w.1, (suc w.2.0, (m, w.2.1, r)))

    reached : (count i k : ℕ) → IsTrue (has_position start i) → Steps relation (suc count) i k
        → IsTrue (has_position found k) ⊎ Covered (MoreSteps relation) done k
    reached zero i k held r =
        let first : relation i k = subst (λ n. relation n k) (sym r.1) r.2 in
        not_fresh i k (h.closed i k (h.knows_start i held) first)
    reached (suc count) i k held r = further r.0 k r.2 (reached count i r.0 held r.1)

-- after one round from the fresh positions
pub rounded_on : (relation : Relation) (done start found known fresh fresh_next found_next known_next : List ℕ)
    → GoesOn relation fresh found known fresh_next found_next known_next → IsRounded relation done start found done known fresh
    → IsRounded relation done start found_next done known_next fresh_next
unfolding Steps
rounded_on relation done start found known fresh fresh_next found_next known_next on h =
    over_done
    (rounded_more relation done start found done known fresh on.next found_next on.unfound known_next fresh_next h
    (past_of_moves relation done fresh on.next on.moves) on.finds on.new on.knows on.new_known)
  where
    over_done : IsRounded relation done start found_next known known_next fresh_next → IsRounded relation done start found_next done known_next fresh_next
    over_done r = record {
      sound = r.sound;
      begun = r.begun;
      knows_start = r.knows_start;
      knows_found = r.knows_found;
      closed = r.closed;
      over_closed = λ k to held step. inr (k, held, (0, (k, refl, step)));
    }

-- after a round from a part of the fresh positions, widened by steps of a relation that this one contains
module _ (inner relation : Relation) (longer : (i k : ℕ) → inner i k → relation i k)
    (done start found known fresh here here_wide here_next rest known_wide known_next found_next fresh_next : List ℕ)
    (split : IsEither here rest fresh) (widened : IsWidened inner here known here_wide known_wide)
    (on : GoesOn relation here_wide found known_wide here_next found_next known_next) (joined : IsEither rest here_next fresh_next)
    (h : IsRounded relation done start found done known fresh) where
  part_begun : (k : ℕ) → IsTrue (has_position here_wide k) → (i : ℕ) × IsTrue (has_position start i) × AnySteps relation i k
  part_begun k held =
      let a = widened.sound k held in
      let b = h.begun a.0 (in_left split a.0 a.1) in
      (b.0, b.1, (b.2.0 + a.2.0, steps_join relation b.2.0 a.2.0 b.0 a.0 k b.2.1 (steps_held inner relation longer a.2.0 a.0 k a.2.1)))

  part_moved : (k : ℕ) → IsTrue (has_position on.next k) → (i : ℕ) × IsTrue (has_position start i) × MoreSteps relation i k
  unfolding Steps
  part_moved k held =
      let m = on.moves.sound k held in
      let b = part_begun m.0 m.1 in
      (b.0, b.1, (b.2.0, (m.0, b.2.1, m.2)))

  part_sound : (k : ℕ) → IsTrue (has_position found k) ⊎ IsTrue (has_position on.next k) → (i : ℕ) × IsTrue (has_position start i) × MoreSteps relation i k
  part_sound k (inl held) = h.sound k held
  part_sound k (inr held) = part_moved k held

  part_fresh : (k : ℕ) → IsTrue (has_position rest k) ⊎ IsTrue (has_position here_next k) → (i : ℕ) × IsTrue (has_position start i) × AnySteps relation i k
  part_fresh k (inl held) = h.begun k (in_right split k held)
  part_fresh k (inr held) = let w = part_moved k (was_next on.new k (was_next on.new_known k held)) in (w.0, w.1, (suc w.2.0, w.2.1))

  part_found : (k : ℕ) → IsTrue (has_position found k) ⊎ (has_position found k ≡ false)
      → IsTrue (has_position found k) ⊎ IsTrue (has_position on.next k) → IsTrue (has_position known_next k)
  part_found k (inl held) x = in_left on.knows k (widened.knew k (h.knows_found k held))
  part_found k (inr absent) (inl held) = absurd (false≢true (sym absent ∙ held))
  part_found k (inr absent) (inr held) = in_right on.knows k (on.new.each k ∙ rw (held, absent) refl)

  -- whether a position is still fresh, or where it leads is found or covered
  abbrev Closes : ℕ → ℕ → Type 0
  Closes k to = IsTrue (has_position fresh_next k) ⊎ (IsTrue (has_position found_next to) ⊎ Covered (MoreSteps relation) done to)

  part_here : (k to : ℕ) → IsTrue (has_position here_wide k) → relation k to → Closes k to
  part_here k to held r = inr (inl (in_right on.finds to (on.moves.complete k to held r)))

  part_split : (k to : ℕ) → IsTrue (has_position here k) ⊎ IsTrue (has_position rest k) → relation k to → Closes k to
  part_split k to (inl held) r = part_here k to (widened.keeps k held) r
  part_split k to (inr held) r = inl (in_left joined k held)

  part_old : (k to : ℕ) → IsTrue (has_position fresh k) ⊎ (IsTrue (has_position found to) ⊎ Covered (MoreSteps relation) done to)
      → relation k to → Closes k to
  part_old k to (inl held) r = part_split k to (in_either split k held) r
  part_old k to (inr (inl held)) r = inr (inl (in_left on.finds to held))
  part_old k to (inr (inr covered)) r = inr (inr covered)

  part_wide : (k to : ℕ) → IsTrue (has_position known k) ⊎ IsTrue (has_position here_wide k) → relation k to → Closes k to
  part_wide k to (inl held) r = part_old k to (h.closed k to held r) r
  part_wide k to (inr held) r = part_here k to held r

  part_closed : (k to : ℕ) → IsTrue (has_position known_wide k) ⊎ (has_position known_wide k ≡ false)
      → IsTrue (has_position known_wide k) ⊎ IsTrue (has_position on.unfound k) → relation k to → Closes k to
  part_closed k to (inl held) x r = part_wide k to (widened.knows k held) r
  part_closed k to (inr absent) (inl held) r = absurd (false≢true (sym absent ∙ held))
  part_closed k to (inr absent) (inr held) r = inl (in_right joined k (on.new_known.each k ∙ rw (held, absent) refl))

  pub rounded_part : IsRounded relation done start found_next done known_next fresh_next
  unfolding Steps
  rounded_part = record {
    sound = λ k held. part_sound k (in_either on.finds k held);
    begun = λ k held. part_fresh k (in_either joined k held);
    knows_start = λ k held. in_left on.knows k (widened.knew k (h.knows_start k held));
    knows_found = λ k held. part_found k (decide (has_position found k)) (in_either on.finds k held);
    closed = λ k to held r. part_closed k to (decide (has_position known_wide k)) (in_either on.knows k held) r;
    over_closed = λ k to held r. inr (k, held, (0, (k, refl, r)));
  }

-- rounds in a window, which go on from new positions
pub record IsWidening (relation : Relation) (here known here_next known_next next : List ℕ) : Type 0 where
  pub widened : IsWidened relation here known here_next known_next
  pub sound : (k : ℕ) → IsTrue (has_position next k) → (i : ℕ) × IsTrue (has_position here i) × AnySteps relation i k

pub widened_first : (relation : Relation) (here known : List ℕ) → IsWidening relation here known here known here
unfolding Steps
widened_first relation here known = record {
  widened = record { keeps = λ k held. held; sound = λ k held. (k, held, (0, refl)); knew = λ k held. held; knows = λ k held. inl held };
  sound = λ k held. (k, held, (0, refl));
}

pub widened_more : (relation : Relation) (here_first known_first here known next moved known_next new here_next next_next : List ℕ)
    → IsWidening relation here_first known_first here known next → Moves relation next moved → IsEither known moved known_next
    → IsNew moved known new → IsEither here new here_next → IsNew new here next_next
    → IsWidening relation here_first known_first here_next known_next next_next
unfolding Steps
widened_more relation here_first known_first here known next moved known_next new here_next next_next h moves knows is_new heres is_next = record {
  widened =
      record {
        keeps = λ k held. in_left heres k (h.widened.keeps k held);
        sound = λ k held. in_here k (in_either heres k held);
        knew = λ k held. in_left knows k (h.widened.knew k held);
        knows = λ k held. in_known k (decide (has_position known k)) (in_either knows k held);
      };
  sound = λ k held. by_move k (was_next is_new k (was_next is_next k held));
}
  where
    by_move : (k : ℕ) → IsTrue (has_position moved k) → (i : ℕ) × IsTrue (has_position here_first i) × AnySteps relation i k
    by_move k held = let m = moves.sound k held in let w = h.sound m.0 m.1 in (w.0, w.1, (suc w.2.0, (m.0, w.2.1, m.2)))

    in_here : (k : ℕ) → IsTrue (has_position here k) ⊎ IsTrue (has_position new k) → (i : ℕ) × IsTrue (has_position here_first i) × AnySteps relation i k
    in_here k (inl held) = h.widened.sound k held
    in_here k (inr held) = by_move k (was_next is_new k held)

    old : (k : ℕ) → IsTrue (has_position known_first k) ⊎ IsTrue (has_position here k) → IsTrue (has_position known_first k) ⊎ IsTrue (has_position here_next k)
    old k (inl held) = inl held
    old k (inr held) = inr (in_left heres k held)

    in_known : (k : ℕ) → IsTrue (has_position known k) ⊎ (has_position known k ≡ false)
        → IsTrue (has_position known k) ⊎ IsTrue (has_position moved k)
        → IsTrue (has_position known_first k) ⊎ IsTrue (has_position here_next k)
    in_known k (inl held) x = old k (h.widened.knows k held)
    in_known k (inr absent) (inl held) = absurd (false≢true (sym absent ∙ held))
    in_known k (inr absent) (inr held) = inr (in_right heres k (is_new.each k ∙ rw (held, absent) refl))

-- trees that have the empty word
pub empty_empty : (line : List ℕ) (place : ℕ) → Spans line empty place place
unfolding Spans
empty_empty line place = refl

pub empty_repeat : (line : List ℕ) (body : Tree) (greatest : Option ℕ) (place : ℕ) → Spans line (repeat body 0 greatest) place place
unfolding Spans Steps
empty_repeat line body None place = (0, omega arith, tt, refl)
empty_repeat line body (Some most) place = (0, omega arith, omega arith, refl)

pub empty_if : (line : List ℕ) (body tree : Tree) (least : ℕ) (greatest : Option ℕ) → tree ≡ repeat body least greatest → least ≡ 0
    → (place : ℕ) → Spans line tree place place
empty_if line body tree least greatest e least_is place = subst (λ t. Spans line t place place) (sym e) (rw least_is (empty_repeat line body greatest place))
