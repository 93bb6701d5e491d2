-- What each kind of tree does to a set of positions.
use Rattle.std.proofs.Common.{◌≡◌, ℕ, zero, suc, ◌+◌, ◌-◌, ◌≤◌, ◌<◌, Bool, true, false, not, ◌&&◌, ◌||◌, ◌==◌, nat_le, IsTrue, MatchBool}
use Rattle.std.proofs.Common.{List, length, get_or, drop, map, Option, Some, None, is_some, ◌⊎◌, ◌↔◌, inl, inr, refl, sym, ap, subst, ◌∙◌}
use Rattle.std.proofs.Common.{arith}
use Rattle.std.proofs.lemmas.Bool.Decides.{nat_tests}
use Rattle.std.proofs.lemmas.List.{at_drop_more, at_drop_all}
use Rattle.std.proofs.lemmas.Bool.{false≢true}
use Rattle.matcher.proofs.MemberLemmas.{no_trees}
use Rattle.ere.specs.declared.tree.Ere.{Ere}
use Rattle.ere.specs.Tree.{form, trees_of, Tree, empty, at_start, at_end, cat, alt, repeat, Trees, none, more}
use Rattle.spans.specs.Spans.{Relation, Steps, Spans, SpansEach, SpansSome}
use Rattle.spans.specs.PositionSets.{has_position}
use Rattle.matcher.specs.Private.Moves.{HasNone, IsEither, IsNew, Moves}
use Rattle.ere.specs.Language.{ContainsMatch}
use Rattle.matcher.specs.Private.Rounds.{AnySteps}
use Rattle.spans.proofs.Meaning.{hit_of_spans, spans_of_hit}

pub not_held : {places : List ℕ} → HasNone places → (k : ℕ) → IsTrue (has_position places k) → ⊥
not_held empties k h = false≢true (sym (empties.none k) ∙ h)

-- Any relation moves the empty set to the empty set.
pub moves_none : (relation : Relation) (from to : List ℕ) → HasNone from → HasNone to → Moves relation from to
moves_none relation from to none_from none_to = record {
  sound = λ k h. absurd (not_held none_to k h);
  complete = λ i k h r. absurd (not_held none_from i h);
}

-- a relation that leads nowhere
pub moves_nowhere : (relation : Relation) (from to : List ℕ) → ((i k : ℕ) → relation i k → ⊥) → HasNone to → Moves relation from to
moves_nowhere relation from to never none_to = record {
  sound = λ k h. absurd (not_held none_to k h);
  complete = λ i k h r. absurd (never i k r);
}

-- a relation that leads each position to itself
pub moves_same : (relation : Relation) (places : List ℕ) → ((i : ℕ) → relation i i) → ((i k : ℕ) → relation i k → i ≡ k) → Moves relation places places
moves_same relation places there only = record {
  sound = λ k h. (k, h, there k);
  complete = λ i k h r. subst (λ n. IsTrue (has_position places n)) (only i k r) h;
}

-- a relation that leads one position to itself
moves_kept : (relation : Relation) (at : ℕ) (from to : List ℕ) → relation at at → ((i k : ℕ) → relation i k → (i ≡ at) × (i ≡ k))
    → ((k : ℕ) → has_position to k ≡ (k == at && has_position from k)) → Moves relation from to
moves_kept relation at from to there only each = record {
  sound = λ k h. sound k (k == at) refl (sym (each k) ∙ h);
  complete = λ i k h r. complete i k h (only i k r);
}
  where
    sound : (k : ℕ) (t : Bool) → (k == at) ≡ t → IsTrue (k == at && has_position from k) → (start : ℕ) × IsTrue (has_position from start) × relation start k
    sound k true e h =
        let same : k ≡ at = grind (arith, nat_tests) in
        (k, rw e at h, rw same there)
    sound k false e h = absurd (false≢true (rw e at h))

    complete : (i k : ℕ) → IsTrue (has_position from i) → (i ≡ at) × (i ≡ k) → IsTrue (has_position to k)
    complete i k h e =
        let same : k == at ≡ true = let same_at : k ≡ at = sym e.1 ∙ e.0 in grind (arith, nat_tests) in
        each k ∙ rw same (subst (λ n. IsTrue (has_position from n)) e.1 h)

pub moves_empty : (line : List ℕ) (places : List ℕ) → Moves (Spans line empty) places places
unfolding Spans
moves_empty line places = moves_same (Spans line empty) places (λ i. refl) (λ i k r. r)

pub moves_start : (line : List ℕ) (from to : List ℕ) → ((k : ℕ) → has_position to k ≡ (k == 0 && has_position from k)) → Moves (Spans line at_start) from to
unfolding Spans
moves_start line from to each = moves_kept (Spans line at_start) 0 from to (refl, refl) (λ i k r. r) each

pub moves_end : (line : List ℕ) (from to : List ℕ) → ((k : ℕ) → has_position to k ≡ (k == length line && has_position from k))
    → Moves (Spans line at_end) from to
unfolding Spans
moves_end line from to each = moves_kept (Spans line at_end) (length line) from to (refl, refl) (λ i k r. r) each

pub moves_cat : (line : List ℕ) (members : Trees) (from to : List ℕ) → Moves (SpansEach line members) from to → Moves (Spans line (cat members)) from to
unfolding Spans
moves_cat line members from to h = record { sound = h.sound; complete = h.complete }

pub moves_alt : (line : List ℕ) (members : Trees) (from to : List ℕ) → Moves (SpansSome line members) from to → Moves (Spans line (alt members)) from to
unfolding Spans
moves_alt line members from to h = record { sound = h.sound; complete = h.complete }

-- one relation, and another after it
abbrev pub Then : Relation → Relation → Relation
Then first second from to = (middle : ℕ) × first from middle × second middle to

pub moves_then : (first second : Relation) (from middle to : List ℕ) → Moves first from middle → Moves second middle to → Moves (Then first second) from to
moves_then first second from middle to one two = record {
  sound = λ k h. let b = two.sound k h in let a = one.sound b.0 b.1 in (a.0, a.1, (b.0, a.2, b.2));
  complete = λ i k h r. two.complete r.0 k (one.complete i r.0 h r.1) r.2;
}

pub moves_each_none : (line : List ℕ) (places : List ℕ) → Moves (SpansEach line none) places places
unfolding SpansEach
moves_each_none line places = moves_same (SpansEach line none) places (λ i. refl) (λ i k r. r)

pub moves_each_more : (line : List ℕ) (tree : Tree) (trees : Trees) (from middle to : List ℕ) → Moves (Spans line tree) from middle
    → Moves (SpansEach line trees) middle to → Moves (SpansEach line (more tree trees)) from to
unfolding SpansEach
moves_each_more line tree trees from middle to one two =
    let both = moves_then (Spans line tree) (SpansEach line trees) from middle to one two in
    record { sound = both.sound; complete = both.complete }

pub moves_some_none : (line : List ℕ) (from to : List ℕ) → HasNone to → Moves (SpansSome line none) from to
unfolding SpansSome
moves_some_none line from to none_to = moves_nowhere (SpansSome line none) from to (λ i k r. r) none_to

pub in_left : {left right both : List ℕ} → IsEither left right both → (k : ℕ) → IsTrue (has_position left k) → IsTrue (has_position both k)
in_left either k h = either.each k ∙ rw h refl

pub in_right : {left right both : List ℕ} → IsEither left right both → (k : ℕ) → IsTrue (has_position right k) → IsTrue (has_position both k)
in_right {left} {right} either k h = either.each k ∙ or_right (has_position left k) (has_position right k) h
  where
    or_right : (a b : Bool) → IsTrue b → IsTrue (a || b)
    or_right true b h = refl
    or_right false b h = h

pub in_either : {left right both : List ℕ} → IsEither left right both → (k : ℕ) → IsTrue (has_position both k)
    → IsTrue (has_position left k) ⊎ IsTrue (has_position right k)
in_either {left} {right} either k h = parts (has_position left k) (has_position right k) (sym (either.each k) ∙ h)
  where
    parts : (a b : Bool) → IsTrue (a || b) → IsTrue a ⊎ IsTrue b
    parts true b h = inl refl
    parts false b h = inr h

pub moves_some_more : (line : List ℕ) (tree : Tree) (trees : Trees) (from one rest both : List ℕ) → Moves (Spans line tree) from one
    → Moves (SpansSome line trees) from rest → IsEither rest one both → Moves (SpansSome line (more tree trees)) from both
unfolding SpansSome
moves_some_more line tree trees from one rest both first others either = record {
  sound = λ k h. sound k (in_either either k h);
  complete = λ i k h r. complete i k h r;
}
  where
    sound : (k : ℕ) → IsTrue (has_position rest k) ⊎ IsTrue (has_position one k) → (i : ℕ) × IsTrue (has_position from i) × SpansSome line (more tree trees) i k
    sound k (inl h) = let w = others.sound k h in (w.0, w.1, inr w.2)
    sound k (inr h) = let w = first.sound k h in (w.0, w.1, inl w.2)

    complete : (i k : ℕ) → IsTrue (has_position from i) → Spans line tree i k ⊎ SpansSome line trees i k → IsTrue (has_position both k)
    complete i k h (inl r) = in_right either k (first.complete i k h r)
    complete i k h (inr r) = in_left either k (others.complete i k h r)

-- an exact count of steps
pub moves_zero_steps : (relation : Relation) (places : List ℕ) → Moves (Steps relation 0) places places
unfolding Steps
moves_zero_steps relation places = moves_same (Steps relation 0) places (λ i. refl) (λ i k r. r)

pub moves_more_steps : (relation : Relation) (count next : ℕ) (from middle to : List ℕ) → next ≡ count + 1
    → Moves (Steps relation count) from middle → Moves relation middle to → Moves (Steps relation next) from to
unfolding Steps
moves_more_steps relation count next from middle to e one two =
    let both = moves_then (Steps relation count) relation from middle to one two in
    let is_next : suc count ≡ next = omega arith in
    let moves : Moves (Steps relation (suc count)) from to = record { sound = both.sound; complete = both.complete } in
    subst (λ n. Moves (Steps relation n) from to) is_next moves

pub steps_split : (relation : Relation) (first rest : ℕ) (i k : ℕ) → Steps relation (first + rest) i k → Then (Steps relation first) (Steps relation rest) i k
unfolding Steps
steps_split relation first zero i k h = (k, rw (← first_is) h, refl)
  where
    first_is : first + zero ≡ first
    first_is = omega arith
steps_split relation first (suc rest) i k h =
    let more_is : first + suc rest ≡ suc (first + rest) = omega arith in
    let last : Steps relation (suc (first + rest)) i k = subst (λ n. Steps relation n i k) more_is h in
    let before = steps_split relation first rest i last.0 last.1 in
    (before.0, before.1, (last.0, before.2, last.2))

pub steps_join : (relation : Relation) (first rest : ℕ) (i m k : ℕ) → Steps relation first i m → Steps relation rest m k → Steps relation (first + rest) i k
unfolding Steps
steps_join relation first zero i m k a b =
    let first_is : first ≡ first + zero = omega arith in
    subst (λ n. Steps relation n i k) first_is (subst (λ n. Steps relation first i n) b a)
steps_join relation first (suc rest) i m k a b =
    let more_is : suc (first + rest) ≡ first + suc rest = omega arith in
    let moved : Steps relation (suc (first + rest)) i k = (b.0, steps_join relation first rest i m b.0 a b.1, b.2) in
    subst (λ n. Steps relation n i k) more_is moved

-- Once no position is left, no further round brings one back.
pub moves_no_more : (relation : Relation) (done count : ℕ) (from to : List ℕ) → done ≤ count → Moves (Steps relation done) from to
    → HasNone to → Moves (Steps relation count) from to
moves_no_more relation done count from to less moves none_to = record {
  sound = λ k h. absurd (not_held none_to k h);
  complete = λ i k h r.
      let sum : count ≡ done + (count - done) = omega arith in
      let parts = steps_split relation done (count - done) i k (subst (λ n. Steps relation n i k) sum r) in
      absurd (not_held none_to parts.0 (moves.complete i parts.0 h parts.1));
}

-- What rounds have found: it comes from the start by an allowed count of steps and, unless it is fresh, leads only to what is found.
pub record IsWidened (relation : Relation) (allowed : ℕ → Type 0) (start found fresh : List ℕ) : Type 0 where
  pub sound : (k : ℕ) → IsTrue (has_position found k) → (i : ℕ) × (count : ℕ) × IsTrue (has_position start i) × allowed count × Steps relation count i k
  pub begins : (k : ℕ) → IsTrue (has_position start k) → IsTrue (has_position found k)
  pub among : (k : ℕ) → IsTrue (has_position fresh k) → IsTrue (has_position found k)
  pub closed : (k to : ℕ) → IsTrue (has_position found k) → relation k to → IsTrue (has_position fresh k) ⊎ IsTrue (has_position found to)

pub widened_first : (relation : Relation) (allowed : ℕ → Type 0) (start : List ℕ) → allowed 0 → IsWidened relation allowed start start start
unfolding Steps
widened_first relation allowed start none_allowed = record {
  sound = λ k h. (k, 0, h, none_allowed, refl);
  begins = λ k h. h;
  among = λ k h. h;
  closed = λ k to h r. inl h;
}

pub decide : (b : Bool) → IsTrue b ⊎ (b ≡ false)
decide true = inl refl
decide false = inr refl

pub widened_more : (relation : Relation) (allowed allowed_next : ℕ → Type 0) (start found fresh next found_next fresh_next : List ℕ)
    → IsWidened relation allowed start found fresh → Moves relation fresh next → IsEither found next found_next
    → IsNew next found fresh_next → ((count : ℕ) → allowed count → allowed_next count)
    → ((count : ℕ) → allowed count → allowed_next (suc count)) → IsWidened relation allowed_next start found_next fresh_next
unfolding Steps
widened_more relation allowed allowed_next start found fresh next found_next fresh_next h moves either new keeps grows = record {
  sound = λ k held. sound k (in_either either k held);
  begins = λ k held. in_left either k (h.begins k held);
  among = λ k held. in_right either k (was_next k held);
  closed = λ k to held r. closed k to (decide (has_position found k)) (in_either either k held) r;
}
  where
    and_left : (a b : Bool) → IsTrue (a && b) → IsTrue a
    and_left true b e = refl
    and_left false b e = e

    was_next : (k : ℕ) → IsTrue (has_position fresh_next k) → IsTrue (has_position next k)
    was_next k held = and_left (has_position next k) (not (has_position found k)) (sym (new.each k) ∙ held)

    sound : (k : ℕ) → IsTrue (has_position found k) ⊎ IsTrue (has_position next k)
        → (i : ℕ) × (count : ℕ) × IsTrue (has_position start i) × allowed_next count × Steps relation count i k
    sound k (inl held) = let w = h.sound k held in (w.0, w.1, w.2, keeps w.1 w.3, w.4)
    sound k (inr held) =
        let m = moves.sound k held in
        let w = h.sound m.0 (h.among m.0 m.1) in
        (w.0, suc w.1, w.2, grows w.1 w.3, (m.0, w.4, m.2))

    from_old : (k to : ℕ) → relation k to → IsTrue (has_position fresh k) ⊎ IsTrue (has_position found to) → IsTrue (has_position found_next to)
    from_old k to r (inl held) = in_right either to (moves.complete k to held r)
    from_old k to r (inr held) = in_left either to held

    closed : (k to : ℕ) → IsTrue (has_position found k) ⊎ (has_position found k ≡ false)
        → IsTrue (has_position found k) ⊎ IsTrue (has_position next k) → relation k to
        → IsTrue (has_position fresh_next k) ⊎ IsTrue (has_position found_next to)
    closed k to (inl held) x r = inr (from_old k to r (h.closed k to held r))
    closed k to (inr absent) (inl held) r = absurd (false≢true (sym absent ∙ held))
    closed k to (inr absent) (inr held) r = inl (new.each k ∙ rw (held, absent) refl)

-- With nothing fresh, all that any count of steps leads to is found.
widened_all : (relation : Relation) (allowed : ℕ → Type 0) (start found fresh : List ℕ) → IsWidened relation allowed start found fresh
    → HasNone fresh → (count i k : ℕ) → IsTrue (has_position start i) → Steps relation count i k → IsTrue (has_position found k)
unfolding Steps
widened_all relation allowed start found fresh h none_fresh zero i k held r = subst (λ n. IsTrue (has_position found n)) r (h.begins i held)
widened_all relation allowed start found fresh h none_fresh (suc count) i k held r =
    next (h.closed r.0 k (widened_all relation allowed start found fresh h none_fresh count i r.0 held r.1) r.2)
  where
    next : IsTrue (has_position fresh r.0) ⊎ IsTrue (has_position found k) → IsTrue (has_position found k)
    next (inl x) = absurd (not_held none_fresh r.0 x)
    next (inr x) = x

-- by at most this many steps
abbrev pub FewSteps : Relation → ℕ → Relation
FewSteps relation most from to = (words : ℕ) × (words ≤ most) × Steps relation words from to

-- After this many rounds, exactly what at most this many steps lead to is found.
pub record IsWidenedBy (relation : Relation) (rounds : ℕ) (start found fresh : List ℕ) : Type 0 where
  pub widened : IsWidened relation (λ count. count ≤ rounds) start found fresh
  pub reaches : (count i k : ℕ) → count ≤ rounds → IsTrue (has_position start i) → Steps relation count i k → IsTrue (has_position found k)

pub widened_by_none : (relation : Relation) (start : List ℕ) → IsWidenedBy relation 0 start start start
unfolding Steps
widened_by_none relation start = record {
  widened = widened_first relation (λ count. count ≤ 0) start (omega arith);
  reaches = reaches;
}
  where
    reaches : (count i k : ℕ) → count ≤ 0 → IsTrue (has_position start i) → Steps relation count i k → IsTrue (has_position start k)
    reaches zero i k less held r = subst (λ n. IsTrue (has_position start n)) r held
    reaches (suc count) i k less held r = absurd (omega arith)

pub widened_by_more : (relation : Relation) (rounds rounds_next : ℕ) (start found fresh next found_next fresh_next : List ℕ)
    → rounds_next ≡ rounds + 1 → IsWidenedBy relation rounds start found fresh → Moves relation fresh next → IsEither found next found_next
    → IsNew next found fresh_next → IsWidenedBy relation rounds_next start found_next fresh_next
unfolding Steps
widened_by_more relation rounds rounds_next start found fresh next found_next fresh_next e h moves either new = record {
  widened =
      widened_more relation (λ count. count ≤ rounds) (λ count. count ≤ rounds_next) start found fresh next found_next fresh_next h.widened
      moves either new (λ count less. omega arith) (λ count less. omega arith);
  reaches = reaches;
}
  where
    from_old : (k to : ℕ) → relation k to → IsTrue (has_position fresh k) ⊎ IsTrue (has_position found to) → IsTrue (has_position found_next to)
    from_old k to r (inl held) = in_right either to (moves.complete k to held r)
    from_old k to r (inr held) = in_left either to held

    reaches : (count i k : ℕ) → count ≤ rounds_next → IsTrue (has_position start i) → Steps relation count i k → IsTrue (has_position found_next k)
    reaches zero i k less held r = in_left either k (h.reaches zero i k (omega arith) held r)
    reaches (suc count) i k less held r =
        let before = h.reaches count i r.0 (omega arith) held r.1 in
        from_old r.0 k r.2 (h.widened.closed r.0 k before r.2)

pub moves_few : (relation : Relation) (rounds : ℕ) (start found fresh : List ℕ) → IsWidenedBy relation rounds start found fresh
    → Moves (FewSteps relation rounds) start found
moves_few relation rounds start found fresh h = record {
  sound = λ k held. let w = h.widened.sound k held in (w.0, w.2, (w.1, w.3, w.4));
  complete = λ i k held r. h.reaches r.0 i k r.1 held r.2;
}

-- With nothing fresh, further rounds find nothing more.
pub moves_few_closed : (relation : Relation) (rounds most : ℕ) (start found fresh : List ℕ) → rounds ≤ most
    → IsWidenedBy relation rounds start found fresh → HasNone fresh → Moves (FewSteps relation most) start found
moves_few_closed relation rounds most start found fresh less h none_fresh = record {
  sound = λ k held. let w = h.widened.sound k held in (w.0, w.2, (w.1, omega (arith, w.3), w.4));
  complete = λ i k held r. widened_all relation (λ count. count ≤ rounds) start found fresh h.widened none_fresh r.0 i k held r.2;
}

steps_stay : (relation : Relation) (count i : ℕ) → ((j : ℕ) → relation j j) → Steps relation count i i
unfolding Steps
steps_stay relation zero i stays = refl
steps_stay relation (suc count) i stays = (i, steps_stay relation count i stays, stays i)

-- If a step can stay where it is, at most this many steps lead to the same as exactly this many.
pub moves_exactly : (relation : Relation) (count : ℕ) (from to : List ℕ) → ((i : ℕ) → relation i i)
    → Moves (FewSteps relation count) from to → Moves (Steps relation count) from to
moves_exactly relation count from to stays moves = record {
  sound = λ k h.
      let few = moves.sound k h in
      let words = few.2.0 in
      let sum : words + (count - words) ≡ count = let less = few.2.1 in omega arith in (
        few.0,
        few.1,
        subst (λ n. Steps relation n few.0 k) sum
            (steps_join relation words (count - words) few.0 k k few.2.2 (steps_stay relation (count - words) k stays)),
      );
  complete = λ i k h r. moves.complete i k h (count, omega arith, r);
}

-- repeats with a greatest count
pub moves_impossible : (line : List ℕ) (body : Tree) (least most : ℕ) (from to : List ℕ) → most < least → HasNone to
    → Moves (Spans line (repeat body least (Some most))) from to
unfolding Spans
moves_impossible line body least most from to less none_to =
    moves_nowhere (Spans line (repeat body least (Some most))) from to (λ i k r. omega (arith, r.1, r.2)) none_to

pub moves_between : (line : List ℕ) (body : Tree) (least most rest : ℕ) (from middle to : List ℕ) → least + rest ≡ most
    → Moves (Steps (Spans line body) least) from middle → Moves (FewSteps (Spans line body) rest) middle to
    → Moves (Spans line (repeat body least (Some most))) from to
unfolding Spans
moves_between line body least most rest from middle to e one two =
    let both = moves_then (Steps (Spans line body) least) (FewSteps (Spans line body) rest) from middle to one two in
    record {
      sound = λ k h.
          let w = both.sound k h in
          let m = w.2 in
          (w.0, w.1, (least + m.2.0, omega arith, omega (arith, m.2.1), steps_join (Spans line body) least m.2.0 w.0 m.0 k m.1 m.2.2));
      complete = λ i k h r.
          let rest_of : r.0 ≡ least + (r.0 - least) = omega (arith, r.1) in
          let parts = steps_split (Spans line body) least (r.0 - least) i k (subst (λ n. Steps (Spans line body) n i k) rest_of r.3) in
          both.complete i k h (parts.0, parts.1, (r.0 - least, omega (arith, r.2), parts.2));
    }

pub moves_at_least : (line : List ℕ) (body : Tree) (least : ℕ) (from middle to : List ℕ) → Moves (Steps (Spans line body) least) from middle
    → Moves (AnySteps (Spans line body)) middle to → Moves (Spans line (repeat body least None)) from to
unfolding Spans
moves_at_least line body least from middle to one two =
    let both = moves_then (Steps (Spans line body) least) (AnySteps (Spans line body)) from middle to one two in
    record {
      sound = λ k h.
          let w = both.sound k h in
          let m = w.2 in
          (w.0, w.1, (least + m.2.0, omega arith, tt, steps_join (Spans line body) least m.2.0 w.0 m.0 k m.1 m.2.1));
      complete = λ i k h r.
          let rest_of : r.0 ≡ least + (r.0 - least) = omega (arith, r.1) in
          let parts = steps_split (Spans line body) least (r.0 - least) i k (subst (λ n. Steps (Spans line body) n i k) rest_of r.3) in
          both.complete i k h (parts.0, parts.1, (r.0 - least, parts.2));
    }

-- Two steps are one.
abbrev pub IsTransitive : Relation → Type 0
IsTransitive relation = (start middle end : ℕ) → relation start middle → relation middle end → relation start end

-- One step or more of a transitive relation are one step.
one_step : (relation : Relation) → IsTransitive relation → (count i k : ℕ) → Steps relation (suc count) i k → relation i k
unfolding Steps
one_step relation joins zero i k h = subst (λ n. relation n k) (sym h.1) h.2
one_step relation joins (suc count) i k h = joins i h.0 k (one_step relation joins count i h.0 h.1) h.2

-- If the body is transitive, words after the least count add nothing.
pub moves_joined : (line : List ℕ) (body : Tree) (least : ℕ) (from to : List ℕ) → IsTransitive (Spans line body) → 0 < least
    → Moves (Steps (Spans line body) least) from to → Moves (Spans line (repeat body least None)) from to
unfolding Spans Steps
moves_joined line body zero from to joins some moves = absurd (omega arith)
moves_joined line body (suc least) from to joins some moves = record {
  sound = λ k h. let w = moves.sound k h in (w.0, w.1, (suc least, omega arith, tt, w.2));
  complete = λ i k h r.
      let rest_of : r.0 ≡ least + suc (r.0 - suc least) = omega (arith, r.1) in
      let parts = steps_split (Spans line body) least (suc (r.0 - suc least)) i k (subst (λ n. Steps (Spans line body) n i k) rest_of r.3) in
      moves.complete i k h (parts.0, parts.1, one_step (Spans line body) joins (r.0 - suc least) parts.0 k parts.2);
}

pub moves_optional : (line : List ℕ) (body : Tree) (from middle to : List ℕ) → IsTransitive (Spans line body)
    → Moves (Steps (Spans line body) 0) from middle → Moves (FewSteps (Spans line body) 1) middle to
    → Moves (Spans line (repeat body 0 None)) from to
unfolding Spans Steps
moves_optional line body from middle to joins one two =
    let both = moves_then (Steps (Spans line body) 0) (FewSteps (Spans line body) 1) from middle to one two in
    record {
      sound = λ k h.
          let w = both.sound k h in
          let m = w.2 in
          (w.0, w.1, (0 + m.2.0, omega arith, tt, steps_join (Spans line body) 0 m.2.0 w.0 m.0 k m.1 m.2.2));
      complete = λ i k h r. both.complete i k h (i, refl, few i k r.0 r.3);
    }
  where
    few : (i k count : ℕ) → Steps (Spans line body) count i k → FewSteps (Spans line body) 1 i k
    few i k zero r = (0, omega arith, r)
    few i k (suc count) r = (1, omega arith, (i, refl, one_step (Spans line body) joins count i k r))

pub repeats_join : (line : List ℕ) (body : Tree) (least : ℕ) → IsTransitive (Spans line (repeat body least None))
unfolding Spans
repeats_join line body least i m k a b = (a.0 + b.0, omega (arith, a.1), tt, steps_join (Spans line body) a.0 b.0 i m k a.3 b.3)

pub joins_if : (line : List ℕ) (body tree : Tree) (least : ℕ) (greatest : Option ℕ) → tree ≡ repeat body least greatest → (absent : Bool)
    → is_some greatest ≡ not absent → IsTrue absent → IsTransitive (Spans line tree)
joins_if line body tree least None e absent a h = subst (λ t. IsTransitive (Spans line t)) (sym e) (repeats_join line body least)
joins_if line body tree least (Some most) e true a h = absurd (false≢true (sym a))
joins_if line body tree least (Some most) e false a h = absurd (false≢true h)

-- The members from the i-th on are the i-th and those after it.
pub trees_from : (members : List Ere) (i : ℕ) (member : Ere) → i < length members → member ≡ get_or members i member
    → trees_of (map form (drop i members)) ≡ more (form member) (trees_of (map form (drop (i + 1) members)))
trees_from members i member inside e =
    at_drop_more (λ rest. trees_of (map form rest)) members i member inside
    ∙ ap (λ m. more (form m) (trees_of (map form (drop (i + 1) members)))) (sym e)

pub moves_members : (line : List ℕ) (members : List Ere) (i : ℕ) (member : Ere) (from middle to : List ℕ) → i < length members
    → member ≡ get_or members i member → Moves (Spans line (form member)) from middle
    → Moves (SpansEach line (trees_of (map form (drop (i + 1) members)))) middle to
    → Moves (SpansEach line (trees_of (map form (drop i members)))) from to
moves_members line members i member from middle to inside e one rest =
    subst (λ trees. Moves (SpansEach line trees) from to) (sym (trees_from members i member inside e))
    (moves_each_more line (form member) (trees_of (map form (drop (i + 1) members))) from middle to one rest)

pub moves_no_members : (line : List ℕ) (members : List Ere) (i : ℕ) (at : List ℕ) → length members ≤ i
    → Moves (SpansEach line (trees_of (map form (drop i members)))) at at
moves_no_members line members i at past = subst (λ trees. Moves (SpansEach line trees) at at) (sym (no_trees members i past)) (moves_each_none line at)

pub moves_by_member : (line : List ℕ) (members : List Ere) (i : ℕ) (member : Ere) (from one rest both : List ℕ) → i < length members
    → member ≡ get_or members i member → Moves (Spans line (form member)) from one
    → Moves (SpansSome line (trees_of (map form (drop (i + 1) members)))) from rest → IsEither rest one both
    → Moves (SpansSome line (trees_of (map form (drop i members)))) from both
moves_by_member line members i member from one rest both inside e first others either =
    subst (λ trees. Moves (SpansSome line trees) from both) (sym (trees_from members i member inside e))
    (moves_some_more line (form member) (trees_of (map form (drop (i + 1) members))) from one rest both first others either)

pub moves_by_no_member : (line : List ℕ) (members : List Ere) (i : ℕ) (from to : List ℕ) → length members ≤ i → HasNone to
    → Moves (SpansSome line (trees_of (map form (drop i members)))) from to
moves_by_no_member line members i from to past none_to =
    subst (λ trees. Moves (SpansSome line trees) from to) (sym (no_trees members i past)) (moves_some_none line from to none_to)

-- A walk from all positions of a line leaves a position exactly if the line contains a match.
module _ (tree : Tree) (line : List ℕ) (all left : List ℕ) (every : (k : ℕ) → has_position all k ≡ nat_le k (length line))
    (moves : Moves (Spans line tree) all left) where
  pub hit_of_position : (k : ℕ) → IsTrue (has_position left k) → ContainsMatch tree line
  hit_of_position k h =
      let w = moves.sound k h in
      let test : IsTrue (nat_le w.0 (length line)) = sym (every w.0) ∙ w.1 in
      hit_of_spans line tree w.0 k (grind (arith, nat_tests)) w.2

  pub position_of_hit : ContainsMatch tree line → (k : ℕ) × IsTrue (has_position left k)
  position_of_hit hit =
      let w = spans_of_hit line tree hit in
      let inside : w.0 ≤ length line = w.2 in
      (w.1, moves.complete w.0 w.1 (every w.0 ∙ grind (arith, nat_tests)) w.3)

  -- the answer, from whether the set that is left is empty
  pub is_hit : (empty : Bool) → MatchBool empty (HasNone left) ((k : ℕ) × IsTrue (has_position left k)) → IsTrue (not empty) ↔ ContainsMatch tree line
  is_hit true is_none = (λ h. absurd (false≢true h), λ hit. let w = position_of_hit hit in absurd (not_held is_none w.0 w.1))
  is_hit false some = (λ _. hit_of_position some.0 some.1, λ _. refl)

-- If a step changes nothing, neither do further steps.
pub moves_still : (relation : Relation) (taken count : ℕ) (from at : List ℕ) → taken ≤ count → Moves (Steps relation taken) from at → Moves relation at at
    → Moves (Steps relation count) from at
moves_still relation taken count from at low moves same =
    let all : taken + (count - taken) ≡ count = omega arith in
    subst (λ n. Moves (Steps relation n) from at) all (go (count - taken))
  where
    go : (rest : ℕ) → Moves (Steps relation (taken + rest)) from at
    go zero = let none : taken ≡ taken + zero = omega arith in subst (λ n. Moves (Steps relation n) from at) none moves
    go (suc rest) = moves_more_steps relation (taken + rest) (taken + suc rest) from at at (omega arith) (go rest) same
