-- The words of a row of places are those of the node that is made of it.
use Rattle.std.proofs.Common.{◌&&◌, ◌≡◌, ℕ, zero, suc, ◌+◌, ◌*◌, ◌<◌, ◌≤◌, Bool, true, false, if◌then◌else◌, IsTrue, List, [], ◌∷◌, length, slice_index, ◌⊎◌, ◌↔◌, inl, inr, refl, sym, ap, subst, ◌∙◌, arith}
use Rattle.std.specs.List.{list_all}
use Rattle.ere.specs.Bits.{has_bit}
use Rattle.ere.specs.ByteSet.{has}
use Rattle.spans.specs.Spans.{Relation}
use Rattle.spans.proofs.Bits.{and_all, false≢true}
use Rattle.simulation.specs.declared.node.RunLayout.{RunLayout}
use Rattle.simulation.specs.declared.run.Mark.TheVariants.{Has, Optional, Repeated}
use Rattle.simulation.specs.declared.run.RowSet.{RowSet}
use Rattle.simulation.specs.Nodes.{Shape, run, loop, is_gap, Chain, Reads, Row, Row as rows, IsRead}
use Rattle.simulation.specs.Nodes.{set as one_of}
use Rattle.simulation.specs.Pending.{size_of, words_for, IsRun, IsWhole}
use Rattle.simulation.specs.Packing.{everywhere, nowhere}
use Rattle.simulation.specs.Private.Rows.{is_marked, Marks, IsMarked, AreMasks, IsOfPlace, OfRow, IsRunOf, ReadsRow}
use Rattle.simulation.proofs.Tests.{and_left, and_right, and_both}
use Rattle.simulation.proofs.Forward.{chain_forward, chain_on, reads_forward, stays}
use Rattle.simulation.proofs.Packing.{gap_everywhere, gap_nowhere}
use Rattle.simulation.proofs.Masks.{each_marks, first_mark, marked_spread, marks_alike}

chain_as : (one other : Relation) → ((x y : ℕ) → one x y → other x y) → (count from to : ℕ) → Chain one count from to → Chain other count from to
unfolding Chain
chain_as one other into zero from to h = h
chain_as one other into (suc count) from to (middle, r, rest) = (middle, into from middle r, chain_as one other into count middle to rest)

-- One byte of the set of a run that has so many sets after it.
abbrev ReadsOne : List ℕ → List ℕ → RunLayout → ℕ → Relation
ReadsOne line masks places left from to = (to ≡ suc from) × IsRead line masks places left from

-- More bytes of a set that was read last.
abbrev ReadsAgain : List ℕ → List ℕ → RunLayout → ℕ → Relation
ReadsAgain line masks places left from to =
    (count : ℕ) × Chain (ReadsOne line masks places left) count from to × ((count ≡ 0) ⊎ IsTrue (has_bit places.repeated (left * places.stride)))

-- The last sets of a run are those of a row.
record IsFilled (masks : List ℕ) (places : RunLayout) (row : List RowSet) : Type 0 where
  sets : (byte : ℕ) → Marks (slice_index masks byte) places.stride (is_marked (Has byte)) row
  optional : Marks places.optional places.stride (is_marked Optional) row
  repeated : Marks places.repeated places.stride (is_marked Repeated) row

rest_filled : (masks : List ℕ) (places : RunLayout) (place : RowSet) (row : List RowSet) → IsFilled masks places (place ∷ row) → IsFilled masks places row
rest_filled masks places place row filled =
    record { sets = λ byte. (filled.sets byte).1; optional = filled.optional.1; repeated = filled.repeated.1 }

-- The set with so many sets after it is that of a place.
record IsSetOf (line masks : List ℕ) (places : RunLayout) (place : RowSet) (left : ℕ) : Type 0 where
  set : (byte : ℕ) → has_bit (slice_index masks byte) (left * places.stride) ≡ has place.members byte
  optional : has_bit places.optional (left * places.stride) ≡ place.optional
  repeated : has_bit places.repeated (left * places.stride) ≡ place.repeated
  read : (from to : ℕ) → ReadsOne line masks places left from to → Reads line (one_of place.members) from to

first_set : (line masks : List ℕ) (places : RunLayout) → 0 < places.stride → (place : RowSet) (row : List RowSet) (left : ℕ) → left ≡ length row
    → IsFilled masks places (place ∷ row) → IsSetOf line masks places place left
unfolding Reads
first_set line masks places some place row left last filled = subst (IsSetOf line masks places place) (sym last) (record {
  set = set;
  optional = first_mark places.optional places.stride (is_marked Optional) row place some filled.optional;
  repeated = first_mark places.repeated places.stride (is_marked Repeated) row place some filled.repeated;
  read = λ from to one. (one.0, one.1.0, sym (set (slice_index line from)) ∙ one.1.1);
})
  where
    set : (byte : ℕ) → has_bit (slice_index masks byte) (length row * places.stride) ≡ has place.members byte
    set byte = first_mark (slice_index masks byte) places.stride (is_marked (Has byte)) row place some (filled.sets byte)

-- Bytes that are read again are bytes of the place.
of_again : (line masks : List ℕ) (places : RunLayout) (place : RowSet) (left : ℕ) → IsSetOf line masks places place left → (from middle : ℕ)
    → (again : ReadsAgain line masks places left from middle)
    → Chain (Reads line (one_of place.members)) again.0 from middle × ((again.0 ≡ 0) ⊎ IsTrue place.repeated)
of_again line masks places place left first from middle (count, chain, few) = (
  chain_as (ReadsOne line masks places left) (Reads line (one_of place.members)) first.read count from middle chain,
  elim few [ inl none ↦ inl none | inr p ↦ inr (sym first.repeated ∙ p) ],
)

to_places : (line masks : List ℕ) (places : RunLayout) → 0 < places.stride → (row : List RowSet) → IsFilled masks places row → (left from to : ℕ)
    → left ≡ length row → Row line masks places left from to
    → (middle : ℕ) × ReadsAgain line masks places left from middle × OfRow row line middle to
unfolding Chain
to_places line masks places some [] filled zero from to all (rows.done e) = (from, (0, refl, inl refl), e)
to_places line masks places some [] filled (suc left) from to all (rows.skips o r) = absurd (omega arith)
to_places line masks places some [] filled (suc left) from to all (rows.reads i r) = absurd (omega arith)
to_places line masks places some (place ∷ row) filled zero from to all (rows.done e) = absurd (omega arith)
to_places line masks places some (place ∷ row) filled (suc left) from to all (rows.skips o r) =
    let last : left ≡ length row = omega arith in
    let first = first_set line masks places some place row left last filled in
    let rest = to_places line masks places some row (rest_filled masks places place row filled) left from to last r in
    let more = of_again line masks places place left first from rest.0 rest.1 in
    let one : IsOfPlace place line from rest.0 = record {
      count = rest.1.0;
      chain = more.0;
      enough = inl (sym first.optional ∙ o);
      few = elim more.1 [ inl none ↦ inl (omega arith) | inr p ↦ inr p ];
    } in
    (from, (0, refl, inl refl), (rest.0, one, rest.2))
to_places line masks places some (place ∷ row) filled (suc left) from to all (rows.reads i r) =
    let last : left ≡ length row = omega arith in
    let first = first_set line masks places some place row left last filled in
    let rest = to_places line masks places some row (rest_filled masks places place row filled) left (suc from) to last r in
    let more = of_again line masks places place left first (suc from) rest.0 rest.1 in
    let one : IsOfPlace place line from rest.0 = record {
      count = suc rest.1.0;
      chain = (suc from, first.read from (suc from) (refl, i), more.0);
      enough = inr (omega arith);
      few = elim more.1 [ inl none ↦ inl (omega arith) | inr p ↦ inr p ];
    } in
    (from, (0, refl, inl refl), (rest.0, one, rest.2))
to_places line masks places some row filled left from to all (rows.again p i r) =
    let rest = to_places line masks places some row filled left (suc from) to all r in
    (rest.0, (suc rest.1.0, (suc from, (refl, i), rest.1.1), inr p), rest.2)

-- Bytes of a place before a row.
of_place : (line masks : List ℕ) (places : RunLayout) (place : RowSet) (left : ℕ) → IsSetOf line masks places place left → (from middle to : ℕ)
    → IsOfPlace place line from middle → Row line masks places left middle to → Row line masks places (suc left) from to
unfolding Chain Reads
of_place line masks places place left first from middle to one rest = go one.count one.chain one.enough one.few
  where
    again : (count x : ℕ) → Chain (Reads line (one_of place.members)) count x middle → (count ≡ 0) ⊎ IsTrue place.repeated → Row line masks places left x to
    again zero x e few = subst (λ n. Row line masks places left n to) (sym e) rest
    again (suc count) x (next, r, chain) (inl none) = absurd (omega arith)
    again (suc count) x (next, r, chain) (inr p) =
        rows.again (first.repeated ∙ p) (r.1, first.set (slice_index line x) ∙ r.2) (subst (λ n. Row line masks places left n to) r.0 (again count next chain (inr p)))

    go : (count : ℕ) → Chain (Reads line (one_of place.members)) count from middle → IsTrue place.optional ⊎ (0 < count) → (count ≤ 1) ⊎ IsTrue place.repeated
        → Row line masks places (suc left) from to
    go zero e (inl o) few = rows.skips (first.optional ∙ o) (subst (λ n. Row line masks places left n to) (sym e) rest)
    go zero e (inr some) few = absurd (omega arith)
    go (suc count) (next, r, chain) enough few =
        rows.reads (r.1, first.set (slice_index line from) ∙ r.2)
        (subst (λ n. Row line masks places left n to) r.0 (again count next chain (elim few [ inl one ↦ inl (omega arith) | inr p ↦ inr p ])))

of_places : (line masks : List ℕ) (places : RunLayout) → 0 < places.stride → (row : List RowSet) → IsFilled masks places row → (from to : ℕ)
    → OfRow row line from to → Row line masks places (length row) from to
of_places line masks places some [] filled from to e = rows.done e
of_places line masks places some (place ∷ row) filled from to (middle, one, others) =
    of_place line masks places place (length row) (first_set line masks places some place row (length row) refl filled) from middle to one
    (of_places line masks places some row (rest_filled masks places place row filled) middle to others)

-- A run whose masks and words mark the places of a row.
pub run_is : (masks : List ℕ) (places : RunLayout) (row : List RowSet) (node : Shape) (copies : ℕ) → node ≡ run masks places → 0 < copies
    → length row * copies + copies ≤ 64 → places.stride ≡ copies → suc places.after ≡ length row → AreMasks masks copies row
    → IsMarked places.optional copies (is_marked Optional) row → IsMarked places.repeated copies (is_marked Repeated) row → IsRunOf row node copies
unfolding Reads IsWhole size_of Chain
run_is masks places row node copies is some fits apart all made optional repeated =
    subst (λ p. IsRunOf row p copies) (sym is) (record { reads = λ line from to. (there line from to, back line from to); whole = whole; sized = refl })
  where
    whole : IsRun masks places copies
    whole = record {
      apart = apart;
      some = some;
      fits = let long : suc places.after * copies ≡ length row * copies = ap (λ n. n * copies) all in omega arith;
      all = made.all;
      same = λ byte left copy within inside.
          marks_alike (slice_index masks byte) copies (is_marked (Has byte)) row some (each_marks masks copies row made byte) left copy (omega arith) inside;
      optional = marked_spread places.optional copies places.after (is_marked Optional) row some all optional;
      repeated = marked_spread places.repeated copies places.after (is_marked Repeated) row some all repeated;
    }

    by_stride : (word : ℕ) (test : RowSet → Bool) → Marks word copies test row → Marks word places.stride test row
    by_stride word test marks = subst (λ n. Marks word n test row) (sym apart) marks

    filled : IsFilled masks places row
    filled = record {
      sets = λ byte. by_stride (slice_index masks byte) (is_marked (Has byte)) (each_marks masks copies row made byte);
      optional = by_stride places.optional (is_marked Optional) optional.marks;
      repeated = by_stride places.repeated (is_marked Repeated) repeated.marks;
    }

    strided : 0 < places.stride
    strided = omega arith

    -- Above the first set there is nothing to read again.
    no_more : IsTrue (has_bit places.repeated (length row * places.stride)) → ⊥
    no_more h =
        let same : length row * places.stride ≡ length row * copies = ap (λ n. length row * n) apart in
        false≢true (sym (repeated.none (length row * copies) (omega arith) (omega arith)) ∙ ap (has_bit places.repeated) (sym same) ∙ h)

    there : (line : List ℕ) (from to : ℕ) → (from < to) × Row line masks places (suc places.after) from to → (from < to) × OfRow row line from to
    there line from to (on, r) =
        let h = to_places line masks places strided row filled (length row) from to refl (subst (λ n. Row line masks places n from to) all r) in
        (on, subst (λ n. OfRow row line n to) (sym (stay h.1.0 h.1.1 h.1.2)) h.2)
      where
        stay : {middle : ℕ} (count : ℕ) → Chain (ReadsOne line masks places (length row)) count from middle
            → (count ≡ 0) ⊎ IsTrue (has_bit places.repeated (length row * places.stride)) → from ≡ middle
        stay zero e few = e
        stay (suc count) chain (inl none) = absurd (omega arith)
        stay (suc count) chain (inr p) = absurd (no_more p)

    back : (line : List ℕ) (from to : ℕ) → (from < to) × OfRow row line from to → (from < to) × Row line masks places (suc places.after) from to
    back line from to (on, h) = (on, subst (λ n. Row line masks places n from to) (sym all) (of_places line masks places strided row filled from to h))

-- A set is a place that is not repeated.
set_reads : (place : RowSet) → place.repeated ≡ false → (line : List ℕ) (from to : ℕ)
    → Reads line (one_of place.members) from to ↔ (from < to) × IsOfPlace place line from to
unfolding Chain
set_reads place once line from to = (
  λ r. (reads_forward line (one_of place.members) from to r, record { count = 1; chain = (to, r, refl); enough = inr (omega arith); few = inl (omega arith) }),
  λ h. back h.1.count h.1.chain h.1.few h.0,
)
  where
    back : (count : ℕ) → Chain (Reads line (one_of place.members)) count from to → (count ≤ 1) ⊎ IsTrue place.repeated → from < to
        → Reads line (one_of place.members) from to
    back zero e few on = absurd (omega arith)
    back (suc zero) (next, r, e) few on = subst (λ n. Reads line (one_of place.members) from n) e r
    back (suc (suc count)) chain (inl few) on = absurd (omega arith)
    back (suc (suc count)) chain (inr p) on = absurd (false≢true (sym once ∙ p))

-- A loop of a set is one that is repeated.
loop_reads : (place : RowSet) (body : Shape) (own : ℕ) → place.repeated ≡ true → body ≡ one_of place.members → (line : List ℕ) (from to : ℕ)
    → Reads line (loop body own) from to ↔ (from < to) × IsOfPlace place line from to
unfolding Chain Reads
loop_reads place body own repeated is line from to = (
  λ r. (
    chain_forward (Reads line body) (λ x y one. reads_forward line body x y one) r.0 from to r.1,
    record { count = suc r.0; chain = subst (λ b. Chain (Reads line b) (suc r.0) from to) is r.1; enough = inr (omega arith); few = inr repeated },
  ),
  λ h. back h.1.count h.1.chain h.0,
)
  where
    back : (count : ℕ) → Chain (Reads line (one_of place.members)) count from to → from < to → (more : ℕ) × Chain (Reads line body) (suc more) from to
    back zero e on = absurd (omega arith)
    back (suc count) chain on = (count, subst (λ b. Chain (Reads line b) (suc count) from to) (sym is) chain)

one_of_row : (place : RowSet) (node : Shape) → ((line : List ℕ) (from to : ℕ) → Reads line node from to ↔ (from < to) × IsOfPlace place line from to)
    → ReadsRow (place ∷ []) node
one_of_row place node reads line from to = (
  λ r. (let h = (reads line from to).0 r in (h.0, (to, h.1, refl))),
  λ h. (reads line from to).1 (h.0, subst (λ n. IsOfPlace place line from n) h.1.2 h.1.1),
)

pub gaps_of_one : (optional : Bool) → (if optional then everywhere else nowhere) ≡ (if optional && true then everywhere else nowhere)
gaps_of_one optional = ap (λ t. if t then everywhere else nowhere) (sym (and_all optional))

-- One place as a node of its own.
pub set_row : (place : RowSet) (node : Shape) → node ≡ one_of place.members → place.repeated ≡ false → ReadsRow (place ∷ []) node
set_row place node is once = subst (ReadsRow (place ∷ [])) (sym is) (one_of_row place (one_of place.members) (set_reads place once))

pub loop_row : (place : RowSet) (node body : Shape) (own : ℕ) → node ≡ loop body own → body ≡ one_of place.members → place.repeated ≡ true
    → ReadsRow (place ∷ []) node
loop_row place node body own is body_is repeated =
    subst (ReadsRow (place ∷ [])) (sym is) (one_of_row place (loop body own) (loop_reads place body own repeated body_is))

pub set_run : (place : RowSet) (node : Shape) (copies : ℕ) → node ≡ one_of place.members → place.repeated ≡ false → IsRunOf (place ∷ []) node copies
unfolding IsWhole size_of
set_run place node copies is once =
    record { reads = set_row place node is once; whole = subst (λ p. IsWhole p copies) (sym is) tt; sized = ap (λ p. size_of p copies) is }

pub loop_run : (place : RowSet) (node body : Shape) (own copies : ℕ) → node ≡ loop body own → body ≡ one_of place.members → own ≡ words_for copies
    → place.repeated ≡ true → IsRunOf (place ∷ []) node copies
unfolding IsWhole size_of
loop_run place node body own copies is body_is own_is repeated = record {
  reads = loop_row place node body own is body_is repeated;
  whole = subst (λ p. IsWhole p copies) (sym is) (own_is, subst (λ b. IsWhole b copies) (sym body_is) tt);
  sized = ap (λ p. size_of p copies) is ∙ ap (λ b. size_of b copies) body_is;
}

pub places_forward : (row : List RowSet) (line : List ℕ) (from to : ℕ) → OfRow row line from to → from ≤ to
places_forward [] line from to e = omega arith
places_forward (place ∷ row) line from to (middle, one, rest) =
    let a = chain_on line (one_of place.members) one.count from middle one.chain in
    let b = places_forward row line middle to rest in
    omega arith

-- All places can be left out exactly where the row leads nowhere.
pub places_stay : (row : List RowSet) (line : List ℕ) (here : ℕ) → IsTrue (list_all (λ place. place.optional) row) → OfRow row line here here
unfolding Chain
places_stay [] line here all = refl
places_stay (place ∷ row) line here all = (
  here,
  record {
    count = 0;
    chain = refl;
    enough = inl (and_left place.optional (list_all (λ place. place.optional) row) all);
    few = inl (omega arith);
  },
  places_stay row line here (and_right place.optional (list_all (λ place. place.optional) row) all),
)

pub all_optional : (row : List RowSet) (line : List ℕ) (from to : ℕ) → to ≤ from → OfRow row line from to → IsTrue (list_all (λ place. place.optional) row)
all_optional [] line from to back e = refl
all_optional (place ∷ row) line from to back (middle, one, rest) =
    let a = chain_on line (one_of place.members) one.count from middle one.chain in
    let b = places_forward row line middle to rest in
    let none = stays line (one_of place.members) one.count from middle (omega arith) one.chain in
    and_both place.optional (list_all (λ place. place.optional) row)
    (elim one.enough [ inl o ↦ o | inr some ↦ absurd (omega arith) ])
    (all_optional row line middle to (omega arith) rest)

pub gap_of_empty : (empty : Bool) (line : List ℕ) (here : ℕ) → IsTrue empty → IsTrue (is_gap (if empty then everywhere else nowhere) line here)
gap_of_empty true line here h = gap_everywhere line here
gap_of_empty false line here h = absurd (false≢true h)

pub empty_of_gap : (empty : Bool) (line : List ℕ) (here : ℕ) → IsTrue (is_gap (if empty then everywhere else nowhere) line here) → IsTrue empty
empty_of_gap true line here h = refl
empty_of_gap false line here h = absurd (gap_nowhere line here h)
