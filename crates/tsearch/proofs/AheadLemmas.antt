-- The entry of a search is written behind what is out of it already.
use Rattle.std.proofs.Common.{◌≡◌, ℕ, ◌≤◌, ◌+◌, ◌-◌, Bool, List, [], ◌∷◌, ◌++◌, Option, refl, sym, ap, ◌∙◌, subst, arith, length, take, drop}
use Rattle.std.proofs.lemmas.List.{take-append-drop, take-append-le, drop-append-le, length-append}
use Rattle.std.specs.Io.KnownBytes.{Appends}
use Rattle.std.proofs.KnownBytes.{Appends-trans}
use Rattle.std.proofs.Math.Seq.{take-add}
use Rattle.transcript.specs.declared.entry.Entry.{Entry}
use Rattle.transcript.specs.Heads.{head_of_entry, lines_of_entry}
use Rattle.transcript.specs.Transcript.{text_of_entry}
use Rattle.transcript.specs.Written.{AppendsFront}
use Rattle.transcript.proofs.WriteLemmas.{entry-parts, front_of_longer, front_of_second}
use Rattle.steps.specs.StepRows.{searches_in}
use Rattle.tsearch.specs.Private.Ahead.{head_begins, text_begins, text_from}
use Rattle.tsearch.specs.Private.Sinks.{beginning}

-- so many bytes are some of its first line
pub head_is_longer : (ahead : ℕ) (stats : Bool) (entry : Entry) → searches_in entry ≡ 1 → ahead ≤ 7 → ahead ≤ length (head_of_entry stats entry)
head_is_longer ahead stats entry one few =
    let head = head_begins stats entry one in
    let long : length (head_of_entry stats entry) ≡ length beginning + length head.0 = ap length head.1 ∙ length-append beginning head.0 in
    let seven : length beginning ≡ 7 = refl in
    omega (arith, few, long, seven)

-- One byte more is out, or perhaps.
module _ (ahead : ℕ) (start out out' : Option (List ℕ)) (begun : Appends start out (take ahead beginning)) (bytes : List ℕ) (its : bytes ≡ beginning) where
  next : take ahead beginning ++ take (ahead + 1 - ahead) (drop ahead bytes) ≡ take (ahead + 1) beginning
  next =
      let one : ahead + 1 - ahead ≡ 1 = omega arith in
      rw (its, one) (sym (take-add ahead 1 beginning))

  pub begun_more : Appends out out' (take (ahead + 1 - ahead) (drop ahead bytes)) → Appends start out' (take (ahead + 1) beginning)
  begun_more wrote =
      subst (Appends start out') next
      (Appends-trans start out out' (take ahead beginning) (take (ahead + 1 - ahead) (drop ahead bytes)) begun wrote)

  pub begun_in_part : AppendsFront out out' (take (ahead + 1 - ahead) (drop ahead bytes)) → (stats : Bool) (entry : Entry) → searches_in entry ≡ 1
      → AppendsFront start out' (text_of_entry stats entry)
  begun_in_part some stats entry one =
      subst (AppendsFront start out') (sym (text_from (ahead + 1) stats entry one))
      (front_of_longer start out' (take (ahead + 1) beginning) (drop (ahead + 1) beginning ++ (text_begins stats entry one).0)
      (subst (AppendsFront start out') next
      (front_of_second start out out' (take ahead beginning) (take (ahead + 1 - ahead) (drop ahead bytes)) begun some)))

-- the text of an entry without its first bytes, from its two parts
pub without_first : (ahead : ℕ) (stats : Bool) (entry : Entry) (formed rest : List ℕ) → formed ≡ head_of_entry stats entry
    → ahead ≤ length (head_of_entry stats entry) → rest ≡ drop ahead formed → rest ++ lines_of_entry entry ≡ drop ahead (text_of_entry stats entry)
without_first ahead stats entry formed rest is few removed =
    ap (λ t. t ++ lines_of_entry entry) (removed ∙ ap (drop ahead) is)
    ∙ sym (drop-append-le ahead (head_of_entry stats entry) (lines_of_entry entry) few)
    ∙ ap (drop ahead) (sym (entry-parts stats entry))

module _ (ahead : ℕ) (stats : Bool) (entry : Entry) (one : searches_in entry ≡ 1) (few : ahead ≤ 7) (start out out' : Option (List ℕ))
    (begun : Appends start out (take ahead beginning)) where
  joined : take ahead beginning ++ drop ahead (text_of_entry stats entry) ≡ text_of_entry stats entry
  joined =
      let text = text_begins stats entry one in
      ap (λ t. t ++ drop ahead (text_of_entry stats entry))
      (sym (take-append-le ahead beginning text.0 few) ∙ ap (take ahead) (sym text.1))
      ∙ take-append-drop ahead (text_of_entry stats entry)

  pub rest_written : Appends out out' (drop ahead (text_of_entry stats entry)) → Appends start out' (text_of_entry stats entry)
  rest_written wrote =
      subst (Appends start out') joined (Appends-trans start out out' (take ahead beginning) (drop ahead (text_of_entry stats entry)) begun wrote)

  pub rest_in_part : AppendsFront out out' (drop ahead (text_of_entry stats entry)) → AppendsFront start out' (text_of_entry stats entry)
  rest_in_part some =
      subst (AppendsFront start out') joined
      (front_of_second start out out' (take ahead beginning) (drop ahead (text_of_entry stats entry)) begun some)
