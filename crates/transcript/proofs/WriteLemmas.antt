-- What a writer holds, piece by piece.
use Rattle.std.proofs.Common.{◌≡◌, ℕ, List, [], ◌++◌, Option, refl, sym, ap, ◌∙◌, length, take, drop, append_assoc, subst}
use Rattle.std.proofs.Common.{◌-◌, arith, length-drop}
use Rattle.std.proofs.lemmas.List.{append-nil, take-append-drop, take_all}
use Rattle.std.specs.Prelude.{Bool}
use Rattle.std.specs.Io.KnownBytes.{Appends}
use Rattle.std.proofs.KnownBytes.{Appends-trans}
pub use Rattle.std.proofs.KnownBytes.{Appends-nil as appends_nothing}
pub use Rattle.std.proofs.lemmas.Result.{on_err_weaker}
use Rattle.views.specs.Shown.{text_of_shown}
use Rattle.transcript.specs.declared.entry.Entry.{Entry}
use Rattle.transcript.specs.declared.entry.Entry.TheVariants.{Accepted, Refused, Published, Found, SearchRefused, Status}
use Rattle.transcript.specs.Heads.{head_of_entry, lines_of_entry}
use Rattle.transcript.specs.Transcript.{line_refusal, search_refusal, status_line, text_of_entry}
use Rattle.transcript.specs.Written.{AppendsAllBut, AppendsFront}

pub written_more : (a b c : Option (List ℕ)) (text rest : List ℕ) (count : ℕ) → AppendsAllBut a b text rest → Appends b c (take count rest)
    → AppendsAllBut a c text (drop count rest)
written_more a b c text rest count so_far more = record {
  front = so_far.front ++ take count rest;
  whole = so_far.whole ∙ ap (λ l. so_far.front ++ l) (sym (take-append-drop count rest)) ∙ sym (append_assoc so_far.front (take count rest) (drop count rest));
  appended = Appends-trans a b c so_far.front (take count rest) so_far.appended more;
}

-- taking the rest of a slice from a place on leaves all of that rest
pub rest_dropped : (text : List ℕ) (count : ℕ) → take (length text - count) (drop count text) ≡ drop count text
rest_dropped text count = take_all (length text - count) (drop count text) (simp length-drop (omega arith))

-- a text of which all is written, and which is then emptied
pub written_emptied : (a b : Option (List ℕ)) (text rest : List ℕ) → rest ≡ [] → Appends a b text → AppendsAllBut a b text rest
written_emptied a b text rest none all = record { front = text; whole = sym (append-nil text) ∙ ap (λ r. text ++ r) (sym none); appended = all }

-- more of what is held back is written
pub held_less : (a b c : Option (List ℕ)) (all held held' : List ℕ) → AppendsAllBut a b all held → AppendsAllBut b c held held' → AppendsAllBut a c all held'
held_less a b c all held held' so_far next = record {
  front = so_far.front ++ next.front;
  whole = so_far.whole ∙ ap (λ t. so_far.front ++ t) next.whole ∙ sym (append_assoc so_far.front next.front held');
  appended = Appends-trans a b c so_far.front next.front so_far.appended next.appended;
}

-- the text and what is held back grow by the same bytes
pub held_more : (a b : Option (List ℕ)) (all held more : List ℕ) → AppendsAllBut a b all held → AppendsAllBut a b (all ++ more) (held ++ more)
held_more a b all held more so_far = record {
  front = so_far.front;
  whole = ap (λ t. t ++ more) so_far.whole ∙ append_assoc so_far.front held more;
  appended = so_far.appended;
}

-- what was held back is written
pub held_none : (a b c : Option (List ℕ)) (all held : List ℕ) → AppendsAllBut a b all held → Appends b c held → Appends a c all
held_none a b c all held so_far last =
    subst (Appends a c) (sym so_far.whole) (Appends-trans a b c so_far.front held so_far.appended last)

-- or a beginning of it
pub held_in_part : (a b c : Option (List ℕ)) (all held : List ℕ) → AppendsAllBut a b all held → AppendsFront b c held → AppendsFront a c all
held_in_part a b c all held so_far last = record {
  front = so_far.front ++ last.front;
  rest = last.rest;
  whole = so_far.whole ∙ ap (λ t. so_far.front ++ t) last.whole ∙ sym (append_assoc so_far.front last.front last.rest);
  appended = Appends-trans a b c so_far.front last.front so_far.appended last.appended;
}

-- a text that is written but for its end is written in part
pub front_of_all_but : (a b : Option (List ℕ)) (text rest : List ℕ) → AppendsAllBut a b text rest → AppendsFront a b text
front_of_all_but a b text rest some = record { front = some.front; rest = rest; whole = some.whole; appended = some.appended }

-- a beginning of a text is one of a longer text
pub front_of_longer : (a b : Option (List ℕ)) (text more : List ℕ) → AppendsFront a b text → AppendsFront a b (text ++ more)
front_of_longer a b text more some = record {
  front = some.front;
  rest = some.rest ++ more;
  whole = ap (λ t. t ++ more) some.whole ∙ append_assoc some.front some.rest more;
  appended = some.appended;
}

-- one text is written after the other
pub front_of_second : (a b c : Option (List ℕ)) (first second : List ℕ) → Appends a b first → AppendsFront b c second
    → AppendsFront a c (first ++ second)
front_of_second a b c first second all some = record {
  front = first ++ some.front;
  rest = some.rest;
  whole = ap (λ t. first ++ t) some.whole ∙ sym (append_assoc first some.front some.rest);
  appended = Appends-trans a b c first some.front all some.appended;
}

pub both_whole : (a b c : Option (List ℕ)) (first second rest : List ℕ) → rest ≡ [] → Appends a b first → Appends b c second
    → AppendsAllBut a c (first ++ second) rest
both_whole a b c first second rest none one two =
    written_emptied a c (first ++ second) rest none (Appends-trans a b c first second one two)

-- ---- a text that is written piece by piece

-- What is done of the text is written, but for what is held back, and this is left of it.
pub record IsDoneTo (a b : Option (List ℕ)) (all left held : List ℕ) : Type 0 where
  pub done : List ℕ
  pub written : AppendsAllBut a b done held
  pub whole : all ≡ done ++ left

module _ (a b c : Option (List ℕ)) (all piece left left' held : List ℕ) (so_far : IsDoneTo a b all left held) (next : left ≡ piece ++ left') where
  split : all ≡ (so_far.done ++ piece) ++ left'
  split = so_far.whole ∙ (ap (λ t. so_far.done ++ t) next ∙ sym (append_assoc so_far.done piece left'))

  more_held : AppendsAllBut a b (so_far.done ++ piece) (held ++ piece)
  more_held = held_more a b so_far.done held piece so_far.written

  -- one more piece
  pub done_more : (held' : List ℕ) → AppendsAllBut b c (held ++ piece) held' → IsDoneTo a c all left' held'
  done_more held' wrote = record {
    done = so_far.done ++ piece;
    written = held_less a b c (so_far.done ++ piece) (held ++ piece) held' more_held wrote;
    whole = split;
  }

  -- or a beginning of it
  pub done_in_part : AppendsFront b c (held ++ piece) → AppendsFront a c all
  done_in_part some =
      subst (AppendsFront a c) (sym split)
      (front_of_longer a c (so_far.done ++ piece) left' (held_in_part a b c (so_far.done ++ piece) (held ++ piece) more_held some))

-- what is left begins with a text that is one text after another
pub next_of_two : (left text first second left' : List ℕ) → left ≡ text ++ left' → first ++ second ≡ text → left ≡ first ++ (second ++ left')
next_of_two left text first second left' next joined =
    next ∙ (ap (λ t. t ++ left') (sym joined) ∙ append_assoc first second left')

-- nothing is left
pub done_all : (a b : Option (List ℕ)) (all left held : List ℕ) → left ≡ [] → IsDoneTo a b all left held → AppendsAllBut a b all held
done_all a b all left held none so_far =
    subst (λ t. AppendsAllBut a b t held) (sym (so_far.whole ∙ (ap (λ t. so_far.done ++ t) none ∙ append-nil so_far.done))) so_far.written

-- ---- the texts of entries and of answers

pub entry-parts : (stats : Bool) (entry : Entry) → text_of_entry stats entry ≡ head_of_entry stats entry ++ lines_of_entry entry
unfolding text_of_shown
entry-parts stats (Accepted line commands) = refl
entry-parts stats (Refused line reason) = sym (append-nil (line_refusal line reason))
entry-parts stats (Published line version) = refl
entry-parts stats (Found number reader turn answer) = refl
entry-parts stats (SearchRefused number reason) = sym (append-nil (search_refusal number reason))
entry-parts stats (Status line version documents bytes accepted most open_searches) =
    sym (append-nil (status_line line version documents bytes accepted most open_searches))

-- the text behind another, from its head and its lines
pub behind_head : (stats : Bool) (entry : Entry) (old now : List ℕ) → now ≡ old ++ head_of_entry stats entry
    → now ++ lines_of_entry entry ≡ old ++ text_of_entry stats entry
behind_head stats entry old now grown =
    ap (λ t. t ++ lines_of_entry entry) grown
    ∙ (append_assoc old (head_of_entry stats entry) (lines_of_entry entry) ∙ ap (λ t. old ++ t) (sym (entry-parts stats entry)))
