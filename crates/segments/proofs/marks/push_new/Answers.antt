use Rattle.std.proofs.Common.{◌≡◌, ◌<◌, ◌∙◌, true, false, not, ◌&&◌, arith, sym}
use Rattle.std.specs.List.{All}
use Rattle.std.proofs.lemmas.List.Elements.{All-from_get_or}
use Rattle.query.specs.Private.Feeds.{has_no_line_feed}
use Rattle.segments.specs.Private.Bits.{is_marked}
use Rattle.segments.proofs.Marking.{marked_none, marked_again, marked_more, marked_all, new_in_line, not_new}
use Rattle.segments.proofs.marks.push_new.Goals as goal
use Rattle.segments.proofs.marks.push_new.Goals.{then-is_new+in_ok-push, else-is_new}

pub loop-i-init : goal.loop-i-init
loop-i-init c = marked_none c.args.body.now c.args.place c.args.keys.now.items c.args.marks.now.items c.requires

pub loop-i-preserved : goal.loop-i-preserved
loop-i-preserved c =
    let l = c.loop-i in
    let t = c.trigram_at-trigram.result in
    let marks = l.marks.items in
    elim c.if-is_new.branch [
      | then-is_new+in_ok-push w ↦
          let new : (not (is_marked marks t) && has_no_line_feed t) ≡ true = rw c.as_slice.ensures.value at (sym c.is_new.ensures ∙ w.if-is_new.true) in
          rw (w.marks-is, w.keys-is, w.in_ok-push.ensures.items, w.key_of.ensures)
          (marked_more c.args.body.now c.args.place l.i c.args.keys.now.items marks l.keys.items t (omega arith) c.trigram_at-trigram.ensures.is l.invariant
          w.mark.new.marks.items c.trigram_at-trigram.ensures.small (omega arith) (new_in_line (is_marked marks t) (has_no_line_feed t) new) w.mark.ensures)
      | else-is_new w ↦
          let old : (not (is_marked marks t) && has_no_line_feed t) ≡ false = rw c.as_slice.ensures.value at (sym c.is_new.ensures ∙ w.if-is_new.false) in
          rw (w.marks-is, w.keys-is)
          (marked_again c.args.body.now c.args.place l.i c.args.keys.now.items marks l.keys.items t (omega arith) c.trigram_at-trigram.ensures.is l.invariant
          (not_new (is_marked marks t) (has_no_line_feed t) old))
    ]

pub returns-clause-adds : goal.returns-clause-adds
returns-clause-adds c =
    let l = c.loop-i in
    let body = c.args.body.now in
    let small : All (λ b. b < 256) body = All-from_get_or (λ b. b < 256) body 0 (λ i inside. omega (arith, c.type_inv.body i)) in
    marked_all body c.args.place l.i c.args.keys.now.items l.marks.items l.keys.items small (omega arith) l.invariant

pub mark-requires-clause-whole : goal.mark-requires-clause-whole
mark-requires-clause-whole c = c.loop-i.invariant.are.whole

pub mark-requires-clause-small : goal.mark-requires-clause-small
mark-requires-clause-small c = c.trigram_at-trigram.ensures.small

pub returns-in_err-push-clause-whole : goal.returns-in_err-push-clause-whole
returns-in_err-push-clause-whole c = c.loop-i.invariant.are.whole

pub returns-clause-whole : goal.returns-clause-whole
returns-clause-whole c = c.loop-i.invariant.are.whole
