use Rattle.std.proofs.Common.{◌≡◌, ◌++◌, length, refl, subst, arith}
use Rattle.std.proofs.KnownBytes.{Consumes-trans}
use Rattle.script.specs.Items.{put, truncated, body_not_closed}
use Rattle.input.specs.Private.Bytes.{Closes}
use Rattle.input.specs.Private.Taking.{TakesItem}
use Rattle.input.proofs.ErrLemmas.{at_err}
use Rattle.input.proofs.EndLemmas.{end_later}
use Rattle.input.proofs.TakingLemmas.{step_truncated, step_closed, step_last, step_open, takes_next}
use Rattle.input.proofs.stream.take_put.Goals as goal

pub returns-then-put-size : goal.returns-then-put-size
returns-then-put-size g c =
    let (bytes, taken, (holds, counts, upto)) = c.in_ok-put.ensures in (
      bytes,
      taken,
      λ line is. record {
        item = truncated;
        shows = refl;
        whole =
            step_truncated c.args.number c.args.size line c.args.name.now bytes is _ _
            (upto.1 (omega (arith, counts.0, c.if-put-size.true))) (omega (arith, counts.0, c.if-put-size.true));
      },
    )

pub returns-in_err-closing : goal.returns-in_err-closing
returns-in_err-closing g c =
    let (bytes, taken, _) = c.in_ok-put.ensures in
    let (last, closed, _) = c.close.ensures in (
      bytes ++ last,
      Consumes-trans _ _ _ bytes last taken closed,
      λ line is.
          at_err c.from_residual-in_err-closing.result (λ r.
          TakesItem c.args.number line r (bytes ++ last) (g.I.Read.remaining c.args.input.now) (g.I.Read.remaining c.close.new.input))
          c.from_residual-in_err-closing.ensures.0 (λ e. tt),
    )

pub returns-in-Ok : goal.returns-in-Ok
returns-in-Ok g c =
    let (bytes, taken, (holds, counts, upto)) = c.in_ok-put.ensures in
    let (last, closed, closes') = c.in_ok-closing.ensures in
    let closes = subst (λ k. Closes k last (g.I.Read.remaining c.take_bytes.new.input) (g.I.Read.remaining c.close.new.input)) c.in-LineFeed.is closes' in
    let long : length bytes ≡ c.args.size = omega (arith, counts.0, c.if-put-size.false, upto.0) in (
      bytes ++ last,
      Consumes-trans _ _ _ bytes last taken closed,
      λ line is.
          takes_next c.go_on_after.result c.args.number c.saturating_add-lines.result line (bytes ++ last) _ _ c.in-Ok.item
          (put c.args.name.now bytes) c.go_on_after.ensures (c.in-Ok.ensures bytes holds long)
          (λ few.
          step_closed c.args.number c.args.size line c.args.name.now bytes is long last _ closes
          (omega (arith, few, c.saturating_add-lines.ensures, counts.1))),
    )

pub returns-in-Err : goal.returns-in-Err
returns-in-Err g c =
    let (bytes, taken, is) = c.in_ok-put.ensures in
    let (last, closed, closes) = c.in_ok-closing.ensures in
    (bytes ++ last, Consumes-trans _ _ _ bytes last taken closed, λ line is. tt)

pub returns-in-Ok-put_item : goal.returns-in-Ok-put_item
returns-in-Ok-put_item g c =
    let (bytes, taken, (holds, counts, upto)) = c.in_ok-put.ensures in
    let (last, closed, closes') = c.in_ok-closing.ensures in
    let closes = subst (λ k. Closes k last (g.I.Read.remaining c.take_bytes.new.input) (g.I.Read.remaining c.close.new.input)) c.in-InputEnd.is closes' in
    let long : length bytes ≡ c.args.size = omega (arith, counts.0, c.if-put-size.false, upto.0) in (
      bytes ++ last,
      Consumes-trans _ _ _ bytes last taken closed,
      λ line is. record {
        item = put c.args.name.now bytes;
        shows = c.in-Ok-put_item.ensures bytes holds long;
        whole = step_last c.args.number c.args.size line c.args.name.now bytes is long last _ _ (end_later _ _ _ bytes taken closes.1) closes.0;
      },
    )

pub returns-in-Err-put_item : goal.returns-in-Err-put_item
returns-in-Err-put_item g c =
    let (bytes, taken, is) = c.in_ok-put.ensures in
    let (last, closed, closes) = c.in_ok-closing.ensures in
    (bytes ++ last, Consumes-trans _ _ _ bytes last taken closed, λ line is. tt)

pub returns-in-OtherByte : goal.returns-in-OtherByte
returns-in-OtherByte g c =
    let (bytes, taken, (holds, counts, upto)) = c.in_ok-put.ensures in
    let (last, closed, closes') = c.in_ok-closing.ensures in
    let (b, is_byte, other) =
    subst (λ k. Closes k last (g.I.Read.remaining c.take_bytes.new.input) (g.I.Read.remaining c.close.new.input)) c.in-OtherByte.is
    closes' in
    let long : length bytes ≡ c.args.size = omega (arith, counts.0, c.if-put-size.false, upto.0) in (
      bytes ++ last,
      Consumes-trans _ _ _ bytes last taken closed,
      λ line is. record {
        item = body_not_closed;
        shows = refl;
        whole = step_open c.args.number c.args.size line c.args.name.now bytes is long last b _ _ is_byte other;
      },
    )
