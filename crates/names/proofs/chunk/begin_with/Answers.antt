use Rattle.std.proofs.Common.{◌-◌, length, take, drop, refl, sym, arith}
use Rattle.names.proofs.CompareLemmas.{begin_long, begin_other}
use Rattle.names.proofs.chunk.begin_with.Goals as goal

pub returns-then-starts_with : goal.returns-then-starts_with
returns-then-starts_with c =
    let text = c.args.text.now in
    let prefix = c.args.prefix.now in
    begin_long text prefix c.args.suffix.now (take (length text - length prefix) (drop (length prefix) text)) c.starts_with-then-starts_with.result (omega arith)
    (sym c.if-starts_with.ensures.value) refl c.starts_with-then-starts_with.ensures.value

pub returns-else-starts_with : goal.returns-else-starts_with
returns-else-starts_with c =
    begin_other c.args.text.now c.args.prefix.now c.args.suffix.now c.starts_with-2.result (omega arith) c.starts_with-2.ensures.value c.if-starts_with.false
