use Rattle.std.proofs.Common.{suc, add-one, arith, sym, subst, ap, drop, ◌∙◌, Some}
use Rattle.std.proofs.lemmas.List.{drop_all}
use Rattle.std.proofs.lemmas.Result.{IfOk-weaker}
use Rattle.ere.specs.Spelling.{SpellsPiece as pieces_are, SpellsAtom as atoms}
use Rattle.ere.specs.ByteSet.{single}
use Rattle.ere.specs.Tokens.{SpellsToken}
use Rattle.ere.specs.Tokens as token
use Rattle.ere.specs.Tree.{at_start, at_end, set}
use Rattle.ere.proofs.Forms.{form-Start, form-End, form-Set}
use Rattle.ere.specs.Private.Reading.{ReadsAlternatives, NoAlternatives, NoDuplication}
use Rattle.ere.proofs.Texts.{front, Stands-begins}
use Rattle.ere.proofs.BracketSteps.{if_err_but, if_err_map}
use Rattle.ere.proofs.ReaderSteps.{alternatives_start, alternatives_step, branch_fails, branch_start, branch_step, closing, full_fails}
use Rattle.ere.proofs.ReaderSteps.{group_reads, inner_fails, next_branch_fails, pass_on, unclosed_fails, group_fails, start_fails}
use Rattle.ere.proofs.ReaderSteps.{end_fails, times_fail, tokenless, lexing_fails, back_fails, leaf_atom, leaf_piece, piece_of_atom}
use Rattle.ere.proofs.ReaderSteps.{Reads-token, lone_close_atom, no_bar_begins, on_err_map, if_ok_both, height_set, height_start}
use Rattle.ere.proofs.ReaderSteps.{height_end, spelled_as}
use Rattle.ere.proofs.reader.+reader.Goals as goal

pub alternatives-loop-alloc-init : goal.alternatives-loop-alloc-init
alternatives-loop-alloc-init t c = record {
  read =
      alternatives_start c.args.depth _ _ c.no_members.result _ c.in_ok-first.first c.no_members.ensures c.in_ok-first.ensures.ok
      c.in_ok-branches.ensures.ok;
  on = c.in_ok-first.ensures.after.0;
  within = c.in_ok-first.ensures.after.1;
}

pub alternatives-returns-in_err-next-clause-err : goal.alternatives-returns-in_err-next-clause-err
alternatives-returns-in_err-next-clause-err t c =
    pass_on c.from_residual-in_err-next.result _ _ _ _ c.from_residual-in_err-next.ensures.1
    (next_branch_fails c.args.depth _ _ _ c.loop-alloc.branches c.loop-alloc.invariant.read
    (Stands-begins c.args.text.now c.loop-alloc.at 124 (sym c.loop-alloc-test.ensures)).from)
    c.in_err-next.ensures.err

pub alternatives-loop-alloc-preserved : goal.alternatives-loop-alloc-preserved
alternatives-loop-alloc-preserved t c = record {
  read =
      alternatives_step c.args.depth _ _ _ _ c.loop-alloc.branches _ c.in_ok-next.next c.loop-alloc.invariant.read
      (Stands-begins c.args.text.now c.loop-alloc.at 124 (sym c.loop-alloc-test.ensures)).from c.in_ok-next.ensures.ok
      c.in_ok-branches-2.ensures.ok;
  on = omega (arith, c.loop-alloc.invariant.on, c.in_ok-next.ensures.after);
  within = c.in_ok-next.ensures.after.1;
}

pub branch-loop-alloc-init : goal.branch-loop-alloc-init
branch-loop-alloc-init t c =
    record {
      read = branch_start c.args.depth _ c.no_members-pieces.result c.no_members-pieces.ensures;
      on = omega arith;
      within = c.requires.within;
    }

pub branch-returns-in_err-next-clause-err : goal.branch-returns-in_err-next-clause-err
branch-returns-in_err-next-clause-err t c =
    pass_on c.from_residual.result _ _ _ _ c.from_residual.ensures.1
    (branch_fails c.args.depth _ _ c.loop-alloc.pieces c.loop-alloc.invariant.read (sym c.loop-alloc-test.ensures))
    c.in_err-next.ensures.err

pub branch-loop-alloc-preserved : goal.branch-loop-alloc-preserved
branch-loop-alloc-preserved t c = record {
  read = branch_step c.args.depth _ _ _ c.loop-alloc.pieces _ c.in_ok-next.next c.loop-alloc.invariant.read c.in_ok-next.ensures.ok c.in_ok-pieces.ensures.ok;
  on = omega (arith, c.loop-alloc.invariant.on, c.in_ok-next.ensures.after);
  within = c.in_ok-next.ensures.after.1;
}

pub group-returns-then-depth-eq-MAX_OPEN-clause-err : goal.group-returns-then-depth-eq-MAX_OPEN-clause-err
group-returns-then-depth-eq-MAX_OPEN-clause-err t c = λ _. full_fails c.args.depth _ _ c.requires.opens c.if-depth-eq-MAX_OPEN.true

pub group-returns-in_err-part-clause-err : goal.group-returns-in_err-part-clause-err
group-returns-in_err-part-clause-err t c =
    pass_on c.from_residual.result _ _ _ _ c.from_residual.ensures.1
    (λ never.
    inner_fails c.args.depth _ _ c.requires.opens
    (subst (λ d. NoAlternatives c.args.case d (drop c.args.start c.args.text.now)) (add-one c.args.depth) never))
    c.in_err-part.ensures.err

pub group-returns-then-end-text-clause-err : goal.group-returns-then-end-text-clause-err
group-returns-then-end-text-clause-err t c = λ _.
    let text = c.args.text.now in
    let read =
    subst (λ d. ReadsAlternatives c.args.case d (drop c.args.start text) (drop c.in_ok-part.end text) c.in_ok-part.part)
    (add-one c.args.depth) c.in_ok-part.ensures.ok in
    unclosed_fails c.args.depth _ _ c.in_ok-part.part c.requires.opens
    (subst (λ v. ReadsAlternatives c.args.case (suc c.args.depth) (drop c.args.start text) v c.in_ok-part.part)
    (drop_all c.in_ok-part.end text (omega (arith, c.if-end-text.true))) read)

pub group-returns-clause-ok : goal.group-returns-clause-ok
group-returns-clause-ok t c =
    let text = c.args.text.now in
    let read =
    subst (λ d. ReadsAlternatives c.args.case d (drop c.args.start text) (drop c.in_ok-part.end text) c.in_ok-part.part)
    (add-one c.args.depth) c.in_ok-part.ensures.ok in
    let inside = front text c.in_ok-part.end (omega (arith, c.if-end-text.false, c.in_ok-part.ensures.after)) in
    group_reads c.args.depth _ _ _ _ c.in_ok-part.part c.requires.opens
    (omega (arith, c.if-depth-eq-MAX_OPEN.false, c.requires.open_groups)) read (closing c.args.depth _ _ _ inside read.ends read.no_bar)

pub piece-returns-in_err-token-clause-err : goal.piece-returns-in_err-token-clause-err
piece-returns-in_err-token-clause-err t c =
    if_err_but c.from_residual.result _ _
    (tokenless c.args.depth _ (lexing_fails _ _ _ (front c.args.text.now c.args.at c.requires.within) c.in_err-token.ensures.err))

pub piece-group-requires : goal.piece-group-requires
piece-group-requires t c =
    let after = c.in_ok-token.ensures.after in (
      omega (arith, after),
      (
        spelled_as c.in-Opens.is c.in_ok-token.ensures.ok,
        (after.0, (after.1, c.requires.open_groups)),
      ),
    )

pub piece-returns-in_err-part-in-Opens-clause-err : goal.piece-returns-in_err-part-in-Opens-clause-err
piece-returns-in_err-part-in-Opens-clause-err t c =
    pass_on c.from_residual-in_err-part-in-Opens.result _ _ _ _ c.from_residual-in_err-part-in-Opens.ensures.1
    (group_fails c.args.depth _ _
    (spelled_as c.in-Opens.is c.in_ok-token.ensures.ok))
    c.in_err-part-in-Opens.ensures.err

pub piece-unreachable-requires : goal.piece-unreachable-requires
piece-unreachable-requires t c =
    no_bar_begins c.args.depth _ _
    (spelled_as c.in-Bar.is c.in_ok-token.ensures.ok) c.requires.begins

pub piece-returns-in-Times-clause-err : goal.piece-returns-in-Times-clause-err
piece-returns-in-Times-clause-err t c =
    λ _.
    times_fail c.args.depth _ _ _ _
    (spelled_as c.in-Times.is c.in_ok-token.ensures.ok)

pub piece-returns-in-AtStart-clause-ok : goal.piece-returns-in-AtStart-clause-ok
piece-returns-in-AtStart-clause-ok t c =
    if_ok_both c.anchor.result _ _ _ (λ r stays built.
    leaf_piece c.args.depth _ _ token.at_start at_start r.0
    (subst (λ k. SpellsToken c.args.case (drop c.args.at c.args.text.now) (drop k c.args.text.now) token.at_start) (sym stays.0)
    (spelled_as c.in-AtStart.is c.in_ok-token.ensures.ok))
    (λ rest. pieces_are.start) (built at_start form-Start height_start) (subst (λ k. NoDuplication c.args.case (drop k c.args.text.now)) (sym stays.0) stays.1))
    c.anchor.ensures.ok c.anchor.ensures.built

pub piece-returns-in-AtStart-clause-err : goal.piece-returns-in-AtStart-clause-err
piece-returns-in-AtStart-clause-err t c =
    on_err_map c.anchor.result _ _ _
    (start_fails c.args.depth _ _
    (spelled_as c.in-AtStart.is c.in_ok-token.ensures.ok)) c.anchor.ensures.err

pub piece-returns-in-AtEnd-clause-ok : goal.piece-returns-in-AtEnd-clause-ok
piece-returns-in-AtEnd-clause-ok t c =
    if_ok_both c.anchor-in-AtEnd.result _ _ _ (λ r stays built.
    leaf_piece c.args.depth _ _ token.at_end at_end r.0
    (subst (λ k. SpellsToken c.args.case (drop c.args.at c.args.text.now) (drop k c.args.text.now) token.at_end) (sym stays.0)
    (spelled_as c.in-AtEnd.is c.in_ok-token.ensures.ok))
    (λ rest. pieces_are.finish) (built at_end form-End height_end) (subst (λ k. NoDuplication c.args.case (drop k c.args.text.now)) (sym stays.0) stays.1))
    c.anchor-in-AtEnd.ensures.ok c.anchor-in-AtEnd.ensures.built

pub piece-returns-in-AtEnd-clause-err : goal.piece-returns-in-AtEnd-clause-err
piece-returns-in-AtEnd-clause-err t c =
    on_err_map c.anchor-in-AtEnd.result _ _ _
    (end_fails c.args.depth _ _
    (spelled_as c.in-AtEnd.is c.in_ok-token.ensures.ok)) c.anchor-in-AtEnd.ensures.err

pub piece-returns-in-Set-clause-ok : goal.piece-returns-in-Set-clause-ok
piece-returns-in-Set-clause-ok t c =
    let atom =
    leaf_atom c.args.depth _ _ (token.set c.in-Set.members) (set c.in-Set.members) (Some c.leaf.result)
    (spelled_as c.in-Set.is c.in_ok-token.ensures.ok) (λ rest. atoms.literal)
    (c.leaf.ensures (set c.in-Set.members) (form-Set c.in-Set.members) (height_set c.in-Set.members)) in
    IfOk-weaker c.repeated.result _ _ (λ r more. piece_of_atom c.args.depth _ _ _ (Some c.leaf.result) r.0 atom more) c.repeated.ensures.ok

pub piece-returns-in-Set-clause-err : goal.piece-returns-in-Set-clause-err
piece-returns-in-Set-clause-err t c =
    if_err_map c.repeated.result _ _ (λ e never kind.
    tokenless c.args.depth _
    (back_fails _ _ _
    (Reads-token _ _ _
    (spelled_as c.in-Set.is c.in_ok-token.ensures.ok)) (never kind))) c.repeated.ensures.err

pub piece-returns-in_ok-part-in-Opens-clause-ok : goal.piece-returns-in_ok-part-in-Opens-clause-ok
piece-returns-in_ok-part-in-Opens-clause-ok t c =
    IfOk-weaker c.repeated-in-Opens.result _ _
    (λ r more. piece_of_atom c.args.depth _ _ _ c.in_ok-part-in-Opens.part r.0 c.in_ok-part-in-Opens.ensures.ok more)
    c.repeated-in-Opens.ensures.ok

pub piece-returns-in_ok-part-in-Opens-clause-err : goal.piece-returns-in_ok-part-in-Opens-clause-err
piece-returns-in_ok-part-in-Opens-clause-err t c =
    if_err_map c.repeated-in-Opens.result _ _
    (λ e never kind. tokenless c.args.depth _ (back_fails _ _ _ c.in_ok-part-in-Opens.ensures.ok.reads (never kind)))
    c.repeated-in-Opens.ensures.err

pub piece-returns-in-Closes-clause-ok : goal.piece-returns-in-Closes-clause-ok
piece-returns-in-Closes-clause-ok t c =
    let built = c.leaf-in-Closes.ensures (set (single 41)) (form-Set c.single-members.result ∙ ap set c.single-members.ensures) (height_set (single 41)) in
    let atom =
    lone_close_atom c.args.depth _ _ (Some c.leaf-in-Closes.result)
    (spelled_as c.in-Closes.is c.in_ok-token.ensures.ok) c.requires.begins built in
    IfOk-weaker c.repeated-in-Closes.result _ _ (λ r more. piece_of_atom c.args.depth _ _ _ (Some c.leaf-in-Closes.result) r.0 atom more)
    c.repeated-in-Closes.ensures.ok

pub piece-returns-in-Closes-clause-err : goal.piece-returns-in-Closes-clause-err
piece-returns-in-Closes-clause-err t c =
    if_err_map c.repeated-in-Closes.result _ _ (λ e never kind.
    tokenless c.args.depth _
    (back_fails _ _ _
    (Reads-token _ _ _
    (spelled_as c.in-Closes.is c.in_ok-token.ensures.ok)) (never kind))) c.repeated-in-Closes.ensures.err
