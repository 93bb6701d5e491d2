use Rattle.std.proofs.Common.{◌≡◌, ◌++◌, map, ap, ◌∙◌}
use Rattle.std.specs.FinMap.{from_sorted}
use Rattle.std.proofs.lemmas.Result.{IfOk-weaker}
use Rattle.names.specs.Contents.{entry_put, with_all}
use Rattle.names.specs.Private.Entries.{joined, laid_over}
use Rattle.names.proofs.PutLemmas.{puts_step, puts_end, with_all_rises, with_all_done}
use Rattle.names.proofs.names.Names.with_all.Goals as goal
use Rattle.names.proofs.names.Names.with_all.Goals.{In_ok-add_rest}

pub loop-put-init : goal.loop-put-init
loop-put-init c = ap (λ m. m ++ laid_over (map entry_put c.deref-put-items.result.now) c.from_chunk-rest.result) c.new-made.ensures

pub loop-put-preserved : goal.loop-put-preserved
loop-put-preserved c =
    let puts = c.deref-put-items.result.now in
    puts_step puts c.loop-put.put-index c.put-item.result c.loop-put.made c.add_put.new.self c.loop-put.rest c.in_ok-rest.rest
    (laid_over (map entry_put puts) c.from_chunk-rest.result) c.loop-put-test.true c.put-item.is c.loop-put.invariant c.in_ok-rest.ensures

made_is : (c : In_ok-add_rest) → c.add_rest.new.self ≡ laid_over (map entry_put c.in_ok-sorted.sorted.items) (joined c.self.inside.chunks.items)
made_is c =
    let puts = c.deref-put-items.result.now in
    puts_end puts c.loop-put.put-index c.loop-put.made c.loop-put.rest c.add_rest.new.self (laid_over (map entry_put puts) c.from_chunk-rest.result)
    c.loop-put-test.false c.loop-put.invariant c.in_ok-add_rest.ensures
    ∙ (ap (λ ps. laid_over (map entry_put ps) c.from_chunk-rest.result) c.deref-put-items.ensures.value
    ∙ ap (laid_over (map entry_put c.in_ok-sorted.sorted.items)) (c.from_chunk-rest.ensures ∙ ap joined c.deref.ensures.value))

pub finished-requires : goal.finished-requires
finished-requires c =
    with_all_rises c.args.puts.now c.in_ok-sorted.sorted.items (joined c.self.inside.chunks.items) c.add_rest.new.self c.self.invariant.rise c.in_ok-sorted.ensures
    (made_is (goal.at.finished-requires c).In_ok-add_rest)

pub returns : goal.returns
returns c =
    let made = c.add_rest.new.self in
    IfOk-weaker c.finished.result (λ names. names ≡ from_sorted made) (λ names. names ≡ with_all c.args.puts.now c.args.self.now)
    (λ names is. with_all_done c.args.puts.now c.in_ok-sorted.sorted.items (joined c.self.inside.chunks.items) made c.args.self.now names c.self.invariant.rise
    c.self.view_is c.in_ok-sorted.ensures (made_is (goal.at.returns c).In_ok-add_rest) is) c.finished.ensures
