use Rattle.std.proofs.Common.{◌≡◌, ◌+◌, true, false, Some, sym, ◌∙◌, ap, arith, get_or}
use Rattle.std.proofs.lemmas.List.Elements.{All-more}
use Rattle.std.proofs.lemmas.List.Sums.{count_by_more_no, count_by_more_yes}
use Rattle.request.specs.Names.{clashes, is_same}
use Rattle.request.specs.Private.Kept.{shown_settings}
use Rattle.request.proofs.NameLemmas.{clash_if_excluded, clash_if_twice, free_if_other, free_if_repeatable, same_name, same_itself}
use Rattle.request.proofs.OptionLemmas.{filler}
use Rattle.request.proofs.SettingLemmas.{clash_here, counted_all, free_of_all, no_clash}
use Rattle.request.proofs.TallyLemmas.{kept_clash, kept_times, kept_together}
use Rattle.request.proofs.settings.fault_after.Goals as goal
use Rattle.request.proofs.settings.fault_after.Goals.{then-is+else-not-is_repeatable, else-is+else-excludes}

pub returns-then-not-is_repeatable : goal.returns-then-not-is_repeatable
returns-then-not-is_repeatable c = λ text named.
    let here = get_or c.deref-setting-items.result.now c.loop-setting.setting-index filler in
    let same : here.name ≡ c.args.name = same_name _ _ (sym c.if-is.ensures) in (
      named,
      kept_clash c.args.earlier.now c.requires c.deref-setting-items.result.now c.deref-setting-items.ensures.value c.args.name
          ∙ clash_here c.deref-setting-items.result.now c.loop-setting.setting-index filler c.args.name c.loop-setting-test.true c.loop-setting.invariant.together
          (clash_if_twice here.name c.args.name same (sym c.if-not-is_repeatable.ensures))
          ∙ ap (λ n. Some n) same,
    )

pub returns-then-excludes : goal.returns-then-excludes
returns-then-excludes c = λ text named.
    let here = get_or c.deref-setting-items.result.now c.loop-setting.setting-index filler in (
      named,
      λ same.
          let test : is_same here.name c.args.name ≡ true = ap (λ n. is_same n c.args.name) same ∙ same_itself c.args.name in
          let no : false ≡ true = c.if-is.ensures ∙ test in
          absurd (cc no),
      kept_clash c.args.earlier.now c.requires c.deref-setting-items.result.now c.deref-setting-items.ensures.value c.args.name
          ∙ clash_here c.deref-setting-items.result.now c.loop-setting.setting-index filler c.args.name c.loop-setting-test.true c.loop-setting.invariant.together
          (clash_if_excluded here.name c.args.name (sym c.if-excludes.ensures)),
    )

pub loop-setting-preserved : goal.loop-setting-preserved
loop-setting-preserved c =
    let settings = c.deref-setting-items.result.now in
    let at = c.loop-setting.setting-index in
    let inside = c.loop-setting-test.true in
    let here = get_or settings at filler in
    elim c.if-is.branch [
      | then-is+else-not-is_repeatable w ↦
          let same : is_same here.name c.args.name ≡ true = sym c.is.ensures ∙ w.if-is.true in
          record {
            together =
                All-more (λ s. clashes s.name c.args.name ≡ false) settings at filler inside c.loop-setting.invariant.together
                (free_if_repeatable here.name c.args.name same (sym w.is_repeatable.ensures ∙ w.if-not-is_repeatable.false));
            counted =
                w.times-is ∙ ap (λ n. n + 1) c.loop-setting.invariant.counted
                ∙ sym (count_by_more_yes (λ s. is_same s.name c.args.name) settings at filler inside same);
            few = omega (arith, w.times-is, c.loop-setting.invariant.few);
          }
      | else-is+else-excludes w ↦
          let other : is_same here.name c.args.name ≡ false = sym c.is.ensures ∙ w.if-is.false in
          record {
            together =
                All-more (λ s. clashes s.name c.args.name ≡ false) settings at filler inside c.loop-setting.invariant.together
                (free_if_other here.name c.args.name other (sym w.excludes.ensures ∙ w.if-excludes.false));
            counted =
                w.times-is ∙ c.loop-setting.invariant.counted
                ∙ sym (count_by_more_no (λ s. is_same s.name c.args.name) settings at filler inside other);
            few = omega (arith, w.times-is, c.loop-setting.invariant.few);
          }
    ]

pub returns-then-times-prefix_times : goal.returns-then-times-prefix_times
returns-then-times-prefix_times c = λ text named.
    let items = c.deref-setting-items.result.now in
    let is = c.deref-setting-items.ensures.value in
    let free = free_of_all items c.args.name c.loop-setting.setting-index c.loop-setting-test.false c.loop-setting.invariant.together in (
      named,
      kept_clash c.args.earlier.now c.requires items is c.args.name ∙ no_clash (shown_settings items) c.args.name free,
      omega (
        arith,
        counted_all items c.args.name c.loop-setting.setting-index c.loop-setting.times c.loop-setting-test.false c.loop-setting.invariant.counted,
        kept_times c.args.earlier.now c.requires items is c.args.name,
        c.prefix_times.ensures,
        c.most_times.ensures,
        c.if-times-prefix_times.true,
      ),
    )

pub returns : goal.returns
returns c =
    let items = c.deref-setting-items.result.now in
    let is = c.deref-setting-items.ensures.value in
    record {
      together =
          kept_together c.args.earlier.now c.requires items is c.args.name
          (free_of_all items c.args.name c.loop-setting.setting-index c.loop-setting-test.false c.loop-setting.invariant.together);
      few =
          omega (
            arith,
            counted_all items c.args.name c.loop-setting.setting-index c.loop-setting.times c.loop-setting-test.false c.loop-setting.invariant.counted,
            kept_times c.args.earlier.now c.requires items is c.args.name,
            c.prefix_times.ensures,
            c.most_times.ensures,
            c.if-times-prefix_times.false,
          );
    }
