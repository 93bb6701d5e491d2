-- Settings are determined by the arguments that spell them.
use Rattle.std.proofs.Common.{◌≡◌, ◌∙◌, sym, refl, subst, true, false, Bool}
use Rattle.std.specs.Prelude.{◌↔◌}
use Rattle.clap.specs.Kinds.{IsAmong}
use Rattle.clap.specs.declared.error.kind.ErrorKind.TheVariants.{DisplayHelp, DisplayVersion}
use Rattle.clap.proofs.OnLiterals.{clap_on_literals}
use Rattle.cli.specs.Laws.{OptionsAskForThemselves, SettingsAreOne, SettingsStandAlone}

same_truth : (P : Type 0) (one other : Bool) → (one ≡ true) ↔ P → (other ≡ true) ↔ P → one ≡ other
same_truth P true true h h' = refl
same_truth P true false h h' = sym (h'.1 (h.0 refl))
same_truth P false true h h' = h.1 (h'.0 refl)
same_truth P false false h h' = refl

pub one_spelling : SettingsAreOne
one_spelling arguments one other is is' = record {
  live = same_truth _ one.live other.live is.found.live is'.found.live;
  readers = is.found.readers ∙ sym is'.found.readers;
  max_commands = is.found.max_commands ∙ sym is'.found.max_commands;
  stats = same_truth _ one.stats other.stats is.found.stats is'.found.stats;
  search_ms = is.found.search_ms ∙ sym is'.found.search_ms;
  max_body = is.found.max_body ∙ sym is'.found.max_body;
  max_line = is.found.max_line ∙ sym is'.found.max_line;
  max_name = is.found.max_name ∙ sym is'.found.max_name;
  times = same_truth _ one.times other.times is.found.times is'.found.times;
  file = is.found.file ∙ sym is'.found.file;
}

pub no_request : SettingsStandAlone
no_request arguments settings is = (subst (IsAmong DisplayHelp) is.taken, subst (IsAmong DisplayVersion) is.taken)

pub themselves : OptionsAskForThemselves
unfolding clap_on_literals
themselves = record { version = refl; help = refl }
