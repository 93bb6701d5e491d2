-- Responses, and what keeps the program from one.
use Rattle.std.proofs.Common.{◌≡◌, List, ℕ, Option, true, false}
use Rattle.std.specs.Prelude.{Result, Ok, Err, IfOk, IfErr, OnErr}
use Rattle.std.specs.Io.KnownBytes.{Appends}
use Rattle.cli.specs.CommandLine.{AreRefused, AskForHelp, AskForVersion, SpellSettings}
use Rattle.cli.specs.declared.arguments.Settings.{Settings}
use Rattle.cli.specs.declared.help.TheConstants.{HELP, VERSION}
use Rattle.transcript.specs.Written.{AppendsFront}
use Rattle.program.specs.Response.{EndsRun, EndsSession, IsFailure, IsFaultOfOutput, IsResponse, IsRunOf, IsSessionOf}
use Rattle.program.specs.Response.{helped, not_helped, not_ran, not_served, not_versioned, ran, served, versioned}
use Rattle.program.specs.declared.error.ProgramError.{ProgramError}

module _ (opens : List ℕ → Option (List ℕ) → Type 0) (has_file : List ℕ → Type 0) (input : Option (List ℕ)) (failed failed' : ℕ)
    (old new : Option (List ℕ)) (arguments : List (List ℕ)) where
  -- refused arguments have no response
  pub refused_have_none : (status : ℕ) → IsResponse opens has_file input failed failed' old new arguments status → AreRefused arguments → ⊥
  refused_have_none status (ran settings spelled once run) refused = refused.faulty spelled.taken
  refused_have_none status (served settings spelled live session) refused = refused.faulty spelled.taken
  refused_have_none status (helped asked written is) refused = refused.no_help asked
  refused_have_none status (versioned asked written is) refused = refused.no_version asked

  -- a run of the settings that the arguments spell is a response to them, or a failure
  pub run_responds : (settings : Settings) (r : Result ℕ ProgramError) → SpellSettings arguments settings → settings.live ≡ false
      → IfOk r (IsRunOf opens has_file input failed failed' old new settings)
      → IfOk r (IsResponse opens has_file input failed failed' old new arguments)
  run_responds settings (Ok status) spelled once run = ran settings spelled once run
  run_responds settings (Err e) spelled once run = run

  pub run_fails : (settings : Settings) (r : Result ℕ ProgramError) → SpellSettings arguments settings → settings.live ≡ false
      → IfErr r (EndsRun opens has_file input failed failed' old new settings)
      → IfErr r (IsFailure opens has_file input failed failed' old new arguments)
  run_fails settings (Ok status) spelled once ended = ended
  run_fails settings (Err e) spelled once ended = not_ran settings spelled once ended

  -- and so is a session
  pub session_responds : (settings : Settings) (r : Result ℕ ProgramError) → SpellSettings arguments settings → settings.live ≡ true
      → IfOk r (IsSessionOf opens has_file input failed failed' old new settings)
      → IfOk r (IsResponse opens has_file input failed failed' old new arguments)
  session_responds settings (Ok status) spelled live session = served settings spelled live session
  session_responds settings (Err e) spelled live session = session

  pub session_fails : (settings : Settings) (r : Result ℕ ProgramError) → SpellSettings arguments settings → settings.live ≡ true
      → IfErr r (EndsSession opens has_file input failed failed' old new settings)
      → IfErr r (IsFailure opens has_file input failed failed' old new arguments)
  session_fails settings (Ok status) spelled live ended = ended
  session_fails settings (Err e) spelled live ended = not_served settings spelled live ended

  -- and so is the help if they ask for it
  pub help_responds : (r : Result ℕ ProgramError) → AskForHelp arguments → IfOk r (λ status. (status ≡ 0) × Appends old new HELP.now)
      → IfOk r (IsResponse opens has_file input failed failed' old new arguments)
  help_responds (Ok status) asked shown = helped asked shown.1 shown.0
  help_responds (Err e) asked shown = shown

  pub help_fails : (r : Result ℕ ProgramError) → AskForHelp arguments → IfErr r IsFaultOfOutput → OnErr r (AppendsFront old new HELP.now)
      → IfErr r (IsFailure opens has_file input failed failed' old new arguments)
  help_fails (Ok status) asked fault front = fault
  help_fails (Err e) asked fault front = not_helped asked fault front

  -- and the version
  pub version_responds : (r : Result ℕ ProgramError) → AskForVersion arguments → IfOk r (λ status. (status ≡ 0) × Appends old new VERSION.now)
      → IfOk r (IsResponse opens has_file input failed failed' old new arguments)
  version_responds (Ok status) asked shown = versioned asked shown.1 shown.0
  version_responds (Err e) asked shown = shown

  pub version_fails : (r : Result ℕ ProgramError) → AskForVersion arguments → IfErr r IsFaultOfOutput → OnErr r (AppendsFront old new VERSION.now)
      → IfErr r (IsFailure opens has_file input failed failed' old new arguments)
  version_fails (Ok status) asked fault front = fault
  version_fails (Err e) asked fault front = not_versioned asked fault front
