-- What the program does in response to its arguments.
use Rattle.std.specs.Prelude.{◌≡◌, ℕ, List, [], Option, true, false, ⊤}
use Rattle.std.specs.Io.KnownBytes.{Appends}
use Rattle.cli.specs.CommandLine.{AskForHelp, AskForVersion, IsRefusalOf, SpellSettings}
use Rattle.cli.specs.declared.arguments.Settings.{Settings}
use Rattle.cli.specs.declared.error.ArgumentError.{ArgumentError}
use Rattle.cli.specs.declared.help.TheConstants.{HELP, VERSION}
use Rattle.documents.specs.declared.lengths.Lengths.{Lengths}
use Rattle.tsearch.specs.Served.{IsBroken, IsServed}
use Rattle.tsearch.specs.declared.serving.LiveOptions.{LiveOptions}
use Rattle.tsearch.specs.Legal.{IsLegal}
use Rattle.transcript.specs.Transcript.{status_of, text_of_transcript}
use Rattle.transcript.specs.Written.{AppendsFront}
use Rattle.tsearch.specs.declared.run.Options.{Options}
use Rattle.transcript.specs.declared.entry.Entry.{Entry}
use Rattle.program.specs.Reads.{IsInputFrom, IsLoadFrom, IsScriptFrom}
use Rattle.program.specs.declared.error.ProgramError.{ProgramError}
use Rattle.program.specs.declared.error.ProgramError.TheVariants as error

-- how long names, bodies and lines may be, as the settings say
abbrev pub lengths_of : Settings → Lengths
lengths_of settings = record { name = settings.max_name; body = settings.max_body; line = settings.max_line }

abbrev pub options_of : Settings → Options
options_of settings = record {
  readers = settings.readers;
  max_commands = settings.max_commands;
  lengths = lengths_of settings;
  search_ms = settings.search_ms;
  times = settings.times;
}

abbrev pub live_options_of : Settings → LiveOptions
live_options_of settings = record {
  readers = settings.readers;
  max_commands = settings.max_commands;
  lengths = lengths_of settings;
  search_ms = settings.search_ms;
  times = settings.times;
  stats = settings.stats;
}

-- The errors of an input: it cannot be opened or read.
abbrev pub IsFaultOfInput : ProgramError → Type 0
IsFaultOfInput (error.CannotRead text) = ⊤
IsFaultOfInput error.OutOfMemory = ⊤
IsFaultOfInput _ = ⊥

-- The errors of an output.
abbrev pub IsFaultOfOutput : ProgramError → Type 0
IsFaultOfOutput error.CannotWrite = ⊤
IsFaultOfOutput error.OutputClosed = ⊤
IsFaultOfOutput _ = ⊥

-- The errors of an output to which a transcript is written.
abbrev pub IsFaultOfText : ProgramError → Type 0
IsFaultOfText error.OutOfMemory = ⊤
IsFaultOfText e = IsFaultOfOutput e

-- The errors before a run has a transcript.
abbrev pub IsFaultOfRun : ProgramError → Type 0
IsFaultOfRun (error.Run fault) = ⊤
IsFaultOfRun e = IsFaultOfInput e

-- The errors of a session.
abbrev pub IsFaultOfSession : ProgramError → Type 0
IsFaultOfSession (error.Live fault) = ⊤
IsFaultOfSession error.OutputClosed = ⊤
IsFaultOfSession e = IsFaultOfInput e

-- A session of which the input has these bytes, and which ends with an error: it did not begin, and nothing was written, or
-- it ended early.
pub data EndsOver (opens : List ℕ → Option (List ℕ) → Type 0) (has_file : List ℕ → Type 0) (failed failed' : ℕ) (old new : Option (List ℕ))
    (all : Option (List ℕ)) (settings : Settings) (e : ProgramError) : Type 0 where
  not_begun : IsFaultOfInput e → Appends old new [] → EndsOver opens has_file failed failed' old new all settings e
  broken : IsFaultOfSession e → IsBroken (live_options_of settings) (IsLoadFrom opens has_file settings.max_body) failed failed' all old new
      → EndsOver opens has_file failed failed' old new all settings e

-- opens: the bytes of the files. has_file: where regular files were seen. input: what standard input has left. failed,
-- failed': how often files have failed, before and after. old, new: what has been written, before and after.
module _ (opens : List ℕ → Option (List ℕ) → Type 0) (has_file : List ℕ → Type 0) (input : Option (List ℕ)) (failed failed' : ℕ)
    (old new : Option (List ℕ)) where
  -- A run as the settings say: the script is read from their file or from the input, a transcript that is legal for
  -- it under their options is written, once and as text, and the status is the transcript's.
  pub record IsRunOf (settings : Settings) (status : ℕ) : Type 0 where
    pub script : List ℕ
    pub entries : List Entry
    pub is_script : IsScriptFrom opens input settings.file script
    pub legal : IsLegal script (options_of settings) (IsLoadFrom opens has_file settings.max_body) failed failed' entries
    pub written : Appends old new (text_of_transcript settings.stats entries)
    pub is_status : status ≡ status_of entries

  -- A session as the settings say, read from their file or from the input.
  pub record IsSessionOf (settings : Settings) (status : ℕ) : Type 0 where
    pub all : Option (List ℕ)
    pub is_input : IsInputFrom opens input settings.file all
    pub served : IsServed (live_options_of settings) (IsLoadFrom opens has_file settings.max_body) failed failed' all old new status

  -- What arguments lead to: those that spell settings to their run, or to their session if they ask for one, those that ask
  -- for the help to the help and 0, and those that ask for the version to the version and 0.
  pub data IsResponse (arguments : List (List ℕ)) (status : ℕ) : Type 0 where
    ran : (settings : Settings) → SpellSettings arguments settings → settings.live ≡ false → IsRunOf settings status → IsResponse arguments status
    served : (settings : Settings) → SpellSettings arguments settings → settings.live ≡ true → IsSessionOf settings status → IsResponse arguments status
    helped : AskForHelp arguments → Appends old new HELP.now → status ≡ 0 → IsResponse arguments status
    versioned : AskForVersion arguments → Appends old new VERSION.now → status ≡ 0 → IsResponse arguments status

  -- A run that ends with an error: it has no transcript, and nothing was written, or its transcript was not written whole.
  pub data EndsRun (settings : Settings) (e : ProgramError) : Type 0 where
    not_run : IsFaultOfRun e → Appends old new [] → EndsRun settings e
    not_written : (script : List ℕ) (entries : List Entry) → IsFaultOfText e → IsScriptFrom opens input settings.file script
        → IsLegal script (options_of settings) (IsLoadFrom opens has_file settings.max_body) failed failed' entries
        → AppendsFront old new (text_of_transcript settings.stats entries) → EndsRun settings e

  -- A session that ends with an error: its file was not opened, and nothing was written, or it ended over its input.
  pub data EndsSession (settings : Settings) (e : ProgramError) : Type 0 where
    not_opened : IsFaultOfInput e → Appends old new [] → EndsSession settings e
    ended : (all : Option (List ℕ)) → IsInputFrom opens input settings.file all → EndsOver opens has_file failed failed' old new all settings e → EndsSession settings e

  -- What the program does that ends with an error. Refused arguments write nothing, and the help and the version may be
  -- written in part.
  pub data IsFailure (arguments : List (List ℕ)) (e : ProgramError) : Type 0 where
    refused : (fault : ArgumentError) → e ≡ error.Arguments fault → IsRefusalOf arguments fault → Appends old new [] → IsFailure arguments e
    not_ran : (settings : Settings) → SpellSettings arguments settings → settings.live ≡ false → EndsRun settings e → IsFailure arguments e
    not_served : (settings : Settings) → SpellSettings arguments settings → settings.live ≡ true → EndsSession settings e → IsFailure arguments e
    not_helped : AskForHelp arguments → IsFaultOfOutput e → AppendsFront old new HELP.now → IsFailure arguments e
    not_versioned : AskForVersion arguments → IsFaultOfOutput e → AppendsFront old new VERSION.now → IsFailure arguments e
