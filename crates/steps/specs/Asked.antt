-- What searches ask for, and why they are refused when they are taken.
use Rattle.std.specs.Prelude.{◌≡◌, ◌≢◌, ℕ, zero, suc, List}
use Rattle.std.specs.declared.vec.Vec.{Vec}
use Rattle.std.specs.declared.alloc.Global.{Global}
use Rattle.ere.specs.declared.case.Case.{Case}
use Rattle.ere.specs.declared.case.Case.TheVariants.{Exact}
use Rattle.ere.specs.declared.error.EreError.{EreError}
use Rattle.ere.specs.declared.error.EreErrorKind.TheVariants as kind
use Rattle.request.specs.Faults.{IsFirstFault, reason_of}
use Rattle.request.specs.Find.{IsFindOf, Options}
use Rattle.request.specs.declared.fault.FindFault.{FindFault}
use Rattle.request.specs.declared.fault.FindFault.TheVariants as find_fault
use Rattle.prepare.specs.Pattern.{Pattern, IsPatternOf, IsPatternWithin, IsTreeFault, HasTree}
use Rattle.prepare.specs.Request.{IsRequestFault, IsRequestOf, Request, all_lines_of}
use Rattle.script.specs.Items.{Item, search, search_in, find}
use Rattle.transcript.specs.declared.entry.SearchReason.{SearchReason}
use Rattle.transcript.specs.declared.entry.SearchReason.TheVariants as reason

-- what a search asks for: with options what they say, and otherwise all lines
abbrev pub Asks : Item → Request → Type 0
Asks (search case text) request = (pattern : Pattern) × IsPatternOf case text pattern × (request ≡ all_lines_of pattern)
Asks (search_in case name_text text) request = (pattern : Pattern) × IsPatternWithin case name_text text pattern × (request ≡ all_lines_of pattern)
Asks (find text) request = (options : Options) × (pattern : List ℕ) × IsFindOf text options pattern × IsRequestOf options pattern request
Asks _ request = ⊥

-- Why a search is refused when it is taken: the fault of its pattern, or lack of memory.
pub data IsFaultOfSearch (case : Case) (text : List ℕ) (why : SearchReason) : Type 0 where
  no_memory : why ≡ reason.OutOfMemory → IsFaultOfSearch case text why
  bad_pattern : (fault : EreError) → fault.kind ≢ kind.OutOfMemory → IsTreeFault case text fault → why ≡ reason.Pattern fault → IsFaultOfSearch case text why

-- The name pattern is looked at first. Its case always counts.
pub data IsFaultOfSearchIn (case : Case) (name_text text : List ℕ) (why : SearchReason) : Type 0 where
  no_memory : why ≡ reason.OutOfMemory → IsFaultOfSearchIn case name_text text why
  bad_name_pattern : (fault : EreError) → fault.kind ≢ kind.OutOfMemory → IsTreeFault Exact name_text fault → why ≡ reason.NamePattern fault
      → IsFaultOfSearchIn case name_text text why
  bad_pattern : (fault : EreError) → fault.kind ≢ kind.OutOfMemory → HasTree Exact name_text → IsTreeFault case text fault → why ≡ reason.Pattern fault
      → IsFaultOfSearchIn case name_text text why

-- The words before the pattern are looked at first, from the left; then the patterns of names, in their order; then the pattern.
pub data IsFaultOfFind (text : List ℕ) (why : SearchReason) : Type 0 where
  no_memory : why ≡ reason.OutOfMemory → IsFaultOfFind text why
  bad_words : (fault : FindFault) (words : Vec ℕ Global) → fault ≢ find_fault.OutOfMemory → IsFirstFault text fault → words.items ≡ reason_of fault
      → why ≡ reason.Options words → IsFaultOfFind text why
  bad_name_pattern : (options : Options) (pattern : List ℕ) (at : ℕ) (fault : EreError) → fault.kind ≢ kind.OutOfMemory
      → IsFindOf text options pattern → IsRequestFault options pattern (suc at) fault → why ≡ reason.NamePatternAt (suc at) fault → IsFaultOfFind text why
  bad_pattern : (options : Options) (pattern : List ℕ) (fault : EreError) → fault.kind ≢ kind.OutOfMemory
      → IsFindOf text options pattern → IsRequestFault options pattern zero fault → why ≡ reason.Pattern fault → IsFaultOfFind text why

abbrev pub IsFaultOf : Item → SearchReason → Type 0
IsFaultOf (search case text) why = IsFaultOfSearch case text why
IsFaultOf (search_in case name_text text) why = IsFaultOfSearchIn case name_text text why
IsFaultOf (find text) why = IsFaultOfFind text why
IsFaultOf _ why = ⊥
