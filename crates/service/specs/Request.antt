-- Searches whose patterns were read.
use Rattle.prepare.specs.declared.pattern.Prepared.{Prepared}
use Rattle.script.specs.Items.{Item}

-- A search, and what it asks for, read.
pub record Asked : Type 0 where
  pub item : Item
  pub prepared : Prepared
