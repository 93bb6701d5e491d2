-- Known bytes have one list of items.
use Rattle.std.proofs.Common.{sym, subst}
use Rattle.script.proofs.OneReading.{one_reading}
use Rattle.input.specs.Read.{AreShown}
use Rattle.input.specs.ReadLaws.{ReadItemsAreAll, ReadItemsAreFirst}

pub first_items : ReadItemsAreFirst
first_items bytes read all is items = (is.items, is.others, one_reading 1 bytes _ _ items is.first, is.shown)

pub all_items : ReadItemsAreAll
all_items bytes read all is items = subst (AreShown read) (sym (one_reading 1 bytes _ _ items is.all)) is.shown
