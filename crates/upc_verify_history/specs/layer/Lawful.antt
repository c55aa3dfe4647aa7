-- A lawful entry.
use Rattle.std.specs.Prelude.{◌≡◌, List, Some}
use Rattle.upc_values.specs.declared.journal.Entry.{Entry}
use Rattle.upc_values.specs.Openings.{Opening}
use Rattle.upc_values.specs.History.{reply}
use Rattle.upc_values.specs.Formed.{IsWellFormed}

-- The entry is well formed and has its lawful reply after these entries.
pub record IsLawful (o : Opening) (before : List Entry) (e : Entry) : Type 0 where
  pub formed : IsWellFormed o before e.action
  pub legal : reply o before e.thread e.action ≡ Some e.reply
