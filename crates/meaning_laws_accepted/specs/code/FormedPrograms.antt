-- Programs whose types are formed as declarations form them.
use Rattle.upc_values.specs.Lists.{Each}
use Rattle.typed_tree.specs.Programs.{Checked}
use Rattle.meaning_laws.specs.layer.Formed.{MakesSized}
use Rattle.meaning_laws.specs.layer.FormedStatements.{AreFormedObjects, IsFormedFunction}

-- The types in a program are formed: those of its objects, and those in their initialisers and in its functions; and
-- each call in it that allocates makes elements of a size (C99 6.2.5; UPC 6.5.1.1, 7.2.2).
pub record IsFormedProgram (x : Checked) : Type 0 where
  pub objects : AreFormedObjects (MakesSized x) x.objects
  pub functions : Each (IsFormedFunction (MakesSized x)) x.functions
