-- What a name stands for (C99 6.2.1, 6.2.3).
use Rattle.std.specs.Prelude.{List}
use Rattle.upc_types.specs.Types.{CType}
use Rattle.typing_rules.specs.declared.setting.Home.{Home}
use Rattle.upc_values.specs.declared.library.LibraryCall.{LibraryCall}
use Rattle.typing_rules.specs.declared.library.LibraryConstant.{LibraryConstant}

-- What a function gives and takes: the types of its result and of its parameters (C99 6.7.5.3).
pub record Signature : Type 0 where
  pub result : CType
  pub parameters : List CType

-- What a name stands for: nothing that is declared, an object with the place where it lies, a function, a call of the
-- library, or a named constant of the library (C99 6.2.1, 6.2.3).
pub data Meaning : Type 0 where
  Unknown : Meaning
  Object : (t : CType) (home : Home) → Meaning
  Function : (signature : Signature) → Meaning
  Library : (call : LibraryCall) → Meaning
  Named : (constant : LibraryConstant) → Meaning
