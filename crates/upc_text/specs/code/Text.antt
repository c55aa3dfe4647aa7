-- The bytes of a text, whoever holds them.
use Rattle.std.specs.Prelude.{ℕ, List}
use Rattle.upc_text.specs.declared.text.Bytes.{Bytes}
use Rattle.upc_text.specs.declared.text.Bytes.TheVariants.{Own, Shared}

-- The bytes, of the text's own or shared.
abbrev pub bytes_of : Bytes → List ℕ
bytes_of (Own own) = own.items
bytes_of (Shared shared) = shared.value.items
