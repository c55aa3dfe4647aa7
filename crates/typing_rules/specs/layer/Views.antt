-- What contracts see of types, meanings and uses, without where they lie in memory.
use Rattle.std.specs.Prelude.{ℕ, List, map, Option, Some, None}
use denote.Ref.{Bor}
use Rattle.upc_types.specs.declared.ctype.CType as ctype_type
use Rattle.upc_types.specs.Types.{CType}
use Rattle.upc_types.specs.View.{view}
use Rattle.typing_rules.specs.declared.meaning.Signature as signatures
use Rattle.typing_rules.specs.declared.meaning.Meaning.{Meaning}
use Rattle.typing_rules.specs.declared.meaning.Meaning.TheVariants as meaning_variant
use Rattle.typing_rules.specs.declared.meaning.Use.{Use}
use Rattle.typing_rules.specs.declared.meaning.Use.TheVariants as use_variant
use Rattle.typing_rules.specs.declared.meaning.Formed as formed
use Rattle.typing_rules.specs.declared.meaning.Around as around
use Rattle.typing_rules.specs.Meanings as pure
use Rattle.typing_rules.specs.Nodes as nodes

-- The target of a pointer, if there is one, seen without where it lies in memory.
abbrev pub view_target : Option (Bor ctype_type.CType) → Option CType
view_target None = None
view_target (Some t) = Some (view t.now)

-- The bytes of a text, if there is one, seen without where they lie in memory.
abbrev pub view_text : Option (Bor (List ℕ)) → Option (List ℕ)
view_text None = None
view_text (Some text) = Some text.now

-- The types of a function's result and parameters, seen without where they lie in memory.
abbrev pub view_signature : signatures.Signature → pure.Signature
view_signature x = record { result = view x.result; parameters = map view x.parameters.items }

-- What a name stands for, seen without where its type lies in memory.
abbrev pub view_meaning : Meaning → pure.Meaning
view_meaning meaning_variant.Unknown = pure.Unknown
view_meaning (meaning_variant.Object t home) = pure.Object (view t.now) home
view_meaning (meaning_variant.Function signature) = pure.Function (view_signature signature.now)
view_meaning (meaning_variant.Library call) = pure.Library call
view_meaning (meaning_variant.Named constant) = pure.Named constant

-- What the node above does with an expression, seen without where a type lies in memory.
abbrev pub view_use : Use → nodes.Use
view_use use_variant.Plain = nodes.Plain
view_use use_variant.Called = nodes.Called
view_use use_variant.Indexed = nodes.Indexed
view_use use_variant.Measured = nodes.Measured
view_use use_variant.Prints = nodes.Prints
view_use (use_variant.Into t) = nodes.Into (view t.now)

-- A type name, or what a declarator declares, seen without where it lies in memory.
abbrev pub view_formed : formed.Formed → nodes.Formed
view_formed x = record { forms = x.forms; ctype = view x.ctype; sizes = x.sizes.items }

-- What a jump or a return stands in, seen without where the type of the result lies in memory.
abbrev pub view_around : around.Around → nodes.Around
view_around x = record { result = view x.result.now; breaks = x.breaks; loops = x.loops; forall = x.forall }
