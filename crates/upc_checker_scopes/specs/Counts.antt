-- How many structs, objects, parameters of definitions and functions there are (docs/LANGUAGE.md, "Limits").
use Rattle.std.specs.Prelude.{ℕ, ◌+◌, nat_lt, if◌then◌else◌, length, Option, Some, None}
use Rattle.upc_text.specs.declared.place.Place.{Place}
use Rattle.typed_tree.specs.Scopes.{Setting, State}
use Rattle.typing_rules.specs.Nodes.{Node, DeclaresObject, Specifies, Defines}

-- The first of two places that may be absent.
abbrev pub or_place : Option Place → Option Place → Option Place
or_place None later = later
or_place (Some place) later = Some place

-- What is known after so many more objects, parameters of definitions and functions have come.
abbrev pub with_more : ℕ → State → State
with_more n s = record s { come = s.come + n }

-- What is known where a declaration, the declaration of a member or a definition ends: its place is kept where it is
-- the first up to whose end there are more structs, objects, parameters of definitions and functions than there may be
-- (C99 5.2.4.1).
abbrev pub ended : ℕ → Place → State → State
ended most at s =
    record s { above = or_place s.above (if nat_lt most (s.come + s.structs.declared) then Some at else None) }

-- What is known after a node: an object has come with it, or a function with its parameters, and a declaration or a
-- definition may have ended. A prototype brings nothing, nor does a parameter by itself.
abbrev pub counted : Setting → Place → Node → State → State
counted ξ at (DeclaresObject again file t) s = with_more 1 s
counted ξ at (Specifies forms) s = ended ξ.most at s
counted ξ at (Defines again differs forms signature) s = ended ξ.most at (with_more (1 + length signature.parameters) s)
counted ξ at x s = s
