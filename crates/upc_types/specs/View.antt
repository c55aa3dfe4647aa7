-- The types of the code, seen without where they lie in memory.
use Rattle.std.specs.Prelude.{map}
use Rattle.upc_types.specs.declared.ctype.CType as ctype_type
use Rattle.upc_types.specs.declared.ctype.Base.TheVariants as base_type
use Rattle.upc_types.specs.declared.ctype.Base.{Base}
use Rattle.upc_types.specs.declared.structs.Member as member_type
use Rattle.upc_types.specs.declared.structs.Completed as completed
use Rattle.upc_types.specs.Types as types_spec

-- A type of the code without its own qualifiers, seen without where it lies in memory.
abbrev pub view_base : Base → types_spec.Base
view_base base_type.Void = types_spec.Void
view_base (base_type.Integer kind) = types_spec.Integer kind
view_base (base_type.Struct number) = types_spec.Struct number
view_base (base_type.Array element count) = types_spec.Array element count
view_base (base_type.Pointer target) = types_spec.Pointer target
view_base base_type.LockObject = types_spec.LockObject

-- A type of the code with its qualifiers, seen without where it lies in memory.
abbrev pub view : ctype_type.CType → types_spec.CType
view x = types_spec.Qualified (view_base x.base) x.constant x.shared x.access

-- A member of a struct of the code, seen without where its name and its type lie in memory.
abbrev pub view_member : member_type.Member → types_spec.Member
view_member x = record { name = x.name; ctype = view x.ctype }

-- A complete struct of the code, seen without where it lies in memory: its number and its members.
abbrev pub view_completed : completed.Completed → types_spec.Completed
view_completed x = record { number = x.number; members = map view_member x.members.items }
