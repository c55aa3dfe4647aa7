-- What code pushes, and which shared objects it names.
use Rattle.std.specs.Prelude.{◌≡◌, Bool, true, ◌||◌, List}
use Rattle.std.specs.List.{list_any}
use Rattle.block_layout.specs.declared.place.LocalPtr.TheVariants as local
use Rattle.block_layout.specs.declared.place.ObjectRef.{ObjectRef}
use Rattle.block_layout.specs.Pointers.{is_null, same_object}
use Rattle.upc_values.specs.declared.scalar.Scalar.TheVariants.{Shared}
use Rattle.upc_values.specs.declared.scalar.Value.{Value}
use Rattle.upc_values.specs.declared.scalar.Value.TheVariants as value
use Rattle.upc_values.specs.Lists.{Each}
use Rattle.stack_code.specs.declared.instruction.StackWork.{StackWork}
use Rattle.stack_code.specs.declared.instruction.StackWork.TheVariants.{Push}
use Rattle.stack_code.specs.declared.instruction.Operation.{Operation}
use Rattle.stack_code.specs.declared.instruction.Operation.TheVariants as work
use Rattle.stack_code.specs.layer.Codes.{Codes}

-- P holds of the value that work on the stack pushes, if it pushes one.
abbrev pub PushedBy : (Value → Type 0) → StackWork → Type 0
PushedBy P (Push v) = P v
PushedBy P w = Unit {0}

-- P holds of the value that an operation pushes, if it pushes one.
abbrev pub Pushes : (Value → Type 0) → Operation → Type 0
Pushes P (work.Stack w) = PushedBy P w
Pushes P w = Unit {0}

-- Whether a value names no shared object but these: where it leads into shared space it is null, or leads into one of
-- them.
abbrev pub names_among : List ObjectRef → Value → Bool
names_among objects (value.Scalar (Shared p)) = is_null p || list_any (same_object p.object) objects
names_among objects (value.Local (local.Shared object thread offset)) = list_any (same_object object) objects
names_among objects v = true

-- The value names no shared object but these.
abbrev pub NamesAmong : List ObjectRef → Value → Type 0
NamesAmong objects v = names_among objects v ≡ true

-- Code that names no shared object but these: neither in what its instructions push nor in the initial values of the
-- private objects of the file.
pub record NamesOnly (objects : List ObjectRef) (codes : Codes) : Type 0 where
  pub pushed : Each (Each (λ i. Pushes (NamesAmong objects) i.does)) codes.functions
  pub initials : Each (λ x. NamesAmong objects x.1) codes.private_initials
