-- When the tests of the compiler hold, each of which answers want of memory where it fails.
use Rattle.std.specs.Prelude.{◌≡◌, ℕ, ◌+◌, ◌≤◌, true, false, List, length, Some, slice_get}
use Rattle.std.specs.Option.{ForSome}
use Rattle.upc_values.specs.Lists.{Each}
use Rattle.upc_values.specs.Openings.{IsOpening}
use Rattle.upc_types.specs.Types.{CType, Base, Pointer, Completed, base_of}
use Rattle.upc_types.specs.Layout.{known_in}
use Rattle.upc_types.specs.Cells.{leaf_base}
use Rattle.upc_types.specs.layer.Kept.{IsFine}
use Rattle.typing_rules.specs.Constants.{IsWithin}
use Rattle.typing_rules.specs.Library.{is_allocation}
use Rattle.typing_rules.specs.Nodes.{Attr}
use Rattle.typing_rules.specs.Rules.{has_size}
use Rattle.typing_rules.specs.Values.{is_array, base_target}
use Rattle.typed_tree.specs.Allocated.{allocated_in}
use Rattle.typed_tree.specs.Beginnings.{opening_in}
use Rattle.typed_tree.specs.LocalObjects.{objects_in}
use Rattle.typed_tree.specs.Programs.{Checked, start_of, count_of, most_declared}
use Rattle.typed_tree.specs.Tree.{ExprKind, Call}
use Rattle.typed_tree.specs.declared.tree.Target.TheVariants as target
use Rattle.typed_tree.specs.layer.PrivateOpenings.{IsPrivateOpening}
use Rattle.typed_tree.specs.layer.TypedNodes.{MeetsRules}
use Rattle.stack_code.specs.layer.Codes.{function_at}
use Rattle.stack_code.specs.layer.Depths.{LandsOf}
use Rattle.stack_code.specs.layer.Kept.{IsCode}
use Rattle.gen_stmt.specs.layer.Enters.{EntersWithin, OnObject}
use Rattle.gen_stmt.specs.layer.Programs.{program_code}
use Rattle.meaning_laws.specs.layer.Formed.{MakesSized}
use Rattle.meaning_laws.specs.layer.FormedStatements.{IsFormedFunction}
use Rattle.meaning_laws.specs.layer.Values.{HasIntegerKind}
use Rattle.meaning_laws_accepted.specs.layer.Throughout.{ThroughoutStatement}

-- Each struct that is complete has a size that an object can have.
abbrev pub AreFine : List Completed → Type 0
AreFine completed = (n : ℕ) → ForSome (known_in completed n) (λ k. IsFine k.layout)

-- What every program that the compiler is given keeps: its nodes meet the typing rules, what it begins with is an
-- opening and fits the private objects of the file, its structs have sizes that an object can have, its constants are
-- values of integer kinds, and there are no more declarations than limit 7 allows.
pub record IsRanged (program : Checked) : Type 0 where
  pub rules : MeetsRules program
  pub opening : IsOpening (opening_in program.threads (start_of program))
  pub private : IsPrivateOpening program.threads (start_of program)
  pub layouts : AreFine program.structs.completed
  pub constants : Each (λ f. ThroughoutStatement (λ a kind. IsWithin a.constant) f.body) program.functions
  pub count : count_of program ≤ most_declared

-- A type, seen without its qualifiers, is no pointer to an array: no declaration and no cast of the grammar forms one
-- (docs/LANGUAGE.md).
abbrev pub LeadsToNoArray : Base → Type 0
LeadsToNoArray (Pointer t) = is_array t ≡ false
LeadsToNoArray b = Unit {0}

-- The types in the functions of a program are formed, those of the objects that they declare too: where the leaf
-- elements of one are integers, they are of a kind of integers (C99 6.2.5). None of an expression is a pointer to an
-- array.
pub record HasFormedTypes (program : Checked) : Type 0 where
  pub functions : Each (IsFormedFunction (MakesSized program)) program.functions
  pub objects :
      Each (λ f. Each (λ x. HasIntegerKind (leaf_base (base_of x.ctype))) (objects_in f.body)) program.functions
  pub pointers : Each (λ f. ThroughoutStatement (λ a kind. LeadsToNoArray (base_of a.ctype)) f.body) program.functions

-- What is allocated has a layout, where an expression is a call that allocates shared memory (UPC 7.2.2).
abbrev pub AllocatesLaid : Checked → Attr → ExprKind → Type 0
AllocatesLaid program attr (Call (target.Library c) args) =
    is_allocation c ≡ true
    → (t : CType) × (base_target (base_of attr.ctype) ≡ Some t) × (has_size program.structs t ≡ true)
AllocatesLaid program attr kind = Unit {0}

-- The tests by which the code of a program is made hold.
pub record PassesTests (program : Checked) : Type 0 where
  -- It is all that code is. What an instruction names is in range, as `append_all` asks: an operator works at integer
  -- kinds, and a step over elements goes over at most 16,777,216 leaf elements at a time, which 32 bits hold.
  pub code : IsCode (program_code program)
  -- No block begins after more objects of its function in scope than limit 7 allows to be declared, and so after no
  -- more than 32 bits hold.
  pub enters : Each (Each (λ i. OnObject (EntersWithin most_declared) i.does)) (program_code program).functions
  -- An instruction leads to places of its function: a way out passes fewer instructions than the function has.
  pub ways :
      (number place : ℕ)
      → LandsOf place (length (function_at (program_code program).functions number))
      (slice_get (function_at (program_code program).functions number) place)
  -- The program has a shape at most for each declaration and for each call that allocates.
  pub shapes :
      length (program_code program).shapes
      ≤ most_declared + length (allocated_in program.structs program.functions)
  -- What a call allocates has a layout.
  pub allocations : Each (λ f. ThroughoutStatement (AllocatesLaid program) f.body) program.functions
