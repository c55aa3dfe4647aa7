-- The limits on the objects of a source, which are asked about only where no typing rule is broken (docs/LANGUAGE.md,
-- "Limits").
use Rattle.std.specs.Prelude.{ℕ, ◌-◌, nat_le, Bool, true, false, if◌then◌else◌, List, [], ◌∷◌, Option, Some, None}
use Rattle.upc_text.specs.declared.place.Place.{Place}
use Rattle.upc_tree.specs.Unit.{External}
use Rattle.upc_types.specs.declared.layout.Layout.{Layout}
use Rattle.upc_types.specs.Types.{Structs, base_of}
use Rattle.upc_types.specs.Layout.{base_within}
use Rattle.typing_rules.specs.declared.setting.Home.{Home}
use Rattle.typing_rules.specs.declared.setting.Home.TheVariants.{Shared}
use Rattle.typed_tree.specs.Scopes.{begin}
use Rattle.typed_tree.specs.Objects.{is_shared}
use Rattle.typed_tree.specs.Tree.{DeclaredObject}
use Rattle.upc_checker_scopes.specs.Walk.{Walked}
use Rattle.upc_checker.specs.Units.{Made, setting, walk_unit}

-- Whether an object of the file is not shared (UPC 6.5.1.1).
abbrev pub is_private : Home → Bool
is_private (Shared object) = false
is_private home = true

-- What is left of the room after an object of this layout, none where the object has more bytes. One without a layout
-- leaves none either: it is incomplete, or has more bytes than an object can have, and rules 6 and 8 refuse it before.
abbrev pub left_by : Option Layout → ℕ → Option ℕ
left_by None room = None
left_by (Some l) room = if nat_le l.size room then Some (room - l.size) else None

-- What is left of the room for objects of one sort after an object, which takes none where it is of another sort.
abbrev pub left_behind : Structs → (Home → Bool) → ℕ → DeclaredObject → Option ℕ
left_behind structs counts room x =
    if counts x.home then left_by (base_within structs.completed (base_of x.ctype)) room else Some room

-- Whether an object has more bytes than the room that there was.
abbrev pub is_over : Option ℕ → Bool
is_over None = true
is_over (Some room) = false

-- The room that is left after an object, 0 where the object has more bytes than there was.
abbrev pub room_in : Option ℕ → ℕ
room_in None = 0
room_in (Some room) = room

-- The first declaration whose objects of one sort have, with all before it, more bytes than there is room for.
abbrev pub first_over : Structs → (Home → Bool) → ℕ → List DeclaredObject → Option Place
first_over structs counts room [] = None
first_over structs counts room (x ∷ xs) =
    if is_over (left_behind structs counts room x)
    then Some x.at
    else first_over structs counts (room_in (left_behind structs counts room x)) xs

-- A limit that is passed, by its number, and the place where it is (C99 5.2.4.1).
pub record Passed : Type 0 where
  pub limit : ℕ
  pub at : Place

-- The limit with this number at the place where it is passed, or a later one where it is not passed.
abbrev pub passed_or : ℕ → Option Place → Option Passed → Option Passed
passed_or n None later = later
passed_or n (Some place) later = Some (record { limit = n; at = place })

-- The first limit that is passed: 4 by more than 1,048,576 bytes of private objects of the file, 5 by more than
-- 16,777,216 bytes of shared objects, 7 by more than 65,535 structs, objects, parameters of definitions and functions
-- in all (C99 5.2.4.1).
abbrev pub limit_by : Structs → Option Place → List DeclaredObject → Option Passed
limit_by structs above objects =
    passed_or 4 (first_over structs is_private 1048576 objects)
    (passed_or 5 (first_over structs is_shared 16777216 objects)
    (passed_or 7 above None))

-- The first of the limits 4, 5 and 7 that a source passes, by the walk over it (C99 5.2.4.1).
abbrev pub limit_in : Walked Made → Option Passed
limit_in w = limit_by w.state.structs w.state.above w.value.objects

-- The first of the limits 4, 5 and 7 that a source passes (C99 5.2.4.1).
abbrev pub unit_passed : List (List ℕ) → ℕ → List External → Option Passed
unit_passed names threads unit = limit_in (walk_unit (setting names threads unit) unit begin)
