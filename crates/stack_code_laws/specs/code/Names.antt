-- Which objects and locks a thread was given the names of, and what its actions name.
use Rattle.std.specs.Prelude.{ℕ, ◌≡◌, ◌==◌, Bool, true, ◌||◌, cond, List, ◌++◌, Option, Some, None}
use Rattle.std.specs.List.{list_any, filter_map}
use Rattle.block_layout.specs.declared.place.ObjectRef.{ObjectRef}
use Rattle.block_layout.specs.Pointers.{is_null, same_object}
use Rattle.upc_values.specs.declared.scalar.Scalar.{Scalar}
use Rattle.upc_values.specs.declared.scalar.Scalar.TheVariants as scalar
use Rattle.upc_values.specs.declared.action.Action.{Action}
use Rattle.upc_values.specs.declared.action.Action.TheVariants.{Read, Write, Lock, Attempt, Unlock, LockFree, Free}
use Rattle.upc_values.specs.declared.action.Action.TheVariants.{Meet}
use Rattle.upc_values.specs.declared.action.Reply.{Reply}
use Rattle.upc_values.specs.declared.action.Reply.TheVariants.{Value}
use Rattle.upc_values.specs.Lists.{Each}
use Rattle.upc_values.specs.History.{pointer_of}

-- The object that a reply names, by a pointer that is not null.
abbrev pub object_in : Reply → Option ObjectRef
object_in r = elim (pointer_of r) [ Some p ↦ Some p.object | None ↦ None ]

-- The lock that a reply gives, if it is not null.
abbrev pub lock_in : Reply → Option ℕ
lock_in (Value (scalar.Lock l)) = cond (l == 0) None (Some l)
lock_in r = None

-- The objects that a thread may name: those that its code names, and those that replies named.
abbrev pub objects_given : (named : List ObjectRef) → List Reply → List ObjectRef
objects_given named replies = named ++ filter_map object_in replies

-- Among the objects that a thread may name is one with this number.
abbrev pub is_object_given : (named : List ObjectRef) → List Reply → ℕ → Bool
is_object_given named replies n = list_any (λ x. x.number == n) (objects_given named replies)

-- One of the replies gave this lock.
abbrev pub is_lock_given : List Reply → ℕ → Bool
is_lock_given replies l = list_any (λ k. k == l) (filter_map lock_in replies)

-- What a scalar names was given: it is a number, a pointer that is null or leads into an object that was given, which
-- it names in every field, or a lock that is null or was given.
abbrev pub is_given : (named : List ObjectRef) → List Reply → Scalar → Bool
is_given named replies (scalar.Int v) = true
is_given named replies (scalar.Shared p) = is_null p || list_any (same_object p.object) (objects_given named replies)
is_given named replies (scalar.Lock l) = (l == 0) || is_lock_given replies l

-- What an action names was given: the object of its location, each pointer and each lock in its value or arguments, and
-- the lock that it works on, which is not null.
abbrev pub NamesGiven : (named : List ObjectRef) → List Reply → Action → Type 0
NamesGiven named replies (Read l s) = is_object_given named replies l.object ≡ true
NamesGiven named replies (Write s l v) =
    (is_object_given named replies l.object ≡ true) × (is_given named replies v ≡ true)
NamesGiven named replies (Lock l) = is_lock_given replies l ≡ true
NamesGiven named replies (Attempt l) = is_lock_given replies l ≡ true
NamesGiven named replies (Unlock l) = is_lock_given replies l ≡ true
NamesGiven named replies (LockFree l) = is_lock_given replies l ≡ true
NamesGiven named replies (Free p) = is_given named replies (scalar.Shared p) ≡ true
NamesGiven named replies (Meet c args) = Each (λ v. is_given named replies v ≡ true) args
NamesGiven named replies a = Unit {0}
