-- What a library call does: it gives a value, ends by a run error, or takes one step and goes on by what that answers.
use Rattle.std.specs.Prelude.{ℕ, pos, Bool, cond, List, [], ◌∷◌}
use Rattle.block_layout.specs.declared.place.Loc.{Loc}
use Rattle.block_layout.specs.declared.place.LocalPtr.{LocalPtr}
use Rattle.block_layout.specs.declared.kind.Kind.{Kind}
use Rattle.upc_values.specs.declared.scalar.Scalar.{Scalar}
use Rattle.upc_values.specs.declared.scalar.Scalar.TheVariants.{Int}
use Rattle.upc_values.specs.declared.scalar.Mark.TheVariants.{Absent}
use Rattle.upc_values.specs.declared.action.Action.{Action}
use Rattle.upc_values.specs.declared.action.Action.TheVariants as act
use Rattle.upc_values.specs.declared.action.Reply.{Reply}
use Rattle.upc_values.specs.declared.action.Reply.TheVariants.{Value, Refused}

-- A library call, from one moment on: a value, a run error, or a step and what follows each answer to it.
pub data Expansion (A : Type 0) : Type 0 where
  Gives : (value : A) → Expansion A
  -- a run error, by its code
  Fails : (code : ℕ) → Expansion A
  -- a relaxed read of a cell of this kind
  Reads : (loc : Loc) (kind : Kind) → (Scalar → Expansion A) → Expansion A
  -- any other action
  Asks : (action : Action) → (Reply → Expansion A) → Expansion A
  -- a read and a write of a private cell, which are no actions
  Loads : (place : LocalPtr) (kind : Kind) → (Scalar → Expansion A) → Expansion A
  Stores : (place : LocalPtr) (kind : Kind) (value : Scalar) → Expansion A → Expansion A

-- First one part of a call, and then what its value leads to.
abbrev pub bind : {A B : Type 0} → Expansion A → (A → Expansion B) → Expansion B
bind (Gives v) go = go v
bind (Fails c) go = Fails c
bind (Reads l k after) go = Reads l k (λ v. bind (after v) go)
bind (Asks a after) go = Asks a (λ r. bind (after r) go)
bind (Loads p k after) go = Loads p k (λ v. bind (after v) go)
bind (Stores p k v after) go = Stores p k v (bind after go)

-- A call that does nothing.
abbrev pub nothing : Expansion (Unit {0})
nothing = Gives tt

-- An action whose reply says no more than whether it was refused, which is its run error.
abbrev pub does : Action → Expansion (Unit {0})
does a = Asks a (λ r. elim r [ Refused c ↦ Fails c | _ ↦ nothing ])

-- A notify and a wait without a value (UPC 6.6.1).
abbrev pub barrier : Expansion (Unit {0})
barrier = bind (does (act.Notify Absent)) (λ u. does (act.Wait Absent))

-- What f does for each member of a list, one after another.
abbrev pub each_in_turn : {X : Type 0} → (X → Expansion (Unit {0})) → List X → Expansion (Unit {0})
each_in_turn f [] = nothing
each_in_turn f (x ∷ xs) = bind (f x) (λ u. each_in_turn f xs)

-- What f gives for each member of a list, in order.
abbrev pub gathered : {X Y : Type 0} → (X → Expansion Y) → List X → Expansion (List Y)
gathered f [] = Gives []
gathered f (x ∷ xs) = bind (f x) (λ y. bind (gathered f xs) (λ ys. Gives (y ∷ ys)))

-- Tests with their run errors: the first that holds decides, and where none does the call goes on.
abbrev pub refused_by : {A : Type 0} → List (Bool × ℕ) → Expansion A → Expansion A
refused_by [] go = go
refused_by (x ∷ xs) go = cond x.0 (Fails x.1) (refused_by xs go)

-- The value that a reply gives; 0 where it gives none.
abbrev pub value_in : Reply → Scalar
value_in (Value v) = v
value_in r = Int (pos 0)

-- What is left of a call after one reply; the value of a private cell is handed in as a reply.
abbrev pub after_reply : {A : Type 0} → Expansion A → Reply → Expansion A
after_reply (Gives v) r = Gives v
after_reply (Fails c) r = Fails c
after_reply (Reads l k after) r = after (value_in r)
after_reply (Asks a after) r = after r
after_reply (Loads p k after) r = after (value_in r)
after_reply (Stores p k v after) r = after

-- What is left of a call after some replies, in order.
abbrev pub after_replies : {A : Type 0} → Expansion A → List Reply → Expansion A
after_replies x [] = x
after_replies x (r ∷ rs) = after_replies (after_reply x r) rs
