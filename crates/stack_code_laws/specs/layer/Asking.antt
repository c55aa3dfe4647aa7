-- What code may name, and what it is to ask well.
use Rattle.std.specs.Prelude.{ℕ, ℤ, ◌≡◌, ◌<◌, ◌≤◌, nat_lt, Bool, true, false, ◌&&◌, List, [], ◌∷◌, ◌++◌, length}
use Rattle.std.specs.List.{list_any}
use Rattle.block_layout.specs.declared.place.ObjectRef.{ObjectRef}
use Rattle.block_layout.specs.declared.place.LocalPtr.TheVariants as local
use Rattle.block_layout.specs.Places.{in_range}
use Rattle.block_layout.specs.Pointers.{same_object}
use Rattle.upc_values.specs.declared.scalar.Value.{Value}
use Rattle.upc_values.specs.declared.scalar.Value.TheVariants as value
use Rattle.upc_values.specs.declared.action.Action.{Action}
use Rattle.upc_values.specs.declared.action.Reply.{Reply}
use Rattle.upc_values.specs.declared.record.ToldEnd.TheVariants.{Wants, Misfit}
use Rattle.upc_values.specs.declared.journal.Entry.{Entry}
use Rattle.upc_values.specs.Lists.{Each}
use Rattle.upc_values.specs.Openings.{Opening, IsOpening}
use Rattle.upc_values.specs.History.{objects}
use Rattle.upc_values.specs.Formed.{is_known, IsWellFormed, fits_after}
use Rattle.upc_values.specs.layer.Known.{HasGiven}
use Rattle.upc_values.specs.Outcomes.{Outcome}
use Rattle.stack_code.specs.declared.instruction.StackWork.{StackWork}
use Rattle.stack_code.specs.declared.instruction.StackWork.TheVariants.{Push}
use Rattle.stack_code.specs.declared.instruction.Operation.{Operation}
use Rattle.stack_code.specs.declared.instruction.Operation.TheVariants as work
use Rattle.stack_code.specs.declared.instruction.Instr.{Instr}
use Rattle.stack_code.specs.layer.Codes.{Codes}
use Rattle.stack_code.specs.layer.Kept.{IsCode}
use Rattle.stack_code.specs.layer.Names.{NamesOnly}
use Rattle.stack_code.specs.layer.Outcomes.{CodeMeans}
use Rattle.stack_code_laws.specs.code.Names.{NamesGiven}

-- ---- values

-- A place in the piece of an object that a thread has, where the object is one that the history knows, the thread is
-- one of the run, and the offset is in range.
abbrev pub names : Opening → List Entry → (object : ObjectRef) (thread : ℕ) (offset : ℤ) → Bool
names o before object thread offset =
    list_any (same_object object) (objects o before) && (nat_lt thread o.threads && in_range offset)

-- A value of a program that is known after a history: a pointer-to-shared is null or names an object of the history, a
-- pointer-to-local that leads into shared space names one too, and a lock is null or made.
abbrev pub IsKnownValue : Opening → List Entry → Value → Type 0
IsKnownValue o before (value.Scalar v) = is_known o before v ≡ true
IsKnownValue o before (value.Local (local.Shared object thread offset)) = names o before object thread offset ≡ true
IsKnownValue o before (value.Local p) = Unit {0}

-- ---- code

-- Work on the stack that pushes no value, or one that is known before any action.
abbrev pub PushesKnown : Opening → StackWork → Type 0
PushesKnown o (Push v) = IsKnownValue o [] v
PushesKnown o w = Unit {0}

-- An operation that pushes no value, or one that is known before any action.
abbrev pub NamesKnown : Opening → Operation → Type 0
NamesKnown o (work.Stack w) = PushesKnown o w
NamesKnown o w = Unit {0}

-- An instruction that pushes no value, or one that is known before any action.
abbrev pub IsDeclaredIn : Opening → Instr → Type 0
IsDeclaredIn o i = NamesKnown o i.does

-- Code for what an opening begins with: it has the opening's threads and shapes, and names no shared object but the
-- declared ones.
pub record IsCodeFor (o : Opening) (codes : Codes) : Type 0 where
  pub threads : codes.threads ≡ o.threads
  pub shapes : codes.shapes ≡ o.shapes
  pub names : NamesOnly o.declared codes

-- Code that names nothing but what an opening declares.
pub record NamesDeclared (o : Opening) (codes : Codes) : Type 0 where
  pub threads : codes.threads ≡ o.threads
  pub shapes : codes.shapes ≡ o.shapes
  pub pushed : Each (Each (IsDeclaredIn o)) codes.functions
  pub initials : Each (λ x. IsKnownValue o [] x.1) codes.private_initials

-- The function f gives what a thread of the code, with a budget of at least one tick, means on each list of replies,
-- where the code names nothing but what the opening declares.
pub record IsThreadOf (o : Opening) (codes : Codes) (thread budget : ℕ) (f : List Reply → Outcome) : Type 0 where
  pub opening : IsOpening o
  pub code : IsCode codes
  pub declared : NamesDeclared o codes
  pub number : thread < codes.threads
  pub ticks : 1 ≤ budget
  pub means : (replies : List Reply) → CodeMeans codes thread budget replies (f replies)

-- ---- asking

-- After each history that may have given the replies so far, the wanted action may be asked for; a reply that fits it
-- adds it to the actions, and any other one ends the thread there. A reply to a read fits by the kind of the cell that
-- it names: that is the kind at which the thread reads it.
pub record AsksWell (o : Opening) (f : List Reply → Outcome) : Type 0 where
  pub goes :
      (rs : List Reply) (before : List Entry) (a : Action) (r : Reply) → (f rs).«end» ≡ Wants a
      → HasGiven o before rs → fits_after o before a r ≡ true
      → (f (rs ++ r ∷ [])).actions ≡ (f rs).actions ++ a ∷ []
  pub misfits :
      (rs : List Reply) (before : List Entry) (a : Action) (r : Reply) → (f rs).«end» ≡ Wants a
      → HasGiven o before rs → fits_after o before a r ≡ false
      → ((f (rs ++ r ∷ [])).«end» ≡ Misfit (length rs)) × ((f (rs ++ r ∷ [])).actions ≡ (f rs).actions)
  pub formed :
      (rs : List Reply) (before : List Entry) (a : Action) → (f rs).«end» ≡ Wants a
      → HasGiven o before rs → IsWellFormed o before a
  -- The wanted action names nothing but what the opening declares or one of these replies gave.
  pub names :
      (rs : List Reply) (before : List Entry) (a : Action) → (f rs).«end» ≡ Wants a
      → HasGiven o before rs → NamesGiven o.declared rs a
