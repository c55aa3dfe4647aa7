-- What the code answers for a walk.
use Rattle.std.specs.Prelude.{◌≡◌, Option, Some, None, Result, Ok, Err, Box}
use Rattle.std.specs.declared.alloc.Global.{Global}
use Rattle.upc_text.specs.declared.place.Refusal.{Refusal}
use Rattle.upc_text.specs.declared.place.Code.TheVariants.{Typing}
use Rattle.upc_text.specs.declared.faults.Stop.{Stop}
use Rattle.upc_text.specs.declared.faults.Stop.TheVariants as stop
use Rattle.typed_tree.specs.Scopes.{State}
use Rattle.typing_rules.specs.Faults.{Fault, first_fault}
use Rattle.upc_checker_scopes.specs.Walk.{Walked}

-- The refusal for a typing fault, or none where there is no fault.
abbrev pub refusal_by : Option Fault → Option Refusal
refusal_by None = None
refusal_by (Some f) = Some (record { place = f.at; code = Typing f.rule })

-- The code stops for want of memory, or with the refusal for the first fault.
abbrev pub Stops : Option Fault → Stop → Type 0
Stops fault stop.Memory = Unit {0}
Stops fault (stop.Refused refusal) = refusal_by fault ≡ Some refusal

-- All nodes of a walk meet their rules, this is known after the walk, and it makes this.
pub record Comes {A : Type 0} (w : Walked A) (s : State) (a : A) : Type 0 where
  pub fine : first_fault w.seen ≡ None
  pub state : w.state ≡ s
  pub value : w.value ≡ a

-- What the walk makes, seen by `view`, where no node breaks a rule; else the first fault, or want of memory.
abbrev pub Meets : {A B : Type 0} → (B → A) → Walked A → State → Result B Stop → Type 0
Meets view w s (Ok x) = Comes w s (view x)
Meets view w s (Err e) = Stops (first_fault w.seen) e

-- What a box holds, seen so.
abbrev pub boxed : {X A : Type 0} → (X → A) → Box X Global → A
boxed view x = view x.value
