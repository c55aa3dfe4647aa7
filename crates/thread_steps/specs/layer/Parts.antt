-- Parts of definitions that code and proofs speak of by a name of their own.
use Rattle.std.specs.Prelude.{ℕ, suc, pred, ◌+◌, nat_lt, nat_le, ℤ, pos, Bool, true, false, not, List, [], ◌∷◌, length}
use Rattle.std.specs.Prelude.{Option, Some, None, option_map, Result, Ok, Err}
use Rattle.upc_text.specs.declared.place.Place.{Place}
use Rattle.block_layout.specs.declared.kind.Kind.{Kind}
use Rattle.block_layout.specs.declared.kind.Shape.{Shape}
use Rattle.block_layout.specs.declared.place.LocalPtr.TheVariants as local
use Rattle.block_layout.specs.declared.place.Loc.{Loc}
use Rattle.block_layout.specs.declared.run_error.TheConstants.{OUT_OF_OBJECT, PRIVATE_RANGE}
use Rattle.upc_values.specs.declared.scalar.Scalar.{Scalar}
use Rattle.upc_values.specs.declared.scalar.Value.{Value}
use Rattle.upc_values.specs.declared.scalar.Value.TheVariants as value
use Rattle.upc_values.specs.declared.action.Action.{Action}
use Rattle.upc_values.specs.declared.action.Action.TheVariants as act
use Rattle.upc_values.specs.declared.action.Reply.{Reply}
use Rattle.upc_values.specs.declared.record.ToldEnd.TheVariants.{Wants}
use Rattle.upc_values.specs.declared.action.Reply.TheVariants.{Refused}
use Rattle.upc_values.specs.declared.library.LibraryCall.{LibraryCall}
use Rattle.upc_values.specs.declared.library.LibraryCall.TheVariants.{GlobalExit}
use Rattle.upc_values.specs.Formed.{fits}
use Rattle.private_store.specs.declared.store.TheConstants.{MOST_BYTES, MOST_CALLS}
use Rattle.private_store.specs.Live.{Live, thing_bytes, bytes_in, controls, recounted, thing}
use Rattle.thread_steps.specs.States.{Thread, State, Res, Val, Doing, ◌>>◌, over, fault, skip}
use Rattle.thread_steps.specs.Values.{number_of}
use Rattle.thread_steps.specs.Actions.{answered, ask}
use Rattle.thread_steps.specs.layer.Fronts.{turned}

-- The state with this store, or the end of the thread by this run error.
abbrev pub with_store : Place → State → Result Live ℕ → Res (Unit {0})
with_store at σ (Ok s) = Val tt (record σ { store = s })
with_store at σ (Err code) = fault code at σ

-- A reply that refuses ends the thread by its run error, and any other lets it go on.
abbrev pub unless_refused : Place → Reply → Doing (Unit {0})
unless_refused at (Refused code) = fault code at
unless_refused at r = skip

-- The next of the replies answers the action; where none is left, the thread wants the action.
abbrev pub answered_from : Thread → Option Kind → Action → List Reply → Doing Reply
answered_from τ kind a [] = over (Wants a)
answered_from τ kind a (r ∷ rest) = answered (fits τ.threads τ.shapes kind a r) a r rest

-- The ticks that the thread has counted.
abbrev pub ticks_of : State → ℕ
ticks_of σ = σ.ticks

-- The state with one more tick.
abbrev pub with_tick : State → State
with_tick σ = record σ { ticks = σ.ticks + 1 }

-- The thread has notified and not yet waited (UPC 6.6.1).
abbrev pub is_notified : State → Bool
is_notified σ = σ.notified

-- The state in which the thread has notified and not yet waited, or has not (UPC 6.6.1).
abbrev pub with_notified : Bool → State → State
with_notified b σ = record σ { notified = b }

-- The thread has made no notify, or has waited since (UPC 6.6.1).
abbrev pub is_not_notified : State → Bool
is_not_notified σ = not σ.notified

-- Objects of these shapes would bring the private objects of the thread over the bytes that they may have.
abbrev pub is_too_large : List Shape → State → Bool
is_too_large shapes σ = nat_lt MOST_BYTES (thing_bytes σ.store.objects + bytes_in shapes)

-- As many calls are active as may be at once.
abbrev pub is_deep : State → Bool
is_deep σ = nat_le MOST_CALLS (length σ.store.calls)

-- The youngest call stands in one body more of upc_foralls whose affinity counts (UPC 6.6.2).
abbrev pub one_more : Live → Live
one_more s = recounted (suc (controls s)) s

-- The youngest call stands in one body fewer of upc_foralls whose affinity counts (UPC 6.6.2).
abbrev pub one_less : Live → Live
one_less s = recounted (pred (controls s)) s

-- The write of a location by a thread, strict or relaxed (UPC 6.5.1.1).
abbrev pub write : Thread → Bool → Loc → Scalar → Doing (Unit {0})
write τ strict l v = do
  ask τ None (act.Write strict l v)
  skip

-- The run error of a place outside its object: of a shared one, or of a private one.
abbrev pub outside : Value → ℕ
outside (value.Scalar v) = OUT_OF_OBJECT
outside (value.Local p) = PRIVATE_RANGE

-- The shapes of the private objects that live, by number.
abbrev pub private_shapes : State → ℕ → Option Shape
private_shapes σ number = option_map (λ x. x.shape) (thing number σ.store.objects)

-- The integer that the first of some values is; 0 where there is none.
abbrev pub first_number : List Value → ℤ
first_number [] = pos 0
first_number (v ∷ vs) = number_of v

-- The call is upc_global_exit (UPC 7.2.1).
abbrev pub is_exit : LibraryCall → Bool
is_exit GlobalExit = true
is_exit call = false

-- Whether a notify is open after some actions; none where one of them stands out of turn (UPC 6.6.1).
abbrev pub turned_by : Option Bool → List Action → Option Bool
turned_by state [] = state
turned_by state (a ∷ more) = turned_by (turned state a) more

-- The shape of an object's elements; where the program does not have it, which is the case for no object of a typed
-- program, a byte without cells.
abbrev pub shape_or_byte : Option Shape → Shape
shape_or_byte (Some s) = s
shape_or_byte None = record { size = 1; cells = [] }

-- The pointer to the beginning of the private object with this number; null where there is none.
abbrev pub pointer_to : Option ℕ → Value
pointer_to (Some number) = value.Local (local.Private number (pos 0))
pointer_to None = value.Local local.Null
