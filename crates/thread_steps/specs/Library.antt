-- The calls of the library (C99 7.19.6.3; UPC 7.2, 7.3).
use Rattle.std.specs.Prelude.{ℕ, pos, Bool, true, false, ◌&&◌, List, [], ◌∷◌, ◌++◌, length, map, Some}
use Rattle.std.specs.Prelude.{None, is_some, option_map, slice_get}
use Rattle.upc_text.specs.declared.place.Place.{Place}
use Rattle.block_layout.specs.declared.kind.Kind.TheVariants as kind
use Rattle.block_layout.specs.declared.kind.Shape.{Shape}
use Rattle.integers.specs.Integers.{converted}
use Rattle.upc_values.specs.declared.scalar.Value.{Value}
use Rattle.upc_values.specs.declared.scalar.Value.TheVariants as value
use Rattle.upc_values.specs.declared.action.Action.TheVariants as act
use Rattle.upc_values.specs.declared.library.LibraryCall.{LibraryCall}
use Rattle.upc_values.specs.declared.library.LibraryCall.TheVariants.{AllAlloc, Reduce, PrefixReduce, GlobalExit}
use Rattle.upc_values.specs.Calls.{Call, Other, call_of}
use Rattle.upc_values.specs.LibraryCalls.{library_call, meet_number, scalars, with_element}
use Rattle.upc_values.specs.Printing.{printed}
use Rattle.private_store.specs.Live.{thing}
use Rattle.thread_steps.specs.States.{Thread, Doing, ◌>>=◌, ◌>>◌, give, skip, know, choose}
use Rattle.thread_steps.specs.Values.{number, number_of}
use Rattle.thread_steps.specs.Actions.{ask, meet, exit}
use Rattle.thread_steps.specs.Accesses.{library_steps}

-- The call is one of the collective calls 1 to 12 (UPC 7.2.2, 7.2.4, 7.3).
abbrev pub is_call : Call → Bool
is_call Other = false
is_call call = true

-- The arguments with which all threads meet in a collective call: those of the call, in an allocation with the number
-- of its shape as one more, and in a reduction with that of the elements' type in place of the function (UPC 7.2.2,
-- 7.3.2.1).
abbrev pub met_with : LibraryCall → (shape : ℕ) → List Value → List Value
met_with AllAlloc shape args = args ++ number (pos shape) ∷ []
met_with (Reduce k) shape args = with_element k args
met_with (PrefixReduce k) shape args = with_element k args
met_with call shape args = args

-- The program has the shape of the elements that upc_all_alloc makes; any other call needs none.
abbrev pub has_shape : List Shape → LibraryCall → (shape : ℕ) → Bool
has_shape shapes AllAlloc shape = is_some (slice_get shapes shape)
has_shape shapes call shape = true

-- Whether all threads may meet with these arguments, which are of the types of the parameters of a collective call. In
-- a typed program they always may.
abbrev pub is_formed : List Shape → LibraryCall → (shape : ℕ) → List Value → Bool
is_formed shapes call shape args =
    elim (meet_number call) [ Some n ↦ is_call (call_of n (scalars (met_with call shape args))) | None ↦ true ]
    && has_shape shapes call shape

module _ (τ : Thread) where
  -- A call of the library does what its definition says, with the shapes of the private objects that live, by number; a
  -- collective one begins only where the thread may meet (UPC 6.6.1, 7).
  abbrev pub called_library : LibraryCall → (shape : ℕ) → Place → List Value → Doing Value
  called_library call shape at args = do
    choose (is_some (meet_number call)) (meet τ at) skip
    private ← know (λ σ number. option_map (λ x. x.shape) (thing number σ.store.objects))
    v ← library_steps τ at (library_call τ.threads τ.shapes τ.number private call shape args)
    give (value.Scalar v)

  -- A call of the library, which does nothing and gives 0 where it is collective and its arguments are not of its
  -- parameters' types.
  abbrev pub formed_call : LibraryCall → (shape : ℕ) → Place → List Value → Doing Value
  formed_call call shape at args =
      choose (is_formed τ.shapes call shape args) (called_library call shape at args) (give (number (pos 0)))

  -- A call of the library with arguments of its parameters' types; an allocation makes elements of the shape with
  -- that number, and upc_global_exit ends the thread.
  unfoldable pub library : LibraryCall → (shape : ℕ) → Place → List Value → Doing Value
  library call shape at args =
      choose (elim call [ GlobalExit ↦ true | _ ↦ false ])
      (exit τ (elim args [ v ∷ vs ↦ number_of v | [] ↦ pos 0 ])) (formed_call call shape at args)

  -- A printf: one Print of its text, whose number of bytes it gives (C99 7.19.6.3).
  unfoldable pub print : (format : List ℕ) → List Value → Doing Value
  print format args = do
    let text = printed format (map number_of args)
    ask τ None (act.Print text)
    give (number (converted kind.Int (pos (length text))))
