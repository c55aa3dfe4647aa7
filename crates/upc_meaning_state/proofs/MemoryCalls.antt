-- Memory calls by their arguments, and how many replies they still take.
use Rattle.std.proofs.Common.{◌≡◌, ℕ, ◌<◌, List, [], ◌∷◌, Option, Some, None, true, sym, ap, ◌∙◌, arith}
use Rattle.upc_text.specs.declared.place.Place.{Place}
use Rattle.block_layout.specs.declared.kind.Kind.{Kind}
use Rattle.block_layout.specs.declared.kind.Shape.{Shape}
use Rattle.upc_values.specs.declared.scalar.Scalar.{Scalar}
use Rattle.upc_values.specs.declared.scalar.Value.{Value}
use Rattle.upc_values.specs.declared.library.LibraryCall.{LibraryCall}
use Rattle.upc_values.specs.Copying as said
use Rattle.upc_values.specs.LibraryCalls.{gives_zero}
use Rattle.thread_steps.specs.States.{Thread, State}
use Rattle.thread_steps.specs.Library.{library}
use Rattle.thread_steps.specs.layer.Parts.{private_shapes}
use Rattle.upc_library.specs.layer.Walks.{Left, Source, rest, rest_of, replies_left, replies_of}
use Rattle.upc_library.specs.layer.Wishes.{expansion}
use Rattle.upc_library.specs.declared.copying.CopySpec.{CopySpec}
use Rattle.thread_values.specs.layer.Copies.{copies, spec_of, private_of}
use Rattle.thread_values.proofs.MemoryCalls.{copied}
use Rattle.upc_meaning_state.specs.code.Walking.{IsUnfinished}
use Rattle.upc_meaning_state.specs.layer.Libraries.{expanded_to}

-- ---- what is not finished

left_by : (value : Option Scalar) (dst : said.Area) (src : Source) (cells : List (ℕ × Kind))
    → IsUnfinished (rest_of value dst src cells) → 0 < replies_of value cells
left_by None dst src [] h = absurd h
left_by None dst src (c ∷ cells) h = omega arith
left_by (Some v) dst src [] h = absurd h
left_by (Some v) dst src (c ∷ cells) h = omega arith

pub unfinished_left : (l : Left) → IsUnfinished (rest l) → 0 < replies_left l
unfinished_left l h = left_by l.value l.dst l.src l.cells h

-- ---- memory calls by their arguments

module _ (τ : Thread) (at : Place) (σ : State) where
  pub asks_so : (c : LibraryCall) (shape : ℕ) (args : List Value) (o : Option Shape) (s : CopySpec) → copies c ≡ true
      → s ≡ spec_of c args → o ≡ private_of c s (private_shapes σ)
      → library τ c shape at args σ ≡ expanded_to τ at (gives_zero (expansion τ.threads τ.shapes o s)) σ
  asks_so c shape args o s h e f =
      copied τ at σ c shape args h
      ∙ ap (λ x. expanded_to τ at (gives_zero x) σ)
      (sym (ap (λ o. expansion τ.threads τ.shapes o s) f
      ∙ ap (λ s. expansion τ.threads τ.shapes (private_of c s (private_shapes σ)) s) e))
