-- Calls of the library, step by step, and as they stand in the source.
use Rattle.std.specs.Prelude.{ℕ, Bool, List, []}
use Rattle.upc_text.specs.declared.place.Place.{Place}
use Rattle.upc_values.specs.declared.scalar.Scalar.{Scalar}
use Rattle.upc_values.specs.declared.scalar.Value.{Value}
use Rattle.upc_values.specs.declared.scalar.Value.TheVariants as value
use Rattle.upc_values.specs.declared.library.LibraryCall.{LibraryCall}
use Rattle.upc_values.specs.Expansion.{Expansion}
use Rattle.typing_rules.specs.Nodes.{Attr}
use Rattle.typed_tree.specs.Tree.{Exprs, NoExprs, AndExpr}
use Rattle.thread_steps.specs.States.{Thread, Doing, ◌>>=◌, ◌>>◌, give, skip, choose}
use Rattle.thread_steps.specs.Actions.{meet}
use Rattle.thread_steps.specs.Accesses.{library_steps}
use Rattle.thread_steps.specs.Library.{library, print}
use Rattle.source_meaning.specs.Running.{Running}
use Rattle.source_meaning.specs.Expressions.{format_of, allocated_shape}
use Rattle.source_meaning.specs.layer.Parts.{is_printf}

-- A call of the library, step by step, whose scalar is given as a value (C99 7.19.6.3, UPC 7).
abbrev pub expanded_to : Thread → Place → Expansion Scalar → Doing Value
expanded_to τ at x = library_steps τ at x >>= (λ v. give (value.Scalar v))

-- A call of the library, step by step, which begins only where all threads may meet if it is collective (UPC 6.6.1,
-- 7.3).
abbrev pub met_then : Bool → Thread → Place → Expansion Scalar → Doing Value
met_then b τ at x = choose b (meet τ at) skip >> expanded_to τ at x

-- The format of a printf, which is its first argument (C99 7.19.6.3).
abbrev pub format_first : Exprs → List ℕ
format_first NoExprs = []
format_first (AndExpr format more) = format_of format

module _ (ρ : Running) where
  -- A call of the library whose arguments have these values (C99 7.19.6.3; UPC 7.2, 7.3).
  abbrev pub library_called : Place → Attr → LibraryCall → Exprs → List Value → Doing Value
  library_called at attr c args vs =
      choose (is_printf c) (print ρ.thread (format_first args) vs)
      (library ρ.thread c (allocated_shape ρ c attr.ctype) at vs)
