-- What is called, and how arguments are used (C99 6.5.2.2).
use Rattle.std.specs.Prelude.{ℕ, ◌==◌, Bool, false, ◌&&◌, not, List, [], ◌∷◌, map, Option, Some, None}
use Rattle.std.specs.List.{list_any}
use Rattle.upc_tree.specs.declared.span.Name.{Name}
use Rattle.upc_tree.specs.Expression.{Expr, Named, Paren}
use Rattle.upc_values.specs.declared.library.LibraryCall.TheVariants.{Printf}
use Rattle.typed_tree.specs.declared.tree.Target.{Target}
use Rattle.typed_tree.specs.declared.tree.Target.TheVariants as target
use Rattle.typing_rules.specs.Meanings as meanings
use Rattle.typing_rules.specs.Meanings.{Meaning}
use Rattle.typed_tree.specs.Scopes.{Setting, Env, meaning}
use Rattle.typing_rules.specs.Nodes as node
use Rattle.typing_rules.specs.Nodes.{Use}
use Rattle.typed_tree.specs.Tree as typed
use Rattle.typed_tree.specs.Tree.{ExprKind}
use Rattle.upc_checker_scopes.specs.Defined.{number_in}
use Rattle.upc_checker_scopes.specs.Known.{is_main}
pub use Rattle.typed_tree.specs.Words.{uses_by, first_use, later_uses}

-- The name that is called, seen through parentheses; none where what is called is no name (C99 6.5.2.2).
abbrev pub called_name : Expr → Option Name
called_name (Named name) = Some name
called_name (Paren left inner right) = called_name inner
called_name x = None

-- What the name that is called stands for; without a name it is unknown.
abbrev pub called_by : Setting → Env → Option Name → Meaning
called_by ξ Γ None = meanings.Unknown
called_by ξ Γ (Some name) = meaning ξ Γ name.number

-- What the called expression stands for (C99 6.5.2.2).
abbrev pub called : Setting → Env → Expr → Meaning
called ξ Γ callee = called_by ξ Γ (called_name callee)

-- There is a name that is called, the source defines a function of this name, and it is not main.
abbrev pub runs_by : Setting → Option Name → Bool
runs_by ξ None = false
runs_by ξ (Some name) = list_any (λ x. x == name.number) ξ.defined && not (is_main ξ name.number)

-- The source defines the function that is called, and it is not main (C99 6.5.2.2).
abbrev pub runs : Setting → Expr → Bool
runs ξ callee = runs_by ξ (called_name callee)

-- Which function is called, by what its name stands for: that of the library, else that of the source with this name,
-- by its number; without a name it counts as function 0, and rule 10 refuses the call.
abbrev pub target_by : Setting → Meaning → Option Name → Target
target_by ξ (meanings.Library call) name = target.Library call
target_by ξ meaning None = target.Function 0
target_by ξ meaning (Some name) = target.Function (number_in ξ.defined name.number)

-- Which function a call calls, of the library or of the source (C99 6.5.2.2).
abbrev pub target_of : Setting → Env → Expr → Target
target_of ξ Γ callee = target_by ξ (called ξ Γ callee) (called_name callee)

-- What a name is as an expression, by what it stands for: an object with its home, a function of the source or of the
-- library, or else a constant (C99 6.5.1).
abbrev pub name_kind : Setting → Meaning → ℕ → ExprKind
name_kind ξ (meanings.Object t home) name = typed.Object home
name_kind ξ (meanings.Function signature) name = typed.Callee (target.Function (number_in ξ.defined name))
name_kind ξ (meanings.Library call) name = typed.Callee (target.Library call)
name_kind ξ meaning name = typed.Literal
