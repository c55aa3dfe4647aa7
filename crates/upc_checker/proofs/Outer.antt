-- What is around the scope of parameters stays around it.
use Rattle.std.proofs.Common.{◌≡◌, [], refl, sym, ap, ◌∙◌, Option, Some, None}
use Rattle.upc_tree.specs.declared.span.Name.{Name}
use Rattle.upc_tree.specs.Expression.{Parameters, NoParameters, VoidParameters, SomeParameters, Parameter, Parametric, NextParameters, NoNextParameters, AndParameter}
use Rattle.upc_types.specs.Types.{CType}
use Rattle.typing_rules.specs.Meanings.{Signature, Function}
use Rattle.typed_tree.specs.Scopes.{Setting, State, Env, Scope, Outer, NoScope, Within, with_entry}
use Rattle.typed_tree.specs.layer.ViewEnv.{with_outer}
use Rattle.upc_checker_scopes.specs.Walk.{andthen, judge}
use Rattle.upc_checker_types.specs.Members.{Declared, declare_parameter}
use Rattle.upc_checker_expressions.specs.Expressions.{walk_parameter, walk_next_parameters, walk_parameters}
use Rattle.upc_checker.specs.Units.{with_outer_entry}

abbrev pub outer_of : Env → Outer
outer_of (Scope level top counts outer) = outer

declared_outer : (name : Option Name) (t : CType) (Γ : Env) → outer_of (declare_parameter name t Γ) ≡ outer_of Γ
declared_outer None t (Scope level top counts outer) = refl
declared_outer (Some name) t (Scope level top counts outer) = refl

one_outer : (ξ : Setting) (before : Declared) (p : Parameter) (s : State) → outer_of (walk_parameter ξ before p s).value.scope ≡ outer_of before.scope
unfolding andthen judge
one_outer ξ before (Parametric specs pointers name array) s = declared_outer name _ before.scope

next_outer : (ξ : Setting) (before : Declared) (ps : NextParameters) (s : State) → outer_of (walk_next_parameters ξ before ps s).value.scope ≡ outer_of before.scope
unfolding andthen
next_outer ξ before NoNextParameters s = refl
next_outer ξ before (AndParameter comma p more) s =
    let x = walk_parameter ξ before p s in
    next_outer ξ x.value more x.state ∙ one_outer ξ before p s

pub parameters_outer : (ξ : Setting) (Γ : Env) (ps : Parameters) (s : State) → outer_of (walk_parameters ξ Γ ps s).value.scope ≡ outer_of Γ
unfolding andthen
parameters_outer ξ Γ (NoParameters left right) s = refl
parameters_outer ξ Γ (VoidParameters left word right) s = refl
parameters_outer ξ Γ (SomeParameters left first more right) s =
    let before : Declared = record { types = []; scope = Γ } in
    let x = walk_parameter ξ before first s in
    next_outer ξ x.value more x.state ∙ one_outer ξ before first s

-- What has this around it already has it again.
pub outer_again : (Γ Δ : Env) → outer_of Δ ≡ Within Γ → with_outer (Within Γ) Δ ≡ Δ
outer_again Γ (Scope level top counts outer) h = ap (λ (o : Outer). Scope level top counts o) (sym h)
