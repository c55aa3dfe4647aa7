-- The walk over declarations (C99 6.7).
use Rattle.std.specs.Prelude.{ℕ, Bool, true, false, ◌&&◌, List, [], ◌∷◌, ◌++◌, Option, Some, None}
use Rattle.upc_text.specs.declared.place.Place.{Place}
use Rattle.upc_tree.specs.Expression.{Expr, NextExprs, NoNextExprs, AndExpr, Declarator, ObjectDeclarator}
use Rattle.upc_tree.specs.Expression.{FunctionDeclarator}
use Rattle.upc_tree.specs.Declaration as declaration_tree
use Rattle.upc_tree.specs.Declaration.{Declaration, Declares, DeclaredList, NoneDeclared, SomeDeclared, NextDeclareds}
use Rattle.upc_tree.specs.Declaration.{NoNextDeclareds, AndDeclared, DeclaredAs}
use Rattle.upc_types.specs.Types.{CType, base_of}
use Rattle.typing_rules.specs.Library.{int}
use Rattle.typing_rules.specs.Values.{base_target}
use Rattle.typing_rules.specs.Meanings as meaning
use Rattle.typing_rules.specs.Meanings.{Signature}
use Rattle.typed_tree.specs.Scopes.{Setting, Env, spelling, is_file, inside, with_entry, declare, next_home}
use Rattle.typed_tree.specs.Scopes.{with_function}
use Rattle.typing_rules.specs.Nodes as nodes
use Rattle.typing_rules.specs.Nodes.{Use}
use Rattle.typed_tree.specs.Tree as typed
use Rattle.typed_tree.specs.Tree.{Exprs, attr_of, attrs_of, DeclaredObject}
use Rattle.upc_checker_scopes.specs.Walk.{Walk, give, ◌>>=◌, ◌>>◌, judge, update, look, enclosed}
use Rattle.upc_checker_types.specs.Specifiers.{specifiers_form, specified_type, Shaped, formed}
use Rattle.upc_checker_scopes.specs.Places.{specs_place, pointers_place}
use Rattle.upc_checker_types.specs.Shapes.{has_sizes, is_none, Specifying}
use Rattle.upc_checker_types.specs.Members.{Declared}
use Rattle.upc_checker_expressions.specs.Expressions.{walk, walk_specifiers, walk_pointers, walk_sizes, walk_parameters}
use Rattle.upc_checker_expressions.specs.Expressions.{constantly}
use Rattle.upc_checker_scopes.specs.Known.{prototype_again, object_again}
pub use Rattle.typed_tree.specs.Words.{element_use}

-- ---- where `[*]` may stand, and what declares a tag alone

-- The declarator is an array without a star, so that the layout among the specifiers is that of its elements
-- (UPC 6.5.1.1).
abbrev pub is_plain_array : Declarator → Bool
is_plain_array (ObjectDeclarator pointers name sizes) = is_none pointers && has_sizes sizes
is_plain_array (FunctionDeclarator stars name parameters) = false

-- The declarator without its initialiser (C99 6.7).
abbrev pub declarator_of : declaration_tree.Declared → Declarator
declarator_of (DeclaredAs declarator i) = declarator

-- Each further declarator is an array without a star.
abbrev pub all_plain_arrays : NextDeclareds → Bool
all_plain_arrays NoNextDeclareds = true
all_plain_arrays (AndDeclared comma x more) = is_plain_array (declarator_of x) && all_plain_arrays more

-- There is a declarator, and each is an array without a star, so that `[*]` may stand among the specifiers
-- (UPC 6.5.1.1).
abbrev pub declares_arrays : DeclaredList → Bool
declares_arrays NoneDeclared = false
declares_arrays (SomeDeclared first more) = is_plain_array (declarator_of first) && all_plain_arrays more

-- The declaration has no declarator, so that it declares a tag at most (C99 6.7.2.3).
abbrev pub is_alone : DeclaredList → Bool
is_alone NoneDeclared = true
is_alone (SomeDeclared first more) = false

-- ---- functions

-- What a function gives and takes, by the type of its result and by its parameters (C99 6.7.5.3).
abbrev pub signature_of : Shaped → Declared → Signature
signature_of result ps = record { result = result.ctype; parameters = ps.types }

-- The walk over the node of a prototype, after which its function is known as declared (C99 6.7.5.3).
abbrev pub declares_function : Setting → Env → Place → ℕ → Bool → Signature → Walk (Unit {0})
declares_function ξ Γ place name forms signature = do
  again ← look (λ s. prototype_again ξ Γ s name signature)
  judge ξ place (nodes.DeclaresFunction again forms signature)
  update (with_function name signature false)

-- ---- initialisers (C99 6.7.8)

-- An initialiser of a file-scope object is judged as a constant, and no other is (C99 6.7.8).
abbrev pub initial_constant : Setting → Bool → typed.Expr → Walk (Unit {0})
initial_constant ξ true a = do
  constantly ξ a
  give (tt {0})
initial_constant ξ false a = give (tt {0})

-- The walk over one initial value that is used so; at file scope it is judged as a constant (C99 6.7.8).
abbrev pub walk_initial_value : Setting → Env → Bool → Use → Expr → Walk typed.Expr
walk_initial_value ξ Γ file how value = do
  a ← walk ξ Γ how value
  initial_constant ξ file a
  give a

-- The walk over the further values of a list of initial values, in order (C99 6.7.8).
abbrev pub walk_initial_values : Setting → Env → Bool → Use → NextExprs → Walk Exprs
walk_initial_values ξ Γ file how NoNextExprs = give typed.NoExprs
walk_initial_values ξ Γ file how (AndExpr comma value more) = do
  x ← walk_initial_value ξ Γ file how value
  xs ← walk_initial_values ξ Γ file how more
  give (typed.AndExpr x xs)

-- The walk over the initialiser, if any, of what a declarator declares: an object of this type, or a function, which
-- may have none (C99 6.7.8).
abbrev pub walk_initial : Setting → Env → Place → Bool → CType → declaration_tree.Initial → Walk typed.Initial
walk_initial ξ Γ place object t declaration_tree.NoInitial = give typed.NoInitial
walk_initial ξ Γ place object t (declaration_tree.ValueInitial equal value) = do
  a ← walk_initial_value ξ Γ (is_file Γ) (nodes.Into t) value
  judge ξ place (nodes.InitialValue (is_file Γ) object t (attr_of a))
  give (typed.InitialValue a)
walk_initial ξ Γ place object t (declaration_tree.ListInitial equal left first more right) = do
  x ← walk_initial_value ξ Γ (is_file Γ) (element_use (base_target (base_of t))) first
  xs ← walk_initial_values ξ Γ (is_file Γ) (element_use (base_target (base_of t))) more
  judge ξ place (nodes.InitialList (is_file Γ) object t (attrs_of (typed.AndExpr x xs)))
  give (typed.InitialList (typed.AndExpr x xs))

-- ---- declarations

-- The scope after declarators, and the objects that they declare (C99 6.7).
pub record Behind : Type 0 where
  pub scope : Env
  pub objects : List DeclaredObject

-- What declarators leave with one object more: the scope after it, and the object with its home by the scope before it
-- (C99 6.2.1, 6.7).
abbrev pub with_object : Behind → Env → Place → List ℕ → CType → Env → typed.Initial → Behind
with_object before Γ place name t behind initial = record {
  scope = behind;
  objects =
      before.objects ++ (record { at = place; name = name; home = next_home t Γ; ctype = t; initial = initial } ∷ []);
}

-- The walk over a declarator with its initialiser, in which what it declares is in scope already (C99 6.2.1, 6.7.5).
abbrev pub walk_declared : Setting → Place → Shaped → Behind → declaration_tree.Declared → Walk Behind
walk_declared ξ place t before (DeclaredAs (ObjectDeclarator pointers name sizes) initial) = do
  let Γ = before.scope
  p ← walk_pointers ξ Γ (has_sizes sizes) t pointers
  ns ← walk_sizes ξ Γ sizes
  let f = formed ξ.threads p ns
  let at = pointers_place pointers name
  let behind = declare name.number f.ctype Γ
  judge ξ at (nodes.DeclaresObject (object_again ξ Γ name) (is_file Γ) f)
  i ← walk_initial ξ behind at true f.ctype initial
  give (with_object before Γ place (spelling ξ name.number) f.ctype behind i)
walk_declared ξ place t before (DeclaredAs (FunctionDeclarator pointers name parameters) initial) = do
  let Γ = before.scope
  p ← walk_pointers ξ Γ false t pointers
  ps ← enclosed (walk_parameters ξ (inside Γ) parameters)
  let signature = signature_of p ps
  let at = pointers_place pointers name
  let behind = with_entry name.number (meaning.Function signature) Γ
  declares_function ξ Γ at name.number p.forms signature
  walk_initial ξ behind at false int initial
  give (record { scope = behind; objects = before.objects })

-- The walk over the further declarators of a declaration, each in scope in those after it (C99 6.2.1, 6.7).
abbrev pub walk_next_declareds : Setting → Place → Shaped → Behind → NextDeclareds → Walk Behind
walk_next_declareds ξ place t before NoNextDeclareds = give before
walk_next_declareds ξ place t before (AndDeclared comma x more) = do
  b ← walk_declared ξ place t before x
  walk_next_declareds ξ place t b more

-- The walk over all declarators of a declaration, in order (C99 6.7).
abbrev pub walk_declared_list : Setting → Place → Shaped → Behind → DeclaredList → Walk Behind
walk_declared_list ξ place t before NoneDeclared = give before
walk_declared_list ξ place t before (SomeDeclared first more) = do
  b ← walk_declared ξ place t before first
  walk_next_declareds ξ place t b more

-- What stands around the specifiers of a declaration: `[*]` may stand there where they declare arrays alone, and
-- `static` at file scope (C99 6.7.1, UPC 6.5.1.1).
abbrev pub specifying : Place → Env → DeclaredList → Specifying
specifying at Γ list = record { at = at; star = declares_arrays list; static = is_file Γ; alone = is_alone list }

-- The walk over a declaration: its specifiers form a type before its declarators, and what else they break is judged
-- after its initialisers (C99 6.7).
abbrev pub walk_declaration : Setting → Env → Declaration → Walk Behind
walk_declaration ξ Γ (Declares specs list semicolon) = do
  p ← walk_specifiers ξ Γ (specifying (specs_place specs) Γ list) specs
  b ← walk_declared_list ξ (specs_place specs) (specified_type p) (record { scope = Γ; objects = [] }) list
  judge ξ (specs_place specs) (nodes.Specifies (specifiers_form (is_file Γ) p))
  give b
