-- The walk over a whole source (C99 6.9).
use Rattle.std.specs.Prelude.{ℕ, Bool, true, false, ◌&&◌, List, [], ◌∷◌, ◌++◌}
use Rattle.std.specs.List.{list_any}
use Rattle.upc_text.specs.declared.place.Place.{Place}
use Rattle.upc_tree.specs.declared.span.Name.{Name}
use Rattle.upc_tree.specs.Expression.{Specs, Pointers, Parameters}
use Rattle.upc_tree.specs.Declaration.{Declares}
use Rattle.upc_tree.specs.Statement.{Compound}
use Rattle.upc_tree.specs.Unit.{External, PragmaPart, DeclarationPart, FunctionPart}
use Rattle.upc_types.specs.Types.{CType}
use Rattle.typing_rules.specs.declared.setting.Enclosing.TheVariants as enclosing
use Rattle.typing_rules.specs.Values.{value_type}
use Rattle.typing_rules.specs.Meanings as meaning
use Rattle.typing_rules.specs.Meanings.{Signature}
use Rattle.typed_tree.specs.Scopes.{Setting, Env, file, spelling, inside, with_entry, Scope, Within, NoScope, begin}
use Rattle.typed_tree.specs.Scopes.{with_function, differs}
use Rattle.typing_rules.specs.Faults.{Seen}
use Rattle.typing_rules.specs.Nodes as rule_node
use Rattle.typing_rules.specs.Nodes.{Around}
use Rattle.typed_tree.specs.Tree.{DeclaredObject, Function, Statement}
use Rattle.upc_checker_scopes.specs.Walk.{Walk, give, ◌>>=◌, ◌>>◌, judge, update, look, enclosed}
use Rattle.upc_checker_types.specs.Specifiers.{specifiers_form, specified_type}
use Rattle.upc_checker_scopes.specs.Places.{no_place, specs_place}
use Rattle.upc_checker_types.specs.Shapes.{Specifying}
use Rattle.upc_checker_expressions.specs.Expressions.{walk_specifiers, walk_pointers, walk_parameters}
use Rattle.upc_checker_declarations.specs.Declarations.{walk_declaration}
use Rattle.upc_checker_scopes.specs.Known.{definition_again}
use Rattle.upc_checker_statements.specs.Statements.{walk_block}
pub use Rattle.typed_tree.specs.Words.{is_int_base, is_empty, is_main_function}

-- ---- what the source defines

-- The names of the functions that a source defines, by their numbers, in order (C99 6.9.1).
abbrev pub defined_in : List External → List ℕ
defined_in [] = []
defined_in (FunctionPart specs stars name parameters body ∷ xs) = name.number ∷ defined_in xs
defined_in (x ∷ xs) = defined_in xs

-- The place of the first token of a pragma, a declaration or a definition (C99 6.9).
abbrev pub external_place : External → Place
external_place (PragmaPart pragma) = pragma.span.place
external_place (DeclarationPart (Declares specs list semicolon)) = specs_place specs
external_place (FunctionPart specs stars name parameters body) = specs_place specs

-- The place of the first token of a source, or 1:1 where it has none.
abbrev pub source_place : List External → Place
source_place [] = no_place
source_place (x ∷ xs) = external_place x

-- ---- functions (C99 6.9.1)

-- What a source has declared and defined so far: its scope, its objects and its functions (C99 6.9).
pub record Made : Type 0 where
  pub scope : Env
  pub objects : List DeclaredObject
  pub functions : List Function

-- What stands around the body of a function with this result: no loop, no switch and no upc_forall (C99 6.9.1).
abbrev pub body_around : CType → Around
body_around result = record { result = value_type result; breaks = enclosing.Nothing; loops = false; forall = false }

-- What is known of a function before its definition: whether the definition declares its name again, and whether it
-- differs from a prototype (C99 6.7.5.3, 6.9.1).
pub record Earlier : Type 0 where
  pub again : Bool
  pub differs : Bool

-- The walk looks up what is known of a function before its definition (C99 6.9.1).
abbrev pub earlier : Setting → Env → ℕ → Signature → Walk Earlier
earlier ξ Γ name signature =
    look (λ s. record { again = definition_again ξ Γ s name; differs = differs name signature s.functions })

-- What stands around the specifiers of a definition: `static` may stand there, and `[*]` may not (C99 6.7.1, 6.9.1).
abbrev pub in_definition : Place → Specifying
in_definition at = record { at = at; star = false; static = true; alone = false }

-- What a source has declared and defined, with one function more (C99 6.9.1).
abbrev pub with_definition : Setting → Made → Place → ℕ → Signature → Statement → Made
with_definition ξ before place name signature body = record {
  scope = with_entry name (meaning.Function signature) before.scope;
  objects = before.objects;
  functions =
      before.functions ++ (record {
        at = place;
        name = spelling ξ name;
        result = value_type signature.result;
        parameters = signature.parameters;
        body = body;
      } ∷ []);
}

-- The scope of a function's body: that of its parameters, inside one in which the function itself is declared
-- (C99 6.2.1, 6.9.1).
abbrev pub with_outer_entry : ℕ → Signature → Env → Env
with_outer_entry name signature (Scope level top counts (Within Γ)) =
    Scope level top counts (Within (with_entry name (meaning.Function signature) Γ))
with_outer_entry name signature (Scope level top counts NoScope) = Scope level top counts NoScope

-- The walk over a definition after its specifiers and stars, of which it is given whether they form a type: its
-- parameters, its body, and its own node (C99 6.9.1).
abbrev pub walk_definition : Setting → Bool → Made → Place → Bool → CType → Name → Parameters → Compound → Walk Made
walk_definition ξ strict before place forms result name parameters body = do
  ps ← walk_parameters ξ (inside before.scope) parameters
  let signature : Signature = record { result = result; parameters = ps.types }
  was ← earlier ξ before.scope name.number signature
  update (with_function name.number signature true)
  x ← walk_block ξ (with_outer_entry name.number signature ps.scope) (body_around result) strict body
  judge ξ place (rule_node.Defines was.again was.differs forms signature)
  give (with_definition ξ before place name.number signature x)

-- The walk over a definition, from its specifiers on (C99 6.9.1).
abbrev pub walk_function : Setting → Bool → Made → Place → Specs → Pointers → Name → Parameters → Compound → Walk Made
walk_function ξ strict before place specs pointers name parameters body = do
  p ← walk_specifiers ξ before.scope (in_definition place) specs
  t ← walk_pointers ξ before.scope false (specified_type p) pointers
  enclosed (walk_definition ξ strict before place (specifiers_form true p && t.forms) t.ctype name parameters body)

-- The walk over a pragma, a declaration or a definition at file scope (C99 6.9, UPC 6.7).
abbrev pub walk_external : Setting → Bool → Made → External → Walk Made
walk_external ξ strict before (PragmaPart pragma) = give before
walk_external ξ strict before (DeclarationPart declaration) = do
  b ← walk_declaration ξ before.scope declaration
  give (record { scope = b.scope; objects = before.objects ++ b.objects; functions = before.functions })
walk_external ξ strict before (FunctionPart specs pointers name parameters body) =
    walk_function ξ strict before (specs_place specs) specs pointers name parameters body

-- Whether accesses are strict after a part of the source: a pragma at file scope decides it, and any other part leaves
-- it (UPC 6.7).
abbrev pub strict_from : Bool → External → Bool
strict_from before (PragmaPart pragma) = pragma.strict
strict_from before x = before

-- The walk over the parts of a source in order, where accesses are strict or not before the first (C99 6.9, UPC 6.7).
abbrev pub walk_externals : Setting → Bool → Made → List External → Walk Made
walk_externals ξ strict before [] = give before
walk_externals ξ strict before (x ∷ xs) = do
  b ← walk_external ξ strict before x
  walk_externals ξ (strict_from strict x) b xs

-- ---- the whole source

-- What is the same for a whole source: its names, the number of threads, the functions that it defines, and that it may
-- have 65,535 structs, objects, parameters of definitions and functions (C99 5.2.4.1).
abbrev pub setting : List (List ℕ) → ℕ → List External → Setting
setting names threads unit = record { names = names; threads = threads; defined = defined_in unit; most = 65535 }

-- The walk over a whole source: at its start relaxed is in force, and the file itself is the last node (C99 6.9,
-- UPC 6.7).
abbrev pub walk_unit : Setting → List External → Walk Made
walk_unit ξ unit = do
  made ← walk_externals ξ false (record { scope = file; objects = []; functions = [] }) unit
  judge ξ (source_place unit) (rule_node.File (list_any is_main_function made.functions))
  give made

-- All nodes of a source, in the order in which they are finished (C99 6.5 to 6.9).
abbrev pub unit_nodes : List (List ℕ) → ℕ → List External → List Seen
unit_nodes names threads unit = (walk_unit (setting names threads unit) unit begin).seen

-- What a source declares and defines, with types (C99 6.9).
abbrev pub typed_unit : List (List ℕ) → ℕ → List External → Made
typed_unit names threads unit = (walk_unit (setting names threads unit) unit begin).value
