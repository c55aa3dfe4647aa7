-- Whole sources: the types in what a source declares and defines that is accepted are formed.
use Rattle.std.proofs.Common.{◌≡◌, ℕ, Bool, true, false, not, List, [], ◌∷◌, None, refl, subst}
use Rattle.std.specs.List.{list_any}
use Rattle.upc_text.specs.declared.place.Place.{Place}
use Rattle.upc_tree.specs.declared.span.Name.{Name}
use Rattle.upc_tree.specs.Expression.{Specs, Pointers, Parameters}
use Rattle.upc_tree.specs.Statement.{Compound}
use Rattle.upc_tree.specs.Unit.{External, PragmaPart, DeclarationPart, FunctionPart}
use Rattle.upc_values.specs.Lists.{Each}
use Rattle.upc_values.proofs.Lists.{each-push}
use Rattle.upc_values.proofs.Membership.{each-append}
use Rattle.upc_types.specs.Types.{CType, Structs}
use Rattle.typing_rules.specs.Attributes.{Facts}
use Rattle.typing_rules.specs.Faults.{first_fault}
use Rattle.typing_rules.specs.Values.{value_type, is_lock, is_struct}
use Rattle.typing_rules.specs.Meanings as m
use Rattle.typing_rules.specs.Meanings.{Signature}
use Rattle.typing_rules.specs.Nodes as n
use Rattle.typing_rules.specs.Rules.{lowest, table, judge, rule_4, rule_11, passes_struct, is_struct_type}
use Rattle.typed_tree.specs.Scopes.{Setting, begin, inside, file, with_function, spelling}
use Rattle.typed_tree.specs.Tree.{Function, Statement}
use Rattle.typed_tree.specs.Programs.{Checked, without_targets}
use Rattle.typed_tree.specs.layer.Judged.{AtEnd}
use Rattle.upc_checker_scopes.specs.Walk.{facts_in}
use Rattle.upc_checker.specs.Units.{Made, body_around, with_definition, with_outer_entry, walk_definition}
use Rattle.upc_checker.specs.Units.{walk_function, walk_external, walk_externals, walk_unit, setting}
use Rattle.upc_checker.specs.Limits.{limit_in}
use Rattle.upc_checker.specs.Outcomes.{Accepted, outcome}
use Rattle.upc_checker.proofs.Causes.{accepted_by}
use Rattle.meaning_laws.proofs.Rules.{unbroken, or_left, or_right}
use Rattle.meaning_laws_accepted.specs.code.LaidPrograms.{IsSized}
use Rattle.meaning_laws_accepted.specs.code.Laws.{AcceptedAreFormed}
use Rattle.meaning_laws_accepted.proofs.Types.{IsTarget, value_sound}
use Rattle.meaning_laws_accepted.proofs.Sounds.{IsSoundObject, IsSoundStatement, IsSoundFunction}
use Rattle.meaning_laws_accepted.proofs.Sounds.{objects_formed, functions_formed}
use Rattle.meaning_laws_accepted.proofs.Declared.{specified_deep}
use Rattle.meaning_laws_accepted.proofs.Sizes.{held_sizes}
use Rattle.meaning_laws_accepted.proofs.Scopes.{IsSignature, Knows, entry_knows, outer_knows}
use Rattle.meaning_laws_accepted.proofs.Walks.{Keeps, keeps_then, keeps_give, keeps_weaken, keeps_judge, any_judge}
use Rattle.meaning_laws_accepted.proofs.Walks.{keeps_enclosed, keeps_look, keeps_update, keeps_to_end}
use Rattle.meaning_laws_accepted.proofs.Nodes.{Sized}
use Rattle.meaning_laws_accepted.proofs.Expressions.{keeps_specs, keeps_pointers, keeps_parameters}
use Rattle.meaning_laws_accepted.proofs.Declarations.{GivesValue, type_named, signature_formed}
use Rattle.meaning_laws_accepted.proofs.Declarations.{keeps_declaration}
use Rattle.meaning_laws_accepted.proofs.Statements.{keeps_block}

-- A function that is defined gives no lock and no struct, and none of its parameters is a struct.
abbrev IsDefined : Signature → Type 0
IsDefined s = GivesValue s.result × (list_any is_struct_type s.parameters ≡ false)

defines_rules : (φ : Facts) (again differs forms : Bool) (s : Signature)
    → lowest φ (n.Defines again differs forms s) ≡ None → IsDefined s
defines_rules φ again differs forms s none =
    let x = n.Defines again differs forms s in
    let lock = unbroken (table φ x) 3 (judge 4 (rule_4 x)) refl none in
    let passes = unbroken (table φ x) 10 (judge 11 (rule_11 x)) refl none in
    let struct = or_right differs (passes_struct s) passes in (
      (
        or_right (not forms) (is_lock s.result) lock,
        or_left (is_struct s.result) (list_any is_struct_type s.parameters) struct,
      ),
      or_right (is_struct s.result) (list_any is_struct_type s.parameters) struct,
    )

module _ (ξ : Setting) (σ : Structs) where
  -- What a source has declared and defined so far is formed.
  record IsMade (b : Made) : Type 0 where
    scope : Knows b.scope
    objects : Each (IsSoundObject (Sized ξ σ)) b.objects
    functions : Each (IsSoundFunction (Sized ξ σ)) b.functions

  -- ---- definitions

  definition_made : (before : Made) (place : Place) (name : ℕ) (s : Signature) (x : Statement) → IsSignature s
      → Each (Sized ξ σ) s.parameters → IsSoundStatement (Sized ξ σ) x → IsMade before
      → IsMade (with_definition ξ before place name s x)
  definition_made before place name s x signature sizes body h =
      let f : Function = record {
        at = place;
        name = spelling ξ name;
        result = value_type s.result;
        parameters = s.parameters;
        body = x;
      } in
      let formed : IsSoundFunction (Sized ξ σ) f = record {
        result = value_sound s.result signature.result signature.rows;
        parameters = signature.parameters;
        sizes = sizes;
        body = body;
      } in
      record {
        scope = entry_knows before.scope name (m.Function s) signature h.scope;
        objects = h.objects;
        functions = each-push (IsSoundFunction (Sized ξ σ)) before.functions f h.functions formed;
      }

  keeps_definition : (strict : Bool) (before : Made) (place : Place) (forms : Bool) (result : CType) (name : Name)
      (ps : Parameters) (body : Compound)
      → Keeps σ.completed (walk_definition ξ strict before place forms result name ps body)
      (λ b. IsTarget result → IsMade before → IsMade b)
  keeps_definition strict before place forms result name ps body =
      keeps_then (keeps_parameters ξ σ (inside before.scope) ps) (λ d.
      let s : Signature = record { result = result; parameters = d.types } in
      let Γ = with_outer_entry name.number s d.scope in
      keeps_then {P = λ was. Unit {0}} (keeps_look _ (λ q. tt)) (λ was.
      keeps_then (keeps_update (with_function name.number s true) (λ q. refl)) (λ u.
      keeps_then (keeps_block ξ σ Γ (body_around result) strict body) (λ x.
      keeps_then {P = λ u. IsDefined s}
      (keeps_judge ξ _ _ (λ q. refl)
      (λ q e i none. defines_rules (facts_in ξ q) was.again was.differs forms s none)) (λ v.
      keeps_give _ (λ gv gb i j gd h b.
      let known = gd (tt, b.scope) in
      let signature = signature_formed s h gv.0 known.types in
      let value = value_sound result signature.result signature.rows in
      let sizes = held_sizes σ s.parameters known.types known.held gv.1 in
      definition_made before place name.number s x signature sizes
      (gb (outer_knows d.scope name.number s signature known.scope) (type_named (value_type result) value)) b))))))

  keeps_function : (strict : Bool) (before : Made) (place : Place) (specs : Specs) (pointers : Pointers) (name : Name)
      (ps : Parameters) (body : Compound)
      → Keeps σ.completed (walk_function ξ strict before place specs pointers name ps body)
      (λ b. IsMade before → IsMade b)
  keeps_function strict before place specs pointers name ps body =
      keeps_then (keeps_to_end ξ _ (keeps_specs ξ σ before.scope _ specs)) (λ p.
      keeps_then (keeps_pointers ξ σ before.scope false _ pointers) (λ t.
      keeps_weaken (keeps_enclosed (keeps_definition strict before place _ _ name ps body))
      (λ b g d i h. g (d (specified_deep p i)) h)))

  -- ---- the source

  keeps_external : (strict : Bool) (before : Made) (x : External)
      → Keeps σ.completed (walk_external ξ strict before x) (λ b. IsMade before → IsMade b)
  keeps_external strict before (PragmaPart pragma) = keeps_give _ (λ h. h)
  keeps_external strict before (DeclarationPart declaration) =
      keeps_then (keeps_declaration ξ σ before.scope declaration) (λ b. keeps_give _ (λ g h.
      let r = g h.scope in
      record {
        scope = r.scope;
        objects = each-append (IsSoundObject (Sized ξ σ)) before.objects b.objects h.objects r.objects;
        functions = h.functions;
      }))
  keeps_external strict before (FunctionPart specs pointers name ps body) =
      keeps_function strict before _ specs pointers name ps body

  keeps_externals : (strict : Bool) (before : Made) (xs : List External)
      → Keeps σ.completed (walk_externals ξ strict before xs) (λ b. IsMade before → IsMade b)
  keeps_externals strict before [] = keeps_give _ (λ h. h)
  keeps_externals strict before (x ∷ xs) =
      keeps_then (keeps_external strict before x) (λ b. keeps_weaken (keeps_externals _ b xs) (λ c g f h. g (f h)))

  keeps_unit : (unit : List External) → Keeps σ.completed (walk_unit ξ unit) IsMade
  keeps_unit unit =
      let nothing : Made = record { scope = file; objects = []; functions = [] } in
      keeps_then (keeps_externals false nothing unit) (λ made.
      keeps_then (any_judge ξ _ _ (λ q. refl)) (λ u. keeps_give made (λ i g.
      g (record { scope = (tt, tt); objects = tt; functions = tt }))))

-- The objects and the functions of a program are of types of objects, with every expression in them.
pub record IsSoundProgram (x : Checked) : Type 0 where
  pub objects : Each (IsSoundObject (IsSized x)) x.objects
  pub functions : Each (IsSoundFunction (IsSized x)) x.functions

-- Where every node of a source meets its rules, what it declares and defines is so.
unit_sound : (ξ : Setting) (unit : List External) → first_fault (walk_unit ξ unit begin).seen ≡ None
    → IsSoundProgram (record {
      threads = ξ.threads;
      structs = without_targets (walk_unit ξ unit begin).state.structs;
      objects = (walk_unit ξ unit begin).value.objects;
      functions = (walk_unit ξ unit begin).value.functions;
    })
unit_sound ξ unit fine =
    let σ = without_targets (walk_unit ξ unit begin).state.structs in
    let made = ((keeps_unit ξ σ unit).made begin fine AtEnd tt).1 in
    record { objects = made.objects; functions = made.functions }

-- So is the program of each source that is accepted.
pub source_sound : (names : List (List ℕ)) (threads : ℕ) (unit : List External) (x : Checked)
    → outcome names threads unit ≡ Accepted x → IsSoundProgram x
source_sound names threads unit x h =
    let ξ = setting names threads unit in
    let w = walk_unit ξ unit begin in
    let c : Checked = record {
      threads = threads;
      structs = without_targets w.state.structs;
      objects = w.value.objects;
      functions = w.value.functions;
    } in
    let p = accepted_by (first_fault w.seen) (limit_in w) c x h in
    subst IsSoundProgram p.2 (unit_sound ξ unit p.0)

pub accepted_are_formed : AcceptedAreFormed
accepted_are_formed = record {
  each = λ names threads unit x h.
      let s = source_sound names threads unit x h in
      record {
        objects = objects_formed (IsSized x) x.objects s.objects;
        functions = functions_formed (IsSized x) x.functions s.functions;
      };
}
