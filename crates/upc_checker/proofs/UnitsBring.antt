-- As many objects, parameters of definitions and functions come in with a source as it has; and no more than there
-- may be, where no declaration is noted as the first with more.
use Rattle.std.proofs.Common.{◌≡◌, ℕ, ◌+◌, ◌≤◌, nat_lt, Bool, true, false, ◌&&◌, if◌then◌else◌, length, List, [], ◌∷◌, ◌++◌, Option, Some, None, refl, sym, ap, ◌∙◌, arith, subst}
use Rattle.std.proofs.lemmas.Bool.{ltb-false}
use Rattle.std.proofs.lemmas.List.{length-append}
use Rattle.upc_text.specs.declared.place.Place.{Place}
use Rattle.upc_tree.specs.declared.span.Name.{Name}
use Rattle.upc_tree.specs.Expression.{Specs, Pointers, Parameters}
use Rattle.upc_tree.specs.Declaration.{Declaration, Declares}
use Rattle.upc_tree.specs.Statement.{Compound}
use Rattle.upc_tree.specs.Unit.{External, PragmaPart, DeclarationPart, FunctionPart}
use Rattle.upc_types.specs.Types.{CType}
use Rattle.typing_rules.specs.Meanings.{Signature}
use Rattle.typing_rules.specs.Nodes as n
use Rattle.typing_rules.specs.Values.{value_type}
use Rattle.typed_tree.specs.Scopes.{Setting, Env, State, begin, spelling, inside, is_file, with_function}
use Rattle.typed_tree.specs.Tree.{DeclaredObject, Function}
use Rattle.upc_checker_scopes.specs.Counts.{or_place, ended, with_more}
use Rattle.upc_checker_scopes.specs.Places.{specs_place}
use Rattle.upc_checker_scopes.specs.Walk.{Walk, give, andthen, judge, update, enclosed}
use Rattle.upc_checker_types.specs.Specifiers.{specified_type, specifiers_form}
use Rattle.upc_checker_expressions.specs.Expressions.{walk_parameters, walk_pointers, walk_specifiers}
use Rattle.upc_checker_declarations.specs.Declarations.{Behind, walk_declaration}
use Rattle.upc_checker_declarations.proofs.Coming.{Keeps, keeps_judge, keeps_look, keeps_update, Brings, kept, brings, goes_on, brings_give, brings_judge, brings_enclosed, keeps_to_their_end, specs_keep, pointers_keep, parameters_keep, declaration_brings}
use Rattle.upc_checker_statements.specs.Statements.{walk_block}
use Rattle.upc_checker_statements.proofs.StatementsBring.{block_brings}
use Rattle.typed_tree.specs.LocalObjects.{objects_in}
use Rattle.typed_tree.specs.Programs.{count_in}
use Rattle.upc_checker.specs.Units.{Made, with_definition, in_definition, earlier, with_outer_entry, body_around, walk_definition, walk_function, walk_external, walk_externals, walk_unit}

-- ---- how many come in

count_in-append : (fs gs : List Function) → count_in (fs ++ gs) ≡ count_in fs + count_in gs
count_in-append [] gs = omega arith
count_in-append (f ∷ fs) gs = let h = count_in-append fs gs in omega (arith, h)

-- The objects of the file, and the functions with their parameters and objects.
abbrev pub made_count : Made → ℕ
made_count m = length m.objects + count_in m.functions

added : (before : Made) (f : Function) → made_count before + length (objects_in f.body) + (1 + length f.parameters) ≡ length before.objects + count_in (before.functions ++ (f ∷ []))
added before f = let h = count_in-append before.functions (f ∷ []) in omega (arith, h)

definition_brings : (ξ : Setting) (strict : Bool) (before : Made) (place : Place) (forms : Bool) (result : CType) (name : Name) (ps : Parameters) (body : Compound) →
    Brings (made_count before) (walk_definition ξ strict before place forms result name ps body) made_count
definition_brings ξ strict before place forms result name ps body =
    kept (parameters_keep ξ _ ps) (λ ds. kept (keeps_look _) (λ was. kept (keeps_update _ (λ s. refl)) (λ u.
    brings (block_brings ξ _ _ strict body) (λ x. brings_judge (1 + length ds.types) ξ _ _ (λ s. refl) (λ v.
    let f : Function = record { at = place; name = spelling ξ name.number; result = value_type result; parameters = ds.types; body = x } in
    brings_give _ (added before f))))))

function_brings : (ξ : Setting) (strict : Bool) (before : Made) (place : Place) (specs : Specs) (pointers : Pointers) (name : Name) (ps : Parameters) (body : Compound) →
    Brings (made_count before) (walk_function ξ strict before place specs pointers name ps body) made_count
function_brings ξ strict before place specs pointers name ps body =
    kept (keeps_to_their_end ξ _ (specs_keep ξ _ _ specs)) (λ p. kept (pointers_keep ξ _ _ _ pointers) (λ t. brings_enclosed (definition_brings ξ strict before place _ _ name ps body)))

external_brings : (ξ : Setting) (strict : Bool) (before : Made) (x : External) → Brings (made_count before) (walk_external ξ strict before x) made_count
external_brings ξ strict before (PragmaPart pragma) = brings_give _ refl
external_brings ξ strict before (DeclarationPart declaration) =
    brings (declaration_brings ξ _ declaration) (λ b. brings_give _ (omega (arith, length-append before.objects b.objects)))
external_brings ξ strict before (FunctionPart specs pointers name ps body) = function_brings ξ strict before _ specs pointers name ps body

externals_bring : (ξ : Setting) (strict : Bool) (before : Made) (xs : List External) → Brings (made_count before) (walk_externals ξ strict before xs) made_count
externals_bring ξ strict before [] = brings_give _ refl
externals_bring ξ strict before (x ∷ xs) = goes_on (external_brings ξ strict before x) (λ b. externals_bring ξ _ b xs)

unit_brings : (ξ : Setting) (unit : List External) → Brings 0 (walk_unit ξ unit) made_count
unit_brings ξ unit = goes_on (externals_bring ξ false _ unit) (λ made. kept (keeps_judge ξ _ _ (λ s. refl)) (λ u. brings_give _ refl))

-- ---- how many there may be

-- No more have come in than there may be, where none is noted as the first with more.
abbrev Few : ℕ → State → Type 0
Few most s = s.above ≡ None → s.come + s.structs.declared ≤ most

-- After this walk it is so whatever came before.
record Ends {A : Type 0} (most : ℕ) (w : Walk A) : Type 0 where
  few : (s : State) → Few most (w s).state

ends_last : {A B : Type 0} {most : ℕ} (w : Walk A) {go : A → Walk B} → ((a : A) → Ends most (go a)) → Ends most (andthen w go)
unfolding andthen
ends_last w k = record { few = λ s. (k (w s).value).few (w s).state }

ends_enclosed : {A : Type 0} {most : ℕ} {w : Walk A} → Ends most w → Ends most (enclosed w)
unfolding enclosed
ends_enclosed h = record { few = h.few }

by_place : (most n : ℕ) (at : Place) (o : Option Place) (b : Bool) → nat_lt most n ≡ b → or_place o (if b then Some at else None) ≡ None → n ≤ most
by_place most n at (Some place) b e h = absurd cc
by_place most n at None true e h = absurd cc
by_place most n at None false e h = ltb-false most n e

few_ended : (most : ℕ) (at : Place) (t : State) → Few most (ended most at t)
few_ended most at t h = by_place most (t.come + t.structs.declared) at t.above (nat_lt most (t.come + t.structs.declared)) refl h

-- The node with which a declaration ends.
ends_specifies : (ξ : Setting) (at : Place) (forms : Bool) (b : Behind) → Ends ξ.most (andthen (judge ξ at (n.Specifies forms)) (λ u. give b))
unfolding andthen judge
ends_specifies ξ at forms b = record { few = λ s. few_ended ξ.most at s }

-- That with which a definition ends.
ends_defines : (ξ : Setting) (at : Place) (again differs forms : Bool) (signature : Signature) (m : Made) →
    Ends ξ.most (andthen (judge ξ at (n.Defines again differs forms signature)) (λ u. give m))
unfolding andthen judge
ends_defines ξ at again differs forms signature m = record { few = λ s. few_ended ξ.most at (with_more (1 + length signature.parameters) s) }

-- What is made of it changes nothing.
ends_given : {A B : Type 0} {most : ℕ} {w : Walk A} (f : A → B) → Ends most w → Ends most (andthen w (λ a. give (f a)))
unfolding andthen
ends_given f h = record { few = h.few }

declaration_ends : (ξ : Setting) (Γ : Env) (x : Declaration) → Ends ξ.most (walk_declaration ξ Γ x)
declaration_ends ξ Γ (Declares specs list semicolon) =
    ends_last _ (λ p. ends_last _ (λ b. ends_specifies ξ (specs_place specs) (specifiers_form (is_file Γ) p) b))

definition_ends : (ξ : Setting) (strict : Bool) (before : Made) (place : Place) (forms : Bool) (result : CType) (name : Name) (ps : Parameters) (body : Compound) →
    Ends ξ.most (walk_definition ξ strict before place forms result name ps body)
definition_ends ξ strict before place forms result name ps body =
    ends_last (walk_parameters ξ (inside before.scope) ps) (λ ds.
    let signature : Signature = record { result = result; parameters = ds.types } in
    ends_last (earlier ξ before.scope name.number signature) (λ was.
    ends_last (update (with_function name.number signature true)) (λ u.
    ends_last (walk_block ξ (with_outer_entry name.number signature ds.scope) (body_around result) strict body) (λ x.
    ends_defines ξ place was.again was.differs forms signature (with_definition ξ before place name.number signature x)))))

function_ends : (ξ : Setting) (strict : Bool) (before : Made) (place : Place) (specs : Specs) (pointers : Pointers) (name : Name) (ps : Parameters) (body : Compound) →
    Ends ξ.most (walk_function ξ strict before place specs pointers name ps body)
function_ends ξ strict before place specs pointers name ps body =
    ends_last (walk_specifiers ξ before.scope (in_definition place) specs) (λ p.
    ends_last (walk_pointers ξ before.scope false (specified_type p) pointers) (λ t.
    ends_enclosed (definition_ends ξ strict before place (specifiers_form true p && t.forms) t.ctype name ps body)))

external_few : (ξ : Setting) (strict : Bool) (before : Made) (x : External) (s : State) → Few ξ.most s → Few ξ.most (walk_external ξ strict before x s).state
external_few ξ strict before (PragmaPart pragma) s h = h
external_few ξ strict before (DeclarationPart declaration) s h = (ends_given _ (declaration_ends ξ before.scope declaration)).few s
external_few ξ strict before (FunctionPart specs pointers name ps body) s h = (function_ends ξ strict before _ specs pointers name ps body).few s

externals_few : (ξ : Setting) (strict : Bool) (before : Made) (xs : List External) (s : State) → Few ξ.most s → Few ξ.most (walk_externals ξ strict before xs s).state
unfolding andthen
externals_few ξ strict before [] s h = h
externals_few ξ strict before (x ∷ xs) s h =
    let w = walk_external ξ strict before x s in
    externals_few ξ _ w.value xs w.state (external_few ξ strict before x s h)

unit_few : (ξ : Setting) (unit : List External) → Few ξ.most (walk_unit ξ unit begin).state
unfolding andthen judge
unit_few ξ unit = externals_few ξ false _ unit begin (λ h. omega arith)

-- Where no declaration is noted as the first with more, a source has no more structs, objects, parameters of
-- definitions and functions than there may be.
pub unit_counts : (ξ : Setting) (unit : List External) → (walk_unit ξ unit begin).state.above ≡ None →
    (walk_unit ξ unit begin).state.structs.declared + length (walk_unit ξ unit begin).value.objects + count_in (walk_unit ξ unit begin).value.functions ≤ ξ.most
unit_counts ξ unit h =
    let p = (unit_brings ξ unit).brought begin in
    let q = unit_few ξ unit h in
    omega (arith, p, q)
