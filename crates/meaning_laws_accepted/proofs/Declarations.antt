-- Declarations: what the walk makes of them is formed, and so are the names in scope after them.
use Rattle.std.proofs.Common.{◌≡◌, ℕ, Bool, true, false, not, ◌&&◌, List, [], Option, Some, None, refl}
use Rattle.std.specs.List.{list_any}
use Rattle.upc_text.specs.declared.place.Place.{Place}
use Rattle.upc_tree.specs.Expression as t
use Rattle.upc_tree.specs.Expression.{NextExprs, NoNextExprs, AndExpr, ObjectDeclarator, FunctionDeclarator}
use Rattle.upc_tree.specs.Declaration as d
use Rattle.upc_tree.specs.Declaration.{Declaration, DeclaredList, NoneDeclared, SomeDeclared, NextDeclareds}
use Rattle.upc_tree.specs.Declaration.{NoNextDeclareds, AndDeclared, DeclaredAs}
use Rattle.upc_values.specs.Lists.{Each}
use Rattle.upc_values.proofs.Lists.{each-push}
use Rattle.upc_types.specs.Types.{CType, Qualified, Structs, base_of, block_of}
use Rattle.typing_rules.specs.Attributes.{Facts}
use Rattle.typing_rules.specs.Library.{int}
use Rattle.typing_rules.specs.Values.{base_target, is_lock, is_shared, is_struct}
use Rattle.typing_rules.specs.Meanings as m
use Rattle.typing_rules.specs.Meanings.{Signature}
use Rattle.typing_rules.specs.Nodes as n
use Rattle.typing_rules.specs.Nodes.{Use}
use Rattle.typing_rules.specs.Rules.{lowest, table, judge, rule_4, rule_6, rule_7, rule_8, rule_11, has_size}
use Rattle.typing_rules.specs.Rules.{declares_nothing, is_struct_type, lacks_members, is_too_large, shares_private}
use Rattle.typing_rules.specs.Rules.{has_wrong_dimensions}
use Rattle.typed_tree.specs.Scopes.{Setting, Env, is_file, inside, declare, with_entry}
use Rattle.typed_tree.specs.Scopes.{with_function}
use Rattle.typed_tree.specs.Tree.{Expr}
use Rattle.typed_tree.specs.layer.Judged.{Earlier}
use Rattle.upc_checker_scopes.specs.Walk.{facts_in}
use Rattle.upc_checker_types.specs.Specifiers.{Shaped, formed}
use Rattle.upc_checker_declarations.specs.Declarations.{signature_of, declares_function, initial_constant}
use Rattle.upc_checker_declarations.specs.Declarations.{element_use}
use Rattle.upc_checker_declarations.specs.Declarations.{walk_initial_value, walk_initial_values, walk_initial, Behind}
use Rattle.upc_checker_declarations.specs.Declarations.{walk_declared, walk_next_declareds, walk_declared_list}
use Rattle.upc_checker_declarations.specs.Declarations.{walk_declaration}
use Rattle.meaning_laws.proofs.Rules.{unbroken, or_left, or_right}
use Rattle.meaning_laws_accepted.proofs.Types.{IsTarget, IsSoundType, IsNamed, LeadsToNamed, sound_named}
use Rattle.meaning_laws_accepted.proofs.Types.{deep_pointer, target_block, deep_sound, deep_array, no_rows}
use Rattle.meaning_laws_accepted.proofs.Types.{element_named}
use Rattle.meaning_laws_accepted.proofs.Sounds.{AreSoundExprs, IsSoundInitial, IsSoundObject}
use Rattle.meaning_laws_accepted.proofs.Declared.{specified_deep, formed_sound}
use Rattle.meaning_laws_accepted.proofs.Structs.{AreFormedStructs}
use Rattle.meaning_laws_accepted.proofs.Sizes.{formed_laid, laid_later}
use Rattle.meaning_laws_accepted.proofs.Scopes.{IsSignature, Knows, entry_knows, declare_knows}
use Rattle.meaning_laws_accepted.proofs.Walks.{Keeps, keeps_then, keeps_give, keeps_weaken, keeps_judge, any_judge}
use Rattle.meaning_laws_accepted.proofs.Walks.{keeps_enclosed, keeps_look, keeps_update, keeps_to_end}
use Rattle.meaning_laws_accepted.proofs.Attributes.{UseFormed}
use Rattle.meaning_laws_accepted.proofs.Nodes.{Sized}
use Rattle.meaning_laws_accepted.proofs.Expressions.{FormedIn, Any, keeps_constantly, keeps_walk}
use Rattle.meaning_laws_accepted.proofs.Expressions.{keeps_specs, keeps_pointers, keeps_sizes, keeps_parameters}

-- ---- types

pub type_named : (t : CType) → IsSoundType t → IsNamed (base_of t)
type_named (Qualified b c s x) h = sound_named s b h.0

element_formed : (o : Option CType) → LeadsToNamed o → UseFormed (element_use o)
element_formed None h = tt
element_formed (Some t) h = h

-- A declared object is of a type of objects, shared in the file alone, and has a size at the end of the source.
abbrev IsObject : Structs → Env → CType → Type 0
IsObject σ Γ t = IsSoundType t × ((is_shared t && not (is_file Γ)) ≡ false) × (has_size σ t ≡ true)

object_rules : (σ : Structs) (φ : Facts) (Γ : Env) (again : Bool) (threads : ℕ) (s : Shaped) (sizes : List _)
    → Earlier σ.completed φ.structs.completed → AreFormedStructs φ.structs.completed → IsTarget s.ctype
    → lowest φ (n.DeclaresObject again (is_file Γ) (formed threads s sizes)) ≡ None
    → IsObject σ Γ (formed threads s sizes).ctype
object_rules σ φ Γ again threads s sizes e i h none =
    let f = formed threads s sizes in
    let x = n.DeclaresObject again (is_file Γ) f in
    let nothing = or_right (not f.forms) (declares_nothing f.ctype)
    (unbroken (table φ x) 3 (judge 4 (rule_4 x)) refl none) in
    let large = or_right (has_wrong_dimensions f) (is_too_large φ.structs f.ctype)
    (unbroken (table φ x) 5 (judge 6 (rule_6 φ x)) refl none) in
    let lacks = or_left (lacks_members φ.structs f.ctype) (shares_private φ.structs f.ctype)
    (unbroken (table φ x) 7 (judge 8 (rule_8 φ x)) refl none) in
    let laid = formed_laid φ.structs threads s sizes i h nothing lacks large in (
      (formed_sound threads s sizes (deep_pointer s.ctype h) nothing, laid.block),
      unbroken (table φ x) 6 (judge 7 (rule_7 x)) refl none,
      laid_later σ.completed φ.structs.completed f.ctype e laid,
    )

-- A function gives no lock and no struct.
abbrev pub GivesValue : CType → Type 0
GivesValue t = (is_lock t ≡ false) × (is_struct t ≡ false)

declares_rules : (φ : Facts) (again forms : Bool) (s : Signature) → lowest φ (n.DeclaresFunction again forms s) ≡ None
    → GivesValue s.result
declares_rules φ again forms s none =
    let x = n.DeclaresFunction again forms s in
    let lock = unbroken (table φ x) 3 (judge 4 (rule_4 x)) refl none in
    let struct = unbroken (table φ x) 10 (judge 11 (rule_11 x)) refl none in (
      or_right (not forms) (is_lock s.result) lock,
      or_left (is_struct s.result) (list_any is_struct_type s.parameters) struct,
    )

pub signature_formed : (s : Signature) → IsTarget s.result → GivesValue s.result → Each IsSoundType s.parameters
    → IsSignature s
signature_formed s h g ps = record {
  result =
      (deep_sound (block_of s.result) (base_of s.result) (deep_pointer s.result h) g.0, target_block s.result h);
  rows = no_rows (base_of s.result) (deep_array (base_of s.result) (deep_pointer s.result h));
  struct = g.1;
  parameters = ps;
}

module _ (ξ : Setting) (σ : Structs) where
  -- ---- initialisers

  keeps_initial_constant : (file : Bool) (x : Expr) → Any ξ σ (initial_constant ξ file x)
  keeps_initial_constant true x = keeps_then (keeps_constantly ξ σ x) (λ c. keeps_give _ (λ i. tt))
  keeps_initial_constant false x = keeps_give _ tt

  keeps_initial_value : (Γ : Env) (file : Bool) (how : Use) (x : t.Expr)
      → Keeps σ.completed (walk_initial_value ξ Γ file how x) (FormedIn ξ σ Γ how)
  keeps_initial_value Γ file how x =
      keeps_then (keeps_walk ξ σ Γ how x) (λ a. keeps_then (keeps_initial_constant file a) (λ u.
      keeps_give _ (λ i g. g)))

  keeps_initial_values : (Γ : Env) (file : Bool) (how : Use) (xs : NextExprs)
      → Keeps σ.completed (walk_initial_values ξ Γ file how xs)
      (λ ys. Knows Γ → UseFormed how → AreSoundExprs (Sized ξ σ) ys)
  keeps_initial_values Γ file how NoNextExprs = keeps_give _ (λ k u. tt)
  keeps_initial_values Γ file how (AndExpr comma value more) =
      keeps_then (keeps_initial_value Γ file how value) (λ x. keeps_then (keeps_initial_values Γ file how more) (λ xs.
      keeps_give _ (λ gs g k u. ((g k u).0, gs k u))))

  keeps_initial : (Γ : Env) (place : Place) (object : Bool) (type : CType) (x : d.Initial)
      → Keeps σ.completed (walk_initial ξ Γ place object type x)
      (λ i. Knows Γ → IsSoundType type → IsSoundInitial (Sized ξ σ) i)
  keeps_initial Γ place object type d.NoInitial = keeps_give _ (λ k h. tt)
  keeps_initial Γ place object type (d.ValueInitial equal value) =
      keeps_then (keeps_initial_value Γ (is_file Γ) (n.Into type) value) (λ a.
      keeps_then (any_judge ξ _ _ (λ s. refl)) (λ u. keeps_give _ (λ i g k h. (g k (type_named type h)).0)))
  keeps_initial Γ place object type (d.ListInitial equal left first more right) =
      let how = element_use (base_target (base_of type)) in
      keeps_then (keeps_initial_value Γ (is_file Γ) how first) (λ x.
      keeps_then (keeps_initial_values Γ (is_file Γ) how more) (λ xs.
      keeps_then (any_judge ξ _ _ (λ s. refl)) (λ u. keeps_give _ (λ i gs g k h.
      let into = element_formed (base_target (base_of type)) (element_named type h) in
      ((g k into).0, gs k into)))))

  -- ---- objects

  -- What is declared so far is formed.
  pub record AreDeclared (b : Behind) : Type 0 where
    pub scope : Knows b.scope
    pub objects : Each (IsSoundObject (Sized ξ σ)) b.objects

  -- ---- declarators

  keeps_declares : (Γ : Env) (at : Place) (name : ℕ) (forms : Bool) (s : Signature)
      → Keeps σ.completed (declares_function ξ Γ at name forms s) (λ u. GivesValue s.result)
  keeps_declares Γ at name forms s =
      keeps_then {P = λ again. Unit {0}} (keeps_look _ (λ q. tt)) (λ again.
      keeps_then {P = λ u. GivesValue s.result}
      (keeps_judge ξ _ _ (λ q. refl) (λ q e i none. declares_rules (facts_in ξ q) again forms s none)) (λ u.
      keeps_weaken (keeps_update (with_function name s false) (λ q. refl)) (λ v i g j. g)))

  abbrev Declares : Behind → Shaped → Behind → Type 0
  Declares before s b = IsTarget s.ctype → AreDeclared before → AreDeclared b

  keeps_declared : (place : Place) (s : Shaped) (before : Behind) (x : d.Declared)
      → Keeps σ.completed (walk_declared ξ place s before x) (Declares before s)
  keeps_declared place s before (DeclaredAs (ObjectDeclarator pointers name sizes) initial) =
      let Γ = before.scope in
      keeps_then (keeps_pointers ξ σ Γ _ s pointers) (λ p. keeps_then (keeps_sizes ξ σ Γ sizes) (λ ns.
      let type = (formed ξ.threads p ns).ctype in
      keeps_then {P = λ u. IsTarget p.ctype → IsObject σ Γ type}
      (keeps_judge ξ _ _ (λ q. refl)
      (λ q e i none h. object_rules σ (facts_in ξ q) Γ _ ξ.threads p ns e i h none)) (λ u.
      keeps_then (keeps_initial (declare name.number type Γ) _ true type initial) (λ i.
      keeps_give _ (λ gi go j gp h b.
      let o = go (gp h) in
      let known = declare_knows Γ name.number type o.0 o.1 b.scope in
      record {
        scope = known;
        objects = each-push (IsSoundObject (Sized ξ σ)) before.objects _ b.objects (o.0, gi known o.0, o.2);
      })))))
  keeps_declared place s before (DeclaredAs (FunctionDeclarator pointers name ps) initial) =
      let Γ = before.scope in
      keeps_then (keeps_pointers ξ σ Γ false s pointers) (λ p.
      keeps_then (keeps_enclosed (keeps_parameters ξ σ (inside Γ) ps)) (λ ds.
      let signature = signature_of p ds in
      keeps_then (keeps_declares Γ _ name.number p.forms signature) (λ u.
      keeps_then (keeps_initial (with_entry name.number (m.Function signature) Γ) _ false int initial) (λ i.
      keeps_give _ (λ gi gv gd gp h b.
      let formed = signature_formed signature (gp h) gv (gd (tt, b.scope)).types in
      record {
        scope = entry_knows Γ name.number (m.Function signature) formed b.scope;
        objects = b.objects;
      })))))

  keeps_next_declareds : (place : Place) (s : Shaped) (before : Behind) (x : NextDeclareds)
      → Keeps σ.completed (walk_next_declareds ξ place s before x) (Declares before s)
  keeps_next_declareds place s before NoNextDeclareds = keeps_give _ (λ h b. b)
  keeps_next_declareds place s before (AndDeclared comma x more) =
      keeps_then (keeps_declared place s before x) (λ b. keeps_weaken (keeps_next_declareds place s b more)
      (λ c g f h a. g h (f h a)))

  keeps_declared_list : (place : Place) (s : Shaped) (before : Behind) (x : DeclaredList)
      → Keeps σ.completed (walk_declared_list ξ place s before x) (Declares before s)
  keeps_declared_list place s before NoneDeclared = keeps_give _ (λ h b. b)
  keeps_declared_list place s before (SomeDeclared first more) =
      keeps_then (keeps_declared place s before first) (λ b. keeps_weaken (keeps_next_declareds place s b more)
      (λ c g f h a. g h (f h a)))

  -- A declaration declares what is formed.
  pub keeps_declaration : (Γ : Env) (x : Declaration)
      → Keeps σ.completed (walk_declaration ξ Γ x) (λ b. Knows Γ → AreDeclared b)
  keeps_declaration Γ (d.Declares specs list semicolon) =
      keeps_then (keeps_to_end ξ _ (keeps_specs ξ σ Γ _ specs)) (λ p.
      keeps_then (keeps_declared_list _ _ (record { scope = Γ; objects = [] }) list) (λ b.
      keeps_then (any_judge ξ _ _ (λ q. refl)) (λ u. keeps_give _ (λ i g j k.
      g (specified_deep p j) (record { scope = k; objects = tt })))))
