-- How many objects, parameters of definitions and functions come in with a walk: as many as what it makes has.
use Rattle.std.proofs.Common.{◌≡◌, ℕ, ◌+◌, Bool, true, false, length, List, [], ◌∷◌, ◌++◌, Option, Some, None, refl, sym, ap, ◌∙◌, arith}
use Rattle.std.proofs.lemmas.List.{length-append}
use Rattle.upc_text.specs.declared.place.Place.{Place}
use Rattle.upc_tree.specs.Expression.{Expr, Named, Number, Character, Strings, Constant, Paren, Subscript, Call, MemberOf, Postfix, Unary, SizeOfExpr, SizeOfType, Cast, Binary, Assign, Conditional, Comma, Arguments, NoArguments, SomeArguments, NextExprs, NoNextExprs, AndExpr, TypeName, Typed, Specs, NoSpecs, AndSpec, Spec, WordSpec, QualSpec, TagSpec, StructSpec, Quals, NoQuals, AndQual, Qual, Const, Strict, Relaxed, Shared, Layout, NoLayout, IndefiniteLayout, StarLayout, BlockLayout, Pointers, NoPointers, AndPointer, Dimensions, NoDimensions, AndDimension, Members, NoMembers, AndMember, NextDeclarators, NoNextDeclarators, AndDeclarator, Declarator, ObjectDeclarator, FunctionDeclarator, Parameters, NoParameters, VoidParameters, SomeParameters, Parameter, Parametric, NextParameters, NoNextParameters, AndParameter, ParameterArray, NoArray, UnsizedArray, SizedArray}
use Rattle.upc_tree.specs.Declaration as d
use Rattle.upc_tree.specs.Declaration.{Declaration, Declares, DeclaredList, NoneDeclared, SomeDeclared, NextDeclareds, NoNextDeclareds, AndDeclared, DeclaredAs}
use Rattle.upc_types.specs.Types.{CType, Member}
use Rattle.typing_rules.specs.Attributes.{Facts}
use Rattle.typing_rules.specs.Nodes.{Node, Use}
use Rattle.typed_tree.specs.Scopes.{Setting, Env, State, level_of, with_tag}
use Rattle.typed_tree.specs.Tree as k
use Rattle.typed_tree.specs.Tree.{ExprKind}
use Rattle.upc_checker_scopes.specs.Counts.{counted}
use Rattle.upc_checker_scopes.specs.Walk.{Walk, give, andthen, judge, finish, update, look, enclosed}
use Rattle.upc_checker_types.specs.Specifiers.{Specified, Shaped}
use Rattle.upc_checker_expressions.specs.Expressions.{constantly, end_specifiers, to_their_end, walk, walk_arguments, walk_more, walk_type, walk_specs, walk_spec, walk_quals, walk_qual, walk_layout, walk_pointers, walk_sizes, walk_members, walk_next_members, walk_member, walk_parameters, walk_next_parameters, walk_parameter, walk_array}
use Rattle.upc_checker_scopes.specs.Known.{tag_seen, unless_found, refer, open_struct, close_struct}
use Rattle.upc_checker_scopes.specs.Places.{at}
use Rattle.upc_checker_types.specs.Members.{Declared}
use Rattle.upc_checker_types.specs.Shapes.{Specifying}
use Rattle.upc_checker_declarations.specs.Declarations.{declares_function, initial_constant, walk_initial_value, walk_initial_values, walk_initial, Behind, walk_declared, walk_next_declareds, walk_declared_list, walk_declaration}

-- ---- walks with which none come in

-- None come in with a walk.
pub record Keeps {A : Type 0} (w : Walk A) : Type 0 where
  pub same : (s : State) → (w s).state.come ≡ s.come

pub keeps_then : {A B : Type 0} {w : Walk A} {go : A → Walk B} → Keeps w → ((a : A) → Keeps (go a)) → Keeps (andthen w go)
unfolding andthen
keeps_then {w = w} {go = go} h k = record { same = λ s. (k (w s).value).same (w s).state ∙ h.same s }

pub keeps_give : {A : Type 0} (a : A) → Keeps (give a)
keeps_give a = record { same = λ s. refl }

pub keeps_judge : (ξ : Setting) (at : Place) (x : Node) → ((s : State) → (counted ξ at x s).come ≡ s.come) → Keeps (judge ξ at x)
unfolding judge
keeps_judge ξ at x h = record { same = h }

pub keeps_finish : (ξ : Setting) (at : Place) (x : Node) (kind : Facts → ExprKind) → Keeps (finish ξ at x kind)
unfolding finish
keeps_finish ξ at x kind = record { same = λ s. refl }

pub keeps_update : (f : State → State) → ((s : State) → (f s).come ≡ s.come) → Keeps (update f)
unfolding update
keeps_update f h = record { same = h }

pub keeps_look : {A : Type 0} (f : State → A) → Keeps (look f)
unfolding look
keeps_look f = record { same = λ s. refl }

pub keeps_enclosed : {A : Type 0} {w : Walk A} → Keeps w → Keeps (enclosed w)
unfolding enclosed
keeps_enclosed h = record { same = h.same }

keeps_refer : (alone : Bool) (Γ : Env) (name : ℕ) → Keeps (refer alone Γ name)
keeps_refer alone Γ name = record { same = λ s. of_tag s (tag_seen alone Γ name s) }
  where
    of_tag : (s : State) (o : Option ℕ) → (unless_found o (with_tag name (level_of Γ)) s).come ≡ s.come
    of_tag s None = refl
    of_tag s (Some number) = refl

keeps_open : (Γ : Env) (name : ℕ) → Keeps (open_struct Γ name)
keeps_open Γ name = keeps_refer true Γ name

keeps_close : (ξ : Setting) (at : Place) (number : ℕ) (members : List Member) → Keeps (close_struct ξ at number members)
keeps_close ξ at number members =
    keeps_then (keeps_look _) (λ s. keeps_then (keeps_judge ξ at _ (λ s. refl)) (λ u. keeps_update _ (λ s. refl)))

pub keeps_constantly : (ξ : Setting) (a : k.Expr) → Keeps (constantly ξ a)
keeps_constantly ξ a = keeps_then (keeps_judge ξ _ _ (λ s. refl)) (λ u. keeps_give _)

keeps_specifiers : (ξ : Setting) (at : Place) (p : Specified) → Keeps (end_specifiers ξ at p)
unfolding end_specifiers
keeps_specifiers ξ at p = record { same = λ s. refl }

pub keeps_to_their_end : (ξ : Setting) (at : Place) {w : Walk Specified} → Keeps w → Keeps (to_their_end ξ at w)
keeps_to_their_end ξ at h = keeps_then h (λ p. keeps_then (keeps_specifiers ξ at p) (λ u. keeps_give p))

-- ---- expressions and types

mutual
  pub keeps : (ξ : Setting) (Γ : Env) (how : Use) (e : Expr) → Keeps (walk ξ Γ how e)
  keeps ξ Γ how (Named name) = keeps_finish _ _ _ _
  keeps ξ Γ how (Number value kind span) = keeps_finish _ _ _ _
  keeps ξ Γ how (Character value span) = keeps_finish _ _ _ _
  keeps ξ Γ how (Strings first more) = keeps_finish _ _ _ _
  keeps ξ Γ how (Constant word span) = keeps_finish _ _ _ _
  keeps ξ Γ how (Paren left inner right) = keeps_then (keeps ξ Γ _ inner) (λ a. keeps_give _)
  keeps ξ Γ how (Subscript a left i right) = keeps_then (keeps ξ Γ _ a) (λ x. keeps_then (keeps ξ Γ _ i) (λ y. keeps_finish _ _ _ _))
  keeps ξ Γ how (Call callee left arguments) =
      keeps_then (keeps ξ Γ _ callee) (λ f. keeps_then (arguments_keep ξ Γ _ arguments) (λ xs. keeps_finish _ _ _ _))
  keeps ξ Γ how (MemberOf a mark dot name) = keeps_then (keeps ξ Γ _ a) (λ x. keeps_finish _ _ _ _)
  keeps ξ Γ how (Postfix a mark span) = keeps_then (keeps ξ Γ _ a) (λ x. keeps_finish _ _ _ _)
  keeps ξ Γ how (Unary mark span a) = keeps_then (keeps ξ Γ _ a) (λ x. keeps_finish _ _ _ _)
  keeps ξ Γ how (SizeOfExpr word span a) = keeps_then (keeps ξ Γ _ a) (λ x. keeps_finish _ _ _ _)
  keeps ξ Γ how (SizeOfType word span left type right) = keeps_then (type_keeps ξ Γ _ type) (λ t. keeps_finish _ _ _ _)
  keeps ξ Γ how (Cast left type right a) = keeps_then (type_keeps ξ Γ _ type) (λ t. keeps_then (keeps ξ Γ _ a) (λ x. keeps_finish _ _ _ _))
  keeps ξ Γ how (Binary a mark span b) = keeps_then (keeps ξ Γ _ a) (λ x. keeps_then (keeps ξ Γ _ b) (λ y. keeps_finish _ _ _ _))
  keeps ξ Γ how (Assign a mark span b) = keeps_then (keeps ξ Γ _ a) (λ x. keeps_then (keeps ξ Γ _ b) (λ y. keeps_finish _ _ _ _))
  keeps ξ Γ how (Conditional test question a colon b) =
      keeps_then (keeps ξ Γ _ test) (λ t. keeps_then (keeps ξ Γ _ a) (λ x. keeps_then (keeps ξ Γ _ b) (λ y. keeps_finish _ _ _ _)))
  keeps ξ Γ how (Comma first more) = keeps_then (keeps ξ Γ _ first) (λ x. keeps_then (more_keep ξ Γ _ more) (λ xs. keeps_finish _ _ _ _))

  arguments_keep : (ξ : Setting) (Γ : Env) (uses : List Use) (xs : Arguments) → Keeps (walk_arguments ξ Γ uses xs)
  arguments_keep ξ Γ uses (NoArguments right) = keeps_give _
  arguments_keep ξ Γ uses (SomeArguments first more right) =
      keeps_then (keeps ξ Γ _ first) (λ x. keeps_then (more_keep ξ Γ _ more) (λ xs. keeps_give _))

  more_keep : (ξ : Setting) (Γ : Env) (uses : List Use) (xs : NextExprs) → Keeps (walk_more ξ Γ uses xs)
  more_keep ξ Γ uses NoNextExprs = keeps_give _
  more_keep ξ Γ uses (AndExpr comma value more) = keeps_then (keeps ξ Γ _ value) (λ x. keeps_then (more_keep ξ Γ _ more) (λ xs. keeps_give _))

  type_keeps : (ξ : Setting) (Γ : Env) (place : Place) (t : TypeName) → Keeps (walk_type ξ Γ place t)
  type_keeps ξ Γ place (Typed specs pointers sizes) =
      keeps_then (keeps_to_their_end ξ _ (specs_keep ξ Γ _ specs)) (λ p. keeps_then (pointers_keep ξ Γ _ _ pointers) (λ t. keeps_then (sizes_keep ξ Γ sizes) (λ ns. keeps_give _)))

  pub specs_keep : (ξ : Setting) (Γ : Env) (how : Specifying) (x : Specs) → Keeps (walk_specs ξ Γ how x)
  specs_keep ξ Γ how NoSpecs = keeps_give _
  specs_keep ξ Γ how (AndSpec spec more) = keeps_then (spec_keeps ξ Γ how spec) (λ p. keeps_then (specs_keep ξ Γ how more) (λ q. keeps_give _))

  spec_keeps : (ξ : Setting) (Γ : Env) (how : Specifying) (x : Spec) → Keeps (walk_spec ξ Γ how x)
  spec_keeps ξ Γ how (WordSpec word span) = keeps_give _
  spec_keeps ξ Γ how (QualSpec qual) = keeps_then (qual_keeps ξ Γ _ qual) (λ q. keeps_give _)
  spec_keeps ξ Γ how (TagSpec word tag) = keeps_then (keeps_refer _ Γ _) (λ number. keeps_give _)
  spec_keeps ξ Γ how (StructSpec word tag left members right) =
      keeps_then (keeps_open Γ tag.number) (λ number. keeps_then (members_keep ξ Γ [] members) (λ ms. keeps_then (keeps_close ξ (at word) number ms) (λ u. keeps_give _)))

  quals_keep : (ξ : Setting) (Γ : Env) (star : Bool) (x : Quals) → Keeps (walk_quals ξ Γ star x)
  quals_keep ξ Γ star NoQuals = keeps_give _
  quals_keep ξ Γ star (AndQual qual more) = keeps_then (qual_keeps ξ Γ star qual) (λ p. keeps_then (quals_keep ξ Γ star more) (λ q. keeps_give _))

  qual_keeps : (ξ : Setting) (Γ : Env) (star : Bool) (x : Qual) → Keeps (walk_qual ξ Γ star x)
  qual_keeps ξ Γ star (Const word) = keeps_give _
  qual_keeps ξ Γ star (Strict word) = keeps_give _
  qual_keeps ξ Γ star (Relaxed word) = keeps_give _
  qual_keeps ξ Γ star (Shared word layout) = keeps_then (layout_keeps ξ Γ star layout) (λ l. keeps_give _)

  layout_keeps : (ξ : Setting) (Γ : Env) (star : Bool) (x : Layout) → Keeps (walk_layout ξ Γ star x)
  layout_keeps ξ Γ star NoLayout = keeps_give _
  layout_keeps ξ Γ star (IndefiniteLayout left right) = keeps_give _
  layout_keeps ξ Γ star (StarLayout left mark right) = keeps_then (keeps_judge ξ _ _ (λ s. refl)) (λ u. keeps_give _)
  layout_keeps ξ Γ star (BlockLayout left size right) =
      keeps_then (keeps ξ Γ _ size) (λ a. keeps_then (keeps_constantly ξ a) (λ c. keeps_then (keeps_judge ξ _ _ (λ s. refl)) (λ u. keeps_give _)))

  pub pointers_keep : (ξ : Setting) (Γ : Env) (star : Bool) (t : Shaped) (x : Pointers) → Keeps (walk_pointers ξ Γ star t x)
  pointers_keep ξ Γ star t NoPointers = keeps_give _
  pointers_keep ξ Γ star t (AndPointer span quals more) = keeps_then (quals_keep ξ Γ _ quals) (λ q. pointers_keep ξ Γ star _ more)

  pub sizes_keep : (ξ : Setting) (Γ : Env) (x : Dimensions) → Keeps (walk_sizes ξ Γ x)
  sizes_keep ξ Γ NoDimensions = keeps_give _
  sizes_keep ξ Γ (AndDimension left size right more) =
      keeps_then (keeps ξ Γ _ size) (λ a. keeps_then (keeps_constantly ξ a) (λ c. keeps_then (sizes_keep ξ Γ more) (λ cs. keeps_give _)))

  members_keep : (ξ : Setting) (Γ : Env) (before : List Member) (x : Members) → Keeps (walk_members ξ Γ before x)
  members_keep ξ Γ before NoMembers = keeps_give _
  members_keep ξ Γ before (AndMember specs first next semicolon more) =
      keeps_then (keeps_to_their_end ξ _ (specs_keep ξ Γ _ specs)) (λ p. keeps_then (member_keeps ξ Γ _ before first) (λ ms. keeps_then (next_members_keep ξ Γ _ ms next) (λ all.
      keeps_then (keeps_judge ξ _ _ (λ s. refl)) (λ u. members_keep ξ Γ all more))))

  next_members_keep : (ξ : Setting) (Γ : Env) (t : Shaped) (before : List Member) (x : NextDeclarators) → Keeps (walk_next_members ξ Γ t before x)
  next_members_keep ξ Γ t before NoNextDeclarators = keeps_give _
  next_members_keep ξ Γ t before (AndDeclarator comma declarator more) =
      keeps_then (member_keeps ξ Γ t before declarator) (λ ms. next_members_keep ξ Γ t ms more)

  member_keeps : (ξ : Setting) (Γ : Env) (t : Shaped) (before : List Member) (x : Declarator) → Keeps (walk_member ξ Γ t before x)
  member_keeps ξ Γ t before (ObjectDeclarator pointers name sizes) =
      keeps_then (pointers_keep ξ Γ _ t pointers) (λ p. keeps_then (sizes_keep ξ Γ sizes) (λ ns. keeps_then (keeps_judge ξ _ _ (λ s. refl)) (λ u. keeps_give _)))
  member_keeps ξ Γ t before (FunctionDeclarator pointers name parameters) =
      keeps_then (pointers_keep ξ Γ _ t pointers) (λ p. keeps_then (keeps_enclosed (parameters_keep ξ _ parameters)) (λ ps.
      keeps_then (keeps_judge ξ _ _ (λ s. refl)) (λ u. keeps_give _)))

  pub parameters_keep : (ξ : Setting) (Γ : Env) (x : Parameters) → Keeps (walk_parameters ξ Γ x)
  parameters_keep ξ Γ (NoParameters left right) = keeps_give _
  parameters_keep ξ Γ (VoidParameters left word right) = keeps_give _
  parameters_keep ξ Γ (SomeParameters left first more right) = keeps_then (parameter_keeps ξ _ first) (λ d. next_parameters_keep ξ d more)

  next_parameters_keep : (ξ : Setting) (before : Declared) (x : NextParameters) → Keeps (walk_next_parameters ξ before x)
  next_parameters_keep ξ before NoNextParameters = keeps_give _
  next_parameters_keep ξ before (AndParameter comma parameter more) = keeps_then (parameter_keeps ξ before parameter) (λ d. next_parameters_keep ξ d more)

  parameter_keeps : (ξ : Setting) (before : Declared) (x : Parameter) → Keeps (walk_parameter ξ before x)
  parameter_keeps ξ before (Parametric specs pointers name array) =
      keeps_then (keeps_to_their_end ξ _ (specs_keep ξ before.scope _ specs)) (λ p. keeps_then (pointers_keep ξ before.scope _ _ pointers) (λ t.
      keeps_then (array_keeps ξ before.scope _ array) (λ f. keeps_then (keeps_judge ξ _ _ (λ s. refl)) (λ u. keeps_give _))))

  array_keeps : (ξ : Setting) (Γ : Env) (t : Shaped) (x : ParameterArray) → Keeps (walk_array ξ Γ t x)
  array_keeps ξ Γ t NoArray = keeps_give _
  array_keeps ξ Γ t (UnsizedArray left right) = keeps_give _
  array_keeps ξ Γ t (SizedArray left size right) = keeps_then (keeps ξ Γ _ size) (λ a. keeps_then (keeps_constantly ξ a) (λ c. keeps_give _))

-- ---- walks with which some come in

-- After a walk, `n` had come in with what it begins with, and as many as `f` says with what it makes.
pub record Brings {A : Type 0} (n : ℕ) (w : Walk A) (f : A → ℕ) : Type 0 where
  pub brought : (s : State) → (w s).state.come + n ≡ s.come + f (w s).value

-- A part with which none come in.
pub kept : {A B : Type 0} {n : ℕ} {w : Walk A} {go : A → Walk B} {g : B → ℕ} → Keeps w → ((a : A) → Brings n (go a) g) → Brings n (andthen w go) g
unfolding andthen
kept {n = n} {w = w} {go = go} {g = g} h k = record { brought = λ s. (k (w s).value).brought (w s).state ∙ ap (λ c. c + g (go (w s).value (w s).state).value) (h.same s) }

-- A part with which some come in, after others.
pub brings : {A B : Type 0} {n : ℕ} {w : Walk A} {f : A → ℕ} {go : A → Walk B} {g : B → ℕ} → Brings 0 w f → ((a : A) → Brings (n + f a) (go a) g) → Brings n (andthen w go) g
unfolding andthen
brings {n = n} {w = w} {f = f} {go = go} {g = g} h k = record { brought = λ s. let p = h.brought s in let q = (k (w s).value).brought (w s).state in omega (arith, p, q) }

-- A part that goes on from others.
pub goes_on : {A B : Type 0} {n : ℕ} {w : Walk A} {f : A → ℕ} {go : A → Walk B} {g : B → ℕ} → Brings n w f → ((a : A) → Brings (f a) (go a) g) → Brings n (andthen w go) g
unfolding andthen
goes_on {n = n} {w = w} {f = f} {go = go} {g = g} h k = record { brought = λ s. let p = h.brought s in let q = (k (w s).value).brought (w s).state in omega (arith, p, q) }

pub brings_give : {A : Type 0} {n : ℕ} {f : A → ℕ} (a : A) → n ≡ f a → Brings n (give a) f
brings_give a h = record { brought = λ s. ap (λ m. s.come + m) h }

pub brings_enclosed : {A : Type 0} {n : ℕ} {w : Walk A} {f : A → ℕ} → Brings n w f → Brings n (enclosed w) f
unfolding enclosed
brings_enclosed h = record { brought = h.brought }

-- A node with which some come in.
pub brings_judge : {A : Type 0} {n : ℕ} (m : ℕ) (ξ : Setting) (at : Place) (x : Node) {go : Unit {0} → Walk A} {g : A → ℕ} → ((s : State) → (counted ξ at x s).come ≡ s.come + m) →
    ((u : Unit {0}) → Brings (n + m) (go u) g) → Brings n (andthen (judge ξ at x) go) g
unfolding andthen judge
brings_judge {n = n} m ξ at x {go = go} {g = g} h k = record { brought = λ s. let p = h s in let q = (k tt).brought (counted ξ at x s) in omega (arith, p, q) }

-- ---- declarations

initial_constant_keeps : (ξ : Setting) (file : Bool) (a : k.Expr) → Keeps (initial_constant ξ file a)
initial_constant_keeps ξ true a = keeps_then (keeps_constantly ξ a) (λ c. keeps_give _)
initial_constant_keeps ξ false a = keeps_give _

initial_value_keeps : (ξ : Setting) (Γ : Env) (file : Bool) (how : Use) (value : Expr) → Keeps (walk_initial_value ξ Γ file how value)
initial_value_keeps ξ Γ file how value = keeps_then (keeps ξ Γ how value) (λ a. keeps_then (initial_constant_keeps ξ file a) (λ u. keeps_give _))

initial_values_keep : (ξ : Setting) (Γ : Env) (file : Bool) (how : Use) (values : NextExprs) → Keeps (walk_initial_values ξ Γ file how values)
initial_values_keep ξ Γ file how NoNextExprs = keeps_give _
initial_values_keep ξ Γ file how (AndExpr comma value more) =
    keeps_then (initial_value_keeps ξ Γ file how value) (λ x. keeps_then (initial_values_keep ξ Γ file how more) (λ xs. keeps_give _))

initial_keeps : (ξ : Setting) (Γ : Env) (place : Place) (object : Bool) (t : CType) (x : d.Initial) → Keeps (walk_initial ξ Γ place object t x)
initial_keeps ξ Γ place object t d.NoInitial = keeps_give _
initial_keeps ξ Γ place object t (d.ValueInitial equal value) =
    keeps_then (initial_value_keeps ξ Γ _ _ value) (λ a. keeps_then (keeps_judge ξ _ _ (λ s. refl)) (λ u. keeps_give _))
initial_keeps ξ Γ place object t (d.ListInitial equal left first more right) =
    keeps_then (initial_value_keeps ξ Γ _ _ first) (λ x. keeps_then (initial_values_keep ξ Γ _ _ more) (λ xs.
    keeps_then (keeps_judge ξ _ _ (λ s. refl)) (λ u. keeps_give _)))

-- The objects after declarators.
abbrev pub objects_behind : Behind → ℕ
objects_behind b = length b.objects

declared_brings : (ξ : Setting) (place : Place) (t : Shaped) (before : Behind) (x : d.Declared) → Brings (objects_behind before) (walk_declared ξ place t before x) objects_behind
declared_brings ξ place t before (DeclaredAs (ObjectDeclarator pointers name sizes) initial) =
    kept (pointers_keep ξ _ _ t pointers) (λ p. kept (sizes_keep ξ _ sizes) (λ ns. brings_judge 1 ξ _ _ (λ s. refl) (λ u.
    kept (initial_keeps ξ _ _ _ _ initial) (λ i. brings_give _ (sym (length-append before.objects _))))))
declared_brings ξ place t before (DeclaredAs (FunctionDeclarator pointers name parameters) initial) =
    kept (pointers_keep ξ _ _ t pointers) (λ p. kept (keeps_enclosed (parameters_keep ξ _ parameters)) (λ ps.
    kept (keeps_then (keeps_look _) (λ again. keeps_then (keeps_judge ξ _ _ (λ s. refl)) (λ u. keeps_update _ (λ s. refl)))) (λ u.
    kept (initial_keeps ξ _ _ _ _ initial) (λ i. brings_give _ refl))))

next_declareds_bring : (ξ : Setting) (place : Place) (t : Shaped) (before : Behind) (x : NextDeclareds) → Brings (objects_behind before) (walk_next_declareds ξ place t before x) objects_behind
next_declareds_bring ξ place t before NoNextDeclareds = brings_give _ refl
next_declareds_bring ξ place t before (AndDeclared comma x more) = goes_on (declared_brings ξ place t before x) (λ b. next_declareds_bring ξ place t b more)

declared_list_brings : (ξ : Setting) (place : Place) (t : Shaped) (before : Behind) (x : DeclaredList) → Brings (objects_behind before) (walk_declared_list ξ place t before x) objects_behind
declared_list_brings ξ place t before NoneDeclared = brings_give _ refl
declared_list_brings ξ place t before (SomeDeclared first more) = goes_on (declared_brings ξ place t before first) (λ b. next_declareds_bring ξ place t b more)

-- With a declaration come in as many as it declares objects.
pub declaration_brings : (ξ : Setting) (Γ : Env) (x : Declaration) → Brings 0 (walk_declaration ξ Γ x) objects_behind
declaration_brings ξ Γ (Declares specs list semicolon) =
    kept (keeps_to_their_end ξ _ (specs_keep ξ Γ _ specs)) (λ p. goes_on (declared_list_brings ξ _ _ _ list) (λ b. kept (keeps_judge ξ _ _ (λ s. refl)) (λ u. brings_give _ refl)))
