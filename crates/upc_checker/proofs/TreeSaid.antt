-- The nodes of a walk over expressions and types are those of the tree.
use Rattle.std.proofs.Common.{◌≡◌, ℕ, Bool, true, List, [], Option, Some, None, refl, ◌∙◌}
use Rattle.upc_text.specs.declared.place.Place.{Place}
use Rattle.upc_tree.specs.declared.span.Name.{Name}
use Rattle.upc_tree.specs.declared.mark.MemberMark.{MemberMark}
use Rattle.upc_tree.specs.declared.mark.MemberMark.TheVariants.{Dot, Arrow}
use Rattle.upc_tree.specs.declared.mark.UnaryMark.{UnaryMark}
use Rattle.upc_tree.specs.declared.mark.UnaryMark.TheVariants as u
use Rattle.upc_tree.specs.declared.mark.BinaryMark.{BinaryMark}
use Rattle.upc_tree.specs.declared.mark.BinaryMark.TheVariants as b
use Rattle.upc_tree.specs.declared.mark.AssignMark.{AssignMark}
use Rattle.upc_tree.specs.declared.mark.AssignMark.TheVariants as a
use Rattle.upc_tree.specs.declared.mark.ConstantWord.{ConstantWord}
use Rattle.upc_tree.specs.declared.mark.ConstantWord.TheVariants as c
use Rattle.upc_tree.specs.Expression.{Expr, Named, Number, Character, Strings, Constant, Paren, Subscript, Call, MemberOf, Postfix, Unary, SizeOfExpr, SizeOfType, Cast, Binary, Assign, Conditional, Comma, Arguments, NoArguments, SomeArguments, NextExprs, NoNextExprs, AndExpr, TypeName, Typed, Specs, NoSpecs, AndSpec, Spec, WordSpec, QualSpec, TagSpec, StructSpec, Quals, NoQuals, AndQual, Qual, Const, Strict, Relaxed, Shared, Layout, NoLayout, IndefiniteLayout, StarLayout, BlockLayout, Pointers, NoPointers, AndPointer, Dimensions, NoDimensions, AndDimension, Members, NoMembers, AndMember, NextDeclarators, NoNextDeclarators, AndDeclarator, Declarator, ObjectDeclarator, FunctionDeclarator, Parameters, NoParameters, VoidParameters, SomeParameters, Parameter, Parametric, NextParameters, NoNextParameters, AndParameter, ParameterArray, NoArray, UnsizedArray, SizedArray}
use Rattle.upc_types.specs.Types.{CType, Member}
use Rattle.typing_rules.specs.Nodes.{Attr, Use}
use Rattle.typed_tree.specs.Scopes.{Setting, Env, Scope, is_file, declare}
use Rattle.upc_checker_scopes.specs.Places.{at, specs_place}
use Rattle.upc_checker_scopes.specs.Known.{refer, close_struct}
use Rattle.upc_checker_types.specs.Specifiers.{Shaped}
use Rattle.upc_checker_types.specs.Shapes.{Specifying, adjusted}
use Rattle.upc_checker_types.specs.Members.{Declared, declare_parameter}
use Rattle.upc_checker_nodes.specs.Marks.{unary_node, binary_node, assign_node}
use Rattle.upc_checker_nodes.specs.Parts.{member_of, constant_node}
use Rattle.upc_checker_expressions.specs.Expressions.{walk, walk_arguments, walk_more, walk_type, walk_specs, walk_spec, walk_quals, walk_qual, walk_layout, walk_pointers, walk_sizes, walk_members, walk_next_members, walk_member, walk_parameters, walk_next_parameters, walk_parameter, walk_array}
use Rattle.upc_checker.specs.code.Lines.{line_of}
use Rattle.upc_checker.specs.code.Lines as l
use Rattle.upc_checker.specs.code.TreeNodes.{node, first_place, nodes, argument_nodes, next_nodes, type_nodes, specs_nodes, spec_nodes, quals_nodes, qual_nodes, layout_nodes, pointer_nodes, size_nodes, member_nodes, next_declarator_nodes, declarator_nodes, parameters_nodes, next_parameter_nodes, parameter_nodes, array_nodes}
use Rattle.upc_checker.proofs.Saying.{Says, Any, Starts, says_quiet, says_end, says_behind, says_give, says_enclosed, says_update, says_look, says_finish, judge_then, judge_gives, says_constantly, says_to_their_end}

-- ---- the lines of operators

member_line : (mark : MemberMark) (x : Attr) (name : List ℕ) → line_of (member_of mark x name) ≡ l.MemberOf
member_line Dot x name = refl
member_line Arrow x name = refl

constant_line : (ξ : Setting) (word : ConstantWord) → line_of (constant_node ξ word) ≡ l.Constant
constant_line ξ c.Mythread = refl
constant_line ξ c.Threads = refl
constant_line ξ c.MaxBlockSize = refl

unary_line : (mark : UnaryMark) (x : Attr) → line_of (unary_node mark x) ≡ l.Unary
unary_line u.AddressOf x = refl
unary_line u.Dereference x = refl
unary_line u.Plus x = refl
unary_line u.Minus x = refl
unary_line u.Complement x = refl
unary_line u.Not x = refl
unary_line u.Increment x = refl
unary_line u.Decrement x = refl

binary_line : (mark : BinaryMark) (x y : Attr) → line_of (binary_node mark x y) ≡ l.Binary
binary_line b.Multiply x y = refl
binary_line b.Divide x y = refl
binary_line b.Remainder x y = refl
binary_line b.Add x y = refl
binary_line b.Subtract x y = refl
binary_line b.ShiftLeft x y = refl
binary_line b.ShiftRight x y = refl
binary_line b.Less x y = refl
binary_line b.Greater x y = refl
binary_line b.LessEqual x y = refl
binary_line b.GreaterEqual x y = refl
binary_line b.Equal x y = refl
binary_line b.NotEqual x y = refl
binary_line b.BitAnd x y = refl
binary_line b.BitXor x y = refl
binary_line b.BitOr x y = refl
binary_line b.And x y = refl
binary_line b.Or x y = refl

assign_line : (mark : AssignMark) (x y : Attr) → line_of (assign_node mark x y) ≡ l.Assign
assign_line a.Assign x y = refl
assign_line a.Multiply x y = refl
assign_line a.Divide x y = refl
assign_line a.Remainder x y = refl
assign_line a.Add x y = refl
assign_line a.Subtract x y = refl
assign_line a.ShiftLeft x y = refl
assign_line a.ShiftRight x y = refl
assign_line a.BitAnd x y = refl
assign_line a.BitXor x y = refl
assign_line a.BitOr x y = refl

-- ---- tags and scopes

says_refer : (alone : Bool) (Γ : Env) (name : ℕ) → Says Any (refer alone Γ name) [] []
says_refer alone Γ name = record { nodes = λ s. refl; jumps = λ s. refl; holds = λ s. tt }

says_close : (ξ : Setting) (place : Place) (number : ℕ) (members : List Member) → Says Any (close_struct ξ place number members) (node place l.Struct) []
says_close ξ place number members = says_behind (says_look _) (λ s p. judge_then ξ place _ refl refl refl (λ u. says_update _))

pub file_declare : (name : ℕ) (t : CType) (Γ : Env) → is_file (declare name t Γ) ≡ is_file Γ
file_declare name t (Scope level top counts outer) = refl

file_parameter : (name : Option Name) (t : CType) (Γ : Env) → is_file (declare_parameter name t Γ) ≡ is_file Γ
file_parameter None t (Scope level top counts outer) = refl
file_parameter (Some name) t Γ = file_declare name.number t Γ

-- Whether parameters are declared at file scope.
abbrev pub Files : Bool → Declared → Type 0
Files file d = is_file d.scope ≡ file

-- ---- expressions and types

mutual
  pub expr_says : (ξ : Setting) (Γ : Env) (how : Use) (e : Expr) → Says (Starts (first_place e)) (walk ξ Γ how e) (nodes e) []
  expr_says ξ Γ how (Named name) = says_finish ξ _ _ _ refl refl refl
  expr_says ξ Γ how (Number value kind span) = says_finish ξ _ _ _ refl refl refl
  expr_says ξ Γ how (Character value span) = says_finish ξ _ _ _ refl refl refl
  expr_says ξ Γ how (Strings first more) = says_finish ξ _ _ _ refl refl refl
  expr_says ξ Γ how (Constant word span) = says_finish ξ _ _ _ refl (constant_line ξ word) refl
  expr_says ξ Γ how (Paren left inner right) = says_end (expr_says ξ Γ _ inner) (λ a p. says_give refl)
  expr_says ξ Γ how (Subscript a left i right) =
      says_quiet (expr_says ξ Γ _ a) (λ x p. says_quiet (expr_says ξ Γ _ i) (λ y q. says_finish ξ _ _ _ p refl refl))
  expr_says ξ Γ how (Call callee left arguments) =
      says_quiet (expr_says ξ Γ _ callee) (λ x p. says_quiet (arguments_say ξ Γ _ arguments) (λ xs q. says_finish ξ _ _ _ p refl refl))
  expr_says ξ Γ how (MemberOf a mark dot name) = says_quiet (expr_says ξ Γ _ a) (λ x p. says_finish ξ _ _ _ p (member_line mark _ _) refl)
  expr_says ξ Γ how (Postfix a mark span) = says_quiet (expr_says ξ Γ _ a) (λ x p. says_finish ξ _ _ _ p refl refl)
  expr_says ξ Γ how (Unary mark span a) = says_quiet (expr_says ξ Γ _ a) (λ x p. says_finish ξ _ _ _ refl (unary_line mark _) refl)
  expr_says ξ Γ how (SizeOfExpr word span a) = says_quiet (expr_says ξ Γ _ a) (λ x p. says_finish ξ _ _ _ refl refl refl)
  expr_says ξ Γ how (SizeOfType word span left type right) = says_quiet (type_says ξ Γ (at span) type) (λ t p. says_finish ξ _ _ _ refl refl refl)
  expr_says ξ Γ how (Cast left type right a) =
      says_quiet (type_says ξ Γ (at left) type) (λ t p. says_quiet (expr_says ξ Γ _ a) (λ x q. says_finish ξ _ _ _ refl refl refl))
  expr_says ξ Γ how (Binary a mark span b) =
      says_quiet (expr_says ξ Γ _ a) (λ x p. says_quiet (expr_says ξ Γ _ b) (λ y q. says_finish ξ _ _ _ p (binary_line mark _ _) refl))
  expr_says ξ Γ how (Assign a mark span b) =
      says_quiet (expr_says ξ Γ _ a) (λ x p. says_quiet (expr_says ξ Γ _ b) (λ y q. says_finish ξ _ _ _ p (assign_line mark _ _) refl))
  expr_says ξ Γ how (Conditional test question a colon b) =
      says_quiet (expr_says ξ Γ _ test) (λ t p. says_quiet (expr_says ξ Γ _ a) (λ x q. says_quiet (expr_says ξ Γ _ b) (λ y r. says_finish ξ _ _ _ p refl refl)))
  expr_says ξ Γ how (Comma first more) =
      says_quiet (expr_says ξ Γ _ first) (λ x p. says_quiet (more_say ξ Γ _ more) (λ xs q. says_finish ξ _ _ _ p refl refl))

  arguments_say : (ξ : Setting) (Γ : Env) (uses : List Use) (xs : Arguments) → Says Any (walk_arguments ξ Γ uses xs) (argument_nodes xs) []
  arguments_say ξ Γ uses (NoArguments right) = says_give tt
  arguments_say ξ Γ uses (SomeArguments first more right) =
      says_quiet (expr_says ξ Γ _ first) (λ x p. says_end (more_say ξ Γ _ more) (λ xs q. says_give tt))

  more_say : (ξ : Setting) (Γ : Env) (uses : List Use) (xs : NextExprs) → Says Any (walk_more ξ Γ uses xs) (next_nodes xs) []
  more_say ξ Γ uses NoNextExprs = says_give tt
  more_say ξ Γ uses (AndExpr comma value more) =
      says_quiet (expr_says ξ Γ _ value) (λ x p. says_end (more_say ξ Γ _ more) (λ xs q. says_give tt))

  type_says : (ξ : Setting) (Γ : Env) (place : Place) (t : TypeName) → Says Any (walk_type ξ Γ place t) (type_nodes place t) []
  type_says ξ Γ place (Typed specs pointers sizes) =
      says_quiet (says_to_their_end ξ place (specs_say ξ Γ _ specs)) (λ p h. says_quiet (pointers_say ξ Γ _ _ pointers) (λ t i. says_end (sizes_say ξ Γ sizes) (λ ns j. says_give tt)))

  pub specs_say : (ξ : Setting) (Γ : Env) (how : Specifying) (x : Specs) → Says Any (walk_specs ξ Γ how x) (specs_nodes x) []
  specs_say ξ Γ how NoSpecs = says_give tt
  specs_say ξ Γ how (AndSpec spec more) =
      says_quiet (spec_says ξ Γ how spec) (λ p h. says_end (specs_say ξ Γ how more) (λ q i. says_give tt))

  spec_says : (ξ : Setting) (Γ : Env) (how : Specifying) (x : Spec) → Says Any (walk_spec ξ Γ how x) (spec_nodes x) []
  spec_says ξ Γ how (WordSpec word span) = says_give tt
  spec_says ξ Γ how (QualSpec qual) = says_end (qual_says ξ Γ _ qual) (λ q h. says_give tt)
  spec_says ξ Γ how (TagSpec word tag) = says_behind (says_refer _ Γ _) (λ number h. says_give tt)
  spec_says ξ Γ how (StructSpec word tag left members right) =
      says_behind (says_refer true Γ _) (λ number h. says_quiet (members_say ξ Γ [] members) (λ ms i.
      says_end (says_close ξ (at word) number ms) (λ u j. says_give tt)))

  quals_say : (ξ : Setting) (Γ : Env) (star : Bool) (x : Quals) → Says Any (walk_quals ξ Γ star x) (quals_nodes x) []
  quals_say ξ Γ star NoQuals = says_give tt
  quals_say ξ Γ star (AndQual qual more) =
      says_quiet (qual_says ξ Γ star qual) (λ p h. says_end (quals_say ξ Γ star more) (λ q i. says_give tt))

  qual_says : (ξ : Setting) (Γ : Env) (star : Bool) (x : Qual) → Says Any (walk_qual ξ Γ star x) (qual_nodes x) []
  qual_says ξ Γ star (Const word) = says_give tt
  qual_says ξ Γ star (Strict word) = says_give tt
  qual_says ξ Γ star (Relaxed word) = says_give tt
  qual_says ξ Γ star (Shared word layout) = says_end (layout_says ξ Γ star layout) (λ z h. says_give tt)

  layout_says : (ξ : Setting) (Γ : Env) (star : Bool) (x : Layout) → Says Any (walk_layout ξ Γ star x) (layout_nodes x) []
  layout_says ξ Γ star NoLayout = says_give tt
  layout_says ξ Γ star (IndefiniteLayout left right) = says_give tt
  layout_says ξ Γ star (StarLayout left mark right) = judge_gives ξ _ _ refl refl refl (λ u. says_give tt)
  layout_says ξ Γ star (BlockLayout left size right) =
      says_quiet (expr_says ξ Γ _ size) (λ a p. says_quiet (says_constantly ξ a p) (λ c q. judge_gives ξ _ _ refl refl refl (λ u. says_give tt)))

  pub pointers_say : (ξ : Setting) (Γ : Env) (star : Bool) (t : Shaped) (x : Pointers) → Says Any (walk_pointers ξ Γ star t x) (pointer_nodes x) []
  pointers_say ξ Γ star t NoPointers = says_give tt
  pointers_say ξ Γ star t (AndPointer span quals more) = says_quiet (quals_say ξ Γ _ quals) (λ q h. pointers_say ξ Γ star _ more)

  pub sizes_say : (ξ : Setting) (Γ : Env) (x : Dimensions) → Says Any (walk_sizes ξ Γ x) (size_nodes x) []
  sizes_say ξ Γ NoDimensions = says_give tt
  sizes_say ξ Γ (AndDimension left size right more) =
      says_quiet (expr_says ξ Γ _ size) (λ a p. says_quiet (says_constantly ξ a p) (λ c q. says_end (sizes_say ξ Γ more) (λ cs r. says_give tt)))

  members_say : (ξ : Setting) (Γ : Env) (before : List Member) (x : Members) → Says Any (walk_members ξ Γ before x) (member_nodes x) []
  members_say ξ Γ before NoMembers = says_give tt
  members_say ξ Γ before (AndMember specs first next semicolon more) =
      says_quiet (says_to_their_end ξ (specs_place specs) (specs_say ξ Γ _ specs)) (λ p h. says_quiet (member_says ξ Γ _ before first) (λ ms i. says_quiet (next_members_say ξ Γ _ ms next) (λ all j.
      judge_then ξ _ _ refl refl refl (λ u. members_say ξ Γ all more))))

  next_members_say : (ξ : Setting) (Γ : Env) (t : Shaped) (before : List Member) (x : NextDeclarators) → Says Any (walk_next_members ξ Γ t before x) (next_declarator_nodes x) []
  next_members_say ξ Γ t before NoNextDeclarators = says_give tt
  next_members_say ξ Γ t before (AndDeclarator comma declarator more) =
      says_quiet (member_says ξ Γ t before declarator) (λ ms h. next_members_say ξ Γ t ms more)

  member_says : (ξ : Setting) (Γ : Env) (t : Shaped) (before : List Member) (x : Declarator) → Says Any (walk_member ξ Γ t before x) (declarator_nodes x) []
  member_says ξ Γ t before (ObjectDeclarator pointers name sizes) =
      says_quiet (pointers_say ξ Γ _ t pointers) (λ p h. says_quiet (sizes_say ξ Γ sizes) (λ ns i. judge_gives ξ _ _ refl refl refl (λ u. says_give tt)))
  member_says ξ Γ t before (FunctionDeclarator pointers name parameters) =
      says_quiet (pointers_say ξ Γ _ t pointers) (λ p h. says_quiet (says_enclosed (parameters_say ξ _ parameters)) (λ ps i. judge_gives ξ _ _ refl refl refl (λ u. says_give tt)))

  pub parameters_say : (ξ : Setting) (Γ : Env) (x : Parameters) → Says (Files (is_file Γ)) (walk_parameters ξ Γ x) (parameters_nodes x) []
  parameters_say ξ Γ (NoParameters left right) = says_give refl
  parameters_say ξ Γ (VoidParameters left word right) = says_give refl
  parameters_say ξ Γ (SomeParameters left first more right) =
      let none : Declared = record { types = []; scope = Γ } in
      says_quiet (parameter_says ξ none (is_file Γ) refl first) (λ d h. next_parameters_say ξ d (is_file Γ) h more)

  next_parameters_say : (ξ : Setting) (before : Declared) (file : Bool) → Files file before → (x : NextParameters) → Says (Files file) (walk_next_parameters ξ before x) (next_parameter_nodes x) []
  next_parameters_say ξ before file e NoNextParameters = says_give e
  next_parameters_say ξ before file e (AndParameter comma parameter more) =
      says_quiet (parameter_says ξ before file e parameter) (λ d h. next_parameters_say ξ d file h more)

  parameter_says : (ξ : Setting) (before : Declared) (file : Bool) → Files file before → (x : Parameter) → Says (Files file) (walk_parameter ξ before x) (parameter_nodes x) []
  parameter_says ξ before file e (Parametric specs pointers name array) =
      says_quiet (says_to_their_end ξ (specs_place specs) (specs_say ξ before.scope _ specs)) (λ p h. says_quiet (pointers_say ξ before.scope _ _ pointers) (λ t i.
      says_quiet (array_says ξ before.scope _ array) (λ f j. judge_gives ξ _ _ refl refl refl (λ u. says_give (file_parameter name (adjusted f.ctype) before.scope ∙ e)))))

  array_says : (ξ : Setting) (Γ : Env) (t : Shaped) (x : ParameterArray) → Says Any (walk_array ξ Γ t x) (array_nodes x) []
  array_says ξ Γ t NoArray = says_give tt
  array_says ξ Γ t (UnsizedArray left right) = says_give tt
  array_says ξ Γ t (SizedArray left size right) =
      says_quiet (expr_says ξ Γ _ size) (λ a p. says_end (says_constantly ξ a p) (λ c q. says_give tt))
