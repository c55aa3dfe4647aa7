-- The walk over expressions and types: the nodes of each line of the grammar, children first, from left to right (C99
-- 6.5, 6.7; UPC 6.4, 6.5).
use Rattle.std.specs.Prelude.{Bool, true, false, ◌&&◌, List, [], ◌∷◌, Some, None}
use Rattle.upc_tree.specs.Expression.{Expr, Named, Number, Character, Strings, Constant, Paren, Subscript, Call}
use Rattle.upc_tree.specs.Expression.{MemberOf, Postfix, Unary, SizeOfExpr, SizeOfType, Cast, Binary, Assign}
use Rattle.upc_tree.specs.Expression.{Conditional, Comma, Arguments, NoArguments, SomeArguments, NextExprs}
use Rattle.upc_tree.specs.Expression.{NoNextExprs, AndExpr, TypeName, Typed, Specs, NoSpecs, AndSpec, Spec, WordSpec}
use Rattle.upc_tree.specs.Expression.{QualSpec, TagSpec, StructSpec, Quals, NoQuals, AndQual, Qual, Const, Strict}
use Rattle.upc_tree.specs.Expression.{Relaxed, Shared, Layout, NoLayout, IndefiniteLayout, StarLayout, BlockLayout}
use Rattle.upc_tree.specs.Expression.{Pointers, NoPointers, AndPointer, Dimensions, NoDimensions, AndDimension}
use Rattle.upc_tree.specs.Expression.{Members, NoMembers, AndMember, NextDeclarators, NoNextDeclarators}
use Rattle.upc_tree.specs.Expression.{AndDeclarator, Declarator, ObjectDeclarator, FunctionDeclarator, Parameters}
use Rattle.upc_tree.specs.Expression.{NoParameters, VoidParameters, SomeParameters, Parameter, Parametric}
use Rattle.upc_tree.specs.Expression.{NextParameters, NoNextParameters, AndParameter, ParameterArray, NoArray}
use Rattle.upc_tree.specs.Expression.{UnsizedArray, SizedArray}
use Rattle.upc_text.specs.declared.place.Place.{Place}
use Rattle.upc_types.specs.Types.{Member}
use Rattle.typing_rules.specs.declared.attribute.Constant.{Constant as Value}
use Rattle.typed_tree.specs.Scopes.{Setting, spelling, Env, meaning, inside}
use Rattle.typing_rules.specs.Nodes as rule_node
use Rattle.typing_rules.specs.Nodes.{Use, Formed}
use Rattle.typed_tree.specs.Tree as typed
use Rattle.typed_tree.specs.Tree.{Exprs, attr_of, attrs_of, place_of}
use Rattle.upc_checker_scopes.specs.Walk.{Walk, give, ◌>>=◌, ◌>>◌, judge, finish, enclosed, facts_in}
use Rattle.upc_checker_types.specs.Specifiers as specifiers_spec
use Rattle.upc_checker_types.specs.Specifiers.{
  Specified,
  nothing_specified,
  both_specified,
  forms_type,
  specifiers_form,
}
use Rattle.upc_checker_types.specs.Specifiers.{specified_type, Shaped, pointer_to, no_quals, both_quals, formed}
use Rattle.upc_checker_nodes.specs.Marks.{number_kind, size_operator, unary_node, unary_kind, postfix_operator}
use Rattle.upc_checker_nodes.specs.Marks.{binary_node, binary_kind, right_use, assign_node, assign_kind}
use Rattle.upc_checker_nodes.specs.Parts.{member_kind, format_in, constant_kind, joined, constant_node, last_of}
use Rattle.upc_checker_nodes.specs.Parts.{member_of}
use Rattle.upc_checker_nodes.specs.Called.{runs, called, first_use, name_kind, uses_by, target_of, later_uses}
use Rattle.upc_checker_types.specs.Shapes.{parameter_array, is_none, named_type, in_type, block_size, Specifying}
use Rattle.upc_checker_types.specs.Members.{Declared, has_member, with_parameter, with_member}
use Rattle.upc_checker_scopes.specs.Places.{at, pointers_place, name_at, specs_place}
use Rattle.upc_checker_scopes.specs.Known.{refer, close_struct, open_struct, is_again}

-- ---- parts

-- An expression is judged where a constant is asked for, and its constant is given (C99 6.6).
abbrev pub constantly : Setting → typed.Expr → Walk Value
constantly ξ a = do
  judge ξ (place_of a) (rule_node.Constantly (attr_of a))
  give (attr_of a).constant

-- Specifiers end: those that form no type, or whose qualifiers do not go together, break rule 4 there, before any rule
-- that asks for their type. The declaration that they stand in goes on, so nothing is counted yet (C99 6.7.2).
unfoldable pub end_specifiers : Setting → Place → Specified → Walk (Unit {0})
end_specifiers ξ at p s = record {
  seen = record { at = at; facts = facts_in ξ s; node = rule_node.Specifies (forms_type p) } ∷ [];
  state = s;
  value = tt {0};
}

-- The walk over specifiers with their end, which comes before what stands after them (C99 6.7.2).
abbrev pub to_their_end : Setting → Place → Walk Specified → Walk Specified
to_their_end ξ at specifiers = do
  p ← specifiers
  end_specifiers ξ at p
  give p

-- ---- the walk

-- The walk over expressions, types, members and parameters, children first and from left to right (C99 6.5, 6.7;
-- UPC 6.4, 6.5).
abbrev mutual
  -- The walk over an expression that is used so (C99 6.5, UPC 6.4).
  pub walk : Setting → Env → Use → Expr → Walk typed.Expr
  walk ξ Γ how (Named name) =
      finish ξ (name_at name) (rule_node.Name how (meaning ξ Γ name.number)) (λ φ. name_kind ξ (meaning ξ Γ name.number)
      name.number)
  walk ξ Γ how (Number value kind span) = finish ξ (at span) (rule_node.Number (number_kind kind) value)
      (λ φ. typed.Literal)
  walk ξ Γ how (Character value span) = finish ξ (at span) (rule_node.Character value) (λ φ. typed.Literal)
  walk ξ Γ how (Strings first more) = finish ξ (at first.span) (rule_node.Strings how)
      (λ φ. typed.Format (joined (first ∷ more)))
  walk ξ Γ how (Constant word span) = finish ξ (at span) (constant_node ξ word) (λ φ. constant_kind word)
  walk ξ Γ how (Paren left inner right) = do
    a ← walk ξ Γ how inner
    give (typed.Is (at left) (attr_of a) (typed.Paren a))
  walk ξ Γ how (Subscript a left i right) = do
    x ← walk ξ Γ rule_node.Indexed a
    y ← walk ξ Γ rule_node.Plain i
    finish ξ (place_of x) (rule_node.Subscript how (attr_of x) (attr_of y)) (λ φ. typed.Subscript x y)
  walk ξ Γ how (Call callee left arguments) = do
    f ← walk ξ Γ rule_node.Called callee
    xs ← walk_arguments ξ Γ (uses_by (called ξ Γ callee)) arguments
    finish ξ (place_of f) (rule_node.Call how (called ξ Γ callee) (runs ξ callee) (format_in xs) (attrs_of xs))
        (λ φ. typed.Call (target_of ξ Γ callee) xs)
  walk ξ Γ how (MemberOf a mark dot name) = do
    x ← walk ξ Γ rule_node.Plain a
    finish ξ (place_of x) (member_of mark (attr_of x) (spelling ξ name.number))
        (member_kind mark x (spelling ξ name.number))
  walk ξ Γ how (Postfix a mark span) = do
    x ← walk ξ Γ rule_node.Plain a
    finish ξ (place_of x) (rule_node.Step (attr_of x)) (λ φ. typed.Step (postfix_operator mark) x)
  walk ξ Γ how (Unary mark span a) = do
    x ← walk ξ Γ rule_node.Plain a
    finish ξ (at span) (unary_node mark (attr_of x)) (λ φ. unary_kind mark x)
  walk ξ Γ how (SizeOfExpr word span a) = do
    x ← walk ξ Γ rule_node.Measured a
    finish ξ (at span) (rule_node.SizeOf (size_operator word) (attr_of x)) (λ φ. typed.SizeOf (size_operator word) x)
  walk ξ Γ how (SizeOfType word span left type right) = do
    t ← walk_type ξ Γ (at span) type
    finish ξ (at span) (rule_node.SizeOfType (size_operator word) t)
        (λ φ. typed.SizeOfType (size_operator word) t.ctype)
  walk ξ Γ how (Cast left type right a) = do
    t ← walk_type ξ Γ (at left) type
    x ← walk ξ Γ (rule_node.Into t.ctype) a
    finish ξ (at left) (rule_node.Cast t (attr_of x)) (λ φ. typed.Cast x)
  walk ξ Γ how (Binary a mark span b) = do
    x ← walk ξ Γ rule_node.Plain a
    y ← walk ξ Γ rule_node.Plain b
    finish ξ (place_of x) (binary_node mark (attr_of x) (attr_of y)) (λ φ. binary_kind mark x y)
  walk ξ Γ how (Assign a mark span b) = do
    x ← walk ξ Γ rule_node.Plain a
    y ← walk ξ Γ (right_use mark (attr_of x).ctype) b
    finish ξ (place_of x) (assign_node mark (attr_of x) (attr_of y)) (λ φ. assign_kind mark x y)
  walk ξ Γ how (Conditional test question a colon b) = do
    t ← walk ξ Γ rule_node.Plain test
    x ← walk ξ Γ rule_node.Plain a
    y ← walk ξ Γ rule_node.Plain b
    finish ξ (place_of t) (rule_node.Conditional (attr_of t) (attr_of x) (attr_of y)) (λ φ. typed.Conditional t x y)
  walk ξ Γ how (Comma first more) = do
    x ← walk ξ Γ rule_node.Plain first
    xs ← walk_more ξ Γ [] more
    finish ξ (place_of x) (rule_node.Comma (last_of x xs)) (λ φ. typed.Comma (typed.AndExpr x xs))

  -- The walk over the arguments of a call, each with its use (C99 6.5.2.2).
  pub walk_arguments : Setting → Env → List Use → Arguments → Walk Exprs
  walk_arguments ξ Γ uses (NoArguments right) = give typed.NoExprs
  walk_arguments ξ Γ uses (SomeArguments first more right) = do
    x ← walk ξ Γ (first_use uses) first
    xs ← walk_more ξ Γ (later_uses uses) more
    give (typed.AndExpr x xs)

  -- The walk over the further expressions of a list, each with its use; one without a use of its own is plain.
  pub walk_more : Setting → Env → List Use → NextExprs → Walk Exprs
  walk_more ξ Γ uses NoNextExprs = give typed.NoExprs
  walk_more ξ Γ uses (AndExpr comma value more) = do
    x ← walk ξ Γ (first_use uses) value
    xs ← walk_more ξ Γ (later_uses uses) more
    give (typed.AndExpr x xs)

  -- The walk over a type name, whose breaks stand at this place (C99 6.7.6).
  pub walk_type : Setting → Env → Place → TypeName → Walk Formed
  walk_type ξ Γ at (Typed specs pointers sizes) = do
    p ← to_their_end ξ at (walk_specs ξ Γ (in_type at) specs)
    t ← walk_pointers ξ Γ false (specified_type p) pointers
    ns ← walk_sizes ξ Γ sizes
    give (formed ξ.threads (named_type (specifiers_form false p) t) ns)

  -- The walk over specifiers and qualifiers, in order (C99 6.7).
  pub walk_specs : Setting → Env → Specifying → Specs → Walk Specified
  walk_specs ξ Γ how NoSpecs = give nothing_specified
  walk_specs ξ Γ how (AndSpec spec more) = do
    p ← walk_spec ξ Γ how spec
    q ← walk_specs ξ Γ how more
    give (both_specified p q)

  -- The walk over one specifier: a word, a qualifier, a tag, or a struct with its members (C99 6.7.1 to 6.7.3).
  pub walk_spec : Setting → Env → Specifying → Spec → Walk Specified
  walk_spec ξ Γ how (WordSpec word span) = give (record { words = word ∷ []; structs = []; quals = no_quals })
  walk_spec ξ Γ how (QualSpec qual) = do
    q ← walk_qual ξ Γ how.star qual
    give (record { words = []; structs = []; quals = q })
  walk_spec ξ Γ how (TagSpec word tag) = do
    number ← refer how.alone Γ tag.number
    give (record { words = []; structs = number ∷ []; quals = no_quals })
  walk_spec ξ Γ how (StructSpec word tag left members right) = do
    number ← open_struct Γ tag.number
    ms ← walk_members ξ Γ [] members
    close_struct ξ (at word) number ms
    give (record { words = []; structs = number ∷ []; quals = no_quals })

  -- The walk over the qualifiers of a pointer, in order (C99 6.7.3, 6.7.5.1).
  pub walk_quals : Setting → Env → Bool → Quals → Walk specifiers_spec.Quals
  walk_quals ξ Γ star NoQuals = give no_quals
  walk_quals ξ Γ star (AndQual qual more) = do
    p ← walk_qual ξ Γ star qual
    q ← walk_quals ξ Γ star more
    give (both_quals p q)

  -- The walk over one qualifier, whose layout may be `[*]` or not (C99 6.7.3, UPC 6.5.1).
  pub walk_qual : Setting → Env → Bool → Qual → Walk specifiers_spec.Quals
  walk_qual ξ Γ star (Const word) = give (record { constant = true; layouts = []; strict = false; relaxed = false })
  walk_qual ξ Γ star (Strict word) = give (record { constant = false; layouts = []; strict = true; relaxed = false })
  walk_qual ξ Γ star (Relaxed word) = give (record { constant = false; layouts = []; strict = false; relaxed = true })
  walk_qual ξ Γ star (Shared word layout) = do
    l ← walk_layout ξ Γ star layout
    give (record { constant = false; layouts = l ∷ []; strict = false; relaxed = false })

  -- The walk over a layout: without one the block size is 1, and empty brackets are indefinite (UPC 6.5.1.1).
  pub walk_layout : Setting → Env → Bool → Layout → Walk specifiers_spec.Layout
  walk_layout ξ Γ star NoLayout = give (specifiers_spec.Blocks 1)
  walk_layout ξ Γ star (IndefiniteLayout left right) = give (specifiers_spec.Blocks 0)
  walk_layout ξ Γ star (StarLayout left mark right) = do
    judge ξ (at left) (rule_node.StarBlock star)
    give specifiers_spec.Star
  walk_layout ξ Γ star (BlockLayout left size right) = do
    a ← walk ξ Γ rule_node.Plain size
    c ← constantly ξ a
    judge ξ (at left) (rule_node.Block (attr_of a))
    give (specifiers_spec.Blocks (block_size c))

  -- The walk over stars from left to right, each of which makes a pointer; `[*]` may stand after the last one where
  -- sizes follow (C99 6.7.5.1, UPC 6.5.1.1).
  pub walk_pointers : Setting → Env → Bool → Shaped → Pointers → Walk Shaped
  walk_pointers ξ Γ star t NoPointers = give t
  walk_pointers ξ Γ star t (AndPointer span quals more) = do
    q ← walk_quals ξ Γ (star && is_none more) quals
    walk_pointers ξ Γ star (pointer_to t q) more

  -- The walk over the sizes of an array, outermost first (C99 6.7.5.2).
  pub walk_sizes : Setting → Env → Dimensions → Walk (List Value)
  walk_sizes ξ Γ NoDimensions = give []
  walk_sizes ξ Γ (AndDimension left size right more) = do
    a ← walk ξ Γ rule_node.Plain size
    c ← constantly ξ a
    cs ← walk_sizes ξ Γ more
    give (c ∷ cs)

  -- The walk over the members of a struct, which come after those that it has already (C99 6.7.2.1).
  pub walk_members : Setting → Env → List Member → Members → Walk (List Member)
  walk_members ξ Γ before NoMembers = give before
  walk_members ξ Γ before (AndMember specs first next semicolon more) = do
    p ← to_their_end ξ (specs_place specs) (walk_specs ξ Γ (in_type (specs_place specs)) specs)
    ms ← walk_member ξ Γ (specified_type p) before first
    all ← walk_next_members ξ Γ (specified_type p) ms next
    judge ξ (specs_place specs) (rule_node.Specifies (specifiers_form false p))
    walk_members ξ Γ all more

  -- The walk over the further declarators of members that share their specifiers (C99 6.7.2.1).
  pub walk_next_members : Setting → Env → Shaped → List Member → NextDeclarators → Walk (List Member)
  walk_next_members ξ Γ t before NoNextDeclarators = give before
  walk_next_members ξ Γ t before (AndDeclarator comma declarator more) = do
    ms ← walk_member ξ Γ t before declarator
    walk_next_members ξ Γ t ms more

  -- The walk over one declarator of a member; a function, which no member may be, adds none (C99 6.7.2.1).
  pub walk_member : Setting → Env → Shaped → List Member → Declarator → Walk (List Member)
  walk_member ξ Γ t before (ObjectDeclarator pointers name sizes) = do
    p ← walk_pointers ξ Γ false t pointers
    ns ← walk_sizes ξ Γ sizes
    judge ξ (pointers_place pointers name)
        (rule_node.Member (has_member before (spelling ξ name.number)) (formed ξ.threads p ns))
    give (with_member before (spelling ξ name.number) (formed ξ.threads p ns).ctype)
  walk_member ξ Γ t before (FunctionDeclarator pointers name parameters) = do
    p ← walk_pointers ξ Γ false t pointers
    enclosed (walk_parameters ξ (inside Γ) parameters)
    judge ξ (pointers_place pointers name) (rule_node.MemberFunction p.forms p.ctype)
    give before

  -- The walk over the parameters of a function, in the scope that they have for themselves (C99 6.2.1, 6.7.5.3).
  pub walk_parameters : Setting → Env → Parameters → Walk Declared
  walk_parameters ξ Γ (NoParameters left right) = give (record { types = []; scope = Γ })
  walk_parameters ξ Γ (VoidParameters left word right) = give (record { types = []; scope = Γ })
  walk_parameters ξ Γ (SomeParameters left first more right) = do
    d ← walk_parameter ξ (record { types = []; scope = Γ }) first
    walk_next_parameters ξ d more

  -- The walk over the further parameters of a function, each in scope in those after it (C99 6.2.1, 6.7.5.3).
  pub walk_next_parameters : Setting → Declared → NextParameters → Walk Declared
  walk_next_parameters ξ before NoNextParameters = give before
  walk_next_parameters ξ before (AndParameter comma parameter more) = do
    d ← walk_parameter ξ before parameter
    walk_next_parameters ξ d more

  -- The walk over one parameter, which is in scope after itself (C99 6.2.1, 6.7.5.3).
  pub walk_parameter : Setting → Declared → Parameter → Walk Declared
  walk_parameter ξ before (Parametric specs pointers name array) = do
    p ← to_their_end ξ (specs_place specs) (walk_specs ξ before.scope (in_type (specs_place specs)) specs)
    t ← walk_pointers ξ before.scope false (specified_type p) pointers
    f ← walk_array ξ before.scope (named_type (specifiers_form false p) t) array
    judge ξ (specs_place specs) (rule_node.Parameter (is_again ξ before.scope name) f)
    give (with_parameter before name f.ctype)

  -- The walk over the brackets of a parameter, if it has some, with a size or without (C99 6.7.5.3).
  pub walk_array : Setting → Env → Shaped → ParameterArray → Walk Formed
  walk_array ξ Γ t NoArray = give (formed ξ.threads t [])
  walk_array ξ Γ t (UnsizedArray left right) = give (parameter_array ξ.threads t None)
  walk_array ξ Γ t (SizedArray left size right) = do
    a ← walk ξ Γ rule_node.Plain size
    c ← constantly ξ a
    give (parameter_array ξ.threads t (Some c))

-- The walk over the specifiers of a declaration, with their end (C99 6.7).
abbrev pub walk_specifiers : Setting → Env → Specifying → Specs → Walk Specified
walk_specifiers ξ Γ how specs = to_their_end ξ how.at (walk_specs ξ Γ how specs)
