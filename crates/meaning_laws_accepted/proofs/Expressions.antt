-- Expressions, types, members and parameters: what the walk makes of them is formed.
use Rattle.std.proofs.Common.{◌≡◌, ℕ, ◌≤◌, nat_lt, Bool, true, false, not, ◌&&◌, ◌||◌, List, [], ◌∷◌, length}
use Rattle.std.proofs.Common.{Option, Some, None, refl, sym, ap, subst, arith}
use Rattle.std.proofs.lemmas.Bool.{false≢true}
use Rattle.block_layout.specs.declared.kind.Kind.TheVariants as kind
use Rattle.upc_text.specs.declared.place.Place.{Place}
use Rattle.upc_tree.specs.declared.span.Name.{Name}
use Rattle.upc_tree.specs.Expression as t
use Rattle.upc_tree.specs.Expression.{Named, Number, Character, Strings, Constant, Paren, Subscript, Call, MemberOf}
use Rattle.upc_tree.specs.Expression.{Postfix, Unary, SizeOfExpr, SizeOfType, Cast, Binary, Assign, Conditional}
use Rattle.upc_tree.specs.Expression.{Comma}
use Rattle.upc_tree.specs.Expression.{Arguments, NoArguments, SomeArguments, NextExprs, NoNextExprs, AndExpr}
use Rattle.upc_tree.specs.Expression.{TypeName}
use Rattle.upc_tree.specs.Expression.{Typed, Specs, NoSpecs, AndSpec, Spec, WordSpec, QualSpec, TagSpec, StructSpec}
use Rattle.upc_tree.specs.Expression.{Quals, NoQuals, AndQual, Qual, Const, Strict, Relaxed, Shared, Layout, NoLayout}
use Rattle.upc_tree.specs.Expression.{IndefiniteLayout, StarLayout, BlockLayout, Pointers, NoPointers, AndPointer}
use Rattle.upc_tree.specs.Expression.{Dimensions, NoDimensions, AndDimension, Members, NoMembers, AndMember}
use Rattle.upc_tree.specs.Expression.{NextDeclarators, NoNextDeclarators, AndDeclarator, Declarator, ObjectDeclarator}
use Rattle.upc_tree.specs.Expression.{FunctionDeclarator, Parameters, NoParameters, VoidParameters, SomeParameters}
use Rattle.upc_tree.specs.Expression.{Parameter, Parametric, NextParameters, NoNextParameters, AndParameter}
use Rattle.upc_tree.specs.Expression.{ParameterArray, NoArray, UnsizedArray, SizedArray}
use Rattle.upc_values.specs.Lists.{Each}
use Rattle.upc_values.proofs.Lists.{each-push}
use Rattle.upc_types.specs.Types.{CType, Member, Structs, base_of, block_of}
use Rattle.typing_rules.specs.Attributes.{Facts}
use Rattle.typing_rules.specs.Values.{present}
use Rattle.typing_rules.specs.Nodes as n
use Rattle.typing_rules.specs.Nodes.{Use, Formed}
use Rattle.typing_rules.specs.Rules.{lowest, table, judge, rule_4, rule_7, rule_8, declares_nothing, lacks_members}
use Rattle.typed_tree.specs.Scopes.{Setting, Env, is_file, inside, meaning, spelling}
use Rattle.typed_tree.specs.Tree as typed
use Rattle.typed_tree.specs.Tree.{Expr, Exprs, attr_of}
use Rattle.upc_checker_scopes.specs.Walk.{Walk, facts_in}
use Rattle.upc_checker_scopes.specs.Places.{at}
use Rattle.upc_checker_types.specs.Specifiers.{Specified, Shaped, pointer_to, formed, elements, specifiers_form}
use Rattle.upc_checker_types.specs.Specifiers.{layout_block}
use Rattle.upc_checker_types.specs.Shapes.{Specifying, adjusted, named_type}
use Rattle.upc_checker_types.specs.Members.{Declared, with_parameter, declare_parameter}
use Rattle.upc_checker_nodes.specs.Parts.{joined, format_in, last_of}
use Rattle.upc_checker_nodes.specs.Called.{runs, called_name, called_by, uses_by, first_use, later_uses}
use Rattle.upc_checker_nodes.specs.Marks.{number_kind, right_use, postfix_operator, size_operator}
use Rattle.upc_checker_expressions.specs.Expressions.{constantly, walk, walk_arguments, walk_more, walk_type}
use Rattle.upc_checker_expressions.specs.Expressions.{walk_specs}
use Rattle.upc_checker_expressions.specs.Expressions.{walk_spec, walk_quals, walk_qual, walk_layout, walk_pointers}
use Rattle.upc_checker_expressions.specs.Expressions.{walk_sizes, walk_members, walk_next_members, walk_member}
use Rattle.upc_checker_expressions.specs.Expressions.{walk_parameters, walk_next_parameters, walk_parameter}
use Rattle.upc_checker_expressions.specs.Expressions.{walk_array}
use Rattle.meaning_laws.proofs.Rules.{unbroken, or_right}
use Rattle.meaning_laws_accepted.specs.code.LaidPrograms.{IsBlock}
use Rattle.meaning_laws_accepted.proofs.Types.{IsTarget, IsSoundType, IsNamed, no_block, deep_pointer}
use Rattle.meaning_laws_accepted.proofs.IntegerKinds.{number_integer}
use Rattle.meaning_laws_accepted.proofs.Declared.{specified_deep, star_deep, formed_sound, formed_rows, formed_named}
use Rattle.meaning_laws_accepted.proofs.Declared.{IsRow, plain_row, array_row, adjusted_sound, adjusted_block}
use Rattle.meaning_laws_accepted.proofs.Declared.{IsHeld, adjusted_held, HasLayouts, both_layouts, size_few}
use Rattle.meaning_laws_accepted.proofs.Structs.{IsMember}
use Rattle.meaning_laws_accepted.proofs.Scopes.{StandsFormed, Knows, stands, declare_knows, unnamed_knows}
use Rattle.meaning_laws_accepted.proofs.Walks.{Keeps, keeps_then, keeps_give, keeps_weaken, keeps_judge, any_judge}
use Rattle.meaning_laws_accepted.proofs.Walks.{keeps_finish, keeps_enclosed, keeps_to_end, keeps_refer, keeps_struct}
use Rattle.meaning_laws_accepted.proofs.Attributes.{UseFormed, number_sound, subscript_sound, cast_sound}
use Rattle.meaning_laws_accepted.proofs.Attributes.{conditional_sound, comma_sound, step_sound}
use Rattle.meaning_laws_accepted.proofs.Nodes.{UsesFormed, first_formed, later_formed, uses_formed, right_formed}
use Rattle.meaning_laws_accepted.proofs.Nodes.{FormedAs, AllFormed, are_formed, last_sound, makes_as, name_formed}
use Rattle.meaning_laws_accepted.proofs.Nodes.{constant_formed, member_formed, unary_formed, binary_formed}
use Rattle.meaning_laws_accepted.proofs.Nodes.{assign_formed, call_formed}

-- ---- members and parameters

-- What is not shared has no block.
unshared : (o : Option ℕ) → present o ≡ false → IsBlock o
unshared None h = no_block
unshared (Some block) h = absurd (false≢true (sym h))

-- A member that meets its rules is of a type of objects, and no array of arrays.
member_rules : (φ : Facts) (again : Bool) (threads : ℕ) (s : Shaped) (sizes : List _) → IsTarget s.ctype
    → lowest φ (n.Member again (formed threads s sizes)) ≡ None
    → (name : List ℕ) → IsMember (record { name = name; ctype = (formed threads s sizes).ctype })
member_rules φ again threads s sizes h none name =
    let f = formed threads s sizes in
    let x = n.Member again f in
    let nothing = unbroken (table φ x) 3 (judge 4 (rule_4 x)) refl none in
    let lacks = unbroken (table φ x) 7 (judge 8 (rule_8 φ x)) refl none in
    let many = or_right again (lacks_members φ.structs f.ctype || nat_lt 1 (length sizes)) lacks in
    let shared = unbroken (table φ x) 6 (judge 7 (rule_7 x)) refl none in
    let deep = deep_pointer s.ctype h in (
      (
        formed_sound threads s sizes deep (or_right (not f.forms) (declares_nothing f.ctype) nothing),
        unshared (block_of f.ctype) shared,
      ),
      formed_rows threads s sizes deep (or_right (lacks_members φ.structs f.ctype) (nat_lt 1 (length sizes)) many),
    )

-- A parameter that meets its rules is of a type of objects, not shared, and no array.
pub record IsParameter (t : CType) : Type 0 where
  pub sound : IsSoundType (adjusted t)
  pub block : block_of (adjusted t) ≡ None
  pub held : IsHeld (base_of (adjusted t))

parameter_rules : (φ : Facts) (again : Bool) (f : Formed) → IsRow (base_of f.ctype)
    → lowest φ (n.Parameter again f) ≡ None → IsParameter f.ctype
parameter_rules φ again f h none =
    let x = n.Parameter again f in
    let nothing = unbroken (table φ x) 3 (judge 4 (rule_4 x)) refl none in
    let shared = unbroken (table φ x) 6 (judge 7 (rule_7 x)) refl none in
    let something = or_right (not f.forms) (declares_nothing f.ctype) nothing in
    let block = adjusted_block f.ctype shared in
    record {
      sound = (adjusted_sound f.ctype h something, subst IsBlock (sym block) no_block);
      block = block;
      held = adjusted_held f.ctype something;
    }

-- The parameters so far are of types of objects, and in scope.
pub record AreParameters (d : Declared) : Type 0 where
  pub types : Each IsSoundType d.types
  pub held : Each (λ t. IsHeld (base_of t)) d.types
  pub scope : Knows d.scope

parameter_knows : (Γ : Env) (name : Option Name) (t : CType) → IsSoundType t → block_of t ≡ None → Knows Γ
    → Knows (declare_parameter name t Γ)
parameter_knows Γ None t h e i = unnamed_knows Γ t i
parameter_knows Γ (Some name) t h e i =
    declare_knows Γ name.number t h (ap (λ (o : Option ℕ). present o && not (is_file Γ)) e) i

with_parameters : (before : Declared) (name : Option Name) (t : CType) → IsParameter t → AreParameters before
    → AreParameters (with_parameter before name t)
with_parameters before name t h i = record {
  types = each-push IsSoundType before.types (adjusted t) i.types h.sound;
  held = each-push (λ t. IsHeld (base_of t)) before.types (adjusted t) i.held h.held;
  scope = parameter_knows before.scope name (adjusted t) h.sound h.block i.scope;
}

-- ---- what is called

called_stands : (ξ : Setting) (Γ : Env) (name : Option Name) → Knows Γ → StandsFormed (called_by ξ Γ name)
called_stands ξ Γ None i = tt
called_stands ξ Γ (Some name) i = stands ξ Γ name.number i

-- ---- the walk

module _ (ξ : Setting) (σ : Structs) where
  -- What is made is formed, where the names in scope stand for what is.
  abbrev pub FormedIn : Env → Use → Expr → Type 0
  FormedIn Γ how x = Knows Γ → UseFormed how → FormedAs ξ σ how x

  abbrev AllFormedIn : Env → List Use → Exprs → Type 0
  AllFormedIn Γ uses xs = Knows Γ → UsesFormed uses → AllFormed ξ σ uses xs

  -- Nothing is said of what is made.
  abbrev pub Any : {A : Type 0} → Walk A → Type 0
  Any w = Keeps σ.completed w (λ a. Unit {0})

  pub keeps_constantly : (x : Expr) → Any (constantly ξ x)
  keeps_constantly x = keeps_then (any_judge ξ _ _ (λ s. refl)) (λ u. keeps_give _ (λ i. tt))

  mutual
    pub keeps_walk : (Γ : Env) (how : Use) (x : t.Expr) → Keeps σ.completed (walk ξ Γ how x) (FormedIn Γ how)
    keeps_walk Γ how (Named name) =
        keeps_finish ξ _ _ _ (λ s e i h k u. name_formed ξ σ how (facts_in ξ s) (meaning ξ Γ name.number) name.number
        (stands ξ Γ name.number k) h)
    keeps_walk Γ how (Number value kind span) =
        keeps_finish ξ _ _ _ (λ s e i h k u. makes_as ξ σ how _ typed.Literal
        (number_sound how (number_kind kind) _ _ (number_integer kind)) tt)
    keeps_walk Γ how (Character value span) =
        keeps_finish ξ _ _ _ (λ s e i h k u. makes_as ξ σ how _ typed.Literal (number_sound how kind.Int _ _ tt) tt)
    keeps_walk Γ how (Strings first more) =
        keeps_finish ξ _ _ _ (λ s e i h k u. makes_as ξ σ how _ (typed.Format (joined (first ∷ more)))
        (number_sound how kind.Int _ _ tt) tt)
    keeps_walk Γ how (Constant word span) =
        keeps_finish ξ _ _ _ (λ s e i h k u. constant_formed ξ σ how (facts_in ξ s) word)
    keeps_walk Γ how (Paren left inner right) =
        keeps_then (keeps_walk Γ how inner) (λ x. keeps_give _ (λ g k u.
        let f = g k u in makes_as ξ σ how _ (typed.Paren x) f.1 f.0))
    keeps_walk Γ how (Subscript x left i right) =
        keeps_then (keeps_walk Γ n.Indexed x) (λ x. keeps_then (keeps_walk Γ n.Plain i) (λ y.
        keeps_finish ξ _ _ _ (λ s e i h gy gx k u.
        let fx = gx k tt in
        makes_as ξ σ how _ (typed.Subscript x y) (subscript_sound (facts_in ξ s) how (attr_of x) (attr_of y) fx.1 h)
        (fx.0, (gy k tt).0))))
    keeps_walk Γ how (Call callee left arguments) =
        keeps_then (keeps_walk Γ n.Called callee) (λ f. keeps_then (keeps_arguments Γ _ arguments) (λ xs.
        keeps_finish ξ _ _ _ (λ s e i h gs gf k u.
        let name = called_name callee in
        let uses = uses_by (called_by ξ Γ name) in
        let known = called_stands ξ Γ name k in
        call_formed ξ σ s how (called_by ξ Γ name) name (runs ξ callee) (format_in xs) xs known u e i h
        (are_formed ξ σ uses xs (gs k (uses_formed (called_by ξ Γ name) known))))))
    keeps_walk Γ how (MemberOf x mark dot name) =
        keeps_then (keeps_walk Γ n.Plain x) (λ x. keeps_finish ξ _ _ _ (λ s e i h g k u.
        member_formed ξ σ how (facts_in ξ s) mark x (spelling ξ name.number) i h (g k tt)))
    keeps_walk Γ how (Postfix x mark span) =
        keeps_then (keeps_walk Γ n.Plain x) (λ x. keeps_finish ξ _ _ _ (λ s e i h g k u.
        let f = g k tt in
        makes_as ξ σ how _ (typed.Step (postfix_operator mark) x)
        (step_sound (facts_in ξ s) how (attr_of x) f.1 h) f.0))
    keeps_walk Γ how (Unary mark span x) =
        keeps_then (keeps_walk Γ n.Plain x) (λ x. keeps_finish ξ _ _ _ (λ s e i h g k u.
        unary_formed ξ σ how (facts_in ξ s) mark x h (g k tt)))
    keeps_walk Γ how (SizeOfExpr word span x) =
        keeps_then (keeps_walk Γ n.Measured x) (λ x. keeps_finish ξ _ _ _ (λ s e i h g k u.
        makes_as ξ σ how _ (typed.SizeOf (size_operator word) x) (number_sound how kind.ULong _ _ tt) tt))
    keeps_walk Γ how (SizeOfType word span left type right) =
        keeps_then (keeps_type Γ _ type) (λ f. keeps_finish ξ _ _ _ (λ s e i h g k u.
        makes_as ξ σ how _ (typed.SizeOfType (size_operator word) f.ctype) (number_sound how kind.ULong _ _ tt) tt))
    keeps_walk Γ how (Cast left type right x) =
        keeps_then (keeps_type Γ _ type) (λ f. keeps_then (keeps_walk Γ (n.Into f.ctype) x) (λ x.
        keeps_finish ξ _ _ _ (λ s e i h g named k u.
        makes_as ξ σ how _ (typed.Cast x) (cast_sound (facts_in ξ s) how f (attr_of x) named h) (g k named).0)))
    keeps_walk Γ how (Binary x mark span y) =
        keeps_then (keeps_walk Γ n.Plain x) (λ x. keeps_then (keeps_walk Γ n.Plain y) (λ y.
        keeps_finish ξ _ _ _ (λ s e i h gy gx k u. binary_formed ξ σ how (facts_in ξ s) mark x y (gx k tt) (gy k tt))))
    keeps_walk Γ how (Assign x mark span y) =
        keeps_then (keeps_walk Γ n.Plain x) (λ x. keeps_then (keeps_walk Γ (right_use mark (attr_of x).ctype) y) (λ y.
        keeps_finish ξ _ _ _ (λ s e i h gy gx k u.
        let f = gx k tt in
        assign_formed ξ σ how (facts_in ξ s) mark x y h f (gy k (right_formed mark (attr_of x).ctype f.1.sound)).0)))
    keeps_walk Γ how (Conditional test question x colon y) =
        keeps_then (keeps_walk Γ n.Plain test) (λ q. keeps_then (keeps_walk Γ n.Plain x) (λ x.
        keeps_then (keeps_walk Γ n.Plain y) (λ y. keeps_finish ξ _ _ _ (λ s e i h gy gx gq k u.
        let fx = gx k tt in
        let fy = gy k tt in
        makes_as ξ σ how _ (typed.Conditional q x y)
        (conditional_sound (facts_in ξ s) how (attr_of q) (attr_of x) (attr_of y) fx.1 fy.1 h)
        ((gq k tt).0, fx.0, fy.0)))))
    keeps_walk Γ how (Comma first more) =
        keeps_then (keeps_walk Γ n.Plain first) (λ x. keeps_then (keeps_more Γ [] more) (λ xs.
        keeps_finish ξ _ _ _ (λ s e i h gs gx k u.
        let f = gx k tt in
        let fs = gs k tt in
        makes_as ξ σ how _ (typed.Comma (typed.AndExpr x xs))
        (comma_sound (facts_in ξ s) how (last_of x xs) (last_sound ξ σ x xs f.1 fs) h) (f.0, are_formed ξ σ [] xs fs))))

    keeps_arguments : (Γ : Env) (uses : List Use) (xs : Arguments)
        → Keeps σ.completed (walk_arguments ξ Γ uses xs) (AllFormedIn Γ uses)
    keeps_arguments Γ uses (NoArguments right) = keeps_give _ (λ k u. tt)
    keeps_arguments Γ uses (SomeArguments first more right) =
        keeps_then (keeps_walk Γ (first_use uses) first) (λ x. keeps_then (keeps_more Γ (later_uses uses) more) (λ xs.
        keeps_give _ (λ gs g k u. (g k (first_formed uses u), gs k (later_formed uses u)))))

    keeps_more : (Γ : Env) (uses : List Use) (xs : NextExprs)
        → Keeps σ.completed (walk_more ξ Γ uses xs) (AllFormedIn Γ uses)
    keeps_more Γ uses NoNextExprs = keeps_give _ (λ k u. tt)
    keeps_more Γ uses (AndExpr comma value more) =
        keeps_then (keeps_walk Γ (first_use uses) value) (λ x. keeps_then (keeps_more Γ (later_uses uses) more) (λ xs.
        keeps_give _ (λ gs g k u. (g k (first_formed uses u), gs k (later_formed uses u)))))

    keeps_type : (Γ : Env) (place : Place) (x : TypeName)
        → Keeps σ.completed (walk_type ξ Γ place x) (λ f. IsNamed (base_of f.ctype))
    keeps_type Γ place (Typed specs pointers sizes) =
        keeps_then (keeps_to_end ξ _ (keeps_specs Γ _ specs)) (λ p. keeps_then (keeps_pointers Γ _ _ pointers) (λ s.
        keeps_then (keeps_sizes Γ sizes) (λ ns. keeps_give _ (λ i h j.
        formed_named ξ.threads (named_type (specifiers_form false p) s) ns
        (deep_pointer s.ctype (h (specified_deep p j)))))))

    pub keeps_specs : (Γ : Env) (how : Specifying) (x : Specs)
        → Keeps σ.completed (walk_specs ξ Γ how x) (λ p. HasLayouts p.quals)
    keeps_specs Γ how NoSpecs = keeps_give _ tt
    keeps_specs Γ how (AndSpec spec more) =
        keeps_then (keeps_spec Γ how spec) (λ p. keeps_then (keeps_specs Γ how more) (λ q. keeps_give _ (λ i j.
        both_layouts p.quals q.quals j i)))

    keeps_spec : (Γ : Env) (how : Specifying) (x : Spec)
        → Keeps σ.completed (walk_spec ξ Γ how x) (λ p. HasLayouts p.quals)
    keeps_spec Γ how (WordSpec word span) = keeps_give _ tt
    keeps_spec Γ how (QualSpec qual) = keeps_then (keeps_qual Γ _ qual) (λ q. keeps_give _ (λ i. i))
    keeps_spec Γ how (TagSpec word tag) = keeps_then (keeps_refer _ Γ _) (λ number. keeps_give _ (λ i. tt))
    keeps_spec Γ how (StructSpec word tag left members right) =
        keeps_then (keeps_refer true Γ tag.number) (λ number.
        keeps_weaken (keeps_struct {P = λ (p : Specified). HasLayouts p.quals} ξ (at word) number _ tt
        (keeps_weaken (keeps_members Γ [] members) (λ ms h. h tt)))
        (λ p i j. i))

    keeps_quals : (Γ : Env) (star : Bool) (x : Quals) → Keeps σ.completed (walk_quals ξ Γ star x) HasLayouts
    keeps_quals Γ star NoQuals = keeps_give _ tt
    keeps_quals Γ star (AndQual qual more) =
        keeps_then (keeps_qual Γ star qual) (λ p. keeps_then (keeps_quals Γ star more) (λ q. keeps_give _ (λ i j.
        both_layouts p q j i)))

    keeps_qual : (Γ : Env) (star : Bool) (x : Qual) → Keeps σ.completed (walk_qual ξ Γ star x) HasLayouts
    keeps_qual Γ star (Const word) = keeps_give _ tt
    keeps_qual Γ star (Strict word) = keeps_give _ tt
    keeps_qual Γ star (Relaxed word) = keeps_give _ tt
    keeps_qual Γ star (Shared word layout) =
        keeps_then (keeps_layout Γ star layout) (λ l. keeps_give _ (λ i. (i, tt)))

    keeps_layout : (Γ : Env) (star : Bool) (x : Layout)
        → Keeps σ.completed (walk_layout ξ Γ star x) (λ l. layout_block l ≤ 16777216)
    keeps_layout Γ star NoLayout = keeps_give _ (omega arith)
    keeps_layout Γ star (IndefiniteLayout left right) = keeps_give _ (omega arith)
    keeps_layout Γ star (StarLayout left mark right) =
        keeps_then (any_judge ξ _ _ (λ s. refl)) (λ u. keeps_give _ (λ i. omega arith))
    keeps_layout Γ star (BlockLayout left size right) =
        keeps_then (keeps_walk Γ n.Plain size) (λ x. keeps_then (keeps_constantly x) (λ c.
        keeps_then (any_judge ξ _ _ (λ s. refl)) (λ u. keeps_give _ (λ h i j. size_few c))))

    pub keeps_pointers : (Γ : Env) (star : Bool) (s : Shaped) (x : Pointers)
        → Keeps σ.completed (walk_pointers ξ Γ star s x) (λ r. IsTarget s.ctype → IsTarget r.ctype)
    keeps_pointers Γ star s NoPointers = keeps_give _ (λ h. h)
    keeps_pointers Γ star s (AndPointer span quals more) =
        keeps_then (keeps_quals Γ _ quals) (λ q. keeps_weaken (keeps_pointers Γ star (pointer_to s q) more)
        (λ r g i h. g (star_deep s q i h)))

    pub keeps_sizes : (Γ : Env) (x : Dimensions) → Any (walk_sizes ξ Γ x)
    keeps_sizes Γ NoDimensions = keeps_give _ tt
    keeps_sizes Γ (AndDimension left size right more) =
        keeps_then (keeps_walk Γ n.Plain size) (λ x. keeps_then (keeps_constantly x) (λ c.
        keeps_then (keeps_sizes Γ more) (λ cs. keeps_give _ (λ h i j. tt))))

    keeps_members : (Γ : Env) (before : List Member) (x : Members)
        → Keeps σ.completed (walk_members ξ Γ before x) (λ ms. Each IsMember before → Each IsMember ms)
    keeps_members Γ before NoMembers = keeps_give _ (λ h. h)
    keeps_members Γ before (AndMember specs first next semicolon more) =
        keeps_then (keeps_to_end ξ _ (keeps_specs Γ _ specs)) (λ p.
        keeps_then (keeps_member Γ _ before first) (λ ms. keeps_then (keeps_next_members Γ _ ms next) (λ all.
        keeps_then (any_judge ξ _ _ (λ s. refl)) (λ u.
        keeps_weaken (keeps_members Γ all more) (λ r g i hn hm j h.
        let d = specified_deep p j in g (hn d (hm d h)))))))

    keeps_next_members : (Γ : Env) (s : Shaped) (before : List Member) (x : NextDeclarators)
        → Keeps σ.completed (walk_next_members ξ Γ s before x)
        (λ ms. IsTarget s.ctype → Each IsMember before → Each IsMember ms)
    keeps_next_members Γ s before NoNextDeclarators = keeps_give _ (λ d h. h)
    keeps_next_members Γ s before (AndDeclarator comma declarator more) =
        keeps_then (keeps_member Γ s before declarator) (λ ms. keeps_weaken (keeps_next_members Γ s ms more)
        (λ r g i d h. g d (i d h)))

    keeps_member : (Γ : Env) (s : Shaped) (before : List Member) (x : Declarator)
        → Keeps σ.completed (walk_member ξ Γ s before x)
        (λ ms. IsTarget s.ctype → Each IsMember before → Each IsMember ms)
    keeps_member Γ s before (ObjectDeclarator pointers name sizes) =
        keeps_then (keeps_pointers Γ _ s pointers) (λ p. keeps_then (keeps_sizes Γ sizes) (λ ns.
        keeps_then {P = λ u. IsTarget p.ctype → (name : List ℕ)
        → IsMember (record { name = name; ctype = (formed ξ.threads p ns).ctype })}
        (keeps_judge ξ _ _ (λ q. refl) (λ q e f none d. member_rules (facts_in ξ q) _ ξ.threads p ns d none)) (λ u.
        keeps_give _ (λ m i g d h. each-push IsMember before _ h (m (g d) (spelling ξ name.number))))))
    keeps_member Γ s before (FunctionDeclarator pointers name parameters) =
        keeps_then (keeps_pointers Γ _ s pointers) (λ p.
        keeps_then (keeps_enclosed (keeps_parameters (inside Γ) parameters)) (λ ps.
        keeps_then (any_judge ξ _ _ (λ q. refl)) (λ u.
        keeps_give _ (λ i j g d h. h))))

    pub keeps_parameters : (Γ : Env) (x : Parameters)
        → Keeps σ.completed (walk_parameters ξ Γ x) (λ d. Knows Γ → AreParameters d)
    keeps_parameters Γ (NoParameters left right) = keeps_give _ (λ k. record { types = tt; held = tt; scope = k })
    keeps_parameters Γ (VoidParameters left word right) =
        keeps_give _ (λ k. record { types = tt; held = tt; scope = k })
    keeps_parameters Γ (SomeParameters left first more right) =
        keeps_then (keeps_parameter _ first) (λ d. keeps_weaken (keeps_next_parameters d more)
        (λ r g i k. g (i (record { types = tt; held = tt; scope = k }))))

    keeps_next_parameters : (before : Declared) (x : NextParameters)
        → Keeps σ.completed (walk_next_parameters ξ before x) (λ d. AreParameters before → AreParameters d)
    keeps_next_parameters before NoNextParameters = keeps_give _ (λ h. h)
    keeps_next_parameters before (AndParameter comma parameter more) =
        keeps_then (keeps_parameter before parameter) (λ d. keeps_weaken (keeps_next_parameters d more)
        (λ r g i h. g (i h)))

    keeps_parameter : (before : Declared) (x : Parameter)
        → Keeps σ.completed (walk_parameter ξ before x) (λ d. AreParameters before → AreParameters d)
    keeps_parameter before (Parametric specs pointers name array) =
        keeps_then (keeps_to_end ξ _ (keeps_specs before.scope _ specs)) (λ p.
        keeps_then (keeps_pointers before.scope _ _ pointers) (λ s.
        keeps_then (keeps_array before.scope (named_type _ s) array) (λ f.
        keeps_then {P = λ u. IsRow (base_of f.ctype) → IsParameter f.ctype}
        (keeps_judge ξ _ _ (λ q. refl) (λ q e i none d. parameter_rules (facts_in ξ q) _ f d none)) (λ u.
        keeps_give _ (λ m g d j h. with_parameters before name f.ctype (m (g (d (specified_deep p j)))) h)))))

    keeps_array : (Γ : Env) (s : Shaped) (x : ParameterArray)
        → Keeps σ.completed (walk_array ξ Γ s x) (λ f. IsTarget s.ctype → IsRow (base_of f.ctype))
    keeps_array Γ s NoArray = keeps_give _ (λ d. plain_row ξ.threads s (deep_pointer s.ctype d))
    keeps_array Γ s (UnsizedArray left right) = keeps_give _ (λ d. array_row s.ctype 1 d)
    keeps_array Γ s (SizedArray left size right) =
        keeps_then (keeps_walk Γ n.Plain size) (λ x. keeps_then (keeps_constantly x) (λ c.
        keeps_give _ (λ i g d. array_row s.ctype (elements c) d)))
