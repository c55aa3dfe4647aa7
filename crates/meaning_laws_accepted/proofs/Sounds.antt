-- Expressions and statements whose types are those that declarations form, with all types inside them.
use Rattle.std.proofs.Common.{List, [], ◌∷◌, Option, Some, None, ◌≡◌, true}
use Rattle.upc_values.specs.Lists.{Each}
use Rattle.upc_values.proofs.Lists.{each-grow}
use Rattle.upc_types.specs.Types as types
use Rattle.upc_types.specs.Types.{CType, Qualified, base_of, block_of}
use Rattle.typing_rules.specs.Nodes.{Attr}
use Rattle.typing_rules.specs.Values.{base_target}
use Rattle.typed_tree.specs.declared.tree.Target.TheVariants as target
use Rattle.typed_tree.specs.Tree as tree
use Rattle.typed_tree.specs.Tree.{Expr, Is, ExprKind, Literal, Mythread, Object, Callee, Format, Paren, Subscript}
use Rattle.typed_tree.specs.Tree.{Call, Member, MemberBehind, Step, Address, Dereference, Unary, SizeOf, SizeOfType}
use Rattle.typed_tree.specs.Tree.{Cast, Binary, And, Or, Assign, Compound, Conditional, Comma, Exprs, NoExprs}
use Rattle.typed_tree.specs.Tree.{AndExpr, attr_of, Initial, NoInitial, InitialValue, InitialList, DeclaredObject}
use Rattle.typed_tree.specs.Tree.{Affinity, Everyone, AtValue, Head, Statement, Stands, StatementKind, Block, If}
use Rattle.typed_tree.specs.Tree.{Switch, While, DoWhile, For, Forall, Break, Continue, Return, Synchronise, Fence}
use Rattle.typed_tree.specs.Tree.{StatementOption, NoStatement, TheStatement, Arms, NoArms, AndArm, Items, NoItems}
use Rattle.typed_tree.specs.Tree.{AndObjects, AndStatement, SwitchItems, NoSwitchItems, AndCase, AndDefault}
use Rattle.typed_tree.specs.Tree.{AndSwitchStatement, Function}
use Rattle.source_meaning.specs.Expressions.{is_lvalue}
use Rattle.source_meaning.specs.Statements.{element_type}
use Rattle.meaning_laws.specs.layer.Values.{IsFormedType}
use Rattle.meaning_laws.specs.layer.Formed.{LiesBy, AtTarget, MakesBy, IsFormed, HasFormedParts, AreFormed}
use Rattle.meaning_laws.specs.layer.FormedStatements.{IsFormedInitial, AreFormedObjects}
use Rattle.meaning_laws.specs.layer.FormedStatements.{IsFormedValue, IsFormedAffinity, IsFormedHead, IsFormedStatement}
use Rattle.meaning_laws.specs.layer.FormedStatements.{IsFormedBy, IsFormedLast, AreFormedArms, AreFormedItems}
use Rattle.meaning_laws.specs.layer.FormedStatements.{AreFormedSwitch, IsFormedFunction}
use Rattle.meaning_laws_accepted.proofs.Types.{IsSoundType, element_block, formed_type}

elements_formed : (t : CType) → IsSoundType t → IsFormedType (element_type (base_of t) t)
elements_formed (Qualified types.Void c s x) h = tt
elements_formed (Qualified (types.Integer k) c s x) h = h.0
elements_formed (Qualified (types.Struct number) c s x) h = tt
elements_formed (Qualified (types.Array (Qualified b d t y) count) c s x) h =
    formed_type (Qualified b d t y) (h.0.1, element_block s t h.0.0 h.1)
elements_formed (Qualified (types.Pointer t) c s x) h = tt
elements_formed (Qualified types.LockObject c s x) h = absurd h.0

-- Where this is what the type of each object and of each parameter is, and that of the elements of each call that
-- allocates.
module _ (sized : CType → Type 0) where
  abbrev makes : CType → Type 0
  makes t = AtTarget sized (base_target (base_of t))

  -- ---- what is kept

  abbrev mutual
    -- Each expression in an expression is of a type of objects, and formed.
    pub IsSoundExpr : Expr → Type 0
    IsSoundExpr (Is at attr kind) = IsSoundType attr.ctype × HasSoundParts attr kind

    -- So is each in the parts of an expression.
    pub HasSoundParts : Attr → ExprKind → Type 0
    HasSoundParts attr Literal = Unit {0}
    HasSoundParts attr Mythread = Unit {0}
    HasSoundParts attr (Object home) = LiesBy home (block_of attr.ctype)
    HasSoundParts attr (Callee called) = Unit {0}
    HasSoundParts attr (Format bytes) = Unit {0}
    HasSoundParts attr (Paren a) = IsSoundExpr a
    HasSoundParts attr (Subscript a i) = IsSoundExpr a × IsSoundExpr i
    HasSoundParts attr (Call (target.Function n) args) = AreSoundExprs args
    HasSoundParts attr (Call (target.Library c) args) = MakesBy makes c attr.ctype × AreSoundExprs args
    HasSoundParts attr (Member a index) = (is_lvalue (attr_of a).form ≡ true) × IsSoundExpr a
    HasSoundParts attr (MemberBehind a index) = IsSoundExpr a
    HasSoundParts attr (Step o a) = IsSoundExpr a
    HasSoundParts attr (Address a) = IsSoundExpr a
    HasSoundParts attr (Dereference a) = IsSoundExpr a
    HasSoundParts attr (Unary o a) = IsSoundExpr a
    HasSoundParts attr (SizeOf o a) = Unit {0}
    HasSoundParts attr (SizeOfType o t) = Unit {0}
    HasSoundParts attr (Cast a) = IsSoundExpr a
    HasSoundParts attr (Binary o a b) = IsSoundExpr a × IsSoundExpr b
    HasSoundParts attr (And a b) = IsSoundExpr a × IsSoundExpr b
    HasSoundParts attr (Or a b) = IsSoundExpr a × IsSoundExpr b
    HasSoundParts attr (Assign a b) = IsSoundExpr a × IsSoundExpr b
    HasSoundParts attr (Compound o a b) = IsSoundExpr a × IsSoundExpr b
    HasSoundParts attr (Conditional test a b) = IsSoundExpr test × IsSoundExpr a × IsSoundExpr b
    HasSoundParts attr (Comma parts) = AreSoundExprs parts

    -- So is each in some expressions.
    pub AreSoundExprs : Exprs → Type 0
    AreSoundExprs NoExprs = Unit {0}
    AreSoundExprs (AndExpr a more) = IsSoundExpr a × AreSoundExprs more

  -- So is each in an initialiser.
  abbrev pub IsSoundInitial : Initial → Type 0
  IsSoundInitial NoInitial = Unit {0}
  IsSoundInitial (InitialValue value) = IsSoundExpr value
  IsSoundInitial (InitialList values) = AreSoundExprs values

  -- A declared object is of a type of objects, and so is each expression in its initialiser; and its type is `sized`.
  abbrev pub IsSoundObject : DeclaredObject → Type 0
  IsSoundObject x = IsSoundType x.ctype × IsSoundInitial x.initial × sized x.ctype

  -- So is each in an expression, where there is one.
  abbrev pub IsSoundValue : Option Expr → Type 0
  IsSoundValue None = Unit {0}
  IsSoundValue (Some e) = IsSoundExpr e

  -- So is each in an affinity.
  abbrev pub IsSoundAffinity : Affinity → Type 0
  IsSoundAffinity Everyone = Unit {0}
  IsSoundAffinity (AtValue e) = IsSoundExpr e

  -- So is each object and expression in the head of a loop.
  abbrev pub IsSoundHead : Head → Type 0
  IsSoundHead head =
      Each IsSoundObject head.objects × IsSoundValue head.first × IsSoundValue head.test × IsSoundValue head.step

  abbrev mutual
    -- So is each object and expression in a statement.
    pub IsSoundStatement : Statement → Type 0
    IsSoundStatement (Stands at kind) = IsSoundBy kind

    -- So is each in what a statement consists of.
    pub IsSoundBy : StatementKind → Type 0
    IsSoundBy (Block strict items) = AreSoundItems items
    IsSoundBy (tree.Value value) = IsSoundValue value
    IsSoundBy (If arms last) = AreSoundArms arms × IsSoundLast last
    IsSoundBy (Switch value items) = IsSoundExpr value × AreSoundSwitch items
    IsSoundBy (While test body) = IsSoundExpr test × IsSoundStatement body
    IsSoundBy (DoWhile body test) = IsSoundStatement body × IsSoundExpr test
    IsSoundBy (For head body) = IsSoundHead head × IsSoundStatement body
    IsSoundBy (Forall head affinity body) = IsSoundHead head × IsSoundAffinity affinity × IsSoundStatement body
    IsSoundBy Break = Unit {0}
    IsSoundBy Continue = Unit {0}
    IsSoundBy (Return value) = IsSoundValue value
    IsSoundBy (Synchronise how value) = IsSoundValue value
    IsSoundBy Fence = Unit {0}

    -- So is each in the statement after the last `else`.
    pub IsSoundLast : StatementOption → Type 0
    IsSoundLast NoStatement = Unit {0}
    IsSoundLast (TheStatement s) = IsSoundStatement s

    -- So is each in the arms of an `if`.
    pub AreSoundArms : Arms → Type 0
    AreSoundArms NoArms = Unit {0}
    AreSoundArms (AndArm test body more) = IsSoundExpr test × IsSoundStatement body × AreSoundArms more

    -- So is each in the parts of a block.
    pub AreSoundItems : Items → Type 0
    AreSoundItems NoItems = Unit {0}
    AreSoundItems (AndObjects objects more) = Each IsSoundObject objects × AreSoundItems more
    AreSoundItems (AndStatement s more) = IsSoundStatement s × AreSoundItems more

    -- So is each in the body of a `switch`.
    pub AreSoundSwitch : SwitchItems → Type 0
    AreSoundSwitch NoSwitchItems = Unit {0}
    AreSoundSwitch (AndCase value more) = AreSoundSwitch more
    AreSoundSwitch (AndDefault more) = AreSoundSwitch more
    AreSoundSwitch (AndSwitchStatement s more) = IsSoundStatement s × AreSoundSwitch more

  -- The result and the parameters of a function are of types of objects, and so is each object and expression in it.
  pub record IsSoundFunction (f : Function) : Type 0 where
    pub result : IsSoundType f.result
    pub parameters : Each IsSoundType f.parameters
    pub sizes : Each sized f.parameters
    pub body : IsSoundStatement f.body

  -- ---- what is so is formed

  mutual
    expr : (e : Expr) → IsSoundExpr e → IsFormed makes e
    expr (Is at attr kind) h = (formed_type attr.ctype h.0, parts attr kind h.1)

    parts : (attr : Attr) (kind : ExprKind) → HasSoundParts attr kind → HasFormedParts makes attr kind
    parts attr Literal h = tt
    parts attr Mythread h = tt
    parts attr (Object home) h = h
    parts attr (Callee called) h = tt
    parts attr (Format bytes) h = tt
    parts attr (Paren a) h = expr a h
    parts attr (Subscript a i) h = (expr a h.0, expr i h.1)
    parts attr (Call (target.Function n) args) h = exprs args h
    parts attr (Call (target.Library c) args) h = (h.0, exprs args h.1)
    parts attr (Member a index) h = (h.0, expr a h.1)
    parts attr (MemberBehind a index) h = expr a h
    parts attr (Step o a) h = expr a h
    parts attr (Address a) h = expr a h
    parts attr (Dereference a) h = expr a h
    parts attr (Unary o a) h = expr a h
    parts attr (SizeOf o a) h = tt
    parts attr (SizeOfType o t) h = tt
    parts attr (Cast a) h = expr a h
    parts attr (Binary o a b) h = (expr a h.0, expr b h.1)
    parts attr (And a b) h = (expr a h.0, expr b h.1)
    parts attr (Or a b) h = (expr a h.0, expr b h.1)
    parts attr (Assign a b) h = (expr a h.0, expr b h.1)
    parts attr (Compound o a b) h = (expr a h.0, expr b h.1)
    parts attr (Conditional test a b) h = (expr test h.0, expr a h.1, expr b h.2)
    parts attr (Comma args) h = exprs args h

    exprs : (es : Exprs) → AreSoundExprs es → AreFormed makes es
    exprs NoExprs h = tt
    exprs (AndExpr a more) h = (expr a h.0, exprs more h.1)

  initial : (x : Initial) → IsSoundInitial x → IsFormedInitial makes x
  initial NoInitial h = tt
  initial (InitialValue e) h = expr e h
  initial (InitialList es) h = exprs es h

  pub objects_formed : (xs : List DeclaredObject) → Each IsSoundObject xs → AreFormedObjects makes xs
  objects_formed [] h = tt
  objects_formed (x ∷ xs) h = (
    record {
      ctype = formed_type x.ctype h.0.0;
      elements = elements_formed x.ctype h.0.0;
      initial = initial x.initial h.0.1;
    },
    objects_formed xs h.1,
  )

  value : (o : Option Expr) → IsSoundValue o → IsFormedValue makes o
  value None h = tt
  value (Some e) h = expr e h

  affinity : (x : Affinity) → IsSoundAffinity x → IsFormedAffinity makes x
  affinity Everyone h = tt
  affinity (AtValue e) h = expr e h

  head_of : (x : Head) → IsSoundHead x → IsFormedHead makes x
  head_of x h = (objects_formed x.objects h.0, value x.first h.1, value x.test h.2, value x.step h.3)

  mutual
    statement : (s : Statement) → IsSoundStatement s → IsFormedStatement makes s
    statement (Stands at kind) h = by_kind kind h

    by_kind : (kind : StatementKind) → IsSoundBy kind → IsFormedBy makes kind
    by_kind (Block strict items) h = in_block items h
    by_kind (tree.Value x) h = value x h
    by_kind (If arms last) h = (in_arms arms h.0, in_last last h.1)
    by_kind (Switch x items) h = (expr x h.0, in_switch items h.1)
    by_kind (While test body) h = (expr test h.0, statement body h.1)
    by_kind (DoWhile body test) h = (statement body h.0, expr test h.1)
    by_kind (For head body) h = (head_of head h.0, statement body h.1)
    by_kind (Forall head whose body) h = (head_of head h.0, affinity whose h.1, statement body h.2)
    by_kind Break h = tt
    by_kind Continue h = tt
    by_kind (Return x) h = value x h
    by_kind (Synchronise how x) h = value x h
    by_kind Fence h = tt

    in_last : (last : StatementOption) → IsSoundLast last → IsFormedLast makes last
    in_last NoStatement h = tt
    in_last (TheStatement s) h = statement s h

    in_arms : (arms : Arms) → AreSoundArms arms → AreFormedArms makes arms
    in_arms NoArms h = tt
    in_arms (AndArm test body more) h = (expr test h.0, statement body h.1, in_arms more h.2)

    in_block : (items : Items) → AreSoundItems items → AreFormedItems makes items
    in_block NoItems h = tt
    in_block (AndObjects xs more) h = (objects_formed xs h.0, in_block more h.1)
    in_block (AndStatement s more) h = (statement s h.0, in_block more h.1)

    in_switch : (items : SwitchItems) → AreSoundSwitch items → AreFormedSwitch makes items
    in_switch NoSwitchItems h = tt
    in_switch (AndCase v more) h = in_switch more h
    in_switch (AndDefault more) h = in_switch more h
    in_switch (AndSwitchStatement s more) h = (statement s h.0, in_switch more h.1)

  pub functions_formed : (fs : List Function) → Each IsSoundFunction fs → Each (IsFormedFunction makes) fs
  functions_formed [] h = tt
  functions_formed (f ∷ fs) h = (
    record {
      result = formed_type f.result h.0.result;
      parameters = each-grow IsSoundType IsFormedType f.parameters formed_type h.0.parameters;
      body = statement f.body h.0.body;
    },
    functions_formed fs h.1,
  )
