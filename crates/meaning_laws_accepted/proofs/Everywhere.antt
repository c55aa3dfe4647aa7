-- What holds of each expression whose type is one of objects holds of all expressions of a statement.
use Rattle.std.proofs.Common.{List, [], ◌∷◌, Option, Some, None}
use Rattle.upc_values.specs.Lists.{Each}
use Rattle.upc_types.specs.Types.{CType}
use Rattle.typing_rules.specs.Nodes.{Attr}
use Rattle.typed_tree.specs.declared.tree.Target.TheVariants as target
use Rattle.typed_tree.specs.Tree.{Expr, Is, ExprKind, Literal, Mythread, Object, Callee, Format, Paren, Subscript}
use Rattle.typed_tree.specs.Tree.{Call, Member, MemberBehind, Step, Address, Dereference, Unary, SizeOf, SizeOfType}
use Rattle.typed_tree.specs.Tree.{Cast, Binary, And, Or, Assign, Compound, Conditional, Comma, Exprs, NoExprs}
use Rattle.typed_tree.specs.Tree.{AndExpr, Initial, NoInitial, InitialValue, InitialList, DeclaredObject, Affinity}
use Rattle.typed_tree.specs.Tree.{Everyone, AtValue, Head, Statement, Stands, StatementKind, Block, Value, If}
use Rattle.typed_tree.specs.Tree.{Switch, While, DoWhile, For, Forall, Break, Continue, Return, Synchronise, Fence}
use Rattle.typed_tree.specs.Tree.{StatementOption, NoStatement, TheStatement, Arms, NoArms, AndArm, Items, NoItems}
use Rattle.typed_tree.specs.Tree.{AndObjects, AndStatement, SwitchItems, NoSwitchItems, AndCase, AndDefault}
use Rattle.typed_tree.specs.Tree.{AndSwitchStatement}
use Rattle.meaning_laws_accepted.specs.layer.Throughout as t
use Rattle.meaning_laws_accepted.proofs.Types.{IsSoundType}
use Rattle.meaning_laws_accepted.proofs.Sounds.{IsSoundExpr, HasSoundParts, AreSoundExprs, IsSoundInitial}
use Rattle.meaning_laws_accepted.proofs.Sounds.{IsSoundObject, IsSoundValue, IsSoundAffinity, IsSoundHead}
use Rattle.meaning_laws_accepted.proofs.Sounds.{IsSoundStatement, IsSoundBy, IsSoundLast, AreSoundArms}
use Rattle.meaning_laws_accepted.proofs.Sounds.{AreSoundItems, AreSoundSwitch}

module _ (sized : CType → Type 0) (P : Attr → ExprKind → Type 0)
    (gives : (attr : Attr) (kind : ExprKind) → IsSoundType attr.ctype → P attr kind) where
  mutual
    expr : (e : Expr) → IsSoundExpr sized e → t.Throughout P e
    expr (Is at attr kind) h = (gives attr kind h.0, parts attr kind h.1)

    parts : (attr : Attr) (kind : ExprKind) → HasSoundParts sized attr kind → t.ThroughoutParts P kind
    parts attr Literal h = tt
    parts attr Mythread h = tt
    parts attr (Object home) h = tt
    parts attr (Callee called) h = tt
    parts attr (Format bytes) h = tt
    parts attr (Paren a) h = expr a h
    parts attr (Subscript a i) h = (expr a h.0, expr i h.1)
    parts attr (Call (target.Function n) args) h = exprs args h
    parts attr (Call (target.Library c) args) h = exprs args h.1
    parts attr (Member a index) h = expr a h.1
    parts attr (MemberBehind a index) h = expr a h
    parts attr (Step o a) h = expr a h
    parts attr (Address a) h = expr a h
    parts attr (Dereference a) h = expr a h
    parts attr (Unary o a) h = expr a h
    parts attr (SizeOf o a) h = tt
    parts attr (SizeOfType o u) h = tt
    parts attr (Cast a) h = expr a h
    parts attr (Binary o a b) h = (expr a h.0, expr b h.1)
    parts attr (And a b) h = (expr a h.0, expr b h.1)
    parts attr (Or a b) h = (expr a h.0, expr b h.1)
    parts attr (Assign a b) h = (expr a h.0, expr b h.1)
    parts attr (Compound o a b) h = (expr a h.0, expr b h.1)
    parts attr (Conditional test a b) h = (expr test h.0, expr a h.1, expr b h.2)
    parts attr (Comma args) h = exprs args h

    exprs : (es : Exprs) → AreSoundExprs sized es → t.ThroughoutAll P es
    exprs NoExprs h = tt
    exprs (AndExpr a more) h = (expr a h.0, exprs more h.1)

  value : (o : Option Expr) → IsSoundValue sized o → t.ThroughoutValue P o
  value None h = tt
  value (Some e) h = expr e h

  initial : (x : Initial) → IsSoundInitial sized x → t.ThroughoutInitial P x
  initial NoInitial h = tt
  initial (InitialValue e) h = expr e h
  initial (InitialList es) h = exprs es h

  objects : (xs : List DeclaredObject) → Each (IsSoundObject sized) xs → t.ThroughoutObjects P xs
  objects [] h = tt
  objects (x ∷ xs) h = (initial x.initial h.0.1, objects xs h.1)

  affinity : (x : Affinity) → IsSoundAffinity sized x → t.ThroughoutAffinity P x
  affinity Everyone h = tt
  affinity (AtValue e) h = expr e h

  head_of : (x : Head) → IsSoundHead sized x → t.ThroughoutHead P x
  head_of x h = (objects x.objects h.0, value x.first h.1, value x.test h.2, value x.step h.3)

  mutual
    pub everywhere : (s : Statement) → IsSoundStatement sized s → t.ThroughoutStatement P s
    everywhere (Stands at kind) h = by_kind kind h

    by_kind : (kind : StatementKind) → IsSoundBy sized kind → t.ThroughoutBy P kind
    by_kind (Block strict items) h = in_block items h
    by_kind (Value x) h = value x h
    by_kind (If arms last) h = (in_arms arms h.0, in_last last h.1)
    by_kind (Switch x items) h = (expr x h.0, in_switch items h.1)
    by_kind (While test body) h = (expr test h.0, everywhere body h.1)
    by_kind (DoWhile body test) h = (everywhere body h.0, expr test h.1)
    by_kind (For head body) h = (head_of head h.0, everywhere body h.1)
    by_kind (Forall head whose body) h = (head_of head h.0, affinity whose h.1, everywhere body h.2)
    by_kind Break h = tt
    by_kind Continue h = tt
    by_kind (Return x) h = value x h
    by_kind (Synchronise how x) h = value x h
    by_kind Fence h = tt

    in_last : (last : StatementOption) → IsSoundLast sized last → t.ThroughoutLast P last
    in_last NoStatement h = tt
    in_last (TheStatement s) h = everywhere s h

    in_arms : (arms : Arms) → AreSoundArms sized arms → t.ThroughoutArms P arms
    in_arms NoArms h = tt
    in_arms (AndArm test body more) h = (expr test h.0, everywhere body h.1, in_arms more h.2)

    in_block : (items : Items) → AreSoundItems sized items → t.ThroughoutItems P items
    in_block NoItems h = tt
    in_block (AndObjects xs more) h = (objects xs h.0, in_block more h.1)
    in_block (AndStatement s more) h = (everywhere s h.0, in_block more h.1)

    in_switch : (items : SwitchItems) → AreSoundSwitch sized items → t.ThroughoutSwitch P items
    in_switch NoSwitchItems h = tt
    in_switch (AndCase v more) h = in_switch more h
    in_switch (AndDefault more) h = in_switch more h
    in_switch (AndSwitchStatement s more) h = (everywhere s h.0, in_switch more h.1)
