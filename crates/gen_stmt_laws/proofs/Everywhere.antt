-- What a node that meets the typing rules gives holds of every expression in a program that meets them.
use Rattle.std.proofs.Common.{List, [], ◌∷◌, Option, Some, None, Bool, false}
use Rattle.upc_values.specs.Lists.{Each}
use Rattle.upc_types.specs.Types.{CType}
use Rattle.typing_rules.specs.Nodes as n
use Rattle.typing_rules.specs.Nodes.{Attr, Use, Around}
use Rattle.typed_tree.specs.declared.tree.Target.TheVariants as target
use Rattle.typed_tree.specs.Programs.{Checked}
use Rattle.typed_tree.specs.Tree.{Expr, Is, ExprKind, Literal, Mythread, Object, Callee, Format, Paren, Subscript}
use Rattle.typed_tree.specs.Tree.{Call, Member, MemberBehind, Step, Address, Dereference, Unary, SizeOf, SizeOfType}
use Rattle.typed_tree.specs.Tree.{Cast, Binary, And, Or, Assign, Compound, Conditional, Comma, Exprs, NoExprs}
use Rattle.typed_tree.specs.Tree.{AndExpr, Initial, NoInitial, InitialValue, InitialList, DeclaredObject, Affinity}
use Rattle.typed_tree.specs.Tree.{Everyone, AtValue, Head, Statement, Stands, StatementKind, Block, Value, If}
use Rattle.typed_tree.specs.Tree.{Switch, While, DoWhile, For, Forall, Break, Continue, Return, Synchronise, Fence}
use Rattle.typed_tree.specs.Tree.{StatementOption, NoStatement, TheStatement, Arms, NoArms, AndArm, Items, NoItems}
use Rattle.typed_tree.specs.Tree.{AndObjects, AndStatement, SwitchItems, NoSwitchItems, AndCase, AndDefault}
use Rattle.typed_tree.specs.Tree.{AndSwitchStatement, Function}
use Rattle.typed_tree.specs.Words as words
use Rattle.typed_tree.specs.Words.{first_use, later_uses}
use Rattle.typed_tree.specs.layer.TypedNodes.{MeetsExpr, MeetsKind, MeetsExprs, MeetsValue, MeetsValues, MeetsInitial}
use Rattle.typed_tree.specs.layer.TypedNodes.{MeetsObjects, MeetsHead, MeetsAffinity, MeetsStatement, MeetsBy}
use Rattle.typed_tree.specs.layer.TypedNodes.{MeetsLast, MeetsArms, MeetsItems, MeetsSwitch, MeetsFunction}
use Rattle.typed_tree.specs.layer.TypedNodes.{behind, behind_all, around}
use Rattle.meaning_laws_accepted.specs.layer.Throughout as t

module _ (program : Checked) (P Q : Attr → ExprKind → Type 0)
    (gives : (locals : List CType) (how : Use) (attr : Attr) (kind : ExprKind)
    → MeetsKind program locals how attr kind → P attr kind → Q attr kind) where
  mutual
    expr : (e : Expr) (locals : List CType) (how : Use) → MeetsExpr program locals how e → t.Throughout P e
        → t.Throughout Q e
    expr (Is at attr kind) l how m w = (gives l how attr kind m w.0, parts attr kind l how m w.1)

    parts : (attr : Attr) (kind : ExprKind) (locals : List CType) (how : Use)
        → MeetsKind program locals how attr kind → t.ThroughoutParts P kind → t.ThroughoutParts Q kind
    parts attr Literal l how m w = tt
    parts attr Mythread l how m w = tt
    parts attr (Object home) l how m w = tt
    parts attr (Callee callee) l how m w = tt
    parts attr (Format bytes) l how m w = tt
    parts attr (Paren a) l how m w = expr a l how m.1 w
    parts attr (Subscript a i) l how m w = (expr a l _ m.1 w.0, expr i l _ m.2 w.1)
    parts attr (Call (target.Function f) args) l how m w = exprs args l _ m.3 w
    parts attr (Call (target.Library c) args) l how m w = exprs args l _ m.1 w
    parts attr (Member a index) l how m w = expr a l _ m.4 w
    parts attr (MemberBehind a index) l how m w = expr a l _ m.4 w
    parts attr (Step o a) l how m w = expr a l _ m.1 w
    parts attr (Address a) l how m w = expr a l _ m.1 w
    parts attr (Dereference a) l how m w = expr a l _ m.1 w
    parts attr (Unary o a) l how m w = expr a l _ m.1 w
    parts attr (SizeOf o a) l how m w = tt
    parts attr (SizeOfType o u) l how m w = tt
    parts attr (Cast a) l how m w = expr a l _ m.2 w
    parts attr (Binary o a b) l how m w = (expr a l _ m.1 w.0, expr b l _ m.2 w.1)
    parts attr (And a b) l how m w = (expr a l _ m.1 w.0, expr b l _ m.2 w.1)
    parts attr (Or a b) l how m w = (expr a l _ m.1 w.0, expr b l _ m.2 w.1)
    parts attr (Assign a b) l how m w = (expr a l _ m.1 w.0, expr b l _ m.2 w.1)
    parts attr (Compound o a b) l how m w = (expr a l _ m.1 w.0, expr b l _ m.2 w.1)
    parts attr (Conditional test a b) l how m w =
        (expr test l _ m.1 w.0, expr a l _ m.2 w.1, expr b l _ m.3 w.2)
    parts attr (Comma NoExprs) l how m w = absurd m
    parts attr (Comma (AndExpr a more)) l how m w = (expr a l _ m.1 w.0, exprs more l _ m.2 w.1)

    exprs : (es : Exprs) (locals : List CType) (uses : List Use) → MeetsExprs program locals uses es
        → t.ThroughoutAll P es → t.ThroughoutAll Q es
    exprs NoExprs l uses m w = tt
    exprs (AndExpr a more) l uses m w =
        (expr a l (first_use uses) m.0 w.0, exprs more l (later_uses uses) m.1 w.1)

  value : (o : Option Expr) (locals : List CType) → MeetsValue program locals o → t.ThroughoutValue P o
      → t.ThroughoutValue Q o
  value None l m w = tt
  value (Some e) l m w = expr e l n.Plain m w

  values : (es : Exprs) (locals : List CType) (file : Bool) (how : Use) → MeetsValues program locals file how es
      → t.ThroughoutAll P es → t.ThroughoutAll Q es
  values NoExprs l file how m w = tt
  values (AndExpr a more) l file how m w = (expr a l how m.0 w.0, values more l file how m.2 w.1)

  initial : (first : Initial) (locals : List CType) (u : CType) → MeetsInitial program locals false u first
      → t.ThroughoutInitial P first → t.ThroughoutInitial Q first
  initial NoInitial l u m w = tt
  initial (InitialValue e) l u m w = expr e l _ m.1 w
  initial (InitialList es) l u m w = values es l false _ m.1 w

  objects : (xs : List DeclaredObject) (locals : List CType) → MeetsObjects program locals false xs
      → t.ThroughoutObjects P xs → t.ThroughoutObjects Q xs
  objects [] l m w = tt
  objects (x ∷ xs) l m w =
      (initial x.initial (behind l x) x.ctype m.0.initial w.0, objects xs (behind l x) m.1 w.1)

  affinity : (x : Affinity) (locals : List CType) → MeetsAffinity program locals x → t.ThroughoutAffinity P x
      → t.ThroughoutAffinity Q x
  affinity Everyone l m w = tt
  affinity (AtValue e) l m w = expr e l n.Plain m.1 w

  head_of : (x : Head) (locals : List CType) → MeetsHead program locals x → t.ThroughoutHead P x
      → t.ThroughoutHead Q x
  head_of x l m w =
      let inside = behind_all l x.objects in (
        objects x.objects l m.0 w.0,
        value x.first inside m.1 w.1,
        value x.test inside m.2 w.2,
        value x.step inside m.3 w.3,
      )

  mutual
    statement : (s : Statement) (c : Around) (locals : List CType) → MeetsStatement program c locals s
        → t.ThroughoutStatement P s → t.ThroughoutStatement Q s
    statement (Stands at kind) c l m w = by_kind kind c l m w

    by_kind : (kind : StatementKind) (c : Around) (locals : List CType) → MeetsBy program c locals kind
        → t.ThroughoutBy P kind → t.ThroughoutBy Q kind
    by_kind (Block strict items) c l m w = in_block items c l m w
    by_kind (Value x) c l m w = value x l m w
    by_kind (If arms last) c l m w = (in_arms arms c l m.1 w.0, in_last last c l m.2 w.1)
    by_kind (Switch x items) c l m w = (expr x l n.Plain m.0 w.0, in_switch items (words.in_switch c) l m.2 w.1)
    by_kind (While test body) c l m w = (expr test l n.Plain m.1 w.0, statement body (words.in_loop c) l m.2 w.1)
    by_kind (DoWhile body test) c l m w = (statement body (words.in_loop c) l m.2 w.0, expr test l n.Plain m.1 w.1)
    by_kind (For head body) c l m w =
        (head_of head l m.0 w.0, statement body (words.in_loop c) (behind_all l head.objects) m.1 w.1)
    by_kind (Forall head whose body) c l m w =
        let inside = behind_all l head.objects in
        (head_of head l m.0 w.0, affinity whose inside m.1 w.1, statement body (words.in_forall c) inside m.2 w.2)
    by_kind Break c l m w = tt
    by_kind Continue c l m w = tt
    by_kind (Return None) c l m w = tt
    by_kind (Return (Some x)) c l m w = expr x l (n.Into c.result) m.1 w
    by_kind (Synchronise how None) c l m w = tt
    by_kind (Synchronise how (Some x)) c l m w = expr x l n.Plain m.1 w
    by_kind Fence c l m w = tt

    in_last : (last : StatementOption) (c : Around) (locals : List CType) → MeetsLast program c locals last
        → t.ThroughoutLast P last → t.ThroughoutLast Q last
    in_last NoStatement c l m w = tt
    in_last (TheStatement s) c l m w = statement s c l m w

    in_arms : (arms : Arms) (c : Around) (locals : List CType) → MeetsArms program c locals arms
        → t.ThroughoutArms P arms → t.ThroughoutArms Q arms
    in_arms NoArms c l m w = tt
    in_arms (AndArm test body more) c l m w =
        (expr test l n.Plain m.0 w.0, statement body c l m.1 w.1, in_arms more c l m.2 w.2)

    in_block : (items : Items) (c : Around) (locals : List CType) → MeetsItems program c locals items
        → t.ThroughoutItems P items → t.ThroughoutItems Q items
    in_block NoItems c l m w = tt
    in_block (AndObjects xs more) c l m w = (objects xs l m.0 w.0, in_block more c (behind_all l xs) m.1 w.1)
    in_block (AndStatement s more) c l m w = (statement s c l m.0 w.0, in_block more c l m.1 w.1)

    in_switch : (items : SwitchItems) (c : Around) (locals : List CType) → MeetsSwitch program c locals items
        → t.ThroughoutSwitch P items → t.ThroughoutSwitch Q items
    in_switch NoSwitchItems c l m w = tt
    in_switch (AndCase v more) c l m w = in_switch more c l m w
    in_switch (AndDefault more) c l m w = in_switch more c l m w
    in_switch (AndSwitchStatement s more) c l m w = (statement s c l m.0 w.0, in_switch more c l m.1 w.1)

  -- Every expression in functions that meet the rules.
  pub in_functions : (fs : List Function) → Each (MeetsFunction program) fs
      → Each (λ f. t.ThroughoutStatement P f.body) fs → Each (λ f. t.ThroughoutStatement Q f.body) fs
  in_functions [] m w = tt
  in_functions (f ∷ fs) m w =
      (statement f.body (around f.result) f.parameters m.0.body w.0, in_functions fs m.1 w.1)
