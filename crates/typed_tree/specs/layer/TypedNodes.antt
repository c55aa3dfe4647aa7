-- A program of which every node meets its typing rules (C99 6.5 to 6.9; UPC 6.4 to 6.6): its objects, its functions,
-- their statements and expressions, each expression with the attribute of its node.
-- The tree no longer has what stands in the source alone: the names, the type name of a cast, the sizes of arrays, the
-- labels of a switch before their conversion, and the declarations of structs and prototypes. Where a node speaks of
-- one of these, the definition says that there is one with which the node meets its rules.
use Rattle.std.specs.Prelude.{◌≡◌, ℕ, ◌+◌, ℤ, Bool, true, false, List, [], ◌∷◌, ◌++◌, map, Option, Some, None}
use Rattle.std.specs.Prelude.{slice_get}
use Rattle.std.specs.List.{list_any}
use Rattle.upc_values.specs.Lists.{Each}
use Rattle.upc_types.specs.Types.{CType, Structs, base_of}
use Rattle.typing_rules.specs.declared.setting.Home.{Home}
use Rattle.typing_rules.specs.declared.setting.Home.TheVariants.{Local}
use Rattle.typing_rules.specs.declared.setting.Enclosing.TheVariants as enclosing
use Rattle.typing_rules.specs.declared.attribute.Constant.{Constant}
use Rattle.typing_rules.specs.Values.{value_type, base_kind, base_target}
use Rattle.typing_rules.specs.Attributes.{base, member_named, found_index, target_index}
use Rattle.typing_rules.specs.Meanings as meaning
use Rattle.typing_rules.specs.Meanings.{Meaning, Signature}
use Rattle.typing_rules.specs.Nodes as rule_node
use Rattle.typing_rules.specs.Nodes.{Attr, Use, Formed, Around}
use Rattle.typed_tree.specs.declared.tree.Target.TheVariants as target
use Rattle.typed_tree.specs.Tree as typed
use Rattle.typed_tree.specs.Tree.{Expr, ExprKind, Exprs, attr_of, attrs_of, Initial, DeclaredObject, Affinity, Head}
use Rattle.typed_tree.specs.Tree.{Statement, StatementKind, StatementOption, Arms, Items, SwitchItems, Function}
use Rattle.typed_tree.specs.Programs.{Checked}
use Rattle.typed_tree.specs.Words.{uses_by, first_use, later_uses, format_in, last_of, element_use, in_loop, in_switch}
use Rattle.typed_tree.specs.Words.{in_forall, tests_of, label_value, is_main_function}
use Rattle.typed_tree.specs.layer.Judged.{Meets, JudgedAt, Judged, IsConstant, Stands}

-- ---- expressions

-- The function with this number was declared so where it is called: its types are those of its definition, but for
-- their qualifiers (C99 6.7.5.3).
pub record Declares (p : Checked) (number : ℕ) (s : Signature) : Type 0 where
  pub function : Function
  pub found : slice_get p.functions number ≡ Some function
  pub result : value_type s.result ≡ function.result
  pub parameters : map value_type s.parameters ≡ map value_type function.parameters

-- The nodes of expressions meet their rules (C99 6.5, UPC 6.4).
abbrev mutual
  -- The nodes of an expression that is used so meet their rules, where objects of these types are in scope in the
  -- function.
  pub MeetsExpr : Checked → List CType → Use → Expr → Type 0
  MeetsExpr p locals how (typed.Is at attr kind) = MeetsKind p locals how attr kind

  -- The nodes of what an expression consists of meet their rules, and the expression is what its own node says.
  pub MeetsKind : Checked → List CType → Use → Attr → ExprKind → Type 0
  MeetsKind p locals how attr typed.Literal = (x : rule_node.Node) × IsConstant p x × Judged p x attr
  MeetsKind p locals how attr typed.Mythread = Judged p rule_node.Mythread attr
  MeetsKind p locals how attr (typed.Object home) =
      (t : CType) × Stands p locals home t × Judged p (rule_node.Name how (meaning.Object t home)) attr
  MeetsKind p locals how attr (typed.Callee called) = ⊥
  MeetsKind p locals how attr (typed.Format bytes) = Judged p (rule_node.Strings how) attr
  MeetsKind p locals how attr (typed.Paren a) = (attr ≡ attr_of a) × MeetsExpr p locals how a
  MeetsKind p locals how attr (typed.Subscript a i) =
      Judged p (rule_node.Subscript how (attr_of a) (attr_of i)) attr × MeetsExpr p locals rule_node.Indexed a
      × MeetsExpr p locals rule_node.Plain i
  MeetsKind p locals how attr (typed.Call (target.Function number) args) =
      (s : Signature) × Declares p number s × Judged p (rule_node.Call how (meaning.Function s) true None
      (attrs_of args)) attr
      × MeetsExprs p locals (uses_by (meaning.Function s)) args
  MeetsKind p locals how attr (typed.Call (target.Library call) args) =
      Judged p (rule_node.Call how (meaning.Library call) true (format_in args) (attrs_of args)) attr
      × MeetsExprs p locals (uses_by (meaning.Library call)) args
  MeetsKind p locals how attr (typed.Member a index) =
      (structs : Structs) × (name : List ℕ) × JudgedAt p structs (rule_node.MemberOf (attr_of a) name) attr
      × (index ≡ found_index (member_named structs (attr_of a).ctype name)) × MeetsExpr p locals rule_node.Plain a
  MeetsKind p locals how attr (typed.MemberBehind a index) =
      (structs : Structs) × (name : List ℕ) × JudgedAt p structs (rule_node.MemberBehind (attr_of a) name) attr
      × (index ≡ target_index structs (base_target (base (attr_of a))) name) × MeetsExpr p locals rule_node.Plain a
  MeetsKind p locals how attr (typed.Step op a) = Judged p (rule_node.Step (attr_of a)) attr
      × MeetsExpr p locals rule_node.Plain a
  MeetsKind p locals how attr (typed.Address a) = Judged p (rule_node.Address (attr_of a)) attr
      × MeetsExpr p locals rule_node.Plain a
  MeetsKind p locals how attr (typed.Dereference a) =
      Judged p (rule_node.Dereference (attr_of a)) attr × MeetsExpr p locals rule_node.Plain a
  MeetsKind p locals how attr (typed.Unary op a) = Judged p (rule_node.Unary op (attr_of a)) attr
      × MeetsExpr p locals rule_node.Plain a
  MeetsKind p locals how attr (typed.SizeOf op a) =
      Judged p (rule_node.SizeOf op (attr_of a)) attr × MeetsExpr p locals rule_node.Measured a
  MeetsKind p locals how attr (typed.SizeOfType op t) =
      (named : Formed) × (named.ctype ≡ t) × Judged p (rule_node.SizeOfType op named) attr
  MeetsKind p locals how attr (typed.Cast a) =
      (named : Formed) × Judged p (rule_node.Cast named (attr_of a)) attr
      × MeetsExpr p locals (rule_node.Into named.ctype) a
  MeetsKind p locals how attr (typed.Binary op a b) =
      Judged p (rule_node.Binary op (attr_of a) (attr_of b)) attr × MeetsExpr p locals rule_node.Plain a
      × MeetsExpr p locals rule_node.Plain b
  MeetsKind p locals how attr (typed.And a b) =
      Judged p (rule_node.And (attr_of a) (attr_of b)) attr × MeetsExpr p locals rule_node.Plain a
      × MeetsExpr p locals rule_node.Plain b
  MeetsKind p locals how attr (typed.Or a b) =
      Judged p (rule_node.Or (attr_of a) (attr_of b)) attr × MeetsExpr p locals rule_node.Plain a
      × MeetsExpr p locals rule_node.Plain b
  MeetsKind p locals how attr (typed.Assign a b) =
      Judged p (rule_node.Assign (attr_of a) (attr_of b)) attr × MeetsExpr p locals rule_node.Plain a
      × MeetsExpr p locals (rule_node.Into (attr_of a).ctype) b
  MeetsKind p locals how attr (typed.Compound op a b) =
      Judged p (rule_node.Compound op (attr_of a) (attr_of b)) attr × MeetsExpr p locals rule_node.Plain a
      × MeetsExpr p locals rule_node.Plain b
  MeetsKind p locals how attr (typed.Conditional test a b) =
      Judged p (rule_node.Conditional (attr_of test) (attr_of a) (attr_of b)) attr
      × MeetsExpr p locals rule_node.Plain test
      × MeetsExpr p locals rule_node.Plain a × MeetsExpr p locals rule_node.Plain b
  MeetsKind p locals how attr (typed.Comma typed.NoExprs) = ⊥
  MeetsKind p locals how attr (typed.Comma (typed.AndExpr a more)) =
      Judged p (rule_node.Comma (last_of a more)) attr × MeetsExpr p locals rule_node.Plain a
      × MeetsExprs p locals [] more

  -- The nodes of some expressions, each of which is used so, meet their rules.
  pub MeetsExprs : Checked → List CType → List Use → Exprs → Type 0
  MeetsExprs p locals uses typed.NoExprs = Unit {0}
  MeetsExprs p locals uses (typed.AndExpr a more) =
      MeetsExpr p locals (first_use uses) a × MeetsExprs p locals (later_uses uses) more

-- The nodes of an expression whose value is taken meet their rules, where there is such an expression.
abbrev pub MeetsValue : Checked → List CType → Option Expr → Type 0
MeetsValue p locals None = Unit {0}
MeetsValue p locals (Some a) = MeetsExpr p locals rule_node.Plain a

-- ---- declared objects

-- An initialiser at file scope is a constant expression (C99 6.7.8).
abbrev pub MeetsConstant : Checked → Bool → Expr → Type 0
MeetsConstant p true a = Meets p (rule_node.Constantly (attr_of a))
MeetsConstant p false a = Unit {0}

-- The nodes of the values of an initialiser list, each of which is used so, meet their rules, and at file scope the
-- values are constant expressions (C99 6.7.8).
abbrev pub MeetsValues : Checked → List CType → Bool → Use → Exprs → Type 0
MeetsValues p locals file how typed.NoExprs = Unit {0}
MeetsValues p locals file how (typed.AndExpr a more) =
    MeetsExpr p locals how a × MeetsConstant p file a × MeetsValues p locals file how more

-- The initialiser of an object of this type, at file scope or in a function, meets the rules (C99 6.7.8).
abbrev pub MeetsInitial : Checked → List CType → Bool → CType → Initial → Type 0
MeetsInitial p locals file t typed.NoInitial = Unit {0}
MeetsInitial p locals file t (typed.InitialValue a) =
    Meets p (rule_node.InitialValue file true t (attr_of a)) × MeetsExpr p locals (rule_node.Into t) a
    × MeetsConstant p file a
MeetsInitial p locals file t (typed.InitialList values) =
    Meets p (rule_node.InitialList file true t (attrs_of values))
    × MeetsValues p locals file (element_use (base_target (base_of t))) values

-- The types of the objects in scope in the function after one more object of this type that lies there; one of the file
-- adds none.
abbrev pub in_scope : Home → CType → List CType → List CType
in_scope (Local number) t locals = locals ++ (t ∷ [])
in_scope home t locals = locals

-- The types of the objects in scope in the function after the declaration of an object (C99 6.2.1).
abbrev pub behind : List CType → DeclaredObject → List CType
behind locals x = in_scope x.home x.ctype locals

-- The types of the objects in scope in the function after the declarations of these objects (C99 6.2.1).
abbrev pub behind_all : List CType → List DeclaredObject → List CType
behind_all locals [] = locals
behind_all locals (x ∷ xs) = behind_all (behind locals x) xs

-- A declared object and its initialiser meet their rules; the object is in scope in its own initialiser (C99 6.2.1).
pub record MeetsObject (p : Checked) (locals : List CType) (file : Bool) (x : DeclaredObject) : Type 0 where
  pub stands : Stands p (behind locals x) x.home x.ctype
  pub declared : (again : Bool) × (formed : Formed) × (formed.ctype ≡ x.ctype)
      × Meets p (rule_node.DeclaresObject again file formed)
  pub initial : MeetsInitial p (behind locals x) file x.ctype x.initial

-- Declared objects meet their rules, each in scope for those after it (C99 6.2.1).
abbrev pub MeetsObjects : Checked → List CType → Bool → List DeclaredObject → Type 0
MeetsObjects p locals file [] = Unit {0}
MeetsObjects p locals file (x ∷ xs) = MeetsObject p locals file x × MeetsObjects p (behind locals x) file xs

-- ---- statements

-- The parts of the head of a loop meet their rules; the objects that it declares are in scope in its other parts
-- (C99 6.8.5.3, UPC 6.6.2).
abbrev pub MeetsHead : Checked → List CType → Head → Type 0
MeetsHead p locals head =
    MeetsObjects p locals false head.objects × MeetsValue p (behind_all locals head.objects) head.first
    × MeetsValue p (behind_all locals head.objects) head.test × MeetsValue p (behind_all locals head.objects) head.step
    × Meets p (rule_node.Tests (tests_of head.test))

-- The affinity of a upc_forall meets its rules (UPC 6.6.2).
abbrev pub MeetsAffinity : Checked → List CType → Affinity → Type 0
MeetsAffinity p locals typed.Everyone = Unit {0}
MeetsAffinity p locals (typed.AtValue a) = Meets p (rule_node.Affinity (attr_of a))
    × MeetsExpr p locals rule_node.Plain a

-- What the conditions of an `if` are to it, in order (C99 6.8.4.1).
abbrev pub tests_in : Arms → List Attr
tests_in typed.NoArms = []
tests_in (typed.AndArm test body more) = attr_of test ∷ tests_in more

-- The values with which the `case` labels of a `switch` compare, in order (C99 6.8.4.2).
abbrev pub cases_in : SwitchItems → List ℤ
cases_in typed.NoSwitchItems = []
cases_in (typed.AndCase value more) = value ∷ cases_in more
cases_in (typed.AndDefault more) = cases_in more
cases_in (typed.AndSwitchStatement s more) = cases_in more

-- How often `default` stands in a `switch` (C99 6.8.4.2).
abbrev pub defaults_in : SwitchItems → ℕ
defaults_in typed.NoSwitchItems = 0
defaults_in (typed.AndCase value more) = defaults_in more
defaults_in (typed.AndDefault more) = defaults_in more + 1
defaults_in (typed.AndSwitchStatement s more) = defaults_in more

-- The labels of a `switch` on this value meet their rules; its cases have the values of labels in its kind
-- (C99 6.8.4.2).
pub record MeetsLabels (p : Checked) (a : Attr) (items : SwitchItems) : Type 0 where
  pub labels : List Constant
  pub values : cases_in items ≡ map (label_value (base_kind (base a))) labels
  pub rules : Meets p (rule_node.Switch a labels (defaults_in items))

-- The nodes of statements meet their rules (C99 6.8, UPC 6.6).
abbrev mutual
  -- The nodes of a statement with this around it meet their rules, where objects of these types are in scope in the
  -- function (C99 6.8, UPC 6.6).
  pub MeetsStatement : Checked → Around → List CType → Statement → Type 0
  MeetsStatement p c locals (typed.Stands at kind) = MeetsBy p c locals kind

  -- The nodes of what a statement consists of meet their rules.
  pub MeetsBy : Checked → Around → List CType → StatementKind → Type 0
  MeetsBy p c locals (typed.Block strict items) = MeetsItems p c locals items
  MeetsBy p c locals (typed.Value value) = MeetsValue p locals value
  MeetsBy p c locals (typed.If arms last) =
      Meets p (rule_node.Tests (tests_in arms)) × MeetsArms p c locals arms × MeetsLast p c locals last
  MeetsBy p c locals (typed.Switch value items) =
      MeetsExpr p locals rule_node.Plain value × MeetsLabels p (attr_of value) items
      × MeetsSwitch p (in_switch c) locals items
  MeetsBy p c locals (typed.While test body) =
      Meets p (rule_node.Tests (attr_of test ∷ [])) × MeetsExpr p locals rule_node.Plain test
      × MeetsStatement p (in_loop c) locals body
  MeetsBy p c locals (typed.DoWhile body test) =
      Meets p (rule_node.Tests (attr_of test ∷ [])) × MeetsExpr p locals rule_node.Plain test
      × MeetsStatement p (in_loop c) locals body
  MeetsBy p c locals (typed.For head body) =
      MeetsHead p locals head × MeetsStatement p (in_loop c) (behind_all locals head.objects) body
  MeetsBy p c locals (typed.Forall head affinity body) =
      MeetsHead p locals head × MeetsAffinity p (behind_all locals head.objects) affinity
      × MeetsStatement p (in_forall c) (behind_all locals head.objects) body
  MeetsBy p c locals typed.Break = Meets p (rule_node.Break c)
  MeetsBy p c locals typed.Continue = Meets p (rule_node.Continue c)
  MeetsBy p c locals (typed.Return None) = Meets p (rule_node.ReturnsNothing c)
  MeetsBy p c locals (typed.Return (Some a)) = Meets p (rule_node.Returns c (attr_of a))
      × MeetsExpr p locals (rule_node.Into c.result) a
  MeetsBy p c locals (typed.Synchronise how None) = Unit {0}
  MeetsBy p c locals (typed.Synchronise how (Some a)) = Meets p (rule_node.Barrier (attr_of a))
      × MeetsExpr p locals rule_node.Plain a
  MeetsBy p c locals typed.Fence = Unit {0}

  -- The nodes of the statement after the last `else` meet their rules, where there is such a statement (C99 6.8.4.1).
  pub MeetsLast : Checked → Around → List CType → StatementOption → Type 0
  MeetsLast p c locals typed.NoStatement = Unit {0}
  MeetsLast p c locals (typed.TheStatement s) = MeetsStatement p c locals s

  -- The nodes in the arms of an `if` meet their rules (C99 6.8.4.1).
  pub MeetsArms : Checked → Around → List CType → Arms → Type 0
  MeetsArms p c locals typed.NoArms = Unit {0}
  MeetsArms p c locals (typed.AndArm test body more) =
      MeetsExpr p locals rule_node.Plain test × MeetsStatement p c locals body × MeetsArms p c locals more

  -- The nodes in the parts of a block meet their rules; what a declaration declares is in scope in the parts after it
  -- (C99 6.2.1, 6.8.2).
  pub MeetsItems : Checked → Around → List CType → Items → Type 0
  MeetsItems p c locals typed.NoItems = Unit {0}
  MeetsItems p c locals (typed.AndObjects objects more) =
      MeetsObjects p locals false objects × MeetsItems p c (behind_all locals objects) more
  MeetsItems p c locals (typed.AndStatement s more) = MeetsStatement p c locals s × MeetsItems p c locals more

  -- The nodes of the statements in the body of a `switch` meet their rules (C99 6.8.4.2).
  pub MeetsSwitch : Checked → Around → List CType → SwitchItems → Type 0
  MeetsSwitch p c locals typed.NoSwitchItems = Unit {0}
  MeetsSwitch p c locals (typed.AndCase value more) = MeetsSwitch p c locals more
  MeetsSwitch p c locals (typed.AndDefault more) = MeetsSwitch p c locals more
  MeetsSwitch p c locals (typed.AndSwitchStatement s more) = MeetsStatement p c locals s × MeetsSwitch p c locals more

-- ---- the whole program

-- What stands around the body of a function with this result: no loop, and nothing that a `break` would leave.
abbrev pub around : CType → Around
around result = record { result = result; breaks = enclosing.Nothing; loops = false; forall = false }

-- The nodes of a function meet their rules, where its parameters are the first objects in scope in it (C99 6.9.1). Its
-- result has no qualifiers of its own.
pub record MeetsFunction (p : Checked) (f : Function) : Type 0 where
  pub body : MeetsStatement p (around f.result) f.parameters f.body
  pub defined : (again differs forms : Bool) × (s : Signature) × (s.parameters ≡ f.parameters)
      × (value_type s.result ≡ f.result) × Meets p (rule_node.Defines again differs forms s)

-- Every node of a program meets its rules; the file has a function main without parameters that gives an int.
pub record MeetsRules (p : Checked) : Type 0 where
  pub objects : MeetsObjects p [] true p.objects
  pub functions : Each (MeetsFunction p) p.functions
  pub file : Meets p (rule_node.File (list_any is_main_function p.functions))
