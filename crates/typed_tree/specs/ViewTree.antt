-- The typed tree of the code, seen without where it lies in memory: expressions.
use Rattle.typed_tree.specs.declared.tree.Expr as expr
use Rattle.typed_tree.specs.declared.tree.ExprKind as expr_kind
use Rattle.typed_tree.specs.declared.tree.ExprKind.{ExprKind, Row_of-Expr, end_of-Expr, more_of-Expr}
use Rattle.upc_types.specs.View.{view}
use Rattle.typing_rules.specs.Nodes.{Attr, view_attr}
use Rattle.typed_tree.specs.Tree as typed_nodes

-- The parts of expressions of the code, seen without where they lie in memory.
abbrev mutual
  -- What an expression of the code consists of, seen without where it lies in memory.
  pub view_kind : ExprKind → typed_nodes.ExprKind
  view_kind expr_kind.Literal = typed_nodes.Literal
  view_kind expr_kind.Mythread = typed_nodes.Mythread
  view_kind (expr_kind.Object home) = typed_nodes.Object home
  view_kind (expr_kind.Callee target) = typed_nodes.Callee target
  view_kind (expr_kind.Format text) = typed_nodes.Format text
  view_kind (expr_kind.Paren' p at attr kind) = typed_nodes.Paren (typed_nodes.Is at (view_attr attr) (view_kind kind))
  view_kind (expr_kind.Subscript' p at attr kind q there behind index) =
      typed_nodes.Subscript (typed_nodes.Is at (view_attr attr) (view_kind kind))
      (typed_nodes.Is there (view_attr behind) (view_kind index))
  view_kind (expr_kind.Call' target shape args) = typed_nodes.Call target (view_row args)
  view_kind (expr_kind.Member' p at attr kind index) = typed_nodes.Member
      (typed_nodes.Is at (view_attr attr) (view_kind kind)) index
  view_kind (expr_kind.MemberBehind' p at attr kind index) = typed_nodes.MemberBehind
      (typed_nodes.Is at (view_attr attr) (view_kind kind)) index
  view_kind (expr_kind.Step' op p at attr kind) = typed_nodes.Step op
      (typed_nodes.Is at (view_attr attr) (view_kind kind))
  view_kind (expr_kind.Address' p at attr kind) = typed_nodes.Address
      (typed_nodes.Is at (view_attr attr) (view_kind kind))
  view_kind (expr_kind.Dereference' p at attr kind) = typed_nodes.Dereference
      (typed_nodes.Is at (view_attr attr) (view_kind kind))
  view_kind (expr_kind.Unary' op p at attr kind) = typed_nodes.Unary op
      (typed_nodes.Is at (view_attr attr) (view_kind kind))
  view_kind (expr_kind.SizeOf' op p at attr kind) = typed_nodes.SizeOf op
      (typed_nodes.Is at (view_attr attr) (view_kind kind))
  view_kind (expr_kind.SizeOfType op ctype) = typed_nodes.SizeOfType op (view ctype.value)
  view_kind (expr_kind.Cast' p at attr kind) = typed_nodes.Cast (typed_nodes.Is at (view_attr attr) (view_kind kind))
  view_kind (expr_kind.Binary' op p at attr kind q there other right) =
      typed_nodes.Binary op (typed_nodes.Is at (view_attr attr) (view_kind kind))
      (typed_nodes.Is there (view_attr other) (view_kind right))
  view_kind (expr_kind.And' p at attr kind q there other right) =
      typed_nodes.And (typed_nodes.Is at (view_attr attr) (view_kind kind))
      (typed_nodes.Is there (view_attr other) (view_kind right))
  view_kind (expr_kind.Or' p at attr kind q there other right) =
      typed_nodes.Or (typed_nodes.Is at (view_attr attr) (view_kind kind))
      (typed_nodes.Is there (view_attr other) (view_kind right))
  view_kind (expr_kind.Assign' p at attr kind q there other right) =
      typed_nodes.Assign (typed_nodes.Is at (view_attr attr) (view_kind kind))
      (typed_nodes.Is there (view_attr other) (view_kind right))
  view_kind (expr_kind.Compound' op p at attr kind q there other right) =
      typed_nodes.Compound op (typed_nodes.Is at (view_attr attr) (view_kind kind))
      (typed_nodes.Is there (view_attr other) (view_kind right))
  view_kind (expr_kind.Conditional' p at attr kind q there other right r far last behind) =
      typed_nodes.Conditional (typed_nodes.Is at (view_attr attr) (view_kind kind))
      (typed_nodes.Is there (view_attr other) (view_kind right))
      (typed_nodes.Is far (view_attr last) (view_kind behind))
  view_kind (expr_kind.Comma' shape parts) = typed_nodes.Comma (view_row parts)

  -- Expressions of the code in order, seen without where they lie in memory.
  pub view_row : {m : _} → Row_of-Expr m → typed_nodes.Exprs
  view_row end_of-Expr = typed_nodes.NoExprs
  view_row (more_of-Expr at attr kind more) = typed_nodes.AndExpr (typed_nodes.Is at (view_attr attr) (view_kind kind))
      (view_row more)

-- An expression of the code, seen without where it lies in memory.
abbrev pub view_expr : expr.Expr → typed_nodes.Expr
view_expr x = typed_nodes.Is x.place (view_attr x.attr) (view_kind x.kind)

-- What an expression of the code is to the node above it.
abbrev pub attr_seen : expr.Expr → Attr
attr_seen x = view_attr x.attr
