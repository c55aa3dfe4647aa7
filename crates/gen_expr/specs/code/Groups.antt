-- Expressions in groups, as the code walks over them.
use Rattle.std.specs.Prelude.{Bool, true, false}
use Rattle.typed_tree.specs.Tree.{Expr, Is, ExprKind, Literal, Mythread, Object, Callee, Format, Subscript}
use Rattle.typed_tree.specs.Tree.{Member, MemberBehind, Step, Unary, SizeOf, SizeOfType, Cast, Binary, And, Or}
use Rattle.typed_tree.specs.Tree.{Assign, Compound, Conditional}

-- What an expression consists of is a constant, a name, a format, or the number of the thread (C99 6.5.1, 6.5.3.4;
-- UPC 6.3).
abbrev pub is_leaf_kind : ExprKind → Bool
is_leaf_kind Literal = true
is_leaf_kind Mythread = true
is_leaf_kind (Object home) = true
is_leaf_kind (Callee target) = true
is_leaf_kind (Format bytes) = true
is_leaf_kind (SizeOf o a) = true
is_leaf_kind (SizeOfType o t) = true
is_leaf_kind kind = false

-- An expression is a constant, a name, a format, or the number of the thread (C99 6.5.1, 6.5.3.4; UPC 6.3).
abbrev pub is_leaf : Expr → Bool
is_leaf (Is at attr kind) = is_leaf_kind kind

-- What an expression consists of is a member, or an operator on one operand that makes a value of it (C99 6.5.2.3,
-- 6.5.2.4, 6.5.3.1, 6.5.3.3, 6.5.4).
abbrev pub is_unary_kind : ExprKind → Bool
is_unary_kind (Member a index) = true
is_unary_kind (MemberBehind a index) = true
is_unary_kind (Step o a) = true
is_unary_kind (Unary o a) = true
is_unary_kind (Cast a) = true
is_unary_kind kind = false

-- An expression is a member, or an operator on one operand that makes a value of it (C99 6.5.2.3, 6.5.2.4, 6.5.3.1,
-- 6.5.3.3, 6.5.4).
abbrev pub is_unary : Expr → Bool
is_unary (Is at attr kind) = is_unary_kind kind

-- What an expression consists of is a subscript, or an operator on the values of two operands (C99 6.5.2.1, 6.5.5 to
-- 6.5.12).
abbrev pub is_infix_kind : ExprKind → Bool
is_infix_kind (Subscript a i) = true
is_infix_kind (Binary o a b) = true
is_infix_kind kind = false

-- An expression is a subscript, or an operator on the values of two operands (C99 6.5.2.1, 6.5.5 to 6.5.12).
abbrev pub is_infix : Expr → Bool
is_infix (Is at attr kind) = is_infix_kind kind

-- What an expression consists of is an assignment, by `=` or compound (C99 6.5.16).
abbrev pub is_assignment_kind : ExprKind → Bool
is_assignment_kind (Assign a b) = true
is_assignment_kind (Compound o a b) = true
is_assignment_kind kind = false

-- An expression is an assignment, by `=` or compound (C99 6.5.16).
abbrev pub is_assignment : Expr → Bool
is_assignment (Is at attr kind) = is_assignment_kind kind

-- What an expression consists of is `&&`, `||` or `? :`, which decide by their first operand which of two parts is done
-- (C99 6.5.13 to 6.5.15).
abbrev pub is_choice_kind : ExprKind → Bool
is_choice_kind (And a b) = true
is_choice_kind (Or a b) = true
is_choice_kind (Conditional test a b) = true
is_choice_kind kind = false

-- An expression is `&&`, `||` or `? :`, which decide by their first operand which of two parts is done (C99 6.5.13 to
-- 6.5.15).
abbrev pub is_choice : Expr → Bool
is_choice (Is at attr kind) = is_choice_kind kind
