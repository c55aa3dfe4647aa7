-- Expressions in groups, as the code walks over them.
use Rattle.std.specs.Prelude.{Bool, true, false}
use Rattle.upc_tree.specs.Expression.{Expr, Named, Number, Character, Strings, Constant, Paren, Subscript, Call}
use Rattle.upc_tree.specs.Expression.{MemberOf, Postfix, Unary, SizeOfExpr, SizeOfType, Cast, Binary, Assign}
use Rattle.upc_tree.specs.Expression.{Conditional, Comma}

-- An expression without parts (C99 6.5.1).
abbrev pub is_leaf : Expr → Bool
is_leaf (Named name) = true
is_leaf (Number value kind span) = true
is_leaf (Character value span) = true
is_leaf (Strings first more) = true
is_leaf (Constant word span) = true
is_leaf x = false

-- A call (C99 6.5.2.2).
abbrev pub is_call : Expr → Bool
is_call (Call callee left arguments) = true
is_call x = false

-- An expression in parentheses, a subscript, a member, or `++` or `--` after its operand (C99 6.5.1, 6.5.2).
abbrev pub is_postfix : Expr → Bool
is_postfix (Paren left inner right) = true
is_postfix (Subscript a left i right) = true
is_postfix (MemberOf a mark dot name) = true
is_postfix (Postfix a mark span) = true
is_postfix x = false

-- An operator before its operand, which is an expression (C99 6.5.3).
abbrev pub is_prefix : Expr → Bool
is_prefix (Unary mark span a) = true
is_prefix (SizeOfExpr word span a) = true
is_prefix x = false

-- The size of a type, or a cast (C99 6.5.3.4, 6.5.4).
abbrev pub is_typed : Expr → Bool
is_typed (SizeOfType word span left type right) = true
is_typed (Cast left type right a) = true
is_typed x = false

-- A conditional expression (C99 6.5.15).
abbrev pub is_choice : Expr → Bool
is_choice (Conditional test question a colon b) = true
is_choice x = false

-- An operator between two operands, an assignment, or a comma expression (C99 6.5.5 to 6.5.14, 6.5.16, 6.5.17).
abbrev pub is_infix : Expr → Bool
is_infix (Binary a mark span b) = true
is_infix (Assign a mark span b) = true
is_infix (Comma first more) = true
is_infix x = false
