-- The nodes of operators, and what they make.
use Rattle.block_layout.specs.declared.kind.Kind.{Kind}
use Rattle.block_layout.specs.declared.kind.Kind.TheVariants as kinds
use Rattle.upc_lexer.specs.declared.token.NumberKind.{NumberKind}
use Rattle.upc_lexer.specs.declared.token.NumberKind.TheVariants as number_kind_variant
use Rattle.upc_tree.specs.declared.mark.UnaryMark.{UnaryMark}
use Rattle.upc_tree.specs.declared.mark.UnaryMark.TheVariants.{AddressOf, Dereference, Plus, Minus, Complement, Not}
use Rattle.upc_tree.specs.declared.mark.UnaryMark.TheVariants.{Increment, Decrement}
use Rattle.upc_tree.specs.declared.mark.PostfixMark.{PostfixMark}
use Rattle.upc_tree.specs.declared.mark.PostfixMark.TheVariants as postfix_mark
use Rattle.upc_tree.specs.declared.mark.BinaryMark.{BinaryMark}
use Rattle.upc_tree.specs.declared.mark.BinaryMark.TheVariants as binary_mark
use Rattle.upc_tree.specs.declared.mark.AssignMark.{AssignMark}
use Rattle.upc_tree.specs.declared.mark.AssignMark.TheVariants as assign_mark
use Rattle.upc_tree.specs.declared.mark.SizeWord.{SizeWord}
use Rattle.upc_tree.specs.declared.mark.SizeWord.TheVariants as size_word
use Rattle.integers.specs.declared.operator.BinOp.TheVariants as bin_op
use Rattle.integers.specs.declared.operator.UnOp.TheVariants as un_op
use Rattle.upc_types.specs.Types.{CType}
use Rattle.typing_rules.specs.declared.setting.SizeOperator.{SizeOperator}
use Rattle.typing_rules.specs.declared.setting.SizeOperator.TheVariants.{Bytes, LocalBytes, BlockSize, ElementBytes}
use Rattle.typed_tree.specs.declared.tree.StepOperator.{StepOperator}
use Rattle.typed_tree.specs.declared.tree.StepOperator.TheVariants.{IncrementFirst, DecrementFirst, IncrementAfter}
use Rattle.typed_tree.specs.declared.tree.StepOperator.TheVariants.{DecrementAfter}
use Rattle.typing_rules.specs.Nodes as rule_node
use Rattle.typing_rules.specs.Nodes.{Attr, Node, Use}
use Rattle.typed_tree.specs.Tree as typed_nodes
use Rattle.typed_tree.specs.Tree.{Expr, ExprKind}

-- The integer kind of a number by the type of its constant (C99 6.4.4.1).
abbrev pub number_kind : NumberKind → Kind
number_kind number_kind_variant.Int = kinds.Int
number_kind number_kind_variant.UInt = kinds.UInt
number_kind number_kind_variant.Long = kinds.Long
number_kind number_kind_variant.ULong = kinds.ULong

-- The size operator that each word means (C99 6.5.3.4, UPC 6.4.1).
abbrev pub size_operator : SizeWord → SizeOperator
size_operator size_word.Sizeof = Bytes
size_operator size_word.Localsizeof = LocalBytes
size_operator size_word.Blocksizeof = BlockSize
size_operator size_word.Elemsizeof = ElementBytes

-- The node of an operator before its operand (C99 6.5.3.1 to 6.5.3.3).
abbrev pub unary_node : UnaryMark → Attr → Node
unary_node AddressOf x = rule_node.Address x
unary_node Dereference x = rule_node.Dereference x
unary_node Plus x = rule_node.Unary un_op.Plus x
unary_node Minus x = rule_node.Unary un_op.Minus x
unary_node Complement x = rule_node.Unary un_op.Complement x
unary_node Not x = rule_node.Unary un_op.Not x
unary_node Increment x = rule_node.Step x
unary_node Decrement x = rule_node.Step x

-- The typed expression of an operator before its operand; `++` and `--` there give the new value (C99 6.5.3.1 to
-- 6.5.3.3).
abbrev pub unary_kind : UnaryMark → Expr → ExprKind
unary_kind AddressOf x = typed_nodes.Address x
unary_kind Dereference x = typed_nodes.Dereference x
unary_kind Plus x = typed_nodes.Unary un_op.Plus x
unary_kind Minus x = typed_nodes.Unary un_op.Minus x
unary_kind Complement x = typed_nodes.Unary un_op.Complement x
unary_kind Not x = typed_nodes.Unary un_op.Not x
unary_kind Increment x = typed_nodes.Step IncrementFirst x
unary_kind Decrement x = typed_nodes.Step DecrementFirst x

-- The operator of `++` and `--` after their operand, where they give the old value (C99 6.5.2.4).
abbrev pub postfix_operator : PostfixMark → StepOperator
postfix_operator postfix_mark.Increment = IncrementAfter
postfix_operator postfix_mark.Decrement = DecrementAfter

-- The node of an operator between two operands (C99 6.5.5 to 6.5.14).
abbrev pub binary_node : BinaryMark → Attr → Attr → Node
binary_node binary_mark.Multiply x y = rule_node.Binary bin_op.Multiply x y
binary_node binary_mark.Divide x y = rule_node.Binary bin_op.Divide x y
binary_node binary_mark.Remainder x y = rule_node.Binary bin_op.Remainder x y
binary_node binary_mark.Add x y = rule_node.Binary bin_op.Add x y
binary_node binary_mark.Subtract x y = rule_node.Binary bin_op.Subtract x y
binary_node binary_mark.ShiftLeft x y = rule_node.Binary bin_op.ShiftLeft x y
binary_node binary_mark.ShiftRight x y = rule_node.Binary bin_op.ShiftRight x y
binary_node binary_mark.Less x y = rule_node.Binary bin_op.Less x y
binary_node binary_mark.Greater x y = rule_node.Binary bin_op.Greater x y
binary_node binary_mark.LessEqual x y = rule_node.Binary bin_op.LessEqual x y
binary_node binary_mark.GreaterEqual x y = rule_node.Binary bin_op.GreaterEqual x y
binary_node binary_mark.Equal x y = rule_node.Binary bin_op.Equal x y
binary_node binary_mark.NotEqual x y = rule_node.Binary bin_op.NotEqual x y
binary_node binary_mark.BitAnd x y = rule_node.Binary bin_op.BitAnd x y
binary_node binary_mark.BitXor x y = rule_node.Binary bin_op.BitXor x y
binary_node binary_mark.BitOr x y = rule_node.Binary bin_op.BitOr x y
binary_node binary_mark.And x y = rule_node.And x y
binary_node binary_mark.Or x y = rule_node.Or x y

-- The typed expression of an operator between two operands (C99 6.5.5 to 6.5.14).
abbrev pub binary_kind : BinaryMark → Expr → Expr → ExprKind
binary_kind binary_mark.Multiply x y = typed_nodes.Binary bin_op.Multiply x y
binary_kind binary_mark.Divide x y = typed_nodes.Binary bin_op.Divide x y
binary_kind binary_mark.Remainder x y = typed_nodes.Binary bin_op.Remainder x y
binary_kind binary_mark.Add x y = typed_nodes.Binary bin_op.Add x y
binary_kind binary_mark.Subtract x y = typed_nodes.Binary bin_op.Subtract x y
binary_kind binary_mark.ShiftLeft x y = typed_nodes.Binary bin_op.ShiftLeft x y
binary_kind binary_mark.ShiftRight x y = typed_nodes.Binary bin_op.ShiftRight x y
binary_kind binary_mark.Less x y = typed_nodes.Binary bin_op.Less x y
binary_kind binary_mark.Greater x y = typed_nodes.Binary bin_op.Greater x y
binary_kind binary_mark.LessEqual x y = typed_nodes.Binary bin_op.LessEqual x y
binary_kind binary_mark.GreaterEqual x y = typed_nodes.Binary bin_op.GreaterEqual x y
binary_kind binary_mark.Equal x y = typed_nodes.Binary bin_op.Equal x y
binary_kind binary_mark.NotEqual x y = typed_nodes.Binary bin_op.NotEqual x y
binary_kind binary_mark.BitAnd x y = typed_nodes.Binary bin_op.BitAnd x y
binary_kind binary_mark.BitXor x y = typed_nodes.Binary bin_op.BitXor x y
binary_kind binary_mark.BitOr x y = typed_nodes.Binary bin_op.BitOr x y
binary_kind binary_mark.And x y = typed_nodes.And x y
binary_kind binary_mark.Or x y = typed_nodes.Or x y

-- How the right side of an assignment is used: that of `=` converts into the type of the left side, that of a compound
-- assignment is a plain operand (C99 6.5.16).
abbrev pub right_use : AssignMark → CType → Use
right_use assign_mark.Assign type = rule_node.Into type
right_use mark type = rule_node.Plain

-- The node of an assignment, by `=` or compound (C99 6.5.16).
abbrev pub assign_node : AssignMark → Attr → Attr → Node
assign_node assign_mark.Assign x y = rule_node.Assign x y
assign_node assign_mark.Multiply x y = rule_node.Compound bin_op.Multiply x y
assign_node assign_mark.Divide x y = rule_node.Compound bin_op.Divide x y
assign_node assign_mark.Remainder x y = rule_node.Compound bin_op.Remainder x y
assign_node assign_mark.Add x y = rule_node.Compound bin_op.Add x y
assign_node assign_mark.Subtract x y = rule_node.Compound bin_op.Subtract x y
assign_node assign_mark.ShiftLeft x y = rule_node.Compound bin_op.ShiftLeft x y
assign_node assign_mark.ShiftRight x y = rule_node.Compound bin_op.ShiftRight x y
assign_node assign_mark.BitAnd x y = rule_node.Compound bin_op.BitAnd x y
assign_node assign_mark.BitXor x y = rule_node.Compound bin_op.BitXor x y
assign_node assign_mark.BitOr x y = rule_node.Compound bin_op.BitOr x y

-- The typed expression of an assignment, by `=` or compound (C99 6.5.16).
abbrev pub assign_kind : AssignMark → Expr → Expr → ExprKind
assign_kind assign_mark.Assign x y = typed_nodes.Assign x y
assign_kind assign_mark.Multiply x y = typed_nodes.Compound bin_op.Multiply x y
assign_kind assign_mark.Divide x y = typed_nodes.Compound bin_op.Divide x y
assign_kind assign_mark.Remainder x y = typed_nodes.Compound bin_op.Remainder x y
assign_kind assign_mark.Add x y = typed_nodes.Compound bin_op.Add x y
assign_kind assign_mark.Subtract x y = typed_nodes.Compound bin_op.Subtract x y
assign_kind assign_mark.ShiftLeft x y = typed_nodes.Compound bin_op.ShiftLeft x y
assign_kind assign_mark.ShiftRight x y = typed_nodes.Compound bin_op.ShiftRight x y
assign_kind assign_mark.BitAnd x y = typed_nodes.Compound bin_op.BitAnd x y
assign_kind assign_mark.BitXor x y = typed_nodes.Compound bin_op.BitXor x y
assign_kind assign_mark.BitOr x y = typed_nodes.Compound bin_op.BitOr x y
