-- Parts of expressions with types.
use Rattle.std.specs.Prelude.{ℕ, ◌+◌, List, [], ◌∷◌, ◌++◌, Option, Some, None}
use Rattle.upc_tree.specs.declared.mark.ConstantWord.{ConstantWord}
use Rattle.upc_tree.specs.declared.mark.ConstantWord.TheVariants as constant_word
use Rattle.upc_tree.specs.declared.mark.MemberMark.{MemberMark}
use Rattle.upc_tree.specs.declared.mark.MemberMark.TheVariants.{Dot, Arrow}
use Rattle.upc_tree.specs.declared.span.StringLiteral.{StringLiteral}
use Rattle.typing_rules.specs.Values.{base_target}
use Rattle.typed_tree.specs.Scopes.{Setting}
use Rattle.typing_rules.specs.Attributes.{Facts, base, member_named, found_index, target_index}
use Rattle.typing_rules.specs.Nodes as nodes
use Rattle.typing_rules.specs.Nodes.{Attr}
use Rattle.typed_tree.specs.Tree as tree
use Rattle.typed_tree.specs.Tree.{ExprKind, Exprs, attr_of}
pub use Rattle.typed_tree.specs.Words.{text_in, text_of, format_in, last_of}

-- The bytes of neighbouring strings, joined into one (C99 5.1.1.2, 6.4.5).
abbrev pub joined : List StringLiteral → List ℕ
joined [] = []
joined (x ∷ xs) = x.bytes ++ joined xs

-- The node of `.` or `->` with the name of a member (C99 6.5.2.3).
abbrev pub member_of : MemberMark → Attr → List ℕ → nodes.Node
member_of Dot a name = nodes.MemberOf a name
member_of Arrow a name = nodes.MemberBehind a name

-- The typed expression of `.` or `->`, with the number of the member of this name in its struct (C99 6.5.2.3).
abbrev pub member_kind : MemberMark → tree.Expr → List ℕ → Facts → ExprKind
member_kind Dot a name φ = tree.Member a (found_index (member_named φ.structs (attr_of a).ctype name))
member_kind Arrow a name φ = tree.MemberBehind a (target_index φ.structs (base_target (base (attr_of a))) name)

-- The node of `MYTHREAD`, `THREADS` or `UPC_MAX_BLOCK_SIZE` (UPC 6.3).
abbrev pub constant_node : Setting → ConstantWord → nodes.Node
constant_node ξ constant_word.Mythread = nodes.Mythread
constant_node ξ constant_word.Threads = nodes.Threads ξ.threads
constant_node ξ constant_word.MaxBlockSize = nodes.MaxBlockSize

-- The typed expression of `MYTHREAD`, which differs from thread to thread, or of `THREADS` or `UPC_MAX_BLOCK_SIZE`,
-- which are constants (UPC 6.3).
abbrev pub constant_kind : ConstantWord → ExprKind
constant_kind constant_word.Mythread = tree.Mythread
constant_kind word = tree.Literal
