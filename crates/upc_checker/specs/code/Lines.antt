-- The lines of the grammar to which typing rules apply.
use Rattle.std.specs.Prelude.{ℕ}
use Rattle.block_layout.specs.declared.kind.Kind.{Kind}
use Rattle.typing_rules.specs.Nodes as nodes
use Rattle.typing_rules.specs.Nodes.{Node}

-- A line of the grammar to which typing rules apply; a number has its kind and its value (C99 6.5 to 6.9; UPC 6.4 to
-- 6.6).
pub data Line : Type 0 where
  -- Expressions (C99 6.5, 6.6); operators by how many operands they have.
  Name : Line
  Number : (kind : Kind) (value : ℕ) → Line
  Character : Line
  Strings : Line
  Constant : Line
  Subscript : Line
  Call : Line
  MemberOf : Line
  Unary : Line
  SizeOf : Line
  SizeOfType : Line
  Cast : Line
  Binary : Line
  Assign : Line
  Conditional : Line
  Comma : Line
  Constantly : Line
  -- Declarations (C99 6.7, 6.9, UPC 6.5.1.1).
  Block : Line
  StarBlock : Line
  Specifies : Line
  Struct : Line
  Member : Line
  MemberFunction : Line
  DeclaresObject : Line
  DeclaresFunction : Line
  Parameter : Line
  InitialValue : Line
  InitialList : Line
  Defines : Line
  File : Line
  -- Statements (C99 6.8, UPC 6.6).
  Tests : Line
  Switch : Line
  Affinity : Line
  Break : Line
  Continue : Line
  Returns : Line
  ReturnsNothing : Line
  Barrier : Line

-- The line that a node is an instance of.
abbrev pub line_of : Node → Line
line_of (nodes.Name how means) = Name
line_of (nodes.Number kind value) = Number kind value
line_of (nodes.Character value) = Character
line_of (nodes.Strings how) = Strings
line_of nodes.Mythread = Constant
line_of (nodes.Threads threads) = Constant
line_of nodes.MaxBlockSize = Constant
line_of (nodes.Subscript how a i) = Subscript
line_of (nodes.Call how means runs format args) = Call
line_of (nodes.MemberOf a name) = MemberOf
line_of (nodes.MemberBehind a name) = MemberOf
line_of (nodes.Step a) = Unary
line_of (nodes.Address a) = Unary
line_of (nodes.Dereference a) = Unary
line_of (nodes.Unary op a) = Unary
line_of (nodes.SizeOf op a) = SizeOf
line_of (nodes.SizeOfType op t) = SizeOfType
line_of (nodes.Cast t a) = Cast
line_of (nodes.Binary op a b) = Binary
line_of (nodes.And a b) = Binary
line_of (nodes.Or a b) = Binary
line_of (nodes.Assign a b) = Assign
line_of (nodes.Compound op a b) = Assign
line_of (nodes.Conditional test a b) = Conditional
line_of (nodes.Comma last) = Comma
line_of (nodes.Constantly a) = Constantly
line_of (nodes.Block a) = Block
line_of (nodes.StarBlock declares) = StarBlock
line_of (nodes.Specifies forms) = Specifies
line_of (nodes.Struct again members bytes) = Struct
line_of (nodes.Member again t) = Member
line_of (nodes.MemberFunction forms result) = MemberFunction
line_of (nodes.DeclaresObject again file t) = DeclaresObject
line_of (nodes.DeclaresFunction again forms signature) = DeclaresFunction
line_of (nodes.Parameter again t) = Parameter
line_of (nodes.InitialValue file object t a) = InitialValue
line_of (nodes.InitialList file object t values) = InitialList
line_of (nodes.Defines again differs forms signature) = Defines
line_of (nodes.File main) = File
line_of (nodes.Tests tests) = Tests
line_of (nodes.Switch a labels defaults) = Switch
line_of (nodes.Affinity a) = Affinity
line_of (nodes.Break around) = Break
line_of (nodes.Continue around) = Continue
line_of (nodes.Returns around a) = Returns
line_of (nodes.ReturnsNothing around) = ReturnsNothing
line_of (nodes.Barrier a) = Barrier
