-- The nodes of a typed tree, each with the rules that it meets and what it is (C99 6.5 to 6.9; UPC 6.4 to 6.6).
use Rattle.std.specs.Prelude.{◌≡◌, ◌-◌, ◌≤◌, pos, false, List, ◌∷◌, map, Some, None, slice_get}
use Rattle.block_layout.specs.declared.kind.Kind.{Kind}
use Rattle.block_layout.specs.declared.kind.Kind.TheVariants as kind
use Rattle.integers.specs.Integers.{InKind}
use Rattle.upc_types.specs.Types.{CType, Completed, Structs}
use Rattle.upc_types.specs.Layout.{complete_in}
use Rattle.typing_rules.specs.declared.setting.Home.{Home}
use Rattle.typing_rules.specs.declared.setting.Home.TheVariants.{Private, Shared, Local}
use Rattle.typing_rules.specs.Attributes.{Facts, attr}
use Rattle.typing_rules.specs.Meanings as meaning
use Rattle.typing_rules.specs.Nodes as rule_node
use Rattle.typing_rules.specs.Nodes.{Attr, Node}
use Rattle.typing_rules.specs.Rules.{lowest}
use Rattle.typed_tree.specs.Objects.{type_of, private_in, shared_in}
use Rattle.typed_tree.specs.Programs.{Checked}

-- The structs that are complete at a place of a source, where `all` are complete at its end: those that are completed
-- later are not complete before (C99 6.2.5).
pub data Earlier (all : List Completed) : List Completed → Type 0 where
  AtEnd : Earlier all all
  Before : (x : Completed) (older : List Completed) → complete_in older x.number ≡ false → Earlier all (x ∷ older) →
      Earlier all older

-- What a node of a program may look at, where these structs are complete.
abbrev pub facts_at : Checked → Structs → Facts
facts_at p structs = record { structs = structs; threads = p.threads }

-- A node meets every rule at its place in the source.
pub record Meets (p : Checked) (x : Node) : Type 0 where
  pub structs : Structs
  pub place : Earlier p.structs.completed structs.completed
  pub rules : lowest (facts_at p structs) x ≡ None

-- The node of an expression meets every rule at its place in the source, where these structs are complete, and the
-- expression is what the node says.
pub record JudgedAt (p : Checked) (structs : Structs) (x : Node) (a : Attr) : Type 0 where
  pub place : Earlier p.structs.completed structs.completed
  pub rules : lowest (facts_at p structs) x ≡ None
  pub is : a ≡ attr (facts_at p structs) x

-- The node of an expression meets every rule at its place in the source, with the structs that are complete there, and
-- the expression is what the node says.
abbrev pub Judged : Checked → Node → Attr → Type 0
Judged p x a = (structs : Structs) × JudgedAt p structs x a

-- The kinds that numbers have: int, unsigned int, long and unsigned long (C99 6.4.4.1).
abbrev pub IsNumberKind : Kind → Type 0
IsNumberKind kind.Int = Unit {0}
IsNumberKind kind.UInt = Unit {0}
IsNumberKind kind.Long = Unit {0}
IsNumberKind kind.ULong = Unit {0}
IsNumberKind other = ⊥

-- The nodes of numbers, characters and named constants, which are all one kind of expression in the tree (C99 6.4.4,
-- UPC 6.3). A number is in the range of its kind.
abbrev pub IsConstant : Checked → Node → Type 0
IsConstant p (rule_node.Name how (meaning.Named c)) = Unit {0}
IsConstant p (rule_node.Number number value) = IsNumberKind number × InKind (pos value) number
IsConstant p (rule_node.Character value) = Unit {0}
IsConstant p (rule_node.Threads threads) = threads ≡ p.threads
IsConstant p rule_node.MaxBlockSize = Unit {0}
IsConstant p x = ⊥

-- An object of this type is in scope at this home: of the file by number, or of the function, whose objects in scope
-- have these types. Shared objects are numbered from 1.
abbrev pub Stands : Checked → List CType → Home → CType → Type 0
Stands p locals (Private number) t = slice_get (map type_of (private_in p.objects)) number ≡ Some t
Stands p locals (Shared number) t =
    (1 ≤ number) × (slice_get (map type_of (shared_in p.objects)) (number - 1) ≡ Some t)
Stands p locals (Local number) t = slice_get locals number ≡ Some t
