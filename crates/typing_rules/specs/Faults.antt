-- The nodes of a source in the order in which they are finished, and the first that breaks a rule.
use Rattle.std.specs.Prelude.{◌≡◌, ℕ, ◌≤◌, List, [], ◌∷◌, ◌++◌, Option, Some, None}
use Rattle.upc_text.specs.declared.place.Place.{Place}
use Rattle.typing_rules.specs.Attributes.{Facts}
use Rattle.typing_rules.specs.Nodes.{Node}
use Rattle.typing_rules.specs.Rules.{table, lowest, Breaks}

-- A node with its place and with what it may look at.
pub record Seen : Type 0 where
  pub at : Place
  pub facts : Facts
  pub node : Node

-- A rule that is broken, and where.
pub record Fault : Type 0 where
  pub rule : ℕ
  pub at : Place

-- The fault at a place, where a node there breaks this rule as its lowest; none where it breaks no rule.
abbrev pub fault_by : Option ℕ → Place → Option Fault
fault_by None at = None
fault_by (Some n) at = Some (record { rule = n; at = at })

-- The fault of a node: the lowest rule that it breaks, at its place; none where it breaks no rule.
abbrev pub fault_of : Seen → Option Fault
fault_of x = fault_by (lowest x.facts x.node) x.at

-- The earlier one of two faults where it is there, else the later one.
abbrev pub or_later : Option Fault → Option Fault → Option Fault
or_later None later = later
or_later (Some f) later = Some f

-- The first node that breaks a rule, and the lowest rule that it breaks.
abbrev pub first_fault : List Seen → Option Fault
first_fault [] = None
first_fault (x ∷ xs) = or_later (fault_of x) (first_fault xs)

-- A node that meets every rule.
pub record Meets (x : Seen) : Type 0 where
  pub none : (rule : ℕ) → Breaks rule (table x.facts x.node) → ⊥

-- Each of these nodes meets every rule.
abbrev pub AllMeet : List Seen → Type 0
AllMeet [] = Unit {0}
AllMeet (x ∷ xs) = Meets x × AllMeet xs

-- A node breaks the rule of the fault and none with a lower number, stands at its place, and all nodes that are
-- finished before it meet every rule.
pub record IsFirst (xs : List Seen) (f : Fault) : Type 0 where
  pub before : List Seen
  pub x : Seen
  pub later : List Seen
  pub splits : xs ≡ before ++ x ∷ later
  pub earlier : AllMeet before
  pub place : f.at ≡ x.at
  pub breaks : Breaks f.rule (table x.facts x.node)
  pub least : (rule : ℕ) → Breaks rule (table x.facts x.node) → f.rule ≤ rule
