-- The targets to which a walk over structs has still to give numbers, and those that have numbers.
use Rattle.std.specs.Prelude.{◌≡◌, ℕ, Bool, true, false, List, [], ◌∷◌, ◌++◌, drop, get_or}
use Rattle.upc_values.specs.Lists.{Each}
use Rattle.upc_types.specs.Types.{CType, Completed, Structs, members_in}
use Rattle.upc_types.specs.layer.Parts.{is_noted}
use Rattle.upc_types.specs.View.{view}
use Rattle.typed_tree.specs.Targets.{struct_targets}
use Rattle.typed_tree.specs.layer.Parts.{members_targets, with_noted}
use Rattle.typed_tree_opening.specs.declared.targets.Leaf.{Leaf}
use Rattle.typed_tree_opening.specs.declared.targets.Leaf.TheVariants.{Target, Inside, Plain}
use Rattle.typed_tree_opening.specs.declared.targets.Pending.{Pending}

-- The targets of the pointers in an object with these leaf elements, where those in each struct are known.
abbrev pub leaf_found : (ℕ → List CType) → Leaf → List CType
leaf_found structs (Target t) = view t ∷ []
leaf_found structs (Inside n) = structs n
leaf_found structs Plain = []

-- The targets of the pointers in the members of a struct from one on.
abbrev pub pending_targets : List Completed → Pending → List CType
pending_targets cs p = members_targets (struct_targets cs) (drop p.member (members_in cs p.number))

-- The targets of the pointers in the members that are left of several structs, the last struct first.
abbrev pub all_pending : List Completed → List Pending → List CType
all_pending cs [] = []
all_pending cs (p ∷ ps) = all_pending cs ps ++ pending_targets cs p

-- The structs after the target of each pointer in an object with these leaf elements was given a number.
abbrev pub with_leaf : Structs → Leaf → Structs
with_leaf s leaf = with_noted s (leaf_found (struct_targets s.completed) leaf)

-- The structs after the target of each pointer in the members that are left of several structs was given a number.
abbrev pub with_pending : Structs → List Pending → Structs
with_pending s ps = with_noted s (all_pending s.completed ps)

-- Each of these targets of pointers has a number.
abbrev pub AreNoted : Structs → List CType → Type 0
AreNoted s ts = Each (λ t. is_noted s.targets t ≡ true) ts

-- Each target of a pointer in a struct that is done has a number.
abbrev pub IsDone : Structs → List Bool → Type 0
IsDone s done = (n : ℕ) → get_or done n false ≡ true → AreNoted s (struct_targets s.completed n)

-- For each struct of which members are left: once the targets in what is left up to its end have numbers, each target
-- in that struct has one.
abbrev pub AreEnded : Structs → List Pending → Type 0
AreEnded s [] = Unit {0}
AreEnded s (p ∷ ps) = AreNoted (with_pending s (p ∷ ps)) (struct_targets s.completed p.number) × AreEnded s ps
