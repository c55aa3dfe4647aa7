-- How code leaves a statement before its end.
use Rattle.std.specs.Prelude.{ℕ, suc, ◌+◌}

-- A way out of a statement: how many blocks are left on it, and how many instructions after the statement it passes
-- (C99 6.8.6).
pub record Way : Type 0 where
  pub blocks : ℕ
  pub distance : ℕ

-- The way that leaves so many blocks and passes so many instructions.
abbrev pub way : (blocks distance : ℕ) → Way
way blocks distance = record { blocks = blocks; distance = distance }

-- The same way out of a part that ends so many instructions before the end of its statement.
abbrev pub past : ℕ → Way → Way
past n w = way w.blocks (n + w.distance)

-- The same way out of a part inside one more block, whose end is one instruction.
abbrev pub inner : Way → Way
inner w = way (suc w.blocks) (1 + w.distance)

-- The ways out of a statement that are not its end: of `break`, of `continue`, and how many blocks of its call a
-- `return` leaves.
pub record Ways : Type 0 where
  pub broken : Way
  pub again : Way
  pub blocks : ℕ

-- The same ways out of a part that ends so many instructions before the end of its statement.
abbrev pub all_past : ℕ → Ways → Ways
all_past n ω = record { broken = past n ω.broken; again = past n ω.again; blocks = ω.blocks }

-- The same ways out of a part inside one more block, whose end is one instruction.
abbrev pub all_inner : Ways → Ways
all_inner ω = record { broken = inner ω.broken; again = inner ω.again; blocks = suc ω.blocks }

-- The ways out of the body of a loop, after which so many instructions stand before the jump back: `break` passes them
-- and that jump, and `continue` leads to the first of them (C99 6.8.6.2, 6.8.6.3).
abbrev pub in_loop : ℕ → Ways → Ways
in_loop n ω = record { broken = way 0 (n + 1); again = way 0 0; blocks = ω.blocks }

-- The ways out of the body of a switch: `break` leads to its end, and the others are as around the switch
-- (C99 6.8.6.3).
abbrev pub in_switch : Ways → Ways
in_switch ω = record { broken = way 0 0; again = ω.again; blocks = ω.blocks }

-- The ways out of the body of a upc_forall, which `break` and `continue` end alike (UPC 6.6.2).
abbrev pub in_forall : Ways → Ways
in_forall ω = record { broken = way 0 0; again = way 0 0; blocks = ω.blocks }

-- The ways out of the body of a function in which so many blocks are open: `return` leaves them all (C99 6.8.6.4).
abbrev pub in_function : ℕ → Ways
in_function blocks = record { broken = way 0 0; again = way 0 0; blocks = blocks }
