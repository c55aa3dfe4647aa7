-- How deep types are.
use Rattle.std.specs.Prelude.{ℕ, ◌+◌}
use Rattle.upc_types.specs.Types.{CType, Qualified, Base, Array, Pointer}

abbrev mutual
  -- How many pointers and arrays a type goes through.
  pub depth : CType → ℕ
  depth (Qualified b c s x) = base_depth b

  -- How many pointers and arrays a type goes through, by its base.
  pub base_depth : Base → ℕ
  base_depth (Array t count) = depth t + 1
  base_depth (Pointer t) = depth t + 1
  base_depth b = 0
