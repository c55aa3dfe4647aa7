-- The greatest numbers of the types.
use Rattle.std.specs.Prelude.{ℕ}

-- The greatest u8.
abbrev pub most_u8 : ℕ
most_u8 = 255

-- The greatest u32.
abbrev pub most_u32 : ℕ
most_u32 = 4294967295

-- The greatest u64.
abbrev pub most_u64 : ℕ
most_u64 = 18446744073709551615

-- The greatest i32.
abbrev pub most_i32 : ℕ
most_i32 = 2147483647

-- The greatest i64.
abbrev pub most_i64 : ℕ
most_i64 = 9223372036854775807

-- The greatest i128.
abbrev pub most_i128 : ℕ
most_i128 = 170141183460469231731687303715884105727
