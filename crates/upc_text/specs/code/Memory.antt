-- Sources and sinks in memory: what they hold, and which of their calls fail.
use Rattle.std.specs.Prelude.{ℕ, ◌+◌, ◌-◌, ◌^◌, min, List, Option, length, find}
use Rattle.std.specs.Option.{option_map}
use Rattle.std.specs.Str.{bytes_eq}

-- Sources in memory: the files with their names, the numbers of the calls that fail, the most bytes of a call, and
-- the counts of calls and of faults.
pub record Files : Type 0 where
  pub held : List (List ℕ × List ℕ)
  pub fails : List ℕ
  pub most : ℕ
  pub calls : ℕ
  pub faults : ℕ

-- A sink in memory: the bytes taken, the numbers of the calls that fail, the most bytes of a call, and the counts
-- of calls and of faults.
pub record Output : Type 0 where
  pub bytes : List ℕ
  pub fails : List ℕ
  pub most : ℕ
  pub calls : ℕ
  pub faults : ℕ

-- The bytes of the first file with this name.
abbrev pub held_under : List (List ℕ × List ℕ) → List ℕ → Option (List ℕ)
held_under files name = option_map (λ file. file.1) (find (λ file. bytes_eq file.0 name) files)

-- A count one higher; it stands still at the last value of 64 bits.
abbrev pub one_more : ℕ → ℕ
one_more count = min (count + 1) (2 ^ 64 - 1)

-- How many bytes a read gives: as many as there are from that place on, fit into the buffer, and one call may give.
abbrev pub given : List ℕ → ℕ → ℕ → ℕ → ℕ
given bytes at room most = min (min room most) (length bytes - at)
