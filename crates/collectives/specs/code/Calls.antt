-- The program's calls as the definitions have them.
use Rattle.std.specs.Prelude.{ℕ, ◌≤◌, nat_lt, ℤ, unsigned_abs, Bool, ◌&&◌, cond, List, [], ◌∷◌, Option, Some, None}
use Rattle.block_layout.specs.declared.place.SharedPtr.{SharedPtr}
use Rattle.upc_values.specs.declared.scalar.Scalar.{Scalar}
use Rattle.upc_values.specs.declared.scalar.Scalar.TheVariants.{Int, Shared}
use Rattle.upc_values.specs.Calls as said
use Rattle.upc_values.specs.Calls.{is_size, is_int}
use Rattle.collectives.specs.declared.call.Way.{Way}
use Rattle.collectives.specs.declared.call.Way.TheVariants as way
use Rattle.collectives.specs.declared.call.Call.{Call}
use Rattle.collectives.specs.declared.call.Call.TheVariants as call

-- the way of the definitions
abbrev pub way_in : Way → said.Way
way_in way.Broadcast = said.Broadcast
way_in way.Scatter = said.Scatter
way_in way.Gather = said.Gather
way_in way.GatherAll = said.Gather_all
way_in way.Exchange = said.Exchange

-- The way of the definitions, where there is one.
abbrev pub way_option : Option Way → Option said.Way
way_option (Some w) = Some (way_in w)
way_option None = None

-- the call of the definitions
abbrev pub call_in : Call → said.Call
call_in (call.Copies w dst src n f) = said.Copies (way_in w) dst src n f
call_in (call.Permutes dst src perm n f) = said.Permutes dst src perm n f
call_in (call.Reduces o f) = said.Reduces o.dst o.src o.op o.count o.block o.kind f
call_in (call.ReducesPrefixes o f) = said.Reduces_prefixes o.dst o.src o.op o.count o.block o.kind f
call_in call.Other = said.Other

-- A call that copies or reduces as it is, and Other for any other call.
abbrev pub kept : said.Call → said.Call
kept (said.Copies w dst src n f) = said.Copies w dst src n f
kept (said.Permutes dst src perm n f) = said.Permutes dst src perm n f
kept (said.Reduces dst src op n b k f) = said.Reduces dst src op n b k f
kept (said.Reduces_prefixes dst src op n b k f) = said.Reduces_prefixes dst src op n b k f
kept c = said.Other

-- a value's pointer, its size_t, its int, if it has one
abbrev pub shared_in : Scalar → Option SharedPtr
shared_in (Shared p) = Some p
shared_in v = None

abbrev pub size_in : Scalar → Option ℕ
size_in (Int v) = cond (is_size v) (Some (unsigned_abs v)) None
size_in v = None

abbrev pub int_in : Scalar → Option ℤ
int_in (Int v) = cond (is_int v) (Some v) None
int_in v = None

-- The call that was read, or Other where none was.
abbrev pub called : Option Call → said.Call
called (Some c) = call_in c
called None = said.Other

-- the number of a type of elements, if it is one
abbrev pub kind_in : Scalar → Option ℕ
kind_in (Int v) = cond (is_size v && nat_lt (unsigned_abs v) 8) (Some (unsigned_abs v)) None
kind_in v = None

-- the run error of the first test that holds
abbrev pub refusal_in : List (Bool × ℕ) → Option ℕ
refusal_in [] = None
refusal_in (x ∷ xs) = cond x.0 (Some x.1) (refusal_in xs)

-- sizes of at most 16,777,216
abbrev pub FitsLimits : Call → Type 0
FitsLimits (call.Copies w dst src n f) = n ≤ 16777216
FitsLimits (call.Permutes dst src perm n f) = n ≤ 16777216
FitsLimits (call.Reduces o f) = o.block ≤ 16777216
FitsLimits (call.ReducesPrefixes o f) = o.block ≤ 16777216
FitsLimits call.Other = Unit {0}
