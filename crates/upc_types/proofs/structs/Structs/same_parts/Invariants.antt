use Rattle.std.proofs.Common.{◌≡◌, drop, length}
use Rattle.upc_types.specs.ViewStructs.{view_structs}
use Rattle.upc_types.specs.code.MadeOf.{parts}
use Rattle.upc_types.proofs.structs.Structs.same_parts.Given as goal

abbrev pub invariant-loop-i : goal.invariant-loop-i
invariant-loop-i l = record {
  rest : parts (view_structs l.self) (drop l.i l.a) ≡ parts (view_structs l.self) (drop l.i l.b) → parts (view_structs l.self) l.a ≡ parts (view_structs l.self) l.b;
  lengths : length l.a ≡ length l.b;
}
