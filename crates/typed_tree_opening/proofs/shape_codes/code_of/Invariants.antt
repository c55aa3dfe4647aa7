use Rattle.std.proofs.Common.{◌≡◌, ◌<◌}
use Rattle.typed_tree_opening.specs.code.Apart.{places_code}
use Rattle.typed_tree_opening.proofs.shape_codes.code_of.Given as goal

abbrev pub invariant-loop-i : goal.invariant-loop-i
invariant-loop-i l = record {
  here : l.code ≡ places_code l.shape l.i;
  small : l.code < 4294967296;
}
