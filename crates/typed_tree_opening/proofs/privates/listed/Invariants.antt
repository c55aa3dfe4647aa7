use Rattle.std.proofs.Common.{◌≡◌, ◌≤◌, map, take, vec_len}
use Rattle.typing_rules.specs.Attributes.{constant_of}
use Rattle.typed_tree.specs.ViewTree.{attr_seen}
use Rattle.typed_tree_opening.proofs.privates.listed.Given as goal

abbrev pub invariant-loop-e : goal.invariant-loop-e
invariant-loop-e l = record {
  done : l.constants.items ≡ map (λ e. constant_of (attr_seen e)) (take l.e-index l.values);
  few : vec_len l.constants ≤ l.count;
  index : vec_len l.constants ≡ l.e-index;
}
