use Rattle.std.proofs.Common.{◌≡◌, ◌++◌, reverse, vec_len}
use Rattle.gen_stmt.specs.code.Parts.{labels_code}
use Rattle.gen_stmt.proofs.branches.put_labels.Given as goal

abbrev pub decreases-loop-label : goal.decreases-loop-label
decreases-loop-label l = vec_len l.left

abbrev pub invariant-loop-label : goal.invariant-loop-label
invariant-loop-label l =
    l.code.items ++ labels_code l.place (reverse l.left.items) l.total
    ≡ l.initial.code.items ++ labels_code l.place (reverse l.initial.left.items) l.total
