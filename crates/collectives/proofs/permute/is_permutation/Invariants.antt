use Rattle.std.proofs.Common.{◌≡◌, true, []}
use Rattle.upc_values.specs.History.{each_thread}
use Rattle.upc_values.specs.layer.Parts.{is_at}
use Rattle.collectives.proofs.permute.is_permutation.Given as goal

abbrev pub invariant-loop-thread : goal.invariant-loop-thread
invariant-loop-thread l = each_thread l.thread (λ t. is_at 0 [] 0 t l.numbers) ≡ true
