use Rattle.std.proofs.Common.{length, ◌-◌, ◌≡◌, ◌≤◌, take}
use Rattle.upc_text.specs.Outside.{taken_with}
use Rattle.upc_text.proofs.whole.put_all.Given as goal

abbrev pub invariant-loop-done : goal.invariant-loop-done
invariant-loop-done g l = record {
  within : l.done ≤ length l.bytes;
  took : g.O.Sink.taken l.sink ≡ taken_with (g.O.Sink.taken l.fn.sink) (take l.done l.bytes);
  counts : g.O.Sink.faults l.fn.sink ≤ g.O.Sink.faults l.sink;
}

abbrev pub decreases-loop-done : goal.decreases-loop-done
decreases-loop-done g l = length l.bytes - l.done
