use Rattle.std.proofs.Common.{◌≡◌, ap, arith}
use Rattle.upc_values.specs.Openings.{Opening}
use Rattle.shared_heap.proofs.Objects.{past-none}
use Rattle.shared_heap.proofs.beginning.Beginning.cell_in.Goals as goal

pub returns-then-loc-self : goal.returns-then-loc-self
returns-then-loc-self c =
    let t : c.self.inside.threads ≡ c.args.self.now.threads = ap (λ (o : Opening). o.threads) c.self.view_is in
    let some = c.self.invariant.opening.least in
    let past = c.if-loc-self.true in
    past-none c.args.object c.args.loc.thread c.args.self.now.threads c.args.loc.offset _ (omega arith) c.requires.2 (omega arith)
