use Rattle.std.proofs.Common.{sym}
use Rattle.upc_verify_orders.specs.layer.Parts.{place_of}
use Rattle.upc_verify_orders.specs.code.Keys.{looked}
use Rattle.upc_verify_orders.proofs.Keyed.{same-kept}
use Rattle.upc_verify_orders.proofs.numbers.Firsts.number.Goals as goal

pub returns-in-Some-clause-kept : goal.returns-in-Some-clause-kept
returns-in-Some-clause-kept c = λ p.
    same-kept (λ q. looked c.args.self.now q) (place_of c.args.place) p c.in-Some.first (sym c.in-Some.ensures)
