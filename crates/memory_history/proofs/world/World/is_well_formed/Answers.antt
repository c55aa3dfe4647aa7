use Rattle.std.proofs.Common.{Bool, sym, subst}
use Rattle.std.specs.Prelude.{◌↔◌, IsTrue}
use Rattle.upc_values.specs.Formed.{IsWellFormed}
use Rattle.memory_history.specs.code.Acting.{may_ask}
use Rattle.memory_history.proofs.Worlds.{world-asks}
use Rattle.memory_history.proofs.world.World.is_well_formed.Goals as goal

pub returns : goal.returns
returns c =
    let x = c.args.action.now in
    subst (λ (b : Bool). IsTrue b ↔ IsWellFormed c.args.self.now.0 c.args.self.now.1 x) (sym c.may_ask.ensures)
    (subst (λ w. IsTrue (may_ask c.self.inside.parts x) ↔ IsWellFormed w.0 w.1 x) c.self.view_is
    (world-asks c.self.inside.parts c.self.inside.entries.items c.self.invariant x))
