use Rattle.std.proofs.Common.{refl}
use Rattle.upc_meaning_settings.specs.layer.Runners.{thread_seen}
use Rattle.upc_meaning_settings.proofs.places.cell_at.Goals as goal

pub returns : goal.returns
returns c = c.cell.ensures (thread_seen c.args.runner) refl refl
