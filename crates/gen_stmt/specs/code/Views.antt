-- What contracts see of what a statement stands in, and of the ways out of it.
use Rattle.std.specs.Prelude.{ℕ, reverse}
use Rattle.upc_types.specs.View.{view}
use Rattle.source_meaning.specs.Statements.{Standing}
use Rattle.gen_stmt.specs.declared.exits.Exit as exit
use Rattle.gen_stmt.specs.declared.exits.Exits as es
use Rattle.gen_stmt.specs.declared.labelled.Labelled as labelled_type
use Rattle.gen_stmt.specs.declared.standing.Standing as standing_type
use Rattle.gen_stmt.specs.layer.Ways.{Way, Ways, way}
use Rattle.gen_stmt.specs.code.Parts.{Labelled}

-- A way out of a statement in the code generator, as contracts see it.
abbrev pub view_exit : exit.Exit → Way
view_exit w = way w.blocks w.distance

-- The ways out of a statement in the code generator, as contracts see them.
abbrev pub view_exits : es.Exits → Ways
view_exits x = record { broken = view_exit x.broken; again = view_exit x.again; blocks = x.blocks }

-- What a statement stands in, in the code generator, as contracts see it.
abbrev pub view_standing : standing_type.Standing → Standing
view_standing x = record { strict = x.strict; count = x.count; result = view x.result.now }

-- What a statement stands in, with so many objects of its function in scope.
abbrev pub with_count : ℕ → Standing → Standing
with_count count κ = record κ { count = count }

-- The body of a switch in the code generator, as contracts see it, with its labels in order.
abbrev pub view_labelled : labelled_type.Labelled → Labelled
view_labelled x = record { code = x.code; labels = reverse x.labels.items; default = x.default }
