-- What is left to do, seen without where the tree lies in memory.
use Rattle.std.specs.Prelude.{List, map, reverse}
use Rattle.upc_types.specs.View.{view}
use Rattle.typing_rules.specs.Nodes.{view_attr}
use Rattle.typed_tree.specs.Tree.{Exprs, exprs_of}
use Rattle.typed_tree.specs.ViewTree.{view_expr}
use Rattle.typed_tree.specs.ViewStatements.{view_statement, view_statement_kind, view_items, view_switch_items}
use Rattle.typed_tree.specs.ViewStatements.{view_arms, view_last, view_object}
use Rattle.source_meaning.specs.Statements as pure
use Rattle.thread_steps.specs.declared.cast.CastTo.{CastTo}
use Rattle.source_meaning.specs.Types.{conversions, parameter_conversion, promotion}
use Rattle.source_meaning.specs.Expressions.{types_of}
use Rattle.upc_meaning_work.specs.declared.flow.Flow.{Flow}
use Rattle.upc_meaning_work.specs.declared.flow.Flow.TheVariants.{Next, Broke, Again, Gave}
use Rattle.upc_meaning_work.specs.declared.standing.Standing.{Standing}
use Rattle.upc_meaning_work.specs.declared.works.Parameters.{Parameters}
use Rattle.upc_meaning_work.specs.declared.works.Parameters.TheVariants as parameters_variant
use Rattle.upc_meaning_work.specs.declared.works.Work.{Work}
use Rattle.upc_meaning_work.specs.declared.works.Work.TheVariants as work
use Rattle.upc_meaning_work.specs.declared.works.Works.{Works}
use Rattle.upc_meaning_work.specs.layer.Items as items_spec
use Rattle.upc_meaning_work.specs.layer.Items.{Item}

-- The conversions of these arguments into what the code says that their call takes (C99 6.5.2.2).
abbrev pub casts_of : Parameters → Exprs → List CastTo
casts_of (parameters_variant.Types ts) more = conversions (types_of more) (map view ts.now)
casts_of (parameters_variant.Library ps) more = map parameter_conversion ps.now
casts_of parameters_variant.Promoted more = map promotion (types_of more)

-- How a statement was left in the code, as contracts see it.
abbrev pub flow_seen : Flow → pure.Flow
flow_seen Next = pure.Next
flow_seen Broke = pure.Broke
flow_seen Again = pure.Again
flow_seen (Gave v) = pure.Gave v

-- What a statement stands in, seen without where its result lies in memory.
abbrev pub view_standing : Standing → pure.Standing
view_standing s = record { strict = s.strict; count = s.count; result = view s.result.now }

-- One item of the code, seen without where the tree lies in memory.
abbrev pub view_work : Work → Item
view_work (work.Value strict e) = items_spec.Value strict (view_expr e.now)
view_work (work.Address strict e) = items_spec.Address strict (view_expr e.now)
view_work (work.Hold strict at attr) = items_spec.Hold strict at (view_attr attr.now)
view_work (work.Operate strict e) = items_spec.Operate strict (view_expr e.now)
view_work (work.Branch strict e) = items_spec.Branch strict (view_expr e.now)
view_work work.Truth = items_spec.Truth
view_work (work.Convert into at) = items_spec.Convert into at
view_work (work.Arguments strict call parameters more done) =
    let es = exprs_of (map view_expr more.now) in
    items_spec.Arguments strict (view_expr call.now) (casts_of parameters es) es done
view_work (work.Last strict parts) = items_spec.Last strict (exprs_of (map view_expr parts.now))
view_work work.Drop = items_spec.Drop
view_work (work.Run κ x) = items_spec.Run (view_standing κ) (view_statement x.now)
view_work (work.Parts κ items) = items_spec.Parts (view_standing κ) (view_items items.now)
view_work (work.Cases κ items) = items_spec.Cases (view_standing κ) (view_switch_items items.now)
view_work (work.Select κ kind items) = items_spec.Select (view_standing κ) kind (view_switch_items items.now)
view_work work.Caught = items_spec.Caught
view_work work.Leave = items_spec.Leave
view_work (work.Turn κ kind turns) = items_spec.Turn (view_standing κ) (view_statement_kind kind.now) turns
view_work (work.Test κ kind turns) = items_spec.Test (view_standing κ) (view_statement_kind kind.now) turns
view_work (work.Around κ kind turns) = items_spec.Around (view_standing κ) (view_statement_kind kind.now) turns
view_work (work.Mine at) = items_spec.Mine at
view_work (work.Guard κ body) = items_spec.Guard (view_standing κ) (view_statement body.now)
view_work work.Finished = items_spec.Finished
view_work work.Release = items_spec.Release
view_work (work.Arm κ body more last) =
    items_spec.Arm (view_standing κ) (view_statement body.now) (view_arms more.now) (view_last last.now)
view_work (work.Declare κ objects) = items_spec.Declare (view_standing κ) (map view_object objects.now)
view_work (work.Listed κ x index values) =
    items_spec.Listed (view_standing κ) (view_object x.now) index (exprs_of (map view_expr values.now))
view_work (work.Keep strict at t) = items_spec.Keep strict at (view t.now)
view_work work.Give = items_spec.Give
view_work (work.Mark how at) = items_spec.Mark how at
view_work (work.Return flow blank) = items_spec.Return (flow_seen flow) blank
view_work (work.End at) = items_spec.End at

-- The items that are left, in order, seen without where the tree lies in memory.
abbrev pub listed : Works → List Item
listed ws = map view_work (reverse ws.items.items)
