use Rattle.std.proofs.Common.{◌*◌, map, reverse, sym, ap, ◌∙◌}
use Rattle.upc_types.specs.View.{view, view_base, view_completed}
use Rattle.upc_types.specs.ViewStructs.{view_structs}
use Rattle.upc_types.specs.Layout.{layout_in}
use Rattle.typing_rules.specs.Attributes.{Facts, measured}
use Rattle.typing_rules_checks.proofs.sizes.measured.Goals as goal
use Rattle.upc_types.specs.Cells.{leaves}
use Rattle.upc_types.proofs.Within.{leaf_sizes}

pub returns-in-Bytes : goal.returns-in-Bytes
returns-in-Bytes c =
    let cs = reverse (map view_completed c.args.structs.now.completed.items) in
    let φ : Facts = record { structs = view_structs c.args.structs.now; threads = c.args.threads } in
    let b = view_base c.args.t.now.base in
    ap (λ n. n * c.from-in-Bytes.result) (c.from.ensures ∙ c.leaves_of-leaves.ensures.count)
    ∙ ap (λ n. leaves b * n) (c.from-in-Bytes.ensures ∙ c.leaves_of-leaves.ensures.bytes)
    ∙ sym (leaf_sizes (layout_in cs) b) ∙ ap (λ o. measured φ o (view c.args.t.now)) (sym c.in-Bytes.is)
