use Rattle.std.proofs.Common.{◌≡◌, map, reverse, Some, None, sym, ap, ◌∙◌}
use Rattle.upc_types.specs.declared.layout.Layout.{Layout}
use Rattle.upc_types.specs.View.{view_completed, view_base}
use Rattle.upc_types.specs.Layout.{base_within}
use Rattle.typing_rules_checks.proofs.Sized.{leaf_within, layout_is, leaves_are, none_some}
use Rattle.typing_rules_checks.proofs.sizes.leaves_of.Goals as goal
use Rattle.typing_rules_checks.proofs.sizes.leaves_of.Goals.{in_default-via-in-Some+in_default, in_default-via-in_default}
use Rattle.upc_types.specs.Cells.{leaf_base}

pub returns-clause-count : goal.returns-clause-count
returns-clause-count c =
    let cs = reverse (map view_completed c.args.structs.now.completed.items) in
    let b = view_base c.args.base.now in
    let w : base_within cs b ≡ Some c.in-Some-Some.whole = sym c.layout_of.ensures.value ∙ c.in-Some-Some.is-0 in
    let p : base_within cs (leaf_base b) ≡ Some c.in-Some-Some.part = ap (base_within cs) (sym c.leaf.ensures)
    ∙ sym c.layout_of-2.ensures.value ∙ c.in-Some-Some.is-1 in
    leaves_are cs b c.in-Some-Some.whole c.in-Some-Some.part w p c.in-Some-Some.ensures'.fine.some

pub returns-clause-bytes : goal.returns-clause-bytes
returns-clause-bytes c =
    let cs = reverse (map view_completed c.args.structs.now.completed.items) in
    let b = view_base c.args.base.now in
    let p : base_within cs (leaf_base b) ≡ Some c.in-Some-Some.part = ap (base_within cs) (sym c.leaf.ensures)
    ∙ sym c.layout_of-2.ensures.value ∙ c.in-Some-Some.is-1 in
    ap (λ (l : Layout). l.size) (sym (layout_is cs (leaf_base b) c.in-Some-Some.part p))

pub unreachable-requires : goal.unreachable-requires
unreachable-requires c =
    let cs = reverse (map view_completed c.args.structs.now.completed.items) in
    let b = view_base c.args.base.now in
    elim c.in_default.branch [
      | in_default-via-in-Some+in_default w ↦
          let e : base_within cs (leaf_base b) ≡ None = ap (base_within cs) (sym c.leaf.ensures)
          ∙ sym c.layout_of-2.ensures.value ∙ w.in_default.is-1 in
          none_some (base_within cs (leaf_base b)) (leaf_within cs b c.requires) e
      | in_default-via-in_default w ↦
          let e : base_within cs b ≡ None = sym c.layout_of.ensures.value ∙ w.in_default.is-0 in
          none_some (base_within cs b) c.requires e
    ]
