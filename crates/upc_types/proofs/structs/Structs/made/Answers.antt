use Rattle.std.proofs.Common.{List, map, reverse, is_some, ap, ◌∙◌}
use Rattle.upc_types.specs.declared.structs.Member as rust
use Rattle.upc_types.specs.View.{view_completed, view_member}
use Rattle.upc_types.specs.Layout.{members_within, end_behind, layout_in, member_layouts}
use Rattle.upc_types.specs.code.Starts.{starts_behind}
use Rattle.upc_types.specs.layer.Named.{first_named}
use Rattle.upc_types.proofs.structs.Structs.made.Goals as goal

pub spots_of-requires : goal.spots_of-requires
spots_of-requires c =
    let cs = reverse (map view_completed c.args.self.now.completed.items) in
    record { fit = ap (λ (xs : List rust.Member). is_some (members_within cs (map view_member xs))) c.as_slice-2.ensures.value ∙ c.requires.fit }

pub returns-clause-made : goal.returns-clause-made
returns-clause-made c =
    let cs = reverse (map view_completed c.args.self.now.completed.items) in
    record {
      starts = c.in_ok-spots.ensures.starts ∙ ap (λ (xs : List rust.Member). starts_behind 0 (member_layouts (layout_in cs) (map view_member xs))) c.as_slice-2.ensures.value;
      end = c.in_ok-spots.ensures.end ∙ ap (λ (xs : List rust.Member). end_behind 0 (member_layouts (layout_in cs) (map view_member xs))) c.as_slice-2.ensures.value;
      named = λ q. c.in_ok-names.ensures q ∙ ap (λ (xs : List rust.Member). first_named (map view_member xs) q) c.as_slice-3.ensures.value;
    }
