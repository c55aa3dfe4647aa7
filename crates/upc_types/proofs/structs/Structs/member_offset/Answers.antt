use Rattle.std.proofs.Common.{◌≡◌, map, reverse, get_or, ap, ◌∙◌, arith}
use Rattle.upc_types.specs.View.{view, view_completed}
use Rattle.upc_types.specs.Types.{members_in}
use Rattle.upc_types.specs.Layout.{layout_in, member_layouts, offset_behind}
use Rattle.upc_types.specs.code.Starts.{starts_behind}
use Rattle.upc_types.proofs.Fitting.{offset_is, offset_low}
use Rattle.upc_types.proofs.Steps.{begun}
use Rattle.upc_types.proofs.structs.Structs.member_offset.Goals as goal

pub returns-clause-value : goal.returns-clause-value
returns-clause-value c =
    let cs = reverse (map view_completed c.args.self.now.completed.items) in
    let ls = member_layouts (layout_in cs) (members_in cs c.args.number) in
    let x = c.in-Some.completed.now in
    let made = c.in-Some.ensures.made in
    c.start_or.ensures ∙ ap (λ xs. get_or xs c.args.member x.end) (c.as_slice.ensures.value ∙ made.starts)
    ∙ ap (get_or (starts_behind 0 ls) c.args.member) made.end ∙ offset_is 0 ls c.args.member

pub returns-clause-few : goal.returns-clause-few
returns-clause-few c =
    let cs = reverse (map view_completed c.args.self.now.completed.items) in
    let targets = map view c.args.self.now.targets.list.items in
    let ls = member_layouts (layout_in cs) (members_in cs c.args.number) in
    let x = c.in-Some.completed.now in
    let made = c.in-Some.ensures.made in
    let kept = c.args.self.now.kept in
    let b = begun targets cs c.args.number kept.ordered (kept.fine c.args.number) c.requires.complete in
    let low = offset_low cs 0 (members_in cs c.args.number) c.args.member in
    let e : c.start_or.result ≡ offset_behind 0 ls c.args.member = c.start_or.ensures ∙ ap (λ xs. get_or xs c.args.member x.end) (c.as_slice.ensures.value ∙ made.starts)
    ∙ ap (get_or (starts_behind 0 ls) c.args.member) made.end ∙ offset_is 0 ls c.args.member in
    omega (arith, e, low, b.ends)
