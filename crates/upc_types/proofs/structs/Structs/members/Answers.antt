use Rattle.std.proofs.Common.{◌≡◌, map, reverse, get_or, length, Some, sym, ap, ◌∙◌, arith}
use Rattle.std.proofs.lemmas.List.{reverse-reverse, length-reverse, length-map}
use Rattle.std.proofs.Math.ListN.{get_or-map}
use Rattle.upc_types.specs.View.{view_completed, view_member}
use Rattle.upc_types.specs.Types.{Completed}
use Rattle.upc_types.specs.Layout.{known_in}
use Rattle.upc_types.proofs.Places.{placed, absent}
use Rattle.upc_types.proofs.structs.Structs.members.Goals as goal

pub index-requires : goal.index-requires
index-requires c =
    let cs = reverse (map view_completed c.args.self.now.completed.items) in
    let h : known_in cs c.args.number ≡ Some c.in-Some.known = sym c.in-Some.ensures in
    let p = placed cs c.args.number c.in-Some.known h in
    let n : length cs ≡ length c.args.self.now.completed.items = length-reverse (map view_completed c.args.self.now.completed.items) ∙ length-map c.args.self.now.completed.items view_completed in
    omega (arith, p.below, n, c.args.self.now.completed.ok)

pub returns-in-Some : goal.returns-in-Some
returns-in-Some c =
    let xs = c.args.self.now.completed.items in
    let cs = reverse (map view_completed xs) in
    let d = c.index.result.now in
    let k = c.in-Some.known.place in
    let h : known_in cs c.args.number ≡ Some c.in-Some.known = sym c.in-Some.ensures in
    let p = placed cs c.args.number c.in-Some.known h in
    let e : get_or (reverse cs) k (view_completed d) ≡ view_completed d =
    ap (λ l. get_or l k (view_completed d)) (reverse-reverse (map view_completed xs)) ∙ get_or-map view_completed xs k d ∙ ap view_completed (sym c.index.ensures) in
    ap (map view_member) c.as_slice.ensures.value ∙ sym (p.members (view_completed d) ∙ ap (λ (y : Completed). y.members) e)

pub returns-in-None : goal.returns-in-None
returns-in-None c = sym (absent (reverse (map view_completed c.args.self.now.completed.items)) c.args.number (sym c.in-None.ensures))
