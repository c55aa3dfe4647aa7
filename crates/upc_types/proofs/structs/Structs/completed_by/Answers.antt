use Rattle.std.proofs.Common.{◌≡◌, map, reverse, length, Some, is_some, sym, ap, ◌∙◌, arith}
use Rattle.std.proofs.lemmas.List.{length-reverse, length-map}
use Rattle.upc_types.specs.View.{view_completed}
use Rattle.upc_types.specs.Layout.{known_in}
use Rattle.upc_types.proofs.Places.{placed}
use Rattle.upc_types.proofs.Making.{made_at}
use Rattle.upc_types.proofs.structs.Structs.completed_by.Goals as goal

pub index-requires : goal.index-requires
index-requires c =
    let cs = reverse (map view_completed c.args.self.now.completed.items) in
    let h : known_in cs c.args.number ≡ Some c.in-Some.known = sym c.in-Some.ensures in
    let p = placed cs c.args.number c.in-Some.known h in
    let n : length cs ≡ length c.args.self.now.completed.items = length-reverse (map view_completed c.args.self.now.completed.items) ∙ length-map c.args.self.now.completed.items view_completed in
    omega (arith, p.below, n, c.args.self.now.completed.ok)

pub returns-in-Some-clause-known : goal.returns-in-Some-clause-known
returns-in-Some-clause-known c = ap is_some c.in-Some.ensures

pub returns-in-Some-clause-made : goal.returns-in-Some-clause-made
returns-in-Some-clause-made c =
    made_at c.args.self.now.completed.items c.args.number c.in-Some.known c.index.result.now c.args.self.now.made c.args.self.now.kept.ordered (sym c.in-Some.ensures) c.index.ensures

pub returns-in-None-clause-known : goal.returns-in-None-clause-known
returns-in-None-clause-known c = ap is_some c.in-None.ensures
