use Rattle.std.proofs.Common.{map, reverse, sym, ap, ◌∙◌}
use Rattle.upc_types.specs.View.{view_completed}
use Rattle.upc_types.specs.Layout.{known_in}
use Rattle.upc_types.specs.layer.Named.{first_named}
use Rattle.upc_types.proofs.Order.{none_one}
use Rattle.upc_types.proofs.Places.{absent}
use Rattle.upc_types.proofs.structs.Structs.member_named.Goals as goal

pub returns-in-Some : goal.returns-in-Some
returns-in-Some c = c.copied.ensures ∙ c.get.ensures.value ∙ c.in-Some.ensures.made.named c.args.name.now

pub returns-in-None : goal.returns-in-None
returns-in-None c =
    let cs = reverse (map view_completed c.args.self.now.completed.items) in
    sym (ap (λ ms. first_named ms c.args.name.now) (absent cs c.args.number (none_one (known_in cs c.args.number) (sym c.in-None.ensures.known))))
