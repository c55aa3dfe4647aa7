use Rattle.std.proofs.Common.{get_or, None, sym, ap, ◌∙◌}
use Rattle.upc_types.proofs.structs.Structs.held_of.Goals as goal

pub returns-in-Some-Some : goal.returns-in-Some-Some
returns-in-Some-Some c =
    c.args.self.now.held c.args.number c.in-Some-Some.held (ap (λ xs. get_or xs c.args.number None) (sym c.deref.ensures.value) ∙ sym (c.in-Some-Some.ensures.lookup.3.1 None) ∙ c.in-Some-Some.field-0-is)
