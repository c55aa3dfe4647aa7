use Rattle.std.proofs.Common.{◌≡◌, subst}
use Rattle.std.specs.Prelude.{IfOk, IfErr}
use Rattle.std.specs.Option.{option_copied}
use Rattle.upc_library.specs.layer.Walks.{rest}
use Rattle.upc_library.specs.layer.Wishes.{RefusesSo}
use Rattle.upc_library.proofs.Walking.{copies_spec}
use Rattle.upc_library.proofs.copying.Copying.make.Goals as goal

pub returns-else-spec-clause-made : goal.returns-else-spec-clause-made
returns-else-spec-clause-made c =
    subst (λ x. IfOk c.copy.result (λ w. rest w ≡ x))
    (copies_spec c.args.threads c.args.shapes.now (option_copied c.args.private) c.args.spec.now _ _ c.if-spec.false
    c.area_of-else-spec.ensures c.area_of-else-spec-2.ensures)
    c.copy.ensures.made

pub returns-else-spec-clause-refused : goal.returns-else-spec-clause-refused
returns-else-spec-clause-refused c =
    subst (λ x. IfErr c.copy.result (λ e. RefusesSo e x))
    (copies_spec c.args.threads c.args.shapes.now (option_copied c.args.private) c.args.spec.now _ _ c.if-spec.false
    c.area_of-else-spec.ensures c.area_of-else-spec-2.ensures)
    c.copy.ensures.refused
