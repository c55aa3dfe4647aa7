use Rattle.std.proofs.Common.{ap, sym, ◌∙◌, subst}
use Rattle.std.specs.Option.{option_copied}
use Rattle.std.proofs.lemmas.Bool.{or_parts}
use Rattle.upc_library.specs.code.Areas.{area_in, AreCommon}
use Rattle.upc_library.specs.layer.Walks.{rest}
use Rattle.upc_library.proofs.Walking.{copy_begun, copy_made}
use Rattle.upc_library.proofs.copying.copy.Goals as goal

pub begun-requires : goal.begun-requires
begun-requires c =
    let k = c.args.caller.now in
    let p = option_copied k.private in
    let h = subst (λ o. AreCommon k.threads k.shapes.now p c.args.bytes (area_in c.args.dst) (area_in c.args.src) o) c.in-Some.is c.in_ok-common.ensures in
    let somewhere = or_parts _ _ (sym c.are_nowhere.ensures ∙ c.if-are_nowhere.false) in
    copy_begun k.threads k.shapes.now p c.args.bytes c.args.dst c.args.src c.in-Some.cells h somewhere.0 somewhere.1
    (c.leave_shared.ensures.into c.if-leave_shared.false) (c.leave_shared.ensures.from c.if-leave_shared.false)
    (c.leave_private.ensures.into c.if-leave_private.false) (c.leave_private.ensures.from c.if-leave_private.false)

pub returns-clause-made : goal.returns-clause-made
returns-clause-made c =
    let k = c.args.caller.now in
    let p = option_copied k.private in
    let h = subst (λ o. AreCommon k.threads k.shapes.now p c.args.bytes (area_in c.args.dst) (area_in c.args.src) o) c.in-Some.is c.in_ok-common.ensures in
    ap rest c.begun.ensures
    ∙ copy_made k.threads k.shapes.now p c.args.bytes (area_in c.args.dst) (area_in c.args.src) c.in-Some.cells c.requires.some
    (sym c.are_nowhere.ensures ∙ c.if-are_nowhere.false) (sym c.leave_shared.ensures.value ∙ c.if-leave_shared.false)
    (sym c.leave_private.ensures.value ∙ c.if-leave_private.false) h
