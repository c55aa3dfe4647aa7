use Rattle.std.proofs.Common.{◌≡◌, ◌∙◌, ap, sym, refl, subst, length, [], None, arith}
use Rattle.private_store.specs.Beginnings.{begun}
use Rattle.stack_machine.specs.code.Bodies.{Body}
use Rattle.stack_machine.specs.code.Standing.{Stands, first_body}
use Rattle.stack_machine.specs.code.Kept.{IsHolding}
use Rattle.stack_machine.specs.code.Machines.{IsWhole}
use Rattle.stack_machine.proofs.Standings.{goes_by_replies}
use Rattle.stack_machine.proofs.Machines.{whole, first_is, first_held}
use Rattle.stack_machine.proofs.machine.Machine.make.Goals as goal

pub invariant_of-result : goal.invariant_of-result
invariant_of-result c =
    let store : c.in_ok-store.store ≡ begun c.args.code.now.private_shapes c.args.code.now.private_initials =
    c.in_ok-store.ensures ∙ ap (λ l. begun l c.private_initials.result.now) c.private_shapes.ensures
    ∙ ap (λ l. begun c.args.code.now.private_shapes l) c.private_initials.ensures.value in
    let body = first_is c.args.code.now c.new.result.items c.new-2.result c.new-3.result c.in_ok-store.store
    c.new.ensures.items c.new-2.ensures c.new-3.ensures store in
    subst (λ (b : Body). IsWhole c.args.thread c.args.budget c.threads.result (length c.shapes.result.now) None b) (sym body)
    (whole c.args.thread c.args.budget c.threads.result (length c.shapes.result.now) c.args.code.now.shapes None
    (first_body c.args.code.now) (omega arith) (omega arith) (ap (λ l. length l) (sym c.shapes.ensures.value))
    (subst (λ n. IsHolding n c.args.code.now.shapes (first_body c.args.code.now)) (sym c.threads.ensures.value)
    (first_held c.args.code.now c.keep.ensures.known)) tt)

pub returns : goal.returns
returns c =
    let store : c.in_ok-store.store ≡ begun c.args.code.now.private_shapes c.args.code.now.private_initials =
    c.in_ok-store.ensures ∙ ap (λ l. begun l c.private_initials.result.now) c.private_shapes.ensures
    ∙ ap (λ l. begun c.args.code.now.private_shapes l) c.private_initials.ensures.value in
    let body = first_is c.args.code.now c.new.result.items c.new-2.result c.new-3.result c.in_ok-store.store
    c.new.ensures.items c.new-2.ensures c.new-3.ensures store in
    record {
      thread_is = refl;
      budget_is = refl;
      at = subst (λ (b : Body). Stands c.args.code.now c.args.thread c.args.budget [] [] b) (sym body)
          ((goes_by_replies c.args.code.now c.args.thread c.args.budget).begins c.requires.budget);
    }
