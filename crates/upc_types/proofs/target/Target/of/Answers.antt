use Rattle.std.proofs.Common.{◌≡◌, IfSome, ap, sym, ◌∙◌, subst}
use Rattle.upc_types.specs.Types.{Pointer}
use Rattle.upc_types.specs.View.{view_base}
use Rattle.upc_types.specs.code.Stars.{BeginsSo}
use Rattle.upc_types.proofs.target.Target.of.Goals as goal
use Rattle.upc_types.proofs.target.Target.of.Goals.{in-Pointer+in_ok-with_itself-in-Pointer, in_default}

pub invariant_of-result : goal.invariant_of-result
invariant_of-result c =
    let whole = view_base c.args.ctype.value.base in
    elim c.match-deref.branch [
      | in-Pointer+in_ok-with_itself-in-Pointer w ↦
          let is : whole ≡ Pointer w.in-Pointer.next = ap (λ t. view_base t.base) (sym c.deref.ensures) ∙ ap view_base w.in-Pointer.is in
          let next = subst (λ p. IfSome p.1 (λ x. BeginsSo p.0 (Pointer w.in-Pointer.next) (view_base x.value.base))) (sym w.below-is) w.in_ok-with_itself-in-Pointer.ensures in
          subst (λ b. IfSome c.match-deref.below.1 (λ x. BeginsSo c.match-deref.below.0 b (view_base x.value.base))) (sym is) next
      | in_default w ↦ subst (λ p. IfSome p.1 (λ x. BeginsSo p.0 whole (view_base x.value.base))) (sym w.below-is) tt
    ]
