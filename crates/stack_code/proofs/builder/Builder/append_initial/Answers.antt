use Rattle.std.proofs.Common.{sym, subst}
use Rattle.upc_values.specs.Lists.{Each}
use Rattle.stack_code.specs.layer.Kept.{IsKnown}
use Rattle.stack_code.proofs.Parts.{more_known}
use Rattle.stack_code.proofs.builder.Builder.append_initial.Goals as goal

pub invariant_of-self-2 : goal.invariant_of-self-2
invariant_of-self-2 c =
    let o = c.self.inside in
    let h = c.self.invariant in
    let known : IsKnown o.threads o.shapes.items c.args.value =
    subst (λ m. IsKnown m.codes.threads m.codes.shapes c.args.value) (sym c.self.view_is) c.requires.known in
    let more = more_known o.threads o.shapes.items o.private_initials.items c.args.at c.args.value h.known known in
    record {
      threads = h.threads;
      shapes = h.shapes;
      fitting = h.fitting;
      current = h.current;
      known = subst (λ xs. Each (λ x. IsKnown o.threads o.shapes.items x.1) xs) (sym c.in_ok-push.ensures.items) more;
    }
