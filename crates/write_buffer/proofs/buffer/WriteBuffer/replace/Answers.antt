use Rattle.std.proofs.Common.{◌≡◌, length, set, Some, refl, sym, ap, subst, ◌∙◌, arith}
use Rattle.std.proofs.lemmas.List.{length-set}
use Rattle.write_buffer.specs.layer.Buffer.{last_place, replaced}
use Rattle.write_buffer.proofs.Places.{is-place, get-none, is_counted-set}
use Rattle.write_buffer.proofs.Apart.{apart-set}
use Rattle.write_buffer.proofs.buffer.WriteBuffer.replace.Goals as goal

pub unreachable-requires : goal.unreachable-requires
unreachable-requires c =
    let ps = c.self.inside.ring.items in
    let at : last_place c.args.write.loc ps ≡ Some c.args.at = subst (λ z. last_place c.args.write.loc z ≡ Some c.args.at) (sym c.self.view_is) c.requires in
    get-none ps c.args.at c.in_default.ensures.value (is-place c.args.write.loc ps c.args.at at).within

pub invariant_of-self : goal.invariant_of-self
invariant_of-self c =
    let ps = c.self.inside.ring.items in
    let at : last_place c.args.write.loc ps ≡ Some c.args.at = subst (λ z. last_place c.args.write.loc z ≡ Some c.args.at) (sym c.self.view_is) c.requires in
    let few = c.self.invariant.0 in
    let same : length (set ps c.args.at c.args.write) ≡ length ps = length-set ps c.args.at c.args.write in (
      omega arith,
      c.self.invariant.1,
      is_counted-set ps c.self.inside.counts c.args.at c.args.write at c.self.invariant.2,
      apart-set ps c.args.at c.args.write at c.self.invariant.3,
    )

pub returns : goal.returns
returns c =
    let ps = c.self.inside.ring.items in
    let at : last_place c.args.write.loc ps ≡ Some c.args.at = subst (λ z. last_place c.args.write.loc z ≡ Some c.args.at) (sym c.self.view_is) c.requires in
    sym ((is-place c.args.write.loc ps c.args.at at).replaced c.args.write refl) ∙ ap (replaced c.args.write) c.self.view_is
