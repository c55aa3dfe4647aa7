use Rattle.std.proofs.Common.{length-append}
use Rattle.std.proofs.lemmas.Int.{to_z-of_z}
use mir.Syntax.{w128}
use mir.Val.{SFits}
use Rattle.std.proofs.Common.{◌≡◌, ◌+◌, ◌<◌, ◌≤◌, ℤ, List, [], ◌∷◌, ◌++◌, length, drop, map, ap, ◌∙◌, subst, arith, rules}
use Rattle.std.specs.Prelude.{IfOk, IfErr}
use Rattle.collectives.proofs.EachElement.{number_next}
use Rattle.collectives.proofs.EachElement.{numbers_end}
use Rattle.collectives.proofs.Members.{all-at}
use Rattle.collectives.specs.code.Elements.{HasPlace}
use Rattle.collectives.specs.layer.Left.{NumbersLeft}
use Rattle.collectives.specs.layer.Left.{numbers_rest}
use Rattle.collectives.specs.layer.Left.{permuted}
use Rattle.upc_library.specs.layer.Spots.{pointer_of}
use Rattle.collectives.specs.layer.Walks.{work_left}
use Rattle.collectives.specs.layer.Wishes.{RefusesSo}
use Rattle.upc_values.specs.Expansion.{Expansion}
use Rattle.upc_values.specs.Expansion.{after_reply}
use Rattle.collectives.proofs.permute.Numbers.take.Goals as goal

pub invariant_of-result : goal.invariant_of-result
invariant_of-result c =
    let s = c.self.inside in
    let lt : s.at < length s.elements.items = search rules in
    let fits : SFits w128 c.value.result = search rules in
    let pushed = simp to_z-of_z at c.in_ok-push.ensures.items in
    record {
      small = c.self.invariant.small;
      room = all-at HasPlace s.elements.items s.at _ c.self.invariant.rooms lt c.index.ensures;
      rooms = c.self.invariant.rooms;
      read = omega (arith, simp length-append at (ap length pushed), c.self.invariant.read);
      inside = omega arith;
      few = c.self.invariant.few;
    }

pub returns-then-at-len-clause-rest : goal.returns-then-at-len-clause-rest
returns-then-at-len-clause-rest c =
    let s = c.self.inside in
    let t = c.args.thread.now in
    let r = c.args.reply.now in
    let go : List ℤ → Expansion (Unit {0}) = λ vs. permuted t.threads t.shapes.now t.number s.dst s.src s.bytes vs in
    let lt : s.at < length s.elements.items = search rules in
    let fits : SFits w128 c.value.result = search rules in
    let pushed = simp to_z-of_z at c.in_ok-push.ensures.items in
    let same = c.value.ensures ∙ c.number_in.ensures in
    subst (λ (l : NumbersLeft). numbers_rest t.threads t.shapes.now t.number (record {
      dst = s.dst;
      src = s.src;
      bytes = s.bytes;
      came = c.push.new.self.items;
      element = pointer_of c.index.result.now;
      elements = map pointer_of (drop (s.at + 1) s.elements.items);
    }) ≡ after_reply (numbers_rest t.threads t.shapes.now t.number l) r) c.self.view_is
    (number_next go s.came.items c.push.new.self.items (pointer_of s.element) s.elements.items s.at r
    (pushed ∙ ap (λ (z : ℤ). s.came.items ++ z ∷ []) same) _ lt c.index.ensures)

pub permute_by-requires : goal.permute_by-requires
permute_by-requires c =
    let s = c.self.inside in
    let fits : SFits w128 c.value.result = search rules in
    let pushed = simp to_z-of_z at c.in_ok-push.ensures.items in
    omega (arith, simp length-append at (ap length pushed), ap length c.as_slice.ensures.value, c.self.invariant.read, c.self.invariant.inside, c.self.invariant.few)

pub returns-clause-rest : goal.returns-clause-rest
returns-clause-rest c =
    let s = c.self.inside in
    let t = c.args.thread.now in
    let r = c.args.reply.now in
    let go : List ℤ → Expansion (Unit {0}) = λ vs. permuted t.threads t.shapes.now t.number s.dst s.src s.bytes vs in
    let le : length s.elements.items ≤ s.at = search rules in
    let fits : SFits w128 c.value.result = search rules in
    let pushed = simp to_z-of_z at c.in_ok-push.ensures.items in
    let same = c.value.ensures ∙ c.number_in.ensures in
    subst (λ (l : NumbersLeft). IfOk c.permute_by.result (λ o. work_left t.threads t.shapes.now t.number o ≡ after_reply (numbers_rest t.threads t.shapes.now t.number l) r)) c.self.view_is
    (subst (λ x. IfOk c.permute_by.result (λ o. work_left t.threads t.shapes.now t.number o ≡ x))
    (ap go c.as_slice.ensures.value
    ∙ numbers_end go s.came.items c.push.new.self.items (pointer_of s.element) s.elements.items s.at r (pushed ∙ ap (λ (z : ℤ). s.came.items ++ z ∷ []) same) le)
    c.permute_by.ensures.made)

pub returns-clause-refused : goal.returns-clause-refused
returns-clause-refused c =
    let s = c.self.inside in
    let t = c.args.thread.now in
    let r = c.args.reply.now in
    let go : List ℤ → Expansion (Unit {0}) = λ vs. permuted t.threads t.shapes.now t.number s.dst s.src s.bytes vs in
    let le : length s.elements.items ≤ s.at = search rules in
    let fits : SFits w128 c.value.result = search rules in
    let pushed = simp to_z-of_z at c.in_ok-push.ensures.items in
    let same = c.value.ensures ∙ c.number_in.ensures in
    subst (λ (l : NumbersLeft). IfErr c.permute_by.result (λ e. RefusesSo e (after_reply (numbers_rest t.threads t.shapes.now t.number l) r))) c.self.view_is
    (subst (λ x. IfErr c.permute_by.result (λ e. RefusesSo e x))
    (ap go c.as_slice.ensures.value
    ∙ numbers_end go s.came.items c.push.new.self.items (pointer_of s.element) s.elements.items s.at r (pushed ∙ ap (λ (z : ℤ). s.came.items ++ z ∷ []) same) le)
    c.permute_by.ensures.refused)
