use Rattle.std.proofs.Common.{◌≡◌, ℕ, ◌<◌, List, length, get_or, sym, ap, ◌∙◌, subst, arith}
use Rattle.std.specs.Vec.{with_items}
use Rattle.std.proofs.lemmas.List.{with_items_is}
use Rattle.replica_space.specs.Spaces.{greatest, met}
use Rattle.replica_space_copies.specs.layer.Copies.{CopiesState, threads_of, space_of}
use Rattle.replica_space_copies.specs.layer.Same.{IsSame}
use Rattle.replica_space_copies.specs.code.Sound.{AreCopies}
use Rattle.replica_space_copies.proofs.Stepping.{with_clocks, met-is, met-kept}
use Rattle.replica_space_copies.proofs.copies.Copies.meet.Goals as goal

pub invariant_of-self : goal.invariant_of-self
invariant_of-self c =
    let i = c.self.inside in
    let v = i.clocks in
    let new = c.meet.new.clocks in
    let was : CopiesState = record { clocks = v.items; boxes = i.boxes.items; held = i.held; waiting = i.waiting; writes = i.writes } in
    let many : length new ≡ v.len = omega (arith, c.meet.auto.clocks, ap length c.deref_mut.ensures.value, v.ok.0) in
    let raised : (t : ℕ) → t < length v.items → get_or new t 0 ≡ greatest (length v.items) (λ u. get_or v.items u 0) =
    subst (λ (xs : List ℕ). (t : ℕ) → t < length xs → get_or new t 0 ≡ greatest (length xs) (λ u. get_or xs u 0)) c.deref_mut.ensures.value c.meet.ensures in
    subst (λ (ks : List ℕ). AreCopies (with_clocks was ks)) (sym (with_items_is v new many))
    (met-kept was new c.self.invariant (many ∙ v.ok.0) raised)

pub returns-clause-met : goal.returns-clause-met
returns-clause-met c =
    let i = c.self.inside in
    let v = i.clocks in
    let new = c.meet.new.clocks in
    let was : CopiesState = record { clocks = v.items; boxes = i.boxes.items; held = i.held; waiting = i.waiting; writes = i.writes } in
    let many : length new ≡ v.len = omega (arith, c.meet.auto.clocks, ap length c.deref_mut.ensures.value, v.ok.0) in
    let raised : (t : ℕ) → t < length v.items → get_or new t 0 ≡ greatest (length v.items) (λ u. get_or v.items u 0) =
    subst (λ (xs : List ℕ). (t : ℕ) → t < length xs → get_or new t 0 ≡ greatest (length xs) (λ u. get_or xs u 0)) c.deref_mut.ensures.value c.meet.ensures in
    subst (λ (s : CopiesState). IsSame (threads_of s) (space_of (with_clocks was (with_items v new).items)) (met (threads_of s) (space_of s))) c.self.view_is
    (subst (λ (ks : List ℕ). IsSame (threads_of was) (space_of (with_clocks was ks)) (met (threads_of was) (space_of was))) (sym (with_items_is v new many))
    (met-is was new raised))
