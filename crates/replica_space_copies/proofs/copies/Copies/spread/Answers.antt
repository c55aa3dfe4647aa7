use Rattle.std.proofs.Common.{◌≡◌, ℕ, ◌+◌, ◌<◌, List, length, get_or, sym, ap, ◌∙◌, subst, arith}
use Rattle.std.proofs.lemmas.List.{with_items_is}
use Rattle.replica_space.specs.declared.message.Message.{Message}
use Rattle.replica_space_copies.specs.layer.Copies.{CopiesState, MaySpread, written}
use Rattle.replica_space_copies.specs.code.Sound.{AreCopies}
use Rattle.replica_space_copies.proofs.Stepping.{with_write, spread-kept}
use Rattle.replica_space_copies.proofs.copies.Copies.spread.Goals as goal

pub invariant_of-self : goal.invariant_of-self
invariant_of-self c =
    let i = c.self.inside in
    let v = i.clocks in
    let new = c.raise.new.clocks in
    let held = c.put_in_each.new.self in
    let was : CopiesState = record { clocks = v.items; boxes = i.boxes.items; held = i.held; waiting = i.waiting; writes = i.writes } in
    let m : Message = written c.args.index c.args.loc c.args.value (record { clock = c.index.result.now + 1; thread = c.args.thread }) in
    let many : length new ≡ v.len = omega (arith, c.raise.auto.clocks, ap length c.deref_mut.ensures.value, v.ok.0) in
    let raised : (t : ℕ) → t < length v.items → get_or new t 0 ≡ get_or v.items t 0 + 1 =
    subst (λ (xs : List ℕ). (t : ℕ) → t < length xs → get_or new t 0 ≡ get_or xs t 0 + 1) c.deref_mut.ensures.value c.raise.ensures in
    let may : MaySpread was = subst MaySpread (sym c.self.view_is) c.requires.room in
    let threads = c.len-threads.ensures in
    let same = v.ok.0 in
    subst (λ (ks : List ℕ). AreCopies (with_write was ks held)) (sym (with_items_is v new many))
    (spread-kept was new held m c.self.invariant (many ∙ v.ok.0) raised (λ t l h. c.put_in_each.ensures.put t l (omega arith))
    (omega (arith, may.room, c.self.invariant.room, c.put_in_each.ensures.room)))
