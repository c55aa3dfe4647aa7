use Rattle.std.proofs.Common.{◌≡◌, ℕ, ◌+◌, ◌-◌, ◌<◌, ◌==◌, [], cond, Some, List, length, drop, get_or, slice_get, refl, sym, ap, ◌∙◌, subst, arith}
use Rattle.std.specs.Vec.{with_items}
use Rattle.std.proofs.lemmas.List.{with_items_is, get_or_read}
use Rattle.replica_space.specs.declared.message.Message.{Message}
use Rattle.replica_space.specs.Spaces.{greater, received}
use Rattle.replica_space_copies.specs.layer.Copies.{CopiesState, threads_of, space_of, letters, IsSteady}
use Rattle.replica_space_copies.specs.layer.Same.{IsSame}
use Rattle.replica_space_copies.specs.code.Sound.{AreCopies}
use Rattle.replica_space_copies.proofs.Stepping.{some-waits, with_taken, taken-is, taken-kept}
use Rattle.replica_space_copies.proofs.copies.Copies.deliver.Goals as goal

-- the box of a sender, as the code finds it
box-at : (s : CopiesState) (from : ℕ) (x : List (List Message)) → AreCopies s → from < threads_of s → x ≡ get_or s.boxes from x → x ≡ get_or s.boxes from []
box-at s from x a h e = get_or_read s.boxes from x (omega (arith, a.many)) e []

-- a message waits where one is found
found : (s now : CopiesState) (to from : ℕ) (m : Message) (x : List (List Message)) → AreCopies s → s ≡ now → to < threads_of now → from < threads_of now
    → x ≡ get_or s.boxes from x → Some m ≡ slice_get (letters to x) 0 → 0 < s.waiting
found s now to from m x a v h k e f =
    let in_to : to < threads_of s = subst (λ (r : CopiesState). to < threads_of r) (sym v) h in
    let in_from : from < threads_of s = subst (λ (r : CopiesState). from < threads_of r) (sym v) k in
    some-waits s to from m a in_to in_from (f ∙ ap (λ (b : List (List Message)). slice_get (letters to b) 0) (box-at s from x a in_from e))

pub overflow_sub-self : goal.overflow_sub-self
overflow_sub-self c =
    let i = c.self.inside in
    let was : CopiesState = record { clocks = i.clocks.items; boxes = i.boxes.items; held = i.held; waiting = i.waiting; writes = i.writes } in
    let some = found was c.args.self.now c.args.to c.args.from c.in-Some.message c.index_mut-outbox.result.now c.self.invariant c.self.view_is c.requires.to c.requires.from c.index_mut-outbox.ensures.value c.in-Some.ensures.oldest in
    omega (arith, some)

pub come-requires : goal.come-requires
come-requires c =
    let i = c.self.inside in
    let was : CopiesState = record { clocks = i.clocks.items; boxes = i.boxes.items; held = i.held; waiting = i.waiting; writes = i.writes } in
    let some = found was c.args.self.now c.args.to c.args.from c.in-Some.message c.index_mut-outbox.result.now c.self.invariant c.self.view_is c.requires.to c.requires.from c.index_mut-outbox.ensures.value c.in-Some.ensures.oldest in
    omega (arith, some, c.self.invariant.room)

pub invariant_of-self-2 : goal.invariant_of-self-2
invariant_of-self-2 c =
    let i = c.self.inside in
    let v = i.clocks in
    let new = c.raise_to.new.clocks in
    let to = c.args.to in
    let from = c.args.from in
    let m = c.in-Some.message in
    let x = c.index_mut-outbox.result.now in
    let was : CopiesState = record { clocks = v.items; boxes = i.boxes.items; held = i.held; waiting = i.waiting; writes = i.writes } in
    let a : AreCopies was = c.self.invariant in
    let some = found was c.args.self.now to from m x a c.self.view_is c.requires.to c.requires.from c.index_mut-outbox.ensures.value c.in-Some.ensures.oldest in
    let in_to : to < threads_of was = subst (λ (r : CopiesState). to < threads_of r) (sym c.self.view_is) c.requires.to in
    let in_from : from < threads_of was = subst (λ (r : CopiesState). from < threads_of r) (sym c.self.view_is) c.requires.from in
    let box : x ≡ get_or was.boxes from [] = box-at was from x a in_from c.index_mut-outbox.ensures.value in
    let many : length new ≡ v.len = omega (arith, c.raise_to.auto.clocks, ap length c.deref_mut.ensures.value, v.ok.0) in
    let clock : (u : ℕ) → get_or new u 0 ≡ cond (u == to) (greater (get_or v.items u 0) m.stamp.clock) (get_or v.items u 0) =
    subst (λ (xs : List ℕ). (u : ℕ) → get_or new u 0 ≡ cond (u == to) (greater (get_or xs u 0) m.stamp.clock) (get_or xs u 0)) c.deref_mut.ensures.value c.raise_to.ensures in
    let less = c.come.ensures.room in
    let room = a.room in
    subst (λ (ks : List ℕ). AreCopies (with_taken was ks from c.take.new.self c.come.new.self (i.waiting - 1))) (sym (with_items_is v new many))
    (taken-kept was new to from c.take.new.self c.come.new.self (i.waiting - 1) m a in_to in_from
    (c.in-Some.ensures.oldest ∙ ap (λ (b : List (List Message)). slice_get (letters to b) 0) box)
    clock
    (subst (λ (b : List (List Message)). (u : ℕ) → letters u c.take.new.self ≡ cond (u == to) (drop 1 (letters u b)) (letters u b)) box c.in-Some.ensures.taken)
    c.come.ensures.come
    (many ∙ v.ok.0) (c.in-Some.ensures.many ∙ ap length box) (omega (arith, some)) (omega arith))

pub returns-clause-steady : goal.returns-clause-steady
returns-clause-steady c =
    let i = c.self.inside in
    let v = i.clocks in
    let new = c.raise_to.new.clocks in
    let was : CopiesState = record { clocks = v.items; boxes = i.boxes.items; held = i.held; waiting = i.waiting; writes = i.writes } in
    let a : AreCopies was = c.self.invariant in
    let some = found was c.args.self.now c.args.to c.args.from c.in-Some.message c.index_mut-outbox.result.now a c.self.view_is c.requires.to c.requires.from c.index_mut-outbox.ensures.value c.in-Some.ensures.oldest in
    let many : length new ≡ v.len = omega (arith, c.raise_to.auto.clocks, ap length c.deref_mut.ensures.value, v.ok.0) in
    let less = c.come.ensures.room in
    let room = a.room in
    subst (λ (s : CopiesState). IsSteady s (with_taken was (with_items v new).items c.args.from c.take.new.self c.come.new.self (i.waiting - 1))) c.self.view_is
    (record { many = ap length (with_items_is v new many) ∙ many ∙ v.ok.0; writes = refl; room = omega (arith, some) })

pub returns-clause-fewer : goal.returns-clause-fewer
returns-clause-fewer c =
    let i = c.self.inside in
    let was : CopiesState = record { clocks = i.clocks.items; boxes = i.boxes.items; held = i.held; waiting = i.waiting; writes = i.writes } in
    let some = found was c.args.self.now c.args.to c.args.from c.in-Some.message c.index_mut-outbox.result.now c.self.invariant c.self.view_is c.requires.to c.requires.from c.index_mut-outbox.ensures.value c.in-Some.ensures.oldest in
    let back : i.waiting - 1 + 1 ≡ i.waiting = omega (arith, some) in
    back ∙ ap (λ (s : CopiesState). s.waiting) c.self.view_is

pub returns-clause-received : goal.returns-clause-received
returns-clause-received c =
    let i = c.self.inside in
    let v = i.clocks in
    let new = c.raise_to.new.clocks in
    let to = c.args.to in
    let from = c.args.from in
    let m = c.in-Some.message in
    let x = c.index_mut-outbox.result.now in
    let was : CopiesState = record { clocks = v.items; boxes = i.boxes.items; held = i.held; waiting = i.waiting; writes = i.writes } in
    let a : AreCopies was = c.self.invariant in
    let in_to : to < threads_of was = subst (λ (r : CopiesState). to < threads_of r) (sym c.self.view_is) c.requires.to in
    let in_from : from < threads_of was = subst (λ (r : CopiesState). from < threads_of r) (sym c.self.view_is) c.requires.from in
    let box : x ≡ get_or was.boxes from [] = box-at was from x a in_from c.index_mut-outbox.ensures.value in
    let many : length new ≡ v.len = omega (arith, c.raise_to.auto.clocks, ap length c.deref_mut.ensures.value, v.ok.0) in
    let clock : (u : ℕ) → get_or new u 0 ≡ cond (u == to) (greater (get_or v.items u 0) m.stamp.clock) (get_or v.items u 0) =
    subst (λ (xs : List ℕ). (u : ℕ) → get_or new u 0 ≡ cond (u == to) (greater (get_or xs u 0) m.stamp.clock) (get_or xs u 0)) c.deref_mut.ensures.value c.raise_to.ensures in
    subst (λ (s : CopiesState). IsSame (threads_of s) (space_of (with_taken was (with_items v new).items from c.take.new.self c.come.new.self (i.waiting - 1)))
    (received to from ((space_of s).mail to from) (space_of s))) c.self.view_is
    (subst (λ (ks : List ℕ). IsSame (threads_of was) (space_of (with_taken was ks from c.take.new.self c.come.new.self (i.waiting - 1)))
    (received to from ((space_of was).mail to from) (space_of was))) (sym (with_items_is v new many))
    (taken-is was new to from c.take.new.self c.come.new.self (i.waiting - 1) m a in_to in_from
    (c.in-Some.ensures.oldest ∙ ap (λ (b : List (List Message)). slice_get (letters to b) 0) box)
    clock
    (subst (λ (b : List (List Message)). (u : ℕ) → letters u c.take.new.self ≡ cond (u == to) (drop 1 (letters u b)) (letters u b)) box c.in-Some.ensures.taken)
    c.come.ensures.come))
