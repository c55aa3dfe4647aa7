use Rattle.std.proofs.Common.{◌≡◌, ℕ, ◌+◌, ◌<◌, ◌==◌, ◌&&◌, ◌++◌, [], ◌∷◌, cond, Some, List, length, get_or, sym, ap, ◌∙◌, subst, arith}
use Rattle.std.proofs.lemmas.List.{get_or_read}
use Rattle.upc_values.specs.Scalars.{same_loc}
use Rattle.replica_space.specs.declared.message.Message.{Message}
use Rattle.replica_space_copies.specs.layer.Copies.{CopiesState, threads_of, letters, written}
use Rattle.replica_space_copies.proofs.Stepping.{box-back, room-kept, sent-kept}
use Rattle.replica_space_copies.proofs.copies.Copies.send.Goals as goal

pub invariant_of-self-in_err-send : goal.invariant_of-self-in_err-send
invariant_of-self-in_err-send c =
    let i = c.self.inside in
    let was : CopiesState = record { clocks = i.clocks.items; boxes = i.boxes.items; held = i.held; waiting = i.waiting; writes = i.writes } in
    let a = c.self.invariant in
    let at : c.args.thread < threads_of was = subst (λ (s : CopiesState). c.args.thread < threads_of s) (sym c.self.view_is) c.requires in
    let within : c.args.thread < length i.boxes.items = omega (arith, a.many) in
    room-kept was _ c.reserve.new.self a
    (box-back i.boxes.items c.args.thread c.send.new.self c.index_mut-outbox.result.now within c.index_mut-outbox.ensures.value c.in_err-send.ensures.kept)
    c.reserve.ensures.same c.reserve.ensures.room

pub invariant_of-self-2 : goal.invariant_of-self-2
invariant_of-self-2 c =
    let i = c.self.inside in
    let was : CopiesState = record { clocks = i.clocks.items; boxes = i.boxes.items; held = i.held; waiting = i.waiting; writes = i.writes } in
    let a = c.self.invariant in
    let t = c.args.thread in
    let m : Message = written c.args.index c.args.loc c.args.value (record { clock = c.index.result.now + 1; thread = t }) in
    let at : t < threads_of was = subst (λ (s : CopiesState). t < threads_of s) (sym c.self.view_is) c.requires in
    let within : t < length i.boxes.items = omega (arith, a.many) in
    let box : c.index_mut-outbox.result.now ≡ get_or i.boxes.items t [] =
    get_or_read i.boxes.items t c.index_mut-outbox.result.now within c.index_mut-outbox.ensures.value [] in
    let count = c.in_ok-waiting.ensures in
    let len = c.len.ensures in
    let same = i.clocks.ok.0 in
    let room = c.in_ok-reserve.ensures.ok in
    let less = c.put.ensures.room in
    sent-kept was m c.send.new.self c.put.new.self _ a at
    (subst (λ (b : List (List Message)). (to : ℕ) → to < length b → letters to c.send.new.self ≡ cond (to == t) [] (letters to b ++ m ∷ [])) box c.in_ok-send.ensures.sent)
    (λ u l. c.put.ensures.put u l ∙ ap (cond ((u == t) && same_loc m.loc l) (Some m)) (c.reserve.ensures.same u l))
    (c.in_ok-send.ensures.many ∙ ap length box)
    (ap (λ n. n + 1) (get_or_read i.clocks.items t c.index.result.now at c.index.ensures 0))
    (omega arith)
    (omega arith)
