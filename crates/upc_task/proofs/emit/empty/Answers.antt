use Rattle.std.proofs.Common.{◌++◌, [], ◌∷◌, map, sym, subst, ap, ◌∙◌, append_assoc}
use Rattle.write_buffer.specs.layer.Buffer.{committed}
use Rattle.upc_task.specs.layer.Kept.{AreFormed}
use Rattle.upc_task.proofs.Buffers.{grew-then, pending-grow}
use Rattle.upc_task.proofs.emit.empty.Goals as goal

pub loop-oldest-preserved : goal.loop-oldest-preserved
loop-oldest-preserved c =
    let o = c.args.world.now.0 in let t = c.args.thread in let h = c.loop-oldest.invariant in let s = c.in_ok-commit.ensures in
    let p = c.in-Some.oldest in let q = c.take_oldest.new.self in let mid = c.loop-oldest.world.1 in
    let moved = c.in-Some.ensures.moved in
    let formed : AreFormed o mid (p ∷ q) = subst (AreFormed o mid) moved h.formed in
    record {
      all = ap (λ l. l ++ map (committed t) q) s.one ∙ append_assoc mid (committed t p ∷ []) (map (committed t) q)
          ∙ ap (λ l. mid ++ map (committed t) l) (sym moved) ∙ h.all;
      formed = subst (λ l. AreFormed o l q) (sym s.one) (pending-grow o mid (committed t p ∷ []) q formed.1);
      opening = s.opening ∙ h.opening;
      grew = grew-then t c.args.world.now.1 mid c.commit.new.world.1 s.grew h.grew;
    }
