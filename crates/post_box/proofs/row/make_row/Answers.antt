use Rattle.std.proofs.Common.{rules, ◌≡◌, ◌∷◌, ◌++◌, [], length, sym, subst, ap, ◌∙◌, length-append, arith}
use Rattle.post_box.specs.layer.Boxes.{work_of, IsIdle, IsFree}
use Rattle.post_box.specs.layer.Rows.{AreFor, AreIdle, AreFree}
use Rattle.post_box.proofs.Rows.{snoc-both}
use Rattle.post_box.proofs.row.make_row.Goals as goal

pub loop-preserved : goal.loop-preserved
loop-preserved g c =
    let inv = c.loop.invariant in let made = c.in_ok-post in let e = made.ensures in
    let bs = c.loop.boxes.items in let os = c.loop.owners.items in let ds = c.loop.doers.items in
    let b-is : c.push.new.self.items ≡ bs ++ made.post ∷ [] = search rules in
    let o-is : c.push-in-loop.new.self.items ≡ os ++ made.owner ∷ [] = search rules in
    let d-is : c.push-in-loop-2.new.self.items ≡ ds ++ made.doer ∷ [] = search rules in
    record {
      many = ap length b-is ∙ omega (arith, length-append bs (made.post ∷ []), inv.many);
      owned = ap length o-is ∙ omega (arith, length-append os (made.owner ∷ []), ap length b-is, length-append bs (made.post ∷ []), inv.owned);
      done = ap length d-is ∙ omega (arith, length-append ds (made.doer ∷ []), ap length b-is, length-append bs (made.post ∷ []), inv.done);
      work = subst (AreFor c.args.work.now) (sym b-is) (λ i b lt. snoc-both (λ x y. work_of x ≡ c.args.work.now) bs bs made.post made.post (λ i. length bs) (λ j x y l. inv.work j x l) e.work i b b lt);
      idle = subst (λ l. AreIdle l c.push-in-loop.new.self.items) (sym b-is) (subst (AreIdle (bs ++ made.post ∷ [])) (sym o-is) (snoc-both IsIdle bs os made.post made.owner inv.owned inv.idle e.places.0));
      free = subst (λ l. AreFree l c.push-in-loop-2.new.self.items) (sym b-is) (subst (AreFree (bs ++ made.post ∷ [])) (sym d-is) (snoc-both IsFree bs ds made.post made.doer inv.done inv.free e.places.1));
    }
