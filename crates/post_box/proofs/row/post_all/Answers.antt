use Rattle.std.proofs.Common.{rules, ◌≡◌, ◌-◌, ◌<◌, ℕ, suc, length, length-set, get_or, sym, subst, ◌∙◌, arith}
use Rattle.std.proofs.lemmas.List.{get_or_default}
use Rattle.post_box.specs.layer.Boxes.{work_of, IsIdle, WaitsFor}
use Rattle.post_box.proofs.Rows.{popped, set-at}
use Rattle.post_box.proofs.row.post_all.Goals as goal

pub post-requires-clause-item : goal.post-requires-clause-item
post-requires-clause-item g c =
    let inv = c.loop-at.invariant in let at = c.loop-at.at in let t : ℕ = at - 1 in let ks = c.args.items.now.items in let bs = c.args.boxes.now in
    let up : at ≡ suc t = (let a = c.loop-at-test.true in omega arith) in
    let lt : at < length ks = omega (arith, c.requires.many.1, inv.few) in
    let tl : t < length bs = omega (arith, inv.few, up) in
    let cut = popped ks c.loop-at.items.items c.pop.new.self.items c.in-Some.item at t up inv.left (search rules) lt in
    subst (g.W.Work.takes (work_of c.index-boxes-at.result)) (sym (cut.1 c.in-Some.item))
    (subst (λ b. g.W.Work.takes (work_of b) (get_or ks (suc t) c.in-Some.item)) (sym c.index-boxes-at.is) (c.requires.items t c.index-boxes-at.result c.in-Some.item tl))

pub loop-at-preserved : goal.loop-at-preserved
loop-at-preserved g c =
    let inv = c.loop-at.invariant in let at = c.loop-at.at in let t : ℕ = at - 1 in let ks = c.args.items.now.items in let bs = c.args.boxes.now in
    let os = c.loop-at.owners in let n = c.post.new.owner in
    let up : at ≡ suc t = (let a = c.loop-at-test.true in omega arith) in
    let lt : at < length ks = omega (arith, c.requires.many.1, inv.few) in
    let tl : t < length bs = omega (arith, inv.few, up) in
    let ol : t < length os = omega (arith, tl, inv.many) in
    let cut = popped ks c.loop-at.items.items c.pop.new.self.items c.in-Some.item at t up inv.left (search rules) lt in
    record {
      few = omega (arith, inv.few);
      many = length-set os t n ∙ inv.many;
      left = cut.0;
      room = search rules;
      idle = λ i b o l. set-at (λ j m. IsIdle (get_or bs j b) m) os t i n o ol (λ ne. inv.idle i b o (omega (arith, l, up))) (λ q. absurd (omega (arith, l, q)));
      out = λ i b o x low l. set-at (λ j m. WaitsFor (get_or bs j b) m (get_or ks (suc j) x)) os t i n o ol
          (λ ne. inv.out i b o x (omega (arith, low, up, ne)) l)
          (λ q. subst (WaitsFor (get_or bs t b) n) (cut.1 x)
          (subst (λ (y : Rattle.post_box.specs.declared.post.PostBox.PostBox g.row.W.Denot g.row.W-Item.Denot). WaitsFor y n c.in-Some.item) (c.index-boxes-at.is ∙ get_or_default bs t c.index-boxes-at.result b tl) c.post.ensures));
    }

pub returns-clause-out : goal.returns-clause-out
returns-clause-out g c = λ i b o x l. c.loop-at.invariant.out i b o x (let a = c.loop-at-test.false in omega arith) l
