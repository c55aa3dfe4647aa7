use Rattle.std.proofs.Common.{rules, ◌≡◌, suc, List, length, get_or, sym, subst, arith}
use Rattle.upc_rounds_teams.specs.declared.place.Place.{Place}
use Rattle.post_box.specs.layer.Boxes.{WaitsFor}
use Rattle.upc_rounds.specs.code.Posts.{MayPlay}
use Rattle.upc_rounds.proofs.Handing.{takes-for, first-of}
use Rattle.upc_rounds.proofs.all.round_all.Goals as goal

pub post_all-requires-clause-items : goal.post_all-requires-clause-items
post_all-requires-clause-items g c = λ i b x lt.
    takes-for c.args.cell.now c.args.code.now (get_or c.args.boxes.now i b) (get_or c.args.places.now.items (suc i) x) (c.requires.staff.work i b lt)
    (c.requires.kept (suc i) x (let m = c.requires.staff.many in omega (arith, lt, m)))

pub play-requires-clause-kept : goal.play-requires-clause-kept
play-requires-clause-kept g c κs within =
    let ks = c.args.places.now.items in let x = c.index_mut.result.now in
    subst (MayPlay c.args.cell.now c.args.code.now) (sym (first-of ks c.post_all.new.items.items (length c.args.boxes.now) x c.requires.staff.many c.post_all.ensures.left (search rules)))
    (c.requires.kept 0 x (let m = c.requires.staff.many in omega (arith, m)))

pub gather-requires-clause-out : goal.gather-requires-clause-out
gather-requires-clause-out g c κs within = λ i b o x lt.
    let was : c.of-was.result.value.items ≡ c.args.places.now.items = search rules in
    subst (λ (l : List Place). WaitsFor (get_or c.args.boxes.now i b) (get_or c.post_all.new.owners i o) (get_or l (suc i) x)) (sym was) (c.post_all.ensures.out i b o x lt)

pub gather-requires-clause-kept : goal.gather-requires-clause-kept
gather-requires-clause-kept g c κs within = λ i k lt.
    let was : c.of-was.result.value.items ≡ c.args.places.now.items = search rules in
    subst (λ (l : List Place). MayPlay c.args.cell.now c.args.code.now (get_or l (suc i) k)) (sym was) (c.requires.kept (suc i) k (let m = c.requires.staff.many in omega (arith, lt, m)))
