use Rattle.std.proofs.Common.{◌≡◌, ◌<◌, [], length, get_or, sym, ◌∙◌, refl, arith}
use Rattle.std.proofs.lemmas.List.{get_or_default, length-set}
use Rattle.upc_verify_stalls.specs.declared.walk.Watch.{Watch}
use Rattle.upc_verify_stalls.specs.code.Watches.{IsDue, IsLooked}
use Rattle.upc_verify_stalls.proofs.Watching.{due-same, looked-same, set-before, set-after}
use Rattle.upc_verify_stalls.proofs.walk.look_all.Goals as goal

abbrev none : Watch
none = record { passed = 0; justified = 0 }

pub loop-thread-init : goal.loop-thread-init
loop-thread-init c =
    let h = c.requires.due in
    record {
      many = h.many;
      looked = λ t d lt. absurd (omega arith);
      due = λ t d le lt. h.each t d lt;
    }

pub look-watch-requires-clause-due : goal.look-watch-requires-clause-due
look-watch-requires-clause-due c =
    let o = c.args.world.now.0 in
    let front = c.args.world.now.1 in
    let points = c.args.points.now in
    let k = c.loop-thread.thread in
    let ws = c.loop-thread.watches in
    let lt : k < length points = omega arith in
    let same : c.as_slice.result.now ≡ get_or points k [] =
    c.as_slice.ensures ∙ c.index-points-number.is ∙ get_or_default points k c.index-points-number.result [] lt in
    due-same o k (get_or points k []) c.as_slice.result.now front (get_or ws k none) (get_or ws k none) (sym same) refl
    (c.loop-thread.invariant.due k none (omega arith) lt)

pub loop-thread-preserved : goal.loop-thread-preserved
loop-thread-preserved c =
    let o = c.args.world.now.0 in
    let front = c.args.world.now.1 in
    let points = c.args.points.now in
    let k = c.loop-thread.thread in
    let ws = c.loop-thread.watches in
    let w = c.look-watch.result in
    let inv = c.loop-thread.invariant in
    let lt : k < length points = omega arith in
    let within : k < length ws = let m = inv.many in omega arith in
    let same : c.as_slice.result.now ≡ get_or points k [] =
    c.as_slice.ensures ∙ c.index-points-number.is ∙ get_or_default points k c.index-points-number.result [] lt in
    let here : IsLooked o k (get_or points k []) front w =
    looked-same o k c.as_slice.result.now (get_or points k []) front w w same refl c.look-watch.ensures in
    record {
      many = length-set ws k w ∙ inv.many;
      looked = set-before (λ t v. IsLooked o t (get_or points t []) front v) ws k w within inv.looked here;
      due = set-after (λ t v. IsDue o t (get_or points t []) front v) (length points) ws k w inv.due;
    }

pub returns : goal.returns
returns c =
    let inv = c.loop-thread.invariant in
    record {
      many = inv.many;
      each = λ t d lt. inv.looked t d (omega arith);
    }
