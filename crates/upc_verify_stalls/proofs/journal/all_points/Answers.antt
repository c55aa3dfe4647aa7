use Rattle.std.proofs.Common.{◌≡◌, ◌<◌, ◌+◌, [], Option, None, Bor, length, get_or, map, sym, ap, subst, ◌∙◌, arith}
use Rattle.std.proofs.lemmas.List.{get_or_default, length_push}
use Rattle.std.specs.Option.{option_copied}
use Rattle.upc_values.specs.declared.action.Action.{Action}
use Rattle.upc_values.specs.Orders.{record_of}
use Rattle.upc_values.specs.Strands.{StallsStand}
use Rattle.upc_verify_stalls.specs.code.Points.{waiting_of, waitings}
use Rattle.upc_verify_stalls.specs.layer.Wants.{want_of}
use Rattle.upc_verify_stalls.proofs.Threads.{points-more}
use Rattle.upc_verify_stalls.proofs.journal.all_points.Goals as goal

pub thread_points-requires-clause-stalls : goal.thread_points-requires-clause-stalls
thread_points-requires-clause-stalls c =
    let j = c.args.journal.now in
    let wants = c.args.wants.now in
    let k = c.loop-thread.thread in
    let lt : k < length wants = omega arith in
    let same : c.index-wants-thread.result ≡ get_or wants k None =
    c.index-wants-thread.is ∙ get_or_default wants k c.index-wants-thread.result None lt in
    subst (λ (w : Option (Bor Action)). StallsStand (option_copied w) (record_of j k)) (sym same) (c.requires.stalls k (omega arith))

pub loop-thread-preserved : goal.loop-thread-preserved
loop-thread-preserved c =
    let j = c.args.journal.now in
    let wants = c.args.wants.now in
    let k = c.loop-thread.thread in
    let inv = c.loop-thread.invariant in
    let before = c.loop-thread.points.items in
    let found = c.in_ok-found.found in
    let lt : k < length wants = omega arith in
    let same : c.index-wants-thread.result ≡ get_or wants k None =
    c.index-wants-thread.is ∙ get_or_default wants k c.index-wants-thread.result None lt in
    let here : map waiting_of found ≡ waitings k (want_of wants k) [] (record_of j k) =
    c.in_ok-found.ensures ∙ ap (λ (w : Option (Bor Action)). waitings k (option_copied w) [] (record_of j k)) same in
    record {
      many = ap length c.in_ok-push.ensures.items ∙ length_push before found ∙ ap (λ n. n + 1) inv.many;
      each = points-more j wants before c.push.new.self.items found k c.in_ok-push.ensures.items inv.many inv.each here;
    }

pub returns : goal.returns
returns c =
    let inv = c.loop-thread.invariant in
    record {
      many = let m = inv.many in omega arith;
      each = λ t lt. inv.each t (omega arith);
    }
