use Rattle.std.proofs.Common.{◌≡◌, false, List, map, subst, ap, ◌∙◌, refl, arith, rules}
use Rattle.std.specs.Option.{option_copied}
use Rattle.upc_values.specs.declared.record.Item.{Item}
use Rattle.upc_verify_stalls.specs.code.Points.{waiting_of}
use Rattle.upc_verify_stalls.specs.code.Searches.{IsAt}
use Rattle.upc_verify_stalls.specs.declared.points.Search.{Search}
use Rattle.upc_verify_stalls.proofs.Pointing.{at-start}
use Rattle.upc_verify_stalls.proofs.points.points_of.Goals as goal

pub loop-item-init : goal.loop-item-init
loop-item-init c =
    let s : Search = record { points = c.new.result; place = 0; number = 0; stalled = false } in
    let is : c.into_iter-item-iterator.result ≡ c.args.items.now =
    first_of (cc (c.into_iter-item-iterator.ensures.into_iter_gives, c.iter-item-items.ensures.rest), search rules) in
    record {
      ready = record { within = omega arith; less = λ i d lt. absurd (omega arith) };
      at = λ t out. at-start t (option_copied c.args.want) c.args.items.now c.into_iter-item-iterator.result s is refl refl
          c.new.ensures.items c.requires;
    }

pub loop-item-preserved : goal.loop-item-preserved
loop-item-preserved c =
    let want = option_copied c.args.want in
    record {
      ready = c.in_ok-pass.ensures.ready;
      at = λ t out. c.in_ok-pass.ensures.passed t want c.args.items.now c.next.new.self out
          (subst (λ (l : List Item). IsAt t want c.args.items.now l c.loop-item.search) c.in-Some.ensures.steps
          (c.loop-item.invariant.at t out));
    }

pub returns : goal.returns
returns c = λ t out.
    let want = option_copied c.args.want in
    ap (map waiting_of) c.from_vec.ensures
    ∙ c.in_ok-close.ensures t c.args.items.now out
    (subst (λ (l : List Item). IsAt t want c.args.items.now l c.loop-item.search) c.in-None.ensures.steps.0
    (c.loop-item.invariant.at t out))
