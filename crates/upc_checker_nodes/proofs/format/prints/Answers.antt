use Rattle.std.proofs.Common.{◌≡◌, ◌+◌, true, [], map, drop, get_or, sym, ap, ◌∙◌, arith}
use Rattle.std.proofs.lemmas.List.{drop_more, at_drop_all, drop-map}
use Rattle.typing_rules.specs.declared.format.Awaits.TheVariants.{Anything}
use Rattle.typed_tree.specs.ViewTree.{attr_seen}
use Rattle.typing_rules.specs.Format as pure
use Rattle.typing_rules.specs.Attributes.{base}
use Rattle.upc_checker_nodes.proofs.Arguments.{one_less, goes, printed, anything_is, used_up}
use Rattle.upc_checker_nodes.proofs.format.prints.Goals as goal
use Rattle.upc_checker_nodes.proofs.format.prints.Goals.{in-Goes, in-Prints+else-not-takes}

pub loop-b-preserved : goal.loop-b-preserved
loop-b-preserved c =
    let i = c.loop-b.b-index in
    let fs = c.args.format.now in
    let b = get_or fs i 0 in
    let tail = drop (i + 1) fs in
    let xs = map attr_seen (drop c.loop-b.used c.args.args.now) in
    let bs = map base xs in
    let n = drop_more fs i 0 (omega arith) in
    let now = c.loop-b.invariant.rest ∙ ap (λ l. pure.prints_by (pure.conversions c.loop-b.state l) bs) n in
    elim c.match-step.branch [
      | in-Goes w ↦ record {
        rest =
            rw (w.state-is, w.used-is) (now
            ∙ goes c.loop-b.state w.in-Goes.next b tail bs (sym c.step.ensures ∙ w.in-Goes.is));
        few = omega (arith, w.used-is, c.loop-b.invariant.few);
      }
      | in-Prints+else-not-takes w ↦
          let fits : pure.takes w.in-Prints.p bs ≡ true = cc (w.takes.ensures, w.if-not-takes.false) in
          let less = drop-map base 1 xs ∙ ap (map base) (one_less attr_seen c.args.args.now c.loop-b.used) in
          record {
            rest =
                rw (w.state-is, w.used-is) (now
                ∙ printed c.loop-b.state w.in-Prints.p b tail bs (sym c.step.ensures ∙ w.in-Prints.is) fits
                ∙ ap (pure.prints_by (pure.conversions Anything tail)) less);
            few = omega (arith, w.used-is, c.loop-b.invariant.few);
          }
    ]

pub returns-then-is_anything : goal.returns-then-is_anything
returns-then-is_anything c =
    let xs = c.args.args.now in
    let u = c.loop-b.used in
    let bs = map base (map attr_seen (drop u xs)) in
    let s = anything_is c.loop-b.state (sym c.is_anything.ensures ∙ c.if-is_anything.true) in
    let done = c.loop-b.invariant.rest
    ∙ at_drop_all (λ l. pure.prints_by
    (pure.conversions c.loop-b.state l) bs) c.args.format.now c.loop-b.b-index (omega arith)
    ∙ ap (λ t. pure.prints_by (pure.conversions t []) bs) s in
    sym (done ∙ used_up base attr_seen xs u)
