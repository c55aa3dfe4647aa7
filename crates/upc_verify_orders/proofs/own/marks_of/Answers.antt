use Rattle.std.proofs.Common.{◌≡◌, ◌<◌, false, length, get_or, ap, sym, ◌∙◌, subst, eq-eqb, arith}
use Rattle.std.proofs.lemmas.Bool.{ne_eqb}
use Rattle.std.proofs.lemmas.List.{get_or_default}
use Rattle.upc_values.specs.declared.order.Op.{Op}
use Rattle.upc_values.specs.Lists.{Each}
use Rattle.upc_values.specs.Operations.{Operation}
use Rattle.upc_values.specs.Orders.{name_of}
use Rattle.upc_values.proofs.Lists.{each-push}
use Rattle.upc_verify_orders.specs.declared.program.Mark.{Mark}
use Rattle.upc_verify_orders.specs.code.Found.{nothing}
use Rattle.upc_verify_orders.specs.code.Program.{IsMark}
use Rattle.upc_verify_orders.proofs.Taken.{found-at, found-within, has-get}
use Rattle.upc_verify_orders.proofs.Numbering.{number-at, number-found, used-by}
use Rattle.upc_verify_orders.proofs.Building.{mark-more, mark-skip}
use Rattle.upc_verify_orders.proofs.own.marks_of.Goals as goal
use Rattle.upc_verify_orders.proofs.own.marks_of.Goals.{then-name-thread+in_ok-push, else-name-thread}

none : Op
none = record { thread = 0; index = 0; write = false }

pub loop-i-preserved : goal.loop-i-preserved
unfolding none
loop-i-preserved c =
    let ops = c.args.operations.now in
    let names = c.args.names.now in
    let at = c.args.at.now in
    let i = c.loop-i.i in
    let lt = c.loop-i-test.true in
    let t = c.args.thread in
    let k = get_or at i 0 in
    let here : Operation = get_or ops k nothing in
    let name : Op = get_or names i none in
    let found = c.requires.found in
    let within : k < length ops = found-within ops names at i 0 found lt in
    let named : name_of here ≡ name = found-at ops names at i 0 none found lt in
    let thread : here.thread ≡ name.thread = ap (λ (n : Op). n.thread) named in
    let place = number-at ops c.args.numbers.now k 0 within c.requires.numbered in
    elim c.if-name-thread.branch [
      | then-name-thread+in_ok-push w ↦
          let strict : w.is_strict.result ≡ here.strict =
          w.is_strict.ensures ∙ ap (λ (o : Operation). o.strict) (w.index-operations-number.is ∙ get_or_default ops k _ nothing within) in
          let mark : Mark = record { rank = w.rank_of.result; strict = w.is_strict.result; write = name.write; place = get_or c.args.numbers.now k 0 } in
          let small = w.rank_of.ensures.few in
          let inside : get_or c.args.numbers.now k 0 < length ops =
          subst (λ n. n < length ops) (sym place) (number-found ops here.place (used-by ops here (has-get ops k nothing within))).0 in
          let is = ap (λ v. v.items) w.list-is in
          record {
            marks =
                is ∙ mark-more ops names at found t i 0 lt c.loop-i.list.items w.push.new.self.items name w.rank_of.result w.is_strict.result (get_or c.args.numbers.now k 0)
                c.loop-i.invariant.marks named w.if-name-thread.true (eq-eqb here.thread t (thread ∙ w.if-name-thread.true)) w.rank_of.ensures.rank strict place w.in_ok-push.ensures.items;
            fit =
                subst (Each (IsMark (length ops))) (sym (is ∙ w.in_ok-push.ensures.items))
                (each-push (IsMark (length ops)) c.loop-i.list.items mark c.loop-i.invariant.fit (inside, omega (arith, small)));
          }
      | else-name-thread w ↦
          let is = ap (λ v. v.items) w.list-is in
          record {
            marks = is ∙ mark-skip ops names at found t i 0 lt c.loop-i.list.items c.loop-i.invariant.marks (ne_eqb here.thread t (λ e. w.if-name-thread.false (sym thread ∙ e)));
            fit = subst (Each (IsMark (length ops))) (sym is) c.loop-i.invariant.fit;
          }
    ]
