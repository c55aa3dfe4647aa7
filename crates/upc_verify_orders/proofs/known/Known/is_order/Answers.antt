use Rattle.std.proofs.Common.{◌<◌, ℕ, rules, List, length, ap, sym, ◌∙◌, subst}
use Rattle.std.proofs.lemmas.Bool.{false≢true}
use Rattle.upc_values.specs.Lists.{Each, Pairwise}
use Rattle.upc_values.specs.Operations.{Operation}
use Rattle.upc_values.specs.Consistent.{ReadsLast, KeepsProgram}
use Rattle.upc_verify_orders.specs.declared.part.Part.TheVariants.{Shown}
use Rattle.upc_verify_orders.specs.code.Found.{AreSorted, AreFound, HasNoOrder, IsPartFound, taken}
use Rattle.upc_verify_orders.specs.layer.Numbers.{AreKnown, firsts_in}
use Rattle.upc_verify_orders.specs.code.Orders.{IsOrderFound}
use Rattle.upc_verify_orders.proofs.Taken.{names-below, same-taken}
use Rattle.upc_verify_orders.proofs.known.Known.is_order.Goals as goal

pub order_of-requires : goal.order_of-requires
order_of-requires c = subst AreSorted (sym c.as_slice-operations.ensures.value) c.requires.known.sorted

pub returns-in-None : goal.returns-in-None
returns-in-None c = λ initial e. (
  λ q. absurd (false≢true q),
  λ f.
      let ops = c.as_slice-operations.result.now in
      let g = subst (λ (l : List Operation). IsOrderFound initial l c.args.strict.now c.args.thread c.args.names.now) (sym c.as_slice-operations.ensures.value) f in
      let none : HasNoOrder (Shown c.args.thread) ops c.args.names.now = search rules in
      absurd (none (taken ops g.at) g.found.found.named g.found.whole),
)

pub reads_last-requires-clause-within : goal.reads_last-requires-clause-within
reads_last-requires-clause-within c =
    let ops = c.as_slice-operations.result.now in
    let given : IsPartFound (Shown c.args.thread) c.as_slice-operations.result.now c.args.names.now c.in-Some.at.items = search rules in
    let found = subst (AreFound ops c.args.names.now) (sym c.as_slice-at.ensures.value) given.found in
    found.within

pub reads_last-requires-clause-numbered : goal.reads_last-requires-clause-numbered
reads_last-requires-clause-numbered c =
    let known =
    subst (λ (l : List ℕ). AreKnown c.as_slice-operations.result.now l) (sym c.as_slice-numbers.ensures.value)
    (subst (λ (l : List Operation). AreKnown l c.args.self.now.numbers.items) (sym c.as_slice-operations.ensures.value) c.requires.known) in
    known.numbered

pub reads_last-requires-clause-even : goal.reads_last-requires-clause-even
reads_last-requires-clause-even c = c.requires.even ∙ ap length (sym c.as_slice-operations.ensures.value)

pub returns-then-not-reads : goal.returns-then-not-reads
returns-then-not-reads c = λ initial e. (
  λ q. absurd (false≢true q),
  λ f.
      let ops = c.as_slice-operations.result.now in
      let given : IsPartFound (Shown c.args.thread) c.as_slice-operations.result.now c.args.names.now c.in-Some.at.items = search rules in
      let is = c.as_slice-operations.ensures.value in
      let sorted = subst AreSorted (sym is) c.requires.known.sorted in
      let g = subst (λ (l : List Operation). IsOrderFound initial l c.args.strict.now c.args.thread c.args.names.now) (sym is) f in
      let found = subst (AreFound ops c.args.names.now) (sym c.as_slice-at.ensures.value) given.found in
      let same = same-taken ops sorted c.args.names.now g.at c.as_slice-at.result.now g.found.found found in
      let r = c.in_ok-reads.ensures initial (e ∙ ap (firsts_in initial) (sym is)) in
      absurd (false≢true (sym c.if-not-reads.true ∙ r.1 (subst (ReadsLast initial) same g.values))),
)

pub keeps_program_order-requires-clause-found : goal.keeps_program_order-requires-clause-found
keeps_program_order-requires-clause-found c =
    let given : IsPartFound (Shown c.args.thread) c.as_slice-operations.result.now c.args.names.now c.in-Some.at.items = search rules in
    subst (AreFound c.as_slice-operations.result.now c.args.names.now) (sym c.as_slice-at.ensures.value) given.found

pub keeps_program_order-requires-clause-numbered : goal.keeps_program_order-requires-clause-numbered
keeps_program_order-requires-clause-numbered c =
    let known =
    subst (λ (l : List ℕ). AreKnown c.as_slice-operations.result.now l) (sym c.as_slice-numbers.ensures.value)
    (subst (λ (l : List Operation). AreKnown l c.args.self.now.numbers.items) (sym c.as_slice-operations.ensures.value) c.requires.known) in
    known.numbered

pub returns-then-not-keeps : goal.returns-then-not-keeps
returns-then-not-keeps c = λ initial e. (
  λ q. absurd (false≢true q),
  λ f.
      let ops = c.as_slice-operations.result.now in
      let given : IsPartFound (Shown c.args.thread) c.as_slice-operations.result.now c.args.names.now c.in-Some.at.items = search rules in
      let is = c.as_slice-operations.ensures.value in
      let sorted = subst AreSorted (sym is) c.requires.known.sorted in
      let g = subst (λ (l : List Operation). IsOrderFound initial l c.args.strict.now c.args.thread c.args.names.now) (sym is) f in
      let found = subst (AreFound ops c.args.names.now) (sym c.as_slice-at.ensures.value) given.found in
      let same = same-taken ops sorted c.args.names.now g.at c.as_slice-at.result.now g.found.found found in
      absurd (false≢true (sym c.if-not-keeps.true ∙ c.in_ok-keeps.ensures.1 (subst (Pairwise (KeepsProgram c.args.thread)) same g.program))),
)

pub walk-requires-clause-below : goal.walk-requires-clause-below
walk-requires-clause-below c =
    let ops = c.as_slice-operations.result.now in
    let given : IsPartFound (Shown c.args.thread) c.as_slice-operations.result.now c.args.names.now c.in-Some.at.items = search rules in
    let found = subst (AreFound ops c.args.names.now) (sym c.as_slice-at.ensures.value) given.found in
    names-below ops c.args.names.now c.as_slice-at.result.now (length c.args.tables.now) found
    (subst (λ (l : List Operation). Each (λ o. o.thread < length c.args.tables.now) l) (sym c.as_slice-operations.ensures.value) c.requires.below)

pub returns : goal.returns
returns c = λ initial e. (
  λ q.
      let ops = c.as_slice-operations.result.now in
      let given : IsPartFound (Shown c.args.thread) c.as_slice-operations.result.now c.args.names.now c.in-Some.at.items = search rules in
      let is = c.as_slice-operations.ensures.value in
      let found = subst (IsPartFound (Shown c.args.thread) ops c.args.names.now) (sym c.as_slice-at.ensures.value) given in
      let r = c.in_ok-reads.ensures initial (e ∙ ap (firsts_in initial) (sym is)) in
      let whole : IsOrderFound initial ops c.args.strict.now c.args.thread c.args.names.now =
      record {
        at = c.as_slice-at.result.now;
        found = found;
        values = r.0 c.if-not-reads.false;
        program = c.in_ok-keeps.ensures.0 c.if-not-keeps.false;
        walked = c.walk.ensures.0 q;
      } in
      subst (λ (l : List Operation). IsOrderFound initial l c.args.strict.now c.args.thread c.args.names.now) is whole,
  λ f. c.walk.ensures.1 f.walked,
)
