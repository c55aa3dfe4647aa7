use Rattle.std.proofs.Common.{◌<◌, List, rules, sym, subst}
use Rattle.std.proofs.lemmas.Bool.{false≢true}
use Rattle.upc_values.specs.Lists.{Each}
use Rattle.upc_values.specs.Operations.{Operation}
use Rattle.upc_verify_orders.specs.declared.part.Part.TheVariants.{Strict}
use Rattle.upc_verify_orders.specs.code.Found.{HasNoOrder, IsPartFound, taken}
use Rattle.upc_verify_orders.specs.code.Orders.{IsStrictFound}
use Rattle.upc_verify_orders.proofs.Taken.{names-below}
use Rattle.upc_verify_orders.proofs.known.Known.is_strict_list.Goals as goal

pub returns-in-None : goal.returns-in-None
returns-in-None c = (
  λ q. absurd (false≢true q),
  λ f.
      let here : HasNoOrder Strict c.as_slice.result.now c.args.strict.now = search rules in
      let none = subst (λ (l : List Operation). HasNoOrder Strict l c.args.strict.now) c.as_slice.ensures.value here in
      absurd (none (taken c.args.self.now.operations.items f.at) f.found.found.named f.found.whole),
)

pub keeps_program-requires : goal.keeps_program-requires
keeps_program-requires c =
    let ops = c.as_slice.result.now in
    let given : IsPartFound Strict ops c.args.strict.now c.in-Some.found.items = search rules in
    names-below ops c.args.strict.now c.in-Some.found.items c.args.threads given.found
    (subst (λ (l : List Operation). Each (λ o. o.thread < c.args.threads) l) (sym c.as_slice.ensures.value) c.requires.below)

pub returns : goal.returns
returns c =
    let ops = c.as_slice.result.now in
    let given : IsPartFound Strict ops c.args.strict.now c.in-Some.found.items = search rules in (
      λ q.
          let whole : IsStrictFound ops c.args.strict.now =
          record { at = c.in-Some.found.items; found = given; kept = c.in_ok-kept.ensures.names.0 q } in
          subst (λ (l : List Operation). IsStrictFound l c.args.strict.now) c.as_slice.ensures.value whole,
      λ f. c.in_ok-kept.ensures.names.1 f.kept,
    )
