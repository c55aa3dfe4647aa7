use Rattle.std.proofs.Common.{◌≡◌, ◌↔◌, ◌<◌, ℕ, [], Option, IsTrue, List, length, get_or, ap, sym, ◌∙◌, subst}
use Rattle.std.specs.Prelude.{MatchOption}
use Rattle.std.proofs.lemmas.Bool.{false≢true}
use Rattle.std.proofs.lemmas.List.FromFn.{length-map-range_with_len}
use Rattle.block_layout.specs.declared.place.Loc.{Loc}
use Rattle.upc_values.specs.declared.scalar.Scalar.{Scalar}
use Rattle.upc_values.specs.declared.order.Op.{Op}
use Rattle.upc_values.specs.Lists.{Each}
use Rattle.upc_values.specs.Operations.{Operation}
use Rattle.upc_verify_orders.specs.declared.table.Point.{Point}
use Rattle.upc_verify_orders.specs.code.Below.{operations_below}
use Rattle.upc_verify_orders.specs.layer.Numbers.{firsts_in}
use Rattle.upc_verify_orders.specs.code.Orders.{IsStrictFound, IsOrderFound, FirstBroken}
use Rattle.upc_verify_orders.specs.code.Tables.{tables, points}
use Rattle.upc_verify_orders.proofs.Deciding.{breaks-first, judged, each-below}
use Rattle.upc_verify_orders.proofs.verdict.broken_order.Goals as goal

-- what the walks over the thread orders answer
abbrev Answer : (Loc → Scalar) → Option ℕ → List Operation → List Op → List (List Op) → Type 0
Answer initial broken ops strict threads =
    MatchOption broken ((t : ℕ) → t < length threads → IsOrderFound initial ops strict t (get_or threads t []))
    (FirstBroken initial ops strict threads)

-- tables of so many threads are so many
many-tables : (found : List (List Point)) (threads : ℕ) (strict : List Op) → found ≡ tables threads strict → length found ≡ threads
many-tables found threads strict e = ap length e ∙ length-map-range_with_len (λ t. points t 0 strict) 0 threads

pub is_strict_list-requires-clause-below : goal.is_strict_list-requires-clause-below
is_strict_list-requires-clause-below c =
    let j = c.args.journal.now in
    subst (λ (l : List Operation). Each (λ o. o.thread < j.threads) l) (sym c.in_ok-known.ensures.operations) (each-below j j.threads)

pub returns-then-not-listed : goal.returns-then-not-listed
returns-then-not-listed c = λ initial e.
    let j = c.args.journal.now in
    let found : IsTrue c.in_ok-listed.listed ↔ IsStrictFound (operations_below j j.threads) c.args.orders.now.strict =
    subst (λ (l : List Op). IsTrue c.in_ok-listed.listed ↔ IsStrictFound (operations_below j j.threads) l) c.as_slice-strict.ensures
    (subst (λ (l : List Operation). IsTrue c.in_ok-listed.listed ↔ IsStrictFound l c.as_slice-strict.result.now) c.in_ok-known.ensures.operations c.in_ok-listed.ensures) in
    breaks-first j c.args.orders.now initial c.requires.some (λ f. false≢true (sym c.if-not-listed.true ∙ found.1 f))

pub first_broken-requires-clause-below : goal.first_broken-requires-clause-below
first_broken-requires-clause-below c =
    let j = c.args.journal.now in
    let strict = c.as_slice-strict.result.now in
    let many = many-tables c.as_slice.result.now j.threads strict (c.as_slice.ensures.value ∙ c.in_ok-tables.ensures) in
    subst (λ (n : ℕ). Each (λ o. o.thread < n) c.in_ok-known.known.operations.items) (sym many)
    (subst (λ (l : List Operation). Each (λ o. o.thread < j.threads) l) (sym c.in_ok-known.ensures.operations) (each-below j j.threads))

pub first_broken-requires-clause-tables : goal.first_broken-requires-clause-tables
first_broken-requires-clause-tables c =
    let j = c.args.journal.now in
    let strict = c.as_slice-strict.result.now in
    let is : c.as_slice.result.now ≡ tables j.threads strict = c.as_slice.ensures.value ∙ c.in_ok-tables.ensures in
    is ∙ ap (λ (n : ℕ). tables n strict) (sym (many-tables c.as_slice.result.now j.threads strict is))

pub returns : goal.returns
returns c = λ initial e.
    let j = c.args.journal.now in
    let ops = operations_below j j.threads in
    let found : IsStrictFound ops c.args.orders.now.strict =
    subst (IsStrictFound ops) c.as_slice-strict.ensures
    (subst (λ (l : List Operation). IsStrictFound l c.as_slice-strict.result.now) c.in_ok-known.ensures.operations
    (c.in_ok-listed.ensures.0 c.if-not-listed.false)) in
    let broken = c.in_ok-broken.broken in
    let told : Answer initial broken c.in_ok-known.known.operations.items c.as_slice-strict.result.now c.as_slice-2.result.now =
    c.in_ok-broken.ensures initial (e ∙ ap (firsts_in initial) (sym c.in_ok-known.ensures.operations)) in
    judged j c.args.orders.now initial broken c.requires.many found
    (subst (λ (l : List (List Op)). Answer initial broken ops c.args.orders.now.strict l) c.as_slice-2.ensures
    (subst (λ (l : List Op). Answer initial broken ops l c.as_slice-2.result.now) c.as_slice-strict.ensures
    (subst (λ (l : List Operation). Answer initial broken l c.as_slice-strict.result.now c.as_slice-2.result.now) c.in_ok-known.ensures.operations told)))
