use Rattle.std.proofs.Common.{◌≡◌, ◌<◌, Bool, length, map, rules, List, ℕ, sym, ◌∙◌, subst}
use Rattle.std.proofs.lemmas.Bool.{false≢true}
use Rattle.upc_values.specs.Lists.{Each, Has}
use Rattle.upc_values.specs.Operations.{Operation}
use Rattle.upc_values.specs.Orders.{name_of}
use Rattle.upc_values.specs.Consistent.{IsOrderOf}
use Rattle.upc_verify_orders.specs.layer.Parts.{IsPartOf}
use Rattle.upc_verify_orders.specs.code.Found.{AreFound, AreApart, IsMarked, taken}
use Rattle.upc_verify_orders.proofs.Taken.{none-found, none-twice, none-other, none-missing, whole-from}
use Rattle.upc_verify_orders.proofs.order.order_of.Goals as goal

pub returns-in-None : goal.returns-in-None
returns-in-None c =
    let ops = c.args.operations.now in
    let none : (list : List Operation) → map name_of list ≡ c.args.names.now → Each (Has ops) list → ⊥ = search rules in
    none-found c.args.part ops c.requires c.args.names.now none

pub marked-requires : goal.marked-requires
marked-requires c =
    let given : AreFound c.args.operations.now c.args.names.now c.in-Some.found.items = search rules in
    subst (λ (l : List ℕ). Each (λ i. i < length c.args.operations.now) l) (sym c.as_slice-at.ensures.value) given.within

pub returns-in-None-2 : goal.returns-in-None-2
returns-in-None-2 c =
    let ops = c.args.operations.now in
    let at = c.as_slice-at.result.now in
    let given : AreFound c.args.operations.now c.args.names.now c.in-Some.found.items = search rules in
    let found : AreFound ops c.args.names.now at = subst (AreFound ops c.args.names.now) (sym c.as_slice-at.ensures.value) given in
    let apart : AreApart at → ⊥ = search rules in
    none-twice c.args.part ops c.requires c.args.names.now at found apart

pub has_only-requires : goal.has_only-requires
has_only-requires c =
    let given : AreFound c.args.operations.now c.args.names.now c.in-Some.found.items = search rules in
    subst (λ (l : List ℕ). Each (λ i. i < length c.args.operations.now) l) (sym c.as_slice-at.ensures.value) given.within

pub returns-then-not-has_only : goal.returns-then-not-has_only
returns-then-not-has_only c =
    let ops = c.args.operations.now in
    let at = c.as_slice-at.result.now in
    let given : AreFound c.args.operations.now c.args.names.now c.in-Some.found.items = search rules in
    let found : AreFound ops c.args.names.now at = subst (AreFound ops c.args.names.now) (sym c.as_slice-at.ensures.value) given in
    none-other c.args.part ops c.requires c.args.names.now at found
    (λ each. false≢true (sym c.if-not-has_only.true ∙ c.has_only.ensures.1 each))

pub has_all-requires : goal.has_all-requires
has_all-requires c =
    let marks-given : IsMarked (length c.args.operations.now) c.as_slice-at.result.now c.in-Some-2.made.items = search rules in
    subst (λ (l : List Bool). length l ≡ length c.args.operations.now) (sym c.as_slice-marks.ensures.value) marks-given.length_is

pub returns-then-not-has_all : goal.returns-then-not-has_all
returns-then-not-has_all c =
    let ops = c.args.operations.now in
    let at = c.as_slice-at.result.now in
    let marks = c.as_slice-marks.result.now in
    let given : AreFound c.args.operations.now c.args.names.now c.in-Some.found.items = search rules in
    let found : AreFound ops c.args.names.now at = subst (AreFound ops c.args.names.now) (sym c.as_slice-at.ensures.value) given in
    let marks-given : IsMarked (length c.args.operations.now) c.as_slice-at.result.now c.in-Some-2.made.items = search rules in
    let marked : IsMarked (length ops) at marks = subst (IsMarked (length ops) at) (sym c.as_slice-marks.ensures.value) marks-given in
    none-missing c.args.part ops c.requires c.args.names.now at found marks marked
    (λ all. false≢true (sym c.if-not-has_all.true ∙ c.has_all.ensures.1 all))

pub returns : goal.returns
returns c =
    let ops = c.args.operations.now in
    let at = c.as_slice-at.result.now in
    let marks = c.as_slice-marks.result.now in
    let given : AreFound c.args.operations.now c.args.names.now c.in-Some.found.items = search rules in
    let found : AreFound ops c.args.names.now at = subst (AreFound ops c.args.names.now) (sym c.as_slice-at.ensures.value) given in
    let marks-given : IsMarked (length c.args.operations.now) c.as_slice-at.result.now c.in-Some-2.made.items = search rules in
    let marked : IsMarked (length ops) at marks = subst (IsMarked (length ops) at) (sym c.as_slice-marks.ensures.value) marks-given in
    record {
      found = given;
      whole =
          subst (λ (l : List ℕ). IsOrderOf (IsPartOf c.args.part ops) (taken ops l)) c.as_slice-at.ensures.value
          (whole-from c.args.part ops c.requires c.args.names.now at found marks marked
          (c.has_only.ensures.0 c.if-not-has_only.false) (c.has_all.ensures.0 c.if-not-has_all.false));
    }
