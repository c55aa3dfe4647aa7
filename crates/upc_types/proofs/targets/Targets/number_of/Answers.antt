use Rattle.std.proofs.Common.{◌≡◌, ◌<◌, ◌≤◌, true, false, map, length, get_or, sym, ap, ◌∙◌, subst, arith}
use Rattle.std.proofs.lemmas.Grind.{common_steps}
use Rattle.std.proofs.lemmas.List as lists
use Rattle.std.proofs.lemmas.List.{length-map}
use Rattle.std.proofs.Math.ListN.{get_or-map}
use Rattle.upc_types.specs.View.{view}
use Rattle.upc_types.specs.Cells.{alike}
use Rattle.upc_types.specs.code.TypeCodes.{code_of}
use Rattle.upc_types.specs.code.Targets.{codes_of}
use Rattle.upc_types.specs.layer.Places.{place_below}
use Rattle.upc_types.proofs.PlacesOfNumbers.{IsAt, is_at, up_to, falls}
use Rattle.upc_types.proofs.Coded.{unlike_from, unlike_more, number_at, none_alike}
use Rattle.upc_types.proofs.targets.Targets.number_of.Goals as goal

pub loop-at-init : goal.loop-at-init
loop-at-init c =
    let numbers = c.args.self.now.places.numbers.items in
    let ts = map view c.args.self.now.list.items in
    let t = view c.args.target.now in
    let o = c.last-at.result in
    let same : length numbers ≤ length numbers = omega arith in
    let all : length ts ≤ length ts = omega arith in
    let h : o ≡ place_below numbers (code_of t) (length numbers) = c.last-at.ensures ∙ ap (λ n. place_below numbers n (length numbers)) c.code_of.ensures in
    let k : o ≡ place_below (codes_of ts) (code_of t) (length ts) =
    h ∙ ap (λ xs. place_below xs (code_of t) (length xs)) c.args.self.now.coded ∙ ap (place_below (codes_of ts) (code_of t)) (length-map ts code_of) in
    record {
      at = is_at numbers (code_of t) (length numbers) o same h;
      rest = unlike_from ts t (length ts) o all k;
    }

pub returns-then-alike-clause-value : goal.returns-then-alike-clause-value
returns-then-alike-clause-value c =
    let xs = c.args.self.now.list.items in
    let ts = map view xs in
    let t = view c.args.target.now in
    let place = c.in-Some.place in
    let r = c.index.result.now in
    let at = subst (IsAt c.args.self.now.places.numbers.items (code_of t)) c.in-Some.is c.loop-at.invariant.at in
    let below : place < length ts = omega (arith, at.0, ap length c.args.self.now.coded, length-map ts code_of) in
    let is : get_or ts place (view r) ≡ view r = get_or-map view xs place r ∙ ap view (sym c.index.ensures) in
    let same : alike (get_or ts place (view r)) t ≡ true = ap (λ x. alike x t) is ∙ sym c.alike.ensures ∙ c.if-alike.true in
    number_at ts t (view r) place c.args.self.now.apart below same

pub loop-at-smaller : goal.loop-at-smaller
loop-at-smaller c =
    let numbers = c.args.self.now.places.numbers.items in
    falls numbers (get_or numbers c.in-Some.place 0) c.in-Some.place c.loop-at.at c.before-at.result c.in-Some.is c.before-at.ensures

pub loop-at-preserved : goal.loop-at-preserved
loop-at-preserved c =
    let numbers = c.args.self.now.places.numbers.items in
    let xs = c.args.self.now.list.items in
    let ts = map view xs in
    let t = view c.args.target.now in
    let place = c.in-Some.place in
    let r = c.index.result.now in
    let o = c.before-at.result in
    let at = subst (IsAt numbers (code_of t)) c.in-Some.is c.loop-at.invariant.at in
    let below : place < length ts = omega (arith, at.0, ap length c.args.self.now.coded, length-map ts code_of) in
    let under : place < length xs = omega (arith, below, length-map xs view) in
    let low : place ≤ length numbers = omega (arith, at.0) in
    let e : o ≡ place_below numbers (code_of t) place = c.before-at.ensures ∙ ap (λ n. place_below numbers n place) at.1 in
    let f : o ≡ place_below (codes_of ts) (code_of t) place = e ∙ ap (λ ns. place_below ns (code_of t) place) c.args.self.now.coded in
    let other : alike (view r) t ≡ false = sym c.alike.ensures ∙ c.if-alike.false in
    record {
      at = is_at numbers (code_of t) place o low e;
      rest = unlike_more ts t place o c.loop-at.at below c.in-Some.is f
          (λ d. ap (λ x. alike x t) (lists.get_or-map view xs place r d under ∙ ap view (sym c.index.ensures)) ∙ other)
          c.loop-at.invariant.rest;
    }

pub returns-in-None-clause-value : goal.returns-in-None-clause-value
returns-in-None-clause-value c =
    let xs = c.args.self.now.list.items in
    let ts = map view xs in
    let n : c.len.result ≡ length ts = grind (arith, common_steps, c.len.ensures, length-map xs view) in
    let u : up_to c.loop-at.at ≡ 0 = ap up_to c.in-None.is in
    n ∙ sym (none_alike ts (view c.args.target.now) (λ i d h. c.loop-at.invariant.rest i d (omega (arith, u)) h))
