use Rattle.std.proofs.Common.{◌≡◌, ◌<◌, [], ◌∷◌, ◌+◌, map, length, sym, ap, ◌∙◌, arith}
use Rattle.std.proofs.lemmas.Grind.{common_steps}
use Rattle.std.proofs.lemmas.List.{length-append, length-map}
use Rattle.upc_types.specs.View.{view}
use Rattle.upc_types.specs.Cells.{number_of}
use Rattle.upc_types.proofs.Numbers.{last}
use Rattle.upc_types.proofs.Coded.{noted_old, noted_new}
use Rattle.upc_types.proofs.targets.Targets.note.Goals as goal

pub returns-then-number-count-clause-below : goal.returns-then-number-count-clause-below
returns-then-number-count-clause-below c = grind (arith, common_steps, length-map c.args.self.now.list.items view)

pub returns-then-number-count-clause-ok : goal.returns-then-number-count-clause-ok
returns-then-number-count-clause-ok c =
    let old = map view c.args.self.now.list.items in
    let b : c.number_of-number.result < length old = grind (arith, common_steps, length-map c.args.self.now.list.items view) in
    let less : number_of old (view c.args.target.now) < length old = omega (arith, b, c.number_of-number.ensures.value) in
    sym (noted_old old (view c.args.target.now) less)

pub add-requires : goal.add-requires
add-requires c =
    let old = map view c.args.self.now.list.items in
    let n : c.number_of-number.result ≡ length old = grind (arith, common_steps, length-map c.args.self.now.list.items view) in
    record { new = sym c.number_of-number.ensures.value ∙ n }

pub returns-clause-number : goal.returns-clause-number
returns-clause-number c =
    let old = map view c.args.self.now.list.items in
    let t = view c.args.target.now in
    let n : c.number_of-number.result ≡ length old = grind (arith, common_steps, length-map c.args.self.now.list.items view) in
    n ∙ sym (last old t (sym c.number_of-number.ensures.value ∙ n)) ∙ sym (ap (λ xs. number_of xs t) c.in_ok-add.ensures.ok)

pub returns-clause-below : goal.returns-clause-below
returns-clause-below c =
    let old = map view c.args.self.now.list.items in
    let t = view c.args.target.now in
    let n : c.number_of-number.result ≡ length old = grind (arith, common_steps, length-map c.args.self.now.list.items view) in
    let e : length (map view c.add.new.self.list.items) ≡ length old + 1 = ap length c.in_ok-add.ensures.ok ∙ length-append old (t ∷ []) in
    omega (arith, n, e)

pub returns-clause-ok : goal.returns-clause-ok
returns-clause-ok c =
    let old = map view c.args.self.now.list.items in
    let t = view c.args.target.now in
    let n : c.number_of-number.result ≡ length old = grind (arith, common_steps, length-map c.args.self.now.list.items view) in
    c.in_ok-add.ensures.ok ∙ sym (noted_new old t (sym c.number_of-number.ensures.value ∙ n))
