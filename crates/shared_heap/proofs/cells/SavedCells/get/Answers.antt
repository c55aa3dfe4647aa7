use Rattle.std.proofs.Common.{FitsSigned, rules, sym, ap, ◌∙◌}
use Rattle.std.proofs.lemmas.Int.{to_z-of_z}
use Rattle.std.specs.Int.{w128}
use Rattle.std.specs.Option.{option_map}
use Rattle.upc_values.specs.declared.scalar.Scalar.TheVariants.{Int, Shared, Lock}
use Rattle.upc_values.specs.Openings.{given}
use Rattle.shared_heap.specs.code.Cells.{found}
use Rattle.shared_heap.proofs.ByLocation.{or, given-all}
use Rattle.shared_heap.proofs.cells.SavedCells.get.Goals as goal

pub returns-in-Some : goal.returns-in-Some
returns-in-Some c =
    let l = c.args.loc in
    let i = c.self.inside in
    let fits : FitsSigned w128 c.in-Some.value = search rules in
    simp to_z-of_z
    (ap (λ a. or (option_map Int a) (or (option_map Shared (found l i.pointers)) (option_map Lock (found l i.locks)))) c.in-Some.ensures
    ∙ sym (given-all l i.integers i.pointers i.locks) ∙ ap (given l) c.self.view_is)

pub returns-in-Some-get : goal.returns-in-Some-get
returns-in-Some-get c =
    let l = c.args.loc in
    let i = c.self.inside in
    ap (λ b. or (option_map Shared b) (option_map Lock (found l i.locks))) c.in-Some-get.ensures
    ∙ ap (λ a. or (option_map Int a) (or (option_map Shared (found l i.pointers)) (option_map Lock (found l i.locks)))) (sym c.in_default.is ∙ c.get.ensures)
    ∙ sym (given-all l i.integers i.pointers i.locks) ∙ ap (given l) c.self.view_is

pub returns-in-Some-get-2 : goal.returns-in-Some-get-2
returns-in-Some-get-2 c =
    let l = c.args.loc in
    let i = c.self.inside in
    ap (option_map Lock) c.in-Some-get-2.ensures
    ∙ ap (λ b. or (option_map Shared b) (option_map Lock (found l i.locks))) (sym c.in_default-get.is ∙ c.get-2.ensures)
    ∙ ap (λ a. or (option_map Int a) (or (option_map Shared (found l i.pointers)) (option_map Lock (found l i.locks)))) (sym c.in_default.is ∙ c.get.ensures)
    ∙ sym (given-all l i.integers i.pointers i.locks) ∙ ap (given l) c.self.view_is

pub returns-in-None : goal.returns-in-None
returns-in-None c =
    let l = c.args.loc in
    let i = c.self.inside in
    ap (option_map Lock) c.in-None.ensures
    ∙ ap (λ b. or (option_map Shared b) (option_map Lock (found l i.locks))) (sym c.in_default-get.is ∙ c.get-2.ensures)
    ∙ ap (λ a. or (option_map Int a) (or (option_map Shared (found l i.pointers)) (option_map Lock (found l i.locks)))) (sym c.in_default.is ∙ c.get.ensures)
    ∙ sym (given-all l i.integers i.pointers i.locks) ∙ ap (given l) c.self.view_is
