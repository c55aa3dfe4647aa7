use Rattle.std.proofs.Common.{cond, FitsSigned, None, Some, rules, sym, ap, ◌∙◌}
use Rattle.std.proofs.lemmas.Int.{to_z-of_z}
use Rattle.std.specs.Int.{w128}
use Rattle.std.specs.Option.{option_map}
use Rattle.upc_values.specs.declared.scalar.Scalar.TheVariants.{Int, Shared, Lock}
use Rattle.upc_values.specs.Scalars.{same_loc}
use Rattle.upc_values.specs.Openings.{given}
use Rattle.shared_heap.specs.code.Cells.{found}
use Rattle.shared_heap.proofs.ByLocation.{or, given-all, put-first, put-next, put-last}
use Rattle.shared_heap.proofs.cells.SavedCells.save.Goals as goal

pub returns-in_ok-save-in-Int-clause-saved : goal.returns-in_ok-save-in-Int-clause-saved
returns-in_ok-save-in-Int-clause-saved c = λ k.
    let i = c.self.inside in
    let same = same_loc c.args.loc k in
    let v = c.in-Int.value in
    let a = found k i.integers in
    let b = found k i.pointers in
    let d = found k i.locks in
    let rest = or (option_map Shared b) (option_map Lock d) in
    let fits : FitsSigned w128 v = search rules in
    given-all k c.save.new.self i.pointers i.locks
    ∙ ap (λ z. or (option_map Int z) rest) (simp to_z-of_z at (c.in_ok-save-in-Int.ensures.saved k)) ∙ put-first Int same v a rest
    ∙ ap (cond same (Some (Int v))) (sym (given-all k i.integers i.pointers i.locks) ∙ ap (given k) c.self.view_is)
    ∙ ap (λ x. cond same (Some x) (given k c.args.self.now)) (sym c.in-Int.is)

pub returns-in_ok-save-in-Shared-clause-saved : goal.returns-in_ok-save-in-Shared-clause-saved
returns-in_ok-save-in-Shared-clause-saved c = λ k.
    let i = c.self.inside in
    let same = same_loc c.args.loc k in
    let v = c.in-Shared.value in
    let a = found k i.integers in
    let b = found k i.pointers in
    let d = found k i.locks in
    let rest = or (option_map Shared b) (option_map Lock d) in
    given-all k c.forget.new.self c.save-in-Shared.new.self i.locks
    ∙ ap (λ z. or (option_map Int z) (or (option_map Shared (found k c.save-in-Shared.new.self)) (option_map Lock d))) (c.forget.ensures k)
    ∙ ap (λ z. or (option_map Int (cond same None a)) (or (option_map Shared z) (option_map Lock d))) (c.in_ok-save-in-Shared.ensures.saved k)
    ∙ ap (or (option_map Int (cond same None a))) (put-first Shared same v b (option_map Lock d))
    ∙ put-next Int same a (Some (Shared v)) rest
    ∙ ap (cond same (Some (Shared v))) (sym (given-all k i.integers i.pointers i.locks) ∙ ap (given k) c.self.view_is)
    ∙ ap (λ x. cond same (Some x) (given k c.args.self.now)) (sym c.in-Shared.is)

pub returns-in_ok-save-in-Lock-clause-saved : goal.returns-in_ok-save-in-Lock-clause-saved
returns-in_ok-save-in-Lock-clause-saved c = λ k.
    let i = c.self.inside in
    let same = same_loc c.args.loc k in
    let v = c.in-Lock.value in
    let a = found k i.integers in
    let b = found k i.pointers in
    let d = found k i.locks in
    let locks = found k c.save-in-Lock.new.self in
    let pointers = found k c.forget-in-Lock-2.new.self in
    let rest = or (option_map Shared b) (option_map Lock d) in
    given-all k c.forget-in-Lock.new.self c.forget-in-Lock-2.new.self c.save-in-Lock.new.self
    ∙ ap (λ z. or (option_map Int z) (or (option_map Shared pointers) (option_map Lock locks))) (c.forget-in-Lock.ensures k)
    ∙ ap (λ z. or (option_map Int (cond same None a)) (or (option_map Shared z) (option_map Lock locks))) (c.forget-in-Lock-2.ensures k)
    ∙ ap (λ z. or (option_map Int (cond same None a)) (or (option_map Shared (cond same None b)) (option_map Lock z))) (c.in_ok-save-in-Lock.ensures.saved k)
    ∙ ap (λ z. or (option_map Int (cond same None a)) (or (option_map Shared (cond same None b)) z)) (put-last Lock same v d)
    ∙ ap (or (option_map Int (cond same None a))) (put-next Shared same b (Some (Lock v)) (option_map Lock d))
    ∙ put-next Int same a (Some (Lock v)) rest
    ∙ ap (cond same (Some (Lock v))) (sym (given-all k i.integers i.pointers i.locks) ∙ ap (given k) c.self.view_is)
    ∙ ap (λ x. cond same (Some x) (given k c.args.self.now)) (sym c.in-Lock.is)
