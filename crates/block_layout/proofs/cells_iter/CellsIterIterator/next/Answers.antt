use Rattle.std.proofs.Common.{rules, ◌≡◌, ℕ, ◌-◌, ◌<◌, List, ◌∷◌, length, sym, ap, ◌∙◌, subst, arith}
use Rattle.std.specs.Arc.{arc_value}
use Rattle.block_layout.specs.declared.kind.Kind.{Kind}
use Rattle.block_layout.specs.declared.cells_iter.CellsIter.TheInside.{Inside}
use Rattle.block_layout.proofs.Readings.{Goes, next_start, goes_on, goes_copy, goes_run, goes_tail, first_fits, first_read, rest_is_left}
use Rattle.block_layout.proofs.cells_iter.CellsIterIterator.next.Goals as goal
use Rattle.block_layout.proofs.cells_iter.CellsIterIterator.next.Goals.{then-is_empty+then-self-gt0, then-is_empty+else-self-gt0+in-Some, then-is_empty+else-self-gt0+in_default, else-is_empty}

abbrev At : List (ℕ × Kind) → Inside → Type 0
At whole s = Goes whole s.left.now s.start s.stride s.more s.pattern.now s.runs.now s.tail.now

pub overflow_add-self : goal.overflow_add-self
overflow_add-self c = let h = next_start c.self.inside.left.now c.self.inside.start c.self.inside.stride c.self.inside.more c.self.inside.pattern.now c.self.invariant c.if-self-gt0.true in omega arith

pub overflow_add-result : goal.overflow_add-result
overflow_add-result c =
    let it = c.self.inside in
    let whole = c.args.self.now in
    let go : At whole c.if-is_empty.self-inside =
    elim c.if-is_empty.branch [
      | then-is_empty+then-self-gt0 w ↦ let none : length it.left.now ≡ 0 = search rules in
          subst (At whole) (sym w.self-inside-is) (goes_copy whole it.left.now it.start it.stride it.more it.pattern.now it.runs.now it.tail.now c.self.invariant (sym c.self.view_is) none w.if-self-gt0.true)
      | then-is_empty+else-self-gt0+in-Some w ↦ let none : length it.left.now ≡ 0 = search rules in
          let few : it.more ≡ 0 = omega arith in
          let next : it.runs.now ≡ w.in-Some.run'.now ∷ w.in-Some.runs.now = search rules in
          let cells : (arc_value w.run.inside.cells).items ≡ w.as_slice-self-inside.result.now = sym (w.as_slice-self-inside.ensures.value ∙ ap (λ v. v.items) w.deref.ensures) in
          subst (At whole) (sym w.self-inside-is)
          (subst (λ xs. Goes whole xs w.run.inside.start w.run.inside.stride (w.run.inside.count - 1) xs w.in-Some.runs.now it.tail.now) cells
          (goes_run whole it.left.now it.start it.stride it.more it.pattern.now it.runs.now it.tail.now _ w.in-Some.runs.now (sym c.self.view_is) none few (next ∙ ap (λ r. r ∷ w.in-Some.runs.now) (sym w.run.view_is)) w.run.invariant))
      | then-is_empty+else-self-gt0+in_default w ↦ let none : length it.left.now ≡ 0 = search rules in
          let few : it.more ≡ 0 = omega arith in
          subst (At whole) (sym w.self-inside-is) (goes_tail whole it.left.now it.start it.stride it.more it.pattern.now it.runs.now it.tail.now (sym c.self.view_is) none few w.in_default.ensures.cases)
      | else-is_empty w ↦ let some : 0 < length it.left.now = search rules in
          subst (At whole) (sym w.self-inside-is) (goes_on whole it.left.now it.start it.stride it.more it.pattern.now it.runs.now it.tail.now c.self.invariant (sym c.self.view_is) some)
    ]
    in
    let now = c.if-is_empty.self-inside in
    let first : now.left.now ≡ c.in_ok-first.first.now ∷ c.in_ok-first.left.now = search rules in
    let h = first_fits now.left.now c.in_ok-first.left.now now.start now.stride now.more now.pattern.now c.in_ok-first.first.now go.is_left first (omega arith) in omega arith

pub invariant_of-self-2 : goal.invariant_of-self-2
invariant_of-self-2 c =
    let it = c.self.inside in
    let whole = c.args.self.now in
    let go : At whole c.if-is_empty.self-inside =
    elim c.if-is_empty.branch [
      | then-is_empty+then-self-gt0 w ↦ let none : length it.left.now ≡ 0 = search rules in
          subst (At whole) (sym w.self-inside-is) (goes_copy whole it.left.now it.start it.stride it.more it.pattern.now it.runs.now it.tail.now c.self.invariant (sym c.self.view_is) none w.if-self-gt0.true)
      | then-is_empty+else-self-gt0+in-Some w ↦ let none : length it.left.now ≡ 0 = search rules in
          let few : it.more ≡ 0 = omega arith in
          let next : it.runs.now ≡ w.in-Some.run'.now ∷ w.in-Some.runs.now = search rules in
          let cells : (arc_value w.run.inside.cells).items ≡ w.as_slice-self-inside.result.now = sym (w.as_slice-self-inside.ensures.value ∙ ap (λ v. v.items) w.deref.ensures) in
          subst (At whole) (sym w.self-inside-is)
          (subst (λ xs. Goes whole xs w.run.inside.start w.run.inside.stride (w.run.inside.count - 1) xs w.in-Some.runs.now it.tail.now) cells
          (goes_run whole it.left.now it.start it.stride it.more it.pattern.now it.runs.now it.tail.now _ w.in-Some.runs.now (sym c.self.view_is) none few (next ∙ ap (λ r. r ∷ w.in-Some.runs.now) (sym w.run.view_is)) w.run.invariant))
      | then-is_empty+else-self-gt0+in_default w ↦ let none : length it.left.now ≡ 0 = search rules in
          let few : it.more ≡ 0 = omega arith in
          subst (At whole) (sym w.self-inside-is) (goes_tail whole it.left.now it.start it.stride it.more it.pattern.now it.runs.now it.tail.now (sym c.self.view_is) none few w.in_default.ensures.cases)
      | else-is_empty w ↦ let some : 0 < length it.left.now = search rules in
          subst (At whole) (sym w.self-inside-is) (goes_on whole it.left.now it.start it.stride it.more it.pattern.now it.runs.now it.tail.now c.self.invariant (sym c.self.view_is) some)
    ]
    in
    let now = c.if-is_empty.self-inside in
    let first : now.left.now ≡ c.in_ok-first.first.now ∷ c.in_ok-first.left.now = search rules in
    rest_is_left now.left.now c.in_ok-first.left.now now.start now.stride now.more now.pattern.now c.in_ok-first.first.now go.is_left first

pub returns-clause-steps : goal.returns-clause-steps
returns-clause-steps c =
    let it = c.self.inside in
    let whole = c.args.self.now in
    let go : At whole c.if-is_empty.self-inside =
    elim c.if-is_empty.branch [
      | then-is_empty+then-self-gt0 w ↦ let none : length it.left.now ≡ 0 = search rules in
          subst (At whole) (sym w.self-inside-is) (goes_copy whole it.left.now it.start it.stride it.more it.pattern.now it.runs.now it.tail.now c.self.invariant (sym c.self.view_is) none w.if-self-gt0.true)
      | then-is_empty+else-self-gt0+in-Some w ↦ let none : length it.left.now ≡ 0 = search rules in
          let few : it.more ≡ 0 = omega arith in
          let next : it.runs.now ≡ w.in-Some.run'.now ∷ w.in-Some.runs.now = search rules in
          let cells : (arc_value w.run.inside.cells).items ≡ w.as_slice-self-inside.result.now = sym (w.as_slice-self-inside.ensures.value ∙ ap (λ v. v.items) w.deref.ensures) in
          subst (At whole) (sym w.self-inside-is)
          (subst (λ xs. Goes whole xs w.run.inside.start w.run.inside.stride (w.run.inside.count - 1) xs w.in-Some.runs.now it.tail.now) cells
          (goes_run whole it.left.now it.start it.stride it.more it.pattern.now it.runs.now it.tail.now _ w.in-Some.runs.now (sym c.self.view_is) none few (next ∙ ap (λ r. r ∷ w.in-Some.runs.now) (sym w.run.view_is)) w.run.invariant))
      | then-is_empty+else-self-gt0+in_default w ↦ let none : length it.left.now ≡ 0 = search rules in
          let few : it.more ≡ 0 = omega arith in
          subst (At whole) (sym w.self-inside-is) (goes_tail whole it.left.now it.start it.stride it.more it.pattern.now it.runs.now it.tail.now (sym c.self.view_is) none few w.in_default.ensures.cases)
      | else-is_empty w ↦ let some : 0 < length it.left.now = search rules in
          subst (At whole) (sym w.self-inside-is) (goes_on whole it.left.now it.start it.stride it.more it.pattern.now it.runs.now it.tail.now c.self.invariant (sym c.self.view_is) some)
    ]
    in
    let now = c.if-is_empty.self-inside in
    let first : now.left.now ≡ c.in_ok-first.first.now ∷ c.in_ok-first.left.now = search rules in
    first_read whole now.left.now c.in_ok-first.left.now now.start now.stride now.more now.pattern.now now.runs.now now.tail.now c.in_ok-first.first.now go first

pub returns-clause-goes : goal.returns-clause-goes
returns-clause-goes c =
    let it = c.self.inside in
    let whole = c.args.self.now in
    let go : At whole c.if-is_empty.self-inside =
    elim c.if-is_empty.branch [
      | then-is_empty+then-self-gt0 w ↦ let none : length it.left.now ≡ 0 = search rules in
          subst (At whole) (sym w.self-inside-is) (goes_copy whole it.left.now it.start it.stride it.more it.pattern.now it.runs.now it.tail.now c.self.invariant (sym c.self.view_is) none w.if-self-gt0.true)
      | then-is_empty+else-self-gt0+in-Some w ↦ let none : length it.left.now ≡ 0 = search rules in
          let few : it.more ≡ 0 = omega arith in
          let next : it.runs.now ≡ w.in-Some.run'.now ∷ w.in-Some.runs.now = search rules in
          let cells : (arc_value w.run.inside.cells).items ≡ w.as_slice-self-inside.result.now = sym (w.as_slice-self-inside.ensures.value ∙ ap (λ v. v.items) w.deref.ensures) in
          subst (At whole) (sym w.self-inside-is)
          (subst (λ xs. Goes whole xs w.run.inside.start w.run.inside.stride (w.run.inside.count - 1) xs w.in-Some.runs.now it.tail.now) cells
          (goes_run whole it.left.now it.start it.stride it.more it.pattern.now it.runs.now it.tail.now _ w.in-Some.runs.now (sym c.self.view_is) none few (next ∙ ap (λ r. r ∷ w.in-Some.runs.now) (sym w.run.view_is)) w.run.invariant))
      | then-is_empty+else-self-gt0+in_default w ↦ let none : length it.left.now ≡ 0 = search rules in
          let few : it.more ≡ 0 = omega arith in
          subst (At whole) (sym w.self-inside-is) (goes_tail whole it.left.now it.start it.stride it.more it.pattern.now it.runs.now it.tail.now (sym c.self.view_is) none few w.in_default.ensures.cases)
      | else-is_empty w ↦ let some : 0 < length it.left.now = search rules in
          subst (At whole) (sym w.self-inside-is) (goes_on whole it.left.now it.start it.stride it.more it.pattern.now it.runs.now it.tail.now c.self.invariant (sym c.self.view_is) some)
    ]
    in
    let now = c.if-is_empty.self-inside in
    let first : now.left.now ≡ c.in_ok-first.first.now ∷ c.in_ok-first.left.now = search rules in
    let e = first_read whole now.left.now c.in_ok-first.left.now now.start now.stride now.more now.pattern.now now.runs.now now.tail.now c.in_ok-first.first.now go first in
    record { on = λ _. (tt, tt, omega (arith, ap length e)); keeps = tt; rests = λ _. tt }
