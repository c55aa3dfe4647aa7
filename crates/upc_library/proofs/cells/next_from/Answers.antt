use Rattle.std.proofs.Common.{◌≡◌, ◌+◌, ◌-◌, sym, subst, arith}
use Rattle.upc_library.specs.code.Ranges.{IsNext}
use Rattle.upc_library.proofs.NextCell.{here_is_next, further_is_next}
use Rattle.upc_library.proofs.cells.next_from.Goals as goal

pub returns-in-Some : goal.returns-in-Some
returns-in-Some c =
    let e : c.in-Some.start - c.args.place ≡ c.from.result = omega arith in
    subst (λ n. IsNext c.args.shape.now c.args.place (n, c.in-Some.kind)) e
    (here_is_next c.args.shape.now c.args.place _ _ _ (c.in-Some.start, c.in-Some.kind) c.at-here.ensures.cursor
    c.at-here.ensures.place c.in-Some.is)

pub returns-in_ok-start-in-None : goal.returns-in_ok-start-in-None
returns-in_ok-start-in-None c =
    let e : c.args.shape.now.size - c.args.place + c.in_ok-start-in-None.start ≡ c.from-in-None.result + c.from-in-None-2.result = omega arith in
    subst (λ n. IsNext c.args.shape.now c.args.place (n, c.in_ok-start-in-None.kind)) e
    (further_is_next c.args.shape.now c.args.place _ _ _ _ _ _ (c.in_ok-start-in-None.start, c.in_ok-start-in-None.kind)
    c.at-here.ensures.cursor c.at-here.ensures.place c.in-None.is c.begin-further.ensures.cursor
    c.begin-further.ensures.place c.in_ok-start-in-None.was)
