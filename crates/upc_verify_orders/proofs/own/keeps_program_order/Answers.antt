use Rattle.std.proofs.Common.{List, length, sym, ◌∙◌, subst}
use Rattle.upc_values.specs.Lists.{Each, Pairwise}
use Rattle.upc_verify_orders.specs.declared.program.Mark.{Mark}
use Rattle.upc_verify_orders.specs.code.Found.{taken}
use Rattle.upc_verify_orders.specs.code.Program.{InOrder, IsMark}
use Rattle.upc_verify_orders.proofs.Taken.{taken-inside}
use Rattle.upc_verify_orders.proofs.Numbering.{marks-keep}
use Rattle.upc_verify_orders.proofs.own.keeps_program_order.Goals as goal

pub keeps_own-requires : goal.keeps_own-requires
keeps_own-requires c =
    subst (λ (l : List Mark). Each (IsMark (length c.args.operations.now)) l) (sym c.as_slice.ensures.value) c.in_ok-marks.ensures.fit

pub returns : goal.returns
returns c =
    let ops = c.args.operations.now in
    let at = c.args.at.now in
    let e = c.as_slice.ensures.value ∙ c.in_ok-marks.ensures.marks in
    let m = marks-keep ops c.args.thread (taken ops at) (taken-inside ops at c.requires.found.within) in (
      λ t. m.0 (subst (Pairwise InOrder) e (c.in_ok-keeps.ensures.0 t)),
      λ p. c.in_ok-keeps.ensures.1 (subst (Pairwise InOrder) (sym e) (m.1 p)),
    )
