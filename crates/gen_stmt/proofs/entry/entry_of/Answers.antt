use Rattle.std.proofs.Common.{◌++◌, ◌+◌, ℕ, List, ◌∙◌, ap}
use Rattle.upc_values.specs.declared.scalar.Mark.TheVariants.{Start}
use Rattle.stack_code.specs.declared.instruction.Instr.{Instr}
use Rattle.gen_expr.specs.layer.Sources.{running_of}
use Rattle.gen_expr.specs.layer.ViewSource.{view_source}
use Rattle.gen_stmt.specs.code.Parts.{barrier_code}
use Rattle.gen_stmt.proofs.Behind.{entry_whole}
use Rattle.gen_stmt.proofs.entry.entry_of.Goals as goal

pub returns : goal.returns
returns c =
    let ς = view_source c.args.source in
    let at = c.main_place-place.result in
    entry_whole ς at c.in_ok-main.main c.put_mark.new.code.items c.put_operation.new.code.items
    c.put_mark-2.new.code.items c.put_operation-2.new.code.items (c.main_place-place.ensures (running_of ς))
    (c.in_ok-main.ensures ∙ ap (λ (k : ℕ). k + 1) c.main_number.ensures)
    (c.in_ok-put_mark.ensures ∙ ap (λ (l : List Instr). l ++ barrier_code at Start) c.new-code.ensures.items)
    c.in_ok-put_operation.ensures c.in_ok-put_mark-2.ensures c.in_ok-put_operation-2.ensures
