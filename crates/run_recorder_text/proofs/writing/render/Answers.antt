use Rattle.std.proofs.Common.{◌∙◌, ◌++◌, ap, codes}
use Rattle.run_recorder_text.specs.Lines.{head_lines, strand_lines, entry_line, op_line, order_lines}
use Rattle.run_recorder_text.specs.Lines.{numbered_lines, section_lines}
use Rattle.run_recorder_text.specs.code.Rows.{rows}
use Rattle.run_recorder_text.proofs.Wholes.{whole_text}
use Rattle.run_recorder_text.proofs.writing.render.Goals as goal

pub returns : goal.returns
returns c =
    let j = c.args.journal.now in
    let o = c.args.all.now in
    whole_text c.new-out.result.items c.first_lines.new.out.items c.strands.new.out.items c.history.new.out.items
    c.strict.new.out.items c.orders.new.out.items c.put.new.out.items
    (head_lines 2 j.threads j.budget j.actions)
    (numbered_lines strand_lines 0 j.strands)
    (section_lines (codes "history") entry_line j.history)
    (section_lines (codes "strict") op_line o.strict)
    (numbered_lines order_lines 0 o.threads)
    c.new-out.ensures.items c.in_ok-first_lines.ensures
    (c.in_ok-strands.ensures
    ∙ ap (λ xs. c.first_lines.new.out.items ++ rows (numbered_lines strand_lines 0 xs)) c.as_slice.ensures)
    c.in_ok-history.ensures
    (c.in_ok-strict.ensures
    ∙ ap (λ xs. c.history.new.out.items ++ rows (section_lines (codes "strict") op_line xs)) c.as_slice-2.ensures)
    (c.in_ok-orders.ensures
    ∙ ap (λ xs. c.strict.new.out.items ++ rows (numbered_lines order_lines 0 xs)) c.as_slice-3.ensures)
    c.in_ok-put.ensures
