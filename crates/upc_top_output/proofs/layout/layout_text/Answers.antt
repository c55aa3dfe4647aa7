use Rattle.std.proofs.Common.{◌∙◌, sym, ap, subst}
use Rattle.std.specs.List.{flat_map}
use Rattle.std.proofs.lemmas.Result.{IfOk-weaker}
use Rattle.upc_values.specs.Lists.{Numbered}
use Rattle.typed_tree.specs.Beginnings.{view_beginning}
use Rattle.typed_tree.specs.ViewProgram.{view_program}
use Rattle.upc_top_output.specs.Layout.{IsSmall, layout_line}
use Rattle.upc_top_output.proofs.Laid.{small_objects, layout_begins}
use Rattle.upc_top_output.proofs.layout.layout_text.Goals as goal

pub lines-requires : goal.lines-requires
lines-requires c =
    let program = c.args.program.now in
    let small = small_objects program.threads (view_beginning program.beginning) program.opening in
    subst (λ xs. Numbered (λ _ x. IsSmall x.object) xs) (sym c.shared_objects.ensures) small

pub returns : goal.returns
returns c =
    let program = c.args.program.now in
    let lies = layout_begins (view_program program) (view_beginning program.beginning) program.begins in
    let objects = ap (flat_map (layout_line program.threads)) c.shared_objects.ensures in
    let threads = ap (λ n. flat_map (layout_line n) c.shared_objects.result.now) c.threads.ensures in
    IfOk-weaker c.lines.result _ _ (λ text h. h ∙ threads ∙ objects ∙ lies) c.lines.ensures
