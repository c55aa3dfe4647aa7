use Rattle.std.proofs.Common.{◌∙◌, ap, subst, sym, List}
use Rattle.block_layout.specs.declared.kind.Shape.{Shape}
use Rattle.block_layout.specs.Shapes.{IsShape}
use Rattle.upc_values.specs.Lists.{Each}
use Rattle.typed_tree.specs.Beginnings.{view_beginning}
use Rattle.typed_tree.specs.ViewProgram.{view_program}
use Rattle.gen_expr.specs.layer.ViewSource.{view_source}
use Rattle.source_meaning.proofs.Beginnings.{shapes_fit}
use Rattle.stack_code.specs.layer.Making.{Making}
use Rattle.gen_stmt.proofs.Compiling.{all_made}
use Rattle.gen_stmt.proofs.KnownInitials.{initials_there}
use Rattle.gen_stmt.proofs.programs.builder_of.Goals as goal

pub make-requires-clause-shapes : goal.make-requires-clause-shapes
make-requires-clause-shapes c =
    let p = c.args.program.now in
    subst (λ (xs : List Shape). Each IsShape xs) (sym c.shapes.ensures)
    (shapes_fit p.threads (view_beginning p.beginning) p.opening)

pub returns : goal.returns
returns c =
    let p = c.args.program.now in
    let b = view_beginning p.beginning in
    all_made p.threads (view_program p).functions b (view_source c.of-source.result) c.shapes.result.now
    c.private_shapes.result.now c.private_initials.result.now c.threads.result c.in_ok-entry.entry.items
    c.in_ok-builder.builder c.put_code.new.builder c.put_functions.new.builder c.put_objects.new.builder
    c.put_initials.new.builder c.threads.ensures c.shapes.ensures c.private_shapes.ensures c.private_initials.ensures
    c.of-source.ensures c.in_ok-entry.ensures c.in_ok-builder.ensures c.in_ok-put_code.ensures
    c.in_ok-put_functions.ensures c.in_ok-put_objects.ensures c.in_ok-put_initials.ensures

pub put_initials-requires : goal.put_initials-requires
put_initials-requires c =
    let p = c.args.program.now in
    let threads =
    ap (λ (m : Making). m.codes.threads) c.in_ok-put_objects.ensures
    ∙ ap (λ (m : Making). m.codes.threads) c.in_ok-put_functions.ensures
    ∙ ap (λ (m : Making). m.codes.threads) c.in_ok-put_code.ensures
    ∙ ap (λ (m : Making). m.codes.threads) c.in_ok-builder.ensures ∙ c.threads.ensures in
    let shapes =
    ap (λ (m : Making). m.codes.shapes) c.in_ok-put_objects.ensures
    ∙ ap (λ (m : Making). m.codes.shapes) c.in_ok-put_functions.ensures
    ∙ ap (λ (m : Making). m.codes.shapes) c.in_ok-put_code.ensures
    ∙ ap (λ (m : Making). m.codes.shapes) c.in_ok-builder.ensures ∙ c.shapes.ensures in
    initials_there p.threads (view_beginning p.beginning) c.put_objects.new.builder c.private_initials.result.now
    threads shapes c.private_initials.ensures p.opening p.private
