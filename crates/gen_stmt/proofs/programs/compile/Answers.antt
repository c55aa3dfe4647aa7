use Rattle.std.proofs.Common.{◌≡◌, ◌∙◌, ap, sym, subst}
use Rattle.upc_values.specs.Lists.{Each}
use Rattle.private_store.specs.Beginnings.{IsBeginning}
use Rattle.typed_tree.specs.Beginnings.{view_beginning}
use Rattle.typed_tree.specs.ViewProgram.{view_program}
use Rattle.stack_code.specs.layer.Codes.{Codes}
use Rattle.stack_code.specs.layer.Depths.{IsDeep, BeginsOnce}
use Rattle.stack_code.specs.layer.Making.{Making}
use Rattle.gen_expr.proofs.Simulation.{expressions_are_meant, effects_are_meant}
use Rattle.source_meaning.specs.Laws.{opening_of}
use Rattle.gen_stmt.specs.layer.Meanings.{MeansProgram}
use Rattle.stack_code.specs.layer.Names.{NamesOnly}
use Rattle.gen_stmt.specs.layer.Programs.{program_code}
use Rattle.gen_stmt.proofs.Gathered.{program_begins}
use Rattle.source_meaning.proofs.Beginnings.{privates_begin}
use Rattle.gen_stmt.proofs.Compiling.{codes_are, if_ok}
use Rattle.gen_stmt.proofs.Courses.{program_means}
use Rattle.gen_stmt.proofs.Deeps.{program_deep}
use Rattle.gen_stmt.proofs.Names.{names_only}
use Rattle.gen_stmt.proofs.programs.compile.Goals as goal

pub finish-requires-clause-ended : goal.finish-requires-clause-ended
finish-requires-clause-ended c = ap (λ (m : Making). m.current) c.in_ok-builder.ensures

pub finish-requires-clause-depths : goal.finish-requires-clause-depths
finish-requires-clause-depths c =
    let p = c.args.program.now in
    let x = view_program p in
    let e = codes_are x (view_beginning p.beginning) c.in_ok-builder.builder p.begins c.in_ok-builder.ensures in
    subst (λ (y : Codes). Each IsDeep y.functions) (sym e) (program_deep x)

pub finish-requires-clause-begins : goal.finish-requires-clause-begins
finish-requires-clause-begins c =
    let p = c.args.program.now in
    let x = view_program p in
    let e = codes_are x (view_beginning p.beginning) c.in_ok-builder.builder p.begins c.in_ok-builder.ensures in
    subst (λ (y : Codes). BeginsOnce y.functions) (sym e) (program_begins x)

pub finish-requires-clause-objects : goal.finish-requires-clause-objects
finish-requires-clause-objects c =
    let p = c.args.program.now in
    subst (λ (m : Making). IsBeginning m.codes.private_shapes m.codes.private_initials) (sym c.in_ok-builder.ensures)
    (privates_begin p.threads (view_beginning p.beginning) p.private)

pub returns-clause-code : goal.returns-clause-code
returns-clause-code c =
    let p = c.args.program.now in
    let x = view_program p in
    let e = codes_are x (view_beginning p.beginning) c.in_ok-builder.builder p.begins c.in_ok-builder.ensures in
    if_ok c.finish.result (λ code. code ≡ c.in_ok-builder.builder.codes) (λ code. code ≡ program_code x)
    (λ code h. h ∙ e) c.finish.ensures.done

pub returns-clause-means : goal.returns-clause-means
returns-clause-means c =
    let p = c.args.program.now in
    let x = view_program p in
    let e = codes_are x (view_beginning p.beginning) c.in_ok-builder.builder p.begins c.in_ok-builder.ensures in
    if_ok c.finish.result (λ code. code ≡ c.in_ok-builder.builder.codes) (λ code. MeansProgram code x)
    (λ code h. subst (λ (y : Codes). MeansProgram y x) (sym (h ∙ e))
    (program_means (expressions_are_meant, effects_are_meant) x))
    c.finish.ensures.done

pub returns-clause-threads : goal.returns-clause-threads
returns-clause-threads c =
    let p = c.args.program.now in
    let x = view_program p in
    let e = codes_are x (view_beginning p.beginning) c.in_ok-builder.builder p.begins c.in_ok-builder.ensures in
    if_ok c.finish.result (λ code. code ≡ c.in_ok-builder.builder.codes) (λ code. code.threads ≡ p.threads)
    (λ code h. ap (λ (y : Codes). y.threads) (h ∙ e)) c.finish.ensures.done

pub returns-clause-shapes : goal.returns-clause-shapes
returns-clause-shapes c =
    let p = c.args.program.now in
    let x = view_program p in
    let e = codes_are x (view_beginning p.beginning) c.in_ok-builder.builder p.begins c.in_ok-builder.ensures in
    if_ok c.finish.result (λ code. code ≡ c.in_ok-builder.builder.codes)
    (λ code. code.shapes ≡ (opening_of x).shapes)
    (λ code h. ap (λ (y : Codes). y.shapes) (h ∙ e)) c.finish.ensures.done

pub returns-clause-names : goal.returns-clause-names
returns-clause-names c =
    let p = c.args.program.now in
    let x = view_program p in
    let e = codes_are x (view_beginning p.beginning) c.in_ok-builder.builder p.begins c.in_ok-builder.ensures in
    if_ok c.finish.result (λ code. code ≡ c.in_ok-builder.builder.codes) (NamesOnly (opening_of x).declared)
    (λ code h. subst (NamesOnly (opening_of x).declared) (sym (h ∙ e))
    (names_only x (view_beginning p.beginning) p.begins p.private)) c.finish.ensures.done
