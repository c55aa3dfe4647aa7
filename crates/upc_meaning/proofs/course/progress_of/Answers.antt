use Rattle.typed_tree.specs.Beginnings.{view_beginning}
use Rattle.upc_meaning_work.proofs.Programs.{privates_begin}
use Rattle.upc_meaning.proofs.course.progress_of.Goals as goal

pub make-requires : goal.make-requires
make-requires c =
    let p = c.args.program.now in
    rw (c.private_shapes.ensures, c.private_initials.ensures)
    (privates_begin p.threads (view_beginning p.beginning) p.private)
