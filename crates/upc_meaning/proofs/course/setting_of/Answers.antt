use Rattle.std.proofs.Common.{List, subst, sym}
use Rattle.block_layout.specs.declared.kind.Shape.{Shape}
use Rattle.block_layout.specs.Shapes.{IsShape}
use Rattle.shared_pointers.specs.layer.Ranges.{IsThreads}
use Rattle.upc_values.specs.Lists.{Each}
use Rattle.typed_tree.specs.Beginnings.{view_beginning}
use Rattle.upc_meaning_work.proofs.Programs.{shapes_fit}
use Rattle.upc_meaning.proofs.course.setting_of.Goals as goal

pub returns-clause-fits : goal.returns-clause-fits
returns-clause-fits c =
    let p = c.args.program.now in
    record {
      threads = subst IsThreads (sym c.threads.ensures) (record { least = p.least; most = p.most });
      shapes = subst (λ (xs : List Shape). Each IsShape xs) (sym c.shapes.ensures)
          (shapes_fit p.threads (view_beginning p.beginning) p.opening);
    }
