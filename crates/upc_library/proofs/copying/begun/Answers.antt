use Rattle.std.proofs.Common.{ap, sym, subst, None}
use Rattle.upc_library.specs.code.Areas.{area_in}
use Rattle.upc_library.specs.code.Kept.{source_in, IsWalk}
use Rattle.upc_library.specs.layer.Walks.{left}
use Rattle.upc_library.proofs.Cursors.{coming_is}
use Rattle.upc_library.proofs.copying.begun.Goals as goal

pub invariant_of-result : goal.invariant_of-result
invariant_of-result c =
    subst (λ xs. IsWalk c.args.bytes c.args.dst c.args.src xs)
    (sym (coming_is c.args.cells c.next.result c.next.new.self c.next.ensures)) c.requires

pub returns : goal.returns
returns c =
    ap (λ xs. left (area_in c.args.dst) (source_in c.args.src) xs None)
    (coming_is c.args.cells c.next.result c.next.new.self c.next.ensures)
