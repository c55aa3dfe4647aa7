use Rattle.upc_library.proofs.NextCell.{bare, bare_by}
use Rattle.upc_library.proofs.cells.is_bare.Goals as goal

pub returns-in-Some : goal.returns-in-Some
returns-in-Some c =
    bare_by c.args.shape.now c.args.byte c.args.bytes c.place_in.result _ c.place_in.ensures.value c.in-Some.ensures

pub returns-in-None : goal.returns-in-None
returns-in-None c =
    bare c.args.shape.now c.args.byte c.args.bytes c.place_in.result c.place_in.ensures.value
    (c.in-None.ensures c.args.bytes)
