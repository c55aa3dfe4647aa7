use Rattle.upc_library.proofs.Walking.{next_inside, next_integer}
use Rattle.upc_library.proofs.copying.Copying.wish.Goals as goal

pub write-requires-clause-inside : goal.write-requires-clause-inside
write-requires-clause-inside c =
    let s = c.self.inside in next_inside s.bytes s.dst s.src s.cell s.others c.in-Some.cell c.self.invariant c.in-Some.is

pub read-requires-clause-inside : goal.read-requires-clause-inside
read-requires-clause-inside c =
    let s = c.self.inside in next_inside s.bytes s.dst s.src s.cell s.others c.in-Some.cell c.self.invariant c.in-Some.is

pub filled-requires : goal.filled-requires
filled-requires c =
    let s = c.self.inside in
    next_integer s.bytes s.dst s.src _ s.cell s.others c.in-Some.cell c.self.invariant c.in-Byte.is c.in-Some.is

pub write-requires-in-Byte-clause-inside : goal.write-requires-in-Byte-clause-inside
write-requires-in-Byte-clause-inside c =
    let s = c.self.inside in next_inside s.bytes s.dst s.src s.cell s.others c.in-Some.cell c.self.invariant c.in-Some.is
