use Rattle.std.proofs.Common.{rules, ◌+◌, ◌∙◌, nat_lt, ap, arith}
use Rattle.std.proofs.lemmas.Bool.{ltb-true, ltb-false}
use Rattle.std.proofs.lemmas.List.{take_rest}
use Rattle.std.proofs.lemmas.List.Sorted.{IsPartitionPoint-from_clause, IsPartitionedBy-ltb}
use Rattle.block_layout.specs.Cells.{moved}
use Rattle.block_layout.proofs.FromPlace.{ascending, list_left}
use Rattle.block_layout.proofs.cell_lists.list_from.Goals as goal

pub returns : goal.returns
returns c =
    let a = c.args in
    let cells = a.cells.now in
    let n = c.partition_point-before.result in
    let parted = IsPartitionedBy-ltb (λ x. a.start + x.0) cells a.place (λ i j d l k. let e = ascending cells a.start 0 c.requires.0 i j d c.requires.1 l k in omega (arith, e)) in
    let point = IsPartitionPoint-from_clause (λ x. nat_lt (a.start + x.0) a.place) _ _ c.partition_point-before.ensures.partitioned parted (λ x r q k. search rules) in
    ap (moved a.start) (take_rest cells n)
    ∙ list_left cells a.start a.place n c.partition_point-before.ensures.bound
    (λ j d l. ltb-true _ _ (point.0 j d (omega arith) l)) (λ j d l k. ltb-false _ _ (point.1 j d l k))
