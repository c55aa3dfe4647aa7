use Rattle.std.proofs.Common.{not, List, get_or, arith, rules}
use Rattle.std.proofs.lemmas.Bool.{not-true, not-false, not_from_false}
use Rattle.std.proofs.lemmas.List.Sorted.{IsPartitionPoint-from_clause}
use Rattle.std.specs.List.Sorted.{IsPartitionedBy}
use Rattle.replica_space.specs.declared.message.Stamp.{Stamp}
use Rattle.replica_space.specs.Spaces.{is_later}
use Rattle.replica_space_lists.proofs.Stamps.{upto-trans}
use Rattle.replica_space_orders.specs.layer.Finding.{Ascend}
use Rattle.replica_space_orders.proofs.find.first_later.Goals as goal

parted : (stamps : List Stamp) (s : Stamp) → Ascend stamps → IsPartitionedBy (λ k. not (is_later k s)) stamps
parted stamps s h i j d le lt e =
    not_from_false (is_later (get_or stamps i d) s)
    (upto-trans (get_or stamps i d) (get_or stamps j d) s (h i j d le lt) (not-true (is_later (get_or stamps j d) s) e))

pub returns : goal.returns
returns c =
    let stamps = c.args.stamps.now in
    let s = c.args.stamp.now in
    let point =
    IsPartitionPoint-from_clause (λ k. not (is_later k s)) _ _ c.partition_point.ensures.partitioned (parted stamps s c.requires) (λ a r q k. search rules) in
    record {
      within = c.partition_point.ensures.bound;
      before = λ i d lt. not-true (is_later (get_or stamps i d) s) (point.0 i d (omega arith) lt);
      later = λ i d le lt. not-false (is_later (get_or stamps i d) s) (point.1 i d le lt);
    }
