-- Operations that come to the end of a list.
use Rattle.std.proofs.Common.{ℕ, ◌≡◌, false, List, [], ◌∷◌, ◌++◌, map, Option, Some, None, refl, ap, ◌∙◌}
use Rattle.std.proofs.lemmas.Bool.{cond-false, and_right}
use Rattle.upc_values.specs.Scalars.{same_loc}
use Rattle.upc_values.specs.Operations.{Access, Nothing, Reads, Writes, Writes_sync, Reads_sync, Writes_and_reads_sync, operations_by}
use Rattle.replica_space.specs.declared.message.Stamp.{Stamp}
use Rattle.replica_space.specs.declared.message.Message.{Message}
use Rattle.replica_space.specs.Spaces.{is_later}
use Rattle.replica_space.specs.ReplicaOrders.{placed}
use Rattle.replica_space_rows.specs.declared.member.Member.{Member}
use Rattle.replica_space_rows.specs.declared.member.Written.{Written}
use Rattle.replica_space_rows.specs.layer.Rows.{member_in, write_in, is_after, is_later_there, is_newer, IsLatest, with_member, with_access}

not-after : (m : Message) (w : Option Written) → is_newer m.stamp w ≡ false → is_later_there m w ≡ false
not-after m (Some w) e = and_right (same_loc w.loc m.loc) (is_later w.stamp m.stamp) e
not-after m None e = refl

-- a write comes to the end where no write is later
pub last-of-all : (m : Message) (ys : List Member) → IsLatest m.stamp ys → with_member m ys ≡ ys ++ write_in m ∷ []
last-of-all m [] h = refl
last-of-all m (y ∷ ys) h =
    cond-false (is_after m y) (write_in m ∷ y ∷ ys) (y ∷ with_member m ys) (not-after m y.written h.0)
    ∙ ap (λ l. y ∷ l) (last-of-all m ys h.1)

-- and so do the operations of an access
pub at-end : (s : Stamp) (i : ℕ) (x : Access) (ys : List Member) → IsLatest s ys
    → with_access s i x ys ≡ ys ++ map member_in (map (placed s) (operations_by s.thread i x))
at-end s i (Writes l k v) ys h = last-of-all (record { index = i; loc = l; value = v; stamp = s }) ys h
at-end s i Nothing ys h = refl
at-end s i (Reads l k v) ys h = refl
at-end s i Writes_sync ys h = refl
at-end s i Reads_sync ys h = refl
at-end s i Writes_and_reads_sync ys h = refl
