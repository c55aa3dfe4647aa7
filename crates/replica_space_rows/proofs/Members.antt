-- Lists by names.
use Rattle.std.proofs.Common.{ℕ, ◌≡◌, Bool, true, false, List, [], ◌∷◌, map, refl, sym, ap, ◌∙◌, inl, inr}
use Rattle.std.proofs.lemmas.Bool.{cases_Bool, cond-true, cond-false}
use Rattle.upc_values.specs.declared.scalar.Scalar.{Scalar}
use Rattle.upc_values.specs.Operations.{Place, Cell, Sync}
use Rattle.replica_space.specs.declared.message.Stamp.{Stamp}
use Rattle.replica_space.specs.declared.message.Message.{Message}
use Rattle.replica_space.specs.ReplicaOrders.{Placed, write_of, is_after, with_write, with_writes}
use Rattle.replica_space_rows.specs.layer.Rows.{member_in, write_in, with_member, with_members}
use Rattle.replica_space_rows.specs.layer.Rows as rows

-- a member by its name is a later write just where the operation is
alike : (m : Message) (w : Bool) (p : Place) (s : Stamp) (t i : ℕ) (k : Bool) (v : Scalar)
    → rows.is_after m (member_in (record { operation = record { thread = t; index = i; write = w; strict = k; place = p; value = v }; stamp = s }))
    ≡ is_after m (record { operation = record { thread = t; index = i; write = w; strict = k; place = p; value = v }; stamp = s })
alike m true (Cell l) s t i k v = refl
alike m true Sync s t i k v = refl
alike m false p s t i k v = refl

after-alike : (m : Message) (x : Placed) → rows.is_after m (member_in x) ≡ is_after m x
after-alike m x = alike m x.operation.write x.operation.place x.stamp x.operation.thread x.operation.index x.operation.strict x.operation.value

-- a list by names with a message's write
pub put-by-names : (m : Message) (xs : List Placed) → map member_in (with_write m xs) ≡ with_member m (map member_in xs)
put-by-names m [] = refl
put-by-names m (x ∷ xs) =
    elim (cases_Bool (is_after m x)) [
      | inl t ↦
          ap (map member_in) (cond-true (is_after m x) (write_of m ∷ x ∷ xs) (x ∷ with_write m xs) t)
          ∙ sym (cond-true (rows.is_after m (member_in x)) (write_in m ∷ map member_in (x ∷ xs)) (member_in x ∷ with_member m (map member_in xs)) (after-alike m x ∙ t))
      | inr f ↦
          ap (map member_in) (cond-false (is_after m x) (write_of m ∷ x ∷ xs) (x ∷ with_write m xs) f)
          ∙ ap (λ l. member_in x ∷ l) (put-by-names m xs)
          ∙ sym (cond-false (rows.is_after m (member_in x)) (write_in m ∷ map member_in (x ∷ xs)) (member_in x ∷ with_member m (map member_in xs)) (after-alike m x ∙ f))
    ]

-- the same with the writes of several messages
pub puts-by-names : (ms : List Message) (xs : List Placed) → map member_in (with_writes ms xs) ≡ with_members ms (map member_in xs)
puts-by-names [] xs = refl
puts-by-names (m ∷ ms) xs = puts-by-names ms (with_write m xs) ∙ ap (with_members ms) (put-by-names m xs)
