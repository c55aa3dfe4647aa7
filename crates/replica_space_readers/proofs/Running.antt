-- The two runs are runs with a copy of the memory for each thread, and there is an opening for them.
use Rattle.std.proofs.Common.{◌≡◌, ℕ, ◌<◌, List, [], ◌∷◌, ◌++◌, Some, refl, sym, ap, subst, ◌∙◌, append-nil, arith, get_or, true, false}
use Rattle.std.specs.Prelude.{pos}
use Rattle.std.proofs.lemmas.Bool.{false≢true}
use Rattle.block_layout.specs.declared.place.Loc.{Loc}
use Rattle.block_layout.specs.declared.place.ObjectRef.{ObjectRef}
use Rattle.block_layout.specs.declared.kind.Shape.{Shape}
use Rattle.block_layout.specs.declared.kind.Kind.TheVariants as kind
use Rattle.upc_values.specs.declared.scalar.Scalar.{Scalar}
use Rattle.upc_values.specs.declared.scalar.Scalar.TheVariants.{Int}
use Rattle.upc_values.specs.declared.action.Reply.TheVariants.{Value}
use Rattle.upc_values.specs.Openings.{Opening, IsDeclared, initial_of}
use Rattle.upc_values.specs.History.{value_reply}
use Rattle.replica_space.specs.Runs.{IsReplicaRun}
use Rattle.replica_space.specs.layer.ReplicaRows.{x, y, two_readers}
use Rattle.replica_space_readers.specs.code.Readers.{BeginsWith0, readers_after_start, four_threads, SomeOpening}

-- a relaxed action does not synchronise
relaxed : {X : Type 0} → false ≡ true → X
relaxed h = absurd (false≢true h)

-- an event may come, and the rest after it
next : {A B C : Type 0} → A → B → C → A × B × C
next a b c = (a, b, c)

-- what follows holds of each opening of four threads
four-threads : (P : Opening → Type 0)
    → ((declared : List ObjectRef) (initials : List (Loc × Scalar)) (shapes : List Shape)
    → P (record { threads = 4; declared = declared; initials = initials; shapes = shapes }))
    → (o : Opening) → o.threads ≡ 4 → P o
four-threads P h o n =
    subst (λ k. P (record { threads = k; declared = o.declared; initials = o.initials; shapes = o.shapes })) (sym n)
    (h o.declared o.initials o.shapes)

module _ (declared : List ObjectRef) (initials : List (Loc × Scalar)) (shapes : List Shape) where
  abbrev o : Opening
  o = record { threads = 4; declared = declared; initials = initials; shapes = shapes }

  -- where no object is made, a location that no message has reached has what it began with
  untouched : (l : Loc) → BeginsWith0 o l → value_reply (initial_of o (declared ++ []) l) ≡ Some (Value (Int (pos 0)))
  untouched l h = ap (λ z. value_reply (initial_of o z l)) (append-nil declared) ∙ ap value_reply h

  two_readers-from : BeginsWith0 o x → BeginsWith0 o y → IsReplicaRun o two_readers
  two_readers-from bx by =
      next (omega arith) (refl, refl, relaxed) (
      next (omega arith) (refl, refl, relaxed) (
      next (omega arith) (omega arith, omega arith, λ h. cc) (
      next (omega arith) (refl, refl, relaxed) (
      next (omega arith) (refl, untouched y by, relaxed) (
      next (omega arith) (omega arith, omega arith, λ h. cc) (
      next (omega arith) (refl, refl, relaxed) (
      next (omega arith) (refl, untouched x bx, relaxed) tt)))))))

  after_start-from : BeginsWith0 o x → BeginsWith0 o y → IsReplicaRun o readers_after_start
  after_start-from bx by =
      next (omega arith) (refl, refl, λ h to from a b. refl) (
      next (omega arith) (refl, refl, λ h to from a b. refl) (
      next (omega arith) (refl, refl, λ h to from a b. refl) (
      next (omega arith) (refl, refl, λ h to from a b. refl) (
      next (omega arith) (refl, refl, λ h to from a b. refl) (
      next (omega arith) (refl, refl, λ h to from a b. refl) (
      next (omega arith) (refl, refl, λ h to from a b. refl) (
      next (omega arith) (refl, refl, λ h to from a b. refl) (
      next (omega arith) (refl, refl, relaxed) (
      next (omega arith) (refl, refl, relaxed) (
      next (omega arith) (omega arith, omega arith, λ h. cc) (
      next (omega arith) (refl, refl, relaxed) (
      next (omega arith) (refl, untouched y by, relaxed) (
      next (omega arith) (omega arith, omega arith, λ h. cc) (
      next (omega arith) (refl, refl, relaxed) (
      next (omega arith) (refl, untouched x bx, relaxed) (
      next (omega arith) (omega arith, omega arith, λ h. cc) (
      next (omega arith) (omega arith, omega arith, λ h. cc) (
      next (omega arith) (omega arith, omega arith, λ h. cc) (
      next (omega arith) (omega arith, omega arith, λ h. cc) tt)))))))))))))))))))

pub two_readers-run : (o : Opening) → o.threads ≡ 4 → BeginsWith0 o x → BeginsWith0 o y → IsReplicaRun o two_readers
two_readers-run = four-threads (λ o. BeginsWith0 o x → BeginsWith0 o y → IsReplicaRun o two_readers) two_readers-from

pub after_start-run : (o : Opening) → o.threads ≡ 4 → BeginsWith0 o x → BeginsWith0 o y → IsReplicaRun o readers_after_start
after_start-run = four-threads (λ o. BeginsWith0 o x → BeginsWith0 o y → IsReplicaRun o readers_after_start) after_start-from

array-declared : (i : ℕ) (d : ObjectRef) → i < 1 → IsDeclared four_threads i (get_or four_threads.declared i d)
array-declared ℕ.zero d h = record {
  number = refl;
  shape = record { size = 4; cells = (0, kind.Int) ∷ [] };
  listed = refl;
  least = omega arith;
  block = omega arith;
  home = omega arith;
  whole = refl;
  whole_block = refl;
  base = refl;
}
array-declared (ℕ.suc i) d h = absurd (omega arith)

pub some-opening : SomeOpening
some-opening = record {
  opening = record {
    least = omega arith;
    most = omega arith;
    shapes = ((omega arith, (omega arith, omega arith, tt)), tt);
    sharable = ((refl, tt), tt);
    declared = array-declared;
    bytes = omega arith;
    once = tt;
    fit = tt;
    known = tt;
  };
  of_x = refl;
  of_y = refl;
  formed =
      (refl, (refl, (refl, (refl, (refl, (refl, (refl, (refl, (refl, (refl, (refl, (refl, (refl, (refl, tt))))))))))))));
}
