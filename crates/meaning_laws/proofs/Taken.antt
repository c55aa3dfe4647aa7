-- Conversions take the values of the types that convert.
use Rattle.std.proofs.Common.{◌≡◌, ◌⊎◌, inl, inr, ℕ, Bool, true, false, not, ◌&&◌, ◌||◌, List, Option, Some, None}
use Rattle.std.proofs.Common.{refl, sym}
use Rattle.std.proofs.Common.{subst, ◌∙◌, ◌==◌}
use Rattle.std.specs.Prelude.{if◌then◌else◌, is_some}
use Rattle.std.proofs.lemmas.Bool.{false≢true, and_parts, or_cases}
use Rattle.block_layout.specs.declared.kind.Kind.{Kind}
use Rattle.block_layout.specs.declared.kind.Kind.TheVariants as kind
use Rattle.upc_values.specs.declared.scalar.Scalar.TheVariants.{Int, Shared, Lock}
use Rattle.upc_values.specs.declared.scalar.Value.{Value}
use Rattle.upc_values.specs.declared.scalar.Value.TheVariants as value
use Rattle.upc_types.specs.declared.ctype.Access.{Access}
use Rattle.upc_types.specs.Types as types
use Rattle.upc_types.specs.Types.{CType, Base, Qualified, Structs, base_of}
use Rattle.upc_types.specs.Same.{same_base, same_block, is_lock_object}
use Rattle.upc_types.specs.Conversions.{is_shared, keeps_const, castable}
use Rattle.upc_types.specs.Cells.{pointer_kind, number_of}
use Rattle.typing_rules.specs.Values.{plainly, value_type}
use Rattle.thread_steps.specs.declared.cast.CastTo.{CastTo}
use Rattle.thread_steps.specs.declared.cast.CastTo.TheVariants as to
use Rattle.source_meaning.specs.Types.{pointer_conversion, conversion}
use Rattle.meaning_laws.specs.layer.Values.{IsNumber, IsOf}
use Rattle.meaning_laws.specs.layer.Uses.{IsTaken}
use Rattle.meaning_laws.specs.code.Laws.{ConversionsAreTaken}
use Rattle.meaning_laws.proofs.Operations.{Fits, kind_by, unlocked_kind, or_first}
use Rattle.meaning_laws.proofs.Uses.{same_lock, back_lock}

-- ---- what the table says of two pointers

module _ (same block keeps lock_from lock_into shared_from shared_into : Bool) where
  -- They have the same target, and where the new one leads to a shared object the old one does.
  abbrev Agree : Type 0
  Agree = (same ≡ true) × ((block ≡ true) ⊎ (shared_from ≡ true))

  agreeing : (((same && (block && keeps)) || (lock_from && (lock_into && (same && (block && keeps)))))
      || (((same && not lock_from) && ((shared_from && shared_into) && keeps))
      || (((same && not lock_from) && ((shared_from && not shared_into) && keeps)) || false))) ≡ true → Agree
  agreeing h = whole (or_cases _ _ h)
    where
      targets : (same && (block && keeps)) ≡ true → Agree
      targets i =
          let p = and_parts same (block && keeps) i in (p.0, inl (and_parts block keeps p.1).0)

      others : (both : Bool) → ((same && not lock_from) && ((shared_from && both) && keeps)) ≡ true → Agree
      others both i =
          let p = and_parts (same && not lock_from) ((shared_from && both) && keeps) i in
          let q = and_parts (shared_from && both) keeps p.1 in
          ((and_parts same (not lock_from) p.0).0, inr (and_parts shared_from both q.0).0)

      last : (b : Bool) → (b ≡ true → Agree) → (b || false) ≡ true → Agree
      last true f i = f refl
      last false f i = absurd (false≢true i)

      first : ((same && (block && keeps)) ≡ true)
          ⊎ ((lock_from && (lock_into && (same && (block && keeps)))) ≡ true) → Agree
      first (inl i) = targets i
      first (inr i) =
          targets (and_parts lock_into (same && (block && keeps))
          (and_parts lock_from (lock_into && (same && (block && keeps))) i).1).1

      second : (((same && not lock_from) && ((shared_from && shared_into) && keeps)) ≡ true)
          ⊎ ((((same && not lock_from) && ((shared_from && not shared_into) && keeps)) || false) ≡ true) → Agree
      second (inl i) = others shared_into i
      second (inr i) =
          last ((same && not lock_from) && ((shared_from && not shared_into) && keeps)) (others (not shared_into)) i

      whole : (((same && (block && keeps)) || (lock_from && (lock_into && (same && (block && keeps))))) ≡ true)
          ⊎ ((((same && not lock_from) && ((shared_from && shared_into) && keeps))
          || (((same && not lock_from) && ((shared_from && not shared_into) && keeps)) || false)) ≡ true) → Agree
      whole (inl i) = first (or_cases _ _ i)
      whole (inr i) = second (or_cases _ _ i)

-- ---- values

pub zero_taken : (into : CastTo) (v : Value) → IsNumber v → IsTaken true into v
zero_taken (to.Integer k) v h = h
zero_taken to.Nothing v h = tt
zero_taken to.Shared (value.Scalar (Int i)) h = refl
zero_taken to.OtherBlock (value.Scalar (Int i)) h = refl
zero_taken to.Local (value.Scalar (Int i)) h = refl
zero_taken to.Lock (value.Scalar (Int i)) h = refl
zero_taken into (value.Scalar (Shared p)) h = absurd h
zero_taken into (value.Scalar (Lock l)) h = absurd h
zero_taken into (value.Local p) h = absurd h

module _ (zero : Bool) where
  pub lock_taken : (v : Value) → Fits kind.Lock v → IsTaken zero to.Lock v
  lock_taken (value.Scalar (Lock l)) h = tt
  lock_taken (value.Scalar (Int i)) h = absurd (false≢true h)
  lock_taken (value.Scalar (Shared p)) h = absurd (false≢true h)
  lock_taken (value.Local p) h = absurd (false≢true h)

  pub either_taken : (b : Bool) (n block : ℕ) (v : Value) → Fits (kind.Shared n block) v
      → IsTaken zero (if b then to.Shared else to.OtherBlock) v
  either_taken true n block (value.Scalar (Shared p)) h = tt
  either_taken false n block (value.Scalar (Shared p)) h = tt
  either_taken b n block (value.Scalar (Int i)) h = absurd (false≢true h)
  either_taken b n block (value.Scalar (Lock l)) h = absurd (false≢true h)
  either_taken b n block (value.Local p) h = absurd (false≢true h)

  pub local_taken : (s : Option ℕ) (n : ℕ) (v : Value) → Fits (kind_by s n) v → IsTaken zero to.Local v
  local_taken (Some b) n (value.Scalar (Shared p)) h = tt
  local_taken (Some b) n (value.Scalar (Int i)) h = absurd (false≢true h)
  local_taken (Some b) n (value.Scalar (Lock l)) h = absurd (false≢true h)
  local_taken (Some b) n (value.Local p) h = absurd (false≢true h)
  local_taken None n (value.Local p) h = tt
  local_taken None n (value.Scalar (Int i)) h = absurd (false≢true h)
  local_taken None n (value.Scalar (Lock l)) h = absurd (false≢true h)
  local_taken None n (value.Scalar (Shared p)) h = absurd (false≢true h)

  block_taken : (s t : Option ℕ) (n : ℕ) (v : Value) → Fits (kind_by s n) v
      → (same_block s t ≡ true) ⊎ (is_shared s ≡ true)
      → IsTaken zero (if is_some t then (if same_block s t then to.Shared else to.OtherBlock) else to.Local) v
  block_taken (Some b) (Some c) n v h g = either_taken (b == c) n b v h
  block_taken None (Some c) n v h (inl g) = absurd (false≢true g)
  block_taken None (Some c) n v h (inr g) = absurd (false≢true g)
  block_taken s None n v h g = local_taken s n v h

  -- A pointer to no lock.
  plain_taken : (lock : Bool) (s t : Option ℕ) (n : ℕ) (v : Value) → lock ≡ false → Fits (kind_by s n) v
      → (same_block s t ≡ true) ⊎ (is_shared s ≡ true)
      → IsTaken zero
      (if lock then to.Lock
      else (if is_some t then (if same_block s t then to.Shared else to.OtherBlock) else to.Local)) v
  plain_taken false s t n v e h g = block_taken s t n v h g
  plain_taken true s t n v e h g = absurd (false≢true (sym e))

  locks_taken : (lock : Bool) (other : CastTo) (v : Value) → lock ≡ true → Fits kind.Lock v
      → IsTaken zero (if lock then to.Lock else other) v
  locks_taken true other v e h = lock_taken v h
  locks_taken false other v e h = absurd (false≢true e)

  no_lock : (a b : Base) → same_base a b ≡ true → is_lock_object a ≡ false → is_lock_object b ≡ false
  no_lock a b e h = by (is_lock_object b) refl
    where
      by : (l : Bool) → is_lock_object b ≡ l → l ≡ false
      by true q = absurd (false≢true (sym h ∙ back_lock a b e q))
      by false q = refl

  module _ (targets : List CType) where
    unlocked_taken : (a b : Base) (c d : Bool) (s t : Option ℕ) (x y : Access) (v : Value) → is_lock_object a ≡ false
        → same_base a b ≡ true → (same_block s t ≡ true) ⊎ (is_shared s ≡ true)
        → Fits (pointer_kind targets (Qualified a c s x)) v
        → IsTaken zero (pointer_conversion s (Qualified b d t y)) v
    unlocked_taken a b c d s t x y v free e g h =
        plain_taken (is_lock_object b) s t (number_of targets (Qualified a c s x)) v (no_lock a b e free)
        (subst (λ (k : Kind). Fits k v) (unlocked_kind targets (Qualified a c s x) free) h) g

    both_taken : (a b : Base) (c d : Bool) (s t : Option ℕ) (x y : Access) (v : Value)
        → same_base a b ≡ true → (same_block s t ≡ true) ⊎ (is_shared s ≡ true)
        → Fits (pointer_kind targets (Qualified a c s x)) v
        → IsTaken zero (pointer_conversion s (Qualified b d t y)) v
    both_taken types.LockObject b c d s t x y v e g h =
        locks_taken (is_lock_object b) _ v (same_lock types.LockObject b e refl) h
    both_taken types.Void b c d s t x y v e g h = unlocked_taken types.Void b c d s t x y v refl e g h
    both_taken (types.Integer k) b c d s t x y v e g h = unlocked_taken (types.Integer k) b c d s t x y v refl e g h
    both_taken (types.Struct m) b c d s t x y v e g h = unlocked_taken (types.Struct m) b c d s t x y v refl e g h
    both_taken (types.Array u i) b c d s t x y v e g h = unlocked_taken (types.Array u i) b c d s t x y v refl e g h
    both_taken (types.Pointer u) b c d s t x y v e g h = unlocked_taken (types.Pointer u) b c d s t x y v refl e g h

-- ---- the table

pub stuck : (b : Bool) → ((b && false) || false) ≡ true → ⊥
stuck true h = absurd (false≢true h)
stuck false h = absurd (false≢true h)

pointer_taken : (targets : List CType) (u into : CType) (zero : Bool) (v : Value)
    → castable (plainly (types.Pointer u)) into zero ≡ true → Fits (pointer_kind targets u) v
    → IsTaken zero (conversion (plainly (types.Pointer u)) into) v
pointer_taken targets u (Qualified types.Void c s x) zero v h g = tt
pointer_taken targets u (Qualified (types.Struct m) c s x) zero v h g = tt
pointer_taken targets u (Qualified (types.Array e n) c s x) zero v h g = tt
pointer_taken targets u (Qualified types.LockObject c s x) zero v h g = tt
pointer_taken targets (Qualified a d t y) (Qualified (types.Integer k) c s x) true v h g =
    absurd (stuck (is_lock_object a) h)
pointer_taken targets (Qualified a d t y) (Qualified (types.Integer k) c s x) false v h g =
    absurd (stuck (is_lock_object a) h)
pointer_taken targets (Qualified a c s x) (Qualified (types.Pointer (Qualified b d t y)) e o z) true v h g =
    let agree = agreeing (same_base a b) (same_block s t) (keeps_const c d) (is_lock_object a) (is_lock_object b)
    (is_shared s) (is_shared t) h in
    both_taken true targets a b c d s t x y v agree.0 agree.1 g
pointer_taken targets (Qualified a c s x) (Qualified (types.Pointer (Qualified b d t y)) e o z) false v h g =
    let agree = agreeing (same_base a b) (same_block s t) (keeps_const c d) (is_lock_object a) (is_lock_object b)
    (is_shared s) (is_shared t) h in
    both_taken false targets a b c d s t x y v agree.0 agree.1 g

number_taken : (k : Kind) (into : CType) (zero : Bool) (v : Value)
    → castable (plainly (types.Integer k)) into zero ≡ true → IsNumber v
    → IsTaken zero (conversion (plainly (types.Integer k)) into) v
number_taken k (Qualified types.Void c s x) zero v h g = tt
number_taken k (Qualified (types.Struct m) c s x) zero v h g = tt
number_taken k (Qualified (types.Array e n) c s x) zero v h g = tt
number_taken k (Qualified types.LockObject c s x) zero v h g = tt
number_taken k (Qualified (types.Integer j) c s x) zero v h g = g
number_taken k (Qualified (types.Pointer u) c s x) true v h g = zero_taken (pointer_conversion None u) v g
number_taken k (Qualified (types.Pointer u) c s x) false v h g = absurd (false≢true h)

-- What is neither an integer nor a pointer converts into void alone.
other_taken : (b : Base) (into : CType) (zero : Bool) (v : Value)
    → ((z : Bool) (k : Kind) (c : Bool) (s : Option ℕ) (x : Access)
    → castable (plainly b) (Qualified (types.Integer k) c s x) z ≡ true → ⊥)
    → ((z : Bool) (u : CType) (c : Bool) (s : Option ℕ) (x : Access)
    → castable (plainly b) (Qualified (types.Pointer u) c s x) z ≡ true → ⊥)
    → castable (plainly b) into zero ≡ true → IsTaken zero (conversion (plainly b) into) v
other_taken b (Qualified types.Void c s x) zero v i p h = tt
other_taken b (Qualified (types.Struct m) c s x) zero v i p h = tt
other_taken b (Qualified (types.Array e n) c s x) zero v i p h = tt
other_taken b (Qualified types.LockObject c s x) zero v i p h = tt
other_taken b (Qualified (types.Integer k) c s x) zero v i p h = absurd (i zero k c s x h)
other_taken b (Qualified (types.Pointer u) c s x) zero v i p h = absurd (p zero u c s x h)

cast_taken : (structs : Structs) (from into : CType) (zero : Bool) (v : Value)
    → castable (value_type from) into zero ≡ true → IsOf structs from v → IsTaken zero (conversion from into) v
cast_taken structs (Qualified (types.Integer k) c s x) into zero v h g = number_taken k into zero v h g
cast_taken structs (Qualified (types.Pointer u) c s x) into zero v h g =
    pointer_taken structs.targets u into zero v h g
cast_taken structs (Qualified (types.Array u n) c s x) into zero v h g =
    pointer_taken structs.targets u into zero v h g
cast_taken structs (Qualified types.Void c s x) into zero v h g =
    other_taken types.Void into zero v not_integer not_pointer h
  where
    not_integer : (z : Bool) (k : Kind) (c : Bool) (s : Option ℕ) (x : Access)
        → castable (plainly types.Void) (Qualified (types.Integer k) c s x) z ≡ true → ⊥
    not_integer true k c s x e = false≢true e
    not_integer false k c s x e = false≢true e

    not_pointer : (z : Bool) (u : CType) (c : Bool) (s : Option ℕ) (x : Access)
        → castable (plainly types.Void) (Qualified (types.Pointer u) c s x) z ≡ true → ⊥
    not_pointer true u c s x e = false≢true e
    not_pointer false u c s x e = false≢true e
cast_taken structs (Qualified (types.Struct m) c s x) into zero v h g =
    other_taken (types.Struct m) into zero v not_integer not_pointer h
  where
    not_integer : (z : Bool) (k : Kind) (c : Bool) (s : Option ℕ) (x : Access)
        → castable (plainly (types.Struct m)) (Qualified (types.Integer k) c s x) z ≡ true → ⊥
    not_integer true k c s x e = false≢true e
    not_integer false k c s x e = false≢true e

    not_pointer : (z : Bool) (u : CType) (c : Bool) (s : Option ℕ) (x : Access)
        → castable (plainly (types.Struct m)) (Qualified (types.Pointer u) c s x) z ≡ true → ⊥
    not_pointer true u c s x e = false≢true e
    not_pointer false u c s x e = false≢true e
cast_taken structs (Qualified types.LockObject c s x) into zero v h g =
    other_taken types.LockObject into zero v not_integer not_pointer h
  where
    not_integer : (z : Bool) (k : Kind) (c : Bool) (s : Option ℕ) (x : Access)
        → castable (plainly types.LockObject) (Qualified (types.Integer k) c s x) z ≡ true → ⊥
    not_integer true k c s x e = false≢true e
    not_integer false k c s x e = false≢true e

    not_pointer : (z : Bool) (u : CType) (c : Bool) (s : Option ℕ) (x : Access)
        → castable (plainly types.LockObject) (Qualified (types.Pointer u) c s x) z ≡ true → ⊥
    not_pointer true u c s x e = false≢true e
    not_pointer false u c s x e = false≢true e

pub conversions_are_taken : ConversionsAreTaken
conversions_are_taken = record {
  assigned = λ structs from into zero v h g. cast_taken structs from into zero v (or_first _ _ h) g;
  cast = λ structs from into zero v h g. cast_taken structs from into zero v h g;
}
