-- What is made of known values is known: of values that name nothing but what the opening declares or replies gave.
use Rattle.std.proofs.Common.{◌≡◌, ℕ, zero, suc, ◌<◌, ℤ, pos, ◌+ℤ◌, ◌==◌, nat_lt, Bool, true, false, ◌&&◌, ◌||◌}
use Rattle.std.proofs.Common.{List, [], ◌++◌, append-nil, refl, sym, subst, ◌∙◌, arith, lt-ltb, if◌then◌else◌}
use Rattle.std.specs.Prelude.{◌*ℤ◌, nat_le, Result, Ok, Err}
use Rattle.std.specs.List.{list_any, filter_map}
use Rattle.std.proofs.lemmas.Bool.{and_parts, and_from, or_right, or_left, leb-true}
use Rattle.std.proofs.lemmas.List.Folds.{list_any-append}
use Rattle.block_layout.specs.declared.kind.Kind.{Kind}
use Rattle.block_layout.specs.declared.kind.Kind.TheVariants as kind
use Rattle.block_layout.specs.declared.place.ObjectRef.{ObjectRef}
use Rattle.block_layout.specs.declared.place.SharedPtr.{SharedPtr}
use Rattle.block_layout.specs.declared.place.LocalPtr.{LocalPtr}
use Rattle.block_layout.specs.declared.place.LocalPtr.TheVariants as local
use Rattle.block_layout.specs.declared.run_error.TheConstants.{NULL_ACCESS, POINTER_RANGE, NOT_LOCAL}
use Rattle.block_layout.specs.Floor.{floor_div}
use Rattle.block_layout.specs.Places.{InRange, in_range}
use Rattle.block_layout.proofs.Ranges.{in_range-false}
use Rattle.block_layout.specs.Pointers.{null, is_null, same_object, element_in_row, moved}
use Rattle.block_layout.proofs.Numbers.{floor_mod-below}
use Rattle.block_layout.proofs.Pointers.{same_pointer-true}
use Rattle.shared_pointers.specs.layer.Parts.{member_pointer}
use Rattle.upc_values.specs.declared.scalar.Scalar.{Scalar}
use Rattle.upc_values.specs.declared.scalar.Scalar.TheVariants.{Int, Shared, Lock}
use Rattle.upc_values.specs.declared.scalar.Value.{Value}
use Rattle.upc_values.specs.declared.scalar.Value.TheVariants as value
use Rattle.upc_values.specs.declared.action.Reply.{Reply}
use Rattle.upc_values.specs.Views.{from_phase_0}
use Rattle.upc_values.specs.Shapes.{fits_kind, value_fits, blank, blank_value}
use Rattle.upc_values.specs.Openings.{Opening}
use Rattle.thread_steps.specs.declared.cast.CastTo.{CastTo}
use Rattle.thread_steps.specs.declared.cast.CastTo.TheVariants as to
use Rattle.thread_steps.specs.declared.elements.Elements.{Elements}
use Rattle.thread_steps.specs.States.{Thread}
use Rattle.thread_steps.specs.Values.{kept, kept_scalar, scalar_of, number_of}
use Rattle.stack_code.specs.layer.Kept.{IsKnown}
use Rattle.thread_steps.specs.Pointers.{phased, shared_value, local_value, local_moved, advanced}
use Rattle.thread_steps.specs.Pointers.{member_behind}
use Rattle.thread_steps.specs.Operators.{cast_value}
use Rattle.stack_code_laws.specs.code.Names.{object_in, objects_given}
use Rattle.stack_code_laws.specs.layer.Asking as first
use Rattle.stack_code_laws.proofs.Given.{names, knows, is_known, IsKnownValue}
use Rattle.stack_code_laws.proofs.Numbers.{number_is, converted_number}

-- A thread of a run from an opening.
abbrev pub runner : Opening → (number budget : ℕ) → Thread
runner o number budget = record { number = number; threads = o.threads; budget = budget; shapes = o.shapes }

-- The value is one that code for such a thread may name.
abbrev pub IsInRange : Opening → Value → Type 0
IsInRange o v = IsKnown o.threads o.shapes v

-- ---- what is known before any reply

module _ (o : Opening) (past : List Reply) where
  declared_given : (object : ObjectRef) → list_any (same_object object) (o.declared ++ []) ≡ true
      → list_any (same_object object) (objects_given o.declared past) ≡ true
  declared_given object h =
      list_any-append (same_object object) o.declared (filter_map object_in past)
      ∙ or_left (list_any (same_object object) o.declared) (list_any (same_object object) (filter_map object_in past))
      (subst (λ l. list_any (same_object object) l ≡ true) (append-nil o.declared) h)

  first_names : (object : ObjectRef) (thread : ℕ) (offset : ℤ) → first.names o [] object thread offset ≡ true
      → names o past object thread offset ≡ true
  first_names object thread offset h =
      let q =
      and_parts (list_any (same_object object) (o.declared ++ [])) (nat_lt thread o.threads && in_range offset) h in
      and_from (list_any (same_object object) (objects_given o.declared past))
      (nat_lt thread o.threads && in_range offset)
      (declared_given object q.0) q.1

  first_pointer : (b : Bool) (p : SharedPtr) → is_null p ≡ b → (b || first.names o [] p.object p.thread p.offset) ≡ true
      → knows o past p ≡ true
  first_pointer true p e h = or_left (is_null p) (names o past p.object p.thread p.offset) e
  first_pointer false p e h =
      or_right (is_null p) (names o past p.object p.thread p.offset) (first_names p.object p.thread p.offset h)

  first_lock : (l : ℕ) → nat_le l 0 ≡ true → is_known o past (Lock l) ≡ true
  first_lock zero h = refl
  first_lock (suc l) h = let le = leb-true (suc l) 0 h in absurd (omega arith)

  first_scalar : (v : Scalar) → first.IsKnownValue o [] (value.Scalar v) → IsInRange o (value.Scalar v)
      → is_known o past v ≡ true
  first_scalar (Int v) h k = number_is v k
  first_scalar (Shared p) h k = first_pointer (is_null p) p refl h
  first_scalar (Lock l) h k = first_lock l h

  ranged : (z : ℤ) → InRange z → (b : Bool) → in_range z ≡ b → in_range z ≡ true
  ranged z h true e = e
  ranged z h false e = absurd (in_range-false z e h)

  -- A value in range that is known before any reply is known.
  pub first_value : (v : Value) → first.IsKnownValue o [] v → IsInRange o v → IsKnownValue o past v
  first_value (value.Scalar v) h k = first_scalar v h k
  first_value (value.Local (local.Shared object thread offset)) h k = first_names object thread offset h
  first_value (value.Local (local.Private object offset)) h k = ranged offset k (in_range offset) refl
  first_value (value.Local local.Null) h k = tt

module _ (o : Opening) (past : List Reply) where
  abbrev pub Known : Value → Type 0
  Known v = IsKnownValue o past v

  -- What is computed is known, if there is no run error.
  abbrev pub KnownIn : Result Value ℕ → Type 0
  KnownIn (Ok v) = Known v
  KnownIn (Err code) = Unit {0}

  -- ---- blanks

  pub blank_known : (k : Kind) → is_known o past (blank k) ≡ true
  blank_known kind.Char = refl
  blank_known kind.UChar = refl
  blank_known kind.Short = refl
  blank_known kind.UShort = refl
  blank_known kind.Int = refl
  blank_known kind.UInt = refl
  blank_known kind.Long = refl
  blank_known kind.ULong = refl
  blank_known (kind.Shared n b) = refl
  blank_known kind.Lock = refl
  blank_known (kind.Private n) = refl

  pub blank_value_known : (k : Kind) → Known (blank_value k)
  blank_value_known kind.Char = refl
  blank_value_known kind.UChar = refl
  blank_value_known kind.Short = refl
  blank_value_known kind.UShort = refl
  blank_value_known kind.Int = refl
  blank_value_known kind.UInt = refl
  blank_value_known kind.Long = refl
  blank_value_known kind.ULong = refl
  blank_value_known (kind.Shared n b) = refl
  blank_value_known kind.Lock = refl
  blank_value_known (kind.Private n) = tt

  either_known : (b : Bool) (v w : Value) → Known v → Known w → Known (if b then v else w)
  either_known true v w h g = h
  either_known false v w h g = g

  pub kept_known : (k : Kind) (v : Value) → Known v → Known (kept k v)
  kept_known k v h = either_known (value_fits v k) v (blank_value k) h (blank_value_known k)

  either_scalar_known : (b : Bool) (v w : Scalar) → is_known o past v ≡ true → is_known o past w ≡ true
      → is_known o past (if b then v else w) ≡ true
  either_scalar_known true v w h g = h
  either_scalar_known false v w h g = g

  pub kept_scalar_known : (k : Kind) (v : Scalar) → is_known o past v ≡ true → is_known o past (kept_scalar k v) ≡ true
  kept_scalar_known k v h = either_scalar_known (fits_kind v k) v (blank k) h (blank_known k)

  pub scalar_known : (v : Value) → Known v → is_known o past (scalar_of v) ≡ true
  scalar_known (value.Scalar v) h = h
  scalar_known (value.Local p) h = refl

  -- ---- pointers

  -- A known pointer that is not null names an object.
  pub pointer_names : (p : SharedPtr) → knows o past p ≡ true → is_null p ≡ false
      → names o past p.object p.thread p.offset ≡ true
  pointer_names p h e = subst (λ b. (b || names o past p.object p.thread p.offset) ≡ true) e h

  pub names_pointer : (p : SharedPtr) → names o past p.object p.thread p.offset ≡ true → knows o past p ≡ true
  names_pointer p h = or_right (is_null p) (names o past p.object p.thread p.offset) h

  -- Another place of the object.
  moved_names : (object : ObjectRef) (t u : ℕ) (x y : ℤ) → names o past object t x ≡ true → nat_lt u o.threads ≡ true
      → in_range y ≡ true → names o past object u y ≡ true
  moved_names object t u x y h a b =
      let q =
      and_parts (list_any (same_object object) (objects_given o.declared past)) (nat_lt t o.threads && in_range x) h in
      and_from (list_any (same_object object) (objects_given o.declared past)) (nat_lt u o.threads && in_range y) q.0
      (and_from (nat_lt u o.threads) (in_range y) a b)

  thread_named : (object : ObjectRef) (t : ℕ) (x : ℤ) → names o past object t x ≡ true → nat_lt t o.threads ≡ true
  thread_named object t x h =
      let q =
      and_parts (list_any (same_object object) (objects_given o.declared past)) (nat_lt t o.threads && in_range x) h in
      (and_parts (nat_lt t o.threads) (in_range x) q.1).0

  same_thread : (object : ObjectRef) (t : ℕ) (x y : ℤ) → names o past object t x ≡ true → in_range y ≡ true
      → names o past object t y ≡ true
  same_thread object t x y h b = moved_names object t t x y h (thread_named object t x h) b

  -- A pointer that is given where it is not refused for null, nor for its range.
  by_tests : (a b : Bool) (c d : ℕ) (q : SharedPtr) → (a ≡ false → b ≡ true → knows o past q ≡ true)
      → KnownIn (shared_value (if a then Err c else if b then Ok q else Err d))
  by_tests true b c d q f = tt
  by_tests false true c d q f = f refl refl
  by_tests false false c d q f = tt

  null_phase : (p : SharedPtr) → is_null p ≡ true → is_null (from_phase_0 p) ≡ true
  null_phase p e = subst (λ q. is_null (from_phase_0 q) ≡ true) (sym (same_pointer-true p null e)) refl

  pub phase_0_known : (p : SharedPtr) → knows o past p ≡ true → knows o past (from_phase_0 p) ≡ true
  phase_0_known p h = by_null (is_null p) refl
    where
      by_null : (b : Bool) → is_null p ≡ b → knows o past (from_phase_0 p) ≡ true
      by_null true e = or_left (is_null (from_phase_0 p)) (names o past p.object p.thread p.offset) (null_phase p e)
      by_null false e =
          or_right (is_null (from_phase_0 p)) (names o past p.object p.thread p.offset) (pointer_names p h e)

  either_pointer : (b : Bool) (p : SharedPtr) → knows o past p ≡ true
      → knows o past (if b then p else record p { phase = 0 }) ≡ true
  either_pointer true p h = h
  either_pointer false p h = phase_0_known p h

  phased_known : (ε : Elements) (p : SharedPtr) → knows o past p ≡ true → knows o past (phased ε p) ≡ true
  phased_known ε p h = either_pointer (p.phase == 0 || nat_lt p.phase ε.block) p h

  module _ (some : 0 < o.threads) where
    steps_known : (p : SharedPtr) (i : ℤ) (block size : ℕ) → names o past p.object p.thread p.offset ≡ true
        → in_range (moved p i block size o.threads).offset ≡ true → knows o past (moved p i block size o.threads) ≡ true
    steps_known p i zero size h b =
        let q = moved p i zero size o.threads in
        names_pointer q (same_thread p.object p.thread p.offset q.offset h b)
    steps_known p i (suc n) size h b =
        let q = moved p i (suc n) size o.threads in
        names_pointer q
        (moved_names p.object p.thread q.thread p.offset q.offset h
        (lt-ltb q.thread o.threads
        (floor_mod-below (floor_div (pos (element_in_row p (suc n)) +ℤ i) (suc n)) o.threads some)) b)

  -- Pointers-to-local.
  ranged_known : (b : Bool) (c : ℕ) (p : LocalPtr) → (b ≡ true → Known (value.Local p))
      → KnownIn (local_value (if b then Ok p else Err c))
  ranged_known true c p f = f refl
  ranged_known false c p f = tt

  local_known : (p : LocalPtr) (bytes : ℤ) → Known (value.Local p) → KnownIn (local_value (local_moved p bytes))
  local_known local.Null bytes h = tt
  local_known (local.Private object offset) bytes h =
      ranged_known (in_range (offset +ℤ bytes)) POINTER_RANGE (local.Private object (offset +ℤ bytes)) (λ e. e)
  local_known (local.Shared object thread offset) bytes h =
      ranged_known (in_range (offset +ℤ bytes)) POINTER_RANGE (local.Shared object thread (offset +ℤ bytes))
      (λ e. same_thread object thread offset (offset +ℤ bytes) h e)

  module _ (some : 0 < o.threads) (number budget : ℕ) where
    pub advanced_known : (ε : Elements) (i : ℤ) (v : Value) → Known v
        → KnownIn (advanced (runner o number budget) ε i v)
    advanced_known ε i (value.Scalar (Shared p)) h =
        let q = phased ε p in
        by_tests (is_null q) (in_range (moved q i ε.block ε.size o.threads).offset) NULL_ACCESS POINTER_RANGE
        (moved q i ε.block ε.size o.threads)
        (λ a b. steps_known some q i ε.block ε.size (pointer_names q (phased_known ε p h) a) b)
    advanced_known ε i (value.Local p) h = local_known p (i *ℤ pos ε.size) h
    advanced_known ε i (value.Scalar (Int v)) h = tt
    advanced_known ε i (value.Scalar (Lock v)) h = tt

  module _ (number budget : ℕ) where
    pub member_known : (offset : ℕ) (v : Value) → Known v → KnownIn (member_behind (runner o number budget) offset v)
    member_known offset (value.Scalar (Shared p)) h =
        let q = member_pointer p offset in
        by_tests (is_null p) (in_range (p.offset +ℤ pos offset)) NULL_ACCESS POINTER_RANGE q
        (λ a b. names_pointer q (same_thread p.object p.thread p.offset q.offset (pointer_names p h a) b))
    member_known offset (value.Local p) h = local_known p (pos offset) h
    member_known offset (value.Scalar (Int v)) h = tt
    member_known offset (value.Scalar (Lock v)) h = tt

    to_local : (a b : Bool) (c : ℕ) (p : LocalPtr) → (a ≡ false → Known (value.Local p))
        → KnownIn (local_value (if a then Ok local.Null else if b then Ok p else Err c))
    to_local true b c p f = tt
    to_local false true c p f = f refl
    to_local false false c p f = tt

    pub cast_known : (into : CastTo) (v : Value) → Known v → KnownIn (cast_value (runner o number budget) into v)
    cast_known (to.Integer k) v h = converted_number k (number_of v)
    cast_known to.Shared (value.Scalar (Shared p)) h = h
    cast_known to.Shared (value.Scalar (Int v)) h = refl
    cast_known to.Shared (value.Scalar (Lock v)) h = refl
    cast_known to.Shared (value.Local p) h = refl
    cast_known to.OtherBlock (value.Scalar (Shared p)) h = phase_0_known p h
    cast_known to.OtherBlock (value.Scalar (Int v)) h = refl
    cast_known to.OtherBlock (value.Scalar (Lock v)) h = refl
    cast_known to.OtherBlock (value.Local p) h = refl
    cast_known to.Local (value.Scalar (Shared p)) h =
        to_local (is_null p) (p.thread == number) NOT_LOCAL (local.Shared p.object p.thread p.offset)
        (λ e. pointer_names p h e)
    cast_known to.Local (value.Local p) h = h
    cast_known to.Local (value.Scalar (Int v)) h = tt
    cast_known to.Local (value.Scalar (Lock v)) h = tt
    cast_known to.Lock (value.Scalar (Lock l)) h = h
    cast_known to.Lock (value.Scalar (Int v)) h = refl
    cast_known to.Lock (value.Scalar (Shared p)) h = refl
    cast_known to.Lock (value.Local p) h = refl
    cast_known to.Nothing v h = refl
