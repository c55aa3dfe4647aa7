-- What may be asked for by the names that replies gave.
use Rattle.std.proofs.Common.{◌≡◌, ℕ, ◌<◌, ◌≤◌, ◌*◌, ◌^◌, ◌==◌, nat_lt, ℤ, Bool, true, false, ◌&&◌, ◌||◌, List, Option}
use Rattle.std.proofs.Common.{Some, None, int_le}
use Rattle.std.specs.Prelude.{int_lt, pos, neg_ℤ}
use Rattle.std.proofs.Common.{is_some, slice_get}
use Rattle.std.specs.List.{list_any}
use Rattle.block_layout.specs.declared.kind.Kind.{Kind}
use Rattle.block_layout.specs.declared.place.Loc.{Loc}
use Rattle.block_layout.specs.declared.place.ObjectRef.{ObjectRef}
use Rattle.block_layout.specs.declared.place.SharedPtr.{SharedPtr}
use Rattle.block_layout.specs.declared.place.LocalPtr.TheVariants as local
use Rattle.block_layout.specs.Places.{in_range}
use Rattle.block_layout.specs.Pointers.{same_object}
use Rattle.block_layout.specs.Shapes.{IsShape}
use Rattle.upc_values.specs.declared.scalar.Scalar.{Scalar}
use Rattle.upc_values.specs.declared.scalar.Scalar.TheVariants.{Int, Shared, Lock}
use Rattle.upc_values.specs.declared.scalar.Value.{Value}
use Rattle.upc_values.specs.declared.scalar.Value.TheVariants as value
use Rattle.upc_values.specs.declared.action.Action.{Action}
use Rattle.upc_values.specs.declared.action.Action.TheVariants as act
use Rattle.upc_values.specs.declared.action.Reply.{Reply}
use Rattle.upc_values.specs.declared.action.Reply.TheVariants as reply
use Rattle.upc_values.specs.Lists.{Each}
use Rattle.upc_values.specs.Shapes.{fits_kind}
use Rattle.upc_values.specs.Calls.{Call, Allocates, Makes_lock, Frees, Frees_lock, Copies, Permutes, Reduces}
use Rattle.upc_values.specs.Calls.{Reduces_prefixes, Other, call_of}
use Rattle.upc_values.specs.Openings.{Opening, IsSharable, is_named}
use Rattle.upc_values.specs.Formed.{is_home, may_alloc}
use Rattle.stack_code_laws.specs.code.Names.{object_in, lock_in, objects_given, is_lock_given}
use Rattle.stack_code_laws.specs.code.Wanted.{IsCellAmong}

-- What is needed of what a thread of code begins with: some threads, and shapes of shared elements.
pub record IsGround (o : Opening) : Type 0 where
  pub least : 0 < o.threads
  pub most : o.threads ≤ 32
  pub shapes : Each IsShape o.shapes
  pub sharable : Each IsSharable o.shapes

-- A place in the piece of a given object that a thread has.
abbrev pub names : Opening → List Reply → (object : ObjectRef) (thread : ℕ) (offset : ℤ) → Bool
names o past object thread offset =
    list_any (same_object object) (objects_given o.declared past) && (nat_lt thread o.threads && in_range offset)

-- A pointer is null or names a given object.
abbrev pub knows : Opening → List Reply → SharedPtr → Bool
knows o past p = is_named o.threads (objects_given o.declared past) p

-- A number that some integer kind has (C99 6.2.5).
abbrev pub is_number : ℤ → Bool
is_number v = int_le (neg_ℤ (pos (2 ^ 63))) v && int_lt v (pos (2 ^ 64))

-- A scalar is known: it is a number that some kind has, a pointer that is null or names a given object, or a lock that
-- is null or given.
abbrev pub is_known : Opening → List Reply → Scalar → Bool
is_known o past (Int v) = is_number v
is_known o past (Shared p) = knows o past p
is_known o past (Lock l) = (l == 0) || is_lock_given past l

abbrev pub IsKnownValue : Opening → List Reply → Value → Type 0
IsKnownValue o past (value.Scalar v) = is_known o past v ≡ true
IsKnownValue o past (value.Local (local.Shared object thread offset)) = names o past object thread offset ≡ true
IsKnownValue o past (value.Local (local.Private object offset)) = in_range offset ≡ true
IsKnownValue o past (value.Local local.Null) = Unit {0}

abbrev pub gives_known : Opening → List Reply → Reply → Bool
gives_known o past (reply.Value v) = is_known o past v
gives_known o past r = true

-- What a reply names was given.
pub record IsHeard (o : Opening) (past : List Reply) (r : Reply) : Type 0 where
  pub object : (x : ObjectRef) → object_in r ≡ Some x → list_any (same_object x) (objects_given o.declared past) ≡ true
  pub lock : (l : ℕ) → lock_in r ≡ Some l → is_lock_given past l ≡ true

-- What each of the replies names was given.
abbrev pub AreHeard : Opening → List Reply → List Reply → Type 0
AreHeard o past replies = Each (IsHeard o past) replies

-- The arguments of a collective call.
abbrev pub may_call : Opening → List Reply → Call → Bool
may_call o past (Allocates n b s) = is_some (slice_get o.shapes s) && ((n * b == 0) || may_alloc o n b s)
may_call o past Makes_lock = true
may_call o past (Frees p) = knows o past p
may_call o past (Frees_lock l) = is_known o past (Lock l)
may_call o past (Copies w dst src n f) = knows o past dst && knows o past src
may_call o past (Permutes dst src perm n f) = knows o past dst && (knows o past src && knows o past perm)
may_call o past (Reduces dst src op n b k f) = knows o past dst && knows o past src
may_call o past (Reduces_prefixes dst src op n b k f) = knows o past dst && knows o past src
may_call o past Other = false

-- A cell of a kind at a location, in a given object.
abbrev pub IsCellThere : Opening → List Reply → Loc → Kind → Type 0
IsCellThere o past l k = IsCellAmong (objects_given o.declared past) o.threads o.shapes l k

-- A read of a cell of a given object, of the kind at which it is read; R holds of the kind and the location.
abbrev pub ReadsWell : Opening → List Reply → (Kind → Loc → Type 0) → Loc → Option Kind → Type 0
ReadsWell o past R l (Some k) = IsCellThere o past l k × R k l
ReadsWell o past R l None = ⊥

-- An action may be asked for by the names that were given. R holds of what a read reads.
abbrev pub IsWellFormed : Opening → List Reply → (Kind → Loc → Type 0) → Option Kind → Action → Type 0
IsWellFormed o past R kind (act.Read l s) = ReadsWell o past R l kind
IsWellFormed o past R kind (act.Write s l v) =
    (k : Kind) × IsCellThere o past l k × (fits_kind v k ≡ true) × (is_known o past v ≡ true)
IsWellFormed o past R kind (act.Lock l) = is_lock_given past l ≡ true
IsWellFormed o past R kind (act.Attempt l) = is_lock_given past l ≡ true
IsWellFormed o past R kind (act.Unlock l) = is_lock_given past l ≡ true
IsWellFormed o past R kind (act.LockFree l) = is_lock_given past l ≡ true
IsWellFormed o past R kind (act.Alloc n b h s) =
    ((may_alloc o n b s && is_home o.threads h) ≡ true) × (n < 2 ^ 64) × (b < 2 ^ 64)
IsWellFormed o past R kind (act.Free p) = knows o past p ≡ true
IsWellFormed o past R kind (act.Meet c args) =
    (may_call o past (call_of c args) ≡ true) × Each (λ v. is_known o past v ≡ true) args
IsWellFormed o past R kind a = Unit {0}

-- No more is said of what a read reads.
abbrev pub AnyRead : Kind → Loc → Type 0
AnyRead k l = Unit {0}
