-- The names of the library, with their types (C99 7.19.6.3, UPC 7.2, 7.3).
use Rattle.std.specs.Prelude.{ℕ, Bool, true, false, List, [], ◌∷◌, ◌++◌, map, codes, Option, Some, None, nat_eq}
use Rattle.std.specs.Prelude.{if◌then◌else◌}
use Rattle.std.specs.Cmp.Lexicographic.{pointwise}
use Rattle.block_layout.specs.declared.kind.Kind.{Kind}
use Rattle.block_layout.specs.declared.kind.Kind.TheVariants as kinds
use Rattle.upc_types.specs.Types.{CType, Qualified, Void, Integer, Pointer, LockObject}
use Rattle.upc_types.specs.declared.ctype.Access.TheVariants.{Unsaid}
use Rattle.upc_values.specs.declared.library.ElementKind.{ElementKind}
use Rattle.upc_values.specs.declared.library.ElementKind.TheVariants as element_kind
use Rattle.upc_values.specs.declared.library.LibraryCall.{LibraryCall}
use Rattle.upc_values.specs.declared.library.LibraryCall.TheVariants.{Printf, ThreadOf, PhaseOf, AddressField}
use Rattle.upc_values.specs.declared.library.LibraryCall.TheVariants.{AffinitySize, GlobalAlloc, AllAlloc, Alloc}
use Rattle.upc_values.specs.declared.library.LibraryCall.TheVariants.{Free, AllFree, GlobalLockAlloc, AllLockAlloc}
use Rattle.upc_values.specs.declared.library.LibraryCall.TheVariants.{Lock, LockAttempt, Unlock, LockFree}
use Rattle.upc_values.specs.declared.library.LibraryCall.TheVariants.{AllLockFree, Memcpy, Memget, Memput, Memset}
use Rattle.upc_values.specs.declared.library.LibraryCall.TheVariants.{GlobalExit, Broadcast, Scatter, Gather}
use Rattle.upc_values.specs.declared.library.LibraryCall.TheVariants.{GatherAll, Exchange, Permute, Reduce}
use Rattle.upc_values.specs.declared.library.LibraryCall.TheVariants.{PrefixReduce}
use Rattle.typing_rules.specs.declared.library.LibraryConstant.{LibraryConstant}
use Rattle.typing_rules.specs.declared.library.LibraryConstant.TheVariants as library_constant
use Rattle.typing_rules.specs.declared.library.LibraryParameter.{LibraryParameter}
use Rattle.typing_rules.specs.declared.library.LibraryParameter.TheVariants.{SharedPointer, PrivatePointer}
use Rattle.typing_rules.specs.declared.library.LibraryParameter.TheVariants.{LockPointer, Size, Int, NoFunction}

-- The letters that stand for an element type in the names of the reductions (UPC 7.3).
abbrev pub letters : ElementKind → List ℕ
letters element_kind.Char = codes "C"
letters element_kind.UnsignedChar = codes "UC"
letters element_kind.Short = codes "S"
letters element_kind.UnsignedShort = codes "US"
letters element_kind.Int = codes "I"
letters element_kind.UnsignedInt = codes "UI"
letters element_kind.Long = codes "L"
letters element_kind.UnsignedLong = codes "UL"

-- How each call of the library is spelled (C99 7.19.6.3; UPC 7.2, 7.3).
abbrev pub call_name : LibraryCall → List ℕ
call_name Printf = codes "printf"
call_name ThreadOf = codes "upc_threadof"
call_name PhaseOf = codes "upc_phaseof"
call_name AddressField = codes "upc_addrfield"
call_name AffinitySize = codes "upc_affinitysize"
call_name GlobalAlloc = codes "upc_global_alloc"
call_name AllAlloc = codes "upc_all_alloc"
call_name Alloc = codes "upc_alloc"
call_name Free = codes "upc_free"
call_name AllFree = codes "upc_all_free"
call_name GlobalLockAlloc = codes "upc_global_lock_alloc"
call_name AllLockAlloc = codes "upc_all_lock_alloc"
call_name Lock = codes "upc_lock"
call_name LockAttempt = codes "upc_lock_attempt"
call_name Unlock = codes "upc_unlock"
call_name LockFree = codes "upc_lock_free"
call_name AllLockFree = codes "upc_all_lock_free"
call_name Memcpy = codes "upc_memcpy"
call_name Memget = codes "upc_memget"
call_name Memput = codes "upc_memput"
call_name Memset = codes "upc_memset"
call_name GlobalExit = codes "upc_global_exit"
call_name Broadcast = codes "upc_all_broadcast"
call_name Scatter = codes "upc_all_scatter"
call_name Gather = codes "upc_all_gather"
call_name GatherAll = codes "upc_all_gather_all"
call_name Exchange = codes "upc_all_exchange"
call_name Permute = codes "upc_all_permute"
call_name (Reduce kind) = codes "upc_all_reduce" ++ letters kind
call_name (PrefixReduce kind) = codes "upc_all_prefix_reduce" ++ letters kind

-- How each named constant of the library is spelled (UPC 7.3).
abbrev pub constant_name : LibraryConstant → List ℕ
constant_name library_constant.Add = codes "UPC_ADD"
constant_name library_constant.Multiply = codes "UPC_MULT"
constant_name library_constant.BitAnd = codes "UPC_AND"
constant_name library_constant.BitOr = codes "UPC_OR"
constant_name library_constant.BitXor = codes "UPC_XOR"
constant_name library_constant.LogicalAnd = codes "UPC_LOGAND"
constant_name library_constant.LogicalOr = codes "UPC_LOGOR"
constant_name library_constant.Least = codes "UPC_MIN"
constant_name library_constant.Greatest = codes "UPC_MAX"
constant_name library_constant.InNoSync = codes "UPC_IN_NOSYNC"
constant_name library_constant.InMySync = codes "UPC_IN_MYSYNC"
constant_name library_constant.InAllSync = codes "UPC_IN_ALLSYNC"
constant_name library_constant.OutNoSync = codes "UPC_OUT_NOSYNC"
constant_name library_constant.OutMySync = codes "UPC_OUT_MYSYNC"
constant_name library_constant.OutAllSync = codes "UPC_OUT_ALLSYNC"

-- The value of each named constant of the library, an int (UPC 7.3).
abbrev pub constant_value : LibraryConstant → ℕ
constant_value library_constant.Add = 1
constant_value library_constant.Multiply = 2
constant_value library_constant.BitAnd = 4
constant_value library_constant.BitOr = 8
constant_value library_constant.BitXor = 16
constant_value library_constant.LogicalAnd = 32
constant_value library_constant.LogicalOr = 64
constant_value library_constant.Least = 128
constant_value library_constant.Greatest = 256
constant_value library_constant.InNoSync = 1
constant_value library_constant.InMySync = 2
constant_value library_constant.InAllSync = 4
constant_value library_constant.OutNoSync = 8
constant_value library_constant.OutMySync = 16
constant_value library_constant.OutAllSync = 32

-- All element types that reductions have (UPC 7.3).
abbrev pub element_kinds : List ElementKind
element_kinds =
    element_kind.Char ∷ element_kind.UnsignedChar ∷ element_kind.Short ∷ element_kind.UnsignedShort ∷ element_kind.Int
    ∷ element_kind.UnsignedInt ∷ element_kind.Long ∷ element_kind.UnsignedLong ∷ []

-- All calls of the library (C99 7.19.6.3; UPC 7.2, 7.3).
abbrev pub calls : List LibraryCall
calls =
    (Printf ∷ ThreadOf ∷ PhaseOf ∷ AddressField ∷ AffinitySize ∷ GlobalAlloc ∷ AllAlloc ∷ Alloc ∷ Free ∷ AllFree ∷
    GlobalLockAlloc ∷ AllLockAlloc ∷ Lock ∷ LockAttempt ∷ Unlock ∷ LockFree ∷ AllLockFree ∷ Memcpy ∷ Memget ∷ Memput ∷
    Memset ∷ GlobalExit ∷ Broadcast ∷ Scatter ∷ Gather ∷ GatherAll ∷ Exchange ∷ Permute ∷ [])
    ++ (map Reduce element_kinds ++ map PrefixReduce element_kinds)

-- All named constants of the library (UPC 7.3).
abbrev pub constants : List LibraryConstant
constants =
    library_constant.Add ∷ library_constant.Multiply ∷ library_constant.BitAnd ∷ library_constant.BitOr ∷
    library_constant.BitXor ∷ library_constant.LogicalAnd ∷ library_constant.LogicalOr ∷ library_constant.Least ∷
    library_constant.Greatest ∷
    library_constant.InNoSync ∷ library_constant.InMySync ∷ library_constant.InAllSync ∷ library_constant.OutNoSync ∷
    library_constant.OutMySync ∷ library_constant.OutAllSync ∷ []

-- The first of these things whose name is this text.
abbrev pub spelled : {A : Type 0} → (A → List ℕ) → List A → List ℕ → Option A
spelled name [] text = None
spelled name (x ∷ xs) text = if pointwise nat_eq (name x) text then Some x else spelled name xs text

-- The call of the library with this name.
abbrev pub call_named : List ℕ → Option LibraryCall
call_named text = spelled call_name calls text

-- The named constant of the library with this name.
abbrev pub constant_named : List ℕ → Option LibraryConstant
constant_named text = spelled constant_name constants text

-- ---- types

-- The type of this kind, without qualifiers.
abbrev pub plain : Kind → CType
plain kind = Qualified (Integer kind) false None Unsaid

-- The type int, without qualifiers (C99 6.2.5).
abbrev pub int : CType
int = plain kinds.Int

-- The type void, without qualifiers (C99 6.2.5).
abbrev pub void : CType
void = Qualified Void false None Unsaid

-- The type `size_t`, which is unsigned long (C99 7.17).
abbrev pub size_type : CType
size_type = plain kinds.ULong

-- The type `upc_lock_t *` of lock pointers (UPC 7.2.4).
abbrev pub lock_pointer : CType
lock_pointer = Qualified (Pointer (Qualified LockObject false None Unsaid)) false None Unsaid

-- The type `shared void *`, which allocations give and many parameters have (UPC 7.2).
abbrev pub shared_void_pointer : CType
shared_void_pointer = Qualified (Pointer (Qualified Void false (Some 1) Unsaid)) false None Unsaid

-- The type of what a call of the library gives; printf gives the number of bytes as an int (C99 7.19.6.3; UPC 7.2,
-- 7.3).
abbrev pub call_result : LibraryCall → CType
call_result Printf = int
call_result ThreadOf = size_type
call_result PhaseOf = size_type
call_result AddressField = size_type
call_result AffinitySize = size_type
call_result GlobalAlloc = shared_void_pointer
call_result AllAlloc = shared_void_pointer
call_result Alloc = shared_void_pointer
call_result GlobalLockAlloc = lock_pointer
call_result AllLockAlloc = lock_pointer
call_result LockAttempt = int
call_result _ = void

-- What a call of the library takes (C99 7.19.6.3; UPC 7.2, 7.3). The arguments of printf are judged by its format.
abbrev pub call_parameters : LibraryCall → List LibraryParameter
call_parameters ThreadOf = SharedPointer ∷ []
call_parameters PhaseOf = SharedPointer ∷ []
call_parameters AddressField = SharedPointer ∷ []
call_parameters AffinitySize = Size ∷ Size ∷ Size ∷ []
call_parameters GlobalAlloc = Size ∷ Size ∷ []
call_parameters AllAlloc = Size ∷ Size ∷ []
call_parameters Alloc = Size ∷ []
call_parameters Free = SharedPointer ∷ []
call_parameters AllFree = SharedPointer ∷ []
call_parameters Lock = LockPointer ∷ []
call_parameters LockAttempt = LockPointer ∷ []
call_parameters Unlock = LockPointer ∷ []
call_parameters LockFree = LockPointer ∷ []
call_parameters AllLockFree = LockPointer ∷ []
call_parameters Memcpy = SharedPointer ∷ SharedPointer ∷ Size ∷ []
call_parameters Memget = PrivatePointer ∷ SharedPointer ∷ Size ∷ []
call_parameters Memput = SharedPointer ∷ PrivatePointer ∷ Size ∷ []
call_parameters Memset = SharedPointer ∷ Int ∷ Size ∷ []
call_parameters GlobalExit = Int ∷ []
call_parameters Broadcast = SharedPointer ∷ SharedPointer ∷ Size ∷ Int ∷ []
call_parameters Scatter = SharedPointer ∷ SharedPointer ∷ Size ∷ Int ∷ []
call_parameters Gather = SharedPointer ∷ SharedPointer ∷ Size ∷ Int ∷ []
call_parameters GatherAll = SharedPointer ∷ SharedPointer ∷ Size ∷ Int ∷ []
call_parameters Exchange = SharedPointer ∷ SharedPointer ∷ Size ∷ Int ∷ []
call_parameters Permute = SharedPointer ∷ SharedPointer ∷ SharedPointer ∷ Size ∷ Int ∷ []
call_parameters (Reduce kind) = SharedPointer ∷ SharedPointer ∷ Int ∷ Size ∷ Size ∷ NoFunction ∷ Int ∷ []
call_parameters (PrefixReduce kind) = SharedPointer ∷ SharedPointer ∷ Int ∷ Size ∷ Size ∷ NoFunction ∷ Int ∷ []
call_parameters call = []

-- The calls whose result has its type only where it is converted (UPC 7.2.2).
abbrev pub is_allocation : LibraryCall → Bool
is_allocation GlobalAlloc = true
is_allocation AllAlloc = true
is_allocation Alloc = true
is_allocation _ = false
