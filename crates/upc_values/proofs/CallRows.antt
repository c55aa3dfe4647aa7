-- Worked rows on locks, allocations, collective calls and copies, computed by the definitions themselves.
use Rattle.std.specs.Prelude.{ℕ, ◌≡◌, pos, negsuc, true, false, List, [], ◌∷◌, ◌++◌, map, Option, Some, None}
use Rattle.std.proofs.Common.{refl}
use Rattle.block_layout.specs.declared.place.Loc.{Loc}
use Rattle.block_layout.specs.declared.place.ObjectRef.{ObjectRef}
use Rattle.block_layout.specs.declared.place.SharedPtr.{SharedPtr}
use Rattle.block_layout.specs.declared.place.LocalPtr.TheVariants.{Private}
use Rattle.block_layout.specs.declared.kind.Kind.TheVariants as kind
use Rattle.block_layout.specs.declared.kind.Shape.{Shape}
use Rattle.block_layout.specs.Pointers.{null, location}
use Rattle.upc_values.specs.declared.scalar.Scalar.{Scalar}
use Rattle.upc_values.specs.layer.Parts.{shared_area, local_area}
use Rattle.upc_values.specs.declared.scalar.Scalar.TheVariants.{Int, Shared, Lock}
use Rattle.upc_values.specs.declared.scalar.Mark.TheVariants.{Absent, Given}
use Rattle.upc_values.specs.declared.action.Action.{Action}
use Rattle.upc_values.specs.declared.action.Action.TheVariants as act
use Rattle.upc_values.specs.declared.action.Reply.{Reply}
use Rattle.upc_values.specs.declared.action.Reply.TheVariants.{Done, Value, Flag, Refused}
use Rattle.upc_values.specs.declared.journal.Entry.{Entry}
use Rattle.upc_values.specs.Drain.{entry_of}
use Rattle.upc_values.specs.Openings.{Opening}
use Rattle.upc_values.specs.History.{reply}
use Rattle.upc_values.specs.Expansion.{Expansion, Gives, Fails, Reads, Asks, Loads, Stores, value_in}
use Rattle.upc_values.specs.Copying.{copy, set}
use Rattle.upc_values.specs.Expansions.{Part, parts, collective}
use Rattle.upc_values.specs.Calls.{Gather, Gather_all, Exchange}
use Rattle.upc_values.specs.Views.{byte_at, destination}
use Rattle.upc_values.specs.Collective.{source_byte}

-- two threads, no declared objects, elements of type int
abbrev opening : Opening
opening = record { threads = 2; declared = []; initials = []; shapes = record { size = 4; cells = (0, kind.Int) ∷ [] } ∷ [] }

abbrev after : List Entry → ℕ → Action → Option Reply
after es t a = reply opening es t a

-- locks: one is made, and thread 1 takes it
abbrev held : List Entry
held = entry_of 0 0 act.LockMake (Value (Lock 1)) ∷ entry_of 1 0 (act.Lock 1) Done ∷ []

abbrev let_go : List Entry
let_go = held ++ entry_of 1 1 (act.Unlock 1) Done ∷ []

abbrev freed : List Entry
freed = let_go ++ entry_of 0 1 (act.LockFree 1) Done ∷ []

lock-makes : after [] 0 act.LockMake ≡ Some (Value (Lock 1))
lock-makes = refl

lock-makes-next : after held 1 act.LockMake ≡ Some (Value (Lock 2))
lock-makes-next = refl

lock-waits : after held 0 (act.Lock 1) ≡ None
lock-waits = refl

lock-again : after held 1 (act.Lock 1) ≡ Some (Refused 13)
lock-again = refl

lock-attempt : after held 0 (act.Attempt 1) ≡ Some (Flag false)
lock-attempt = refl

lock-not-held : after held 0 (act.Unlock 1) ≡ Some (Refused 14)
lock-not-held = refl

lock-free : after let_go 0 (act.Attempt 1) ≡ Some (Flag true)
lock-free = refl

lock-freed : after freed 0 (act.Lock 1) ≡ Some (Refused 15)
lock-freed = refl

lock-given-up : after freed 0 (act.LockFree 1) ≡ Some (Refused 15)
lock-given-up = refl

-- upc_all_lock_free: the lock stays usable until both threads have recorded theirs
abbrev one_gave : List Entry
one_gave = let_go ++ entry_of 0 1 (act.Meet 4 (Lock 1 ∷ [])) Done ∷ []

one-gave : after one_gave 1 (act.Lock 1) ≡ Some Done
one-gave = refl

one-gave-free : after one_gave 1 (act.LockFree 1) ≡ Some (Refused 15)
one-gave-free = refl

both-gave : after (one_gave ++ entry_of 1 2 (act.Meet 4 (Lock 1 ∷ [])) Done ∷ []) 1 (act.Lock 1) ≡ Some (Refused 15)
both-gave = refl

other-gave : after one_gave 1 (act.Meet 4 (Lock 2 ∷ [])) ≡ Some (Refused 17)
other-gave = refl

-- allocations: upc_global_alloc(3, 8), then upc_alloc(4) on thread 1
abbrev first : SharedPtr
first =
    record {
      object = record { number = 1; total = 24; block = 8; home = 0; shape = 0; base = 0 };
      thread = 0;
      phase = 0;
      offset = pos 0;
    }

abbrev second : SharedPtr
second =
    record {
      object = record { number = 2; total = 4; block = 0; home = 1; shape = 0; base = 24 };
      thread = 1;
      phase = 0;
      offset = pos 0;
    }

abbrev three : List Entry
three = entry_of 0 0 (act.Alloc 3 8 None 0) (Value (Shared first)) ∷ []

alloc-first : after [] 0 (act.Alloc 3 8 None 0) ≡ Some (Value (Shared first))
alloc-first = refl

alloc-second : after three 1 (act.Alloc 1 4 (Some 1) 0) ≡ Some (Value (Shared second))
alloc-second = refl

alloc-too-much : after three 1 (act.Alloc 1 16777196 None 0) ≡ Some (Refused 21)
alloc-too-much = refl

alloc-begins : after three 1 (act.Read (record { object = 1; thread = 1; offset = 4 }) false) ≡ Some (Value (Int (pos 0)))
alloc-begins = refl

no-cell : after three 1 (act.Read (record { object = 1; thread = 1; offset = 8 }) false) ≡ None
no-cell = refl

free-done : after three 1 (act.Free (record first { phase = 1 })) ≡ Some Done
free-done = refl

free-inside : after three 1 (act.Free (record first { offset = pos 4 })) ≡ Some (Refused 16)
free-inside = refl

free-again : after (three ++ entry_of 1 0 (act.Free first) Done ∷ []) 0 (act.Free first) ≡ Some (Refused 16)
free-again = refl

-- upc_all_alloc: the first recorded one makes the object, the other has its reply
abbrev all_alloc : Action
all_alloc = act.Meet 1 (Int (pos 3) ∷ Int (pos 8) ∷ Int (pos 0) ∷ [])

all-alloc : after [] 1 all_alloc ≡ Some (Value (Shared first))
all-alloc = refl

all-alloc-both : after (entry_of 1 0 all_alloc (Value (Shared first)) ∷ []) 0 all_alloc ≡ Some (Value (Shared first))
all-alloc-both = refl

all-alloc-differs : after (entry_of 1 0 all_alloc (Value (Shared first)) ∷ []) 0 (act.Meet 2 []) ≡ Some (Refused 17)
all-alloc-differs = refl

all-alloc-none : after [] 0 (act.Meet 1 (Int (pos 0) ∷ Int (pos 3) ∷ Int (pos 0) ∷ [])) ≡ Some (Value (Shared null))
all-alloc-none = refl

-- a wait's value differs from a notify's
abbrev notified : List Entry
notified = entry_of 0 0 (act.Notify (Given (pos 1))) Done ∷ entry_of 1 0 (act.Notify (Given (pos 2))) Done ∷ []

wait-differs : after notified 0 (act.Wait (Given (pos 1))) ≡ Some (Refused 11)
wait-differs = refl

wait-absent : after notified 0 (act.Wait Absent) ≡ Some Done
wait-absent = refl

-- what is asked for on these replies, and how it ends: 0, a run error, or 100 where a reply is wanted
abbrev add : Action → List Action × ℕ → List Action × ℕ
add a x = (a ∷ x.0, x.1)

abbrev trace : Expansion (Unit {0}) → List Reply → List Action × ℕ
trace (Gives v) rs = ([], 0)
trace (Fails c) rs = ([], c)
trace (Reads l k go) [] = ([], 100)
trace (Reads l k go) (r ∷ rs) = add (act.Read l false) (trace (go (value_in r)) rs)
trace (Asks a go) [] = ([], 100)
trace (Asks a go) (r ∷ rs) = add a (trace (go r) rs)
trace (Loads p k go) [] = ([], 100)
trace (Loads p k go) (r ∷ rs) = trace (go (value_in r)) rs
trace (Stores p k v go) rs = trace go rs

-- shared [] int s[8]; shared [2] int d[8]; shared int r; on four threads
abbrev ints : List Shape
ints = record { size = 4; cells = (0, kind.Int) ∷ [] } ∷ []

abbrev start_of : ObjectRef → SharedPtr
start_of o = record { object = o; thread = 0; phase = 0; offset = pos 0 }

abbrev s : SharedPtr
s = start_of (record { number = 1; total = 32; block = 0; home = 0; shape = 0; base = 0 })

abbrev d : SharedPtr
d = start_of (record { number = 2; total = 32; block = 8; home = 0; shape = 0; base = 32 })

abbrev r : SharedPtr
r = start_of (record { number = 3; total = 4; block = 4; home = 0; shape = 0; base = 64 })

abbrev loc : ℕ → ℕ → ℕ → Loc
loc n t x = record { object = n; thread = t; offset = x }

abbrev int : ℕ → Scalar
int n = Int (pos n)

abbrev scatter : List Scalar
scatter = Shared d ∷ Shared s ∷ int 8 ∷ int 0 ∷ []

scatter-third : trace (collective 4 ints 2 6 scatter) (Done ∷ Done ∷ Done ∷ Value (int 5) ∷ Done ∷ Value (int 6) ∷ Done ∷ Done ∷ Done ∷ []) ≡ (act.Meet 6 scatter ∷ act.Notify Absent ∷ act.Wait Absent ∷ act.Read (loc 1 0 16) false ∷ act.Write false (loc 2 2 0) (int 5) ∷ act.Read (loc 1 0 20) false ∷ act.Write false (loc 2 2 4) (int 6) ∷ act.Notify Absent ∷ act.Wait Absent ∷ [], 0)
scatter-third = refl

-- &d[2] is on thread 1
scatter-elsewhere : trace (collective 4 ints 2 6 (Shared (record d { thread = 1 }) ∷ Shared s ∷ int 8 ∷ int 0 ∷ [])) [] ≡ ([], 22)
scatter-elsewhere = refl

scatter-null : trace (collective 4 ints 2 6 (Shared null ∷ Shared s ∷ int 8 ∷ int 3 ∷ [])) [] ≡ ([], 4)
scatter-null = refl

-- 3 bytes cut an int; 12 bytes leave the pieces of d
scatter-cut : trace (collective 4 ints 2 6 (Shared d ∷ Shared s ∷ int 3 ∷ int 9 ∷ [])) (Done ∷ []) ≡ (act.Meet 6 (Shared d ∷ Shared s ∷ int 3 ∷ int 9 ∷ []) ∷ [], 18)
scatter-cut = refl

scatter-outside : trace (collective 4 ints 2 6 (Shared d ∷ Shared s ∷ int 12 ∷ int 9 ∷ [])) (Done ∷ []) ≡ (act.Meet 6 (Shared d ∷ Shared s ∷ int 12 ∷ int 9 ∷ []) ∷ [], 5)
scatter-outside = refl

-- the sum of d into r, by the thread of r alone; without barriers
abbrev sum : List Scalar
sum = Shared r ∷ Shared d ∷ int 1 ∷ int 4 ∷ int 2 ∷ int 4 ∷ int 9 ∷ []

sum-first : trace (collective 4 ints 0 11 sum) (Done ∷ Value (int 1) ∷ Value (int 2) ∷ Value (int 3) ∷ Value (int 4) ∷ Done ∷ []) ≡ (act.Meet 11 sum ∷ act.Read (loc 2 0 0) false ∷ act.Read (loc 2 0 4) false ∷ act.Read (loc 2 1 0) false ∷ act.Read (loc 2 1 4) false ∷ act.Write false (loc 3 0 0) (int 10) ∷ [], 0)
sum-first = refl

sum-other : trace (collective 4 ints 1 11 sum) (Done ∷ []) ≡ (act.Meet 11 sum ∷ [], 0)
sum-other = refl

sum-overflows : trace (collective 4 ints 0 11 sum) (Done ∷ Value (int 2147483647) ∷ Value (int 1) ∷ []) ≡ (act.Meet 11 sum ∷ act.Read (loc 2 0 0) false ∷ act.Read (loc 2 0 4) false ∷ [], 1)
sum-overflows = refl

-- upc_memcpy of one int of s to d[3], and upc_memset of d[0] with 255
memcpy-one : trace (copy 4 ints None (shared_area (record d { thread = 1; phase = 0; offset = pos 4 })) (shared_area s) 4) (Value (int 7) ∷ Done ∷ []) ≡ (act.Read (loc 1 0 0) false ∷ act.Write false (loc 2 1 4) (int 7) ∷ [], 0)
memcpy-one = refl

memset-one : trace (set 4 ints None (shared_area d) 255 4) (Done ∷ []) ≡ (act.Write false (loc 2 0 0) (Int (negsuc 0)) ∷ [], 0)
memset-one = refl

-- upc_memput from a private object that has ended
memput-ended : trace (copy 4 ints None (shared_area d) (local_area (Private 3 (pos 0))) 4) [] ≡ ([], 6)
memput-ended = refl

-- the exchange of two threads' blocks of two ints: what goes where, by the call's parts and by its bytes
abbrev b : SharedPtr
b = start_of (record { number = 1; total = 16; block = 8; home = 0; shape = 0; base = 0 })

abbrev c : SharedPtr
c = start_of (record { number = 2; total = 16; block = 8; home = 0; shape = 0; base = 16 })

abbrev spots : List Part → List (Loc × Loc)
spots xs = map (λ x. (location x.into, location x.from)) xs

exchange-parts : spots (parts 2 ints 1 Exchange c b 4) ≡ (loc 2 1 0, loc 1 0 4) ∷ (loc 2 1 4, loc 1 1 4) ∷ []
exchange-parts = refl

exchange-bytes : map (λ x. source_byte Exchange 2 4 x) (0 ∷ 3 ∷ 4 ∷ 8 ∷ 12 ∷ []) ≡ 0 ∷ 3 ∷ 8 ∷ 4 ∷ 12 ∷ []
exchange-bytes = refl

exchange-begins : location (byte_at c (destination Exchange 2 4).block 2 8) ≡ loc 2 1 0
exchange-begins = refl

gather-all-parts : spots (parts 2 ints 1 Gather_all c b 4) ≡ (loc 2 1 0, loc 1 0 0) ∷ (loc 2 1 4, loc 1 1 0) ∷ []
gather-all-parts = refl

gather-parts : spots (parts 2 ints 0 Gather c b 4) ≡ (loc 2 0 0, loc 1 0 0) ∷ (loc 2 0 4, loc 1 1 0) ∷ []
gather-parts = refl

-- permute: element i of the permutation is the thread that gets block i
abbrev q : SharedPtr
q = start_of (record { number = 3; total = 8; block = 4; home = 0; shape = 0; base = 32 })

abbrev swap : List Scalar
swap = Shared c ∷ Shared b ∷ Shared q ∷ int 4 ∷ int 9 ∷ []

permute-row : trace (collective 2 ints 0 10 swap) (Done ∷ Value (int 1) ∷ Value (int 0) ∷ Value (int 7) ∷ Done ∷ []) ≡ (act.Meet 10 swap ∷ act.Read (loc 3 0 0) false ∷ act.Read (loc 3 1 0) false ∷ act.Read (loc 1 1 0) false ∷ act.Write false (loc 2 0 0) (int 7) ∷ [], 0)
permute-row = refl

permute-twice : trace (collective 2 ints 0 10 swap) (Done ∷ Value (int 1) ∷ Value (int 1) ∷ []) ≡ (act.Meet 10 swap ∷ act.Read (loc 3 0 0) false ∷ act.Read (loc 3 1 0) false ∷ [], 22)
permute-twice = refl

-- with no bytes a permute still reads its permutation, and a scatter does nothing more than meet
abbrev none : List Scalar
none = Shared c ∷ Shared b ∷ Shared q ∷ int 0 ∷ int 9 ∷ []

permute-none : trace (collective 2 ints 0 10 none) (Done ∷ Value (int 1) ∷ Value (int 0) ∷ []) ≡ (act.Meet 10 none ∷ act.Read (loc 3 0 0) false ∷ act.Read (loc 3 1 0) false ∷ [], 0)
permute-none = refl

prefix-row : trace (collective 2 ints 0 12 (Shared c ∷ Shared b ∷ int 2 ∷ int 3 ∷ int 2 ∷ int 4 ∷ int 9 ∷ [])) (Done ∷ Value (int 2) ∷ Done ∷ Value (int 3) ∷ Done ∷ Value (int 4) ∷ Done ∷ []) ≡ (act.Meet 12 (Shared c ∷ Shared b ∷ int 2 ∷ int 3 ∷ int 2 ∷ int 4 ∷ int 9 ∷ []) ∷ act.Read (loc 1 0 0) false ∷ act.Write false (loc 2 0 0) (int 2) ∷ act.Read (loc 1 0 4) false ∷ act.Write false (loc 2 0 4) (int 6) ∷ act.Read (loc 1 1 0) false ∷ act.Write false (loc 2 1 0) (int 24) ∷ [], 0)
prefix-row = refl
