-- Worked examples, computed by the definitions themselves.
use Rattle.std.specs.Prelude.{ℕ, ℤ, pos, negsuc, ◌+ℤ◌, ◌≡◌, true, false, List, [], ◌∷◌, ◌++◌, replicate, codes}
use Rattle.std.specs.Fmt.{digits}
use Rattle.std.proofs.Common.{refl}
use Rattle.block_layout.specs.declared.kind.Kind.TheVariants as kind
use Rattle.block_layout.specs.declared.place.Loc.{Loc}
use Rattle.integers.specs.declared.operator.BinOp.TheVariants as op
use Rattle.upc_values.specs.declared.scalar.Scalar.TheVariants.{Int}
use Rattle.upc_values.specs.declared.scalar.Mark.TheVariants.{Absent, Start, Finish}
use Rattle.upc_values.specs.declared.action.Action.{Action}
use Rattle.upc_values.specs.declared.action.Action.TheVariants as act
use Rattle.upc_values.specs.declared.action.Reply.{Reply}
use Rattle.upc_values.specs.declared.action.Reply.TheVariants.{Done, Value}
use Rattle.upc_values.specs.declared.library.LibraryCall.TheVariants.{Printf}
use Rattle.upc_values.specs.declared.record.ToldEnd.{ToldEnd}
use Rattle.upc_values.specs.declared.record.ToldEnd.TheVariants as told
use Rattle.upc_values.specs.Outcomes.{Outcome}
use Rattle.typing_rules.specs.Library.{int, void, plain}
use Rattle.typed_tree.specs.Tree.{Expr, InitialValue, Statement, SwitchItems, NoSwitchItems, AndCase, AndDefault}
use Rattle.typed_tree.specs.Tree.{AndSwitchStatement, Function}
use Rattle.typed_tree.specs.Programs.{Checked}
use Rattle.thread_steps.specs.Actions.{ask, tick, notify, wait}
use Rattle.thread_steps.specs.Accesses.{load, save}
use Rattle.thread_steps.specs.Pointers.{advance, difference, same}
use Rattle.thread_steps.specs.Operators.{operate, apply, cast}
use Rattle.thread_steps.specs.Blocks.{open_block, close_block, local_object, begin_call, end_call, control, release}
use Rattle.thread_steps.specs.Blocks.{mine}
use Rattle.thread_steps.specs.Library.{print}
use Rattle.source_meaning.specs.Threads.{thread_outcome, most_calls}
use Rattle.source_meaning.proofs.Trees.{pointer_to_shared}
use Rattle.source_meaning.proofs.Trees.{num, mythread, local, shared, set, grown, minus, operation, operation_at}
use Rattle.source_meaning.proofs.Trees.{both, element, cast_into, address_of, behind_pointer, call_at, call_library}
use Rattle.source_meaning.proofs.Trees.{text, shared_int, strict_int, ints, int_object, with_initial, blocked_ints}
use Rattle.source_meaning.proofs.Trees.{shared_object, block, does, gives, while_true, nothing, switch_on, leaves}
use Rattle.source_meaning.proofs.Trees.{barrier_at, notify_at, listed, local_array, if_so, head_of, for_all, exprs}
use Rattle.source_meaning.proofs.Trees.{function, program, main, column, here}

-- The outcome of a thread: its end, after the actions between the barriers.
abbrev pub outcome : List Action → ℕ → ToldEnd → Outcome
outcome actions ticks e = record { actions = actions; ticks = ticks; «end» = e }

abbrev pub begins : List Action
begins = act.Notify Start ∷ act.Wait Start ∷ []

abbrev pub ends : List Action
ends = act.Notify Finish ∷ act.Wait Finish ∷ []

-- So many replies Done.
abbrev pub done : ℕ → List Reply
done n = replicate n Done

-- `int main(void){return 0;}`
abbrev empty : Checked
empty = program 1 [] (main (block [] (gives (num (pos 0)) ∷ [])) ∷ [])

empty-ends : thread_outcome empty 0 100 (done 4) ≡ outcome (begins ++ ends) 0 (told.Ended (pos 0))
unfolding thread_outcome most_calls ask notify wait begin_call end_call open_block close_block cast
empty-ends = refl

empty-wants : thread_outcome empty 0 100 [] ≡ outcome [] 0 (told.Wants (act.Notify Start))
unfolding thread_outcome most_calls ask notify wait begin_call end_call open_block close_block cast
empty-wants = refl

-- ---- integers

-- `int main(void){return 2147483647 + 1;}`
abbrev overflows : Checked
overflows = program 1 [] (main (block [] (gives (operation_at (column 23) op.Add (num (pos 2147483647))
    (num (pos 1))) ∷ [])) ∷ [])

overflow-faults : thread_outcome overflows 0 100 (done 4) ≡ outcome begins 0 (told.Fault 1 (column 23))
unfolding thread_outcome most_calls ask notify wait begin_call open_block operate
overflow-faults = refl

-- `int main(void){return (short)40000 == -25536;}`
abbrev narrowed : Checked
narrowed =
    program 1 []
    (main (block [] (gives (operation op.Equal (cast_into (plain kind.Short) (num (pos 40000)))
    (minus (num (pos 25536)))) ∷ [])) ∷ [])

narrowed-ends : thread_outcome narrowed 0 100 (done 4) ≡ outcome (begins ++ ends) 0 (told.Ended (pos 1))
unfolding thread_outcome most_calls ask notify wait begin_call end_call open_block close_block
    operate apply cast
narrowed-ends = refl

-- ---- ticks

-- `int main(void){while(1);return 0;}`
abbrev endless : Checked
endless = program 1 [] (main (block [] (while_true nothing ∷ gives (num (pos 0)) ∷ [])) ∷ [])

endless-spends : thread_outcome endless 0 10 (done 2) ≡ outcome begins 10 told.OutOfTicks
unfolding thread_outcome most_calls ask notify wait begin_call open_block tick
endless-spends = refl

-- It beats at its 1,024th tick.
endless-beats : thread_outcome endless 0 1030 (done 3) ≡ outcome (begins ++ act.Beat ∷ []) 1030 told.OutOfTicks
unfolding thread_outcome most_calls ask notify wait begin_call open_block tick
endless-beats = refl

-- `strict shared int x; int main(void){while(1) x=1;return 0;}`
abbrev writing : Checked
writing =
    program 1 (shared_object strict_int 1 ∷ [])
    (main (block [] (while_true (does (set (shared strict_int 1) (num (pos 1)))) ∷ [])) ∷ [])

abbrev pub at_object : (object thread : ℕ) → Loc
at_object object thread = record { object = object; thread = thread; offset = 0 }

abbrev writes_one : Action
writes_one = act.Write true (at_object 1 0) (Int (pos 1))

writing-wants :
    thread_outcome writing 0 100 (done 5)
    ≡ outcome (begins ++ replicate 3 writes_one) 4 (told.Wants writes_one)
unfolding thread_outcome most_calls ask notify wait begin_call open_block close_block tick cast save
writing-wants = refl

-- ---- accesses

-- `shared int x; int main(void){return x++;}`: a read, and then a write.
abbrev grows : Checked
grows = program 1 (shared_object shared_int 1 ∷ []) (main (block [] (gives (grown (shared shared_int 1)) ∷ [])) ∷ [])

grows-reads :
    thread_outcome grows 0 100 (done 2 ++ Value (Int (pos 7)) ∷ done 3)
    ≡ outcome
    (begins ++ act.Read (at_object 1 0) false ∷ act.Write false (at_object 1 0) (Int (pos 8)) ∷ ends) 0
    (told.Ended (pos 7))
unfolding thread_outcome most_calls ask notify wait begin_call end_call open_block close_block
    operate cast load save
grows-reads = refl

-- A reply that is no int does not fit the read: it is reply 2.
grows-misfits :
    thread_outcome grows 0 100 (done 2 ++ Value (Int (pos 2147483648)) ∷ done 3) ≡ outcome begins 0 (told.Misfit 2)
unfolding thread_outcome most_calls ask notify wait begin_call end_call open_block close_block
    operate cast load save
grows-misfits = refl

-- `shared int x; int main(void){return x && 1 / 0;}`: where x is 0 the right side is not evaluated.
abbrev stops : Checked
stops =
    program 1 (shared_object shared_int 1 ∷ [])
    (main
    (block [] (gives (both (shared shared_int 1) (operation_at (column 9) op.Divide (num (pos 1)) (num (pos 0)))) ∷ []))
    ∷ [])

stops-at-0 :
    thread_outcome stops 0 100 (done 2 ++ Value (Int (pos 0)) ∷ done 2)
    ≡ outcome (begins ++ act.Read (at_object 1 0) false ∷ ends) 0 (told.Ended (pos 0))
unfolding thread_outcome most_calls ask notify wait begin_call end_call open_block close_block
    operate cast load
stops-at-0 = refl

goes-on-at-1 :
    thread_outcome stops 0 100 (done 2 ++ Value (Int (pos 1)) ∷ done 2)
    ≡ outcome (begins ++ act.Read (at_object 1 0) false ∷ []) 0 (told.Fault 2 (column 9))
unfolding thread_outcome most_calls ask notify wait begin_call end_call open_block close_block
    operate cast load
goes-on-at-1 = refl

-- ---- upc_forall

-- `upc_forall (i = from; i < to; i++; i) body`, with i the n-th local int.
abbrev turns : (n : ℕ) (from to : ℤ) → Statement → Statement
turns n from to body =
    for_all (head_of (set (local n) (num from)) (operation op.Less (local n) (num to)) (grown (local n))) (local n) body

-- `shared int x; int main(void){int i; upc_forall (i = -2; i < 2; i++; i) x = i; return 0;}` on four threads
abbrev shared_out : Checked
shared_out =
    program 4 (shared_object shared_int 1 ∷ [])
    (main
    (block (int_object 0 ∷ [])
    (turns 0 (negsuc 1) (pos 2) (does (set (shared shared_int 1) (local 0))) ∷ gives (num (pos 0)) ∷ []))
    ∷ [])

abbrev writes : ℤ → Outcome
writes v = outcome (begins ++ act.Write false (at_object 1 0) (Int v) ∷ ends) 5 (told.Ended (pos 0))

turn-of-2 : thread_outcome shared_out 2 100 (done 5) ≡ writes (negsuc 1)
unfolding thread_outcome most_calls ask notify wait begin_call end_call open_block close_block
    local_object tick control release mine operate cast load save
turn-of-2 = refl

turn-of-3 : thread_outcome shared_out 3 100 (done 5) ≡ writes (negsuc 0)
unfolding thread_outcome most_calls ask notify wait begin_call end_call open_block close_block
    local_object tick control release mine operate cast load save
turn-of-3 = refl

turn-of-0 : thread_outcome shared_out 0 100 (done 5) ≡ writes (pos 0)
unfolding thread_outcome most_calls ask notify wait begin_call end_call open_block close_block
    local_object tick control release mine operate cast load save
turn-of-0 = refl

turn-of-1 : thread_outcome shared_out 1 100 (done 5) ≡ writes (pos 1)
unfolding thread_outcome most_calls ask notify wait begin_call end_call open_block close_block
    local_object tick control release mine operate cast load save
turn-of-1 = refl

-- `shared int c[THREADS]; void inner(void) { int j; upc_forall (j = 0; j < 2; j++; j) c[MYTHREAD]++; } int main(void)
-- { int i; upc_forall (i =
-- 0; i < 4; i++; i) inner(); upc_barrier; if (MYTHREAD == 0) printf("%d %d\n", c[0], c[1]); return 0; }` on two threads
abbrev counters : Expr
counters = shared (ints 2) 1

abbrev inner : Function
inner = function (codes "inner") void (block (int_object 0 ∷ [])
    (turns 0 (pos 0) (pos 2) (does (grown (element counters mythread))) ∷ []))

abbrev prints : Statement
prints =
    does
    (call_library Printf int
    (exprs (text (codes "%d %d\n") ∷ element counters (num (pos 0)) ∷ element counters (num (pos 1)) ∷ [])))

abbrev outer : Function
outer =
    main
    (block (int_object 0 ∷ [])
    (turns 0 (pos 0) (pos 4) (does (call_at here 0 void (exprs [])))
    ∷ barrier_at here
    ∷ if_so (operation op.Equal mythread (num (pos 0))) prints
    ∷ gives (num (pos 0))
    ∷ []))

abbrev nested : Checked
nested = program 2 (shared_object (ints 2) 1 ∷ []) (inner ∷ outer ∷ [])

-- One `c[MYTHREAD]++` that reads this.
abbrev counts : ℤ → List Action
counts v = act.Read (at_object 1 0) false ∷ act.Write false (at_object 1 0) (Int (v +ℤ pos 1)) ∷ []

abbrev answers : ℤ → List Reply
answers v = Value (Int v) ∷ Done ∷ []

-- Thread 0 has the turns 0 and 2 of main's loop, and in each of them both turns of the loop in inner.
nested-counts :
    thread_outcome nested 0 100
    (done 2 ++ answers (pos 0) ++ answers (pos 1) ++ answers (pos 2) ++ answers (pos 3)
    ++ done 2 ++ Value (Int (pos 4)) ∷ Value (Int (pos 4)) ∷ done 3)
    ≡ outcome
    (begins ++ counts (pos 0) ++ counts (pos 1) ++ counts (pos 2) ++ counts (pos 3)
    ++ act.Notify Absent ∷ act.Wait Absent
    ∷ act.Read (at_object 1 0) false ∷ act.Read (at_object 1 1) false ∷ act.Print (codes "4 4\n") ∷ ends)
    13 (told.Ended (pos 0))
unfolding thread_outcome most_calls ask notify wait begin_call end_call open_block close_block
    local_object tick control release mine operate cast load save advance print digits
nested-counts = refl

-- `int main(void){int i; upc_forall (i = 0; i < 2; i++; i) upc_forall (; i < 2; i++; 1 / 0) ;return i;}` on one
-- thread: inside the body of the
-- outer loop the inner affinity is not evaluated.
abbrev controlled : Checked
controlled =
    program 1 []
    (main
    (block (int_object 0 ∷ [])
    (turns 0 (pos 0) (pos 2)
    (for_all (head_of (num (pos 0)) (operation op.Less (local 0) (num (pos 2))) (grown (local 0)))
    (operation op.Divide (num (pos 1)) (num (pos 0))) nothing)
    ∷ gives (local 0) ∷ []))
    ∷ [])

controlled-ends : thread_outcome controlled 0 100 (done 4) ≡ outcome (begins ++ ends) 5 (told.Ended (pos 3))
unfolding thread_outcome most_calls ask notify wait begin_call end_call open_block close_block
    local_object tick control release mine operate cast load save
controlled-ends = refl

-- ---- barriers

-- `int main(void){upc_notify;return 0;}`
abbrev notified : Checked
notified = program 1 [] (main (block [] (notify_at (column 16) ∷ gives (num (pos 0)) ∷ [])) ∷ [])

notified-faults :
    thread_outcome notified 0 100 (done 4) ≡ outcome (begins ++ act.Notify Absent ∷ []) 0 (told.Fault 10 here)
unfolding thread_outcome most_calls ask notify wait begin_call end_call open_block close_block cast
notified-faults = refl

-- `int main(void){int i; upc_forall (i = 0; i < 1; i++; 0) upc_barrier; return 0;}`
abbrev barred : Checked
barred =
    program 1 []
    (main
    (block (int_object 0 ∷ [])
    (for_all (head_of (set (local 0) (num (pos 0))) (operation op.Less (local 0) (num (pos 1))) (grown (local 0)))
    (num (pos 0))
    (barrier_at (column 57)) ∷ []))
    ∷ [])

barred-faults : thread_outcome barred 0 100 (done 4) ≡ outcome begins 1 (told.Fault 12 (column 57))
unfolding thread_outcome most_calls ask notify wait begin_call open_block
    local_object tick control mine operate cast load save
barred-faults = refl

-- ---- switch

-- `switch (n) { case 1: x += 1; default: x += 10; case 2: x += 100; break; case 3: x += 1000; }` with x the first
-- local int, which is 0 before.
abbrev adds : ℤ → Statement
adds v = does (set (local 0) (operation op.Add (local 0) (num v)))

abbrev from_3 : SwitchItems
from_3 = AndCase (pos 3) (AndSwitchStatement (adds (pos 1000)) NoSwitchItems)

abbrev from_2 : SwitchItems
from_2 = AndCase (pos 2) (AndSwitchStatement (adds (pos 100)) (AndSwitchStatement leaves from_3))

abbrev from_default : SwitchItems
from_default = AndDefault (AndSwitchStatement (adds (pos 10)) from_2)

abbrev from_1 : SwitchItems
from_1 = AndCase (pos 1) (AndSwitchStatement (adds (pos 1)) from_default)

abbrev switched : ℤ → Checked
switched n =
    program 1 []
    (main (block (int_object 0 ∷ []) (switch_on (num n) from_1 ∷ gives (local 0) ∷ [])) ∷ [])

abbrev pub comes_to : ℤ → Outcome
comes_to v = outcome (begins ++ ends) 0 (told.Ended v)

falls-through : thread_outcome (switched (pos 1)) 0 100 (done 4) ≡ comes_to (pos 111)
unfolding thread_outcome most_calls ask notify wait begin_call end_call open_block close_block
    local_object operate cast load save
falls-through = refl

breaks : thread_outcome (switched (pos 2)) 0 100 (done 4) ≡ comes_to (pos 100)
unfolding thread_outcome most_calls ask notify wait begin_call end_call open_block close_block
    local_object operate cast load save
breaks = refl

by-default : thread_outcome (switched (pos 7)) 0 100 (done 4) ≡ comes_to (pos 110)
unfolding thread_outcome most_calls ask notify wait begin_call end_call open_block close_block
    local_object operate cast load save
by-default = refl

-- ---- objects of functions

-- `int main(void){int x = 5; int a[3] = {1, 2}; { int y = x + a[1]; x = y; } return x + a[2];}`
abbrev initials : Checked
initials =
    program 1 []
    (main
    (block (with_initial (InitialValue (num (pos 5))) 0 ∷ listed 1 3 (num (pos 1) ∷ num (pos 2) ∷ []) ∷ [])
    (block
    (with_initial (InitialValue (operation op.Add (local 0) (element (local_array 1 3) (num (pos 1))))) 2 ∷ [])
    (does (set (local 0) (local 2)) ∷ [])
    ∷ gives (operation op.Add (local 0) (element (local_array 1 3) (num (pos 2)))) ∷ []))
    ∷ [])

initials-give : thread_outcome initials 0 100 (done 4) ≡ comes_to (pos 7)
unfolding thread_outcome most_calls ask notify wait begin_call end_call open_block close_block
    local_object operate cast load save advance
initials-give = refl

-- `int main(void){int a[3]; return a[3];}`: the place after the last element is none of the array.
abbrev too_far : Checked
too_far = program 1 [] (main (block (listed 0 3 [] ∷ []) (gives (element (local_array 0 3) (num (pos 3))) ∷ [])) ∷ [])

too-far-faults : thread_outcome too_far 0 100 (done 4) ≡ outcome begins 0 (told.Fault 6 here)
unfolding thread_outcome most_calls ask notify wait begin_call end_call open_block close_block
    local_object operate cast load save advance
too-far-faults = refl

-- ---- pointers-to-shared

-- `shared [3] int a[20]; int main(void){return &a[12] - &a[7];}` on four threads
abbrev row_of : Expr → Checked
row_of e = program 4 (shared_object (blocked_ints 3 20) 1 ∷ []) (main (block [] (gives e ∷ [])) ∷ [])

abbrev row : ℤ → Expr
row i = element (shared (blocked_ints 3 20) 1) (num i)

apart :
    thread_outcome (row_of (operation op.Subtract (address_of (row (pos 12))) (address_of (row (pos 7))))) 0 100
    (done 4)
    ≡ comes_to (pos 5)
unfolding thread_outcome most_calls ask notify wait begin_call end_call open_block close_block
    cast advance difference
apart = refl

-- `return &a[4] == 0;` and `return (shared [3] int *)0 == 0;`
null-is-zero :
    thread_outcome (row_of (operation op.Equal (address_of (row (pos 4))) (num (pos 0)))) 0 100 (done 4) ≡ comes_to
    (pos 0)
unfolding thread_outcome most_calls ask notify wait begin_call end_call open_block close_block
    cast advance same
null-is-zero = refl

zero-is-null :
    thread_outcome (row_of (operation op.Equal (cast_into (pointer_to_shared 3) (num (pos 0))) (num (pos 0)))) 0 100
    (done 4)
    ≡ comes_to (pos 1)
unfolding thread_outcome most_calls ask notify wait begin_call end_call open_block close_block
    cast same
zero-is-null = refl

-- `return *(&a[4] - 5);`: its offset is -4.
before-the-first :
    thread_outcome (row_of (behind_pointer (operation op.Subtract (address_of (row (pos 4))) (num (pos 5))))) 0 100
    (done 4)
    ≡ outcome begins 0 (told.Fault 5 here)
unfolding thread_outcome most_calls ask notify wait begin_call end_call open_block close_block
    cast load advance
before-the-first = refl

-- ---- calls

-- `int f(void){return f();} int main(void){return f();}`: main and 999 calls of f are active at the next call.
abbrev calls_f : Expr
calls_f = call_at (column 19) 0 int (exprs [])

abbrev recursive : Checked
recursive = program 1 [] (function (codes "f") int (block [] (gives calls_f ∷ [])) ∷ main
    (block [] (gives calls_f ∷ [])) ∷ [])

recursion-ends : thread_outcome recursive 0 2000 (done 4) ≡ outcome begins 1000 (told.Fault 19 (column 19))
unfolding thread_outcome most_calls ask notify wait begin_call end_call open_block close_block
    tick cast
recursion-ends = refl
