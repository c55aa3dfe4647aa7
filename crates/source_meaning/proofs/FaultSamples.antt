-- Worked examples of run errors: those that a thread finds, and those that the shared memory replies.
use Rattle.std.specs.Prelude.{ℕ, ℤ, pos, ◌≡◌, false, List, [], ◌∷◌, ◌++◌, Some, None}
use Rattle.std.proofs.Common.{refl}
use Rattle.block_layout.specs.declared.kind.Kind.TheVariants as kind
use Rattle.block_layout.specs.declared.kind.Shape.{Shape}
use Rattle.block_layout.specs.declared.place.SharedPtr.{SharedPtr}
use Rattle.integers.specs.declared.operator.BinOp.TheVariants as op
use Rattle.upc_values.specs.declared.scalar.Scalar.TheVariants as scalar
use Rattle.upc_values.specs.declared.scalar.Mark.TheVariants.{Given}
use Rattle.upc_values.specs.declared.action.Action.{Action}
use Rattle.upc_values.specs.declared.action.Action.TheVariants as act
use Rattle.upc_values.specs.declared.action.Reply.{Reply}
use Rattle.upc_values.specs.declared.action.Reply.TheVariants.{Value, Refused}
use Rattle.upc_values.specs.declared.library.LibraryCall.{LibraryCall}
use Rattle.upc_values.specs.declared.library.LibraryCall.TheVariants as call
use Rattle.upc_values.specs.declared.record.ToldEnd.TheVariants as told
use Rattle.upc_values.specs.Outcomes.{Outcome}
use Rattle.upc_types.specs.declared.ctype.Access.TheVariants.{Unsaid}
use Rattle.upc_types.specs.Types.{CType, Qualified, Integer, Pointer}
use Rattle.typing_rules.specs.Library.{void, size_type, lock_pointer}
use Rattle.typed_tree.specs.declared.tree.Synchronises.TheVariants.{Wait, Barrier}
use Rattle.typed_tree.specs.Tree.{Statement, Stands, Synchronise}
use Rattle.typed_tree.specs.Programs.{Checked}
use Rattle.thread_steps.specs.States.{Over}
use Rattle.thread_steps.specs.Actions.{ask, notify, wait, meet}
use Rattle.thread_steps.specs.Accesses.{load, save, library_steps}
use Rattle.thread_steps.specs.Pointers.{advance}
use Rattle.thread_steps.specs.Operators.{cast}
use Rattle.thread_steps.specs.Blocks.{open_block, local_object, begin_call}
use Rattle.thread_steps.specs.Library.{library}
use Rattle.source_meaning.specs.Threads.{initial_state, thread_outcome, most_calls}
use Rattle.source_meaning.proofs.Trees.{num, mythread, home_of, object_at, shared, operation_at, element, cast_into}
use Rattle.source_meaning.proofs.Trees.{address_of, behind_pointer, call_library, exprs, shared_int, blocked_ints}
use Rattle.source_meaning.proofs.Trees.{pointer_to_shared, object_with, shared_object, block, does, gives}
use Rattle.source_meaning.proofs.Trees.{program, main, column, here}
use Rattle.source_meaning.proofs.Samples.{outcome, begins, done}

-- ---- pointers and cells

-- `shared [] int a[20]; int main(void){return *(&a[0] + 549755813888);}`: 2^41 bytes after a[0].
abbrev far : Checked
far =
    program 1 (shared_object (blocked_ints 0 20) 1 ∷ [])
    (main
    (block []
    (gives (behind_pointer (operation_at (column 9) op.Add
    (address_of (element (shared (blocked_ints 0 20) 1) (num (pos 0)))) (num (pos 549755813888)))) ∷ []))
    ∷ [])

far-faults : thread_outcome far 0 100 (done 4) ≡ outcome begins 0 (told.Fault 8 (column 9))
unfolding thread_outcome most_calls ask notify wait begin_call open_block advance
far-faults = refl

abbrev short_pointer : CType
short_pointer = Qualified (Pointer (Qualified (Integer kind.Short) false (Some 1) Unsaid)) false None Unsaid

-- `shared int x; int main(void){return *(shared short *)&x;}`: no short begins there.
abbrev mistaken : Checked
mistaken =
    program 1 (shared_object shared_int 1 ∷ [])
    (main
    (block [] (gives (behind_pointer (cast_into short_pointer (address_of (shared shared_int 1)))) ∷ []))
    ∷ [])

mistaken-faults : thread_outcome mistaken 0 100 (done 4) ≡ outcome begins 0 (told.Fault 18 here)
unfolding thread_outcome most_calls ask notify wait begin_call open_block cast load
mistaken-faults = refl

-- ---- barriers

-- `int main(void){upc_barrier MYTHREAD;return 0;}` on two threads: their values differ.
abbrev marked : Statement
marked = Stands (column 16) (Synchronise Barrier (Some mythread))

abbrev unequal : Checked
unequal = program 2 [] (main (block [] (marked ∷ gives (num (pos 0)) ∷ [])) ∷ [])

unequal-faults :
    thread_outcome unequal 1 100 (done 3 ++ Refused 11 ∷ [])
    ≡ outcome (begins ++ act.Notify (Given (pos 1)) ∷ act.Wait (Given (pos 1)) ∷ []) 0 (told.Fault 11 (column 16))
unfolding thread_outcome most_calls ask notify wait begin_call open_block
unequal-faults = refl

-- `int main(void){upc_wait;return 0;}`: there was no notify.
abbrev waiting : Checked
waiting =
    program 1 []
    (main (block [] (Stands (column 16) (Synchronise Wait None) ∷ gives (num (pos 0)) ∷ [])) ∷ [])

waits-alone : thread_outcome waiting 0 100 (done 4) ≡ outcome begins 0 (told.Fault 10 (column 16))
unfolding thread_outcome most_calls ask notify wait begin_call open_block
waits-alone = refl

-- ---- private objects

-- A block with an object of 1,048,577 bytes.
abbrev large : Shape
large = record { size = 1048577; cells = [] }

crowded-faults :
    open_block 0 (large ∷ []) (column 16) (initial_state unequal [])
    ≡ Over (told.Fault 20 (column 16)) (initial_state unequal [])
unfolding open_block
crowded-faults = refl

-- ---- locks

-- `int main(void){upc_lock_t *l = upc_all_lock_alloc(); ..`, with a call of this of l.
abbrev with_lock : LibraryCall → Checked
with_lock next =
    program 1 []
    (main
    (block (object_with lock_pointer 0 (call_library call.AllLockAlloc lock_pointer (exprs [])) ∷ [])
    (does (call_library next void (exprs (object_at here lock_pointer (home_of 0) ∷ []))) ∷ []))
    ∷ [])

-- The replies where this is the reply to the call.
abbrev lock_replies : Reply → List Reply
lock_replies r = done 2 ++ Value (scalar.Lock 1) ∷ r ∷ []

abbrev lock_faults : Action → ℕ → Outcome
lock_faults a code = outcome (begins ++ act.Meet 2 [] ∷ a ∷ []) 0 (told.Fault code here)

locks-again :
    thread_outcome (with_lock call.Lock) 0 100 (lock_replies (Refused 13)) ≡ lock_faults (act.Lock 1) 13
unfolding thread_outcome most_calls ask notify wait begin_call open_block
    local_object cast load save library library_steps meet
locks-again = refl

unlocks-not-held :
    thread_outcome (with_lock call.Unlock) 0 100 (lock_replies (Refused 14)) ≡ lock_faults (act.Unlock 1) 14
unfolding thread_outcome most_calls ask notify wait begin_call open_block
    local_object cast load save library library_steps meet
unlocks-not-held = refl

attempts-freed :
    thread_outcome (with_lock call.LockAttempt) 0 100 (lock_replies (Refused 15)) ≡ lock_faults (act.Attempt 1) 15
unfolding thread_outcome most_calls ask notify wait begin_call open_block
    local_object cast load save library library_steps meet
attempts-freed = refl

frees-freed :
    thread_outcome (with_lock call.LockFree) 0 100 (lock_replies (Refused 15)) ≡ lock_faults (act.LockFree 1) 15
unfolding thread_outcome most_calls ask notify wait begin_call open_block
    local_object cast load save library library_steps meet
frees-freed = refl

-- Another thread's first collective call was another one.
meets-another :
    thread_outcome (with_lock call.Lock) 0 100 (done 2 ++ Refused 17 ∷ [])
    ≡ outcome (begins ++ act.Meet 2 [] ∷ []) 0 (told.Fault 17 here)
unfolding thread_outcome most_calls ask notify wait begin_call open_block
    local_object cast load save library library_steps meet
meets-another = refl

-- ---- allocations

abbrev pointer : CType
pointer = pointer_to_shared 0

-- `int main(void){shared [] int *p = upc_alloc(n); upc_free(p);}`
abbrev frees : ℤ → Checked
frees n =
    program 1 []
    (main
    (block (object_with pointer 0 (call_library call.Alloc pointer (exprs (num n ∷ []))) ∷ [])
    (does (call_library call.Free void (exprs (object_at here pointer (home_of 0) ∷ []))) ∷ []))
    ∷ [])

abbrev made : SharedPtr
made = record {
  object = record { number = 1; total = 8; block = 0; home = 0; shape = 0; base = 0 };
  thread = 0;
  phase = 0;
  offset = pos 0;
}

frees-badly :
    thread_outcome (frees (pos 8)) 0 100 (done 2 ++ Value (scalar.Shared made) ∷ Refused 16 ∷ [])
    ≡ outcome (begins ++ act.Alloc 1 8 (Some 0) 0 ∷ act.Free made ∷ []) 0 (told.Fault 16 here)
unfolding thread_outcome most_calls ask notify wait begin_call open_block
    local_object cast load save library library_steps
frees-badly = refl

-- Six bytes are no whole number of ints.
allocates-in-part : thread_outcome (frees (pos 6)) 0 100 (done 4) ≡ outcome begins 0 (told.Fault 18 here)
unfolding thread_outcome most_calls ask notify wait begin_call open_block
    local_object cast load save library library_steps
allocates-in-part = refl

allocates-too-much :
    thread_outcome (frees (pos 8)) 0 100 (done 2 ++ Refused 21 ∷ [])
    ≡ outcome (begins ++ act.Alloc 1 8 (Some 0) 0 ∷ []) 0 (told.Fault 21 here)
unfolding thread_outcome most_calls ask notify wait begin_call open_block
    local_object cast load save library library_steps
allocates-too-much = refl

-- `int main(void){return upc_affinitysize(8, 8, 1);}` on one thread: there is no thread 1.
abbrev elsewhere : Checked
elsewhere =
    program 1 []
    (main
    (block []
    (gives (call_library call.AffinitySize size_type (exprs (num (pos 8) ∷ num (pos 8) ∷ num (pos 1) ∷ []))) ∷ []))
    ∷ [])

elsewhere-faults : thread_outcome elsewhere 0 100 (done 4) ≡ outcome begins 0 (told.Fault 22 here)
unfolding thread_outcome most_calls ask notify wait begin_call open_block cast library library_steps
elsewhere-faults = refl
