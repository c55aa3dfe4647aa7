-- Further worked examples: operators, loops, pointers and the library.
use Rattle.std.specs.Prelude.{ℕ, ℤ, pos, ◌≡◌, false, List, [], ◌∷◌, ◌++◌, Some, None, codes}
use Rattle.std.proofs.Common.{refl}
use Rattle.block_layout.specs.declared.place.SharedPtr.{SharedPtr}
use Rattle.block_layout.specs.declared.kind.Kind.TheVariants as kind
use Rattle.integers.specs.declared.operator.BinOp.TheVariants as op
use Rattle.upc_values.specs.declared.scalar.Scalar.{Scalar}
use Rattle.upc_values.specs.declared.scalar.Scalar.TheVariants as scalar
use Rattle.upc_values.specs.declared.scalar.Scalar.TheVariants.{Int}
use Rattle.upc_values.specs.declared.scalar.Mark.TheVariants.{Absent}
use Rattle.upc_values.specs.declared.action.Action.{Action}
use Rattle.upc_values.specs.declared.action.Action.TheVariants as act
use Rattle.upc_values.specs.declared.action.Reply.TheVariants.{Value}
use Rattle.upc_values.specs.declared.library.LibraryCall.TheVariants.{Alloc, AllAlloc, AllLockAlloc, Lock, GlobalExit}
use Rattle.upc_values.specs.declared.library.LibraryCall.TheVariants.{Reduce, ThreadOf}
use Rattle.upc_values.specs.declared.library.ElementKind.TheVariants as element_kind
use Rattle.upc_values.specs.declared.record.ToldEnd.TheVariants as told
use Rattle.upc_types.specs.declared.ctype.Access.TheVariants.{Unsaid}
use Rattle.upc_types.specs.Types.{CType, Qualified, Struct, Pointer, Structs}
use Rattle.typing_rules.specs.declared.setting.SizeOperator.{SizeOperator}
use Rattle.typing_rules.specs.declared.setting.SizeOperator.TheVariants as size
use Rattle.typing_rules.specs.Attributes.{Facts, attr}
use Rattle.typing_rules.specs.Nodes as n
use Rattle.typing_rules.specs.Library.{int, void, size_type, lock_pointer, plain}
use Rattle.typed_tree.specs.Tree as t
use Rattle.typed_tree.specs.Tree.{Expr, Is, attr_of}
use Rattle.typed_tree.specs.Programs.{Checked}
use Rattle.thread_steps.specs.Actions.{ask, tick, notify, wait, meet, fence, exit}
use Rattle.thread_steps.specs.Accesses.{load, save, library_steps}
use Rattle.thread_steps.specs.Pointers.{advance, member, difference}
use Rattle.thread_steps.specs.Operators.{operate, cast}
use Rattle.thread_steps.specs.Blocks.{open_block, close_block, local_object, begin_call, end_call, control, mine}
use Rattle.thread_steps.specs.Library.{library}
use Rattle.source_meaning.specs.Threads.{thread_outcome, most_calls}
use Rattle.source_meaning.proofs.Trees.{num, local, home_of, object_at, shared, set, grown, operation, element}
use Rattle.source_meaning.proofs.Trees.{cast_into, address_of, behind_pointer, facts, stands, with_structs}
use Rattle.source_meaning.proofs.Trees.{compound, choice, comma, call_library, exprs, blocked_ints, pointer_to_shared}
use Rattle.source_meaning.proofs.Trees.{shared_int, int_object, object_with, shared_object, block, does, gives}
use Rattle.source_meaning.proofs.Trees.{do_while, for_loop, goes_on}
use Rattle.source_meaning.proofs.Trees.{leaves, if_so, head_of, for_all, program, main, here}
use Rattle.source_meaning.proofs.Samples.{outcome, begins, ends, done, at_object, comes_to}

-- ---- operators

-- `int main(void){int x; return x += 2, x ? x * 5 : 1 / 0;}`
abbrev chosen : Checked
chosen =
    program 1 []
    (main
    (block (int_object 0 ∷ [])
    (gives (comma (compound op.Add (local 0) (num (pos 2)))
    (choice (local 0) (operation op.Multiply (local 0) (num (pos 5)))
    (operation op.Divide (num (pos 1)) (num (pos 0)))))
    ∷ []))
    ∷ [])

chosen-gives : thread_outcome chosen 0 100 (done 4) ≡ comes_to (pos 10)
unfolding thread_outcome most_calls ask notify wait begin_call end_call open_block close_block
    local_object operate cast load save
chosen-gives = refl

-- `int main(void){return 1 << 32;}`
abbrev shifted : Checked
shifted = program 1 [] (main (block [] (gives (operation op.ShiftLeft (num (pos 1)) (num (pos 32))) ∷ [])) ∷ [])

shifted-faults : thread_outcome shifted 0 100 (done 4) ≡ outcome begins 0 (told.Fault 3 here)
unfolding thread_outcome most_calls ask notify wait begin_call open_block operate
shifted-faults = refl

-- ---- loops

-- `int main(void){int x; do { x++; continue; x = 50; } while (0); return x;}`
abbrev once : Checked
once =
    program 1 []
    (main
    (block (int_object 0 ∷ [])
    (do_while (block [] (does (grown (local 0)) ∷ goes_on ∷ does (set (local 0) (num (pos 50))) ∷ [])) (num (pos 0))
    ∷ gives (local 0) ∷ []))
    ∷ [])

once-gives : thread_outcome once 0 100 (done 4) ≡ outcome (begins ++ ends) 1 (told.Ended (pos 1))
unfolding thread_outcome most_calls ask notify wait begin_call end_call open_block close_block
    local_object tick operate cast load save
once-gives = refl

-- `int main(void){int i; int s; for (i = 0; i < 9; i++) { if (i == 1) continue; if (i == 4) break; s += i; } return
-- s;}`
abbrev summed : Checked
summed =
    program 1 []
    (main
    (block (int_object 0 ∷ int_object 1 ∷ [])
    (for_loop (head_of (set (local 0) (num (pos 0))) (operation op.Less (local 0) (num (pos 9))) (grown (local 0)))
    (block []
    (if_so (operation op.Equal (local 0) (num (pos 1))) goes_on
    ∷ if_so (operation op.Equal (local 0) (num (pos 4))) leaves
    ∷ does (compound op.Add (local 1) (local 0)) ∷ []))
    ∷ gives (local 1) ∷ []))
    ∷ [])

summed-gives : thread_outcome summed 0 100 (done 4) ≡ outcome (begins ++ ends) 5 (told.Ended (pos 5))
unfolding thread_outcome most_calls ask notify wait begin_call end_call open_block close_block
    local_object tick operate cast load save
summed-gives = refl

-- ---- pointers

abbrev private_pointer : CType
private_pointer = Qualified (Pointer int) false None Unsaid

-- `shared [3] int a[20]; int main(void){return *(int *)&a[4];}` on four threads: a[4] lies on thread 1.
abbrev row : ℤ → Expr
row i = element (shared (blocked_ints 3 20) 1) (num i)

abbrev locally : Checked
locally =
    program 4 (shared_object (blocked_ints 3 20) 1 ∷ [])
    (main (block [] (gives (behind_pointer (cast_into private_pointer (address_of (row (pos 4))))) ∷ [])) ∷ [])

not-local : thread_outcome locally 0 100 (done 4) ≡ outcome begins 0 (told.Fault 7 here)
unfolding thread_outcome most_calls ask notify wait begin_call open_block cast advance
not-local = refl

reads-relaxed :
    thread_outcome locally 1 100 (done 2 ++ Value (Int (pos 6)) ∷ done 2)
    ≡ outcome
    (begins ++ act.Read (record { object = 1; thread = 1; offset = 4 }) false ∷ ends) 0 (told.Ended (pos 6))
unfolding thread_outcome most_calls ask notify wait begin_call end_call open_block close_block
    cast advance load
reads-relaxed = refl

-- `return *(shared [3] int *)0;`
abbrev nowhere : Checked
nowhere =
    program 4 []
    (main (block [] (gives (behind_pointer (cast_into (pointer_to_shared 3) (num (pos 0)))) ∷ [])) ∷ [])

null-faults : thread_outcome nowhere 0 100 (done 4) ≡ outcome begins 0 (told.Fault 4 here)
unfolding thread_outcome most_calls ask notify wait begin_call open_block cast load
null-faults = refl

-- `return &a[0] - (shared [3] int *)0;`
abbrev unpaired : Checked
unpaired =
    program 4 (shared_object (blocked_ints 3 20) 1 ∷ [])
    (main
    (block []
    (gives (operation op.Subtract (address_of (row (pos 0))) (cast_into (pointer_to_shared 3) (num (pos 0)))) ∷ []))
    ∷ [])

unpaired-faults : thread_outcome unpaired 0 100 (done 4) ≡ outcome begins 0 (told.Fault 9 here)
unfolding thread_outcome most_calls ask notify wait begin_call open_block cast advance difference
unpaired-faults = refl

-- ---- the library

-- `int main(void){upc_global_exit(3);}`
abbrev exits : Checked
exits = program 1 [] (main (block [] (does (call_library GlobalExit void (exprs (num (pos 3) ∷ []))) ∷ [])) ∷ [])

exits-at-once : thread_outcome exits 0 100 (done 4) ≡ outcome (begins ++ act.Exit (pos 3) ∷ []) 0 (told.Exit (pos 3))
unfolding thread_outcome most_calls ask notify wait begin_call open_block cast library exit
exits-at-once = refl

-- `int main(void){upc_lock(0);}`
abbrev locks_null : Checked
locks_null = program 1 [] (main (block [] (does (call_library Lock void (exprs (num (pos 0) ∷ []))) ∷ [])) ∷ [])

null-lock-faults : thread_outcome locks_null 0 100 (done 4) ≡ outcome begins 0 (told.Fault 4 here)
unfolding thread_outcome most_calls ask notify wait begin_call open_block cast library library_steps
null-lock-faults = refl

-- `int main(void){shared [] int *p = upc_alloc(8); return upc_threadof(p);}` on two threads, thread 1
abbrev pointer : CType
pointer = pointer_to_shared 0

abbrev allocates : Checked
allocates =
    program 2 []
    (main
    (block (object_with pointer 0 (call_library Alloc pointer (exprs (num (pos 8) ∷ []))) ∷ [])
    (gives (call_library ThreadOf size_type (exprs (object_at here pointer (home_of 0) ∷ []))) ∷ []))
    ∷ [])

abbrev made : SharedPtr
made = record {
  object = record { number = 1; total = 8; block = 0; home = 1; shape = 0; base = 0 };
  thread = 1;
  phase = 0;
  offset = pos 0;
}

allocates-on-its-thread :
    thread_outcome allocates 1 100 (done 2 ++ Value (scalar.Shared made) ∷ done 2)
    ≡ outcome (begins ++ act.Alloc 1 8 (Some 1) 0 ∷ ends) 0 (told.Ended (pos 1))
unfolding thread_outcome most_calls ask notify wait begin_call end_call open_block close_block
    local_object cast load save library library_steps
allocates-on-its-thread = refl

-- `int main(void){shared [] int *p = upc_all_alloc(1, 8); return upc_threadof(p);}` on two threads: all threads meet
-- with the two sizes and the number of the shape of an int.
abbrev meets_for_ints : Checked
meets_for_ints =
    program 2 []
    (main
    (block (object_with pointer 0 (call_library AllAlloc pointer (exprs (num (pos 1) ∷ num (pos 8) ∷ []))) ∷ [])
    (gives (call_library ThreadOf size_type (exprs (object_at here pointer (home_of 0) ∷ []))) ∷ []))
    ∷ [])

abbrev met : SharedPtr
met = record {
  object = record { number = 1; total = 8; block = 8; home = 0; shape = 0; base = 0 };
  thread = 0;
  phase = 0;
  offset = pos 0;
}

allocates-by-meeting :
    thread_outcome meets_for_ints 1 100 (done 2 ++ Value (scalar.Shared met) ∷ done 2)
    ≡ outcome (begins ++ act.Meet 1 (Int (pos 1) ∷ Int (pos 8) ∷ Int (pos 0) ∷ []) ∷ ends) 0 (told.Ended (pos 0))
unfolding thread_outcome most_calls ask notify wait begin_call end_call open_block close_block
    local_object cast load save library library_steps meet
allocates-by-meeting = refl

-- `int main(void){int i; upc_forall (i = 0; i < 1; i++; 0) upc_all_lock_alloc(); return 0;}`: a collective call in a
-- controlling body
abbrev meets : Checked
meets =
    program 1 []
    (main
    (block (int_object 0 ∷ [])
    (for_all (head_of (set (local 0) (num (pos 0))) (operation op.Less (local 0) (num (pos 1))) (grown (local 0)))
    (num (pos 0))
    (does (call_library AllLockAlloc lock_pointer (exprs []))) ∷ []))
    ∷ [])

meets-faults : thread_outcome meets 0 100 (done 4) ≡ outcome begins 1 (told.Fault 12 here)
unfolding thread_outcome most_calls ask notify wait begin_call open_block
    local_object tick control mine operate cast load save library meet
meets-faults = refl

-- `shared int x, y; int main(void){upc_all_reduceI(&y, &x, UPC_ADD, 1, 0, 0, 0);return 0;}`: all threads meet, with 4
-- for the elements' type, and between two barriers the thread of y reads x and writes y.
abbrev reduces : Checked
reduces =
    program 1 (shared_object shared_int 1 ∷ shared_object shared_int 2 ∷ [])
    (main
    (block []
    (does
    (call_library (Reduce element_kind.Int) void
    (exprs
    (address_of (shared shared_int 2) ∷ address_of (shared shared_int 1) ∷ num (pos 1) ∷ num (pos 1) ∷ num (pos 0)
    ∷ num (pos 0) ∷ num (pos 0) ∷ [])))
    ∷ gives (num (pos 0)) ∷ []))
    ∷ [])

-- The place of a shared int of the file with this number, after so many bytes of others.
abbrev placed_int : (number base : ℕ) → SharedPtr
placed_int number base = record {
  object = record { number = number; total = 4; block = 4; home = 0; shape = 0; base = base };
  thread = 0;
  phase = 0;
  offset = pos 0;
}

abbrev reduction_with : List Scalar
reduction_with =
    scalar.Shared (placed_int 2 4) ∷ scalar.Shared (placed_int 1 0) ∷ Int (pos 1) ∷ Int (pos 1) ∷ Int (pos 0)
    ∷ Int (pos 4) ∷ Int (pos 0) ∷ []

abbrev all_at_once : List Action
all_at_once = act.Notify Absent ∷ act.Wait Absent ∷ []

reduces-one :
    thread_outcome reduces 0 100 (done 5 ++ Value (Int (pos 7)) ∷ done 5)
    ≡ outcome
    (begins ++ act.Meet 11 reduction_with ∷ all_at_once
    ++ act.Read (at_object 1 0) false ∷ act.Write false (at_object 2 0) (Int (pos 7)) ∷ all_at_once ++ ends) 0
    (told.Ended (pos 0))
unfolding thread_outcome most_calls ask notify wait begin_call end_call open_block close_block
    cast library library_steps meet
reduces-one = refl

-- ---- members

-- `struct pair { char c; int i; };`
abbrev pairs : Structs
pairs = record {
  declared = 1;
  completed =
      record {
        number = 0;
        members = record { name = codes "c"; ctype = plain kind.Char } ∷ record { name = codes "i"; ctype = int } ∷ [];
      } ∷ [];
  targets = [];
}

abbrev shared_pair : CType
shared_pair = Qualified (Struct 0) false (Some 1) Unsaid

abbrev pair_facts : Facts
pair_facts = record { structs = pairs; threads = 1 }

-- `x.i` of the first shared object of the file.
abbrev second : Expr
second =
    let x = shared shared_pair 1 in
    Is here (attr pair_facts (n.MemberOf (attr_of x) (codes "i"))) (t.Member x 1)

-- `shared struct pair x; int main(void){return x.i;}`: i lies 4 bytes after the beginning.
abbrev paired : Checked
paired =
    with_structs pairs
    (program 1 (shared_object shared_pair 1 ∷ []) (main (block [] (gives second ∷ [])) ∷ []))

paired-gives :
    thread_outcome paired 0 100 (done 2 ++ Value (Int (pos 7)) ∷ done 2)
    ≡ outcome
    (begins ++ act.Read (record { object = 1; thread = 0; offset = 4 }) false ∷ ends) 0 (told.Ended (pos 7))
unfolding thread_outcome most_calls ask notify wait begin_call end_call open_block close_block
    cast member load
paired-gives = refl

-- `(&x)->i`
abbrev second_behind : Expr
second_behind =
    let p = address_of (shared shared_pair 1) in
    Is here (attr pair_facts (n.MemberBehind (attr_of p) (codes "i"))) (t.MemberBehind p 1)

abbrev paired_behind : Checked
paired_behind =
    with_structs pairs
    (program 1 (shared_object shared_pair 1 ∷ []) (main (block [] (gives second_behind ∷ [])) ∷ []))

paired_behind-gives :
    thread_outcome paired_behind 0 100 (done 2 ++ Value (Int (pos 7)) ∷ done 2)
    ≡ outcome
    (begins ++ act.Read (record { object = 1; thread = 0; offset = 4 }) false ∷ ends) 0 (told.Ended (pos 7))
unfolding thread_outcome most_calls ask notify wait begin_call end_call open_block close_block
    cast member load
paired_behind-gives = refl

-- ---- size operators, and a fence

abbrev measured : SizeOperator → Expr → Expr
measured o a = Is here (attr facts (n.SizeOf o (attr_of a))) (t.SizeOf o a)

-- `shared [3] int a[20]; int main(void){return sizeof(1 / 0) + upc_blocksizeof(a);}`: no operand is evaluated.
abbrev sized : Checked
sized =
    program 4 (shared_object (blocked_ints 3 20) 1 ∷ [])
    (main
    (block []
    (gives (operation op.Add (measured size.Bytes (operation op.Divide (num (pos 1)) (num (pos 0))))
    (measured size.BlockSize (shared (blocked_ints 3 20) 1))) ∷ []))
    ∷ [])

sized-gives : thread_outcome sized 0 100 (done 4) ≡ comes_to (pos 7)
unfolding thread_outcome most_calls ask notify wait begin_call end_call open_block close_block
    operate cast
sized-gives = refl

-- `int main(void){upc_fence;return 0;}`
abbrev fenced : Checked
fenced = program 1 [] (main (block [] (stands t.Fence ∷ gives (num (pos 0)) ∷ [])) ∷ [])

fenced-ends : thread_outcome fenced 0 100 (done 5) ≡ outcome (begins ++ act.Fence ∷ ends) 0 (told.Ended (pos 0))
unfolding thread_outcome most_calls ask notify wait begin_call end_call open_block close_block
    fence cast
fenced-ends = refl
