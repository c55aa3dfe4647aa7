-- Worked rows of docs/DEFINITIONS.md, computed by the definitions themselves.
use Rattle.std.specs.Prelude.{ℕ, ◌≡◌, ◌<◌, ◌+◌, ◌*◌, pos, true, false, List, [], ◌∷◌, ◌++◌, map, slice_index_or}
use Rattle.std.proofs.Common.{refl, arith}
use Rattle.block_layout.specs.declared.place.Loc.{Loc}
use Rattle.block_layout.specs.declared.place.ObjectRef.{ObjectRef}
use Rattle.block_layout.specs.declared.kind.Kind.TheVariants as kind
use Rattle.upc_values.specs.declared.scalar.Scalar.{Scalar}
use Rattle.upc_values.specs.declared.scalar.Scalar.TheVariants.{Int}
use Rattle.upc_values.specs.declared.scalar.Mark.TheVariants.{Start, Finish}
use Rattle.upc_values.specs.declared.action.Action.TheVariants.{Read, Write, Fence, Notify, Wait}
use Rattle.upc_values.specs.declared.action.Reply.TheVariants.{Done, Value}
use Rattle.upc_values.specs.declared.record.Item.{Item}
use Rattle.upc_values.specs.declared.record.Item.TheVariants.{Did}
use Rattle.upc_values.specs.declared.record.End.TheVariants.{Ended}
use Rattle.upc_values.specs.declared.journal.Entry.{Entry}
use Rattle.upc_values.specs.declared.journal.Strand.{Strand}
use Rattle.upc_values.specs.declared.journal.Journal.{Journal}
use Rattle.upc_values.specs.Drain.{drain, entry_of, walked, entries_of}
use Rattle.upc_values.proofs.Consistency.{all-consistent}
use Rattle.upc_values.specs.Operations.{Operation}
use Rattle.upc_values.specs.Orders.{thread_order, IsOf, StrictOrder}
use Rattle.upc_values.specs.Scalars.{zero}
use Rattle.upc_values.specs.Lists.{Pairwise}
use Rattle.upc_values.specs.Consistent.{ReadsLast, KeepsProgram, IsConsistent, begins}
use Rattle.upc_values.specs.Openings.{Opening}
use Rattle.upc_values.specs.History.{IsLegal, EachBelow}

-- two shared ints, x and y
abbrev int_at : ℕ → ℕ → ObjectRef
int_at n b = record { number = n; total = 4; block = 4; home = 0; shape = 0; base = b }

abbrev opening : Opening
opening =
    record {
      threads = 2;
      declared = int_at 1 0 ∷ int_at 2 4 ∷ [];
      initials = [];
      shapes = record { size = 4; cells = (0, kind.Int) ∷ [] } ∷ [];
    }

abbrev var : ℕ → Loc
var n = record { object = n; thread = 0; offset = 0 }

abbrev int : ℕ → Scalar
int n = Int (pos n)

-- statements between the barriers before and after main
abbrev program : List Item → List Item
program items =
    Did (Notify Start) Done ∷ Did (Wait Start) Done ∷ (items ++ Did (Notify Finish) Done ∷ Did (Wait Finish) Done ∷ [])

abbrev strand : List Item → Strand
strand items = record { items = items; ticks = 0; «end» = Ended (pos 0) }

-- the entries with these names
abbrev entry_in : List Item → ℕ → ℕ → Entry
entry_in items t i =
    elim (slice_index_or items i (Did Fence Done)) [ Did a r ↦ entry_of t i a r | _ ↦ entry_of t i Fence Done ]

abbrev history_of : List (List Item) → List (ℕ × ℕ) → List Entry
history_of strands names = map (λ n. entry_in (slice_index_or strands n.0 []) n.0 n.1) names

abbrev journal : List (List Item) → List (ℕ × ℕ) → Journal
journal strands names =
    record { threads = 2; budget = 1; actions = 100; strands = map strand strands; history = history_of strands names }

abbrev named : Operation → ℕ × ℕ
named o = (o.thread, o.index)

-- store buffering: each thread writes one variable and reads the other; both read 0
abbrev buffering : List (List Item)
buffering =
    program (Did (Write false (var 1) (int 1)) Done ∷ Did (Read (var 2) false) (Value (int 0)) ∷ [])
    ∷ program (Did (Write false (var 2) (int 1)) Done ∷ Did (Read (var 1) false) (Value (int 0)) ∷ []) ∷ []

abbrev buffered : List (ℕ × ℕ)
buffered =
    (0, 0) ∷ (1, 0) ∷ (0, 1) ∷ (1, 1) ∷ (0, 3) ∷ (1, 3) ∷ (0, 2) ∷ (0, 4) ∷ (1, 2) ∷ (1, 4) ∷ (0, 5) ∷ (1, 5) ∷ []

buffered-drain : map (λ e. e.index) (drain 0 (slice_index_or buffering 0 [])) ≡ 0 ∷ 1 ∷ 3 ∷ 2 ∷ 4 ∷ 5 ∷ []
buffered-drain = refl

buffered-legal : IsLegal opening (history_of buffering buffered)
buffered-legal = (refl, (refl, (refl, (refl, (refl, (refl, (refl, (refl, (refl, (refl, (refl, (refl, tt))))))))))))

buffered-order : map named (thread_order (journal buffering buffered) 0) ≡ (0, 0) ∷ (1, 0) ∷ (0, 1) ∷ (1, 1) ∷ (0, 3) ∷ (0, 2) ∷ (0, 4) ∷ (1, 2) ∷ (1, 4) ∷ (0, 5) ∷ (1, 5) ∷ []
buffered-order = refl

-- a forwarded read: thread 0 writes x and reads it, thread 1 writes x; the read stands after its source
abbrev forwarding : List (List Item)
forwarding =
    program (Did (Write false (var 1) (int 1)) Done ∷ Did (Read (var 1) false) (Value (int 1)) ∷ [])
    ∷ program (Did (Write false (var 1) (int 2)) Done ∷ []) ∷ []

abbrev forwarded : List (ℕ × ℕ)
forwarded = (0, 0) ∷ (1, 0) ∷ (0, 1) ∷ (1, 1) ∷ (1, 2) ∷ (1, 3) ∷ (0, 2) ∷ (0, 4) ∷ (0, 5) ∷ (1, 4) ∷ []

forwarded-legal : IsLegal opening (history_of forwarding forwarded)
forwarded-legal = (refl, (refl, (refl, (refl, (refl, (refl, (refl, (refl, (refl, (refl, tt))))))))))

forwarded-order : map named (thread_order (journal forwarding forwarded) 0) ≡ (0, 0) ∷ (1, 0) ∷ (0, 1) ∷ (1, 1) ∷ (1, 2) ∷ (1, 3) ∷ (0, 2) ∷ (0, 3) ∷ (0, 4) ∷ (0, 5) ∷ (1, 4) ∷ []
forwarded-order = refl

-- 65 stores to an array, a read of y, a fence: the first store leaves when the buffer is full
abbrev stores : ℕ → List Item
stores ℕ.zero = []
stores (ℕ.suc n) = stores n ++ Did (Write false (record { object = 1; thread = 0; offset = 4 * n }) (int n)) Done ∷ []

abbrev numbers : ℕ → ℕ → List ℕ
numbers a ℕ.zero = []
numbers a (ℕ.suc n) = a ∷ numbers (a + 1) n

full-drain : map (λ e. e.index) (drain 0 (program (stores 65 ++ Did (Read (var 2) false) (Value (int 0)) ∷ Did Fence Done ∷ []))) ≡ 0 ∷ 1 ∷ 2 ∷ 67 ∷ numbers 3 64 ++ 68 ∷ 69 ∷ 70 ∷ []
full-drain = refl

-- a write takes the place of the pending write of its location, which is no entry; in the orders both stand there
abbrev combining : List (List Item)
combining =
    program (Did (Write false (var 1) (int 1)) Done ∷ Did (Write false (var 2) (int 1)) Done ∷ Did (Write false (var 1) (int 2)) Done ∷ Did Fence Done ∷ [])
    ∷ []

combined-drain : map (λ e. e.index) (drain 0 (slice_index_or combining 0 [])) ≡ 0 ∷ 1 ∷ 4 ∷ 3 ∷ 5 ∷ 6 ∷ 7 ∷ []
combined-drain = refl

combined-order : map (λ o. o.index) (thread_order (journal combining ((0, 0) ∷ (0, 1) ∷ (0, 4) ∷ (0, 3) ∷ (0, 5) ∷ (0, 6) ∷ (0, 7) ∷ [])) 0) ≡ 0 ∷ 1 ∷ 2 ∷ 4 ∷ 3 ∷ 5 ∷ 5 ∷ 6 ∷ 7 ∷ []
combined-order = refl

-- 70 stores to one location are one entry
abbrev stores_to_one : ℕ → List Item
stores_to_one ℕ.zero = []
stores_to_one (ℕ.suc n) = stores_to_one n ++ Did (Write false (var 1) (int n)) Done ∷ []

one-drain : map (λ e. e.index) (drain 0 (program (stores_to_one 70 ++ Did Fence Done ∷ []))) ≡ 0 ∷ 1 ∷ 71 ∷ 72 ∷ 73 ∷ 74 ∷ []
one-drain = refl

-- what is not consistent: a forwarded read of another value than its source's
abbrev forwarding_wrong : List (List Item)
forwarding_wrong =
    program (Did (Write false (var 1) (int 1)) Done ∷ Did (Read (var 1) false) (Value (int 2)) ∷ [])
    ∷ program (Did (Write false (var 1) (int 2)) Done ∷ []) ∷ []

wrong-value : ReadsLast (λ l. zero) (thread_order (journal forwarding_wrong forwarded) 0) → ⊥
wrong-value h = let e : int 2 ≡ int 1 = h.1.1.1.1.1.1.1.0 refl in cc

-- strict accesses in the order of the history above, against program order
abbrev buffering_strict : List (List Item)
buffering_strict =
    program (Did (Write true (var 1) (int 1)) Done ∷ Did (Read (var 2) true) (Value (int 0)) ∷ [])
    ∷ program (Did (Write true (var 2) (int 1)) Done ∷ Did (Read (var 1) true) (Value (int 0)) ∷ []) ∷ []

wrong-order : Pairwise (KeepsProgram 0) (thread_order (journal buffering_strict buffered) 0) → ⊥
wrong-order h = let e : 7 < 4 = h.1.1.1.1.0.1.0 refl refl refl in omega arith

-- so store buffering, with both reads 0, is consistent: the law holds of it
abbrev buffered_journal : Journal
buffered_journal = journal buffering buffered

buffered-agrees : (i : ℕ) (d : Strand) → i < 2 → (walked i (slice_index_or (map strand buffering) i d).items).agrees ≡ true
buffered-agrees ℕ.zero d h = refl
buffered-agrees (ℕ.suc ℕ.zero) d h = refl
buffered-agrees (ℕ.suc (ℕ.suc i)) d h = absurd (omega arith)

buffered-drains : (i : ℕ) (d : Strand) → i < 2 → entries_of i (history_of buffering buffered) ≡ drain i (slice_index_or (map strand buffering) i d).items
buffered-drains ℕ.zero d h = refl
buffered-drains (ℕ.suc ℕ.zero) d h = refl
buffered-drains (ℕ.suc (ℕ.suc i)) d h = absurd (omega arith)

zero-below : 0 < 2
zero-below = omega arith

one-below : 1 < 2
one-below = omega arith

buffered-below : EachBelow 2 (history_of buffering buffered)
buffered-below = (zero-below, (one-below, (zero-below, (one-below, (zero-below, (one-below, (zero-below, (zero-below, (one-below, (one-below, (zero-below, (one-below, tt))))))))))))

buffered-consistent : IsConsistent (begins opening (history_of buffering buffered)) 2 (IsOf buffered_journal) (StrictOrder buffered_journal) (thread_order buffered_journal)
buffered-consistent =
    all-consistent buffered_journal opening
    (record { many = refl; below = buffered-below; agrees = buffered-agrees; drains = buffered-drains }) buffered-legal
