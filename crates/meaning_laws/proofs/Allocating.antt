-- What the rules say of calls that allocate.
use Rattle.std.proofs.Common.{List, ◌≡◌, ℕ, zero, suc, ◌<◌, ◌^◌, nat_eq, true, length, Option, Some, None}
use Rattle.std.proofs.Common.{refl, arith}
use Rattle.std.proofs.lemmas.Bool.{false≢true, eqb-true, eq-eqb}
use Rattle.block_layout.specs.declared.kind.Kind.TheVariants as kind
use Rattle.upc_values.specs.declared.scalar.Value.{Value}
use Rattle.upc_types.specs.Types as types
use Rattle.upc_types.specs.Types.{CType, Qualified, Structs, base_of}
use Rattle.upc_types.specs.Cells.{number_of}
use Rattle.upc_values.specs.declared.library.LibraryCall.TheVariants as c
use Rattle.typing_rules.specs.Values.{base_target}
use Rattle.typing_rules.specs.Attributes.{allocated}
use Rattle.typing_rules.specs.Nodes as n
use Rattle.typing_rules.specs.Nodes.{Use}
use Rattle.typing_rules.specs.Rules.{is_allocated_at}
use Rattle.typed_tree.specs.Tree.{Exprs, NoExprs, AndExpr, attrs_of}
use Rattle.typed_tree.specs.Programs as programs
use Rattle.typed_tree.specs.Programs.{Checked}
use Rattle.thread_steps.specs.States.{Res, Val, Over, Unfinished, Doing}
use Rattle.thread_steps.specs.Library.{has_shape}
use Rattle.source_meaning.specs.Running.{running}
use Rattle.source_meaning.specs.layer.Parts.{shape_number}
use Rattle.source_meaning.specs.Laws.{AreSoMany, GivesIn, Gives}
use Rattle.private_store.specs.declared.frame.Call.{Call}
use Rattle.meaning_laws.specs.layer.Values.{IsOf, Comes, Brings}
use Rattle.meaning_laws.specs.layer.Formed.{AtTarget, HasShape}
use Rattle.meaning_laws.proofs.Operations.{Fits}
use Rattle.meaning_laws.proofs.Shapes.{there_is}

-- There are so many arguments where their list is so long.
pub so_many : (i : ℕ) (args : Exprs) → nat_eq (length (attrs_of args)) i ≡ true → AreSoMany i args
so_many zero NoExprs q = tt
so_many zero (AndExpr a more) q =
    let e = eqb-true (length (attrs_of (AndExpr a more))) 0 q in absurd (omega (arith, e))
so_many (suc i) NoExprs q = let e = eqb-true 0 (suc i) q in absurd (omega (arith, e))
so_many (suc i) (AndExpr a more) q =
    let e = eqb-true (length (attrs_of (AndExpr a more))) (suc i) q in
    let same : length (attrs_of more) ≡ i = omega (arith, e) in
    so_many i more (eq-eqb (length (attrs_of more)) i same)

-- A pointer-to-shared with phase 0 is a value of the type that an allocation has.
abbrev pub StartsAt : Structs → Use → Type 0
StartsAt structs how =
    (i : ℕ) × (b : ℕ) × ((v : Value) → Fits (kind.Shared i b) v → IsOf structs (allocated how) v)

pub start_of : (structs σ : Structs) (how : Use) → is_allocated_at σ how ≡ true → StartsAt structs how
start_of structs σ n.Plain h = absurd (false≢true h)
start_of structs σ n.Called h = absurd (false≢true h)
start_of structs σ n.Indexed h = absurd (false≢true h)
start_of structs σ n.Measured h = absurd (false≢true h)
start_of structs σ n.Prints h = absurd (false≢true h)
start_of structs σ (n.Into (Qualified (types.Pointer (Qualified b d None y)) c s x)) h = absurd (false≢true h)
start_of structs σ (n.Into (Qualified (types.Pointer (Qualified types.LockObject d (Some block) y)) c s x)) h =
    absurd (false≢true h)
start_of structs σ (n.Into (Qualified (types.Pointer (Qualified types.Void d (Some block) y)) c s x)) h =
    (number_of structs.targets (Qualified types.Void d (Some block) y), block, λ v g. g)
start_of structs σ (n.Into (Qualified (types.Pointer (Qualified (types.Integer k) d (Some block) y)) c s x)) h =
    (number_of structs.targets (Qualified (types.Integer k) d (Some block) y), block, λ v g. g)
start_of structs σ (n.Into (Qualified (types.Pointer (Qualified (types.Struct m) d (Some block) y)) c s x)) h =
    (number_of structs.targets (Qualified (types.Struct m) d (Some block) y), block, λ v g. g)
start_of structs σ (n.Into (Qualified (types.Pointer (Qualified (types.Array e count) d (Some block) y)) c s x)) h =
    (number_of structs.targets (Qualified (types.Array e count) d (Some block) y), block, λ v g. g)
start_of structs σ (n.Into (Qualified (types.Pointer (Qualified (types.Pointer e) d (Some block) y)) c s x)) h =
    (number_of structs.targets (Qualified (types.Pointer e) d (Some block) y), block, λ v g. g)
start_of structs σ (n.Into (Qualified types.Void c s x)) h = absurd (false≢true h)
start_of structs σ (n.Into (Qualified (types.Integer k) c s x)) h = absurd (false≢true h)
start_of structs σ (n.Into (Qualified (types.Struct m) c s x)) h = absurd (false≢true h)
start_of structs σ (n.Into (Qualified (types.Array e count) c s x)) h = absurd (false≢true h)
start_of structs σ (n.Into (Qualified types.LockObject c s x)) h = absurd (false≢true h)

-- The type that an allocation has is a pointer.
pub made_target : (σ : Structs) (how : Use) → is_allocated_at σ how ≡ true
    → (u : CType) × (base_target (base_of (allocated how)) ≡ Some u)
made_target σ n.Plain h = absurd (false≢true h)
made_target σ n.Called h = absurd (false≢true h)
made_target σ n.Indexed h = absurd (false≢true h)
made_target σ n.Measured h = absurd (false≢true h)
made_target σ n.Prints h = absurd (false≢true h)
made_target σ (n.Into (Qualified (types.Pointer u) c s x)) h = (u, refl)
made_target σ (n.Into (Qualified types.Void c s x)) h = absurd (false≢true h)
made_target σ (n.Into (Qualified (types.Integer k) c s x)) h = absurd (false≢true h)
made_target σ (n.Into (Qualified (types.Struct m) c s x)) h = absurd (false≢true h)
made_target σ (n.Into (Qualified (types.Array e count) c s x)) h = absurd (false≢true h)
made_target σ (n.Into (Qualified types.LockObject c s x)) h = absurd (false≢true h)

-- The program has the shape of what is allocated.
pub shape_there : (program : Checked) (thread budget : ℕ) (o : Option CType) (u : CType) → o ≡ Some u
    → AtTarget (HasShape program) o
    → (has_shape (programs.start_of program).shapes c.AllAlloc (shape_number (running program thread budget) o) ≡ true)
    × (shape_number (running program thread budget) o < 2 ^ 64)
shape_there program thread budget (Some t) u e h =
    (there_is (programs.start_of program).shapes (shape_number (running program thread budget) (Some t)) h.0, h.1)
shape_there program thread budget None u e h = absurd cc

-- Both what comes of steps and what they give.
pub both_brings : {A : Type 0} (V W : A → Type 0) (m : Doing A) → Brings A V m → Gives A W m
    → Brings A (λ v. V v × W v) m
both_brings {A = A} V W m h g = record { by = λ σ i. in_result σ.store.calls (m σ) (h.by σ i) (g.by σ) }
  where
    in_result : (calls : List Call) (r : Res A) → Comes V calls r → GivesIn W r → Comes (λ v. V v × W v) calls r
    in_result calls (Val v υ) p q = ((p.0, q), p.1, p.2)
    in_result calls (Over end υ) p q = tt
    in_result calls Unfinished p q = tt
