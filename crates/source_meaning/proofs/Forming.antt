-- What comes of the arguments of a collective call, as many as its parameters, is of its parameters' types.
use Rattle.std.proofs.Common.{◌≡◌, ℕ, ◌<◌, ◌^◌, nat_lt, Bool, true, false, ◌&&◌, cond, List, [], ◌∷◌}
use Rattle.std.proofs.Common.{◌++◌, length, map, Option, Some, None, refl, sym, arith, int_le, int_lt}
use Rattle.std.proofs.Math.IntN.{ℤ, pos}
use Rattle.std.specs.Prelude.{unsigned_abs, is_some, slice_get}
use Rattle.std.proofs.lemmas.Int.{ints}
use Rattle.std.proofs.lemmas.Bool.{and_from, false≢true}
use Rattle.upc_text.specs.declared.place.Place.{Place}
use Rattle.block_layout.specs.declared.kind.Kind.{Kind}
use Rattle.block_layout.specs.declared.kind.Kind.TheVariants as kind
use Rattle.block_layout.specs.declared.place.SharedPtr.{SharedPtr}
use Rattle.block_layout.specs.Pointers.{null}
use Rattle.integers.specs.Integers.{values, in_kind, converted}
use Rattle.upc_values.specs.declared.scalar.Scalar.TheVariants.{Int, Shared, Lock}
use Rattle.upc_values.specs.layer.Parts.{copies}
use Rattle.upc_values.specs.declared.scalar.Value.{Value}
use Rattle.upc_values.specs.declared.scalar.Value.TheVariants as value
use Rattle.upc_values.specs.declared.library.ElementKind.{ElementKind}
use Rattle.upc_values.specs.declared.library.ElementKind.TheVariants as element
use Rattle.upc_values.specs.declared.library.LibraryCall.{LibraryCall}
use Rattle.upc_values.specs.declared.library.LibraryCall.TheVariants as c
use Rattle.upc_values.specs.Calls.{Call, Permutes, Reduces, Reduces_prefixes, Other, Way, is_size, is_int, way_of}
use Rattle.upc_values.specs.Calls.{call_of}
use Rattle.upc_values.specs.Calls as calls
use Rattle.upc_values.specs.LibraryCalls.{scalars, element_number, with_element}
use Rattle.typing_rules.specs.Library.{call_parameters}
use Rattle.typed_tree.specs.Programs.{Checked}
use Rattle.typed_tree.specs.Tree.{Expr, Exprs, NoExprs, AndExpr, place_of}
use Rattle.thread_steps.specs.declared.cast.CastTo.{CastTo}
use Rattle.thread_steps.specs.declared.cast.CastTo.TheVariants as to
use Rattle.thread_steps.specs.States.{Res, Val, Over, Unfinished, bind, Doing, ◌>>=◌}
use Rattle.thread_steps.specs.Values.{number, number_of}
use Rattle.thread_steps.specs.Operators.{cast}
use Rattle.thread_steps.specs.Library.{has_shape, is_formed, is_call}
use Rattle.thread_steps.proofs.Conversions.{converted_in}
use Rattle.source_meaning.specs.Types.{parameter_conversion}
use Rattle.source_meaning.specs.Running.{Running, running}
use Rattle.source_meaning.specs.Expressions as e
use Rattle.source_meaning.specs.Expressions.{Calls}
use Rattle.source_meaning.specs.Laws.{AreSoMany, GivesIn, Gives, AllFormCalls}

-- ---- numbers

shape_size : (n : ℕ) → n < 2 ^ 64 → is_size (pos n) ≡ true
shape_size n lt =
    let a : true ≡ int_le (pos 0) (pos n) = omega (arith, ints) in
    let b : true ≡ int_lt (pos n) (pos (2 ^ 64)) = omega (arith, ints) in
    and_from (int_le (pos 0) (pos n)) (int_lt (pos n) (pos (2 ^ 64))) (sym a) (sym b)

number_size : (t : ElementKind) → is_size (pos (element_number t)) ≡ true
number_size element.Char = refl
number_size element.UnsignedChar = refl
number_size element.Short = refl
number_size element.UnsignedShort = refl
number_size element.Int = refl
number_size element.UnsignedInt = refl
number_size element.Long = refl
number_size element.UnsignedLong = refl

number_below : (t : ElementKind) → nat_lt (element_number t) 8 ≡ true
number_below element.Char = refl
number_below element.UnsignedChar = refl
number_below element.Short = refl
number_below element.UnsignedShort = refl
number_below element.Int = refl
number_below element.UnsignedInt = refl
number_below element.Long = refl
number_below element.UnsignedLong = refl

-- ---- calls

formed_if : (b : Bool) (call : Call) → b ≡ true → is_call call ≡ true → is_call (cond b call Other) ≡ true
formed_if true call h g = g
formed_if false call h g = absurd (false≢true h)

call_if : (b : Bool) (call : Call) → b ≡ true → is_call call ≡ true → (is_call (cond b call Other) && true) ≡ true
call_if b call h g = and_from (is_call (cond b call Other)) true (formed_if b call h g) refl

copy_if : (b : Bool) (w : Option Way) (x : Way) (dst src : SharedPtr) (n : ℕ) (f : ℤ) → b ≡ true → w ≡ Some x
    → (is_call (cond b (copies dst src n f w) Other) && true) ≡ true
copy_if true (Some w) x dst src n f h g = refl
copy_if true None x dst src n f h g = absurd cc
copy_if false w x dst src n f h g = absurd (false≢true h)

-- ---- what comes of steps

module _ (A : Type 0) (V : A → Type 0) where
  always : (m : Doing A) → ((v : A) → V v) → Gives A V m
  always m h = record { by = λ σ. in_result (m σ) }
    where
      in_result : (r : Res A) → GivesIn V r
      in_result (Val v υ) = h v
      in_result (Over end υ) = tt
      in_result Unfinished = tt

  behind : (B : Type 0) (m : Doing B) (f : B → Doing A) → ((v : B) → Gives A V (f v)) → Gives A V (m >>= f)
  behind B m f h = record { by = λ σ. in_result (m σ) }
    where
      in_result : (r : Res B) → GivesIn V (bind r f)
      in_result (Val v υ) = (h v).by υ
      in_result (Over end υ) = tt
      in_result Unfinished = tt

  module _ (ρ : Running) (at : Place) (f : Value → Doing A) where
    behind_number : (k : Kind) (v : Value) → 0 < values k
        → ((n : ℤ) → in_kind k n ≡ true → Gives A V (f (number n)))
        → Gives A V (cast ρ.thread (to.Integer k) at v >>= f)
    unfolding cast
    behind_number k v some h =
        let n = converted k (number_of v) in
        record { by = λ σ. (h n (converted_in k (number_of v))).by σ }

    behind_shared : (v : Value) → ((p : SharedPtr) → Gives A V (f (value.Scalar (Shared p))))
        → Gives A V (cast ρ.thread to.Shared at v >>= f)
    unfolding cast
    behind_shared (value.Scalar (Shared p)) h = record { by = λ σ. (h p).by σ }
    behind_shared (value.Scalar (Int n)) h = record { by = λ σ. (h null).by σ }
    behind_shared (value.Scalar (Lock l)) h = record { by = λ σ. (h null).by σ }
    behind_shared (value.Local p) h = record { by = λ σ. (h null).by σ }

    behind_lock : (v : Value) → ((l : ℕ) → Gives A V (f (value.Scalar (Lock l))))
        → Gives A V (cast ρ.thread to.Lock at v >>= f)
    unfolding cast
    behind_lock (value.Scalar (Lock l)) h = record { by = λ σ. (h l).by σ }
    behind_lock (value.Scalar (Int n)) h = record { by = λ σ. (h 0).by σ }
    behind_lock (value.Scalar (Shared p)) h = record { by = λ σ. (h 0).by σ }
    behind_lock (value.Local p) h = record { by = λ σ. (h 0).by σ }

module _ (ρ : Running) (functions : Calls) (strict : Bool) where
  abbrev given : List CastTo → Exprs → List Value → Doing (List Value)
  given cs args before = e.arguments ρ functions strict cs args before

  -- What comes of arguments passes.
  record Comes (V : List Value → Type 0) (cs : List CastTo) (args : Exprs) (before : List Value) : Type 0 where
    by : Gives (List Value) V (given cs args before)

  module _ (V : List Value → Type 0) (cs : List CastTo) (a : Expr) (more : Exprs) (before : List Value) where
    abbrev with_first : Value → Doing (List Value)
    with_first w = given cs more (before ++ w ∷ [])

    first_number : (k : Kind) → 0 < values k
        → ((n : ℤ) → in_kind k n ≡ true → Comes V cs more (before ++ number n ∷ []))
        → Comes V (to.Integer k ∷ cs) (AndExpr a more) before
    first_number k some h =
        record {
          by = behind (List Value) V Value (e.value ρ functions strict a)
              (λ v. cast ρ.thread (to.Integer k) (place_of a) v >>= with_first) (λ v.
              behind_number (List Value) V ρ (place_of a) with_first k v some (λ n hn. (h n hn).by));
        }

    first_shared : ((p : SharedPtr) → Comes V cs more (before ++ value.Scalar (Shared p) ∷ []))
        → Comes V (to.Shared ∷ cs) (AndExpr a more) before
    first_shared h =
        record {
          by = behind (List Value) V Value (e.value ρ functions strict a)
              (λ v. cast ρ.thread to.Shared (place_of a) v >>= with_first) (λ v.
              behind_shared (List Value) V ρ (place_of a) with_first v (λ x. (h x).by));
        }

    first_lock : ((l : ℕ) → Comes V cs more (before ++ value.Scalar (Lock l) ∷ []))
        → Comes V (to.Lock ∷ cs) (AndExpr a more) before
    first_lock h =
        record {
          by = behind (List Value) V Value (e.value ρ functions strict a)
              (λ v. cast ρ.thread to.Lock (place_of a) v >>= with_first) (λ v.
              behind_lock (List Value) V ρ (place_of a) with_first v (λ x. (h x).by));
        }

    first_size : ((n : ℤ) → is_size n ≡ true → Comes V cs more (before ++ number n ∷ []))
        → Comes V (to.Integer kind.ULong ∷ cs) (AndExpr a more) before
    first_size h = first_number kind.ULong (omega arith) h

    first_int : ((n : ℤ) → is_int n ≡ true → Comes V cs more (before ++ number n ∷ []))
        → Comes V (to.Integer kind.Int ∷ cs) (AndExpr a more) before
    first_int h = first_number kind.Int (omega arith) h

  none_left : (V : List Value → Type 0) (before : List Value) → V before → Comes V [] NoExprs before
  none_left V before h = record { by = record { by = λ σ. h } }

  -- ---- each call

  abbrev IsFormedCall : (number : ℕ) → List Value → Type 0
  IsFormedCall number vs = (is_call (call_of number (scalars vs)) && true) ≡ true

  abbrev copy_parameters : List CastTo
  copy_parameters = to.Shared ∷ to.Shared ∷ to.Integer kind.ULong ∷ to.Integer kind.Int ∷ []

  copy_forms : (k : ℕ) (w : Way) → way_of k ≡ Some w → (args : Exprs) → AreSoMany 4 args
      → Comes (IsFormedCall k) copy_parameters args []
  copy_forms k w same (AndExpr a (AndExpr b (AndExpr d (AndExpr f NoExprs)))) m =
      first_shared (IsFormedCall k) _ a _ [] (λ dst.
      first_shared (IsFormedCall k) _ b _ _ (λ src.
      first_size (IsFormedCall k) _ d _ _ (λ n hn.
      first_int (IsFormedCall k) _ f _ _ (λ flags hf.
      none_left (IsFormedCall k) _
      (copy_if (is_size n && is_int flags) (way_of k) w dst src (unsigned_abs n) flags
      (and_from (is_size n) (is_int flags) hn hf) same)))))
  copy_forms k w same args m = absurd m

  abbrev permute_parameters : List CastTo
  permute_parameters = to.Shared ∷ copy_parameters

  permute_forms : (args : Exprs) → AreSoMany 5 args → Comes (IsFormedCall 10) permute_parameters args []
  permute_forms (AndExpr a (AndExpr b (AndExpr d (AndExpr g (AndExpr f NoExprs))))) m =
      first_shared (IsFormedCall 10) _ a _ [] (λ dst.
      first_shared (IsFormedCall 10) _ b _ _ (λ src.
      first_shared (IsFormedCall 10) _ d _ _ (λ perm.
      first_size (IsFormedCall 10) _ g _ _ (λ n hn.
      first_int (IsFormedCall 10) _ f _ _ (λ flags hf.
      none_left (IsFormedCall 10) _
      (call_if (is_size n && is_int flags) (Permutes dst src perm (unsigned_abs n) flags)
      (and_from (is_size n) (is_int flags) hn hf) refl))))))
  permute_forms args m = absurd m

  abbrev reduce_parameters : List CastTo
  reduce_parameters =
      to.Shared ∷ to.Shared ∷ to.Integer kind.Int ∷ to.Integer kind.ULong ∷ to.Integer kind.ULong
      ∷ to.Integer kind.Int ∷ to.Integer kind.Int ∷ []

  -- The tests of a reduction's numbers.
  abbrev are_numbers : ElementKind → (op n b f : ℤ) → Bool
  are_numbers t op n b f =
      is_int op
      && (is_size n
      && (is_size b && (is_size (pos (element_number t)) && (nat_lt (element_number t) 8 && is_int f))))

  numbers_pass : (t : ElementKind) (op n b f : ℤ) → is_int op ≡ true → is_size n ≡ true → is_size b ≡ true
      → is_int f ≡ true → are_numbers t op n b f ≡ true
  numbers_pass t op n b f ho hn hb hf =
      and_from (is_int op) _ ho
      (and_from (is_size n) _ hn
      (and_from (is_size b) _ hb
      (and_from (is_size (pos (element_number t))) _ (number_size t)
      (and_from (nat_lt (element_number t) 8) (is_int f) (number_below t) hf))))

  abbrev IsFormedReduction : ElementKind → (number : ℕ) → List Value → Type 0
  IsFormedReduction t number vs = IsFormedCall number (with_element t vs)

  reduce_forms : (t : ElementKind) (args : Exprs) → AreSoMany 7 args
      → Comes (IsFormedReduction t 11) reduce_parameters args []
  reduce_forms t (AndExpr a (AndExpr b (AndExpr o (AndExpr d (AndExpr g (AndExpr h (AndExpr f NoExprs))))))) m =
      first_shared (IsFormedReduction t 11) _ a _ [] (λ dst.
      first_shared (IsFormedReduction t 11) _ b _ _ (λ src.
      first_int (IsFormedReduction t 11) _ o _ _ (λ op ho.
      first_size (IsFormedReduction t 11) _ d _ _ (λ n hn.
      first_size (IsFormedReduction t 11) _ g _ _ (λ block hb.
      first_int (IsFormedReduction t 11) _ h _ _ (λ function hu.
      first_int (IsFormedReduction t 11) _ f _ _ (λ flags hf.
      none_left (IsFormedReduction t 11) _
      (call_if (are_numbers t op n block flags)
      (Reduces dst src op (unsigned_abs n) (unsigned_abs block) (element_number t) flags)
      (numbers_pass t op n block flags ho hn hb hf) refl))))))))
  reduce_forms t args m = absurd m

  prefix_forms : (t : ElementKind) (args : Exprs) → AreSoMany 7 args
      → Comes (IsFormedReduction t 12) reduce_parameters args []
  prefix_forms t (AndExpr a (AndExpr b (AndExpr o (AndExpr d (AndExpr g (AndExpr h (AndExpr f NoExprs))))))) m =
      first_shared (IsFormedReduction t 12) _ a _ [] (λ dst.
      first_shared (IsFormedReduction t 12) _ b _ _ (λ src.
      first_int (IsFormedReduction t 12) _ o _ _ (λ op ho.
      first_size (IsFormedReduction t 12) _ d _ _ (λ n hn.
      first_size (IsFormedReduction t 12) _ g _ _ (λ block hb.
      first_int (IsFormedReduction t 12) _ h _ _ (λ function hu.
      first_int (IsFormedReduction t 12) _ f _ _ (λ flags hf.
      none_left (IsFormedReduction t 12) _
      (call_if (are_numbers t op n block flags)
      (Reduces_prefixes dst src op (unsigned_abs n) (unsigned_abs block) (element_number t) flags)
      (numbers_pass t op n block flags ho hn hb hf) refl))))))))
  prefix_forms t args m = absurd m

  abbrev IsFormedAllocation : (shape : ℕ) → List Value → Type 0
  IsFormedAllocation shape vs = is_formed ρ.thread.shapes c.AllAlloc shape vs ≡ true

  alloc_forms : (shape : ℕ) → is_some (slice_get ρ.thread.shapes shape) ≡ true → shape < 2 ^ 64 → (args : Exprs)
      → AreSoMany 2 args
      → Comes (IsFormedAllocation shape) (to.Integer kind.ULong ∷ to.Integer kind.ULong ∷ []) args []
  alloc_forms shape there lt (AndExpr a (AndExpr b NoExprs)) m =
      first_size (IsFormedAllocation shape) _ a _ [] (λ n hn.
      first_size (IsFormedAllocation shape) _ b _ _ (λ block hb.
      let sizes = is_size n && (is_size block && is_size (pos shape)) in
      let call = calls.Allocates (unsigned_abs n) (unsigned_abs block) shape in
      none_left (IsFormedAllocation shape) _
      (and_from (is_call (cond sizes call Other)) (is_some (slice_get ρ.thread.shapes shape))
      (formed_if sizes call
      (and_from (is_size n) (is_size block && is_size (pos shape)) hn
      (and_from (is_size block) (is_size (pos shape)) hb (shape_size shape lt))) refl)
      there)))
  alloc_forms shape there lt args m = absurd m

  free_forms : (args : Exprs) → AreSoMany 1 args → Comes (IsFormedCall 3) (to.Shared ∷ []) args []
  free_forms (AndExpr a NoExprs) m =
      first_shared (IsFormedCall 3) [] a NoExprs [] (λ p. none_left (IsFormedCall 3) _ refl)
  free_forms args m = absurd m

  lock_free_forms : (args : Exprs) → AreSoMany 1 args → Comes (IsFormedCall 4) (to.Lock ∷ []) args []
  lock_free_forms (AndExpr a NoExprs) m =
      first_lock (IsFormedCall 4) [] a NoExprs [] (λ l. none_left (IsFormedCall 4) _ refl)
  lock_free_forms args m = absurd m

  lock_alloc_forms : (args : Exprs) → AreSoMany 0 args → Comes (IsFormedCall 2) [] args []
  lock_alloc_forms NoExprs m = none_left (IsFormedCall 2) [] refl
  lock_alloc_forms args m = absurd m

  -- A call in which not all threads meet.
  alone_forms : (call : LibraryCall) (shape : ℕ) (cs : List CastTo) (args : Exprs)
      → ((vs : List Value) → is_formed ρ.thread.shapes call shape vs ≡ true)
      → Comes (λ vs. is_formed ρ.thread.shapes call shape vs ≡ true) cs args []
  alone_forms call shape cs args h =
      record { by = always (List Value) (λ vs. is_formed ρ.thread.shapes call shape vs ≡ true) (given cs args []) h }

  forms : (call : LibraryCall) (shape : ℕ) (args : Exprs) → AreSoMany (length (call_parameters call)) args
      → has_shape ρ.thread.shapes call shape ≡ true → shape < 2 ^ 64
      → Comes (λ vs. is_formed ρ.thread.shapes call shape vs ≡ true) (map parameter_conversion (call_parameters call))
      args []
  forms c.AllAlloc shape args m there lt = alloc_forms shape there lt args m
  forms c.AllLockAlloc shape args m there lt = lock_alloc_forms args m
  forms c.AllFree shape args m there lt = free_forms args m
  forms c.AllLockFree shape args m there lt = lock_free_forms args m
  forms c.Broadcast shape args m there lt = copy_forms 5 calls.Broadcast refl args m
  forms c.Scatter shape args m there lt = copy_forms 6 calls.Scatter refl args m
  forms c.Gather shape args m there lt = copy_forms 7 calls.Gather refl args m
  forms c.GatherAll shape args m there lt = copy_forms 8 calls.Gather_all refl args m
  forms c.Exchange shape args m there lt = copy_forms 9 calls.Exchange refl args m
  forms c.Permute shape args m there lt = permute_forms args m
  forms (c.Reduce t) shape args m there lt = reduce_forms t args m
  forms (c.PrefixReduce t) shape args m there lt = prefix_forms t args m
  forms call shape args m there lt = alone_forms call shape _ args (λ vs. refl)

pub all_form_calls : (program : Checked) → AllFormCalls program
all_form_calls program = record {
  each = λ thread budget. record {
    formed = λ functions strict call shape args m there lt.
        (forms (running program thread budget) functions strict call shape args m there lt).by;
  };
}
