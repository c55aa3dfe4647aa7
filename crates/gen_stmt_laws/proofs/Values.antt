-- What code pushes is in range: constants of integer kinds, places of objects of the file, and 0 or null.
use Rattle.std.proofs.Common.{◌≡◌, ℕ, zero, suc, ◌≤◌, List, [], ◌∷◌, Option, Some, None, slice_get, refl, inl, inr}
use Rattle.std.proofs.Common.{arith, subst}
use Rattle.std.proofs.lemmas.Int.{ints}
use Rattle.std.specs.Prelude.{pos}
use Rattle.block_layout.specs.declared.kind.Kind.{Kind}
use Rattle.block_layout.specs.declared.kind.Kind.TheVariants as kind
use Rattle.block_layout.specs.declared.place.ObjectRef.{ObjectRef}
use Rattle.block_layout.specs.Places.{InRange}
use Rattle.upc_values.specs.Lists.{Each}
use Rattle.upc_values.specs.Openings.{IsOpening}
use Rattle.upc_values.specs.Shapes.{blank_value}
use Rattle.typing_rules.specs.Constants.{IsWithin}
use Rattle.typing_rules.specs.declared.attribute.Constant.{Constant}
use Rattle.typing_rules.specs.declared.attribute.Constant.TheVariants as constant
use Rattle.typed_tree.specs.Beginnings.{opening_in}
use Rattle.typed_tree.specs.Initials.{known_or_zero, numbered}
use Rattle.typed_tree.specs.Programs.{Checked, start_of}
use Rattle.thread_steps.specs.layer.Ranges.{IsNumber, IsObject}
use Rattle.source_meaning.specs.Running.{shared_object, start_in}
use Rattle.source_meaning.specs.Threads.{blank_of}
use Rattle.stack_code.specs.layer.Kept.{IsKnown}
use Rattle.gen_expr.specs.layer.Sources.{running_of}
use Rattle.gen_stmt.proofs.KnownInitials.{declared_objects}
use Rattle.gen_stmt.specs.layer.Programs.{source}

-- ---- numbers

pub small_number : (i : ℕ) → i ≤ 16777216 → IsNumber (pos i)
small_number i h = record { least = omega (arith, ints); most = omega (arith, ints) }

pub known_number : (c : Constant) → IsWithin c → IsNumber (known_or_zero c)
known_number (constant.Known v) h = record { least = h.low; most = h.high }
known_number constant.Variable h = small_number 0 (omega arith)
known_number constant.Undefined h = small_number 0 (omega arith)
known_number constant.Null h = small_number 0 (omega arith)
known_number (constant.Address p e) h = small_number 0 (omega arith)

pub in_range_zero : InRange (pos 0)
in_range_zero = record { least = omega (arith, ints); most = omega (arith, ints) }

-- ---- declared shared objects

got : {X : Type 0} (P : X → Type 0) (xs : List X) (i : ℕ) (x : X) → Each P xs → slice_get xs i ≡ Some x → P x
got P [] i x h e = absurd cc
got P (y ∷ xs) zero x h e = let same : y ≡ x = cc in subst P same h.0
got P (y ∷ xs) (suc i) x h e = got P xs i x h.1 e

module _ (program : Checked) (opening : IsOpening (opening_in program.threads (start_of program))) where
  start_known : (o : Option ObjectRef)
      → ((x : ObjectRef) → o ≡ Some x → IsObject program.threads (start_of program).shapes x)
      → IsKnown program.threads (start_of program).shapes (start_in o)
  start_known None h = inl refl
  start_known (Some x) h = inr (record { object_is = h x refl; thread = opening.least; offset = in_range_zero })

  numbered_is : (n : ℕ) (x : ObjectRef) → numbered (start_of program).shared_objects n ≡ Some x
      → IsObject program.threads (start_of program).shapes x
  numbered_is zero x e = absurd cc
  numbered_is (suc n) x e =
      let b = start_of program in
      got (IsObject program.threads b.shapes) (opening_in program.threads b).declared n x
      (declared_objects program.threads b ∣ opening ∣₁) e

  -- Where a declared shared object begins.
  pub shared_known : (n : ℕ)
      → IsKnown program.threads (start_of program).shapes (shared_object (running_of (source program)) n)
  shared_known n = start_known (numbered (start_of program).shared_objects n) (λ x e. numbered_is n x e)

  blank_known : (k : Kind) → IsKnown program.threads (start_of program).shapes (blank_value k)
  blank_known (kind.Private n) = tt
  blank_known (kind.Shared n b) = inl refl
  blank_known kind.Lock = refl
  blank_known k = small_number 0 (omega arith)

  -- What a function gives at its end.
  pub given_known : (k : Option Kind) → IsKnown program.threads (start_of program).shapes (blank_of k)
  given_known None = small_number 0 (omega arith)
  given_known (Some k) = blank_known k
