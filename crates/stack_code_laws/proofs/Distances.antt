-- How far two known pointers lie apart is a number.
use Rattle.std.proofs.Common.{◌≡◌, ℕ, zero, suc, ◌*◌, ◌<◌, ◌≤◌, ◌^◌, ◌==◌, nat_lt, Bool, true, false, ◌&&◌, ◌||◌}
use Rattle.std.proofs.Common.{List, refl, sym, subst, arith, if◌then◌else◌, unsigned_abs}
use Rattle.std.proofs.Math.IntN.{ℤ, pos, negsuc, ◌+ℤ◌, ◌-ℤ◌, ◌*ℤ◌}
use Rattle.std.proofs.Math.Nat.{div-le_self}
use Rattle.std.specs.Prelude.{Result, Ok, Err}
use Rattle.std.specs.Ordering.{int_eq}
use Rattle.std.specs.List.{list_any}
use Rattle.std.proofs.lemmas.Int.{ints, unsigned_abs-mul}
use Rattle.std.proofs.lemmas.Nat.{mul-le}
use Rattle.std.proofs.lemmas.Bool.{and_parts, or_cases, eqb-true, ltb-true}
use Rattle.std.proofs.Common.{inl, inr}
use Rattle.block_layout.specs.declared.place.LocalPtr.{LocalPtr}
use Rattle.block_layout.specs.declared.place.LocalPtr.TheVariants as local
use Rattle.block_layout.specs.declared.place.ObjectRef.{ObjectRef}
use Rattle.block_layout.specs.declared.place.SharedPtr.{SharedPtr}
use Rattle.block_layout.specs.declared.run_error.TheConstants.{POINTER_PAIR}
use Rattle.block_layout.specs.Floor.{floor_div}
use Rattle.block_layout.specs.Places.{InRange, in_range}
use Rattle.block_layout.specs.Pointers.{null, is_null, same_object, element_in_row, row_offset}
use Rattle.block_layout.proofs.Pointers.{same_pointer-true}
use Rattle.block_layout.proofs.Ranges.{in_range-true}
use Rattle.shared_pointers.specs.layer.Ranges.{IsTarget}
use Rattle.shared_pointers.specs.Steps as step
use Rattle.shared_pointers.proofs.Bounds.{row-near}
use Rattle.upc_values.specs.declared.scalar.Scalar.TheVariants.{Shared}
use Rattle.upc_values.specs.declared.scalar.Value.{Value}
use Rattle.upc_values.specs.declared.scalar.Value.TheVariants as value
use Rattle.upc_values.specs.declared.action.Reply.{Reply}
use Rattle.upc_values.specs.Openings.{Opening}
use Rattle.thread_steps.specs.declared.elements.Elements.{Elements}
use Rattle.thread_steps.specs.Pointers.{phased, elements_between, local_difference, apart}
use Rattle.stack_code_laws.specs.code.Names.{objects_given}
use Rattle.stack_code_laws.proofs.Given.{IsGround, names, knows}
use Rattle.stack_code_laws.proofs.KnownValues.{runner, Known, pointer_names}

-- What is computed is near 0, if there is no run error.
abbrev pub NearIn : Result ℤ ℕ → Type 0
NearIn (Ok x) = unsigned_abs x ≤ 2 ^ 60
NearIn (Err code) = Unit {0}

either_near : (b : Bool) (x : ℤ) (code : ℕ) → unsigned_abs x ≤ 2 ^ 60 → NearIn (if b then Ok x else Err code)
either_near true x code h = h
either_near false x code h = tt

test_near : (b : Bool) (r : Result ℤ ℕ) (code : ℕ) → NearIn r → NearIn (if b then r else Err code)
test_near true r code h = h
test_near false r code h = tt

floor_near : (e : ℤ) (d : ℕ) → unsigned_abs (floor_div e d) ≤ unsigned_abs e
floor_near (pos n) d = div-le_self n d
floor_near (negsuc n) d = let le = div-le_self n d in omega (arith, ints, le)

-- A place of a pointer to a type with this block: offset and thread are in range, and the phase is no more than the
-- block.
record IsPlace (threads block : ℕ) (p : SharedPtr) : Type 0 where
  pub offset : InRange p.offset
  pub thread : p.thread < threads
  pub phase : p.phase ≤ block

-- ---- pointers-to-shared

apart_near : (q p : SharedPtr) (b s threads : ℕ) → IsPlace threads b q → IsPlace threads b p → IsTarget b s
    → threads ≤ 32 → unsigned_abs (step.apart q p b s threads) ≤ 2 ^ 60
apart_near q p zero s threads hq hp t le =
    let near = floor_near (q.offset -ℤ p.offset) s in
    omega (arith, ints, near, hq.offset.least, hq.offset.most, hp.offset.least, hp.offset.most)
apart_near q p (suc n) s threads hq hp t le =
    let b : ℕ = suc n in
    let far : ℤ = row_offset q s -ℤ row_offset p s in
    let rows : ℤ = floor_div far (b * s) *ℤ pos b in
    let block : b ≤ 16777216 = t.block_most in
    let size : s ≤ 16777216 = t.size_most in
    let q_phase : q.phase ≤ 16777216 = omega (arith, hq.phase) in
    let p_phase : p.phase ≤ 16777216 = omega (arith, hp.phase) in
    let q_thread : q.thread ≤ 32 = omega (arith, hq.thread) in
    let p_thread : p.thread ≤ 32 = omega (arith, hp.thread) in
    let q_bytes = mul-le q.phase s 16777216 16777216 q_phase size in
    let p_bytes = mul-le p.phase s 16777216 16777216 p_phase size in
    let q_blocks = mul-le q.thread b 32 16777216 q_thread block in
    let p_blocks = mul-le p.thread b 32 16777216 p_thread block in
    let bytes : unsigned_abs far ≤ 2 ^ 50 =
    omega (arith, ints, q_bytes, p_bytes, hq.offset.least, hq.offset.most, hp.offset.least, hp.offset.most) in
    let near : unsigned_abs rows ≤ 2 ^ 51 = let r = row-near far b s t.size_least in omega arith in
    let all = mul-le (unsigned_abs rows) threads (2 ^ 51) 32 near le in
    let product : unsigned_abs (rows *ℤ pos threads) ≡ unsigned_abs rows * threads =
    unsigned_abs-mul rows (pos threads) in
    let most : unsigned_abs (rows *ℤ pos threads) ≤ 2 ^ 56 = omega arith in
    sum_near (rows *ℤ pos threads) (element_in_row q b) (element_in_row p b) most (omega arith) (omega arith)
  where
    sum_near : (x : ℤ) (i j : ℕ) → unsigned_abs x ≤ 2 ^ 56 → i ≤ 2 ^ 31 → j ≤ 2 ^ 31
        → unsigned_abs (x +ℤ (pos i -ℤ pos j)) ≤ 2 ^ 60
    sum_near x i j h g k = omega (arith, ints, h, g, k)

module _ (o : Opening) (past : List Reply) (v : IsGround o) where
  -- A known pointer lies on a thread of the run, at an offset in range.
  pub pointer_placed : (p : SharedPtr) → knows o past p ≡ true → (p.thread < o.threads) × InRange p.offset
  pointer_placed p h = by_null (is_null p) refl
    where
      by_null : (b : Bool) → is_null p ≡ b → (p.thread < o.threads) × InRange p.offset
      by_null true e =
          subst (λ (q : SharedPtr). (q.thread < o.threads) × InRange q.offset) (sym (same_pointer-true p null e))
          (v.least, record { least = omega (arith, ints); most = omega (arith, ints) })
      by_null false e =
          let named = pointer_names o past p h e in
          let place =
          (and_parts (list_any (same_object p.object) (objects_given o.declared past))
          (nat_lt p.thread o.threads && in_range p.offset) named).1 in
          let both = and_parts (nat_lt p.thread o.threads) (in_range p.offset) place in
          (ltb-true p.thread o.threads both.0, in_range-true p.offset both.1)

  phased_place : (ε : Elements) (p : SharedPtr) → knows o past p ≡ true → IsPlace o.threads ε.block (phased ε p)
  phased_place ε p h = by_phase (p.phase == 0 || nat_lt p.phase ε.block) refl
    where
      by_phase : (b : Bool) → (p.phase == 0 || nat_lt p.phase ε.block) ≡ b
          → IsPlace o.threads ε.block (if b then p else record p { phase = 0 })
      by_phase true e =
          let place = pointer_placed p h in
          record {
            offset = place.1;
            thread = place.0;
            phase = elim (or_cases (p.phase == 0) (nat_lt p.phase ε.block) e) [
              | inl z ↦ let none = eqb-true p.phase 0 z in omega arith
              | inr z ↦ let below = ltb-true p.phase ε.block z in omega arith
            ];
          }
      by_phase false e =
          let place = pointer_placed p h in
          record { offset = place.1; thread = place.0; phase = omega arith }

  -- ---- pointers-to-local

  between_near : (q p : ℤ) (size : ℕ) → in_range q ≡ true → in_range p ≡ true → NearIn (elements_between q p size)
  between_near q p size h g =
      let a = in_range-true q h in
      let b = in_range-true p g in
      let near = floor_near (q -ℤ p) size in
      either_near (int_eq (q -ℤ p) (floor_div (q -ℤ p) size *ℤ pos size)) (floor_div (q -ℤ p) size) POINTER_PAIR
      (omega (arith, ints, near, a.least, a.most, b.least, b.most))

  place_ranged : (object : ObjectRef) (thread : ℕ) (offset : ℤ) → names o past object thread offset ≡ true
      → in_range offset ≡ true
  place_ranged object thread offset h =
      (and_parts (nat_lt thread o.threads) (in_range offset)
      (and_parts (list_any (same_object object) (objects_given o.declared past))
      (nat_lt thread o.threads && in_range offset) h).1).1

  local_near : (q p : LocalPtr) (size : ℕ) → Known o past (value.Local q) → Known o past (value.Local p)
      → NearIn (local_difference q p size)
  local_near (local.Private n q) (local.Private m p) size h g =
      test_near (n == m) (elements_between q p size) POINTER_PAIR (between_near q p size h g)
  local_near (local.Shared a t q) (local.Shared b u p) size h g =
      test_near (same_object a b && t == u) (elements_between q p size) POINTER_PAIR
      (between_near q p size (place_ranged a t q h) (place_ranged b u p g))
  local_near q p size h g = tt

  -- What two known pointers are apart is near 0.
  pub known_near : (me budget : ℕ) (ε : Elements) (w y : Value) → IsTarget ε.block ε.size → Known o past w
      → Known o past y → NearIn (apart (runner o me budget) ε w y)
  known_near me budget ε (value.Scalar (Shared q)) (value.Scalar (Shared p)) t h g =
      either_near _ (step.apart (phased ε q) (phased ε p) ε.block ε.size o.threads) POINTER_PAIR
      (apart_near (phased ε q) (phased ε p) ε.block ε.size o.threads (phased_place ε q h) (phased_place ε p g) t
      v.most)
  known_near me budget ε (value.Local q) (value.Local p) t h g = local_near q p ε.size h g
  known_near me budget ε w y t h g = tt
