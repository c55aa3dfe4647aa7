-- What loads, writes, and steps of pointers bring.
use Rattle.std.proofs.Common.{◌≡◌, ◌⊎◌, inl, inr, ℕ, zero, suc, ◌<◌, ◌≤◌, nat_lt, ◌==◌, min, Bool, true, false, ◌||◌}
use Rattle.std.proofs.Common.{List, Option, Some, None, refl, sym, subst, arith}
use Rattle.std.proofs.Math.IntN.{ℤ, pos, ◌+ℤ◌, ◌*ℤ◌}
use Rattle.std.specs.Prelude.{if◌then◌else◌, Result, Ok, Err}
use Rattle.std.proofs.lemmas.Bool.{and_parts, false≢true, eqb-true, ltb-true, eq-eqb, lt-ltb, or_cases}
use Rattle.std.proofs.Math.Nat.{min-le_left}
use Rattle.upc_text.specs.declared.place.Place.{Place}
use Rattle.block_layout.specs.declared.kind.Kind.{Kind}
use Rattle.block_layout.specs.declared.kind.Kind.TheVariants as kind
use Rattle.block_layout.specs.declared.place.SharedPtr.{SharedPtr}
use Rattle.block_layout.specs.declared.place.LocalPtr.{LocalPtr}
use Rattle.block_layout.specs.declared.place.LocalPtr.TheVariants as local
use Rattle.block_layout.specs.declared.place.Loc.{Loc}
use Rattle.upc_values.specs.declared.scalar.Scalar.{Scalar}
use Rattle.upc_values.specs.declared.scalar.Scalar.TheVariants.{Int, Shared, Lock}
use Rattle.upc_values.specs.declared.scalar.Value.{Value}
use Rattle.upc_values.specs.declared.scalar.Value.TheVariants as value
use Rattle.upc_values.specs.declared.action.Action.TheVariants as act
use Rattle.upc_values.specs.declared.action.Reply.{Reply}
use Rattle.upc_values.specs.declared.action.Reply.TheVariants as reply
use Rattle.upc_values.specs.Shapes.{fits_kind, value_fits}
use Rattle.upc_values.specs.Formed.{is_pointer}
use Rattle.upc_values.specs.Expansion.{value_in}
use Rattle.private_store.specs.Live.{Live}
use Rattle.private_store.specs.Cells.{loaded, stored}
use Rattle.thread_steps.specs.States.{Thread, State, valued}
use Rattle.thread_steps.specs.layer.Parts as parts
use Rattle.thread_steps.specs.Values.{kept, kept_scalar, scalar_of}
use Rattle.thread_steps.specs.Actions as a
use Rattle.thread_steps.specs.Accesses as x
use Rattle.thread_steps.specs.declared.elements.Elements.{Elements}
use Rattle.thread_steps.specs.Pointers.{phased, shared_value, local_value, local_moved, advanced, advance}
use Rattle.thread_steps.specs.Pointers.{member_behind, member}
use Rattle.shared_pointers.specs.layer.Parts.{member_pointer}
use Rattle.block_layout.specs.Pointers.{is_null, element_in_row, moved}
use Rattle.block_layout.specs.Places.{in_range}
use Rattle.block_layout.specs.declared.run_error.TheConstants.{NULL_ACCESS, POINTER_RANGE}
use Rattle.block_layout.proofs.Numbers.{floor_mod-below}
use Rattle.upc_types.specs.Types as types
use Rattle.upc_types.specs.Types.{CType, Qualified, Structs, base_of, block_of}
use Rattle.upc_types.specs.Same.{is_lock_object}
use Rattle.typing_rules.specs.Constants.{block_or_none}
use Rattle.upc_types.specs.Cells.{pointer_kind, number_of}
use Rattle.typing_rules.specs.Attributes.{member_block}
use Rattle.source_meaning.specs.Types.{elements_of}
use Rattle.meaning_laws.specs.layer.Values.{IsFilled, Comes, Brings, IsPlaceOf, IsFormedType}
use Rattle.meaning_laws.proofs.Steps.{ResultIs, Any, give_brings, skip_brings, first_brings, valued_brings}
use Rattle.meaning_laws.proofs.Steps.{any_result}
use Rattle.meaning_laws.proofs.Steps.{Answers, ask_brings}
use Rattle.meaning_laws.proofs.Calls.{HasCalls, stored_calls}
use Rattle.meaning_laws.proofs.Stores.{FilledIn, kept_is, IsRead, loaded_is, stored_filled}

-- ---- reads

module _ (τ : Thread) (kind : Kind) (strict : Bool) where
  abbrev pub IsScalarOf : Scalar → Type 0
  IsScalarOf v = fits_kind v kind ≡ true

  abbrev pub FitsIt : Value → Type 0
  FitsIt v = value_fits v kind ≡ true

  reply_fits : (l : Loc) (r : Reply) → Answers τ (Some kind) (act.Read l strict) r → IsScalarOf (value_in r)
  reply_fits l (reply.Value (Int n)) h = h
  reply_fits l (reply.Value (Shared p)) h =
      (and_parts (fits_kind (Shared p) kind) (is_pointer τ.threads τ.shapes p) h).0
  reply_fits l (reply.Value (Lock n)) h = h
  reply_fits l reply.Done h = absurd (false≢true h)
  reply_fits l (reply.Flag b) h = absurd (false≢true h)
  reply_fits l (reply.Refused code) h = absurd (false≢true h)

  pub read_brings : (l : Loc) → Brings Scalar IsScalarOf (x.read τ kind strict l)
  read_brings l =
      first_brings (Answers τ (Some kind) (act.Read l strict)) IsScalarOf (a.ask τ (Some kind) (act.Read l strict)) _
      (ask_brings τ (Some kind) (act.Read l strict)) (λ r h. give_brings IsScalarOf (value_in r) (reply_fits l r h))

  pub load_shared_brings : (at : Place) (q : SharedPtr) → Brings Value FitsIt (x.load_shared τ kind strict at q)
  load_shared_brings at q =
      first_brings Any FitsIt (valued at (x.cell τ kind q)) _
      (valued_brings Any at (x.cell τ kind q) (any_result (x.cell τ kind q))) (λ l u.
      first_brings IsScalarOf FitsIt (x.read τ kind strict l) _ (read_brings l) (λ v h.
      give_brings FitsIt (value.Scalar v) h))

  load_private_result : (at : Place) (r : Result Value ℕ) (σ : State) → IsRead kind r → IsFilled σ.store
      → Comes FitsIt σ.store.calls (valued at r σ)
  load_private_result at (Ok v) σ h i = (h, i, refl)
  load_private_result at (Err code) σ h i = tt

  pub load_private_brings : (at : Place) (q : LocalPtr) → Brings Value FitsIt (x.load_private kind at q)
  load_private_brings at q =
      record { by = λ σ i. load_private_result at (loaded q kind σ.store) σ (loaded_is q kind σ.store i) i }

-- What is read of a kind fits the kind.
pub load_brings : (τ : Thread) (kind : Kind) (strict : Bool) (at : Place) (q : Value)
    → Brings Value (λ v. value_fits v kind ≡ true) (x.load τ kind strict at q)
unfolding x.load
load_brings τ kind strict at (value.Scalar (Shared q)) = load_shared_brings τ kind strict at q
load_brings τ kind strict at (value.Scalar (Int v)) = record { by = λ σ i. tt }
load_brings τ kind strict at (value.Scalar (Lock v)) = record { by = λ σ i. tt }
load_brings τ kind strict at (value.Local (local.Shared object thread offset)) =
    load_shared_brings τ kind false at (x.into_shared object thread offset)
load_brings τ kind strict at (value.Local (local.Private object offset)) =
    load_private_brings τ kind strict at (local.Private object offset)
load_brings τ kind strict at (value.Local local.Null) = load_private_brings τ kind strict at local.Null

-- ---- writes

module _ (τ : Thread) (kind : Kind) where
  saved_result : (at : Place) (r : Result Live ℕ) (σ : State) → FilledIn r → HasCalls σ.store.calls r
      → Comes Any σ.store.calls (parts.with_store at σ r)
  saved_result at (Ok s) σ h k = (tt, h, k)
  saved_result at (Err code) σ h k = tt

  pub save_private_brings : (at : Place) (q : LocalPtr) (v : Value) → Brings (Unit {0}) Any (x.save_private kind at q v)
  save_private_brings at q v =
      record {
        by = λ σ i. saved_result at (stored q kind (kept kind v) σ.store) σ
            (stored_filled q kind (kept kind v) σ.store (kept_is kind v) i)
            (stored_calls q kind (kept kind v) σ.store);
      }

  save_shared_brings : (strict : Bool) (at : Place) (q : SharedPtr) (v : Value)
      → Brings (Unit {0}) Any (x.save_shared τ kind strict at q v)
  save_shared_brings strict at q v =
      first_brings Any Any (valued at (x.cell τ kind q)) _
      (valued_brings Any at (x.cell τ kind q) (any_result (x.cell τ kind q))) (λ l u.
      let action = act.Write strict l (kept_scalar kind (scalar_of v)) in
      first_brings (Answers τ None action) Any (a.ask τ None action) _ (ask_brings τ None action) (λ r h. skip_brings))

  -- A write leaves the cells of private objects with values that fit them.
  pub save_brings : (strict : Bool) (at : Place) (q v : Value) → Brings (Unit {0}) Any (x.save τ kind strict at q v)
  unfolding x.save
  save_brings strict at (value.Scalar (Shared q)) v = save_shared_brings strict at q v
  save_brings strict at (value.Scalar (Int w)) v = record { by = λ σ i. tt }
  save_brings strict at (value.Scalar (Lock w)) v = record { by = λ σ i. tt }
  save_brings strict at (value.Local (local.Shared object thread offset)) v =
      save_shared_brings false at (x.into_shared object thread offset) v
  save_brings strict at (value.Local (local.Private object offset)) v =
      save_private_brings at (local.Private object offset) v
  save_brings strict at (value.Local local.Null) v = save_private_brings at local.Null v

-- ---- steps of pointers

pub or_first : (b c : Bool) → b ≡ true → (b || c) ≡ true
or_first true c h = refl
or_first false c h = absurd (false≢true h)

or_second : (b c : Bool) → c ≡ true → (b || c) ≡ true
or_second true c h = refl
or_second false c h = h

-- A phase of a block.
abbrev IsPhase : (block phase : ℕ) → Type 0
IsPhase block phase = (phase ≡ 0) ⊎ (phase < block)

phase_test : (m b n : ℕ) → m ≤ b → IsPhase m n → (n == 0 || nat_lt n b) ≡ true
phase_test m b n le (inl e) = or_first (n == 0) (nat_lt n b) (eq-eqb n 0 e)
phase_test m b n le (inr lt) = or_second (n == 0) (nat_lt n b) (lt-ltb n b (let l : n < b = omega (arith, le, lt) in l))

moved_phase : (p : SharedPtr) (i : ℤ) (m size threads : ℕ) → IsPhase m p.phase
    → IsPhase m (moved p i m size threads).phase
moved_phase p i zero size threads h = h
moved_phase p i (suc b) size threads h =
    inr (floor_mod-below (pos (element_in_row p (suc b)) +ℤ i) (suc b) (omega arith))

phase_by : (b : Bool) (p : SharedPtr) (m : ℕ) → (p.phase == 0 || nat_lt p.phase m) ≡ b
    → IsPhase m (if b then p else record p { phase = 0 }).phase
phase_by true p m e = by (or_cases (p.phase == 0) (nat_lt p.phase m) e)
  where
    by : ((p.phase == 0) ≡ true) ⊎ (nat_lt p.phase m ≡ true) → IsPhase m p.phase
    by (inl i) = inl (eqb-true p.phase 0 i)
    by (inr i) = inr (ltb-true p.phase m i)
phase_by false p m e = inl refl

-- The value fits a cell of the kind.
abbrev pub Fits : Kind → Value → Type 0
Fits kind v = value_fits v kind ≡ true

pub local_result : (n : ℕ) (r : Result LocalPtr ℕ) → ResultIs (Fits (kind.Private n)) (local_value r)
local_result n (Ok p) = refl
local_result n (Err code) = tt

shared_result : (n b : ℕ) (null ranged : Bool) (q : SharedPtr) → (q.phase == 0 || nat_lt q.phase b) ≡ true
    → ResultIs (Fits (kind.Shared n b))
    (shared_value (if null then Err NULL_ACCESS else if ranged then Ok q else Err POINTER_RANGE))
shared_result n b true ranged q h = tt
shared_result n b false true q h = h
shared_result n b false false q h = tt

module _ (τ : Thread) (ε : Elements) (i : ℤ) where
  abbrev Advances : Kind → Value → Type 0
  Advances k v = ResultIs (Fits k) (advanced τ ε i v)

  shared_advances : (n b : ℕ) → ε.block ≤ b → (v : Value) → Fits (kind.Shared n b) v → Advances (kind.Shared n b) v
  shared_advances n b le (value.Scalar (Shared q)) h =
      let r = moved (phased ε q) i ε.block ε.size τ.threads in
      shared_result n b (is_null (phased ε q)) (in_range r.offset) r
      (phase_test ε.block b r.phase le
      (moved_phase (phased ε q) i ε.block ε.size τ.threads
      (phase_by (q.phase == 0 || nat_lt q.phase ε.block) q ε.block refl)))
  shared_advances n b le (value.Scalar (Int w)) h = absurd (false≢true h)
  shared_advances n b le (value.Scalar (Lock w)) h = absurd (false≢true h)
  shared_advances n b le (value.Local p) h = absurd (false≢true h)

  private_advances : (n : ℕ) (v : Value) → Fits (kind.Private n) v → Advances (kind.Private n) v
  private_advances n (value.Local p) h = local_result n (local_moved p (i *ℤ pos ε.size))
  private_advances n (value.Scalar (Shared q)) h = absurd (false≢true h)
  private_advances n (value.Scalar (Int w)) h = absurd (false≢true h)
  private_advances n (value.Scalar (Lock w)) h = absurd (false≢true h)

  lock_advances : (v : Value) → Fits kind.Lock v → Advances kind.Lock v
  lock_advances (value.Scalar (Lock w)) h = tt
  lock_advances (value.Scalar (Shared q)) h = absurd (false≢true h)
  lock_advances (value.Scalar (Int w)) h = absurd (false≢true h)
  lock_advances (value.Local p) h = absurd (false≢true h)

-- ---- kinds of pointers

-- The kind of a pointer to a type with this block that is no lock.
abbrev pub kind_by : Option ℕ → ℕ → Kind
kind_by (Some block) n = kind.Shared n block
kind_by None n = kind.Private n

pub unlocked_kind : (targets : List CType) (t : CType) → is_lock_object (base_of t) ≡ false
    → pointer_kind targets t ≡ kind_by (block_of t) (number_of targets t)
unlocked_kind targets (Qualified types.LockObject c s x) f = absurd (false≢true (sym f))
unlocked_kind targets (Qualified types.Void c None x) f = refl
unlocked_kind targets (Qualified types.Void c (Some b) x) f = refl
unlocked_kind targets (Qualified (types.Integer k) c None x) f = refl
unlocked_kind targets (Qualified (types.Integer k) c (Some b) x) f = refl
unlocked_kind targets (Qualified (types.Struct n) c None x) f = refl
unlocked_kind targets (Qualified (types.Struct n) c (Some b) x) f = refl
unlocked_kind targets (Qualified (types.Array e n) c None x) f = refl
unlocked_kind targets (Qualified (types.Array e n) c (Some b) x) f = refl
unlocked_kind targets (Qualified (types.Pointer e) c None x) f = refl
unlocked_kind targets (Qualified (types.Pointer e) c (Some b) x) f = refl

formed_unlocked : (t : CType) → IsFormedType t → is_lock_object (base_of t) ≡ false
formed_unlocked (Qualified types.LockObject c s x) f = absurd f
formed_unlocked (Qualified types.Void c s x) f = refl
formed_unlocked (Qualified (types.Integer k) c s x) f = refl
formed_unlocked (Qualified (types.Struct n) c s x) f = refl
formed_unlocked (Qualified (types.Array e n) c s x) f = refl
formed_unlocked (Qualified (types.Pointer e) c s x) f = refl

pub formed_kind : (targets : List CType) (t : CType) → IsFormedType t
    → pointer_kind targets t ≡ kind_by (block_of t) (number_of targets t)
formed_kind targets t f = unlocked_kind targets t (formed_unlocked t f)

module _ (τ : Thread) (structs : Structs) (i : ℤ) where
  abbrev Steps : CType → Kind → Value → Type 0
  Steps t k v = ResultIs (Fits k) (advanced τ (elements_of structs t) i v)

  block_advances : (t : CType) (s : Option ℕ) (n : ℕ) → block_of t ≡ s → (v : Value) → Fits (kind_by s n) v
      → Steps t (kind_by s n) v
  block_advances t (Some b) n e v h =
      let le : (elements_of structs t).block ≤ b =
      subst (λ (x : Option ℕ). min (block_or_none x) 16777216 ≤ b) (sym e) (min-le_left b 16777216) in
      shared_advances τ (elements_of structs t) i n b le v h
  block_advances t None n e v h = private_advances τ (elements_of structs t) i n v h

  unlocked_advances : (t : CType) (v : Value) → is_lock_object (base_of t) ≡ false → IsPlaceOf structs t v
      → Steps t (pointer_kind structs.targets t) v
  unlocked_advances t v f h =
      let n = number_of structs.targets t in
      let k = unlocked_kind structs.targets t f in
      subst (λ (x : Kind). Steps t x v) (sym k)
      (block_advances t (block_of t) n refl v (subst (λ (x : Kind). Fits x v) k h))

  type_advances : (t : CType) (v : Value) → IsPlaceOf structs t v → Steps t (pointer_kind structs.targets t) v
  type_advances (Qualified types.LockObject c s x) v h =
      lock_advances τ (elements_of structs (Qualified types.LockObject c s x)) i v h
  type_advances (Qualified types.Void c s x) v h = unlocked_advances (Qualified types.Void c s x) v refl h
  type_advances (Qualified (types.Integer k) c s x) v h = unlocked_advances (Qualified (types.Integer k) c s x) v refl h
  type_advances (Qualified (types.Struct n) c s x) v h = unlocked_advances (Qualified (types.Struct n) c s x) v refl h
  type_advances (Qualified (types.Array e n) c s x) v h = unlocked_advances (Qualified (types.Array e n) c s x) v refl h
  type_advances (Qualified (types.Pointer e) c s x) v h = unlocked_advances (Qualified (types.Pointer e) c s x) v refl h

  -- A step of a pointer to a type is a pointer to the type.
  pub advance_brings : (t : CType) (at : Place) (v : Value) → IsPlaceOf structs t v
      → Brings Value (IsPlaceOf structs t) (advance τ (elements_of structs t) at v i)
  unfolding advance
  advance_brings t at v h =
      valued_brings (IsPlaceOf structs t) at (advanced τ (elements_of structs t) i v) (type_advances t v h)

-- ---- members

member_result : (n : ℕ) (null ranged : Bool) (q : SharedPtr) (offset : ℕ)
    → ResultIs (Fits (kind.Shared n 0))
    (shared_value (if null then Err NULL_ACCESS else if ranged then Ok
    (member_pointer q offset) else Err POINTER_RANGE))
member_result n true ranged q offset = tt
member_result n false true q offset = refl
member_result n false false q offset = tt

member_fits : (τ : Thread) (s : Option ℕ) (m n offset : ℕ) (v : Value) → Fits (kind_by s m) v
    → ResultIs (Fits (kind_by (member_block s) n)) (member_behind τ offset v)
member_fits τ (Some b) m n offset (value.Scalar (Shared q)) h =
    member_result n (is_null q) (in_range (q.offset +ℤ pos offset)) q offset
member_fits τ (Some b) m n offset (value.Scalar (Int w)) h = absurd (false≢true h)
member_fits τ (Some b) m n offset (value.Scalar (Lock w)) h = absurd (false≢true h)
member_fits τ (Some b) m n offset (value.Local p) h = absurd (false≢true h)
member_fits τ None m n offset (value.Local p) h = local_result n (local_moved p (pos offset))
member_fits τ None m n offset (value.Scalar (Shared q)) h = absurd (false≢true h)
member_fits τ None m n offset (value.Scalar (Int w)) h = absurd (false≢true h)
member_fits τ None m n offset (value.Scalar (Lock w)) h = absurd (false≢true h)

-- A member of a struct at a place is at a place of the member's type.
pub member_brings : (τ : Thread) (structs : Structs) (struct t : CType) (offset : ℕ) (at : Place) (v : Value)
    → IsFormedType struct → IsFormedType t → block_of t ≡ member_block (block_of struct) → IsPlaceOf structs struct v
    → Brings Value (IsPlaceOf structs t) (member τ offset at v)
unfolding member
member_brings τ structs struct t offset at v f g e h =
    let m = number_of structs.targets struct in
    let n = number_of structs.targets t in
    let fits : Fits (kind_by (block_of struct) m) v =
    subst (λ (k : Kind). Fits k v) (formed_kind structs.targets struct f) h
    in
    let r : ResultIs (Fits (kind_by (member_block (block_of struct)) n)) (member_behind τ offset v) =
    member_fits τ (block_of struct) m n offset v fits
    in
    let q : ResultIs (Fits (kind_by (block_of t) n)) (member_behind τ offset v) =
    subst (λ (s : Option ℕ). ResultIs (Fits (kind_by s n)) (member_behind τ offset v)) (sym e) r
    in
    valued_brings (IsPlaceOf structs t) at (member_behind τ offset v)
    (subst (λ (k : Kind). ResultIs (Fits k) (member_behind τ offset v)) (sym (formed_kind structs.targets t g)) q)
