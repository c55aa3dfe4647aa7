-- What a conversion gives fits a cell of the type into which it converts.
use Rattle.std.proofs.Common.{◌≡◌, ℕ, nat_lt, ◌==◌, Bool, true, false, ◌||◌, List, Option, Some, None, refl, subst}
use Rattle.std.specs.Prelude.{if◌then◌else◌, Result, Ok, Err}
use Rattle.std.proofs.lemmas.Bool.{and_from, eqb-true, false≢true}
use Rattle.upc_text.specs.declared.place.Place.{Place}
use Rattle.block_layout.specs.declared.kind.Kind.{Kind}
use Rattle.block_layout.specs.declared.kind.Kind.TheVariants as kind
use Rattle.block_layout.specs.declared.place.LocalPtr.{LocalPtr}
use Rattle.integers.specs.Integers as integers
use Rattle.integers.specs.Integers.{in_kind, converted}
use Rattle.shared_pointers.specs.Casts.{local_of}
use Rattle.upc_values.specs.declared.scalar.Scalar.TheVariants.{Int, Shared, Lock}
use Rattle.upc_values.specs.declared.scalar.Value.{Value}
use Rattle.upc_values.specs.declared.scalar.Value.TheVariants as value
use Rattle.upc_values.specs.Shapes.{is_integer, value_fits, fits_kind, blank, blank_value}
use Rattle.upc_types.specs.Types as types
use Rattle.upc_types.specs.Types.{CType, Base, Qualified, Structs, base_of}
use Rattle.upc_types.specs.Same.{same_block}
use Rattle.upc_types.specs.Cells.{pointer_kind, number_of}
use Rattle.typing_rules.specs.Attributes.{target_block}
use Rattle.thread_steps.specs.declared.cast.CastTo.{CastTo}
use Rattle.thread_steps.specs.declared.cast.CastTo.TheVariants as to
use Rattle.thread_steps.specs.States.{Thread}
use Rattle.thread_steps.specs.Pointers.{local_value}
use Rattle.thread_steps.specs.Operators.{cast, cast_value}
use Rattle.thread_steps.specs.Values as values
use Rattle.thread_steps.proofs.Conversions.{converted_in}
use Rattle.source_meaning.specs.Types.{target_of, pointer_conversion, conversion, cell_kind, base_conversion}
use Rattle.meaning_laws.specs.layer.Values.{FitsCell, IsOf, IsOfBase, HasIntegerKind, Brings}
use Rattle.meaning_laws.specs.code.Laws.{CellsKeep, ConversionsFit}
use Rattle.meaning_laws.proofs.Steps.{ResultIs, valued_brings}

-- ---- phases

-- The phase of a pointer-to-shared is one of the block, where there is a block.
abbrev pub PhaseFits : Option ℕ → Value → Type 0
PhaseFits (Some block) (value.Scalar (Shared p)) = (p.phase == 0 || nat_lt p.phase block) ≡ true
PhaseFits block v = Unit {0}

pub no_block : (v : Value) → PhaseFits None v
no_block (value.Scalar (Int n)) = tt
no_block (value.Scalar (Shared p)) = tt
no_block (value.Scalar (Lock l)) = tt
no_block (value.Local p) = tt

of_shared : (v : Value) (n block : ℕ) → value_fits v (kind.Shared n block) ≡ true → PhaseFits (Some block) v
of_shared (value.Scalar (Int m)) n block h = tt
of_shared (value.Scalar (Shared p)) n block h = h
of_shared (value.Scalar (Lock l)) n block h = tt
of_shared (value.Local p) n block h = tt

of_lock : (v : Value) (block : ℕ) → value_fits v kind.Lock ≡ true → PhaseFits (Some block) v
of_lock (value.Scalar (Int m)) block h = tt
of_lock (value.Scalar (Shared p)) block h = absurd (false≢true h)
of_lock (value.Scalar (Lock l)) block h = tt
of_lock (value.Local p) block h = tt

pub of_target : (targets : List CType) (t : CType) (v : Value) → IsOfBase targets (types.Pointer t) v
    → PhaseFits (target_block (Some t)) v
of_target targets (Qualified b c None x) v h = no_block v
of_target targets (Qualified types.LockObject c (Some block) x) v h = of_lock v block h
of_target targets (Qualified types.Void c (Some block) x) v h =
    of_shared v (number_of targets (Qualified types.Void c (Some block) x)) block h
of_target targets (Qualified (types.Integer k) c (Some block) x) v h =
    of_shared v (number_of targets (Qualified (types.Integer k) c (Some block) x)) block h
of_target targets (Qualified (types.Struct n) c (Some block) x) v h =
    of_shared v (number_of targets (Qualified (types.Struct n) c (Some block) x)) block h
of_target targets (Qualified (types.Array e n) c (Some block) x) v h =
    of_shared v (number_of targets (Qualified (types.Array e n) c (Some block) x)) block h
of_target targets (Qualified (types.Pointer e) c (Some block) x) v h =
    of_shared v (number_of targets (Qualified (types.Pointer e) c (Some block) x)) block h

-- A value of a type has the phase of a block of the type's target.
pub phase_fits : (structs : Structs) (from : CType) (v : Value) → IsOf structs from v
    → PhaseFits (target_block (target_of from)) v
phase_fits structs (Qualified types.Void c s x) v h = no_block v
phase_fits structs (Qualified (types.Integer k) c s x) v h = no_block v
phase_fits structs (Qualified (types.Struct n) c s x) v h = no_block v
phase_fits structs (Qualified (types.Array t n) c s x) v h = of_target structs.targets t v h
phase_fits structs (Qualified (types.Pointer t) c s x) v h = of_target structs.targets t v h
phase_fits structs (Qualified types.LockObject c s x) v h = no_block v

-- ---- casts

module _ (τ : Thread) where
  abbrev CastFits : Kind → CastTo → Value → Type 0
  CastFits kind into v = ResultIs (FitsCell (Some kind)) (cast_value τ into v)

  integer_test : (k : Kind) → integers.IsInteger k → is_integer k ≡ true
  integer_test kind.Char h = refl
  integer_test kind.UChar h = refl
  integer_test kind.Short h = refl
  integer_test kind.UShort h = refl
  integer_test kind.Int h = refl
  integer_test kind.UInt h = refl
  integer_test kind.Long h = refl
  integer_test kind.ULong h = refl
  integer_test (kind.Shared n b) h = absurd h
  integer_test kind.Lock h = absurd h
  integer_test (kind.Private n) h = absurd h

  into_integer : (k : Kind) (v : Value) → integers.IsInteger k → CastFits k (to.Integer k) v
  into_integer k v h =
      and_from (is_integer k) (in_kind k (converted k (values.number_of v))) (integer_test k h)
      (converted_in k (values.number_of v))

  into_lock : (v : Value) → CastFits kind.Lock to.Lock v
  into_lock (value.Scalar (Int m)) = refl
  into_lock (value.Scalar (Shared p)) = refl
  into_lock (value.Scalar (Lock l)) = refl
  into_lock (value.Local p) = refl

  by_local : (n : ℕ) (r : Result LocalPtr ℕ) → ResultIs (FitsCell (Some (kind.Private n))) (local_value r)
  by_local n (Ok p) = refl
  by_local n (Err code) = tt

  into_local : (n : ℕ) (v : Value) → CastFits (kind.Private n) to.Local v
  into_local n (value.Scalar (Int m)) = refl
  into_local n (value.Scalar (Shared p)) = by_local n (local_of p τ.number)
  into_local n (value.Scalar (Lock l)) = refl
  into_local n (value.Local p) = refl

  into_same : (n block : ℕ) (v : Value) → PhaseFits (Some block) v → CastFits (kind.Shared n block) to.Shared v
  into_same n block (value.Scalar (Int m)) h = refl
  into_same n block (value.Scalar (Shared p)) h = h
  into_same n block (value.Scalar (Lock l)) h = refl
  into_same n block (value.Local p) h = refl

  into_other : (n block : ℕ) (v : Value) → CastFits (kind.Shared n block) to.OtherBlock v
  into_other n block (value.Scalar (Int m)) = refl
  into_other n block (value.Scalar (Shared p)) = refl
  into_other n block (value.Scalar (Lock l)) = refl
  into_other n block (value.Local p) = refl

  by_block : (n block from : ℕ) (same : Bool) (v : Value) → (from == block) ≡ same → PhaseFits (Some from) v
      → CastFits (kind.Shared n block) (if same then to.Shared else to.OtherBlock) v
  by_block n block from true v e h = into_same n block v equal
    where
      equal : PhaseFits (Some block) v
      equal = subst (λ (i : ℕ). PhaseFits (Some i) v) (eqb-true from block e) h
  by_block n block from false v e h = into_other n block v

  into_shared : (n block : ℕ) (from : Option ℕ) (v : Value) → PhaseFits from v
      → CastFits (kind.Shared n block) (if same_block from (Some block) then to.Shared else to.OtherBlock) v
  into_shared n block None v h = into_other n block v
  into_shared n block (Some from) v h = by_block n block from (from == block) v refl h

  into_base : (targets : List CType) (from : Option ℕ) (t : CType) (v : Value) → PhaseFits from v
      → CastFits (pointer_kind targets t) (pointer_conversion from t) v
  into_base targets from (Qualified types.LockObject c s x) v h = into_lock v
  into_base targets from (Qualified types.Void c None x) v h =
      into_local (number_of targets (Qualified types.Void c None x)) v
  into_base targets from (Qualified (types.Integer k) c None x) v h =
      into_local (number_of targets (Qualified (types.Integer k) c None x)) v
  into_base targets from (Qualified (types.Struct n) c None x) v h =
      into_local (number_of targets (Qualified (types.Struct n) c None x)) v
  into_base targets from (Qualified (types.Array e n) c None x) v h =
      into_local (number_of targets (Qualified (types.Array e n) c None x)) v
  into_base targets from (Qualified (types.Pointer e) c None x) v h =
      into_local (number_of targets (Qualified (types.Pointer e) c None x)) v
  into_base targets from (Qualified types.Void c (Some block) x) v h =
      into_shared (number_of targets (Qualified types.Void c (Some block) x)) block from v h
  into_base targets from (Qualified (types.Integer k) c (Some block) x) v h =
      into_shared (number_of targets (Qualified (types.Integer k) c (Some block) x)) block from v h
  into_base targets from (Qualified (types.Struct n) c (Some block) x) v h =
      into_shared (number_of targets (Qualified (types.Struct n) c (Some block) x)) block from v h
  into_base targets from (Qualified (types.Array e n) c (Some block) x) v h =
      into_shared (number_of targets (Qualified (types.Array e n) c (Some block) x)) block from v h
  into_base targets from (Qualified (types.Pointer e) c (Some block) x) v h =
      into_shared (number_of targets (Qualified (types.Pointer e) c (Some block) x)) block from v h

  into_type : (structs : Structs) (from : Option ℕ) (t : CType) (v : Value) → PhaseFits from v
      → HasIntegerKind (base_of t)
      → ResultIs (FitsCell (cell_kind structs t)) (cast_value τ (base_conversion from (base_of t)) v)
  into_type structs from (Qualified (types.Integer k) c s x) v h i = into_integer k v i
  into_type structs from (Qualified (types.Pointer t) c s x) v h i = into_base structs.targets from t v h
  into_type structs from (Qualified types.Void c s x) v h i = tt
  into_type structs from (Qualified (types.Struct n) c s x) v h i = tt
  into_type structs from (Qualified (types.Array t n) c s x) v h i = tt
  into_type structs from (Qualified types.LockObject c s x) v h i = tt

  -- What a conversion of what has the phase gives fits a cell of the type.
  pub phase_cast_fits : (structs : Structs) (from t : CType) (at : Place) (v : Value)
      → PhaseFits (target_block (target_of from)) v → HasIntegerKind (base_of t)
      → Brings Value (FitsCell (cell_kind structs t)) (cast τ (conversion from t) at v)
  unfolding cast
  phase_cast_fits structs from t at v h i =
      valued_brings (FitsCell (cell_kind structs t)) at (cast_value τ (conversion from t) v)
      (into_type structs (target_block (target_of from)) t v h i)

  -- What a conversion gives fits a cell of the type.
  pub cast_fits : (structs : Structs) (from t : CType) (at : Place) (v : Value) → IsOf structs from v
      → HasIntegerKind (base_of t) → Brings Value (FitsCell (cell_kind structs t)) (cast τ (conversion from t) at v)
  cast_fits structs from t at v h i = phase_cast_fits structs from t at v (phase_fits structs from v h) i

pub conversions_fit : ConversionsFit
conversions_fit = record { each = λ structs τ from t at v h i. cast_fits τ structs from t at v h i }

-- ---- what cells keep

first_one : {A : Type 0} (b : Bool) (v w : A) → b ≡ true → (if b then v else w) ≡ v
first_one true v w h = refl
first_one false v w h = absurd (false≢true h)

pub cells_keep : CellsKeep
cells_keep = record {
  value = λ k v h. first_one (value_fits v k) v (blank_value k) h;
  scalar = λ k v h. first_one (fits_kind v k) v (blank k) h;
}
