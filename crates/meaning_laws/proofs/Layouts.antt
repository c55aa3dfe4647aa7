-- What is stepped over has a layout, a size operator a known value, a shared object its place, and a pointer its phase.
use Rattle.std.proofs.Common.{◌≡◌, ℕ, zero, suc, ◌-◌, ◌*◌, ◌<◌, ◌≤◌, nat_lt, nat_le, ◌==◌, min, Bool, true, false}
use Rattle.std.proofs.Common.{◌&&◌, ◌||◌, not, is_some, List, [], ◌∷◌, map, Option, Some, None, slice_get}
use Rattle.std.proofs.Common.{refl, sym, ap, subst, ◌∙◌, arith}
use Rattle.std.specs.Prelude.{if◌then◌else◌}
use Rattle.std.proofs.lemmas.Bool.{false≢true, and_parts, and_from, eqb-true, leb-true, le-leb, ltb-true}
use Rattle.block_layout.specs.declared.kind.Shape.{Shape}
use Rattle.block_layout.specs.declared.place.ObjectRef.{ObjectRef}
use Rattle.block_layout.specs.declared.place.SharedPtr.{SharedPtr}
use Rattle.integers.specs.declared.operator.BinOp.{BinOp}
use Rattle.integers.specs.declared.operator.BinOp.TheVariants as op
use Rattle.upc_values.specs.declared.scalar.Scalar.TheVariants.{Shared}
use Rattle.upc_values.specs.declared.scalar.Value.TheVariants as value
use Rattle.upc_types.specs.declared.layout.Layout.{Layout}
use Rattle.upc_types.specs.declared.layout.Known.{Known}
use Rattle.upc_types.specs.Types as types
use Rattle.upc_types.specs.Types.{CType, Base, Qualified, Completed, Structs, base_of, block_of}
use Rattle.upc_types.specs.Layout.{base_layout, base_complete, complete_in, known_in, layout_in}
use Rattle.upc_types.specs.Layout.{layout_or_none, most_bytes}
use Rattle.upc_types.specs.Cells.{leaf_base, pointer_kind}
use Rattle.typing_rules.specs.declared.attribute.Constant.{Constant}
use Rattle.typing_rules.specs.Constants.{block_or_none}
use Rattle.typing_rules.specs.Attributes.{base, object_at, element_address}
use Rattle.typing_rules.specs.Values.{base_target, present}
use Rattle.typing_rules.specs.Nodes as n
use Rattle.typing_rules.specs.Nodes.{Attr, Use}
use Rattle.typing_rules.specs.Rules.{table, judge, has_size, is_loose, is_loose_target, target, rule_15, rule_16}
use Rattle.typing_rules.specs.Rules.{rule_18, points, moves, moves_loosely, mismatches, are_locks, targets_differ}
use Rattle.typed_tree.specs.Tree.{attr_of, DeclaredObject}
use Rattle.typed_tree.specs.Objects.{shared_in, type_of, placed_from}
use Rattle.typed_tree.specs.layer.Parts.{object_of}
use Rattle.typed_tree.specs.Initials.{numbered}
use Rattle.typed_tree.specs.Programs.{Checked, start_of}
use Rattle.typed_tree.specs.layer.Judged.{Earlier, AtEnd, Before, facts_at}
use Rattle.thread_steps.specs.declared.elements.Elements.{Elements}
use Rattle.thread_steps.specs.Pointers.{phased}
use Rattle.source_meaning.specs.Types.{target_of, elements_of}
use Rattle.meaning_laws.specs.layer.Uses.{IsLaid, LeadsLaid}
use Rattle.meaning_laws.specs.code.Laws.{SteppedAreLaid, SharedAreThere, SizesAreKnown, PhasesStay}
use Rattle.meaning_laws.proofs.Operations.{Fits}
use Rattle.meaning_laws.proofs.Operators.{value_target}
use Rattle.meaning_laws.proofs.Rules.{unbroken, holds, or_left, or_right}

-- ---- earlier places

-- What is known of a struct at an earlier place is known at the end.
known_later : {all older : List Completed} (i : ℕ) (k : Known) → Earlier all older → known_in older i ≡ Some k
    → known_in all i ≡ Some k
known_later i k AtEnd h = h
known_later i k (Before x older fresh rest) h = known_later i k rest (by (x.number == i) refl)
  where
    by : (b : Bool) → (x.number == i) ≡ b → known_in (x ∷ older) i ≡ Some k
    by true q =
        let at : complete_in older i ≡ false =
        subst (λ (j : ℕ). complete_in older j ≡ false) (eqb-true x.number i q) fresh in
        absurd (false≢true (sym at ∙ ap is_some h))
    by false q = let same : known_in (x ∷ older) i ≡ known_in older i = rw q refl in same ∙ h

-- A type is complete, and has this layout.
pub record IsOfLayout (cs : List Completed) (b : Base) (l : Layout) : Type 0 where
  pub complete : base_complete (complete_in cs) b ≡ true
  pub layout : base_layout (layout_in cs) b ≡ l

struct_later : (o p : Option Known) → ((k : Known) → o ≡ Some k → p ≡ Some k) → is_some o ≡ true
    → (is_some p ≡ true) × (layout_or_none p ≡ layout_or_none o)
struct_later (Some k) p f h = let same = f k refl in (ap is_some same, ap layout_or_none same)
struct_later None p f h = absurd (false≢true h)

-- What is complete at an earlier place is so at the end, with the same layout.
pub complete_later : (all older : List Completed) → Earlier all older → (b : Base)
    → base_complete (complete_in older) b ≡ true → IsOfLayout all b (base_layout (layout_in older) b)
complete_later all older place types.Void h = absurd (false≢true h)
complete_later all older place (types.Integer k) h = record { complete = refl; layout = refl }
complete_later all older place (types.Struct m) h =
    let later = struct_later (known_in older m) (known_in all m) (λ k q. known_later m k place q) h in
    record { complete = later.0; layout = later.1 }
complete_later all older place (types.Array (Qualified u c s x) count) h =
    let p = and_parts (nat_lt 0 count) (base_complete (complete_in older) u) h in
    let inner = complete_later all older place u p.1 in
    record {
      complete = and_from (nat_lt 0 count) (base_complete (complete_in all) u) p.0 inner.complete;
      layout = ap (λ (l : Layout). record { size = count * l.size; align = l.align }) inner.layout;
    }
complete_later all older place (types.Pointer (Qualified t c s x)) h = record { complete = refl; layout = refl }
complete_later all older place types.LockObject h = absurd (false≢true h)

-- ---- leaf elements

more_bytes : (count l s : ℕ) → 0 < count → l ≤ s → l ≤ count * s
more_bytes count l s p h = grind arith

module _ (cs : List Completed) where
  abbrev bytes : Base → ℕ
  bytes b = (base_layout (layout_in cs) b).size

  leaf_complete : (b : Base) → base_complete (complete_in cs) b ≡ true
      → (base_complete (complete_in cs) (leaf_base b) ≡ true) × (bytes (leaf_base b) ≤ bytes b)
  leaf_complete (types.Array (Qualified u c s x) count) h =
      let p = and_parts (nat_lt 0 count) (base_complete (complete_in cs) u) h in
      let inner = leaf_complete u p.1 in
      (inner.0, more_bytes count (bytes (leaf_base u)) (bytes u) (ltb-true 0 count p.0) inner.1)
  leaf_complete types.Void h = absurd (false≢true h)
  leaf_complete (types.Integer k) h = (refl, omega arith)
  leaf_complete (types.Struct m) h = (h, omega arith)
  leaf_complete (types.Pointer t) h = (refl, omega arith)
  leaf_complete types.LockObject h = absurd (false≢true h)

pub some_if : {X : Type 0} (b : Bool) (x : X) → b ≡ true → is_some (if b then Some x else None) ≡ true
some_if true x h = refl
some_if false x h = absurd (false≢true h)

if_some : {X : Type 0} (b : Bool) (x : X) → is_some (if b then Some x else None) ≡ true → b ≡ true
if_some true x h = refl
if_some false x h = absurd (false≢true h)

-- What has a size where a node stands has leaf elements with a layout.
pub size_laid : (program : Checked) (σ : Structs) (t : CType) → Earlier program.structs.completed σ.completed
    → has_size σ t ≡ true → IsLaid program t
size_laid program σ t place h =
    let b = base_of t in
    let all = program.structs.completed in
    let older = σ.completed in
    let p = and_parts (base_complete (complete_in older) b) (nat_le (bytes older b) most_bytes)
    (if_some (base_complete (complete_in older) b && nat_le (bytes older b) most_bytes) _ h) in
    let leaf = leaf_complete older b p.0 in
    let later = complete_later all older place (leaf_base b) leaf.0 in
    let same : bytes all (leaf_base b) ≡ bytes older (leaf_base b) = ap (λ (l : Layout). l.size) later.layout in
    let whole : bytes older b ≤ most_bytes = leb-true (bytes older b) most_bytes p.1 in
    let few : bytes all (leaf_base b) ≤ most_bytes = omega (arith, same, leaf.1, whole) in
    some_if (base_complete (complete_in all) (leaf_base b) && nat_le (bytes all (leaf_base b)) most_bytes) _
    (and_from (base_complete (complete_in all) (leaf_base b)) (nat_le (bytes all (leaf_base b)) most_bytes)
    later.complete (le-leb (bytes all (leaf_base b)) most_bytes few))

-- ---- what is stepped over

-- What an operand leads to, where it does, has leaf elements with a layout.
lead_laid : (program : Checked) (σ : Structs) (a : Attr) → Earlier program.structs.completed σ.completed
    → is_loose_target σ (target a) ≡ false → LeadsLaid program (target_of a.ctype)
lead_laid program σ a place h =
    subst (LeadsLaid program) (value_target (base_of a.ctype)) (by (target a) h)
  where
    by : (o : Option CType) → is_loose_target σ o ≡ false → LeadsLaid program o
    by (Some t) g = size_laid program σ t place (holds (has_size σ t) g)
    by None g = tt

object_laid : (program : Checked) (o : Option CType) (x : Constant) → present o ≡ true → LeadsLaid program o
    → IsLaid program (object_at o x).ctype
object_laid program (Some t) x p h = h
object_laid program None x p h = absurd (false≢true p)

then_false : (b c : Bool) → (b && not c) ≡ false → c ≡ false → b ≡ false
then_false true c h e = absurd (false≢true (sym (ap not (sym e) ∙ h)))
then_false false c h e = refl

-- Neither operand of a sum or a difference is loose.
neither_loose : (σ : Structs) (o : BinOp) (a b : Attr) → moves o ≡ true → moves_loosely σ o a b ≡ false
    → mismatches o a b ≡ false → (is_loose σ a || is_loose σ b) ≡ false
neither_loose σ op.Add a b m h g = drop_true (is_loose σ a || is_loose σ b) h
  where
    drop_true : (c : Bool) → (c && true) ≡ false → c ≡ false
    drop_true true q = q
    drop_true false q = refl
neither_loose σ op.Subtract a b m h g =
    then_false (is_loose σ a || is_loose σ b) (are_locks a b) h
    (or_right (targets_differ (target a) (target b)) (are_locks a b) g)
neither_loose σ op.Multiply a b m h g = absurd (false≢true m)
neither_loose σ op.Divide a b m h g = absurd (false≢true m)
neither_loose σ op.Remainder a b m h g = absurd (false≢true m)
neither_loose σ op.ShiftLeft a b m h g = absurd (false≢true m)
neither_loose σ op.ShiftRight a b m h g = absurd (false≢true m)
neither_loose σ op.Less a b m h g = absurd (false≢true m)
neither_loose σ op.Greater a b m h g = absurd (false≢true m)
neither_loose σ op.LessEqual a b m h g = absurd (false≢true m)
neither_loose σ op.GreaterEqual a b m h g = absurd (false≢true m)
neither_loose σ op.Equal a b m h g = absurd (false≢true m)
neither_loose σ op.NotEqual a b m h g = absurd (false≢true m)
neither_loose σ op.BitAnd a b m h g = absurd (false≢true m)
neither_loose σ op.BitXor a b m h g = absurd (false≢true m)
neither_loose σ op.BitOr a b m h g = absurd (false≢true m)

and_right : (b c : Bool) → b ≡ true → (b && c) ≡ false → c ≡ false
and_right true c e h = h
and_right false c e h = absurd (false≢true e)

pub stepped_are_laid : SteppedAreLaid
stepped_are_laid = record {
  subscript = λ program locals how attr a i h.
      let x = n.Subscript how (attr_of a) (attr_of i) in
      let σ = h.0.0 in
      let φ = facts_at program σ in
      let r15 = unbroken (table φ x) 14 (judge 15 (rule_15 φ x)) refl h.0.1.rules in
      let r18 = unbroken (table φ x) 17 (judge 18 (rule_18 x)) refl h.0.1.rules in
      let o = base_target (base (attr_of a)) in
      let there = holds (points (attr_of a)) (or_left (not (points (attr_of a))) _ r18) in
      subst (IsLaid program) (sym (ap (λ (y : Attr). y.ctype) h.0.1.is))
      (object_laid program o (element_address φ (attr_of a) (attr_of i) o) there
      (subst (LeadsLaid program) (sym (value_target (base_of (attr_of a).ctype)))
      (lead_laid program σ (attr_of a) h.0.1.place r15)));
  binary = λ program locals how attr o a b m h.
      let x = n.Binary o (attr_of a) (attr_of b) in
      let σ = h.0.0 in
      let φ = facts_at program σ in
      let r15 = unbroken (table φ x) 14 (judge 15 (rule_15 φ x)) refl h.0.1.rules in
      let r16 = unbroken (table φ x) 15 (judge 16 (rule_16 x)) refl h.0.1.rules in
      let none = neither_loose σ o (attr_of a) (attr_of b) m r15 r16 in (
        lead_laid program σ (attr_of a) h.0.1.place (or_left (is_loose σ (attr_of a)) (is_loose σ (attr_of b)) none),
        lead_laid program σ (attr_of b) h.0.1.place (or_right (is_loose σ (attr_of a)) (is_loose σ (attr_of b)) none),
      );
  compound = λ program locals how attr o a b m h.
      let x = n.Compound o (attr_of a) (attr_of b) in
      let σ = h.0.0 in
      let φ = facts_at program σ in
      let r15 = unbroken (table φ x) 14 (judge 15 (rule_15 φ x)) refl h.0.1.rules in
      lead_laid program σ (attr_of a) h.0.1.place (and_right (moves o) (is_loose σ (attr_of a)) m r15);
  step = λ program locals how attr o a h.
      let x = n.Step (attr_of a) in
      let σ = h.0.0 in
      let φ = facts_at program σ in
      let r15 = unbroken (table φ x) 14 (judge 15 (rule_15 φ x)) refl h.0.1.rules in
      lead_laid program σ (attr_of a) h.0.1.place r15;
}

-- ---- sizes

pub sizes_are_known : SizesAreKnown
sizes_are_known = record {
  object = λ program locals how attr o a h. (_, ap (λ (y : Attr). y.constant) h.0.1.is);
  type = λ program locals how attr o t h. (_, ap (λ (y : Attr). y.constant) h.2.1.is);
}

-- ---- shared objects

placed_found : (structs : Structs) (shapes : List Shape) (xs : List DeclaredObject) (i : ℕ) (t : CType)
    (number bytes_ : ℕ) → slice_get (map type_of xs) i ≡ Some t
    → (o : ObjectRef) × (slice_get (map object_of (placed_from structs shapes number bytes_ xs)) i ≡ Some o)
placed_found structs shapes [] i t number bytes_ h = absurd cc
placed_found structs shapes (x ∷ xs) zero t number bytes_ h = (_, refl)
placed_found structs shapes (x ∷ xs) (suc i) t number bytes_ h = placed_found structs shapes xs i t _ _ h

pub shared_are_there : SharedAreThere
shared_are_there = record {
  each = λ program locals how attr number h. by program number h.0 h.1.0 h.1.1;
}
  where
    by : (program : Checked) (number : ℕ) (t : CType) → 1 ≤ number
        → slice_get (map type_of (shared_in program.objects)) (number - 1) ≡ Some t
        → (o : ObjectRef) × (numbered (start_of program).shared_objects number ≡ Some o)
    by program zero t h g = absurd (omega arith)
    by program (suc i) t h g =
        let same : suc i - 1 ≡ i = omega arith in
        placed_found (start_of program).structs (start_of program).shapes (shared_in program.objects) i t 1 0
        (subst (λ (j : ℕ). slice_get (map type_of (shared_in program.objects)) j ≡ Some t) same g)

-- ---- phases

if_true : {X : Type 0} (b : Bool) (x y : X) → b ≡ true → (if b then x else y) ≡ x
if_true true x y h = refl
if_true false x y h = absurd (false≢true h)

phase_by : (ε : Elements) (p : SharedPtr) (block : ℕ) → ε.block ≡ min block 16777216 → block ≤ 16777216
    → ((p.phase == 0) || nat_lt p.phase block) ≡ true → phased ε p ≡ p
phase_by ε p block e few h =
    let same : block ≡ ε.block = omega arith in
    if_true ((p.phase == 0) || nat_lt p.phase ε.block) p (record p { phase = 0 })
    (subst (λ (i : ℕ). ((p.phase == 0) || nat_lt p.phase i) ≡ true) same h)

phase_stays : (structs : Structs) (t : CType) (p : SharedPtr) → block_or_none (block_of t) ≤ 16777216
    → Fits (pointer_kind structs.targets t) (value.Scalar (Shared p)) → phased (elements_of structs t) p ≡ p
phase_stays structs (Qualified types.LockObject c s x) p few h = absurd (false≢true h)
phase_stays structs (Qualified types.Void c None x) p few h = absurd (false≢true h)
phase_stays structs (Qualified types.Void c (Some b) x) p few h =
    phase_by (elements_of structs (Qualified types.Void c (Some b) x)) p b refl few h
phase_stays structs (Qualified (types.Integer k) c None x) p few h = absurd (false≢true h)
phase_stays structs (Qualified (types.Integer k) c (Some b) x) p few h =
    phase_by (elements_of structs (Qualified (types.Integer k) c (Some b) x)) p b refl few h
phase_stays structs (Qualified (types.Struct m) c None x) p few h = absurd (false≢true h)
phase_stays structs (Qualified (types.Struct m) c (Some b) x) p few h =
    phase_by (elements_of structs (Qualified (types.Struct m) c (Some b) x)) p b refl few h
phase_stays structs (Qualified (types.Array u i) c None x) p few h = absurd (false≢true h)
phase_stays structs (Qualified (types.Array u i) c (Some b) x) p few h =
    phase_by (elements_of structs (Qualified (types.Array u i) c (Some b) x)) p b refl few h
phase_stays structs (Qualified (types.Pointer u) c None x) p few h = absurd (false≢true h)
phase_stays structs (Qualified (types.Pointer u) c (Some b) x) p few h =
    phase_by (elements_of structs (Qualified (types.Pointer u) c (Some b) x)) p b refl few h

pub phases_stay : PhasesStay
phases_stay = record { each = λ structs t p few h. phase_stays structs t p few h }
