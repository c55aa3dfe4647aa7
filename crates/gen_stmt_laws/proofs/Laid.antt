-- What is allocated is of a complete type, which has a layout unless it is an array.
use Rattle.std.proofs.Common.{◌≡◌, ℕ, nat_lt, nat_le, Bool, true, false, ◌&&◌, ◌||◌, not, if◌then◌else◌, Option, Some}
use Rattle.std.proofs.Common.{None, is_some, List, refl, sym, ap, ◌∙◌, subst}
use Rattle.std.proofs.lemmas.Bool.{false≢true, and_parts, and_from, le-leb}
use Rattle.block_layout.specs.Shapes.{kind_size}
use Rattle.block_layout.specs.declared.kind.Kind.{Kind}
use Rattle.block_layout.specs.declared.kind.Kind.TheVariants as kind
use Rattle.upc_values.specs.declared.library.LibraryCall.{LibraryCall}
use Rattle.upc_types.specs.declared.layout.Known.{Known}
use Rattle.upc_types.specs.declared.layout.Layout.{Layout}
use Rattle.upc_types.specs.Types.{CType, Qualified, Base, Void, Integer, Struct, Array, Pointer, LockObject, base_of}
use Rattle.upc_types.specs.Types.{Completed, Structs}
use Rattle.upc_types.specs.Conversions.{takes_allocation, is_shared_pointer}
use Rattle.upc_types.specs.Layout.{base_complete, base_layout, base_within, complete_in, is_complete, known_in}
use Rattle.upc_types.specs.Layout.{layout_in, layout_or_none, most_bytes, pointer_size}
use Rattle.typing_rules.specs.Attributes.{allocated}
use Rattle.typing_rules.specs.Library.{is_allocation, call_result}
use Rattle.typing_rules.specs.Meanings as meaning
use Rattle.typing_rules.specs.Nodes as n
use Rattle.typing_rules.specs.Nodes.{Attr, Use}
use Rattle.typing_rules.specs.Rules.{table, judge, rule_29, allocates_well, is_allocated_at}
use Rattle.typing_rules.specs.Values.{base_is_array, base_target}
use Rattle.typed_tree.specs.Programs.{Checked}
use Rattle.typed_tree.specs.Tree.{Exprs, ExprKind, Call, attrs_of}
use Rattle.typed_tree.specs.Words.{format_in}
use Rattle.typed_tree.specs.declared.tree.Target.TheVariants as target
use Rattle.typed_tree.specs.layer.Judged.{Earlier, facts_at}
use Rattle.typed_tree.specs.layer.TypedNodes.{MeetsKind}
use Rattle.meaning_laws.proofs.Rules.{unbroken, holds}
use Rattle.gen_stmt_laws.specs.code.Fitting.{AreFine, LeadsToNoArray, AllocatesLaid}
use Rattle.gen_stmt_laws.proofs.Sizes.{known_later}

-- ---- complete types

known_complete : (o p : Option Known) → ((k : Known) → o ≡ Some k → p ≡ Some k) → is_some o ≡ true → is_some p ≡ true
known_complete (Some k) p f h = ap is_some (f k refl)
known_complete None p f h = absurd (false≢true h)

-- What is complete at an earlier place is complete at the end.
complete_later : {all older : List Completed} → Earlier all older → (b : Base)
    → base_complete (complete_in older) b ≡ true → base_complete (complete_in all) b ≡ true
complete_later place Void h = absurd (false≢true h)
complete_later place (Integer k) h = refl
complete_later {all = all} {older = older} place (Struct m) h =
    known_complete (known_in older m) (known_in all m) (λ k e. known_later m k place e) h
complete_later {all = all} {older = older} place (Array (Qualified e c s x) count) h =
    let p = and_parts (nat_lt 0 count) (base_complete (complete_in older) e) h in
    and_from (nat_lt 0 count) (base_complete (complete_in all) e) p.0 (complete_later place e p.1)
complete_later place (Pointer t) h = refl
complete_later place LockObject h = absurd (false≢true h)

-- ---- layouts

small_kind : (k : Kind) → nat_le (kind_size k) 16777216 ≡ true
small_kind kind.Char = refl
small_kind kind.UChar = refl
small_kind kind.Short = refl
small_kind kind.UShort = refl
small_kind kind.Int = refl
small_kind kind.UInt = refl
small_kind kind.Long = refl
small_kind kind.ULong = refl
small_kind (kind.Shared i b) = refl
small_kind kind.Lock = refl
small_kind (kind.Private i) = refl

small_pointer : (b : Base) (s : Option ℕ) → nat_le (pointer_size b s) 16777216 ≡ true
small_pointer LockObject s = refl
small_pointer b (Some block) = refl
small_pointer b None = refl

some_if : (b : Bool) (l : Layout) → b ≡ true → is_some (if b then Some l else None) ≡ true
some_if true l h = refl
some_if false l h = absurd (false≢true h)

module _ (completed : List Completed) (fine : AreFine completed) where
  small_struct : (o : Option Known) (m : ℕ) → known_in completed m ≡ o → is_some o ≡ true
      → nat_le (layout_or_none o).size 16777216 ≡ true
  small_struct (Some k) m e h = le-leb k.layout.size 16777216 (fine m k e).few
  small_struct None m e h = absurd (false≢true h)

  small : (b : Base) → base_is_array b ≡ false → base_complete (complete_in completed) b ≡ true
      → nat_le (base_layout (layout_in completed) b).size 16777216 ≡ true
  small Void a h = absurd (false≢true h)
  small (Integer k) a h = small_kind k
  small (Struct m) a h = small_struct (known_in completed m) m refl h
  small (Array t count) a h = absurd (false≢true (sym a))
  small (Pointer (Qualified t c s x)) a h = small_pointer t s
  small LockObject a h = absurd (false≢true h)

  laid : (b : Base) → base_is_array b ≡ false → base_complete (complete_in completed) b ≡ true
      → is_some (base_within completed b) ≡ true
  laid b a h =
      some_if (base_complete (complete_in completed) b && nat_le (base_layout (layout_in completed) b).size most_bytes)
      (base_layout (layout_in completed) b)
      (and_from (base_complete (complete_in completed) b)
      (nat_le (base_layout (layout_in completed) b).size most_bytes) h (small b a h))

-- ---- calls

then_right : (b c : Bool) → (not b || c) ≡ true → b ≡ true → c ≡ true
then_right true c h e = h
then_right false c h e = absurd (false≢true e)

-- What a call allocates, by the type into which the node above converts its value.
record IsAllocated (σ : Structs) (u : CType) : Type 0 where
  pub target_ : CType
  pub is : base_of u ≡ Pointer target_
  pub complete : is_complete σ target_ ≡ true

by_base : (σ : Structs) (u : CType) → takes_allocation σ (base_of u) ≡ true → IsAllocated σ (allocated (n.Into u))
by_base σ (Qualified (Pointer t) c s x) h =
    record {
      target_ = t;
      is = refl;
      complete = (and_parts (is_shared_pointer (Pointer t)) (is_complete σ t) h).1;
    }
by_base σ (Qualified Void c s x) h = absurd (false≢true h)
by_base σ (Qualified (Integer k) c s x) h = absurd (false≢true h)
by_base σ (Qualified (Struct m) c s x) h = absurd (false≢true h)
by_base σ (Qualified (Array t count) c s x) h = absurd (false≢true h)
by_base σ (Qualified LockObject c s x) h = absurd (false≢true h)

by_use : (σ : Structs) (how : Use) → is_allocated_at σ how ≡ true → IsAllocated σ (allocated how)
by_use σ (n.Into u) h = by_base σ u h
by_use σ n.Plain h = absurd (false≢true h)
by_use σ n.Called h = absurd (false≢true h)
by_use σ n.Indexed h = absurd (false≢true h)
by_use σ n.Measured h = absurd (false≢true h)
by_use σ n.Prints h = absurd (false≢true h)

given_type : (b : Bool) (t u : CType) → b ≡ true → (if b then t else u) ≡ t
given_type true t u h = refl
given_type false t u h = absurd (false≢true h)

module _ (program : Checked) (fine : AreFine program.structs.completed) where
  call_laid : (locals : List CType) (how : Use) (attr : Attr) (c : LibraryCall) (args : Exprs)
      → MeetsKind program locals how attr (Call (target.Library c) args) → LeadsToNoArray (base_of attr.ctype)
      → AllocatesLaid program attr (Call (target.Library c) args)
  call_laid locals how attr c args m h e =
      let x = n.Call how (meaning.Library c) true (format_in args) (attrs_of args) in
      let j = m.0 in
      let σ = j.0 in
      let φ = facts_at program σ in
      let r29 = unbroken (table φ x) 28 (judge 29 (rule_29 φ x)) refl j.1.rules in
      let well = holds (allocates_well σ how (meaning.Library c)) r29 in
      let at = then_right (is_allocation c) (is_allocated_at σ how) well e in
      let got : IsAllocated σ (allocated how) = by_use σ how at in
      let type_is : attr.ctype ≡ allocated how =
      ap (λ (a : Attr). a.ctype) j.1.is ∙ given_type (is_allocation c) (allocated how) (call_result c) e in
      let complete = complete_later j.1.place (base_of got.target_) got.complete in
      let pointer : base_of attr.ctype ≡ Pointer got.target_ = ap base_of type_is ∙ got.is in (
        got.target_,
        ap base_target pointer,
        laid program.structs.completed fine (base_of got.target_) (subst LeadsToNoArray pointer h) complete,
      )

  -- What any expression allocates, if it is a call that allocates.
  pub node_laid : (locals : List CType) (how : Use) (attr : Attr) (kind : ExprKind)
      → MeetsKind program locals how attr kind → LeadsToNoArray (base_of attr.ctype)
      → AllocatesLaid program attr kind
  node_laid locals how attr (Call (target.Library c) args) m h = call_laid locals how attr c args m h
  node_laid locals how attr (Call (target.Function f) args) m h = tt
  node_laid locals how attr kind m h = tt
