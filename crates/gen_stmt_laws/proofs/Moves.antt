-- What the typing rules say of the objects that a pointer is moved over: their type has few leaf elements.
use Rattle.std.proofs.Common.{◌≡◌, ◌≤◌, Bool, true, false, ◌&&◌, ◌||◌, not, Option, Some, None, refl, sym, subst}
use Rattle.std.proofs.Common.{◌∙◌, ap}
use Rattle.std.proofs.lemmas.Bool.{false≢true, and_parts}
use Rattle.integers.specs.declared.operator.BinOp.{BinOp}
use Rattle.integers.specs.declared.operator.BinOp.TheVariants as op
use Rattle.upc_types.specs.Types.{CType, Base, Void, Integer, Struct, Array, Pointer, LockObject, base_of}
use Rattle.upc_types.specs.Cells.{leaves}
use Rattle.upc_types.specs.Conversions.{is_integer}
use Rattle.typing_rules.specs.Attributes.{object_at, element_address}
use Rattle.typing_rules.specs.Library.{int}
use Rattle.typing_rules.specs.Nodes as n
use Rattle.typing_rules.specs.Nodes.{Attr, Use}
use Rattle.typing_rules.specs.Rules.{table, judge, rule_14, rule_15, rule_18, counts, points, target, is_scalar}
use Rattle.typing_rules.specs.Rules.{has_size, is_loose_target, is_loose, moves, is_difference, target_is_lock}
use Rattle.typing_rules.specs.Rules.{fits_compound}
use Rattle.typing_rules.specs.Values.{value_base, base_target, present}
use Rattle.typed_tree.specs.Programs.{Checked}
use Rattle.typed_tree.specs.layer.Judged.{Judged, facts_at}
use Rattle.source_meaning.specs.Types.{target_of}
use Rattle.meaning_laws.proofs.Operators.{value_target}
use Rattle.meaning_laws.proofs.Rules.{unbroken, holds, or_left}
use Rattle.gen_stmt_laws.specs.code.Fitting.{AreFine}
use Rattle.gen_stmt_laws.proofs.Sizes.{earlier_fine, few_leaves}

-- An object of this type has few leaf elements.
abbrev pub IsFew : CType → Type 0
IsFew t = leaves (base_of t) ≤ 16777216

-- The target has, where there is one.
abbrev pub IsFewAt : Option CType → Type 0
IsFewAt None = Unit {0}
IsFewAt (Some t) = IsFew t

-- The target that an operator moves over has, where it moves over one.
abbrev pub MovesFew : BinOp → (left right : Option CType) → Type 0
MovesFew op.Add (Some t) None = IsFew t
MovesFew op.Add None (Some u) = IsFew u
MovesFew op.Subtract (Some t) None = IsFew t
MovesFew o left right = Unit {0}

-- ---- truth values

left_false : (b : Bool) → ((b || false) && true) ≡ false → b ≡ false
left_false true h = h
left_false false h = refl

right_false : (b : Bool) → (b && true) ≡ false → b ≡ false
right_false true h = h
right_false false h = refl

loose_one : (loose lock : Bool) → ((loose || false) && not (lock && false)) ≡ false → loose ≡ false
loose_one true true h = h
loose_one true false h = h
loose_one false lock h = refl

-- An integer is no pointer.
no_target : (b : Base) → is_integer (value_base b) ≡ true → base_target b ≡ None
no_target (Integer k) h = refl
no_target Void h = absurd (false≢true h)
no_target (Struct m) h = absurd (false≢true h)
no_target (Array t count) h = absurd (false≢true h)
no_target (Pointer t) h = absurd (false≢true h)
no_target LockObject h = absurd (false≢true h)

module _ (program : Checked) (fine : AreFine program.structs.completed) where
  -- A target that has a size at its place in the source has few leaf elements.
  loose_few : (x : n.Node) (a : Attr) (j : Judged program x a) (o : Option CType) → is_loose_target j.0 o ≡ false
      → IsFewAt o
  loose_few x a j None h = tt
  loose_few x a j (Some t) h =
      few_leaves j.0.completed (earlier_fine j.1.place fine) (base_of t) (holds (has_size j.0 t) h)

  -- What an operator moves over, by what its operands point to.
  moved : (x : n.Node) (a : Attr) (j : Judged program x a) (o : BinOp) (l r : Option CType)
      → (moves o && (is_loose_target j.0 l || is_loose_target j.0 r)
      && not (is_difference o && (target_is_lock l && target_is_lock r)))
      ≡ false
      → MovesFew o l r
  moved x a j op.Add (Some t) None h = loose_few x a j (Some t) (left_false (is_loose_target j.0 (Some t)) h)
  moved x a j op.Add None (Some u) h = loose_few x a j (Some u) (right_false (is_loose_target j.0 (Some u)) h)
  moved x a j op.Add (Some t) (Some u) h = tt
  moved x a j op.Add None None h = tt
  moved x a j op.Subtract (Some t) None h =
      loose_few x a j (Some t) (loose_one (is_loose_target j.0 (Some t)) (target_is_lock (Some t)) h)
  moved x a j op.Subtract (Some t) (Some u) h = tt
  moved x a j op.Subtract None (Some u) h = tt
  moved x a j op.Subtract None None h = tt
  moved x a j o l r h = tt

  -- An operator whose right operand is an integer.
  moved_by : (x : n.Node) (a : Attr) (j : Judged program x a) (o : BinOp) (l : Option CType)
      → (moves o ≡ true → is_loose_target j.0 l ≡ false) → MovesFew o l None
  moved_by x a j op.Add (Some t) h = loose_few x a j (Some t) (h refl)
  moved_by x a j op.Add None h = tt
  moved_by x a j op.Subtract (Some t) h = loose_few x a j (Some t) (h refl)
  moved_by x a j op.Subtract None h = tt
  moved_by x a j o l h = tt

  at_types : (o : BinOp) (a b : Attr) → MovesFew o (target a) (target b)
      → MovesFew o (target_of a.ctype) (target_of b.ctype)
  at_types o a b h =
      subst (λ (l : Option CType). MovesFew o l (target_of b.ctype)) (value_target (base_of a.ctype))
      (subst (λ (r : Option CType). MovesFew o (target a) r) (value_target (base_of b.ctype)) h)

  pub binary_moves : (attr a b : Attr) (o : BinOp) → Judged program (n.Binary o a b) attr
      → MovesFew o (target_of a.ctype) (target_of b.ctype)
  binary_moves attr a b o j =
      let x = n.Binary o a b in
      let φ = facts_at program j.0 in
      let r15 = unbroken (table φ x) 14 (judge 15 (rule_15 φ x)) refl j.1.rules in
      at_types o a b (moved x attr j o (target a) (target b) r15)

  second : (b c : Bool) → (b && c) ≡ false → b ≡ true → c ≡ false
  second true c h e = h
  second false c h e = absurd (false≢true e)

  compound_counts : (a b : Attr) (o : BinOp) → fits_compound o a b ≡ true → counts b ≡ true
  compound_counts a b op.Add h = (and_parts (is_scalar a) (counts b) h).1
  compound_counts a b op.Subtract h = (and_parts (is_scalar a) (counts b) h).1
  compound_counts a b o h = (and_parts (counts a) (counts b) h).1

  pub compound_moves : (attr a b : Attr) (o : BinOp) → Judged program (n.Compound o a b) attr
      → MovesFew o (target_of a.ctype) (target_of b.ctype)
  compound_moves attr a b o j =
      let x = n.Compound o a b in
      let φ = facts_at program j.0 in
      let r14 = unbroken (table φ x) 13 (judge 14 (rule_14 x)) refl j.1.rules in
      let r15 = unbroken (table φ x) 14 (judge 15 (rule_15 φ x)) refl j.1.rules in
      let none = no_target (base_of b.ctype) (compound_counts a b o (holds (fits_compound o a b) r14)) in
      let left = moved_by x attr j o (target a) (second (moves o) (is_loose j.0 a) r15) in
      subst (λ (r : Option CType). MovesFew o (target_of a.ctype) r) (sym none)
      (subst (λ (l : Option CType). MovesFew o l None) (value_target (base_of a.ctype)) left)

  -- `++` and `--` add 1 or subtract it.
  pub step_moves : (attr a : Attr) (o : BinOp) → Judged program (n.Step a) attr
      → MovesFew o (target_of a.ctype) (target_of int)
  step_moves attr a o j =
      let x = n.Step a in
      let φ = facts_at program j.0 in
      let r15 = unbroken (table φ x) 14 (judge 15 (rule_15 φ x)) refl j.1.rules in
      subst (λ (l : Option CType). MovesFew o l None) (value_target (base_of a.ctype))
      (moved_by x attr j o (target a) (λ e. r15))

  subscript_by : (how : Use) (attr a i : Attr) (j : Judged program (n.Subscript how a i) attr) (o : Option CType)
      → target a ≡ o → points a ≡ true → is_loose_target j.0 o ≡ false → IsFew attr.ctype
  subscript_by how attr a i j None e p h = absurd (false≢true (ap (λ (z : Option CType). present z) (sym e) ∙ p))
  subscript_by how attr a i j (Some t) e p h =
      let few = loose_few (n.Subscript how a i) attr j (Some t) h in
      subst IsFew (sym (type_is j e)) few
    where
      type_is : (j : Judged program (n.Subscript how a i) attr) → target a ≡ Some t → attr.ctype ≡ t
      type_is j e =
          ap (λ (x : Attr). x.ctype)
          (j.1.is
          ∙ ap (λ (o : Option CType). object_at o (element_address (facts_at program j.0) a i o)) e)

  -- The object that a subscript names.
  pub subscript_moves : (how : Use) (attr a i : Attr) → Judged program (n.Subscript how a i) attr → IsFew attr.ctype
  subscript_moves how attr a i j =
      let x = n.Subscript how a i in
      let φ = facts_at program j.0 in
      let r15 = unbroken (table φ x) 14 (judge 15 (rule_15 φ x)) refl j.1.rules in
      let r18 = unbroken (table φ x) 17 (judge 18 (rule_18 x)) refl j.1.rules in
      subscript_by how attr a i j (target a) refl (holds (points a) (or_left (not (points a)) _ r18)) r15
