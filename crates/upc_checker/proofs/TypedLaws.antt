-- What the nodes of a program give of an expression.
use Rattle.std.proofs.Common.{◌≡◌, ℕ, zero, suc, ◌+◌, ◌<◌, ◌≤◌, ◌==◌, nat_eq, Bool, true, false, ◌||◌, ◌&&◌, not, if◌then◌else◌, List, [], ◌∷◌, length, map, Option, Some, None, is_some, slice_get, refl, sym, ap, ◌∙◌, ◌⊎◌, inl, inr, subst, arith}
use Rattle.std.proofs.Math.IntN.{pos}
use Rattle.std.proofs.lemmas.Int.{ints}
use Rattle.std.specs.Cmp.Lexicographic.{pointwise}
use Rattle.std.proofs.lemmas.Bool.{eqb-true}
use Rattle.block_layout.specs.declared.kind.Kind.{Kind}
use Rattle.block_layout.specs.declared.kind.Kind.TheVariants as kind
use Rattle.integers.specs.Integers.{InKind}
use Rattle.upc_types.specs.Types as types
use Rattle.upc_types.specs.Types.{CType, Base, Completed, Member, Structs, base_of, members_in, members_of}
use Rattle.upc_types.specs.Layout.{known_in, complete_in}
use Rattle.typing_rules.specs.Values.{base_struct, value_type}
use Rattle.typing_rules.specs.declared.library.LibraryConstant.{LibraryConstant}
use Rattle.typing_rules.specs.declared.library.LibraryConstant.TheVariants as c
use Rattle.typing_rules.specs.Library.{constant_value}
use Rattle.typing_rules.specs.Attributes.{known, Found, find_member, member_of, found_index, target_index}
use Rattle.typing_rules.specs.Nodes as n
use Rattle.typing_rules.specs.Nodes.{Attr, Node}
use Rattle.typing_rules.specs.Meanings as m
use Rattle.typing_rules.specs.Rules.{Verdict, judge, table, lowest_in, or_above, fits, is_modifiable, target, has_name, base_names, names_member, target_names, rule_10, rule_13, rule_14, rule_19}
use Rattle.typed_tree.specs.Tree.{attr_of, attrs_of}
use Rattle.typed_tree.specs.Programs.{Checked}
use Rattle.typed_tree.specs.layer.Judged.{Earlier, AtEnd, Before, Judged, IsConstant, facts_at, Stands}
use Rattle.typed_tree.specs.layer.ExpressionLaws.{OperandsFit, AssignedIsModifiable, ObjectIsLvalue, CallFits, MemberInRange, MemberBehindInRange, LayoutsStay, LiteralInRange}

first_of : (r : ℕ) (broken : Bool) (rest : Option ℕ) → or_above r broken rest ≡ None → (broken ≡ false) × (rest ≡ None)
first_of r true rest h = absurd cc
first_of r false rest h = (refl, h)

-- A rule of the table that is not broken.
unbroken : (vs : List Verdict) (i : ℕ) (v : Verdict) → slice_get vs i ≡ Some v → lowest_in vs ≡ None → v.broken ≡ false
unbroken [] i v e h = absurd cc
unbroken (w ∷ vs) zero v e h = let same : w ≡ v = cc in ap (λ (u : Verdict). u.broken) (sym same) ∙ (first_of w.rule w.broken (lowest_in vs) h).0
unbroken (w ∷ vs) (suc i) v e h = unbroken vs i v e (first_of w.rule w.broken (lowest_in vs) h).1

holds : (b : Bool) → not b ≡ false → b ≡ true
holds true h = refl
holds false h = absurd cc

second : (b c : Bool) → (b && c) ≡ true → c ≡ true
second true c h = h
second false c h = absurd cc

-- ---- members

no_members : (cs : List Completed) (number : ℕ) → complete_in cs number ≡ false → members_in cs number ≡ []
no_members [] number h = refl
no_members (c ∷ cs) number h = by (c.number == number) refl (no_members cs number)
  where
    by : (b : Bool) → (c.number == number) ≡ b → (complete_in cs number ≡ false → members_in cs number ≡ []) → members_in (c ∷ cs) number ≡ []
    by true e k = let i : true ≡ false = rw e at h in absurd cc
    by false e k = rw e (k (rw e at h))

-- A struct that has members at a place of a source has them at its end.
members_stay : {all older : List Completed} (number : ℕ) (name : List ℕ) → Earlier all older → has_name (members_in older number) name ≡ true → members_in all number ≡ members_in older number
members_stay number name AtEnd h = refl
members_stay {all = all} number name (Before x older fresh rest) h = by (x.number == number) refl (λ i. members_stay number name rest i)
  where
    by : (b : Bool) → (x.number == number) ≡ b → (has_name (members_in (x ∷ older) number) name ≡ true → members_in all number ≡ members_in (x ∷ older) number) → members_in all number ≡ members_in older number
    by true e k =
        let none : members_in older number ≡ [] = no_members older number (subst (λ (i : ℕ). complete_in older i ≡ false) (eqb-true x.number number e) fresh) in
        let i : has_name [] name ≡ true = subst (λ (ms : List Member). has_name ms name ≡ true) none h in
        absurd cc
    by false e k =
        let same : members_in (x ∷ older) number ≡ members_in older number = rw e refl in
        k (subst (λ (ms : List Member). has_name ms name ≡ true) (sym same) h) ∙ same

or_second : (b c : Bool) → b ≡ false → (b || c) ≡ true → c ≡ true
or_second true c e h = absurd cc
or_second false c e h = h

range_by : (b : Bool) (i size : ℕ) (f : Found) (rest : Option Found) → f.index ≡ i → (b ≡ false → found_index rest < (i + 1) + size) → found_index (if b then Some f else rest) < i + suc size
range_by true i size f rest e k = omega (arith, e)
range_by false i size f rest e k = let h = k refl in omega (arith, h)

-- A member that is found has a number among them.
found_in_range : (σ : Structs) (number i : ℕ) (ms : List Member) (name : List ℕ) → has_name ms name ≡ true → found_index (find_member σ number i ms name) < i + length ms
found_in_range σ number i [] name h = absurd cc
found_in_range σ number i (x ∷ ms) name h =
    range_by (pointwise nat_eq x.name name) i (length ms) _ _ refl (λ e. found_in_range σ number (i + 1) ms name (or_second (pointwise nat_eq x.name name) (has_name ms name) e h))

module _ (p : Checked) (σ : Structs) (earlier : Earlier p.structs.completed σ.completed) (name : List ℕ) (index : ℕ) where
  member_by : (b : Base) → base_names σ b name ≡ true → index ≡ found_index (member_of σ (base_struct b) name) →
      (number : ℕ) × (base_struct b ≡ Some number) × (index < length (members_of p.structs number))
  member_by types.Void h e = absurd cc
  member_by (types.Integer kind) h e = absurd cc
  member_by (types.Struct number) h e =
      let r = found_in_range σ number 0 (members_of σ number) name h in
      let l : length (members_of p.structs number) ≡ length (members_of σ number) = ap length (members_stay number name earlier h) in
      (number, refl, omega (arith, r, l, e))
  member_by (types.Array t count) h e = absurd cc
  member_by (types.Pointer t) h e = absurd cc
  member_by types.LockObject h e = absurd cc

  target_by : (o : Option CType) → target_names σ o name ≡ true → index ≡ target_index σ o name →
      (t : CType) × (o ≡ Some t) × (number : ℕ) × (base_struct (base_of t) ≡ Some number) × (index < length (members_of p.structs number))
  target_by None h e = absurd cc
  target_by (Some t) h e = let r = member_by (base_of t) h e in (t, refl, r.0, r.1, r.2)

as_many : (ts : List CType) → length (map value_type ts) ≡ length ts
as_many [] = refl
as_many (t ∷ ts) = ap suc (as_many ts)

-- ---- the laws

pub operands_fit : OperandsFit
operands_fit p l how at attr op a b h =
    holds (fits op (attr_of a) (attr_of b)) (unbroken (table (facts_at p h.0.0) (n.Binary op (attr_of a) (attr_of b))) 13 (judge 14 (rule_14 (n.Binary op (attr_of a) (attr_of b)))) refl h.0.1.rules)

pub assigned_is_modifiable : AssignedIsModifiable
assigned_is_modifiable p l how at attr a b h =
    holds (is_modifiable (attr_of a)) (unbroken (table (facts_at p h.0.0) (n.Assign (attr_of a) (attr_of b))) 12 (judge 13 (rule_13 (n.Assign (attr_of a) (attr_of b)))) refl h.0.1.rules)

pub object_is_lvalue : ObjectIsLvalue
object_is_lvalue p l how at attr home h =
    (ap (λ (x : Attr). x.form) h.2.1.is, subst (λ (u : CType). Stands p l home u) (sym (ap (λ (x : Attr). x.ctype) h.2.1.is)) h.1)

pub call_fits : CallFits
call_fits p l how at attr number args h =
    let x = n.Call how (m.Function h.0) true None (attrs_of args) in
    let r = unbroken (table (facts_at p h.2.0) x) 9 (judge 10 (rule_10 x)) refl h.2.1.rules in
    let e = eqb-true (length (attrs_of args)) (length h.0.parameters) (holds (nat_eq (length (attrs_of args)) (length h.0.parameters)) r) in
    let many = sym (as_many h.0.parameters) ∙ ap length h.1.parameters ∙ as_many h.1.function.parameters in
    (h.1.function, h.1.found, e ∙ many, ap (λ (y : Attr). y.ctype) h.2.1.is ∙ h.1.result)

pub member_in_range : MemberInRange
member_in_range p l how at attr a index h =
    let x = n.MemberOf (attr_of a) h.1 in
    let r = unbroken (table (facts_at p h.0) x) 18 (judge 19 (rule_19 (facts_at p h.0) x)) refl h.2.rules in
    member_by p h.0 h.2.place h.1 index (base_of (attr_of a).ctype) (holds (names_member h.0 (attr_of a).ctype h.1) r) h.3

pub member_behind_in_range : MemberBehindInRange
member_behind_in_range p l how at attr a index h =
    let x = n.MemberBehind (attr_of a) h.1 in
    let r = unbroken (table (facts_at p h.0) x) 18 (judge 19 (rule_19 (facts_at p h.0) x)) refl h.2.rules in
    target_by p h.0 h.2.place h.1 index (target (attr_of a)) (holds (target_names h.0 (target (attr_of a)) h.1) r) h.3

known_stay : {all older : List Completed} (number : ℕ) → Earlier all older → complete_in older number ≡ true → (known_in all number ≡ known_in older number) × (members_in all number ≡ members_in older number)
known_stay number AtEnd h = (refl, refl)
known_stay {all = all} number (Before x older fresh rest) h = by (x.number == number) refl (λ i. known_stay number rest i)
  where
    by : (b : Bool) → (x.number == number) ≡ b →
        (complete_in (x ∷ older) number ≡ true → (known_in all number ≡ known_in (x ∷ older) number) × (members_in all number ≡ members_in (x ∷ older) number)) →
        (known_in all number ≡ known_in older number) × (members_in all number ≡ members_in older number)
    by true e k =
        let f : complete_in older number ≡ false = subst (λ (i : ℕ). complete_in older i ≡ false) (eqb-true x.number number e) fresh in
        let g : true ≡ false = sym h ∙ f in
        absurd cc
    by false e k =
        let same : known_in (x ∷ older) number ≡ known_in older number = rw e refl in
        let members : members_in (x ∷ older) number ≡ members_in older number = rw e refl in
        let r = k (ap is_some same ∙ h) in
        (r.0 ∙ same, r.1 ∙ members)

pub layouts_stay : LayoutsStay
layouts_stay all older number e h = known_stay number e h

-- ---- literals

constant_in_range : (c : LibraryConstant) → InKind (pos (constant_value c)) kind.Int
constant_in_range c.Add = record { low = omega (arith, ints); high = omega (arith, ints) }
constant_in_range c.Multiply = record { low = omega (arith, ints); high = omega (arith, ints) }
constant_in_range c.BitAnd = record { low = omega (arith, ints); high = omega (arith, ints) }
constant_in_range c.BitOr = record { low = omega (arith, ints); high = omega (arith, ints) }
constant_in_range c.BitXor = record { low = omega (arith, ints); high = omega (arith, ints) }
constant_in_range c.LogicalAnd = record { low = omega (arith, ints); high = omega (arith, ints) }
constant_in_range c.LogicalOr = record { low = omega (arith, ints); high = omega (arith, ints) }
constant_in_range c.Least = record { low = omega (arith, ints); high = omega (arith, ints) }
constant_in_range c.Greatest = record { low = omega (arith, ints); high = omega (arith, ints) }
constant_in_range c.InNoSync = record { low = omega (arith, ints); high = omega (arith, ints) }
constant_in_range c.InMySync = record { low = omega (arith, ints); high = omega (arith, ints) }
constant_in_range c.InAllSync = record { low = omega (arith, ints); high = omega (arith, ints) }
constant_in_range c.OutNoSync = record { low = omega (arith, ints); high = omega (arith, ints) }
constant_in_range c.OutMySync = record { low = omega (arith, ints); high = omega (arith, ints) }
constant_in_range c.OutAllSync = record { low = omega (arith, ints); high = omega (arith, ints) }

-- A literal is what its node says.
abbrev InRange : Checked → Attr → Type 0
InRange p a = (k : Kind) × (v : ℕ) × (a ≡ known k (pos v)) × (InKind (pos v) k ⊎ Judged p (n.Character v) a)

threads_in_range : (threads most : ℕ) → threads ≡ most → most ≤ 32 → InKind (pos threads) kind.Int
threads_in_range threads most e h = record { low = omega (arith, ints); high = omega (arith, ints, e, h) }

constant_is : (p : Checked) (a : Attr) (x : Node) → p.threads ≤ 32 → IsConstant p x → Judged p x a → InRange p a
constant_is p a (n.Name how (m.Named c)) t i j = (kind.Int, constant_value c, j.1.is, inl (constant_in_range c))
constant_is p a (n.Number k v) t i j = (k, v, j.1.is, inl i.1)
constant_is p a (n.Character v) t i j = (kind.Int, v, j.1.is, inr j)
constant_is p a (n.Threads threads) t i j = (kind.Int, threads, j.1.is, inl (threads_in_range threads p.threads i t))
constant_is p a n.MaxBlockSize t i j = (kind.Int, 16777216, j.1.is, inl (record { low = omega (arith, ints); high = omega (arith, ints) }))
constant_is p a x t i j = absurd i

pub literal_in_range : LiteralInRange
literal_in_range p l how at attr t h = constant_is p attr h.0 t h.1 h.2
