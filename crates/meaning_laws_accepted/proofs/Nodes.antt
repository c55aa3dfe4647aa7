-- Expressions whose nodes meet their rules are formed, where their parts are.
use Rattle.std.proofs.Common.{◌≡◌, ℕ, Bool, true, not, ◌||◌, List, [], ◌∷◌, map, Option, Some, None, refl}
use Rattle.std.proofs.lemmas.Bool.{false≢true, and_parts}
use Rattle.block_layout.specs.declared.kind.Kind.TheVariants as kind
use Rattle.integers.specs.declared.operator.BinOp.{BinOp}
use Rattle.integers.specs.declared.operator.BinOp.TheVariants as op
use Rattle.integers.specs.declared.operator.UnOp.TheVariants as un
use Rattle.upc_tree.specs.declared.mark.AssignMark.{AssignMark}
use Rattle.upc_tree.specs.declared.mark.AssignMark.TheVariants as a
use Rattle.upc_tree.specs.declared.mark.BinaryMark.{BinaryMark}
use Rattle.upc_tree.specs.declared.mark.BinaryMark.TheVariants as b
use Rattle.upc_tree.specs.declared.mark.ConstantWord.{ConstantWord}
use Rattle.upc_tree.specs.declared.mark.ConstantWord.TheVariants as w
use Rattle.upc_tree.specs.declared.mark.MemberMark.{MemberMark}
use Rattle.upc_tree.specs.declared.mark.MemberMark.TheVariants.{Dot, Arrow}
use Rattle.upc_tree.specs.declared.mark.UnaryMark.{UnaryMark}
use Rattle.upc_tree.specs.declared.mark.UnaryMark.TheVariants as u
use Rattle.upc_tree.specs.declared.span.Name.{Name}
use Rattle.upc_values.specs.declared.library.LibraryCall.{LibraryCall}
use Rattle.upc_values.specs.declared.library.LibraryCall.TheVariants as c
use Rattle.upc_values.specs.Lists.{Each}
use Rattle.upc_types.specs.Types as types
use Rattle.upc_types.specs.Types.{CType, Qualified, Structs, base_of}
use Rattle.typing_rules.specs.Library.{is_allocation}
use Rattle.typing_rules.specs.Values.{base_target}
use Rattle.typing_rules.specs.Attributes.{Facts, attr, value, library_given, allocated}
use Rattle.typing_rules.specs.Meanings as m
use Rattle.typing_rules.specs.Meanings.{Meaning}
use Rattle.typing_rules.specs.Nodes as n
use Rattle.typing_rules.specs.Nodes.{Attr, Use}
use Rattle.typing_rules.specs.Rules.{lowest, table, judge, rule_18, rule_19, rule_29, has_size, names_member}
use Rattle.typing_rules.specs.Rules.{is_allocated_at, allocates_well}
use Rattle.typed_tree.specs.Scopes.{Setting, State}
use Rattle.typed_tree.specs.Tree as k
use Rattle.typed_tree.specs.Tree.{Expr, ExprKind, Exprs, NoExprs, AndExpr, attr_of, attrs_of}
use Rattle.typed_tree.specs.layer.Judged.{Earlier}
use Rattle.upc_checker_scopes.specs.Walk.{facts_in}
use Rattle.upc_checker_nodes.specs.Called.{name_kind, target_by, uses_by, first_use, later_uses}
use Rattle.upc_checker_nodes.specs.Marks.{unary_node, unary_kind, binary_node, binary_kind, assign_node, assign_kind}
use Rattle.upc_checker_nodes.specs.Marks.{right_use}
use Rattle.upc_checker_nodes.specs.Parts.{member_of, member_kind, constant_node, constant_kind, last_of}
use Rattle.meaning_laws.specs.layer.Formed.{AtTarget, MakesBy}
use Rattle.meaning_laws.proofs.Rules.{unbroken, holds}
use Rattle.meaning_laws_accepted.proofs.Types.{IsSoundType, no_block, sound_named}
use Rattle.meaning_laws_accepted.proofs.Sounds.{IsSoundExpr, HasSoundParts, AreSoundExprs}
use Rattle.meaning_laws_accepted.proofs.Structs.{AreFormedStructs, named_formed, complete_has_size}
use Rattle.meaning_laws_accepted.proofs.Scopes.{StandsFormed}
use Rattle.meaning_laws_accepted.proofs.Attributes.{Sound, UseFormed, plain_sound, number_sound, pointer_sound}
use Rattle.meaning_laws_accepted.proofs.Attributes.{name_sound}
use Rattle.meaning_laws_accepted.proofs.Attributes.{dereference_sound, address_sound, member_of_sound}
use Rattle.meaning_laws_accepted.proofs.Attributes.{member_behind_sound, member_struct, step_sound, assign_sound}
use Rattle.meaning_laws_accepted.proofs.Attributes.{compound_sound, unary_sound, binary_sound}

-- ---- uses

abbrev pub UsesFormed : List Use → Type 0
UsesFormed [] = Unit {0}
UsesFormed (how ∷ more) = UseFormed how × UsesFormed more

pub first_formed : (uses : List Use) → UsesFormed uses → UseFormed (first_use uses)
first_formed [] h = tt
first_formed (how ∷ more) h = h.0

pub later_formed : (uses : List Use) → UsesFormed uses → UsesFormed (later_uses uses)
later_formed [] h = tt
later_formed (how ∷ more) h = h.1

into_formed : (ts : List CType) → Each IsSoundType ts → UsesFormed (map n.Into ts)
into_formed [] h = tt
into_formed (Qualified base c s x ∷ ts) h = (sound_named s base h.0.0, into_formed ts h.1)

pub uses_formed : (x : Meaning) → StandsFormed x → UsesFormed (uses_by x)
uses_formed (m.Function s) h = into_formed s.parameters h.parameters
uses_formed (m.Library c.Printf) h = (tt, tt)
uses_formed x h = tt

-- The right side of an assignment is converted into a type of objects.
pub right_formed : (mark : AssignMark) (t : CType) → IsSoundType t → UseFormed (right_use mark t)
right_formed a.Assign (Qualified base c s x) h = sound_named s base h.0
right_formed mark t h = tt

-- Where these are the structs at the end of the source.
module _ (ξ : Setting) (σ : Structs) where
  -- A type has a size at the end of the source.
  abbrev pub Sized : CType → Type 0
  Sized t = has_size σ t ≡ true

  -- The elements that an allocation with a value of this type makes have a size.
  abbrev Makes : CType → Type 0
  Makes t = AtTarget Sized (base_target (base_of t))

  -- An expression that is used so is formed, and of a type of objects.
  abbrev pub FormedAs : Use → Expr → Type 0
  FormedAs how x = IsSoundExpr Sized x × Sound how (attr_of x)

  -- So are expressions, each with its use.
  abbrev pub AllFormed : List Use → Exprs → Type 0
  AllFormed uses NoExprs = Unit {0}
  AllFormed uses (AndExpr x more) = FormedAs (first_use uses) x × AllFormed (later_uses uses) more

  pub are_formed : (uses : List Use) (xs : Exprs) → AllFormed uses xs → AreSoundExprs Sized xs
  are_formed uses NoExprs h = tt
  are_formed uses (AndExpr x more) h = (h.0.0, are_formed (later_uses uses) more h.1)

  pub last_sound : (x : Expr) (xs : Exprs) → Sound n.Plain (attr_of x) → AllFormed [] xs → Sound n.Plain (last_of x xs)
  last_sound x NoExprs h i = h
  last_sound x (AndExpr y more) h i = last_sound y more i.0.1 i.1

  -- So is an expression of this kind with this attribute.
  abbrev pub KindFormed : Use → Attr → ExprKind → Type 0
  KindFormed how attr kind = (IsSoundType attr.ctype × HasSoundParts Sized attr kind) × Sound how attr

  pub makes_as : (how : Use) (attr : Attr) (kind : ExprKind) → Sound how attr → HasSoundParts Sized attr kind
      → KindFormed how attr kind
  makes_as how attr kind h parts = ((h.sound, parts), h)

  -- ---- names and constants

  pub name_formed : (how : Use) (φ : Facts) (x : Meaning) (name : ℕ) → StandsFormed x
      → lowest φ (n.Name how x) ≡ None → KindFormed how (attr φ (n.Name how x)) (name_kind ξ x name)
  name_formed how φ m.Unknown name h none = makes_as how _ k.Literal (number_sound how kind.Int _ _ tt) tt
  name_formed how φ (m.Object t place) name h none =
      let x = n.Name how (m.Object t place) in
      let rows = unbroken (table φ x) 17 (judge 18 (rule_18 x)) refl none in
      makes_as how _ (k.Object place) (name_sound how t _ _ h.0 rows) h.1
  name_formed how φ (m.Function s) name h none =
      makes_as how _ (name_kind ξ (m.Function s) name) (number_sound how kind.Int _ _ tt) tt
  name_formed how φ (m.Library call) name h none =
      makes_as how _ (name_kind ξ (m.Library call) name) (number_sound how kind.Int _ _ tt) tt
  name_formed how φ (m.Named c) name h none = makes_as how _ k.Literal (number_sound how kind.Int _ _ tt) tt

  pub constant_formed : (how : Use) (φ : Facts) (word : ConstantWord)
      → KindFormed how (attr φ (constant_node ξ word)) (constant_kind word)
  constant_formed how φ w.Mythread = makes_as how _ k.Mythread (number_sound how kind.Int _ _ tt) tt
  constant_formed how φ w.Threads = makes_as how _ k.Literal (number_sound how kind.Int _ _ tt) tt
  constant_formed how φ w.MaxBlockSize = makes_as how _ k.Literal (number_sound how kind.Int _ _ tt) tt

  -- ---- members

  pub member_formed : (how : Use) (φ : Facts) (mark : MemberMark) (x : Expr) (name : List ℕ)
      → AreFormedStructs φ.structs.completed → lowest φ (member_of mark (attr_of x) name) ≡ None → FormedAs n.Plain x
      → KindFormed how (attr φ (member_of mark (attr_of x) name)) (member_kind mark x name φ)
  member_formed how φ Dot x name i none h =
      let node = n.MemberOf (attr_of x) name in
      let has = holds (names_member φ.structs (attr_of x).ctype name)
      (unbroken (table φ node) 18 (judge 19 (rule_19 φ node)) refl none) in
      makes_as how _ (member_kind Dot x name φ)
      (member_of_sound φ how (attr_of x) name (named_formed φ.structs (attr_of x).ctype name i))
      (h.1.struct (member_struct φ.structs (attr_of x).ctype name has), h.0)
  member_formed how φ Arrow x name i none h =
      makes_as how _ (member_kind Arrow x name φ)
      (member_behind_sound φ how (attr_of x) name (λ t. named_formed φ.structs t name i)) h.0

  -- ---- operators

  pub unary_formed : (how : Use) (φ : Facts) (mark : UnaryMark) (x : Expr)
      → lowest φ (unary_node mark (attr_of x)) ≡ None → FormedAs n.Plain x
      → KindFormed how (attr φ (unary_node mark (attr_of x))) (unary_kind mark x)
  unary_formed how φ u.AddressOf x none h =
      makes_as how _ (unary_kind u.AddressOf x) (address_sound φ how (attr_of x) h.1 none) h.0
  unary_formed how φ u.Dereference x none h =
      makes_as how _ (unary_kind u.Dereference x) (dereference_sound φ how (attr_of x) h.1 none) h.0
  unary_formed how φ u.Plus x none h =
      makes_as how _ (unary_kind u.Plus x) (unary_sound φ how un.Plus (attr_of x)) h.0
  unary_formed how φ u.Minus x none h =
      makes_as how _ (unary_kind u.Minus x) (unary_sound φ how un.Minus (attr_of x)) h.0
  unary_formed how φ u.Complement x none h =
      makes_as how _ (unary_kind u.Complement x) (unary_sound φ how un.Complement (attr_of x)) h.0
  unary_formed how φ u.Not x none h =
      makes_as how _ (unary_kind u.Not x) (unary_sound φ how un.Not (attr_of x)) h.0
  unary_formed how φ u.Increment x none h =
      makes_as how _ (unary_kind u.Increment x) (step_sound φ how (attr_of x) h.1 none) h.0
  unary_formed how φ u.Decrement x none h =
      makes_as how _ (unary_kind u.Decrement x) (step_sound φ how (attr_of x) h.1 none) h.0

  pub binary_formed : (how : Use) (φ : Facts) (mark : BinaryMark) (x y : Expr) → FormedAs n.Plain x
      → FormedAs n.Plain y
      → KindFormed how (attr φ (binary_node mark (attr_of x) (attr_of y))) (binary_kind mark x y)
  binary_formed how φ mark x y h i = by mark
    where
      operator : (o : BinOp) → KindFormed how (attr φ (n.Binary o (attr_of x) (attr_of y))) (k.Binary o x y)
      operator o =
          makes_as how _ (k.Binary o x y) (binary_sound φ how (attr_of x) (attr_of y) o h.1 i.1) (h.0, i.0)

      by : (mark : BinaryMark)
          → KindFormed how (attr φ (binary_node mark (attr_of x) (attr_of y))) (binary_kind mark x y)
      by b.Multiply = operator op.Multiply
      by b.Divide = operator op.Divide
      by b.Remainder = operator op.Remainder
      by b.Add = operator op.Add
      by b.Subtract = operator op.Subtract
      by b.ShiftLeft = operator op.ShiftLeft
      by b.ShiftRight = operator op.ShiftRight
      by b.Less = operator op.Less
      by b.Greater = operator op.Greater
      by b.LessEqual = operator op.LessEqual
      by b.GreaterEqual = operator op.GreaterEqual
      by b.Equal = operator op.Equal
      by b.NotEqual = operator op.NotEqual
      by b.BitAnd = operator op.BitAnd
      by b.BitXor = operator op.BitXor
      by b.BitOr = operator op.BitOr
      by b.And = makes_as how _ (k.And x y) (number_sound how kind.Int _ _ tt) (h.0, i.0)
      by b.Or = makes_as how _ (k.Or x y) (number_sound how kind.Int _ _ tt) (h.0, i.0)

  pub assign_formed : (how : Use) (φ : Facts) (mark : AssignMark) (x y : Expr)
      → lowest φ (assign_node mark (attr_of x) (attr_of y)) ≡ None → FormedAs n.Plain x → IsSoundExpr Sized y
      → KindFormed how (attr φ (assign_node mark (attr_of x) (attr_of y))) (assign_kind mark x y)
  assign_formed how φ mark x y none h i = by mark none
    where
      operator : (o : BinOp) → lowest φ (n.Compound o (attr_of x) (attr_of y)) ≡ None
          → KindFormed how (attr φ (n.Compound o (attr_of x) (attr_of y))) (k.Compound o x y)
      operator o none =
          makes_as how _ (k.Compound o x y) (compound_sound φ how o (attr_of x) (attr_of y) h.1 none) (h.0, i)

      by : (mark : AssignMark) → lowest φ (assign_node mark (attr_of x) (attr_of y)) ≡ None
          → KindFormed how (attr φ (assign_node mark (attr_of x) (attr_of y))) (assign_kind mark x y)
      by a.Assign none =
          makes_as how _ (k.Assign x y) (assign_sound φ how (attr_of x) (attr_of y) h.1 none) (h.0, i)
      by a.Multiply none = operator op.Multiply none
      by a.Divide none = operator op.Divide none
      by a.Remainder none = operator op.Remainder none
      by a.Add none = operator op.Add none
      by a.Subtract none = operator op.Subtract none
      by a.ShiftLeft none = operator op.ShiftLeft none
      by a.ShiftRight none = operator op.ShiftRight none
      by a.BitAnd none = operator op.BitAnd none
      by a.BitXor none = operator op.BitXor none
      by a.BitOr none = operator op.BitOr none

  -- ---- calls

  -- What an allocation makes has a size at the end of the source.
  made_formed : (s : State) (how : Use) → UseFormed how → Earlier σ.completed s.structs.completed
      → AreFormedStructs s.structs.completed → is_allocated_at s.structs how ≡ true
      → Sound how (value (allocated how)) × Makes (allocated how)
  made_formed s n.Plain h e i a = absurd (false≢true a)
  made_formed s n.Called h e i a = absurd (false≢true a)
  made_formed s n.Indexed h e i a = absurd (false≢true a)
  made_formed s n.Measured h e i a = absurd (false≢true a)
  made_formed s n.Prints h e i a = absurd (false≢true a)
  made_formed s (n.Into (Qualified (types.Pointer (Qualified base d t y)) c v x)) h e i a = (
    pointer_sound _ (Qualified base d t y) _ _ h,
    complete_has_size σ.completed s.structs.completed base e i h.0 (and_parts _ _ a).1,
  )
  made_formed s (n.Into (Qualified types.Void c v x)) h e i a = absurd (false≢true a)
  made_formed s (n.Into (Qualified (types.Integer j) c v x)) h e i a = absurd (false≢true a)
  made_formed s (n.Into (Qualified (types.Struct number) c v x)) h e i a = absurd (false≢true a)
  made_formed s (n.Into (Qualified (types.Array t count) c v x)) h e i a = absurd (false≢true a)
  made_formed s (n.Into (Qualified types.LockObject c v x)) h e i a = absurd (false≢true a)

  library_formed : (s : State) (how : Use) (call : LibraryCall) → UseFormed how
      → Earlier σ.completed s.structs.completed → AreFormedStructs s.structs.completed
      → (not (is_allocation call) || is_allocated_at s.structs how) ≡ true
      → Sound how (value (library_given how call)) × MakesBy Makes call (library_given how call)
  library_formed s how c.GlobalAlloc h e i a = made_formed s how h e i a
  library_formed s how c.AllAlloc h e i a = made_formed s how h e i a
  library_formed s how c.Alloc h e i a = made_formed s how h e i a
  library_formed s how c.Printf h e i a = (number_sound how kind.Int _ _ tt, tt)
  library_formed s how c.ThreadOf h e i a = (number_sound how kind.ULong _ _ tt, tt)
  library_formed s how c.PhaseOf h e i a = (number_sound how kind.ULong _ _ tt, tt)
  library_formed s how c.AddressField h e i a = (number_sound how kind.ULong _ _ tt, tt)
  library_formed s how c.AffinitySize h e i a = (number_sound how kind.ULong _ _ tt, tt)
  library_formed s how c.GlobalLockAlloc h e i a = (pointer_sound how _ _ _ (tt, no_block), tt)
  library_formed s how c.AllLockAlloc h e i a = (pointer_sound how _ _ _ (tt, no_block), tt)
  library_formed s how c.LockAttempt h e i a = (number_sound how kind.Int _ _ tt, tt)
  library_formed s how call h e i a =
      (record { sound = (tt, no_block); rows = λ q. refl; struct = λ q. absurd (false≢true q) }, tt)

  pub call_formed : (s : State) (how : Use) (x : Meaning) (name : Option Name) (runs : Bool)
      (format : Option (List ℕ)) (args : Exprs) → StandsFormed x → UseFormed how
      → Earlier σ.completed s.structs.completed → AreFormedStructs s.structs.completed
      → lowest (facts_in ξ s) (n.Call how x runs format (attrs_of args)) ≡ None → AreSoundExprs Sized args
      → KindFormed how (attr (facts_in ξ s) (n.Call how x runs format (attrs_of args)))
      (k.Call (target_by ξ x name) args)
  call_formed s how (m.Library call) name runs format args h converts e i none g =
      let node = n.Call how (m.Library call) runs format (attrs_of args) in
      let φ = facts_in ξ s in
      let well = holds (allocates_well φ.structs how (m.Library call))
      (unbroken (table φ node) 28 (judge 29 (rule_29 φ node)) refl none) in
      let r = library_formed s how call converts e i well in
      makes_as how _ (k.Call (target_by ξ (m.Library call) name) args) r.0 (r.1, g)
  call_formed s how (m.Function f) None runs format args h converts e i none g =
      makes_as how _ (k.Call (target_by ξ (m.Function f) None) args)
      (plain_sound how f.result _ _ h.result h.rows h.struct) g
  call_formed s how (m.Function f) (Some o) runs format args h converts e i none g =
      makes_as how _ (k.Call (target_by ξ (m.Function f) (Some o)) args)
      (plain_sound how f.result _ _ h.result h.rows h.struct) g
  call_formed s how m.Unknown None runs format args h converts e i none g =
      makes_as how _ (k.Call (target_by ξ m.Unknown None) args) (number_sound how kind.Int _ _ tt) g
  call_formed s how m.Unknown (Some o) runs format args h converts e i none g =
      makes_as how _ (k.Call (target_by ξ m.Unknown (Some o)) args) (number_sound how kind.Int _ _ tt) g
  call_formed s how (m.Object t place) None runs format args h converts e i none g =
      makes_as how _ (k.Call (target_by ξ (m.Object t place) None) args) (number_sound how kind.Int _ _ tt) g
  call_formed s how (m.Object t place) (Some o) runs format args h converts e i none g =
      makes_as how _ (k.Call (target_by ξ (m.Object t place) (Some o)) args) (number_sound how kind.Int _ _ tt) g
  call_formed s how (m.Named q) None runs format args h converts e i none g =
      makes_as how _ (k.Call (target_by ξ (m.Named q) None) args) (number_sound how kind.Int _ _ tt) g
  call_formed s how (m.Named q) (Some o) runs format args h converts e i none g =
      makes_as how _ (k.Call (target_by ξ (m.Named q) (Some o)) args) (number_sound how kind.Int _ _ tt) g
