-- What follows a first operand, and the arguments of a call.
use Rattle.std.proofs.Common.{◌≡◌, ℕ, suc, ◌+◌, ℤ, pos, Bool, true, false, List, [], ◌∷◌, refl, sym, ap, ◌∙◌}
use Rattle.std.proofs.Common.{drop, map, arith}
use Rattle.upc_text.specs.declared.place.Place.{Place}
use Rattle.upc_values.specs.declared.scalar.Value.{Value as Given}
use Rattle.upc_values.specs.declared.library.LibraryCall.{LibraryCall}
use Rattle.upc_types.specs.Types.{CType}
use Rattle.typing_rules.specs.Library.{call_parameters}
use Rattle.typing_rules.specs.Nodes.{Attr}
use Rattle.typed_tree.specs.declared.tree.Target.TheVariants as target
use Rattle.typed_tree.specs.Tree as tree
use Rattle.typed_tree.specs.Tree.{Expr, Is, Exprs, NoExprs, AndExpr, place_of}
use Rattle.thread_steps.specs.declared.cast.CastTo.{CastTo}
use Rattle.thread_steps.specs.States.{Res, Doing, bind, ◌>>=◌, give, choose}
use Rattle.thread_steps.specs.Values.{number, is_zero, truth_value}
use Rattle.thread_steps.specs.Operators.{cast}
use Rattle.thread_steps.specs.Library.{library, print}
use Rattle.source_meaning.specs.Running.{Running, parameters_of}
use Rattle.source_meaning.specs.Types.{conversion, conversions, parameter_conversion, promotion}
use Rattle.source_meaning.specs.Expressions.{Calls, value, type_of, types_of, truth_after, converted_to, arguments}
use Rattle.source_meaning.specs.layer.Parts.{is_printf}
use Rattle.source_meaning.specs.Expressions.{format_of, printed, allocated_shape}
use Rattle.source_meaning.specs.Threads.{called}
use Rattle.upc_meaning_state.specs.layer.Libraries.{format_first}
use Rattle.upc_meaning_state.proofs.Thens.{then_one, then_same}
use Rattle.upc_meaning_work.specs.layer.Seen.{Seen, meant, with_item, calls, more_works, more_values, popped}
use Rattle.upc_meaning_work.specs.layer.Items.{Value, Address, Branch, Truth, Convert, Arguments, Last}
use Rattle.upc_meaning_work.specs.layer.Left.{called_so, left}
use Rattle.upc_meaning_work.specs.code.Stacks.{top, rest, youngest}
use Rattle.upc_meaning_work.proofs.Arguing.{youngest_more}

module _ (ρ : Running) (strict : Bool) (at : Place) (attr : Attr) (s t : Seen) where
  abbrev this : tree.ExprKind → Expr
  this kind = Is at attr kind

  abbrev k : Given → Doing ℤ
  k x = left ρ s.works s.free s.flow (x ∷ rest s.values)

  abbrev v : Expr → Doing Given
  v a = value ρ (called ρ s.free) strict a

  abbrev turned : Bool → Doing Given → Doing Given → Res ℤ
  turned b x y = bind (choose b x y s.state) k

  pub and_zero : (a b : Expr) → is_zero (top s.values) ≡ true → t ≡ more_values (number (pos 0) ∷ []) (popped s)
      → with_item ρ (Branch strict (this (tree.And a b))) s ≡ meant ρ t
  unfolding with_item meant
  and_zero a b z e = ap (λ x. turned x (give (truth_value false)) (truth_after ρ (v b))) z ∙ ap (meant ρ) (sym e)

  pub and_more : (a b : Expr) → is_zero (top s.values) ≡ false
      → t ≡ more_works (Value strict b ∷ Truth ∷ []) (popped s)
      → with_item ρ (Branch strict (this (tree.And a b))) s ≡ meant ρ t
  unfolding with_item meant
  and_more a b z e = ap (λ x. turned x (give (truth_value false)) (truth_after ρ (v b))) z
      ∙ then_one {A = Given} {B = Given} (v b s.state) _ k ∙ ap (meant ρ) (sym e)

  pub or_more : (a b : Expr) → is_zero (top s.values) ≡ true
      → t ≡ more_works (Value strict b ∷ Truth ∷ []) (popped s)
      → with_item ρ (Branch strict (this (tree.Or a b))) s ≡ meant ρ t
  unfolding with_item meant
  or_more a b z e = ap (λ x. turned x (truth_after ρ (v b)) (give (truth_value true))) z
      ∙ then_one {A = Given} {B = Given} (v b s.state) _ k ∙ ap (meant ρ) (sym e)

  pub or_one : (a b : Expr) → is_zero (top s.values) ≡ false → t ≡ more_values (number (pos 1) ∷ []) (popped s)
      → with_item ρ (Branch strict (this (tree.Or a b))) s ≡ meant ρ t
  unfolding with_item meant
  or_one a b z e = ap (λ x. turned x (truth_after ρ (v b)) (give (truth_value true))) z ∙ ap (meant ρ) (sym e)

  pub second_arm : (c a b : Expr) → is_zero (top s.values) ≡ true
      → t ≡ more_works (Value strict b ∷ Convert (conversion (type_of b) attr.ctype) (place_of b) ∷ []) (popped s)
      → with_item ρ (Branch strict (this (tree.Conditional c a b))) s ≡ meant ρ t
  unfolding with_item meant
  second_arm c a b z e =
      ap (λ x. turned x (converted_to ρ attr.ctype b (v b)) (converted_to ρ attr.ctype a (v a))) z
      ∙ then_one {A = Given} {B = Given} (v b s.state) (cast ρ.thread (conversion (type_of b) attr.ctype) (place_of b)) k
      ∙ ap (meant ρ) (sym e)

  pub first_arm : (c a b : Expr) → is_zero (top s.values) ≡ false
      → t ≡ more_works (Value strict a ∷ Convert (conversion (type_of a) attr.ctype) (place_of a) ∷ []) (popped s)
      → with_item ρ (Branch strict (this (tree.Conditional c a b))) s ≡ meant ρ t
  unfolding with_item meant
  first_arm c a b z e =
      ap (λ x. turned x (converted_to ρ attr.ctype b (v b)) (converted_to ρ attr.ctype a (v a))) z
      ∙ then_one {A = Given} {B = Given} (v a s.state) (cast ρ.thread (conversion (type_of a) attr.ctype) (place_of a)) k
      ∙ ap (meant ρ) (sym e)

pub ruleset branches = (and_zero, and_more, or_more, or_one, second_arm, first_arm)

-- ---- comma expressions and calls

module _ (ρ : Running) (strict : Bool) (at : Place) (attr : Attr) (kind : tree.ExprKind) (s t : Seen) where
  abbrev e : Expr
  e = Is at attr kind

  abbrev c : Calls
  c = called ρ s.free

  abbrev kk : Given → Doing ℤ
  kk x = left ρ s.works s.free s.flow (x ∷ s.values)

  -- What follows the values of the arguments.
  abbrev with_values : tree.ExprKind → List Given → Doing ℤ
  with_values x ws = called_so ρ c (Is at attr x) ws >>= kk

  abbrev goes : tree.ExprKind → Res ℤ
  goes x = with_item ρ (Address strict (Is at attr x)) s

  pub comma_is : (es : Exprs) → kind ≡ tree.Comma es
      → t ≡ more_works (Last strict es ∷ []) (more_values (number (pos 0) ∷ []) s) → with_item ρ (Address strict e) s ≡ meant ρ t
  unfolding with_item meant
  comma_is es is same = ap goes is ∙ ap (meant ρ) (sym same)

  -- The arguments of a call are left to be done.
  abbrev left_over : tree.ExprKind → List CastTo → Exprs → Res ℤ
  left_over x casts args = meant ρ (more_works (Arguments strict (Is at attr x) casts args 0 ∷ []) s)

  pub function_goes : (n : ℕ) (args : Exprs) (ps : List CType) → kind ≡ tree.Call (target.Function n) args
      → ps ≡ parameters_of ρ n
      → t ≡ more_works (Arguments strict e (conversions (types_of args) ps) args 0 ∷ []) s
      → with_item ρ (Address strict e) s ≡ meant ρ t
  unfolding with_item meant
  function_goes n args ps is p same =
      let call = tree.Call (target.Function n) args in
      ap goes is
      ∙ then_one {A = List Given} {B = Given}
      (arguments ρ c strict (conversions (types_of args) (parameters_of ρ n)) args [] s.state) (λ vs. c n vs at) kk
      ∙ ap (λ l. left_over call (conversions (types_of args) l) args) (sym p)
      ∙ ap (λ x. left_over x (conversions (types_of args) ps) args) (sym is) ∙ ap (meant ρ) (sym same)

  pub printf_none : (call : LibraryCall) → is_printf call ≡ true → kind ≡ tree.Call (target.Library call) NoExprs
      → t ≡ more_values (number (pos 0) ∷ []) s → with_item ρ (Address strict e) s ≡ meant ρ t
  unfolding with_item meant
  printf_none call p is same =
      ap goes is
      ∙ ap (λ b. bind (choose b (printed ρ c strict NoExprs)
      (arguments ρ c strict (map parameter_conversion (call_parameters call)) NoExprs []
      >>= library ρ.thread call (allocated_shape ρ call attr.ctype) at) s.state) kk) p
      ∙ ap (meant ρ) (sym same)

  pub printf_goes : (call : LibraryCall) (f : Expr) (args : Exprs) → is_printf call ≡ true
      → kind ≡ tree.Call (target.Library call) (AndExpr f args)
      → t ≡ more_works (Arguments strict e (map promotion (types_of args)) args 0 ∷ []) s
      → with_item ρ (Address strict e) s ≡ meant ρ t
  unfolding with_item meant
  printf_goes call f args p is same =
      let x = tree.Call (target.Library call) (AndExpr f args) in
      let vs = arguments ρ c strict (map promotion (types_of args)) args [] s.state in
      ap goes is
      ∙ ap (λ b. bind (choose b (printed ρ c strict (AndExpr f args))
      (arguments ρ c strict (map parameter_conversion (call_parameters call)) (AndExpr f args) []
      >>= library ρ.thread call (allocated_shape ρ call attr.ctype) at) s.state) kk) p
      ∙ then_one {A = List Given} {B = Given} vs (print ρ.thread (format_of f)) kk
      ∙ then_same vs _ _ (λ ws σ. ap (λ b. bind (choose b (print ρ.thread (format_of f) ws)
      (library ρ.thread call (allocated_shape ρ call attr.ctype) at ws) σ) kk) (sym p))
      ∙ ap (λ x. left_over x (map promotion (types_of args)) args) (sym is) ∙ ap (meant ρ) (sym same)

  pub library_goes : (call : LibraryCall) (args : Exprs) → is_printf call ≡ false
      → kind ≡ tree.Call (target.Library call) args
      → t ≡ more_works (Arguments strict e (map parameter_conversion (call_parameters call)) args 0 ∷ []) s
      → with_item ρ (Address strict e) s ≡ meant ρ t
  unfolding with_item meant
  library_goes call args p is same =
      let casts = map parameter_conversion (call_parameters call) in
      let vs = arguments ρ c strict casts args [] s.state in
      ap goes is
      ∙ ap (λ b. bind (choose b (printed ρ c strict args)
      (arguments ρ c strict casts args []
      >>= library ρ.thread call (allocated_shape ρ call attr.ctype) at) s.state) kk) p
      ∙ then_one {A = List Given} {B = Given} vs (library ρ.thread call (allocated_shape ρ call attr.ctype) at) kk
      ∙ then_same vs _ _ (λ ws σ. ap (λ b. bind (choose b (print ρ.thread (format_first args) ws)
      (library ρ.thread call (allocated_shape ρ call attr.ctype) at ws) σ) kk) (sym p))
      ∙ ap (λ x. left_over x casts args) (sym is) ∙ ap (meant ρ) (sym same)

pub ruleset calls_go = (function_goes, printf_none, printf_goes, library_goes)

-- ---- arguments

module _ (ρ : Running) (strict : Bool) (e : Expr) (casts : List CastTo) (args : Exprs) (done : ℕ) (s t : Seen) where
  abbrev cc_ : Calls
  cc_ = called ρ s.free

  -- What follows the values of all arguments.
  abbrev behind : List Given → Doing ℤ
  behind ws = called_so ρ cc_ e ws >>= (λ v. left ρ s.works s.free s.flow (v ∷ drop done s.values))

  no_cast_in : (xs : Exprs) → with_item ρ (Arguments strict e [] xs done) s ≡ calls ρ e done s
  unfolding with_item calls
  no_cast_in xs = refl

  no_more_in : (cs : List CastTo) → with_item ρ (Arguments strict e cs NoExprs done) s ≡ calls ρ e done s
  unfolding with_item calls
  no_more_in [] = refl
  no_more_in (c ∷ cs) = refl

  pub no_cast : casts ≡ [] → with_item ρ (Arguments strict e casts args done) s ≡ calls ρ e done s
  no_cast none = ap (λ l. with_item ρ (Arguments strict e l args done) s) none ∙ no_cast_in args

  pub no_more : args ≡ NoExprs → with_item ρ (Arguments strict e casts args done) s ≡ calls ρ e done s
  no_more none = ap (λ l. with_item ρ (Arguments strict e casts l done) s) none ∙ no_more_in casts

  one_more : (a : Expr) (more : Exprs) (into : CastTo) (cs : List CastTo)
      → with_item ρ (Arguments strict e (into ∷ cs) (AndExpr a more) done) s
      ≡ meant ρ (more_works (Value strict a ∷ Convert into (place_of a) ∷ Arguments strict e cs more (suc done) ∷ []) s)
  unfolding with_item meant
  one_more a more into cs =
      let r = value ρ cc_ strict a s.state in
      let before = youngest done s.values in
      then_one {A = Given} {B = List Given} r _ behind
      ∙ then_same r _ _ (λ v τ.
      then_one {A = Given} {B = List Given} (cast ρ.thread into (place_of a) v τ) _ behind
      ∙ then_same (cast ρ.thread into (place_of a) v τ) _ _ (λ w υ.
      ap (λ ws. bind (arguments ρ cc_ strict cs more ws υ) behind) (sym (youngest_more done w s.values))))

  pub argument_goes : (a : Expr) (more : Exprs) (into : CastTo) (cs : List CastTo) (d : ℕ) → args ≡ AndExpr a more
      → casts ≡ into ∷ cs → d ≡ done + 1
      → t ≡ more_works (Value strict a ∷ Convert into (place_of a) ∷ Arguments strict e cs more d ∷ []) s
      → with_item ρ (Arguments strict e casts args done) s ≡ meant ρ t
  argument_goes a more into cs d is found count same =
      let next : d ≡ suc done = omega arith in
      ap (λ l. with_item ρ (Arguments strict e casts l done) s) is
      ∙ ap (λ l. with_item ρ (Arguments strict e l (AndExpr a more) done) s) found
      ∙ one_more a more into cs
      ∙ ap (λ n. meant ρ (more_works (Value strict a ∷ Convert into (place_of a) ∷ Arguments strict e cs more n ∷ []) s))
      (sym next) ∙ ap (meant ρ) (sym same)

pub ruleset arguments_go = (no_cast, no_more, argument_goes)
