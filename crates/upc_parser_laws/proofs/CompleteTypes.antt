-- The tokens of a proper type are read as that type, whatever follows that cannot continue it.
use Rattle.std.proofs.Common.{◌≡◌, ℕ, suc, ◌<◌, ◌≤◌, Bool, true, false, List, [], ◌∷◌, length, Option, Some, None, Ok, refl, arith}
use Rattle.upc_lexer.specs.declared.token.Token.{Token}
use Rattle.upc_lexer.specs.declared.token.TokenKind.{TokenKind}
use Rattle.upc_lexer.specs.declared.token.TokenKind.TheVariants as k
use Rattle.upc_lexer.specs.declared.token.Punct.TheVariants as p
use Rattle.upc_tree.specs.declared.span.Span.{Span}
use Rattle.upc_tree.specs.declared.span.Name.{Name}
use Rattle.upc_tree.specs.Tokens.{punct, word, name_token}
use Rattle.upc_tree.specs.Expression.{Expr, Arguments, NoArguments, SomeArguments, NextExprs, NoNextExprs, AndExpr, TypeName, Typed, Specs, NoSpecs, AndSpec, Spec, WordSpec, QualSpec, TagSpec, StructSpec, Quals, NoQuals, AndQual, Qual, Const, Strict, Relaxed, Shared, Layout, NoLayout, IndefiniteLayout, StarLayout, BlockLayout, Pointers, NoPointers, AndPointer, Dimensions, NoDimensions, AndDimension, Members, NoMembers, AndMember, NextDeclarators, NoNextDeclarators, AndDeclarator, Declarator, ObjectDeclarator, FunctionDeclarator, Parameters, NoParameters, VoidParameters, SomeParameters, Parameter, Parametric, NextParameters, NoNextParameters, AndParameter, ParameterArray, NoArray, UnsizedArray, SizedArray, spell_name, spell, spell_arguments, spell_next_exprs, spell_type, spell_specs, spell_spec, spell_quals, spell_qual, spell_layout, spell_pointers, spell_dimensions, spell_members, spell_next_declarators, spell_declarator, spell_parameters, spell_parameter, spell_next_parameters, spell_array, height, height_arguments, height_next_exprs, height_type, height_specs, height_spec, height_quals, height_qual, height_layout, height_pointers, height_dimensions, height_members, height_next_declarators, height_declarator, height_parameters, height_parameter, height_next_parameters, height_array}
use Rattle.upc_tree.specs.Proper.{level, IsSome, IsUnsized, open_qual, open_quals, open_spec, open_specs, open_pointers, Proper, ProperArguments, ProperNextExprs, ProperType, ProperSpecs, ProperSpec, ProperQuals, ProperQual, ProperLayout, ProperPointers, ProperDimensions, ProperMembers, ProperNextDeclarators, ProperDeclarator, ProperParameters, ProperParameter, ProperNextParameters, ProperArray}
use Rattle.upc_tree.specs.layer.Lists.{spell_member, height_member, specs_of, quals_of, pointers_of, dimensions_of, members_of, next_declarators_of, next_parameters_of, next_exprs_of}
use Rattle.upc_parser_ground.specs.layer.Outcome.{is_punct, starts}
use Rattle.upc_parser_ground.specs.layer.Tables.{is_spec, is_qual}
use Rattle.upc_parser_types.specs.layer.Expression.{Level, dimension, dimensions, empty_layout, star_layout, block_layout, layout, qual_by, qual, quals, pointer, pointers, spec, specs, plain_type, type_name, unsized_array, sized_array, array, optional_name, optional_by, parameter, next_parameter, next_parameters, no_parameters, void_parameters, some_parameters, parameters_in, parameters, declarator_by, declarator, next_declarator, next_declarators, member, members, struct_body, structure, next_expr, next_exprs, some_arguments, arguments}
use Rattle.upc_parser_ground.proofs.TableFacts.{type_back}
use Rattle.upc_parser_ground.proofs.Sequence.{Gets, gets, got, step}
use Rattle.upc_parser_ground.proofs.Lists.{AllOf, Follows, Kind, listed_reads}
use Rattle.upc_parser_laws.proofs.Listings.{spell_next_expr, height_next_expr, GoodNextExpr, spell_pointer, height_pointer, GoodPointer, spell_dimension, height_dimension, GoodDimension, GoodMember, spell_next_declarator, height_next_declarator, GoodNextDeclarator, spell_next_parameter, height_next_parameter, GoodNextParameter, next_exprs_back, next_exprs_kind, specs_back, specs_back_is, specs_spelled, specs_highs, quals_back, quals_kind, pointers_back, pointers_kind, dimensions_back, dimensions_kind, members_back, members_kind, next_declarators_back, next_declarators_kind, next_parameters_back, next_parameters_kind}
use Rattle.upc_parser_laws.proofs.Low.{long, long_spec, long_qual, long_quals, long_specs, long_declarator, long_next_declarators, long_parameter}
use Rattle.upc_parser_laws.proofs.Stops.{Stops, expr_no_punct, expr_no_fill, StopsOpen, stops_open, qual_begins, qual_no_punct, spec_no_punct, Allowed, AllAllowed, spec_begins, specs_no_punct, Quiet, quiet_qual, quiet_name, quiet_sizes, open_sizes, closes, is_name, closed_bracket, closed_next, quiet_named, open_named, array_no_name, Behind, behind_stars, behind_declarator, HasSpec, not_void}

-- ---- one level

abbrev pub IsStruct : Spec → Type 0
IsStruct (TagSpec a x) = Unit {0}
IsStruct (StructSpec a x l m r) = Unit {0}
IsStruct (WordSpec w a) = ⊥
IsStruct (QualSpec q) = ⊥

pub record Reads (n : ℕ) (L : Level) : Type 0 where
  pub expr : (least : ℕ) (u : Expr) (rest : List Token) → Proper u → least ≤ level u → Stops least rest → Gets n (height u) (L.expr least (spell u rest)) (u, rest)
  pub arguments : (a : Arguments) (rest : List Token) → ProperArguments a → Gets n (height_arguments a) (L.arguments (spell_arguments a rest)) (a, rest)
  pub structure : (s : Spec) (rest : List Token) → IsStruct s → ProperSpec s → starts (is_punct p.LBrace) rest ≡ false → Gets n (height_spec s) (L.structure (spell_spec s rest)) (s, rest)

-- ---- specifiers at block scope and elsewhere

abbrev pub GoodSpec : Bool → Spec → Type 0
GoodSpec local s = ProperSpec s × Allowed local s

abbrev pub GoodSpecs : Bool → Specs → Type 0
GoodSpecs local s = ProperSpecs s × AllAllowed local s

pub good_specs : (local : Bool) (l : List Spec) → AllOf (GoodSpec local) l → GoodSpecs local (specs_of l)
good_specs false [] h = (tt, tt)
good_specs true [] h = (tt, tt)
good_specs false (x ∷ xs) h = let g = good_specs false xs h.1 in ((h.0.0, g.0), tt)
good_specs true (x ∷ xs) h = let g = good_specs true xs h.1 in ((h.0.0, g.0), (h.0.1, g.1))

pub specs_good : (local : Bool) (l : List Spec) → GoodSpecs local (specs_of l) → AllOf (GoodSpec local) l
specs_good false [] h = tt
specs_good true [] h = tt
specs_good false (x ∷ xs) h = ((h.0.0, tt), specs_good false xs (h.0.1, tt))
specs_good true (x ∷ xs) h = ((h.0.0, h.1.0), specs_good true xs (h.0.1, h.1.1))

abbrev pub local_kind : (local : Bool) → Kind specs_of spell_spec spell_specs height_spec height_specs (GoodSpec local) (GoodSpecs local)
local_kind local = record { back = specs_back; back_is = specs_back_is; spelled = specs_spelled; highs = specs_highs; good = good_specs local; goods = specs_good local }

-- ---- what follows the items of a list

abbrev pub FollowQual : Qual → List Token → Type 0
FollowQual q ts = StopsOpen (open_qual q) ts

quals_follow : (b : Bool) (u : Quals) (rest : List Token) → StopsOpen (open_quals b u) rest → Follows spell_qual FollowQual (quals_back u) rest
quals_follow b NoQuals rest h = tt
quals_follow b (AndQual q NoQuals) rest h = (h, tt)
quals_follow b (AndQual q (AndQual q2 m)) rest h = (stops_open (open_qual q) _ (qual_no_punct p.LBracket q2 _), quals_follow (open_qual q) (AndQual q2 m) rest h)

abbrev pub FollowSpec : Spec → List Token → Type 0
FollowSpec s ts = StopsOpen (open_spec s) ts × (starts (is_punct p.LBrace) ts ≡ false)

specs_follow : (b : Bool) (u : Specs) (rest : List Token) → StopsOpen (open_specs b u) rest → starts (is_punct p.LBrace) rest ≡ false → Follows spell_spec FollowSpec (specs_back u) rest
specs_follow b NoSpecs rest h off = tt
specs_follow b (AndSpec s NoSpecs) rest h off = ((h, off), tt)
specs_follow b (AndSpec s (AndSpec s2 m)) rest h off =
    ((stops_open (open_spec s) _ (spec_no_punct p.LBracket s2 _), spec_no_punct p.LBrace s2 _), specs_follow (open_spec s) (AndSpec s2 m) rest h off)

abbrev pub FollowPointer : Span × Quals → List Token → Type 0
FollowPointer x ts = StopsOpen (open_quals false x.1) ts × (starts is_qual ts ≡ false)

pointers_follow : (b : Bool) (u : Pointers) (rest : List Token) → StopsOpen (open_pointers b u) rest → starts is_qual rest ≡ false → Follows spell_pointer FollowPointer (pointers_back u) rest
pointers_follow b NoPointers rest h off = tt
pointers_follow b (AndPointer s q NoPointers) rest h off = ((h, off), tt)
pointers_follow b (AndPointer s q (AndPointer s2 q2 m)) rest h off = ((stops_open (open_quals false q) _ refl, refl), pointers_follow (open_quals false q) (AndPointer s2 q2 m) rest h off)

abbrev pub Freely : {X : Type 0} → X → List Token → Type 0
Freely x ts = Unit {0}

dimensions_follow : (u : Dimensions) (rest : List Token) → Follows spell_dimension Freely (dimensions_back u) rest
dimensions_follow NoDimensions rest = tt
dimensions_follow (AndDimension l e r m) rest = (tt, dimensions_follow m rest)

members_follow : (u : Members) (rest : List Token) → Follows spell_member Freely (members_back u) rest
members_follow NoMembers rest = tt
members_follow (AndMember s d n c m) rest = (tt, members_follow m rest)

-- no size and no parameters follow
abbrev pub Named : List Token → Type 0
Named ts = (starts (is_punct p.LBracket) ts ≡ false) × (starts (is_punct p.LParen) ts ≡ false)

abbrev pub FollowNextDeclarator : Span × Declarator → List Token → Type 0
FollowNextDeclarator x ts = Named ts

next_declarators_follow : (u : NextDeclarators) (rest : List Token) → Named rest → Follows spell_next_declarator FollowNextDeclarator (next_declarators_back u) rest
next_declarators_follow NoNextDeclarators rest h = tt
next_declarators_follow (AndDeclarator c d NoNextDeclarators) rest h = (h, tt)
next_declarators_follow (AndDeclarator c d (AndDeclarator c2 d2 m)) rest h = ((refl, refl), next_declarators_follow (AndDeclarator c2 d2 m) rest h)

abbrev pub FollowNextParameter : Span × Parameter → List Token → Type 0
FollowNextParameter x ts = starts closes ts ≡ true

next_parameters_follow : (u : NextParameters) (rest : List Token) → starts closes rest ≡ true → Follows spell_next_parameter FollowNextParameter (next_parameters_back u) rest
next_parameters_follow NoNextParameters rest h = tt
next_parameters_follow (AndParameter c f NoNextParameters) rest h = (h, tt)
next_parameters_follow (AndParameter c f (AndParameter c2 f2 m)) rest h = (refl, next_parameters_follow (AndParameter c2 f2 m) rest h)

abbrev pub FollowNextExpr : Span × Expr → List Token → Type 0
FollowNextExpr x ts = Stops 1 ts

next_exprs_follow : (u : NextExprs) (rest : List Token) → Stops 1 rest → Follows spell_next_expr FollowNextExpr (next_exprs_back u) rest
next_exprs_follow NoNextExprs rest h = tt
next_exprs_follow (AndExpr c e NoNextExprs) rest h = (h, tt)
next_exprs_follow (AndExpr c e (AndExpr c2 e2 m)) rest h = ((refl, refl, omega arith), next_exprs_follow (AndExpr c2 e2 m) rest h)

-- a list of expressions goes on with a comma or stops
pub stops_next : (m : NextExprs) (rest : List Token) → Stops 1 rest → Stops 1 (spell_next_exprs m rest)
stops_next NoNextExprs rest h = h
stops_next (AndExpr c e m) rest h = (refl, refl, omega arith)

no_name_by : (kind : TokenKind) (x : Token) (ts : List Token) → is_name kind ≡ false → optional_by kind x ts ≡ Ok (None, x ∷ ts)
no_name_by (k.Name number) x ts h = absurd cc
no_name_by _ x ts h = refl

pub specs_begin : (local : Bool) (u : Specs) (rest : List Token) → IsSome u → GoodSpecs local u → starts (is_spec local) (spell_specs u rest) ≡ true
specs_begin local NoSpecs rest some good = absurd some
specs_begin false (AndSpec s m) rest some good = spec_begins false s (spell_specs m rest) tt
specs_begin true (AndSpec s m) rest some good = spec_begins true s (spell_specs m rest) good.1.0

has_spec : (f : Parameter) → ProperParameter f → HasSpec f
has_spec (Parametric s q x a) pr = pr.0

parameter_no_close : (f : Parameter) (rest : List Token) → ProperParameter f → starts (is_punct p.RParen) (spell_parameter f rest) ≡ false
parameter_no_close (Parametric s q x a) rest pr = specs_no_punct p.RParen s _ pr.0

pub sizes_no_paren : (d : Dimensions) (rest : List Token) → starts (is_punct p.LParen) rest ≡ false → starts (is_punct p.LParen) (spell_dimensions d rest) ≡ false
sizes_no_paren NoDimensions rest h = h
sizes_no_paren (AndDimension l e r m) rest h = refl

pub parameters_paren : (u : Parameters) (rest : List Token) → starts (is_punct p.LParen) (spell_parameters u rest) ≡ true
parameters_paren (NoParameters l r) rest = refl
parameters_paren (VoidParameters l a r) rest = refl
parameters_paren (SomeParameters l f m r) rest = refl

module _ (n : ℕ) (L : Level) (ih : Reads n L) where
  -- ---- sizes and layouts

  dimension_reads : (x : Span × Expr × Span) (rest : List Token) → GoodDimension x → Freely x rest → Gets n (height_dimension x) (dimension L (spell_dimension x rest)) (x, rest)
  unfolding dimension
  dimension_reads x rest good free = step _ (ih.expr 2 x.1 (punct p.RBracket x.2 ∷ rest) good.1 good.0 (refl, refl, tt)) (λ l. l) (gets refl)

  dimension_begins : (x : Span × Expr × Span) (rest : List Token) → GoodDimension x → starts (is_punct p.LBracket) (spell_dimension x rest) ≡ true
  dimension_begins x rest good = refl

  dimension_long : (x : Span × Expr × Span) (rest : List Token) → length rest < length (spell_dimension x rest)
  dimension_long x rest = omega (arith, long x.1 (punct p.RBracket x.2 ∷ rest))

  pub dimensions_reads : (u : Dimensions) (rest : List Token) → ProperDimensions u → starts (is_punct p.LBracket) rest ≡ false → Gets n (height_dimensions u) (dimensions L (spell_dimensions u rest)) (u, rest)
  unfolding dimensions
  dimensions_reads u rest pr off =
      listed_reads dimensions_of (starts (is_punct p.LBracket)) (dimension L) spell_dimension spell_dimensions height_dimension height_dimensions GoodDimension ProperDimensions Freely n dimensions_kind
      dimension_reads dimension_begins dimension_long u rest pr (dimensions_follow u rest) off

  layout_reads : (word : Span) (u : Layout) (rest : List Token) → ProperLayout u → StopsOpen (open_qual (Shared word u)) rest → Gets n (height_layout u) (layout L (spell_layout u rest)) (u, rest)
  unfolding layout empty_layout star_layout block_layout
  layout_reads word NoLayout rest pr st = gets (rw st refl)
  layout_reads word (IndefiniteLayout l r) rest pr st = gets refl
  layout_reads word (StarLayout l s r) rest pr st = gets refl
  layout_reads word (BlockLayout l e r) rest pr st =
      let a = expr_no_punct p.RBracket refl e (punct p.RBracket r ∷ rest) in
      let b = expr_no_fill e (punct p.RBracket r ∷ rest) in
      rw (a, b) (step _ (dimension_reads (l, e, r) rest pr tt) (λ x. x) (gets refl))

  -- ---- qualifiers and stars

  qual_reads : (q : Qual) (rest : List Token) → ProperQual q → FollowQual q rest → Gets n (height_qual q) (qual L (spell_qual q rest)) (q, rest)
  unfolding qual qual_by
  qual_reads (Const a) rest pr st = gets refl
  qual_reads (Strict a) rest pr st = gets refl
  qual_reads (Relaxed a) rest pr st = gets refl
  qual_reads (Shared a l) rest pr st = step _ (layout_reads a l rest pr st) (λ x. x) (gets refl)

  qual_starts : (q : Qual) (rest : List Token) → ProperQual q → starts is_qual (spell_qual q rest) ≡ true
  qual_starts q rest pr = qual_begins q rest

  quals_reads : (u : Quals) (rest : List Token) → ProperQuals u → StopsOpen (open_quals false u) rest → starts is_qual rest ≡ false → Gets n (height_quals u) (quals L (spell_quals u rest)) (u, rest)
  unfolding quals
  quals_reads u rest pr st off =
      listed_reads quals_of (starts is_qual) (qual L) spell_qual spell_quals height_qual height_quals ProperQual ProperQuals FollowQual n quals_kind
      qual_reads qual_starts (λ q rest. long_qual q rest) u rest pr (quals_follow false u rest st) off

  pointer_reads : (x : Span × Quals) (rest : List Token) → GoodPointer x → FollowPointer x rest → Gets n (height_pointer x) (pointer L (spell_pointer x rest)) (x, rest)
  unfolding pointer
  pointer_reads x rest pr f = step _ (quals_reads x.1 rest pr f.0 f.1) (λ l. l) (gets refl)

  pointer_begins : (x : Span × Quals) (rest : List Token) → GoodPointer x → starts (is_punct p.Star) (spell_pointer x rest) ≡ true
  pointer_begins x rest pr = refl

  pointer_long : (x : Span × Quals) (rest : List Token) → length rest < length (spell_pointer x rest)
  pointer_long x rest = omega (arith, long_quals x.1 rest)

  pub pointers_reads : (b : Bool) (u : Pointers) (rest : List Token) → ProperPointers u → StopsOpen (open_pointers b u) rest → Quiet rest → Gets n (height_pointers u) (pointers L (spell_pointers u rest)) (u, rest)
  unfolding pointers
  pointers_reads b u rest pr st quiet =
      listed_reads pointers_of (starts (is_punct p.Star)) (pointer L) spell_pointer spell_pointers height_pointer height_pointers GoodPointer ProperPointers FollowPointer n pointers_kind
      pointer_reads pointer_begins pointer_long u rest pr (pointers_follow b u rest st (quiet_qual rest quiet)) quiet.no_star

  -- ---- specifiers

  spec_reads : (local : Bool) (s : Spec) (rest : List Token) → GoodSpec local s → FollowSpec s rest → Gets n (height_spec s) (spec L (spell_spec s rest)) (s, rest)
  unfolding spec qual_by
  spec_reads local (WordSpec w a) rest good f = gets (rw (type_back w) refl)
  spec_reads local (QualSpec (Const a)) rest good f = gets refl
  spec_reads local (QualSpec (Strict a)) rest good f = gets refl
  spec_reads local (QualSpec (Relaxed a)) rest good f = gets refl
  spec_reads local (QualSpec (Shared a l)) rest good f = step _ (step _ (layout_reads a l rest good.0 f.0) (λ x. x) (got n (height_layout l) refl)) (λ x. x) (gets refl)
  spec_reads local (TagSpec a x) rest good f = ih.structure (TagSpec a x) rest tt good.0 f.1
  spec_reads local (StructSpec a x l m r) rest good f = ih.structure (StructSpec a x l m r) rest tt good.0 f.1

  pub specs_reads : (local : Bool) (u : Specs) (rest : List Token) → IsSome u → GoodSpecs local u → Behind local (open_specs false u) rest → Gets n (height_specs u) (specs L local (spell_specs u rest)) (u, rest)
  unfolding specs
  specs_reads local u rest some good after =
      let on = specs_begin local u rest some good in
      rw on (listed_reads specs_of (starts (is_spec local)) (spec L) spell_spec spell_specs height_spec height_specs (GoodSpec local) (GoodSpecs local) FollowSpec n (local_kind local)
      (spec_reads local) (λ s rest good. spec_begins local s rest good.1) (λ s rest. long_spec s rest) u rest good (specs_follow false u rest after.stops after.no_brace) after.no_spec)

  -- ---- type names

  pub type_reads : (u : TypeName) (r : Span) (rest : List Token) → ProperType u → Gets n (height_type u) (type_name L (spell_type u (punct p.RParen r ∷ rest))) (u, punct p.RParen r ∷ rest)
  unfolding type_name
  type_reads (Typed s q d) r rest pr =
      let end = punct p.RParen r ∷ rest in
      let quiet = quiet_sizes d end (record { no_spec = refl; no_star = refl; no_brace = refl }) in
      let stops = open_sizes (open_pointers (open_specs false s) q) d end pr.4 refl in
      step _ (specs_reads false s (spell_pointers q (spell_dimensions d end)) pr.0 (pr.1, tt) (behind_stars (open_specs false s) q (spell_dimensions d end) quiet stops)) (λ l. omega arith)
      (step _ (pointers_reads (open_specs false s) q (spell_dimensions d end) pr.2 stops quiet) (λ l. omega arith)
      (step _ (dimensions_reads d end pr.3 refl) (λ l. omega arith) (gets refl)))

  pub plain_reads : (u : TypeName) (r : Span) (rest : List Token) → IsUnsized u → ProperType u → Gets n (height_type u) (plain_type L (spell_type u (punct p.RParen r ∷ rest))) (u, punct p.RParen r ∷ rest)
  unfolding plain_type
  plain_reads (Typed s q (AndDimension l e i m)) r rest un pr = absurd un
  plain_reads (Typed s q NoDimensions) r rest un pr =
      let end = punct p.RParen r ∷ rest in
      let quiet : Quiet end = record { no_spec = refl; no_star = refl; no_brace = refl } in
      let stops = stops_open (open_pointers (open_specs false s) q) end refl in
      step _ (specs_reads false s (spell_pointers q end) pr.0 (pr.1, tt) (behind_stars (open_specs false s) q end quiet stops)) (λ l. omega arith)
      (step _ (pointers_reads (open_specs false s) q end pr.2 stops quiet) (λ l. omega arith) (gets refl))

  -- ---- declarators

  array_reads : (u : ParameterArray) (rest : List Token) → ProperArray u → starts closes rest ≡ true → Gets n (height_array u) (array L (spell_array u rest)) (u, rest)
  unfolding array unsized_array sized_array
  array_reads NoArray rest pr h = let off = closed_bracket rest h in gets (rw off refl)
  array_reads (UnsizedArray l r) rest pr h = gets refl
  array_reads (SizedArray l e r) rest pr h =
      let a = expr_no_punct p.RBracket refl e (punct p.RBracket r ∷ rest) in
      rw a (step _ (dimension_reads (l, e, r) rest pr tt) (λ x. x) (gets refl))

  no_name : (ts : List Token) → starts is_name ts ≡ false → optional_name ts ≡ Ok (None, ts)
  no_name [] h = refl
  no_name (x ∷ ts) h = no_name_by x.kind x ts h

  name_reads : (x : Option Name) (ts : List Token) → starts is_name ts ≡ false → optional_name (spell_name x ts) ≡ Ok (x, ts)
  name_reads None ts h = no_name ts h
  name_reads (Some x) ts h = refl

  pub parameter_reads : (u : Parameter) (rest : List Token) → ProperParameter u → starts closes rest ≡ true → Gets n (height_parameter u) (parameter L (spell_parameter u rest)) (u, rest)
  unfolding parameter
  parameter_reads (Parametric s q x a) rest pr h =
      let behind = spell_name x (spell_array a rest) in
      let quiet = quiet_named x a rest h in
      let stops = open_named (open_pointers (open_specs false s) q) x a rest pr.4 h in
      step _ (specs_reads false s (spell_pointers q behind) pr.0 (pr.1, tt) (behind_stars (open_specs false s) q behind quiet stops)) (λ l. omega arith)
      (step _ (pointers_reads (open_specs false s) q behind pr.2 stops quiet) (λ l. omega arith)
      (step _ (got n 0 (name_reads x (spell_array a rest) (array_no_name a rest h))) (λ l. omega arith)
      (step _ (array_reads a rest pr.3 h) (λ l. omega arith) (gets refl))))

  next_parameter_reads : (x : Span × Parameter) (rest : List Token) → GoodNextParameter x → FollowNextParameter x rest → Gets n (height_next_parameter x) (next_parameter L (spell_next_parameter x rest)) (x, rest)
  unfolding next_parameter
  next_parameter_reads x rest pr h = step _ (parameter_reads x.1 rest pr h) (λ l. l) (gets refl)

  next_parameter_begins : (x : Span × Parameter) (rest : List Token) → GoodNextParameter x → starts (is_punct p.Comma) (spell_next_parameter x rest) ≡ true
  next_parameter_begins x rest pr = refl

  next_parameter_long : (x : Span × Parameter) (rest : List Token) → length rest < length (spell_next_parameter x rest)
  next_parameter_long x rest = omega (arith, long_parameter x.1 rest)

  next_parameters_reads : (u : NextParameters) (r : Span) (rest : List Token) → ProperNextParameters u → Gets n (height_next_parameters u) (next_parameters L (spell_next_parameters u (punct p.RParen r ∷ rest))) (u, punct p.RParen r ∷ rest)
  unfolding next_parameters
  next_parameters_reads u r rest pr =
      listed_reads next_parameters_of (starts (is_punct p.Comma)) (next_parameter L) spell_next_parameter spell_next_parameters height_next_parameter height_next_parameters GoodNextParameter ProperNextParameters FollowNextParameter n next_parameters_kind
      next_parameter_reads next_parameter_begins next_parameter_long u (punct p.RParen r ∷ rest) pr (next_parameters_follow u (punct p.RParen r ∷ rest) refl) refl

  pub parameters_reads : (u : Parameters) (rest : List Token) → ProperParameters u → Gets n (height_parameters u) (parameters L (spell_parameters u rest)) (u, rest)
  unfolding parameters parameters_in no_parameters void_parameters some_parameters
  parameters_reads (NoParameters l r) rest pr = gets refl
  parameters_reads (VoidParameters l a r) rest pr = gets refl
  parameters_reads (SomeParameters l f m r) rest pr =
      let end = punct p.RParen r ∷ rest in
      let a = parameter_no_close f (spell_next_parameters m end) pr.1 in
      let b = not_void f m r rest (has_spec f pr.1) pr.0 in
      rw (a, b) (step _ (parameter_reads f (spell_next_parameters m end) pr.1 (closed_next m r rest)) (λ l. omega arith)
      (step _ (next_parameters_reads m r rest pr.2) (λ l. omega arith) (gets refl)))

  pub declarator_reads : (u : Declarator) (rest : List Token) → ProperDeclarator u → Named rest → Gets n (height_declarator u) (declarator L (spell_declarator u rest)) (u, rest)
  unfolding declarator declarator_by
  declarator_reads (ObjectDeclarator q x d) rest pr h =
      let behind = name_token x ∷ spell_dimensions d rest in
      step _ (pointers_reads false q behind pr.0 (stops_open _ behind refl) (quiet_name x (spell_dimensions d rest))) (λ l. omega arith)
      (let off = sizes_no_paren d rest h.1 in rw off (step _ (dimensions_reads d rest pr.1 h.0) (λ l. omega arith) (gets refl)))
  declarator_reads (FunctionDeclarator q x r) rest pr h =
      let behind = name_token x ∷ spell_parameters r rest in
      step _ (pointers_reads false q behind pr.0 (stops_open _ behind refl) (quiet_name x (spell_parameters r rest))) (λ l. omega arith)
      (let on = parameters_paren r rest in rw on (step _ (parameters_reads r rest pr.1) (λ l. omega arith) (gets refl)))

  next_declarator_reads : (x : Span × Declarator) (rest : List Token) → GoodNextDeclarator x → FollowNextDeclarator x rest → Gets n (height_next_declarator x) (next_declarator L (spell_next_declarator x rest)) (x, rest)
  unfolding next_declarator
  next_declarator_reads x rest pr h = step _ (declarator_reads x.1 rest pr h) (λ l. l) (gets refl)

  next_declarator_begins : (x : Span × Declarator) (rest : List Token) → GoodNextDeclarator x → starts (is_punct p.Comma) (spell_next_declarator x rest) ≡ true
  next_declarator_begins x rest pr = refl

  next_declarator_long : (x : Span × Declarator) (rest : List Token) → length rest < length (spell_next_declarator x rest)
  next_declarator_long x rest = omega (arith, long_declarator x.1 rest)

  next_declarators_reads : (u : NextDeclarators) (c : Span) (rest : List Token) → ProperNextDeclarators u → Gets n (height_next_declarators u) (next_declarators L (spell_next_declarators u (punct p.Semicolon c ∷ rest))) (u, punct p.Semicolon c ∷ rest)
  unfolding next_declarators
  next_declarators_reads u c rest pr =
      listed_reads next_declarators_of (starts (is_punct p.Comma)) (next_declarator L) spell_next_declarator spell_next_declarators height_next_declarator height_next_declarators GoodNextDeclarator ProperNextDeclarators FollowNextDeclarator n next_declarators_kind
      next_declarator_reads next_declarator_begins next_declarator_long u (punct p.Semicolon c ∷ rest) pr (next_declarators_follow u (punct p.Semicolon c ∷ rest) (refl, refl)) refl

  -- ---- structs

  named_next : (u : NextDeclarators) (c : Span) (rest : List Token) → Named (spell_next_declarators u (punct p.Semicolon c ∷ rest))
  named_next NoNextDeclarators c rest = (refl, refl)
  named_next (AndDeclarator c2 d m) c rest = (refl, refl)

  member_reads : (x : Specs × Declarator × NextDeclarators × Span) (rest : List Token) → GoodMember x → Freely x rest → Gets n (height_member x) (member L (spell_member x rest)) (x, rest)
  unfolding member
  member_reads x rest good free =
      let end = spell_next_declarators x.2 (punct p.Semicolon x.3 ∷ rest) in
      step _ (specs_reads false x.0 (spell_declarator x.1 end) good.0 (good.1, tt) (behind_declarator false (open_specs false x.0) x.1 end)) (λ l. omega arith)
      (step _ (declarator_reads x.1 end good.2 (named_next x.2 x.3 rest)) (λ l. omega arith)
      (step _ (next_declarators_reads x.2 x.3 rest good.3) (λ l. omega arith) (gets refl)))

  member_begins : (x : Specs × Declarator × NextDeclarators × Span) (rest : List Token) → GoodMember x → starts (is_spec false) (spell_member x rest) ≡ true
  member_begins x rest good = specs_begin false x.0 (spell_declarator x.1 (spell_next_declarators x.2 (punct p.Semicolon x.3 ∷ rest))) good.0 (good.1, tt)

  member_long : (x : Specs × Declarator × NextDeclarators × Span) (rest : List Token) → length rest < length (spell_member x rest)
  member_long x rest =
      let end = punct p.Semicolon x.3 ∷ rest in
      omega (arith, long_specs x.0 (spell_declarator x.1 (spell_next_declarators x.2 end)), long_declarator x.1 (spell_next_declarators x.2 end), long_next_declarators x.2 end)

  members_reads : (u : Members) (r : Span) (rest : List Token) → ProperMembers u → Gets n (height_members u) (members L (spell_members u (punct p.RBrace r ∷ rest))) (u, punct p.RBrace r ∷ rest)
  unfolding members
  members_reads u r rest pr =
      listed_reads members_of (starts (is_spec false)) (member L) spell_member spell_members height_member height_members GoodMember ProperMembers Freely n members_kind
      member_reads member_begins member_long u (punct p.RBrace r ∷ rest) pr (members_follow u (punct p.RBrace r ∷ rest)) refl

  pub structure_reads : (s : Spec) (rest : List Token) → IsStruct s → ProperSpec s → starts (is_punct p.LBrace) rest ≡ false → Gets (suc n) (height_spec s) (structure L (spell_spec s rest)) (s, rest)
  unfolding structure struct_body
  structure_reads (WordSpec w a) rest is pr off = absurd is
  structure_reads (QualSpec q) rest is pr off = absurd is
  structure_reads (TagSpec a x) rest is pr off = gets (rw off refl)
  structure_reads (StructSpec a x l m r) rest is pr off = step _ (members_reads m r rest pr) (λ l. omega arith) (gets refl)

  -- ---- lists of expressions

  next_expr_reads : (x : Span × Expr) (rest : List Token) → GoodNextExpr x → FollowNextExpr x rest → Gets n (height_next_expr x) (next_expr L (spell_next_expr x rest)) (x, rest)
  unfolding next_expr
  next_expr_reads x rest good h = step _ (ih.expr 1 x.1 rest good.1 good.0 h) (λ l. l) (gets refl)

  next_expr_begins : (x : Span × Expr) (rest : List Token) → GoodNextExpr x → starts (is_punct p.Comma) (spell_next_expr x rest) ≡ true
  next_expr_begins x rest good = refl

  next_expr_long : (x : Span × Expr) (rest : List Token) → length rest < length (spell_next_expr x rest)
  next_expr_long x rest = omega (arith, long x.1 rest)

  pub next_exprs_reads : (u : NextExprs) (rest : List Token) → ProperNextExprs u → Stops 1 rest → starts (is_punct p.Comma) rest ≡ false → Gets n (height_next_exprs u) (next_exprs L (spell_next_exprs u rest)) (u, rest)
  unfolding next_exprs
  next_exprs_reads u rest pr st off =
      listed_reads next_exprs_of (starts (is_punct p.Comma)) (next_expr L) spell_next_expr spell_next_exprs height_next_expr height_next_exprs GoodNextExpr ProperNextExprs FollowNextExpr n next_exprs_kind
      next_expr_reads next_expr_begins next_expr_long u rest pr (next_exprs_follow u rest st) off

  pub arguments_reads : (u : Arguments) (rest : List Token) → ProperArguments u → Gets (suc n) (height_arguments u) (arguments L (spell_arguments u rest)) (u, rest)
  unfolding arguments some_arguments
  arguments_reads (NoArguments r) rest pr = gets refl
  arguments_reads (SomeArguments e m r) rest pr =
      let end = punct p.RParen r ∷ rest in
      let a = expr_no_punct p.RParen refl e (spell_next_exprs m end) in
      rw a (step _ (ih.expr 1 e (spell_next_exprs m end) pr.1 pr.0 (stops_next m end (refl, refl, tt))) (λ l. omega arith)
      (step _ (next_exprs_reads m end pr.2 (refl, refl, tt) refl) (λ l. omega arith) (gets refl)))
