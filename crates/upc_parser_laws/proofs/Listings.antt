-- Each list of a tree of expressions and types beside the plain list, with what its items are.
use Rattle.std.proofs.Common.{◌≡◌, ℕ, ◌≤◌, max, List, [], ◌∷◌, refl, ap}
use Rattle.upc_lexer.specs.declared.token.Token.{Token}
use Rattle.upc_lexer.specs.declared.token.Punct.TheVariants as p
use Rattle.upc_tree.specs.declared.span.Span.{Span}
use Rattle.upc_tree.specs.Tokens.{punct}
use Rattle.upc_tree.specs.Expression.{Expr, NextExprs, NoNextExprs, AndExpr, Specs, NoSpecs, AndSpec, Quals, NoQuals, AndQual, Pointers, NoPointers, AndPointer, Dimensions, NoDimensions, AndDimension, Members, NoMembers, AndMember, NextDeclarators, NoNextDeclarators, AndDeclarator, NextParameters, NoNextParameters, AndParameter, Spec, Qual, Declarator, Parameter, spell, spell_spec, spell_qual, spell_quals, spell_declarator, spell_parameter, spell_next_exprs, spell_specs, spell_pointers, spell_dimensions, spell_members, spell_next_declarators, spell_next_parameters, height, height_spec, height_qual, height_quals, height_declarator, height_parameter, height_next_exprs, height_specs, height_pointers, height_dimensions, height_members, height_next_declarators, height_next_parameters}
use Rattle.upc_tree.specs.Proper.{level, IsSome, Proper, ProperSpec, ProperQual, ProperDeclarator, ProperParameter, ProperNextExprs, ProperSpecs, ProperQuals, ProperPointers, ProperDimensions, ProperMembers, ProperNextDeclarators, ProperNextParameters}
use Rattle.upc_tree.specs.layer.Lists.{spell_all, highest, spell_member, height_member, next_exprs_of, specs_of, quals_of, pointers_of, dimensions_of, members_of, next_declarators_of, next_parameters_of}
use Rattle.upc_parser_ground.proofs.Lists.{AllOf, Kind}

-- ---- items

abbrev pub spell_next_expr : Span × Expr → List Token → List Token
spell_next_expr x rest = punct p.Comma x.0 ∷ spell x.1 rest

abbrev pub height_next_expr : Span × Expr → ℕ
height_next_expr x = height x.1

abbrev pub GoodNextExpr : Span × Expr → Type 0
GoodNextExpr x = (1 ≤ level x.1) × Proper x.1

abbrev pub spell_pointer : Span × Quals → List Token → List Token
spell_pointer x rest = punct p.Star x.0 ∷ spell_quals x.1 rest

abbrev pub height_pointer : Span × Quals → ℕ
height_pointer x = height_quals x.1

abbrev pub GoodPointer : Span × Quals → Type 0
GoodPointer x = ProperQuals x.1

abbrev pub spell_dimension : Span × Expr × Span → List Token → List Token
spell_dimension x rest = punct p.LBracket x.0 ∷ spell x.1 (punct p.RBracket x.2 ∷ rest)

abbrev pub height_dimension : Span × Expr × Span → ℕ
height_dimension x = height x.1

abbrev pub GoodDimension : Span × Expr × Span → Type 0
GoodDimension x = (2 ≤ level x.1) × Proper x.1

abbrev pub GoodMember : Specs × Declarator × NextDeclarators × Span → Type 0
GoodMember x = IsSome x.0 × ProperSpecs x.0 × ProperDeclarator x.1 × ProperNextDeclarators x.2

abbrev pub spell_next_declarator : Span × Declarator → List Token → List Token
spell_next_declarator x rest = punct p.Comma x.0 ∷ spell_declarator x.1 rest

abbrev pub height_next_declarator : Span × Declarator → ℕ
height_next_declarator x = height_declarator x.1

abbrev pub GoodNextDeclarator : Span × Declarator → Type 0
GoodNextDeclarator x = ProperDeclarator x.1

abbrev pub spell_next_parameter : Span × Parameter → List Token → List Token
spell_next_parameter x rest = punct p.Comma x.0 ∷ spell_parameter x.1 rest

abbrev pub height_next_parameter : Span × Parameter → ℕ
height_next_parameter x = height_parameter x.1

abbrev pub GoodNextParameter : Span × Parameter → Type 0
GoodNextParameter x = ProperParameter x.1

-- ---- lists

abbrev pub next_exprs_back : NextExprs → List (Span × Expr)
next_exprs_back NoNextExprs = []
next_exprs_back (AndExpr c e more) = (c, e) ∷ next_exprs_back more

pub next_exprs_back_is : (u : NextExprs) → next_exprs_of (next_exprs_back u) ≡ u
next_exprs_back_is NoNextExprs = refl
next_exprs_back_is (AndExpr c e more) = ap (AndExpr c e) (next_exprs_back_is more)

pub next_exprs_spelled : (l : List (Span × Expr)) (rest : List Token) → spell_next_exprs (next_exprs_of l) rest ≡ spell_all spell_next_expr l rest
next_exprs_spelled [] rest = refl
next_exprs_spelled (x ∷ xs) rest = ap (spell_next_expr x) (next_exprs_spelled xs rest)

pub next_exprs_highs : (l : List (Span × Expr)) → height_next_exprs (next_exprs_of l) ≡ highest height_next_expr l
next_exprs_highs [] = refl
next_exprs_highs (x ∷ xs) = ap (max (height_next_expr x)) (next_exprs_highs xs)

pub next_exprs_good : (l : List (Span × Expr)) → AllOf GoodNextExpr l → ProperNextExprs (next_exprs_of l)
next_exprs_good [] h = tt
next_exprs_good (x ∷ xs) h = (h.0.0, h.0.1, next_exprs_good xs h.1)

pub next_exprs_goods : (l : List (Span × Expr)) → ProperNextExprs (next_exprs_of l) → AllOf GoodNextExpr l
next_exprs_goods [] h = tt
next_exprs_goods (x ∷ xs) h = ((h.0, h.1), next_exprs_goods xs h.2)

abbrev pub next_exprs_kind : Kind next_exprs_of spell_next_expr spell_next_exprs height_next_expr height_next_exprs GoodNextExpr ProperNextExprs
next_exprs_kind = record { back = next_exprs_back; back_is = next_exprs_back_is; spelled = next_exprs_spelled; highs = next_exprs_highs; good = next_exprs_good; goods = next_exprs_goods }

abbrev pub specs_back : Specs → List (Spec)
specs_back NoSpecs = []
specs_back (AndSpec s more) = s ∷ specs_back more

pub specs_back_is : (u : Specs) → specs_of (specs_back u) ≡ u
specs_back_is NoSpecs = refl
specs_back_is (AndSpec s more) = ap (AndSpec s) (specs_back_is more)

pub specs_spelled : (l : List (Spec)) (rest : List Token) → spell_specs (specs_of l) rest ≡ spell_all spell_spec l rest
specs_spelled [] rest = refl
specs_spelled (x ∷ xs) rest = ap (spell_spec x) (specs_spelled xs rest)

pub specs_highs : (l : List (Spec)) → height_specs (specs_of l) ≡ highest height_spec l
specs_highs [] = refl
specs_highs (x ∷ xs) = ap (max (height_spec x)) (specs_highs xs)

pub specs_good : (l : List (Spec)) → AllOf ProperSpec l → ProperSpecs (specs_of l)
specs_good [] h = tt
specs_good (x ∷ xs) h = (h.0, specs_good xs h.1)

pub specs_goods : (l : List (Spec)) → ProperSpecs (specs_of l) → AllOf ProperSpec l
specs_goods [] h = tt
specs_goods (x ∷ xs) h = (h.0, specs_goods xs h.1)

abbrev pub specs_kind : Kind specs_of spell_spec spell_specs height_spec height_specs ProperSpec ProperSpecs
specs_kind = record { back = specs_back; back_is = specs_back_is; spelled = specs_spelled; highs = specs_highs; good = specs_good; goods = specs_goods }

abbrev pub quals_back : Quals → List (Qual)
quals_back NoQuals = []
quals_back (AndQual q more) = q ∷ quals_back more

pub quals_back_is : (u : Quals) → quals_of (quals_back u) ≡ u
quals_back_is NoQuals = refl
quals_back_is (AndQual q more) = ap (AndQual q) (quals_back_is more)

pub quals_spelled : (l : List (Qual)) (rest : List Token) → spell_quals (quals_of l) rest ≡ spell_all spell_qual l rest
quals_spelled [] rest = refl
quals_spelled (x ∷ xs) rest = ap (spell_qual x) (quals_spelled xs rest)

pub quals_highs : (l : List (Qual)) → height_quals (quals_of l) ≡ highest height_qual l
quals_highs [] = refl
quals_highs (x ∷ xs) = ap (max (height_qual x)) (quals_highs xs)

pub quals_good : (l : List (Qual)) → AllOf ProperQual l → ProperQuals (quals_of l)
quals_good [] h = tt
quals_good (x ∷ xs) h = (h.0, quals_good xs h.1)

pub quals_goods : (l : List (Qual)) → ProperQuals (quals_of l) → AllOf ProperQual l
quals_goods [] h = tt
quals_goods (x ∷ xs) h = (h.0, quals_goods xs h.1)

abbrev pub quals_kind : Kind quals_of spell_qual spell_quals height_qual height_quals ProperQual ProperQuals
quals_kind = record { back = quals_back; back_is = quals_back_is; spelled = quals_spelled; highs = quals_highs; good = quals_good; goods = quals_goods }

abbrev pub pointers_back : Pointers → List (Span × Quals)
pointers_back NoPointers = []
pointers_back (AndPointer s q more) = (s, q) ∷ pointers_back more

pub pointers_back_is : (u : Pointers) → pointers_of (pointers_back u) ≡ u
pointers_back_is NoPointers = refl
pointers_back_is (AndPointer s q more) = ap (AndPointer s q) (pointers_back_is more)

pub pointers_spelled : (l : List (Span × Quals)) (rest : List Token) → spell_pointers (pointers_of l) rest ≡ spell_all spell_pointer l rest
pointers_spelled [] rest = refl
pointers_spelled (x ∷ xs) rest = ap (spell_pointer x) (pointers_spelled xs rest)

pub pointers_highs : (l : List (Span × Quals)) → height_pointers (pointers_of l) ≡ highest height_pointer l
pointers_highs [] = refl
pointers_highs (x ∷ xs) = ap (max (height_pointer x)) (pointers_highs xs)

pub pointers_good : (l : List (Span × Quals)) → AllOf GoodPointer l → ProperPointers (pointers_of l)
pointers_good [] h = tt
pointers_good (x ∷ xs) h = (h.0, pointers_good xs h.1)

pub pointers_goods : (l : List (Span × Quals)) → ProperPointers (pointers_of l) → AllOf GoodPointer l
pointers_goods [] h = tt
pointers_goods (x ∷ xs) h = (h.0, pointers_goods xs h.1)

abbrev pub pointers_kind : Kind pointers_of spell_pointer spell_pointers height_pointer height_pointers GoodPointer ProperPointers
pointers_kind = record { back = pointers_back; back_is = pointers_back_is; spelled = pointers_spelled; highs = pointers_highs; good = pointers_good; goods = pointers_goods }

abbrev pub dimensions_back : Dimensions → List (Span × Expr × Span)
dimensions_back NoDimensions = []
dimensions_back (AndDimension l e r more) = (l, e, r) ∷ dimensions_back more

pub dimensions_back_is : (u : Dimensions) → dimensions_of (dimensions_back u) ≡ u
dimensions_back_is NoDimensions = refl
dimensions_back_is (AndDimension l e r more) = ap (AndDimension l e r) (dimensions_back_is more)

pub dimensions_spelled : (l : List (Span × Expr × Span)) (rest : List Token) → spell_dimensions (dimensions_of l) rest ≡ spell_all spell_dimension l rest
dimensions_spelled [] rest = refl
dimensions_spelled (x ∷ xs) rest = ap (spell_dimension x) (dimensions_spelled xs rest)

pub dimensions_highs : (l : List (Span × Expr × Span)) → height_dimensions (dimensions_of l) ≡ highest height_dimension l
dimensions_highs [] = refl
dimensions_highs (x ∷ xs) = ap (max (height_dimension x)) (dimensions_highs xs)

pub dimensions_good : (l : List (Span × Expr × Span)) → AllOf GoodDimension l → ProperDimensions (dimensions_of l)
dimensions_good [] h = tt
dimensions_good (x ∷ xs) h = (h.0.0, h.0.1, dimensions_good xs h.1)

pub dimensions_goods : (l : List (Span × Expr × Span)) → ProperDimensions (dimensions_of l) → AllOf GoodDimension l
dimensions_goods [] h = tt
dimensions_goods (x ∷ xs) h = ((h.0, h.1), dimensions_goods xs h.2)

abbrev pub dimensions_kind : Kind dimensions_of spell_dimension spell_dimensions height_dimension height_dimensions GoodDimension ProperDimensions
dimensions_kind = record { back = dimensions_back; back_is = dimensions_back_is; spelled = dimensions_spelled; highs = dimensions_highs; good = dimensions_good; goods = dimensions_goods }

abbrev pub members_back : Members → List (Specs × Declarator × NextDeclarators × Span)
members_back NoMembers = []
members_back (AndMember s d n c more) = (s, d, n, c) ∷ members_back more

pub members_back_is : (u : Members) → members_of (members_back u) ≡ u
members_back_is NoMembers = refl
members_back_is (AndMember s d n c more) = ap (AndMember s d n c) (members_back_is more)

pub members_spelled : (l : List (Specs × Declarator × NextDeclarators × Span)) (rest : List Token) → spell_members (members_of l) rest ≡ spell_all spell_member l rest
members_spelled [] rest = refl
members_spelled (x ∷ xs) rest = ap (spell_member x) (members_spelled xs rest)

pub members_highs : (l : List (Specs × Declarator × NextDeclarators × Span)) → height_members (members_of l) ≡ highest height_member l
members_highs [] = refl
members_highs (x ∷ xs) = ap (max (height_member x)) (members_highs xs)

pub members_good : (l : List (Specs × Declarator × NextDeclarators × Span)) → AllOf GoodMember l → ProperMembers (members_of l)
members_good [] h = tt
members_good (x ∷ xs) h = (h.0.0, h.0.1, h.0.2, h.0.3, members_good xs h.1)

pub members_goods : (l : List (Specs × Declarator × NextDeclarators × Span)) → ProperMembers (members_of l) → AllOf GoodMember l
members_goods [] h = tt
members_goods (x ∷ xs) h = ((h.0, h.1, h.2, h.3), members_goods xs h.4)

abbrev pub members_kind : Kind members_of spell_member spell_members height_member height_members GoodMember ProperMembers
members_kind = record { back = members_back; back_is = members_back_is; spelled = members_spelled; highs = members_highs; good = members_good; goods = members_goods }

abbrev pub next_declarators_back : NextDeclarators → List (Span × Declarator)
next_declarators_back NoNextDeclarators = []
next_declarators_back (AndDeclarator c d more) = (c, d) ∷ next_declarators_back more

pub next_declarators_back_is : (u : NextDeclarators) → next_declarators_of (next_declarators_back u) ≡ u
next_declarators_back_is NoNextDeclarators = refl
next_declarators_back_is (AndDeclarator c d more) = ap (AndDeclarator c d) (next_declarators_back_is more)

pub next_declarators_spelled : (l : List (Span × Declarator)) (rest : List Token) → spell_next_declarators (next_declarators_of l) rest ≡ spell_all spell_next_declarator l rest
next_declarators_spelled [] rest = refl
next_declarators_spelled (x ∷ xs) rest = ap (spell_next_declarator x) (next_declarators_spelled xs rest)

pub next_declarators_highs : (l : List (Span × Declarator)) → height_next_declarators (next_declarators_of l) ≡ highest height_next_declarator l
next_declarators_highs [] = refl
next_declarators_highs (x ∷ xs) = ap (max (height_next_declarator x)) (next_declarators_highs xs)

pub next_declarators_good : (l : List (Span × Declarator)) → AllOf GoodNextDeclarator l → ProperNextDeclarators (next_declarators_of l)
next_declarators_good [] h = tt
next_declarators_good (x ∷ xs) h = (h.0, next_declarators_good xs h.1)

pub next_declarators_goods : (l : List (Span × Declarator)) → ProperNextDeclarators (next_declarators_of l) → AllOf GoodNextDeclarator l
next_declarators_goods [] h = tt
next_declarators_goods (x ∷ xs) h = (h.0, next_declarators_goods xs h.1)

abbrev pub next_declarators_kind : Kind next_declarators_of spell_next_declarator spell_next_declarators height_next_declarator height_next_declarators GoodNextDeclarator ProperNextDeclarators
next_declarators_kind = record { back = next_declarators_back; back_is = next_declarators_back_is; spelled = next_declarators_spelled; highs = next_declarators_highs; good = next_declarators_good; goods = next_declarators_goods }

abbrev pub next_parameters_back : NextParameters → List (Span × Parameter)
next_parameters_back NoNextParameters = []
next_parameters_back (AndParameter c p more) = (c, p) ∷ next_parameters_back more

pub next_parameters_back_is : (u : NextParameters) → next_parameters_of (next_parameters_back u) ≡ u
next_parameters_back_is NoNextParameters = refl
next_parameters_back_is (AndParameter c p more) = ap (AndParameter c p) (next_parameters_back_is more)

pub next_parameters_spelled : (l : List (Span × Parameter)) (rest : List Token) → spell_next_parameters (next_parameters_of l) rest ≡ spell_all spell_next_parameter l rest
next_parameters_spelled [] rest = refl
next_parameters_spelled (x ∷ xs) rest = ap (spell_next_parameter x) (next_parameters_spelled xs rest)

pub next_parameters_highs : (l : List (Span × Parameter)) → height_next_parameters (next_parameters_of l) ≡ highest height_next_parameter l
next_parameters_highs [] = refl
next_parameters_highs (x ∷ xs) = ap (max (height_next_parameter x)) (next_parameters_highs xs)

pub next_parameters_good : (l : List (Span × Parameter)) → AllOf GoodNextParameter l → ProperNextParameters (next_parameters_of l)
next_parameters_good [] h = tt
next_parameters_good (x ∷ xs) h = (h.0, next_parameters_good xs h.1)

pub next_parameters_goods : (l : List (Span × Parameter)) → ProperNextParameters (next_parameters_of l) → AllOf GoodNextParameter l
next_parameters_goods [] h = tt
next_parameters_goods (x ∷ xs) h = (h.0, next_parameters_goods xs h.1)

abbrev pub next_parameters_kind : Kind next_parameters_of spell_next_parameter spell_next_parameters height_next_parameter height_next_parameters GoodNextParameter ProperNextParameters
next_parameters_kind = record { back = next_parameters_back; back_is = next_parameters_back_is; spelled = next_parameters_spelled; highs = next_parameters_highs; good = next_parameters_good; goods = next_parameters_goods }
