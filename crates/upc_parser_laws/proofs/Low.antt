-- How many tokens a tree takes.
use Rattle.std.proofs.Common.{◌+◌, ◌<◌, ◌≤◌, List, [], ◌∷◌, length, Option, Some, None, arith}
use Rattle.upc_lexer.specs.declared.token.Token.{Token}
use Rattle.upc_lexer.specs.declared.token.Punct.TheVariants as p
use Rattle.upc_tree.specs.declared.span.Name.{Name}
use Rattle.upc_tree.specs.declared.span.StringLiteral.{StringLiteral}
use Rattle.upc_tree.specs.Marks.{postfix_punct, member_punct, binary_punct, assign_punct}
use Rattle.upc_tree.specs.Tokens.{punct, name_token, spell_strings}
use Rattle.upc_tree.specs.Expression.{Expr, Named, Number, Character, Strings, Constant, Paren, Subscript, Call, MemberOf, Postfix, Unary, SizeOfExpr, SizeOfType, Cast, Binary, Assign, Conditional, Comma, Arguments, NoArguments, SomeArguments, NextExprs, NoNextExprs, AndExpr, TypeName, Typed, Specs, NoSpecs, AndSpec, Spec, WordSpec, QualSpec, TagSpec, StructSpec, Quals, NoQuals, AndQual, Qual, Const, Strict, Relaxed, Shared, Layout, NoLayout, IndefiniteLayout, StarLayout, BlockLayout, Pointers, NoPointers, AndPointer, Dimensions, NoDimensions, AndDimension, Members, NoMembers, AndMember, NextDeclarators, NoNextDeclarators, AndDeclarator, Declarator, ObjectDeclarator, FunctionDeclarator, Parameters, NoParameters, VoidParameters, SomeParameters, Parameter, Parametric, NextParameters, NoNextParameters, AndParameter, ParameterArray, NoArray, UnsizedArray, SizedArray, spell_name, spell, spell_arguments, spell_next_exprs, spell_type, spell_specs, spell_spec, spell_quals, spell_qual, spell_layout, spell_pointers, spell_dimensions, spell_members, spell_next_declarators, spell_declarator, spell_parameters, spell_parameter, spell_next_parameters, spell_array, height, height_arguments, height_next_exprs, height_type, height_specs, height_spec, height_quals, height_qual, height_layout, height_pointers, height_dimensions, height_members, height_next_declarators, height_declarator, height_parameters, height_parameter, height_next_parameters, height_array}
use Rattle.upc_tree.specs.Proper.{Proper, ProperArguments, ProperNextExprs, ProperType, ProperSpecs, ProperSpec, ProperQuals, ProperQual, ProperLayout, ProperPointers, ProperDimensions, ProperMembers, ProperNextDeclarators, ProperDeclarator, ProperParameters, ProperParameter, ProperNextParameters, ProperArray}

long_strings : (l : List StringLiteral) (rest : List Token) → length rest ≤ length (spell_strings l rest)
long_strings [] rest = omega arith
long_strings (s ∷ l) rest = omega (arith, long_strings l rest)

long_name : (x : Option Name) (rest : List Token) → length rest ≤ length (spell_name x rest)
long_name None rest = omega arith
long_name (Some x) rest = omega arith

-- a tree takes tokens

mutual
  pub long : (u : Expr) (rest : List Token) → length rest < length (spell u rest)
  long (Named name) rest = omega arith
  long (Number value kind span) rest = omega arith
  long (Character value span) rest = omega arith
  long (Strings first more) rest = omega (arith, long_strings more rest)
  long (Constant c span) rest = omega arith
  long (Paren l e r) rest = omega (arith, long e (punct p.RParen r ∷ rest))
  long (Subscript a l e r) rest = omega (arith, long a (punct p.LBracket l ∷ spell e (punct p.RBracket r ∷ rest)), long e (punct p.RBracket r ∷ rest))
  long (Call a l e) rest = omega (arith, long a (punct p.LParen l ∷ spell_arguments e rest), long_arguments e rest)
  long (MemberOf a m s x) rest = omega (arith, long a (punct (member_punct m) s ∷ name_token x ∷ rest))
  long (Postfix a m s) rest = omega (arith, long a (punct (postfix_punct m) s ∷ rest))
  long (Unary m s e) rest = omega (arith, long e rest)
  long (SizeOfExpr k s e) rest = omega (arith, long e rest)
  long (SizeOfType k s l t r) rest = omega (arith, long_type t (punct p.RParen r ∷ rest))
  long (Cast l t r e) rest = omega (arith, long_type t (punct p.RParen r ∷ spell e rest), long e rest)
  long (Binary a m s b) rest = omega (arith, long a (punct (binary_punct m) s ∷ spell b rest), long b rest)
  long (Assign a m s b) rest = omega (arith, long a (punct (assign_punct m) s ∷ spell b rest), long b rest)
  long (Conditional t q y c z) rest = omega (arith, long t (punct p.Question q ∷ spell y (punct p.Colon c ∷ spell z rest)), long y (punct p.Colon c ∷ spell z rest), long z rest)
  long (Comma e m) rest = omega (arith, long e (spell_next_exprs m rest), long_next_exprs m rest)

  pub long_arguments : (u : Arguments) (rest : List Token) → length rest < length (spell_arguments u rest)
  long_arguments (NoArguments r) rest = omega arith
  long_arguments (SomeArguments e m r) rest = omega (arith, long e (spell_next_exprs m (punct p.RParen r ∷ rest)), long_next_exprs m (punct p.RParen r ∷ rest))

  pub long_next_exprs : (u : NextExprs) (rest : List Token) → length rest ≤ length (spell_next_exprs u rest)
  long_next_exprs NoNextExprs rest = omega arith
  long_next_exprs (AndExpr c e m) rest = omega (arith, long e (spell_next_exprs m rest), long_next_exprs m rest)

  pub long_type : (u : TypeName) (rest : List Token) → length rest ≤ length (spell_type u rest)
  long_type (Typed s q d) rest = omega (arith, long_specs s (spell_pointers q (spell_dimensions d rest)), long_pointers q (spell_dimensions d rest), long_dimensions d rest)

  pub long_specs : (u : Specs) (rest : List Token) → length rest ≤ length (spell_specs u rest)
  long_specs NoSpecs rest = omega arith
  long_specs (AndSpec s m) rest = omega (arith, long_spec s (spell_specs m rest), long_specs m rest)

  pub long_spec : (u : Spec) (rest : List Token) → length rest < length (spell_spec u rest)
  long_spec (WordSpec t s) rest = omega arith
  long_spec (QualSpec q) rest = omega (arith, long_qual q rest)
  long_spec (TagSpec a t) rest = omega arith
  long_spec (StructSpec a t l m r) rest = omega (arith, long_members m (punct p.RBrace r ∷ rest))

  pub long_quals : (u : Quals) (rest : List Token) → length rest ≤ length (spell_quals u rest)
  long_quals NoQuals rest = omega arith
  long_quals (AndQual q m) rest = omega (arith, long_qual q (spell_quals m rest), long_quals m rest)

  pub long_qual : (u : Qual) (rest : List Token) → length rest < length (spell_qual u rest)
  long_qual (Const a) rest = omega arith
  long_qual (Strict a) rest = omega arith
  long_qual (Relaxed a) rest = omega arith
  long_qual (Shared a l) rest = omega (arith, long_layout l rest)

  pub long_layout : (u : Layout) (rest : List Token) → length rest ≤ length (spell_layout u rest)
  long_layout NoLayout rest = omega arith
  long_layout (IndefiniteLayout l r) rest = omega arith
  long_layout (StarLayout l s r) rest = omega arith
  long_layout (BlockLayout l e r) rest = omega (arith, long e (punct p.RBracket r ∷ rest))

  pub long_pointers : (u : Pointers) (rest : List Token) → length rest ≤ length (spell_pointers u rest)
  long_pointers NoPointers rest = omega arith
  long_pointers (AndPointer s q m) rest = omega (arith, long_quals q (spell_pointers m rest), long_pointers m rest)

  pub long_dimensions : (u : Dimensions) (rest : List Token) → length rest ≤ length (spell_dimensions u rest)
  long_dimensions NoDimensions rest = omega arith
  long_dimensions (AndDimension l e r m) rest = omega (arith, long e (punct p.RBracket r ∷ spell_dimensions m rest), long_dimensions m rest)

  pub long_members : (u : Members) (rest : List Token) → length rest ≤ length (spell_members u rest)
  long_members NoMembers rest = omega arith
  long_members (AndMember s d n c m) rest = omega (arith, long_specs s (spell_declarator d (spell_next_declarators n (punct p.Semicolon c ∷ spell_members m rest))), long_declarator d (spell_next_declarators n (punct p.Semicolon c ∷ spell_members m rest)), long_next_declarators n (punct p.Semicolon c ∷ spell_members m rest), long_members m rest)

  pub long_next_declarators : (u : NextDeclarators) (rest : List Token) → length rest ≤ length (spell_next_declarators u rest)
  long_next_declarators NoNextDeclarators rest = omega arith
  long_next_declarators (AndDeclarator c d m) rest = omega (arith, long_declarator d (spell_next_declarators m rest), long_next_declarators m rest)

  pub long_declarator : (u : Declarator) (rest : List Token) → length rest ≤ length (spell_declarator u rest)
  long_declarator (ObjectDeclarator q x d) rest = omega (arith, long_pointers q (name_token x ∷ spell_dimensions d rest), long_dimensions d rest)
  long_declarator (FunctionDeclarator q x r) rest = omega (arith, long_pointers q (name_token x ∷ spell_parameters r rest), long_parameters r rest)

  pub long_parameters : (u : Parameters) (rest : List Token) → length rest ≤ length (spell_parameters u rest)
  long_parameters (NoParameters l r) rest = omega arith
  long_parameters (VoidParameters l a r) rest = omega arith
  long_parameters (SomeParameters l f m r) rest = omega (arith, long_parameter f (spell_next_parameters m (punct p.RParen r ∷ rest)), long_next_parameters m (punct p.RParen r ∷ rest))

  pub long_parameter : (u : Parameter) (rest : List Token) → length rest ≤ length (spell_parameter u rest)
  long_parameter (Parametric s q x a) rest = omega (arith, long_specs s (spell_pointers q (spell_name x (spell_array a rest))), long_pointers q (spell_name x (spell_array a rest)), long_name x (spell_array a rest), long_array a rest)

  pub long_next_parameters : (u : NextParameters) (rest : List Token) → length rest ≤ length (spell_next_parameters u rest)
  long_next_parameters NoNextParameters rest = omega arith
  long_next_parameters (AndParameter c f m) rest = omega (arith, long_parameter f (spell_next_parameters m rest), long_next_parameters m rest)

  pub long_array : (u : ParameterArray) (rest : List Token) → length rest ≤ length (spell_array u rest)
  long_array NoArray rest = omega arith
  long_array (UnsizedArray l r) rest = omega arith
  long_array (SizedArray l e r) rest = omega (arith, long e (punct p.RBracket r ∷ rest))

-- a proper tree takes as many tokens as it is high

mutual
  pub low : (u : Expr) (rest : List Token) → Proper u → height u + length rest ≤ length (spell u rest)
  low (Named name) rest h = omega arith
  low (Number value kind span) rest h = omega arith
  low (Character value span) rest h = omega arith
  low (Strings first more) rest h = omega (arith, long_strings more rest)
  low (Constant c span) rest h = omega arith
  low (Paren l e r) rest h = omega (arith, low e (punct p.RParen r ∷ rest) h)
  low (Subscript a l e r) rest h = omega (arith, low a (punct p.LBracket l ∷ spell e (punct p.RBracket r ∷ rest)) h.1, low e (punct p.RBracket r ∷ rest) h.2)
  low (Call a l e) rest h = omega (arith, low a (punct p.LParen l ∷ spell_arguments e rest) h.1, low_arguments e rest h.2)
  low (MemberOf a m s x) rest h = omega (arith, low a (punct (member_punct m) s ∷ name_token x ∷ rest) h.1)
  low (Postfix a m s) rest h = omega (arith, low a (punct (postfix_punct m) s ∷ rest) h.1)
  low (Unary m s e) rest h = omega (arith, low e rest h.1)
  low (SizeOfExpr k s e) rest h = omega (arith, low e rest h.1)
  low (SizeOfType k s l t r) rest h = omega (arith, low_type t (punct p.RParen r ∷ rest) h)
  low (Cast l t r e) rest h = omega (arith, low_type t (punct p.RParen r ∷ spell e rest) h.1, low e rest h.3)
  low (Binary a m s b) rest h = omega (arith, low a (punct (binary_punct m) s ∷ spell b rest) h.2, low b rest h.3)
  low (Assign a m s b) rest h = omega (arith, low a (punct (assign_punct m) s ∷ spell b rest) h.2, low b rest h.3)
  low (Conditional t q y c z) rest h = omega (arith, low t (punct p.Question q ∷ spell y (punct p.Colon c ∷ spell z rest)) h.2, low y (punct p.Colon c ∷ spell z rest) h.3, low z rest h.4)
  low (Comma e NoNextExprs) rest h = absurd h.1
  low (Comma e (AndExpr c x m)) rest h = omega (arith, low e (punct p.Comma c ∷ spell x (spell_next_exprs m rest)) h.2, low x (spell_next_exprs m rest) h.3.1, low_next_exprs m rest h.3.2)

  pub low_arguments : (u : Arguments) (rest : List Token) → ProperArguments u → height_arguments u + length rest ≤ length (spell_arguments u rest)
  low_arguments (NoArguments r) rest h = omega arith
  low_arguments (SomeArguments e m r) rest h = omega (arith, low e (spell_next_exprs m (punct p.RParen r ∷ rest)) h.1, low_next_exprs m (punct p.RParen r ∷ rest) h.2)

  pub low_next_exprs : (u : NextExprs) (rest : List Token) → ProperNextExprs u → height_next_exprs u + length rest ≤ length (spell_next_exprs u rest)
  low_next_exprs NoNextExprs rest h = omega arith
  low_next_exprs (AndExpr c e m) rest h = omega (arith, low e (spell_next_exprs m rest) h.1, low_next_exprs m rest h.2)

  pub low_type : (u : TypeName) (rest : List Token) → ProperType u → height_type u + length rest ≤ length (spell_type u rest)
  low_type (Typed s q d) rest h = omega (arith, low_specs s (spell_pointers q (spell_dimensions d rest)) h.1, low_pointers q (spell_dimensions d rest) h.2, low_dimensions d rest h.3)

  pub low_specs : (u : Specs) (rest : List Token) → ProperSpecs u → height_specs u + length rest ≤ length (spell_specs u rest)
  low_specs NoSpecs rest h = omega arith
  low_specs (AndSpec s m) rest h = omega (arith, low_spec s (spell_specs m rest) h.0, low_specs m rest h.1)

  pub low_spec : (u : Spec) (rest : List Token) → ProperSpec u → 1 + height_spec u + length rest ≤ length (spell_spec u rest)
  low_spec (WordSpec t s) rest h = omega arith
  low_spec (QualSpec q) rest h = omega (arith, low_qual q rest h)
  low_spec (TagSpec a t) rest h = omega arith
  low_spec (StructSpec a t l m r) rest h = omega (arith, low_members m (punct p.RBrace r ∷ rest) h)

  pub low_quals : (u : Quals) (rest : List Token) → ProperQuals u → height_quals u + length rest ≤ length (spell_quals u rest)
  low_quals NoQuals rest h = omega arith
  low_quals (AndQual q m) rest h = omega (arith, low_qual q (spell_quals m rest) h.0, low_quals m rest h.1)

  pub low_qual : (u : Qual) (rest : List Token) → ProperQual u → 1 + height_qual u + length rest ≤ length (spell_qual u rest)
  low_qual (Const a) rest h = omega arith
  low_qual (Strict a) rest h = omega arith
  low_qual (Relaxed a) rest h = omega arith
  low_qual (Shared a l) rest h = omega (arith, low_layout l rest h)

  pub low_layout : (u : Layout) (rest : List Token) → ProperLayout u → height_layout u + length rest ≤ length (spell_layout u rest)
  low_layout NoLayout rest h = omega arith
  low_layout (IndefiniteLayout l r) rest h = omega arith
  low_layout (StarLayout l s r) rest h = omega arith
  low_layout (BlockLayout l e r) rest h = omega (arith, low e (punct p.RBracket r ∷ rest) h.1)

  pub low_pointers : (u : Pointers) (rest : List Token) → ProperPointers u → height_pointers u + length rest ≤ length (spell_pointers u rest)
  low_pointers NoPointers rest h = omega arith
  low_pointers (AndPointer s q m) rest h = omega (arith, low_quals q (spell_pointers m rest) h.0, low_pointers m rest h.1)

  pub low_dimensions : (u : Dimensions) (rest : List Token) → ProperDimensions u → height_dimensions u + length rest ≤ length (spell_dimensions u rest)
  low_dimensions NoDimensions rest h = omega arith
  low_dimensions (AndDimension l e r m) rest h = omega (arith, low e (punct p.RBracket r ∷ spell_dimensions m rest) h.1, low_dimensions m rest h.2)

  pub low_members : (u : Members) (rest : List Token) → ProperMembers u → height_members u + length rest ≤ length (spell_members u rest)
  low_members NoMembers rest h = omega arith
  low_members (AndMember s d n c m) rest h = omega (arith, low_specs s (spell_declarator d (spell_next_declarators n (punct p.Semicolon c ∷ spell_members m rest))) h.1, low_declarator d (spell_next_declarators n (punct p.Semicolon c ∷ spell_members m rest)) h.2, low_next_declarators n (punct p.Semicolon c ∷ spell_members m rest) h.3, low_members m rest h.4)

  pub low_next_declarators : (u : NextDeclarators) (rest : List Token) → ProperNextDeclarators u → height_next_declarators u + length rest ≤ length (spell_next_declarators u rest)
  low_next_declarators NoNextDeclarators rest h = omega arith
  low_next_declarators (AndDeclarator c d m) rest h = omega (arith, low_declarator d (spell_next_declarators m rest) h.0, low_next_declarators m rest h.1)

  pub low_declarator : (u : Declarator) (rest : List Token) → ProperDeclarator u → height_declarator u + length rest ≤ length (spell_declarator u rest)
  low_declarator (ObjectDeclarator q x d) rest h = omega (arith, low_pointers q (name_token x ∷ spell_dimensions d rest) h.0, low_dimensions d rest h.1)
  low_declarator (FunctionDeclarator q x r) rest h = omega (arith, low_pointers q (name_token x ∷ spell_parameters r rest) h.0, low_parameters r rest h.1)

  pub low_parameters : (u : Parameters) (rest : List Token) → ProperParameters u → height_parameters u + length rest ≤ length (spell_parameters u rest)
  low_parameters (NoParameters l r) rest h = omega arith
  low_parameters (VoidParameters l a r) rest h = omega arith
  low_parameters (SomeParameters l f m r) rest h = omega (arith, low_parameter f (spell_next_parameters m (punct p.RParen r ∷ rest)) h.1, low_next_parameters m (punct p.RParen r ∷ rest) h.2)

  pub low_parameter : (u : Parameter) (rest : List Token) → ProperParameter u → height_parameter u + length rest ≤ length (spell_parameter u rest)
  low_parameter (Parametric s q x a) rest h = omega (arith, low_specs s (spell_pointers q (spell_name x (spell_array a rest))) h.1, low_pointers q (spell_name x (spell_array a rest)) h.2, long_name x (spell_array a rest), low_array a rest h.3)

  pub low_next_parameters : (u : NextParameters) (rest : List Token) → ProperNextParameters u → height_next_parameters u + length rest ≤ length (spell_next_parameters u rest)
  low_next_parameters NoNextParameters rest h = omega arith
  low_next_parameters (AndParameter c f m) rest h = omega (arith, low_parameter f (spell_next_parameters m rest) h.0, low_next_parameters m rest h.1)

  pub low_array : (u : ParameterArray) (rest : List Token) → ProperArray u → height_array u + length rest ≤ length (spell_array u rest)
  low_array NoArray rest h = omega arith
  low_array (UnsizedArray l r) rest h = omega arith
  low_array (SizedArray l e r) rest h = omega (arith, low e (punct p.RBracket r ∷ rest) h.1)

pub some_height : (u : Expr) → 0 < height u
some_height (Named name) = omega arith
some_height (Number value kind span) = omega arith
some_height (Character value span) = omega arith
some_height (Strings first more) = omega arith
some_height (Constant c span) = omega arith
some_height (Paren l e r) = omega arith
some_height (Subscript a l e r) = omega arith
some_height (Call a l e) = omega arith
some_height (MemberOf a m s x) = omega arith
some_height (Postfix a m s) = omega arith
some_height (Unary m s e) = omega arith
some_height (SizeOfExpr k s e) = omega arith
some_height (SizeOfType k s l t r) = omega arith
some_height (Cast l t r e) = omega arith
some_height (Binary a m s b) = omega arith
some_height (Assign a m s b) = omega arith
some_height (Conditional t q y c z) = omega arith
some_height (Comma e m) = omega arith

pub some_arguments : (u : Arguments) → 0 < height_arguments u
some_arguments (NoArguments r) = omega arith
some_arguments (SomeArguments e m r) = omega arith
