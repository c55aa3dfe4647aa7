-- The tokens of a proper source are read as that source.
use Rattle.std.proofs.Common.{◌≡◌, ℕ, zero, suc, ◌<◌, max, true, false, List, [], ◌∷◌, length, refl, arith}
use Rattle.upc_lexer.specs.declared.token.Token.{Token}
use Rattle.upc_lexer.specs.declared.token.Punct.TheVariants as p
use Rattle.upc_tree.specs.declared.span.Span.{Span}
use Rattle.upc_tree.specs.declared.span.Name.{Name}
use Rattle.upc_tree.specs.Tokens.{punct, name_token}
use Rattle.upc_tree.specs.Expression.{Specs, Pointers, Declarator, ObjectDeclarator, FunctionDeclarator, NoDimensions, Parameters, spell_pointers, spell_declarator, spell_dimensions, spell_parameters, height_pointers, height_declarator, height_parameters}
use Rattle.upc_tree.specs.Proper.{ProperPointers, ProperDeclarator, ProperParameters, open_specs}
use Rattle.upc_tree.specs.Declaration.{Initial, DeclaredAs, NextDeclareds, NoneDeclared, SomeDeclared, Declares, spell_initial, spell_next_declareds, spell_declared_list, height_initial, height_next_declareds, ProperInitial, ProperNextDeclareds}
use Rattle.upc_tree.specs.Statement.{Compound, Braces, spell_compound, height_compound, ProperCompound}
use Rattle.upc_tree.specs.Unit.{External, PragmaPart, DeclarationPart, FunctionPart, spell_external, spell_externals, height_external, height_externals, height_unit, tokens_of, ProperExternal, ProperExternals, IsFilled, ProperUnit}
use Rattle.upc_tree.specs.layer.Lists.{spell_all}
use Rattle.upc_parser_ground.specs.layer.Outcome.{is_punct, starts}
use Rattle.upc_parser_ground.specs.layer.Ahead.{is_any}
use Rattle.upc_parser_types.specs.layer.Expression.{at_height}
use Rattle.upc_parser_ground.proofs.Sequence.{Gets, gets, high, step, raise, along}
use Rattle.upc_parser_ground.proofs.Lists.{Follows, many_reads}
use Rattle.upc_parser_laws.proofs.Stops.{stops_open, quiet_name, behind_named, behind_declarator}
use Rattle.upc_parser_laws.proofs.CompleteTypes.{Freely, specs_reads, pointers_reads, dimensions_reads, parameters_reads, sizes_no_paren, parameters_paren}
use Rattle.upc_parser_laws.proofs.CompleteExpressions.{reads}
use Rattle.upc_parser_statements.specs.layer.Parse as parse
use Rattle.upc_parser_statements.specs.layer.Parse.{none_declared, pragma_part}
use Rattle.upc_parser_sources.specs.layer.Parse.{function_body, behind_name, behind_specs, declaration_or_function, node_at, external_at, all_externals, externals_at, unit_at}
use Rattle.upc_parser_laws.proofs.StatementListings.{externals_spelled, externals_highs, externals_goods}
use Rattle.upc_parser_laws.proofs.StatementLow.{long_external}
use Rattle.upc_parser_laws.proofs.Begins.{specs_no_pragma}
use Rattle.upc_parser_laws.proofs.CompleteDeclarations.{parted_next, named_initial, initial_no_brace, declarator_no_semicolon, initial_reads, next_declareds_reads}
use Rattle.upc_parser_laws.proofs.CompleteStatements.{reads_statements}

compound_braces : (u : Compound) (rest : List Token) → starts (is_punct p.LBrace) (spell_compound u rest) ≡ true
compound_braces (Braces l g m r) rest = refl

named_no_semicolon : (q : Pointers) (x : Name) (ts : List Token) → starts (is_punct p.Semicolon) (spell_pointers q (name_token x ∷ ts)) ≡ false
named_no_semicolon q x ts = declarator_no_semicolon (ObjectDeclarator q x NoDimensions) ts

-- a part that is a node
abbrev Noded : External → Type 0
Noded (PragmaPart g) = ⊥
Noded (DeclarationPart x) = Unit {0}
Noded (FunctionPart s q x r b) = Unit {0}

module _ (n : ℕ) where
  -- the parts of a declaration after its first declarator
  behind_reads : (s : Specs) (x : Declarator) (i : Initial) (m : NextDeclareds) (c : Span) (rest : List Token) → ProperInitial i → ProperNextDeclareds m
      → Gets n (max (height_initial i) (height_next_declareds m)) (parse.behind_declarator n s x (spell_initial i (spell_next_declareds m (punct p.Semicolon c ∷ rest)))) (DeclarationPart (Declares s (SomeDeclared (DeclaredAs x i) m) c), rest)
  unfolding parse.behind_declarator
  behind_reads s x i m c rest pi pm =
      step _ (initial_reads n i (spell_next_declareds m (punct p.Semicolon c ∷ rest)) pi (parted_next m c rest)) (λ l. omega arith)
      (step _ (next_declareds_reads n m c rest pm) (λ l. omega arith) (gets refl))

  declarator_part_reads : (s : Specs) (x : Declarator) (i : Initial) (m : NextDeclareds) (c : Span) (rest : List Token) → ProperDeclarator x → ProperInitial i → ProperNextDeclareds m
      → Gets n (max (max (height_declarator x) (height_initial i)) (height_next_declareds m)) (behind_specs n s (spell_declarator x (spell_initial i (spell_next_declareds m (punct p.Semicolon c ∷ rest))))) (DeclarationPart (Declares s (SomeDeclared (DeclaredAs x i) m) c), rest)
  unfolding behind_specs behind_name
  declarator_part_reads s (ObjectDeclarator q x z) i m c rest px pi pm =
      let end = spell_next_declareds m (punct p.Semicolon c ∷ rest) in
      let named = named_initial i end (parted_next m c rest) in
      let sizes = spell_dimensions z (spell_initial i end) in
      step _ (pointers_reads n (at_height n) (reads n) false q (name_token x ∷ sizes) px.0 (stops_open _ (name_token x ∷ sizes) refl) (quiet_name x sizes)) (λ l. omega arith)
      (let off = sizes_no_paren z (spell_initial i end) named.1 in
      rw off (step _ (dimensions_reads n (at_height n) (reads n) z (spell_initial i end) px.1 named.0) (λ l. omega arith)
      (raise (behind_reads s (ObjectDeclarator q x z) i m c rest pi pm) (λ l. omega arith))))
  declarator_part_reads s (FunctionDeclarator q x r) i m c rest px pi pm =
      let end = spell_next_declareds m (punct p.Semicolon c ∷ rest) in
      let behind = spell_parameters r (spell_initial i end) in
      step _ (pointers_reads n (at_height n) (reads n) false q (name_token x ∷ behind) px.0 (stops_open _ (name_token x ∷ behind) refl) (quiet_name x behind)) (λ l. omega arith)
      (let on = parameters_paren r (spell_initial i end) in
      rw on (step _ (parameters_reads n (at_height n) (reads n) r (spell_initial i end) px.1) (λ l. omega arith)
      (let off = initial_no_brace i end (parted_next m c rest) in
      rw off (raise (behind_reads s (FunctionDeclarator q x r) i m c rest pi pm) (λ l. omega arith)))))

  function_reads : (s : Specs) (q : Pointers) (x : Name) (r : Parameters) (b : Compound) (rest : List Token) → ProperPointers q → ProperParameters r → ProperCompound b
      → Gets n (max (height_pointers q) (max (height_parameters r) (height_compound b))) (behind_specs n s (spell_pointers q (name_token x ∷ spell_parameters r (spell_compound b rest)))) (FunctionPart s q x r b, rest)
  unfolding behind_specs behind_name function_body
  function_reads s q x r b rest pq pr pb =
      let body = spell_compound b rest in
      let behind = spell_parameters r body in
      step _ (pointers_reads n (at_height n) (reads n) false q (name_token x ∷ behind) pq (stops_open _ (name_token x ∷ behind) refl) (quiet_name x behind)) (λ l. omega arith)
      (let on = parameters_paren r body in
      rw on (step _ (parameters_reads n (at_height n) (reads n) r body pr) (λ l. omega arith)
      (let brace = compound_braces b rest in
      rw brace (step _ ((reads_statements n).compound b rest pb) (λ l. omega arith) (gets refl)))))

  node_reads : (u : External) (rest : List Token) → ProperExternal u → Noded u → Gets (suc n) (height_external u) (declaration_or_function n (spell_external u rest)) (u, rest)
  unfolding declaration_or_function none_declared
  node_reads (PragmaPart g) rest pr is = absurd is
  node_reads (DeclarationPart (Declares s NoneDeclared c)) rest pr is =
      let end = punct p.Semicolon c ∷ rest in
      step _ (specs_reads n (at_height n) (reads n) false s end pr.0 (pr.1, tt) (record { no_spec = refl; no_brace = refl; stops = stops_open (open_specs false s) end refl })) (λ l. omega arith) (gets refl)
  node_reads (DeclarationPart (Declares s (SomeDeclared (DeclaredAs x i) m) c)) rest pr is =
      let end = spell_initial i (spell_next_declareds m (punct p.Semicolon c ∷ rest)) in
      step _ (specs_reads n (at_height n) (reads n) false s (spell_declarator x end) pr.0 (pr.1, tt) (behind_declarator false (open_specs false s) x end)) (λ l. omega arith)
      (let off = declarator_no_semicolon x end in
      rw off (raise (declarator_part_reads s x i m c rest pr.2.0.0 pr.2.0.1 pr.2.1) (λ l. omega arith)))
  node_reads (FunctionPart s q x r b) rest pr is =
      let behind = spell_parameters r (spell_compound b rest) in
      step _ (specs_reads n (at_height n) (reads n) false s (spell_pointers q (name_token x ∷ behind)) pr.0 (pr.1, tt) (behind_named false (open_specs false s) q x behind)) (λ l. omega arith)
      (let off = named_no_semicolon q x behind in
      rw off (raise (function_reads s q x r b rest pr.2 pr.3 pr.4) (λ l. omega arith)))

node_some : (u : External) → Noded u → 0 < height_external u
node_some (PragmaPart g) is = absurd is
node_some (DeclarationPart (Declares s x c)) is = omega arith
node_some (FunctionPart s q x r b) is = omega arith

node_at_reads : (n : ℕ) (u : External) (rest : List Token) → ProperExternal u → Noded u → Gets n (height_external u) (node_at n (spell_external u rest)) (u, rest)
unfolding node_at
node_at_reads zero u rest pr is = high (node_some u is) refl
node_at_reads (suc n) u rest pr is = node_reads n u rest pr is

external_reads : (n : ℕ) (u : External) (rest : List Token) → ProperExternal u → Freely u rest → Gets n (height_external u) (external_at n (spell_external u rest)) (u, rest)
unfolding pragma_part
external_reads n (PragmaPart g) rest pr free = gets refl
external_reads n (DeclarationPart (Declares s x c)) rest pr free =
    let off = specs_no_pragma s (spell_declared_list x (punct p.Semicolon c ∷ rest)) pr.0 pr.1 in
    rw off (node_at_reads n (DeclarationPart (Declares s x c)) rest pr tt)
external_reads n (FunctionPart s q x r b) rest pr free =
    let off = specs_no_pragma s (spell_pointers q (name_token x ∷ spell_parameters r (spell_compound b rest))) pr.0 pr.1 in
    rw off (node_at_reads n (FunctionPart s q x r b) rest pr tt)

any_starts : (ts : List Token) → 0 < length ts → starts is_any ts ≡ true
any_starts [] h = absurd (omega arith)
any_starts (x ∷ ts) h = refl

external_begins : (u : External) (rest : List Token) → ProperExternal u → starts is_any (spell_external u rest) ≡ true
external_begins u rest pr = any_starts (spell_external u rest) (omega (arith, long_external u rest))

externals_free : (u : List External) (rest : List Token) → Follows spell_external Freely u rest
externals_free [] rest = tt
externals_free (x ∷ u) rest = (tt, externals_free u rest)

all_reads : (n : ℕ) (u : List External) → ProperExternals u → Gets n (height_externals u) (all_externals n (spell_externals u [])) (u, [])
unfolding all_externals
all_reads n u pr =
    rw (externals_spelled u [], externals_highs u)
    (many_reads (starts is_any) (external_at n) spell_external height_external ProperExternal Freely n (external_reads n) external_begins long_external (length (spell_all spell_external u [])) u [] (externals_goods u pr) (externals_free u []) refl (omega arith))

filled_externals : (n : ℕ) (ts : List Token) → 0 < length ts → externals_at n ts ≡ all_externals n ts
filled_externals n [] h = absurd (omega arith)
filled_externals n (x ∷ ts) h = refl

some_tokens : (u : List External) → IsFilled u → 0 < length (spell_externals u [])
some_tokens [] some = absurd some
some_tokens (x ∷ u) some = omega (arith, long_external x (spell_externals u []))

pub unit_reads : (n : ℕ) (u : List External) → ProperUnit u → Gets n (height_unit u) (unit_at n (tokens_of u)) (u, [])
unfolding unit_at
unit_reads zero u pr = high (omega arith) refl
unit_reads (suc n) u pr = along (filled_externals n (spell_externals u []) (some_tokens u pr.0)) (raise (all_reads n u pr.1) (λ l. omega arith))
