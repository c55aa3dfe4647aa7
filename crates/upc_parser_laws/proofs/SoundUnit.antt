-- What the parser finds of a source has the tokens, is proper and is low.
use Rattle.std.proofs.Common.{◌≡◌, ℕ, zero, suc, ◌≤◌, max, true, false, List, [], ◌∷◌, length, Ok, refl, sym, ap, ◌∙◌, inl, inr, arith}
use Rattle.upc_lexer.specs.declared.token.Token.{Token}
use Rattle.upc_lexer.specs.declared.token.Punct.TheVariants as p
use Rattle.upc_tree.specs.declared.span.Name.{Name}
use Rattle.upc_tree.specs.Tokens.{punct, name_token}
use Rattle.upc_tree.specs.Expression.{Specs, Pointers, Declarator, ObjectDeclarator, FunctionDeclarator, Parameters, spell_specs, spell_pointers, spell_declarator, spell_parameters, height_specs, height_pointers, height_declarator, height_parameters}
use Rattle.upc_tree.specs.Proper.{IsSome, ProperSpecs, ProperPointers, ProperDeclarator, ProperParameters}
use Rattle.upc_tree.specs.Declaration.{spell_initial, spell_next_declareds}
use Rattle.upc_tree.specs.Unit.{External, spell_external, spell_externals, height_external, height_unit, ProperExternal, IsFilled, ProperUnit}
use Rattle.upc_parser_ground.specs.layer.Outcome.{is_punct, starts, expect_punct}
use Rattle.upc_parser_ground.specs.layer.Ahead.{is_pragma, is_any}
use Rattle.upc_parser_ground.specs.layer.Outcome.{name}
use Rattle.upc_parser_types.specs.layer.Expression.{at_height, specs, pointers, dimensions, parameters}
use Rattle.upc_parser_ground.proofs.Sequence.{bind_ok, done, either, punct_ok, name_ok}
use Rattle.upc_parser_ground.proofs.Lists.{Finding, found, many_finds, all_first}
use Rattle.upc_parser_laws.proofs.CompleteTypes.{Freely}
use Rattle.upc_parser_laws.proofs.SoundTypes.{specs_finds, pointers_finds, dimensions_finds, parameters_finds}
use Rattle.upc_parser_laws.proofs.SoundExpressions.{finds}
use Rattle.upc_parser_statements.specs.layer.Parse.{initial, next_declareds, pragma, none_declared, behind_declarator, pragma_part, statements_at}
use Rattle.upc_parser_sources.specs.layer.Parse.{function_body, behind_parameters, behind_name, behind_specs, declaration_or_function, node_at, external_at, all_externals, unit_at}
use Rattle.upc_parser_laws.proofs.StatementListings.{externals_spelled, externals_highs, externals_good}
use Rattle.upc_parser_laws.proofs.SoundDeclarations.{initial_finds, next_declareds_finds, pragma_finds}
use Rattle.upc_parser_laws.proofs.SoundStatements.{finds_statements, above, over}

-- specifiers that are proper and at most so high
record Fine (n : ℕ) (s : Specs) : Type 0 where
  some : IsSome s
  proper : ProperSpecs s
  low : height_specs s ≤ n

both_low : (a b n : ℕ) → a ≤ n → b ≤ n → max a b ≤ n
both_low a b n x y = omega arith

list_low : (a b c n : ℕ) → a ≤ n → b ≤ n → c ≤ n → max (max a b) c ≤ n
list_low a b c n x y z = omega arith

module _ (n : ℕ) where
  none_finds : (s : Specs) (ts : List Token) (x : External × List Token) → Fine n s → none_declared s ts ≡ Ok x → Finding spell_external height_external ProperExternal Freely (suc n) (spell_specs s ts) x
  unfolding none_declared
  none_finds s ts x fine e =
      let a = bind_ok (expect_punct p.Semicolon ts) _ x e in
      found a.2 (record { parts = ap (spell_specs s) (punct_ok p.Semicolon ts a.0 a.1); good = (fine.some, fine.proper, tt); low = above _ 0 n fine.low (omega arith); follow = tt })

  behind_declarator_finds : (s : Specs) (d : Declarator) (ts : List Token) (x : External × List Token) → Fine n s → ProperDeclarator d → height_declarator d ≤ n → behind_declarator n s d ts ≡ Ok x
      → Finding spell_external height_external ProperExternal Freely (suc n) (spell_specs s (spell_declarator d ts)) x
  unfolding behind_declarator
  behind_declarator_finds s d ts x fine pd ld e =
      let a = bind_ok (initial n ts) _ x e in
      let b = bind_ok (next_declareds n a.0.1) _ x a.2 in
      let c = bind_ok (expect_punct p.Semicolon b.0.1) _ x b.2 in
      let f = initial_finds n ts a.0 a.1 in
      let g = next_declareds_finds n a.0.1 b.0 b.1 in
      let tokens : ts ≡ spell_initial a.0.0 (spell_next_declareds b.0.0 (punct p.Semicolon c.0.0 ∷ c.0.1)) = f.parts ∙ ap (spell_initial a.0.0) (g.parts ∙ ap (spell_next_declareds b.0.0) (punct_ok p.Semicolon b.0.1 c.0 c.1)) in
      found c.2 (record {
        parts = ap (λ l. spell_specs s (spell_declarator d l)) tokens;
        good = (fine.some, fine.proper, ((pd, f.good), g.good));
        low = above _ _ n fine.low (list_low _ _ _ n ld f.low g.low);
        follow = tt;
      })

  body_finds : (s : Specs) (q : Pointers) (d : Name) (r : Parameters) (ts : List Token) (x : External × List Token) → Fine n s → ProperPointers q → height_pointers q ≤ n → ProperParameters r → height_parameters r ≤ n → function_body n s q d r ts ≡ Ok x
      → Finding spell_external height_external ProperExternal Freely (suc n) (spell_specs s (spell_pointers q (name_token d ∷ spell_parameters r ts))) x
  unfolding function_body
  body_finds s q d r ts x fine pq lq pr lr e =
      let a = bind_ok ((statements_at n).compound ts) _ x e in
      let f = (finds_statements n).compound ts a.0 a.1 in
      found a.2 (record {
        parts = ap (λ l. spell_specs s (spell_pointers q (name_token d ∷ spell_parameters r l))) f.parts;
        good = (fine.some, fine.proper, pq, pr, f.good);
        low = over _ _ _ _ n fine.low lq lr f.low;
        follow = tt;
      })

  parameters_then_finds : (s : Specs) (q : Pointers) (d : Name) (r : Parameters) (ts : List Token) (x : External × List Token) → Fine n s → ProperPointers q → height_pointers q ≤ n → ProperParameters r → height_parameters r ≤ n → behind_parameters n s q d r ts ≡ Ok x
      → Finding spell_external height_external ProperExternal Freely (suc n) (spell_specs s (spell_pointers q (name_token d ∷ spell_parameters r ts))) x
  parameters_then_finds s q d r ts x fine pq lq pr lr e = elim (either (starts (is_punct p.LBrace) ts) _ _ (done x) e) [
    | inl a ↦ body_finds s q d r ts x fine pq lq pr lr a.1
    | inr a ↦ behind_declarator_finds s (FunctionDeclarator q d r) ts x fine (pq, pr) (both_low _ _ n lq lr) a.1
  ]

  name_then_finds : (s : Specs) (q : Pointers) (d : Name) (ts : List Token) (x : External × List Token) → Fine n s → ProperPointers q → height_pointers q ≤ n → behind_name n s q d ts ≡ Ok x
      → Finding spell_external height_external ProperExternal Freely (suc n) (spell_specs s (spell_pointers q (name_token d ∷ ts))) x
  unfolding behind_name
  name_then_finds s q d ts x fine pq lq e = elim (either (starts (is_punct p.LParen) ts) _ _ (done x) e) [
    | inl on ↦
        let a = bind_ok (parameters (at_height n) ts) _ x on.1 in
        let f = parameters_finds n (at_height n) (finds n) ts a.0 a.1 in
        let g = parameters_then_finds s q d a.0.0 a.0.1 x fine pq lq f.good f.low a.2 in
        record { parts = ap (λ l. spell_specs s (spell_pointers q (name_token d ∷ l))) f.parts ∙ g.parts; good = g.good; low = g.low; follow = tt }
    | inr off ↦
        let a = bind_ok (dimensions (at_height n) ts) _ x off.1 in
        let f = dimensions_finds n (at_height n) (finds n) ts a.0 a.1 in
        let g = behind_declarator_finds s (ObjectDeclarator q d a.0.0) a.0.1 x fine (pq, f.good) (both_low _ _ n lq f.low) a.2 in
        record { parts = ap (λ l. spell_specs s (spell_pointers q (name_token d ∷ l))) f.parts ∙ g.parts; good = g.good; low = g.low; follow = tt }
  ]

  specs_then_finds : (s : Specs) (ts : List Token) (x : External × List Token) → Fine n s → behind_specs n s ts ≡ Ok x → Finding spell_external height_external ProperExternal Freely (suc n) (spell_specs s ts) x
  unfolding behind_specs
  specs_then_finds s ts x fine e =
      let a = bind_ok (pointers (at_height n) ts) _ x e in
      let b = bind_ok (name a.0.1) _ x a.2 in
      let f = pointers_finds n (at_height n) (finds n) ts a.0 a.1 in
      let g = name_then_finds s a.0.0 b.0.0 b.0.1 x fine f.good f.low b.2 in
      record { parts = ap (spell_specs s) (f.parts ∙ ap (spell_pointers a.0.0) (name_ok a.0.1 b.0 b.1)) ∙ g.parts; good = g.good; low = g.low; follow = tt }

  node_finds : (ts : List Token) (x : External × List Token) → declaration_or_function n ts ≡ Ok x → Finding spell_external height_external ProperExternal Freely (suc n) ts x
  unfolding declaration_or_function
  node_finds ts x e =
      let a = bind_ok (specs (at_height n) false ts) _ x e in
      let f = specs_finds n (at_height n) (finds n) false ts a.0 a.1 in
      let fine : Fine n a.0.0 = record { some = f.some; proper = f.proper; low = f.low } in
      elim (either (starts (is_punct p.Semicolon) a.0.1) _ _ (done x) a.2) [
        | inl on ↦ let g = none_finds a.0.0 a.0.1 x fine on.1 in record { parts = f.parts ∙ g.parts; good = g.good; low = g.low; follow = tt }
        | inr off ↦ let g = specs_then_finds a.0.0 a.0.1 x fine off.1 in record { parts = f.parts ∙ g.parts; good = g.good; low = g.low; follow = tt }
      ]

node_at_finds : (n : ℕ) (ts : List Token) (x : External × List Token) → node_at n ts ≡ Ok x → Finding spell_external height_external ProperExternal Freely n ts x
unfolding node_at
node_at_finds zero ts x e = absurd cc
node_at_finds (suc n) ts x e = node_finds n ts x e

pragma_part_finds : (n : ℕ) (ts : List Token) (x : External × List Token) → pragma_part ts ≡ Ok x → Finding spell_external height_external ProperExternal Freely n ts x
unfolding pragma_part
pragma_part_finds n ts x e =
    let a = bind_ok (pragma ts) _ x e in
    found a.2 (record { parts = pragma_finds ts a.0 a.1; good = tt; low = omega arith; follow = tt })

external_finds : (n : ℕ) (ts : List Token) (x : External × List Token) → starts is_any ts ≡ true → external_at n ts ≡ Ok x → Finding spell_external height_external ProperExternal Freely n ts x
external_finds n ts x on e = elim (either (starts is_pragma ts) _ _ (done x) e) [
  | inl a ↦ pragma_part_finds n ts x a.1
  | inr a ↦ node_at_finds n ts x a.1
]

filled : (u : List External) (x : External) (xs : List External) → u ≡ x ∷ xs → IsFilled u
filled [] x xs e = absurd cc
filled (y ∷ u) x xs e = tt

-- a source that is found
pub record FoundUnit (n : ℕ) (ts : List Token) (x : List External × List Token) : Type 0 where
  pub parts : ts ≡ spell_externals x.0 x.1
  pub proper : ProperUnit x.0
  pub low : height_unit x.0 ≤ n

externals_finds : (n : ℕ) (y : Token) (ts : List Token) (x : List External × List Token) → all_externals n (y ∷ ts) ≡ Ok x → FoundUnit (suc n) (y ∷ ts) x
unfolding all_externals
externals_finds n y ts x e =
    let f = many_finds (starts is_any) (external_at n) spell_external height_external ProperExternal Freely n (external_finds n) (length (y ∷ ts)) (y ∷ ts) x e in
    let some = all_first (starts is_any) (external_at n) spell_external height_external ProperExternal Freely n (y ∷ ts) x refl refl e in
    record {
      parts = f.parts ∙ sym (externals_spelled x.0 x.1);
      proper = (filled x.0 some.0 some.1 some.2, externals_good x.0 f.good);
      low = omega (arith, f.low, externals_highs x.0);
    }

pub unit_finds : (n : ℕ) (ts : List Token) (x : List External × List Token) → unit_at n ts ≡ Ok x → FoundUnit n ts x
unfolding unit_at
unit_finds zero ts x e = absurd cc
unit_finds (suc n) [] x e = absurd cc
unit_finds (suc n) (y ∷ ts) x e = externals_finds n y ts x e
