-- The clauses of `parse`, from what it computes.
use Rattle.std.proofs.Common.{◌≡◌, ◌<◌, ◌≤◌, List, [], ◌∷◌, length, Result, Ok, Err, refl, sym, ap, ◌∙◌, ◌⊎◌, inl, inr, arith}
use Rattle.std.specs.Prelude.{IfOk}
use Rattle.upc_lexer.specs.declared.token.Token.{Token}
use Rattle.upc_text.specs.declared.place.Code.{Code}
use Rattle.upc_text.specs.declared.place.Code.TheVariants as c
use Rattle.upc_text.specs.declared.faults.Stop.{Stop}
use Rattle.upc_text.specs.declared.faults.Stop.TheVariants as s
use Rattle.upc_tree.specs.declared.unit.Unit as u
use Rattle.upc_tree.specs.Unit.{External, tokens_of, ProperUnit, IsTree}
use Rattle.upc_tree.specs.layer.ViewStatement.{view_unit}
use Rattle.upc_parser_ground.specs.declared.cursor.Fault.{Fault}
use Rattle.upc_parser_ground.specs.declared.cursor.Fault.TheVariants.{NoTree, TooHigh}
use Rattle.upc_parser_ground.specs.layer.Outcome.{Outcome}
use Rattle.upc_parser_sources.specs.layer.Parse.{externals_at, unit_at}
use Rattle.upc_parser.specs.Answer.{answer, settle, settled_fault, code_of, Ends, Answers, RefusedBy, OnlyRefused}
use Rattle.upc_parser.proofs.Laws as laws

abbrev settled : List External → Result (List External) Fault
settled u = Ok u

abbrev refused : Fault → Result (List External) Fault
refused f = Err f

-- ---- what is answered, by what the parser of the parts answers

at_limit : (ts : List Token) → unit_at 256 ts ≡ externals_at 255 ts
unfolding unit_at
at_limit ts = refl

by_limit : (ts : List Token) → answer ts ≡ settle (length ts) (unit_at 256 ts)
unfolding answer
by_limit ts = refl

answer_by : (ts : List Token) (o : Outcome (List External)) → externals_at 255 ts ≡ o → answer ts ≡ settle (length ts) o
answer_by ts o e = by_limit ts ∙ ap (settle (length ts)) (at_limit ts ∙ e)

pub answer_whole : (ts rest : List Token) (u : List External) → length rest ≡ 0 → externals_at 255 ts ≡ Ok (u, rest) → answer ts ≡ settled u
answer_whole ts [] u l e = answer_by ts (Ok (u, [])) e
answer_whole ts (x ∷ rest) u l e = absurd (omega (arith, l))

pub answer_more : (ts rest : List Token) (u : List External) → 0 < length rest → externals_at 255 ts ≡ Ok (u, rest) → answer ts ≡ refused NoTree
answer_more ts [] u l e = absurd (omega (arith, l))
answer_more ts (x ∷ rest) u l e = answer_by ts (Ok (u, x ∷ rest)) e

pub answer_fault : (ts : List Token) (f : Fault) → externals_at 255 ts ≡ Err f → answer ts ≡ refused (settled_fault (length ts) f)
answer_fault ts f e = answer_by ts (Err f) e

-- ---- the clauses

ok_is : (x y : List External) → settled x ≡ settled y → x ≡ y
ok_is x y e = cc

no_both : (x : List External) (f : Fault) → settled x ≡ refused f → ⊥
no_both x f e = cc

pub end_found : (ts : List Token) (r : Result u.Unit Stop) → Ends ts r (answer ts) → IfOk r (λ unit. IsTree ts (view_unit unit))
end_found ts (Ok x) h = laws.found ts (view_unit x) h
end_found ts (Err e) h = tt

pub end_answered : (ts : List Token) (r : Result u.Unit Stop) → Ends ts r (answer ts) → (t : List External) → IsTree ts t → Answers t r
end_answered ts (Ok x) h t is = ok_is (view_unit x) t (sym h ∙ laws.answered ts t is)
end_answered ts (Err s.Memory) h t is = tt
end_answered ts (Err (s.Refused r)) h t is = no_both t h.0 (sym (laws.answered ts t is) ∙ h.1)

syntax_code : (f : Fault) → code_of f ≡ c.Syntax → f ≡ NoTree
syntax_code NoTree e = refl
syntax_code TooHigh e = absurd cc

limit_code : (f : Fault) → code_of f ≡ c.Limit 3 → f ≡ TooHigh
limit_code NoTree e = absurd cc
limit_code TooHigh e = refl

pub end_syntax : (ts : List Token) (r : Result u.Unit Stop) → Ends ts r (answer ts) → RefusedBy c.Syntax r → (t : List External) → ProperUnit t → tokens_of t ≡ ts → ⊥
end_syntax ts (Ok x) h by t pr is = absurd by
end_syntax ts (Err s.Memory) h by t pr is = absurd by
end_syntax ts (Err (s.Refused r)) h by t pr is = laws.syntax ts (h.1 ∙ ap refused (syntax_code h.0 (sym h.2.code ∙ by))) t pr is

pub end_limit : (ts : List Token) (r : Result u.Unit Stop) → Ends ts r (answer ts) → RefusedBy (c.Limit 3) r → (256 ≤ length ts) × ((t : List External) → IsTree ts t → ⊥)
end_limit ts (Ok x) h by = absurd by
end_limit ts (Err s.Memory) h by = absurd by
end_limit ts (Err (s.Refused r)) h by = laws.limit ts (h.1 ∙ ap refused (limit_code h.0 (sym h.2.code ∙ by)))

only : (f : Fault) (code : Code) → code ≡ code_of f → (code ≡ c.Syntax) ⊎ (code ≡ c.Limit 3)
only NoTree code e = inl e
only TooHigh code e = inr e

pub end_refused : (ts : List Token) (r : Result u.Unit Stop) → Ends ts r (answer ts) → OnlyRefused ts r
end_refused ts (Ok x) h = tt
end_refused ts (Err s.Memory) h = tt
end_refused ts (Err (s.Refused r)) h = (only h.0 r.code h.2.code, h.2.place)
