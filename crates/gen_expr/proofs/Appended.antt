-- What is appended for an expression means it.
use Rattle.std.proofs.Common.{◌≡◌, Bool, false, List, [], ◌++◌, Result, Ok, Err, OnOk, is_err, ◌∙◌, ap, subst}
use Rattle.std.proofs.Common.{sym}
use Rattle.std.proofs.lemmas.Bool.{false≢true}
use Rattle.typed_tree.specs.Tree.{Expr}
use Rattle.stack_code.specs.declared.instruction.Instr.{Instr}
use Rattle.stack_code.specs.layer.Making.{Making, with_instructions}
use Rattle.gen_expr.specs.layer.Sources.{Source}
use Rattle.gen_expr.specs.layer.Codes.{value_code}
use Rattle.gen_expr.specs.layer.Meanings.{GivesValue, MeansExpression, AppendsMeaning}
use Rattle.gen_expr.proofs.Simulation.{expressions_are_meant}

-- The code of an expression means it.
pub means_expression : (ς : Source) (strict : Bool) (e : Expr) → MeansExpression ς strict e (value_code ς strict e)
means_expression ς strict e ρ functions call same calls =
    subst (λ (s : Source). GivesValue ρ functions call strict e (value_code s strict e)) same
    (expressions_are_meant ρ functions call strict e calls)

module _ (ς : Source) (strict : Bool) (e : Expr) where
  -- What was made where nothing was refused.
  pub made : {T E : Type 0} (r : Result T E) (before code : List Instr) → is_err r ≡ false → before ≡ []
      → OnOk r (code ≡ before ++ value_code ς strict e) → code ≡ value_code ς strict e
  made (Ok x) before code same none h = h ∙ ap (λ (xs : List Instr). xs ++ value_code ς strict e) none
  made (Err x) before code same none h = absurd (false≢true (sym same))

  pub appends_meaning : {T E : Type 0} (r : Result T E) (code : List Instr) (old new : Making)
      → code ≡ value_code ς strict e → OnOk r (new ≡ with_instructions code old)
      → OnOk r (AppendsMeaning ς strict e old new)
  appends_meaning (Ok x) code old new same h = record {
    code = code;
    appended = h;
    means = subst (MeansExpression ς strict e) (sym same) (means_expression ς strict e);
  }
  appends_meaning (Err x) code old new same h = tt
