-- Code of one function, which gives the value of an expression.
use Rattle.std.proofs.Common.{ℕ, ◌≡◌, Bool, List, [], ◌∷◌, ◌++◌, sym, ap, ◌∙◌, subst}
use Rattle.upc_text.specs.declared.place.Place.{Place}
use Rattle.block_layout.specs.declared.kind.Shape.{Shape}
use Rattle.upc_values.specs.Lists.{Each}
use Rattle.upc_values.proofs.Membership.{each-append}
use Rattle.typed_tree.specs.Tree.{Expr}
use Rattle.stack_code.specs.declared.instruction.CallWork.TheVariants.{GiveBack}
use Rattle.stack_code.specs.declared.instruction.Operation.TheVariants as work
use Rattle.stack_code.specs.declared.instruction.Instr.{Instr}
use Rattle.stack_code.specs.layer.Depths.{IsDeep, BeginsOnce, BeginsOther, OnCall}
use Rattle.stack_code.specs.layer.Making.{Making, empty, with_instruction, with_instructions, with_function}
use Rattle.gen_expr.specs.layer.Sources.{Source}
use Rattle.gen_expr.specs.layer.Codes.{value_code, instruction}
use Rattle.gen_expr.specs.layer.Gathered.{HoldsOfForms}
use Rattle.gen_expr.proofs.Gathered.{value_gathers}
use Rattle.gen_expr.proofs.Depths.{expressions_are_deep}

-- No form of instruction begins a function without a tick.
begins : (ς : Source) → HoldsOfForms ς (λ i. OnCall BeginsOther i.does)
begins ς = record {
  numbers = λ at v. tt;
  private_objects = λ at n. tt;
  shared_objects = λ at n. tt;
  stack_work = λ at w h. tt;
  value_work = λ at w. tt;
  local_objects = λ at n. tt;
  reads = λ at kind strict. tt;
  writes = λ at kind strict. tt;
  ways = λ at w. tt;
  calls = λ at f n. tt;
  library_calls = λ at c shape n. tt;
  prints = λ at format n. tt;
}

module _ (ς : Source) (strict : Bool) (e : Expr) (at : Place) (threads : ℕ) (shapes : List Shape) where
  -- The function.
  abbrev pub alone : List Instr
  alone = value_code ς strict e ++ (instruction at (work.Call (GiveBack 0)) ∷ [])

  -- What is made of it.
  abbrev pub made : Making
  made =
      with_function (with_instruction (instruction at (work.Call (GiveBack 0)))
      (with_instructions (value_code ς strict e) (empty threads shapes)))

  pub alone_deep : (m : Making) → m ≡ made → Each IsDeep m.codes.functions
  alone_deep m h =
      subst (λ (x : Making). Each IsDeep x.codes.functions) (sym h) (expressions_are_deep ς strict e at, tt)

  pub alone_begins : (m : Making) → m ≡ made → BeginsOnce m.codes.functions
  alone_begins m h =
      subst (λ (x : Making). BeginsOnce x.codes.functions) (sym h) (
        each-append (λ (i : Instr). OnCall BeginsOther i.does) (value_code ς strict e) _
            (value_gathers ς (λ i. OnCall BeginsOther i.does) (begins ς) strict e) (tt, tt),
        tt,
      )

  -- Step by step.
  pub are_made : (m₀ m₁ m₂ m₃ : Making) → m₀ ≡ empty threads shapes
      → m₁ ≡ with_instructions (value_code ς strict e) m₀
      → m₂ ≡ with_instruction (instruction at (work.Call (GiveBack 0))) m₁ → m₃ ≡ with_function m₂ → m₃ ≡ made
  are_made m₀ m₁ m₂ m₃ h₀ h₁ h₂ h₃ =
      h₃ ∙ ap with_function (h₂ ∙ ap (with_instruction (instruction at (work.Call (GiveBack 0))))
      (h₁ ∙ ap (with_instructions (value_code ς strict e)) h₀))
