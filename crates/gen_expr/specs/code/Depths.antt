-- How many operands the code of an expression leaves, and its code for what it does alone.
use Rattle.std.specs.Prelude.{Bool, [], ◌∷◌, ◌++◌}
use Rattle.upc_text.specs.declared.place.Place.{Place}
use Rattle.typed_tree.specs.Tree.{Expr}
use Rattle.source_meaning.specs.Expressions.{no_value}
use Rattle.stack_code.specs.declared.instruction.CallWork.TheVariants.{GiveBack}
use Rattle.stack_code.specs.declared.instruction.Operation.TheVariants as work
use Rattle.stack_code.specs.layer.Depths.{IsDeep}
use Rattle.gen_expr.specs.layer.Sources.{Source}
use Rattle.gen_expr.specs.layer.Codes.{value_code, effect_code, pushes}

-- The operand depths of the code of each expression agree, and it leaves one operand, its value: with an instruction
-- after it that gives the value back it is a function whose depths agree.
abbrev pub ExpressionsAreDeep : Type 0
ExpressionsAreDeep =
    (ς : Source) (strict : Bool) (e : Expr) (at : Place)
    → IsDeep (value_code ς strict e ++ (record { place = at; does = work.Call (GiveBack 0) } ∷ []))

-- The operand depths of the code of each expression for what it does alone agree, and it leaves no operand: with
-- instructions after it that push 0 and give it back it is a function whose depths agree.
abbrev pub EffectsAreDeep : Type 0
EffectsAreDeep =
    (ς : Source) (strict : Bool) (e : Expr) (at : Place)
    → IsDeep (effect_code ς strict e
    ++ (pushes at no_value ∷ (record { place = at; does = work.Call (GiveBack 0) } ∷ [])))
