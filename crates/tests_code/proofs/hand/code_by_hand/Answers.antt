use Rattle.std.proofs.Common.{◌≡◌, [], ◌∷◌, pos, false, refl, sym, ap, ◌∙◌, subst}
use Rattle.block_layout.specs.declared.kind.Kind.TheVariants as kind
use Rattle.block_layout.specs.declared.place.LocalPtr.{LocalPtr}
use Rattle.block_layout.specs.declared.place.LocalPtr.TheVariants as local
use Rattle.upc_values.specs.Lists.{Each}
use Rattle.upc_values.specs.declared.scalar.Scalar.TheVariants as scalar
use Rattle.upc_values.specs.declared.scalar.Value.TheVariants as value
use Rattle.stack_code.specs.declared.instruction.StackWork.TheVariants.{Push}
use Rattle.stack_code.specs.declared.instruction.ObjectWork.TheVariants.{Load}
use Rattle.stack_code.specs.declared.instruction.CallWork.TheVariants.{GiveBack}
use Rattle.stack_code.specs.declared.instruction.Operation.{Operation}
use Rattle.stack_code.specs.declared.instruction.Operation.TheVariants as work
use Rattle.stack_code.specs.declared.instruction.Instr.{Instr}
use Rattle.stack_code.specs.layer.Depths.{IsDeep}
use Rattle.stack_code.specs.layer.Making.{Making, with_instruction, with_function, with_object, with_initial}
use Rattle.tests_code.proofs.hand.code_by_hand.Goals as goal

abbrev instr : Operation → Instr
instr does = record { place = (record { line = 1; column = 1 }); does = does }

abbrev object : LocalPtr
object = local.Private 0 (pos 0)

abbrev push : Instr
push = instr (work.Stack (Push (value.Local object)))

abbrev load : Instr
load = instr (work.Object (Load (record { kind = kind.Int; strict = false })))

abbrev give : Instr
give = instr (work.Call (GiveBack 0))

-- The depths of the function.
deep : IsDeep (push ∷ load ∷ give ∷ [])
deep = (0 ∷ 1 ∷ 1 ∷ [], refl, ((0, refl, refl), ((0, refl, refl), ((0, refl, tt), tt))))

pub finish-requires-clause-depths : goal.finish-requires-clause-depths
finish-requires-clause-depths c =
    let made : c.end_function.new.self ≡ with_function (with_instruction give (with_instruction load
    (with_instruction push c.append_initial.new.self))) =
    c.in_ok-end_function.ensures.done
    ∙ ap with_function (c.in_ok-append-3.ensures.done
    ∙ ap (with_instruction give) (c.in_ok-append-2.ensures.done
    ∙ ap (with_instruction load) c.in_ok-append.ensures.done)) in
    let before : c.append_initial.new.self ≡ with_initial object (value.Scalar (scalar.Int (pos 7)))
    (with_object c.in_ok-int_shape.field-0 c.in_ok-builder.builder) =
    c.in_ok-append_initial.ensures.done
    ∙ ap (with_initial object (value.Scalar (scalar.Int (pos 7)))) c.in_ok-append_object.ensures.done in
    let all = made ∙ ap (λ (m : Making). with_function (with_instruction give (with_instruction load
    (with_instruction push m)))) (before
    ∙ ap (λ (m : Making). with_initial object (value.Scalar (scalar.Int (pos 7)))
    (with_object c.in_ok-int_shape.field-0 m)) c.in_ok-builder.ensures) in
    subst (λ (m : Making). Each IsDeep m.codes.functions) (sym all) (deep, tt)
