-- Code that is written backwards.
use Rattle.std.proofs.Common.{◌≡◌, List, ◌++◌, ap, ◌∙◌, reverse}
use Rattle.std.proofs.lemmas.List.{reverse-append, reverse-reverse}
use Rattle.stack_code.specs.declared.instruction.Instr.{Instr}

pub put_before : (written code : List Instr) → reverse (written ++ reverse code) ≡ code ++ reverse written
put_before written code =
    reverse-append written (reverse code) ∙ ap (λ (xs : List Instr). xs ++ reverse written) (reverse-reverse code)
