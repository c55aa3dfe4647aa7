-- Worked examples: the code of small statements and of a small program, computed by the definitions themselves.
use Rattle.std.specs.Prelude.{ℕ, ◌≡◌, pos, false, List, [], ◌∷◌, map, codes, Some, None}
use Rattle.std.proofs.Common.{refl}
use Rattle.upc_text.specs.declared.place.Place.{Place}
use Rattle.block_layout.specs.declared.kind.Kind.TheVariants as kind
use Rattle.upc_values.specs.declared.scalar.Mark.TheVariants.{Start, Finish}
use Rattle.upc_types.specs.Types.{Structs}
use Rattle.typing_rules.specs.Library.{int}
use Rattle.typing_rules.specs.Attributes.{known}
use Rattle.typed_tree.specs.Tree.{Expr, Is, Literal, AtValue, Head, Statement, Stands, StatementKind, Block, If, Switch}
use Rattle.typed_tree.specs.Tree.{While, DoWhile, For, Forall, Break, Continue, Return, TheStatement, NoArms, AndArm}
use Rattle.typed_tree.specs.Tree.{NoItems, AndStatement, NoSwitchItems, AndCase, AndDefault, AndSwitchStatement}
use Rattle.typed_tree.specs.Tree as tree
use Rattle.typed_tree.specs.Programs.{Checked}
use Rattle.thread_steps.specs.declared.cast.CastTo.TheVariants as to
use Rattle.thread_steps.specs.Values.{number}
use Rattle.source_meaning.specs.Statements.{Standing}
use Rattle.stack_code.specs.declared.instruction.StackWork.TheVariants.{Push, Pop}
use Rattle.stack_code.specs.declared.instruction.ValueWork.TheVariants.{Cast}
use Rattle.stack_code.specs.declared.instruction.ObjectWork.TheVariants.{Enter, Leave}
use Rattle.stack_code.specs.declared.instruction.Jump.TheVariants.{GoOn, SkipIfZero, SkipIfControlled, Case, Tick}
use Rattle.stack_code.specs.declared.instruction.Jump.TheVariants.{GoBack, Exit}
use Rattle.stack_code.specs.declared.instruction.CallWork.TheVariants.{Begin, Receive, GiveBack, Quit}
use Rattle.stack_code.specs.declared.instruction.ThreadWork.TheVariants.{Notify, Wait, Control, Release, Mine}
use Rattle.stack_code.specs.declared.instruction.Operation.{Operation}
use Rattle.stack_code.specs.declared.instruction.Operation.TheVariants as work
use Rattle.stack_code.specs.declared.instruction.Instr.{Instr}
use Rattle.gen_expr.specs.layer.Sources.{Source}
use Rattle.gen_stmt.specs.layer.Ways.{in_function}
use Rattle.gen_stmt.specs.layer.Codes.{statement_code}
use Rattle.gen_stmt.specs.layer.Programs.{program_code}

abbrev here : Place
here = record { line = 1; column = 1 }

abbrev structs : Structs
structs = record { declared = 0; completed = []; targets = [] }

abbrev num : ℕ → Expr
num v = Is here (known kind.Int (pos v)) Literal

abbrev stands : StatementKind → Statement
stands kind = Stands here kind

abbrev does : ℕ → Statement
does v = stands (tree.Value (Some (num v)))

abbrev head : ℕ → ℕ → ℕ → Head
head first test step =
    record { objects = []; first = Some (num first); test = Some (num test); step = Some (num step) }

-- The code of a statement that a function begins with, without its places.
abbrev code : Statement → List Operation
code s =
    let ς : Source = record { functions = []; structs = structs; shared = []; shapes = [] } in
    let κ : Standing = record { strict = false; count = 0; result = int } in
    map (λ i. i.does) (statement_code ς κ (in_function 0) s)

abbrev push : ℕ → Operation
push v = work.Stack (Push (number (pos v)))

abbrev pop : Operation
pop = work.Stack Pop

-- `while (1) { break; }`: out of the block, and past its end and the jump back.
endless :
    code (stands (While (num 1) (stands (Block false (AndStatement (stands Break) NoItems)))))
    ≡ work.Way Tick ∷ push 1 ∷ work.Way (SkipIfZero 4) ∷ work.Object (Enter 0 []) ∷ work.Way (Exit 1 2)
    ∷ work.Object Leave ∷ work.Way (GoBack 5) ∷ []
endless = refl

-- `do 7; while (0);`
late :
    code (stands (DoWhile (does 7) (num 0)))
    ≡ work.Way (GoOn 3) ∷ work.Way Tick ∷ push 0 ∷ work.Way (SkipIfZero 3) ∷ push 7 ∷ pop ∷ work.Way (GoBack 4) ∷ []
late = refl

-- `for (0; 1; 2) continue;`: to the last part.
counted :
    code (stands (For (head 0 1 2) (stands Continue)))
    ≡ work.Object (Enter 0 []) ∷ push 0 ∷ pop ∷ work.Way Tick ∷ push 1 ∷ work.Way (SkipIfZero 4)
    ∷ work.Way (Exit 0 0) ∷ push 2 ∷ pop ∷ work.Way (GoBack 5) ∷ work.Object Leave ∷ []
counted = refl

-- `upc_forall (0; 1; 2; 3) 7;`
shared_out :
    code (stands (Forall (head 0 1 2) (AtValue (num 3)) (does 7)))
    ≡ work.Object (Enter 0 []) ∷ push 0 ∷ pop ∷ work.Way Tick ∷ push 1 ∷ work.Way (SkipIfZero 11)
    ∷ work.Way (SkipIfControlled 3) ∷ push 3 ∷ work.Thread Mine ∷ work.Way (SkipIfZero 4) ∷ work.Thread Control
    ∷ push 7 ∷ pop ∷ work.Thread Release ∷ push 2 ∷ pop ∷ work.Way (GoBack 12) ∷ work.Object Leave ∷ []
shared_out = refl

-- `if (1) 2; else if (3) 4; else 5;`
chosen :
    code (stands (If (AndArm (num 1) (does 2) (AndArm (num 3) (does 4) NoArms)) (TheStatement (does 5))))
    ≡ push 1 ∷ work.Way (SkipIfZero 3) ∷ push 2 ∷ pop ∷ work.Way (GoOn 7) ∷ push 3 ∷ work.Way (SkipIfZero 3) ∷ push 4
    ∷ pop ∷ work.Way (GoOn 2) ∷ push 5 ∷ pop ∷ []
chosen = refl

-- `switch (2) { case 1: ; default: break; case 2: 7; }`
switched :
    code (stands (Switch (num 2) (AndCase (pos 1) (AndSwitchStatement (stands (tree.Value None))
    (AndDefault (AndSwitchStatement (stands Break) (AndCase (pos 2) (AndSwitchStatement (does 7) NoSwitchItems))))))))
    ≡ push 2 ∷ work.Value (Cast (to.Integer kind.Int)) ∷ work.Way (Case (pos 1) 3) ∷ work.Way (Case (pos 2) 3) ∷ pop
    ∷ work.Way (GoOn 0) ∷ work.Way (Exit 0 2) ∷ push 7 ∷ pop ∷ []
switched = refl

-- `int main(void) { return 0; }`
abbrev empty : Checked
empty = record {
  threads = 1;
  structs = structs;
  objects = [];
  functions = record {
    at = here;
    name = codes "main";
    result = int;
    parameters = [];
    body = stands (Block false (AndStatement (stands (Return (Some (num 0)))) NoItems));
  } ∷ [];
}

started :
    map (λ c. map (λ (i : Instr). i.does) c) (program_code empty).functions
    ≡ (work.Thread (Notify Start) ∷ work.Thread (Wait Start) ∷ work.Call (Begin 1) ∷ work.Thread (Notify Finish)
    ∷ work.Thread (Wait Finish) ∷ work.Call Quit ∷ [])
    ∷ (work.Object (Enter 0 []) ∷ work.Call (Receive []) ∷ push 0 ∷ work.Value (Cast (to.Integer kind.Int))
    ∷ work.Call (GiveBack 1) ∷ work.Object Leave ∷ push 0 ∷ work.Call (GiveBack 0) ∷ []) ∷ []
started = refl
