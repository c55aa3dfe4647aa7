-- The code of statements from that of their parts.
use Rattle.std.specs.Prelude.{ℕ, ◌+◌, ◌-◌, ℤ, Bool, List, [], ◌∷◌, ◌++◌, length, map}
use Rattle.upc_text.specs.declared.place.Place.{Place}
use Rattle.upc_values.specs.declared.scalar.Mark.{Mark}
use Rattle.typed_tree.specs.Tree.{Function, Expr, Head, Affinity, Items, NoItems, AndObjects, AndStatement, SwitchItems}
use Rattle.typed_tree.specs.Tree.{NoSwitchItems, AndCase, AndDefault, AndSwitchStatement}
use Rattle.source_meaning.specs.Types.{integer_of}
use Rattle.source_meaning.specs.Expressions.{type_of}
use Rattle.source_meaning.specs.Statements.{Standing, shapes_of, objects_in}
use Rattle.source_meaning.specs.layer.Parts.{shapes_in}
use Rattle.stack_code.specs.declared.instruction.StackWork.TheVariants as stack
use Rattle.stack_code.specs.declared.instruction.Jump.TheVariants as jump
use Rattle.stack_code.specs.declared.instruction.ThreadWork.TheVariants as thread
use Rattle.stack_code.specs.declared.instruction.Instr.{Instr}
use Rattle.gen_expr.specs.layer.Sources.{Source, running_of}
use Rattle.gen_expr.specs.layer.Codes.{stacks, jumps, value_code}
use Rattle.gen_stmt.specs.layer.Ways.{Ways, all_past, all_inner}
use Rattle.gen_stmt.specs.layer.Codes.{enters, acts, block_code, loop_code}
use Rattle.gen_stmt.specs.layer.Codes.{label_code, test_code, first_code, guard_code}
use Rattle.gen_stmt.specs.layer.Codes.{aside_code}
use Rattle.gen_stmt.specs.layer.Codes.{declared_code, statement_code, items_code}
use Rattle.gen_stmt.specs.layer.Programs.{receives, parameter_access}

-- The body of a switch: its code, its labels with values, and its `default`. Each has the number of instructions of the
-- body that stand after it, 0 where there is no `default`.
pub record Labelled : Type 0 where
  pub code : List Instr
  pub labels : List (ℤ × ℕ)
  pub default : ℕ

-- The code of the comparisons of a switch with these labels and so many instructions in its body (C99 6.8.4.2).
abbrev pub labels_code : Place → List (ℤ × ℕ) → ℕ → List Instr
labels_code at [] total = []
labels_code at (x ∷ xs) total =
    jumps at (jump.Case x.0 (length xs + 2 + (total - x.1))) ∷ labels_code at xs total

-- The code of a condition, of what it guards, and of what else is tried after it (C99 6.8.4.1).
abbrev pub arm_code : Place → (test body : List Instr) → ℕ → (behind : List Instr) → ℕ → List Instr
arm_code at test body m behind n =
    test ++ (jumps at (jump.SkipIfZero (m + 1)) ∷ (body ++ (jumps at (jump.GoOn n) ∷ behind)))

-- The code of the barrier before main or after it (UPC 6.6.1).
abbrev pub barrier_code : Place → Mark → List Instr
barrier_code at mark = acts at (thread.Notify mark) ∷ (acts at (thread.Wait mark) ∷ [])

module _ (ς : Source) where
  -- The code with which the block of a function begins, and with which its parameters get their values (C99 6.9.1).
  abbrev pub opening_code : Function → Place → Items → List Instr
  opening_code f at items =
      enters at 0 (shapes_in (running_of ς) f items) ∷ (receives at (map (parameter_access ς) f.parameters) ∷ [])

  -- The code of a `do` loop with this body (C99 6.8.5.2).
  abbrev pub do_code : Bool → Place → Expr → List Instr → List Instr
  do_code strict at test body =
      jumps at (jump.GoOn (1 + length (value_code ς strict test) + 1))
      ∷ loop_code at (value_code ς strict test) body [] (length body)

  -- The code of a loop with this head, body and last part (C99 6.8.5.3).
  abbrev pub headed_code : Standing → Place → Head → (body last : List Instr) → List Instr
  headed_code κ at head body last =
      block_code at κ.count (shapes_of (running_of ς) head.objects)
      (first_code ς κ.strict head
      ++ loop_code at (test_code ς at κ.strict head.test) body last (length body))

  -- The code of a upc_forall with this body (UPC 6.6.2).
  abbrev pub forall_code : Standing → Place → Head → Affinity → List Instr → List Instr
  forall_code κ at head whose body =
      headed_code κ at head (guard_code ς at κ.strict whose body (length body)) (aside_code ς κ.strict head.step)

  -- The code of a switch with this body (C99 6.8.4.2).
  abbrev pub labelled_code : Bool → Place → Expr → Labelled → List Instr
  labelled_code strict at e body =
      value_code ς strict e
      ++ (label_code at (integer_of (type_of e))
      ++ (labels_code at body.labels (length body.code)
      ++ (stacks at stack.Pop ∷ (jumps at (jump.GoOn (length body.code - body.default)) ∷ body.code))))

  -- The code of the first part of a block, and after it the code of the later parts.
  abbrev pub before_items : Standing → Ways → Items → List Instr → List Instr
  before_items κ ω NoItems behind = behind
  before_items κ ω (AndObjects objects more) behind = declared_code ς κ.strict objects ++ behind
  before_items κ ω (AndStatement s more) behind = statement_code ς κ (all_past (length behind) ω) s ++ behind

  -- The body of a switch, made from its first part and from the body that the later parts make.
  abbrev pub before_parts : Standing → Ways → SwitchItems → Labelled → Labelled
  before_parts κ ω NoSwitchItems behind = behind
  before_parts κ ω (AndCase w more) behind = record behind { labels = (w, length behind.code) ∷ behind.labels }
  before_parts κ ω (AndDefault more) behind = record behind { default = length behind.code }
  before_parts κ ω (AndSwitchStatement s more) behind =
      record behind { code = statement_code ς κ (all_past (length behind.code) ω) s ++ behind.code }

  -- The body of a switch with its labels, made from the last part to the first (C99 6.8.4.2).
  abbrev pub labelled_of : Standing → Ways → SwitchItems → Labelled
  labelled_of κ ω NoSwitchItems = record { code = []; labels = []; default = 0 }
  labelled_of κ ω (AndCase w more) = before_parts κ ω (AndCase w more) (labelled_of κ ω more)
  labelled_of κ ω (AndDefault more) = before_parts κ ω (AndDefault more) (labelled_of κ ω more)
  labelled_of κ ω (AndSwitchStatement s more) =
      before_parts κ ω (AndSwitchStatement s more) (labelled_of κ ω more)

  -- The code of a block with these parts, where its standing has the accesses of the block already (C99 6.8.2,
  -- UPC 6.7).
  abbrev pub within_code : Standing → Ways → Place → Items → List Instr
  within_code κ ω at items =
      block_code at κ.count (shapes_of (running_of ς) (objects_in items)) (items_code ς κ (all_inner ω) items)
