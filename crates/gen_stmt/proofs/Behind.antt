-- The code of lists of statements, put together from the last part to the first, and of statements from their parts.
use Rattle.std.proofs.Common.{◌≡◌, ℕ, ◌+◌, ◌-◌, ◌<◌, ◌≤◌, List, [], ◌∷◌, ◌++◌, length, map, drop, get_or, refl, sym}
use Rattle.std.proofs.Common.{ap, ◌∙◌}
use Rattle.std.proofs.Common.{Bool, false, Option, arith, suc, append_assoc, Result, Ok, Err, OnOk}
use Rattle.std.proofs.lemmas.List.{append-nil}
use Rattle.upc_text.specs.declared.place.Place.{Place}
use Rattle.upc_values.proofs.Membership.{left_from}
use Rattle.typed_tree.specs.declared.tree.Arm as r
use Rattle.typed_tree.specs.declared.tree.Item as m
use Rattle.typed_tree.specs.declared.tree.SwitchItem as w
use Rattle.upc_values.specs.declared.scalar.Mark.TheVariants.{Start, Finish}
use Rattle.typed_tree.specs.Tree.{Function, Items, Expr, DeclaredObject, Head, Affinity, Statement, Stands}
use Rattle.typed_tree.specs.Tree.{StatementOption, Arms}
use Rattle.typed_tree.specs.Tree.{NoItems, SwitchItems, NoSwitchItems, AndCase, AndDefault, AndSwitchStatement}
use Rattle.typed_tree.specs.Tree.{Block, If, Switch, While, DoWhile, For, Forall}
use Rattle.typed_tree.specs.ViewTree.{view_expr}
use Rattle.typed_tree.specs.ViewStatements.{view_object, view_statement, view_statement_kind, view_arms, view_item}
use Rattle.typed_tree.specs.ViewStatements.{view_items, view_switch_item, view_switch_items}
use Rattle.source_meaning.specs.Types.{integer_of}
use Rattle.source_meaning.specs.layer.Parts.{with_strict}
use Rattle.source_meaning.specs.Expressions.{type_of}
use Rattle.source_meaning.specs.Statements.{Standing, with_objects, shapes_of, objects_in}
use Rattle.source_meaning.specs.Threads.{in_body, main_of, main_place}
use Rattle.stack_code.specs.declared.instruction.CellAccess.{CellAccess}
use Rattle.stack_code.specs.declared.instruction.CallWork.TheVariants as call
use Rattle.stack_code.specs.declared.instruction.Operation.TheVariants as work
use Rattle.stack_code.specs.declared.instruction.StackWork.TheVariants as stack
use Rattle.stack_code.specs.declared.instruction.Jump.TheVariants as jump
use Rattle.stack_code.specs.declared.instruction.Instr.{Instr}
use Rattle.gen_expr.specs.layer.Sources.{Source, running_of}
use Rattle.gen_expr.specs.layer.Codes.{stacks, jumps, value_code}
use Rattle.gen_stmt.specs.layer.Ways.{Ways, all_past, all_inner, in_loop, in_switch, in_forall, in_function}
use Rattle.gen_stmt.specs.layer.Codes.{block_code, loop_code, label_code, cases, aside_code, test_code, declared_code}
use Rattle.gen_stmt.specs.layer.Codes.{first_code, guard_code, size, arms_size, switch_size}
use Rattle.gen_stmt.specs.layer.Codes.{cases_code, before_default, statement_code, kind_code, last_code, arms_code}
use Rattle.gen_stmt.specs.layer.Codes.{items_code}
use Rattle.gen_stmt.specs.layer.Codes.{switch_code, leaves}
use Rattle.gen_stmt.specs.layer.Programs.{receives, opened_code, entry_code, main_number}
use Rattle.gen_stmt.specs.code.Parts.{Labelled, labels_code, do_code, headed_code, forall_code, labelled_code}
use Rattle.gen_stmt.specs.code.Parts.{barrier_code, opening_code, arm_code, before_items, before_parts, labelled_of}
use Rattle.gen_stmt.specs.code.Parts.{within_code}
use Rattle.gen_stmt.specs.code.Views.{with_count}
use Rattle.gen_stmt.proofs.Lengths.{guard_long, statement_long, last_long, arms_long, items_long, switch_long}

add_none : (n : ℕ) → n + 0 ≡ n
add_none n = omega arith

-- What follows from what is so without an error.
pub on_ok : {T E : Type 0} (r : Result T E) (P Q : Type 0) → (P → Q) → OnOk r P → OnOk r Q
on_ok (Ok x) P Q f h = f h
on_ok (Err e) P Q f h = tt

-- Code, as it is given otherwise.
pub instead : (new x y : List Instr) → x ≡ y → new ≡ x → new ≡ y
instead new x y e h = h ∙ e

-- Code after other code, as it is given otherwise.
pub behind : (old new x y : List Instr) → x ≡ y → new ≡ old ++ x → new ≡ old ++ y
behind old new x y e h = h ∙ ap (λ (l : List Instr). old ++ l) e

abbrev pub begins : Place → ℕ → Instr
begins at n = record { place = at; does = work.Call (call.Begin n) }

abbrev pub quits : Place → Instr
quits at = record { place = at; does = work.Call call.Quit }

module _ (ς : Source) where
  -- ---- blocks

  items_before : (κ : Standing) (ω : Ways) (x : m.Item) (xs : List m.Item)
      → before_items ς κ ω (view_item x NoItems)
      (items_code ς (with_count (κ.count + length (objects_in (view_item x NoItems))) κ) ω (view_items xs))
      ≡ items_code ς κ ω (view_items (x ∷ xs))
  items_before κ ω (m.Declare objects) xs =
      let all = map view_object objects.items in
      ap (λ (ys : List DeclaredObject). declared_code ς κ.strict all
      ++ items_code ς (with_count (κ.count + length ys) κ) ω (view_items xs)) (append-nil all)
  items_before κ ω (m.Do' p at kind) xs =
      let s = view_statement_kind kind in
      let one = statement_code ς κ in
      ap (λ (n : ℕ). before_items ς κ ω (view_item (m.Do' p at kind) NoItems)
      (items_code ς (with_count n κ) ω (view_items xs))) (add_none κ.count)
      ∙ ap (λ (n : ℕ). statement_code ς κ (all_past n ω) (Stands at s) ++ items_code ς κ ω (view_items xs))
      (items_long ς (view_items xs) κ ω)

  items_step : (κ : Standing) (ω : Ways) (xs : List m.Item) (i : ℕ) (x : m.Item) (n k : ℕ) (out new : List Instr)
      → i < length xs → x ≡ get_or xs i x → n ≡ k + length (objects_in (view_item x NoItems))
      → out ≡ items_code ς (with_count n κ) ω (view_items (drop (i + 1) xs))
      → new ≡ before_items ς (with_count k κ) ω (view_item x NoItems) out
      → new ≡ items_code ς (with_count k κ) ω (view_items (drop i xs))
  items_step κ ω xs i x n k out new l e en told h =
      let more = drop (i + 1) xs in
      h
      ∙ ap (before_items ς (with_count k κ) ω (view_item x NoItems))
      (told ∙ ap (λ (j : ℕ). items_code ς (with_count j κ) ω (view_items more)) en)
      ∙ items_before (with_count k κ) ω x more
      ∙ sym (ap (λ (ys : List m.Item). items_code ς (with_count k κ) ω (view_items ys)) (left_from xs i x l e))

  pub items_back : (κ η : Standing) (ω : Ways) (xs : List m.Item) (i : ℕ) (x : m.Item) (count n : ℕ)
      (out new : List Instr)
      → 0 < i → i ≤ length xs → x ≡ get_or xs (i - 1) x → n ≡ length (objects_in (view_item x NoItems)) → n ≤ count
      → out ≡ items_code ς (with_count count κ) ω (view_items (drop i xs))
      → η ≡ with_count (count - n) κ
      → new ≡ before_items ς η ω (view_item x NoItems) out
      → new ≡ items_code ς (with_count (count - n) κ) ω (view_items (drop (i - 1) xs))
  items_back κ η ω xs i x count n out new some within e en few told eη h =
      let same : i ≡ i - 1 + 1 = omega arith in
      let all : count ≡ count - n + length (objects_in (view_item x NoItems)) = omega (arith, en) in
      items_step κ ω xs (i - 1) x count (count - n) out new (omega arith) e all
      (told ∙ ap (λ (j : ℕ). items_code ς (with_count count κ) ω (view_items (drop j xs))) same)
      (h ∙ ap (λ (θ : Standing). before_items ς θ ω (view_item x NoItems) out) eη)

  -- ---- conditions

  abbrev pub one_arm : Standing → Ways → Place → Expr → Statement → (behind : List Instr) → ℕ → List Instr
  one_arm κ ω at test s behind n =
      arm_code at (value_code ς κ.strict test) (statement_code ς κ (all_past (1 + n) ω) s) (size ς κ s) behind n

  arms_step : (κ : Standing) (ω : Ways) (at : Place) (xs : List r.Arm) (i : ℕ) (x : r.Arm)
      (last out new : List Instr)
      → i < length xs → x ≡ get_or xs i x
      → out ≡ arms_code ς κ ω at (view_arms (drop (i + 1) xs)) last (length last)
      → new ≡ one_arm κ ω at (view_expr x.test.value) (view_statement x.body) out (length out)
      → new ≡ arms_code ς κ ω at (view_arms (drop i xs)) last (length last)
  arms_step κ ω at xs i x last out new l e told h =
      let more = view_arms (drop (i + 1) xs) in
      let one = one_arm κ ω at (view_expr x.test.value) (view_statement x.body) in
      h
      ∙ ap (one out) (ap length told ∙ arms_long ς more κ ω at last (length last) refl)
      ∙ ap (λ (ys : List Instr). one ys (arms_size ς κ more (length last))) told
      ∙ sym (ap (λ (ys : List r.Arm). arms_code ς κ ω at (view_arms ys) last (length last)) (left_from xs i x l e))

  pub arms_back : (κ : Standing) (ω : Ways) (at : Place) (xs : List r.Arm) (i : ℕ) (x : r.Arm)
      (last out new : List Instr)
      → 0 < i → i ≤ length xs → x ≡ get_or xs (i - 1) x
      → out ≡ arms_code ς κ ω at (view_arms (drop i xs)) last (length last)
      → new ≡ one_arm κ ω at (view_expr x.test.value) (view_statement x.body) out (length out)
      → new ≡ arms_code ς κ ω at (view_arms (drop (i - 1) xs)) last (length last)
  arms_back κ ω at xs i x last out new some within e told h =
      let same : i ≡ i - 1 + 1 = omega arith in
      arms_step κ ω at xs (i - 1) x last out new (omega arith) e
      (told ∙ ap (λ (j : ℕ). arms_code ς κ ω at (view_arms (drop j xs)) last (length last)) same) h

  pub if_is : (κ : Standing) (ω : Ways) (at : Place) (arms : Arms) (last : StatementOption)
      → arms_code ς κ ω at arms (last_code ς κ ω last) (length (last_code ς κ ω last))
      ≡ kind_code ς κ ω at (If arms last)
  if_is κ ω at arms last =
      ap (λ (n : ℕ). arms_code ς κ ω at arms (last_code ς κ ω last) n) (last_long ς last κ ω)

  -- ---- switches

  part_before : (κ : Standing) (ω : Ways) (x : w.SwitchItem) (xs : List w.SwitchItem)
      → before_parts ς κ ω (view_switch_item x NoSwitchItems) (labelled_of ς κ ω (view_switch_items xs))
      ≡ labelled_of ς κ ω (view_switch_items (x ∷ xs))
  part_before κ ω (w.Case v) xs = refl
  part_before κ ω w.Default xs = refl
  part_before κ ω (w.Do' p at kind) xs = refl

  parts_step : (κ : Standing) (ω : Ways) (xs : List w.SwitchItem) (i : ℕ) (x : w.SwitchItem)
      (out new : Labelled)
      → i < length xs → x ≡ get_or xs i x
      → out ≡ labelled_of ς κ ω (view_switch_items (drop (i + 1) xs))
      → new ≡ before_parts ς κ ω (view_switch_item x NoSwitchItems) out
      → new ≡ labelled_of ς κ ω (view_switch_items (drop i xs))
  parts_step κ ω xs i x out new l e told h =
      h
      ∙ ap (before_parts ς κ ω (view_switch_item x NoSwitchItems)) told
      ∙ part_before κ ω x (drop (i + 1) xs)
      ∙ sym (ap (λ (ys : List w.SwitchItem). labelled_of ς κ ω (view_switch_items ys)) (left_from xs i x l e))

  pub parts_back : (κ : Standing) (ω : Ways) (xs : List w.SwitchItem) (i : ℕ) (x : w.SwitchItem)
      (out new : Labelled)
      → 0 < i → i ≤ length xs → x ≡ get_or xs (i - 1) x
      → out ≡ labelled_of ς κ ω (view_switch_items (drop i xs))
      → new ≡ before_parts ς κ ω (view_switch_item x NoSwitchItems) out
      → new ≡ labelled_of ς κ ω (view_switch_items (drop (i - 1) xs))
  parts_back κ ω xs i x out new some within e told h =
      let same : i ≡ i - 1 + 1 = omega arith in
      parts_step κ ω xs (i - 1) x out new (omega arith) e
      (told ∙ ap (λ (j : ℕ). labelled_of ς κ ω (view_switch_items (drop j xs))) same) h

  body_is : (κ : Standing) (ω : Ways) (items : SwitchItems) → (labelled_of ς κ ω items).code ≡ switch_code ς κ ω items
  body_is κ ω NoSwitchItems = refl
  body_is κ ω (AndCase v more) = body_is κ ω more
  body_is κ ω (AndDefault more) = body_is κ ω more
  body_is κ ω (AndSwitchStatement s more) =
      let e = body_is κ ω more in
      ap (λ (ys : List Instr). statement_code ς κ (all_past (length ys) ω) s ++ ys) e
      ∙ ap (λ (n : ℕ). statement_code ς κ (all_past n ω) s ++ switch_code ς κ ω more) (switch_long ς more κ ω)

  body_long : (κ : Standing) (ω : Ways) (items : SwitchItems)
      → length (labelled_of ς κ ω items).code ≡ switch_size ς κ items
  body_long κ ω items = ap length (body_is κ ω items) ∙ switch_long ς items κ ω

  labels_count : (κ : Standing) (ω : Ways) (items : SwitchItems)
      → length (labelled_of ς κ ω items).labels ≡ cases items
  labels_count κ ω NoSwitchItems = refl
  labels_count κ ω (AndCase v more) = let h = labels_count κ ω more in omega arith
  labels_count κ ω (AndDefault more) = labels_count κ ω more
  labels_count κ ω (AndSwitchStatement s more) = labels_count κ ω more

  before_left : (before m n : ℕ) → m ≡ n → before + n - m ≡ before
  before_left before m n e = omega arith

  labels_are : (κ : Standing) (ω : Ways) (at : Place) (items : SwitchItems) (before : ℕ)
      → labels_code at (labelled_of ς κ ω items).labels (before + switch_size ς κ items)
      ≡ cases_code ς at κ items before
  labels_are κ ω at NoSwitchItems before = refl
  labels_are κ ω at (AndCase v more) before =
      let b = labelled_of ς κ ω more in
      let total = before + switch_size ς κ more in
      ap (λ (n : ℕ). jumps at (jump.Case v (n + 2 + (total - length b.code))) ∷ labels_code at b.labels total)
      (labels_count κ ω more)
      ∙ ap (λ (n : ℕ). jumps at (jump.Case v (cases more + 2 + n)) ∷ labels_code at b.labels total)
      (before_left before (length b.code) (switch_size ς κ more) (body_long κ ω more))
      ∙ ap (λ (ys : List Instr). jumps at (jump.Case v (cases more + 2 + before)) ∷ ys) (labels_are κ ω at more before)
  labels_are κ ω at (AndDefault more) before = labels_are κ ω at more before
  labels_are κ ω at (AndSwitchStatement s more) before =
      let b = labelled_of ς κ ω more in
      let same : before + (size ς κ s + switch_size ς κ more) ≡ before + size ς κ s + switch_size ς κ more =
      omega arith in
      ap (labels_code at b.labels) same ∙ labels_are κ ω at more (before + size ς κ s)

  default_within : (κ : Standing) (ω : Ways) (items : SwitchItems)
      → (labelled_of ς κ ω items).default ≤ switch_size ς κ items
  default_within κ ω NoSwitchItems = omega arith
  default_within κ ω (AndCase v more) = default_within κ ω more
  default_within κ ω (AndDefault more) = let h = body_long κ ω more in omega arith
  default_within κ ω (AndSwitchStatement s more) = let h = default_within κ ω more in omega arith

  default_is : (κ : Standing) (ω : Ways) (items : SwitchItems)
      → switch_size ς κ items - (labelled_of ς κ ω items).default ≡ before_default ς κ items
  default_is κ ω NoSwitchItems = refl
  default_is κ ω (AndCase v more) = default_is κ ω more
  default_is κ ω (AndDefault more) = let h = body_long κ ω more in omega arith
  default_is κ ω (AndSwitchStatement s more) =
      let h = default_within κ ω more in
      let k = default_is κ ω more in
      omega arith

  pub switch_is : (κ : Standing) (ω : Ways) (at : Place) (e : Expr) (items : SwitchItems)
      → labelled_code ς κ.strict at e (labelled_of ς κ (in_switch ω) items) ≡ kind_code ς κ ω at (Switch e items)
  switch_is κ ω at e items =
      let b = labelled_of ς κ (in_switch ω) items in
      let n = switch_size ς κ items in
      let none : n ≡ 0 + n = omega arith in
      let before = value_code ς κ.strict e in
      let kind = label_code at (integer_of (type_of e)) in
      ap (λ (m : ℕ). before ++ (kind ++ (labels_code at b.labels m
      ++ (stacks at stack.Pop ∷ (jumps at (jump.GoOn (m - b.default)) ∷ b.code))))) (body_long κ (in_switch ω) items)
      ∙ ap (λ (m : ℕ). before ++ (kind ++ (labels_code at b.labels n
      ++ (stacks at stack.Pop ∷ (jumps at (jump.GoOn m) ∷ b.code))))) (default_is κ (in_switch ω) items)
      ∙ ap (λ (ys : List Instr). before ++ (kind ++ (ys
      ++ (stacks at stack.Pop ∷ (jumps at (jump.GoOn (before_default ς κ items)) ∷ b.code)))))
      (ap (labels_code at b.labels) none ∙ labels_are κ (in_switch ω) at items 0)
      ∙ ap (λ (ys : List Instr). before ++ (kind ++ (cases_code ς at κ items 0
      ++ (stacks at stack.Pop ∷ (jumps at (jump.GoOn (before_default ς κ items)) ∷ ys)))))
      (body_is κ (in_switch ω) items)

  -- ---- loops

  pub while_is : (κ : Standing) (ω : Ways) (at : Place) (test : Expr) (s : Statement)
      → let body = statement_code ς κ (in_loop 0 ω) s in
      loop_code at (value_code ς κ.strict test) body [] (length body) ≡ kind_code ς κ ω at (While test s)
  while_is κ ω at test s =
      ap (loop_code at (value_code ς κ.strict test) (statement_code ς κ (in_loop 0 ω) s) [])
      (statement_long ς s κ (in_loop 0 ω))

  pub do_is : (κ : Standing) (ω : Ways) (at : Place) (test : Expr) (s : Statement)
      → do_code ς κ.strict at test (statement_code ς κ (in_loop 0 ω) s) ≡ kind_code ς κ ω at (DoWhile s test)
  do_is κ ω at test s =
      ap (λ (n : ℕ). jumps at (jump.GoOn (1 + length (value_code ς κ.strict test) + 1))
      ∷ loop_code at (value_code ς κ.strict test) (statement_code ς κ (in_loop 0 ω) s) [] n)
      (statement_long ς s κ (in_loop 0 ω))

  headed : (κ : Standing) (at : Place) (head : Head) (body step : List Instr) (m n : ℕ) → m ≡ n
      → block_code at κ.count (shapes_of (running_of ς) head.objects)
      (first_code ς κ.strict head ++ loop_code at (test_code ς at κ.strict head.test) body step m)
      ≡ block_code at κ.count (shapes_of (running_of ς) head.objects)
      (first_code ς κ.strict head ++ loop_code at (test_code ς at κ.strict head.test) body step n)
  headed κ at head body step m n e =
      ap (λ (k : ℕ). block_code at κ.count (shapes_of (running_of ς) head.objects)
      (first_code ς κ.strict head ++ loop_code at (test_code ς at κ.strict head.test) body step k)) e

  pub for_is : (κ : Standing) (ω : Ways) (at : Place) (head : Head) (s : Statement)
      → let step = aside_code ς κ.strict head.step in
      headed_code ς κ at head
      (statement_code ς (with_objects head.objects κ) (in_loop (length step) (all_inner ω)) s) step
      ≡ kind_code ς κ ω at (For head s)
  for_is κ ω at head s =
      let step = aside_code ς κ.strict head.step in
      let η = with_objects head.objects κ in
      let ω' = in_loop (length step) (all_inner ω) in
      headed κ at head (statement_code ς η ω' s) step _ _ (statement_long ς s η ω')

  pub forall_is : (κ : Standing) (ω : Ways) (at : Place) (head : Head) (whose : Affinity) (s : Statement)
      → forall_code ς κ at head whose (statement_code ς (with_objects head.objects κ) (in_forall (all_inner ω)) s)
      ≡ kind_code ς κ ω at (Forall head whose s)
  forall_is κ ω at head whose s =
      let step = aside_code ς κ.strict head.step in
      let η = with_objects head.objects κ in
      let body = statement_code ς η (in_forall (all_inner ω)) s in
      let long = statement_long ς s η (in_forall (all_inner ω)) in
      ap (λ (n : ℕ). headed_code ς κ at head (guard_code ς at κ.strict whose body n) step) long
      ∙ headed κ at head (guard_code ς at κ.strict whose body (size ς η s)) step _ _
      (guard_long ς at κ.strict whose body (size ς η s) long)

  -- ---- parts that are given by equations

  pub within_whole : (κ η : Standing) (ω : Ways) (at : Place) (strict : Bool) (xs ys : List m.Item)
      → η ≡ with_strict strict κ → xs ≡ ys
      → within_code ς η ω at (view_items xs) ≡ kind_code ς κ ω at (Block strict (view_items ys))
  within_whole κ η ω at strict xs ys e h =
      ap (λ (θ : Standing). within_code ς θ ω at (view_items xs)) e
      ∙ ap (λ (zs : List m.Item). within_code ς (with_strict strict κ) ω at (view_items zs)) h

  pub if_whole : (κ : Standing) (ω : Ways) (at : Place) (xs ys : List r.Arm) (last : StatementOption)
      (code : List Instr)
      → code ≡ last_code ς κ ω last → xs ≡ ys
      → arms_code ς κ ω at (view_arms xs) code (length code) ≡ kind_code ς κ ω at (If (view_arms ys) last)
  if_whole κ ω at xs ys last code e h =
      ap (λ (l : List Instr). arms_code ς κ ω at (view_arms xs) l (length l)) e
      ∙ if_is κ ω at (view_arms xs) last
      ∙ ap (λ (zs : List r.Arm). kind_code ς κ ω at (If (view_arms zs) last)) h

  pub arm_whole : (κ : Standing) (ω ω' : Ways) (at : Place) (test : Expr) (s : Statement) (m n : ℕ)
      (body old : List Instr)
      → m ≡ length old → n ≡ 1 + m → ω' ≡ all_past n ω → body ≡ statement_code ς κ ω' s
      → arm_code at (value_code ς κ.strict test) body (length body) old (length old)
      ≡ one_arm κ ω at test s old (length old)
  arm_whole κ ω ω' at test s m n body old em en ew eb =
      let far = all_past (1 + length old) ω in
      let e = eb ∙ ap (λ (w : Ways). statement_code ς κ w s)
      (ew ∙ ap (λ (k : ℕ). all_past k ω) (en ∙ ap (λ (k : ℕ). 1 + k) em)) in
      ap (λ (l : List Instr). arm_code at (value_code ς κ.strict test) l (length l) old (length old)) e
      ∙ ap (λ (k : ℕ). arm_code at (value_code ς κ.strict test) (statement_code ς κ far s) k old (length old))
      (statement_long ς s κ far)

  pub switch_whole : (κ : Standing) (ω ω' : Ways) (at : Place) (e : Expr) (items : SwitchItems) (body : Labelled)
      → ω' ≡ in_switch ω → body ≡ labelled_of ς κ ω' items
      → labelled_code ς κ.strict at e body ≡ kind_code ς κ ω at (Switch e items)
  switch_whole κ ω ω' at e items body ew eb =
      ap (labelled_code ς κ.strict at e) (eb ∙ ap (λ (w : Ways). labelled_of ς κ w items) ew)
      ∙ switch_is κ ω at e items

  pub while_whole : (κ : Standing) (ω ω' : Ways) (at : Place) (test : Expr) (s : Statement) (body : List Instr)
      → ω' ≡ in_loop 0 ω → body ≡ statement_code ς κ ω' s
      → loop_code at (value_code ς κ.strict test) body [] (length body) ≡ kind_code ς κ ω at (While test s)
  while_whole κ ω ω' at test s body ew eb =
      ap (λ (l : List Instr). loop_code at (value_code ς κ.strict test) l [] (length l))
      (eb ∙ ap (λ (w : Ways). statement_code ς κ w s) ew)
      ∙ while_is κ ω at test s

  pub do_whole : (κ : Standing) (ω ω' : Ways) (at : Place) (test : Expr) (s : Statement) (body : List Instr)
      → ω' ≡ in_loop 0 ω → body ≡ statement_code ς κ ω' s
      → do_code ς κ.strict at test body ≡ kind_code ς κ ω at (DoWhile s test)
  do_whole κ ω ω' at test s body ew eb =
      ap (do_code ς κ.strict at test) (eb ∙ ap (λ (w : Ways). statement_code ς κ w s) ew) ∙ do_is κ ω at test s

  pub for_whole : (κ η : Standing) (ω ω' ω'' : Ways) (at : Place) (head : Head) (s : Statement) (n : ℕ)
      (step body : List Instr)
      → step ≡ aside_code ς κ.strict head.step → η ≡ with_objects head.objects κ → ω' ≡ all_inner ω
      → n ≡ length step → ω'' ≡ in_loop n ω' → body ≡ statement_code ς η ω'' s
      → headed_code ς κ at head body step ≡ kind_code ς κ ω at (For head s)
  for_whole κ η ω ω' ω'' at head s n step body es eη ew en ew' eb =
      let θ = with_objects head.objects κ in
      ap (λ (l : List Instr). headed_code ς κ at head l step)
      (eb ∙ ap (λ (k : Standing). statement_code ς k ω'' s) eη
      ∙ ap (λ (w : Ways). statement_code ς θ w s)
      (ew' ∙ ap (λ (w : Ways). in_loop n w) ew ∙ ap (λ (k : ℕ). in_loop k (all_inner ω)) en))
      ∙ ap (λ (l : List Instr). headed_code ς κ at head (statement_code ς θ (in_loop (length l) (all_inner ω)) s) l) es
      ∙ for_is κ ω at head s

  pub forall_whole : (κ η : Standing) (ω ω' ω'' : Ways) (at : Place) (head : Head) (whose : Affinity) (s : Statement)
      (body : List Instr)
      → η ≡ with_objects head.objects κ → ω' ≡ all_inner ω → ω'' ≡ in_forall ω' → body ≡ statement_code ς η ω'' s
      → forall_code ς κ at head whose body ≡ kind_code ς κ ω at (Forall head whose s)
  forall_whole κ η ω ω' ω'' at head whose s body eη ew ew' eb =
      ap (forall_code ς κ at head whose)
      (eb ∙ ap (λ (k : Standing). statement_code ς k ω'' s) eη
      ∙ ap (λ (w : Ways). statement_code ς (with_objects head.objects κ) w s) (ew' ∙ ap in_forall ew))
      ∙ forall_is κ ω at head whose s

  -- ---- functions

  pub opened_whole : (f : Function) (at : Place) (strict : Bool) (items : Items) (κ : Standing) (ω : Ways)
      (old first second new body : List Instr)
      → first ≡ old ++ opening_code ς f at items → κ ≡ in_body (running_of ς) f strict → ω ≡ in_function 1
      → body ≡ items_code ς κ ω items → second ≡ first ++ body → new ≡ second ++ (leaves at ∷ [])
      → new ≡ old ++ opened_code ς f at strict items
  opened_whole f at strict items κ ω old first second new body e₁ eκ eω eb e₂ e₃ =
      let opening = opening_code ς f at items in
      let last = leaves at ∷ [] in
      e₃
      ∙ ap (λ (l : List Instr). l ++ last) (e₂ ∙ ap (λ (l : List Instr). l ++ body) e₁)
      ∙ append_assoc (old ++ opening) body last
      ∙ append_assoc old opening (body ++ last)
      ∙ ap (λ (l : List Instr). old ++ (opening ++ (l ++ last)))
      (eb ∙ ap (λ (k : Standing). items_code ς k ω items) eκ
      ∙ ap (λ (w : Ways). items_code ς (in_body (running_of ς) f strict) w items) eω)

  pub plain_whole : (f : Function) (at : Place) (s : Statement) (κ : Standing) (ω : Ways)
      (old first new : List Instr) (cells : List (Option CellAccess))
      → cells ≡ [] → first ≡ old ++ (receives at cells ∷ []) → κ ≡ in_body (running_of ς) f false → ω ≡ in_function 0
      → new ≡ first ++ statement_code ς κ ω s
      → new ≡ old ++ (receives at [] ∷ statement_code ς (in_body (running_of ς) f false) (in_function 0) s)
  plain_whole f at s κ ω old first new cells e₀ e₁ eκ eω e₂ =
      e₂
      ∙ ap (λ (l : List Instr). l ++ statement_code ς κ ω s) e₁
      ∙ append_assoc old (receives at cells ∷ []) (statement_code ς κ ω s)
      ∙ ap (λ (xs : List (Option CellAccess)). old ++ (receives at xs ∷ statement_code ς κ ω s)) e₀
      ∙ ap (λ (k : Standing). old ++ (receives at [] ∷ statement_code ς k ω s)) eκ
      ∙ ap (λ (w : Ways). old ++ (receives at [] ∷ statement_code ς (in_body (running_of ς) f false) w s)) eω

  pub entry_whole : (at : Place) (n : ℕ) (a b d new : List Instr)
      → at ≡ main_place (running_of ς) (main_of ς.functions) → n ≡ main_number ς.functions + 1
      → a ≡ barrier_code at Start → b ≡ a ++ (begins at n ∷ []) → d ≡ b ++ barrier_code at Finish
      → new ≡ d ++ (quits at ∷ []) → new ≡ entry_code ς
  entry_whole at n a b d new ea en e₁ e₂ e₃ e₄ =
      let whole : Place → ℕ → List Instr = λ p m. barrier_code p Start
      ++ (begins p m ∷ (barrier_code p Finish ++ (quits p ∷ []))) in
      let one : main_number ς.functions + 1 ≡ suc (main_number ς.functions) = omega arith in
      e₄
      ∙ ap (λ (l : List Instr). l ++ (quits at ∷ []))
      (e₃ ∙ ap (λ (l : List Instr). l ++ barrier_code at Finish)
      (e₂ ∙ ap (λ (l : List Instr). l ++ (begins at n ∷ [])) e₁))
      ∙ ap (whole at) (en ∙ one)
      ∙ ap (λ (p : Place). whole p (suc (main_number ς.functions))) ea
