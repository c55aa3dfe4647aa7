-- The code of functions, of calls and of whole threads does what they do.
use Rattle.std.proofs.Common.{◌≡◌, ℕ, zero, suc, ◌+◌, ◌<◌, ℤ, Bool, true, false, List, [], ◌∷◌, ◌++◌, length, map}
use Rattle.std.proofs.Common.{Option, Some, None, option_map, refl, sym, ap, ◌∙◌, subst, arith, append_assoc}
use Rattle.std.proofs.Common.{length-append, take, drop, reverse, find}
use Rattle.std.specs.Prelude.{slice_get, cond}
use Rattle.std.proofs.Math.Seq.{get_or-append_seam, take-append_seam, drop-append_seam}
use Rattle.std.proofs.lemmas.List.{length-reverse, reverse-reverse, reverse-append}
use Rattle.std.proofs.lemmas.Option.{slice_get-get_or, slice_get-map}
use Rattle.upc_text.specs.declared.place.Place.{Place}
use Rattle.block_layout.specs.declared.kind.Kind.{Kind}
use Rattle.block_layout.specs.declared.kind.Kind.TheVariants as kind
use Rattle.integers.specs.Integers.{converted}
use Rattle.upc_values.specs.declared.scalar.Value.{Value}
use Rattle.upc_values.specs.declared.scalar.Mark.TheVariants.{Start, Finish}
use Rattle.upc_values.specs.declared.action.Reply.{Reply}
use Rattle.upc_values.specs.declared.record.ToldEnd.TheVariants.{Ended}
use Rattle.upc_types.specs.Types.{CType}
use Rattle.typed_tree.specs.Tree.{Statement, Stands, Block, If, Switch, While, DoWhile, For, Forall, Break, Continue}
use Rattle.typed_tree.specs.Tree.{Return, Synchronise, Fence, Items, Function}
use Rattle.typed_tree.specs.Tree as tree
use Rattle.typed_tree.specs.Programs.{Checked}
use Rattle.thread_steps.specs.States.{Thread, State, Res, Val, Over, Unfinished, bind, ◌>>=◌, ◌>>◌, give}
use Rattle.thread_steps.proofs.Thens.{then_same}
use Rattle.thread_steps.specs.Values.{number_of}
use Rattle.thread_steps.specs.Actions.{tick, notify, wait}
use Rattle.thread_steps.specs.Blocks.{open_block, close_block, local_object, begin_call, end_call}
use Rattle.source_meaning.specs.Types.{cell_kind}
use Rattle.source_meaning.specs.layer.Parts.{given_by, is_main, saved, opened, shapes_in}
use Rattle.source_meaning.specs.Running.{Running, running}
use Rattle.source_meaning.specs.Expressions.{Calls, no_value, put}
use Rattle.source_meaning.specs.Statements.{Flow, Next, Broke, Again, Gave, run, run_items}
use Rattle.source_meaning.specs.Threads.{main_of, in_body, body, function, called, most_calls, main_place}
use Rattle.source_meaning.specs.Threads.{main_called, course, initial_state, outcome_of, thread_outcome, blank_of}
use Rattle.source_meaning.specs.Threads as source
use Rattle.source_meaning.specs.Laws.{IsFinished}
use Rattle.source_meaning.proofs.Finished.{is_total}
use Rattle.stack_code.specs.declared.instruction.Instr.{Instr}
use Rattle.stack_code.specs.layer.Codes.{instructions_of, function_at}
use Rattle.stack_code.specs.layer.Steps.{Spot, Conf, At, Halt, conf_of, further, given_back, begun, act, youngest, kept_in}
use Rattle.stack_code.specs.layer.Steps as machine
use Rattle.stack_code.specs.layer.Outcomes.{HasEnded, CodeMeans}
use Rattle.stack_code.specs.layer.Meets.{HasAt, Leads, Meets, piled, value_at}
use Rattle.stack_code.proofs.Ends.{one_outcome}
use Rattle.stack_code.proofs.Meetings.{has_front, has_back, has_past, leads_on, stays, one_step, after, then_meets}
use Rattle.stack_code.proofs.Meetings.{same_step, here, fetched}
use Rattle.gen_expr.specs.layer.Sources.{Source, source_of, running_of}
use Rattle.gen_expr.specs.layer.Codes.{pushes}
use Rattle.gen_expr.specs.layer.Meanings.{CallsMeet, ExpressionsAreMeant, EffectsAreMeant}
use Rattle.gen_stmt.specs.layer.Ways.{in_function}
use Rattle.gen_stmt.specs.layer.Codes.{gives_back, leaves, enters, items_size, size, items_code, statement_code}
use Rattle.gen_stmt.specs.layer.Programs.{access_of, receives, parameter_access, opened_code, body_code, function_code}
use Rattle.gen_stmt.specs.layer.Programs.{counted, main_number, functions_code, program_code}
use Rattle.gen_stmt.specs.layer.Meanings.{MeansProgram}
use Rattle.gen_stmt.proofs.Lengths.{items_long, statement_long}
use Rattle.gen_stmt.proofs.Runs.{AllMeant, ways_at, conf_meets, flow_at, closes, items_run, statement_runs}

-- Code stands at its own begin.
has_all : (is before : List Instr) → HasAt (before ++ is) (length before) is
has_all [] before = tt
has_all (i ∷ is) before =
    let within : length before < length (before ++ i ∷ is) = omega (arith, length-append before (i ∷ is)) in
    let first = slice_get-get_or (before ++ i ∷ is) (length before) i within
    ∙ ap Some (get_or-append_seam before i is i) in
    let n : length (before ++ i ∷ []) ≡ length before + 1 = omega (arith, length-append before (i ∷ [])) in
    let others = subst (λ l. HasAt l (length (before ++ i ∷ [])) is) (append_assoc before (i ∷ []) is)
    (has_all is (before ++ i ∷ [])) in
    (first, subst (λ m. HasAt (before ++ i ∷ is) m is) n others)

-- ---- arguments

piled_is : (vs ops : List Value) → piled vs ops ≡ reverse vs ++ ops
piled_is [] ops = refl
piled_is (v ∷ vs) ops =
    piled_is vs (v ∷ ops) ∙ sym (append_assoc (reverse vs) (v ∷ []) ops)
    ∙ ap (λ l. l ++ ops) (sym (reverse-append (v ∷ []) vs))

taken : (vs ops : List Value) → youngest (length vs) (piled vs ops) ≡ vs
taken vs ops =
    ap (λ l. reverse (take (length vs) l)) (piled_is vs ops)
    ∙ ap (λ n. reverse (take n (reverse vs ++ ops))) (sym (length-reverse vs))
    ∙ ap reverse (take-append_seam (reverse vs) ops) ∙ reverse-reverse vs

dropped : (vs ops : List Value) → drop (length vs) (piled vs ops) ≡ ops
dropped vs ops =
    ap (drop (length vs)) (piled_is vs ops) ∙ ap (λ n. drop n (reverse vs ++ ops)) (sym (length-reverse vs))
    ∙ drop-append_seam (reverse vs) ops

-- The parameters get the same values.
module _ (ρ : Running) where
  kept_same : (t : CType) (k : Option Kind) (at : Place) (p v : Value) (σ : State)
      → kept_in ρ.thread (access_of t k) at p v σ ≡ saved ρ false at t p v k σ
  kept_same t (Some k) at p v σ = refl
  kept_same t None at p v σ = refl

  received_same : (ts : List CType) (vs : List Value) (i : ℕ) (at : Place) (σ : State)
      → machine.received ρ.thread at i (map (parameter_access (source_of ρ)) ts) vs σ
      ≡ source.received ρ at i ts vs σ
  received_same [] vs i at σ = refl
  received_same (t ∷ ts) [] i at σ = refl
  received_same (t ∷ ts) (v ∷ vs) i at σ =
      then_same (local_object i σ) _ _ (λ p τ.
      ap (λ r. bind r (λ _. machine.received ρ.thread at (i + 1) (map (parameter_access (source_of ρ)) ts) vs))
      (kept_same t (cell_kind ρ.structs t) at p v τ)
      ∙ then_same (put ρ false at t p v τ) _ _ (λ _ υ. received_same ts vs (i + 1) at υ))

-- A function, inside a call that leads back.
module _ (ρ : Running) (fs : List (List Instr)) (calling : Calls) (values : AllMeant ρ fs calling) (fn : ℕ)
    (back : Spot) (calls : List Spot) where
  abbrev θ : Thread
  θ = ρ.thread

  abbrev ς : Source
  ς = source_of ρ

  abbrev code : List Instr
  code = function_at fs fn

  -- At a place of the function.
  abbrev at_ : ℕ → List Value → State → Conf
  at_ pc ops σ = At (record { function = fn; place = pc }) [] ops (back ∷ calls) σ

  -- The same before the arguments are received.
  abbrev given_at : ℕ → (given ops : List Value) → State → Conf
  given_at pc given ops σ = At (record { function = fn; place = pc }) given ops (back ∷ calls) σ

  -- Where the body of the function is left, all of whose ways lead to its end.
  abbrev ended : List Value → ℕ → Flow → State → Conf
  ended ops out f σ = flow_at ρ fs calling values fn back calls ops out (ways_at (in_function 0) out out) f σ

  abbrev in_block : List Value → ℕ → Flow → State → Conf
  in_block ops out f σ = flow_at ρ fs calling values fn back calls ops out (ways_at (in_function 1) out out) f σ

  fetch_given : (pc : ℕ) (given ops : List Value) (σ : State) (i : Instr) → slice_get code pc ≡ Some i
      → machine.step θ fs (given_at pc given ops σ)
      ≡ act θ (Some i) (record { function = fn; place = pc }) given ops (back ∷ calls) σ
  fetch_given pc given ops σ i h = fetched θ fs (record { function = fn; place = pc }) given ops (back ∷ calls) σ i h

  -- The end of the function's block.
  left : (ops : List Value) (end : ℕ) (at : Place) (f : Flow) (σ : State) → slice_get code end ≡ Some (leaves at)
      → Meets θ fs Flow (in_block ops end f σ) (ended ops (end + 1)) (bind (close_block σ) (λ _. give f))
  left ops end at f σ h = by_flow f
    where
      leaving : (f : Flow) → ((τ : State) → at_ (end + 1) ops τ ≡ ended ops (end + 1) f τ)
          → Meets θ fs Flow (at_ end ops σ) (ended ops (end + 1)) (bind (close_block σ) (λ _. give f))
      leaving f same =
          then_meets θ fs (Unit {0}) Flow _ (λ _ τ. at_ (end + 1) ops τ) (ended ops (end + 1)) (close_block σ)
          (λ _. give f)
          (same_step θ fs (Unit {0}) _ _ (close_block σ) (fetch_given end [] ops σ (leaves at) h))
          (λ _ τ. record {
            by = subst (λ c. Leads θ fs (at_ (end + 1) ops τ) c) (same τ) (stays θ fs (at_ (end + 1) ops τ));
          })

      by_flow : (f : Flow)
          → Meets θ fs Flow (in_block ops end f σ) (ended ops (end + 1)) (bind (close_block σ) (λ _. give f))
      by_flow Next = leaving Next (λ τ. refl)
      by_flow Broke = leaving Broke (λ τ. refl)
      by_flow Again = leaving Again (λ τ. refl)
      by_flow (Gave v) =
          closes ρ fs calling values fn back calls 0 (given_back v ops (back ∷ calls)) (Gave v)
          (ended ops (end + 1)) σ (λ τ. refl)

  opened_runs : (f : Function) (at : Place) (strict : Bool) (items : Items) (tail : List Instr)
      (args ops : List Value) (σ : State) → HasAt code 0 (opened_code ς f at strict items ++ tail)
      → Meets θ fs Flow (given_at 0 args ops σ) (ended ops (length (opened_code ς f at strict items)))
      (opened ρ calling f args at strict items σ)
  opened_runs f at strict items tail args ops σ has =
      let κ = in_body ρ f strict in
      let ci = items_code ς κ (in_function 1) items in
      let n = items_size ς κ items in
      let long = items_long ς items κ (in_function 1) in
      let front = has_front code 0 (opened_code ς f at strict items) tail has in
      let end : HasAt code (0 + 1 + 1 + n) (leaves at ∷ []) = has_past code (0 + 1 + 1) n ci (leaves at ∷ []) long
      front.1.1 in
      let out : 0 + 1 + 1 + n + 1 ≡ length (opened_code ς f at strict items) =
      omega (arith, length-append ci (leaves at ∷ [])) in
      let opens = open_block 0 (shapes_in ρ f items) at in
      let cells = map (parameter_access ς) f.parameters in
      subst (λ q. Meets θ fs Flow (given_at 0 args ops σ) (ended ops q) (opened ρ calling f args at strict items σ)) out
      (then_meets θ fs (Unit {0}) Flow _ (λ _ τ. given_at (0 + 1) args ops τ) _ (opens σ) _
      (same_step θ fs (Unit {0}) _ _ (opens σ) (fetch_given 0 args ops σ (enters at 0 (shapes_in ρ f items)) front.0))
      (λ _ τ.
      then_meets θ fs (Unit {0}) Flow _ (λ _ υ. at_ (0 + 1 + 1) ops υ) _ (source.received ρ at 0 f.parameters args τ) _
      (same_step θ fs (Unit {0}) _ _ (source.received ρ at 0 f.parameters args τ)
      (fetch_given (0 + 1) args ops τ (receives at cells) front.1.0
      ∙ ap (λ r. conf_of r (λ _ υ. at_ (0 + 1 + 1) ops υ)) (received_same ρ f.parameters args 0 at τ)))
      (λ _ υ.
      then_meets θ fs Flow Flow _ (in_block ops (0 + 1 + 1 + n)) _ (run_items ρ calling κ items υ) _
      (items_run ρ fs calling values fn back calls items κ (in_function 1) (0 + 1 + 1) (0 + 1 + 1 + n) (0 + 1 + 1 + n)
      (0 + 1 + 1 + n) ops υ refl (omega arith) (omega arith)
      (has_front code (0 + 1 + 1) ci (leaves at ∷ []) front.1.1))
      (λ flow φ. left ops (0 + 1 + 1 + n) at flow φ end.0))))

  -- A body that is no block.
  plain_runs : (f : Function) (s : Statement) (tail : List Instr) (args ops : List Value) (σ : State)
      → HasAt code 0 ((receives f.at [] ∷ statement_code ς (in_body ρ f false) (in_function 0) s) ++ tail)
      → Meets θ fs Flow (given_at 0 args ops σ)
      (ended ops (length (receives f.at [] ∷ statement_code ς (in_body ρ f false) (in_function 0) s)))
      (run ρ calling (in_body ρ f false) s σ)
  plain_runs f s tail args ops σ has =
      let κ = in_body ρ f false in
      let cs = statement_code ς κ (in_function 0) s in
      let n = size ς κ s in
      let long = statement_long ς s κ (in_function 0) in
      let out : 0 + 1 + n ≡ length (receives f.at [] ∷ cs) = omega arith in
      subst (λ q. Meets θ fs Flow (given_at 0 args ops σ) (ended ops q) (run ρ calling κ s σ)) out
      (after θ fs Flow _ (at_ (0 + 1) ops σ) _ (run ρ calling κ s σ)
      (one_step θ fs _ _ (fetch_given 0 args ops σ (receives f.at []) has.0))
      (statement_runs ρ fs calling values fn back calls s κ (in_function 0) (0 + 1) (0 + 1 + n) (0 + 1 + n) (0 + 1 + n)
      ops σ refl (omega arith) (omega arith) (has_front code (0 + 1) cs tail has.1)))

  body_runs : (f : Function) (s : Statement) (tail : List Instr) (args ops : List Value) (σ : State)
      → HasAt code 0 (body_code ς f s ++ tail)
      → Meets θ fs Flow (given_at 0 args ops σ) (ended ops (length (body_code ς f s))) (body ρ calling f args s σ)
  body_runs f (Stands at (Block strict items)) tail args ops σ has =
      opened_runs f at strict items tail args ops σ has
  body_runs f (Stands at (tree.Value e)) tail args ops σ has =
      plain_runs f (Stands at (tree.Value e)) tail args ops σ has
  body_runs f (Stands at (If arms last)) tail args ops σ has =
      plain_runs f (Stands at (If arms last)) tail args ops σ has
  body_runs f (Stands at (Switch e items)) tail args ops σ has =
      plain_runs f (Stands at (Switch e items)) tail args ops σ has
  body_runs f (Stands at (While test s)) tail args ops σ has =
      plain_runs f (Stands at (While test s)) tail args ops σ has
  body_runs f (Stands at (DoWhile s test)) tail args ops σ has =
      plain_runs f (Stands at (DoWhile s test)) tail args ops σ has
  body_runs f (Stands at (For head s)) tail args ops σ has =
      plain_runs f (Stands at (For head s)) tail args ops σ has
  body_runs f (Stands at (Forall head whose s)) tail args ops σ has =
      plain_runs f (Stands at (Forall head whose s)) tail args ops σ has
  body_runs f (Stands at Break) tail args ops σ has = plain_runs f (Stands at Break) tail args ops σ has
  body_runs f (Stands at Continue) tail args ops σ has = plain_runs f (Stands at Continue) tail args ops σ has
  body_runs f (Stands at (Return e)) tail args ops σ has = plain_runs f (Stands at (Return e)) tail args ops σ has
  body_runs f (Stands at (Synchronise how e)) tail args ops σ has =
      plain_runs f (Stands at (Synchronise how e)) tail args ops σ has
  body_runs f (Stands at Fence) tail args ops σ has = plain_runs f (Stands at Fence) tail args ops σ has

  -- After its body a function gives a value.
  gives : (end : ℕ) (ops : List Value) (blank : Value) (at : Place) (f : Flow) (σ : State)
      → HasAt code end (pushes at blank ∷ (gives_back at 0 ∷ []))
      → Leads θ fs (ended ops end f σ) (given_back (given_by blank f) ops (back ∷ calls) σ)
  gives end ops blank at f σ has = by_flow f
      (leads_on θ fs _ (at_ (end + 1) (blank ∷ ops) σ) _
      (one_step θ fs _ _ (fetch_given end [] ops σ (pushes at blank) has.0))
      (one_step θ fs _ _ (fetch_given (end + 1) [] (blank ∷ ops) σ (gives_back at 0) has.1.0)))
    where
      by_flow : (f : Flow) → Leads θ fs (at_ end ops σ) (given_back blank ops (back ∷ calls) σ)
          → Leads θ fs (ended ops end f σ) (given_back (given_by blank f) ops (back ∷ calls) σ)
      by_flow Next l = l
      by_flow Broke l = l
      by_flow Again l = l
      by_flow (Gave v) l = stays θ fs (given_back v ops (back ∷ calls) σ)

  function_runs : (o : Option Function) → code ≡ instructions_of (option_map (function_code ς) o)
      → (args ops : List Value) (σ : State)
      → Meets θ fs Value (given_at 0 args ops σ) (λ v τ. given_back v ops (back ∷ calls) τ)
      (function ρ calling o args σ)
  function_runs None is args ops σ =
      let past : slice_get code 0 ≡ None = ap (λ c. slice_get c 0) is in
      record {
        by = one_step θ fs _ (given_back no_value ops (back ∷ calls) σ)
            (ap (λ o. act θ o (record { function = fn; place = 0 }) args ops (back ∷ calls) σ) past);
      }
  function_runs (Some f) is args ops σ =
      let blank = blank_of (cell_kind ρ.structs f.result) in
      let tail = pushes f.at blank ∷ (gives_back f.at 0 ∷ []) in
      let cb = body_code ς f f.body in
      let has : HasAt code 0 (cb ++ tail) = subst (λ c. HasAt c 0 (cb ++ tail)) (sym is) (has_all (cb ++ tail) []) in
      let end : HasAt code (length cb) tail =
      subst (λ q. HasAt code q tail) (omega arith) (has_back code 0 cb tail has) in
      then_meets θ fs Flow Value _ (ended ops (length cb)) _ (body ρ calling f args f.body σ) _
      (body_runs f f.body tail args ops σ has)
      (λ flow τ. record { by = gives (length cb) ops blank f.at flow τ end })

-- ---- calls, by how many may still become active
module _ (meant : ExpressionsAreMeant × EffectsAreMeant) (ρ : Running) where
  abbrev functions : List (List Instr)
  functions = functions_code (source_of ρ)

  -- Where the code of a function stands.
  function_is : (n : ℕ)
      → function_at functions (suc n)
      ≡ instructions_of (option_map (function_code (source_of ρ)) (slice_get ρ.functions n))
  function_is n = ap instructions_of (slice_get-map (function_code (source_of ρ)) ρ.functions n)

  -- A function that begins and gives a value back.
  entered : (calling : Calls) → CallsMeet ρ functions calling → (o : Option Function) (fn : ℕ)
      → function_at functions fn ≡ instructions_of (option_map (function_code (source_of ρ)) o)
      → (at : Place) (back : Spot) (args ops : List Value) (calls : List Spot) (σ : State)
      → Meets ρ.thread functions Value (begun fn at args ops (back ∷ calls) σ) (value_at back ops calls)
      ((begin_call at >> (function ρ calling o args >>= (λ v. end_call >> give v))) σ)
  entered calling meets o fn is at back args ops calls σ =
      let θ = ρ.thread in
      let values : AllMeant ρ functions calling = λ strict e. (
        meant.0 ρ functions calling strict e meets,
        meant.1 ρ functions calling strict e meets,
      ) in
      let go = value_at back ops calls in
      then_meets θ functions (Unit {0}) Value _
      (λ _ τ. At (record { function = fn; place = 0 }) args ops (back ∷ calls) τ) go (begin_call at σ) _
      (conf_meets θ functions (Unit {0}) (λ _ τ. At (record { function = fn; place = 0 }) args ops (back ∷ calls) τ)
      (begin_call at σ)) (λ _ τ.
      then_meets θ functions Value Value _ (λ v υ. given_back v ops (back ∷ calls) υ) go
      (function ρ calling o args τ) _
      (function_runs ρ functions calling values fn back calls o is args ops τ) (λ v υ.
      then_meets θ functions (Unit {0}) Value _ (λ _ φ. At back [] (v ∷ ops) calls φ) go (end_call υ) _
      (conf_meets θ functions (Unit {0}) (λ _ φ. At back [] (v ∷ ops) calls φ) (end_call υ))
      (λ _ φ. here θ functions Value go v φ)))

  pub called_meets : (n : ℕ) → CallsMeet ρ functions (called ρ n)
  called_meets zero f vs at here_ ops calls σ h = record { by = tt }
  called_meets (suc n) f vs at here_ ops calls σ h =
      let θ = ρ.thread in
      let back = further 1 here_ in
      let go = value_at back ops calls in
      let given = youngest (length vs) (piled vs ops) in
      let below = drop (length vs) (piled vs ops) in
      let does = begin_call at
      >> (function ρ (called ρ n) (slice_get ρ.functions f) vs >>= (λ v. end_call >> give v)) in
      then_meets θ functions (Unit {0}) Value _ (λ _ τ. begun (suc f) at given below (back ∷ calls) τ) go
      (tick θ σ) _
      (same_step θ functions (Unit {0}) _ _ (tick θ σ) (fetched θ functions here_ [] (piled vs ops) calls σ _ h))
      (λ _ τ.
      subst (λ l. Meets θ functions Value (begun (suc f) at l below (back ∷ calls) τ) go (does τ))
      (sym (taken vs ops))
      (subst (λ l. Meets θ functions Value (begun (suc f) at vs l (back ∷ calls) τ) go (does τ))
      (sym (dropped vs ops))
      (entered (called ρ n) (called_meets n) (slice_get ρ.functions f) (suc f) (function_is f) at back vs
      ops calls τ)))

  -- ---- threads

  -- Where main stands.
  main_is : (fs : List Function) → slice_get fs (main_number fs) ≡ main_of fs
  main_is [] = refl
  main_is (f ∷ fs) = by_name (is_main f) (main_is fs)
    where
      by_name : (b : Bool) → slice_get fs (main_number fs) ≡ main_of fs
          → slice_get (f ∷ fs) (counted b (main_number fs)) ≡ cond b (Some f) (find is_main fs)
      by_name true e = refl
      by_name false e = e

  -- The place of main does not depend on the thread.
  same_place : (main : Option Function) → main_place (running_of (source_of ρ)) main ≡ main_place ρ main
  same_place None = refl
  same_place (Some f) = refl

  main_runs : (σ : State)
      → Meets ρ.thread functions Value (At (record { function = 0; place = 2 }) [] [] [] σ)
      (value_at (record { function = 0; place = 3 }) [] []) (main_called ρ (main_of ρ.functions) σ)
  main_runs σ =
      let θ = ρ.thread in
      let n = main_number ρ.functions in
      let main = main_of ρ.functions in
      let at = main_place ρ main in
      let back : Spot = record { function = 0; place = 3 } in
      let is = function_is n ∙ ap (λ o. instructions_of (option_map (function_code (source_of ρ)) o))
      (main_is ρ.functions) in
      let start : Conf = At (record { function = 0; place = 2 }) [] [] [] σ in
      let m = entered (called ρ (most_calls ρ)) (called_meets (most_calls ρ)) main (suc n) is at back [] [] [] σ in
      after θ functions Value start (begun (suc n) at [] [] (back ∷ []) σ) (value_at back [] []) _
      (one_step θ functions start (begun (suc n) at [] [] (back ∷ []) σ)
      (ap (λ p. begun (suc n) p [] [] (back ∷ []) σ) (same_place main))) m

  course_runs : (σ : State)
      → Meets ρ.thread functions ℤ (At (record { function = 0; place = 0 }) [] [] [] σ) (λ v τ. Halt (Ended v) τ)
      (course ρ σ)
  course_runs σ =
      let θ = ρ.thread in
      let main = main_of ρ.functions in
      let at = main_place ρ main in
      let go = λ (v : ℤ) (τ : State). Halt (Ended v) τ in
      let spot = λ (pc : ℕ) (ops : List Value) (τ : State). At (record { function = 0; place = pc }) [] ops [] τ in
      then_meets θ functions (Unit {0}) ℤ _ (λ _ τ. spot 1 [] τ) go (notify θ at Start σ) _
      (same_step θ functions (Unit {0}) (spot 0 [] σ) _ (notify θ at Start σ)
      (ap (λ p. conf_of (notify θ p Start σ) (λ _ υ. spot 1 [] υ)) (same_place main))) (λ _ τ.
      then_meets θ functions (Unit {0}) ℤ _ (λ _ υ. spot 2 [] υ) go (wait θ at Start τ) _
      (same_step θ functions (Unit {0}) (spot 1 [] τ) _ (wait θ at Start τ)
      (ap (λ p. conf_of (wait θ p Start τ) (λ _ υ. spot 2 [] υ)) (same_place main))) (λ _ υ.
      then_meets θ functions Value ℤ _ (λ v φ. spot 3 (v ∷ []) φ) go (main_called ρ main υ) _ (main_runs υ) (λ v φ.
      then_meets θ functions (Unit {0}) ℤ _ (λ _ ψ. spot 4 (v ∷ []) ψ) go (notify θ at Finish φ) _
      (same_step θ functions (Unit {0}) (spot 3 (v ∷ []) φ) _ (notify θ at Finish φ)
      (ap (λ p. conf_of (notify θ p Finish φ) (λ _ υ. spot 4 (v ∷ []) υ)) (same_place main))) (λ _ ψ.
      then_meets θ functions (Unit {0}) ℤ _ (λ _ χ. spot 5 (v ∷ []) χ) go (wait θ at Finish ψ) _
      (same_step θ functions (Unit {0}) (spot 4 (v ∷ []) ψ) _ (wait θ at Finish ψ)
      (ap (λ p. conf_of (wait θ p Finish ψ) (λ _ υ. spot 5 (v ∷ []) υ)) (same_place main))) (λ _ χ.
      record {
        by = one_step θ functions (spot 5 (v ∷ []) χ) (Halt (Ended (converted kind.Int (number_of v))) χ) refl;
      })))))

-- ---- programs
module _ (meant : ExpressionsAreMeant × EffectsAreMeant) (program : Checked) where
  -- A thread that has a result.
  coded : (thread budget : ℕ) (replies : List Reply) (r : Res ℤ) → IsFinished r
      → Meets (running program thread budget).thread (program_code program).functions ℤ
      (At (record { function = 0; place = 0 }) [] [] [] (initial_state program replies)) (λ v τ. Halt (Ended v) τ) r
      → CodeMeans (program_code program) thread budget replies (outcome_of r)
  coded thread budget replies (Val v σ) f m =
      record { count = m.by.count; ended = subst (λ c. HasEnded c (outcome_of (Val v σ))) (sym m.by.is) refl }
  coded thread budget replies (Over told σ) f m =
      record { count = m.by.count; ended = subst (λ c. HasEnded c (outcome_of (Over told σ))) (sym m.by.is) refl }
  coded thread budget replies Unfinished f m = absurd f

  means : (thread budget : ℕ) (replies : List Reply) → 0 < budget
      → CodeMeans (program_code program) thread budget replies (thread_outcome program thread budget replies)
  unfolding thread_outcome
  means thread budget replies some =
      let ρ = running program thread budget in
      let σ = initial_state program replies in
      coded thread budget replies (course ρ σ) ((is_total program).finished thread budget replies some)
      (course_runs meant ρ σ)

  pub program_means : MeansProgram (program_code program) program
  program_means thread budget replies o some =
      let m = means thread budget replies some in (
        λ c. (one_outcome (program_code program)).same thread budget replies o _ c m,
        λ e. subst (λ p. CodeMeans (program_code program) thread budget replies p) (sym e) m,
      )
