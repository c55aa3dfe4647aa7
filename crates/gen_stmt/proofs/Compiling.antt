-- Code that is made of a whole program.
use Rattle.std.proofs.Common.{◌≡◌, ℕ, ◌+◌, ◌<◌, ◌≤◌, List, [], ◌∷◌, ◌++◌, length, map, drop, get_or, sym, ap, ◌∙◌}
use Rattle.std.proofs.Common.{append_assoc, Result, Ok, Err, IfOk}
use Rattle.std.proofs.lemmas.List.{append-nil, drop_all}
use Rattle.std.proofs.Math.Logic.{∥∥₁_elim}
use Rattle.std.specs.Coded.{Coded, Coded-set, codes}
use Rattle.block_layout.specs.declared.kind.Shape.{Shape}
use Rattle.block_layout.specs.declared.place.LocalPtr.{LocalPtr}
use Rattle.upc_values.specs.declared.scalar.Value.{Value}
use Rattle.upc_values.proofs.Membership.{left_from}
use Rattle.typed_tree.specs.declared.tree.Function as f
use Rattle.typed_tree.specs.Tree.{Function}
use Rattle.typed_tree.specs.Beginnings.{Beginning}
use Rattle.typed_tree.specs.Programs.{Checked, start_of}
use Rattle.typed_tree.specs.ViewStatements.{view_function}
use Rattle.stack_code.specs.declared.instruction.Instr.{Instr}
use Rattle.stack_code.specs.layer.Codes.{Codes}
use Rattle.stack_code.specs.layer.Making.{Making, empty, with_function, with_instructions, with_object}
use Rattle.gen_expr.specs.layer.Sources.{Source}
use Rattle.gen_stmt.specs.layer.Programs.{entry_code, function_code, program_code}
use Rattle.gen_expr.specs.layer.ViewSource.{source_with}
use Rattle.gen_stmt.specs.code.Compiled.{made, with_functions, with_objects, with_initials}

-- ---- what is added

-- A function that is ended stands after the others.
pub ended : (m : Making) (code : List Instr) → m.current ≡ []
    → with_function (with_instructions code m) ≡ with_functions (code ∷ []) m
ended m code e =
    let functions : List Instr → List (List Instr) = λ x. m.codes.functions ++ (x ++ code) ∷ [] in
    ap (λ (x : List Instr). let made : Making = record {
      codes = record m.codes { functions = functions x };
      current = [];
      failed = m.failed;
    } in made) e
    ∙ ap (λ (x : List Instr). let made : Making = record {
      codes = record m.codes { functions = m.codes.functions ++ code ∷ [] };
      current = x;
      failed = m.failed;
    } in made) (sym e)

pub functions_more : (xs ys : List (List Instr)) (m : Making)
    → with_functions ys (with_functions xs m) ≡ with_functions (xs ++ ys) m
functions_more xs ys m =
    ap (λ (zs : List (List Instr)). let made : Making = record m { codes = record m.codes { functions = zs } } in made)
    (append_assoc m.codes.functions xs ys)

pub no_functions : (m : Making) → with_functions [] m ≡ m
no_functions m =
    ap (λ (zs : List (List Instr)). let made : Making = record m { codes = record m.codes { functions = zs } } in made)
    (append-nil m.codes.functions)

pub objects_more : (xs ys : List Shape) (m : Making)
    → with_objects ys (with_objects xs m) ≡ with_objects (xs ++ ys) m
objects_more xs ys m =
    ap (λ (zs : List Shape). let made : Making = record m { codes = record m.codes { private_shapes = zs } } in made)
    (append_assoc m.codes.private_shapes xs ys)

pub no_objects : (m : Making) → with_objects [] m ≡ m
no_objects m =
    ap (λ (zs : List Shape). let made : Making = record m { codes = record m.codes { private_shapes = zs } } in made)
    (append-nil m.codes.private_shapes)

pub initials_more : (xs ys : List (LocalPtr × Value)) (m : Making)
    → with_initials ys (with_initials xs m) ≡ with_initials (xs ++ ys) m
initials_more xs ys m =
    ap (λ (zs : List (LocalPtr × Value)). let made : Making = record m {
      codes = record m.codes { private_initials = zs };
    } in made)
    (append_assoc m.codes.private_initials xs ys)

pub no_initials : (m : Making) → with_initials [] m ≡ m
no_initials m =
    ap (λ (zs : List (LocalPtr × Value)). let made : Making = record m {
      codes = record m.codes { private_initials = zs };
    } in made)
    (append-nil m.codes.private_initials)

-- ---- one by one

pub function_step : (ς : Source) (xs : List f.Function) (i : ℕ) (x : f.Function) (code : List Instr) (old new : Making)
    → i < length xs → x ≡ get_or xs i x → code ≡ function_code ς (view_function x)
    → new ≡ with_functions (code ∷ []) old
    → with_functions (map (function_code ς) (map view_function (drop (i + 1) xs))) new
    ≡ with_functions (map (function_code ς) (map view_function (drop i xs))) old
function_step ς xs i x code old new l e h n =
    let more = map (function_code ς) (map view_function (drop (i + 1) xs)) in
    ap (with_functions more) (n ∙ ap (λ (c : List Instr). with_functions (c ∷ []) old) h)
    ∙ functions_more (function_code ς (view_function x) ∷ []) more old
    ∙ sym (ap (λ (ys : List f.Function). with_functions (map (function_code ς) (map view_function ys)) old)
    (left_from xs i x l e))

pub object_step : (xs : List Shape) (i : ℕ) (x y : Shape) (old new : Making) → i < length xs → x ≡ get_or xs i x
    → y ≡ x → new ≡ with_object y old
    → with_objects (drop (i + 1) xs) new ≡ with_objects (drop i xs) old
object_step xs i x y old new l e h n =
    let more = drop (i + 1) xs in
    ap (with_objects more) (n ∙ ap (λ (z : Shape). with_objects (z ∷ []) old) h)
    ∙ objects_more (x ∷ []) more old
    ∙ sym (ap (λ (ys : List Shape). with_objects ys old) (left_from xs i x l e))

pub initial_step : (xs : List (LocalPtr × Value)) (i : ℕ) (x : LocalPtr × Value) (old new : Making)
    → i < length xs → x ≡ get_or xs i x → new ≡ with_initials (x ∷ []) old
    → with_initials (drop (i + 1) xs) new ≡ with_initials (drop i xs) old
initial_step xs i x old new l e n =
    let more = drop (i + 1) xs in
    ap (with_initials more) n
    ∙ initials_more (x ∷ []) more old
    ∙ sym (ap (λ (ys : List (LocalPtr × Value)). with_initials ys old) (left_from xs i x l e))

-- ---- all of them

pub functions_end : (ς : Source) (xs : List f.Function) (i : ℕ) (m old : Making) → length xs ≤ i
    → with_functions (map (function_code ς) (map view_function (drop i xs))) m
    ≡ with_functions (map (function_code ς) (map view_function xs)) old
    → m ≡ with_functions (map (function_code ς) (map view_function xs)) old
functions_end ς xs i m old h told =
    sym
    (ap (λ (ys : List f.Function). with_functions (map (function_code ς) (map view_function ys)) m) (drop_all i xs h)
    ∙ no_functions m)
    ∙ told

pub objects_end : (xs : List Shape) (i : ℕ) (m old : Making) → length xs ≤ i
    → with_objects (drop i xs) m ≡ with_objects xs old → m ≡ with_objects xs old
objects_end xs i m old h told =
    sym (ap (λ (ys : List Shape). with_objects ys m) (drop_all i xs h) ∙ no_objects m) ∙ told

pub initials_end : (xs : List (LocalPtr × Value)) (i : ℕ) (m old : Making) → length xs ≤ i
    → with_initials (drop i xs) m ≡ with_initials xs old → m ≡ with_initials xs old
initials_end xs i m old h told =
    sym (ap (λ (ys : List (LocalPtr × Value)). with_initials ys m) (drop_all i xs h) ∙ no_initials m) ∙ told

-- ---- the code of a program

codes_coded : Coded Codes
codes_coded = hlevel codes

pub program_made : (x : Checked) (b : Beginning) → ∥ b ≡ start_of x ∥₁
    → (made x.threads x.functions b).codes ≡ program_code x
program_made x b h =
    ∥∥₁_elim h (Coded-set codes_coded _ _) (λ e. ap (λ (y : Beginning). (made x.threads x.functions y).codes) e)

-- What is made part by part.
pub all_made : (threads : ℕ) (functions : List Function) (b : Beginning) (ς : Source) (shapes privates : List Shape)
    (initials : List (LocalPtr × Value)) (n : ℕ) (entry : List Instr) (m₀ m₁ m₂ m₃ m₄ : Making)
    → n ≡ threads → shapes ≡ b.shapes → privates ≡ b.private_shapes → initials ≡ b.private_initials
    → ς ≡ source_with functions b → entry ≡ entry_code ς
    → m₀ ≡ empty n shapes → m₁ ≡ with_functions (entry ∷ []) m₀
    → m₂ ≡ with_functions (map (function_code ς) ς.functions) m₁ → m₃ ≡ with_objects privates m₂
    → m₄ ≡ with_initials initials m₃
    → m₄ ≡ made threads functions b
all_made threads functions b ς shapes privates initials n entry m₀ m₁ m₂ m₃ m₄ en es ep ei eς ee e₀ e₁ e₂ e₃ e₄ =
    let rest : Source → Making → Making = λ s m. with_initials b.private_initials
    (with_objects b.private_shapes (with_functions (map (function_code s) s.functions) m)) in
    e₄
    ∙ ap (λ xs. with_initials xs m₃) ei
    ∙ ap (with_initials b.private_initials)
    (e₃ ∙ ap (λ xs. with_objects xs m₂) ep
    ∙ ap (with_objects b.private_shapes)
    (e₂ ∙ ap (with_functions (map (function_code ς) ς.functions))
    (e₁ ∙ ap (λ xs. with_functions (xs ∷ []) m₀) ee
    ∙ ap (with_functions (entry_code ς ∷ []))
    (e₀ ∙ ap (λ k. empty k shapes) en ∙ ap (empty threads) es))))
    ∙ ap (λ (s : Source). rest s (with_functions (entry_code s ∷ []) (empty threads b.shapes))) eς

pub codes_are : (x : Checked) (b : Beginning) (m : Making) → ∥ b ≡ start_of x ∥₁ → m ≡ made x.threads x.functions b
    → m.codes ≡ program_code x
codes_are x b m h e = ap (λ (y : Making). y.codes) e ∙ program_made x b h

-- What follows of a value, if there is one.
pub if_ok : {T E : Type 0} (r : Result T E) (P Q : T → Type 0) → ((x : T) → P x → Q x) → IfOk r P → IfOk r Q
if_ok (Ok x) P Q f h = f x h
if_ok (Err e) P Q f h = tt
