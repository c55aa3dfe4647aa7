-- The tests by which the code of a program is made hold.
use Rattle.std.proofs.Common.{ℕ, ◌+◌, ◌≤◌, Bool, true, false, if◌then◌else◌, nat_lt, List, [], ◌∷◌, ◌++◌, length, map}
use Rattle.std.proofs.Common.{arith}
use Rattle.std.proofs.lemmas.List.{length-append, length-map}
use Rattle.block_layout.specs.declared.kind.Shape.{Shape}
use Rattle.upc_values.specs.Lists.{Each}
use Rattle.upc_types.specs.Types.{base_of}
use Rattle.typed_tree.specs.Allocated.{allocated_in}
use Rattle.typed_tree.specs.layer.Parts.{with_shapes}
use Rattle.typed_tree.specs.Objects.{is_shared}
use Rattle.typed_tree.specs.Elements.{element_shape, number_among, with_shape}
use Rattle.typed_tree.specs.Objects.{shared_in, type_of}
use Rattle.typed_tree.specs.Programs.{Checked, start_of, count_of, most_declared}
use Rattle.typed_tree.specs.Tree.{DeclaredObject}
use Rattle.source_meaning.proofs.Beginnings.{privates_begin}
use Rattle.stack_code.specs.declared.instruction.Instr.{Instr}
use Rattle.stack_code.specs.declared.instruction.ObjectWork.{ObjectWork}
use Rattle.stack_code.specs.declared.instruction.ObjectWork.TheVariants.{Enter}
use Rattle.stack_code.specs.declared.instruction.Operation.{Operation}
use Rattle.stack_code.specs.declared.instruction.Operation.TheVariants as work
use Rattle.stack_code.specs.layer.Kept.{IsCode}
use Rattle.stack_code.proofs.Places.{code_lands}
use Rattle.gen_stmt.specs.layer.Enters.{EntersWithin, OnObject}
use Rattle.gen_stmt.specs.layer.Programs.{program_code}
use Rattle.gen_stmt.proofs.Deeps.{program_deep}
use Rattle.gen_stmt.proofs.Gathered.{program_begins, program_enters}
use Rattle.gen_stmt.proofs.KnownInitials.{initials_known}
use Rattle.gen_stmt_laws.specs.code.Fitting.{IsRanged, HasFormedTypes, PassesTests, LeadsToNoArray, AllocatesLaid}
use Rattle.gen_stmt_laws.proofs.Everywhere.{in_functions}
use Rattle.gen_stmt_laws.proofs.Laid.{node_laid}
use Rattle.gen_stmt_laws.proofs.Statements.{program_fits}

-- ---- blocks

-- A block that begins after few objects begins after no more than there may be.
wider_block : (few many : ℕ) → few ≤ many → (w : ObjectWork) → EntersWithin few w → EntersWithin many w
wider_block few many h (Enter from shapes) g = omega (arith, h, g)
wider_block few many h w g = tt

wider : (few many : ℕ) → few ≤ many → (w : Operation) → OnObject (EntersWithin few) w → OnObject (EntersWithin many) w
wider few many h (work.Object w) g = wider_block few many h w g
wider few many h w g = tt

each_wider : (few many : ℕ) → few ≤ many → (is : List Instr) → Each (λ i. OnObject (EntersWithin few) i.does) is
    → Each (λ i. OnObject (EntersWithin many) i.does) is
each_wider few many h [] g = tt
each_wider few many h (i ∷ is) g = (wider few many h i.does g.0, each_wider few many h is g.1)

all_wider : (few many : ℕ) → few ≤ many → (fs : List (List Instr))
    → Each (Each (λ i. OnObject (EntersWithin few) i.does)) fs
    → Each (Each (λ i. OnObject (EntersWithin many) i.does)) fs
all_wider few many h [] g = tt
all_wider few many h (f ∷ fs) g = (each_wider few many h f g.0, all_wider few many h fs g.1)

-- ---- code

is_code : (program : Checked) → IsRanged program → HasFormedTypes program → IsCode (program_code program)
is_code program kept types = record {
  threads = record { least = kept.opening.least; most = kept.opening.most };
  shapes = kept.opening.shapes;
  depths = program_deep program;
  begins = program_begins program;
  fitting = program_fits program kept types;
  private = privates_begin program.threads (start_of program) ∣ kept.private ∣₁;
  known = initials_known program.threads (start_of program) ∣ kept.opening ∣₁ ∣ kept.private ∣₁;
}

-- ---- shapes

one_more : (b : Bool) (xs : List Shape) (s : Shape) → length (if b then xs else xs ++ (s ∷ [])) ≤ length xs + 1
one_more true xs s = omega arith
one_more false xs s = let e = length-append xs (s ∷ []) in omega (arith, e)

few_more : (xs ss : List Shape) → length (with_shapes xs ss) ≤ length xs + length ss
few_more xs [] = omega arith
few_more xs (s ∷ ss) =
    let one = one_more (nat_lt (number_among xs s) (length xs)) xs s in
    let more = few_more (with_shape xs s) ss in
    omega (arith, one, more)

fewer_one : (b : Bool) (x : DeclaredObject) (xs ys : List DeclaredObject) → length xs ≤ length ys
    → length (if b then x ∷ xs else xs) ≤ length (x ∷ ys)
fewer_one true x xs ys h = omega (arith, h)
fewer_one false x xs ys h = omega (arith, h)

few_shared : (xs : List DeclaredObject) → length (shared_in xs) ≤ length xs
few_shared [] = omega arith
few_shared (x ∷ xs) = fewer_one (is_shared x.home) x (shared_in xs) xs (few_shared xs)

few_shapes : (program : Checked) → count_of program ≤ most_declared
    → length (start_of program).shapes ≤ most_declared + length (allocated_in program.structs program.functions)
few_shapes program count =
    let structs = (start_of program).structs in
    let shared = shared_in program.objects in
    let made = allocated_in program.structs program.functions in
    let all = map type_of shared ++ made in
    let grown = few_more [] (map (element_shape structs) all) in
    let a = length-map all (element_shape structs) in
    let b = length-append (map type_of shared) made in
    let c = length-map shared type_of in
    let d = few_shared program.objects in
    omega (arith, grown, a, b, c, d, count)

pub tests_pass : (program : Checked) → IsRanged program → HasFormedTypes program → PassesTests program
tests_pass program kept types =
    let all = is_code program kept types in record {
      code = all;
      enters =
          all_wider (count_of program) most_declared kept.count (program_code program).functions
          (program_enters program);
      ways = λ number place. code_lands (program_code program) number place all;
      shapes = few_shapes program kept.count;
      allocations =
          in_functions program (λ a kind. LeadsToNoArray (base_of a.ctype)) (AllocatesLaid program)
          (node_laid program kept.layouts) program.functions kept.rules.functions types.pointers;
    }
