use Rattle.std.proofs.Common.{rules, ◌≡◌, ◌≤◌, ◌<◌, ◌^◌, ℕ, List, length, map, unsigned_abs, sym, subst}
use Rattle.std.specs.Prelude.{slice_index_or}
use Rattle.std.proofs.Math.IntN.{ℤ}
use Rattle.thread_steps.specs.Values.{number_of}
use Rattle.thread_values.proofs.Numbers.{numbers-near}
use Rattle.thread_values.proofs.calls.printed.Goals as goal

pub print_text-requires : goal.print_text-requires
print_text-requires c =
    let same : c.as_slice.result.now ≡ map number_of c.args.args.now = search rules in
    let P : List ℤ → Type 0 = λ xs. (k : ℕ) (d : ℤ) → k < length xs → unsigned_abs (slice_index_or xs k d) ≤ 2 ^ 66 in
    subst P (sym same) (numbers-near c.args.args.now c.requires)
