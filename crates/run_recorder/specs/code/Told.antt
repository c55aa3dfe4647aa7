-- What reading a whole text answers.
use Rattle.std.specs.Prelude.{◌≡◌, Option, Some, None, Result, Ok, Err}
use Rattle.run_recorder.specs.declared.fail.ReadRecord.{ReadRecord}
use Rattle.run_recorder.specs.declared.fail.ReadRecord.TheVariants.{Bad, Memory}

-- The answer is what is read, unless no memory was left.
abbrev pub Tells : {X : Type 0} → Result X ReadRecord → Option X → Type 0
Tells (Ok x) read = read ≡ Some x
Tells (Err (Bad place)) read = read ≡ None
Tells (Err Memory) read = Unit {0}
