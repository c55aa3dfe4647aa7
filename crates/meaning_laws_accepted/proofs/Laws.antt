-- What holds of every source that is accepted.
use Rattle.meaning_laws.proofs.Statements.{functions_keep_types, mains_keep_types}
use Rattle.meaning_laws.proofs.Shaped.{shaped_functions}
use Rattle.upc_checker.proofs.TypedSources.{accepted_meets}
use Rattle.meaning_laws_accepted.specs.code.Laws.{AcceptedTakeNoDefault}
use Rattle.meaning_laws_accepted.proofs.Sources.{accepted_are_formed}
use Rattle.meaning_laws_accepted.proofs.Defaults.{takes_functions}

pub accepted_take_no_default : AcceptedTakeNoDefault
accepted_take_no_default = record {
  each = λ names threads unit x thread budget numbers h few.
      let meets = accepted_meets names threads unit x numbers h in
      let formed = (accepted_are_formed.each names threads unit x h).functions in
      let fit = functions_keep_types.each x thread budget meets formed few in
      record {
        functions = takes_functions x thread budget fit x.functions meets.functions (shaped_functions x formed few);
        calls = fit;
        main = λ f. mains_keep_types.each x thread budget f meets formed few;
      };
}
