use Rattle.source_meaning.specs.Laws.{opening_of}
use Rattle.upc_verify_judge.proofs.Sounding.{parts-are}
use Rattle.upc_verify.specs.Verdicts.{meaning}
use Rattle.upc_verify.proofs.record.sound_is_a_sound_run.Goals as goal

pub returns : goal.returns
returns c = λ w some. parts-are (opening_of w.program) (meaning w.program) w.journal w.orders some
