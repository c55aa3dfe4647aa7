use Rattle.upc_verify_judge.proofs.Sounding.{parts-are}
use Rattle.upc_verify_judge.proofs.judge.parts_are_a_sound_run.Goals as goal

pub returns : goal.returns
returns c = parts-are
