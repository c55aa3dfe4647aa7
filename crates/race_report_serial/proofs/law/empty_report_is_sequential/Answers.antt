use Rattle.race_report_serial.proofs.Free.{empty-free, empty-sequential}
use Rattle.race_report_serial.proofs.law.empty_report_is_sequential.Goals as goal

pub returns-clause-free : goal.returns-clause-free
returns-clause-free c = empty-free

pub returns-clause-sequential : goal.returns-clause-sequential
returns-clause-sequential c = empty-sequential
