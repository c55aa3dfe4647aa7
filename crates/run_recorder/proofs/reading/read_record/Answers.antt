use Rattle.run_recorder.proofs.Answering.{found, bad, only}
use Rattle.run_recorder.proofs.reading.read_record.Goals as goal

pub returns-clause-found : goal.returns-clause-found
returns-clause-found c = found c.args.bytes.now c.run_of.result c.run_of.ensures

pub returns-clause-bad : goal.returns-clause-bad
returns-clause-bad c = bad c.args.bytes.now c.run_of.result c.run_of.ensures

pub returns-clause-only : goal.returns-clause-only
returns-clause-only c = only c.args.bytes.now c.run_of.result c.run_of.ensures
