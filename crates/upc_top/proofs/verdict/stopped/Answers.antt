use Rattle.std.proofs.Common.{subst}
use Rattle.upc_top.specs.Sources.{StopsReading}
use Rattle.upc_top.proofs.verdict.stopped.Goals as goal

pub returns-in-Refused : goal.returns-in-Refused
returns-in-Refused c r a bytes h = subst (StopsReading a.threads bytes) c.in-Refused.is h
