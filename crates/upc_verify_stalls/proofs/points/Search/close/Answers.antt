use Rattle.std.proofs.Common.{[], ap}
use Rattle.std.specs.Option.{option_copied}
use Rattle.upc_verify_stalls.proofs.Pointing.{at-done, at-none}
use Rattle.upc_verify_stalls.proofs.points.Search.close.Goals as goal

pub returns-in-None : goal.returns-in-None
returns-in-None c = λ t items out f.
    at-none t (option_copied c.args.want) items c.args.self.now (ap option_copied c.in-None.is) f

pub returns-in_ok-settle-in-Some : goal.returns-in_ok-settle-in-Some
returns-in_ok-settle-in-Some c = λ t items out f.
    at-done t (option_copied c.args.want) items c.settle.new.self c.in_ok-settle-in-Some.ensures.stalled
    (c.in_ok-settle-in-Some.ensures.settled t (option_copied c.args.want) items [] out (ap option_copied c.in-Some.is) f)
