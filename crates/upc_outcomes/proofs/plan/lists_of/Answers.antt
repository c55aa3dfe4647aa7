use Rattle.upc_outcomes.proofs.Plans.{every-few}
use Rattle.upc_outcomes.proofs.plan.lists_of.Goals as goal

pub returns-in-Every-clause-few : goal.returns-in-Every-clause-few
returns-in-Every-clause-few c =
    every-few c.every_list.result c.args.threads c.in-Every.most c.args.plan.now c.in-Every.is c.requires.fit
    c.every_list.ensures
