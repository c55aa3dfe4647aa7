-- What the words ask for, by the call that the program has made of them.
use Rattle.upc_outcomes_words.specs.declared.call.Call.{Call}
use Rattle.upc_outcomes_words.specs.declared.call.Plan.{Plan}
use Rattle.upc_outcomes_words.specs.declared.call.Plan.TheVariants as plan
use Rattle.upc_outcomes_words.specs.Values.{Asked, Wanted, seeded, every, given, recorded}

-- The lists of picks that a plan has.
abbrev pub view_plan : Plan → Wanted
view_plan (plan.Seeded many seed) = seeded many seed
view_plan (plan.Every most) = every most
view_plan (plan.Given picks) = given picks.items
view_plan (plan.Recorded picks) = recorded picks.items

-- What a call asks for.
abbrev pub view_call : Call → Asked
view_call call =
    record {
      threads = call.threads;
      budget = call.budget;
      actions = call.actions;
      file = call.file.now;
      wanted = view_plan call.plan;
    }
