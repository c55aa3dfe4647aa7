use Rattle.std.proofs.Common.{◌-◌, ap}
use Rattle.typed_tree.specs.ViewStatements.{view_function}
use Rattle.upc_meaning_settings.specs.layer.Settings.{running_seen}
use Rattle.upc_meaning_work.specs.layer.Courses.{view_main}
use Rattle.upc_meaning_work.proofs.Courses.{main_begins, main_missing}
use Rattle.upc_meaning_work.specs.layer.Evaluations.{seen}
use Rattle.upc_meaning.proofs.course.enter_main.Goals as goal

pub returns-in_ok-push_return-in-None : goal.returns-in_ok-push_return-in-None
returns-in_ok-push_return-in-None c =
    let m = c.args.evaluation.now in
    main_missing (running_seen c.args.setting) (seen m) (seen c.push_return.new.evaluation) (m.free - 1)
    (view_main c.args.main) (ap view_main c.in-None.is) c.in_ok-push_return-in-None.ensures

pub returns-in_ok-push_return-in-Some : goal.returns-in_ok-push_return-in-Some
returns-in_ok-push_return-in-Some c =
    let m = c.args.evaluation.now in
    rw (main_begins (running_seen c.args.setting) (seen m) (seen c.push_return-in-Some.new.evaluation) (m.free - 1)
    (view_main c.args.main) (view_function c.in-Some.function.now) c.blank_of.result (ap view_main c.in-Some.is)
    c.blank_of.ensures c.in_ok-push_return-in-Some.ensures) c.function_body.ensures
