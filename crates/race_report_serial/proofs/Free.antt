-- A journal with an empty report.
use Rattle.race_report.proofs.Reading.{all-serial}
use Rattle.race_report_bridge.proofs.Racing.{on-cell}
use Rattle.race_report_serial.specs.Sequential.{EmptyIsRaceFree, EmptyIsSequential}

pub empty-free : EmptyIsRaceFree
empty-free j report a b race =
    let cell =
    on-cell j a b race.first race.second
    (record { threads = race.threads; place = race.place; writes = race.writes; relaxed = race.relaxed }) in
    let told = report.all cell.loc a b race cell.is in
    absurd told.1

pub empty-sequential : EmptyIsSequential
empty-sequential j o run report legal =
    let serial = all-serial j run in
    record {
      whole = serial.whole;
      program = serial.program;
      values = serial.values o legal (empty-free j report);
    }
