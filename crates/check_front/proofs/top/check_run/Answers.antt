use Rattle.check_front.proofs.top.check_run.Goals as goal

pub returns-clause-run : goal.returns-clause-run
returns-clause-run g c is =
    let ran = c.end_of_run.ensures.run is in
    (c.end_of_run.result, c.code.ensures, ran.0, ran.1)
