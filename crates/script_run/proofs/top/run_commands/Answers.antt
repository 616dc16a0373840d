use Rattle.std.proofs.Common.{Some}
use Rattle.script_text.specs.Shown.{fault_line}
use Rattle.script_run.proofs.Runs.{ran_after}
use Rattle.script_run.proofs.top.run_commands.Goals as goal

pub returns-in-Ok-clause-ran : goal.returns-in-Ok-clause-ran
returns-in-Ok-clause-ran g c =
    let fault = c.args.script.now.fault in
    let went = c.in-Ok.ensures.went in
    ran_after c.finish.result fault (fault_line c.args.bytes.now fault) went.0 _ _ _ _ _ _ went.1 went.2 went.3 c.finish.ensures.ran

pub returns-in-Err-Fault-clause-ran : goal.returns-in-Err-Fault-clause-ran
returns-in-Err-Fault-clause-ran g c =
    let fault = Some c.in-Err-Fault.fault in
    let went = rw c.in-Err-Fault.field-0-is at c.in-Err-Fault.ensures.went in
    ran_after c.finish-in-Err-Fault.result fault (fault_line c.args.bytes.now fault) went.0 _ _ _ _ _ _ went.1 went.2 went.3 c.finish-in-Err-Fault.ensures.ran
