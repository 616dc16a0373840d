use Rattle.smt_command.specs.Reading.{plain_command}
use Rattle.smt_command.proofs.command.plain.Goals as goal

pub returns-in-SetLogic : goal.returns-in-SetLogic
unfolding plain_command
returns-in-SetLogic c = λ ts. rw c.in-SetLogic.is (c.read_logic.ensures ts)

pub returns-in-SetOption : goal.returns-in-SetOption
unfolding plain_command
returns-in-SetOption c = λ ts. rw c.in-SetOption.is (c.read_option.ensures ts)

pub returns-in-SetInfo : goal.returns-in-SetInfo
unfolding plain_command
returns-in-SetInfo c = λ ts. rw c.in-SetInfo.is (c.read_set_info.ensures ts)

pub returns-in-Push : goal.returns-in-Push
unfolding plain_command
returns-in-Push c = λ ts. rw c.in-Push.is (c.read_push.ensures ts)

pub returns-in-Pop : goal.returns-in-Pop
unfolding plain_command
returns-in-Pop c = λ ts. rw c.in-Pop.is (c.read_pop.ensures ts)

pub returns-in-CheckSat : goal.returns-in-CheckSat
unfolding plain_command
returns-in-CheckSat c = λ ts. rw c.in-CheckSat.is (c.only.ensures ts)

pub returns-in-CheckSatUsing : goal.returns-in-CheckSatUsing
unfolding plain_command
returns-in-CheckSatUsing c = λ ts. rw c.in-CheckSatUsing.is (c.read_using.ensures ts)

pub returns-in-Apply : goal.returns-in-Apply
unfolding plain_command
returns-in-Apply c = λ ts. rw c.in-Apply.is (c.read_using-in-Apply.ensures ts)

pub returns-in-GetModel : goal.returns-in-GetModel
unfolding plain_command
returns-in-GetModel c = λ ts. rw c.in-GetModel.is (c.only-in-GetModel.ensures ts)

pub returns-in-GetProof : goal.returns-in-GetProof
unfolding plain_command
returns-in-GetProof c = λ ts. rw c.in-GetProof.is (c.only-in-GetProof.ensures ts)

pub returns-in-GetInfo : goal.returns-in-GetInfo
unfolding plain_command
returns-in-GetInfo c = λ ts. rw c.in-GetInfo.is (c.read_get_info.ensures ts)

pub returns-in-Echo : goal.returns-in-Echo
unfolding plain_command
returns-in-Echo c = λ ts. rw c.in-Echo.is (c.read_echo.ensures ts)

pub returns-in-ResetAssertions : goal.returns-in-ResetAssertions
unfolding plain_command
returns-in-ResetAssertions c = λ ts. rw c.in-ResetAssertions.is (c.only-in-ResetAssertions.ensures ts)

pub returns-in-Exit : goal.returns-in-Exit
unfolding plain_command
returns-in-Exit c = λ ts. rw c.in-Exit.is (c.only-in-Exit.ensures ts)
