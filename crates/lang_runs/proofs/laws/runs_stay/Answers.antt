use Rattle.lang_runs.proofs.Later.{goal_stays, has_goal_stays, run_stays, failure_stays, tried_stays, answer_stays, keeps_answer, grows_answer}
use Rattle.lang_runs.proofs.laws.runs_stay.Goals as goal

pub returns : goal.returns
returns c = record { goal = goal_stays; has_goal = has_goal_stays; run = run_stays; failure = failure_stays; tried = tried_stays; answer = answer_stays; keeps = keeps_answer; grows = grows_answer }
