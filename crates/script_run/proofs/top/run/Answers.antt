use Rattle.qterm.proofs.Alls.{All-nil}
use Rattle.script_run.proofs.top.run.Goals.{then-is_run, else-is_run}
use Rattle.script_run.proofs.top.run.Goals as goal

pub returns-clause-kept : goal.returns-clause-kept
returns-clause-kept g c = elim c.if-is_run.branch [
  | then-is_run w ↦ rw w.journal-is (rw w.store-is w.run_script-ended.ensures.kept)
  | else-is_run w ↦ rw w.journal-is (rw c.new-journal.ensures.items (All-nil _))
]
