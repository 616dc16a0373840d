use Rattle.sat_watch.proofs.Hearing.{solves, cut_kept, solved_kept}
use Rattle.sat_watch.proofs.search.watched.Goals as goal

pub returns-in_err-solved-clause-same_reference : goal.returns-in_err-solved-clause-same_reference
returns-in_err-solved-clause-same_reference c = (cut_kept c.args.watch.now c.solve.new.watch _ _ _ c.in_err-solved.ensures.memory).same

pub returns-in_err-solved-clause-keeps : goal.returns-in_err-solved-clause-keeps
returns-in_err-solved-clause-keeps c = (cut_kept c.args.watch.now c.solve.new.watch _ _ _ c.in_err-solved.ensures.memory).keeps

pub returns-clause-same_reference : goal.returns-clause-same_reference
returns-clause-same_reference c = (solved_kept c.args.watch.now c.solve.new.watch _ _ _ c.in_ok-solved.solved c.in_ok-solved.ensures.solved).same

pub returns-clause-keeps : goal.returns-clause-keeps
returns-clause-keeps c = (solved_kept c.args.watch.now c.solve.new.watch _ _ _ c.in_ok-solved.solved c.in_ok-solved.ensures.solved).keeps

pub returns-clause-decided : goal.returns-clause-decided
returns-clause-decided c = solves c.args.watch.now c.solve.new.watch _ _ _ c.in_ok-solved.solved c.requires.new c.in_ok-solved.ensures.solved
