use Rattle.race_word.proofs.Racers.{keeps_then}
use Rattle.sat_watch.proofs.Ticking.{passes, cancels, ends}
use Rattle.sat_watch.proofs.watch.tick.Goals as goal

pub returns-in-Some-clause-keeps : goal.returns-in-Some-clause-keeps
returns-in-Some-clause-keeps c = keeps_then c.in-Some.ensures.keeps c.draw-drawn.ensures.keeps

pub returns-in-Some-clause-ticked : goal.returns-in-Some-clause-ticked
returns-in-Some-clause-ticked c = let p = c.in-Some.ensures in let d = c.draw-drawn.ensures in
    cancels _ c.args.racer.now c.poll-seen.new.self c.draw-drawn.new.self c.in-Some.winner p.rest p.stopped.0 p.sees p.keeps d.keeps d.noted d.drawn

pub returns-in-Ok-clause-keeps : goal.returns-in-Ok-clause-keeps
returns-in-Ok-clause-keeps c = keeps_then c.in-None.ensures.keeps c.in-Ok.ensures.keeps

pub returns-in-Ok-clause-ticked : goal.returns-in-Ok-clause-ticked
returns-in-Ok-clause-ticked c = let p = c.in-None.ensures in let d = c.in-Ok.ensures in
    passes c.in-Ok._ticket c.args.racer.now c.poll-seen.new.self c.draw-drawn.new.self p.rest p.quiet p.keeps d.keeps d.noted d.drawn

pub returns-in-Err-clause-keeps : goal.returns-in-Err-clause-keeps
returns-in-Err-clause-keeps c = keeps_then c.in-None.ensures.keeps c.in-Err.ensures.keeps

pub returns-in-Err-clause-ticked : goal.returns-in-Err-clause-ticked
returns-in-Err-clause-ticked c = let p = c.in-None.ensures in let d = c.in-Err.ensures in
    ends c.in-Err.end c.args.racer.now c.poll-seen.new.self c.draw-drawn.new.self p.rest p.quiet p.keeps d.keeps d.noted d.drawn d.ended
