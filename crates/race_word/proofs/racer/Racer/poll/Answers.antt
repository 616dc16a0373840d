use Rattle.race_word.proofs.Polling.{polls_quiet, polls_stopped, polls_sees, polled_rest, polled_keeps}
use Rattle.race_word.proofs.racer.Racer.poll.Goals as goal

pub returns-clause-sees : goal.returns-clause-sees
returns-clause-sees c = polls_sees c.args.self.now.chain c.args.self.now.view c.poll_chain.result c.poll_chain.new.self.view c.poll_chain.ensures.polls

pub returns-clause-quiet : goal.returns-clause-quiet
returns-clause-quiet c = polls_quiet c.args.self.now.chain c.args.self.now.view c.poll_chain.result c.poll_chain.new.self.view c.poll_chain.ensures.polls

pub returns-clause-stopped : goal.returns-clause-stopped
returns-clause-stopped c = polls_stopped c.args.self.now.chain c.args.self.now.view c.poll_chain.result c.poll_chain.new.self.view c.poll_chain.ensures.polls

pub returns-clause-rest : goal.returns-clause-rest
returns-clause-rest c = polled_rest c.args.self.now c.poll_chain.new.self c.poll_chain.result c.poll_chain.ensures.same c.poll_chain.ensures.polls

pub returns-clause-keeps : goal.returns-clause-keeps
returns-clause-keeps c = polled_keeps c.args.self.now c.poll_chain.new.self c.poll_chain.result c.poll_chain.ensures.same c.poll_chain.ensures.polls
