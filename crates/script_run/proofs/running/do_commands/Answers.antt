use Rattle.std.proofs.Common.{◌≤◌, ◌+◌, length, map, drop, arith, sym, subst}
use Rattle.std.proofs.lemmas.List.{drop_all, length-map}
use Rattle.std.proofs.lemmas.Result.{err_from_is_err_and}
use Rattle.qterm.proofs.Extending.{Extends_trans}
use Rattle.smt_words.specs.declared.script.Placed.{Placed}
use Rattle.smt_words.specs.Command.{placed_tree}
use Rattle.script_text.proofs.Reaching.{reached_right}
use Rattle.script_run.specs.Records.{record_trees}
use Rattle.script_run.specs.Steps.{setting, IsCommandIn}
use Rattle.script_run.proofs.Going.{reached_on, reached_end, went_stopped, drop_mapped}
use Rattle.script_run.proofs.Later.{session_in, reached_later}
use Rattle.script_run.proofs.Staying.{placed_stays, placed_later}
use Rattle.script_run.proofs.running.do_commands.Goals as goal

pub step-requires-clause-within : goal.step-requires-clause-within
step-requires-clause-within g c =
    let fs = c.args.store.now in
    let bytes = c.args.bytes.now in
    let p = c.placed-item.result in
    let items = c.as_slice-placed-items.ensures in
    let lt = rw items at c.loop-placed-test.true in
    let is = rw items at c.placed-item.is in
    placed_later fs c.loop-placed.store bytes p c.loop-placed.invariant.store (subst (λ (q : Placed). IsCommandIn fs bytes q.command) (sym is) (c.requires.within c.loop-placed.placed-index p lt))

pub loop-placed-preserved : goal.loop-placed-preserved
loop-placed-preserved g c =
    let fs = c.args.store.now in
    let ts = c.loop-placed.store in
    let us = c.step.new.store in
    let bytes = c.args.bytes.now in
    let k = setting (g.R.Reducers.kinds c.args.decider.now) bytes in
    let commands = c.args.script.now.commands in
    let fault = c.args.script.now.fault in
    let ps = map (placed_tree fs) commands in
    let i = c.loop-placed.placed-index in
    let rest = drop (i + 1) ps in
    let p = c.placed-item.result in
    let olds = c.loop-placed.journal.items in
    let news = c.step.new.journal.items in
    let items = c.as_slice-placed-items.ensures in
    let lt = rw items at c.loop-placed-test.true in
    let is = rw items at c.placed-item.is in
    let inv = c.loop-placed.invariant in
    let so_far = inv.reached in
    let reached = rw (drop_mapped (placed_tree fs) commands i p lt is) at so_far.1 in
    let within = subst (λ (q : Placed). IsCommandIn fs bytes q.command) (sym is) (c.requires.within i p lt) in
    let longer = Extends_trans fs ts us inv.store c.in_ok-step.ensures.store in
    let later = reached_later k ps fault ts us olds c.loop-placed.session (placed_tree fs p) (placed_tree us p) rest so_far.0 c.in_ok-step.ensures.store inv.has inv.sound (placed_stays fs us bytes p longer within) reached in
    record {
      reached = reached_on k ps fault (record_trees us olds) (record_trees us news) (session_in us olds c.loop-placed.session) (session_in us news c.step.new.session) (placed_tree us p) rest so_far.0 (g.K.Sink.written c.args.out.now) (g.K.Sink.written c.loop-placed.out) (g.K.Sink.written c.step.new.out) later so_far.2 c.in_ok-step.ensures.leaves;
      store = longer;
      has = c.in_ok-step.ensures.has;
      right = c.in_ok-step.ensures.right inv.right;
      kept = c.in_ok-step.ensures.kept inv.kept;
      sound = c.in_ok-step.ensures.sound;
      later = grind arith;
    }

pub returns-in_err-step-clause-records : goal.returns-in_err-step-clause-records
returns-in_err-step-clause-records g c =
    let fs = c.args.store.now in
    let ts = c.loop-placed.store in
    let us = c.step.new.store in
    let bytes = c.args.bytes.now in
    let k = setting (g.R.Reducers.kinds c.args.decider.now) bytes in
    let commands = c.args.script.now.commands in
    let fault = c.args.script.now.fault in
    let ps = map (placed_tree fs) commands in
    let i = c.loop-placed.placed-index in
    let rest = drop (i + 1) ps in
    let p = c.placed-item.result in
    let olds = c.loop-placed.journal.items in
    let news = c.step.new.journal.items in
    let items = c.as_slice-placed-items.ensures in
    let lt = rw items at c.loop-placed-test.true in
    let is = rw items at c.placed-item.is in
    let inv = c.loop-placed.invariant in
    let so_far = inv.reached in
    let reached = rw (drop_mapped (placed_tree fs) commands i p lt is) at so_far.1 in
    let within = subst (λ (q : Placed). IsCommandIn fs bytes q.command) (sym is) (c.requires.within i p lt) in
    let longer = Extends_trans fs ts us inv.store c.in_err-step.ensures.store in
    let later = reached_later k ps fault ts us olds c.loop-placed.session (placed_tree fs p) (placed_tree us p) rest so_far.0 c.in_err-step.ensures.store inv.has inv.sound (placed_stays fs us bytes p longer within) reached in
    (went_stopped k ps fault (record_trees us olds) (record_trees us news) (session_in us olds c.loop-placed.session) (session_in us news c.step.new.session) (placed_tree us p) rest so_far.0 (g.K.Sink.written c.args.out.now) (g.K.Sink.written c.loop-placed.out) (g.K.Sink.written c.step.new.out) c.in_err-step.field-0.0 later so_far.2 c.in_err-step.ensures.leaves).1

pub returns-in_err-step-clause-went : goal.returns-in_err-step-clause-went
returns-in_err-step-clause-went g c =
    let fs = c.args.store.now in
    let ts = c.loop-placed.store in
    let us = c.step.new.store in
    let bytes = c.args.bytes.now in
    let k = setting (g.R.Reducers.kinds c.args.decider.now) bytes in
    let commands = c.args.script.now.commands in
    let fault = c.args.script.now.fault in
    let ps = map (placed_tree fs) commands in
    let i = c.loop-placed.placed-index in
    let rest = drop (i + 1) ps in
    let p = c.placed-item.result in
    let olds = c.loop-placed.journal.items in
    let news = c.step.new.journal.items in
    let items = c.as_slice-placed-items.ensures in
    let lt = rw items at c.loop-placed-test.true in
    let is = rw items at c.placed-item.is in
    let inv = c.loop-placed.invariant in
    let so_far = inv.reached in
    let reached = rw (drop_mapped (placed_tree fs) commands i p lt is) at so_far.1 in
    let within = subst (λ (q : Placed). IsCommandIn fs bytes q.command) (sym is) (c.requires.within i p lt) in
    let longer = Extends_trans fs ts us inv.store c.in_err-step.ensures.store in
    let later = reached_later k ps fault ts us olds c.loop-placed.session (placed_tree fs p) (placed_tree us p) rest so_far.0 c.in_err-step.ensures.store inv.has inv.sound (placed_stays fs us bytes p longer within) reached in
    let told = err_from_is_err_and c.from_residual.result c.from_residual.ensures.1 in
    rw (told.1, told.2) (went_stopped k ps fault (record_trees us olds) (record_trees us news) (session_in us olds c.loop-placed.session) (session_in us news c.step.new.session) (placed_tree us p) rest so_far.0 (g.K.Sink.written c.args.out.now) (g.K.Sink.written c.loop-placed.out) (g.K.Sink.written c.step.new.out) c.in_err-step.field-0.0 later so_far.2 c.in_err-step.ensures.leaves).0

pub returns-clause-records : goal.returns-clause-records
returns-clause-records g c = reached_right _ _ _ _ _ _ _ c.loop-placed.invariant.reached.1

pub returns-clause-went : goal.returns-clause-went
returns-clause-went g c =
    let fs = c.args.store.now in
    let commands = c.args.script.now.commands in
    let so_far = c.loop-placed.invariant.reached in
    let over : length (map (placed_tree fs) commands) ≤ c.loop-placed.placed-index = rw length-map (rw c.as_slice-placed-items.ensures at c.loop-placed-test.false) in
    let reached = rw (drop_all c.loop-placed.placed-index (map (placed_tree fs) commands) over) at so_far.1 in
    reached_end _ _ _ _ _ _ _ _ reached so_far.2
