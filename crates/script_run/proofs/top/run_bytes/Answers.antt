use Rattle.std.proofs.Common.{◌∙◌, ℕ, List, Some, ap, subst}
use Rattle.smt_words.specs.Command.{ScriptTree}
use Rattle.smt_command.specs.Script.{script_of}
use Rattle.script_text.proofs.Reaching.{none_right}
use Rattle.script_run.specs.Records.{record_trees}
use Rattle.script_run.specs.Run.{RanOver}
use Rattle.script_run.proofs.Reading.{commands_read}
use Rattle.script_run.proofs.top.run_bytes.Goals as goal

pub run_commands-requires-clause-within : goal.run_commands-requires-clause-within
run_commands-requires-clause-within g c = commands_read c.commands.new.store c.args.bytes.now c.in-Ok-commands.script.commands c.in-Ok-commands.ensures.within

pub returns-in-Err-clause-records : goal.returns-in-Err-clause-records
returns-in-Err-clause-records g c = rw c.requires (none_right _ _ _)

pub returns-in_default-clause-records : goal.returns-in_default-clause-records
returns-in_default-clause-records g c = rw c.requires (none_right _ _ _)

pub returns-clause-ran : goal.returns-clause-ran
returns-clause-ran g c =
    let kinds = g.R.Reducers.kinds c.args.decider.now in
    let bytes = c.args.bytes.now in
    let journal = record_trees c.run_commands.new.store c.run_commands.new.journal.items in
    let old = g.K.Sink.written c.args.out.now in
    let new = g.K.Sink.written c.run_commands.new.out in
    let flushed = g.K.Sink.flushed c.run_commands.new.out in
    let named = c.as_slice.ensures.value ∙ c.in-Ok.ensures in
    let read = c.in-Ok-commands.ensures.script ∙ ap (λ (names : List (List ℕ)). script_of (Some names) bytes) named in
    subst (λ (s : ScriptTree). RanOver kinds bytes s journal old new flushed c.run_commands.result) read c.run_commands.ensures.ran
