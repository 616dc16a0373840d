-- Commands that were read have what a runner asks of them.
use Rattle.std.proofs.Common.{ℕ, List, All}
use Rattle.qterm.specs.Tree.{Tree}
use Rattle.qterm.specs.Store.{tree_at}
use Rattle.qterm.proofs.Alls.{All-weaker}
use Rattle.smt_words.specs.declared.command.Command.{Command}
use Rattle.smt_words.specs.declared.command.Command.TheVariants as command
use Rattle.smt_words.specs.declared.script.Placed.{Placed}
use Rattle.smt_command.specs.Given.{IsCommandIn as IsRead}
use Rattle.script_run.specs.Steps.{IsCommandIn}
use Rattle.script_run.proofs.Shallow.{shallow_read}

command_read : (ts : List Tree) (bytes : List ℕ) (c : Command) → IsRead ts bytes c → IsCommandIn ts bytes c
command_read ts bytes (command.Assert id) h = (h.0, shallow_read (tree_at ts id) h.1)
command_read ts bytes (command.GetValue asked) h = h
command_read ts bytes c h = h

pub commands_read : (ts : List Tree) (bytes : List ℕ) (ps : List Placed) → All (λ (p : Placed). IsRead ts bytes p.command) ps → All (λ (p : Placed). IsCommandIn ts bytes p.command) ps
commands_read ts bytes ps h = All-weaker (λ (p : Placed). IsRead ts bytes p.command) (λ (p : Placed). IsCommandIn ts bytes p.command) ps (λ p. command_read ts bytes p.command) h
