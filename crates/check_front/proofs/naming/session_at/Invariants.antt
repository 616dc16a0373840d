use Rattle.std.proofs.Common.{◌≡◌, drop, map, All, None}
use Rattle.qterm.specs.declared.name.Sort.TheVariants as sort
use Rattle.qterm.specs.Store.{HasSort}
use Rattle.smt_words.specs.Command.{placed_tree}
use Rattle.script_text.specs.Session.{session_tree, start}
use Rattle.check_front.specs.Named.{asserts_at}
use Rattle.check_front.proofs.naming.session_at.Given as goal

-- the commands that are left have the named check where all have it
abbrev pub invariant-loop-placed : goal.invariant-loop-placed
invariant-loop-placed l = record {
  found : asserts_at l.left (session_tree l.store None l.session) (drop l.placed-index (map (placed_tree l.store) l.script.commands)) ≡ asserts_at l.number start (map (placed_tree l.store) l.script.commands);
  formulas : All (HasSort sort.Bool l.store) l.session.asserts;
}
