use Rattle.std.proofs.Common.{◌≡◌, ◌∙◌, ◌++◌, ◌∷◌, [], List, length, map, None, All, sym, ap, subst, arith}
use Rattle.std.specs.Option.{option_copied}
use Rattle.sexp_read.specs.Sexp.{next_at}
use Rattle.qterm.proofs.Extending.{Extends_refl, Extends_trans}
use Rattle.qterm.proofs.Alls.{All-nil}
use Rattle.smt_words.specs.declared.script.Placed.{Placed}
use Rattle.smt_words.specs.Command.{ScriptTree, placed_tree}
use Rattle.smt_names.specs.Table.{Entry, AreThere, IsThere}
use Rattle.smt_command.specs.declared.reading.Found.TheVariants as found
use Rattle.smt_command.specs.Change.{in_force}
use Rattle.smt_command.specs.Given.{IsFound}
use Rattle.smt_command.specs.Script.{Ends, Goes, first_of, script_at, script_of}
use Rattle.smt_command.proofs.Forces.{force_reset}
use Rattle.smt_command.proofs.Placed.{IsPlacedIn, placed_extends, placed_more, in_more}
use Rattle.smt_command.proofs.Scripts.{after_commands, script_ends, script_exits, script_goes, script_over, goes_within, all_told, exit_told}
use Rattle.smt_command.proofs.reading.read.Goals as goal

pub loop-at-init : goal.loop-at-init
unfolding script_of
loop-at-init c =
    let bytes = c.args.bytes.now in
    let names = option_copied c.args.reducers in
    let ts = c.args.store.now in
    let start = c.new-symbols.result in
    let b = c.new-symbols.ensures in
    record {
      within = omega arith;
      told = ap (λ (cs : List Placed). after_commands (map (placed_tree ts) cs) (script_at names bytes 0 (in_force ts start))) c.new-commands.ensures ∙ ap (script_at names bytes 0) (force_reset ts start start b.symbols b.asserts b.levels);
      terms = subst (All (IsPlacedIn ts)) (sym c.new-commands.ensures) (All-nil (IsPlacedIn ts));
      few = let l = ap length b.levels in omega (arith, l);
      there = subst (AreThere ts) (sym b.symbols) (All-nil (λ (e : Entry). IsThere ts e.1));
      counted = b.counted ts;
      extends = Extends_refl ts;
    }

pub returns-in-Ends-clause-script : goal.returns-in-Ends-clause-script
returns-in-Ends-clause-script c =
    let bytes = c.args.bytes.now in
    let names = option_copied c.args.reducers in
    let now = c.loop-at in
    let us = c.stands_at.new.store in
    let s = in_force now.store now.symbols in
    let fault = c.in-Ends.fault in
    let found : IsFound us c.stands_at.new.symbols (first_of names bytes s c.in_ok-next.next) (found.Ends fault) = rw c.in-Ends.is at c.in_ok-fault.ensures.found in
    let is : first_of names bytes s (next_at bytes now.at) ≡ Ends fault = ap (first_of names bytes s) (sym c.in_ok-next.ensures.next) ∙ found in
    ap (λ cs. let s : ScriptTree = record { commands = cs; fault = fault } in s) (placed_extends now.store us now.commands c.in_ok-fault.ensures.extends now.invariant.terms)
    ∙ all_told (map (placed_tree now.store) now.commands) fault _ _ (script_ends names bytes now.at s c.loop-at-test.true fault is) now.invariant.told

pub returns-then-ends-clause-script : goal.returns-then-ends-clause-script
returns-then-ends-clause-script c =
    let bytes = c.args.bytes.now in
    let names = option_copied c.args.reducers in
    let now = c.loop-at in
    let us = c.stands_at.new.store in
    let s = in_force now.store now.symbols in
    let placed = c.in-Goes.placed in
    let found : IsFound us c.stands_at.new.symbols (first_of names bytes s c.in_ok-next.next) (found.Goes placed c.in-Goes.end) = rw c.in-Goes.is at c.in_ok-fault.ensures.found in
    let is : first_of names bytes s (next_at bytes now.at) ≡ Goes (placed_tree us placed) c.in-Goes.end (in_force us c.stands_at.new.symbols) = ap (first_of names bytes s) (sym c.in_ok-next.ensures.next) ∙ found.0 in
    rw c.in_ok-push-in-Goes.ensures.ok
    (exit_told (map (placed_tree now.store) now.commands) (map (placed_tree us) (now.commands ++ placed ∷ [])) (placed_tree us placed) (script_at names bytes now.at s) _
    (placed_more now.store us now.commands placed c.in_ok-fault.ensures.extends now.invariant.terms)
    (script_exits names bytes now.at s c.loop-at-test.true (placed_tree us placed) c.in-Goes.end (in_force us c.stands_at.new.symbols) is (sym (c.if-ends.ensures us)))
    now.invariant.told)

pub returns-then-ends-clause-store : goal.returns-then-ends-clause-store
returns-then-ends-clause-store c = Extends_trans c.args.store.now c.loop-at.store c.stands_at.new.store c.loop-at.invariant.extends c.in_ok-fault.ensures.extends

pub returns-then-ends-clause-within : goal.returns-then-ends-clause-within
returns-then-ends-clause-within c =
    let now = c.loop-at in
    let us = c.stands_at.new.store in
    let placed = c.in-Goes.placed in
    let found : IsFound us c.stands_at.new.symbols (first_of (option_copied c.args.reducers) c.args.bytes.now (in_force now.store now.symbols) c.in_ok-next.next) (found.Goes placed c.in-Goes.end) = rw c.in-Goes.is at c.in_ok-fault.ensures.found in
    rw c.in_ok-push-in-Goes.ensures.ok (in_more now.store us now.commands placed c.in_ok-fault.ensures.extends now.invariant.terms found.1)

pub loop-at-preserved : goal.loop-at-preserved
loop-at-preserved c =
    let bytes = c.args.bytes.now in
    let names = option_copied c.args.reducers in
    let now = c.loop-at in
    let us = c.stands_at.new.store in
    let s = in_force now.store now.symbols in
    let t = in_force us c.stands_at.new.symbols in
    let placed = c.in-Goes.placed in
    let end = c.in-Goes.end in
    let next = c.in_ok-next.next in
    let found : IsFound us c.stands_at.new.symbols (first_of names bytes s next) (found.Goes placed end) = rw c.in-Goes.is at c.in_ok-fault.ensures.found in
    let is : first_of names bytes s (next_at bytes now.at) ≡ Goes (placed_tree us placed) end t = ap (first_of names bytes s) (sym c.in_ok-next.ensures.next) ∙ found.0 in
    let ends = goes_within names bytes s next (placed_tree us placed) _ _ end t found.0 c.in_ok-next.ensures.within in
    record {
      within = ends.1;
      told = rw c.in_ok-push-in-Goes.ensures.ok
          (ap (λ cs. after_commands cs (script_at names bytes end t)) (placed_more now.store us now.commands placed c.in_ok-fault.ensures.extends now.invariant.terms)
          ∙ sym (script_goes names bytes now.at s c.loop-at-test.true (placed_tree us placed) end t ends.0 is (sym (c.if-ends.ensures us)) (map (placed_tree now.store) now.commands))
          ∙ now.invariant.told);
      terms = rw c.in_ok-push-in-Goes.ensures.ok (in_more now.store us now.commands placed c.in_ok-fault.ensures.extends now.invariant.terms found.1);
      few = c.in_ok-fault.ensures.few;
      there = c.in_ok-fault.ensures.there;
      counted = found.2;
      extends = Extends_trans c.args.store.now now.store us now.invariant.extends c.in_ok-fault.ensures.extends;
    }

pub returns-clause-script : goal.returns-clause-script
returns-clause-script c =
    let now = c.loop-at in
    all_told (map (placed_tree now.store) now.commands) None _ _ (script_over (option_copied c.args.reducers) c.args.bytes.now now.at (in_force now.store now.symbols) c.loop-at-test.false) now.invariant.told
