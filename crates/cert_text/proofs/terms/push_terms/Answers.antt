use Rattle.std.proofs.Common.{◌≡◌, ◌++◌, ◌∷◌, [], ℕ, List, length, ap, sym, subst, ◌∙◌, append-nil, arith}
use Rattle.qterm.specs.Store.{trees_of}
use Rattle.cert_text.specs.declared.terms.Task.{Task}
use Rattle.cert_text.specs.declared.terms.Task.TheVariants.{Visit}
use Rattle.cert_text.specs.TermLines.{term_lines, with_lines}
use Rattle.cert_text.specs.Waiting.{IsReady, waiting}
use Rattle.cert_text.proofs.Stack.{first_ready, first_waits, no_more}
use Rattle.cert_text.proofs.terms.push_terms.Goals as goal

pub loop-task-init : goal.loop-task-init
loop-task-init c =
    let ts = c.args.store.now in
    let known = trees_of ts c.args.lines.now in
    let e : c.push.new.self.items ≡ Visit c.args.id ∷ [] = c.in_ok-push.ensures.items ∙ ap (λ (ps : List Task). ps ++ Visit c.args.id ∷ []) c.new-tasks.ensures.items in
    record {
      ready = subst (IsReady ts c.args.lines.now) (sym e) (first_ready ts c.args.lines.now c.args.id c.requires.has c.requires.lines);
      text = ap (λ (ps : List Task). c.args.text.now.items ++ term_lines known (waiting ts ps)) e ∙ ap (λ us. c.args.text.now.items ++ term_lines known us) (first_waits ts c.args.id);
      known = ap (λ (ps : List Task). with_lines known (waiting ts ps)) e ∙ ap (with_lines known) (first_waits ts c.args.id);
    }

pub returns-clause-text : goal.returns-clause-text
returns-clause-text c =
    let none_left : length c.loop-task.tasks.items ≡ 0 = grind arith in
    sym (append-nil c.loop-task.text.items) ∙ ap (λ (bs : List ℕ). c.loop-task.text.items ++ bs) (sym (no_more c.args.store.now (trees_of c.args.store.now c.loop-task.lines) c.loop-task.tasks.items none_left).0) ∙ c.loop-task.invariant.text

pub returns-clause-known : goal.returns-clause-known
returns-clause-known c =
    let none_left : length c.loop-task.tasks.items ≡ 0 = grind arith in
    sym (no_more c.args.store.now (trees_of c.args.store.now c.loop-task.lines) c.loop-task.tasks.items none_left).1 ∙ c.loop-task.invariant.known
