use Rattle.std.proofs.Common.{◌≡◌, ◌++◌, ◌∷◌, ◌<◌, [], ℕ, List, ap, sym, subst, ◌∙◌}
use Rattle.std.proofs.lemmas.Result.{on_ok_weaker}
use Rattle.qterm.specs.Store.{trees_of}
use Rattle.cert_text.specs.declared.terms.Task.TheVariants.{Visit, Line}
use Rattle.cert_text.specs.TermLines.{term_lines, with_lines}
use Rattle.cert_text.specs.Waiting.{IsReady, AreDue, waiting, costs}
use Rattle.cert_text.proofs.Growing.{both_weaker}
use Rattle.cert_text.proofs.Stack.{top_due, visited_ready, visited_same, visited_less, line_ready, line_text, line_known, line_less}
use Rattle.cert_text.proofs.terms.turn.Goals as goal

pub write_line-requires-clause-due : goal.write_line-requires-clause-due
write_line-requires-clause-due c =
    let is : c.args.task ≡ Line c.in-Line.id = c.in-Line.is in
    let ps = c.args.tasks.now.items in
    let known = trees_of c.args.store.now c.args.lines.now in
    top_due c.args.store.now known ps (Line c.in-Line.id) (subst (λ p. AreDue c.args.store.now known (ps ++ p ∷ [])) is c.requires.ready.due)

pub returns-in-Visit-clause-ready : goal.returns-in-Visit-clause-ready
returns-in-Visit-clause-ready c =
    let is : c.args.task ≡ Visit c.in-Visit.id = c.in-Visit.is in
    let ps = c.args.tasks.now.items in
    on_ok_weaker c.visit.result
    (λ v. visited_ready c.args.store.now c.args.lines.now ps c.visit.new.tasks.items c.in-Visit.id (subst (λ p. IsReady c.args.store.now c.args.lines.now (ps ++ p ∷ [])) is c.requires.ready) v) c.visit.ensures

pub returns-in-Visit-clause-text : goal.returns-in-Visit-clause-text
returns-in-Visit-clause-text c =
    let is : c.args.task ≡ Visit c.in-Visit.id = c.in-Visit.is in
    let ps = c.args.tasks.now.items in
    let known = trees_of c.args.store.now c.args.lines.now in
    on_ok_weaker c.visit.result
    (λ v. ap (λ (bs : List ℕ). c.args.text.now.items ++ bs)
    ((visited_same c.args.store.now c.args.lines.now ps c.visit.new.tasks.items c.in-Visit.id (subst (λ p. IsReady c.args.store.now c.args.lines.now (ps ++ p ∷ [])) is c.requires.ready) v).0
    ∙ ap (λ p. term_lines known (waiting c.args.store.now (ps ++ p ∷ []))) (sym is))) c.visit.ensures

pub returns-in-Visit-clause-known : goal.returns-in-Visit-clause-known
returns-in-Visit-clause-known c =
    let is : c.args.task ≡ Visit c.in-Visit.id = c.in-Visit.is in
    let ps = c.args.tasks.now.items in
    let known = trees_of c.args.store.now c.args.lines.now in
    on_ok_weaker c.visit.result
    (λ v. (visited_same c.args.store.now c.args.lines.now ps c.visit.new.tasks.items c.in-Visit.id (subst (λ p. IsReady c.args.store.now c.args.lines.now (ps ++ p ∷ [])) is c.requires.ready) v).1
    ∙ ap (λ p. with_lines known (waiting c.args.store.now (ps ++ p ∷ []))) (sym is)) c.visit.ensures

pub returns-in-Visit-clause-less : goal.returns-in-Visit-clause-less
returns-in-Visit-clause-less c =
    let is : c.args.task ≡ Visit c.in-Visit.id = c.in-Visit.is in
    let ps = c.args.tasks.now.items in
    on_ok_weaker c.visit.result
    (λ v. subst (λ p. costs c.args.store.now c.visit.new.tasks.items < costs c.args.store.now (ps ++ p ∷ [])) (sym is)
    (visited_less c.args.store.now (trees_of c.args.store.now c.args.lines.now) ps c.visit.new.tasks.items c.in-Visit.id v)) c.visit.ensures

pub returns-in-Line-clause-ready : goal.returns-in-Line-clause-ready
returns-in-Line-clause-ready c =
    let is : c.args.task ≡ Line c.in-Line.id = c.in-Line.is in
    let ps = c.args.tasks.now.items in
    let ready = subst (λ p. IsReady c.args.store.now c.args.lines.now (ps ++ p ∷ [])) is c.requires.ready in
    both_weaker c.write_line.result (line_ready c.args.store.now c.args.lines.now c.write_line.new.lines ps c.in-Line.id ready) c.write_line.ensures.known c.write_line.ensures.lines

pub returns-in-Line-clause-text : goal.returns-in-Line-clause-text
returns-in-Line-clause-text c =
    let is : c.args.task ≡ Line c.in-Line.id = c.in-Line.is in
    let ps = c.args.tasks.now.items in
    let known = trees_of c.args.store.now c.args.lines.now in
    both_weaker c.write_line.result
    (λ text known_now. line_text c.args.store.now c.args.lines.now c.write_line.new.lines ps c.in-Line.id c.args.text.now.items c.write_line.new.text.items text known_now
    ∙ ap (λ p. c.args.text.now.items ++ term_lines known (waiting c.args.store.now (ps ++ p ∷ []))) (sym is)) c.write_line.ensures.text c.write_line.ensures.known

pub returns-in-Line-clause-known : goal.returns-in-Line-clause-known
returns-in-Line-clause-known c =
    let is : c.args.task ≡ Line c.in-Line.id = c.in-Line.is in
    let ps = c.args.tasks.now.items in
    let known = trees_of c.args.store.now c.args.lines.now in
    on_ok_weaker c.write_line.result
    (λ known_now. line_known c.args.store.now c.args.lines.now c.write_line.new.lines ps c.in-Line.id known_now ∙ ap (λ p. with_lines known (waiting c.args.store.now (ps ++ p ∷ []))) (sym is)) c.write_line.ensures.known

pub returns-in-Line-clause-less : goal.returns-in-Line-clause-less
returns-in-Line-clause-less c =
    let is : c.args.task ≡ Line c.in-Line.id = c.in-Line.is in
    let ps = c.args.tasks.now.items in
    on_ok_weaker c.write_line.result (λ known_now. subst (λ p. costs c.args.store.now ps < costs c.args.store.now (ps ++ p ∷ [])) (sym is) (line_less c.args.store.now ps c.in-Line.id)) c.write_line.ensures.known
