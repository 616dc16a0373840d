-- What a proof leaves stays the same as the store grows.
use Rattle.std.proofs.Common.{◌≡◌, List, [], ◌∷◌, Option, Some, None, ◌∙◌}
use Rattle.qterm.specs.Tree.{Tree, Trees}
use Rattle.qterm.specs.Store.{Extends}
use Rattle.tac_cert.specs.Items.{Item}
use Rattle.tac_cert.specs.declared.cert.Step.{Step}
use Rattle.tac_cert.specs.Accepts.{AfterSteps, StepsFit}
use Rattle.tac_cert.proofs.Staying.{gives_stays, steps_stay as fits_stay}
use Rattle.proof_conv.specs.declared.plan.Plan.{Plan}
use Rattle.proof_conv.specs.Leaves.{StepsLeave, Leaves, leaves_open, leaves_split, LeaveEach, leave_none, leave_more}
use Rattle.proof_conv.specs.Leads.{Leads}

run_stays : (ts us : List Tree) (items : List Item) (ss : List Step) (P : List Item → Type 0) → Extends ts us → StepsFit ts ss → AfterSteps ts items ss P → AfterSteps us items ss P
run_stays ts us items [] P e f h = h
run_stays ts us items (s ∷ ss) P e f h = (h.0, gives_stays ts us items s e f.0 ∙ h.1, run_stays ts us h.0 ss P e f.1 h.2)

pub steps_stay : (ts us : List Tree) (items : List Item) (ss : List Step) (after : List Item) → Extends ts us → StepsLeave ts items ss after → StepsLeave us items ss after
steps_stay ts us items ss after e h = record {
  there = fits_stay ts us ss e h.there;
  run = run_stays ts us items ss (λ left. left ≡ after) e h.there h.run;
}

mutual
  leaves_stay : {ts us : List Tree} {p : Plan} {items : List Item} {outs : List (List Item)} → Extends ts us → Leaves ts p items outs → Leaves us p items outs
  leaves_stay {ts = ts} {us = us} {p = p} {items = items} e (leaves_open after steps at) = leaves_open after (steps_stay ts us items p.steps after e steps) at
  leaves_stay {ts = ts} {us = us} {p = p} {items = items} e (leaves_split after i cs t others steps at item each) = leaves_split after i cs t others (steps_stay ts us items p.steps after e steps) at item (each_stays e each)

  each_stays : {ts us : List Tree} {cs : List Plan} {vs : Trees} {items : List Item} {outs : List (List Item)} → Extends ts us → LeaveEach ts cs vs items outs → LeaveEach us cs vs items outs
  each_stays e leave_none = leave_none
  each_stays e (leave_more outs others one rest all) = leave_more outs others (leaves_stay e one) (each_stays e rest) all

pub leads_on : (ts us : List Tree) (o : Option Plan) (goal : List Tree) (subgoals : List (List Tree)) → Extends ts us → Leads ts o goal subgoals → Leads us o goal subgoals
leads_on ts us None goal subgoals e h = tt
leads_on ts us (Some p) goal subgoals e h = leaves_stay e h
