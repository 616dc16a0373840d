-- Answers stay what they are as the store grows.
use Rattle.std.proofs.Common.{◌≡◌, List, [], ◌∷◌, All, refl, ap}
use Rattle.qterm.specs.declared.name.Sort.TheVariants as sort
use Rattle.qterm.specs.Tree.{Tree}
use Rattle.qterm.specs.Store.{Extends}
use Rattle.qterm.proofs.Alls.{All-head, All-tail, All-weaker}
use Rattle.qterm.proofs.Fitting.{All_HasSort_extends}
use Rattle.qgoal.specs.declared.goal.Goal.{Goal}
use Rattle.qgoal.specs.Goal.{HasGoal}
use Rattle.qgoal.proofs.Goals.{goal_tree_extends}
use Rattle.deriv.specs.Outcome.{goal_trees}
use Rattle.tac_cert.specs.Accepts.{most_splits}
use Rattle.cert_check.proofs.Splitting.{fits_stay}
use Rattle.check_answer.specs.declared.answers.Answer.{Answer}
use Rattle.check_answer.specs.declared.answers.Answer.TheVariants as answers
use Rattle.script_text.specs.Answers.{Unsat, Subgoals}
use Rattle.script_shown.specs.Trees.{answer_tree, HasAnswer}
use Rattle.script_shown.proofs.CertStays.{cert_text_stays}

goals_stay : (ts us : List Tree) (gs : List Goal) → Extends ts us → All (HasGoal ts) gs → goal_trees us gs ≡ goal_trees ts gs
goals_stay ts us [] e h = refl
goals_stay ts us (g ∷ gs) e h =
    λ k. goal_tree_extends ts us g e (All-head (HasGoal ts) g gs h) k ∷ goals_stay ts us gs e (All-tail (HasGoal ts) g gs h) k

pub answer_stays : (ts us : List Tree) (a : Answer) → Extends ts us → HasAnswer ts a → answer_tree us a ≡ answer_tree ts a
answer_stays ts us (answers.Sat model) e h = refl
answer_stays ts us (answers.Unsat cert) e h = ap Unsat (cert_text_stays ts us cert e h)
answer_stays ts us (answers.Unknown reason) e h = refl
answer_stays ts us (answers.Subgoals goals) e h = ap Subgoals (goals_stay ts us goals e h)
answer_stays ts us (answers.NoSubgoals reason) e h = refl

pub has_answer_later : (ts us : List Tree) (a : Answer) → Extends ts us → HasAnswer ts a → HasAnswer us a
has_answer_later ts us (answers.Sat model) e h = tt
has_answer_later ts us (answers.Unsat cert) e h = fits_stay ts us most_splits cert.root e h
has_answer_later ts us (answers.Unknown reason) e h = tt
has_answer_later ts us (answers.Subgoals goals) e h = All-weaker (HasGoal ts) (HasGoal us) goals (λ g. All_HasSort_extends sort.Bool ts us g.formulas e) h
has_answer_later ts us (answers.NoSubgoals reason) e h = tt
