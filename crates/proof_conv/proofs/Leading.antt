-- What converters lead to, by their plans.
use Rattle.std.proofs.Common.{◌≡◌, ℕ, List, [], ◌∷◌, ◌++◌, length, map, Option, Some, None, refl, sym, ap, subst, ◌∙◌, arith, append-nil, append_assoc}
use Rattle.qterm.specs.Tree.{Tree, Trees, none, more}
use Rattle.tac_cert.specs.Items.{Item}
use Rattle.tac_cert.specs.declared.cert.Step.{Step}
use Rattle.tac_cert.specs.Accepts.{as_items}
use Rattle.proof_conv.specs.declared.plan.Plan.{Plan}
use Rattle.proof_conv.specs.declared.plan.End.TheVariants as end
use Rattle.proof_conv.specs.Plan.{joined}
use Rattle.proof_conv.specs.Putting.{Puts, puts_open, puts_split, PutEach, put_none, put_more, before, cases}
use Rattle.proof_conv.specs.Leaves.{StepsLeave, Leaves, leaves_open, leaves_split, LeaveEach, leave_none, leave_more}
use Rattle.proof_conv.specs.Accepted.{all_items}
use Rattle.proof_conv.specs.Conv.{Converter, open_plan, split_plan, all_plans, with_plan, IsThen}
use Rattle.proof_conv.specs.Leads.{Leads, LeadEach, CasesLead, SplitLeads}
use Rattle.proof_conv.proofs.Fuel.{steps_then}
use Rattle.proof_conv.proofs.ClosingLaw.{put_count, leave_count, open_split, same_cases}

-- ---- one place
pub open_leads : (ts : List Tree) (ss : List Step) (o : Option Plan) → o ≡ Some (open_plan ss) → (goal subgoal : List Tree) → StepsLeave ts (as_items goal) ss (as_items subgoal) → Leads ts o goal (subgoal ∷ [])
open_leads ts ss o is goal subgoal h = subst (λ x. Leads ts x goal (subgoal ∷ [])) (sym is) (leaves_open (as_items subgoal) h refl)

-- ---- a split
cases_leave : (ts : List Tree) (sss : List (List Step)) (us : Trees) (goal : List Tree) (subgoals : List (List Tree)) → CasesLead ts sss us goal subgoals → LeaveEach ts (map open_plan sss) us (as_items goal) (all_items subgoals)
cases_leave ts [] none goal [] h = leave_none
cases_leave ts (ss ∷ sss) (more t us) goal (s ∷ subgoals) h = leave_more (as_items s ∷ []) (all_items subgoals) (leaves_open (as_items s) h.0 refl) (cases_leave ts sss us goal subgoals h.1) refl
cases_leave ts [] none goal (s ∷ subgoals) h = absurd h
cases_leave ts [] (more t us) goal subgoals h = absurd h
cases_leave ts (ss ∷ sss) none goal subgoals h = absurd h
cases_leave ts (ss ∷ sss) (more t us) goal [] h = absurd h

pub split_leads : (ts : List Tree) (n : ℕ) (sss : List (List Step)) (o : Option Plan) → o ≡ Some (split_plan n sss) → (goal : List Tree) (subgoals : List (List Tree)) → SplitLeads ts n sss goal subgoals → Leads ts o goal subgoals
split_leads ts n sss o is goal subgoals h =
    subst (λ x. Leads ts x goal subgoals) (sym is)
    (leaves_split (as_items goal) n (map open_plan sss) h.first h.others (record { there = tt; run = refl }) refl h.is (cases_leave ts sss (more h.first h.others) goal subgoals h.each))

-- ---- plans in the places of a plan
-- each plan leaves its lists from its items
abbrev LeaveAll : List Tree → List Plan → List (List Item) → List (List (List Item)) → Type 0
LeaveAll ts [] [] [] = Unit {0}
LeaveAll ts (q ∷ qs) (o ∷ os) (us ∷ uss) = Leaves ts q o us × LeaveAll ts qs os uss
LeaveAll ts [] [] (us ∷ uss) = ⊥
LeaveAll ts [] (o ∷ os) uss = ⊥
LeaveAll ts (q ∷ qs) [] uss = ⊥
LeaveAll ts (q ∷ qs) (o ∷ os) [] = ⊥

-- the lists of the first plans, and those of the others
record Parted (ts : List Tree) (qs others : List Plan) (os more_os : List (List Item)) (uss : List (List (List Item))) : Type 0 where
  first : List (List (List Item))
  second : List (List (List Item))
  is : uss ≡ first ++ second
  leave : LeaveAll ts qs os first
  leaves : LeaveAll ts others more_os second

part_all : (ts : List Tree) (qs others : List Plan) (os more_os : List (List Item)) (uss : List (List (List Item))) → length qs ≡ length os → LeaveAll ts (qs ++ others) (os ++ more_os) uss → Parted ts qs others os more_os uss
part_all ts [] others [] more_os uss e h = record { first = []; second = uss; is = refl; leave = tt; leaves = h }
part_all ts (q ∷ qs) others (o ∷ os) more_os (us ∷ uss) e h =
    let k = part_all ts qs others os more_os uss (omega (arith, e)) h.1 in
    record { first = us ∷ k.first; second = k.second; is = ap (λ x. us ∷ x) k.is; leave = (h.0, k.leave); leaves = k.leaves }
part_all ts [] others (o ∷ os) more_os uss e h = absurd (omega (arith, e))
part_all ts (q ∷ qs) others [] more_os uss e h = absurd (omega (arith, e))
part_all ts (q ∷ qs) others (o ∷ os) more_os [] e h = absurd h

pub joined_both : {X : Type 0} (xss yss : List (List X)) → joined (xss ++ yss) ≡ joined xss ++ joined yss
joined_both [] yss = refl
joined_both (xs ∷ xss) yss = ap (λ u. xs ++ u) (joined_both xss yss) ∙ sym (append_assoc xs (joined xss) (joined yss))

-- steps before a plan
before_leaves : {ts : List Tree} {q : Plan} {mid : List Item} {us : List (List Item)} (ss : List Step) (items : List Item) → StepsLeave ts items ss mid → Leaves ts q mid us → Leaves ts (before ss q) items us
before_leaves {ts = ts} {q = q} {mid = mid} ss items h (leaves_open after steps at) = leaves_open after (steps_then ts items mid after ss q.steps h steps) at
before_leaves {ts = ts} {q = q} {mid = mid} ss items h (leaves_split after i cs t us steps at is each) = leaves_split after i cs t us (steps_then ts items mid after ss q.steps h steps) at is each

mutual
  filled : {ts : List Tree} {p r : Plan} {qs : List Plan} {items : List Item} {outs : List (List Item)} → Puts before cases p qs r → Leaves ts p items outs → (uss : List (List (List Item))) → LeaveAll ts qs outs uss → Leaves ts r items (joined uss)
  filled {ts = ts} {p = p} {items = items} (puts_open {q = q} at is) (leaves_open after steps at2) [] h = absurd h
  filled {ts = ts} {p = p} {items = items} (puts_open {q = q} at is) (leaves_open after steps at2) (us ∷ []) h =
      subst (λ x. Leaves ts x items (us ++ [])) (sym is) (subst (Leaves ts (before p.steps q) items) (sym (append-nil us)) (before_leaves p.steps items steps h.0))
  filled {ts = ts} {p = p} {items = items} (puts_open {q = q} at is) (leaves_open after steps at2) (us ∷ vs ∷ uss) h = absurd h.1
  filled {p = p} (puts_open at is) (leaves_split after i cs t us steps at2 item each) uss h = absurd (open_split p i cs at at2)
  filled {p = p} (puts_split i cs rs at each is) (leaves_open after steps at2) uss h = absurd (open_split p i cs at2 at)
  filled {ts = ts} {p = p} {items = items} {outs = outs} (puts_split i cs rs at each is) (leaves_split after j ds t us steps at2 item leave) uss h =
      let same = same_cases p j i ds cs at2 at in
      let l = subst (λ es. LeaveEach ts es (more t us) after outs) same.1 leave in
      subst (λ x. Leaves ts x items (joined uss)) (sym is) (leaves_split after j rs t us steps (ap (λ n. end.Split n rs) (sym same.0)) item (each_filled each l uss h))

  each_filled : {ts : List Tree} {cs qs rs : List Plan} {us : Trees} {items : List Item} {outs : List (List Item)} → PutEach before cases cs qs rs → LeaveEach ts cs us items outs → (uss : List (List (List Item))) → LeaveAll ts qs outs uss → LeaveEach ts rs us items (joined uss)
  each_filled put_none leave_none [] h = leave_none
  each_filled put_none leave_none (u ∷ uss) h = absurd h
  each_filled {ts = ts} {qs = things} (put_more qs others one rest all) (leave_more outs more_outs leave leaves whole) uss h =
      let k = part_all ts qs others outs more_outs uss (put_count one ∙ sym (leave_count leave)) (subst (λ x. LeaveAll ts x (outs ++ more_outs) uss) all (subst (λ x. LeaveAll ts things x uss) whole h)) in
      leave_more (joined k.first) (joined k.second) (filled one leave k.first k.leave) (each_filled rest leaves k.second k.leaves) (ap joined k.is ∙ joined_both k.first k.second)

-- ---- converters
each_leaves : (ts : List Tree) (cs : List Converter) (qs : List Plan) (goals : List (List Tree)) (subss : List (List (List Tree))) → all_plans cs ≡ Some qs → LeadEach ts cs goals subss → LeaveAll ts qs (all_items goals) (map all_items subss)
each_leaves ts [] qs [] [] e h = let is : [] ≡ qs = cc in subst (λ x. LeaveAll ts x [] []) is tt
each_leaves ts (c ∷ cs) qs (g ∷ goals) (subs ∷ subss) e h = by (λ ps a. each_leaves ts cs ps goals subss a h.1) c.0 (all_plans cs) refl e h.0
  where
    by : ((ps : List Plan) → all_plans cs ≡ Some ps → LeaveAll ts ps (all_items goals) (map all_items subss)) → (p : Option Plan) (o : Option (List Plan)) → all_plans cs ≡ o → with_plan p o ≡ Some qs → Leads ts p g subs
        → LeaveAll ts qs (as_items g ∷ all_items goals) (all_items subs ∷ map all_items subss)
    by below None o a e l = cc
    by below (Some p) None a e l = cc
    by below (Some p) (Some ps) a e l = let is : (p ∷ ps) ≡ qs = cc in subst (λ x. LeaveAll ts x (as_items g ∷ all_items goals) (all_items subs ∷ map all_items subss)) is (l, below ps a)
each_leaves ts [] qs [] (s ∷ subss) e h = absurd h
each_leaves ts [] qs (g ∷ goals) subss e h = absurd h
each_leaves ts (c ∷ cs) qs [] subss e h = absurd h
each_leaves ts (c ∷ cs) qs (g ∷ goals) [] e h = absurd h

items_both : (gs hs : List (List Tree)) → all_items (gs ++ hs) ≡ all_items gs ++ all_items hs
items_both [] hs = refl
items_both (g ∷ gs) hs = ap (λ u. as_items g ∷ u) (items_both gs hs)

joined_items : (subss : List (List (List Tree))) → joined (map all_items subss) ≡ all_items (joined subss)
joined_items [] = refl
joined_items (gs ∷ subss) = ap (λ u. all_items gs ++ u) (joined_items subss) ∙ sym (items_both gs (joined subss))

pub then_leads : (o : Option Plan) (cs : List Converter) (r : Option Plan) → IsThen o (all_plans cs) r → (ts : List Tree) (goal : List Tree) (mids : List (List Tree)) (subss : List (List (List Tree))) → Leads ts o goal mids → LeadEach ts cs mids subss → Leads ts r goal (joined subss)
then_leads o cs None is ts goal mids subss l each = tt
then_leads None cs (Some r) is ts goal mids subss l each = cc
then_leads (Some p) cs (Some r) is ts goal mids subss l each = by (all_plans cs) refl is
  where
    by : (qs : Option (List Plan)) → all_plans cs ≡ qs → IsThen (Some p) qs (Some r) → Leads ts (Some r) goal (joined subss)
    by None e is = cc
    by (Some qs) e is = subst (Leaves ts r (as_items goal)) (joined_items subss) (filled is l (map all_items subss) (each_leaves ts cs qs mids subss e each))
