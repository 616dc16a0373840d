-- The success of add-bounds, and its failures.
use Rattle.std.proofs.Common.{◌≡◌, ◌⊎◌, ◌++◌, ◌<◌, ◌≤◌, ℕ, ℤ, pos, to_z, of_z, arith, Bool as Truth, true, false, true≢false, List, [], ◌∷◌, map, length, All, Option, Some, None, Ok, Err, inl, inr, refl, sym, ap, subst, ◌∙◌, if◌then◌else◌}
use Rattle.std.specs.Option.{is_some}
use Rattle.qterm.specs.declared.name.Name.{Name}
use Rattle.qterm.specs.Tree.{Tree}
use Rattle.qterm.specs.declared.name.Sort.TheVariants as sort
use Rattle.qterm.specs.Store.{Extends, HasSort, tree_at, trees_of}
use Rattle.qterm.proofs.Fitting.{All_HasSort_extends}
use Rattle.qterm.proofs.KidsLaws.{length-trees_of}
use Rattle.qeval.specs.Bounds.{low_of, up_of}
use mir.Syntax.{w128}
use Rattle.std.proofs.lemmas.Int.{ints}
use Rattle.std.specs.Prelude.{nat_abs, negsuc, nat_lt}
use borrow.Author.Tests.{ltb-true, lt-ltb}
use Rattle.qlin.specs.CanonList.{canon_list}
use Rattle.qlist_laws.specs.Formulas.{AreFormulas}
use Rattle.qlist_laws.specs.Law.{KeepsModels}
use Rattle.qlist_laws.proofs.Own.{is_its_own_list}
use Rattle.qgoal.specs.declared.goal.Goal.{Goal}
use Rattle.qgoal.specs.declared.precision.Precision.{Precision}
use Rattle.qgoal.specs.declared.precision.Precision.TheVariants as precision
use Rattle.qgoal.specs.Precision.{join, is_down}
use Rattle.qgoal.specs.Goal.{GoalTree, goal_tree, HasGoal}
use Rattle.qsubst.specs.Names.{names_of}
use Rattle.name_bounds.specs.declared.table.Range.{Range}
use Rattle.name_bounds.specs.Missing.{is_int, low_bound, up_bound, if_none, missing_of, missing, all_missing, bounded, lacks_bounds, adding}
use Rattle.name_bounds.proofs.Lacking.{bounded_all}
use Rattle.qcanon.specs.declared.error.CanonError.{CanonError}
use Rattle.qcanon.specs.declared.error.CanonError.TheVariants as canon
use Rattle.qcanon.specs.Walk.{NamesFault}
use Rattle.tac_cert.specs.Accepts.{as_items}
use Rattle.deriv.specs.declared.kind.Kind.TheVariants as kinds
use Rattle.deriv.specs.Outcome.{IsOutcome, Done, goal_trees}
use Rattle.goal_depth.specs.Depths.{IsShallow, AreShallow, deepest, deepest_counted}
use Rattle.goal_depth.proofs.Lists.{list_shallow}
use Rattle.proof_conv.specs.declared.plan.Plan.{Plan}
use Rattle.proof_conv.specs.Leaves.{StepsLeave}
use Rattle.proof_conv.specs.Leads.{Leads, for_each, NestAtMost}
use Rattle.proof_conv.proofs.Staying.{steps_stay}
use Rattle.race_word.specs.declared.place.Place.{Place}
use Rattle.race_word.specs.declared.view.View.{View}
use Rattle.reducer_iface.specs.declared.env.Env.{Env}
use Rattle.reducer_iface.specs.declared.applied.Applied.{Applied}
use Rattle.reducer_iface.specs.Depths.{AllShallow}
use Rattle.reducer_iface.specs.Listed.{most_subterms, IsListed}
use Rattle.reducer_iface.specs.AddBoundsRow.{IsBounded}
use Rattle.reducer_iface.specs.Allowed.{IsSuccess, IsAllowed}
use Rattle.reducer_iface.proofs.RowsLaws.{honest_bounded}
use Rattle.reduce_base.specs.declared.fault.Fault.{Fault}
use Rattle.reduce_base.specs.declared.fault.Fault.TheVariants.{TooWide, TooLarge, Memory}
use Rattle.reduce_base.specs.declared.listing.Listed.{Listed}
use Rattle.reduce_base.specs.Fault.{IsFault, fault_of, stop_of}
use Rattle.tac_basic.proofs.Alone.{one_outcome, all_one}
use Rattle.tac_bounds.specs.One.{IsOne}
use Rattle.reduce_base.proofs.Tidying.{same_trees}
use Rattle.tac_bounds.specs.declared.bounding.Bounded.{Bounded}
use Rattle.tac_bounds.specs.declared.bounding.Bounded.TheVariants.{Same, Added}
use Rattle.tac_bounds.specs.Given.{IsLonger, AreBounded, IsUnder, IsGiven}

-- ---- bounds are within the limits on depth
low_shallow : (x : Name) (l : ℤ) → IsShallow (low_bound x l)
unfolding deepest deepest_counted
low_shallow x l = record { deep = omega arith; counts = omega arith }

up_shallow : (x : Name) (u : ℤ) → IsShallow (up_bound x u)
unfolding deepest deepest_counted
up_shallow x u = record { deep = omega arith; counts = omega arith }

both_shallow : (fs gs : List Tree) → AreShallow fs → AreShallow gs → AreShallow (fs ++ gs)
both_shallow [] gs p q = q
both_shallow (f ∷ fs) gs p q = (p.0, both_shallow fs gs p.1 q)

if_none_shallow : (known : Option ℤ) (f : Tree) → IsShallow f → AreShallow (if_none known f)
if_none_shallow None f h = (h, tt)
if_none_shallow (Some z) f h = tt

missing_shallow : (l u : ℤ) (x : Name) (r : Range) (int : Truth) → AreShallow (if int then missing_of l u x r else [])
missing_shallow l u x r true = both_shallow (if_none r.low (low_bound x l)) (if_none r.up (up_bound x u)) (if_none_shallow r.low (low_bound x l) (low_shallow x l)) (if_none_shallow r.up (up_bound x u) (up_shallow x u))
missing_shallow l u x r false = tt

all_shallow : (l u : ℤ) (fs : List Tree) (xs : List Name) → AreShallow (all_missing l u fs xs)
all_shallow l u fs [] = tt
all_shallow l u fs (x ∷ xs) = both_shallow (missing l u fs x) (all_missing l u fs xs) (missing_shallow l u x (record { low = low_of x fs; up = up_of x fs }) (is_int x.sort)) (all_shallow l u fs xs)

pub bounded_shallow : (l u : ℤ) (fs : List Tree) → AreShallow fs → AreShallow (bounded l u fs)
bounded_shallow l u fs h = both_shallow fs (all_missing l u fs (names_of fs)) h (all_shallow l u fs (names_of fs))

-- ---- whether a bound is missing, by how many formulas there are
as_many : (ts us : List Tree) (is all : List ℕ) (l u : ℤ) → trees_of us all ≡ bounded l u (trees_of ts is) → (length (trees_of ts is) ≡ length is) × (length (bounded l u (trees_of ts is)) ≡ length all)
as_many ts us is all l u e = (length-trees_of ts is, ap length (sym e) ∙ length-trees_of us all)

pub lacks_some : (ts us : List Tree) (is all : List ℕ) (l u : ℤ) (m n : ℕ) → trees_of us all ≡ bounded l u (trees_of ts is) → m ≡ length is → n ≡ length all → m < n → lacks_bounds l u (trees_of ts is) ≡ true
lacks_some ts us is all l u m n e a b h = let k = as_many ts us is all l u e in lt-ltb (length (trees_of ts is)) (length (bounded l u (trees_of ts is))) (omega (arith, k.0, k.1, a, b, h))

pub lacks_none : (ts us : List Tree) (is all : List ℕ) (l u : ℤ) (m n : ℕ) → trees_of us all ≡ bounded l u (trees_of ts is) → m ≡ length is → n ≡ length all → n ≤ m → lacks_bounds l u (trees_of ts is) ≡ false
lacks_none ts us is all l u m n e a b h = by (lacks_bounds l u (trees_of ts is)) refl
  where
    by : (lacks : Truth) → lacks_bounds l u (trees_of ts is) ≡ lacks → lacks ≡ false
    by true q = let k = as_many ts us is all l u e in absurd (omega (arith, k.0, k.1, a, b, h, ltb-true (length (trees_of ts is)) (length (bounded l u (trees_of ts is))) q))
    by false q = refl

-- ---- the success
-- the one goal, without a step of lifting and without a lemma
record IsAlone (h : Goal) (a : Applied) : Type 0 where
  goals : a.goals ≡ h ∷ []
  models : a.models ≡ [] ∷ []
  subgoals : a.proofs.1 ≡ 1
  lemmas : a.lemmas ≡ 0

called_so : (added : Truth) → (adding added ≡ precision.Precise) ⊎ (adding added ≡ precision.Under)
called_so true = inr refl
called_so false = inl refl

success : KeepsModels → (us : List Tree) (g : GoalTree) (h : Goal) (list : List Tree) (env : Env) (top : ℕ) (a : Applied) → IsListed most_subterms g.formulas list → AreFormulas (bounded env.params.add_bound_lower env.params.add_bound_upper list)
    → canon_list (bounded env.params.add_bound_lower env.params.add_bound_upper list) ≡ Ok (trees_of us h.formulas) → h.precision ≡ join g.precision (adding (lacks_bounds env.params.add_bound_lower env.params.add_bound_upper list)) → HasGoal us h → AreShallow list → IsAlone h a
    → (is_down (adding (lacks_bounds env.params.add_bound_lower env.params.add_bound_upper list)) ≡ true → is_some a.proofs.0 ≡ true) → Leads us a.proofs.0 g.formulas (trees_of us h.formulas ∷ []) → NestAtMost a.proofs.0 (0 ∷ []) → IsSuccess kinds.AddBounds us g env top a
success keeps us g h list env top a listed formulas canonical joined has deep one closes leads nests =
    let l = env.params.add_bound_lower in
    let u = env.params.add_bound_upper in
    let goals : a.goals ≡ h ∷ [] = one.goals in
    let shallow : AreShallow (trees_of us h.formulas) = list_shallow (bounded l u list) (trees_of us h.formulas) formulas (bounded_shallow l u list deep) canonical in
    let row : IsBounded l u g (goal_trees us a.goals) a.models a.lemmas = record {
      list = list;
      listed = listed;
      formulas = formulas;
      result = trees_of us h.formulas;
      canonical = canonical;
      goals = ap (goal_trees us) goals ∙ ap (λ p. record { formulas = trees_of us h.formulas; precision = p } ∷ []) joined;
      steps = one.models;
      lemmas = one.lemmas;
    } in
    record {
      has = subst (All (HasGoal us)) (sym goals) (all_one (HasGoal us) h has);
      some = subst (λ gs. IsOutcome (Done (goal_trees us gs))) (sym goals) (one_outcome (goal_tree us h));
      shallow = subst (λ gs. AllShallow (goal_trees us gs)) (sym goals) (shallow, tt);
      row = λ drawn k. row;
      models = ap length one.models ∙ sym (ap length goals);
      proofs = one.subgoals ∙ sym (ap length goals);
      step = adding (lacks_bounds l u list);
      called = called_so (lacks_bounds l u list);
      honest = honest_bounded keeps l u g (goal_trees us a.goals) a.models a.lemmas row;
      closes = closes;
      leads = subst (λ gs. Leads us a.proofs.0 g.formulas (map (λ k. k.formulas) (goal_trees us gs))) (sym goals) leads;
      nests = subst (λ gs. NestAtMost a.proofs.0 (for_each 0 gs)) (sym goals) nests;
    }

join_precise : (p : Precision) → p ≡ join p precision.Precise
join_precise precision.Precise = refl
join_precise precision.Under = refl
join_precise precision.Over = refl
join_precise precision.Neither = refl

-- no bound was missing: the list is its own canonical list
pub same_success : KeepsModels → (ts us : List Tree) (g : GoalTree) (listed : Listed) (env : Env) (top : ℕ) (a : Applied) → Extends ts us → trees_of us listed.formulas ≡ trees_of ts listed.formulas → IsListed most_subterms g.formulas (trees_of ts listed.formulas)
    → AreFormulas (bounded env.params.add_bound_lower env.params.add_bound_upper (trees_of ts listed.formulas)) → lacks_bounds env.params.add_bound_lower env.params.add_bound_upper (trees_of ts listed.formulas) ≡ false
    → HasGoal us (record { formulas = listed.formulas; precision = g.precision }) → AreShallow (trees_of ts listed.formulas) → StepsLeave ts (as_items g.formulas) listed.steps (as_items (trees_of ts listed.formulas)) → IsOne g.precision listed.formulas listed.steps a
    → IsSuccess kinds.AddBounds us g env top a
same_success keeps ts us g listed env top a grown same is formulas lacks has deep leads one =
    let l = env.params.add_bound_lower in
    let u = env.params.add_bound_upper in
    let list = trees_of ts listed.formulas in
    let own : canon_list (bounded l u list) ≡ Ok (trees_of us listed.formulas) = ap canon_list (bounded_all l u list lacks) ∙ is_its_own_list g.formulas list is.formulas is.canonical ∙ ap Ok (sym same) in
    let joined : g.precision ≡ join g.precision (adding (lacks_bounds l u list)) = join_precise g.precision ∙ ap (λ b. join g.precision (adding b)) (sym lacks) in
    success keeps us g (record { formulas = listed.formulas; precision = g.precision }) list env top a is formulas own joined has deep (record { goals = one.goals; models = one.models; subgoals = one.proofs.1; lemmas = one.lemmas }) (λ e. ap is_some one.proofs.0)
    (one.leads us g.formulas (trees_of us listed.formulas) (subst (λ fs. StepsLeave us (as_items g.formulas) listed.steps (as_items fs)) (sym same) (steps_stay ts us (as_items g.formulas) listed.steps (as_items list) grown leads))) one.nests

no_plan : (us : List Tree) (plan : Option Plan) (goal : List Tree) (subgoals : List (List Tree)) (ns : List ℕ) → plan ≡ None → Leads us plan goal subgoals × NestAtMost plan ns
no_plan us plan goal subgoals ns e = subst (λ o. Leads us o goal subgoals × NestAtMost o ns) (sym e) (tt, tt)

-- a bound was missing
pub longer_success : KeepsModels → (us : List Tree) (g : GoalTree) (list : List Tree) (ids : List ℕ) (env : Env) (top : ℕ) (a : Applied) → IsListed most_subterms g.formulas list → AreFormulas (bounded env.params.add_bound_lower env.params.add_bound_upper list) → AreShallow list
    → IsLonger us env.params.add_bound_lower env.params.add_bound_upper list ids → IsUnder g.precision ids a → IsSuccess kinds.AddBounds us g env top a
longer_success keeps us g list ids env top a is formulas deep longer one =
    let l = env.params.add_bound_lower in
    let u = env.params.add_bound_upper in
    let h : Goal = record { formulas = ids; precision = join g.precision precision.Under } in
    let joined : join g.precision precision.Under ≡ join g.precision (adding (lacks_bounds l u list)) = ap (λ b. join g.precision (adding b)) (sym longer.lacked) in
    let none = no_plan us a.proofs.0 g.formulas (trees_of us ids ∷ []) (0 ∷ []) one.plan in
    success keeps us g h list env top a is formulas longer.canonical joined longer.formulas deep (record { goals = one.goals; models = one.models; subgoals = one.subgoals; lemmas = one.lemmas })
    (λ e. absurd (true≢false (sym e ∙ ap (λ b. is_down (adding b)) longer.lacked))) none.0 none.1

-- one or the other
pub given_success : KeepsModels → (ts us : List Tree) (g : GoalTree) (listed : Listed) (b : Bounded) (l u : ℤ) (env : Env) (top : ℕ) (a : Applied) → l ≡ env.params.add_bound_lower → u ≡ env.params.add_bound_upper → Extends ts us
    → All (HasSort sort.Bool ts) listed.formulas → IsListed most_subterms g.formulas (trees_of ts listed.formulas) → AreFormulas (bounded l u (trees_of ts listed.formulas)) → AreShallow (trees_of ts listed.formulas)
    → StepsLeave ts (as_items g.formulas) listed.steps (as_items (trees_of ts listed.formulas)) → AreBounded us l u (trees_of ts listed.formulas) listed b → IsGiven g.precision b a → IsSuccess kinds.AddBounds us g env top a
given_success keeps ts us g listed b l u env top a el eu grown has is formulas deep leads bounds given =
    by b (subst (λ y. AreBounded us env.params.add_bound_lower y list listed b) eu (subst (λ x. AreBounded us x u list listed b) el bounds)) given
  where
    list : List Tree
    list = trees_of ts listed.formulas

    lawful : AreFormulas (bounded env.params.add_bound_lower env.params.add_bound_upper list)
    lawful = subst (λ y. AreFormulas (bounded env.params.add_bound_lower y list)) eu (subst (λ x. AreFormulas (bounded x u list)) el formulas)

    by : (b : Bounded) → AreBounded us env.params.add_bound_lower env.params.add_bound_upper list listed b → IsGiven g.precision b a → IsSuccess kinds.AddBounds us g env top a
    by (Same same) h one =
        same_success keeps ts us g listed env top a grown (same_trees ts us listed.formulas grown has) is lawful h.1 (All_HasSort_extends sort.Bool ts us listed.formulas grown has) deep leads
        (subst (λ (k : Listed). IsOne g.precision k.formulas k.steps a) h.0 one)
    by (Added ids) h one = longer_success keeps us g list ids env top a is lawful deep h one

-- ---- failures
pub fault_allowed : (ts : List Tree) (g : GoalTree) (env : Env) (chain : List Place) (v : View) (fault : Fault) → IsFault most_subterms ts g.formulas fault → IsAllowed kinds.AddBounds ts g env chain v (Err (stop_of fault))
fault_allowed ts g env chain v (TooWide t) h = record { has = h.0; row = λ drawn l. record { cause = inl h.1; steps = refl; lemmas = refl } }
fault_allowed ts g env chain v (TooLarge n) h = record { has = tt; row = λ drawn l. record { cause = inl h; steps = refl; lemmas = refl } }
fault_allowed ts g env chain v (Memory e) h = tt

-- the list with its bounds has no canonical list
pub wide_allowed : (ts : List Tree) (g : GoalTree) (list : List Tree) (l u : ℤ) (env : Env) (chain : List Place) (v : View) (cause : CanonError) → l ≡ env.params.add_bound_lower → u ≡ env.params.add_bound_upper → IsListed most_subterms g.formulas list
    → NamesFault ts (canon_list (bounded l u list)) cause → IsAllowed kinds.AddBounds ts g env chain v (Err (stop_of (fault_of cause)))
wide_allowed ts g list l u env chain v (canon.TooWide t) el eu is h =
    let wide : canon_list (bounded env.params.add_bound_lower env.params.add_bound_upper list) ≡ Err (tree_at ts t) = ap (λ x. canon_list (bounded x env.params.add_bound_upper list)) (sym el) ∙ ap (λ y. canon_list (bounded l y list)) (sym eu) ∙ h.1 in
    record { has = h.0; row = λ drawn k. record { cause = inr (record { list = list; listed = is; wide = wide }); steps = refl; lemmas = refl } }
wide_allowed ts g list l u env chain v (canon.Memory e) el eu is h = tt

-- ---- the parameters are numbers of 128 bits
pub fits_wide : (z : ℤ) → nat_lt (nat_abs z) 170141183460469231731687303715884105728 ≡ true → to_z w128 (of_z w128 z) ≡ z
fits_wide z h = let l = ltb-true (nat_abs z) 170141183460469231731687303715884105728 h in by z l
  where
    by : (z : ℤ) → nat_abs z < 170141183460469231731687303715884105728 → to_z w128 (of_z w128 z) ≡ z
    by (pos n) l = omega (arith, ints)
    by (negsuc n) l = omega (arith, ints)
