-- What is counted of derivations, node by node, and the tickets of runs that follow one another.
use Rattle.std.proofs.Common.{◌≡◌, ℕ, ◌+◌, ◌≤◌, min, ℤ, List, [], ◌∷◌, map, Option, Some, None, refl, sym, ap, ap₂, subst, ◌∙◌, arith}
use Rattle.std.specs.Prelude.{◌<◌, IfSome}
use Rattle.std.specs.List.{sum_by}
use Rattle.std.proofs.lemmas.List.Sums.{sum-map, sum_by-cons}
use Rattle.qterm.specs.Tree.{Tree}
use Rattle.race_word.specs.declared.view.View.{View}
use Rattle.deriv.specs.declared.cause.Cause.TheVariants as cause
use Rattle.deriv.specs.declared.outcome.Outcome.{Outcome}
use Rattle.deriv.specs.declared.outcome.Outcome.TheVariants as outcome
use Rattle.deriv.specs.declared.deriv.Deriv.{Deriv}
use Rattle.deriv.specs.declared.deriv.Node.{Node}
use Rattle.deriv.specs.declared.deriv.Node.TheOpen.{Node-F}
use Rattle.deriv.specs.declared.deriv.Node.TheFolds.{fold-Node, fold-roll-Node, fold_out-Deriv}
use Rattle.deriv.specs.declared.deriv.Node.TheVariants as node
use Rattle.deriv.specs.Outcome.{out_tree}
use Rattle.deriv.specs.Trees.{Lists, Der, Kept, Ders, Pairs}
use Rattle.deriv.specs.Sees.{Sees, sees, SeesNode, sees_prim, sees_seq, sees_tried_all, sees_tried, sees_race, sees_par_seq, sees_told, sees_test, sees_wrap, sees_stopped, SeesAll, sees_none, sees_more, SeesPairs, sees_no_pairs, sees_pair}
use Rattle.deriv.specs.Spent as spent
use Rattle.deriv.specs.Spent.{total, total_kept, total_all, total_pairs, is_pool_end, all_spent, pool_ends}
use Rattle.deriv.proofs.Spending.{draws_nothing, draws_then}
use Rattle.lang_runs.specs.Drawn.{IsDrawn, Count, total_layer, total_in, lemmas, ends, Tallies, Tally}

-- ---- node by node
module _ (c : Count) where
  abbrev folded : Node → Count
  folded n = fold-Node Count ℕ (total_layer c) (λ x. x.node x.spent x.out) n

  at_node : (d : Deriv) (n : Node) → d.node ≡ n → total_in c d ≡ folded n d.spent d.out
  unfolding total_in
  at_node d n is = fold_out-Deriv Count ℕ (total_layer c) (λ x. x.node x.spent x.out) d ∙ ap (λ (m : Node). folded m d.spent d.out) is

  pub at_prim : (d : Deriv) (name : List ℕ) (lifts : Lists) → d.node ≡ node.Prim name lifts → total_in c d ≡ c d.spent d.out
  at_prim d name lifts is = at_node d _ is ∙ ap (λ (f : Count). f d.spent d.out) (ap folded (sym (node.rolls-Prim name lifts)) ∙ fold-roll-Node Count ℕ (total_layer c) (λ x. x.node x.spent x.out) (Node-F.Prim name lifts))

  pub at_seq : (d first : Deriv) (rest : List Deriv) → d.node ≡ node.Seq first rest → total_in c d ≡ total_in c first + sum_by (total_in c) rest
  unfolding total_in
  at_seq d first rest is = at_node d _ is ∙ ap (λ (f : Count). f d.spent d.out) (ap folded (sym (node.rolls-Seq first rest)) ∙ fold-roll-Node Count ℕ (total_layer c) (λ x. x.node x.spent x.out) (Node-F.Seq first rest)) ∙ ap (λ n. total_in c first + n) (sum-map (total_in c) rest)

  pub at_tried_all : (d : Deriv) (failed : List Deriv) → d.node ≡ node.Tries failed None → total_in c d ≡ sum_by (total_in c) failed
  unfolding total_in
  at_tried_all d failed is = at_node d _ is ∙ ap (λ (f : Count). f d.spent d.out) (ap folded (sym (node.rolls-Tries failed None)) ∙ fold-roll-Node Count ℕ (total_layer c) (λ x. x.node x.spent x.out) (Node-F.Tries failed None)) ∙ sum-map (total_in c) failed

  pub at_tried : (d : Deriv) (failed : List Deriv) (last : Deriv) → d.node ≡ node.Tries failed (Some last) → total_in c d ≡ sum_by (total_in c) failed + total_in c last
  unfolding total_in
  at_tried d failed last is = at_node d _ is ∙ ap (λ (f : Count). f d.spent d.out) (ap folded (sym (node.rolls-Tries failed (Some last))) ∙ fold-roll-Node Count ℕ (total_layer c) (λ x. x.node x.spent x.out) (Node-F.Tries failed (Some last))) ∙ ap (λ n. n + total_in c last) (sum-map (total_in c) failed)

  pub at_race : (d : Deriv) (winner : ℕ) (child : Deriv) → d.node ≡ node.Race winner child → total_in c d ≡ total_in c child
  unfolding total_in
  at_race d winner child is = at_node d _ is ∙ ap (λ (f : Count). f d.spent d.out) (ap folded (sym (node.rolls-Race winner child)) ∙ fold-roll-Node Count ℕ (total_layer c) (λ x. x.node x.spent x.out) (Node-F.Race winner child))

  pairs-map : (rest : List (ℕ × Deriv)) → sum_by (λ (p : ℕ × ℕ). p.1) (map (λ (p : ℕ × Deriv). (p.0, total_in c p.1)) rest) ≡ sum_by (λ (p : ℕ × Deriv). total_in c p.1) rest
  pairs-map [] = refl
  pairs-map (p ∷ rest) =
      sum_by-cons (λ (q : ℕ × ℕ). q.1) (p.0, total_in c p.1) (map (λ (q : ℕ × Deriv). (q.0, total_in c q.1)) rest) ∙ ap (λ n. total_in c p.1 + n) (pairs-map rest)
      ∙ sym (sum_by-cons (λ (q : ℕ × Deriv). total_in c q.1) p rest)

  pub at_par_seq : (d first : Deriv) (rest : List (ℕ × Deriv)) → d.node ≡ node.ParSeq first rest → total_in c d ≡ total_in c first + sum_by (λ (p : ℕ × Deriv). total_in c p.1) rest
  unfolding total_in
  at_par_seq d first rest is = at_node d _ is ∙ ap (λ (f : Count). f d.spent d.out) (ap folded (sym (node.rolls-ParSeq first rest)) ∙ fold-roll-Node Count ℕ (total_layer c) (λ x. x.node x.spent x.out) (Node-F.ParSeq first rest)) ∙ ap (λ n. total_in c first + n) (pairs-map rest)

  pub at_told : (d : Deriv) (value : ℤ) → d.node ≡ node.Test value None → total_in c d ≡ 0
  at_told d value is = at_node d _ is ∙ ap (λ (f : Count). f d.spent d.out) (ap folded (sym (node.rolls-Test value None)) ∙ fold-roll-Node Count ℕ (total_layer c) (λ x. x.node x.spent x.out) (Node-F.Test value None))

  pub at_test : (d : Deriv) (value : ℤ) (child : Deriv) → d.node ≡ node.Test value (Some child) → total_in c d ≡ total_in c child
  unfolding total_in
  at_test d value child is = at_node d _ is ∙ ap (λ (f : Count). f d.spent d.out) (ap folded (sym (node.rolls-Test value (Some child))) ∙ fold-roll-Node Count ℕ (total_layer c) (λ x. x.node x.spent x.out) (Node-F.Test value (Some child)))

  pub at_wrap : (d child : Deriv) → d.node ≡ node.Wrap child → total_in c d ≡ total_in c child
  unfolding total_in
  at_wrap d child is = at_node d _ is ∙ ap (λ (f : Count). f d.spent d.out) (ap folded (sym (node.rolls-Wrap child)) ∙ fold-roll-Node Count ℕ (total_layer c) (λ x. x.node x.spent x.out) (Node-F.Wrap child))

  pub at_stopped : (d : Deriv) → d.node ≡ node.Stopped → total_in c d ≡ 0
  at_stopped d is = at_node d _ is ∙ ap (λ (f : Count). f d.spent d.out) (ap folded (sym node.rolls-Stopped) ∙ fold-roll-Node Count ℕ (total_layer c) (λ x. x.node x.spent x.out) Node-F.Stopped)

-- ---- what a derivation shows counts the same
module _ (ts : List Tree) (c : Count) (b : spent.Count) (same : (n : ℕ) (o : Outcome) → c n o ≡ b n (out_tree ts o)) where
  mutual
    pub shown_total : {d : Deriv} {t : Der} → Sees ts d t → total_in c d ≡ total b t
    shown_total (sees {d} {t} k goal out shows is) = node_total d shows refl ∙ sym (ap (total b) is)

    node_total : (d : Deriv) {n : Node} {k : Kept} → SeesNode ts n k → d.node ≡ n → total_in c d ≡ total_kept b d.spent (out_tree ts d.out) k
    node_total d (sees_prim name lifts is) at = at_prim c d name lifts (at ∙ is) ∙ same d.spent d.out
    node_total d (sees_seq first rest t us is one all) at = at_seq c d first rest (at ∙ is) ∙ ap₂ ◌+◌ (shown_total one) (all_total all)
    node_total d (sees_tried_all failed us is all) at = at_tried_all c d failed (at ∙ is) ∙ all_total all
    node_total d (sees_tried failed last us t is all one) at = at_tried c d failed last (at ∙ is) ∙ ap₂ ◌+◌ (all_total all) (shown_total one)
    node_total d (sees_race winner child t is one) at = at_race c d winner child (at ∙ is) ∙ shown_total one
    node_total d (sees_par_seq first rest t us is one all) at = at_par_seq c d first rest (at ∙ is) ∙ ap₂ ◌+◌ (shown_total one) (pairs_total all)
    node_total d (sees_told value is) at = at_told c d value (at ∙ is)
    node_total d (sees_test value child t is one) at = at_test c d value child (at ∙ is) ∙ shown_total one
    node_total d (sees_wrap child t is one) at = at_wrap c d child (at ∙ is) ∙ shown_total one
    node_total d (sees_stopped is) at = at_stopped c d (at ∙ is)

    all_total : {ds : List Deriv} {us : Ders} → SeesAll ts ds us → sum_by (total_in c) ds ≡ total_all b us
    all_total sees_none = refl
    all_total (sees_more {d} {ds} one all) = sum_by-cons (total_in c) d ds ∙ ap₂ ◌+◌ (shown_total one) (all_total all)

    pairs_total : {ps : List (ℕ × Deriv)} {us : Pairs} → SeesPairs ts ps us → sum_by (λ (p : ℕ × Deriv). total_in c p.1) ps ≡ total_pairs b us
    pairs_total sees_no_pairs = refl
    pairs_total (sees_pair {p} {ds} one all) = sum_by-cons (λ (q : ℕ × Deriv). total_in c q.1) p ds ∙ ap₂ ◌+◌ (shown_total one) (pairs_total all)

same_end : (ts : List Tree) (n : ℕ) (o : Outcome) → ends n o ≡ is_pool_end (out_tree ts o)
same_end ts n (outcome.Done gs) = refl
same_end ts n (outcome.Failed (cause.PoolSpent ticket refused)) = refl
same_end ts n (outcome.Failed x) = refl

pub tally_shown : (old new : View) (d : Deriv) → Tally old new d → (ts : List Tree) (t : Der) → Sees ts d t → IsDrawn old new (all_spent t) (pool_ends t)
tally_shown old new d tally ts t s =
    subst (λ (n : ℕ). IsDrawn old new n (pool_ends t)) (shown_total ts lemmas (λ n o. n) (λ n o. refl) s)
    (subst (λ (n : ℕ). IsDrawn old new (total_in lemmas d) n) (shown_total ts ends (λ n o. is_pool_end o) (same_end ts) s) tally)

-- ---- tickets of runs that follow one another
pub drawn_nothing : (v : View) → IsDrawn v v 0 0
drawn_nothing v = record { draws = draws_nothing v.draws; exactly = λ e. (e, omega arith) }

pub drawn_then : (u v w : View) (m n e f : ℕ) → IsDrawn u v m e → IsDrawn v w n f → IsDrawn u w (m + n) (e + f)
drawn_then u v w m n e f x y = record {
  draws = draws_then m n e f u.draws v.draws w.draws x.draws y.draws;
  exactly = λ none. (let a = y.exactly none in let b = x.exactly a.0 in let p = a.1 in let q = b.1 in (b.0, omega arith));
}

-- where the tickets are below the pool or an end is noted, their number is the lesser of all lemmas and the pool and one more
pub drawn_lesser : (pool drawn all refused : ℕ) (old new : View) → IsDrawn old new all refused → old.draws ≡ 0 → drawn ≡ new.draws → drawn ≤ pool + 1 → IfSome new.end (λ t. (pool ≤ t) × (t < drawn)) → drawn ≡ min all (pool + 1)
drawn_lesser pool drawn all refused old new is first mine within ended = by new.end refl ended
  where
    most : new.draws ≤ old.draws + all
    most = is.draws.most

    by : (e : Option ℕ) → new.end ≡ e → IfSome e (λ t. (pool ≤ t) × (t < drawn)) → drawn ≡ min all (pool + 1)
    by None none past = let x = (is.exactly none).1 in omega arith
    by (Some t) at past = let a = past.0 in let b = past.1 in omega arith

-- ---- the same of what is counted so
pub tally_as : (v w : View) (f g : Count → ℕ) → ((c : Count) → g c ≡ f c) → Tallies v w f → Tallies v w g
tally_as v w f g same x = subst (λ (n : ℕ). IsDrawn v w n (g ends)) (sym (same lemmas)) (subst (λ (n : ℕ). IsDrawn v w (f lemmas) n) (sym (same ends)) x)

pub tally_then : (u v w : View) (f g : Count → ℕ) → Tallies u v f → Tallies v w g → Tallies u w (λ c. f c + g c)
tally_then u v w f g x y = drawn_then u v w (f lemmas) (g lemmas) (f ends) (g ends) x y

pub tally_none : (v : View) (f : Count → ℕ) → ((c : Count) → f c ≡ 0) → Tallies v v f
tally_none v f none = tally_as v v (λ c. 0) f none (drawn_nothing v)
