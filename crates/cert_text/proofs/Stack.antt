-- What waits on the stack comes in order, and each task is due once those above it are done.
use Rattle.std.proofs.Common.{◌≡◌, ℕ, ◌+◌, ◌*◌, ◌<◌, List, [], ◌∷◌, ◌++◌, length, drop, get_or, All, Some, refl, ap, sym, subst, ◌∙◌, arith, append_assoc, append-nil, length-append}
use Rattle.std.proofs.lemmas.List.{drop_more, drop_all}
use Rattle.std.proofs.lemmas.List.Elements.{All-head, All-tail, All-push, All-append, All-nil, All-cons, All-pop}
use Rattle.qterm.specs.Tree.{Tree}
use Rattle.qterm.specs.Kids.{kids}
use Rattle.qterm.specs.Store.{tree_at, trees_of, trees_at, Has}
use Rattle.qwalk.specs.Subterms.{subterms, subterms_all}
use Rattle.qwalk.proofs.SubtermsLaws.{subterms_kids, length-subterms}
use Rattle.cert_text.specs.declared.terms.Task.{Task}
use Rattle.cert_text.specs.declared.terms.Task.TheVariants.{Visit, Line}
use Rattle.cert_text.specs.TermLines.{term_lines, with_lines}
use Rattle.cert_text.specs.Waiting.{HaveLines, AreLines, task_trees, IsTask, visits, waiting, IsDue, AreDue, IsReady, Visited, passed, begun, costs}
use Rattle.cert_text.proofs.Known.{none_more, with_lines-append, term_lines-append, row_has, all_passed}

-- ---- stacks one on the other
pub waiting-append : (ts : List Tree) (ps qs : List Task) → waiting ts (ps ++ qs) ≡ waiting ts qs ++ waiting ts ps
unfolding waiting
waiting-append ts [] qs = sym (append-nil (waiting ts qs))
waiting-append ts (p ∷ ps) qs = ap (λ (us : List Tree). us ++ task_trees ts p) (waiting-append ts ps qs) ∙ append_assoc (waiting ts qs) (waiting ts ps) (task_trees ts p)

pub waiting-one : (ts : List Tree) (p : Task) → waiting ts (p ∷ []) ≡ task_trees ts p
unfolding waiting
waiting-one ts p = refl

costs-append : (ts : List Tree) (ps qs : List Task) → costs ts (ps ++ qs) ≡ costs ts ps + costs ts qs
unfolding costs
costs-append ts [] qs = omega arith
costs-append ts (p ∷ ps) qs = omega (arith, costs-append ts ps qs)

-- ---- visits
visits-waiting : (ts : List Tree) (is : List ℕ) → waiting ts (visits is) ≡ subterms_all (trees_at ts is)
unfolding waiting subterms_all
visits-waiting ts [] = refl
visits-waiting ts (i ∷ is) = waiting-append ts (visits is) (Visit i ∷ []) ∙ ap (λ (us : List Tree). subterms (tree_at ts i) ++ us) (visits-waiting ts is)

visits-costs : (ts : List Tree) (is : List ℕ) → costs ts (visits is) ≡ 2 * length (subterms_all (trees_at ts is))
unfolding costs subterms_all
visits-costs ts [] = refl
visits-costs ts (i ∷ is) =
    omega (arith, costs-append ts (visits is) (Visit i ∷ []), visits-costs ts is, length-append (subterms (tree_at ts i)) (subterms_all (trees_at ts is)))

visits-tasks : (ts : List Tree) (is : List ℕ) → All (Has ts) is → All (IsTask ts) (visits is)
visits-tasks ts [] all = All-nil (IsTask ts)
visits-tasks ts (i ∷ is) all = All-push (IsTask ts) (visits is) (Visit i) (visits-tasks ts is (All-tail (Has ts) i is all)) (All-head (Has ts) i is all)

-- ---- what is due
due-append : (ts known : List Tree) (ps qs : List Task) → ((more : List Tree) → AreDue ts more ps) → AreDue ts known qs → AreDue ts known (ps ++ qs)
unfolding AreDue
due-append ts known [] qs before all = all
due-append ts known (p ∷ ps) qs before all =
    (subst (λ (ks : List Tree). IsDue ts ks p) (sym (ap (with_lines known) (waiting-append ts ps qs) ∙ with_lines-append known (waiting ts qs) (waiting ts ps))) (before (with_lines known (waiting ts qs))).0, due-append ts known ps qs (λ more. (before more).1) all)

visits-due : (ts known : List Tree) (is : List ℕ) → AreDue ts known (visits is)
unfolding AreDue
visits-due ts known [] = tt
visits-due ts known (i ∷ is) = due-append ts known (visits is) (Visit i ∷ []) (λ more. visits-due ts more is) (tt, tt)

none_wait : (ts known : List Tree) → with_lines known (waiting ts []) ≡ known
unfolding waiting
none_wait ts known = (none_more known).1

-- the task on top is due
pub top_due : (ts known : List Tree) (ps : List Task) (p : Task) → AreDue ts known (ps ++ p ∷ []) → IsDue ts known p
unfolding AreDue
top_due ts known [] p due = subst (λ (ks : List Tree). IsDue ts ks p) (none_wait ts known) due.0
top_due ts known (q ∷ ps) p due = top_due ts known ps p due.1

-- what stays due where a task is done by others
pub due_after : (ts known now : List Tree) (ps news : List Task) (p : Task) → AreDue ts known (ps ++ p ∷ []) → with_lines now (waiting ts news) ≡ with_lines known (task_trees ts p) → AreDue ts now news → AreDue ts now (ps ++ news)
unfolding AreDue
due_after ts known now [] news p due is all = all
due_after ts known now (q ∷ ps) news p due is all = (
  subst (λ (ks : List Tree). IsDue ts ks q)
      (ap (with_lines known) (waiting-append ts ps (p ∷ []) ∙ ap (λ (us : List Tree). us ++ waiting ts ps) (waiting-one ts p)) ∙ with_lines-append known (task_trees ts p) (waiting ts ps)
      ∙ ap (λ (ks : List Tree). with_lines ks (waiting ts ps)) (sym is) ∙ sym (with_lines-append now (waiting ts news) (waiting ts ps)) ∙ ap (with_lines now) (sym (waiting-append ts ps news)))
      due.0,
  due_after ts known now ps news p due.1 is all,
)

-- ---- the tasks behind the one on top, and that one
pub tasks_rest : (ts : List Tree) (ps : List Task) (p : Task) → All (IsTask ts) (ps ++ p ∷ []) → All (IsTask ts) ps
tasks_rest ts ps p all = (All-pop (IsTask ts) (ps ++ p ∷ []) ps (Some p) refl all).0

pub task_on_top : (ts : List Tree) (ps : List Task) (p : Task) → All (IsTask ts) (ps ++ p ∷ []) → IsTask ts p
task_on_top ts ps p all = (All-pop (IsTask ts) (ps ++ p ∷ []) ps (Some p) refl all).1

-- what waits with a task on top
top_waits : (ts : List Tree) (ps : List Task) (p : Task) → waiting ts (ps ++ p ∷ []) ≡ task_trees ts p ++ waiting ts ps
top_waits ts ps p = waiting-append ts ps (p ∷ []) ∙ ap (λ (us : List Tree). us ++ waiting ts ps) (waiting-one ts p)

-- ---- a visit
-- the children and then the term wait where the term did
begun_waits : (ts : List Tree) (i : ℕ) (is : List ℕ) → trees_at ts is ≡ kids (tree_at ts i) → waiting ts (Line i ∷ visits is) ≡ subterms (tree_at ts i)
unfolding waiting
begun_waits ts i is e = ap (λ (us : List Tree). us ++ tree_at ts i ∷ []) (visits-waiting ts is ∙ ap subterms_all e) ∙ sym (subterms_kids (tree_at ts i))

begun_due : (ts known : List Tree) (i : ℕ) (is : List ℕ) → trees_at ts is ≡ kids (tree_at ts i) → AreDue ts known (Line i ∷ visits is)
unfolding AreDue
begun_due ts known i is e =
    (subst (λ (ks : List Tree). HaveLines ks (kids (tree_at ts i))) (ap (with_lines known) (sym (visits-waiting ts is ∙ ap subterms_all e))) (row_has known (kids (tree_at ts i))), visits-due ts known is)

begun_costs : (ts : List Tree) (i : ℕ) (is : List ℕ) → trees_at ts is ≡ kids (tree_at ts i) → costs ts (Line i ∷ visits is) < costs ts (Visit i ∷ [])
unfolding costs
begun_costs ts i is e = omega (arith, visits-costs ts is, ap (λ us. length (subterms_all us)) e, length-subterms (tree_at ts i))

none_due : (ts known : List Tree) → AreDue ts known []
unfolding AreDue
none_due ts known = tt

visit_costs : (ts : List Tree) (ps : List Task) (i : ℕ) → costs ts ps < costs ts (ps ++ Visit i ∷ [])
unfolding costs
visit_costs ts ps i = omega (arith, costs-append ts ps (Visit i ∷ []), length-subterms (tree_at ts i))

pub visited_ready : (ts : List Tree) (ids : List ℕ) (ps after : List Task) (i : ℕ) → IsReady ts ids (ps ++ Visit i ∷ []) → Visited ts (trees_of ts ids) i ps after → IsReady ts ids after
visited_ready ts ids ps after i r (passed has is) =
    let known = trees_of ts ids in
    let passes = (all_passed known r.lines.closed (tree_at ts i) has []).1 in
    subst (IsReady ts ids) (sym is) (record {
      has = tasks_rest ts ps (Visit i) r.has;
      due = subst (AreDue ts known) (append-nil ps) (due_after ts known known ps [] (Visit i) r.due (none_wait ts known ∙ sym (none_more known).1 ∙ sym passes ∙ ap (with_lines known) (append-nil (subterms (tree_at ts i)))) (none_due ts known));
      lines = r.lines;
    })
visited_ready ts ids ps after i r (begun has is kids_of all is_after) =
    let known = trees_of ts ids in
    subst (IsReady ts ids) (sym is_after) (record {
      has = All-append (IsTask ts) ps (Line i ∷ visits is) (tasks_rest ts ps (Visit i) r.has) (All-cons (IsTask ts) (Line i) (visits is) (task_on_top ts ps (Visit i) r.has) (visits-tasks ts is all));
      due = due_after ts known known ps (Line i ∷ visits is) (Visit i) r.due (ap (with_lines known) (begun_waits ts i is kids_of)) (begun_due ts known i is kids_of);
      lines = r.lines;
    })

pub visited_same : (ts : List Tree) (ids : List ℕ) (ps after : List Task) (i : ℕ) → IsReady ts ids (ps ++ Visit i ∷ []) → Visited ts (trees_of ts ids) i ps after
    → (term_lines (trees_of ts ids) (waiting ts after) ≡ term_lines (trees_of ts ids) (waiting ts (ps ++ Visit i ∷ []))) × (with_lines (trees_of ts ids) (waiting ts after) ≡ with_lines (trees_of ts ids) (waiting ts (ps ++ Visit i ∷ [])))
visited_same ts ids ps after i r (passed has is) =
    let known = trees_of ts ids in
    let passes = all_passed known r.lines.closed (tree_at ts i) has (waiting ts ps) in
    let e = top_waits ts ps (Visit i) in
    (ap (λ qs. term_lines known (waiting ts qs)) is ∙ sym passes.0 ∙ ap (term_lines known) (sym e), ap (λ qs. with_lines known (waiting ts qs)) is ∙ sym passes.1 ∙ ap (with_lines known) (sym e))
visited_same ts ids ps after i r (begun has is kids_of all is_after) =
    let e : waiting ts after ≡ waiting ts (ps ++ Visit i ∷ []) = ap (waiting ts) is_after ∙ waiting-append ts ps (Line i ∷ visits is) ∙ ap (λ (us : List Tree). us ++ waiting ts ps) (begun_waits ts i is kids_of) ∙ sym (top_waits ts ps (Visit i)) in
    (ap (term_lines (trees_of ts ids)) e, ap (with_lines (trees_of ts ids)) e)

pub visited_less : (ts known : List Tree) (ps after : List Task) (i : ℕ) → Visited ts known i ps after → costs ts after < costs ts (ps ++ Visit i ∷ [])
visited_less ts known ps after i (passed has is) = subst (λ qs. costs ts qs < costs ts (ps ++ Visit i ∷ [])) (sym is) (visit_costs ts ps i)
visited_less ts known ps after i (begun has is kids_of all is_after) =
    subst (λ qs. costs ts qs < costs ts (ps ++ Visit i ∷ [])) (sym is_after) (omega (arith, costs-append ts ps (Line i ∷ visits is), costs-append ts ps (Visit i ∷ []), begun_costs ts i is kids_of))

-- ---- a line
pub line_ready : (ts : List Tree) (ids now : List ℕ) (ps : List Task) (i : ℕ) → IsReady ts ids (ps ++ Line i ∷ []) → trees_of ts now ≡ with_lines (trees_of ts ids) (tree_at ts i ∷ []) → AreLines ts now → IsReady ts now ps
line_ready ts ids now ps i r is lines = record {
  has = tasks_rest ts ps (Line i) r.has;
  due = subst (AreDue ts (trees_of ts now)) (append-nil ps) (due_after ts (trees_of ts ids) (trees_of ts now) ps [] (Line i) r.due (none_wait ts (trees_of ts now) ∙ is) (none_due ts (trees_of ts now)));
  lines = lines;
}

pub line_text : (ts : List Tree) (ids now : List ℕ) (ps : List Task) (i : ℕ) (old new : List ℕ) → new ≡ old ++ term_lines (trees_of ts ids) (tree_at ts i ∷ []) → trees_of ts now ≡ with_lines (trees_of ts ids) (tree_at ts i ∷ [])
    → new ++ term_lines (trees_of ts now) (waiting ts ps) ≡ old ++ term_lines (trees_of ts ids) (waiting ts (ps ++ Line i ∷ []))
line_text ts ids now ps i old new text is =
    let known = trees_of ts ids in
    let t = tree_at ts i in
    ap (λ (bs : List ℕ). bs ++ term_lines (trees_of ts now) (waiting ts ps)) text ∙ ap (λ (ks : List Tree). (old ++ term_lines known (t ∷ [])) ++ term_lines ks (waiting ts ps)) is
    ∙ append_assoc old (term_lines known (t ∷ [])) (term_lines (with_lines known (t ∷ [])) (waiting ts ps)) ∙ ap (λ (bs : List ℕ). old ++ bs) (sym (term_lines-append known (t ∷ []) (waiting ts ps)))
    ∙ ap (λ (us : List Tree). old ++ term_lines known us) (sym (top_waits ts ps (Line i)))

pub line_known : (ts : List Tree) (ids now : List ℕ) (ps : List Task) (i : ℕ) → trees_of ts now ≡ with_lines (trees_of ts ids) (tree_at ts i ∷ [])
    → with_lines (trees_of ts now) (waiting ts ps) ≡ with_lines (trees_of ts ids) (waiting ts (ps ++ Line i ∷ []))
line_known ts ids now ps i is =
    ap (λ (ks : List Tree). with_lines ks (waiting ts ps)) is ∙ sym (with_lines-append (trees_of ts ids) (tree_at ts i ∷ []) (waiting ts ps)) ∙ ap (with_lines (trees_of ts ids)) (sym (top_waits ts ps (Line i)))

pub line_less : (ts : List Tree) (ps : List Task) (i : ℕ) → costs ts ps < costs ts (ps ++ Line i ∷ [])
unfolding costs
line_less ts ps i = omega (arith, costs-append ts ps (Line i ∷ []))

-- ---- the beginning and the end
pub first_ready : (ts : List Tree) (ids : List ℕ) (i : ℕ) → Has ts i → AreLines ts ids → IsReady ts ids (Visit i ∷ [])
unfolding AreDue
first_ready ts ids i has lines = record { has = All-cons (IsTask ts) (Visit i) [] has (All-nil (IsTask ts)); due = (tt, tt); lines = lines }

pub first_waits : (ts : List Tree) (i : ℕ) → waiting ts (Visit i ∷ []) ≡ subterms (tree_at ts i)
first_waits ts i = waiting-one ts (Visit i)

pub no_more : (ts known : List Tree) (ps : List Task) → length ps ≡ 0 → (term_lines known (waiting ts ps) ≡ []) × (with_lines known (waiting ts ps) ≡ known)
unfolding waiting
no_more ts known [] done = none_more known
no_more ts known (p ∷ ps) done = absurd (omega (arith, done))

-- visits of the children, from the last to the first
pub visits_next : (ps : List Task) (i k child : ℕ) (is : List ℕ) (now new : List Task) → now ≡ ps ++ (Line i ∷ visits (drop (k + 1) is)) → new ≡ now ++ Visit child ∷ [] → k < length is → child ≡ get_or is k child
    → new ≡ ps ++ (Line i ∷ visits (drop k is))
visits_next ps i k child is now new so_far pushed within here =
    let left : drop k is ≡ child ∷ drop (k + 1) is = drop_more is k child within ∙ ap (λ x. x ∷ drop (k + 1) is) (sym here) in
    pushed ∙ ap (λ (qs : List Task). qs ++ Visit child ∷ []) so_far ∙ append_assoc ps (Line i ∷ visits (drop (k + 1) is)) (Visit child ∷ []) ∙ ap (λ (js : List ℕ). ps ++ (Line i ∷ visits js)) (sym left)

-- at first no child waits, and at last all do
pub visits_first : (ps now : List Task) (i n : ℕ) (is : List ℕ) → now ≡ ps ++ Line i ∷ [] → n ≡ length is → now ≡ ps ++ (Line i ∷ visits (drop n is))
visits_first ps now i n is pushed all = pushed ∙ ap (λ (js : List ℕ). ps ++ (Line i ∷ visits js)) (sym (drop_all n is (omega (arith, all))))

pub visits_all : (ps : List Task) (i n : ℕ) (is : List ℕ) → n ≡ 0 → ps ++ (Line i ∷ visits (drop n is)) ≡ ps ++ (Line i ∷ visits is)
visits_all ps i n is none_left = ap (λ m. ps ++ (Line i ∷ visits (drop m is))) none_left
