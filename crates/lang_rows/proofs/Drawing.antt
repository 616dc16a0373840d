-- The tickets of a row and of runs side by side, as they grow and at their ends.
use Rattle.std.proofs.Common.{◌≡◌, ℕ, ◌+◌, List, [], ◌∷◌, ◌++◌, length, Option, Result, Ok, Err, refl, sym, ap, ap₂, subst, ◌∙◌, arith}
use Rattle.std.specs.Prelude.{IfOk, IfErr, IsOkAnd}
use Rattle.std.specs.List.{sum_by}
use Rattle.std.specs.declared.alloc.AllocError.{AllocError}
use Rattle.std.proofs.lemmas.List.Sums.{sum_by_push}
use Rattle.qgoal.specs.declared.goal.Goal.{Goal}
use Rattle.race_word.specs.declared.view.View.{View}
use Rattle.deriv.specs.declared.outcome.Outcome.{Outcome}
use Rattle.deriv.specs.declared.deriv.Deriv.{Deriv}
use Rattle.lang_runs.specs.declared.ran.Ran.{Ran}
use Rattle.lang_runs.specs.declared.ran.RunStop.{RunStop}
use Rattle.lang_runs.specs.declared.ran.RunStop.TheVariants as stops
use Rattle.lang_runs.specs.Drawn.{Count, total_in, Tallies, Tally, RunTally}
use Rattle.lang_runs.proofs.Tallying.{at_seq, at_par_seq, tally_as, tally_then}
use Rattle.lang_rows.specs.declared.row.Row.{Row}
use Rattle.lang_rows.specs.declared.ends.Made.{Made}
use Rattle.lang_rows.specs.declared.beside.Part.{Part}
use Rattle.lang_rows.specs.declared.beside.Part.TheVariants as part
use Rattle.lang_rows.specs.declared.beside.Beside.{Beside}
use Rattle.lang_rows.specs.Rows.{HasGrown}
use Rattle.lang_rows.specs.Beside.{HasEnded, HasStopped}
use Rattle.lang_rows.specs.Ends.{seq_deriv}
use Rattle.lang_rows.specs.BesideEnds.{par_deriv}
use Rattle.lang_rows.specs.Drawn.{RowTally, BesideTally, PartTally}
use Rattle.lang_rows.proofs.Growing.{ok_row}
use Rattle.lang_rows.proofs.Adding.{ok_beside}

with_none : (n : ℕ) → n + 0 ≡ n
with_none n = omega arith

grouped : (a b d : ℕ) → a + (b + d) ≡ a + b + d
grouped a b d = omega arith

abbrev in_pairs : Count → List (ℕ × Deriv) → ℕ
in_pairs c rest = sum_by (λ (p : ℕ × Deriv). total_in c p.1) rest

-- ---- a first part alone
pub first_tally : (v w : View) (first : Ran) (row : Row) → row.first ≡ first → row.derivs ≡ [] → Tally v w first.deriv → RowTally v w row
first_tally v w first row is none = tally_as v w (λ c. total_in c first.deriv) (λ c. total_in c row.first.deriv + sum_by (total_in c) row.derivs)
    (λ c. ap₂ (λ (r : Ran) (ds : List Deriv). total_in c r.deriv + sum_by (total_in c) ds) is none ∙ with_none (total_in c first.deriv))

pub first_beside_tally : (v w : View) (first : Ran) (b : Beside) → b.first ≡ first → b.derivs ≡ [] → Tally v w first.deriv → BesideTally v w b
first_beside_tally v w first b is none = tally_as v w (λ c. total_in c first.deriv) (λ c. total_in c b.first.deriv + in_pairs c b.derivs)
    (λ c. ap₂ (λ (r : Ran) (ds : List (ℕ × Deriv)). total_in c r.deriv + in_pairs c ds) is none ∙ with_none (total_in c first.deriv))

-- ---- one run more
pub row_tally : (u v w : View) (row x more : Row) (ran : Ran) → HasGrown row x ran → ◌≡◌ {A = Result Row RunStop} (Ok x) (Ok more) → RowTally u v row → Tally v w ran.deriv → RowTally u w more
row_tally u v w row x more ran grown same a b = subst (λ (y : Row). RowTally u w y) (ok_row x more same)
    (tally_as u w (λ c. (total_in c row.first.deriv + sum_by (total_in c) row.derivs) + total_in c ran.deriv) (λ c. total_in c x.first.deriv + sum_by (total_in c) x.derivs)
    (λ c. ap₂ (λ (r : Ran) (ds : List Deriv). total_in c r.deriv + sum_by (total_in c) ds) grown.first grown.derivs ∙ ap (λ n. total_in c row.first.deriv + n) (sum_by_push (total_in c) row.derivs ran.deriv) ∙ grouped (total_in c row.first.deriv) (sum_by (total_in c) row.derivs) (total_in c ran.deriv))
    (tally_then u v w (λ c. total_in c row.first.deriv + sum_by (total_in c) row.derivs) (λ c. total_in c ran.deriv) a b))

pair_push : (c : Count) (rest : List (ℕ × Deriv)) (i : ℕ) (d : Deriv) → in_pairs c (rest ++ (i, d) ∷ []) ≡ in_pairs c rest + total_in c d
pair_push c rest i d = sum_by_push (λ (p : ℕ × Deriv). total_in c p.1) rest (i, d)

beside_grows : (u v w : View) (b x : Beside) (d : Deriv) → x.first ≡ b.first → x.derivs ≡ b.derivs ++ (length b.derivs, d) ∷ [] → BesideTally u v b → Tally v w d → BesideTally u w x
beside_grows u v w b x d first derivs old one =
    tally_as u w (λ c. (total_in c b.first.deriv + in_pairs c b.derivs) + total_in c d) (λ c. total_in c x.first.deriv + in_pairs c x.derivs)
    (λ c. ap₂ (λ (r : Ran) (ds : List (ℕ × Deriv)). total_in c r.deriv + in_pairs c ds) first derivs ∙ ap (λ n. total_in c b.first.deriv + n) (pair_push c b.derivs (length b.derivs) d) ∙ grouped (total_in c b.first.deriv) (in_pairs c b.derivs) (total_in c d))
    (tally_then u v w (λ c. total_in c b.first.deriv + in_pairs c b.derivs) (λ c. total_in c d) old one)

pub ended_tally : (u v w : View) (b more : Beside) (ran : Ran) (p : Part) (res : Result Beside RunStop) → p ≡ part.Ended ran → IfOk res (λ x. HasEnded b x ran) → BesideTally u v b → PartTally v w p → res ≡ Ok more → BesideTally u w more
ended_tally u v w b more ran p (Ok x) is grown old one same = subst (λ (y : Beside). BesideTally u w y) (ok_beside x more same) (beside_grows u v w b x ran.deriv grown.first grown.derivs old (subst (λ (y : Part). PartTally v w y) is one))
ended_tally u v w b more ran p (Err x) is grown old one same = absurd (cc)

pub stopped_tally : (u v w : View) (b more : Beside) (d : Deriv) (p : Part) (res : Result Beside RunStop) → p ≡ part.Stopped d → IfOk res (λ x. HasStopped b x d) → BesideTally u v b → PartTally v w p → res ≡ Ok more → BesideTally u w more
stopped_tally u v w b more d p (Ok x) is grown old one same = subst (λ (y : Beside). BesideTally u w y) (ok_beside x more same) (beside_grows u v w b x d grown.first grown.derivs old (subst (λ (y : Part). PartTally v w y) is one))
stopped_tally u v w b more d p (Err x) is grown old one same = absurd (cc)

-- ---- the ends of a row
module _ (v w : View) (goal : Goal) (l : Option ℕ) (spent : ℕ) (out : Outcome) (first : Deriv) where
  pub seq_tally : (rest : List Deriv) (d : Deriv) → d ≡ seq_deriv goal l spent out first rest → Tallies v w (λ c. total_in c first + sum_by (total_in c) rest) → Tally v w d
  seq_tally rest d is = tally_as v w (λ c. total_in c first + sum_by (total_in c) rest) (λ c. total_in c d) (λ c. ap (total_in c) is ∙ at_seq c (seq_deriv goal l spent out first rest) first rest refl)

  pub alone_tally : (d : Deriv) → d ≡ seq_deriv goal l spent out first [] → Tally v w first → Tally v w d
  alone_tally d is one = seq_tally [] d is (tally_as v w (λ c. total_in c first) (λ c. total_in c first + 0) (λ c. with_none (total_in c first)) one)

  pub last_tally : (u : View) (rest : List Deriv) (last d : Deriv) → d ≡ seq_deriv goal l spent out first (rest ++ last ∷ []) → Tallies u v (λ c. total_in c first + sum_by (total_in c) rest) → Tally v w last → Tally u w d
  last_tally u rest last d is old one =
      tally_as u w (λ c. (total_in c first + sum_by (total_in c) rest) + total_in c last) (λ c. total_in c d)
      (λ c. ap (total_in c) is ∙ at_seq c (seq_deriv goal l spent out first (rest ++ last ∷ [])) first (rest ++ last ∷ []) refl ∙ ap (λ n. total_in c first + n) (sum_by_push (total_in c) rest last) ∙ grouped (total_in c first) (sum_by (total_in c) rest) (total_in c last))
      (tally_then u v w (λ c. total_in c first + sum_by (total_in c) rest) (λ c. total_in c last) old one)

-- ---- the ends of runs side by side
module _ (v w : View) (goal : Goal) (l : Option ℕ) (most : ℕ) (out : Outcome) (first : Deriv) where
  pub par_tally : (rest : List (ℕ × Deriv)) (d : Deriv) → d ≡ par_deriv goal l most out first rest → Tallies v w (λ c. total_in c first + in_pairs c rest) → Tally v w d
  par_tally rest d is = tally_as v w (λ c. total_in c first + in_pairs c rest) (λ c. total_in c d) (λ c. ap (total_in c) is ∙ at_par_seq c (par_deriv goal l most out first rest) first rest refl)

  pub alone_par_tally : (rest : List (ℕ × Deriv)) (d : Deriv) → d ≡ par_deriv goal l most out first rest → rest ≡ [] → Tally v w first → Tally v w d
  alone_par_tally rest d is none one = par_tally rest d is (tally_as v w (λ c. total_in c first) (λ c. total_in c first + in_pairs c rest) (λ c. ap (λ (ps : List (ℕ × Deriv)). total_in c first + in_pairs c ps) none ∙ with_none (total_in c first)) one)

  pub last_par_tally : (u : View) (rest : List (ℕ × Deriv)) (i : ℕ) (last d : Deriv) → d ≡ par_deriv goal l most out first (rest ++ (i, last) ∷ []) → Tallies u v (λ c. total_in c first + in_pairs c rest) → Tally v w last → Tally u w d
  last_par_tally u rest i last d is old one =
      tally_as u w (λ c. (total_in c first + in_pairs c rest) + total_in c last) (λ c. total_in c d)
      (λ c. ap (total_in c) is ∙ at_par_seq c (par_deriv goal l most out first (rest ++ (i, last) ∷ [])) first (rest ++ (i, last) ∷ []) refl ∙ ap (λ n. total_in c first + n) (pair_push c rest i last) ∙ grouped (total_in c first) (in_pairs c rest) (total_in c last))
      (tally_then u v w (λ c. total_in c first + in_pairs c rest) (λ c. total_in c last) old one)

-- ---- a success put together out of goals with a derivation, whose tickets are known
pub made_tally : (v w : View) (res : Result Ran RunStop) (made : Result Made AllocError) (e : Deriv) → IfOk made (λ m. m.deriv ≡ e) → IfOk res (λ q. IsOkAnd made (λ m. q.deriv ≡ m.deriv)) → IfErr res (λ x. x ≡ stops.Memory) → ((d : Deriv) → d ≡ e → Tally v w d) → RunTally v w res
made_tally v w (Ok q) (Ok m) e is same err all = all q.deriv (same ∙ is)
made_tally v w (Ok q) (Err x) e is same err all = absurd same
made_tally v w (Err x) made e is same err all = subst (λ (y : RunStop). RunTally v w (Err y)) (sym err) tt
