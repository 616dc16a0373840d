-- What the two kinds of steps give: the definition of a fresh name, and a formula with a name replaced.
use Rattle.std.proofs.Common.{◌≡◌, ℕ, ℤ, true, false, not, ◌&&◌, ◌||◌, List, [], ◌∷◌, ◌++◌, Some, None, refl, ap, ◌∙◌, if◌then◌else◌}
use Rattle.std.specs.Prelude.{neg_ℤ}
use Rattle.std.specs.List.{list_all}
use Rattle.qterm.specs.declared.name.Name.{Name}
use Rattle.qterm.specs.declared.name.Sort.TheVariants as sort
use Rattle.qterm.specs.Tree.{Tree, Var, Num, Sum, Eq, Iff, none, more, sort_of, IsLawful}
use Rattle.qterm.specs.Store.{Shows}
use Rattle.qlin.specs.Number.{in_range}
use Rattle.qsubst.specs.Substitution.{replaced}
use Rattle.tac_cert.specs.declared.cert.Step.TheVariants as step
use Rattle.tac_cert.specs.Names.{is_int, same_sort, same_text, in_tree}
use Rattle.tac_cert.specs.Depth.{deepest_term, is_shallow}
use Rattle.tac_cert.specs.Items.{Item, Formula, item, formula_of, formula_at, in_items, gives_if}
use Rattle.tac_cert.specs.Formulas as rule
use Rattle.tac_cert.specs.Gives.{gives, adds}
use Rattle.shift_lists.specs.declared.shifting.Shift.{Shift}
use Rattle.shift_lists.specs.Shifts.{shifted, shift_one}
use Rattle.shift_steps.specs.Defining.{taken_off, defining}
use Rattle.shift_steps.proofs.Putting.{by_rule}
use Rattle.shift_steps.proofs.Equations.{both_sides}
use Rattle.shift_steps.proofs.Stepping.{formula_adds}

var_shallow : (n : Name) → is_shallow (Var n) ≡ true
unfolding deepest_term
var_shallow n = refl

sum_shallow : (n : Name) (z : ℤ) → is_shallow (Sum (more (Var n) (more (Num z) none))) ≡ true
unfolding deepest_term
sum_shallow n z = refl

-- ---- def
module _ (s : Shift) (old : s.name.sort ≡ sort.Int) (new : s.fresh.sort ≡ sort.Int) where
  equation_of : rule.equation (Var s.fresh) (taken_off s) ≡ defining s
  equation_of = ap (λ r. if is_int r then Eq (Var s.fresh) (taken_off s) else Iff (Var s.fresh) (taken_off s)) new

  defining_lawful : IsLawful (defining s)
  defining_lawful = (tt, new, (tt, old, (tt, refl, tt)), refl)

  fits_there : (items : List Item) → in_items (s.fresh ∷ []) items ≡ false → same_text s.fresh s.name ≡ false → rule.define_fits items s.fresh (taken_off s) ≡ true
  fits_there items free apart =
      let i : is_int s.fresh.sort ≡ true = ap is_int new in
      let t : in_tree (s.fresh ∷ []) (taken_off s) ≡ false = ap (λ b. (b || false) || (false || false)) apart in
      λ k. i k && (((not false && true) && not (free k)) && not (t k))

  pub def_gives : (ts : List Tree) (items : List Item) (i : ℕ) → Shows ts i (taken_off s) → in_items (s.fresh ∷ []) items ≡ false → same_text s.fresh s.name ≡ false → gives ts items (step.Def s.fresh i) ≡ Some (items ++ Formula (defining s) ∷ [])
  def_gives ts items i shows free apart =
      let d : list_all is_shallow (taken_off s ∷ []) ≡ true = ap (λ b. b && true) (sum_shallow s.name (neg_ℤ s.by)) in
      ap (λ t. if list_all is_shallow (t ∷ []) then adds items (rule.define items s.fresh t) else None) shows.is
      ∙ ap (λ b. if b then adds items (rule.define items s.fresh (taken_off s)) else None) d
      ∙ ap (λ b. adds items (gives_if b (Formula (rule.equation (Var s.fresh) (taken_off s)) ∷ []))) (fits_there items free apart)
      ∙ ap (λ e. adds items (Some (Formula e ∷ []))) equation_of
      ∙ formula_adds items (defining s) defining_lawful refl

  -- ---- subst
  is_equation : (items : List Item) (e : ℕ) → in_range s.by ≡ true → (s.name ≡ s.fresh → ⊥) → item items e ≡ Some (Formula (defining s)) → rule.is_equation items e (Var s.name) (shifted s) ≡ true
  is_equation items e narrow apart at =
      let f : formula_at items e ≡ Some (defining s) = ap formula_of at in
      let q : rule.equation (Var s.name) (shifted s) ≡ Eq (Var s.name) (shifted s) = ap (λ r. if is_int r then Eq (Var s.name) (shifted s) else Iff (Var s.name) (shifted s)) old in
      let i : same_sort s.name.sort sort.Int ≡ true = ap is_int old in
      (λ k. i k && rule.same_canon (f k) (q k)) ∙ both_sides s.name s.fresh s.by narrow apart

  pub subst_gives : (ts : List Tree) (items : List Item) (e n t j : ℕ) (u : Tree) → in_range s.by ≡ true → (s.name ≡ s.fresh → ⊥) → Shows ts n (Var s.name) → Shows ts t (shifted s) → item items e ≡ Some (Formula (defining s)) → item items j ≡ Some (Formula u)
      → is_shallow (replaced (shift_one s) u) ≡ true → IsLawful (replaced (shift_one s) u) → sort_of (replaced (shift_one s) u) ≡ sort.Bool → gives ts items (step.Subst e n t j) ≡ Some (items ++ Formula (replaced (shift_one s) u) ∷ [])
  subst_gives ts items e n t j u narrow apart from to at target deep lawful bool =
      let v = replaced (shift_one s) u in
      let d : list_all is_shallow (Var s.name ∷ shifted s ∷ []) ≡ true = λ k. var_shallow s.name k && (sum_shallow s.fresh s.by k && true) in
      let f : formula_at items j ≡ Some u = ap formula_of target in
      (λ k. if list_all is_shallow (from.is k ∷ to.is k ∷ []) then adds items (rule.substitute items e (from.is k) (to.is k) j) else None)
      ∙ ap (λ b. if b then adds items (rule.substitute items e (Var s.name) (shifted s) j) else None) d
      ∙ (λ k. adds items (rule.put_into (is_equation items e narrow apart at k) (Var s.name) (shifted s) (f k)))
      ∙ ap (λ w. adds items (rule.if_shallow w)) (by_rule s.name (shifted s) u)
      ∙ ap (λ b. adds items (gives_if b (Formula v ∷ []))) deep
      ∙ formula_adds items v lawful bool
