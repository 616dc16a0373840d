-- Comparing numbers of a store, and the rules of Iff and Ite.
use Rattle.std.proofs.Common.{◌≡◌, ℕ, List, refl, sym, ap, ◌∙◌, Bool, true, false, true≢false, eqb-true, nat_eq}
use Rattle.std.proofs.lemmas.Bool.{eq-eqb}
use Rattle.qterm.specs.Tree.{Tree}
use Rattle.qterm.specs.Store.{tree_at, Has, IsDistinct}
use Rattle.qlin.specs.Order.{same}
use Rattle.qcanon_laws.proofs.Canonical.{same_itself, not_same}

-- two numbers are the same where their trees are
pub same_ids : (ts : List Tree) (a b : ℕ) → IsDistinct ts → Has ts a → Has ts b → nat_eq a b ≡ same (tree_at ts a) (tree_at ts b)
same_ids ts a b d h k = by (nat_eq a b) refl
  where
    by : (c : Bool) → nat_eq a b ≡ c → c ≡ same (tree_at ts a) (tree_at ts b)
    by true e = sym (same_itself (tree_at ts b)) ∙ ap (λ x. same (tree_at ts x) (tree_at ts b)) (sym (eqb-true a b e))
    by false e = sym (not_same (tree_at ts a) (tree_at ts b) (λ q. true≢false (sym (eq-eqb a b (d a b h k q)) ∙ e)))
