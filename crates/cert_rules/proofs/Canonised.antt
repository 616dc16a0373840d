-- Canonical forms that were found.
use Rattle.std.proofs.Common.{◌≡◌, ℕ, Bool as Truth, true, false, List, refl, sym, ap, subst, ◌∙◌, rules, Option, Some, None, Result, Ok, Err, nat_eq, eqb-true}
use Rattle.std.specs.Prelude.{OnOk}
use Rattle.std.specs.declared.alloc.AllocError.{AllocError}
use Rattle.std.specs.declared.cmp.Ordering.{Ordering}
use Rattle.std.specs.declared.cmp.Ordering.TheVariants.{Less, Equal, Greater}
use Rattle.std.specs.Ordering.{is_eq}
use Rattle.qterm.specs.Tree.{Tree}
use Rattle.qterm.specs.Store.{Has, Extends, IsDistinct, tree_at}
use Rattle.qterm.proofs.Fitting.{Has_extends}
use Rattle.qlin.specs.Order.{same, tree_cmp}
use Rattle.qlin.proofs.Orders.{equal, itself}
use Rattle.qcanon.specs.declared.forms.Forms.{Forms}
use Rattle.qcanon.specs.Walk.{IsCanon}
use Rattle.qcanon.specs.Chain.{AreForms}
use Rattle.qcanon.proofs.Known.{AreForms_extends}
use Rattle.tac_cert.specs.Formulas.{are_equal}

pub is_canon_stays : (ts us : List Tree) (r : Result Tree Tree) (o : Option ℕ) → Extends ts us → IsCanon ts r o → IsCanon us r o
is_canon_stays ts us r None e h = h
is_canon_stays ts us r (Some c) e h = (Has_extends ts us c e h.0, h.1 ∙ ap Ok (sym (e.same c h.0)))

-- ---- comparing
pub same_itself : (t : Tree) → same t t ≡ true
same_itself t = ap is_eq (itself t)

pub same_is : (t u : Tree) → same t u ≡ true → t ≡ u
same_is t u h = equal t u (by (tree_cmp t u) h)
  where
    by : (o : Ordering) → is_eq o ≡ true → o ≡ Equal
    by Less h = cc
    by Equal h = refl
    by Greater h = cc

pub same_ids : (ts : List Tree) (c d : ℕ) → IsDistinct ts → Has ts c → Has ts d → same (tree_at ts c) (tree_at ts d) ≡ nat_eq c d
same_ids ts c d dist h k = by (nat_eq c d) refl
  where
    by : (b : Truth) → nat_eq c d ≡ b → same (tree_at ts c) (tree_at ts d) ≡ b
    by true e = subst (λ x. same (tree_at ts c) (tree_at ts x) ≡ true) (eqb-true c d e) (same_itself (tree_at ts c))
    by false e = not_same (same (tree_at ts c) (tree_at ts d)) refl
      where
        not_same : (x : Truth) → same (tree_at ts c) (tree_at ts d) ≡ x → x ≡ false
        not_same true g = let q : c ≡ d = dist c d h k (same_is (tree_at ts c) (tree_at ts d) g) in absurd (apart (nat_eq c d) (let z : nat_eq c d ≡ true = search rules in z) e)
          where
            apart : (b : Truth) → b ≡ true → b ≡ false → ⊥
            apart b p q = cc
        not_same false g = refl

pub both_found : (us : List Tree) (r s : Result Tree Tree) (c d : ℕ) (b : Truth) → IsDistinct us → IsCanon us r (Some c) → IsCanon us s (Some d) → b ≡ nat_eq c d → b ≡ are_equal r s
both_found us r s c d b dist h k e = e ∙ sym (same_ids us c d dist h.0 k.0) ∙ sym (λ i. are_equal (h.1 i) (k.1 i))

pub left_none : (us : List Tree) (r s : Result Tree Tree) (o : Option ℕ) → IsCanon us r o → o ≡ None → false ≡ are_equal r s
left_none us r s o h e = let k : IsCanon us r None = subst (IsCanon us r) e h in sym (ap (λ x. are_equal x s) k.1)

pub right_none : (us : List Tree) (r s : Result Tree Tree) (o : Option ℕ) → IsCanon us s o → o ≡ None → false ≡ are_equal r s
right_none us r s o h e = let k : IsCanon us s None = subst (IsCanon us s) e h in sym (ap (are_equal r) k.1 ∙ none_right r)
  where
    none_right : (r : Result Tree Tree) → are_equal r (Err (subst (IsCanon us s) e h).0) ≡ false
    none_right (Ok c) = refl
    none_right (Err w) = refl

-- after a call that leaves the table as it is
pub forms_stay_on : {X : Type 0} (ts us : List Tree) (m : Forms) (r : Result X AllocError) → Extends ts us → AreForms ts m → OnOk r (AreForms us m)
forms_stay_on ts us m (Ok x) e a = AreForms_extends ts us m e a
forms_stay_on ts us m (Err x) e a = tt
