-- Shifts over lists that are the same, the steps of a certificate one after the other, and a cause that isn't the size.
use Rattle.std.proofs.Common.{◌≡◌, ◌∙◌, ℕ, List, ◌++◌, sym, ap, subst}
use Rattle.qterm.specs.Tree.{Tree}
use Rattle.qterm.specs.Store.{Extends}
use Rattle.qlin.specs.CanonList.{canon_list}
use Rattle.qsubst.specs.Substitution.{replaced_each}
use Rattle.tac_cert.specs.declared.cert.Step.{Step}
use Rattle.tac_cert.specs.Accepts.{as_items}
use Rattle.proof_conv.specs.Leaves.{StepsLeave}
use Rattle.proof_conv.proofs.Fuel.{steps_then}
use Rattle.proof_conv.proofs.Staying.{steps_stay}
use Rattle.reduce_base.specs.declared.fault.Fault.{Fault}
use Rattle.reduce_base.specs.declared.fault.Fault.TheVariants.{TooWide, TooLarge, Memory}
use Rattle.reduce_base.specs.Fault.{IsFault}
use Rattle.shift_lists.specs.declared.shifting.Shift.{Shift}
use Rattle.shift_lists.specs.Shifts.{images_of, AreShifts}
use Rattle.tac_normal.specs.Normal.{IsNotNormal, IsWithoutLimit}

pub same_shifts : (g h c d : List Tree) (ss rs : List Shift) → g ≡ h → c ≡ d → ss ≡ rs → AreShifts g c ss → AreShifts h d rs
same_shifts g h c d ss rs p q r a = subst (λ xs. AreShifts h d xs) r (subst (λ x. AreShifts h x ss) q (subst (λ x. AreShifts x c ss) p a))

-- from the goal to its canonical list, from this to that with its names shifted, and from this to its own
pub three_lead : (S V W : List Tree) (g c r out : List Tree) (first turned last some all : List Step) → Extends S W → Extends V W → StepsLeave S (as_items g) first (as_items c) → StepsLeave V (as_items c) turned (as_items r) → StepsLeave W (as_items r) last (as_items out)
    → some ≡ first ++ turned → all ≡ some ++ last → StepsLeave W (as_items g) all (as_items out)
three_lead S V W g c r out first turned last some all p q a b d e f =
    let ab = steps_then W (as_items g) (as_items c) (as_items r) first turned (steps_stay S W (as_items g) first (as_items c) p a) (steps_stay V W (as_items c) turned (as_items r) q b) in
    subst (λ ss. StepsLeave W (as_items g) ss (as_items out)) (sym f) (steps_then W (as_items g) (as_items r) (as_items out) some last (subst (λ ss. StepsLeave W (as_items g) ss (as_items r)) (sym e) ab) d)

pub not_normal : (most : ℕ) (ts fs g c : List Tree) (ss : List Shift) (fault out : Fault) → IsWithoutLimit fault out → fs ≡ replaced_each (images_of ss) c → AreShifts g c ss → IsFault most ts fs fault → IsNotNormal ts g c out
not_normal most ts fs g c ss (TooWide i) out same e a h = subst (IsNotNormal ts g c) (sym same) (h.0, record { shifts = ss; are = a; wide = ap canon_list (sym e) ∙ h.1 })
not_normal most ts fs g c ss (TooLarge n) (Memory x) same e a h = tt
not_normal most ts fs g c ss (TooLarge n) (TooWide i) same e a h = absurd same
not_normal most ts fs g c ss (TooLarge n) (TooLarge m) same e a h = absurd same
not_normal most ts fs g c ss (Memory x) out same e a h = subst (IsNotNormal ts g c) (sym same) tt
