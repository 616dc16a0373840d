-- Steps that set names, one by one.
use Rattle.std.proofs.Common.{◌≡◌, ℕ, zero, suc, ◌+◌, ◌<◌, Bool as Truth, List, [], ◌∷◌, ◌++◌, length, take, get_or, refl, sym, ap, subst, ◌∙◌, arith}
use Rattle.qterm.specs.declared.name.Name.{Name}
use Rattle.qterm.specs.declared.name.Sort.{Sort}
use Rattle.qterm.specs.declared.name.Sort.TheVariants as sort
use Rattle.qeval.specs.declared.model.Value.TheVariants.{Bool}
use Rattle.qeval.specs.Value.{HasSort}
use Rattle.model_conv.specs.declared.step.LiftStep.{LiftStep}
use Rattle.model_conv.specs.declared.step.LiftStep.TheVariants.{Set}
use Rattle.model_conv.specs.Step.{IsLawful, AreLawful}
use Rattle.reducer_iface.specs.SatRow.{sets}
use Rattle.sat_rows.specs.Names.{AreNames}

sets_suc : (ns : List Name) (bs : List Truth) (i : ℕ) (d : Name) (e : Truth) → i < length ns → i < length bs → sets (take (suc i) ns) (take (suc i) bs) ≡ sets (take i ns) (take i bs) ++ Set (get_or ns i d) (Bool (get_or bs i e)) ∷ []
sets_suc [] bs i d e p q = absurd (omega (arith, p))
sets_suc (n ∷ ns) [] i d e p q = absurd (omega (arith, q))
sets_suc (n ∷ ns) (b ∷ bs) zero d e p q = refl
sets_suc (n ∷ ns) (b ∷ bs) (suc i) d e p q = ap (λ ss. Set n (Bool b) ∷ ss) (sets_suc ns bs i d e (omega (arith, p)) (omega (arith, q)))

pub sets_more : (f : ℕ → Name) (ns : List Name) (bs : List Truth) (ss more : List LiftStep) (s : LiftStep) (i : ℕ) (e : Truth) → AreNames ns f → i < length ns → i < length bs → ss ≡ sets (take i ns) (take i bs) → s ≡ Set (f i) (Bool (get_or bs i e)) → more ≡ ss ++ s ∷ [] → more ≡ sets (take (i + 1) ns) (take (i + 1) bs)
sets_more f ns bs ss more s i e are p q so is m =
    let same : i + 1 ≡ suc i = omega arith in
    m ∙ (λ k. so k ++ (is ∙ ap (λ n. Set n (Bool (get_or bs i e))) (sym (are i (f i) p))) k ∷ []) ∙ sym (sets_suc ns bs i (f i) e p q) ∙ ap (λ n. sets (take n ns) (take n bs)) (sym same)

bool_fits : (s : Sort) (b : Truth) → s ≡ sort.Bool → HasSort s (Bool b)
bool_fits s b e = e

lawful_push : (ss : List LiftStep) (s : LiftStep) → AreLawful ss → IsLawful s → AreLawful (ss ++ s ∷ [])
lawful_push [] s h k = (k, tt)
lawful_push (x ∷ ss) s h k = (h.0, lawful_push ss s h.1 k)

pub lawful_more : (n : Name) (b : Truth) (ss more : List LiftStep) (s : LiftStep) → n.sort ≡ sort.Bool → AreLawful ss → s ≡ Set n (Bool b) → more ≡ ss ++ s ∷ [] → AreLawful more
lawful_more n b ss more s bool h is m = subst AreLawful (sym m) (lawful_push ss s h (subst IsLawful (sym is) (bool_fits n.sort b bool)))
