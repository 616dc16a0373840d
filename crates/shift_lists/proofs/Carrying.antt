-- What the steps of lifting make of a valuation.
use Rattle.std.proofs.Common.{◌≡◌, ℕ, ℤ, pos, ◌+◌, ◌<◌, inl, inr, Bool as Truth, true, false, cond, unwrap_or, Some, List, [], ◌∷◌, ◌++◌, map, length, take, get_or, refl, sym, ap, ◌∙◌, arith, if◌then◌else◌}
use Rattle.std.specs.Prelude.{◌+ℤ◌, ◌*ℤ◌}
use Rattle.std.specs.Map.{lookup}
use Rattle.std.proofs.lemmas.Int.{ints}
use Rattle.std.proofs.lemmas.List.{take_more}
use Rattle.qterm.specs.declared.name.Name.{Name}
use Rattle.qterm.specs.Tree.{Var}
use Rattle.qeval.specs.declared.model.Value.TheVariants.{Int}
use Rattle.qeval.specs.Value.{Valuation, value_of, same_name, int_of}
use Rattle.qeval.specs.Eval.{val}
use Rattle.qeval.proofs.Valuations.{same_name_exact}
use Rattle.qsubst.specs.Substitution.{image}
use Rattle.qsubst.proofs.Members.{Member}
use Rattle.qsubst.proofs.Taken.{map-append}
use Rattle.model_conv.specs.declared.step.LiftStep.{LiftStep}
use Rattle.model_conv.specs.Form.{total}
use Rattle.model_conv.specs.Lift.{lifted}
use Rattle.model_conv.specs.Step.{AreLawful}
use Rattle.model_conv.specs.Narrow.{AllSetNarrow}
use Rattle.model_conv.proofs.Lawful.{lawful_both}
use Rattle.model_conv.proofs.Values.{same_name_turned, value_of-with_value, value_of-without}
use Rattle.shift_lists.specs.declared.shifting.Shift.{Shift}
use Rattle.shift_lists.specs.Shifts.{shifted, images_of, AreInt}
use Rattle.shift_lists.specs.Lifting.{assign_of, forget_of, lifting}

-- one step more
pub map_more : {A B : Type 0} (f : A → B) (xs : List A) (k : ℕ) (x : A) (done new : List B) → k < length xs → x ≡ get_or xs k x → done ≡ map f (take k xs) → new ≡ done ++ f x ∷ [] → new ≡ map f (take (k + 1) xs)
map_more f xs k x done new l g d e =
    e ∙ ap (λ ys. ys ++ f x ∷ []) d ∙ sym (map-append f (take k xs) (x ∷ [])) ∙ ap (λ y. map f (take k xs ++ y ∷ [])) g ∙ ap (map f) (sym (take_more xs k x l))

-- ---- the steps are lawful, and set no number
forgets_lawful : (ss : List Shift) → AreLawful (map forget_of ss)
forgets_lawful [] = tt
forgets_lawful (s ∷ ss) = (tt, forgets_lawful ss)

assigns_lawful : (ss : List Shift) → AreInt ss → AreLawful (map assign_of ss)
assigns_lawful [] i = tt
assigns_lawful (s ∷ ss) i = ((i.0, (i.1, tt)), assigns_lawful ss i.2)

pub lifting_lawful : (ss : List Shift) → AreInt ss → AreLawful (lifting ss)
lifting_lawful ss i = lawful_both (map forget_of ss) (map assign_of ss) (forgets_lawful ss) (assigns_lawful ss i)

narrow_both : (ss ts : List LiftStep) → AllSetNarrow ss → AllSetNarrow ts → AllSetNarrow (ss ++ ts)
narrow_both [] ts p q = q
narrow_both (s ∷ ss) ts p q = (p.0, narrow_both ss ts p.1 q)

forgets_narrow : (ss : List Shift) → AllSetNarrow (map forget_of ss)
forgets_narrow [] = tt
forgets_narrow (s ∷ ss) = (tt, forgets_narrow ss)

assigns_narrow : (ss : List Shift) → AllSetNarrow (map assign_of ss)
assigns_narrow [] = tt
assigns_narrow (s ∷ ss) = (tt, assigns_narrow ss)

pub lifting_narrow : (ss : List Shift) → AllSetNarrow (lifting ss)
lifting_narrow ss = narrow_both (map forget_of ss) (map assign_of ss) (forgets_narrow ss) (assigns_narrow ss)

-- ---- values
-- a name that isn't fresh keeps its value where the fresh ones are taken out
pub forgotten : (ss : List Shift) (V : Valuation) (n : Name) → ((s : Shift) → Member s ss → n ≡ s.fresh → ⊥) → value_of (lifted (map forget_of ss) V) n ≡ value_of V n
forgotten [] V n h = refl
forgotten (s ∷ ss) V n h = by (same_name s.fresh n) refl (forgotten ss V n (λ r m. h r (inr m)))
  where
    by : (b : Truth) → same_name s.fresh n ≡ b → value_of (lifted (map forget_of ss) V) n ≡ value_of V n → value_of (lifted (map forget_of (s ∷ ss)) V) n ≡ value_of V n
    by true q ih = absurd (h s (inl refl) (sym (same_name_exact s.fresh n q)))
    by false q ih = value_of-without (lifted (map forget_of ss) V) s.fresh n q ∙ ih

-- no fresh name is one that is replaced
abbrev pub KeepsApart : List Shift → Type 0
KeepsApart ss = (s r : Shift) → Member s ss → Member r ss → s.fresh ≡ r.name → ⊥

-- a name that isn't replaced has no term put for it
not_replaced : (ss : List Shift) (n : Name) → ((r : Shift) → Member r ss → n ≡ r.name → ⊥) → image (images_of ss) n ≡ Var n
not_replaced [] n h = refl
not_replaced (s ∷ ss) n h = by (same_name n s.name) refl (not_replaced ss n (λ r m. h r (inr m)))
  where
    by : (b : Truth) → same_name n s.name ≡ b → image (images_of ss) n ≡ Var n → image (images_of (s ∷ ss)) n ≡ Var n
    by true q ih = absurd (h s (inl refl) (same_name_exact n s.name q))
    by false q ih = ap (λ b. unwrap_or (cond b (Some (shifted s)) (lookup (same_name n) (images_of ss))) (Var n)) q ∙ ih

added : (a b : ℤ) → ((pos 1 *ℤ a) +ℤ pos 0) +ℤ b ≡ (pos 0 +ℤ a) +ℤ b
added a b = omega (arith, ints)

-- each name gets the value of the term that is put for it
pub assigned : (ss : List Shift) (V : Valuation) (n : Name) → KeepsApart ss → value_of (lifted (map assign_of ss) V) n ≡ val V (image (images_of ss) n)
assigned [] V n h = refl
assigned (s ∷ ss) V n h = one (λ m. assigned ss V m (λ r q k l. h r q (inr k) (inr l)))
  where
    U : Valuation
    U = lifted (map assign_of ss) V

    put : (b : Truth) → same_name s.name n ≡ b → val V (image (images_of (s ∷ ss)) n) ≡ val V (unwrap_or (cond b (Some (shifted s)) (lookup (same_name n) (images_of ss))) (Var n))
    put b q = ap (λ k. val V (unwrap_or (cond k (Some (shifted s)) (lookup (same_name n) (images_of ss))) (Var n))) (same_name_turned n s.name ∙ q)

    one : ((m : Name) → value_of U m ≡ val V (image (images_of ss) m)) → value_of (lifted (map assign_of (s ∷ ss)) V) n ≡ val V (image (images_of (s ∷ ss)) n)
    one ih = value_of-with_value U s.name (Int (total U ((pos 1, s.fresh) ∷ []) +ℤ s.by)) n ∙ by (same_name s.name n) refl
      where
        fresh : value_of U s.fresh ≡ value_of V s.fresh
        fresh = ih s.fresh ∙ ap (val V) (not_replaced ss s.fresh (λ r m. h s r (inl refl) (inr m)))

        number : total U ((pos 1, s.fresh) ∷ []) +ℤ s.by ≡ (pos 0 +ℤ int_of (value_of V s.fresh)) +ℤ s.by
        number = ap (λ v. ((pos 1 *ℤ int_of v) +ℤ pos 0) +ℤ s.by) fresh ∙ added (int_of (value_of V s.fresh)) s.by

        by : (b : Truth) → same_name s.name n ≡ b → (if b then Int (total U ((pos 1, s.fresh) ∷ []) +ℤ s.by) else value_of U n) ≡ val V (image (images_of (s ∷ ss)) n)
        by true q = ap Int number ∙ sym (put true q)
        by false q = ih n ∙ sym (put false q)
