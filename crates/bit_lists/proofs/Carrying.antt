-- What the steps of lifting make of a valuation.
use Rattle.std.proofs.Common.{◌≡◌, ℕ, pos, ◌*◌, inl, inr, Bool as Truth, true, false, cond, unwrap_or, Some, List, [], ◌∷◌, ◌++◌, map, refl, sym, ap, ◌∙◌, if◌then◌else◌}
use Rattle.std.specs.Prelude.{◌+ℤ◌, ◌*ℤ◌}
use Rattle.std.specs.Map.{lookup}
use Rattle.qterm.specs.declared.name.Name.{Name}
use Rattle.qterm.specs.Tree.{Var}
use Rattle.qeval.specs.declared.model.Value.TheVariants.{Int}
use Rattle.qeval.specs.Value.{Valuation, value_of, same_name, int_of}
use Rattle.qeval.specs.Eval.{val}
use Rattle.qeval.proofs.Valuations.{same_name_exact}
use Rattle.qsubst.specs.Substitution.{image}
use Rattle.qsubst.proofs.Members.{Member}
use Rattle.model_conv.specs.declared.step.LiftStep.{LiftStep}
use Rattle.model_conv.specs.Form.{number_of, total}
use Rattle.model_conv.specs.Lift.{lifted}
use Rattle.model_conv.specs.Step.{IsIntForm, AreLawful}
use Rattle.model_conv.specs.Narrow.{AllSetNarrow}
use Rattle.model_conv.proofs.Lawful.{lawful_both}
use Rattle.model_conv.proofs.Values.{same_name_turned, value_of-with_value, value_of-without}
use Rattle.bit_lists.specs.declared.splits.Split.{Split}
use Rattle.bit_lists.specs.Splits.{all_bits, AllInt, AreInt}
use Rattle.bit_lists.specs.Row.{bit_sum, images_of}
use Rattle.bit_lists.specs.Lifting.{form_of, assign_of, forget_of, lifting}
use Rattle.bit_lists.proofs.Numbers.{form_is}

-- ---- the steps are lawful, and set no number
forgets_lawful : (bs : List Name) → AreLawful (map forget_of bs)
forgets_lawful [] = tt
forgets_lawful (b ∷ bs) = (tt, forgets_lawful bs)

form_int : (w : ℕ) (bs : List Name) → AllInt bs → IsIntForm (form_of w bs)
form_int w [] i = tt
form_int w (b ∷ bs) i = (i.0, form_int (w * 2) bs i.1)

assigns_lawful : (ss : List Split) → AreInt ss → AreLawful (map assign_of ss)
assigns_lawful [] i = tt
assigns_lawful (s ∷ ss) i = ((i.0, form_int 1 s.bits i.1), assigns_lawful ss i.2)

pub lifting_lawful : (ss : List Split) → AreInt ss → AreLawful (lifting ss)
lifting_lawful ss i = lawful_both (map forget_of (all_bits ss)) (map assign_of ss) (forgets_lawful (all_bits ss)) (assigns_lawful ss i)

forgets_narrow : (bs : List Name) (ss : List LiftStep) → AllSetNarrow ss → AllSetNarrow (map forget_of bs ++ ss)
forgets_narrow [] ss h = h
forgets_narrow (b ∷ bs) ss h = (tt, forgets_narrow bs ss h)

assigns_narrow : (ss : List Split) → AllSetNarrow (map assign_of ss)
assigns_narrow [] = tt
assigns_narrow (s ∷ ss) = (tt, assigns_narrow ss)

pub lifting_narrow : (ss : List Split) → AllSetNarrow (lifting ss)
lifting_narrow ss = forgets_narrow (all_bits ss) (map assign_of ss) (assigns_narrow ss)

-- ---- values
-- a name that is no bit keeps its value where the bits are taken out
pub forgotten : (bs : List Name) (V : Valuation) (n : Name) → (Member n bs → ⊥) → value_of (lifted (map forget_of bs) V) n ≡ value_of V n
forgotten [] V n h = refl
forgotten (b ∷ bs) V n h = by (same_name b n) refl (forgotten bs V n (λ m. h (inr m)))
  where
    by : (t : Truth) → same_name b n ≡ t → value_of (lifted (map forget_of bs) V) n ≡ value_of V n → value_of (lifted (map forget_of (b ∷ bs)) V) n ≡ value_of V n
    by true q ih = absurd (h (inl (sym (same_name_exact b n q))))
    by false q ih = value_of-without (lifted (map forget_of bs) V) b n q ∙ ih

-- no bit is a name that is replaced
abbrev pub KeepsApart : List Split → Type 0
KeepsApart ss = (s r : Split) (b : Name) → Member s ss → Member r ss → Member b s.bits → b ≡ r.name → ⊥

-- a name that isn't replaced has no term put for it
pub not_replaced : (ss : List Split) (n : Name) → ((r : Split) → Member r ss → n ≡ r.name → ⊥) → image (images_of ss) n ≡ Var n
not_replaced [] n h = refl
not_replaced (s ∷ ss) n h = by (same_name n s.name) refl (not_replaced ss n (λ r m. h r (inr m)))
  where
    by : (b : Truth) → same_name n s.name ≡ b → image (images_of ss) n ≡ Var n → image (images_of (s ∷ ss)) n ≡ Var n
    by true q ih = absurd (h s (inl refl) (same_name_exact n s.name q))
    by false q ih = ap (λ b. unwrap_or (cond b (Some (bit_sum s.bits)) (lookup (same_name n) (images_of ss))) (Var n)) q ∙ ih

-- a form has one value where its names have one
total_same : (V W : Valuation) (w : ℕ) (bs : List Name) → ((b : Name) → Member b bs → value_of V b ≡ value_of W b) → total V (form_of w bs) ≡ total W (form_of w bs)
total_same V W w [] h = refl
total_same V W w (b ∷ bs) h =
    let one : number_of V b ≡ number_of W b = ap int_of (h b (inl refl)) in
    let rest = total_same V W (w * 2) bs (λ c m. h c (inr m)) in
    λ i. (pos w *ℤ one i) +ℤ rest i

-- each name gets the value of the term that is put for it
pub assigned : (ss : List Split) (V : Valuation) (n : Name) → KeepsApart ss → value_of (lifted (map assign_of ss) V) n ≡ val V (image (images_of ss) n)
assigned [] V n h = refl
assigned (s ∷ ss) V n h = one (λ m. assigned ss V m (λ r q b k l. h r q b (inr k) (inr l)))
  where
    U : Valuation
    U = lifted (map assign_of ss) V

    put : (b : Truth) → same_name s.name n ≡ b → val V (image (images_of (s ∷ ss)) n) ≡ val V (unwrap_or (cond b (Some (bit_sum s.bits)) (lookup (same_name n) (images_of ss))) (Var n))
    put b q = ap (λ k. val V (unwrap_or (cond k (Some (bit_sum s.bits)) (lookup (same_name n) (images_of ss))) (Var n))) (same_name_turned n s.name ∙ q)

    one : ((m : Name) → value_of U m ≡ val V (image (images_of ss) m)) → value_of (lifted (map assign_of (s ∷ ss)) V) n ≡ val V (image (images_of (s ∷ ss)) n)
    one ih = value_of-with_value U s.name (Int (total U (form_of 1 s.bits) +ℤ pos 0)) n ∙ by (same_name s.name n) refl
      where
        fresh : (b : Name) → Member b s.bits → value_of U b ≡ value_of V b
        fresh b m = ih b ∙ ap (val V) (not_replaced ss b (λ r k. h s r b (inl refl) (inr k) m))

        number : total U (form_of 1 s.bits) +ℤ pos 0 ≡ int_of (val V (bit_sum s.bits))
        number = ap (λ z. z +ℤ pos 0) (total_same U V 1 s.bits fresh) ∙ form_is V s.bits

        by : (b : Truth) → same_name s.name n ≡ b → (if b then Int (total U (form_of 1 s.bits) +ℤ pos 0) else value_of U n) ≡ val V (image (images_of (s ∷ ss)) n)
        by true q = ap Int number ∙ sym (put true q)
        by false q = ih n ∙ sym (put false q)
