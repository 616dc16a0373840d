-- Forms whose numbers are in range.
use Rattle.std.proofs.Common.{◌≡◌, ℕ, ℤ, pos, negsuc, List, [], ◌∷◌, refl, sym, ap, ◌∙◌, arith, Bool, true, false, ◌&&◌, true≢false, Some, None, Result, Ok, Err, All, IfOk, if◌then◌else◌}
use Rattle.std.specs.Prelude.{◌+ℤ◌}
use Rattle.std.proofs.lemmas.Int.{ints}
use Rattle.qterm.specs.Tree.{Tree, True, IsLawful}
use Rattle.qterm.specs.Store.{tree_at, HasSort}
use Rattle.qterm.specs.declared.name.Sort.TheVariants.{Int}
use Rattle.qlin.specs.Number.{in_range}
use Rattle.qlin.specs.Form.{Form, form, zero_form, plus, times, if_in_range, parts_in_range}
use Rattle.qlin.specs.Lin.{form_at, IsRising, IsForm, parts_fit, form_fits}
use Rattle.qlin.specs.Atom.{difference}
use Rattle.qlin.specs.declared.lin.Lin.{Lin}
use Rattle.qlin.proofs.Merges.{both, puts_empty}
use Rattle.qlin.proofs.Ranges.{range_at, range_fits}
use Rattle.qcanon_laws.specs.Law.{AreReadable}
use Rattle.qnegation.specs.Answer.{IsOwn}
use Rattle.qcanon.specs.Sums.{IsNarrow}

-- ---- the test of the range
pub narrow_gives : (ts : List Tree) (l : Lin) → (parts_in_range l.parts && in_range l.constant) ≡ true → if_in_range (form_at ts l) ≡ Some (form_at ts l)
narrow_gives ts l h = ap (λ b. if b then Some (form_at ts l) else None) (ap (λ b. b && in_range l.constant) (sym (range_at ts l.parts)) ∙ h)

pub wide_gives : (ts : List Tree) (l : Lin) → (parts_in_range l.parts && in_range l.constant) ≡ false → if_in_range (form_at ts l) ≡ None
wide_gives ts l h = ap (λ b. if b then Some (form_at ts l) else None) (ap (λ b. b && in_range l.constant) (sym (range_at ts l.parts)) ∙ h)

parts_range_fit : {X : Type 0} (ps : List (ℤ × X)) → parts_in_range ps ≡ true → parts_fit ps ≡ true
parts_range_fit [] h = refl
parts_range_fit (p ∷ ps) h = let b = both (in_range p.0) (parts_in_range ps) h in λ i. range_fits p.0 b.0 i && parts_range_fit ps b.1 i

-- a number that passes 128 bits isn't in range
pub wide_form : (f : Form) → form_fits f ≡ false → if_in_range f ≡ None
wide_form f w = by (parts_in_range f.parts) (in_range f.constant) refl refl
  where
    by : (a b : Bool) → parts_in_range f.parts ≡ a → in_range f.constant ≡ b → (if a && b then Some f else None) ≡ None
    by true true p q = absurd (true≢false (sym (λ i. parts_range_fit f.parts p i && range_fits f.constant q i) ∙ w))
    by true false p q = refl
    by false b p q = refl

-- ---- reading
pub read_narrow : {E : Type 0} (ts : List Tree) (i : ℕ) (r : Result Lin E) → All IsLawful ts → AreReadable → HasSort Int ts i → IsOwn ts i → IfOk r (λ l. form_at ts l ≡ form (tree_at ts i)) → IfOk r IsNarrow
read_narrow ts i (Ok l) a h s o e =
    let k = h (tree_at ts i) (a i True s.0) s.1 o in
    record { parts = range_at ts l.parts ∙ ap (λ (f : Form). parts_in_range f.parts) e ∙ k.parts; constant = ap (λ (f : Form). in_range f.constant) e ∙ k.constant }
read_narrow ts i (Err x) a h s o e = tt

-- ---- differences
zero_plus : (f : Form) → IsRising f.parts → plus zero_form f ≡ f
zero_plus f r = λ i. record { parts = puts_empty f.parts r i; constant = zero_first f.constant i }
  where
    zero_first : (z : ℤ) → pos 0 +ℤ z ≡ z
    zero_first z = omega (arith, ints)

pub difference_is : (ts : List Tree) (l m n : Lin) (t u : Tree) → IsForm ts l → form_at ts l ≡ form t → form_at ts m ≡ times (negsuc 0) (form_at ts n) → form_at ts n ≡ form u → if_in_range (plus (form_at ts l) (form_at ts m)) ≡ difference t u
difference_is ts l m n t u h e f g =
    (λ i. if_in_range (plus (sym (zero_plus (form_at ts l) h.rising) i) (f i))) ∙ (λ i. if_in_range (plus (plus zero_form (e i)) (times (negsuc 0) (g i))))
