-- Parts with the other sign.
use Rattle.std.proofs.Common.{◌≡◌, ℕ, ℤ, pos, negsuc, suc, zero, ◌<◌, List, [], ◌∷◌, ◌++◌, ◌+◌, take, length, get_or, refl, sym, ap, subst, ◌∙◌, arith, true, false, Some, None, if◌then◌else◌}
use Rattle.std.specs.Prelude.{◌+ℤ◌, ◌*ℤ◌, neg_ℤ}
use Rattle.std.specs.Int.{w128}
use Rattle.std.proofs.lemmas.Int.{ints, to_z-of_z}
use mir.Val.{SFits, to_z, of_z}
use Rattle.std.proofs.lemmas.List.{take_more}
use Rattle.qterm.specs.Tree.{Tree, True, False, Var, Num, Sum, Scale, Le, Eq, Iff, Not, And, Or, Ite, none, more}
use Rattle.qterm.specs.Store.{tree_at, trees_at}
use Rattle.qterm.specs.Kids.{first, rest}
use Rattle.qlin.specs.Number.{in_range}
use Rattle.qlin.specs.Order.{number_of}
use Rattle.qlin.specs.Form.{Parts, parts_in_range, times, form, part_term, terms, sum_term, term}
use Rattle.qlin.proofs.Merges.{both}
use Rattle.qcanon_laws.proofs.Linear.{IsMono, AllParts}
use Rattle.qlin.specs.Negation.{neg_le}
use Rattle.qcanon_laws.proofs.Canonical.{AtomShape}
use Rattle.qcanon_laws.proofs.Negations.{turned, neg_le_is}
use Rattle.qnegation.specs.Opposite.{opposite_part, opposite_parts, opposite}

-- one more part
goes_on : (ts us : List Tree) (is js : List ℕ) (i j : ℕ) → trees_at us js ≡ opposite_parts (trees_at ts is) → tree_at us j ≡ opposite_part (tree_at ts i) → trees_at us (js ++ j ∷ []) ≡ opposite_parts (trees_at ts (is ++ i ∷ []))
goes_on ts us [] [] i j e f = ap (λ t. more t none) f
goes_on ts us [] (k ∷ js) i j e f = cc
goes_on ts us (h ∷ is) [] i j e f = cc
goes_on ts us (h ∷ is) (k ∷ js) i j e f = λ x. more (ap first e x) (goes_on ts us is js i j (ap rest e) f x)

pub one_more : (ts us : List Tree) (is js ks : List ℕ) (n i j : ℕ) → n < length is → i ≡ get_or is n i → trees_at us js ≡ opposite_parts (trees_at ts (take n is)) → tree_at us j ≡ opposite_part (tree_at ts i) → ks ≡ js ++ j ∷ []
    → trees_at us ks ≡ opposite_parts (trees_at ts (take (n + 1) is))
one_more ts us is js ks n i j h e p q g =
    ap (trees_at us) g ∙ goes_on ts us (take n is) js i j p q ∙ ap (λ xs. opposite_parts (trees_at ts xs)) (ap (λ x. take n is ++ x ∷ []) e ∙ sym (take_more is n i h))

-- ---- parts of a form
minus : (a : ℤ) → negsuc 0 *ℤ a ≡ neg_ℤ a
minus a = omega (arith, ints)

mono_opposite : (m : Tree) → IsMono m → opposite_part m ≡ Scale (negsuc 0) m
mono_opposite (Var n) o = refl
mono_opposite (Ite c a b) o = refl
mono_opposite True o = absurd o
mono_opposite False o = absurd o
mono_opposite (Num z) o = absurd o
mono_opposite (Sum ts) o = absurd o
mono_opposite (Scale z a) o = absurd o
mono_opposite (Le a b) o = absurd o
mono_opposite (Eq a b) o = absurd o
mono_opposite (Iff a b) o = absurd o
mono_opposite (Not a) o = absurd o
mono_opposite (And ts) o = absurd o
mono_opposite (Or ts) o = absurd o

scale_opposite : (a : ℤ) (m : Tree) → in_range a ≡ true → opposite_part (Scale a m) ≡ part_term (negsuc 0 *ℤ a) m
scale_opposite a m r = ap (λ b. if b then part_term (neg_ℤ a) m else Scale (negsuc 0) (Scale a m)) r ∙ ap (λ z. part_term z m) (sym (minus a))

part_opposite : (a : ℤ) (m : Tree) → IsMono m → in_range a ≡ true → opposite_part (part_term a m) ≡ part_term (negsuc 0 *ℤ a) m
part_opposite (pos zero) m o r = scale_opposite (pos zero) m r
part_opposite (pos (suc zero)) m o r = mono_opposite m o
part_opposite (pos (suc (suc n))) m o r = scale_opposite (pos (suc (suc n))) m r
part_opposite (negsuc n) m o r = scale_opposite (negsuc n) m r

parts_opposite : (ps : Parts) → AllParts IsMono ps → parts_in_range ps ≡ true → opposite_parts (terms ps (pos 0)) ≡ terms (turned ps) (pos 0)
parts_opposite [] o r = refl
parts_opposite (p ∷ ps) o r = let b = both (in_range p.0) (parts_in_range ps) r in λ i. more (part_opposite p.0 p.1 o.0 b.0 i) (parts_opposite ps o.1 b.1 i)

mono_plain : (m : Tree) → IsMono m → opposite m ≡ opposite_part m
mono_plain (Sum ts) o = absurd o
mono_plain m o = refl

part_plain : (a : ℤ) (m : Tree) → IsMono m → opposite (part_term a m) ≡ opposite_part (part_term a m)
part_plain (pos zero) m o = refl
part_plain (pos (suc zero)) m o = mono_plain m o
part_plain (pos (suc (suc n))) m o = refl
part_plain (negsuc n) m o = refl

sum_opposite : (p : ℤ × Tree) (ps : Parts) → AllParts IsMono (p ∷ ps) → parts_in_range (p ∷ ps) ≡ true → opposite (sum_term (terms (p ∷ ps) (pos 0))) ≡ sum_term (terms (turned (p ∷ ps)) (pos 0))
sum_opposite p [] o r = part_plain p.0 p.1 o.0 ∙ part_opposite p.0 p.1 o.0 (both (in_range p.0) true r).0
sum_opposite p (q ∷ qs) o r = ap Sum (parts_opposite (p ∷ q ∷ qs) o r)

-- ---- the negation of a canonical bound
-- the number that is left of it, in the code's numbers
pub limit_is : (n x y : ℤ) → SFits w128 y → SFits w128 x → y ≡ n → x ≡ neg_ℤ (to_z w128 (of_z w128 y)) +ℤ negsuc 0 → neg_ℤ n +ℤ negsuc 0 ≡ to_z w128 (of_z w128 x)
limit_is n x y f g e l = ap (λ z. neg_ℤ z +ℤ negsuc 0) (sym e ∙ sym (to_z-of_z w128 y f)) ∙ sym l ∙ sym (to_z-of_z w128 x g)

-- it has a number on its right
bound_number : (m k : Tree) → AtomShape m k → k ≡ Num (number_of k)
bound_number m k s = s.right ∙ ap (λ t. Num (number_of t)) (sym s.right)

pub bound_is : (m k : Tree) → AtomShape m k → in_range (neg_ℤ (number_of k) +ℤ negsuc 0) ≡ true → neg_le m k ≡ Some (Le (opposite m) (Num (neg_ℤ (number_of k) +ℤ negsuc 0)))
bound_is m k s r =
    let c = number_of k in
    let e : k ≡ Num c = bound_number m k s in
    let n : AtomShape m (Num c) = subst (AtomShape m) e s in
    let o : opposite m ≡ sum_term (terms (turned (n.first ∷ n.others)) (pos 0)) = ap opposite n.left ∙ sum_opposite n.first n.others n.monos n.parts_narrow in
    ap (neg_le m) e ∙ neg_le_is m c n r ∙ (λ i. Some (Le (sym o i) (Num (neg_ℤ c +ℤ negsuc 0))))

pub bound_past : (m k : Tree) → AtomShape m k → in_range (neg_ℤ (number_of k) +ℤ negsuc 0) ≡ false → neg_le m k ≡ None
bound_past m k s r =
    ap (neg_le m) (bound_number m k s) ∙ ap (λ b. if b then Some (Le (term (times (negsuc 0) (form m))) (Num (neg_ℤ (number_of k) +ℤ negsuc 0))) else None) r
