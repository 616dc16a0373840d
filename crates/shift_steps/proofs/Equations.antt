-- The canonical form of an equation of a name and another name plus a number, which is the same from both sides.
use Rattle.std.proofs.Common.{◌≡◌, ℕ, ℤ, pos, negsuc, ◌/◌, ◌%◌, true, [], ◌∷◌, Some, None, Ok, refl, sym, ap, ◌∙◌, if◌then◌else◌, arith}
use Rattle.std.specs.Prelude.{◌+ℤ◌, ◌*ℤ◌, neg_ℤ, nat_abs, nat_eq}
use Rattle.std.proofs.lemmas.Int.{ints}
use Rattle.std.specs.declared.cmp.Ordering.{Ordering}
use Rattle.std.specs.declared.cmp.Ordering.TheVariants.{Less, Equal, Greater}
use Rattle.std.specs.Ordering.{ordering_reverse}
use Rattle.std.specs.Option.{option_map}
use Rattle.qterm.specs.declared.name.Name.{Name}
use Rattle.qterm.specs.Tree.{Tree, False, Var, Num, Sum, Scale, Eq, none, more}
use Rattle.qlin.specs.Number.{in_range, floor}
use Rattle.qlin.specs.Order.{tree_cmp, by_order}
use Rattle.qlin.specs.Form.{Form, Parts, form, zero_form, plus, times, if_in_range, term}
use Rattle.qlin.specs.Atom.{content, divided, difference, eq_signed, eq_zero, eq_of}
use Rattle.qlin.specs.Linear.{and_then, sum_of}
use Rattle.qlin.specs.Canon.{canon, canons, after, at}
use Rattle.qlin.proofs.Orders.{tree_cmp-reverse, equal}
use Rattle.qcanon_laws.proofs.Linear.{form_term, keeps_range}
use Rattle.qcanon_laws.proofs.Atoms.{neg_range, divided_one}
use Rattle.qcanon_laws.proofs.Canonical.{same_itself}
use Rattle.tac_cert.specs.Formulas.{are_equal, same_canon}

-- ---- a name plus a number
abbrev name_plus : Name → ℤ → Tree
name_plus b k = Sum (more (Var b) (more (Num k) none))

abbrev form_of : Name → ℤ → Form
form_of b k = record { parts = (pos 1, Var b) ∷ []; constant = k }

num_there : (k : ℤ) → in_range k ≡ true → canon (Num k) ≡ Ok (Num k)
num_there k r = ap (λ b. at (Num k) (if b then Some (Num k) else None)) r

sum_there : (b : Name) (k : ℤ) → in_range k ≡ true → canon (name_plus b k) ≡ Ok (term (form_of b k))
sum_there b k r =
    let l : canons (more (Num k) none) ≡ Ok (more (Num k) none) = ap (λ x. after x (λ d. after (Ok none) (λ ds. Ok (more d ds)))) (num_there k r) in
    let c : canons (more (Var b) (more (Num k) none)) ≡ Ok (more (Var b) (more (Num k) none)) = ap (λ x. after x (λ ds. Ok (more (Var b) ds))) l in
    let z : pos 0 +ℤ (k +ℤ pos 0) ≡ k = omega (arith, ints) in
    let s : sum_of (more (Var b) (more (Num k) none)) ≡ Some (term (form_of b k)) =
    ap (λ y. option_map term (and_then (if_in_range (form_of b y)) (λ g. Some g))) z ∙ ap (λ o. option_map term (and_then o (λ g. Some g))) (keeps_range (form_of b k) refl r) in
    ap (λ x. after x (λ cs. at (name_plus b k) (sum_of cs))) c ∙ ap (at (name_plus b k)) s

-- ---- a name equal to another plus a number
abbrev minus : Name → Name → Tree
minus a b = Sum (more (Var a) (more (Scale (negsuc 0) (Var b)) none))

one_mod : (n : ℕ) → nat_eq (n % 1) 0 ≡ true
one_mod n = let e : n % 1 ≡ 0 = omega arith in ap (λ m. nat_eq m 0) e

floor_one : (z : ℤ) → floor z 1 ≡ z
floor_one (pos n) = let e : n / 1 ≡ n = omega arith in ap pos e
floor_one (negsuc n) = let e : n / 1 ≡ n = omega arith in ap negsuc e

-- parts with the content 1
eq_one : (ps : Parts) (p : ℤ × Tree) (k : ℤ) → content (p ∷ ps) ≡ 1 → eq_zero (p ∷ ps) (negsuc 0 *ℤ k) ≡ eq_signed (p ∷ ps) k
eq_one ps p k o =
    let n : neg_ℤ (negsuc 0 *ℤ k) ≡ k = omega (arith, ints) in
    (λ i. if nat_eq (nat_abs (negsuc 0 *ℤ k) % o i) 0 then eq_signed (divided (p ∷ ps) (o i)) (floor (n i) (o i)) else False)
    ∙ ap (λ b. if b then eq_signed (divided (p ∷ ps) 1) (floor k 1) else False) (one_mod (nat_abs (negsuc 0 *ℤ k)))
    ∙ (λ i. eq_signed (divided_one (p ∷ ps) i) (floor_one k i))

abbrev parts_by : Ordering → Name → Name → Parts
parts_by o a b = by_order o ((negsuc 0, Var b) ∷ (pos 1, Var a) ∷ []) [] ((pos 1, Var a) ∷ (negsuc 0, Var b) ∷ [])

difference_by : (a b : Name) (k : ℤ) → difference (Var a) (term (form_of b k)) ≡ if_in_range record { parts = parts_by (tree_cmp (Var b) (Var a)) a b; constant = negsuc 0 *ℤ k }
difference_by a b k =
    let f : form (term (form_of b k)) ≡ form_of b k = form_term (form_of b k) (tt, tt) in
    let z : (pos 0 +ℤ pos 0) +ℤ negsuc 0 *ℤ k ≡ negsuc 0 *ℤ k = omega (arith, ints) in
    ap (λ x. if_in_range (plus (plus zero_form (form (Var a))) (times (negsuc 0) x))) f
    ∙ (λ i. if_in_range record { parts = parts_by (tree_cmp (Var b) (Var a)) a b; constant = z i })

canon_by : (a b : Name) (k : ℤ) → in_range k ≡ true → (o : Ordering) → tree_cmp (Var b) (Var a) ≡ o → (p : ℤ × Tree) (ps : Parts) → parts_by o a b ≡ p ∷ ps
    → if_in_range record { parts = p ∷ ps; constant = negsuc 0 *ℤ k } ≡ Some record { parts = p ∷ ps; constant = negsuc 0 *ℤ k } → content (p ∷ ps) ≡ 1 → canon (Eq (Var a) (name_plus b k)) ≡ Ok (eq_signed (p ∷ ps) k)
canon_by a b k r o q p ps e g c =
    let d : difference (Var a) (term (form_of b k)) ≡ Some record { parts = p ∷ ps; constant = negsuc 0 *ℤ k } =
    difference_by a b k ∙ ap (λ o. if_in_range record { parts = parts_by o a b; constant = negsuc 0 *ℤ k }) q ∙ ap (λ xs. if_in_range record { parts = xs; constant = negsuc 0 *ℤ k }) e ∙ g in
    ap (λ x. after x (λ d. at (Eq (Var a) (name_plus b k)) (eq_of (Var a) d))) (sum_there b k r)
    ∙ ap (λ y. at (Eq (Var a) (name_plus b k)) (option_map (λ (f : Form). eq_zero f.parts f.constant) y)) d ∙ ap (λ t. Ok t) (eq_one ps p k c)

canon_less : (a b : Name) (k : ℤ) → in_range k ≡ true → tree_cmp (Var b) (Var a) ≡ Less → canon (Eq (Var a) (name_plus b k)) ≡ Ok (Eq (minus b a) (Num (neg_ℤ k)))
canon_less a b k r q = canon_by a b k r Less q (negsuc 0, Var b) ((pos 1, Var a) ∷ []) refl (keeps_range record { parts = (negsuc 0, Var b) ∷ (pos 1, Var a) ∷ []; constant = negsuc 0 *ℤ k } refl (neg_range k r)) refl

canon_greater : (a b : Name) (k : ℤ) → in_range k ≡ true → tree_cmp (Var b) (Var a) ≡ Greater → canon (Eq (Var a) (name_plus b k)) ≡ Ok (Eq (minus a b) (Num k))
canon_greater a b k r q = canon_by a b k r Greater q (pos 1, Var a) ((negsuc 0, Var b) ∷ []) refl (keeps_range record { parts = (pos 1, Var a) ∷ (negsuc 0, Var b) ∷ []; constant = negsuc 0 *ℤ k } refl (neg_range k r)) refl

-- ---- from both sides
pub both_sides : (x y : Name) (l : ℤ) → in_range l ≡ true → (x ≡ y → ⊥) → same_canon (Some (Eq (Var y) (name_plus x (neg_ℤ l)))) (Eq (Var x) (name_plus y l)) ≡ true
both_sides x y l r apart = by (tree_cmp (Var x) (Var y)) refl
  where
    m : negsuc 0 *ℤ l ≡ neg_ℤ l
    m = omega (arith, ints)

    n : neg_ℤ (neg_ℤ l) ≡ l
    n = omega (arith, ints)

    s : in_range (neg_ℤ l) ≡ true
    s = ap in_range (sym m) ∙ neg_range l r

    other : (o : Ordering) → tree_cmp (Var x) (Var y) ≡ o → tree_cmp (Var y) (Var x) ≡ ordering_reverse o
    other o q = tree_cmp-reverse (Var y) (Var x) ∙ ap ordering_reverse q

    alike : (c : Tree) → canon (Eq (Var y) (name_plus x (neg_ℤ l))) ≡ Ok c → canon (Eq (Var x) (name_plus y l)) ≡ Ok c → same_canon (Some (Eq (Var y) (name_plus x (neg_ℤ l)))) (Eq (Var x) (name_plus y l)) ≡ true
    alike c p q = (λ i. are_equal (p i) (q i)) ∙ same_itself c

    by : (o : Ordering) → tree_cmp (Var x) (Var y) ≡ o → same_canon (Some (Eq (Var y) (name_plus x (neg_ℤ l)))) (Eq (Var x) (name_plus y l)) ≡ true
    by Less q = alike (Eq (minus x y) (Num l)) (canon_less y x (neg_ℤ l) s q ∙ ap (λ z. Ok (Eq (minus x y) (Num z))) n) (canon_greater x y l r (other Less q))
    by Greater q = alike (Eq (minus y x) (Num (neg_ℤ l))) (canon_greater y x (neg_ℤ l) s q) (canon_less x y l r (other Greater q))
    by Equal q = absurd (apart (let e : Var x ≡ Var y = equal (Var x) (Var y) q in cc))
