-- The counted depth of a canonical form is at most that of the term.
use Rattle.std.proofs.Common.{◌+◌, ℕ, ℤ, pos, negsuc, suc, zero, ◌%◌, [], ◌∷◌, Bool as Truth, true, false, ◌&&◌, not, Option, Some, None, if◌then◌else◌}
use Rattle.std.specs.Prelude.{◌+ℤ◌, ◌*ℤ◌, neg_ℤ, nat_abs, nat_eq}
use Rattle.std.specs.declared.cmp.Ordering.{Ordering}
use Rattle.std.specs.declared.cmp.Ordering.TheVariants.{Less, Equal, Greater}
use Rattle.std.specs.Ordering.{int_eq}
use Rattle.std.specs.Option.{option_map}
use lib.Signed.{le_z, lt_z}
use Rattle.qterm.specs.Tree.{Tree, Trees, True, False, Var, Num, Sum, Scale, Le, Eq, Iff, Not, And, Or, Ite, none, more}
use Rattle.qlin.specs.Order.{tree_cmp, by_order, same, is_before}
use Rattle.qlin.specs.Form.{Form, Parts, part, put, puts, scaled, zero_form, plus, times, if_in_range, parts_in_range, summand, summands, form, part_term, constant_term, terms, sum_term, term}
use Rattle.qlin.specs.Number.{in_range, floor}
use Rattle.qlin.specs.Atom.{content, divided, truth_tree, le_zero, eq_signed, eq_zero, difference, le_of, eq_of}
use Rattle.qlin.specs.Linear.{and_then, num_of, sum_onto, sum_of, scale_of}
use Rattle.qlin.specs.Junction.{insert, inserts, members, gathered, has_constant, joined, packed, junction}
use Rattle.qlin.specs.Iff.{constant_of, lesser, greater, differ, iff_sorted, iff_pair, iff_by, iff_of}
use Rattle.qlin.specs.Ite.{ite_by, ite_over, ite_where, ite_of}
use Rattle.qlin.specs.Negation.{neg_le, neg, negs}
use Rattle.qlin.specs.Canon.{canon, canons}
use Rattle.qcanon_laws.proofs.Sorts.{Holds, holds_map, holds_then, holds_if, Finds, finds_after, finds_at}

abbrev mutual
  -- the counted depth is at most n
  pub AtMost : ℕ → Tree → Type 0
  AtMost zero t = ⊥
  AtMost (suc n) True = Unit {0}
  AtMost (suc n) False = Unit {0}
  AtMost (suc n) (Var x) = Unit {0}
  AtMost (suc n) (Num z) = Unit {0}
  AtMost (suc n) (Sum ts) = AllAtMost (suc n) ts
  AtMost (suc n) (Scale z a) = AtMost (suc n) a
  AtMost (suc n) (Le a b) = AtMost n a × AtMost n b
  AtMost (suc n) (Eq a b) = AtMost n a × AtMost n b
  AtMost (suc n) (Iff a b) = AtMost n a × AtMost n b
  AtMost (suc n) (Not a) = AtMost (suc n) a
  AtMost (suc n) (And ts) = AllAtMost n ts
  AtMost (suc n) (Or ts) = AllAtMost n ts
  AtMost (suc n) (Ite c a b) = AtMost n c × AtMost n a × AtMost n b

  -- that of each of trees in a row
  pub AllAtMost : ℕ → Trees → Type 0
  AllAtMost n none = Unit {0}
  AllAtMost n (more t ts) = AtMost n t × AllAtMost n ts

-- ---- one more
mutual
  pub more_at : (n : ℕ) (t : Tree) → AtMost n t → AtMost (suc n) t
  more_at zero t h = absurd h
  more_at (suc n) True h = tt
  more_at (suc n) False h = tt
  more_at (suc n) (Var x) h = tt
  more_at (suc n) (Num z) h = tt
  more_at (suc n) (Sum ts) h = more_all (suc n) ts h
  more_at (suc n) (Scale z a) h = more_at (suc n) a h
  more_at (suc n) (Le a b) h = (more_at n a h.0, more_at n b h.1)
  more_at (suc n) (Eq a b) h = (more_at n a h.0, more_at n b h.1)
  more_at (suc n) (Iff a b) h = (more_at n a h.0, more_at n b h.1)
  more_at (suc n) (Not a) h = more_at (suc n) a h
  more_at (suc n) (And ts) h = more_all n ts h
  more_at (suc n) (Or ts) h = more_all n ts h
  more_at (suc n) (Ite c a b) h = (more_at n c h.0, more_at n a h.1, more_at n b h.2)

  more_all : (n : ℕ) (ts : Trees) → AllAtMost n ts → AllAtMost (suc n) ts
  more_all n none h = tt
  more_all n (more t ts) h = (more_at n t h.0, more_all n ts h.1)

holds_more : (n : ℕ) (o : Option Tree) → Holds (AtMost n) o → Holds (AtMost (suc n)) o
holds_more n None h = tt
holds_more n (Some t) h = more_at n t h

-- ---- at a depth above 0
module _ (n : ℕ) where
  abbrev Each : Tree → Type 0
  Each t = AtMost (suc n) t

  abbrev EachOf : Trees → Type 0
  EachOf ts = AllAtMost (suc n) ts

  -- ---- linear forms
  abbrev pub InParts : Parts → Type 0
  InParts [] = Unit {0}
  InParts (p ∷ ps) = Each p.1 × InParts ps

  in_part : (a : ℤ) (m : Tree) (ps : Parts) → Each m → InParts ps → InParts (part a m ps)
  in_part (pos zero) m ps g h = h
  in_part (pos (suc n)) m ps g h = (g, h)
  in_part (negsuc n) m ps g h = (g, h)

  in_put : (a : ℤ) (m : Tree) (ps : Parts) → Each m → InParts ps → InParts (put a m ps)
  in_put a m [] g h = in_part a m [] g h
  in_put a m (p ∷ ps) g h = by (tree_cmp m p.1) (in_put a m ps g h.1)
    where
      by : (o : Ordering) → InParts (put a m ps) → InParts (by_order o (part a m (p ∷ ps)) (part (p.0 +ℤ a) m ps) (p ∷ put a m ps))
      by Less ih = in_part a m (p ∷ ps) g h
      by Equal ih = in_part (p.0 +ℤ a) m ps g h.1
      by Greater ih = (h.0, ih)

  in_puts : (qs ps : Parts) → InParts qs → InParts ps → InParts (puts qs ps)
  in_puts [] ps k h = h
  in_puts (q ∷ qs) ps k h = in_puts qs (put q.0 q.1 ps) k.1 (in_put q.0 q.1 ps k.0 h)

  pub in_scaled : (a : ℤ) (ps : Parts) → InParts ps → InParts (scaled a ps)
  in_scaled a [] h = tt
  in_scaled a (p ∷ ps) h = in_part (a *ℤ p.0) p.1 (scaled a ps) h.0 (in_scaled a ps h.1)

  pub in_divided : (ps : Parts) (g : ℕ) → InParts ps → InParts (divided ps g)
  in_divided [] g h = tt
  in_divided (p ∷ ps) g h = (h.0, in_divided ps g h.1)

  in_summand : (t : Tree) (f : Form) → Each t → InParts f.parts → InParts (summand t f).parts
  in_summand (Num z) f g h = h
  in_summand (Scale a m) f g h = (g, h)
  in_summand True f g h = (g, h)
  in_summand False f g h = (g, h)
  in_summand (Var n) f g h = (g, h)
  in_summand (Sum ts) f g h = (g, h)
  in_summand (Le a b) f g h = (g, h)
  in_summand (Eq a b) f g h = (g, h)
  in_summand (Iff a b) f g h = (g, h)
  in_summand (Not a) f g h = (g, h)
  in_summand (And ts) f g h = (g, h)
  in_summand (Or ts) f g h = (g, h)
  in_summand (Ite c a b) f g h = (g, h)

  in_summands : (ts : Trees) → EachOf ts → InParts (summands ts).parts
  in_summands none h = tt
  in_summands (more t ts) h = in_summand t (summands ts) h.0 (in_summands ts h.1)

  pub in_form : (t : Tree) → Each t → InParts (form t).parts
  in_form (Sum ts) g = in_summands ts g
  in_form (Num z) g = in_summand (Num z) zero_form g tt
  in_form (Scale a m) g = in_summand (Scale a m) zero_form g tt
  in_form True g = in_summand True zero_form g tt
  in_form False g = in_summand False zero_form g tt
  in_form (Var n) g = in_summand (Var n) zero_form g tt
  in_form (Le a b) g = in_summand (Le a b) zero_form g tt
  in_form (Eq a b) g = in_summand (Eq a b) zero_form g tt
  in_form (Iff a b) g = in_summand (Iff a b) zero_form g tt
  in_form (Not a) g = in_summand (Not a) zero_form g tt
  in_form (And ts) g = in_summand (And ts) zero_form g tt
  in_form (Or ts) g = in_summand (Or ts) zero_form g tt
  in_form (Ite c a b) g = in_summand (Ite c a b) zero_form g tt

  each_part : (a : ℤ) (m : Tree) → Each m → Each (part_term a m)
  each_part (pos zero) m g = g
  each_part (pos (suc zero)) m g = g
  each_part (pos (suc (suc n))) m g = g
  each_part (negsuc n) m g = g

  pub each_constant : (k : ℤ) → EachOf (constant_term k)
  each_constant (pos zero) = tt
  each_constant (pos (suc n)) = (tt, tt)
  each_constant (negsuc n) = (tt, tt)

  each_terms : (ps : Parts) (k : ℤ) → InParts ps → EachOf (terms ps k)
  each_terms [] k h = each_constant k
  each_terms (p ∷ ps) k h = (each_part p.0 p.1 h.0, each_terms ps k h.1)

  each_sum : (ts : Trees) → EachOf ts → Each (sum_term ts)
  each_sum none h = tt
  each_sum (more t none) h = h.0
  each_sum (more t (more u us)) h = h

  pub each_term : (f : Form) → InParts f.parts → Each (term f)
  each_term f h = each_sum (terms f.parts f.constant) (each_terms f.parts f.constant h)

  pub each_parts : (ps : Parts) → InParts ps → Each (sum_term (terms ps (pos 0)))
  each_parts ps h = each_sum (terms ps (pos 0)) (each_terms ps (pos 0) h)

  abbrev pub InForm : Form → Type 0
  InForm f = InParts f.parts

  in_sum_onto : (f : Form) (ts : Trees) → InForm f → EachOf ts → Holds InForm (sum_onto f ts)
  in_sum_onto f none h l = h
  in_sum_onto f (more t ts) h l =
      let g = plus f (form t) in
      holds_then InForm InForm (λ x. sum_onto x ts) (if_in_range g) (λ x k. in_sum_onto x ts k l.1) (holds_if InForm (parts_in_range g.parts && in_range g.constant) g (in_puts (form t).parts f.parts (in_form t l.0) h))

  pub each_sum_of : (ts : Trees) → EachOf ts → Holds Each (sum_of ts)
  each_sum_of ts l = holds_map InForm Each term (sum_onto zero_form ts) each_term (in_sum_onto zero_form ts tt l)

  pub each_scale_of : (a : ℤ) (t : Tree) → Each t → Holds Each (scale_of a t)
  each_scale_of a t g =
      let f = times a (form t) in
      holds_map InForm Each term (if_in_range f) each_term (holds_if InForm (parts_in_range f.parts && in_range f.constant) f (in_scaled a (form t).parts (in_form t g)))

  pub in_difference : (t u : Tree) → Each t → Each u → Holds InForm (difference t u)
  in_difference t u g h =
      let f = plus (plus zero_form (form t)) (times (negsuc 0) (form u)) in
      holds_if InForm (parts_in_range f.parts && in_range f.constant) f (in_puts (scaled (negsuc 0) (form u).parts) (puts (form t).parts []) (in_scaled (negsuc 0) (form u).parts (in_form u h)) (in_puts (form t).parts [] (in_form t g) tt))

either : (P : Tree → Type 0) (b : Truth) (t u : Tree) → P t → P u → P (if b then t else u)
either P true t u p q = p
either P false t u p q = q

each_truth : (n : ℕ) (b : Truth) → AtMost (suc n) (truth_tree b)
each_truth n true = tt
each_truth n false = tt

-- ---- atoms
each_le_zero : (m : ℕ) (ps : Parts) (k : ℤ) → InParts m ps → AtMost (suc (suc m)) (le_zero ps k)
each_le_zero m [] k h = each_truth (suc m) (le_z k (pos 0))
each_le_zero m (p ∷ ps) k h = (each_parts m (divided (p ∷ ps) (content (p ∷ ps))) (in_divided m (p ∷ ps) (content (p ∷ ps)) h), tt)

each_eq_signed : (m : ℕ) (ps : Parts) (k : ℤ) → InParts m ps → AtMost (suc (suc m)) (eq_signed ps k)
each_eq_signed m [] k h = each_truth (suc m) (int_eq k (pos 0))
each_eq_signed m (p ∷ ps) k h = either (AtMost (suc (suc m))) (lt_z p.0 (pos 0)) _ _ (each_parts m (scaled (negsuc 0) (p ∷ ps)) (in_scaled m (negsuc 0) (p ∷ ps) h), tt) (each_parts m (p ∷ ps) h, tt)

each_eq_zero : (m : ℕ) (ps : Parts) (k : ℤ) → InParts m ps → AtMost (suc (suc m)) (eq_zero ps k)
each_eq_zero m [] k h = each_truth (suc m) (int_eq k (pos 0))
each_eq_zero m (p ∷ ps) k h =
    either (AtMost (suc (suc m))) (nat_eq (nat_abs k % content (p ∷ ps)) 0) _ _ (each_eq_signed m (divided (p ∷ ps) (content (p ∷ ps))) (floor (neg_ℤ k) (content (p ∷ ps))) (in_divided m (p ∷ ps) (content (p ∷ ps)) h)) tt

each_le_of : (n : ℕ) (t u : Tree) → AtMost n t → AtMost n u → Holds (AtMost (suc n)) (le_of t u)
each_le_of zero t u g h = absurd g
each_le_of (suc m) t u g h = holds_map (InForm m) (AtMost (suc (suc m))) _ (difference t u) (λ f k. each_le_zero m f.parts f.constant k) (in_difference m t u g h)

each_eq_of : (n : ℕ) (t u : Tree) → AtMost n t → AtMost n u → Holds (AtMost (suc n)) (eq_of t u)
each_eq_of zero t u g h = absurd g
each_eq_of (suc m) t u g h = holds_map (InForm m) (AtMost (suc (suc m))) _ (difference t u) (λ f k. each_eq_zero m f.parts f.constant k) (in_difference m t u g h)

-- ---- And and Or
each_insert : (n : ℕ) (t : Tree) (ts : Trees) → AtMost n t → AllAtMost n ts → AllAtMost n (insert t ts)
each_insert n t none g h = (g, tt)
each_insert n t (more u us) g h = by (tree_cmp t u) (each_insert n t us g h.1)
  where
    by : (o : Ordering) → AllAtMost n (insert t us) → AllAtMost n (by_order o (more t (more u us)) (more u us) (more u (insert t us)))
    by Less ih = (g, h)
    by Equal ih = h
    by Greater ih = (h.0, ih)

each_inserts : (n : ℕ) (ts us : Trees) → AllAtMost n ts → AllAtMost n us → AllAtMost n (inserts ts us)
each_inserts n none us g h = h
each_inserts n (more t ts) us g h = each_insert n t (inserts ts us) g.0 (each_inserts n ts us g.1 h)

pub each_members : (n : ℕ) (k : Truth) (t : Tree) → AtMost n t → AllAtMost n (members k t)
each_members zero k t g = absurd g
each_members (suc n) true True g = tt
each_members (suc n) true (And ts) g = more_all n ts g
each_members (suc n) false False g = tt
each_members (suc n) false (Or ts) g = more_all n ts g
each_members (suc n) k t g = (g, tt)

each_gathered : (n : ℕ) (k : Truth) (ts : Trees) → AllAtMost n ts → AllAtMost n (gathered k ts)
each_gathered n k none h = tt
each_gathered n k (more t ts) h = each_inserts n (members k t) (gathered k ts) (each_members n k t h.0) (each_gathered n k ts h.1)

each_joined : (n : ℕ) (k : Truth) (ts : Trees) → AllAtMost n ts → AtMost (suc n) (joined k ts)
each_joined n true ts h = h
each_joined n false ts h = h

each_packed : (n : ℕ) (k : Truth) (ts : Trees) → AllAtMost n ts → AtMost (suc n) (packed k ts)
each_packed n k none h = each_truth n k
each_packed n k (more t none) h = more_at n t h.0
each_packed n k (more t (more u us)) h = each_joined n k (more t (more u us)) h

each_junction : (n : ℕ) (k : Truth) (ts : Trees) → AllAtMost n ts → AtMost (suc n) (junction k ts)
each_junction n k ts h = either (AtMost (suc n)) (has_constant (not k) ts) (truth_tree (not k)) (packed k (gathered k ts)) (each_truth n (not k)) (each_packed n k (gathered k ts) (each_gathered n k ts h))

-- ---- Iff and Ite
each_iff_pair : (n : ℕ) (a na b nb : Tree) → AtMost n a → AtMost n na → AtMost n b → AtMost n nb → AtMost (suc n) (iff_pair a na b nb)
each_iff_pair n a na b nb g ng h nh =
    let odd = differ (is_before a na) (is_before b nb) in
    let P = AtMost n in
    let Q = AtMost (suc n) in
    let la = either P (is_before a na) a na g ng in
    let ga = either P (is_before a na) na a ng g in
    let lb = either P (is_before b nb) b nb h nh in
    let gb = either P (is_before b nb) nb b nh h in
    either Q (same na b) False (iff_sorted odd (lesser a na) (greater a na) (lesser b nb) (greater b nb)) tt
    (either Q (is_before (lesser a na) (lesser b nb)) (Iff (lesser a na) (if odd then greater b nb else lesser b nb)) (Iff (lesser b nb) (if odd then greater a na else lesser a na))
    (la, either P odd (greater b nb) (lesser b nb) gb lb) (lb, either P odd (greater a na) (lesser a na) ga la))

each_iff_by : (n : ℕ) (ka kb : Option Truth) (a : Tree) (na : Option Tree) (b : Tree) (nb : Option Tree) → AtMost n a → Holds (AtMost n) na → AtMost n b → Holds (AtMost n) nb → Holds (AtMost (suc n)) (iff_by ka kb a na b nb)
each_iff_by n (Some true) kb a na b nb g ng h nh = more_at n b h
each_iff_by n (Some false) kb a na b nb g ng h nh = holds_more n nb nh
each_iff_by n None (Some true) a na b nb g ng h nh = more_at n a g
each_iff_by n None (Some false) a na b nb g ng h nh = holds_more n na ng
each_iff_by n None None a na b nb g ng h nh = by (same a b)
  where
    by : (c : Truth) → Holds (AtMost (suc n)) (if c then Some True else and_then na (λ x. and_then nb (λ y. Some (iff_pair a x b y))))
    by true = tt
    by false =
        holds_then (AtMost n) (AtMost (suc n)) (λ x. and_then nb (λ y. Some (iff_pair a x b y))) na
        (λ x p. holds_then (AtMost n) (AtMost (suc n)) (λ y. Some (iff_pair a x b y)) nb (λ y q. each_iff_pair n a x b y g p h q) nh) ng

each_ite_by : (n : ℕ) (ka kb : Option Truth) (p np a b : Tree) → AtMost n p → AtMost n np → AtMost n a → AtMost n b → AtMost (suc n) (ite_by ka kb p np a b)
each_ite_by n (Some true) (Some true) p np a b g h i j = tt
each_ite_by n (Some true) (Some false) p np a b g h i j = more_at n p g
each_ite_by n (Some true) None p np a b g h i j = each_junction n false (more p (more b none)) (g, (j, tt))
each_ite_by n (Some false) (Some true) p np a b g h i j = more_at n np h
each_ite_by n (Some false) (Some false) p np a b g h i j = tt
each_ite_by n (Some false) None p np a b g h i j = each_junction n true (more np (more b none)) (h, (j, tt))
each_ite_by n None (Some true) p np a b g h i j = each_junction n false (more np (more a none)) (h, (i, tt))
each_ite_by n None (Some false) p np a b g h i j = each_junction n true (more p (more a none)) (g, (i, tt))
each_ite_by n None None p np a b g h i j = (g, i, j)

each_ite_where : (n : ℕ) (kc : Option Truth) (c : Tree) (nc : Option Tree) (a b : Tree) → AtMost n c → Holds (AtMost n) nc → AtMost n a → AtMost n b → Holds (AtMost (suc n)) (ite_where kc c nc a b)
each_ite_where n (Some true) c nc a b g h i j = more_at n a i
each_ite_where n (Some false) c nc a b g h i j = more_at n b j
each_ite_where n None c nc a b g h i j = by (same a b)
  where
    by : (d : Truth) → Holds (AtMost (suc n)) (if d then Some a else option_map (λ x. if is_before c x then ite_over c x a b else ite_over x c b a) nc)
    by true = more_at n a i
    by false =
        holds_map (AtMost n) (AtMost (suc n)) _ nc
        (λ x q. either (AtMost (suc n)) (is_before c x) (ite_over c x a b) (ite_over x c b a) (each_ite_by n (constant_of a) (constant_of b) c x a b g q i j) (each_ite_by n (constant_of b) (constant_of a) x c b a q g j i)) h

-- ---- negation
each_neg_le : (n : ℕ) (m t : Tree) → AtMost n m → AtMost n t → Holds (AtMost (suc n)) (neg_le m t)
each_neg_le zero m t g h = absurd g
each_neg_le (suc n) m (Num k) g h = holds_if (AtMost (suc (suc n))) (in_range (neg_ℤ k +ℤ negsuc 0)) _ (each_term n (times (negsuc 0) (form m)) (in_scaled n (negsuc 0) (form m).parts (in_form n m g)), tt)
each_neg_le (suc n) m t g h = (g, h)

mutual
  each_neg : (n : ℕ) (t : Tree) → AtMost n t → Holds (AtMost n) (neg t)
  each_neg zero t g = absurd g
  each_neg (suc n) True g = tt
  each_neg (suc n) False g = tt
  each_neg (suc n) (Le a b) g = each_neg_le n a b g.0 g.1
  each_neg (suc n) (Iff a b) g =
      holds_then (AtMost n) (AtMost (suc n)) _ (neg a)
      (λ na q. each_iff_by n (constant_of b) (constant_of na) b (neg b) na (Some a) g.1 (each_neg n b g.1) q g.0) (each_neg n a g.0)
  each_neg (suc n) (Not a) g = g
  each_neg (suc n) (And ts) g = holds_map (AllAtMost n) (AtMost (suc n)) _ (negs ts) (λ ns q. each_inserts n ns none q tt) (each_negs n ts g)
  each_neg (suc n) (Or ts) g = holds_map (AllAtMost n) (AtMost (suc n)) _ (negs ts) (λ ns q. each_inserts n ns none q tt) (each_negs n ts g)
  each_neg (suc n) (Ite c a b) g =
      holds_then (AtMost n) (AtMost (suc n)) _ (neg a)
      (λ na p. holds_then (AtMost n) (AtMost (suc n)) _ (neg b) (λ nb q. each_ite_where n (constant_of c) c (neg c) na nb g.0 (each_neg n c g.0) p q) (each_neg n b g.2)) (each_neg n a g.1)
  each_neg (suc n) (Var x) g = g
  each_neg (suc n) (Num z) g = g
  each_neg (suc n) (Sum ts) g = g
  each_neg (suc n) (Scale z a) g = g
  each_neg (suc n) (Eq a b) g = g

  each_negs : (n : ℕ) (ts : Trees) → AllAtMost n ts → Holds (AllAtMost n) (negs ts)
  each_negs n none h = tt
  each_negs n (more t ts) h =
      holds_then (AtMost n) (AllAtMost n) _ (neg t) (λ x p. holds_map (AllAtMost n) (AllAtMost n) (more x) (negs ts) (λ ns q. (p, q)) (each_negs n ts h.1)) (each_neg n t h.0)

-- ---- the canonical form
mutual
  pub each_canon : (n : ℕ) (t : Tree) → AtMost n t → Finds (AtMost n) (canon t)
  each_canon zero t h = absurd h
  each_canon (suc n) True h = tt
  each_canon (suc n) False h = tt
  each_canon (suc n) (Var x) h = h
  each_canon (suc n) (Num z) h = finds_at (AtMost (suc n)) (Num z) (num_of z) (holds_if (AtMost (suc n)) (in_range z) (Num z) tt)
  each_canon (suc n) (Sum ts) h = finds_after (AllAtMost (suc n)) (AtMost (suc n)) _ (canons ts) (λ cs q. finds_at (AtMost (suc n)) (Sum ts) (sum_of cs) (each_sum_of n cs q)) (each_canons (suc n) ts h)
  each_canon (suc n) (Scale a t) h = finds_after (AtMost (suc n)) (AtMost (suc n)) _ (canon t) (λ c q. finds_at (AtMost (suc n)) (Scale a t) (scale_of a c) (each_scale_of n a c q)) (each_canon (suc n) t h)
  each_canon (suc n) (Le t u) h =
      finds_after (AtMost n) (AtMost (suc n)) _ (canon t) (λ c p. finds_after (AtMost n) (AtMost (suc n)) _ (canon u) (λ d q. finds_at (AtMost (suc n)) (Le t u) (le_of c d) (each_le_of n c d p q)) (each_canon n u h.1)) (each_canon n t h.0)
  each_canon (suc n) (Eq t u) h =
      finds_after (AtMost n) (AtMost (suc n)) _ (canon t) (λ c p. finds_after (AtMost n) (AtMost (suc n)) _ (canon u) (λ d q. finds_at (AtMost (suc n)) (Eq t u) (eq_of c d) (each_eq_of n c d p q)) (each_canon n u h.1)) (each_canon n t h.0)
  each_canon (suc n) (Iff t u) h =
      finds_after (AtMost n) (AtMost (suc n)) _ (canon t)
      (λ c p. finds_after (AtMost n) (AtMost (suc n)) _ (canon u)
      (λ d q. finds_at (AtMost (suc n)) (Iff t u) (iff_of c (neg c) d (neg d)) (each_iff_by n (constant_of c) (constant_of d) c (neg c) d (neg d) p (each_neg n c p) q (each_neg n d q))) (each_canon n u h.1)) (each_canon n t h.0)
  each_canon (suc n) (Not t) h = finds_after (AtMost (suc n)) (AtMost (suc n)) _ (canon t) (λ c q. finds_at (AtMost (suc n)) (Not t) (neg c) (each_neg (suc n) c q)) (each_canon (suc n) t h)
  each_canon (suc n) (And ts) h = finds_after (AllAtMost n) (AtMost (suc n)) _ (canons ts) (λ cs q. each_junction n true cs q) (each_canons n ts h)
  each_canon (suc n) (Or ts) h = finds_after (AllAtMost n) (AtMost (suc n)) _ (canons ts) (λ cs q. each_junction n false cs q) (each_canons n ts h)
  each_canon (suc n) (Ite s t u) h =
      finds_after (AtMost n) (AtMost (suc n)) _ (canon s)
      (λ c p. finds_after (AtMost n) (AtMost (suc n)) _ (canon t)
      (λ d q. finds_after (AtMost n) (AtMost (suc n)) _ (canon u)
      (λ e r. finds_at (AtMost (suc n)) (Ite s t u) (ite_of c (neg c) d e) (each_ite_where n (constant_of c) c (neg c) d e p (each_neg n c p) q r)) (each_canon n u h.2)) (each_canon n t h.1)) (each_canon n s h.0)

  each_canons : (n : ℕ) (ts : Trees) → AllAtMost n ts → Finds (AllAtMost n) (canons ts)
  each_canons n none h = tt
  each_canons n (more t ts) h = finds_after (AtMost n) (AllAtMost n) _ (canon t) (λ c p. finds_after (AllAtMost n) (AllAtMost n) _ (canons ts) (λ cs q. (p, q)) (each_canons n ts h.1)) (each_canon n t h.0)
