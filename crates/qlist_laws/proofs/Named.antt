-- What holds of each name of a term holds of each name of its canonical form.
use Rattle.std.proofs.Common.{ℕ, ℤ, pos, negsuc, suc, zero, ◌%◌, [], ◌∷◌, Bool as Truth, true, false, ◌&&◌, not, Option, Some, None, if◌then◌else◌}
use Rattle.std.specs.Prelude.{◌+ℤ◌, ◌*ℤ◌, neg_ℤ, nat_abs, nat_eq}
use Rattle.std.specs.declared.cmp.Ordering.{Ordering}
use Rattle.std.specs.declared.cmp.Ordering.TheVariants.{Less, Equal, Greater}
use Rattle.std.specs.Ordering.{int_eq}
use Rattle.std.specs.Option.{option_map}
use lib.Signed.{le_z, lt_z}
use Rattle.qterm.specs.declared.name.Name.{Name}
use Rattle.qterm.specs.Tree.{Tree, Trees, True, False, Var, Num, Sum, Scale, Le, Eq, Iff, Not, And, Or, Ite, none, more}
use Rattle.qlin.specs.Order.{tree_cmp, by_order, same, is_before}
use Rattle.qlin.specs.Form.{Form, Parts, part, put, puts, scaled, zero_form, plus, times, if_in_range, parts_in_range, summand, summands, form, part_term, constant_term, terms, sum_term, term}
use Rattle.qlin.specs.Number.{in_range, floor}
use Rattle.qlin.specs.Atom.{content, divided, truth_tree, le_zero, eq_signed, eq_zero, difference, le_of, eq_of}
use Rattle.qlin.specs.Linear.{and_then, num_of, sum_onto, sum_of, scale_of}
use Rattle.qlin.specs.Junction.{insert, inserts, members, gathered, has_constant, joined, packed, junction}
use Rattle.qlin.specs.Iff.{constant_of, lesser, greater, differ, iff_sorted, iff_pair, iff_by, iff_of}
use Rattle.qlin.specs.Ite.{ite_by, ite_over, ite_where, ite_of}
use Rattle.qlin.specs.Negation.{neg_le, neg, negs}
use Rattle.qlin.specs.Canon.{canon, canons}
use Rattle.qcanon_laws.proofs.Sorts.{Holds, holds_map, holds_then, holds_if, Finds, finds_after, finds_at}

module _ (P : Name → Type 0) where
  abbrev mutual
    -- P holds of each name of a term
    pub Each : Tree → Type 0
    Each True = Unit {0}
    Each False = Unit {0}
    Each (Var n) = P n
    Each (Num z) = Unit {0}
    Each (Sum ts) = EachOf ts
    Each (Scale z a) = Each a
    Each (Le a b) = Each a × Each b
    Each (Eq a b) = Each a × Each b
    Each (Iff a b) = Each a × Each b
    Each (Not a) = Each a
    Each (And ts) = EachOf ts
    Each (Or ts) = EachOf ts
    Each (Ite c a b) = Each c × Each a × Each b

    -- of each name of terms in a row
    pub EachOf : Trees → Type 0
    EachOf none = Unit {0}
    EachOf (more t ts) = Each t × EachOf ts

  -- ---- linear forms
  abbrev InParts : Parts → Type 0
  InParts [] = Unit {0}
  InParts (p ∷ ps) = Each p.1 × InParts ps

  in_part : (a : ℤ) (m : Tree) (ps : Parts) → Each m → InParts ps → InParts (part a m ps)
  in_part (pos zero) m ps g h = h
  in_part (pos (suc n)) m ps g h = (g, h)
  in_part (negsuc n) m ps g h = (g, h)

  in_put : (a : ℤ) (m : Tree) (ps : Parts) → Each m → InParts ps → InParts (put a m ps)
  in_put a m [] g h = in_part a m [] g h
  in_put a m (p ∷ ps) g h = by (tree_cmp m p.1) (in_put a m ps g h.1)
    where
      by : (o : Ordering) → InParts (put a m ps) → InParts (by_order o (part a m (p ∷ ps)) (part (p.0 +ℤ a) m ps) (p ∷ put a m ps))
      by Less ih = in_part a m (p ∷ ps) g h
      by Equal ih = in_part (p.0 +ℤ a) m ps g h.1
      by Greater ih = (h.0, ih)

  in_puts : (qs ps : Parts) → InParts qs → InParts ps → InParts (puts qs ps)
  in_puts [] ps k h = h
  in_puts (q ∷ qs) ps k h = in_puts qs (put q.0 q.1 ps) k.1 (in_put q.0 q.1 ps k.0 h)

  in_scaled : (a : ℤ) (ps : Parts) → InParts ps → InParts (scaled a ps)
  in_scaled a [] h = tt
  in_scaled a (p ∷ ps) h = in_part (a *ℤ p.0) p.1 (scaled a ps) h.0 (in_scaled a ps h.1)

  in_divided : (ps : Parts) (g : ℕ) → InParts ps → InParts (divided ps g)
  in_divided [] g h = tt
  in_divided (p ∷ ps) g h = (h.0, in_divided ps g h.1)

  in_summand : (t : Tree) (f : Form) → Each t → InParts f.parts → InParts (summand t f).parts
  in_summand (Num z) f g h = h
  in_summand (Scale a m) f g h = (g, h)
  in_summand True f g h = (g, h)
  in_summand False f g h = (g, h)
  in_summand (Var n) f g h = (g, h)
  in_summand (Sum ts) f g h = (g, h)
  in_summand (Le a b) f g h = (g, h)
  in_summand (Eq a b) f g h = (g, h)
  in_summand (Iff a b) f g h = (g, h)
  in_summand (Not a) f g h = (g, h)
  in_summand (And ts) f g h = (g, h)
  in_summand (Or ts) f g h = (g, h)
  in_summand (Ite c a b) f g h = (g, h)

  in_summands : (ts : Trees) → EachOf ts → InParts (summands ts).parts
  in_summands none h = tt
  in_summands (more t ts) h = in_summand t (summands ts) h.0 (in_summands ts h.1)

  in_form : (t : Tree) → Each t → InParts (form t).parts
  in_form (Sum ts) g = in_summands ts g
  in_form (Num z) g = in_summand (Num z) zero_form g tt
  in_form (Scale a m) g = in_summand (Scale a m) zero_form g tt
  in_form True g = in_summand True zero_form g tt
  in_form False g = in_summand False zero_form g tt
  in_form (Var n) g = in_summand (Var n) zero_form g tt
  in_form (Le a b) g = in_summand (Le a b) zero_form g tt
  in_form (Eq a b) g = in_summand (Eq a b) zero_form g tt
  in_form (Iff a b) g = in_summand (Iff a b) zero_form g tt
  in_form (Not a) g = in_summand (Not a) zero_form g tt
  in_form (And ts) g = in_summand (And ts) zero_form g tt
  in_form (Or ts) g = in_summand (Or ts) zero_form g tt
  in_form (Ite c a b) g = in_summand (Ite c a b) zero_form g tt

  each_part : (a : ℤ) (m : Tree) → Each m → Each (part_term a m)
  each_part (pos zero) m g = g
  each_part (pos (suc zero)) m g = g
  each_part (pos (suc (suc n))) m g = g
  each_part (negsuc n) m g = g

  each_constant : (k : ℤ) → EachOf (constant_term k)
  each_constant (pos zero) = tt
  each_constant (pos (suc n)) = (tt, tt)
  each_constant (negsuc n) = (tt, tt)

  each_terms : (ps : Parts) (k : ℤ) → InParts ps → EachOf (terms ps k)
  each_terms [] k h = each_constant k
  each_terms (p ∷ ps) k h = (each_part p.0 p.1 h.0, each_terms ps k h.1)

  each_sum : (ts : Trees) → EachOf ts → Each (sum_term ts)
  each_sum none h = tt
  each_sum (more t none) h = h.0
  each_sum (more t (more u us)) h = h

  each_term : (f : Form) → InParts f.parts → Each (term f)
  each_term f h = each_sum (terms f.parts f.constant) (each_terms f.parts f.constant h)

  each_truth : (b : Truth) → Each (truth_tree b)
  each_truth true = tt
  each_truth false = tt

  each_parts : (ps : Parts) → InParts ps → Each (sum_term (terms ps (pos 0)))
  each_parts ps h = each_sum (terms ps (pos 0)) (each_terms ps (pos 0) h)

  either : (b : Truth) (t u : Tree) → Each t → Each u → Each (if b then t else u)
  either true t u p q = p
  either false t u p q = q

  each_le_zero : (ps : Parts) (k : ℤ) → InParts ps → Each (le_zero ps k)
  each_le_zero [] k h = each_truth (le_z k (pos 0))
  each_le_zero (p ∷ ps) k h = (each_parts (divided (p ∷ ps) (content (p ∷ ps))) (in_divided (p ∷ ps) (content (p ∷ ps)) h), tt)

  each_eq_signed : (ps : Parts) (k : ℤ) → InParts ps → Each (eq_signed ps k)
  each_eq_signed [] k h = each_truth (int_eq k (pos 0))
  each_eq_signed (p ∷ ps) k h = either (lt_z p.0 (pos 0)) _ _ (each_parts (scaled (negsuc 0) (p ∷ ps)) (in_scaled (negsuc 0) (p ∷ ps) h), tt) (each_parts (p ∷ ps) h, tt)

  each_eq_zero : (ps : Parts) (k : ℤ) → InParts ps → Each (eq_zero ps k)
  each_eq_zero [] k h = each_truth (int_eq k (pos 0))
  each_eq_zero (p ∷ ps) k h =
      either (nat_eq (nat_abs k % content (p ∷ ps)) 0) _ _ (each_eq_signed (divided (p ∷ ps) (content (p ∷ ps))) (floor (neg_ℤ k) (content (p ∷ ps))) (in_divided (p ∷ ps) (content (p ∷ ps)) h)) tt

  abbrev InForm : Form → Type 0
  InForm f = InParts f.parts

  in_sum_onto : (f : Form) (ts : Trees) → InForm f → EachOf ts → Holds InForm (sum_onto f ts)
  in_sum_onto f none h l = h
  in_sum_onto f (more t ts) h l =
      let g = plus f (form t) in
      holds_then InForm InForm (λ x. sum_onto x ts) (if_in_range g) (λ x k. in_sum_onto x ts k l.1) (holds_if InForm (parts_in_range g.parts && in_range g.constant) g (in_puts (form t).parts f.parts (in_form t l.0) h))

  each_sum_of : (ts : Trees) → EachOf ts → Holds Each (sum_of ts)
  each_sum_of ts l = holds_map InForm Each term (sum_onto zero_form ts) each_term (in_sum_onto zero_form ts tt l)

  each_scale_of : (a : ℤ) (t : Tree) → Each t → Holds Each (scale_of a t)
  each_scale_of a t g =
      let f = times a (form t) in
      holds_map InForm Each term (if_in_range f) each_term (holds_if InForm (parts_in_range f.parts && in_range f.constant) f (in_scaled a (form t).parts (in_form t g)))

  in_difference : (t u : Tree) → Each t → Each u → Holds InForm (difference t u)
  in_difference t u g h =
      let f = plus (plus zero_form (form t)) (times (negsuc 0) (form u)) in
      holds_if InForm (parts_in_range f.parts && in_range f.constant) f (in_puts (scaled (negsuc 0) (form u).parts) (puts (form t).parts []) (in_scaled (negsuc 0) (form u).parts (in_form u h)) (in_puts (form t).parts [] (in_form t g) tt))

  each_le_of : (t u : Tree) → Each t → Each u → Holds Each (le_of t u)
  each_le_of t u g h = holds_map InForm Each _ (difference t u) (λ f k. each_le_zero f.parts f.constant k) (in_difference t u g h)

  each_eq_of : (t u : Tree) → Each t → Each u → Holds Each (eq_of t u)
  each_eq_of t u g h = holds_map InForm Each _ (difference t u) (λ f k. each_eq_zero f.parts f.constant k) (in_difference t u g h)

  -- ---- And and Or
  each_insert : (t : Tree) (ts : Trees) → Each t → EachOf ts → EachOf (insert t ts)
  each_insert t none g h = (g, tt)
  each_insert t (more u us) g h = by (tree_cmp t u) (each_insert t us g h.1)
    where
      by : (o : Ordering) → EachOf (insert t us) → EachOf (by_order o (more t (more u us)) (more u us) (more u (insert t us)))
      by Less ih = (g, h)
      by Equal ih = h
      by Greater ih = (h.0, ih)

  each_inserts : (ts us : Trees) → EachOf ts → EachOf us → EachOf (inserts ts us)
  each_inserts none us g h = h
  each_inserts (more t ts) us g h = each_insert t (inserts ts us) g.0 (each_inserts ts us g.1 h)

  pub each_members : (k : Truth) (t : Tree) → Each t → EachOf (members k t)
  each_members true True g = tt
  each_members true (And ts) g = g
  each_members false False g = tt
  each_members false (Or ts) g = g
  each_members k t g = (g, tt)

  each_gathered : (k : Truth) (ts : Trees) → EachOf ts → EachOf (gathered k ts)
  each_gathered k none h = tt
  each_gathered k (more t ts) h = each_inserts (members k t) (gathered k ts) (each_members k t h.0) (each_gathered k ts h.1)

  each_joined : (k : Truth) (ts : Trees) → EachOf ts → Each (joined k ts)
  each_joined true ts h = h
  each_joined false ts h = h

  each_packed : (k : Truth) (ts : Trees) → EachOf ts → Each (packed k ts)
  each_packed k none h = each_truth k
  each_packed k (more t none) h = h.0
  each_packed k (more t (more u us)) h = each_joined k (more t (more u us)) h

  each_junction : (k : Truth) (ts : Trees) → EachOf ts → Each (junction k ts)
  each_junction k ts h = either (has_constant (not k) ts) (truth_tree (not k)) (packed k (gathered k ts)) (each_truth (not k)) (each_packed k (gathered k ts) (each_gathered k ts h))

  -- ---- Iff and Ite
  each_iff_pair : (a na b nb : Tree) → Each a → Each na → Each b → Each nb → Each (iff_pair a na b nb)
  each_iff_pair a na b nb g ng h nh =
      let odd = differ (is_before a na) (is_before b nb) in
      let la = either (is_before a na) a na g ng in
      let ga = either (is_before a na) na a ng g in
      let lb = either (is_before b nb) b nb h nh in
      let gb = either (is_before b nb) nb b nh h in
      either (same na b) False (iff_sorted odd (lesser a na) (greater a na) (lesser b nb) (greater b nb)) tt
      (either (is_before (lesser a na) (lesser b nb)) (Iff (lesser a na) (if odd then greater b nb else lesser b nb)) (Iff (lesser b nb) (if odd then greater a na else lesser a na))
      (la, either odd (greater b nb) (lesser b nb) gb lb) (lb, either odd (greater a na) (lesser a na) ga la))

  each_iff_by : (ka kb : Option Truth) (a : Tree) (na : Option Tree) (b : Tree) (nb : Option Tree) → Each a → Holds Each na → Each b → Holds Each nb → Holds Each (iff_by ka kb a na b nb)
  each_iff_by (Some true) kb a na b nb g ng h nh = h
  each_iff_by (Some false) kb a na b nb g ng h nh = nh
  each_iff_by None (Some true) a na b nb g ng h nh = g
  each_iff_by None (Some false) a na b nb g ng h nh = ng
  each_iff_by None None a na b nb g ng h nh = by (same a b)
    where
      by : (c : Truth) → Holds Each (if c then Some True else and_then na (λ x. and_then nb (λ y. Some (iff_pair a x b y))))
      by true = tt
      by false =
          holds_then Each Each (λ x. and_then nb (λ y. Some (iff_pair a x b y))) na
          (λ x p. holds_then Each Each (λ y. Some (iff_pair a x b y)) nb (λ y q. each_iff_pair a x b y g p h q) nh) ng

  each_ite_by : (ka kb : Option Truth) (p np a b : Tree) → Each p → Each np → Each a → Each b → Each (ite_by ka kb p np a b)
  each_ite_by (Some true) (Some true) p np a b g h i j = tt
  each_ite_by (Some true) (Some false) p np a b g h i j = g
  each_ite_by (Some true) None p np a b g h i j = each_junction false (more p (more b none)) (g, (j, tt))
  each_ite_by (Some false) (Some true) p np a b g h i j = h
  each_ite_by (Some false) (Some false) p np a b g h i j = tt
  each_ite_by (Some false) None p np a b g h i j = each_junction true (more np (more b none)) (h, (j, tt))
  each_ite_by None (Some true) p np a b g h i j = each_junction false (more np (more a none)) (h, (i, tt))
  each_ite_by None (Some false) p np a b g h i j = each_junction true (more p (more a none)) (g, (i, tt))
  each_ite_by None None p np a b g h i j = (g, i, j)

  each_ite_where : (kc : Option Truth) (c : Tree) (nc : Option Tree) (a b : Tree) → Each c → Holds Each nc → Each a → Each b → Holds Each (ite_where kc c nc a b)
  each_ite_where (Some true) c nc a b g h i j = i
  each_ite_where (Some false) c nc a b g h i j = j
  each_ite_where None c nc a b g h i j = by (same a b)
    where
      by : (d : Truth) → Holds Each (if d then Some a else option_map (λ n. if is_before c n then ite_over c n a b else ite_over n c b a) nc)
      by true = i
      by false =
          holds_map Each Each _ nc
          (λ n q. either (is_before c n) (ite_over c n a b) (ite_over n c b a) (each_ite_by (constant_of a) (constant_of b) c n a b g q i j) (each_ite_by (constant_of b) (constant_of a) n c b a q g j i)) h

  -- ---- negation
  each_neg_le : (m t : Tree) → Each m → Each t → Holds Each (neg_le m t)
  each_neg_le m (Num k) g h = holds_if Each (in_range (neg_ℤ k +ℤ negsuc 0)) _ (each_term (times (negsuc 0) (form m)) (in_scaled (negsuc 0) (form m).parts (in_form m g)), tt)
  each_neg_le m t g h = (g, h)

  mutual
    each_neg : (t : Tree) → Each t → Holds Each (neg t)
    each_neg True g = tt
    each_neg False g = tt
    each_neg (Le a b) g = each_neg_le a b g.0 g.1
    each_neg (Iff a b) g =
        holds_then Each Each _ (neg a)
        (λ na q. each_iff_by (constant_of b) (constant_of na) b (neg b) na (Some a) g.1 (each_neg b g.1) q g.0) (each_neg a g.0)
    each_neg (Not a) g = g
    each_neg (And ts) g = holds_map EachOf Each _ (negs ts) (λ ns q. each_inserts ns none q tt) (each_negs ts g)
    each_neg (Or ts) g = holds_map EachOf Each _ (negs ts) (λ ns q. each_inserts ns none q tt) (each_negs ts g)
    each_neg (Ite c a b) g =
        holds_then Each Each _ (neg a)
        (λ na p. holds_then Each Each _ (neg b) (λ nb q. each_ite_where (constant_of c) c (neg c) na nb g.0 (each_neg c g.0) p q) (each_neg b g.2)) (each_neg a g.1)
    each_neg (Var n) g = g
    each_neg (Num z) g = g
    each_neg (Sum ts) g = g
    each_neg (Scale z a) g = g
    each_neg (Eq a b) g = g

    each_negs : (ts : Trees) → EachOf ts → Holds EachOf (negs ts)
    each_negs none h = tt
    each_negs (more t ts) h =
        holds_then Each EachOf _ (neg t) (λ n p. holds_map EachOf EachOf (more n) (negs ts) (λ ns q. (p, q)) (each_negs ts h.1)) (each_neg t h.0)

  -- ---- the canonical form
  mutual
    pub each_canon : (t : Tree) → Each t → Finds Each (canon t)
    each_canon True h = tt
    each_canon False h = tt
    each_canon (Var n) h = h
    each_canon (Num z) h = finds_at Each (Num z) (num_of z) (holds_if Each (in_range z) (Num z) tt)
    each_canon (Sum ts) h = finds_after EachOf Each _ (canons ts) (λ cs q. finds_at Each (Sum ts) (sum_of cs) (each_sum_of cs q)) (each_canons ts h)
    each_canon (Scale a t) h = finds_after Each Each _ (canon t) (λ c q. finds_at Each (Scale a t) (scale_of a c) (each_scale_of a c q)) (each_canon t h)
    each_canon (Le t u) h =
        finds_after Each Each _ (canon t) (λ c p. finds_after Each Each _ (canon u) (λ d q. finds_at Each (Le t u) (le_of c d) (each_le_of c d p q)) (each_canon u h.1)) (each_canon t h.0)
    each_canon (Eq t u) h =
        finds_after Each Each _ (canon t) (λ c p. finds_after Each Each _ (canon u) (λ d q. finds_at Each (Eq t u) (eq_of c d) (each_eq_of c d p q)) (each_canon u h.1)) (each_canon t h.0)
    each_canon (Iff t u) h =
        finds_after Each Each _ (canon t)
        (λ c p. finds_after Each Each _ (canon u)
        (λ d q. finds_at Each (Iff t u) (iff_of c (neg c) d (neg d)) (each_iff_by (constant_of c) (constant_of d) c (neg c) d (neg d) p (each_neg c p) q (each_neg d q))) (each_canon u h.1)) (each_canon t h.0)
    each_canon (Not t) h = finds_after Each Each _ (canon t) (λ c q. finds_at Each (Not t) (neg c) (each_neg c q)) (each_canon t h)
    each_canon (And ts) h = finds_after EachOf Each _ (canons ts) (λ cs q. each_junction true cs q) (each_canons ts h)
    each_canon (Or ts) h = finds_after EachOf Each _ (canons ts) (λ cs q. each_junction false cs q) (each_canons ts h)
    each_canon (Ite s t u) h =
        finds_after Each Each _ (canon s)
        (λ c p. finds_after Each Each _ (canon t)
        (λ d q. finds_after Each Each _ (canon u)
        (λ e r. finds_at Each (Ite s t u) (ite_of c (neg c) d e) (each_ite_where (constant_of c) c (neg c) d e p (each_neg c p) q r)) (each_canon u h.2)) (each_canon t h.1)) (each_canon s h.0)

    each_canons : (ts : Trees) → EachOf ts → Finds EachOf (canons ts)
    each_canons none h = tt
    each_canons (more t ts) h = finds_after Each EachOf _ (canon t) (λ c p. finds_after EachOf EachOf _ (canons ts) (λ cs q. (p, q)) (each_canons ts h.1)) (each_canon t h.0)
