-- Terms put for names: one after another, for the names that occur alone, and how deep the terms are then.
use Rattle.std.proofs.Common.{◌≡◌, ◌≤◌, ◌+◌, max, ℕ, Bool as Truth, true, false, cond, Some, None, unwrap_or, List, [], ◌∷◌, ◌++◌, refl, sym, ap, ◌∙◌, if◌then◌else◌, arith}
use Rattle.std.specs.List.{Contains}
use Rattle.std.proofs.lemmas.List.Elements.{Contains-append_left, Contains-append_right}
use Rattle.qterm.specs.declared.name.Name.{Name}
use Rattle.qterm.specs.Tree.{Tree, Trees, True, False, Var, Num, Sum, Scale, Le, Eq, Iff, Not, And, Or, Ite, none, more}
use Rattle.qeval.specs.Value.{same_name}
use Rattle.qeval.proofs.Valuations.{same_name_exact}
use Rattle.qlin.specs.Order.{same}
use Rattle.qcanon_laws.proofs.Canonical.{same_itself, not_same}
use Rattle.qsubst.specs.Names.{names, names_all}
use Rattle.qsubst.specs.Substitution.{Substitution, image, replaced, replaced_all}
use Rattle.qsubst.proofs.Looking.{same_name_itself}
use Rattle.qsubst.proofs.Members.{Contains-first}
use Rattle.tac_cert.specs.Formulas as rule
use Rattle.tac_cert.specs.Depth.{depth, depths}
use Rattle.goal_depth.specs.Depths.{counted, counted_all}

-- ---- the rule of certificates that puts a term for a name
-- what is no name stays in its place
placed_not : (x : Name) (t u v : Tree) → (u ≡ Var x → ⊥) → rule.placed (Var x) t u v ≡ v
placed_not x t u v h = ap (λ b. if b then t else v) (not_same u (Var x) h)

at_var : (x : Name) (t : Tree) (n : Name) → rule.placed (Var x) t (Var n) (Var n) ≡ image ((x, t) ∷ []) n
at_var x t n = by (same_name n x) refl
  where
    goes : (b : Truth) → same_name n x ≡ b → image ((x, t) ∷ []) n ≡ unwrap_or (cond b (Some t) None) (Var n)
    goes b q = ap (λ k. unwrap_or (cond k (Some t) None) (Var n)) q

    by : (b : Truth) → same_name n x ≡ b → rule.placed (Var x) t (Var n) (Var n) ≡ image ((x, t) ∷ []) n
    by true q = ap (λ b. if b then t else Var n) (ap (λ m. same (Var m) (Var x)) (same_name_exact n x q) ∙ same_itself (Var x)) ∙ sym (goes true q)
    by false q = placed_not x t (Var n) (Var n) (λ e. let f : n ≡ x = cc in let g : true ≡ false = sym (same_name_itself x) ∙ ap (λ m. same_name m x) (sym f) ∙ q in cc) ∙ sym (goes false q)

module _ (x : Name) (t : Tree) where
  mutual
    pub by_rule : (u : Tree) → rule.replaced (Var x) t u ≡ replaced ((x, t) ∷ []) u
    by_rule True = placed_not x t True True (λ e. cc)
    by_rule False = placed_not x t False False (λ e. cc)
    by_rule (Var n) = at_var x t n
    by_rule (Num z) = placed_not x t (Num z) (Num z) (λ e. cc)
    by_rule (Sum us) = placed_not x t (Sum us) _ (λ e. cc) ∙ ap Sum (all_by_rule us)
    by_rule (Scale z a) = placed_not x t (Scale z a) _ (λ e. cc) ∙ ap (Scale z) (by_rule a)
    by_rule (Le a b) = placed_not x t (Le a b) _ (λ e. cc) ∙ (let e = by_rule a in let f = by_rule b in λ i. Le (e i) (f i))
    by_rule (Eq a b) = placed_not x t (Eq a b) _ (λ e. cc) ∙ (let e = by_rule a in let f = by_rule b in λ i. Eq (e i) (f i))
    by_rule (Iff a b) = placed_not x t (Iff a b) _ (λ e. cc) ∙ (let e = by_rule a in let f = by_rule b in λ i. Iff (e i) (f i))
    by_rule (Not a) = placed_not x t (Not a) _ (λ e. cc) ∙ ap Not (by_rule a)
    by_rule (And us) = placed_not x t (And us) _ (λ e. cc) ∙ ap And (all_by_rule us)
    by_rule (Or us) = placed_not x t (Or us) _ (λ e. cc) ∙ ap Or (all_by_rule us)
    by_rule (Ite c a b) = placed_not x t (Ite c a b) _ (λ e. cc) ∙ (let e = by_rule c in let f = by_rule a in let g = by_rule b in λ i. Ite (e i) (f i) (g i))

    all_by_rule : (us : Trees) → rule.replaced_all (Var x) t us ≡ replaced_all ((x, t) ∷ []) us
    all_by_rule none = refl
    all_by_rule (more u us) = let e = by_rule u in let f = all_by_rule us in λ i. more (e i) (f i)

-- ---- no term at all
mutual
  pub replaced_none : (t : Tree) → replaced [] t ≡ t
  replaced_none True = refl
  replaced_none False = refl
  replaced_none (Var n) = refl
  replaced_none (Num z) = refl
  replaced_none (Sum ts) = ap Sum (all_replaced_none ts)
  replaced_none (Scale z a) = ap (Scale z) (replaced_none a)
  replaced_none (Le a b) = let e = replaced_none a in let f = replaced_none b in λ i. Le (e i) (f i)
  replaced_none (Eq a b) = let e = replaced_none a in let f = replaced_none b in λ i. Eq (e i) (f i)
  replaced_none (Iff a b) = let e = replaced_none a in let f = replaced_none b in λ i. Iff (e i) (f i)
  replaced_none (Not a) = ap Not (replaced_none a)
  replaced_none (And ts) = ap And (all_replaced_none ts)
  replaced_none (Or ts) = ap Or (all_replaced_none ts)
  replaced_none (Ite c a b) = let e = replaced_none c in let f = replaced_none a in let g = replaced_none b in λ i. Ite (e i) (f i) (g i)

  all_replaced_none : (ts : Trees) → replaced_all [] ts ≡ ts
  all_replaced_none none = refl
  all_replaced_none (more t ts) = let e = replaced_none t in let f = all_replaced_none ts in λ i. more (e i) (f i)

-- ---- one after another
module _ (r s q : Substitution) (at : (n : Name) → image q n ≡ replaced s (image r n)) where
  mutual
    pub in_turn : (t : Tree) → replaced q t ≡ replaced s (replaced r t)
    in_turn True = refl
    in_turn False = refl
    in_turn (Var n) = at n
    in_turn (Num z) = refl
    in_turn (Sum ts) = ap Sum (all_in_turn ts)
    in_turn (Scale z a) = ap (Scale z) (in_turn a)
    in_turn (Le a b) = let e = in_turn a in let f = in_turn b in λ i. Le (e i) (f i)
    in_turn (Eq a b) = let e = in_turn a in let f = in_turn b in λ i. Eq (e i) (f i)
    in_turn (Iff a b) = let e = in_turn a in let f = in_turn b in λ i. Iff (e i) (f i)
    in_turn (Not a) = ap Not (in_turn a)
    in_turn (And ts) = ap And (all_in_turn ts)
    in_turn (Or ts) = ap Or (all_in_turn ts)
    in_turn (Ite c a b) = let e = in_turn c in let f = in_turn a in let g = in_turn b in λ i. Ite (e i) (f i) (g i)

    all_in_turn : (ts : Trees) → replaced_all q ts ≡ replaced_all s (replaced_all r ts)
    all_in_turn none = refl
    all_in_turn (more t ts) = let e = in_turn t in let f = all_in_turn ts in λ i. more (e i) (f i)

-- ---- the names that occur
module _ (r s : Substitution) where
  abbrev Agree : List Name → Type 0
  Agree ns = (n : Name) → Contains ns n → image r n ≡ image s n

  left : (ms ns : List Name) → Agree (ms ++ ns) → Agree ms
  left ms ns h n c = h n (Contains-append_left ms ns n c)

  right : (ms ns : List Name) → Agree (ms ++ ns) → Agree ns
  right ms ns h n c = h n (Contains-append_right ms ns n c)

  mutual
    unfolding names names_all

    pub agrees : (t : Tree) → Agree (names t) → replaced r t ≡ replaced s t
    agrees True h = refl
    agrees False h = refl
    agrees (Var n) h = h n (Contains-first n [])
    agrees (Num z) h = refl
    agrees (Sum ts) h = ap Sum (all_agree ts h)
    agrees (Scale z a) h = ap (Scale z) (agrees a h)
    agrees (Le a b) h = let e = agrees a (left (names a) (names b) h) in let f = agrees b (right (names a) (names b) h) in λ i. Le (e i) (f i)
    agrees (Eq a b) h = let e = agrees a (left (names a) (names b) h) in let f = agrees b (right (names a) (names b) h) in λ i. Eq (e i) (f i)
    agrees (Iff a b) h = let e = agrees a (left (names a) (names b) h) in let f = agrees b (right (names a) (names b) h) in λ i. Iff (e i) (f i)
    agrees (Not a) h = ap Not (agrees a h)
    agrees (And ts) h = ap And (all_agree ts h)
    agrees (Or ts) h = ap Or (all_agree ts h)
    agrees (Ite c a b) h =
        let k = right (names c) (names a ++ names b) h in
        let e = agrees c (left (names c) (names a ++ names b) h) in
        let f = agrees a (left (names a) (names b) k) in
        let g = agrees b (right (names a) (names b) k) in
        λ i. Ite (e i) (f i) (g i)

    all_agree : (ts : Trees) → Agree (names_all ts) → replaced_all r ts ≡ replaced_all s ts
    all_agree none h = refl
    all_agree (more t ts) h = let e = agrees t (left (names t) (names_all ts) h) in let f = all_agree ts (right (names t) (names_all ts) h) in λ i. more (e i) (f i)

-- ---- depths
-- terms of the depth 2 at most, put for names
two : (a b c d : ℕ) → a ≤ c + 1 → b ≤ d + 1 → 1 + max a b ≤ 1 + max c d + 1
two a b c d h k = omega (arith, h, k)

largest : (a b c d : ℕ) → a ≤ c + 1 → b ≤ d + 1 → max a b ≤ max c d + 1
largest a b c d h k = omega (arith, h, k)

module _ (s : Substitution) (low : (n : Name) → depth (image s n) ≤ 2) where
  mutual
    pub deeper : (t : Tree) → depth (replaced s t) ≤ depth t + 1
    deeper True = omega arith
    deeper False = omega arith
    deeper (Var n) = let h = low n in omega (arith, h)
    deeper (Num z) = omega arith
    deeper (Sum ts) = let h = all_deeper ts in omega (arith, h)
    deeper (Scale z a) = let h = deeper a in omega (arith, h)
    deeper (Le a b) = two (depth (replaced s a)) (depth (replaced s b)) (depth a) (depth b) (deeper a) (deeper b)
    deeper (Eq a b) = two (depth (replaced s a)) (depth (replaced s b)) (depth a) (depth b) (deeper a) (deeper b)
    deeper (Iff a b) = two (depth (replaced s a)) (depth (replaced s b)) (depth a) (depth b) (deeper a) (deeper b)
    deeper (Not a) = let h = deeper a in omega (arith, h)
    deeper (And ts) = let h = all_deeper ts in omega (arith, h)
    deeper (Or ts) = let h = all_deeper ts in omega (arith, h)
    deeper (Ite c a b) =
        two (depth (replaced s c)) (max (depth (replaced s a)) (depth (replaced s b))) (depth c) (max (depth a) (depth b)) (deeper c)
        (largest (depth (replaced s a)) (depth (replaced s b)) (depth a) (depth b) (deeper a) (deeper b))

    all_deeper : (ts : Trees) → depths (replaced_all s ts) ≤ depths ts + 1
    all_deeper none = omega arith
    all_deeper (more t ts) = largest (depth (replaced s t)) (depths (replaced_all s ts)) (depth t) (depths ts) (deeper t) (all_deeper ts)

-- terms of the counted depth 1, put for names
module _ (s : Substitution) (one : (n : Name) → counted (image s n) ≡ 1) where
  mutual
    pub as_deep : (t : Tree) → counted (replaced s t) ≡ counted t
    as_deep True = refl
    as_deep False = refl
    as_deep (Var n) = one n
    as_deep (Num z) = refl
    as_deep (Sum ts) = ap (λ n. max 1 n) (all_as_deep ts)
    as_deep (Scale z a) = as_deep a
    as_deep (Le a b) = let e = as_deep a in let f = as_deep b in λ i. 1 + max (e i) (f i)
    as_deep (Eq a b) = let e = as_deep a in let f = as_deep b in λ i. 1 + max (e i) (f i)
    as_deep (Iff a b) = let e = as_deep a in let f = as_deep b in λ i. 1 + max (e i) (f i)
    as_deep (Not a) = as_deep a
    as_deep (And ts) = ap (λ n. 1 + n) (all_as_deep ts)
    as_deep (Or ts) = ap (λ n. 1 + n) (all_as_deep ts)
    as_deep (Ite c a b) = let e = as_deep c in let f = as_deep a in let g = as_deep b in λ i. 1 + max (e i) (max (f i) (g i))

    all_as_deep : (ts : Trees) → counted_all (replaced_all s ts) ≡ counted_all ts
    all_as_deep none = refl
    all_as_deep (more t ts) = let e = as_deep t in let f = all_as_deep ts in λ i. max (e i) (f i)
