-- What follows by a truth table follows: each valuation agrees with a row on the names.
use Rattle.std.proofs.Common.{◌≡◌, ℕ, zero, suc, ◌+◌, ◌*◌, ◌/◌, ◌%◌, ◌^◌, ◌<◌, Bool as Truth, true, false, not, ◌&&◌, ◌||◌, List, [], ◌∷◌, ◌++◌, length, Option, Some, None, inl, inr, refl, sym, ap, subst, ◌∙◌, arith, nat_eq, if◌then◌else◌, cond, rules}
use Rattle.std.specs.Prelude.{unwrap_or, is_some}
use Rattle.std.specs.Map.{lookup}
use Rattle.std.specs.List.{list_all}
use Rattle.std.proofs.lemmas.Grind.{common_steps}
use Rattle.std.proofs.lemmas.Bool.Decides.{nat_tests}
use Rattle.qterm.specs.declared.name.Name.{Name}
use Rattle.qterm.specs.Tree.{Tree, Trees, True, False, Var, Num, Sum, Scale, Le, Eq, Iff, Not, And, Or, Ite, none, more}
use Rattle.qeval.specs.declared.model.Value.{Value}
use Rattle.qeval.specs.declared.model.Value.TheVariants.{Bool}
use Rattle.qeval.specs.Value.{Valuation, value_of, zero_of, same_name, bool_of}
use Rattle.qeval.specs.Eval.{val, vals, truth, all_of, any_of, same_truth}
use Rattle.tac_cert.specs.Names.{is_int}
use Rattle.tac_cert.specs.Items.{Item, Formula, formula_at}
use Rattle.tac_cert.specs.Clauses.{Lit, lit_of, put_lit, lits_in, lits_of}
use Rattle.tac_cert.specs.Words.{is_odd}
use Rattle.tac_cert.specs.Tables.{is_propositional, are_propositional, has, put, names_onto, all_names_onto, names_of, is_small, row, follows, table_fits, table_of, table}
use Rattle.cert_items.specs.Truth.{one_if, AllHold, Satisfiable}
use Rattle.cert_items.proofs.Bools.{and_left, and_right, true_or_false}
use Rattle.cert_items.proofs.Fresh.{name_exact}
use Rattle.cert_values.specs.Laws.{FollowsByTable}
use Rattle.cert_items.proofs.Given.{all_append, formula_true, given}

-- ---- each name of a tree
abbrev mutual
  pub each_name : (Name → Truth) → Tree → Truth
  each_name P True = true
  each_name P False = true
  each_name P (Var x) = P x
  each_name P (Num z) = true
  each_name P (Sum ts) = each_names P ts
  each_name P (Scale z t) = each_name P t
  each_name P (Le t u) = each_name P t && each_name P u
  each_name P (Eq t u) = each_name P t && each_name P u
  each_name P (Iff t u) = each_name P t && each_name P u
  each_name P (Not t) = each_name P t
  each_name P (And ts) = each_names P ts
  each_name P (Or ts) = each_names P ts
  each_name P (Ite c t u) = each_name P c && (each_name P t && each_name P u)

  pub each_names : (Name → Truth) → Trees → Truth
  each_names P none = true
  each_names P (more t ts) = each_name P t && each_names P ts

both : (a b : Truth) → a ≡ true → b ≡ true → (a && b) ≡ true
both a b h k = rw (h, k) refl

all_last : (P : Name → Truth) (ns : List Name) (x : Name) → list_all P (ns ++ x ∷ []) ≡ true → (list_all P ns ≡ true) × (P x ≡ true)
all_last P [] x h = (refl, and_left _ _ h)
all_last P (n ∷ ns) x h = let r = all_last P ns x (and_right (P n) _ h) in (both (P n) _ (and_left _ _ h) r.0, r.1)

pub all_has : (P : Name → Truth) (ns : List Name) (x : Name) → has ns x ≡ true → list_all P ns ≡ true → P x ≡ true
all_has P [] x h a = cc
all_has P (n ∷ ns) x h a =
    elim (true_or_false (same_name x n)) [
      | inl e ↦ subst (λ (y : Name). P y ≡ true) (sym (name_exact x n e)) (and_left _ _ a)
      | inr e ↦ all_has P ns x (rest e h) (and_right (P n) _ a)
    ]
  where
    rest : same_name x n ≡ false → (same_name x n || has ns x) ≡ true → has ns x ≡ true
    rest e k = cc

all_put : (P : Name → Truth) (ns : List Name) (x : Name) → list_all P (put ns x) ≡ true → (list_all P ns ≡ true) × (P x ≡ true)
all_put P ns x h = by (has ns x) refl h
  where
    by : (b : Truth) → has ns x ≡ b → list_all P (if b then ns else (ns ++ x ∷ [])) ≡ true → (list_all P ns ≡ true) × (P x ≡ true)
    by true e k = (k, all_has P ns x e k)
    by false e k = all_last P ns x k

module _ (P : Name → Truth) where
  mutual
    onto_each : (ns : List Name) (t : Tree) → list_all P (names_onto ns t) ≡ true → (list_all P ns ≡ true) × (each_name P t ≡ true)
    onto_each ns True h = (h, refl)
    onto_each ns False h = (h, refl)
    onto_each ns (Var x) h = all_put P ns x h
    onto_each ns (Num z) h = (h, refl)
    onto_each ns (Sum ts) h = all_onto_each ns ts h
    onto_each ns (Scale z t) h = onto_each ns t h
    onto_each ns (Le t u) h = let r = onto_each (names_onto ns t) u h in let q = onto_each ns t r.0 in (q.0, both _ _ q.1 r.1)
    onto_each ns (Eq t u) h = let r = onto_each (names_onto ns t) u h in let q = onto_each ns t r.0 in (q.0, both _ _ q.1 r.1)
    onto_each ns (Iff t u) h = let r = onto_each (names_onto ns t) u h in let q = onto_each ns t r.0 in (q.0, both _ _ q.1 r.1)
    onto_each ns (Not t) h = onto_each ns t h
    onto_each ns (And ts) h = all_onto_each ns ts h
    onto_each ns (Or ts) h = all_onto_each ns ts h
    onto_each ns (Ite c t u) h =
        let r = onto_each (names_onto (names_onto ns c) t) u h in
        let q = onto_each (names_onto ns c) t r.0 in
        let p = onto_each ns c q.0 in (p.0, both _ _ p.1 (both _ _ q.1 r.1))

    all_onto_each : (ns : List Name) (ts : Trees) → list_all P (all_names_onto ns ts) ≡ true → (list_all P ns ≡ true) × (each_names P ts ≡ true)
    all_onto_each ns none h = (h, refl)
    all_onto_each ns (more t ts) h = let r = all_onto_each (names_onto ns t) ts h in let q = onto_each ns t r.0 in (q.0, both _ _ q.1 r.1)

name_itself : (x : Name) → same_name x x ≡ true
name_itself x = search rules

has_more : (n : Name) (ns : List Name) (xs : List Name) → list_all (has ns) xs ≡ true → list_all (has (n ∷ ns)) xs ≡ true
has_more n ns [] h = refl
has_more n ns (x ∷ xs) h = both _ _ (by (same_name x n) (has ns x) (and_left _ _ h)) (has_more n ns xs (and_right (has ns x) _ h))
  where
    by : (a b : Truth) → b ≡ true → (a || b) ≡ true
    by true b e = refl
    by false b e = e

has_itself : (ns : List Name) → list_all (has ns) ns ≡ true
has_itself [] = refl
has_itself (n ∷ ns) = let e = name_itself n in both _ _ (rw e refl) (has_more n ns ns (has_itself ns))

-- ---- two valuations that agree on names
chosen : (b c : Truth) (s t u v : Value) → b ≡ c → bool_of s ≡ bool_of u → bool_of t ≡ bool_of v → bool_of (if b then s else t) ≡ bool_of (if c then u else v)
chosen true true s t u v e f g = f
chosen false false s t u v e f g = g
chosen true false s t u v e f g = cc
chosen false true s t u v e f g = cc

module _ (ns : List Name) (V W : Valuation) (same : (x : Name) → has ns x ≡ true → truth W (Var x) ≡ truth V (Var x)) where
  mutual
    truth_agrees : (t : Tree) → is_propositional t ≡ true → each_name (has ns) t ≡ true → truth W t ≡ truth V t
    truth_agrees True p h = refl
    truth_agrees False p h = refl
    truth_agrees (Var x) p h = same x h
    truth_agrees (Num z) p h = cc
    truth_agrees (Sum ts) p h = cc
    truth_agrees (Scale z t) p h = cc
    truth_agrees (Le t u) p h = cc
    truth_agrees (Eq t u) p h = cc
    truth_agrees (Iff t u) p h =
        let e = truth_agrees t (and_left _ _ p) (and_left _ _ h) in
        let f = truth_agrees u (and_right (is_propositional t) _ p) (and_right (each_name (has ns) t) _ h) in
        λ i. same_truth (e i) (f i)
    truth_agrees (Not t) p h = ap not (truth_agrees t p h)
    truth_agrees (And ts) p h = all_agree ts p h
    truth_agrees (Or ts) p h = any_agrees ts p h
    truth_agrees (Ite c t u) p h =
        let q = and_right (is_propositional c) _ p in
        let k = and_right (each_name (has ns) c) _ h in
        chosen (truth W c) (truth V c) (val W t) (val W u) (val V t) (val V u) (truth_agrees c (and_left _ _ p) (and_left _ _ h))
        (truth_agrees t (and_left _ _ q) (and_left _ _ k)) (truth_agrees u (and_right (is_propositional t) _ q) (and_right (each_name (has ns) t) _ k))

    all_agree : (ts : Trees) → are_propositional ts ≡ true → each_names (has ns) ts ≡ true → all_of (vals W ts) ≡ all_of (vals V ts)
    all_agree none p h = refl
    all_agree (more t ts) p h =
        let e = truth_agrees t (and_left _ _ p) (and_left _ _ h) in
        let f = all_agree ts (and_right (is_propositional t) _ p) (and_right (each_name (has ns) t) _ h) in
        λ i. e i && f i

    any_agrees : (ts : Trees) → are_propositional ts ≡ true → each_names (has ns) ts ≡ true → any_of (vals W ts) ≡ any_of (vals V ts)
    any_agrees none p h = refl
    any_agrees (more t ts) p h =
        let e = truth_agrees t (and_left _ _ p) (and_left _ _ h) in
        let f = any_agrees ts (and_right (is_propositional t) _ p) (and_right (each_name (has ns) t) _ h) in
        λ i. e i || f i

-- ---- the row of a valuation
-- the number of the row in which the names have the values that V gives them
abbrev row_of : Valuation → List Name → ℕ
row_of V [] = 0
row_of V (n ∷ ns) = one_if (truth V (Var n)) + 2 * row_of V ns

row_within : (V : Valuation) (ns : List Name) → row_of V ns < 2 ^ length ns
row_within V [] = omega arith
row_within V (n ∷ ns) = double (length ns) (row_of V ns) (truth V (Var n)) (row_within V ns)
  where
    double : (k r : ℕ) (b : Truth) → r < 2 ^ k → one_if b + 2 * r < 2 ^ suc k
    double k r true h = let e : 2 ^ suc k ≡ 2 ^ k * 2 = grind (arith, common_steps) in omega (arith, e)
    double k r false h = let e : 2 ^ suc k ≡ 2 ^ k * 2 = grind (arith, common_steps) in omega (arith, e)

lowest : (b : Truth) (r : ℕ) → is_odd (one_if b + 2 * r) ≡ b
lowest true r = let e : (1 + 2 * r) % 2 ≡ 1 = omega arith in rw e refl
lowest false r = let e : (0 + 2 * r) % 2 ≡ 0 = omega arith in rw e refl

higher : (b : Truth) (r : ℕ) → (one_if b + 2 * r) / 2 ≡ r
higher true r = omega arith
higher false r = omega arith

-- the value of a name where an entry is put in front
pub front : (W : Valuation) (n x : Name) (v : Value) (b : Truth) → same_name x n ≡ b → value_of ((n, v) ∷ W) x ≡ (if b then v else value_of W x)
front W n x v true e = ap (λ t. unwrap_or (cond t (Some v) (lookup (same_name x) W)) (zero_of x.sort)) e
front W n x v false e = ap (λ t. unwrap_or (cond t (Some v) (lookup (same_name x) W)) (zero_of x.sort)) e

row_agrees : (V : Valuation) (ns : List Name) (x : Name) → has ns x ≡ true → truth (row ns (row_of V ns)) (Var x) ≡ truth V (Var x)
row_agrees V [] x h = cc
row_agrees V (n ∷ ns) x h =
    let r = one_if (truth V (Var n)) + 2 * row_of V ns in
    let W = row ns (r / 2) in
    let v = Bool (is_odd r) in
    elim (true_or_false (same_name x n)) [
      | inl e ↦ ap bool_of (front W n x v true e) ∙ lowest (truth V (Var n)) (row_of V ns) ∙ ap (λ (y : Name). truth V (Var y)) (sym (name_exact x n e))
      | inr e ↦ ap bool_of (front W n x v false e) ∙ ap (λ k. truth (row ns k) (Var x)) (higher (truth V (Var n)) (row_of V ns)) ∙ row_agrees V ns x (rest e h)
    ]
  where
    rest : same_name x n ≡ false → (same_name x n || has ns x) ≡ true → has ns x ≡ true
    rest e k = cc

-- ---- clauses are propositional
lit_propositional : (t : Tree) (l : Lit) → lit_of t ≡ Some l → is_propositional t ≡ true
lit_propositional (Var n) l e = by (is_int n.sort) e
  where
    by : (b : Truth) → (if b then None else Some record { name = n; positive = true }) ≡ Some l → not b ≡ true
    by true k = cc
    by false k = refl
lit_propositional (Not (Var n)) l e = by (is_int n.sort) e
  where
    by : (b : Truth) → (if b then None else Some record { name = n; positive = false }) ≡ Some l → not b ≡ true
    by true k = cc
    by false k = refl
lit_propositional (Not _) l e = cc
lit_propositional _ l e = cc

put_parts : (o : Option Lit) (ls : Option (List Lit)) → is_some (put_lit o ls) ≡ true → ((l : Lit) × (o ≡ Some l)) × (is_some ls ≡ true)
put_parts None ls h = cc
put_parts (Some l) None h = cc
put_parts (Some l) (Some ls) h = ((l, refl), refl)

lits_propositional : (ts : Trees) → is_some (lits_in ts) ≡ true → are_propositional ts ≡ true
lits_propositional none h = refl
lits_propositional (more t ts) h = let p = put_parts (lit_of t) (lits_in ts) h in both _ _ (lit_propositional t p.0.0 p.0.1) (lits_propositional ts p.1)

one_propositional : (t : Tree) → is_some (put_lit (lit_of t) (Some [])) ≡ true → is_propositional t ≡ true
one_propositional t h = let p = put_parts (lit_of t) (Some []) h in lit_propositional t p.0.0 p.0.1

pub clause_propositional : (t : Tree) → is_some (lits_of t) ≡ true → is_propositional t ≡ true
clause_propositional False h = refl
clause_propositional (Or ts) h = lits_propositional ts h
clause_propositional True h = one_propositional True h
clause_propositional (Var n) h = one_propositional (Var n) h
clause_propositional (Num z) h = one_propositional (Num z) h
clause_propositional (Sum ts) h = one_propositional (Sum ts) h
clause_propositional (Scale z t) h = one_propositional (Scale z t) h
clause_propositional (Le t u) h = one_propositional (Le t u) h
clause_propositional (Eq t u) h = one_propositional (Eq t u) h
clause_propositional (Iff t u) h = one_propositional (Iff t u) h
clause_propositional (Not t) h = one_propositional (Not t) h
clause_propositional (And ts) h = one_propositional (And ts) h
clause_propositional (Ite c t u) h = one_propositional (Ite c t u) h

-- ---- the law
pub follows_at : (n r : ℕ) (ns : List Name) (t u : Tree) → r < n → follows n ns t u ≡ true → truth (row ns r) t ≡ true → truth (row ns r) u ≡ true
follows_at zero r ns t u l h k = absurd (omega arith)
follows_at (suc n) r ns t u l h k = by (nat_eq r n) refl (λ less. follows_at n r ns t u less (and_left _ _ h) k)
  where
    here : (a b : Truth) → (not a || b) ≡ true → a ≡ true → b ≡ true
    here true b e f = e
    here false b e f = cc

    by : (b : Truth) → nat_eq r n ≡ b → (r < n → truth (row ns r) u ≡ true) → truth (row ns r) u ≡ true
    by true e before =
        let same : r ≡ n = grind (arith, nat_tests) in
        here (truth (row ns r) t) (truth (row ns r) u) (subst (λ m. (not (truth (row ns m) t) || truth (row ns m) u) ≡ true) (sym same) (and_right (follows n ns t u) _ h)) k
    by false e before =
        let less : r < n = grind (arith, nat_tests) in
        before less

pub follows_by_table : FollowsByTable
follows_by_table V t u h k =
    let ns = names_of t in
    let W = row ns (row_of V ns) in
    let rest = and_right (is_small t) _ h in
    let clause = and_left _ _ rest in
    let pt = and_left (is_propositional t) _ (and_left (is_small t) _ h) in
    let pu = clause_propositional u (and_left (is_some (lits_of u)) _ clause) in
    let et = (onto_each (has ns) [] t (has_itself ns)).1 in
    let eu = (onto_each (has ns) [] u (and_right (is_some (lits_of u)) _ clause)).1 in
    let same = row_agrees V ns in
    sym (truth_agrees ns V W same u pu eu) ∙ follows_at (2 ^ length ns) (row_of V ns) ns t u (row_within V ns) (and_right (is_some (lits_of u) && list_all (has ns) (names_of u)) _ rest) (truth_agrees ns V W same t pt et ∙ k)

table_cases : (items new : List Item) (i : ℕ) (c : Tree) (o : Option Tree) → Satisfiable items → formula_at items i ≡ o → table_of o c ≡ Some new → Satisfiable (items ++ new)
table_cases items new i c None s q e = cc
table_cases items new i c (Some t) s q e =
    let found = given (table_fits t c) (Formula c ∷ []) new e in
    (s.0, subst (λ y. AllHold s.0 (items ++ y)) found.1 (all_append s.0 items _ s.1 (follows_by_table s.0 t c found.0 (formula_true s.0 items i t s.1 q), tt)))

pub table_sound : (items new : List Item) (i : ℕ) (c : Tree) → Satisfiable items → table items i c ≡ Some new → Satisfiable (items ++ new)
table_sound items new i c s e = table_cases items new i c (formula_at items i) s refl e
