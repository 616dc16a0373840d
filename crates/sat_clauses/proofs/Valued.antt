-- The value of a formula that is a clause.
use Rattle.std.proofs.Common.{◌≡◌, ℕ, Bool as Truth, true, false, ◌&&◌, ◌||◌, not, List, [], ◌∷◌, refl, sym, ap, ◌∙◌, if◌then◌else◌, Option, Some, None}
use Rattle.std.specs.List.{list_any, list_all}
use Rattle.qterm.specs.declared.name.Name.{Name}
use Rattle.qterm.specs.Tree.{Tree, Trees, False, Var, Not, Or, none, more}
use Rattle.qeval.specs.Value.{Valuation, bool_of, value_of}
use Rattle.qeval.specs.Eval.{vals, any_of, truth}
use Rattle.rup.specs.declared.literal.Lit.{Lit as Numbered}
use Rattle.rup.specs.Literals as numbers
use Rattle.tac_cert.specs.Names.{is_int}
use Rattle.tac_cert.specs.Clauses.{Lit, negated_lit, lit_of, put_lit, lits_in, lits_of}
use Rattle.tac_cert.specs.Rup.{same_sign}
use Rattle.sat_clauses.specs.Coding.{clause_with, AreRead}
use Rattle.sat_clauses.specs.Models.{value_by}

abbrev truth_of : Valuation → Name → Truth
truth_of V n = bool_of (value_of V n)

abbrev lit_true : (Name → Truth) → Lit → Truth
lit_true v l = same_sign l.positive (v l.name)

abbrev clause_true : (Name → Truth) → List Lit → Truth
clause_true v c = list_any (lit_true v) c

some_same : {X : Type 0} (x y : X) → Some x ≡ Some y → x ≡ y
some_same x y e = cc

abbrev some_lit : Name → Truth → Option Lit
some_lit n p = Some record { name = n; positive = p }

named_val : (V : Valuation) (n : Name) (p b : Truth) (l : Lit) → (if b then None else some_lit n p) ≡ Some l → lit_true (truth_of V) l ≡ same_sign p (truth_of V n)
named_val V n p true l e = cc
named_val V n p false l e = ap (lit_true (truth_of V)) (sym (some_same record { name = n; positive = p } l e))

negated_val : (V : Valuation) (t : Tree) (l : Lit) → negated_lit t ≡ Some l → lit_true (truth_of V) l ≡ not (truth V t)
negated_val V (Var n) l e = named_val V n false (is_int n.sort) l e
negated_val V _ l e = cc

lit_val : (V : Valuation) (t : Tree) (l : Lit) → lit_of t ≡ Some l → lit_true (truth_of V) l ≡ truth V t
lit_val V (Var n) l e = named_val V n true (is_int n.sort) l e
lit_val V (Not t) l e = negated_val V t l e
lit_val V _ l e = cc

put_val : (V : Valuation) (o : Option Lit) (ls : Option (List Lit)) (c : List Lit) (a b : Truth) → ((l : Lit) → o ≡ Some l → lit_true (truth_of V) l ≡ a) → ((d : List Lit) → ls ≡ Some d → clause_true (truth_of V) d ≡ b) → put_lit o ls ≡ Some c
    → clause_true (truth_of V) c ≡ (a || b)
put_val V None ls c a b p q e = cc
put_val V (Some l) None c a b p q e = cc
put_val V (Some l) (Some d) c a b p q e = ap (clause_true (truth_of V)) (sym (some_same (l ∷ d) c e)) ∙ (λ i. p l refl i || q d refl i)

lits_in_val : (V : Valuation) (ts : Trees) (c : List Lit) → lits_in ts ≡ Some c → clause_true (truth_of V) c ≡ any_of (vals V ts)
lits_in_val V none c e = ap (clause_true (truth_of V)) (sym (some_same [] c e))
lits_in_val V (more t ts) c e = put_val V (lit_of t) (lits_in ts) c (truth V t) (any_of (vals V ts)) (λ l h. lit_val V t l h) (λ d h. lits_in_val V ts d h) e

or_none : (b : Truth) → (b || false) ≡ b
or_none true = refl
or_none false = refl

single : (V : Valuation) (t : Tree) (c : List Lit) → put_lit (lit_of t) (Some []) ≡ Some c → clause_true (truth_of V) c ≡ truth V t
single V t c e = put_val V (lit_of t) (Some []) c (truth V t) false (λ l h. lit_val V t l h) (λ d h. ap (clause_true (truth_of V)) (sym (some_same [] d h))) e ∙ or_none (truth V t)

lits_val : (V : Valuation) (t : Tree) (c : List Lit) → lits_of t ≡ Some c → clause_true (truth_of V) c ≡ truth V t
lits_val V False c e = ap (clause_true (truth_of V)) (sym (some_same [] c e))
lits_val V (Or ts) c e = lits_in_val V ts c e
lits_val V t c e = single V t c e

-- ---- the values of the numbers
sign_same : (p b : Truth) → same_sign p b ≡ numbers.same_sign p b
sign_same true b = refl
sign_same false b = refl

shown_val : (V : Valuation) (f : ℕ → Name) (c : List Numbered) → clause_true (truth_of V) (clause_with f c) ≡ numbers.clause_true (value_by V f) c
shown_val V f [] = refl
shown_val V f (l ∷ c) = λ i. sign_same l.positive (value_by V f l.var) i || shown_val V f c i

pub read_models : (V : Valuation) (f : ℕ → Name) (ts : List Tree) (known : List (List Numbered)) → AreRead f ts known → list_all (truth V) ts ≡ numbers.all_true (value_by V f) known
read_models V f [] [] r = refl
read_models V f (t ∷ ts) (c ∷ cs) r = λ i. (sym (lits_val V t (clause_with f c) r.0) ∙ shown_val V f c) i && read_models V f ts cs r.1 i
read_models V f [] (c ∷ cs) r = absurd r
read_models V f (t ∷ ts) [] r = absurd r
