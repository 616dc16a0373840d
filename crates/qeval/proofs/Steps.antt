-- One step of an evaluation: the value of a term from the values of its children, and the first subterm that passes.
use Rattle.std.proofs.Common.{◌≡◌, ℕ, List, [], ◌∷◌, map, true, false, Option, Some, None, refl, sym, ap, subst, ◌∙◌, if◌then◌else◌}
use Rattle.std.specs.List.{AllZip}
use Rattle.qterm.specs.Tree.{Tree, Trees, True, False, Var, Num, Sum, Scale, Le, Eq, Iff, Not, And, Or, Ite, none, more}
use Rattle.qterm.specs.Store.{tree_at, Has}
use Rattle.qterm.specs.Kids.{kids, listed}
use Rattle.qeval.specs.declared.model.Value.{Value}
use Rattle.qeval.specs.declared.compute.Outcome.{Outcome}
use Rattle.qeval.specs.declared.compute.Outcome.TheVariants.{Known, Past}
use Rattle.qeval.specs.Value.{Valuation}
use Rattle.qeval.specs.Eval.{val, vals, wide, wides, passes, if_passes, first_of}
use Rattle.qeval.specs.Node.{Answers, first_past, plain, apply, is_past}

-- ---- by the children of a term
-- the value of a term is its head's, over the values of its children
pub apply_vals : (V : Valuation) (t : Tree) → apply V t (vals V (kids t)) ≡ val V t
apply_vals V True = refl
apply_vals V False = refl
apply_vals V (Var n) = refl
apply_vals V (Num z) = refl
apply_vals V (Sum ts) = refl
apply_vals V (Scale z a) = refl
apply_vals V (Le a b) = refl
apply_vals V (Eq a b) = refl
apply_vals V (Iff a b) = refl
apply_vals V (Not a) = refl
apply_vals V (And ts) = refl
apply_vals V (Or ts) = refl
apply_vals V (Ite c a b) = refl

-- and so is whether it passes
pub is_past_vals : (V : Valuation) (t : Tree) → is_past V t (vals V (kids t)) ≡ passes V t
is_past_vals V True = refl
is_past_vals V False = refl
is_past_vals V (Var n) = refl
is_past_vals V (Num z) = refl
is_past_vals V (Sum ts) = refl
is_past_vals V (Scale z a) = refl
is_past_vals V (Le a b) = refl
is_past_vals V (Eq a b) = refl
is_past_vals V (Iff a b) = refl
is_past_vals V (Not a) = refl
is_past_vals V (And ts) = refl
is_past_vals V (Or ts) = refl
is_past_vals V (Ite c a b) = refl

one : (a p : Option Tree) → first_of a p ≡ first_of (first_of a None) p
one None p = refl
one (Some a) p = refl

two : (a b p : Option Tree) → first_of a (first_of b p) ≡ first_of (first_of a (first_of b None)) p
two None b p = one b p
two (Some a) b p = refl

three : (a b c p : Option Tree) → first_of a (first_of b (first_of c p)) ≡ first_of (first_of a (first_of b (first_of c None))) p
three None b c p = two b c p
three (Some a) b c p = refl

-- the first subterm that passes is the children's, and else the term itself
pub wide_kids : (V : Valuation) (t : Tree) → wide V t ≡ first_of (wides V (kids t)) (if_passes V t)
wide_kids V True = refl
wide_kids V False = refl
wide_kids V (Var n) = refl
wide_kids V (Num z) = refl
wide_kids V (Sum ts) = refl
wide_kids V (Scale z a) = one (wide V a) (if_passes V (Scale z a))
wide_kids V (Le a b) = two (wide V a) (wide V b) (if_passes V (Le a b))
wide_kids V (Eq a b) = two (wide V a) (wide V b) (if_passes V (Eq a b))
wide_kids V (Iff a b) = two (wide V a) (wide V b) (if_passes V (Iff a b))
wide_kids V (Not a) = one (wide V a) (if_passes V (Not a))
wide_kids V (And ts) = refl
wide_kids V (Or ts) = refl
wide_kids V (Ite c a b) = three (wide V c) (wide V a) (wide V b) (if_passes V (Ite c a b))

-- ---- what children answer
-- where one names a term, the first that does so names the first that passes
past_kids : (V : Valuation) (ts : List Tree) (us : Trees) (os : List Outcome) (i : ℕ) → AllZip (Answers V ts) (listed us) os → first_past os ≡ Some i → Has ts i × (wides V us ≡ Some (tree_at ts i))
past_kids V ts none [] i h f = cc
past_kids V ts none (o ∷ os) i h f = absurd h
past_kids V ts (more u us) [] i h f = absurd h
past_kids V ts (more u us) (Known v ∷ os) i h f =
    let r = past_kids V ts us os i h.1 f in
    (r.0, ap (λ o. first_of o (wides V us)) h.0.0 ∙ r.1)
past_kids V ts (more u us) (Past j ∷ os) i h f =
    let e : j ≡ i = cc in
    (subst (Has ts) e h.0.0, ap (λ o. first_of o (wides V us)) h.0.1 ∙ ap (λ k. Some (tree_at ts k)) e)

-- where none does, none passes, and they answer their values
known_kids : (V : Valuation) (ts : List Tree) (us : Trees) (os : List Outcome) → AllZip (Answers V ts) (listed us) os → first_past os ≡ None → (wides V us ≡ None) × (map plain os ≡ vals V us)
known_kids V ts none [] h f = (refl, refl)
known_kids V ts none (o ∷ os) h f = absurd h
known_kids V ts (more u us) [] h f = absurd h
known_kids V ts (more u us) (Known v ∷ os) h f =
    let r = known_kids V ts us os h.1 f in
    (ap (λ o. first_of o (wides V us)) h.0.0 ∙ r.0, λ x. h.0.1 x ∷ r.1 x)
known_kids V ts (more u us) (Past j ∷ os) h f = cc

-- ---- what a term answers
-- a child names a term
pub Answers-past_child : (V : Valuation) (ts : List Tree) (t : Tree) (os : List Outcome) (i : ℕ) → AllZip (Answers V ts) (listed (kids t)) os → first_past os ≡ Some i → Answers V ts t (Past i)
Answers-past_child V ts t os i h f =
    let r = past_kids V ts (kids t) os i h f in
    (r.0, wide_kids V t ∙ ap (λ o. first_of o (if_passes V t)) r.1)

-- the term has a value
pub Answers-known : (V : Valuation) (ts : List Tree) (t : Tree) (os : List Outcome) (v : Value) → AllZip (Answers V ts) (listed (kids t)) os → first_past os ≡ None
    → is_past V t (map plain os) ≡ false → v ≡ apply V t (map plain os) → Answers V ts t (Known v)
Answers-known V ts t os v h f p a =
    let r = known_kids V ts (kids t) os h f in
    let q : passes V t ≡ false = sym (is_past_vals V t) ∙ ap (is_past V t) (sym r.1) ∙ p in (
      wide_kids V t ∙ ap (λ o. first_of o (if_passes V t)) r.0 ∙ ap (λ b. if b then Some t else None) q,
      a ∙ ap (apply V t) r.1 ∙ apply_vals V t,
    )

-- the term passes
pub Answers-past : (V : Valuation) (ts : List Tree) (i : ℕ) (os : List Outcome) → Has ts i → AllZip (Answers V ts) (listed (kids (tree_at ts i))) os → first_past os ≡ None
    → is_past V (tree_at ts i) (map plain os) ≡ true → Answers V ts (tree_at ts i) (Past i)
Answers-past V ts i os has h f p =
    let t = tree_at ts i in
    let r = known_kids V ts (kids t) os h f in
    let q : passes V t ≡ true = sym (is_past_vals V t) ∙ ap (is_past V t) (sym r.1) ∙ p in
    (has, wide_kids V t ∙ ap (λ o. first_of o (if_passes V t)) r.0 ∙ ap (λ b. if b then Some t else None) q)
