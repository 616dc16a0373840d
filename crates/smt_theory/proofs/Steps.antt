-- One turn of the loops that make terms, over a store that grows from ts to us.
use Rattle.std.proofs.Common.{◌≡◌, ◌<◌, ◌≤◌, ◌+◌, ◌-◌, ℕ, List, [], ◌∷◌, ◌++◌, Option, None, Some, true, false, All, length, drop, get_or, refl, sym, ap, subst, ◌∙◌, arith, append_assoc, append-nil, length-drop}
use Rattle.qterm.specs.Tree.{Tree, Not, Iff}
use Rattle.qterm.specs.Store.{tree_at, trees_of, Has, Shows, Extends}
use Rattle.qterm.proofs.Extending.{Extends_refl, Extends_trans}
use Rattle.qterm.proofs.KidsLaws.{length-trees_of}
use Rattle.smt_theory.specs.declared.chain.Link.{Link}
use Rattle.smt_theory.specs.Plain.{either, implied_of, implies, negated, all_negated, in_front, behind, IsPlain, IsNegated, links, linked, apart_from, apart}
use Rattle.smt_theory.proofs.Shapes.{implied_of-more}
use Rattle.smt_theory.proofs.Growing.{trees_of-split, trees_of-pushed, trees_of-drop}

-- exclusive or with one formula more
pub either_step : (ts us : List Tree) (rest : List ℕ) (i other id new : ℕ) (all : Tree) → Extends ts us → All (Has ts) rest → i < length rest → other ≡ get_or rest i other
    → Shows us new (Not (Iff (tree_at ts id) (tree_at ts other))) → either (tree_at ts id) (trees_of ts (drop i rest)) ≡ all
    → either (tree_at us new) (trees_of us (drop (i + 1) rest)) ≡ all
unfolding either
either_step ts us rest i other id new all e h l is s told =
    ap (λ t. either t (trees_of us (drop (i + 1) rest))) s.is ∙ sym (ap (either (tree_at ts id)) (trees_of-split ts us rest i other e h l is)) ∙ told

-- one formula more implies what those behind it stand for; the numbers are of the store ss
pub implied_step : (ss ts us : List Tree) (args : List ℕ) (at a id new : ℕ) → Extends ss ts → All (Has ss) args → 1 ≤ at → at < length args → a ≡ get_or args (at - 1) a
    → tree_at ts id ≡ implied_of (trees_of ss (drop at args)) → Shows us new (implies (tree_at ts a) (tree_at ts id))
    → tree_at us new ≡ implied_of (trees_of ss (drop (at - 1) args))
implied_step ss ts us args at a id new e h low l is told s =
    let next : at - 1 + 1 ≡ at = omega (arith, low) in
    let there : at - 1 < length args = omega (arith, low, l) in
    let split : trees_of ss (drop (at - 1) args) ≡ tree_at ss a ∷ trees_of ss (drop at args) =
    trees_of-split ss ss args (at - 1) a (Extends_refl ss) h there is ∙ ap (λ n. tree_at ss a ∷ trees_of ss (drop n args)) next in
    let has : a < length ss = subst (Has ss) (sym is) (h (at - 1) a there) in
    let some : 1 ≤ length (trees_of ss (drop at args)) = rw (length-trees_of, length-drop) (omega (arith, l)) in
    s.is ∙ (λ x. implies (e.same a has x) (told x)) ∙ sym (implied_of-more (tree_at ss a) (trees_of ss (drop at args)) some) ∙ sym (ap implied_of split)

-- one term more with the other sign
negated_more : (front : List Tree) (us : List Tree) (n : Option Tree) (rest : Option (List Tree)) (id : ℕ) → IsPlain us n (Some id) → behind (front ++ tree_at us id ∷ []) rest ≡ behind front (in_front n rest)
negated_more front us None rest id p = absurd p
negated_more front us (Some t) None id p = refl
negated_more front us (Some t) (Some rest) id p = ap (λ ts. Some ts) (append_assoc front (tree_at us id ∷ []) rest ∙ ap (λ x. front ++ x ∷ rest) p.is)

pub negate_step : (ts us : List Tree) (parts args : List ℕ) (i arg id : ℕ) (all : Option (List Tree)) → Extends ts us → All (Has ts) parts → All (Has ts) args → i < length args → arg ≡ get_or args i arg
    → IsPlain us (negated (tree_at ts arg)) (Some id) → behind (trees_of ts parts) (all_negated (trees_of ts (drop i args))) ≡ all
    → behind (trees_of us (parts ++ id ∷ [])) (all_negated (trees_of us (drop (i + 1) args))) ≡ all
unfolding all_negated
negate_step ts us parts args i arg id all e h k l is p told =
    ap (λ ps. behind ps (all_negated (trees_of us (drop (i + 1) args)))) (trees_of-pushed ts us parts id e h)
    ∙ negated_more (trees_of ts parts) us (negated (tree_at ts arg)) (all_negated (trees_of us (drop (i + 1) args))) id p
    ∙ sym (ap (λ xs. behind (trees_of ts parts) (all_negated xs)) (trees_of-split ts us args i arg e k l is)) ∙ told

-- a term without one ends it
none_in_front : (us : List Tree) (front : List Tree) (n : Option Tree) (rest : Option (List Tree)) → IsPlain us n None → behind front (in_front n rest) ≡ None
none_in_front us front None rest p = refl
none_in_front us front (Some t) rest p = absurd p

pub negate_ends : (ts us : List Tree) (parts args : List ℕ) (i arg : ℕ) (all : Option (List Tree)) → Extends ts us → All (Has ts) args → i < length args → arg ≡ get_or args i arg
    → IsPlain us (negated (tree_at ts arg)) None → behind (trees_of ts parts) (all_negated (trees_of ts (drop i args))) ≡ all → IsNegated us parts false all
unfolding all_negated
negate_ends ts us parts args i arg all e k l is p told =
    let none : None ≡ all =
    sym (none_in_front us (trees_of ts parts) (negated (tree_at ts arg)) (all_negated (trees_of us (drop (i + 1) args))) p)
    ∙ sym (ap (λ xs. behind (trees_of ts parts) (all_negated xs)) (trees_of-split ts us args i arg e k l is)) ∙ told in
    subst (IsNegated us parts false) none tt

-- and they are all where none is left
pub negate_done : (ts : List Tree) (parts : List ℕ) (rest : List Tree) (all : Option (List Tree)) → rest ≡ [] → behind (trees_of ts parts) (all_negated rest) ≡ all → IsNegated ts parts true all
unfolding all_negated
negate_done ts parts rest all none told =
    let some : Some (trees_of ts parts) ≡ all = ap (λ xs. Some xs) (sym (append-nil (trees_of ts parts))) ∙ sym (ap (λ xs. behind (trees_of ts parts) (all_negated xs)) none) ∙ told in
    subst (IsNegated ts parts true) some refl

-- one link more
pub links_step : (l : Link) (ts us : List Tree) (out rest : List ℕ) (i left right id : ℕ) (all : List Tree) → Extends ts us → All (Has ts) out → All (Has ts) rest → i < length rest → right ≡ get_or rest i right
    → Shows us id (linked l (tree_at ts left) (tree_at ts right)) → trees_of ts out ++ links l (tree_at ts left) (trees_of ts (drop i rest)) ≡ all
    → trees_of us (out ++ id ∷ []) ++ links l (tree_at us right) (trees_of us (drop (i + 1) rest)) ≡ all
unfolding links
links_step l ts us out rest i left right id all e h k lt is s told =
    let has : right < length ts = subst (Has ts) (sym is) (k i right lt) in
    let behind = trees_of us (drop (i + 1) rest) in
    (λ x. trees_of-pushed ts us out id e h x ++ links l (e.same right has x) behind)
    ∙ append_assoc (trees_of ts out) (tree_at us id ∷ []) (links l (tree_at ts right) behind)
    ∙ ap (λ t. trees_of ts out ++ t ∷ links l (tree_at ts right) behind) s.is
    ∙ sym (ap (λ xs. trees_of ts out ++ links l (tree_at ts left) xs) (trees_of-split ts us rest i right e k lt is)) ∙ told

-- one term more that differs
pub apart_from_step : (l : Link) (ts us vs : List Tree) (out others : List ℕ) (i a b same id : ℕ) (all : List Tree) → Extends ts us → Extends us vs → Has ts a → All (Has ts) out → All (Has ts) others → i < length others → b ≡ get_or others i b
    → Shows us same (linked l (tree_at ts a) (tree_at ts b)) → Shows vs id (Not (tree_at us same)) → trees_of ts out ++ apart_from l (tree_at ts a) (trees_of ts (drop i others)) ≡ all
    → trees_of vs (out ++ id ∷ []) ++ apart_from l (tree_at vs a) (trees_of vs (drop (i + 1) others)) ≡ all
unfolding apart_from
apart_from_step l ts us vs out others i a b same id all e f has h k lt is s n told =
    let g = Extends_trans ts us vs e f in
    let behind = trees_of vs (drop (i + 1) others) in
    (λ x. trees_of-pushed ts vs out id g h x ++ apart_from l (g.same a has x) behind)
    ∙ append_assoc (trees_of ts out) (tree_at vs id ∷ []) (apart_from l (tree_at ts a) behind)
    ∙ ap (λ t. trees_of ts out ++ t ∷ apart_from l (tree_at ts a) behind) (n.is ∙ ap Not s.is)
    ∙ sym (ap (λ xs. trees_of ts out ++ apart_from l (tree_at ts a) xs) (trees_of-split ts vs others i b g k lt is)) ∙ told

-- one term more that differs from those behind it
pub apart_step : (l : Link) (ts us : List Tree) (out new args : List ℕ) (i a : ℕ) (all : List Tree) → Extends ts us → All (Has ts) args → i < length args → a ≡ get_or args i a
    → trees_of us new ≡ trees_of ts out ++ apart_from l (tree_at ts a) (trees_of ts (drop (i + 1) args)) → trees_of ts out ++ apart l (trees_of ts (drop i args)) ≡ all
    → trees_of us new ++ apart l (trees_of us (drop (i + 1) args)) ≡ all
unfolding apart
apart_step l ts us out new args i a all e k lt is made told =
    let behind = trees_of ts (drop (i + 1) args) in
    (λ x. made x ++ apart l (trees_of-drop ts us args (i + 1) e k x))
    ∙ append_assoc (trees_of ts out) (apart_from l (tree_at ts a) behind) (apart l behind)
    ∙ sym (ap (λ xs. trees_of ts out ++ apart l xs) (trees_of-split ts ts args i a (Extends_refl ts) k lt is)) ∙ told
