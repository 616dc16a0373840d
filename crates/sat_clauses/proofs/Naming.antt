-- The names of formulas among the numbered ones.
use Rattle.std.proofs.Common.{◌≡◌, ℕ, zero, suc, ◌<◌, List, [], ◌∷◌, length, get_or, All, Contains, sym, subst, ◌∙◌, arith}
use Rattle.std.proofs.lemmas.List.Elements.{Contains-append_left, Contains-append_right, All-contains}
use Rattle.qterm.specs.declared.name.Name.{Name}
use Rattle.qterm.specs.Tree.{Tree, Var, Not, Or}
use Rattle.qterm.specs.Store.{tree_at, trees_at, trees_of, Has, IsDistinct}
use Rattle.qterm.proofs.Members.{Contains_first}
use Rattle.qwalk.proofs.Finding.{trees_of-Contains}
use Rattle.qsubst.specs.Names.{names, names_all}
use Rattle.sat_clauses.specs.Coding.{HasNamesOf}

pub not_names : (ts : List Tree) (vars : List ℕ) (a : Tree) → HasNamesOf ts vars (Not a) → HasNamesOf ts vars a
unfolding names
not_names ts vars a h n k = h n k

one_of : (ts : List Tree) (is : List ℕ) (k d : ℕ) (n : Name) → k < length is → Contains (names (tree_at ts (get_or is k d))) n → Contains (names_all (trees_at ts is)) n
unfolding names
one_of ts [] k d n l h = absurd (omega (arith, l))
one_of ts (i ∷ is) zero d n l h = Contains-append_left (names (tree_at ts i)) (names_all (trees_at ts is)) n h
one_of ts (i ∷ is) (suc k) d n l h = Contains-append_right (names (tree_at ts i)) (names_all (trees_at ts is)) n (one_of ts is k d n (omega (arith, l)) h)

pub or_names : (ts : List Tree) (vars is : List ℕ) → HasNamesOf ts vars (Or (trees_at ts is)) → All (λ id. HasNamesOf ts vars (tree_at ts id)) is
unfolding names
or_names ts vars is h k d l n c = h n (one_of ts is k d n l c)

-- a name is the term of one of the numbers
pub var_there : (ts : List Tree) (vars : List ℕ) (id : ℕ) (n : Name) → IsDistinct ts → All (Has ts) vars → Has ts id → tree_at ts id ≡ Var n → HasNamesOf ts vars (tree_at ts id) → Contains vars id
unfolding names
var_there ts vars id n d has here is h =
    let c : Contains (trees_of ts vars) (Var n) = subst (HasNamesOf ts vars) is h n (Contains_first n []) in
    let q = trees_of-Contains ts vars (Var n) c in
    subst (Contains vars) (d q.0 id (All-contains (Has ts) vars q.0 has q.1) here (q.2 ∙ sym is)) q.1
