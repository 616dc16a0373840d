-- Lines over the variables below a number, and their terms, one by one.
use Rattle.std.proofs.Common.{◌≡◌, ℕ, zero, suc, ◌+◌, ◌<◌, true, ltb, List, [], ◌∷◌, ◌++◌, length, take, get_or, All, sym, ap, subst, ◌∙◌, arith}
use Rattle.std.specs.List.{list_all}
use Rattle.std.proofs.lemmas.Bool.{ltb-true}
use Rattle.std.proofs.lemmas.List.{map_more}
use Rattle.std.proofs.lemmas.List.Elements.{All-nil, All-cons, All-append}
use Rattle.qterm.specs.declared.name.Name.{Name}
use Rattle.qterm.specs.Tree.{Tree}
use Rattle.qterm.specs.Store.{trees_of, Has, Shows, Extends}
use Rattle.qterm.proofs.Alls.{All-weaker}
use Rattle.qterm.proofs.Fitting.{Has_extends}
use Rattle.qterm.proofs.Extending.{trees_of_extends}
use Rattle.qterm.proofs.KidsLaws.{trees_of-append}
use Rattle.rup.specs.declared.literal.Lit.{Lit}
use Rattle.sat_core.specs.declared.solver.RupLine.{RupLine}
use Rattle.rup.proofs.Bools.{and_left, and_right}
use Rattle.sat_core.specs.Clauses.{below}
use Rattle.sat_clauses.specs.Coding.{AreBelow}
use Rattle.sat_lines.specs.Terms.{clause_tree}
use Rattle.sat_lines.specs.Lines.{line_trees, LinesBelow}

-- ---- literals and lines below a number
below_of : (v : ℕ) (c : List Lit) → below v c ≡ true → AreBelow v c
below_of v [] h = tt
below_of v (l ∷ c) h = (ltb-true l.var v (and_left (ltb l.var v) (below v c) h), below_of v c (and_right (ltb l.var v) (below v c) h))

pub lines_of : (v : ℕ) (ls : List RupLine) → list_all (λ (line : RupLine). below v line.clause) ls ≡ true → LinesBelow v ls
lines_of v [] h = tt
lines_of v (line ∷ ls) h =
    let rest = list_all (λ (x : RupLine). below v x.clause) ls in
    (below_of v line.clause (and_left (below v line.clause) rest h), lines_of v ls (and_right (below v line.clause) rest h))

pub line_at : (v : ℕ) (ls : List RupLine) (i : ℕ) (d : RupLine) → i < length ls → LinesBelow v ls → AreBelow v (get_or ls i d).clause
line_at v [] i d l b = absurd (omega (arith, l))
line_at v (x ∷ ls) zero d l b = b.0
line_at v (x ∷ ls) (suc i) d l b = line_at v ls i d (omega (arith, l)) b.1

-- ---- their terms
pub has_more : (ts us : List Tree) (ids more : List ℕ) (id : ℕ) → Extends ts us → All (Has ts) ids → Has us id → more ≡ ids ++ id ∷ [] → All (Has us) more
has_more ts us ids more id e h s m = subst (All (Has us)) (sym m) (All-append (Has us) ids (id ∷ []) (All-weaker (Has ts) (Has us) ids (λ i. Has_extends ts us i e) h) (All-cons (Has us) id [] s (All-nil (Has us))))

pub terms_more : (f : ℕ → Name) (ts us : List Tree) (ids more : List ℕ) (id : ℕ) (ls : List RupLine) (i : ℕ) (d : RupLine) → Extends ts us → All (Has ts) ids → trees_of ts ids ≡ line_trees f (take i ls) → i < length ls → Shows us id (clause_tree f (get_or ls i d).clause) → more ≡ ids ++ id ∷ []
    → trees_of us more ≡ line_trees f (take (i + 1) ls)
terms_more f ts us ids more id ls i d e h so n shows m =
    ap (trees_of us) m ∙ trees_of-append us ids (id ∷ []) ∙ (λ k. (trees_of_extends ts us ids e h ∙ so) k ++ shows.is k ∷ []) ∙ sym (map_more (λ (line : RupLine). clause_tree f line.clause) ls i d n)
