-- Clauses over the variables below a number, as a test tells them.
use Rattle.std.proofs.Common.{◌≡◌, ℕ, true, ◌&&◌, List, [], ◌∷◌, refl}
use Rattle.std.proofs.lemmas.Bool.{lt-ltb}
use Rattle.rup.specs.declared.literal.Lit.{Lit}
use Rattle.sat_core.specs.Clauses.{below, all_below}
use Rattle.sat_clauses.specs.Coding.{AreBelow, AllBelow}

clause_below : (v : ℕ) (c : List Lit) → AreBelow v c → below v c ≡ true
clause_below v [] h = refl
clause_below v (l ∷ c) h = λ i. lt-ltb l.var v h.0 i && clause_below v c h.1 i

pub clauses_below : (v : ℕ) (cs : List (List Lit)) → AllBelow v cs → all_below v cs ≡ true
clauses_below v [] h = refl
clauses_below v (c ∷ cs) h = λ i. clause_below v c h.0 i && clauses_below v cs h.1 i
