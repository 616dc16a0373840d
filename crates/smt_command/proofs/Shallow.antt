-- The terms of a command over a store.
use Rattle.std.proofs.Common.{◌≡◌, List, [], ◌∷◌, map, All, refl, ap}
use Rattle.qterm.specs.Tree.{Tree}
use Rattle.qterm.specs.Store.{Has, tree_at, trees_of}
use Rattle.qterm.proofs.Alls.{All-head, All-tail, All-nil, All-cons}
use Rattle.smt_words.specs.declared.command.Asked.{Asked}
use Rattle.smt_words.specs.Command.{AskedTree, asked_tree}
use Rattle.smt_command.specs.Given.{AreAsked}

-- the trees of the asked terms
pub asked_terms : (ts : List Tree) (asked : List Asked) → trees_of ts (map (λ (a : Asked). a.term) asked) ≡ map (λ (a : AskedTree). a.term) (map (asked_tree ts) asked)
asked_terms ts [] = refl
asked_terms ts (a ∷ asked) = ap (λ l. tree_at ts a.term ∷ l) (asked_terms ts asked)

-- they are in the store
pub asked_has : (ts : List Tree) (asked : List Asked) → AreAsked ts asked → All (Has ts) (map (λ (a : Asked). a.term) asked)
asked_has ts [] h = All-nil (Has ts)
asked_has ts (a ∷ asked) h = All-cons (Has ts) a.term (map (λ (x : Asked). x.term) asked) (All-head (λ (x : Asked). Has ts x.term) a asked h) (asked_has ts asked (All-tail (λ (x : Asked). Has ts x.term) a asked h))
