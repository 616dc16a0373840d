-- A declared name as one more symbol.
use Rattle.std.proofs.Common.{◌≡◌, ℕ, List, [], ◌∷◌, ◌++◌, subst, sym}
use Rattle.qterm.specs.declared.name.Name.{Name}
use Rattle.qterm.specs.Tree.{Tree, Var}
use Rattle.qterm.specs.Store.{Shows, Extends}
use Rattle.qterm.proofs.Alls.{All-push}
use Rattle.smt_names.specs.declared.meaning.Meaning.TheVariants.{Declared}
use Rattle.smt_names.specs.Table.{Entry, AreThere, IsThere}
use Rattle.smt_names.proofs.Readings.{AreThere_extends}

-- all symbols are there, the new one among them
pub declared_there : (ts us : List Tree) (name : Name) (old new : List Entry) (id : ℕ) → Extends ts us → AreThere ts old → Shows us id (Var name) → new ≡ old ++ (name.text, Declared id name.sort) ∷ [] → AreThere us new
declared_there ts us name old new id e h s is =
    subst (AreThere us) (sym is) (All-push (λ (x : Entry). IsThere us x.1) old (name.text, Declared id name.sort) (AreThere_extends ts us old e h) s.has)
