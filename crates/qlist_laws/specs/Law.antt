-- The laws of the canonical form and the canonical list that steps between goals rest on.
use Rattle.std.specs.Prelude.{◌≡◌, ◌↔◌, List, Contains, Ok}
use Rattle.qterm.specs.declared.name.Name.{Name}
use Rattle.qterm.specs.Tree.{Tree}
use Rattle.qeval.specs.Value.{Valuation}
use Rattle.qlin.specs.Canon.{canon}
use Rattle.qlin.specs.CanonList.{canon_list}
use Rattle.qgoal.specs.Meaning.{IsModel}
use Rattle.qsubst.specs.Names.{names, names_in}
use Rattle.qlist_laws.specs.Formulas.{AreFormulas}
use Rattle.qlist_laws.specs.Parts.{IsPart}

-- where it is defined, the canonical term has names of the term alone
abbrev pub KeepsNames : Type 0
KeepsNames = (t c : Tree) (n : Name) → canon t ≡ Ok c → Contains (names c) n → Contains (names t) n

-- where it is defined, the canonical list has names of the list alone
abbrev pub KeepsListNames : Type 0
KeepsListNames = (fs cs : List Tree) (n : Name) → canon_list fs ≡ Ok cs → Contains (names_in cs) n → Contains (names_in fs) n

-- where it is defined, the canonical list of formulas has formulas alone
abbrev pub KeepsListSorts : Type 0
KeepsListSorts = (fs cs : List Tree) → AreFormulas fs → canon_list fs ≡ Ok cs → AreFormulas cs

-- where it is defined, the canonical list of formulas has their models
abbrev pub KeepsModels : Type 0
KeepsModels = (V : Valuation) (fs cs : List Tree) → AreFormulas fs → canon_list fs ≡ Ok cs → IsModel V cs ↔ IsModel V fs

-- where it is defined, the canonical list of formulas has no And and no `true` among its members
abbrev pub HasPartsAlone : Type 0
HasPartsAlone = (fs cs : List Tree) (f : Tree) → AreFormulas fs → canon_list fs ≡ Ok cs → Contains cs f → IsPart f

-- where it is defined, the canonical list of formulas is its own canonical list
abbrev pub IsItsOwnList : Type 0
IsItsOwnList = (fs cs : List Tree) → AreFormulas fs → canon_list fs ≡ Ok cs → canon_list cs ≡ Ok cs
