-- The laws of the depth of canonical forms.
use Rattle.std.specs.Prelude.{◌≡◌, List, Ok, true}
use Rattle.qterm.specs.Tree.{Tree, IsLawful}
use Rattle.qlin.specs.Canon.{canon}
use Rattle.qlin.specs.CanonList.{canon_list}
use Rattle.tac_cert.specs.Depth.{is_shallow}
use Rattle.qlist_laws.specs.Formulas.{AreFormulas}
use Rattle.goal_depth.specs.Depths.{IsShallow, AreShallow}

-- where it is defined, the canonical form of a formula that is within the limits is within them
abbrev pub FormsAreShallow : Type 0
FormsAreShallow = (t c : Tree) → IsLawful t → IsShallow t → canon t ≡ Ok c → IsShallow c

-- where it is defined, so is the canonical list of such formulas
abbrev pub ListsAreShallow : Type 0
ListsAreShallow = (fs cs : List Tree) → AreFormulas fs → AreShallow fs → canon_list fs ≡ Ok cs → AreShallow cs

-- a formula within the limits is one that a line of a certificate may name
abbrev pub CanBeNamed : Type 0
CanBeNamed = (f : Tree) → IsShallow f → is_shallow f ≡ true
