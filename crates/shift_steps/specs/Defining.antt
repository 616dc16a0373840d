-- Fresh names are defined, and a table has what each shifted name is replaced by.
use Rattle.std.specs.Prelude.{◌≡◌, ℕ, ◌+◌, neg_ℤ, List, [], ◌∷◌, ◌++◌, map, Contains, true, Option, Some, None, cond, nat_eq}
use Rattle.std.specs.Map.{lookup}
use Rattle.qterm.specs.declared.name.Name.{Name}
use Rattle.qterm.specs.Tree.{Tree, Var, Num, Sum, Eq, none, more}
use Rattle.qterm.specs.Store.{Shows, IsDistinct}
use Rattle.qeval.specs.Value.{same_name}
use Rattle.qlin.specs.Number.{in_range}
use Rattle.qsubst.specs.Names.{names_in}
use Rattle.qsubst.specs.Fresh.{is_taken, texts_of, AreFresh}
use Rattle.tac_cert.specs.declared.cert.Step.TheVariants as step
use Rattle.tac_cert.specs.Items.{Formula, item}
use Rattle.tac_cert.specs.Accepts.{as_items}
use Rattle.shift_lists.specs.declared.shifting.Shift.{Shift}
use Rattle.shift_lists.specs.Shifts.{old_names, new_names, shifted, images_of, AreInt}
use Rattle.shift_steps.specs.declared.trace.Trace.{Trace}
use Rattle.shift_steps.specs.declared.defining.Turn.{Turn}
use Rattle.shift_steps.specs.Items.{Holds}

-- ---- shifts
-- the term that a fresh name is defined as: the name less the number
abbrev pub taken_off : Shift → Tree
taken_off s = Sum (more (Var s.name) (more (Num (neg_ℤ s.by)) none))

-- the equation that defines it
abbrev pub defining : Shift → Tree
defining s = Eq (Var s.fresh) (taken_off s)

-- the numbers of shifts are in the range of canonical forms
abbrev pub AreNarrow : List Shift → Type 0
AreNarrow [] = Unit {0}
AreNarrow (s ∷ ss) = (in_range s.by ≡ true) × AreNarrow ss

-- the shifts can be made in formulas: texts are taken, among them those of the formulas' names and of the names that are replaced, and the fresh names differ from these
pub record CanShift (fs : List Tree) (ss : List Shift) : Type 0 where
  pub ints : AreInt ss
  pub narrow : AreNarrow ss
  pub taken : List (List ℕ)
  pub fresh : AreFresh taken (texts_of (old_names ss)) (texts_of (new_names ss))
  pub names : (n : Name) → Contains (names_in fs) n → is_taken taken n.text ≡ true
  pub olds : (s : Shift) → Contains ss s → is_taken taken s.name.text ≡ true

-- ---- the table
-- the formulas and the definitions of all fresh names
abbrev pub with_definitions : List Tree → List Shift → List Tree
with_definitions fs ss = fs ++ map defining ss

-- what the name of a number is replaced by, where the formulas gs are the items
pub record IsTurn (ts gs : List Tree) (ss : List Shift) (i : ℕ) (t : Turn) : Type 0 where
  pub shift : Shift
  pub among : Contains ss shift
  pub at : Shows ts i (Var shift.name)
  pub found : lookup (same_name shift.name) (images_of ss) ≡ Some (shifted shift)
  pub equation : item (as_items gs) t.equation ≡ Some (Formula (defining shift))
  pub term : Shows ts t.term (shifted shift)

-- the table has something for the name of a shift
pub record HasTurn (ts : List Tree) (table : ℕ → Option Turn) (s : Shift) : Type 0 where
  pub key : ℕ
  pub at : Shows ts key (Var s.name)
  pub turn : Turn
  pub has : table key ≡ Some turn

-- the table has what each shifted name is replaced by, and nothing else
pub record HasTurns (ts gs : List Tree) (ss : List Shift) (table : ℕ → Option Turn) : Type 0 where
  pub right : (i : ℕ) (t : Turn) → table i ≡ Some t → IsTurn ts gs ss i t
  pub all : (s : Shift) → Contains ss s → HasTurn ts table s

-- the first of two, where there is one
abbrev pub first_of : Option Turn → Option Turn → Option Turn
first_of None o = o
first_of (Some t) o = Some t

-- the fresh name of the shift is defined as the next item, and what its name is replaced by goes into the table
pub record Defines (ts : List Tree) (t u : Trace) (old new : ℕ → Option Turn) (s : Shift) : Type 0 where
  pub distinct : IsDistinct ts
  pub key : ℕ
  pub at : Shows ts key (Var s.name)
  pub term : ℕ
  pub shows : Shows ts term (taken_off s)
  pub steps : u.steps ≡ t.steps ++ step.Def s.fresh term ∷ []
  pub count : u.count ≡ t.count + 1
  pub turn : Turn
  pub equation : turn.equation ≡ t.count + 1
  pub puts : Shows ts turn.term (shifted s)
  pub table : (j : ℕ) → new j ≡ first_of (old j) (cond (nat_eq key j) (Some turn) None)

-- in whatever formulas the shifts can be made, the steps lead from them to them with all definitions, and the table has its turns
pub record AreDefined (ts fs : List Tree) (ss : List Shift) (u : Trace) (table : ℕ → Option Turn) : Type 0 where
  pub holds : Holds ts fs (with_definitions fs ss) u
  pub turns : HasTurns ts (with_definitions fs ss) ss table

abbrev pub AllDefined : List Tree → List Tree → Trace → Trace → (ℕ → Option Turn) → List Shift → Type 0
AllDefined ts us t u table ss = (fs : List Tree) → CanShift fs ss → Holds ts fs fs t → AreDefined us fs ss u table
