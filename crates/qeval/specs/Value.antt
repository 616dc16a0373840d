-- The values of terms, and valuations: what each name has as its value.
use Rattle.std.specs.Prelude.{◌≡◌, ℤ, pos, List, [], ◌∷◌, map, Bool as Truth, false, not, unwrap_or}
use Rattle.std.specs.Map.{lookup, remove_entry}
use Rattle.indexmap.specs.IndexMap.{insert_entry}
pub use Rattle.qterm.specs.Number.{fits}
use Rattle.qterm.specs.declared.name.Name.{Name}
use Rattle.qterm.specs.declared.name.Sort.{Sort}
use Rattle.qterm.specs.declared.name.Sort.TheVariants as sort
use Rattle.qterm.specs.contracts.name.NamePartialEq.TheImpl as name
use Rattle.qeval.specs.declared.model.Value.{Value}
use Rattle.qeval.specs.declared.model.Value.TheVariants.{Bool, Int}

-- a valuation: names with their values, in the order in which the names came
abbrev pub Valuation : Type 0
Valuation = List (Name × Value)

-- the value has the sort
abbrev pub HasSort : Sort → Value → Type 0
HasSort s (Bool b) = s ≡ sort.Bool
HasSort s (Int z) = s ≡ sort.Int

-- each name has a value of its sort
abbrev pub IsSorted : Valuation → Type 0
IsSorted [] = Unit {0}
IsSorted (e ∷ V) = HasSort e.0.sort e.1 × IsSorted V

-- whether two names are the same: text and sort
abbrev pub same_name : Name → Name → Truth
same_name = (name.eq-value).it

-- what a name has that no valuation speaks of: false, or 0
abbrev pub zero_of : Sort → Value
zero_of sort.Bool = Bool false
zero_of sort.Int = Int (pos 0)

-- the value of a name
abbrev pub value_of : Valuation → Name → Value
value_of V n = unwrap_or (lookup (same_name n) V) (zero_of n.sort)

-- the valuation with this value for the name, which keeps its place where it has one, and else goes last
abbrev pub with_value : Valuation → Name → Value → Valuation
with_value V n v = insert_entry same_name V n v

-- the valuation without the name
abbrev pub without : Valuation → Name → Valuation
without V n = remove_entry (same_name n) V

-- the names of a valuation, and their values
abbrev pub names : Valuation → List Name
names V = map (λ e. e.0) V

abbrev pub values : Valuation → List Value
values V = map (λ e. e.1) V

-- whether a value is a number outside 128 bits
abbrev pub is_wide : Value → Truth
is_wide (Bool b) = false
is_wide (Int z) = not (fits z)

-- a value read as a number: a truth value is 0
abbrev pub int_of : Value → ℤ
int_of (Bool b) = pos 0
int_of (Int z) = z

-- a value read as a truth value: a number is false
abbrev pub bool_of : Value → Truth
bool_of (Bool b) = b
bool_of (Int z) = false
