-- The operators of the theories Core and Ints of SMT-LIB 2.6, by their names, and how many arguments each takes.
use Rattle.std.specs.Prelude.{ℕ, Bool, true, false, if◌then◌else◌, ◌==◌, ◌||◌, nat_le, List, Option, None, Some, is_some, codes}
use Rattle.std.specs.Str.{bytes_eq}
use Rattle.smt_theory.specs.declared.operator.Operator.{Operator}
use Rattle.smt_theory.specs.declared.operator.Operator.TheVariants.{Not, Implies, And, Or, Xor, Equal, Distinct, If, Minus, Plus, Times, AtMost, Below, AtLeast, Above}

-- the operator of a name
unfoldable pub operator_named : List ℕ → Option Operator
operator_named text =
    if bytes_eq text (codes "not") then Some Not else
    if bytes_eq text (codes "=>") then Some Implies else
    if bytes_eq text (codes "and") then Some And else
    if bytes_eq text (codes "or") then Some Or else
    if bytes_eq text (codes "xor") then Some Xor else
    if bytes_eq text (codes "=") then Some Equal else
    if bytes_eq text (codes "distinct") then Some Distinct else
    if bytes_eq text (codes "ite") then Some If else
    if bytes_eq text (codes "-") then Some Minus else
    if bytes_eq text (codes "+") then Some Plus else
    if bytes_eq text (codes "*") then Some Times else
    if bytes_eq text (codes "<=") then Some AtMost else
    if bytes_eq text (codes "<") then Some Below else
    if bytes_eq text (codes ">=") then Some AtLeast else
    if bytes_eq text (codes ">") then Some Above else None

-- the operator takes so many arguments
abbrev pub takes : Operator → ℕ → Bool
takes Not n = n == 1
takes Implies n = nat_le 2 n
takes And n = nat_le 1 n
takes Or n = nat_le 1 n
takes Xor n = nat_le 2 n
takes Equal n = nat_le 2 n
takes Distinct n = nat_le 2 n
takes If n = n == 3
takes Minus n = nat_le 1 n
takes Plus n = nat_le 1 n
takes Times n = nat_le 1 n
takes AtMost n = nat_le 2 n
takes Below n = nat_le 2 n
takes AtLeast n = nat_le 2 n
takes Above n = nat_le 2 n

-- the names `true` and `false`
abbrev pub truth_named : List ℕ → Option Bool
truth_named text = if bytes_eq text (codes "true") then Some true else if bytes_eq text (codes "false") then Some false else None

-- the theories declare the name
abbrev pub is_theory_name : List ℕ → Bool
is_theory_name text = is_some (truth_named text) || is_some (operator_named text)
