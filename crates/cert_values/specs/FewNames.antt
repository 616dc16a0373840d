-- Up to five names as terms of a store, and the row of a truth table that a number of bits is.
use Rattle.std.specs.Prelude.{◌≡◌, ℕ, ◌/◌, ◌<◌, List, [], ◌∷◌, ◌++◌, length, Option, Some, None, is_some, Bool as Truth, true, false, ◌&&◌, nat_le, nat_eq, if◌then◌else◌}
use Rattle.std.specs.List.{list_any, list_all}
use Rattle.std.specs.Option.{option_map}
use Rattle.std.specs.Int.{bit_at}
use Rattle.std.specs.Int.Bits.{bit_and, bit_or}
use Rattle.qterm.specs.declared.name.Name.{Name}
use Rattle.qterm.specs.Tree.{Tree, Trees, Var}
use Rattle.qterm.specs.Store.{tree_at, Has}
use Rattle.qeval.specs.Eval.{truth}
use Rattle.tac_cert.specs.Clauses.{lit_of, lits_in, lits_of}
use Rattle.tac_cert.specs.Words.{is_odd}
use Rattle.tac_cert.specs.Tables.{is_propositional, has, names_of, all_names_onto, row, follows}
use Rattle.cert_values.specs.declared.few.Few.{Few}
use Rattle.cert_values.specs.declared.few.Few.TheVariants as few

-- the ids, in order
abbrev pub ids_of : Few → List ℕ
ids_of few.Zero = []
ids_of (few.One a) = a ∷ []
ids_of (few.Two a b) = a ∷ b ∷ []
ids_of (few.Three a b c) = a ∷ b ∷ c ∷ []
ids_of (few.Four a b c d) = a ∷ b ∷ c ∷ d ∷ []
ids_of (few.Five a b c d e) = a ∷ b ∷ c ∷ d ∷ e ∷ []

-- one of the ids
abbrev pub is_among : List ℕ → ℕ → Truth
is_among is i = list_any (nat_eq i) is

-- an id at the end, if it isn't there; nothing past five
abbrev pub put_id : List ℕ → ℕ → Option (List ℕ)
put_id is i = if is_among is i then Some is else (if nat_le (length is) 4 then Some (is ++ i ∷ []) else None)

abbrev pub then_put : Option (List ℕ) → ℕ → Option (List ℕ)
then_put None i = None
then_put (Some is) i = put_id is i

-- the same of several ids, from left to right
abbrev pub put_ids : Option (List ℕ) → List ℕ → Option (List ℕ)
put_ids o [] = o
put_ids o (j ∷ js) = put_ids (then_put o j) js

abbrev pub join : Option (List ℕ) → Option (List ℕ) → Option (List ℕ)
join o None = None
join o (Some js) = put_ids o js

abbrev pub join_all : Option (List ℕ) → List (Option Few) → Option (List ℕ)
join_all o [] = o
join_all o (p ∷ ps) = join_all (join o (option_map ids_of p)) ps

-- the ids are those of the names, in order
abbrev pub AreNames : List Tree → List ℕ → List Name → Type 0
AreNames ts [] [] = Unit {0}
AreNames ts [] (n ∷ ns) = ⊥
AreNames ts (i ∷ is) [] = ⊥
AreNames ts (i ∷ is) (n ∷ ns) = Has ts i × (tree_at ts i ≡ Var n) × AreNames ts is ns

-- the ids are those of the names, which are five at most and p holds; or there are none, and that isn't so
abbrev pub Collects : List Tree → Truth → List Name → Option (List ℕ) → Type 0
Collects ts p ns None = (p && nat_le (length ns) 5) ≡ false
Collects ts p ns (Some is) = ((p && nat_le (length ns) 5) ≡ true) × AreNames ts is ns

-- the ids are those of the names of a small tree
abbrev pub IsFew : List Tree → Tree → Option Few → Type 0
IsFew ts t o = Collects ts (is_propositional t) (names_of t) (option_map ids_of o)

-- the value of the name with the id i in the row r
abbrev pub bit_of : List ℕ → ℕ → ℕ → Truth
bit_of [] r i = false
bit_of (j ∷ is) r i = if nat_eq i j then is_odd r else bit_of is (r / 2) i

-- whether a formula is true in a row
unfoldable pub IsRowTruth : List Tree → List ℕ → ℕ → Tree → Truth → Type 0
IsRowTruth ts is r t b = (ns : List Name) → AreNames ts is ns → is_propositional t ≡ true → b ≡ truth (row ns r) t

-- whether bit r of a number is set
abbrev pub is_set : ℕ → ℕ → Truth
is_set m r = nat_eq (bit_at m r) 1

-- bit r of the number is the truth of a formula in row r, for each row of five names
unfoldable pub IsTable : List Tree → List ℕ → Tree → ℕ → Type 0
IsTable ts is t m = (r : ℕ) → r < 32 → IsRowTruth ts is r t (is_set m r)

-- the bits that are set in m and in each of the numbers
abbrev pub and_all : ℕ → List ℕ → ℕ
and_all m [] = m
and_all m (o ∷ os) = and_all (bit_and m o) os

-- the bits that are set in m or in one of the numbers
abbrev pub or_all : ℕ → List ℕ → ℕ
or_all m [] = m
or_all m (o ∷ os) = or_all (bit_or m o) os

-- the values of five names in the 32 rows
abbrev pub columns : List ℕ
columns = 0xaaaa_aaaa ∷ 0xcccc_cccc ∷ 0xf0f0_f0f0 ∷ 0xff00_ff00 ∷ 0xffff_0000 ∷ []

-- the values of the name with the id i in the rows, where the names have these columns
abbrev pub column_of : List ℕ → List ℕ → ℕ → ℕ
column_of [] cs i = 0
column_of (j ∷ is) [] i = 0
column_of (j ∷ is) (c ∷ cs) i = if nat_eq i j then c else column_of is cs i

-- whether u is true in each of the first n rows in which t is
unfoldable pub IsFollowing : List Tree → List ℕ → ℕ → Tree → Tree → Truth → Type 0
IsFollowing ts is n t u b = (ns : List Name) → AreNames ts is ns → is_propositional t ≡ true → is_propositional u ≡ true → b ≡ follows n ns t u

-- whether a tree is a literal of one of the names
unfoldable pub IsLitOver : List Tree → List ℕ → Tree → Truth → Type 0
IsLitOver ts is t b = (ns : List Name) → AreNames ts is ns → b ≡ (is_some (lit_of t) && list_all (has ns) (names_of t))

-- whether trees in a row are literals of the names
unfoldable pub AreLitsOver : List Tree → List ℕ → Trees → Truth → Type 0
AreLitsOver ts is us b = (ns : List Name) → AreNames ts is ns → b ≡ (is_some (lits_in us) && list_all (has ns) (all_names_onto [] us))

-- whether a tree is a clause over the names
unfoldable pub IsClauseOver : List Tree → List ℕ → Tree → Truth → Type 0
IsClauseOver ts is t b = (ns : List Name) → AreNames ts is ns → b ≡ (is_some (lits_of t) && list_all (has ns) (names_of t))
