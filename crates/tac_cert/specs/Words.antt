-- Bits and their clauses, and the rules that make words: `bits`, `bit` and `mul`. A bit is the tree of a literal or a constant.
use Rattle.std.specs.Prelude.{ℕ, zero, suc, ◌-◌, ◌*◌, ◌/◌, ◌%◌, ◌^◌, ℤ, pos, negsuc, ◌+ℤ◌, Bool as Truth, true, false, not, ◌&&◌, List, [], ◌∷◌, ◌++◌, length, map, Option, Some, None, nat_eq, nat_le, if◌then◌else◌}
use Rattle.std.specs.Ordering.{int_eq}
use Rattle.std.specs.List.{list_any}
use Rattle.qterm.specs.declared.name.Name.{Name}
use Rattle.qterm.specs.Tree.{Tree, True, False, Var, Num, Sum, Scale, Le, Eq, Not, Or}
use Rattle.qterm.specs.Kids.{row}
use Rattle.qlin.specs.Form.{Form, times}
use Rattle.qlin.specs.Lin.{form_fits}
use Rattle.tac_cert.specs.Names.{is_int, all_int}
use Rattle.tac_cert.specs.Items.{Item, Word, Formula, OfWord, fresh, gives_if, word_at}
use Rattle.tac_cert.specs.Bounds.{within}

-- ---- bits
-- the bit that is true exactly where this one is false
abbrev pub negate : Tree → Tree
negate True = False
negate False = True
negate (Not t) = t
negate t = Not t

-- a bit or its negation
abbrev pub signed : Truth → Tree → Tree
signed true b = b
signed false b = negate b

-- the constant true
abbrev pub is_true : Tree → Truth
is_true True = true
is_true _ = false

-- whether the lowest bit is set
abbrev pub is_odd : ℕ → Truth
is_odd n = nat_eq (n % 2) 1

-- the bits that names are
abbrev pub vars : List Name → List Tree
vars ns = map Var ns

-- ---- clauses: lists of bits, each with a sign, which is false where the bit is to be negated
-- the constant false
abbrev pub is_false : Tree → Truth
is_false False = true
is_false _ = false

-- a literal in front; the constant false is left out
abbrev pub literal : Tree → List Tree → List Tree
literal b bs = if is_false b then bs else (b ∷ bs)

-- the literals of a clause, in order
abbrev pub literals : List Tree → List Tree
literals [] = []
literals (b ∷ bs) = literal b (literals bs)

-- the clause of literals: a single one stands without `Or`
abbrev pub or_of : List Tree → Tree
or_of [] = False
or_of (b ∷ []) = b
or_of (b ∷ c ∷ bs) = Or (row (b ∷ c ∷ bs))

-- the bits of a clause
abbrev pub signed_all : List (Tree × Truth) → List Tree
signed_all [] = []
signed_all (l ∷ ls) = signed l.1 l.0 ∷ signed_all ls

-- the clause of bits, which isn't made where one of them is the constant true
abbrev pub clause_of : List Tree → List Item
clause_of bs = if list_any is_true bs then [] else Formula (or_of (literals bs)) ∷ []

-- the clauses, in order
abbrev pub clauses_of : List (List (Tree × Truth)) → List Item
clauses_of [] = []
clauses_of (c ∷ cs) = clause_of (signed_all c) ++ clauses_of cs

-- ---- bits
-- each bit is 0 or 1
abbrev pub bit_bounds : List Tree → List Item
bit_bounds [] = []
bit_bounds (b ∷ bs) = Formula (Le (Scale (negsuc 0) b) (Num (pos 0))) ∷ Formula (Le b (Num (pos 1))) ∷ bit_bounds bs

-- the bits times n, 2 n, 4 n and so on
abbrev pub weighted : ℕ → List Tree → List Tree
weighted n [] = []
weighted n (b ∷ bs) = Scale (pos n) b ∷ weighted (n * 2) bs

-- the names have the sort of integers, and there are at most 126
abbrev pub bits_shape : Name → List Name → Truth
bits_shape x bs = (is_int x.sort && all_int bs) && nat_le (length bs) 126

-- k fresh names, for a name whose bounds are within 0 and 2^k - 1
abbrev pub bits_fits : List Item → Name → List Name → Truth
bits_fits items x bs =
    bits_shape x bs && (within items x (pos 0) (pos (2 ^ length bs - 1)) && fresh bs items)

-- each name is 0 or 1, and x is the sum of the names times 1, 2, 4 and so on
abbrev pub bits_new : Tree → List Tree → List Item
bits_new x bs = bit_bounds bs ++ Formula (Eq x (Sum (row (weighted 1 bs)))) ∷ []

-- the new items of `bits`
abbrev pub bits : List Item → Name → List Name → Option (List Item)
bits items x bs = gives_if (bits_fits items x bs) (bits_new (Var x) (vars bs))

-- ---- bit
-- a fresh flag, for a name whose bounds are within 0 and 1
abbrev pub bit_fits : List Item → Name → Name → Truth
bit_fits items x p = (is_int x.sort && not (is_int p.sort)) && (within items x (pos 0) (pos 1) && fresh (p ∷ []) items)

-- the word x with the bit p
abbrev pub bit_new : Tree → Name → List Item
bit_new x p = OfWord (record { form = record { parts = (pos 1, x) ∷ []; constant = pos 0 }; bits = Var p ∷ [] }) ∷ []

-- the new item of `bit`
abbrev pub bit : List Item → Name → Name → Option (List Item)
bit items x p = gives_if (bit_fits items x p) (bit_new (Var x) p)

-- ---- mul
-- b at the bits that are set in n, up to the highest, and z at the others; k is at least n
abbrev pub times_bit : {X : Type 0} → ℕ → ℕ → X → X → List X
times_bit zero n b z = []
times_bit (suc k) zero b z = []
times_bit (suc k) (suc n) b z = (if is_odd (suc n) then b else z) ∷ times_bit k (suc n / 2) b z

-- the form times a, and for a negative a its absolute value added
abbrev pub mul_form : ℤ → Form → Form
mul_form (pos n) f = times (pos n) f
mul_form (negsuc n) f = record { parts = (times (negsuc n) f).parts; constant = (times (negsuc n) f).constant +ℤ pos (suc n) }

-- b at the bits that are set in a, and for a negative a its negation at those set in the absolute value
abbrev pub mul_bits : ℤ → Tree → List Tree
mul_bits (pos n) b = times_bit n n b False
mul_bits (negsuc n) b = times_bit (suc n) (suc n) (negate b) False

-- a isn't 0, and the numbers of the new form have 128 bits
abbrev pub mul_fits : ℤ → Form → Truth
mul_fits a f = not (int_eq a (pos 0)) && form_fits (mul_form a f)

abbrev pub mul_new : ℤ → Form → Tree → List Item
mul_new a f b = OfWord (record { form = mul_form a f; bits = mul_bits a b }) ∷ []

-- of a form with these bits: there has to be one
abbrev pub mul_bit : ℤ → Form → List Tree → Option (List Item)
mul_bit a f [] = None
mul_bit a f (b ∷ []) = gives_if (mul_fits a f) (mul_new a f b)
mul_bit a f (b ∷ c ∷ bs) = None

abbrev pub mul_word : Option Word → ℤ → Option (List Item)
mul_word None a = None
mul_word (Some w) a = mul_bit a w.form w.bits

-- the new item of `mul`
abbrev pub mul : List Item → ℕ → ℤ → Option (List Item)
mul items w a = mul_word (word_at items w) a
