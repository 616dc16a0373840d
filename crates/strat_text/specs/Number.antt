-- The numbers of strategies and their ranges.
use Rattle.std.specs.Prelude.{ℕ, ◌&&◌, Bool, ℤ, pos, negsuc, neg_ℤ, nat_abs, int_le, nat_lt, Option, None, Some}
use Rattle.strat_text.specs.declared.words.Operator.{Operator}
use Rattle.strat_text.specs.declared.words.Operator.TheVariants as operator
use Rattle.strat_text.specs.declared.strategy.ParamKey.{ParamKey}
use Rattle.strat_text.specs.declared.strategy.ParamKey.TheVariants as key
use Rattle.strat_text.specs.Form.{Form, atom, list, Forms, none, more, numeral_value, numeral_of}
use Rattle.strat_text.specs.Words.{operator_in}

-- the range of 128 bits
abbrev pub is_wide : ℤ → Bool
is_wide (pos n) = nat_lt 170141183460469231731687303715884105727 n
is_wide (negsuc n) = nat_lt 170141183460469231731687303715884105727 n

-- the range of a parameter
abbrev pub is_within : ParamKey → ℤ → Bool
is_within key.Lia2pbMaxBits z = int_le (pos 1) z && int_le z (pos 64)
is_within key.AddBoundLower z = nat_lt (nat_abs z) 170141183460469231731687303715884105728
is_within key.AddBoundUpper z = nat_lt (nat_abs z) 170141183460469231731687303715884105728
is_within key.DropWideMax z = int_le (pos 0) z && int_le z (pos 1048576)

-- a number, or the one below zero
abbrev pub positive : Option ℕ → Option ℤ
positive None = None
positive (Some n) = Some (pos n)

abbrev pub negative : Option ℕ → Option ℤ
negative None = None
negative (Some n) = Some (neg_ℤ (pos n))

-- the number that one numeral behind a minus stands for
abbrev pub minus_of : Forms → Option ℤ
minus_of none = None
minus_of (more form none) = negative (numeral_of form)
minus_of (more form (more next rest)) = None

-- the number of the arguments of a minus
abbrev pub signed : Option Operator → Forms → Option ℤ
signed None args = None
signed (Some operator.Minus) args = minus_of args
signed (Some operator.Lt) args = None
signed (Some operator.Le) args = None
signed (Some operator.Gt) args = None
signed (Some operator.Ge) args = None
signed (Some operator.Eq) args = None
signed (Some operator.And) args = None
signed (Some operator.Or) args = None
signed (Some operator.Not) args = None

-- the number that a numeral, or `(- numeral)`, stands for
abbrev pub number_of : Form → Option ℤ
number_of (atom is text place) = positive (numeral_value is text)
number_of (list none place) = None
number_of (list (more head args) place) = signed (operator_in head) args
