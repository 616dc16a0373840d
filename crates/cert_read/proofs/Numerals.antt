-- Written numbers: a decimal is read as its number, and two numbers have two decimals.
use Rattle.std.proofs.Common.{◌≡◌, ℕ, zero, suc, ◌+◌, ◌%◌, ◌<◌, ◌≤◌, ◌^◌, List, [], ◌∷◌, ◌++◌, length, get_or, ℤ, pos, negsuc, drop, Option, None, Some, ap, sym, subst, ◌∙◌, arith}
use Rattle.std.proofs.lemmas.Fmt.{decimal_by_steps_wide}
use Rattle.std.specs.Fmt.{signed_decimal}
use Rattle.cert_read.specs.Numbers.{FitsWide}
use Rattle.cert_read.specs.Words.{IsWord, IsWithout, plain}
use Rattle.std.specs.Prelude.{decimal, IfNone}
use Rattle.strat_text.specs.Form.{value_from}
use Rattle.strat_text.specs.Given.{narrow}
use Rattle.strat_text.proofs.Numerals.{value-decimal}
use Rattle.strat_text.proofs.Values.{narrow-fits}

-- what a decimal is read as
pub reads_decimal : (word : List ℕ) (n : ℕ) → n < 2 ^ 128 → word ≡ decimal n → narrow (value_from 0 word) ≡ Some n
reads_decimal word n small e = ap (λ (bs : List ℕ). narrow (value_from 0 bs)) e ∙ ap narrow (value-decimal n (omega (arith, small))) ∙ narrow-fits n small

-- nothing is not something
pub none_some : {X : Type 0} (r : Option X) (x : X) → r ≡ None → r ≡ Some x → ⊥
none_some r x none some = let e : None ≡ Some x = sym none ∙ some in cc

pub some_same : (r : Option ℕ) (m n : ℕ) → r ≡ Some m → r ≡ Some n → m ≡ n
some_same r m n one other = let e : Some m ≡ Some n = sym one ∙ other in cc

-- one word is the decimal of one number
pub one_decimal : (word : List ℕ) (m n : ℕ) → m < 2 ^ 128 → n < 2 ^ 128 → word ≡ decimal m → word ≡ decimal n → m ≡ n
one_decimal word m n small_m small_n e f = some_same (narrow (value_from 0 word)) m n (reads_decimal word m small_m e) (reads_decimal word n small_n f)

-- ---- a decimal is a word
-- each byte is a digit
abbrev AreDigits : List ℕ → Type 0
AreDigits ds = (k : ℕ) → k < length ds → (48 ≤ get_or ds k 0) × (get_or ds k 0 < 58)

one_digit : (n : ℕ) → n < 10 → AreDigits ((48 + n) ∷ [])
one_digit n small k within = let first : k ≡ 0 = omega (arith, within) in subst (λ j. (48 ≤ get_or ((48 + n) ∷ []) j 0) × (get_or ((48 + n) ∷ []) j 0 < 58)) (sym first) (omega arith, omega (arith, small))

more_digits : (ds : List ℕ) (d : ℕ) → 48 ≤ d → d < 58 → AreDigits ds → AreDigits (ds ++ d ∷ [])
more_digits [] d low up digits k within = let first : k ≡ 0 = omega (arith, within) in subst (λ j. (48 ≤ get_or (d ∷ []) j 0) × (get_or (d ∷ []) j 0 < 58)) (sym first) (low, up)
more_digits (e ∷ ds) d low up digits zero within = digits 0 (omega arith)
more_digits (e ∷ ds) d low up digits (suc k) within = more_digits ds d low up (λ j inside. digits (suc j) (omega (arith, inside))) k (omega (arith, within))

decimal_digits : (n : ℕ) → n < 10 ^ 64 → AreDigits (decimal n)
decimal_digits = decimal_by_steps_wide (λ n ds. AreDigits ds) one_digit (λ n ds big digits. more_digits ds (48 + n % 10) (omega arith) (omega arith) digits)

digits_word : (ds : List ℕ) → AreDigits ds → IsWord ds
digits_word [] digits = plain (λ k within. absurd (omega (arith, within))) (λ e. absurd (omega (arith, e)))
digits_word (d ∷ ds) digits = plain (λ k within e. let digit = digits k within in omega (arith, digit.0, e)) (λ e. let digit = digits 0 (omega arith) in omega (arith, digit.1, e))

pub decimal_word : (n : ℕ) → n < 10 ^ 64 → IsWord (decimal n)
decimal_word n small = digits_word (decimal n) (decimal_digits n small)

-- ---- integers
not_minus : (ds : List ℕ) → AreDigits ds → get_or ds 0 0 ≡ 45 → ⊥
not_minus [] digits e = omega (arith, e)
not_minus (d ∷ ds) digits e = let digit = digits 0 (omega arith) in omega (arith, digit.0, e)

-- a word that begins with a minus is a negative integer's
pub behind_minus : (word : List ℕ) (z : ℤ) → FitsWide z → word ≡ signed_decimal z → get_or word 0 0 ≡ 45 → (n : ℕ) × (0 < n) × (n ≤ 2 ^ 127) × (drop 1 word ≡ decimal n)
behind_minus word (pos n) small e minus = absurd (not_minus (decimal n) (decimal_digits n (omega (arith, small))) (ap (λ (bs : List ℕ). get_or bs 0 0) (sym e) ∙ minus))
behind_minus word (negsuc n) small e minus = (suc n, omega arith, omega (arith, small), ap (drop 1) e)

-- a word that doesn't is another one's
pub without_minus : (word : List ℕ) (z : ℤ) → FitsWide z → word ≡ signed_decimal z → (get_or word 0 0 ≡ 45 → ⊥) → (n : ℕ) × (n < 2 ^ 127) × (word ≡ decimal n)
without_minus word (pos n) small e plus = (n, small, e)
without_minus word (negsuc n) small e plus = absurd (plus (ap (λ (bs : List ℕ). get_or bs 0 0) e))

-- what is said of nothing stays said where it is weakened
pub none_so : {X P Q : Type 0} (r : Option X) → IfNone r P → (P → Q) → IfNone r Q
none_so None p so = so p
none_so (Some x) p so = tt

-- a word that begins with a minus isn't empty
pub first_there : (word : List ℕ) → get_or word 0 0 ≡ 45 → 0 < length word
first_there [] e = absurd (omega (arith, e))
first_there (b ∷ bs) e = omega arith

-- ---- an integer's text is a word, of one integer
digits_behind : (b : ℕ) (ds : List ℕ) → (b ≡ 32 → ⊥) → (b ≡ 124 → ⊥) → AreDigits ds → IsWord (b ∷ ds)
digits_behind b ds no_space no_bar digits = plain within no_bar where
  within : IsWithout 32 (b ∷ ds)
  within zero inside e = no_space e
  within (suc k) inside e = let digit = digits k (omega (arith, inside)) in omega (arith, digit.0, e)

-- a reference by its number
pub number_word : (n : ℕ) → n < 10 ^ 64 → IsWord (35 ∷ decimal n)
number_word n small = digits_behind 35 (decimal n) (λ e. omega (arith, e)) (λ e. omega (arith, e)) (decimal_digits n small)

pub integer_word : (z : ℤ) → FitsWide z → IsWord (signed_decimal z)
integer_word (pos n) small = decimal_word n (omega (arith, small))
integer_word (negsuc n) small = digits_behind 45 (decimal (suc n)) (λ e. omega (arith, e)) (λ e. omega (arith, e)) (decimal_digits (suc n) (omega (arith, small)))

pub one_integer : (word : List ℕ) (y z : ℤ) → FitsWide y → FitsWide z → word ≡ signed_decimal y → word ≡ signed_decimal z → y ≡ z
one_integer word (pos m) (pos n) small_m small_n e f = ap pos (one_decimal word m n (omega (arith, small_m)) (omega (arith, small_n)) e f)
one_integer word (pos m) (negsuc n) small_m small_n e f = absurd (not_minus (decimal m) (decimal_digits m (omega (arith, small_m))) (ap (λ (bs : List ℕ). get_or bs 0 0) (sym e ∙ f)))
one_integer word (negsuc m) (pos n) small_m small_n e f = absurd (not_minus (decimal n) (decimal_digits n (omega (arith, small_n))) (ap (λ (bs : List ℕ). get_or bs 0 0) (sym f ∙ e)))
one_integer word (negsuc m) (negsuc n) small_m small_n e f =
    let same = one_decimal (drop 1 word) (suc m) (suc n) (omega (arith, small_m)) (omega (arith, small_n)) (ap (drop 1) e) (ap (drop 1) f) in
    ap negsuc (omega (arith, same))
