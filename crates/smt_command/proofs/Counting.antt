-- How many levels a command opens or closes.
use Rattle.std.proofs.Common.{◌≡◌, ◌≤◌, ◌<◌, ◌+◌, ◌^◌, ℕ, Bool, true, false, None, Some, Ok, Err, refl, arith}
use Rattle.std.specs.Prelude.{nat_lt, nat_le}
use Rattle.std.proofs.lemmas.Bool.Decides.{nat_tests}
use Rattle.strat_text.specs.Given.{narrow}
use Rattle.smt_words.specs.declared.error.What.TheVariants.{PushTooMany, PopTooMany}
use Rattle.smt_names.specs.Reading.{refusal}
use Rattle.smt_words.specs.Command.{Push, Pop}
use Rattle.smt_command.specs.Reading.{pushed, popped}

-- a number below 2^128 is told
pub narrow_some : (n m : ℕ) → Some m ≡ narrow n → m ≡ n
narrow_some n m e = by (nat_lt n (2 ^ 128)) refl
  where
    by : (b : Bool) → nat_lt n (2 ^ 128) ≡ b → m ≡ n
    by true h = cc (rw h at e)
    by false h = cc (rw h at e)

-- another one is not
pub narrow_none : (n : ℕ) → None ≡ narrow n → 65536 < n
narrow_none n e = by (nat_lt n (2 ^ 128)) refl
  where
    large : nat_lt n (2 ^ 128) ≡ false → 65536 < n
    large h = grind (arith, nat_tests)

    by : (b : Bool) → nat_lt n (2 ^ 128) ≡ b → 65536 < n
    by true h = cc (rw h at e)
    by false h = large h

not_le : (a b : ℕ) → b < a → nat_le a b ≡ false
not_le a b h = grind (arith, nat_tests)

is_le : (a b : ℕ) → a ≤ b → nat_le a b ≡ true
is_le a b h = grind (arith, nat_tests)

pub pushed_many : (at levels n : ℕ) → 65536 < levels + n → pushed at levels n ≡ Err (refusal PushTooMany at)
pushed_many at levels n h = rw (not_le (levels + n) 65536 h) refl

pub pushed_few : (at levels n : ℕ) → levels + n ≤ 65536 → pushed at levels n ≡ Ok (Push n)
pushed_few at levels n h = rw (is_le (levels + n) 65536 h) refl

pub popped_many : (at levels n : ℕ) → levels < n → popped at levels n ≡ Err (refusal PopTooMany at)
popped_many at levels n h = rw (not_le n levels h) refl

pub popped_few : (at levels n : ℕ) → n ≤ levels → popped at levels n ≡ Ok (Pop n)
popped_few at levels n h = rw (is_le n levels h) refl
