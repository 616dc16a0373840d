-- A line more of a text.
use Rattle.std.proofs.Common.{◌≡◌, ℕ, zero, suc, ◌+◌, List, ◌∷◌, ◌++◌, min, refl, ap, sym, ◌∙◌, arith}
use Rattle.cert_read.specs.Lines.{IsOneLine, Leaves, last_number, IsBehind, HasLine}

leaves_more : (text rest line after : List ℕ) (n : ℕ) → Leaves text n rest → IsOneLine line → rest ≡ line ++ 10 ∷ after → Leaves text (suc n) after
leaves_more text rest line after zero leaves one cut = (line, after, one, leaves ∙ cut, refl)
leaves_more text rest line after (suc n) leaves one cut = (leaves.0, leaves.1, leaves.2, leaves.3, leaves_more leaves.1 rest line after n leaves.4 one cut)

counted_more : (n number next : ℕ) → number ≡ min n last_number → next ≡ min (number + 1) last_number → next ≡ min (n + 1) last_number
unfolding last_number
counted_more n number next counted more = grind arith

-- nothing is passed at first
pub none_passed : (text rest : List ℕ) (number : ℕ) → rest ≡ text → number ≡ 0 → IsBehind text rest number
unfolding last_number
none_passed text rest number all none = record { lines = 0; leaves = sym all; counted = none }

-- the line that is read has the next number
pub line_here : (text rest : List ℕ) (number next : ℕ) → IsBehind text rest number → next ≡ min (number + 1) last_number → HasLine text next
line_here text rest number next behind more = record { before = behind.lines; rest = rest; leaves = behind.leaves; counted = counted_more behind.lines number next behind.counted more }

-- a line is passed
pub line_passed : (text rest line after : List ℕ) (number next : ℕ) → IsBehind text rest number → IsOneLine line → rest ≡ line ++ 10 ∷ after → next ≡ min (number + 1) last_number → IsBehind text after next
line_passed text rest line after number next behind one cut more = record {
  lines = suc behind.lines;
  leaves = leaves_more text rest line after behind.lines behind.leaves one cut;
  counted = let one : behind.lines + 1 ≡ suc behind.lines = omega arith in counted_more behind.lines number next behind.counted more ∙ ap (λ n. min n last_number) one;
}
