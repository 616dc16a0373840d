-- The texts that names may have, as a test and as a fact.
use Rattle.std.proofs.Common.{ℕ, List, refl, arith}
use Rattle.std.specs.Bool.{Decides}
use Rattle.std.proofs.lemmas.Bool.Decides.{nat_tests, Decides-by_and}
use Rattle.qterm.specs.Name.{IsNameByte, IsNameText, is_name_byte, is_name_text}

-- the test of a byte tells the fact
pub byte_decides : (byte : ℕ) → Decides (is_name_byte byte) (IsNameByte byte)
byte_decides byte = grind (arith, nat_tests)

-- the test of a text tells the fact
pub text_decides : (text : List ℕ) → Decides (is_name_text text) (IsNameText text)
unfolding is_name_text
text_decides text = Decides-by_and is_name_byte IsNameByte is_name_text byte_decides refl (λ _ _. refl) text
