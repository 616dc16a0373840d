-- The texts that names may have, as a test and as a fact.
use Rattle.std.proofs.Common.{◌≡◌, ℕ, Bool, true, false, List, refl, sym, arith}
use Rattle.std.specs.Bool.{Decides}
use Rattle.std.proofs.lemmas.Bool.Decides.{nat_tests, Decides-by_and}
use Rattle.qterm.specs.Name.{IsNameByte, IsNameText}
use Rattle.smt_names.specs.Text.{is_name_byte, is_name_text}

-- the test of a byte tells the fact
byte_decides : (byte : ℕ) → Decides (is_name_byte byte) (IsNameByte byte)
byte_decides byte = grind (arith, nat_tests)

-- the test of a text tells the fact
pub text_decides : (text : List ℕ) → Decides (is_name_text text) (IsNameText text)
unfolding is_name_text
text_decides text = Decides-by_and is_name_byte IsNameByte is_name_text byte_decides refl (λ _ _. refl) text

-- two tests of one fact answer alike
pub same_test : (x y : Bool) → (x ≡ true → y ≡ true) → (y ≡ true → x ≡ true) → x ≡ y
same_test true true f g = refl
same_test false false f g = refl
same_test true false f g = sym (f refl)
same_test false true f g = g refl
