-- Where a string and a quoted symbol end, by the byte that stands at a place.
use Rattle.std.proofs.Common.{◌≡◌, ◌≢◌, ℕ, ◌+◌, ◌<◌, ◌≤◌, true, false, List, [], ◌∷◌, length, drop, get_or, Option, None, Some, refl, ap, arith, add-one}
use Rattle.std.proofs.Math.Seq.{drop-cons}
use Rattle.std.proofs.lemmas.List.{drop_all}
use Rattle.std.proofs.lemmas.Bool.Decides.{nat_tests}
use Rattle.sexp_read.specs.Lexical.{ahead, is_text_byte, is_quoted_byte, text_len, quoted_len}

drop_at : (bytes : List ℕ) (at : ℕ) → at < length bytes → drop at bytes ≡ get_or bytes at 0 ∷ drop (at + 1) bytes
drop_at bytes at h = rw add-one (drop-cons bytes at 0 h)

pub ahead-ahead : (m n : ℕ) (o : Option ℕ) → ahead m (ahead n o) ≡ ahead (m + n) o
ahead-ahead m n None = refl
ahead-ahead m n (Some len) = ap (λ k. Some k) (omega arith)

pub ahead-zero : (o : Option ℕ) → ahead 0 o ≡ o
ahead-zero None = refl
ahead-zero (Some len) = ap (λ k. Some k) (omega arith)

-- quoted symbols

quoted_bar : (b : ℕ) (bytes : List ℕ) → b ≡ 124 → quoted_len (b ∷ bytes) ≡ Some 1
unfolding quoted_len
quoted_bar b bytes h = rw h refl

quoted_more : (b : ℕ) (bytes : List ℕ) → b ≢ 124 → is_quoted_byte b ≡ true → quoted_len (b ∷ bytes) ≡ ahead 1 (quoted_len bytes)
unfolding quoted_len
quoted_more b bytes h is = grind (arith, nat_tests)

quoted_wrong : (b : ℕ) (bytes : List ℕ) → b ≢ 124 → is_quoted_byte b ≡ false → quoted_len (b ∷ bytes) ≡ None
unfolding quoted_len
quoted_wrong b bytes h is = grind (arith, nat_tests)

pub quoted_len-bar : (bytes : List ℕ) (at : ℕ) → at < length bytes → get_or bytes at 0 ≡ 124 → quoted_len (drop at bytes) ≡ Some 1
quoted_len-bar bytes at h is = rw (drop_at bytes at h) (quoted_bar _ _ is)

pub quoted_len-more : (bytes : List ℕ) (at : ℕ) → at < length bytes → get_or bytes at 0 ≢ 124 → is_quoted_byte (get_or bytes at 0) ≡ true → quoted_len (drop at bytes) ≡ ahead 1 (quoted_len (drop (at + 1) bytes))
quoted_len-more bytes at h is not = rw (drop_at bytes at h) (quoted_more _ _ is not)

pub quoted_len-wrong : (bytes : List ℕ) (at : ℕ) → at < length bytes → get_or bytes at 0 ≢ 124 → is_quoted_byte (get_or bytes at 0) ≡ false → quoted_len (drop at bytes) ≡ None
quoted_len-wrong bytes at h is not = rw (drop_at bytes at h) (quoted_wrong _ _ is not)

pub quoted_len-end : (bytes : List ℕ) (at : ℕ) → length bytes ≤ at → quoted_len (drop at bytes) ≡ None
unfolding quoted_len
quoted_len-end bytes at h = rw (drop_all at bytes h) refl

-- strings

text_end : (b : ℕ) (bytes : List ℕ) → b ≡ 34 → (0 < length bytes → get_or bytes 0 0 ≢ 34) → text_len (b ∷ bytes) ≡ Some 1
unfolding text_len
text_end b [] h alone = rw h refl
text_end b (c ∷ bytes) h alone = let lone : c ≢ 34 = alone (omega arith) in grind (arith, nat_tests)

text_pair : (b c : ℕ) (bytes : List ℕ) → b ≡ 34 → c ≡ 34 → text_len (b ∷ c ∷ bytes) ≡ ahead 2 (text_len bytes)
unfolding text_len
text_pair b c bytes h k = rw (h, k) refl

text_more : (b : ℕ) (bytes : List ℕ) → b ≢ 34 → is_text_byte b ≡ true → text_len (b ∷ bytes) ≡ ahead 1 (text_len bytes)
unfolding text_len
text_more b [] h is = grind (arith, nat_tests)
text_more b (c ∷ bytes) h is = grind (arith, nat_tests)

text_wrong : (b : ℕ) (bytes : List ℕ) → b ≢ 34 → is_text_byte b ≡ false → text_len (b ∷ bytes) ≡ None
unfolding text_len
text_wrong b [] h is = grind (arith, nat_tests)
text_wrong b (c ∷ bytes) h is = grind (arith, nat_tests)

pub text_len-last : (bytes : List ℕ) (at : ℕ) → at < length bytes → get_or bytes at 0 ≡ 34 → length bytes ≤ at + 1 → text_len (drop at bytes) ≡ Some 1
text_len-last bytes at h is last = rw (drop_at bytes at h, drop_all (at + 1) bytes last) (text_end _ [] is (λ k. absurd (omega arith)))

pub text_len-lone : (bytes : List ℕ) (at : ℕ) → at + 1 < length bytes → get_or bytes at 0 ≡ 34 → get_or bytes (at + 1) 0 ≢ 34 → text_len (drop at bytes) ≡ Some 1
text_len-lone bytes at h is lone =
    let inside : at < length bytes = omega arith in
    rw (drop_at bytes at inside, drop_at bytes (at + 1) h) (text_end _ _ is (λ k. lone))

pub text_len-pair : (bytes : List ℕ) (at : ℕ) → at + 1 < length bytes → get_or bytes at 0 ≡ 34 → get_or bytes (at + 1) 0 ≡ 34 → text_len (drop at bytes) ≡ ahead 2 (text_len (drop (at + 2) bytes))
text_len-pair bytes at h is next =
    let inside : at < length bytes = omega arith in
    let two : at + 1 + 1 ≡ at + 2 = omega arith in
    rw (drop_at bytes at inside, drop_at bytes (at + 1) h, two) (text_pair _ _ _ is next)

pub text_len-more : (bytes : List ℕ) (at : ℕ) → at < length bytes → get_or bytes at 0 ≢ 34 → is_text_byte (get_or bytes at 0) ≡ true → text_len (drop at bytes) ≡ ahead 1 (text_len (drop (at + 1) bytes))
text_len-more bytes at h is text = rw (drop_at bytes at h) (text_more _ _ is text)

pub text_len-wrong : (bytes : List ℕ) (at : ℕ) → at < length bytes → get_or bytes at 0 ≢ 34 → is_text_byte (get_or bytes at 0) ≡ false → text_len (drop at bytes) ≡ None
text_len-wrong bytes at h is text = rw (drop_at bytes at h) (text_wrong _ _ is text)

pub text_len-end : (bytes : List ℕ) (at : ℕ) → length bytes ≤ at → text_len (drop at bytes) ≡ None
unfolding text_len
text_len-end bytes at h = rw (drop_all at bytes h) refl
