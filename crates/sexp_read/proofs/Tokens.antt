-- The tokens from a place on are the one that stands there and those behind it.
use Rattle.std.proofs.Common.{◌≡◌, ◌≢◌, ℕ, zero, suc, ◌+◌, ◌-◌, ◌<◌, true, false, List, [], ◌∷◌, length, take, drop, get_or, refl, ap, sym, ◌∙◌, arith, add-one}
use Rattle.std.proofs.Math.Seq.{drop-cons}
use Rattle.std.proofs.lemmas.List.{drop-drop}
use Rattle.sexp_read.specs.declared.token.Kind.{Kind}
use Rattle.std.proofs.lemmas.Bool.Decides.{nat_tests}
use Rattle.std.specs.List.{prefix_len}
use Rattle.sexp_read.specs.Lexical.{is_blank, is_word_byte}
use Rattle.sexp_read.specs.Token.{token, tokens, tokens_after, piece, word_kind}

-- what belongs to the token before is passed over
pub tokens_after-drop : (skip : ℕ) (bytes : List ℕ) (at : ℕ) → tokens_after skip bytes at ≡ tokens_after 0 (drop skip bytes) (at + skip)
unfolding tokens_after
tokens_after-drop zero bytes at = ap (tokens_after 0 bytes) (omega arith)
tokens_after-drop (suc skip) [] at = refl
tokens_after-drop (suc skip) (b ∷ bytes) at = tokens_after-drop skip bytes (at + 1) ∙ ap (tokens_after 0 (drop skip bytes)) (omega arith)

drop_at : (bytes : List ℕ) (at : ℕ) → at < length bytes → drop at bytes ≡ get_or bytes at 0 ∷ drop (at + 1) bytes
drop_at bytes at h = rw add-one (drop-cons bytes at 0 h)

pub tokens_at : (bytes : List ℕ) (at end : ℕ) → at < length bytes → end ≡ at + 1 + (token (get_or bytes at 0) (drop (at + 1) bytes)).1
    → tokens (drop at bytes) at ≡ piece at (token (get_or bytes at 0) (drop (at + 1) bytes)) ∷ tokens (drop end bytes) end
unfolding tokens_after
tokens_at bytes at end within e =
    let t = token (get_or bytes at 0) (drop (at + 1) bytes) in
    rw (e, drop_at bytes at within)
    (ap (λ r. piece at t ∷ r) (tokens_after-drop t.1 (drop (at + 1) bytes) (at + 1) ∙ ap (λ r. tokens_after 0 r (at + 1 + t.1)) (drop-drop t.1 (at + 1) bytes)))

pub tokens_none : (at : ℕ) → tokens [] at ≡ []
unfolding tokens_after
tokens_none at = refl

-- the same, as a call of the code gives the token
pub tokens_begin : (bytes : List ℕ) (at end : ℕ) (kind : Kind) → at < length bytes → kind ≡ (token (get_or bytes at 0) (drop (at + 1) bytes)).0
    → end ≡ at + 1 + (token (get_or bytes at 0) (drop (at + 1) bytes)).1 → tokens (drop at bytes) at ≡ (kind, at, end) ∷ tokens (drop end bytes) end
tokens_begin bytes at end kind within is ends =
    let t = token (get_or bytes at 0) (drop (at + 1) bytes) in
    let same : piece at t ≡ (kind, at, end) = rw (is, ends) refl in
    tokens_at bytes at end within ends ∙ ap (λ p. p ∷ tokens (drop end bytes) end) same

-- the kind of a token that is a word
token_word : (b : ℕ) (bytes : List ℕ) → is_blank b ≡ false → b ≢ 59 → b ≢ 40 → b ≢ 41 → b ≢ 34 → b ≢ 124 → is_word_byte b ≡ true → (token b bytes).0 ≡ word_kind (b ∷ take (prefix_len is_word_byte bytes) bytes)
unfolding token
token_word b bytes blank comment opening closing quote bar is = grind (arith, nat_tests)

-- the word that begins at a place
word_at : (bytes : List ℕ) (at end n : ℕ) → at < length bytes → end ≡ at + 1 + n → take (end - at) (drop at bytes) ≡ get_or bytes at 0 ∷ take n (drop (at + 1) bytes)
word_at bytes at end n h e = let len : end - at ≡ suc n = omega arith in rw (len, drop_at bytes at h) refl

pub token-word : (bytes : List ℕ) (at len : ℕ) → at < length bytes → is_blank (get_or bytes at 0) ≡ false → get_or bytes at 0 ≢ 59 → get_or bytes at 0 ≢ 40 → get_or bytes at 0 ≢ 41 → get_or bytes at 0 ≢ 34 → get_or bytes at 0 ≢ 124
    → is_word_byte (get_or bytes at 0) ≡ true → len ≡ prefix_len is_word_byte (drop (at + 1) bytes) → word_kind (take (at + 1 + len - at) (drop at bytes)) ≡ (token (get_or bytes at 0) (drop (at + 1) bytes)).0
token-word bytes at len h blank comment opening closing quote bar is long =
    ap word_kind (word_at bytes at (at + 1 + len) len h refl ∙ ap (λ n. get_or bytes at 0 ∷ take n (drop (at + 1) bytes)) long)
    ∙ sym (token_word _ (drop (at + 1) bytes) blank comment opening closing quote bar is)
