-- Texts as trees of words: their tokens, the s-expression that these spell, and its form.
use Rattle.std.proofs.Common.{◌≡◌, ℕ, suc, ◌+◌, ◌-◌, ◌≤◌, max, true, nat_le, List, [], ◌∷◌, ◌++◌, length, take, drop, map, Some, refl, ap, sym, subst, ◌∙◌, arith, append_assoc, length-append}
use Rattle.std.specs.Prelude.{⊤}
use Rattle.std.proofs.Math.Seq.{take-append_seam, drop-append_seam}
use Rattle.std.proofs.lemmas.List.{drop-drop, length-drop}
use Rattle.std.proofs.lemmas.Bool.Decides.{nat_tests}
use Rattle.std.specs.List.{list_all, prefix_len}
use Rattle.sexp_read.specs.declared.sexp.AtomKind.{AtomKind}
use Rattle.sexp_read.specs.declared.sexp.AtomKind.TheVariants.{Symbol}
use Rattle.sexp_read.specs.declared.sexp.Sexp.{Sexp}
use Rattle.sexp_read.specs.declared.sexp.Sexp.TheVariants as sexp
use Rattle.sexp_read.specs.declared.sexp.Sexp.TheOpen.{Sexp-F}
use Rattle.sexp_read.specs.declared.sexp.Sexp.TheFolds.{fold-roll-Sexp}
use Rattle.sexp_read.specs.declared.token.Kind.TheVariants as kind
use Rattle.sexp_read.specs.Atoms.{end_of, text_at}
use Rattle.sexp_read.specs.Lexical.{is_word_byte}
use Rattle.sexp_read.specs.Spelling.{Mark, opens, closes, atom as mark, marks, concat, spelled, deepest, nesting_of, nesting_layer}
use Rattle.sexp_read.specs.Token.{Piece, tokens, word_kind}
use Rattle.sexp_read.proofs.Lexes.{tokens-blank, tokens-open, tokens-close, tokens-word}
use Rattle.sexp_read.proofs.Shown.{end_of-atom, end_of-list}
use Rattle.sexp_read.proofs.Spells.{spelled_atom, spelled_list}
use Rattle.sexp_read.proofs.AtomsThere.{marks-append}
use Rattle.strat_text.specs.Form.{Form, Forms, atom, list, none, more, row, some_text, form_layer, form_of}

mutual
  -- a word of a kind, or a list that begins with a symbol
  pub data Tree : Type 0 where
    leaf : AtomKind → List ℕ → Tree
    branch : List ℕ → Trees → Tree

  pub data Trees : Type 0 where
    nil : Trees
    cons : Tree → Trees → Trees

abbrev mutual
  -- its bytes
  pub print : Tree → List ℕ
  print (leaf is word) = word
  print (branch word ts) = 40 ∷ (word ++ (prints ts ++ 41 ∷ []))

  pub prints : Trees → List ℕ
  prints nil = []
  prints (cons t ts) = 32 ∷ (print t ++ prints ts)

-- the bytes are one token of this kind
pub record IsWord (is : AtomKind) (word : List ℕ) : Type 0 where
  pub first : ℕ
  pub rest : List ℕ
  pub whole : word ≡ first ∷ rest
  pub bytes : list_all is_word_byte word ≡ true
  pub kinds : word_kind word ≡ kind.Atom is

abbrev mutual
  -- each word is one token of its kind
  pub Good : Tree → Type 0
  Good (leaf is word) = IsWord is word
  Good (branch word ts) = IsWord Symbol word × AreGood ts

  pub AreGood : Trees → Type 0
  AreGood nil = ⊤
  AreGood (cons t ts) = Good t × AreGood ts

abbrev mutual
  -- how deep its lists stand in one another
  pub nests : Tree → ℕ
  nests (leaf is word) = 0
  nests (branch word ts) = 1 + most ts

  pub most : Trees → ℕ
  most nil = 0
  most (cons t ts) = max (nests t) (most ts)

abbrev mutual
  -- the s-expression at a place
  pub sexp_at : Tree → ℕ → Sexp
  sexp_at (leaf is word) at = sexp.Atom is at (at + length word)
  sexp_at (branch word ts) at = sexp.List (sexp.Atom Symbol (at + 1) (at + 1 + length word) ∷ sexps_at ts (at + 1 + length word)) at (at + 1 + length word + length (prints ts) + 1)

  pub sexps_at : Trees → ℕ → List Sexp
  sexps_at nil at = []
  sexps_at (cons t ts) at = sexp_at t (at + 1) ∷ sexps_at ts (at + 1 + length (print t))

abbrev mutual
  -- its form
  pub form_at : Tree → ℕ → Form
  form_at (leaf is word) at = atom is word at
  form_at (branch word ts) at = list (more (atom Symbol word (at + 1)) (forms_at ts (at + 1 + length word))) at

  pub forms_at : Trees → ℕ → Forms
  forms_at nil at = none
  forms_at (cons t ts) at = more (form_at t (at + 1)) (forms_at ts (at + 1 + length (print t)))

abbrev mutual
  -- its tokens
  pub pieces : Tree → ℕ → List Piece
  pieces (leaf is word) at = (kind.Atom is, at, at + length word) ∷ []
  pieces (branch word ts) at =
      let e = at + 1 + length word + length (prints ts) in
      (kind.Open, at, at + 1) ∷ (kind.Atom Symbol, at + 1, at + 1 + length word) ∷ (row_pieces ts (at + 1 + length word) ++ (kind.Close, e, e + 1) ∷ [])

  pub row_pieces : Trees → ℕ → List Piece
  row_pieces nil at = []
  row_pieces (cons t ts) at = (kind.Space, at, at + 1) ∷ (pieces t (at + 1) ++ row_pieces ts (at + 1 + length (print t)))

-- no byte of words stands first
abbrev Parts : List ℕ → Type 0
Parts bytes = prefix_len is_word_byte bytes ≡ 0

word_tokens : (is : AtomKind) (word rest : List ℕ) (at : ℕ) → IsWord is word → Parts rest → tokens (word ++ rest) at ≡ (kind.Atom is, at, at + length word) ∷ tokens rest (at + length word)
word_tokens is word rest at w apart =
    subst (λ (bs : List ℕ). tokens (bs ++ rest) at ≡ (kind.Atom is, at, at + length bs) ∷ tokens rest (at + length bs)) (sym w.whole)
    (tokens-word w.first w.rest rest at is (ap (list_all is_word_byte) (sym w.whole) ∙ w.bytes) apart (ap word_kind (sym w.whole) ∙ w.kinds))

parts_row : (ts : Trees) (rest : List ℕ) → Parts (prints ts ++ 41 ∷ rest)
parts_row nil rest = refl
parts_row (cons t ts) rest = refl

parts_next : (ts : Trees) (rest : List ℕ) → Parts rest → Parts (prints ts ++ rest)
parts_next nil rest h = h
parts_next (cons t ts) rest h = refl

mutual
  -- the tokens of its bytes
  pub tree_tokens : (t : Tree) (rest : List ℕ) (at : ℕ) → Good t → Parts rest → tokens (print t ++ rest) at ≡ pieces t at ++ tokens rest (at + length (print t))
  tree_tokens (leaf is word) rest at good apart = word_tokens is word rest at good apart
  tree_tokens (branch word ts) rest at good apart =
      let inner = at + 1 + length word in
      let e = inner + length (prints ts) in
      let whole : (word ++ (prints ts ++ 41 ∷ [])) ++ rest ≡ word ++ (prints ts ++ 41 ∷ rest) = simp append_assoc in
      let end : e + 1 ≡ at + length (print (branch word ts)) = omega (arith, length-append word (prints ts ++ 41 ∷ []), length-append (prints ts) (41 ∷ [])) in
      tokens-open ((word ++ (prints ts ++ 41 ∷ [])) ++ rest) at
      ∙ ap (λ (bs : List ℕ). (kind.Open, at, at + 1) ∷ tokens bs (at + 1)) whole
      ∙ ap (λ (ps : List Piece). (kind.Open, at, at + 1) ∷ ps) (word_tokens Symbol word (prints ts ++ 41 ∷ rest) (at + 1) good.0 (parts_row ts rest))
      ∙ ap (λ (ps : List Piece). (kind.Open, at, at + 1) ∷ (kind.Atom Symbol, at + 1, inner) ∷ ps) (row_tokens ts (41 ∷ rest) inner good.1 refl)
      ∙ ap (λ (ps : List Piece). (kind.Open, at, at + 1) ∷ (kind.Atom Symbol, at + 1, inner) ∷ (row_pieces ts inner ++ ps)) (tokens-close rest e ∙ ap (λ n. (kind.Close, e, e + 1) ∷ tokens rest n) end)
      ∙ ap (λ (ps : List Piece). (kind.Open, at, at + 1) ∷ (kind.Atom Symbol, at + 1, inner) ∷ ps) (sym (append_assoc (row_pieces ts inner) ((kind.Close, e, e + 1) ∷ []) (tokens rest (at + length (print (branch word ts))))))

  pub row_tokens : (ts : Trees) (rest : List ℕ) (at : ℕ) → AreGood ts → Parts rest → tokens (prints ts ++ rest) at ≡ row_pieces ts at ++ tokens rest (at + length (prints ts))
  row_tokens nil rest at good apart = let same : at + 0 ≡ at = omega arith in rw same refl
  row_tokens (cons t ts) rest at good apart =
      let next = at + 1 + length (print t) in
      let end : next + length (prints ts) ≡ at + length (prints (cons t ts)) = omega (arith, length-append (print t) (prints ts)) in
      tokens-blank ((print t ++ prints ts) ++ rest) at
      ∙ ap (λ (bs : List ℕ). (kind.Space, at, at + 1) ∷ tokens bs (at + 1)) (append_assoc (print t) (prints ts) rest)
      ∙ ap (λ (ps : List Piece). (kind.Space, at, at + 1) ∷ ps) (tree_tokens t (prints ts ++ rest) (at + 1) good.0 (parts_next ts rest apart))
      ∙ ap (λ (ps : List Piece). (kind.Space, at, at + 1) ∷ (pieces t (at + 1) ++ ps)) (row_tokens ts rest next good.1 apart ∙ ap (λ n. row_pieces ts next ++ tokens rest n) end)
      ∙ ap (λ (ps : List Piece). (kind.Space, at, at + 1) ∷ ps) (sym (append_assoc (pieces t (at + 1)) (row_pieces ts next) (tokens rest (at + length (prints (cons t ts))))))

mutual
  -- the marks of its tokens are those of its s-expression
  pub tree_marks : (t : Tree) (at : ℕ) → marks (pieces t at) ≡ spelled (sexp_at t at)
  tree_marks (leaf is word) at = sym (spelled_atom is at (at + length word))
  tree_marks (branch word ts) at =
      let inner = at + 1 + length word in
      let e = inner + length (prints ts) in
      let first = sexp.Atom Symbol (at + 1) inner in
      ap (λ (ms : List Mark). opens at ∷ mark Symbol (at + 1) inner ∷ ms) (marks-append (row_pieces ts inner) ((kind.Close, e, e + 1) ∷ []) ∙ ap (λ (ms : List Mark). ms ++ closes (e + 1) ∷ []) (row_marks ts inner))
      ∙ ap (λ (ms : List Mark). opens at ∷ (ms ++ (concat (map spelled (sexps_at ts inner)) ++ closes (e + 1) ∷ []))) (sym (spelled_atom Symbol (at + 1) inner))
      ∙ ap (λ (ms : List Mark). opens at ∷ ms) (sym (append_assoc (spelled first) (concat (map spelled (sexps_at ts inner))) (closes (e + 1) ∷ [])))
      ∙ sym (spelled_list (first ∷ sexps_at ts inner) at (e + 1))

  row_marks : (ts : Trees) (at : ℕ) → marks (row_pieces ts at) ≡ concat (map spelled (sexps_at ts at))
  row_marks nil at = refl
  row_marks (cons t ts) at =
      let next = at + 1 + length (print t) in
      marks-append (pieces t (at + 1)) (row_pieces ts next)
      ∙ ap (λ (ms : List Mark). ms ++ marks (row_pieces ts next)) (tree_marks t (at + 1))
      ∙ ap (λ (ms : List Mark). spelled (sexp_at t (at + 1)) ++ ms) (row_marks ts next)

nesting-atom : (is : AtomKind) (start end : ℕ) → nesting_of (sexp.Atom is start end) ≡ 0
unfolding nesting_of
nesting-atom is start end = ap nesting_of (sym (sexp.rolls-Atom is start end)) ∙ fold-roll-Sexp ℕ nesting_layer (Sexp-F.Atom is start end)

nesting-list : (items : List Sexp) (start end : ℕ) → nesting_of (sexp.List items start end) ≡ 1 + deepest (map nesting_of items)
unfolding nesting_of
nesting-list items start end = ap nesting_of (sym (sexp.rolls-List items start end)) ∙ fold-roll-Sexp ℕ nesting_layer (Sexp-F.List items start end)

max-zero : (n : ℕ) → max 0 n ≡ n
max-zero n = omega arith

mutual
  -- it nests as deep as its s-expression
  pub tree_nests : (t : Tree) (at : ℕ) → nesting_of (sexp_at t at) ≡ nests t
  tree_nests (leaf is word) at = nesting-atom is at (at + length word)
  tree_nests (branch word ts) at =
      let inner = at + 1 + length word in
      nesting-list (sexp.Atom Symbol (at + 1) inner ∷ sexps_at ts inner) at (inner + length (prints ts) + 1)
      ∙ ap (λ n. 1 + max n (deepest (map nesting_of (sexps_at ts inner)))) (nesting-atom Symbol (at + 1) inner)
      ∙ ap (λ n. 1 + n) (max-zero (deepest (map nesting_of (sexps_at ts inner))) ∙ row_nests ts inner)

  row_nests : (ts : Trees) (at : ℕ) → deepest (map nesting_of (sexps_at ts at)) ≡ most ts
  row_nests nil at = refl
  row_nests (cons t ts) at = rw (tree_nests t (at + 1), row_nests ts (at + 1 + length (print t))) refl

pub tree_ends : (t : Tree) (at : ℕ) → end_of (sexp_at t at) ≡ at + length (print t)
tree_ends (leaf is word) at = end_of-atom is at (at + length word)
tree_ends (branch word ts) at =
    end_of-list (sexp.Atom Symbol (at + 1) (at + 1 + length word) ∷ sexps_at ts (at + 1 + length word)) at (at + 1 + length word + length (prints ts) + 1)
    ∙ omega (arith, length-append word (prints ts ++ 41 ∷ []), length-append (prints ts) (41 ∷ []))

-- the word that stands at a place
text_there : (bytes word rest : List ℕ) (at : ℕ) (is : AtomKind) → IsWord is word → drop at bytes ≡ word ++ rest → text_at bytes at (at + length word) ≡ Some word
text_there bytes word rest at is w there =
    let some : length word ≡ suc (length w.rest) = ap length w.whole in
    let long : length bytes - at ≡ length word + length rest = sym (length-drop at bytes) ∙ ap length there ∙ length-append word rest in
    let low : nat_le at (at + length word) ≡ true = grind (arith, nat_tests) in
    let within : at + length word ≤ length bytes = omega arith in
    let high : nat_le (at + length word) (length bytes) ≡ true = grind (arith, nat_tests) in
    let span : at + length word - at ≡ length word = omega arith in
    let taken : take (length word) (drop at bytes) ≡ word = ap (take (length word)) there ∙ take-append_seam word rest in
    rw (low, high, span, taken) refl

form-atom : (bytes : List ℕ) (is : AtomKind) (start end : ℕ) → form_of bytes (sexp.Atom is start end) ≡ atom is (some_text (text_at bytes start end)) start
unfolding form_of
form-atom bytes is start end = ap (form_of bytes) (sym (sexp.rolls-Atom is start end)) ∙ fold-roll-Sexp Form (form_layer bytes) (Sexp-F.Atom is start end)

form-list : (bytes : List ℕ) (items : List Sexp) (start end : ℕ) → form_of bytes (sexp.List items start end) ≡ list (row (map (form_of bytes) items)) start
unfolding form_of
form-list bytes items start end = ap (form_of bytes) (sym (sexp.rolls-List items start end)) ∙ fold-roll-Sexp Form (form_layer bytes) (Sexp-F.List items start end)

word_form : (bytes word rest : List ℕ) (at : ℕ) (is : AtomKind) → IsWord is word → drop at bytes ≡ word ++ rest → form_of bytes (sexp.Atom is at (at + length word)) ≡ atom is word at
word_form bytes word rest at is w there = form-atom bytes is at (at + length word) ∙ ap (λ o. atom is (some_text o) at) (text_there bytes word rest at is w there)

-- what stands behind a front of what stands at a place
behind : (bytes front rest : List ℕ) (at : ℕ) → drop at bytes ≡ front ++ rest → drop (at + length front) bytes ≡ rest
behind bytes front rest at there = sym (drop-drop (length front) at bytes) ∙ ap (drop (length front)) there ∙ drop-append_seam front rest

mutual
  -- its form, where its bytes stand at a place
  pub tree_form : (t : Tree) (bytes rest : List ℕ) (at : ℕ) → Good t → drop at bytes ≡ print t ++ rest → form_of bytes (sexp_at t at) ≡ form_at t at
  tree_form (leaf is word) bytes rest at good there = word_form bytes word rest at is good there
  tree_form (branch word ts) bytes rest at good there =
      let inner = at + 1 + length word in
      let whole : (word ++ (prints ts ++ 41 ∷ [])) ++ rest ≡ word ++ (prints ts ++ 41 ∷ rest) = simp append_assoc in
      let first : drop (at + 1) bytes ≡ word ++ (prints ts ++ 41 ∷ rest) = behind bytes (40 ∷ []) ((word ++ (prints ts ++ 41 ∷ [])) ++ rest) at there ∙ whole in
      let next : drop inner bytes ≡ prints ts ++ 41 ∷ rest = behind bytes word (prints ts ++ 41 ∷ rest) (at + 1) first in
      form-list bytes (sexp.Atom Symbol (at + 1) inner ∷ sexps_at ts inner) at (inner + length (prints ts) + 1)
      ∙ ap (λ f. list (more f (row (map (form_of bytes) (sexps_at ts inner)))) at) (word_form bytes word (prints ts ++ 41 ∷ rest) (at + 1) Symbol good.0 first)
      ∙ ap (λ fs. list (more (atom Symbol word (at + 1)) fs) at) (row_form ts bytes (41 ∷ rest) inner good.1 next)

  row_form : (ts : Trees) (bytes rest : List ℕ) (at : ℕ) → AreGood ts → drop at bytes ≡ prints ts ++ rest → row (map (form_of bytes) (sexps_at ts at)) ≡ forms_at ts at
  row_form nil bytes rest at good there = refl
  row_form (cons t ts) bytes rest at good there =
      let next = at + 1 + length (print t) in
      let here : drop (at + 1) bytes ≡ print t ++ (prints ts ++ rest) = behind bytes (32 ∷ []) ((print t ++ prints ts) ++ rest) at there ∙ append_assoc (print t) (prints ts) rest in
      let more_there : drop next bytes ≡ prints ts ++ rest = behind bytes (print t) (prints ts ++ rest) (at + 1) here in
      ap (λ f. more f (row (map (form_of bytes) (sexps_at ts next)))) (tree_form t bytes (prints ts ++ rest) (at + 1) good.0 here)
      ∙ ap (λ fs. more (form_at t (at + 1)) fs) (row_form ts bytes rest next good.1 more_there)
