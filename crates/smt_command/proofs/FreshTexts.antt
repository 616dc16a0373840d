-- Texts that are used by no symbol.
use Rattle.std.proofs.Common.{◌≡◌, ◌<◌, ◌≤◌, ◌+◌, ◌-◌, ℕ, zero, suc, Bool, true, false, List, [], ◌∷◌, ◌++◌, length, cond, Option, None, Some, refl, ap, sym, ◌∙◌, arith}
use Rattle.std.specs.Prelude.{◌||◌, is_some}
use Rattle.std.specs.Map.{lookup}
use Rattle.std.specs.Str.{bytes_eq}
use Rattle.std.proofs.lemmas.List.{length-append}
use Rattle.std.proofs.lemmas.Slice.Eq.{bytes_eq-Decides}
use Rattle.qterm.specs.Tree.{Tree}
use Rattle.qterm.specs.Name.{IsNameByte, IsNameText}
use Rattle.qterm.proofs.Alls.{All-push}
use Rattle.smt_names.specs.Table.{Entry, symbols_in}
use Rattle.smt_names.proofs.Lookups.{meaning_some}
use Rattle.smt_command.specs.Parameters.{total, is_used, mark, marked, fresh}

-- a text that is there is no longer than all together
there_within : {A : Type 0} (es : List (List ℕ × A)) (text : List ℕ) → is_some (lookup (bytes_eq text) es) ≡ true → length text ≤ total es
unfolding total
there_within [] text h = cc
there_within (e ∷ es) text h = by (bytes_eq text e.0) refl h (there_within es text)
  where
    by : (b : Bool) → bytes_eq text e.0 ≡ b → is_some (cond b (Some e.1) (lookup (bytes_eq text) es)) ≡ true → (is_some (lookup (bytes_eq text) es) ≡ true → length text ≤ total es) → length text ≤ length e.0 + total es
    by true is k within = let same = ap length ((bytes_eq-Decides text e.0).0 is) in omega (arith, same)
    by false is k within = let rest = within k in omega (arith, rest)

module _ {A B : Type 0} (symbols : List (List ℕ × A)) (texts : List (List ℕ × B)) where
  -- a text that is used is no longer than all together
  pub used_within : (text : List ℕ) → is_used symbols texts text ≡ true → length text ≤ total symbols + total texts
  used_within text h = by (is_some (lookup (bytes_eq text) symbols)) refl h
    where
      by : (b : Bool) → is_some (lookup (bytes_eq text) symbols) ≡ b → (b || is_some (lookup (bytes_eq text) texts)) ≡ true → length text ≤ total symbols + total texts
      by true is k = let within = there_within symbols text is in omega (arith, within)
      by false is k = let within = there_within texts text k in omega (arith, within)

  -- the marks that are behind a text so far are some of those that it takes
  pub record IsOnWay (text own : List ℕ) : Type 0 where
    pub left : ℕ
    pub reads : marked left (is_used symbols texts) own ≡ fresh symbols texts text
    pub enough : total symbols + total texts < length own + left

  pub way_begins : (text : List ℕ) → IsOnWay text text
  way_begins text = record { left = 1 + (total symbols + total texts); reads = refl; enough = omega arith }

  step_from : (text own : List ℕ) (n : ℕ) → is_used symbols texts own ≡ true → marked n (is_used symbols texts) own ≡ fresh symbols texts text → total symbols + total texts < length own + n → IsOnWay text (own ++ mark ∷ [])
  unfolding marked
  step_from text own zero used reads enough = (let within = used_within own used in absurd (omega (arith, within, enough)))
  step_from text own (suc n) used reads enough =
      let longer = length-append own (mark ∷ []) in
      record { left = n; reads = rw used at reads; enough = omega (arith, longer, enough) }

  -- one mark more
  pub way_further : (text own : List ℕ) → is_used symbols texts own ≡ true → IsOnWay text own → IsOnWay text (own ++ mark ∷ [])
  way_further text own used way = step_from text own way.left used way.reads way.enough

  done_from : (own : List ℕ) (n : ℕ) → is_used symbols texts own ≡ false → marked n (is_used symbols texts) own ≡ own
  unfolding marked
  done_from own zero used = refl
  done_from own (suc n) used = rw used refl

  -- a text that isn't used needs no mark more
  pub way_ends : (text own : List ℕ) → is_used symbols texts own ≡ false → IsOnWay text own → own ≡ fresh symbols texts text
  way_ends text own used way = sym (done_from own way.left used) ∙ way.reads

  -- what is left of all lengths falls
  pub way_falls : (own : List ℕ) → is_used symbols texts own ≡ true → 1 + (total symbols + total texts) - length (own ++ mark ∷ []) < 1 + (total symbols + total texts) - length own
  way_falls own used =
      let within = used_within own used in
      let longer = length-append own (mark ∷ []) in
      omega (arith, within, longer)

  none_some : {C : Type 0} (o : Option C) → is_some o ≡ false → o ≡ None
  none_some None h = refl
  none_some (Some a) h = cc

  -- a text that isn't used is in neither table
  pub unused_symbol : (text : List ℕ) → is_used symbols texts text ≡ false → lookup (bytes_eq text) symbols ≡ None
  unused_symbol text h = by (is_some (lookup (bytes_eq text) symbols)) refl h
    where
      by : (b : Bool) → is_some (lookup (bytes_eq text) symbols) ≡ b → (b || is_some (lookup (bytes_eq text) texts)) ≡ false → lookup (bytes_eq text) symbols ≡ None
      by true is k = cc
      by false is k = none_some (lookup (bytes_eq text) symbols) is

  pub unused_text : (text : List ℕ) → is_used symbols texts text ≡ false → lookup (bytes_eq text) texts ≡ None
  unused_text text h = by (is_some (lookup (bytes_eq text) symbols)) h
    where
      by : (b : Bool) → (b || is_some (lookup (bytes_eq text) texts)) ≡ false → lookup (bytes_eq text) texts ≡ None
      by true k = cc
      by false k = none_some (lookup (bytes_eq text) texts) k

-- a name may have one mark more
pub mark_allowed : (own : List ℕ) → IsNameText own → IsNameText (own ++ mark ∷ [])
mark_allowed own h = All-push IsNameByte own mark h (omega arith, (λ e. omega (arith, e)), (λ e. omega (arith, e)), (λ e. omega (arith, e)))

-- ---- over the trees of a store
total_seen : (ts : List Tree) (es : List Entry) → total (symbols_in ts es) ≡ total es
unfolding total
total_seen ts [] = refl
total_seen ts (e ∷ es) = ap (λ n. length e.0 + n) (total_seen ts es)

-- texts alone count
pub fresh_seen : (ts us : List Tree) (a b : List Entry) (text : List ℕ) → fresh (symbols_in ts a) (symbols_in us b) text ≡ fresh a b text
fresh_seen ts us a b text = λ i. marked (1 + (total_seen ts a i + total_seen us b i)) (λ t. meaning_some ts a t i || meaning_some us b t i) text
