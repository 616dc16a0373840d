-- Tests one after the other, and the arguments of a command.
use Rattle.std.proofs.Common.{◌≡◌, ◌<◌, ◌≤◌, ◌-◌, ℕ, List, [], ◌∷◌, Result, Ok, Err, length, take, drop, get_or, refl, ap, sym, subst, ◌∙◌, arith}
use Rattle.std.proofs.lemmas.List.{take_rest}
use Rattle.std.specs.Prelude.{IsErrAnd}
use Rattle.sexp_read.specs.declared.sexp.Sexp.{Sexp}
use Rattle.qterm.specs.declared.name.Name.{Name}
use Rattle.qterm.specs.declared.name.Sort.{Sort}
use Rattle.strat_text.specs.Form.{none, more, form_of, forms_of}
use Rattle.smt_words.specs.declared.error.ReadError.{ReadError}
use Rattle.smt_words.specs.declared.error.ReadError.TheVariants.{Refused, Memory}
use Rattle.qterm.specs.Tree.{Tree}
use Rattle.smt_names.specs.declared.state.State.{State as StateId}
use Rattle.smt_names.specs.Reading.{State, Reader, tested}
use Rattle.smt_names.specs.Given.{Refuses, Gives}
use Rattle.smt_names.proofs.Forms.{split_at}
use Rattle.smt_command.specs.Given.{Tells}
use Rattle.smt_command.specs.Reading.{Test, and, name_with, strategy_of, told_error}
use Rattle.strat_text.specs.declared.strategy.Strategy.{Strategy}
use Rattle.strat_text.specs.declared.error.StratError.{StratError}
use Rattle.strat_text.specs.declared.error.StratError.TheVariants as strat
use Rattle.strat_text.specs.Given.{Gives as GivesStrategy}

-- what stands behind the first item of a list
abbrev pub args_of : List Sexp → List Sexp
args_of items = take (length items - 1) (drop 1 items)

-- items by the first one
pub items_split : (items : List Sexp) (first : Sexp) → 1 ≤ length items → first ≡ get_or items 0 first → items ≡ first ∷ args_of items
items_split items first some is = split_at items 0 first (omega (arith, some)) is ∙ ap (λ xs. first ∷ xs) (sym (take_rest items 1))

-- no items
pub items_empty : (items : List Sexp) → length items < 1 → items ≡ []
items_empty [] h = refl
items_empty (x ∷ items) h = absurd (omega (arith, h))

-- the arguments by the first one
pub forms_split : (bytes : List ℕ) (items : List Sexp) (first : Sexp) → 1 ≤ length items → first ≡ get_or items 0 first → forms_of bytes items ≡ more (form_of bytes first) (forms_of bytes (args_of items))
forms_split bytes items first some is = ap (forms_of bytes) (items_split items first some is)

-- no argument
pub forms_empty : (bytes : List ℕ) (items : List Sexp) → length items < 1 → forms_of bytes items ≡ none
forms_empty bytes [] h = refl
forms_empty bytes (x ∷ items) h = absurd (omega (arith, h))

-- one argument
pub forms_one : (bytes : List ℕ) (items : List Sexp) (x : Sexp) → 1 ≤ length items → length items < 2 → x ≡ get_or items 0 x → forms_of bytes items ≡ more (form_of bytes x) none
forms_one bytes [] x h l is = absurd (omega (arith, h))
forms_one bytes (y ∷ []) x h l is = ap (λ z. more (form_of bytes z) none) (sym is)
forms_one bytes (y ∷ z ∷ items) x h l is = absurd (omega (arith, l))

-- a refusal stays
pub refuses_and : {A B : Type 0} (e : ReadError) (r : Test A) (next : A → Test B) → Refuses e r → Refuses e (and r next)
refuses_and (Refused f) r next h = ap (λ x. and x next) h
refuses_and (Memory cause) r next h = tt

-- the refusal that `?` hands out is the one that it was given
pub tells_handed : {A B C : Type 0} (see : C → B) (e : ReadError) (r : Test A) (next : A → Test B) (answer : Result C ReadError) → IsErrAnd answer (λ told. told ≡ e) → Refuses e r → Tells see answer (and r next)
tells_handed see e r next (Ok c) told h = absurd told
tells_handed see e r next (Err d) told h = subst (λ x. Refuses x (and r next)) (sym told) (refuses_and e r next h)

-- a name is its text and its sort
pub name_is : (n : Name) (text : List ℕ) (s : Sort) → n.text ≡ text → n.sort ≡ s → n ≡ name_with text s
name_is n text s p q = λ i. record { text = p i; sort = q i }

-- the refusal of a strategy is handed on
pub strategy_told : {B : Type 0} (e : StratError) (r : Result Strategy StratError) (next : Strategy → Test B) → GivesStrategy {A = Strategy} (Err e) r → Refuses (told_error e) (and (strategy_of r) next)
strategy_told (strat.UnknownReducer place) r next h = ap (λ x. and (strategy_of x) next) h
strategy_told (strat.UnknownProbe place) r next h = ap (λ x. and (strategy_of x) next) h
strategy_told (strat.UnknownParam place) r next h = ap (λ x. and (strategy_of x) next) h
strategy_told (strat.BadStrategy place) r next h = ap (λ x. and (strategy_of x) next) h
strategy_told (strat.Memory cause) r next h = tt

-- ---- readings behind a test
-- a refusal of the test stays
pub refuses_tested : {A B : Type 0} (e : ReadError) (r : Test A) (next : A → Reader B) (s : State) → Refuses e r → Refuses e (tested r next s)
refuses_tested (Refused f) r next s h = ap (λ x. tested x next s) h
refuses_tested (Memory cause) r next s h = tt

-- the refusal that `?` hands out is the one of the test
pub tested_handed : {A B C : Type 0} (look : C → B) (us : List Tree) (t : StateId) (e : ReadError) (r : Test A) (next : A → Reader B) (s : State) (answer : Result C ReadError) → IsErrAnd answer (λ told. told ≡ e) → Refuses e r
    → Gives look us t answer (tested r next s)
tested_handed look us t e r next s (Ok c) told h = absurd told
tested_handed look us t e r next s (Err d) told h = subst (λ x. Refuses x (tested r next s)) (sym told) (refuses_tested e r next s h)
