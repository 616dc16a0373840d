-- What an application is read as, step by step.
use Rattle.std.proofs.Common.{◌≡◌, ℕ, true, false, List, None, Some, Result, Ok, Err, refl, ◌∙◌}
use Rattle.qterm.specs.Tree.{Tree}
use Rattle.strat_text.specs.Form.{Forms}
use Rattle.smt_theory.specs.declared.operator.Operator.{Operator}
use Rattle.smt_theory.specs.Sorts.{wrong_sort}
use Rattle.smt_theory.specs.Plain.{plain_of}
use Rattle.smt_words.specs.declared.error.What.TheVariants.{BadShape, BadSort, NotLinear}
use Rattle.smt_names.specs.Reading.{State, refusal}
use Rattle.smt_words.specs.declared.error.ReadError.{ReadError}
use Rattle.smt_words.specs.declared.error.ReadError.TheVariants.{Refused, Memory}
use Rattle.smt_names.specs.Given.{Answers}
use Rattle.smt_names.specs.Text.{place_at}
use Rattle.smt_names.specs.Applied.{applied, fit, is_allowed, narrow}

-- another kind or number of arguments
pub applied_shape : (at : ℕ) (o : Operator) (args : Forms) (ts : List Tree) (s : State) → fit o args ≡ false → applied at o args ts s ≡ Err (refusal BadShape at)
applied_shape at o args ts s h = rw h refl

-- an argument of another sort
pub applied_sort : (at : ℕ) (o : Operator) (args : Forms) (ts : List Tree) (s : State) (n : ℕ) → fit o args ≡ true → wrong_sort o ts ≡ Some n → applied at o args ts s ≡ Err (refusal BadSort (place_at args n))
applied_sort at o args ts s n h e = rw (h, e) refl

-- a product that isn't linear
pub applied_linear : (at : ℕ) (o : Operator) (args : Forms) (ts : List Tree) (s : State) → fit o args ≡ true → wrong_sort o ts ≡ None → is_allowed o ts ≡ false → applied at o args ts s ≡ Err (refusal NotLinear at)
applied_linear at o args ts s h e a = rw (h, e, a) refl

-- all is right
pub applied_right : (at : ℕ) (o : Operator) (args : Forms) (ts : List Tree) (s : State) → fit o args ≡ true → wrong_sort o ts ≡ None → is_allowed o ts ≡ true → applied at o args ts s ≡ narrow at (plain_of o ts) s
applied_right at o args ts s h e a = rw (h, e, a) refl

-- what is answered for the plain term is answered for the application
pub narrowed : (us : List Tree) (s : State) (answer : Result ℕ ReadError) (at : ℕ) (o : Operator) (args : Forms) (ts : List Tree) → fit o args ≡ true → wrong_sort o ts ≡ None → is_allowed o ts ≡ true
    → Answers us s answer (narrow at (plain_of o ts)) → Answers us s answer (applied at o args ts)
narrowed us s (Ok id) at o args ts h e a given = (given.0, applied_right at o args ts s h e a ∙ given.1)
narrowed us s (Err (Refused f)) at o args ts h e a given = applied_right at o args ts s h e a ∙ given
narrowed us s (Err (Memory cause)) at o args ts h e a given = tt
