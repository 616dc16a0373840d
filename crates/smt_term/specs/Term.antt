-- Terms: the plain term that a form spells, or the first refusal. Of an application first its head, then its arguments
-- from left to right, then their kind and number, their sorts, whether a product is linear, and the width of numbers.
use Rattle.std.specs.Prelude.{ℕ, if◌then◌else◌, List, [], ◌∷◌, ◌++◌}
use Rattle.qterm.specs.Tree.{Tree}
use Rattle.strat_text.specs.Form.{Form, atom, list, Forms, none, more, place_of}
use Rattle.smt_words.specs.declared.error.What.TheVariants.{BadShape, UnknownSymbol}
use Rattle.smt_names.specs.declared.head.Head.{Head}
use Rattle.smt_names.specs.declared.head.Head.TheVariants as head
use Rattle.smt_names.specs.Table.{Symbol}
use Rattle.smt_names.specs.Text.{name_of, may_be_term}
use Rattle.smt_names.specs.Reading.{Reader, done, refused, after, tested}
use Rattle.smt_names.specs.Names.{bound_name}
use Rattle.smt_names.specs.Atoms.{Scopes, read_atom, head_of}
use Rattle.smt_names.specs.Annotated.{bind, only, some_attributes}
use Rattle.smt_term.specs.Callee.{Nothing, Over, function_of, over_all}

-- a form by its head, its arguments and what these are read as
abbrev pub by_head : ℕ → Form → Forms → Reader (List Tree) → Reader Tree → Reader Tree → Head → Reader Tree
by_head at first args terms binding annotated head.NoSymbol = refused BadShape at
by_head at first args terms binding annotated head.Unknown = refused UnknownSymbol (place_of first)
by_head at first args terms binding annotated head.Let = binding
by_head at first args terms binding annotated head.Annotated = annotated
by_head at first args terms binding annotated head.Constant = after terms (over_all Nothing at args)
by_head at first args terms binding annotated head.Function = after terms (over_all (function_of (name_of first)) at args)
by_head at first args terms binding annotated (head.Operator o) = after terms (over_all (Over o) at args)

unfoldable mutual
  -- a form as a term, standing in the list at the place `at`
  pub read_term : Scopes → Form → ℕ → Reader Tree
  read_term scopes (atom is text place) at = read_atom scopes at is text place
  read_term scopes (list items place) at = read_list scopes items place

  -- a list as a term
  pub read_list : Scopes → Forms → ℕ → Reader Tree
  read_list scopes none at = refused BadShape at
  read_list scopes (more first args) at = λ s. by_head at first args (read_args scopes args) (read_let scopes args at) (read_annotated scopes args at) (head_of scopes s.symbols first) s

  -- each of the arguments that may be a term, as one
  pub read_args : Scopes → Forms → Reader (List Tree)
  read_args scopes none = done []
  read_args scopes (more form forms) =
      if may_be_term form then after (read_term scopes form 0) (λ t. after (read_args scopes forms) (λ ts. done (t ∷ ts))) else read_args scopes forms

  -- what stands behind `let`: bindings, and the term in which they hold
  pub read_let : Scopes → Forms → ℕ → Reader Tree
  read_let scopes none at = refused BadShape at
  read_let scopes (more bindings rest) at = after (bindings_in scopes bindings at) (λ scope. read_body (scope ∷ scopes) rest at)

  -- a form as bindings, of which there is one at least
  pub bindings_in : Scopes → Form → ℕ → Reader (List Symbol)
  bindings_in scopes (atom is text place) at = refused BadShape at
  bindings_in scopes (list none place) at = refused BadShape at
  bindings_in scopes (list (more first rest) place) at = read_bindings scopes (more first rest) place []

  -- bindings behind those so far; they hold at once, so that none sees another
  pub read_bindings : Scopes → Forms → ℕ → List Symbol → Reader (List Symbol)
  read_bindings scopes none at scope = done scope
  read_bindings scopes (more form forms) at scope = after (read_binding scopes form at scope) (λ symbol. read_bindings scopes forms at (scope ++ symbol ∷ []))

  -- a binding
  pub read_binding : Scopes → Form → ℕ → List Symbol → Reader Symbol
  read_binding scopes (atom is text place) at scope = refused BadShape at
  read_binding scopes (list items place) at scope = read_pair scopes items place scope

  -- a name and the term for which it stands
  pub read_pair : Scopes → Forms → ℕ → List Symbol → Reader Symbol
  read_pair scopes none at scope = refused BadShape at
  read_pair scopes (more name none) at scope = refused BadShape at
  read_pair scopes (more name (more value none)) at scope = tested (bound_name scope at name) (λ text. after (read_term scopes value at) (bind text))
  read_pair scopes (more name (more value (more form forms))) at scope = refused BadShape at

  -- the term in which bindings hold
  pub read_body : Scopes → Forms → ℕ → Reader Tree
  read_body scopes none at = refused BadShape at
  read_body scopes (more body rest) at = after (read_term scopes body at) (only at rest)

  -- what stands behind `!`: a term and its attributes
  pub read_annotated : Scopes → Forms → ℕ → Reader Tree
  read_annotated scopes none at = refused BadShape at
  read_annotated scopes (more body rest) at = after (read_term scopes body at) (some_attributes at rest)
