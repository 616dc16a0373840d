-- What waits for a term, and how reading goes on behind it: the frames round a form, the innermost first.
use Rattle.std.specs.Prelude.{ℕ, ◌+◌, List, [], ◌∷◌, ◌++◌, IsTrue, ⊤}
use Rattle.qterm.specs.Tree.{Tree}
use Rattle.strat_text.specs.Form.{Form, atom, list, Forms, none, more}
use Rattle.smt_names.specs.Table.{Symbol}
use Rattle.smt_names.specs.Text.{behind_first, may_be_term}
use Rattle.smt_names.specs.Reading.{Reader, done, after}
use Rattle.smt_names.specs.Atoms.{Scopes}
use Rattle.smt_names.specs.Annotated.{bind, only, some_attributes}
use Rattle.smt_term.specs.Callee.{Callee, over_all}
use Rattle.smt_term.specs.Term.{read_args, read_bindings, read_body}

-- what waits for a term, with the forms behind that term
pub data FrameTree : Type 0 where
  -- what takes the arguments, all of them, those that are left, the terms so far, and a place
  Applying : Callee → Forms → Forms → List Tree → ℕ → FrameTree
  -- a name, the bindings so far, those that are left, what stands behind the bindings, the place of their list, and that of the `let`
  Binding : List ℕ → List Symbol → Forms → Forms → ℕ → ℕ → FrameTree
  -- what stands behind the term in which bindings hold, and a place
  Body : Forms → ℕ → FrameTree
  -- attributes, and a place
  Annotating : Forms → ℕ → FrameTree

-- a callee over its arguments, of which the terms of the first ones are there
abbrev pub over_rest : Scopes → Callee → ℕ → Forms → Forms → List Tree → Reader Tree
over_rest scopes callee at args rest front = after (read_args scopes rest) (λ ts. over_all callee at args (front ++ ts))

-- bindings behind those so far, of a list at a place, and the term in which they hold
abbrev pub bind_rest : Scopes → ℕ → ℕ → Forms → Forms → List Symbol → Reader Tree
bind_rest scopes at list_at body rest scope = after (read_bindings scopes rest list_at scope) (λ all. read_body (all ∷ scopes) body at)

-- what a frame reads once the term is there for which it waits
abbrev pub with_term : Scopes → FrameTree → Tree → Reader Tree
with_term scopes (Applying callee args rest front at) t = over_rest scopes callee at args rest (front ++ t ∷ [])
with_term scopes (Binding name scope rest body list_at at) t = after (bind name t) (λ symbol. bind_rest scopes at list_at body rest (scope ++ symbol ∷ []))
with_term scopes (Body rest at) t = only at rest t
with_term scopes (Annotating rest at) t = some_attributes at rest t

-- the scopes round a frame, of those inside it
abbrev pub around : {A : Type 0} → FrameTree → List A → List A
around (Applying callee args rest front at) scopes = scopes
around (Binding name scope rest body list_at at) scopes = scopes
around (Body rest at) scopes = behind_first scopes
around (Annotating rest at) scopes = scopes

-- the scopes round all frames
unfoldable pub outside : {A : Type 0} → List FrameTree → List A → List A
outside [] scopes = scopes
outside (f ∷ fs) scopes = outside fs (around f scopes)

-- how reading goes on in the frames, once the term is there for which the innermost waits
unfoldable pub goes_on : Scopes → List FrameTree → Tree → Reader Tree
goes_on scopes [] t = done t
goes_on scopes (f ∷ fs) t = after (with_term scopes f t) (goes_on (around f scopes) fs)

-- the first form may be a term, if there is one
abbrev pub IsTermFirst : Forms → Type 0
IsTermFirst none = ⊤
IsTermFirst (more form forms) = IsTrue (may_be_term form)

-- ---- how much is left to read
-- a measure of forms that falls from a list to what stands in it
unfoldable mutual
  pub weight : Form → ℕ
  weight (atom is text place) = 2
  weight (list items place) = 2 + weights items

  pub weights : Forms → ℕ
  weights none = 0
  weights (more form forms) = weight form + weights forms

-- what a frame has left
abbrev pub left_in : FrameTree → ℕ
left_in (Applying callee args rest front at) = 1 + weights rest
left_in (Binding name scope rest body list_at at) = 1 + (weights rest + weights body)
left_in (Body rest at) = 1
left_in (Annotating rest at) = 1

-- what all frames have left
unfoldable pub left_in_all : List FrameTree → ℕ
left_in_all [] = 0
left_in_all (f ∷ fs) = left_in f + left_in_all fs
