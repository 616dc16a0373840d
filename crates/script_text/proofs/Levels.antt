-- What the calls of a session make of it, over the trees of a store.
use Rattle.std.proofs.Common.{◌≡◌, ℕ, ◌-◌, zero, suc, false, List, [], ◌∷◌, ◌++◌, length, take, slice_get, replicate, Option, Some, None, refl, ap}
use Rattle.qterm.specs.Tree.{Tree}
use Rattle.qterm.specs.Store.{tree_at, trees_of}
use Rattle.qterm.proofs.KidsLaws.{trees_of-append, length-trees_of}
use Rattle.script_text.specs.declared.session.Mark.{Mark}
use Rattle.script_text.specs.declared.session.Session.{Session}
use Rattle.script_text.specs.Answers.{AnswerTree}
use Rattle.script_text.specs.Levels.{mark_in, cut_to, closed}
use Rattle.script_text.specs.Session.{session_tree, asserted, pushed, back_to, popped}

pub trees_of-take : (ts : List Tree) (n : ℕ) (is : List ℕ) → trees_of ts (take n is) ≡ take n (trees_of ts is)
trees_of-take ts zero is = refl
trees_of-take ts (suc n) [] = refl
trees_of-take ts (suc n) (i ∷ is) = ap (λ rest. tree_at ts i ∷ rest) (trees_of-take ts n is)

-- an assertion
pub session_asserted : (ts : List Tree) (last : Option AnswerTree) (s new : Session) (id : ℕ)
    → new ≡ record s { asserts = s.asserts ++ id ∷ []; shows = false } → session_tree ts last new ≡ asserted (session_tree ts last s) (tree_at ts id)
session_asserted ts last s new id is = rw (is, trees_of-append) refl

-- levels that are opened
pub session_pushed : (ts : List Tree) (last : Option AnswerTree) (s new : Session) (levels : ℕ)
    → new ≡ record s { marks = s.marks ++ replicate levels (mark_in s); shows = false } → session_tree ts last new ≡ pushed (session_tree ts last s) levels
session_pushed ts last s new levels is = rw (is, length-trees_of) refl

-- levels that are closed
tree_cut_to : (ts : List Tree) (last : Option AnswerTree) (s : Session) (left : ℕ) (mark : Option Mark)
    → session_tree ts last (cut_to s left mark) ≡ back_to (session_tree ts last s) left mark
tree_cut_to ts last s left (Some mark) = rw trees_of-take refl
tree_cut_to ts last s left None = refl

pub session_popped : (ts : List Tree) (last : Option AnswerTree) (s new : Session) (levels : ℕ)
    → new ≡ closed s levels → session_tree ts last new ≡ popped (session_tree ts last s) levels
session_popped ts last s new levels is =
    let left = length s.marks - levels in
    rw is (tree_cut_to ts last s left (slice_get s.marks left))
