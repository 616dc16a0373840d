-- What waits for terms, as the store grows.
use Rattle.std.proofs.Common.{◌≡◌, ℕ, List, [], ◌∷◌, All, refl, ap, ◌∙◌}
use Rattle.qterm.specs.Tree.{Tree}
use Rattle.qterm.specs.Store.{Extends}
use Rattle.qterm.proofs.Alls.{All-head, All-tail, All-weaker}
use Rattle.qterm.proofs.Extending.{All_Has_extends, trees_of_extends}
use Rattle.strat_text.specs.Form.{forms_of}
use Rattle.smt_names.specs.Table.{Entry, AreThere}
use Rattle.smt_names.specs.Given.{scopes_in}
use Rattle.smt_names.proofs.Readings.{symbols_extends, AreThere_extends, scopes_extends}
use Rattle.smt_term.specs.declared.frame.Frame.{Frame}
use Rattle.smt_term.specs.declared.frame.Frame.TheVariants as frame
use Rattle.smt_term.specs.declared.frame.Turn.{Turn}
use Rattle.smt_term.specs.declared.frame.Turn.TheVariants as turn
use Rattle.smt_term.specs.Frames.{FrameTree, Applying, Binding, Body, Annotating, around, goes_on}
use Rattle.smt_term.specs.Turns.{callee_in, frame_in, frames_in, IsFrame, turn_around}

-- a frame keeps its terms
pub frame_extends : (bytes : List ℕ) (ts us : List Tree) (f : Frame) → Extends ts us → IsFrame ts f → frame_in bytes us f ≡ frame_in bytes ts f
frame_extends bytes ts us (frame.Application a) e h = ap (λ front. Applying (callee_in a.callee) (forms_of bytes a.args.now) (forms_of bytes a.rest.now) front a.at) (trees_of_extends ts us a.ids.items e h)
frame_extends bytes ts us (frame.Bindings b) e h = ap (λ scope. Binding b.name.now scope (forms_of bytes b.rest.now) (forms_of bytes b.body.now) b.list_at b.at) (symbols_extends ts us b.scope e h.0)
frame_extends bytes ts us (frame.Body at rest) e h = refl
frame_extends bytes ts us (frame.Annotation at rest) e h = refl

pub IsFrame_extends : (ts us : List Tree) (f : Frame) → Extends ts us → IsFrame ts f → IsFrame us f
IsFrame_extends ts us (frame.Application a) e h = All_Has_extends ts us a.ids.items e h
IsFrame_extends ts us (frame.Bindings b) e h = (AreThere_extends ts us b.scope e h.0, h.1)
IsFrame_extends ts us (frame.Body at rest) e h = tt
IsFrame_extends ts us (frame.Annotation at rest) e h = tt

pub frames_extends : (bytes : List ℕ) (ts us : List Tree) (fs : List Frame) → Extends ts us → All (IsFrame ts) fs → frames_in bytes us fs ≡ frames_in bytes ts fs
frames_extends bytes ts us [] e h = refl
frames_extends bytes ts us (f ∷ fs) e h =
    λ i. frame_extends bytes ts us f e (All-head (IsFrame ts) f fs h) i ∷ frames_extends bytes ts us fs e (All-tail (IsFrame ts) f fs h) i

pub AreFrames_extends : (ts us : List Tree) (fs : List Frame) → Extends ts us → All (IsFrame ts) fs → All (IsFrame us) fs
AreFrames_extends ts us fs e h = All-weaker (IsFrame ts) (IsFrame us) fs (λ f p. IsFrame_extends ts us f e p) h

-- ---- the scopes round frames
around_scopes : (ts : List Tree) (f : FrameTree) (scopes : List (List Entry)) → around f (scopes_in ts scopes) ≡ scopes_in ts (around f scopes)
around_scopes ts (Applying callee args rest front at) scopes = refl
around_scopes ts (Binding name scope rest body list_at at) scopes = refl
around_scopes ts (Body rest at) [] = refl
around_scopes ts (Body rest at) (scope ∷ scopes) = refl
around_scopes ts (Annotating rest at) scopes = refl

-- they are over the trees of a store as the scopes are
pub turn_scopes : (bytes : List ℕ) (ts : List Tree) (t : Turn) (scopes : List (List Entry)) → turn_around bytes ts t (scopes_in ts scopes) ≡ scopes_in ts (turn_around bytes ts t scopes)
turn_scopes bytes ts (turn.Done id) scopes = refl
turn_scopes bytes ts (turn.Down f sexp at) scopes = around_scopes ts (frame_in bytes ts f) scopes

pub frame_scopes : (bytes : List ℕ) (ts : List Tree) (f : Frame) (scopes : List (List Entry)) → around (frame_in bytes ts f) (scopes_in ts scopes) ≡ scopes_in ts (around (frame_in bytes ts f) scopes)
frame_scopes bytes ts f scopes = around_scopes ts (frame_in bytes ts f) scopes

-- their numbers are there
pub around_there : (ts : List Tree) (f : FrameTree) (scopes : List (List Entry)) → All (AreThere ts) scopes → All (AreThere ts) (around f scopes)
around_there ts (Applying callee args rest front at) scopes h = h
around_there ts (Binding name scope rest body list_at at) scopes h = h
around_there ts (Body rest at) [] h = h
around_there ts (Body rest at) (scope ∷ scopes) h = All-tail (AreThere ts) scope scopes h
around_there ts (Annotating rest at) scopes h = h

-- how reading goes on is the same as the store grows, where the scopes round the turn are the same
pub goes_on_same : (bytes : List ℕ) (ts us : List Tree) (t : Turn) (fs : List Frame) (scopes base : List (List Entry)) → Extends ts us → All (AreThere ts) base → All (IsFrame ts) fs
    → turn_around bytes us t scopes ≡ base → goes_on (turn_around bytes us t (scopes_in us scopes)) (frames_in bytes us fs) ≡ goes_on (scopes_in ts base) (frames_in bytes ts fs)
goes_on_same bytes ts us t fs scopes base e there frames h =
    ap (λ S. goes_on S (frames_in bytes us fs)) (turn_scopes bytes us t scopes ∙ ap (scopes_in us) h ∙ scopes_extends ts us base e there)
    ∙ ap (goes_on (scopes_in ts base)) (frames_extends bytes ts us fs e frames)
