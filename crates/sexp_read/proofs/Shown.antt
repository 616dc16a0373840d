-- What an atom and a list show, for callers that match on the variants.
use Rattle.std.proofs.Common.{◌≡◌, ℕ, List, None, Some, ap, sym, ◌∙◌}
use Rattle.sexp_read.specs.declared.sexp.AtomKind.{AtomKind}
use Rattle.sexp_read.specs.declared.sexp.Sexp.{Sexp, out-roll-Sexp}
use Rattle.sexp_read.specs.declared.sexp.Sexp.TheVariants as sexp
use Rattle.sexp_read.specs.declared.sexp.Sexp.TheOpen.{Sexp-F}
use Rattle.sexp_read.specs.Atoms.{layer_kind, layer_start, layer_end, layer_text, layer_name, name_at, text_at, kind_of, start_of, end_of, atom_text, symbol_name}

pub kind_of-atom : (is : AtomKind) (start end : ℕ) → kind_of (sexp.Atom is start end) ≡ Some is
unfolding kind_of
kind_of-atom is start end = ap kind_of (sym (sexp.rolls-Atom is start end)) ∙ ap layer_kind (out-roll-Sexp (Sexp-F.Atom is start end))

pub kind_of-list : (items : List Sexp) (start end : ℕ) → kind_of (sexp.List items start end) ≡ None
unfolding kind_of
kind_of-list items start end = ap kind_of (sym (sexp.rolls-List items start end)) ∙ ap layer_kind (out-roll-Sexp (Sexp-F.List items start end))

pub start_of-atom : (is : AtomKind) (start end : ℕ) → start_of (sexp.Atom is start end) ≡ start
unfolding start_of
start_of-atom is start end = ap start_of (sym (sexp.rolls-Atom is start end)) ∙ ap layer_start (out-roll-Sexp (Sexp-F.Atom is start end))

pub start_of-list : (items : List Sexp) (start end : ℕ) → start_of (sexp.List items start end) ≡ start
unfolding start_of
start_of-list items start end = ap start_of (sym (sexp.rolls-List items start end)) ∙ ap layer_start (out-roll-Sexp (Sexp-F.List items start end))

pub end_of-atom : (is : AtomKind) (start end : ℕ) → end_of (sexp.Atom is start end) ≡ end
unfolding end_of
end_of-atom is start end = ap end_of (sym (sexp.rolls-Atom is start end)) ∙ ap layer_end (out-roll-Sexp (Sexp-F.Atom is start end))

pub end_of-list : (items : List Sexp) (start end : ℕ) → end_of (sexp.List items start end) ≡ end
unfolding end_of
end_of-list items start end = ap end_of (sym (sexp.rolls-List items start end)) ∙ ap layer_end (out-roll-Sexp (Sexp-F.List items start end))

pub atom_text-atom : (bytes : List ℕ) (is : AtomKind) (start end : ℕ) → atom_text bytes (sexp.Atom is start end) ≡ text_at bytes start end
unfolding atom_text
atom_text-atom bytes is start end = ap (atom_text bytes) (sym (sexp.rolls-Atom is start end)) ∙ ap (layer_text bytes) (out-roll-Sexp (Sexp-F.Atom is start end))

pub atom_text-list : (bytes : List ℕ) (items : List Sexp) (start end : ℕ) → atom_text bytes (sexp.List items start end) ≡ None
unfolding atom_text
atom_text-list bytes items start end = ap (atom_text bytes) (sym (sexp.rolls-List items start end)) ∙ ap (layer_text bytes) (out-roll-Sexp (Sexp-F.List items start end))

pub symbol_name-atom : (bytes : List ℕ) (is : AtomKind) (start end : ℕ) → symbol_name bytes (sexp.Atom is start end) ≡ name_at bytes is start end
unfolding symbol_name
symbol_name-atom bytes is start end = ap (symbol_name bytes) (sym (sexp.rolls-Atom is start end)) ∙ ap (layer_name bytes) (out-roll-Sexp (Sexp-F.Atom is start end))

pub symbol_name-list : (bytes : List ℕ) (items : List Sexp) (start end : ℕ) → symbol_name bytes (sexp.List items start end) ≡ None
unfolding symbol_name
symbol_name-list bytes items start end = ap (symbol_name bytes) (sym (sexp.rolls-List items start end)) ∙ ap (layer_name bytes) (out-roll-Sexp (Sexp-F.List items start end))
