-- What an s-expression shows of the bytes that it was read from.
use Rattle.std.specs.Prelude.{◌≡◌, ⊤, ℕ, ◌+◌, ◌-◌, ◌&&◌, if◌then◌else◌, nat_lt, nat_le, List, length, take, drop, Option, None, Some}
use Rattle.sexp_read.specs.declared.sexp.AtomKind.{AtomKind}
use Rattle.sexp_read.specs.declared.sexp.AtomKind.TheVariants.{Symbol, Quoted, Numeral, Decimal, Bits, Text, Keyword}
use Rattle.sexp_read.specs.declared.sexp.Next.{Next}
use Rattle.sexp_read.specs.declared.sexp.Next.TheVariants.{Item, End, Bad}
use Rattle.sexp_read.specs.declared.sexp.Sexp.{Sexp, out-Sexp}
use Rattle.sexp_read.specs.declared.sexp.Sexp.TheOpen.{Sexp-F}

-- the bytes from one place to another, where there are such
abbrev pub text_at : List ℕ → ℕ → ℕ → Option (List ℕ)
text_at bytes start end = if nat_le start end && nat_le end (length bytes) then Some (take (end - start) (drop start bytes)) else None

-- The name of a symbol: all of a simple one, and what stands between the bars of a quoted one.
abbrev pub name_at : List ℕ → AtomKind → ℕ → ℕ → Option (List ℕ)
name_at bytes Symbol start end = text_at bytes start end
name_at bytes Quoted start end = if nat_lt start end && nat_le end (length bytes) then text_at bytes (start + 1) (end - 1) else None
name_at bytes Numeral start end = None
name_at bytes Decimal start end = None
name_at bytes Bits start end = None
name_at bytes Text start end = None
name_at bytes Keyword start end = None

-- an s-expression, opened once
abbrev pub Layer : Type 0
Layer = Sexp-F Sexp

-- the words below, for an s-expression that is opened once
abbrev pub layer_kind : Layer → Option AtomKind
layer_kind (Sexp-F.Atom kind start end) = Some kind
layer_kind (Sexp-F.List items start end) = None

abbrev pub layer_start : Layer → ℕ
layer_start (Sexp-F.Atom kind start end) = start
layer_start (Sexp-F.List items start end) = start

abbrev pub layer_end : Layer → ℕ
layer_end (Sexp-F.Atom kind start end) = end
layer_end (Sexp-F.List items start end) = end

abbrev pub layer_text : List ℕ → Layer → Option (List ℕ)
layer_text bytes (Sexp-F.Atom kind start end) = text_at bytes start end
layer_text bytes (Sexp-F.List items start end) = None

abbrev pub layer_name : List ℕ → Layer → Option (List ℕ)
layer_name bytes (Sexp-F.Atom kind start end) = name_at bytes kind start end
layer_name bytes (Sexp-F.List items start end) = None

-- the kind of an atom
unfoldable pub kind_of : Sexp → Option AtomKind
kind_of sexp = layer_kind (out-Sexp sexp)

-- the place of the first byte
unfoldable pub start_of : Sexp → ℕ
start_of sexp = layer_start (out-Sexp sexp)

-- the place behind the last byte
unfoldable pub end_of : Sexp → ℕ
end_of sexp = layer_end (out-Sexp sexp)

-- the bytes of an atom
unfoldable pub atom_text : List ℕ → Sexp → Option (List ℕ)
atom_text bytes sexp = layer_text bytes (out-Sexp sexp)

-- the name that a symbol stands for
unfoldable pub symbol_name : List ℕ → Sexp → Option (List ℕ)
symbol_name bytes sexp = layer_name bytes (out-Sexp sexp)

-- the place behind an item is the one behind its last byte
abbrev pub EndsItem : Next → Type 0
EndsItem (Item sexp end) = end_of sexp ≡ end
EndsItem End = ⊤
EndsItem (Bad place what) = ⊤
