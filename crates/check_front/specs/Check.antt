-- How a run of the checker ends, and what it has then written and taken.
use Rattle.std.specs.Prelude.{◌≡◌, ◌≤◌, ℕ, Bool, false, not, ◌+◌, ◌==◌, List, [], ◌∷◌, drop, codes, Option, Some, IfSome}
use Rattle.std.specs.Io.KnownBytes.{Appends, Keeps}
use Rattle.sexp_read.specs.Outside.{AppendsFront, IsFlushed, Rose, TakesFront}
use Rattle.check_front.specs.declared.finding.Finding.{Finding}
use Rattle.check_front.specs.declared.finding.Finding.TheVariants as f
use Rattle.check_front.specs.declared.finding.TheConstants.{MOST_SCRIPT, MOST_CERT}
use Rattle.check_front.specs.declared.top.Ended.{Ended}
use Rattle.check_front.specs.declared.top.Ended.TheVariants as e
use Rattle.check_front.specs.Judged.{IsFound}
use Rattle.check_front.specs.Lines.{finding_line}

-- a word that names a file: it isn't empty and doesn't begin with a minus
abbrev pub is_path : List ℕ → Bool
is_path [] = false
is_path (b ∷ bs) = not (b == 45)

-- the words are one that names a file
abbrev pub is_lawful : List (List ℕ) → Bool
is_lawful [] = false
is_lawful (word ∷ []) = is_path word
is_lawful (word ∷ next ∷ more) = false

-- the status of a finding
abbrev pub status_of : Finding → ℕ
status_of f.Accepted = 0
status_of (f.Refused step rule) = 1
status_of (f.Wrong error) = 1
status_of (f.Malformed line) = 6
status_of f.TooLong = 6

-- the status of a program that ends so
abbrev pub code : Ended → ℕ
code (e.Told finding) = status_of finding
code e.Usage = 2
code e.Memory = 3
code e.ReadFault = 4
code e.WriteFault = 5

-- all of the text is written and flushed
pub record Wrote (text : List ℕ) (old new : Option (List ℕ)) (flushed : Option ℕ) : Type 0 where
  pub whole : Appends old new text
  pub flush : IsFlushed new flushed

-- the sink's count has not fallen, and it rose where a write failed
pub record HasCauseOf (before now : ℕ) (ended : Ended) : Type 0 where
  pub later : before ≤ now
  pub failed : ended ≡ e.WriteFault → Rose before now

-- these bytes are those that a source has left, where it tells them
abbrev pub AreLeft : Option (List ℕ) → List ℕ → Type 0
AreLeft left bytes = IfSome left (λ all. all ≡ bytes)

-- A run that ends so over these bytes of a script and of a certificate's source. Its line is written, or a front of it.
abbrev pub Ran : List ℕ → List ℕ → Option (List ℕ) → Option (List ℕ) → Option ℕ → Ended → Type 0
Ran script source old new flushed (e.Told finding) = IsFound script source finding × Wrote (finding_line script finding) old new flushed
Ran script source old new flushed e.WriteFault = (finding : Finding) × IsFound script source finding × AppendsFront old new (finding_line script finding)
Ran script source old new flushed e.Memory = Keeps old new
Ran script source old new flushed e.ReadFault = Keeps old new
Ran script source old new flushed e.Usage = ⊥

-- a run over what two sources have left
abbrev pub RanFrom : Option (List ℕ) → Option (List ℕ) → Option (List ℕ) → Option (List ℕ) → Option ℕ → Ended → Type 0
RanFrom script_left cert_left old new flushed ended =
    (script : List ℕ) × (source : List ℕ) × AreLeft script_left script × AreLeft cert_left source × Ran script source old new flushed ended

-- what is left of a source that was read: nothing, or what is behind one byte more than there may be
abbrev pub ReadWhole : ℕ → Option (List ℕ) → Option (List ℕ) → Type 0
ReadWhole most old new = IfSome old (λ all. new ≡ Some (drop (most + 1) all))

-- what a run has left of both sources, where both were read
pub record ReadBoth (script_old script_new cert_old cert_new : Option (List ℕ)) : Type 0 where
  pub script : ReadWhole MOST_SCRIPT script_old script_new
  pub cert : ReadWhole MOST_CERT cert_old cert_new

-- what it has left where memory was wanting or a read failed: a front of each may be taken
pub record TakesBoth (script_old script_new cert_old cert_new : Option (List ℕ)) : Type 0 where
  pub script : TakesFront MOST_SCRIPT script_old script_new
  pub cert : TakesFront MOST_CERT cert_old cert_new

-- what a run has left of both sources
abbrev pub TakesTexts : Option (List ℕ) → Option (List ℕ) → Option (List ℕ) → Option (List ℕ) → Ended → Type 0
TakesTexts so sn co cn (e.Told finding) = ReadBoth so sn co cn
TakesTexts so sn co cn e.WriteFault = ReadBoth so sn co cn
TakesTexts so sn co cn e.Memory = TakesBoth so sn co cn
TakesTexts so sn co cn e.ReadFault = TakesBoth so sn co cn
TakesTexts so sn co cn e.Usage = ⊥

-- the usage line
abbrev pub usage_line : List ℕ
usage_line = codes "usage: taccheck SCRIPT\n"

-- what a run with other words writes
abbrev pub Misused : Option (List ℕ) → Option (List ℕ) → Option ℕ → Ended → Type 0
Misused old new flushed e.Usage = Wrote usage_line old new flushed
Misused old new flushed e.WriteFault = AppendsFront old new usage_line
Misused old new flushed (e.Told finding) = ⊥
Misused old new flushed e.Memory = ⊥
Misused old new flushed e.ReadFault = ⊥
