-- What a command that was read keeps: an asserted term is a formula of bounded depth, asked terms stand in the bytes, a declared name is
-- new and has a lawful text, and there are as many levels as a command opens or closes.
use Rattle.std.specs.Prelude.{◌≡◌, ◌≤◌, ⊤, ℕ, ◌+◌, ◌-◌, List, [], ◌∷◌, length, All, None}
use Rattle.qterm.specs.declared.name.Sort.TheVariants as sort
use Rattle.qterm.specs.Tree.{sort_of}
use Rattle.qterm.specs.Name.{IsNameText}
use Rattle.smt_words.specs.Command.{CommandTree, Declare, Assert, GetValue, Push, Pop, ResetAssertions, AskedTree, PlacedTree}
use Rattle.smt_names.specs.Table.{Symbol, meaning_of}
use Rattle.tac_cert.specs.Depth.{depth}
use Rattle.smt_command.specs.Reading.{most_levels}
use Rattle.smt_command.specs.Limits.{most_depth}

-- the command is lawful where so many levels are open
abbrev pub IsLawful : ℕ → CommandTree → Type 0
IsLawful levels (Declare name) = IsNameText name.text
IsLawful levels (Assert t) = sort_of t ≡ sort.Bool
IsLawful levels (Push n) = levels + n ≤ most_levels
IsLawful levels (Pop n) = n ≤ levels
IsLawful levels other = ⊤

-- an asked term stands in the bytes
abbrev pub IsSpan : List ℕ → AskedTree → Type 0
IsSpan bytes a = (a.start ≤ a.end) × (a.end ≤ length bytes)

-- the asked terms of a command stand in the bytes
abbrev pub AreSpans : List ℕ → CommandTree → Type 0
AreSpans bytes (GetValue asked) = All (IsSpan bytes) asked
AreSpans bytes other = ⊤

-- an asserted term is no deeper than may be
abbrev pub IsShallow : CommandTree → Type 0
IsShallow (Assert t) = depth t ≤ most_depth
IsShallow other = ⊤

-- how many levels are open behind a command
abbrev pub levels_after : ℕ → CommandTree → ℕ
levels_after levels (Push n) = levels + n
levels_after levels (Pop n) = levels - n
levels_after levels ResetAssertions = 0
levels_after levels other = levels

-- each command that the bytes spell is lawful behind those before it
unfoldable pub AreLawful : List ℕ → ℕ → List PlacedTree → Type 0
AreLawful bytes levels [] = ⊤
AreLawful bytes levels (p ∷ ps) = IsLawful levels p.command × AreSpans bytes p.command × IsShallow p.command × AreLawful bytes (levels_after levels p.command) ps

-- a declared name is none of the symbols
abbrev pub IsNew : List Symbol → CommandTree → Type 0
IsNew symbols (Declare name) = meaning_of symbols name.text ≡ None
IsNew symbols other = ⊤
