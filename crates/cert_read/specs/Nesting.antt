-- How deep splits stand in one another.
use Rattle.std.specs.Prelude.{◌≡◌, ℕ, zero, suc, List, [], ◌∷◌, All}
use Rattle.tac_cert.specs.declared.cert.Proof.{Proof, out-Proof}
use Rattle.tac_cert.specs.declared.cert.Close.{out-Close}
use Rattle.tac_cert.specs.declared.cert.Close.TheOpen.{Close-F}
use Rattle.tac_cert.specs.Accepts.{Closing, most_splits}
use Rattle.cert_read.specs.declared.nest.Split.{Split}

-- a closing line without a split
abbrev pub HasNoSplit : Closing → Type 0
HasNoSplit (Close-F.False i) = Unit {0}
HasNoSplit (Close-F.Split i cases) = ⊥

-- a closing line whose cases have P
abbrev pub ClosesOver : (Proof → Type 0) → Closing → Type 0
ClosesOver P (Close-F.False i) = Unit {0}
ClosesOver P (Close-F.Split i cases) = All P cases

-- at most that many splits of a proof stand one in another
unfoldable pub Nests : ℕ → Proof → Type 0
Nests zero p = HasNoSplit (out-Close (out-Proof p).close)
Nests (suc left) p = ClosesOver (Nests left) (out-Close (out-Proof p).close)

-- splits that are open, the outermost first, where `left` may stand one in another and `room` more than these: the cases of
-- each that are there nest in what it leaves
unfoldable pub AreOpen : ℕ → List Split → ℕ → Type 0
AreOpen left [] room = left ≡ room
AreOpen zero (s ∷ ss) room = ⊥
AreOpen (suc left) (s ∷ ss) room = All (Nests left) s.cases × AreOpen left ss room

-- the same for a whole proof
abbrev pub IsOpen : List Split → Type 0
IsOpen ss = (room : ℕ) × AreOpen most_splits ss room
