-- The race machine: which places may act, and what each step changes of the races and of the count of lemmas.
use Rattle.std.specs.Option.{option_and_then}
use Rattle.std.specs.Prelude.{ℕ, zero, suc, ◌+◌, Bool, true, false, cond, eqb, ltb, List, [], ◌∷◌, ◌++◌, length, replicate, slice_get, set, Option, Some, None}
use Rattle.race_core.specs.declared.machine.Place.{Place}
use Rattle.race_core.specs.declared.machine.Place.TheVariants.{Root, At}
use Rattle.race_core.specs.declared.machine.BranchState.{BranchState}
use Rattle.race_core.specs.declared.machine.BranchState.TheVariants.{Running, Won, Lost, Failed, Cancelled}
use Rattle.race_core.specs.declared.machine.Race.{Race}
use Rattle.race_core.specs.declared.machine.RaceState.{RaceState}
use Rattle.race_core.specs.declared.machine.RaceKind.{RaceKind}
use Rattle.race_core.specs.declared.machine.RaceKind.TheVariants.{Begin, Poll, Win, Fail, Draw, Collect}
use Rattle.race_core.specs.declared.machine.RaceStep.{RaceStep}

-- the race of that number; they are counted from 1
abbrev pub race_at : List Race → ℕ → Option Race
race_at races zero = None
race_at races (suc k) = slice_get races k

-- a race's parent; the root where there is no such race
abbrev pub parent_of : Option Race → Place
parent_of None = Root
parent_of (Some x) = x.parent

-- a race's word; 0 where there is no such race
abbrev pub word_of : Option Race → ℕ
word_of None = 0
word_of (Some x) = x.word

-- how a branch of a race stands
abbrev pub branch_of : Option Race → ℕ → Option BranchState
branch_of None b = None
branch_of (Some x) b = slice_get x.branches b

-- the walk goes down the numbers from n on, from the place to the parent of its race
abbrev pub walk : ℕ → List Race → Place → ℕ → Option ℕ
walk zero races p q = None
walk (suc k) races Root q = None
walk (suc k) races (At r b) q = cond (eqb r (suc k)) (cond (eqb r q) (Some b) (walk k races (parent_of (slice_get races k)) q)) (walk k races (At r b) q)

-- the branch of race q on the chain of a place, if the chain goes through q
abbrev pub chain_branch : List Race → Place → ℕ → Option ℕ
chain_branch races Root q = None
chain_branch races (At r b) q = walk r races (At r b) q

-- Running or cancelled
abbrev pub still_acts : Option BranchState → Bool
still_acts (Some Running) = true
still_acts (Some (Cancelled q w)) = true
still_acts _ = false

-- the root may act, and a branch that runs or was cancelled
abbrev pub may_act : List Race → Place → Bool
may_act races Root = true
may_act races (At r b) = still_acts (branch_of (race_at races r) b)

-- Running
abbrev pub is_running : BranchState → Bool
is_running Running = true
is_running _ = false

-- one of them is Running
abbrev pub any_running : List BranchState → Bool
any_running [] = false
any_running (x ∷ xs) = cond (is_running x) true (any_running xs)

-- the same place
abbrev pub is_at : Place → Place → Bool
is_at Root Root = true
is_at (At r b) (At q c) = cond (eqb r q) (eqb b c) false
is_at _ _ = false

-- the race with one branch in a new state, and perhaps a new word
abbrev pub with_branch : Race → ℕ → ℕ → BranchState → Race
with_branch x word b v = record { parent = x.parent; word = word; branches = set x.branches b v }

-- branch b of race r gets the state v, and the race the word
abbrev pub mark : List Race → ℕ → Option Race → ℕ → ℕ → BranchState → List Race
mark races r None word b v = races
mark races zero (Some x) word b v = races
mark races (suc k) (Some x) word b v = set races k (with_branch x word b v)

-- the state with other races
abbrev pub with_races : RaceState → List Race → RaceState
with_races s races = record { races = races; lemmas = s.lemmas; pool = s.pool }

-- adds a race with the next number, at most 4,095, with the actor as parent, the word 0 and n branches Running
abbrev pub begin : RaceState → Place → ℕ → Option RaceState
begin s actor n = cond (may_act s.races actor)
    (cond (ltb (length s.races) 4095) (Some (with_races s (s.races ++ record { parent = actor; word = 0; branches = replicate n Running } ∷ []))) None) None

-- a branch that runs is cancelled by winner w of race q
abbrev pub seen : List Race → ℕ → ℕ → ℕ → ℕ → Option BranchState → List Race
seen races r b q w (Some Running) = mark races r (race_at races r) (word_of (race_at races r)) b (Cancelled q w)
seen races r b q w _ = races

-- what the actor, whose own branch of race q is c, makes of the word
abbrev pub polled : List Race → Place → ℕ → ℕ → ℕ → List Race
polled races Root q word c = races
polled races (At r b) q zero c = races
polled races (At r b) q (suc w) c = cond (eqb w c) races (seen races r b q w (branch_of (race_at races r) b))

-- a poll of a race on the chain
abbrev pub poll_on : RaceState → Place → ℕ → Option ℕ → Option RaceState
poll_on s actor q None = None
poll_on s actor q (Some c) = Some (with_races s (polled s.races actor q (word_of (race_at s.races q)) c))

-- the actor is Cancelled where the word of the race names another branch than the chain's
abbrev pub poll : RaceState → Place → ℕ → Option RaceState
poll s actor q = cond (may_act s.races actor) (poll_on s actor q (chain_branch s.races actor q)) None

-- the branch is Won where its race's word is 0, which becomes its number plus 1, and else Lost
abbrev pub won : List Race → ℕ → ℕ → ℕ → List Race
won races r b zero = mark races r (race_at races r) (b + 1) b Won
won races r b (suc w) = mark races r (race_at races r) (w + 1) b Lost

-- the actor is a branch, which wins or loses
abbrev pub win : RaceState → Place → Option RaceState
win s Root = None
win s (At r b) = cond (may_act s.races (At r b)) (Some (with_races s (won s.races r b (word_of (race_at s.races r))))) None

-- the branch, which ends without a win, is Failed
abbrev pub fail : RaceState → Place → Option RaceState
fail s Root = None
fail s (At r b) = cond (may_act s.races (At r b)) (Some (with_races s (mark s.races r (race_at s.races r) (word_of (race_at s.races r)) b Failed))) None

-- the count rises by one
abbrev pub draw : RaceState → Place → Option RaceState
draw s actor = cond (may_act s.races actor) (Some (record { races = s.races; lemmas = s.lemmas + 1; pool = s.pool })) None

-- the actor is the race's parent, and no branch of it runs; no change
abbrev pub collect : RaceState → Place → Option Race → Option RaceState
collect s actor None = None
collect s actor (Some x) = cond (is_at x.parent actor) (cond (any_running x.branches) None (Some s)) None

-- a step of that kind
abbrev pub step_of : RaceState → RaceKind → Place → ℕ → ℕ → Option RaceState
step_of s Begin actor race branch = begin s actor branch
step_of s Poll actor race branch = poll s actor race
step_of s Win actor race branch = win s actor
step_of s Fail actor race branch = fail s actor
step_of s Draw actor race branch = draw s actor
step_of s Collect actor race branch = collect s actor (race_at s.races race)

-- the state after a step, or nothing where the machine has no such step
abbrev pub step : RaceState → RaceStep → Option RaceState
step s x = step_of s x.kind x.actor x.race x.branch

-- the state after all steps
abbrev pub run : RaceState → List RaceStep → Option RaceState
run s [] = Some s
run s (x ∷ xs) = option_and_then (λ t. run t xs) (step s x)

-- the state, if the step was taken
abbrev pub taken : Bool → RaceState → Option RaceState
taken true s = Some s
taken false s = None

-- no race, no lemma
abbrev pub start : ℕ → RaceState
start pool = record { races = []; lemmas = 0; pool = pool }
