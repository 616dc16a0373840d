-- What a seat of the race table knows, as lists of the branches that it has and of the words that it loaded, and how each step of the table changes it.
use Rattle.std.specs.Option.{option_or}
use Rattle.std.specs.Prelude.{ℕ, zero, suc, ◌+◌, ◌-◌, Bool, true, false, cond, not, ◌||◌, eqb, ltb, leb, max, List, [], ◌∷◌, ◌++◌, Some, None}
use Rattle.race_word.specs.declared.view.Held.{Held}
use Rattle.race_word.specs.declared.view.Note.{Note}
use Rattle.race_word.specs.declared.view.View.{View}

-- 1 for true, 0 for false
abbrev pub bit : Bool → ℕ
bit true = 1
bit false = 0

-- both true or both false
abbrev pub same_bool : Bool → Bool → Bool
same_bool true b = b
same_bool false true = false
same_bool false false = true

-- a branch of a race, of how many, and whether the seat has its win
abbrev pub held : ℕ → ℕ → ℕ → Bool → Held
held r n b w = record { race = r; of = n; branch = b; won = w }

-- the same race, number of branches, branch and win
abbrev pub is : Held → Held → Bool
is t p = cond (eqb t.race p.race) (cond (eqb t.of p.of) (cond (eqb t.branch p.branch) (same_bool t.won p.won) false) false) false

-- how often t is in the list
abbrev pub count : Held → List Held → ℕ
count t [] = 0
count t (p ∷ ps) = bit (is t p) + count t ps

-- how many branches of the race
abbrev pub of_race : ℕ → List Held → ℕ
of_race r [] = 0
of_race r (p ∷ ps) = bit (eqb r p.race) + of_race r ps

-- the branches below k of race r, which has n
abbrev pub fresh : ℕ → ℕ → ℕ → List Held
fresh r n zero = []
fresh r n (suc k) = held r n k false ∷ fresh r n k

-- those that pass the test
abbrev pub keep : (Held → Bool) → List Held → List Held
keep p [] = []
keep p (x ∷ xs) = cond (p x) (x ∷ keep p xs) (keep p xs)

-- that branch of that race
abbrev pub is_branch : ℕ → ℕ → Held → Bool
is_branch r b p = cond (eqb r p.race) (eqb b p.branch) false

-- the branch of the race gets the win; another is as it was
abbrev pub crown_one : ℕ → ℕ → Held → Held
crown_one r b p = held p.race p.of p.branch (cond (is_branch r b p) true p.won)

-- the same for each of the list
abbrev pub crown : ℕ → ℕ → List Held → List Held
crown r b [] = []
crown r b (p ∷ ps) = crown_one r b p ∷ crown r b ps

-- the branches of race r from mid on go
abbrev pub goes : ℕ → ℕ → Held → Bool
goes r mid p = cond (eqb r p.race) (leb mid p.branch) false

-- a word of a race
abbrev pub note : ℕ → ℕ → Note
note r w = record { race = r; word = w }

-- a seat with all workers, which has done nothing
abbrev pub newcomer : ℕ → ℕ → View
newcomer pool workers = record { workers = workers; parts = []; seen = []; races = 0; polls = 0; draws = 0; refused = false; end = None; top = 0; pool = pool }

-- a number is drawn: below 4,095 the seat gets all branches of the race of the next number, and else the mark
abbrev pub after_open : ℕ → ℕ → View → View
after_open n found v = cond (ltb found 4095) (record v { races = v.races + 1; parts = fresh (found + 1) n n ++ v.parts }) (record v { races = v.races + 1; refused = true })

-- the word of the race is noted
abbrev pub after_collect : ℕ → ℕ → View → View
after_collect r found v = record v { seen = note r found ∷ v.seen }

-- the word of the race is noted, and the poll counted
abbrev pub after_poll : ℕ → ℕ → View → View
after_poll r found v = record v { seen = note r found ∷ v.seen; polls = v.polls + 1 }

-- the word was 0, and the seat has the win, or it named a winner, which is noted
abbrev pub after_win : ℕ → ℕ → ℕ → View → View
after_win r b zero v = record v { parts = crown r b v.parts }
after_win r b (suc w) v = record v { seen = note r (suc w) ∷ v.seen }

-- the ticket is counted, the top is one more, and a ticket past the pool is noted as its end
abbrev pub after_draw : ℕ → View → View
after_draw found v = record v { draws = v.draws + 1; top = found + 1; end = cond (ltb found v.pool) v.end (Some found) }

-- what stays at a split: the other branches and workers, and all counts
abbrev pub stays_with : ℕ → ℕ → ℕ → View → View
stays_with r mid workers v = record v { workers = v.workers - workers; parts = keep (λ p. not (goes r mid p)) v.parts }

-- what goes: the branches of the race from mid on, each with its win, so many workers, and no counts
abbrev pub goes_with : ℕ → ℕ → ℕ → View → View
goes_with r mid workers v = record v { workers = workers; parts = keep (goes r mid) v.parts; races = 0; polls = 0; draws = 0 }

-- a seat that took in another: both have their branches, workers and counts, marks are kept, of two pool ends the own, of two tops the greater
abbrev pub together : View → View → View
together v u = record {
  workers = v.workers + u.workers;
  parts = v.parts ++ u.parts;
  seen = u.seen ++ v.seen;
  races = v.races + u.races;
  polls = v.polls + u.polls;
  draws = v.draws + u.draws;
  refused = v.refused || u.refused;
  end = option_or v.end u.end;
  top = max v.top u.top;
  pool = v.pool;
}
