-- The settings file ('The file'): how it is read, and how it is written.
use Rattle.std.specs.Prelude.{ℕ, zero, suc, ◌+◌, ◌-◌, ◌/◌, ◌%◌, List, [], ◌∷◌, ◌++◌, false, ◌&&◌, eqb, leb, ltb, set}
use Rattle.rules.specs.Memory.{pick}
use Rattle.rules.specs.Bounds.{most_procs, most_ticket, most_budget, most_rounds, most_hold, most_turns}
use Rattle.rules.specs.Settings.{Settings, entry, zeros}
use Rattle.rules.specs.Machines.{bytes, known, named, numbered}
use Rattle.rules.specs.Rule.{ok, fault, Rule, ◌>>=◌, ◌>>◌, give, checked, feed, comma, lit, end, word, number}

-- ---- how a number is written

-- its digits, of which there are at most suc k
unfoldable pub decimal_in : ℕ → ℕ → List ℕ
decimal_in zero n = (48 + n) ∷ []
decimal_in (suc k) n = pick (ltb n 10) ((48 + n) ∷ []) (decimal_in k (n / 10) ++ (48 + n % 10) ∷ [])

unfoldable pub decimal : ℕ → List ℕ
decimal n = decimal_in n n

-- processor i's line starts with p, i and =
abbrev pub label : ℕ → List ℕ
label i = bytes "p" ++ decimal i ++ bytes "="

-- ---- reading

-- a known name, by its number
abbrev pub name : Rule ℕ
name = do
  w ← checked 2 (λ w. known (named w)) word
  give (named w).number

-- a number from lo to hi
abbrev pub ranged : ℕ → ℕ → ℕ → Rule ℕ
ranged separator lo hi = do
  v ← checked 3 (λ v. leb lo v.0 && leb v.0 hi) (number separator separator)
  give v.0

-- a line of a label and a number from lo to hi
abbrev pub field : List ℕ → ℕ → ℕ → Rule ℕ
field l lo hi = do
  lit l
  ranged feed lo hi

-- processor i's line: its rounds and its hold
abbrev pub entries : ℕ → Rule (ℕ × ℕ)
entries i = do
  lit (label i)
  rounds ← ranged comma 0 most_rounds
  hold ← ranged feed 0 most_hold
  give (rounds, hold)

-- the lines of k processors from i on, which set their entries of the two rows
unfoldable pub rows : ℕ → ℕ → List ℕ → List ℕ → Rule (List ℕ × List ℕ)
rows zero i rounds hold = give (rounds, hold)
rows (suc k) i rounds hold = do
  v ← entries i
  rows k (i + 1) (set rounds i v.0) (set hold i v.1)

-- the turns after those in ts: at most k more, each below procs. A comma follows, and then another; or a line feed, and it was the last
unfoldable pub items : ℕ → ℕ → List ℕ → Rule (List ℕ)
items zero procs ts = do
  checked 5 (λ v. false) (number comma feed)
  give ts
items (suc k) procs ts = do
  v ← checked 4 (λ v. ltb v.0 procs) (number comma feed)
  pick (eqb v.1 feed) (give (ts ++ v.0 ∷ [])) (items k procs (ts ++ v.0 ∷ []))

-- the turns, or nothing
unfoldable pub turns : ℕ → Rule (List ℕ)
turns procs [] at = fault 1 at
turns procs (x ∷ left) at = pick (eqb x feed) (ok [] left (at + 1)) (items most_turns procs [] (x ∷ left) at)

-- the five lines before the processors'
pub record Front : Type 0 where
  pub algo : ℕ
  pub procs : ℕ
  pub home : ℕ
  pub ticket : ℕ
  pub budget : ℕ

unfoldable pub front : Rule Front
front = do
  lit (bytes "algo=")
  algo ← name
  procs ← field (bytes "procs=") 1 most_procs
  home ← field (bytes "home=") 0 (procs - 1)
  ticket ← field (bytes "ticket=") 0 most_ticket
  budget ← field (bytes "budget=") 0 most_budget
  give (record { algo = algo; procs = procs; home = home; ticket = ticket; budget = budget })

abbrev pub settings : Front → List ℕ → List ℕ → Settings
settings f rounds hold =
    record { algo = f.algo; procs = f.procs; home = f.home; ticket = f.ticket; budget = f.budget; rounds = rounds; hold = hold }

-- the processors' lines and the turns
unfoldable pub rest : Front → Rule (Settings × List ℕ)
rest f = do
  v ← rows f.procs 0 zeros zeros
  lit (bytes "turns=")
  ts ← turns f.procs
  give (settings f v.0 v.1, ts)

-- nothing after the last line
unfoldable pub whole : Rule (Settings × List ℕ) → Rule (Settings × List ℕ)
whole r = do
  v ← r
  end
  give v

unfoldable pub file : Rule (Settings × List ℕ)
file = whole (do
  f ← front
  rest f)

-- ---- writing

abbrev pub field_text : List ℕ → ℕ → List ℕ
field_text l n = l ++ (decimal n ++ feed ∷ [])

abbrev pub entries_text : ℕ → ℕ → ℕ → List ℕ
entries_text i rounds hold = label i ++ ((decimal rounds ++ comma ∷ []) ++ (decimal hold ++ feed ∷ []))

-- the lines of k processors from i on
unfoldable pub rows_text : ℕ → ℕ → List ℕ → List ℕ → List ℕ
rows_text zero i rounds hold = []
rows_text (suc k) i rounds hold = entries_text i (entry rounds i) (entry hold i) ++ rows_text k (i + 1) rounds hold

unfoldable pub turns_text : List ℕ → List ℕ
turns_text [] = feed ∷ []
turns_text (t ∷ []) = decimal t ++ feed ∷ []
turns_text (t ∷ u ∷ ts) = (decimal t ++ comma ∷ []) ++ turns_text (u ∷ ts)

unfoldable pub text : Settings → List ℕ → List ℕ
text s ts =
    bytes "algo=" ++ (((numbered s.algo).name ++ feed ∷ [])
    ++ (field_text (bytes "procs=") s.procs
    ++ (field_text (bytes "home=") s.home
    ++ (field_text (bytes "ticket=") s.ticket
    ++ (field_text (bytes "budget=") s.budget
    ++ (rows_text s.procs 0 s.rounds s.hold
    ++ (bytes "turns=" ++ turns_text ts)))))))
