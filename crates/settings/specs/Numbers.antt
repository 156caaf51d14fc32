-- Document 01's numbers of machines and refusals, for each case of the code's enums.
use Rattle.std.specs.Prelude.{ℕ, ◌≡◌, false, List, Result, Ok, Err, Option, Some, None}
use Rattle.rules.specs.Machines.{numbered, named, known}
use Rattle.settings.specs.declared.algo.Algo.{Algo}
use Rattle.settings.specs.declared.algo.Algo.TheVariants as algo
use Rattle.settings.specs.declared.refusal.Refusal.{Refusal}
use Rattle.settings.specs.declared.refusal.Refusal.TheVariants as refusal

abbrev pub algo_number : Algo → ℕ
algo_number algo.Ticket = 1
algo_number algo.Mcs = 2
algo_number algo.Central = 3
algo_number algo.Dissem = 4
algo_number algo.Tree = 5

-- as it stands in the file
unfoldable pub algo_name : Algo → List ℕ
algo_name a = (numbered (algo_number a)).name

abbrev pub refusal_number : Refusal → ℕ
refusal_number refusal.Malformed = 1
refusal_number refusal.Unknown = 2
refusal_number refusal.Outside = 3
refusal_number refusal.Stray = 4
refusal_number refusal.TooMany = 5
refusal_number refusal.TooShort = 6

-- the machine with this number; or there is none
abbrev pub Numbered : ℕ → Result Algo Refusal → Type 0
Numbered n (Ok a) = n ≡ algo_number a
Numbered n (Err r) = (r ≡ refusal.Unknown) × (known (numbered n) ≡ false)

-- the machine of this name; or there is none
abbrev pub Named : List ℕ → Option Algo → Type 0
Named name (Some a) = (named name).number ≡ algo_number a
Named name None = (named name).number ≡ 0
