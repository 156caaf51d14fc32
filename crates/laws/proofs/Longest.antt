-- The longest file: none is longer, and there is one. Its bytes are counted from the bounds and the table.
use Prim.Native.Nat.{ℕ, zero, suc, ◌+◌, ◌-◌, ◌*◌, ◌<◌}
use mathlib.Core.Path.{◌≡◌, refl, ap₂, ◌∙◌}
use mathlib.Core.List.{List, [], ◌∷◌, ◌++◌}
use lib.ListN.{length, length-append, replicate, length-replicate, get_or-replicate, get_or-eq_default}
use lib.Dec.{eqb}
use native.Mathlib.Nat.{suc-mul}
use native.Mathlib.Omega.{arith}
use Rattle.rules.specs.Bounds.{most_procs, most_ticket, most_budget, most_rounds, most_hold, most_turns, longest_file}
use Rattle.rules.specs.Settings.{Settings, entry}
use Rattle.rules.specs.Machines.{table, find}
use Rattle.rules.specs.Rule.{feed, comma}
use Rattle.rules.specs.File.{decimal_in, decimal, label, entries_text, rows_text, turns_text, text}
use Rattle.rules.proofs.Accepted.{Row, Below}
use Rattle.laws.proofs.Names.{longest_name}
use Rattle.laws.proofs.RoundTrip.{body, written, Full}
use Rattle.laws.proofs.Parts.{width, width_is, front_most, entries_most, rows_most, rest_most, of_body}
use Rattle.laws.proofs.Near.{Near, near, near_turns}

-- ---- no file is longer

-- the count of document 01
most_is : front_most + rest_most ≡ longest_file
unfolding width rows_most decimal decimal_in
most_is = refl

pub near_body : Near longest_file body
near_body = near.wider (omega (arith, most_is)) (of_body near near_turns)

-- ---- there is one so long

-- the number of a line that has the longest name
abbrev longest_named : ℕ
longest_named = (find (λ l. eqb (length l.name) longest_name) table).number

abbrev last_proc : ℕ
last_proc = most_procs - 1

pub fullest : Settings
fullest = record {
  algo = longest_named;
  procs = most_procs;
  home = last_proc;
  ticket = most_ticket;
  budget = most_budget;
  rounds = replicate most_procs most_rounds;
  hold = replicate most_procs most_hold;
}

pub last_turns : List ℕ
last_turns = replicate most_turns last_proc

pub all_turns : length last_turns ≡ most_turns
unfolding last_turns
all_turns = length-replicate most_turns last_proc

same_row : (n m : ℕ) → Row n m (replicate n m)
same_row n m = record {
  fits = λ i h. omega (arith, get_or-replicate n i m 0 h);
  past = λ i h. get_or-eq_default (replicate n m) 0 (omega (arith, length-replicate n m));
}

same_below : (p n t : ℕ) → t < p → Below p (replicate n t)
same_below p zero t h = tt
same_below p (suc n) t h = (h, same_below p n t h)

pub fullest_full : Full (fullest, last_turns)
unfolding fullest last_turns
fullest_full = record {
  accepted = record {
    algo = refl;
    procs_low = omega arith;
    procs_high = omega arith;
    home = omega arith;
    ticket = omega arith;
    budget = omega arith;
    rounds = same_row most_procs most_rounds;
    hold = same_row most_procs most_hold;
    few = omega (arith, all_turns);
    turns_below = same_below most_procs most_turns last_proc (omega arith);
  };
  rounds_long = length-replicate most_procs most_rounds;
  hold_long = length-replicate most_procs most_hold;
}

lengths : (l a b : List ℕ) (x y : ℕ) → length (l ++ ((a ++ x ∷ []) ++ (b ++ y ∷ []))) ≡ length l + (length a + 1 + (length b + 1))
lengths l a b x y = simp length-append

entries_length : (i rounds hold : ℕ) → rounds ≡ most_rounds → hold ≡ most_hold → length (entries_text i rounds hold) ≡ length (label i) + entries_most
entries_length i rounds hold r h =
    lengths (label i) (decimal rounds) (decimal hold) comma feed ∙ rw (r, h, width_is most_rounds (omega arith), width_is most_hold (omega arith))

rows_length : (k i : ℕ) (rounds hold : List ℕ) → ((j : ℕ) → j < i + k → entry rounds j ≡ most_rounds) → ((j : ℕ) → j < i + k → entry hold j ≡ most_hold)
    → length (rows_text k i rounds hold) ≡ rows_most entries_most k i
unfolding rows_text rows_most
rows_length zero i rounds hold r h = refl
rows_length (suc k) i rounds hold r h =
    length-append (entries_text i (entry rounds i) (entry hold i)) (rows_text k (i + 1) rounds hold)
    ∙ ap₂ ◌+◌ (entries_length i (entry rounds i) (entry hold i) (r i (omega arith)) (h i (omega arith)))
    (rows_length k (i + 1) rounds hold (λ j l. r j (omega arith)) (λ j l. h j (omega arith)))

full_rows : (n : ℕ) → length (rows_text n 0 (replicate n most_rounds) (replicate n most_hold)) ≡ rows_most entries_most n 0
full_rows n = rows_length n 0 _ _ (λ j l. get_or-replicate n j most_rounds 0 (omega arith)) (λ j l. get_or-replicate n j most_hold 0 (omega arith))

turns_length : (n t : ℕ) → length (turns_text (replicate (suc n) t)) ≡ suc n * (length (decimal t) + 1)
unfolding turns_text
turns_length zero t = simp length-append (omega arith)
turns_length (suc n) t = simp length-append (omega (arith, turns_length n t, suc-mul (suc n) (length (decimal t) + 1)))

pub fullest_length : length (written (fullest, last_turns)) ≡ longest_file
unfolding fullest last_turns text
fullest_length =
    simp length-append (omega (
      arith,
      most_is,
      width_is most_procs (omega arith),
      width_is last_proc (omega arith),
      width_is most_ticket (omega arith),
      width_is most_budget (omega arith),
      full_rows most_procs,
      turns_length (most_turns - 1) last_proc,
    ))
