-- Every bound of document 01, each under one name.
use Rattle.std.specs.Prelude.{ℕ}

-- ---- 'The file': values

abbrev pub most_procs : ℕ
most_procs = 64

abbrev pub most_ticket : ℕ
most_ticket = 65535

abbrev pub most_budget : ℕ
most_budget = 16384

abbrev pub most_rounds : ℕ
most_rounds = 1000

abbrev pub most_hold : ℕ
most_hold = 255

abbrev pub most_turns : ℕ
most_turns = 16384

-- ---- 'The file': bytes

abbrev pub most_letters : ℕ
most_letters = 8

-- of a number that is read: one of six to nine digits is out of every range (document 02, Ask 4)
abbrev pub most_digits : ℕ
most_digits = 9

-- the longest accepted file
abbrev pub longest_file : ℕ
longest_file = 50036
