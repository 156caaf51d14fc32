-- What it means to put a text into a sink.
use Rattle.std.specs.Prelude.{ℕ, ◌+◌, ◌-◌, ◌^◌, ◌≤◌, ◌≡◌, List, [], ◌++◌, length, take, drop}
use Rattle.writer.specs.declared.count.Count.{Count}
use Rattle.writer.specs.declared.pen.Pen.{Pen}

-- a text takes no more of the room than its length, and one text after another is both
pub record SinkLaws {S : Type 0} (room : S → ℕ) (put : S → List ℕ → S) : Type 0 where
  pub left : (s : S) (t : List ℕ) → room s ≤ room (put s t) + length t
  pub both : (s : S) (t u : List ℕ) → put (put s t) u ≡ put s (t ++ u)
  pub nothing : (s : S) → put s [] ≡ s

abbrev pub count_room : Count → ℕ
count_room c = 2 ^ 64 - c.bytes

abbrev pub count_put : Count → List ℕ → Count
count_put c t = record { bytes = c.bytes + length t }

-- d with t from the place at on
abbrev pub over : List ℕ → ℕ → List ℕ → List ℕ
over d at t = take at d ++ (t ++ drop (length t) (drop at d))

abbrev pub pen_room : Pen → ℕ
pen_room p = length p.out.now + 1 - p.at

abbrev pub pen_put : Pen → List ℕ → Pen
pen_put p t = record { out = record p.out { now = over p.out.now p.at t }; at = p.at + length t }
