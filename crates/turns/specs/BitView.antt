-- The bits of a word, as a memory.
use Rattle.std.specs.Prelude.{ℕ, ◌/◌, ◌%◌, ◌^◌}

unfoldable pub bits : ℕ → ℕ → ℕ
bits word v = word / 2 ^ v % 2
