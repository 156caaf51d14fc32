-- `turns::bits::with_bit` meets its contract.
use Rattle.std.proofs.Common.{rules, arith}
use Rattle.turns.proofs.Words.{bit_kept, bit_changed}
use Rattle.turns.proofs.bits.with_bit.Goals as goal

pub returns-then-bit-value : goal.returns-then-bit-value
returns-then-bit-value c =
    search (bit_kept, rules)

pub returns : goal.returns
returns c =
    bit_changed _ _ _ (search rules) (search rules) (λ e. absurd (omega (arith, c.bit.ensures, e)))
