-- There is room for all the digits but the last, and then for the last.
use Rattle.std.proofs.Common.{arith}
use Rattle.writer.proofs.Over.{one_more, last_fits, last_done, last_place, first_fits, first_done, first_place}
use Rattle.writer.proofs.pen.+put_long.Goals as goal

pub bounds-out-at : goal.bounds-out-at
bounds-out-at t c = first_fits _ _ _ c.requires.long c.requires.room c.if-n-lt100.true

pub bounds-out-at-then-n-lt100 : goal.bounds-out-at-then-n-lt100
bounds-out-at-then-n-lt100 t c =
    let l = c.requires.long in
    let r = c.requires.room in
    let s = c.if-n-lt100.true in
    last_fits _ _ _ l r _ _ (first_done _ _ _ l r s) (first_place _ _ _ l r s)

pub returns-then-n-lt100-clause-bytes : goal.returns-then-n-lt100-clause-bytes
returns-then-n-lt100-clause-bytes t c =
    let l = c.requires.long in
    let r = c.requires.room in
    let s = c.if-n-lt100.true in
    last_done _ _ _ l r _ _ (first_done _ _ _ l r s) (first_place _ _ _ l r s)

pub returns-then-n-lt100-clause-end : goal.returns-then-n-lt100-clause-end
returns-then-n-lt100-clause-end t c =
    let e = first_place _ _ _ c.requires.long c.requires.room c.if-n-lt100.true in
    omega (arith, one_more c.args.out.now c.args.at c.args.n c.requires.long)

pub put_long-last-requires : goal.put_long-last-requires
put_long-last-requires t c =
    let e = one_more c.args.out.now c.args.at c.args.n c.requires.long in
    (omega arith, (omega arith, omega (arith, c.requires.room)))

pub bounds-out-last : goal.bounds-out-last
bounds-out-last t c = last_fits _ _ _ c.requires.long c.requires.room _ _ c.put_long-last.ensures.bytes c.put_long-last.ensures.end

pub returns-clause-bytes : goal.returns-clause-bytes
returns-clause-bytes t c = last_done _ _ _ c.requires.long c.requires.room _ _ c.put_long-last.ensures.bytes c.put_long-last.ensures.end

pub returns-clause-end : goal.returns-clause-end
returns-clause-end t c = last_place _ _ _ c.requires.long c.requires.room _ _ c.put_long-last.ensures.bytes c.put_long-last.ensures.end
