-- What a run, the counting of a turn, the kind of a processor's next turn, the end of a step, and a word with a bit changed are to be: the promises leave no choice.
use Rattle.std.proofs.Common.{◌≡◌, Result, Ok, Err, refl, sym, ap, ap₂, ◌∙◌, false, true≢false, ◌&&◌, List, [], ◌∷◌, ℕ, zero, suc, ◌+◌, ◌*◌, ◌/◌, ◌%◌, ◌^◌, ◌≤◌, ◌<◌, arith, eq-eqb, eqb, length, get_or, Bool, true, ltb, lt-ltb, le-ltb}
use native.Mathlib.Decide.{dec_lt}
use mathlib.Core.Path.{fun_ext}
use native.Mathlib.Nat.{pow-succ', div-div-eq-div-mul}
use Rattle.rules.specs.Settings.{Settings}
use Rattle.rules.specs.Memory.{pick}
use Rattle.rules.specs.Step.{number, event, code, Machine}
use Rattle.rules.specs.Course as rules
use Rattle.rules.specs.Tally.{Tally}
use Rattle.rules.proofs.Turned.{Told}
use Rattle.rules.proofs.Views.{column, view}
use Rattle.turns.specs.declared.course.Course.{Course}
use Rattle.turns.specs.declared.course.Due.{Due}
use Rattle.turns.specs.declared.course.Due.TheVariants.{Hold, Idle, Step}
use Rattle.turns.specs.declared.made.Made.{Made}
use Rattle.turns.specs.declared.made.Went.{Went}
use Rattle.turns.specs.declared.made.Went.TheVariants.{Spun, Idled, Over, On}
use Rattle.turns.specs.declared.played.Played.{Played}
use Rattle.turns.specs.declared.played.Stop.{Stop}
use Rattle.turns.specs.declared.played.Stop.TheVariants.{UsedUp, Budget}
use Rattle.turns.specs.declared.says.Kind.{Kind}
use Rattle.turns.specs.declared.says.Kind.TheVariants.{Join, Grant, Release, Arrive, Leave}
use Rattle.turns.specs.declared.says.UnknownKind.{UnknownKind}
use Rattle.turns.specs.declared.says.Says.{Says}
use Rattle.turns.specs.declared.says.Says.TheVariants.{Nothing, One, Two}
use Rattle.turns.specs.BitView.{bits}
use Rattle.turns.specs.Saying.{kind_of, Numbered}
use Rattle.turns.specs.Stopping.{stop_number}
use Rattle.turns.specs.View.{holds, steps, lefts, course_of, Dues, is_spun, is_idled, is_over, codes_of, told_of}
use Rattle.turns.specs.CountView.{numbers, done_of, tally_of, Counted, Noted}
use Rattle.turns.specs.PlayView.{PlayedIs}

-- rows of one length that agree at every place are equal, whatever stands for what is past the end
same_row : (z : ℕ) (a b : List ℕ) → length a ≡ length b → ((i : ℕ) → get_or a i z ≡ get_or b i z) → a ≡ b
same_row z [] [] n f = refl
same_row z [] (y ∷ b) n f = absurd (omega (arith, n))
same_row z (x ∷ a) [] n f = absurd (omega (arith, n))
same_row z (x ∷ a) (y ∷ b) n f = ap₂ ◌∷◌ (f 0) (same_row z a b (omega (arith, n)) (λ i. f (suc i)))

-- a row of six numbers for each processor is its columns
same_sums : (a b : List ℕ) (t u : ℕ) → length a ≡ length b → done_of a ≡ done_of b → tally_of a t ≡ tally_of b u → a ≡ b
unfolding column
same_sums a b t u n d e = same_row 0 a b n at
  where
    of : (j o : ℕ) → j < numbers → get_or a (o * numbers + j) 0 ≡ get_or b (o * numbers + j) 0
    of zero o h = ap (λ (f : ℕ → ℕ). f o) d
    of (suc zero) o h = ap (λ (x : Tally). x.far o) e
    of (suc (suc zero)) o h = ap (λ (x : Tally). x.most o) e
    of (suc (suc (suc zero))) o h = ap (λ (x : Tally). x.here o) e
    of (suc (suc (suc (suc zero)))) o h = ap (λ (x : Tally). x.spins o) e
    of (suc (suc (suc (suc (suc zero))))) o h = ap (λ (x : Tally). x.idle o) e
    of (suc (suc (suc (suc (suc (suc j)))))) o h = absurd (omega arith)

    at : (i : ℕ) → get_or a i 0 ≡ get_or b i 0
    at i =
        let whole : i / numbers * numbers + i % numbers ≡ i = omega arith in
        rw whole at (of (i % numbers) (i / numbers) (omega arith))

-- ---- `play`

same_stop : (a b : Stop) → stop_number a ≡ stop_number b → a ≡ b
same_stop UsedUp UsedUp e = refl
same_stop UsedUp Budget e = absurd (omega (arith, e))
same_stop Budget UsedUp e = absurd (omega (arith, e))
same_stop Budget Budget e = refl

pub one_outcome : (m : Machine) (s : Settings) (turns events events₁ events₂ : List ℕ) (p q : Played) → length p.sums ≡ length q.sums
    → PlayedIs m s turns events events₁ p → PlayedIs m s turns events events₂ q → (p ≡ q) × (events₁ ≡ events₂)
one_outcome m s turns events events₁ events₂ p q n a b =
    let tally : tally_of p.sums p.total ≡ tally_of q.sums q.total = a.tally ∙ sym b.tally in
    let sums : p.sums ≡ q.sums = same_sums p.sums q.sums p.total q.total n (a.done ∙ sym b.done) tally in
    let total : p.total ≡ q.total = ap (λ (x : Tally). x.total) tally in
    let stop : p.stop ≡ q.stop = same_stop p.stop q.stop (a.stop ∙ sym b.stop) in
    let taken : p.taken ≡ q.taken = a.taken ∙ sym b.taken in
    let count : p.events ≡ q.events = a.events ∙ sym b.events in
    (rw (stop, taken, count, total, sums) refl, a.row ∙ sym b.row)

-- ---- `tell`

pub one_tell : (w : ℕ) (d : Told) (a b c events events₁ events₂ : List ℕ) (n r q : ℕ) → length b ≡ length c → Counted w d a b → Counted w d a c
    → Noted events n d.codes events₁ r → Noted events n d.codes events₂ q → (b ≡ c) × (events₁ ≡ events₂) × (r ≡ q)
one_tell w d a b c events events₁ events₂ n r q same x y e f =
    (same_sums b c _ _ same (x.done ∙ sym y.done) (x.tally 0 ∙ sym (y.tally 0)), e.row ∙ sym f.row, e.place ∙ sym f.place)

-- ---- `due`

-- a processor with passages left at step 1 is not idle
not_idle : (c : rules.Course) (i rounds k : ℕ) → c.at i ≡ 1 → c.done i ≡ rounds → c.at i ≡ k → (eqb k 1 && eqb (c.done i) rounds) ≡ false → ⊥
not_idle c i rounds k one all at some =
    true≢false (sym (rw (eq-eqb k 1 (sym at ∙ one), eq-eqb (c.done i) rounds all) refl) ∙ some)

pub one_due : (c : rules.Course) (i rounds : ℕ) (r q : Due) → Dues c i rounds r → Dues c i rounds q → r ≡ q
one_due c i rounds Hold Hold x y = refl
one_due c i rounds Hold Idle x y = absurd (omega (arith, x, y.0))
one_due c i rounds Hold (Step k) x y = absurd (omega (arith, x, y.0))
one_due c i rounds Idle Hold x y = absurd (omega (arith, x.0, y))
one_due c i rounds Idle Idle x y = refl
one_due c i rounds Idle (Step k) x y = absurd (not_idle c i rounds k x.1 x.2 y.1 y.2)
one_due c i rounds (Step k) Hold x y = absurd (omega (arith, x.0, y))
one_due c i rounds (Step k) Idle x y = absurd (not_idle c i rounds k y.1 y.2 x.1 x.2)
one_due c i rounds (Step k) (Step j) x y = ap Step (sym x.1 ∙ y.1)

-- ---- `to`, `again`, `stay` and `over`: the memory is said whole; what is told of the step, and the course but for numbers that nothing reads

abbrev went_of : Bool → Bool → Bool → Went
went_of true i o = Spun
went_of false true o = Idled
went_of false false true = Over
went_of false false false = On

went_back : (w : Went) → went_of (is_spun w) (is_idled w) (is_over w) ≡ w
went_back Spun = refl
went_back Idled = refl
went_back Over = refl
went_back On = refl

kind_at : ℕ → Kind
kind_at zero = Join
kind_at (suc zero) = Join
kind_at (suc (suc zero)) = Grant
kind_at (suc (suc (suc zero))) = Release
kind_at (suc (suc (suc (suc zero)))) = Arrive
kind_at (suc (suc (suc (suc (suc n))))) = Leave

kind_back : (k : Kind) → kind_at (number (kind_of k)) ≡ k
unfolding kind_at
kind_back Join = refl
kind_back Grant = refl
kind_back Release = refl
kind_back Arrive = refl
kind_back Leave = refl

kind_small : (k : Kind) → number (kind_of k) < 6
kind_small Join = omega arith
kind_small Grant = omega arith
kind_small Release = omega arith
kind_small Arrive = omega arith
kind_small Leave = omega arith

kind_some : (k : Kind) → 0 < number (kind_of k)
kind_some Join = omega arith
kind_some Grant = omega arith
kind_some Release = omega arith
kind_some Arrive = omega arith
kind_some Leave = omega arith

-- the kind of a number
pub one_kind : (n : ℕ) (r q : Result Kind UnknownKind) → Numbered n r → Numbered n q → r ≡ q
one_kind n (Ok k) (Ok l) x y = ap Ok (sym (kind_back k) ∙ ap kind_at (sym x ∙ y) ∙ kind_back l)
one_kind n (Ok k) (Err e) x y = absurd (omega (arith, x, kind_small k, y.1 (rw x (kind_some k))))
one_kind n (Err e) (Ok k) x y = absurd (omega (arith, y, kind_small k, x.1 (rw y (kind_some k))))
one_kind n (Err e) (Err f) x y = λ i. Err (record { 0 = (x.0 ∙ sym y.0) i })

same_kind : (w : ℕ) (k l : Kind) → code (event (kind_of k) w) ≡ code (event (kind_of l) w) → k ≡ l
same_kind w k l e = sym (kind_back k) ∙ ap kind_at (omega (arith, e)) ∙ kind_back l

head : List ℕ → ℕ
head [] = 0
head (x ∷ l) = x

second : List ℕ → ℕ
second [] = 0
second (x ∷ l) = head l

one_says : (w : ℕ) (a b : Says) → codes_of w a ≡ codes_of w b → a ≡ b
unfolding head second
one_says w Nothing Nothing e = refl
one_says w Nothing (One k) e = absurd (omega (arith, ap length e))
one_says w Nothing (Two k l) e = absurd (omega (arith, ap length e))
one_says w (One k) Nothing e = absurd (omega (arith, ap length e))
one_says w (One k) (One p) e = ap One (same_kind w k p (ap head e))
one_says w (One k) (Two p q) e = absurd (omega (arith, ap length e))
one_says w (Two k l) Nothing e = absurd (omega (arith, ap length e))
one_says w (Two k l) (One p) e = absurd (omega (arith, ap length e))
one_says w (Two k l) (Two p q) e = ap₂ Two (same_kind w k p (ap head e)) (same_kind w l q (ap second e))

pub one_made : (w : ℕ) (p q : Made) → told_of w p ≡ told_of w q → p.owner ≡ q.owner → p ≡ q
one_made w p q e o =
    let says : p.says ≡ q.says = one_says w p.says q.says (ap (λ (z : Told). z.codes) e) in
    let began : p.began ≡ q.began = ap (λ (z : Told). z.began) e in
    let went : went_of (is_spun p.went) (is_idled p.went) (is_over p.went) ≡ went_of (is_spun q.went) (is_idled q.went) (is_over q.went) = ap (λ (z : Told). went_of z.spin z.idle z.done) e in
    let same : p.went ≡ q.went = sym (went_back p.went) ∙ went ∙ went_back q.went in
    rw (o, says, began, same) refl

-- of the hold turns that are left only those where some come first; and nothing of gap
pub record SameRows (a b : Course) : Type 0 where
  pub done : a.done ≡ b.done
  pub at : a.at ≡ b.at
  pub left : (i : ℕ) → holds ≤ get_or a.at i 1 → get_or a.left i 0 ≡ get_or b.left i 0

same_place : (x y u v : ℕ) → x < 256 → y < 256 → x % holds ≡ y % holds → pick (ltb x holds) 0 (u + 1) ≡ pick (ltb y holds) 0 (v + 1)
    → (x ≡ y) × (holds ≤ x → u ≡ v)
same_place x y u v f g e l = go (dec_lt x holds) (dec_lt y holds)
  where
    go : Dec (x < holds) → Dec (y < holds) → (x ≡ y) × (holds ≤ x → u ≡ v)
    go (yes a) (yes b) = (omega arith, λ h. absurd (omega arith))
    go (yes a) (no b) = absurd (omega (arith, rw (lt-ltb x holds a, le-ltb y holds (omega arith)) at l))
    go (no a) (yes b) = absurd (omega (arith, rw (le-ltb x holds (omega arith), lt-ltb y holds b) at l))
    go (no a) (no b) = (omega arith, λ h. omega (arith, rw (le-ltb x holds (omega arith), le-ltb y holds (omega arith)) at l))

-- a number of the rows has 8 bits
pub one_course : (a b : Course) → length a.done ≡ length b.done → length a.at ≡ length b.at → ((i : ℕ) → get_or a.at i 1 < 256) → ((i : ℕ) → get_or b.at i 1 < 256)
    → course_of a ≡ course_of b → SameRows a b
unfolding steps lefts view
one_course a b m n f g e =
    let at : (i : ℕ) → steps a.at i ≡ steps b.at i = λ i. ap (λ (z : rules.Course). z.at i) e in
    let left : (i : ℕ) → lefts a.at a.left i ≡ lefts b.at b.left i = λ i. ap (λ (z : rules.Course). z.left i) e in
    let same = λ (i : ℕ). same_place (get_or a.at i 1) (get_or b.at i 1) (get_or a.left i 0) (get_or b.left i 0) (f i) (g i) (at i) (left i) in
    record { done = same_row 0 a.done b.done m (λ i. ap (λ (z : rules.Course). z.done i) e); at = same_row 1 a.at b.at n (λ i. (same i).0); left = λ i. (same i).1 }

-- ---- `with_bit`

-- the bits of half a word are those of the word from 1 on
half : (word v : ℕ) → bits (word / 2) v ≡ bits word (suc v)
unfolding bits
half word v = ap (λ (n : ℕ). n % 2) (div-div-eq-div-mul word 2 (2 ^ v) ∙ ap (λ (n : ℕ). word / n) (sym (pow-succ' 2 v)))

-- words with the same bits are equal
pub one_word : (a b : ℕ) → bits a ≡ bits b → a ≡ b
unfolding bits
one_word a b = go (a + b) a b (omega arith)
  where
    go : (n a b : ℕ) → a + b ≤ n → bits a ≡ bits b → a ≡ b
    go zero a b h e = omega arith
    go (suc n) a b h e =
        let low : a / 1 % 2 ≡ b / 1 % 2 = ap (λ (f : ℕ → ℕ). f 0) e in
        let high : a / 2 ≡ b / 2 = go n (a / 2) (b / 2) (omega arith) (fun_ext (λ v. half a v ∙ ap (λ (f : ℕ → ℕ). f (suc v)) e ∙ sym (half b v))) in
        omega arith
